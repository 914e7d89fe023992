-- The nodes to which no edge is left are found one by one.
use Rattle.std.proofs.Common.{◌≡◌, ◌≢◌, ℕ, ◌+◌, ◌<◌, ◌≤◌, List, [], ◌∷◌, ◌++◌, replicate, ◌∙◌, sym, subst, refl, inl, inr, arith}
use Rattle.std.proofs.lemmas.Bool.{cases_eq, cases_lt}
use Rattle.std.proofs.lemmas.List.{get_or-replicate, get_or_past, length-replicate}
use Rattle.fab_rings.specs.Layers.{times, times_ready, level_of, left_of}
use Rattle.fab_rings.proofs.Times.{one_if_same, none_if_other, times_push, ready_now, ready_not_left, ready_not_taken}

pub level_at_first : (nodes b : ℕ) → b < nodes → level_of (replicate nodes 0) b ≡ 0
level_at_first nodes b low = get_or-replicate nodes b 0 1 low

module _ (nodes : ℕ) (left layer : List ℕ) (node : ℕ) (low : node < nodes) where
  abbrev AreFree : List ℕ → ℕ → Type 0
  AreFree ns m = ((b : ℕ) → b < m → times b ns ≡ times_ready (level_of (replicate nodes 0) b) (left_of left b)) × ((b : ℕ) → m ≤ b → times b ns ≡ 0)

  module _ (so_far : AreFree layer node) where
    pub free_more : left_of left node ≡ 0 → AreFree (layer ++ node ∷ []) (node + 1)
    free_more none = (
      λ b h. elim (cases_eq b node) [
        | inl same ↦ subst (λ c. times c (layer ++ node ∷ []) ≡ times_ready (level_of (replicate nodes 0) c) (left_of left c)) (sym same)
            (omega (arith, times_push node node layer, so_far.1 node (omega arith), one_if_same node node refl, ready_now (level_of (replicate nodes 0) node) (left_of left node) (level_at_first nodes node low) none))
        | inr other ↦ omega (arith, times_push b node layer, none_if_other node b (λ e. other (sym e)), so_far.0 b (omega (arith, h, other)))
      ],
      λ b h. omega (arith, times_push b node layer, none_if_other node b (λ e. absurd (omega arith)), so_far.1 b (omega arith)),
    )

    pub free_same : left_of left node ≢ 0 → AreFree layer (node + 1)
    free_same some = (
      λ b h. elim (cases_eq b node) [
        | inl same ↦ subst (λ c. times c layer ≡ times_ready (level_of (replicate nodes 0) c) (left_of left c)) (sym same)
            (omega (arith, so_far.1 node (omega arith), ready_not_left (level_of (replicate nodes 0) node) (left_of left node) (omega (arith, some))))
        | inr other ↦ so_far.0 b (omega (arith, h, other))
      ],
      λ b h. so_far.1 b (omega arith),
    )

-- past the last node none is free
pub all_free : (nodes : ℕ) (left layer : List ℕ) (m : ℕ) → nodes ≤ m → ((b : ℕ) → b < m → times b layer ≡ times_ready (level_of (replicate nodes 0) b) (left_of left b)) → ((b : ℕ) → m ≤ b → times b layer ≡ 0) →
    (b : ℕ) → times b layer ≡ times_ready (level_of (replicate nodes 0) b) (left_of left b)
all_free nodes left layer m high below above b = elim (cases_lt b m) [
  | inl low ↦ below b low
  | inr past ↦
      above b past
      ∙ sym (ready_not_taken (level_of (replicate nodes 0) b) (left_of left b) (omega (arith, get_or_past {X = ℕ} (replicate nodes 0) b 1 (omega (arith, length-replicate {A = ℕ} nodes 0)))))
]
