-- Forests lane by lane, and escape trees written switch by switch.
use Rattle.std.proofs.Common.{◌≡◌, ℕ, ◌+◌, ◌<◌, ◌⊎◌, inl, inr, List, [], ◌∷◌, ◌++◌, length, Option, Some, None, option_map, refl, sym, ◌∙◌, ap, subst, arith, length-append, get_or}
use Rattle.std.specs.Prelude.{IfSome, slice_set}
use Rattle.std.proofs.lemmas.List.{same_lists, get_or_default, get_or_append_left}
use Rattle.std.proofs.lemmas.List.FromFn.{get_or-map-range_with_len, length-map-range_with_len}
use Rattle.std.proofs.Math.Seq.{get_or-append_seam}
use Rattle.fab_model.specs.declared.rows.ChannelId.{ChannelId}
use Rattle.fab_model.specs.Topology.{Topology, channel_id}
use Rattle.fab_model.specs.WellFormed.{IsWellFormed}
use Rattle.fab_tables.specs.Trees.{next, LeavesSwitch}
use Rattle.fab_tables.specs.TreeWalks.{IsTree}
use Rattle.fab_escape.specs.Forest.{Forest, escape_next, escape_tree}
use Rattle.fab_escape.specs.Trees.{IsEscapeForest}
use Rattle.fab_escape.proofs.EscapeTrees.{escape_tree_is_tree}
use Rattle.fab_nue.specs.Forests.{forest_in, AreForests}
use Rattle.fab_nue.proofs.Searching.Growing.{read_same, read_other, same_or_other}

pub no_forests : (t : Topology) → AreForests t 0 []
no_forests t = record { each_lane = refl; right = λ lane h. absurd (omega (arith, h)) }

pub one_forest_more : (t : Topology) (n : ℕ) (forests : List Forest) (f : Forest) → AreForests t n forests → IsEscapeForest t n f → AreForests t (n + 1) (forests ++ f ∷ [])
one_forest_more t n forests f so_far is = record {
  each_lane = length-append forests (f ∷ []) ∙ ap (λ k. k + 1) so_far.each_lane;
  right = right;
}
  where
    none : Forest
    none = record { roots = []; links = [] }

    right : (lane : ℕ) → lane < n + 1 → IsEscapeForest t lane (forest_in (forests ++ f ∷ []) lane)
    right lane h = elim (same_or_other lane n) [
      | inl e ↦
          (let last : lane ≡ length forests = e ∙ sym so_far.each_lane in
          let at : forest_in (forests ++ f ∷ []) lane ≡ f = ap (λ i. forest_in (forests ++ f ∷ []) i) last ∙ get_or-append_seam forests f [] none in
          subst (λ x. IsEscapeForest t lane x) (sym at) (subst (λ k. IsEscapeForest t k f) (sym e) is))
      | inr other ↦
          (let low : lane < n = omega (arith, h, other) in
          subst (λ x. IsEscapeForest t lane x) (sym (get_or_append_left forests (f ∷ []) none lane (omega (arith, low, so_far.each_lane)))) (so_far.right lane low))
    ]

-- the forest that the code reads is that of the lane
pub forest_read : (forests : List Forest) (lane : ℕ) (f : Forest) → lane < length forests → f ≡ get_or forests lane f → forest_in forests lane ≡ f
forest_read forests lane f low is = get_or_default forests lane (record { roots = []; links = [] }) f low ∙ sym is

-- a whole escape tree is a tree
pub written_tree : (t : Topology) (lane : ℕ) (f : Forest) (to : ℕ) (tree : List (Option ℕ)) → IsWellFormed t → IsEscapeForest t lane f → to < length t.switches → tree ≡ escape_tree f to → IsTree t tree
written_tree t lane f to tree good forest low is = subst (IsTree t) (sym is) (escape_tree_is_tree t lane f to good forest low)

-- ---- a tree written switch by switch

pub next_of : (f : Forest) (to s : ℕ) → s < length f.links → next (escape_tree f to) s ≡ escape_next f s to
next_of f to s low = get_or-map-range_with_len (λ z. escape_next f z to) 0 (length f.links) s s None low (omega arith)

pub next_leaves : (t : Topology) (lane : ℕ) (f : Forest) (to s : ℕ) → IsWellFormed t → IsEscapeForest t lane f → to < length t.switches → s < length t.switches →
    (o : Option ChannelId) → o ≡ option_map channel_id (escape_next f s to) → IfSome o (λ d. LeavesSwitch t d.0 s)
next_leaves t lane f to s good forest low here o is =
    subst (λ (x : Option ChannelId). IfSome x (λ d. LeavesSwitch t d.0 s)) (sym is) (go (escape_next f s to) refl)
  where
    tree : IsTree t (escape_tree f to)
    tree = escape_tree_is_tree t lane f to good forest low

    go : (n : Option ℕ) → escape_next f s to ≡ n → IfSome (option_map channel_id n) (λ d. LeavesSwitch t d.0 s)
    go None at = tt
    go (Some c) at = tree.leaves s c (next_of f to s (omega (arith, here, forest.each_link)) ∙ at)

-- what the code gives a switch is the escape tree's channel
pub given_back : (f : Forest) (s to : ℕ) (o : Option ChannelId) → o ≡ option_map channel_id (escape_next f s to) → option_map (λ (d : ChannelId). d.0) o ≡ escape_next f s to
given_back f s to o is = ap (λ x. option_map (λ (d : ChannelId). d.0) x) is ∙ go (escape_next f s to)
  where
    go : (n : Option ℕ) → option_map (λ (d : ChannelId). d.0) (option_map channel_id n) ≡ n
    go None = refl
    go (Some c) = refl

pub one_written : (tree : List (Option ℕ)) (f : Forest) (to n : ℕ) (o : Option ℕ) → n < length tree → o ≡ escape_next f n to → ((i : ℕ) → i < n → next tree i ≡ escape_next f i to) →
    (i : ℕ) → i < n + 1 → next (slice_set tree n o) i ≡ escape_next f i to
one_written tree f to n o low is before i h = elim (same_or_other i n) [
  | inl e ↦ subst (λ k. next (slice_set tree n o) k ≡ escape_next f k to) (sym e) (read_same tree n o low ∙ is)
  | inr other ↦ read_other tree n i o other ∙ before i (omega (arith, h, other))
]

pub all_written : (t : Topology) (lane : ℕ) (f : Forest) (to : ℕ) (tree : List (Option ℕ)) → IsEscapeForest t lane f → length tree ≡ length t.switches →
    ((i : ℕ) → i < length t.switches → next tree i ≡ escape_next f i to) → tree ≡ escape_tree f to
all_written t lane f to tree forest whole each = same_lists tree (escape_tree f to) (whole ∙ sym forest.each_link ∙ sym long) same
  where
    long : length (escape_tree f to) ≡ length f.links
    long = length-map-range_with_len (λ s. escape_next f s to) 0 (length f.links)

    same : (k : ℕ) (d : Option ℕ) → k < length tree → get_or tree k d ≡ get_or (escape_tree f to) k d
    same k d low =
        let here : k < length f.links = omega (arith, low, whole, forest.each_link) in
        get_or_default tree k d None low ∙ each k (omega (arith, low, whole)) ∙ sym (next_of f to k here) ∙ sym (get_or_default (escape_tree f to) k d None (omega (arith, here, long)))
