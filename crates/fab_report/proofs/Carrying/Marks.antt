-- Marks that are changed, and what they mean.
use Rattle.std.proofs.Common.{◌≡◌, ◌≢◌, ℕ, ◌<◌, ◌⊎◌, inl, inr, List, [], ◌∷◌, ◌++◌, length, set, refl, sym, ◌∙◌, ap, subst, get_or-set_other}
use Rattle.std.specs.Prelude.{Contains}
use Rattle.std.proofs.lemmas.Bool.{cases_eq}
use Rattle.std.proofs.lemmas.List.{get_or-set_same, map-append}
use Rattle.fab_model.specs.declared.rows.ChannelId.{ChannelId}
use Rattle.fab_model.specs.Topology.{Topology}
use Rattle.fab_model.proofs.Lists.Members.{In, in_left, in_right, from_append, Contains_from_in, in_from_Contains}
use Rattle.fab_tables.specs.Entries.{Entries}
use Rattle.fab_report.specs.declared.order.Mark.{Mark}
use Rattle.fab_report.specs.declared.order.Mark.TheVariants.{Unseen, Lost, Laid}
use Rattle.fab_report.specs.Order.{tail, tails, IsLaid, mark_of, Means, AreMarks, SeesMore}

-- ---- tails

pub tails_push : (t : Topology) (xs : List ChannelId) (c : ChannelId) → tails t (xs ++ c ∷ []) ≡ tails t xs ++ tail t c ∷ []
tails_push t xs c = map-append (tail t) xs (c ∷ [])

pub tail_last : (t : Topology) (xs : List ChannelId) (c : ChannelId) (x : ℕ) → Contains (tails t (xs ++ c ∷ [])) x → (tail t c ≡ x) ⊎ Contains (tails t xs) x
tail_last t xs c x there = elim (from_append (tails t xs) (tail t c ∷ []) x (subst (λ (ys : List ℕ). In x ys) (tails_push t xs c) (in_from_Contains (tails t (xs ++ c ∷ [])) x there))) [
  | inl before ↦ inr (Contains_from_in (tails t xs) x before)
  | inr last ↦ elim last [ inl same ↦ inl same | inr none ↦ absurd none ]
]

pub to_tails : (t : Topology) (xs : List ChannelId) (c : ChannelId) (x : ℕ) → (tail t c ≡ x) ⊎ Contains (tails t xs) x → Contains (tails t (xs ++ c ∷ [])) x
to_tails t xs c x where_ =
    let there : In x (tails t xs ++ tail t c ∷ []) = elim where_ [
      | inl same ↦ in_right (tails t xs) (tail t c ∷ []) x (inl same)
      | inr before ↦ in_left (tails t xs) (tail t c ∷ []) x (in_from_Contains (tails t xs) x before)
    ] in
    Contains_from_in (tails t (xs ++ c ∷ [])) x (subst (λ (ys : List ℕ). In x ys) (sym (tails_push t xs c)) there)

pub first_or_rest : (xs : List ℕ) (y x : ℕ) → Contains (y ∷ xs) x → (y ≡ x) ⊎ Contains xs x
first_or_rest xs y x there = elim (in_from_Contains (y ∷ xs) x there) [ inl same ↦ inl same | inr rest ↦ inr (Contains_from_in xs x rest) ]

pub at_first : (xs : List ℕ) (y : ℕ) → Contains (y ∷ xs) y
at_first xs y = Contains_from_in (y ∷ xs) y (inl refl)

pub behind_first : (xs : List ℕ) (y x : ℕ) → Contains xs x → Contains (y ∷ xs) x
behind_first xs y x there = Contains_from_in (y ∷ xs) x (inr (in_from_Contains xs x there))

-- ---- marks

pub mark_same : (marks : List Mark) (s : ℕ) (m : Mark) → s < length marks → mark_of (set marks s m) s ≡ m
mark_same marks s m low = get_or-set_same marks s m Unseen low

pub mark_other : (marks : List Mark) (s x : ℕ) (m : Mark) → x ≢ s → mark_of (set marks s m) x ≡ mark_of marks x
mark_other marks s x m other = get_or-set_other marks s x m Unseen other

module _ (t : Topology) (e : Entries) (lid : ℕ) (channels new_channels : List ChannelId) (unsure new_unsure : List ℕ) where
  -- the switch is no less unsure, and no less laid
  abbrev Weakens : ℕ → Type 0
  Weakens x = (Contains unsure x → Contains new_unsure x) × (IsLaid t e lid channels x → IsLaid t e lid new_channels x)

  pub still_means : (m : Mark) (x : ℕ) → Weakens x → Means t e lid channels unsure m x → Means t e lid new_channels new_unsure m x
  still_means Unseen x weaker means = tt
  still_means Lost x weaker means = λ d. weaker.0 (means d)
  still_means Laid x weaker means = (means.0, weaker.1 means.1)

  pub still_marks : (marks : List Mark) → ((x : ℕ) → Weakens x) → AreMarks t e lid channels unsure marks → AreMarks t e lid new_channels new_unsure marks
  still_marks marks weaker are x = still_means (mark_of marks x) x (weaker x) (are x)

  -- one switch is marked, and the others mean what they meant
  pub marked : (marks : List Mark) (s : ℕ) (m : Mark) → s < length marks → Means t e lid new_channels new_unsure m s → ((x : ℕ) → x ≢ s → Weakens x) →
      AreMarks t e lid channels unsure marks → AreMarks t e lid new_channels new_unsure (set marks s m)
  marked marks s m low here weaker are x = elim (cases_eq x s) [
    | inl same ↦ subst (λ (y : ℕ). Means t e lid new_channels new_unsure (mark_of (set marks s m) y) y) (sym same)
        (subst (λ (n : Mark). Means t e lid new_channels new_unsure n s) (sym (mark_same marks s m low)) here)
    | inr other ↦ subst (λ (n : Mark). Means t e lid new_channels new_unsure n x) (sym (mark_other marks s x m other)) (still_means (mark_of marks x) x (weaker x other) (are x))
  ]

-- ---- switches that are seen

-- a mark more keeps what is seen
pub seen_on : (old marks : List Mark) (from s : ℕ) (m : Mark) → s < length marks → m ≢ Unseen → SeesMore old from marks → SeesMore old from (set marks s m)
seen_on old marks from s m low some more x was = elim (cases_eq x s) [
  | inl same ↦ λ e. some (sym (mark_same marks s m low) ∙ ap (λ (y : ℕ). mark_of (set marks s m) y) (sym same) ∙ e)
  | inr other ↦ λ e. more x was (sym (mark_other marks s x m other) ∙ e)
]

-- the first mark of a walk
pub sees_first : (marks : List Mark) (from : ℕ) (m : Mark) → from < length marks → m ≢ Unseen → SeesMore marks from (set marks from m)
sees_first marks from m low some x was = elim (cases_eq x from) [
  | inl same ↦ λ e. some (sym (mark_same marks from m low) ∙ ap (λ (y : ℕ). mark_of (set marks from m) y) (sym same) ∙ e)
  | inr other ↦ elim was [ inl same ↦ absurd (other same) | inr seen ↦ λ e. seen (sym (mark_other marks from x m other) ∙ e) ]
]
