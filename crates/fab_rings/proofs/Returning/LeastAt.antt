-- The least of the nodes at a distance is found one by one.
use Rattle.std.proofs.Common.{◌≡◌, ◌≢◌, ℕ, ◌+◌, ◌<◌, ◌≤◌, List, length, take, min, sym, subst, refl, inl, inr, arith, MatchOption, Option, Some, None}
use Rattle.std.specs.Prelude.{slice_index_or}
use Rattle.std.proofs.lemmas.Bool.{cases_eq, cases_lt}
use Rattle.fab_graph.specs.Least.{IsLeast}
use Rattle.fab_rings.specs.Nearness.{near_of, StandsAtDistance}
use Rattle.fab_rings.proofs.Times.{one_if_same, none_if_other, times_more}

module _ (nodes near : List ℕ) (distance i : ℕ) (low : i < length nodes) where
  abbrev x : ℕ
  x = slice_index_or nodes i 0

  abbrev Stands : ℕ → ℕ → Type 0
  Stands k a = StandsAtDistance (take k nodes) near distance a

  more : (a : ℕ) → Stands i a → Stands (i + 1) a
  more a s = (omega (arith, times_more a i nodes low, s.0), s.1)

  less : (a : ℕ) → a ≢ x → Stands (i + 1) a → Stands i a
  less a ne s = (omega (arith, times_more a i nodes low, s.0, none_if_other x a (λ e. ne (sym e))), s.1)

  here : near_of near x ≡ distance → Stands (i + 1) x
  here at = (omega (arith, times_more x i nodes low, one_if_same x x refl), at)

  -- the node is at another distance
  pub passed : (o : Option ℕ) → near_of near x ≢ distance → MatchOption o ((a : ℕ) → ¬ Stands i a) (IsLeast (Stands i)) → MatchOption o ((a : ℕ) → ¬ Stands (i + 1) a) (IsLeast (Stands (i + 1)))
  passed None off none = λ a s. none a (less a (λ e. off (subst (λ b. near_of near b ≡ distance) e s.1)) s)
  passed (Some b) off least = record { holds = more b least.holds; least = λ a s. least.least a (less a (λ e. off (subst (λ c. near_of near c ≡ distance) e s.1)) s) }

  stays : (b : ℕ) → b ≤ x → IsLeast (Stands i) b → IsLeast (Stands (i + 1)) b
  stays b h least = record { holds = more b least.holds; least = go }
    where
      go : (a : ℕ) → Stands (i + 1) a → b ≤ a
      go a s = elim (cases_eq a x) [ inl same ↦ omega (arith, same, h) | inr ne ↦ least.least a (less a ne s) ]

  takes_less : (b : ℕ) → x < b → near_of near x ≡ distance → IsLeast (Stands i) b → IsLeast (Stands (i + 1)) x
  takes_less b h at least = record { holds = here at; least = go }
    where
      go : (a : ℕ) → Stands (i + 1) a → x ≤ a
      go a s = elim (cases_eq a x) [ inl same ↦ omega (arith, same) | inr ne ↦ omega (arith, h, least.least a (less a ne s)) ]

  pub takes_lesser : (b : ℕ) → near_of near x ≡ distance → IsLeast (Stands i) b → IsLeast (Stands (i + 1)) (min b x)
  takes_lesser b at least = elim (cases_lt x b) [
    | inl above ↦ (let e : x ≡ min b x = omega arith in subst (IsLeast (Stands (i + 1))) e (takes_less b above at least))
    | inr below ↦ (let e : b ≡ min b x = omega arith in subst (IsLeast (Stands (i + 1))) e (stays b below least))
  ]

  pub takes_first : near_of near x ≡ distance → ((a : ℕ) → ¬ Stands i a) → IsLeast (Stands (i + 1)) x
  takes_first at none = record { holds = here at; least = go }
    where
      go : (a : ℕ) → Stands (i + 1) a → x ≤ a
      go a s = elim (cases_eq a x) [ inl same ↦ omega (arith, same) | inr ne ↦ absurd (none a (less a ne s)) ]
