-- The head of the next edge is taken, where the last group isn't done.
use Rattle.std.proofs.Common.{◌≡◌, ◌≢◌, ℕ, ◌+◌, ◌<◌, ◌≤◌, List, [], ◌∷◌, ◌++◌, length, sym, ◌∙◌, ap, subst, refl, arith, Option, Some, None}
use Rattle.std.specs.Prelude.{Contains, MatchOption}
use Rattle.std.specs.Option.{option_to_list}
use Rattle.std.proofs.lemmas.List.{length_push, nil_from_length}
use Rattle.fab_rings.specs.declared.strong_components.Group.{Group}
use Rattle.fab_rings.specs.StrongComponents.{AreStrongComponents}
use Rattle.fab_rings.specs.PathSearch.{PathSearched, HasAt, IsPathSearch, HasTaken, IsLast}
use Rattle.fab_rings.proofs.Searching.Places.{at_end, same_at, some_last}
use Rattle.fab_rings.proofs.Searching.Starting.{ended}

pub last_at : (groups : List Group) (y : Group) (last : IsLast groups y) → HasAt groups (length last.0) y
last_at groups y last = subst (λ (gs : List Group). HasAt gs (length last.0) y) (sym last.1) (at_end last.0 y)

pub last_count : (groups : List Group) (y : Group) (last : IsLast groups y) → length groups ≡ length last.0 + 1
last_count groups y last = ap (λ (gs : List Group). length gs) last.1 ∙ length_push last.0 y

pub one_last : (groups : List Group) (y z : Group) → IsLast groups y → IsLast groups z → y ≡ z
one_last groups y z last also =
    let same : length also.0 ≡ length last.0 = omega (arith, last_count groups y last, last_count groups z also) in
    same_at groups (length last.0) y z (last_at groups y last) (subst (λ (k : ℕ). HasAt groups k z) same (last_at groups z also))

module _ (s : PathSearched) (searched : IsPathSearch s) (still : (y : Group) → IsLast s.groups y → y.below ≢ length s.heads) where
  below_left : (x : Group) → Contains s.groups x → x.below < length s.heads
  below_left x has =
      let last : (y : Group) × IsLast s.groups y = some_last s.groups (omega (arith, has.1)) in
      let at : HasAt s.groups (length last.1.0) last.0 = last_at s.groups last.0 last.1 in
      let ne : last.0.below ≢ length s.heads = still last.0 last.1 in
      let within : last.0.below ≤ length s.heads = (searched.within last.0 (length last.1.0, at.0, at.1)).1 in
      let order : x.below ≤ last.0.below = (searched.ordered has.0 (length last.1.0) x last.0 (has.1, has.2) at (omega (arith, has.1, last_count s.groups last.0 last.1))).1 in
      omega (arith, ne, within, order)

  pub takes : (heads : List ℕ) (head : ℕ) → s.heads ≡ heads ++ head ∷ [] → HasTaken (record s { heads = heads }) head
  takes heads head is = record {
    before = subst (λ (hs : List ℕ). IsPathSearch (record s { heads = hs })) is searched;
    below = λ x has. omega (arith, below_left x has, ap (λ (hs : List ℕ). length hs) is, length_push heads head);
  }

  pub all_done : s.heads ≡ [] → AreStrongComponents s.graph s.components
  all_done none = ended s searched (no_group s.groups (λ x has. omega (arith, below_left x has, ap (λ (hs : List ℕ). length hs) none))) none
    where
      no_group : (gs : List Group) → ((x : Group) → Contains gs x → ⊥) → gs ≡ []
      no_group [] never = refl
      no_group (x ∷ xs) never = absurd (never x (0, omega arith, refl))

  -- what taking the last head answers
  pub next : (heads : List ℕ) (r : Option ℕ) (old new : ℕ) → s.heads ≡ heads ++ option_to_list r → length s.heads ≡ old → MatchOption r ((old ≡ 0) × (new ≡ 0)) (λ head. new + 1 ≡ old) →
      MatchOption r (AreStrongComponents s.graph s.components) (HasTaken (record s { heads = heads }))
  next heads None old new is whole cases = all_done (nil_from_length s.heads (omega (arith, whole, cases.0)))
  next heads (Some head) old new is whole cases = takes heads head is
