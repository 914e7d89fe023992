-- The lane counts that words ask for are 1 to 15.
use Rattle.std.proofs.Common.{◌≡◌, ℕ, zero, suc, ◌<◌, ◌≤◌, Bool, true, false, List, [], ◌∷◌, Option, None, Some, inl, inr, refl, sym, subst, arith, codes}
use Rattle.std.specs.Prelude.{option_map, option_and_then, find, not, if◌then◌else◌, IfSome}
use Rattle.std.specs.Bool.{then_some}
use Rattle.std.specs.Str.{bytes_eq}
use Rattle.std.proofs.lemmas.Bool.Decides.{eqb_tells}
use Rattle.fab_top.specs.declared.command.Engine.{Engine}
use Rattle.fab_top.specs.declared.command.Engine.TheVariants as engine
use Rattle.fab_top.specs.declared.engine_words.Asked.{Asked}
use Rattle.fab_top.specs.declared.engine_words.Asked.TheVariants.{Nothing, Roots, Lanes}
use Rattle.fab_top.specs.Engines.{IsLaneCount, HasLaneCount}
use Rattle.fab_top.specs.Words.{number_in, if_not_0, lanes_in, flagged_lanes, roots_in, roots_asked, asked_behind, asked_by, bare, rooted, laned, engine_forms, engine_in}
use Rattle.fab_top.proofs.LowNumbers.{number_is_low}

abbrev pub AsksRightly : Asked → Type 0
AsksRightly Nothing = Unit {0}
AsksRightly (Roots guids) = Unit {0}
AsksRightly (Lanes count) = IsLaneCount count

-- ---- what words ask for

-- a number of at most 15, if it isn't 0
some_lane : (n : ℕ) → (n ≡ 0 → ⊥) → 0 < n
some_lane zero other = absurd (other refl)
some_lane (suc n) other = omega arith

in_range : (o : Option ℕ) → IfSome o (λ n. n ≤ 15) → IfSome (option_and_then if_not_0 o) IsLaneCount
in_range None low = tt
in_range (Some n) low =
    let P : Bool → Type 0 = λ b. IfSome (then_some (not b) n) IsLaneCount in
    elim (eqb_tells n 0) [
      | inl e ↦ subst P (sym e.0) tt
      | inr e ↦ subst P (sym e.0) (some_lane n e.1, low)
    ]

pub lanes_in_range : (word : List ℕ) → IfSome (lanes_in word) IsLaneCount
lanes_in_range word = in_range (number_in 15 word) (number_is_low 15 word)

pub flagged_in_range : (flag count : List ℕ) → IfSome (flagged_lanes flag count) IsLaneCount
flagged_in_range flag count = by (bytes_eq flag (codes "--lanes"))
  where
    by : (b : Bool) → IfSome (if b then lanes_in count else None) IsLaneCount
    by true = lanes_in_range count
    by false = tt

counted : (o : Option ℕ) → IfSome o IsLaneCount → IfSome (option_map Lanes o) AsksRightly
counted None count = tt
counted (Some n) count = count

rooted_rightly : (o : Option (List ℕ)) → IfSome (option_map Roots o) AsksRightly
rooted_rightly None = tt
rooted_rightly (Some guids) = tt

-- one of the two is asked for
either : (b : Bool) (o p : Option Asked) → IfSome o AsksRightly → IfSome p AsksRightly → IfSome (if b then o else p) AsksRightly
either true o p first second = first
either false o p first second = second

pub asked_behind_rightly : (words : List (List ℕ)) → IfSome (asked_behind words) AsksRightly
asked_behind_rightly [] = tt
asked_behind_rightly (a ∷ []) = rooted_rightly (roots_in (a ∷ []))
asked_behind_rightly (flag ∷ count ∷ []) =
    either (bytes_eq flag (codes "--lanes")) (option_map Lanes (lanes_in count)) (roots_asked (flag ∷ count ∷ [])) (counted (lanes_in count) (lanes_in_range count)) (rooted_rightly (roots_in (flag ∷ count ∷ [])))
asked_behind_rightly (a ∷ b ∷ c ∷ rest) = rooted_rightly (roots_in (a ∷ b ∷ c ∷ rest))

pub asked_by_rightly : (word : List ℕ) → IfSome (asked_by word) AsksRightly
asked_by_rightly word = either (bytes_eq word (codes "0")) (Some Nothing) (option_map Lanes (lanes_in word)) tt (counted (lanes_in word) (lanes_in_range word))

-- ---- engines that are asked for it

-- what a form makes of what is asked for rightly has its lane count
abbrev GivesLanes : (Asked → Option Engine) → Type 0
GivesLanes form = (asked : Asked) → AsksRightly asked → IfSome (form asked) HasLaneCount

bare_gives : (one : Engine) → HasLaneCount one → GivesLanes (bare one)
bare_gives one has Nothing asks = has
bare_gives one has (Roots guids) asks = tt
bare_gives one has (Lanes count) asks = tt

rooted_gives : GivesLanes rooted
rooted_gives Nothing asks = tt
rooted_gives (Roots guids) asks = tt
rooted_gives (Lanes count) asks = tt

laned_gives : (make : ℕ → Engine) → ((count : ℕ) → IsLaneCount count → HasLaneCount (make count)) → GivesLanes (laned make)
laned_gives make has Nothing asks = tt
laned_gives make has (Roots guids) asks = tt
laned_gives make has (Lanes count) asks = has count asks

abbrev AllGive : List (List ℕ × (Asked → Option Engine)) → Type 0
AllGive [] = Unit {0}
AllGive (row ∷ rows) = GivesLanes row.1 × AllGive rows

all_give : AllGive engine_forms
all_give = (
  bare_gives engine.MinHop tt,
  (
    bare_gives engine.Dor tt,
    (
      bare_gives engine.Sssp tt,
      (rooted_gives, (laned_gives (λ n. engine.Lash n) (λ n count. count), (laned_gives (λ n. engine.Dfsssp n) (λ n count. count), (laned_gives (λ n. engine.Nue n) (λ n count. count), tt)))),
    ),
  ),
)

abbrev engine_of : Option (List ℕ × (Asked → Option Engine)) → Asked → Option Engine
engine_of found asked = option_and_then (λ form. form asked) (option_map (λ row. row.1) found)

by_test : (b : Bool) (row : List ℕ × (Asked → Option Engine)) (behind : Option (List ℕ × (Asked → Option Engine))) (asked : Asked) →
    IfSome (row.1 asked) HasLaneCount → IfSome (engine_of behind asked) HasLaneCount → IfSome (engine_of (if b then Some row else behind) asked) HasLaneCount
by_test true row behind asked here there = here
by_test false row behind asked here there = there

by_row : (rows : List (List ℕ × (Asked → Option Engine))) → AllGive rows → (name : List ℕ) (asked : Asked) → AsksRightly asked →
    IfSome (engine_of (find (λ row. bytes_eq row.0 name) rows) asked) HasLaneCount
by_row [] all name asked asks = tt
by_row (row ∷ rows) all name asked asks = by_test (bytes_eq row.0 name) row (find (λ r. bytes_eq r.0 name) rows) asked (all.0 asked asks) (by_row rows all.1 name asked asks)

-- of this name, after what was asked for
pub engine_after : (name : List ℕ) (o : Option Asked) → IfSome o AsksRightly → IfSome (option_and_then (engine_in name) o) HasLaneCount
engine_after name None asks = tt
engine_after name (Some asked) asks = by_row engine_forms all_give name asked asks
