-- Classes by their numbers.
use Rattle.std.specs.Prelude.{◌≡◌, ℕ, ◌<◌, nat_eq, Bool, List, length, filter, Option, Some, None, slice_get, slice_index, slice_index_or, IsTrue, IsFalse}
use Rattle.std.specs.Cmp.Lexicographic.{pointwise}
use Rattle.std.specs.HashMap.{HashMap, get}
use Rattle.std.specs.List.{range_with_len}
use Rattle.std.specs.Option.{option_eq}
use Rattle.std.specs.declared.vec.Vec.{Vec}
use Rattle.fab_model.specs.Topology.{Topology, is_source}
use Rattle.fab_tables.specs.Entries.{Entries}
use Rattle.fab_tables.specs.LaneTables.{LaneTables}
use Rattle.fab_export.specs.Classes.{is_least_of_class, least_sources, class_of}
use Rattle.fab_export.specs.SourceLevels.{levels_of}

pub record ClassNumbers : Type 0 where
  pub least : List ℕ  -- the least source of each class
  pub numbers : List (Option ℕ)  -- the number of each switch's class; none where the switch is no source

abbrev pub is_of_class : ClassNumbers → ℕ → ℕ → Bool
is_of_class c number s = option_eq nat_eq (slice_index_or c.numbers s None) (Some number)

-- these are the classes of a plan
pub record AreClasses (t : Topology) (e : Entries) (l : LaneTables) (c : ClassNumbers) : Type 0 where
  pub least : c.least ≡ least_sources t e l
  pub counted : length c.numbers ≡ length t.switches
  pub members : (number : ℕ) → number < length c.least → filter (is_of_class c number) (range_with_len 0 (length t.switches)) ≡ class_of t e l (slice_index c.least number)

-- ---- while sources are numbered

-- the number that a map from rows of levels has for a row
abbrev pub number_by : {Z S : Type 0} → HashMap (Vec (Option ℕ) Z) ℕ S → Vec (Option ℕ) Z → Option ℕ
number_by numbers row = get (λ a b. pointwise (option_eq nat_eq) a.items b.items) numbers row

-- the class of a source is one of these
pub record IsNumber (t : Topology) (e : Entries) (l : LaneTables) (least : List ℕ) (s number : ℕ) : Type 0 where
  pub first : ℕ
  pub there : slice_get least number ≡ Some first
  pub same : levels_of t e l first ≡ levels_of t e l s

-- These are the least sources of the classes of the first sources, and the map has the number of each row of theirs.
pub record IsNumbering {K : Type 0} (t : Topology) (e : Entries) (l : LaneTables) (n : ℕ) (least : List ℕ) (items : K → List (Option ℕ)) (by : K → Option ℕ) : Type 0 where
  pub by_number : least ≡ filter (is_least_of_class t e l) (filter (is_source t) (range_with_len 0 n))
  pub found : (q : K) (k s : ℕ) → slice_get least k ≡ Some s → items q ≡ levels_of t e l s → by q ≡ Some k
  pub known : (q : K) (k : ℕ) → by q ≡ Some k → (s : ℕ) × (slice_get least k ≡ Some s) × (levels_of t e l s ≡ items q)
  pub each : (s : ℕ) → s < n → IsTrue (is_source t s) → (k : ℕ) × IsNumber t e l least s k
  pub apart : (i j a b : ℕ) → slice_get least i ≡ Some a → slice_get least j ≡ Some b → levels_of t e l a ≡ levels_of t e l b → i ≡ j

-- the number of a switch's class, if it is a source
abbrev pub IsNumberOf : Topology → Entries → LaneTables → List ℕ → ℕ → Option ℕ → Type 0
IsNumberOf t e l least s None = IsFalse (is_source t s)
IsNumberOf t e l least s (Some number) = IsTrue (is_source t s) × IsNumber t e l least s number
