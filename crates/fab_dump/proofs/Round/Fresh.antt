-- Nothing is said twice: what was said so far is of earlier switches and channels.
use Rattle.std.proofs.Common.{◌≡◌, ◌≢◌, ℕ, ◌+◌, ◌*◌, ◌<◌, ◌≤◌, Bool, true, false, List, [], ◌∷◌, ◌++◌, length, map, nat_eq, refl, ◌∙◌, ap, arith, cond, Option}
use Rattle.std.specs.Prelude.{All, ◌&&◌, count_by}
use Rattle.std.specs.Str.{bytes_eq}
use Rattle.std.proofs.lemmas.Bool.{ne_eqb, and_left, or_from}
use Rattle.std.proofs.lemmas.List.Elements.{All-head, All-tail, All-weaker}
use Rattle.std.proofs.lemmas.List.Folds.{list_any-append, list_any_none}
use Rattle.std.proofs.lemmas.List.Sums.{sum_by-append}
use Rattle.fab_tables.specs.declared.lanes.PairRow.{PairRow}
use Rattle.fab_tables.specs.LaneTables.{pair_key}
use Rattle.fab_dump.specs.Given.{Given, subject, was_given}
use Rattle.fab_dump.specs.Given.Given.{TableBlock, Port, LevelBlock, Level, MapBlock, Map, PairMap, Certificate, Number}
use Rattle.fab_dump.specs.Lines.{is_pair_map}

-- how far it was spoken: of the tables, levels and maps of so many switches, of the certificate, and of the numbers of so many channels
pub record Spoken : Type 0 where
  pub tables : ℕ
  pub levels : ℕ
  pub maps : ℕ
  pub certificates : ℕ
  pub numbers : ℕ

abbrev pub Within : Spoken → Given → Type 0
Within far (TableBlock s) = s < far.tables
Within far (Port s lid port) = s < far.tables
Within far (LevelBlock s) = s < far.levels
Within far (Level s lid level) = s < far.levels
Within far (MapBlock s) = s < far.maps
Within far (Map s lanes) = Unit {0}
Within far (PairMap row) = pair_key row < far.maps * 65536
Within far Certificate = 0 < far.certificates
Within far (Number channel lane number) = channel < far.numbers

-- and now further
pub record IsFurther (far now : Spoken) : Type 0 where
  pub tables : far.tables ≤ now.tables
  pub levels : far.levels ≤ now.levels
  pub maps : far.maps ≤ now.maps
  pub certificates : far.certificates ≤ now.certificates
  pub numbers : far.numbers ≤ now.numbers

further_one : (far now : Spoken) → IsFurther far now → (g : Given) → Within far g → Within now g
further_one far now h (TableBlock s) w = omega (arith, w, h.tables)
further_one far now h (Port s lid port) w = omega (arith, w, h.tables)
further_one far now h (LevelBlock s) w = omega (arith, w, h.levels)
further_one far now h (Level s lid level) w = omega (arith, w, h.levels)
further_one far now h (MapBlock s) w = omega (arith, w, h.maps)
further_one far now h (Map s lanes) w = tt
further_one far now h (PairMap row) w = omega (arith, w, h.maps)
further_one far now h Certificate w = omega (arith, w, h.certificates)
further_one far now h (Number channel lane number) w = omega (arith, w, h.numbers)

pub further : (far now : Spoken) (given : List Given) → IsFurther far now → All (Within far) given → All (Within now) given
further far now given h all = All-weaker (Within far) (Within now) (further_one far now h) given all

-- ---- what is spoken of first

abbrev pub Apart : Given → Given → Type 0
Apart new old = bytes_eq (subject old) (subject new) ≡ false

pub not_given : (given : List Given) (new : Given) → All (Apart new) given → was_given given new ≡ false
not_given given new h = list_any_none (λ old. bytes_eq (subject old) (subject new)) given h

pub not_given_more : (given more : List Given) (new : Given) → was_given given new ≡ false → All (Apart new) more → was_given (given ++ more) new ≡ false
not_given_more given more new e h = list_any-append (λ old. bytes_eq (subject old) (subject new)) given more ∙ or_from (was_given given new) (was_given more new) e (not_given more new h)

pub other_number : (a b : ℕ) (rest : Bool) → a ≢ b → (nat_eq a b && rest) ≡ false
other_number a b rest other = and_left (nat_eq a b) rest (ne_eqb a b other)

module _ (far : Spoken) (given : List Given) (all : All (Within far) given) where
  each : (new : Given) → ((old : Given) → Within far old → Apart new old) → was_given given new ≡ false
  each new h = not_given given new (All-weaker (Within far) (Apart new) h given all)

  pub new_table : (s : ℕ) → far.tables ≤ s → was_given given (TableBlock s) ≡ false
  new_table s high = each (TableBlock s) go
    where
      go : (old : Given) → Within far old → Apart (TableBlock s) old
      go (TableBlock k) w = other_number k s true (λ e. omega (arith, w, high, e))
      go _ w = refl

  pub new_port : (s lid port : ℕ) → far.tables ≤ s → was_given given (Port s lid port) ≡ false
  new_port s lid port high = each (Port s lid port) go
    where
      go : (old : Given) → Within far old → Apart (Port s lid port) old
      go (Port k other number) w = other_number k s (nat_eq other lid && true) (λ e. omega (arith, w, high, e))
      go _ w = refl

  pub new_levels : (s : ℕ) → far.levels ≤ s → was_given given (LevelBlock s) ≡ false
  new_levels s high = each (LevelBlock s) go
    where
      go : (old : Given) → Within far old → Apart (LevelBlock s) old
      go (LevelBlock k) w = other_number k s true (λ e. omega (arith, w, high, e))
      go _ w = refl

  pub new_level : (s lid : ℕ) (level : Option ℕ) → far.levels ≤ s → was_given given (Level s lid level) ≡ false
  new_level s lid level high = each (Level s lid level) go
    where
      go : (old : Given) → Within far old → Apart (Level s lid level) old
      go (Level k other number) w = other_number k s (nat_eq other lid && true) (λ e. omega (arith, w, high, e))
      go _ w = refl

  pub new_map : (s : ℕ) → far.maps ≤ s → was_given given (MapBlock s) ≡ false
  new_map s high = each (MapBlock s) go
    where
      go : (old : Given) → Within far old → Apart (MapBlock s) old
      go (MapBlock k) w = other_number k s true (λ e. omega (arith, w, high, e))
      go _ w = refl

  pub new_pair : (row : PairRow) → far.maps * 65536 ≤ pair_key row → was_given given (PairMap row) ≡ false
  new_pair row high = each (PairMap row) go
    where
      go : (old : Given) → Within far old → Apart (PairMap row) old
      go (PairMap other) w = other_number (pair_key other) (pair_key row) true (λ e. omega (arith, w, high, e))
      go _ w = refl

  pub new_certificate : far.certificates ≡ 0 → was_given given Certificate ≡ false
  new_certificate none = each Certificate go
    where
      go : (old : Given) → Within far old → Apart Certificate old
      go Certificate w = absurd (omega (arith, w, none))
      go _ w = refl

  pub new_number : (channel lane number : ℕ) → far.numbers ≤ channel → was_given given (Number channel lane number) ≡ false
  new_number channel lane number high = each (Number channel lane number) go
    where
      go : (old : Given) → Within far old → Apart (Number channel lane number) old
      go (Number c k m) w = other_number c channel (nat_eq k lane && true) (λ e. omega (arith, w, high, e))
      go _ w = refl

  -- before the maps no pair is spoken of
  pub no_pair : far.maps ≡ 0 → All (λ g. is_pair_map g ≡ false) given
  no_pair none = All-weaker (Within far) (λ g. is_pair_map g ≡ false) go given all
    where
      go : (old : Given) → Within far old → is_pair_map old ≡ false
      go (PairMap row) w = absurd (omega (arith, w, none, ap (λ n. n * 65536) none))
      go _ w = refl

-- ---- how many pairs were spoken of

pub count-append : (given more : List Given) → count_by is_pair_map (given ++ more) ≡ count_by is_pair_map given + count_by is_pair_map more
count-append given more = sum_by-append (λ g. cond (is_pair_map g) 1 0) given more

pub none_counted : (given : List Given) → All (λ g. is_pair_map g ≡ false) given → count_by is_pair_map given ≡ 0
none_counted [] h = refl
none_counted (g ∷ given) h =
    count-append (g ∷ []) given
    ∙ ap (λ b. 0 + cond b 1 0 + count_by is_pair_map given) (All-head (λ x. is_pair_map x ≡ false) g given h)
    ∙ ap (λ n. 0 + 0 + n) (none_counted given (All-tail (λ x. is_pair_map x ≡ false) g given h))

pub pairs_counted : (pairs : List PairRow) → count_by is_pair_map (map PairMap pairs) ≡ length pairs
pairs_counted [] = refl
pairs_counted (p ∷ pairs) = count-append (PairMap p ∷ []) (map PairMap pairs) ∙ ap (λ n. 1 + n) (pairs_counted pairs) ∙ omega arith
