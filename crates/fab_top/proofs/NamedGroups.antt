-- Groups, one after the other: the entries of one are as many as switches, its number is told, the group of a number is looked for, and among its
-- members the one that has a LID.
use Rattle.std.proofs.Common.{◌≡◌, ◌≢◌, ℕ, zero, suc, ◌+◌, ◌<◌, ◌≤◌, Bool, true, false, All, List, [], ◌∷◌, ◌++◌, length, map, drop, Option, None, Some, Ok, Err, IfSome, inl, inr, refl, sym, ◌∙◌, ap, subst, arith}
use Rattle.std.specs.Prelude.{◌==◌, ◌-◌, if◌then◌else◌, find, ok_or, option_map, slice_get, slice_index_or}
use Rattle.std.specs.List.{range_with_len}
use Rattle.std.proofs.lemmas.Bool.{eq-eqb, ne_eqb}
use Rattle.std.proofs.lemmas.Option.{same_Some, none-some}
use Rattle.fab_model.specs.declared.rows.TerminalId.{TerminalId}
use Rattle.fab_model.specs.declared.rows.TerminalRow.{TerminalRow}
use Rattle.fab_model.specs.Topology.{Topology}
use Rattle.fab_model.proofs.Faultless.Facts.{slice_get_in}
use Rattle.fab_model.proofs.Lists.Found.{slice_get_some}
use Rattle.fab_model.proofs.Lists.Members.{In, in_all, in_map}
use Rattle.fab_mcast.specs.GroupList.{Group}
use Rattle.fab_mcast.specs.GroupTrees.{Planted, entries_in, entries_at}
use Rattle.fab_top.specs.Files.{has_number, known_group, has_lid, known_member}
use Rattle.fab_top.specs.FaultTexts.{unknown_group_text, no_member_text}
use Rattle.fab_top.specs.GroupTexts.{group_text, group_row}

-- ---- texts

pub if_there : {X : Type 0} (o : Option X) (x : X) (P : X → Type 0) → o ≡ Some x → P x → IfSome o P
if_there {X} o x P is holds = let Q : Option X → Type 0 = λ q. IfSome q P in subst Q (sym is) holds

pub entries_each : (n : ℕ) (tables : List Planted) (index : ℕ) → All (λ (g : Planted). length g.ports ≡ n) tables → index < length tables → length (entries_at tables index) ≡ n
entries_each n tables index all low =
    let some : (g : Planted) × (slice_get tables index ≡ Some g) = slice_get_some tables index low in
    ap (λ (o : Option Planted). length (entries_in o)) some.1 ∙ in_all (λ (g : Planted). length g.ports ≡ n) tables all some.0 (slice_get_in tables index some.0 some.1)

pub group_added : (t : Topology) (tables : List Planted) (o : Option Group) (index n : ℕ) (old now : List ℕ) → option_map (λ (g : Group). g.number) o ≡ Some n →
    now ≡ old ++ group_text t n (entries_at tables index) → IfSome o (λ g. now ≡ old ++ group_row t tables (index, g))
group_added t tables None index n old now is added = absurd (none-some n is)
group_added t tables (Some g) index n old now is added =
    added ∙ ap (λ (m : ℕ). old ++ group_text t m (entries_at tables index)) (sym (same_Some g.number n is))

-- ---- the group of a number

number_is : (o : Option Group) (number n : ℕ) → option_map (λ (g : Group). g.number) o ≡ Some n → has_number number o ≡ (n == number)
number_is None number n is = absurd (none-some n is)
number_is (Some g) number n is = ap (λ (m : ℕ). m == number) (same_Some g.number n is)

module _ (groups : List Group) (number : ℕ) where
  abbrev is_it : ℕ → Bool
  is_it n = has_number number (slice_get groups n)

  abbrev Left : ℕ → Option ℕ
  Left k = find is_it (range_with_len k (length groups - k))

  abbrev All_of_them : Option ℕ
  All_of_them = find is_it (range_with_len 0 (length groups))

  module _ (k n : ℕ) (low : k < length groups) (at : option_map (λ (g : Group). g.number) (slice_get groups k) ≡ Some n) (before : Left k ≡ All_of_them) where
    one_left : length groups - k ≡ suc (length groups - (k + 1))
    one_left = omega (arith, low)

    pub group_here : n ≡ number → known_group groups number ≡ Ok k
    group_here same =
        let passes : is_it k ≡ true = number_is (slice_get groups k) number n at ∙ eq-eqb n number same in
        let here : Left k ≡ Some k = ap (λ m. find is_it (range_with_len k m)) one_left ∙ rw passes refl in
        ap (λ (o : Option ℕ). ok_or o (unknown_group_text number)) (sym before ∙ here)

    pub group_past : n ≢ number → Left (k + 1) ≡ All_of_them
    group_past other =
        let fails : is_it k ≡ false = number_is (slice_get groups k) number n at ∙ ne_eqb n number other in
        let past : Left k ≡ Left (k + 1) = ap (λ m. find is_it (range_with_len k m)) one_left ∙ rw fails refl in
        sym past ∙ before

  pub no_group_left : (k : ℕ) → length groups ≤ k → Left k ≡ All_of_them → known_group groups number ≡ Err (unknown_group_text number)
  no_group_left k end before =
      let none : length groups - k ≡ 0 = omega (arith, end) in
      ap (λ (o : Option ℕ). ok_or o (unknown_group_text number)) (sym before ∙ ap (λ m. find is_it (range_with_len k m)) none)

-- ---- the member that has a LID

lid_is : (o : Option TerminalRow) (lid : ℕ) (row : TerminalRow) → o ≡ Some row → has_lid lid o ≡ (row.lid.0 == lid)
lid_is None lid row is = absurd (none-some row is)
lid_is (Some other) lid row is = ap (λ (r : TerminalRow). r.lid.0 == lid) (same_Some other row is)

at_in : (xs : List TerminalId) (k : ℕ) (d : TerminalId) → k < length xs → In (slice_index_or xs k d) xs
at_in [] k d low = absurd (omega (arith, low))
at_in (x ∷ xs) zero d low = inl refl
at_in (x ∷ xs) (suc k) d low = inr (at_in xs k d (omega (arith, low)))

-- the member at a place is a terminal
pub member_low : (bound : ℕ) (xs : List TerminalId) (k : ℕ) (d : TerminalId) → All (λ n. n < bound) (map (λ (id : TerminalId). id.0) xs) → k < length xs → (slice_index_or xs k d).0 < bound
member_low bound xs k d all low =
    in_all (λ n. n < bound) (map (λ (id : TerminalId). id.0) xs) all (slice_index_or xs k d).0 (in_map (λ (id : TerminalId). id.0) xs (slice_index_or xs k d) (at_in xs k d low))

dropped : (xs : List TerminalId) (k : ℕ) (d : TerminalId) → k < length xs → drop k xs ≡ slice_index_or xs k d ∷ drop (k + 1) xs
dropped [] k d low = absurd (omega (arith, low))
dropped (y ∷ ys) zero d low = refl
dropped (y ∷ ys) (suc k) d low = dropped ys k d (omega (arith, low)) ∙ (let same : suc (k + 1) ≡ suc k + 1 = omega arith in ap (λ n. slice_index_or ys k d ∷ drop n (y ∷ ys)) same)

at_end : (xs : List TerminalId) (k : ℕ) → length xs ≤ k → drop k xs ≡ []
at_end [] zero end = refl
at_end [] (suc k) end = refl
at_end (x ∷ xs) zero end = absurd (omega (arith, end))
at_end (x ∷ xs) (suc k) end = at_end xs k (omega (arith, end))

module _ (t : Topology) (ids : List TerminalId) (lid : ℕ) where
  abbrev has_it : ℕ → Bool
  has_it n = has_lid lid (slice_get t.terminals n)

  abbrev pub numbers_of : List TerminalId → List ℕ
  numbers_of xs = map (λ (id : TerminalId). id.0) xs

  abbrev Found : ℕ → Option ℕ
  Found k = find has_it (numbers_of (drop k ids))

  module _ (k : ℕ) (d : TerminalId) (row : TerminalRow) (low : k < length ids) (there : slice_get t.terminals (slice_index_or ids k d).0 ≡ Some row) (before : Found k ≡ find has_it (numbers_of ids)) where
    abbrev number : ℕ
    number = (slice_index_or ids k d).0

    next : Found k ≡ find has_it (number ∷ numbers_of (drop (k + 1) ids))
    next = ap (λ (xs : List TerminalId). find has_it (numbers_of xs)) (dropped ids k d low)

    pub member_here : (row.lid.0 == lid) ≡ true → known_member t (numbers_of ids) lid ≡ Ok number
    member_here same =
        let passes : has_it number ≡ true = lid_is (slice_get t.terminals number) lid row there ∙ same in
        let here : find has_it (number ∷ numbers_of (drop (k + 1) ids)) ≡ Some number = ap (λ b. if b then Some number else find has_it (numbers_of (drop (k + 1) ids))) passes in
        ap (λ (o : Option ℕ). ok_or o (no_member_text lid)) (sym before ∙ next ∙ here)

    pub member_past : (row.lid.0 == lid) ≡ false → Found (k + 1) ≡ find has_it (numbers_of ids)
    member_past other =
        let fails : has_it number ≡ false = lid_is (slice_get t.terminals number) lid row there ∙ other in
        let past : find has_it (number ∷ numbers_of (drop (k + 1) ids)) ≡ Found (k + 1) = ap (λ b. if b then Some number else find has_it (numbers_of (drop (k + 1) ids))) fails in
        sym (next ∙ past) ∙ before

  pub no_member_left : (k : ℕ) → length ids ≤ k → Found k ≡ find has_it (numbers_of ids) → known_member t (numbers_of ids) lid ≡ Err (no_member_text lid)
  no_member_left k end before =
      ap (λ (o : Option ℕ). ok_or o (no_member_text lid)) (sym before ∙ ap (λ (xs : List TerminalId). find has_it (numbers_of xs)) (at_end ids k end))
