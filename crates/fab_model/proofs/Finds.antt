-- Rows that are found where they stand.
use Rattle.std.proofs.Common.{◌≡◌, ◌≢◌, ℕ, ◌+◌, ◌<◌, ◌≤◌, Bool, true, false, eqb, ltb, cond, List, [], ◌∷◌, length, get_or, Some, None, Result, Ok, Err, inl, inr, refl, sym, ap, ◌∙◌, arith}
use Rattle.std.specs.Prelude.{AllPairs, Contains, position, slice_get}
use Rattle.std.specs.List.{HoldsAt, AllWithin, position_or_len}
use Rattle.std.specs.List.Sorted.{IsNonDecreasingBy, IsBinarySearchResult, IsSearchInRange}
use Rattle.std.specs.Result.{result_unwrap_or}
use Rattle.std.specs.Ordering.{ordering_index, nat_cmp}
use Rattle.std.specs.declared.cmp.Ordering.TheVariants.{Less, Equal, Greater}
use Rattle.std.proofs.lemmas.Bool.{cases_lt, and_parts, and_from, eq-eqb, ne_eqb, eqb-true, lt-ltb, le-ltb, false_from_ne_true}
use Rattle.std.proofs.lemmas.Bool.Decides.{nat_tests}
use Rattle.std.proofs.lemmas.List.Sums.{position_or_len_is, sum_by-le-sum_by, count_by-le-length}
use Rattle.std.proofs.lemmas.Option.{slice_get_within, slice_get-get_or, get_or_from_slice_get}
use Rattle.fab_model.specs.declared.rows.SwitchRow.{SwitchRow}
use Rattle.fab_model.specs.declared.rows.ChannelRow.{ChannelRow}
use Rattle.fab_model.specs.Topology.{Topology, channel_at, leaves_by, reversed, first_channel}
use Rattle.fab_model.specs.WellFormed.{IsWellFormed}
use Rattle.fab_model.specs.Laws.{ChannelsAreFound}
use Rattle.fab_model.proofs.Tables.{leave_apart}

pub position_is : {X : Type 0} (p : X → Bool) (xs : List X) (i : ℕ) (d : X) → i < length xs → p (get_or xs i d) ≡ true → ((k : ℕ) → k < i → p (get_or xs k d) ≡ false) → position p xs ≡ Some i
position_is p xs i d h passes before =
    let at = position_or_len_is p xs i d (omega arith) before (λ _. passes) in
    rw (at, lt-ltb i (length xs) h)

pub position_none : {X : Type 0} (p : X → Bool) (xs : List X) → ((k : ℕ) (d : X) → k < length xs → p (get_or xs k d) ≡ false) → position p xs ≡ None
position_none p [] fails = refl
position_none {X} p (x ∷ xs) fails =
    let n = length (x ∷ xs) in
    let at = position_or_len_is p (x ∷ xs) n x (omega arith) (λ k lt. fails k x lt) (λ lt. absurd (omega arith)) in
    rw (at, le-ltb n n (omega arith))

-- ---- channels

pub channels_are_found : ChannelsAreFound
channels_are_found fabric channel row are at =
    let h = slice_get_within fabric.channels channel row at in
    let here : get_or fabric.channels channel row ≡ row = get_or_from_slice_get fabric.channels channel row row at in
    let test = leaves_by row.tail.0 row.port in
    position_is test fabric.channels channel row h
    (rw here (and_from (eqb row.tail.0 row.tail.0) (eqb row.port row.port) (eq-eqb row.tail.0 row.tail.0 refl) (eq-eqb row.port row.port refl)))
    (λ k lt. false_from_ne_true (test (get_or fabric.channels k row)) (λ t.
    let other = get_or fabric.channels k row in
    let both = and_parts (eqb other.tail.0 row.tail.0) (eqb other.port row.port) t in
    leave_apart fabric.channels are.channels_rise k channel row lt h
    (eqb-true other.tail.0 row.tail.0 both.0 ∙ ap (λ (r : ChannelRow). r.tail.0) (sym here))
    (eqb-true other.port row.port both.1 ∙ ap (λ (r : ChannelRow). r.port) (sym here))))

-- The reverse of a channel leaves its tip by its tip port.
pub record HasReverse (fabric : Topology) (row : ChannelRow) : Type 0 where
  pub other : ℕ
  pub tip : row.tip.0 < length fabric.switches
  pub at : channel_at fabric row.tip.0 row.tip_port ≡ Some other
  pub is : slice_get fabric.channels other ≡ Some (reversed row)

pub has_reverse : (fabric : Topology) (channel : ℕ) (row : ChannelRow) → IsWellFormed fabric → channel < length fabric.channels → row ≡ get_or fabric.channels channel row → HasReverse fabric row
has_reverse fabric channel row are h is =
    let found : Contains fabric.channels (reversed row) = rw (← is) at (are.reverses channel row h) in
    let other = found.0 in
    let at : slice_get fabric.channels other ≡ Some (reversed row) = slice_get-get_or fabric.channels other (reversed row) found.1 ∙ ap Some found.2 in
    record {
      other = other;
      tip = rw found.2 at (are.channel_tails other (reversed row) found.1);
      at = channels_are_found fabric other (reversed row) are at;
      is = at;
    }

-- ---- the channels of a switch

pub first_channel-le : (fabric : Topology) (switch : ℕ) → first_channel fabric switch ≤ first_channel fabric (switch + 1)
first_channel-le fabric switch =
    sum_by-le-sum_by (λ (row : ChannelRow). cond (ltb row.tail.0 switch) 1 0) (λ (row : ChannelRow). cond (ltb row.tail.0 (switch + 1)) 1 0) fabric.channels
    (λ row. grind (arith, nat_tests))

pub first_channel-le-length : (fabric : Topology) (switch : ℕ) → first_channel fabric switch ≤ length fabric.channels
first_channel-le-length fabric switch = count_by-le-length (λ (row : ChannelRow). ltb row.tail.0 switch) fabric.channels

-- ---- switches by GUID

equal_from_cmp : (a b : ℕ) → nat_cmp a b ≡ Equal → a ≡ b
equal_from_cmp a b e = grind (arith, nat_tests)

less_differs : (a b : ℕ) → nat_cmp a b ≡ Less → a ≢ b
less_differs a b e = λ same. grind (arith, nat_tests)

greater_differs : (a b : ℕ) → nat_cmp a b ≡ Greater → a ≢ b
greater_differs a b e = λ same. grind (arith, nat_tests)

index_le : (a b guid : ℕ) → a ≤ b → ordering_index (nat_cmp a guid) ≤ ordering_index (nat_cmp b guid)
index_le a b guid le = grind (arith, nat_tests)

-- rows by an ascending key, of any kind
module _ {X : Type 0} (key : X → ℕ) (sought : ℕ) where
  pub number_found : (rows : List X) (place : ℕ) → AllPairs (λ first second. key first < key second) rows → place < length rows → HoldsAt (λ row. nat_cmp (key row) sought ≡ Equal) rows place → position_or_len (λ row. eqb (key row) sought) rows ≡ place
  number_found [] place rise h at = absurd (omega arith)
  number_found (first ∷ rest) place rise h at =
      let rows = first ∷ rest in
      let here : key (get_or rows place first) ≡ sought = equal_from_cmp (key (get_or rows place first)) sought (at first) in
      position_or_len_is (λ row. eqb (key row) sought) rows place first (omega arith)
      (λ k lt. ne_eqb (key (get_or rows k first)) sought (λ e. omega (arith, e, here, rise k place first lt h)))
      (λ _. eq-eqb (key (get_or rows place first)) sought here)

  indexes_rise : (rows : List X) → AllPairs (λ first second. key first < key second) rows → IsNonDecreasingBy (λ row. ordering_index (nat_cmp (key row) sought)) rows
  indexes_rise rows rise = λ i j d le lt.
      elim (cases_lt i j) [
        | inl below ↦ index_le (key (get_or rows i d)) (key (get_or rows j d)) sought (omega (arith, rise i j d below lt))
        | inr ge ↦ let same : i ≡ j = omega arith in rw same (omega arith)
      ]

  pub number_missing : (rows : List X) (place : ℕ) → AllPairs (λ first second. key first < key second) rows → place ≤ length rows → (IsNonDecreasingBy (λ row. ordering_index (nat_cmp (key row) sought)) rows → AllWithin (λ row. nat_cmp (key row) sought ≡ Less) rows 0 place × AllWithin (λ row. nat_cmp (key row) sought ≡ Greater) rows place (length rows)) → position_or_len (λ row. eqb (key row) sought) rows ≡ length rows
  number_missing [] place rise h parts = refl
  number_missing (first ∷ rest) place rise h parts =
      let rows = first ∷ rest in
      let both = parts (indexes_rise rows rise) in
      position_or_len_is (λ row. eqb (key row) sought) rows (length rows) first (omega arith)
      (λ k lt. elim (cases_lt k place) [
        | inl low ↦ ne_eqb (key (get_or rows k first)) sought (less_differs (key (get_or rows k first)) sought (both.0 k first (omega arith) low))
        | inr high ↦ ne_eqb (key (get_or rows k first)) sought (greater_differs (key (get_or rows k first)) sought (both.1 k first high lt))
      ])
      (λ lt. absurd (omega arith))

  -- what the search for a key answers, with the count of the rows where no row has it
  pub number_given : (rows : List X) (found : Result ℕ ℕ) → AllPairs (λ first second. key first < key second) rows → IsSearchInRange found (length rows) → IsBinarySearchResult (λ row. nat_cmp (key row) sought) rows found → result_unwrap_or found (length rows) ≡ position_or_len (λ row. eqb (key row) sought) rows
  number_given rows (Ok place) rise h at = sym (number_found rows place rise h at)
  number_given rows (Err place) rise h parts = sym (number_missing rows place rise h parts)

pub guid_found : (rows : List SwitchRow) (guid place : ℕ) → AllPairs (λ first second. first.guid < second.guid) rows → place < length rows → HoldsAt (λ row. nat_cmp row.guid guid ≡ Equal) rows place → position (λ row. eqb row.guid guid) rows ≡ Some place
guid_found rows guid place rise h at =
    let number = number_found (λ (row : SwitchRow). row.guid) guid rows place rise h at in
    rw (number, lt-ltb place (length rows) h)

pub guid_missing : (rows : List SwitchRow) (guid place : ℕ) → AllPairs (λ first second. first.guid < second.guid) rows → place ≤ length rows → (IsNonDecreasingBy (λ row. ordering_index (nat_cmp row.guid guid)) rows → AllWithin (λ row. nat_cmp row.guid guid ≡ Less) rows 0 place × AllWithin (λ row. nat_cmp row.guid guid ≡ Greater) rows place (length rows)) → position (λ row. eqb row.guid guid) rows ≡ None
guid_missing rows guid place rise h parts =
    let number = number_missing (λ (row : SwitchRow). row.guid) guid rows place rise h parts in
    rw (number, le-ltb (length rows) (length rows) (omega arith))
