-- A set changes one value and no other: rows of cells, one after the other in a list.
use Rattle.std.proofs.Common.{◌≡◌, ◌≢◌, ℕ, zero, suc, ◌+◌, ◌*◌, ◌<◌, ◌≤◌, Bool, true, false, List, [], ◌∷◌, length, refl, sym, ◌∙◌, ap, subst, arith, Some, None, Option, ◌⊎◌, inl, inr, replicate, get_or-set_same, get_or-set_other}
use Rattle.std.proofs.Math.Nat.{mul-le-mul_left}
use Rattle.std.proofs.Math.Bool.{and_comm}
use Rattle.std.proofs.lemmas.Bool.{cases_order, cases_lt, ne_eqb, and_from, and_left, and_right, cond-true, cond-false, lt-ltb, le-ltb, ltb-true, ltb-false}
use Rattle.std.proofs.lemmas.List.{get_or-replicate, get_or_past, length-replicate}
use Rattle.std.proofs.lemmas.Bool.Decides.{eqb_tells}
use Rattle.std.specs.Prelude.{slice_get, slice_index_or, slice_set, ◌==◌, ◌&&◌, if◌then◌else◌, option_map, nat_lt}
use Rattle.fab_tables.specs.Entries.{Entries, AreEntries, index_of, cell, port_in_column, with_port_in_column, with_entry, no_entries}
use Rattle.fab_tables.specs.LaneTables.{LaneTables, AreLaneTables, level_in_column, with_level_in_column, with_level, no_lanes}
use Rattle.fab_tables.specs.Laws.{OneEntryChanges, OneLevelChanges, OneNumberChanges}

-- a row that comes first is over before the other begins
row_before : (w s o i : ℕ) → s < o → i < w → cell w s i < cell w o 0
row_before w s o i h b = omega (arith, b, mul-le-mul_left w h)

cell_rows : (w s i o j : ℕ) → i < w → j < w → cell w s i ≡ cell w o j → (s ≡ o) × (i ≡ j)
cell_rows w s i o j a b e = elim (cases_order s o) [ inl x ↦ (x, omega (arith, e, ap (λ r. r * w) x)) | inr (inl x) ↦ absurd (omega (arith, e, row_before w s o i x a)) | inr (inr x) ↦ absurd (omega (arith, e, row_before w o s j x b)) ]

cell_within : (w n s i : ℕ) → s < n → i < w → cell w s i < n * w
cell_within w n s i a b = omega (arith, row_before w s n i a b)

pub chosen : {A : Type 0} (b : Bool) (x y : A) → b ≡ true → x ≡ (if b then x else y)
chosen true x y e = refl
chosen false x y e = cc

pub passed : {A : Type 0} (b : Bool) (x y : A) → b ≡ false → y ≡ (if b then x else y)
passed true x y e = cc
passed false x y e = refl

-- where a value is read only inside a bound, and what is set is inside
pub changed_inside : {A : Type 0} (inside here : Bool) (changed old new d : A) → (inside ≡ true → changed ≡ (if here then new else old)) → (inside ≡ false → here ≡ false) →
    (if inside then changed else d) ≡ (if here then new else (if inside then old else d))
changed_inside true here changed old new d same other = same refl
changed_inside false here changed old new d same other = passed here new d (other refl)

-- one value of a list of rows is set
pub set_cell : {A : Type 0} (xs : List A) (w n s i o j : ℕ) (new d : A) → length xs ≡ n * w → s < n → i < w → j < w →
    slice_index_or (slice_set xs (cell w s i) new) (cell w o j) d ≡ (if (o == s) && (j == i) then new else slice_index_or xs (cell w o j) d)
set_cell {A} xs w n s i o j new d whole a b c = go (eqb_tells o s) (eqb_tells j i)
  where
    Same : Type 0
    Same = slice_index_or (slice_set xs (cell w s i) new) (cell w o j) d ≡ (if (o == s) && (j == i) then new else slice_index_or xs (cell w o j) d)

    there : o ≡ s → j ≡ i → slice_index_or (slice_set xs (cell w s i) new) (cell w o j) d ≡ new
    there x y = ap (λ k. slice_index_or (slice_set xs (cell w s i) new) k d) (ap (λ r. cell w r j) x ∙ ap (λ k. cell w s k) y)
        ∙ get_or-set_same xs (cell w s i) new d (omega (arith, whole, cell_within w n s i a b))

    elsewhere : (cell w o j ≡ cell w s i → ⊥) → slice_index_or (slice_set xs (cell w s i) new) (cell w o j) d ≡ slice_index_or xs (cell w o j) d
    elsewhere ne = get_or-set_other xs (cell w s i) (cell w o j) new d ne

    go : (((o == s) ≡ true) × (o ≡ s)) ⊎ (((o == s) ≡ false) × (o ≢ s)) → (((j == i) ≡ true) × (j ≡ i)) ⊎ (((j == i) ≡ false) × (j ≢ i)) →
        slice_index_or (slice_set xs (cell w s i) new) (cell w o j) d ≡ (if (o == s) && (j == i) then new else slice_index_or xs (cell w o j) d)
    go (inl x) (inl y) = there x.1 y.1 ∙ chosen ((o == s) && (j == i)) new _ (and_from _ _ x.0 y.0)
    go (inl x) (inr y) = elsewhere (λ e. y.1 ((cell_rows w o j s i c b e).1)) ∙ passed ((o == s) && (j == i)) new _ (and_right _ _ y.0)
    go (inr x) y = elsewhere (λ e. x.1 ((cell_rows w o j s i c b e).0)) ∙ passed ((o == s) && (j == i)) new _ (and_left _ _ x.0)

pub none_some : {A : Type 0} (a : A) → None ≡ Some a → ⊥
none_some a e = cc

pub unsome : {A : Type 0} (a b : A) → Some a ≡ Some b → a ≡ b
unsome a b e = cc

-- the place of a number in a list
pub index_found : (n : ℕ) (xs : List ℕ) (i : ℕ) → index_of n xs ≡ Some i → (i < length xs) × (slice_get xs i ≡ Some n)
index_found n [] i e = absurd (none_some i e)
index_found n (m ∷ ms) i e = test (λ k x. index_found n ms k x) (eqb_tells m n)
  where
    later : ((k : ℕ) → index_of n ms ≡ Some k → (k < length ms) × (slice_get ms k ≡ Some n)) → (o : Option ℕ) → index_of n ms ≡ o → option_map (λ k. k + 1) o ≡ Some i → (i < length (m ∷ ms)) × (slice_get (m ∷ ms) i ≡ Some n)
    later rest None x y = absurd (none_some i y)
    later rest (Some k) x y =
        let found : (k < length ms) × (slice_get ms k ≡ Some n) = rest k x in
        let next : suc k ≡ i = omega (arith, unsome (k + 1) i y) in
        subst (λ p. (p < length (m ∷ ms)) × (slice_get (m ∷ ms) p ≡ Some n)) next (omega (arith, found.0), found.1)

    first : ((k : ℕ) → index_of n ms ≡ Some k → (k < length ms) × (slice_get ms k ≡ Some n)) → (b : Bool) → (b ≡ true → m ≡ n) → (if b then Some 0 else option_map (λ k. k + 1) (index_of n ms)) ≡ Some i → (i < length (m ∷ ms)) × (slice_get (m ∷ ms) i ≡ Some n)
    first rest true same x = subst (λ p. (p < length (m ∷ ms)) × (slice_get (m ∷ ms) p ≡ Some n)) (unsome 0 i x) (omega arith, ap (λ y. Some y) (same refl))
    first rest false same x = later rest (index_of n ms) refl x

    test : ((k : ℕ) → index_of n ms ≡ Some k → (k < length ms) × (slice_get ms k ≡ Some n)) → (((m == n) ≡ true) × (m ≡ n)) ⊎ (((m == n) ≡ false) × (m ≢ n)) → (i < length (m ∷ ms)) × (slice_get (m ∷ ms) i ≡ Some n)
    test rest t = first rest (m == n) (λ x. elim t [ inl a ↦ a.1 | inr b ↦ absurd (clash (m == n) b.0 x) ]) e
      where
        clash : (b : Bool) → b ≡ false → b ≡ true → ⊥
        clash b x y = cc

-- a number that is in a list has a place
pub index_there : (n : ℕ) (xs : List ℕ) (k : ℕ) → k < length xs → slice_index_or xs k n ≡ n → index_of n xs ≡ None → ⊥
index_there n [] k h e none = omega arith
index_there n (m ∷ ms) k h e none = test (λ j a b c. index_there n ms j a b c) k h e (eqb_tells m n)
  where
    not_some : (o : Option ℕ) → option_map (λ i. i + 1) o ≡ None → o ≡ None
    not_some None x = refl
    not_some (Some i) x = absurd (none_some (i + 1) (sym x))

    passes : (b : Bool) → b ≡ false → (if b then Some 0 else option_map (λ i. i + 1) (index_of n ms)) ≡ None → index_of n ms ≡ None
    passes true x y = cc
    passes false x y = not_some (index_of n ms) y

    stops : (b : Bool) → b ≡ true → (if b then Some 0 else option_map (λ i. i + 1) (index_of n ms)) ≡ None → ⊥
    stops true x y = none_some 0 (sym y)
    stops false x y = cc

    test : ((j : ℕ) → j < length ms → slice_index_or ms j n ≡ n → index_of n ms ≡ None → ⊥) → (j : ℕ) → j < length (m ∷ ms) → slice_index_or (m ∷ ms) j n ≡ n →
        (((m == n) ≡ true) × (m ≡ n)) ⊎ (((m == n) ≡ false) × (m ≢ n)) → ⊥
    test rest j a b (inl x) = stops (m == n) x.0 none
    test rest zero a b (inr y) = y.1 b
    test rest (suc j) a b (inr y) = rest j (omega arith) b (passes (m == n) y.0 none)

-- places of two numbers are one exactly where the numbers are
same_test : (m n : ℕ) (xs : List ℕ) (i j : ℕ) → index_of m xs ≡ Some i → index_of n xs ≡ Some j → (j == i) ≡ (n == m)
same_test m n xs i j x y = go (eqb_tells j i) (eqb_tells n m)
  where
    at_m : (i < length xs) × (slice_get xs i ≡ Some m)
    at_m = index_found m xs i x

    at_n : (j < length xs) × (slice_get xs j ≡ Some n)
    at_n = index_found n xs j y

    go : (((j == i) ≡ true) × (j ≡ i)) ⊎ (((j == i) ≡ false) × (j ≢ i)) → (((n == m) ≡ true) × (n ≡ m)) ⊎ (((n == m) ≡ false) × (n ≢ m)) → (j == i) ≡ (n == m)
    go (inl a) (inl b) = a.0 ∙ sym b.0
    go (inr a) (inr b) = a.0 ∙ sym b.0
    go (inl a) (inr b) = absurd (b.1 (unsome n m (sym at_n.1 ∙ ap (λ k. slice_get xs k) a.1 ∙ at_m.1)))
    go (inr a) (inl b) = absurd (a.1 (unsome j i (sym y ∙ ap (λ k. index_of k xs) b.1 ∙ x)))

-- a number that has no place is another
other_test : (m n : ℕ) (xs : List ℕ) (i : ℕ) → index_of m xs ≡ Some i → index_of n xs ≡ None → (n == m) ≡ false
other_test m n xs i x y = ne_eqb n m (λ e. none_some i (sym y ∙ ap (λ k. index_of k xs) e ∙ x))

-- the port of a switch in the column of a LID, and behind the last switch
pub port_there : (e : Entries) (s i : ℕ) → s < e.switches → port_in_column e s (Some i) ≡ slice_index_or e.ports (cell e.switches i s) 255
port_there e s i low = cond-true (nat_lt s e.switches) (slice_index_or e.ports (cell e.switches i s) 255) 255 (lt-ltb s e.switches low)

pub port_past : (e : Entries) (s : ℕ) (o : Option ℕ) → e.switches ≤ s → port_in_column e s o ≡ 255
port_past e s None past = refl
port_past e s (Some i) past = cond-false (nat_lt s e.switches) (slice_index_or e.ports (cell e.switches i s) 255) 255 (le-ltb s e.switches past)

-- and likewise a level
pub level_there : (l : LaneTables) (s i : ℕ) → s < l.switches → level_in_column l s (Some i) ≡ slice_index_or l.levels (cell l.switches i s) None
level_there l s i low = cond-true (nat_lt s l.switches) (slice_index_or l.levels (cell l.switches i s) None) None (lt-ltb s l.switches low)

pub level_past : (l : LaneTables) (s : ℕ) (o : Option ℕ) → l.switches ≤ s → level_in_column l s o ≡ None
level_past l s None past = refl
level_past l s (Some i) past = cond-false (nat_lt s l.switches) (slice_index_or l.levels (cell l.switches i s) None) None (le-ltb s l.switches past)

-- at first there is neither
all_alike : {A : Type 0} (n i : ℕ) (x : A) → slice_index_or (replicate n x) i x ≡ x
all_alike n i x = elim (cases_lt i n) [ inl low ↦ get_or-replicate n i x x low | inr past ↦ get_or_past (replicate n x) i x (omega (arith, length-replicate n x)) ]

pub no_port : (switches : ℕ) (lids : List ℕ) (s : ℕ) (o : Option ℕ) → port_in_column (no_entries switches lids) s o ≡ 255
no_port switches lids s None = refl
no_port switches lids s (Some i) = elim (cases_lt s switches) [
  | inl low ↦ port_there (no_entries switches lids) s i low ∙ all_alike (length lids * switches) (cell switches i s) 255
  | inr past ↦ port_past (no_entries switches lids) s (Some i) past
]

pub no_level : (count switches channels : ℕ) (lids : List ℕ) (s : ℕ) (o : Option ℕ) → level_in_column (no_lanes count switches channels lids) s o ≡ None
no_level count switches channels lids s None = refl
no_level count switches channels lids s (Some i) = elim (cases_lt s switches) [
  | inl low ↦ level_there (no_lanes count switches channels lids) s i low ∙ all_alike (length lids * switches) (cell switches i s) None
  | inr past ↦ level_past (no_lanes count switches channels lids) s (Some i) past
]

module _ (e : Entries) (are : AreEntries e) (s lid port o n : ℕ) (low : s < e.switches) where
  entry_changes : (x y : Option ℕ) → index_of lid e.in_use ≡ x → index_of n e.in_use ≡ y → (x ≡ None → ⊥) →
      port_in_column (with_port_in_column e s port x) o y ≡ (if (o == s) && (n == lid) then port else port_in_column e o y)
  entry_changes None y a b c = absurd (c refl)
  entry_changes (Some i) None a b c = passed ((o == s) && (n == lid)) port 255 (and_right (o == s) (n == lid) (other_test lid n e.in_use i a b))
  entry_changes (Some i) (Some j) a b c = changed_inside (nat_lt o e.switches) ((o == s) && (n == lid)) _ (slice_index_or e.ports (cell e.switches j o) 255) port 255 (λ t. inside (ltb-true o e.switches t))
      (λ f. and_left (o == s) (n == lid) (ne_eqb o s (λ same. omega (arith, same, low, ltb-false o e.switches f))))
    where
      inside : o < e.switches → slice_index_or (slice_set e.ports (cell e.switches i s) port) (cell e.switches j o) 255 ≡ (if (o == s) && (n == lid) then port else slice_index_or e.ports (cell e.switches j o) 255)
      inside h =
          set_cell e.ports e.switches (length e.in_use) i s j o port 255 are.whole (index_found lid e.in_use i a).0 low h
          ∙ ap (λ t. if t then port else slice_index_or e.ports (cell e.switches j o) 255) (and_comm (j == i) (o == s) ∙ ap (λ t. (o == s) && t) (same_test lid n e.in_use i j a b))

  -- the LIDs stay
  lids_stay : (x : Option ℕ) → (with_port_in_column e s port x).in_use ≡ e.in_use
  lids_stay None = refl
  lids_stay (Some i) = refl

pub one_entry_changes : OneEntryChanges
one_entry_changes e s lid port o n are low there =
    ap (λ xs. port_in_column (with_entry e s lid port) o (index_of n xs)) (lids_stay e are s lid port o n low (index_of lid e.in_use))
    ∙ entry_changes e are s lid port o n low (index_of lid e.in_use) (index_of n e.in_use) refl refl (index_there lid e.in_use there.0 there.1 there.2)

module _ (l : LaneTables) (are : AreLaneTables l) (s lid o n : ℕ) (new : Option ℕ) (low : s < l.switches) where
  level_changes : (x y : Option ℕ) → index_of lid l.in_use ≡ x → index_of n l.in_use ≡ y → (x ≡ None → ⊥) →
      level_in_column (with_level_in_column l s new x) o y ≡ (if (o == s) && (n == lid) then new else level_in_column l o y)
  level_changes None y a b c = absurd (c refl)
  level_changes (Some i) None a b c = passed ((o == s) && (n == lid)) new None (and_right (o == s) (n == lid) (other_test lid n l.in_use i a b))
  level_changes (Some i) (Some j) a b c = changed_inside (nat_lt o l.switches) ((o == s) && (n == lid)) _ (slice_index_or l.levels (cell l.switches j o) None) new None (λ t. inside (ltb-true o l.switches t))
      (λ f. and_left (o == s) (n == lid) (ne_eqb o s (λ same. omega (arith, same, low, ltb-false o l.switches f))))
    where
      inside : o < l.switches → slice_index_or (slice_set l.levels (cell l.switches i s) new) (cell l.switches j o) None ≡ (if (o == s) && (n == lid) then new else slice_index_or l.levels (cell l.switches j o) None)
      inside h =
          set_cell l.levels l.switches (length l.in_use) i s j o new None are.all_levels (index_found lid l.in_use i a).0 low h
          ∙ ap (λ t. if t then new else slice_index_or l.levels (cell l.switches j o) None) (and_comm (j == i) (o == s) ∙ ap (λ t. (o == s) && t) (same_test lid n l.in_use i j a b))

  level_lids_stay : (x : Option ℕ) → (with_level_in_column l s new x).in_use ≡ l.in_use
  level_lids_stay None = refl
  level_lids_stay (Some i) = refl

pub one_level_changes : OneLevelChanges
one_level_changes l s lid o n new are low there =
    ap (λ xs. level_in_column (with_level l s lid new) o (index_of n xs)) (level_lids_stay l are s lid o n new low (index_of lid l.in_use))
    ∙ level_changes l are s lid o n new low (index_of lid l.in_use) (index_of n l.in_use) refl refl (index_there lid l.in_use there.0 there.1 there.2)

-- lanes of one channel and of others
pub one_number_changes : OneNumberChanges
one_number_changes l c on_lane new o other are low lane_low =
    changed_inside (nat_lt other 15) ((o == c) && (other == on_lane)) _ (slice_index_or l.numbers (cell 15 o other) 0) new 0
    (λ t. set_cell l.numbers 15 l.channels c on_lane o other new 0 are.all_numbers low lane_low (ltb-true other 15 t))
    (λ f. and_right (o == c) (other == on_lane) (ne_eqb other on_lane (λ same. omega (arith, same, lane_low, ltb-false other 15 f))))
