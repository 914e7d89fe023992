-- Sources are numbered by their rows of levels, and the numbers are those of their classes.
use Rattle.std.proofs.Common.{◌≡◌, ℕ, zero, suc, ◌+◌, ◌<◌, inl, inr, Bool, true, false, cond, ◌&&◌, ◌⊎◌, List, [], ◌∷◌, ◌++◌, length, Option, Some, None, refl, sym, ◌∙◌, ap, subst, arith, Decides}
use Rattle.std.specs.Prelude.{filter, map, not, nat_eq, nat_lt, slice_get, slice_index_or}
use Rattle.std.specs.List.{list_all, list_any, range_with_len}
use Rattle.std.specs.Option.{option_eq}
use Rattle.std.specs.Cmp.Lexicographic.{pointwise}
use Rattle.std.proofs.lemmas.Bool.{cases_Bool, cases_eq, eq-eqb, ne_eqb, lt-ltb, ltb-true}
use Rattle.std.proofs.lemmas.List.{append-nil, length-append, get_or_append_left}
use Rattle.std.proofs.Math.Seq.{get_or-append_seam}
use Rattle.std.proofs.lemmas.List.Elements.{filter-append}
use Rattle.std.proofs.lemmas.Option.{get_or_from_slice_get, same_Some, none-some}
use Rattle.std.proofs.lemmas.Slice.Eq.{slice_eq-Decides}
use Rattle.fab_model.specs.Topology.{Topology, lids_of, is_source}
use Rattle.fab_model.proofs.Faultless.Facts.{slice_get_in}
use Rattle.fab_model.proofs.Lists.Members.{In, in_filter, from_filter, list_any_from_in, from_list_any}
use Rattle.fab_model.proofs.Lists.Found.{slice_get_some, from_range, in_range}
use Rattle.fab_model.proofs.Tables.{filter_range_more}
use Rattle.fab_tables.specs.Entries.{Entries}
use Rattle.fab_tables.specs.LaneTables.{LaneTables}
use Rattle.fab_export.specs.LevelsInUse.{sources, level_to}
use Rattle.fab_export.specs.Classes.{have_same_levels, is_least_of_class, class_of}
use Rattle.fab_export.specs.ClassNumbers.{ClassNumbers, AreClasses, IsNumber, IsNumbering, IsNumberOf}
use Rattle.fab_export.specs.SourceLevels.{levels_of}
use Rattle.fab_export.proofs.ListTests.{both_true, and_true, same_options, options_same}

-- ---- rows

front_same : {X : Type 0} (x y : X) (xs ys : List X) → x ≡ y → xs ≡ ys → x ∷ xs ≡ y ∷ ys
front_same x y xs ys here rest = cc

front_is : {X : Type 0} (x y : X) (xs ys : List X) → x ∷ xs ≡ y ∷ ys → (x ≡ y) × (xs ≡ ys)
front_is x y xs ys same = (cc, cc)

rows_from_test : (f g : ℕ → Option ℕ) (xs : List ℕ) → list_all (λ x. option_eq nat_eq (f x) (g x)) xs ≡ true → map f xs ≡ map g xs
rows_from_test f g [] told = refl
rows_from_test f g (x ∷ xs) told =
    let both : (option_eq nat_eq (f x) (g x) ≡ true) × (list_all (λ y. option_eq nat_eq (f y) (g y)) xs ≡ true) = both_true (option_eq nat_eq (f x) (g x)) (list_all (λ y. option_eq nat_eq (f y) (g y)) xs) told in
    front_same (f x) (g x) (map f xs) (map g xs) (same_options (f x) (g x) both.0) (rows_from_test f g xs both.1)

test_from_rows : (f g : ℕ → Option ℕ) (xs : List ℕ) → map f xs ≡ map g xs → list_all (λ x. option_eq nat_eq (f x) (g x)) xs ≡ true
test_from_rows f g [] same = refl
test_from_rows f g (x ∷ xs) same =
    let both : (f x ≡ g x) × (map f xs ≡ map g xs) = front_is (f x) (g x) (map f xs) (map g xs) same in
    and_true (option_eq nat_eq (f x) (g x)) (list_all (λ y. option_eq nat_eq (f y) (g y)) xs) (options_same (f x) (g x) both.0) (test_from_rows f g xs both.1)

rows_decided : (xs ys : List (Option ℕ)) → Decides (pointwise (option_eq nat_eq) xs ys) (xs ≡ ys)
rows_decided xs ys = slice_eq-Decides (λ a b. (same_options a b, options_same a b)) xs ys (pointwise (option_eq nat_eq) xs ys) refl

-- ---- lists with one more at the end

kept_at : {X : Type 0} (xs : List X) (x : X) (k : ℕ) (y : X) → slice_get xs k ≡ Some y → slice_get (xs ++ x ∷ []) k ≡ Some y
kept_at [] x k y is = absurd (cc)
kept_at (z ∷ zs) x zero y is = is
kept_at (z ∷ zs) x (suc k) y is = kept_at zs x k y is

new_at : {X : Type 0} (xs : List X) (x : X) → slice_get (xs ++ x ∷ []) (length xs) ≡ Some x
new_at [] x = refl
new_at (z ∷ zs) x = new_at zs x

-- one of them was there before, or is the new one
from_more : {X : Type 0} (xs : List X) (x : X) (k : ℕ) (y : X) → slice_get (xs ++ x ∷ []) k ≡ Some y → (slice_get xs k ≡ Some y) ⊎ ((k ≡ length xs) × (x ≡ y))
from_more [] x zero y is = inr (refl, same_Some x y is)
from_more [] x (suc k) y is = absurd (cc)
from_more (z ∷ zs) x zero y is = inl is
from_more (z ∷ zs) x (suc k) y is = elim (from_more zs x k y is) [
  | inl old ↦ inl old
  | inr new ↦ inr (omega (arith, new.0), new.1)
]

-- ---- what passes two tests

tested_front : (p : ℕ → Bool) (x : ℕ) (b : Bool) (xs : List ℕ) → filter p (cond b (x ∷ xs) xs) ≡ cond (b && p x) (x ∷ filter p xs) (filter p xs)
tested_front p x true xs = refl
tested_front p x false xs = refl

both_tested : (p q r : ℕ → Bool) (xs : List ℕ) → ((x : ℕ) → In x xs → r x ≡ (q x && p x)) → filter r xs ≡ filter p (filter q xs)
both_tested p q r [] agree = refl
both_tested p q r (x ∷ xs) agree =
    ap (λ b. cond b (x ∷ filter r xs) (filter r xs)) (agree x (inl refl))
    ∙ ap (λ ys. cond (q x && p x) (x ∷ ys) ys) (both_tested p q r xs (λ y within. agree y (inr within)))
    ∙ sym (tested_front p x (q x) (filter q xs))

module _ (t : Topology) (e : Entries) (l : LaneTables) where
  rows_of_same : (a b : ℕ) → have_same_levels t e l a b ≡ true → levels_of t e l a ≡ levels_of t e l b
  rows_of_same a b told = rows_from_test (level_to t e l a) (level_to t e l b) (lids_of t) told

  same_of_rows : (a b : ℕ) → levels_of t e l a ≡ levels_of t e l b → have_same_levels t e l a b ≡ true
  same_of_rows a b same = test_from_rows (level_to t e l a) (level_to t e l b) (lids_of t) same

  -- ---- the sources among the first switches, and the least of each class

  abbrev first_sources : ℕ → List ℕ
  first_sources n = filter (is_source t) (range_with_len 0 n)

  abbrev first_least : ℕ → List ℕ
  first_least n = filter (is_least_of_class t e l) (first_sources n)

  no_source_more : (n : ℕ) → is_source t n ≡ false → first_sources (n + 1) ≡ first_sources n
  no_source_more n off = filter_range_more (is_source t) n ∙ ap (λ b. first_sources n ++ cond b (n ∷ []) []) off ∙ append-nil (first_sources n)

  least_more : (n : ℕ) → is_source t n ≡ true → first_least (n + 1) ≡ first_least n ++ cond (is_least_of_class t e l n) (n ∷ []) []
  least_more n is =
      ap (filter (is_least_of_class t e l)) (filter_range_more (is_source t) n ∙ ap (λ b. first_sources n ++ cond b (n ∷ []) []) is)
      ∙ filter-append (is_least_of_class t e l) (first_sources n) (n ∷ [])

  is_one : (s : ℕ) → s < length t.switches → is_source t s ≡ true → In s (sources t)
  is_one s low is = in_filter (is_source t) (range_with_len 0 (length t.switches)) s (in_range 0 (length t.switches) s (omega arith) (omega (arith, low))) is

  not_least : (r n : ℕ) → r < n → In r (sources t) → levels_of t e l r ≡ levels_of t e l n → is_least_of_class t e l n ≡ false
  not_least r n less within same =
      ap not (list_any_from_in (λ s. nat_lt s n && have_same_levels t e l s n) (sources t) r within (and_true (nat_lt r n) (have_same_levels t e l r n) (lt-ltb r n less) (same_of_rows r n same)))

  is_least : (n : ℕ) → ((r : ℕ) → r < n → In r (sources t) → levels_of t e l r ≡ levels_of t e l n → ⊥) → is_least_of_class t e l n ≡ true
  is_least n none = elim (cases_Bool (list_any (λ s. nat_lt s n && have_same_levels t e l s n) (sources t))) [
    | inl some ↦
        (let found = from_list_any (λ s. nat_lt s n && have_same_levels t e l s n) (sources t) some in
        let both : (nat_lt found.0 n ≡ true) × (have_same_levels t e l found.0 n ≡ true) = both_true (nat_lt found.0 n) (have_same_levels t e l found.0 n) found.2 in
        absurd (none found.0 (ltb-true found.0 n both.0) found.1 (rows_of_same found.0 n both.1)))
    | inr off ↦ ap not off
  ]

  -- ---- one switch more

  pub number_kept : (least : List ℕ) (n s : ℕ) (number : Option ℕ) → IsNumberOf t e l least s number → IsNumberOf t e l (least ++ n ∷ []) s number
  number_kept least n s None off = off
  number_kept least n s (Some k) is =
      (is.0, record { first = is.1.first; there = kept_at least n k is.1.first is.1.there; same = is.1.same })

  module _ {K : Type 0} (items : K → List (Option ℕ)) (by : K → Option ℕ) (n : ℕ) (least : List ℕ) (so_far : IsNumbering t e l n least items by) where
    -- a least source is one of the first
    of_first : (k s : ℕ) → slice_get least k ≡ Some s → (s < n) × (is_source t s ≡ true)
    of_first k s there =
        let within : In s (first_least n) = subst (λ (xs : List ℕ). In s xs) so_far.by_number (slice_get_in least k s there) in
        let source = from_filter (is_source t) (range_with_len 0 n) s (from_filter (is_least_of_class t e l) (first_sources n) s within).0 in
        (omega (arith, (from_range 0 n s source.0).1), source.1)

    -- what holds of the first and of one more
    each_more : (P : ℕ → Type 0) → ((s : ℕ) → s < n → P s) → P n → (s : ℕ) → s < n + 1 → P s
    each_more P old new s low = elim (cases_eq s n) [
      | inl same ↦ subst P (sym same) new
      | inr ne ↦ old s (omega (arith, low, ne))
    ]

    pub with_no_source : is_source t n ≡ false → IsNumbering t e l (n + 1) least items by
    with_no_source off = record {
      by_number = so_far.by_number ∙ ap (filter (is_least_of_class t e l)) (sym (no_source_more n off));
      found = so_far.found;
      known = so_far.known;
      each = each_more (λ s. is_source t s ≡ true → (k : ℕ) × IsNumber t e l least s k) so_far.each (λ is. absurd (cc));
      apart = so_far.apart;
    }

    module _ (low : n < length t.switches) (source : is_source t n ≡ true) (q : K) (row : items q ≡ levels_of t e l n) where
      -- a source whose levels are known
      pub known_number : (k : ℕ) → by q ≡ Some k → IsNumber t e l least n k
      known_number k is =
          let has = so_far.known q k is in record { first = has.0; there = has.1; same = has.2 ∙ row }

      pub with_known : (k : ℕ) → by q ≡ Some k → IsNumbering t e l (n + 1) least items by
      with_known k is = record {
        by_number = so_far.by_number ∙ sym (least_more n source ∙ ap (λ b. first_least n ++ cond b (n ∷ []) []) stays ∙ append-nil (first_least n));
        found = so_far.found;
        known = so_far.known;
        each = each_more (λ s. is_source t s ≡ true → (k : ℕ) × IsNumber t e l least s k) so_far.each (λ _. (k, known_number k is));
        apart = so_far.apart;
      }
        where
          stays : is_least_of_class t e l n ≡ false
          stays =
              let one : IsNumber t e l least n k = known_number k is in
              let at = of_first k one.first one.there in
              not_least one.first n at.0 (is_one one.first (omega (arith, at.0, low)) at.1) one.same

      -- a source of new levels
      module _ (unknown : by q ≡ None) where
        other_levels : (k s : ℕ) → slice_get least k ≡ Some s → levels_of t e l s ≡ levels_of t e l n → ⊥
        other_levels k s there same =
            none-some k (sym unknown ∙ so_far.found q k s there (row ∙ sym same))

        pub new_number : IsNumber t e l (least ++ n ∷ []) n (length least)
        new_number = record { first = n; there = new_at least n; same = refl }

        pub with_new : (next : K → Option ℕ) → ((other : K) → next other ≡ cond (pointwise (option_eq nat_eq) (items q) (items other)) (Some (length least)) (by other)) → IsNumbering t e l (n + 1) (least ++ n ∷ []) items next
        with_new next updated = record {
          by_number = ap (λ (xs : List ℕ). xs ++ n ∷ []) so_far.by_number ∙ sym (least_more n source ∙ ap (λ b. first_least n ++ cond b (n ∷ []) []) leads);
          found = found;
          known = known;
          each = each_more (λ s. is_source t s ≡ true → (k : ℕ) × IsNumber t e l (least ++ n ∷ []) s k)
              (λ s less is. let old = so_far.each s less is in (old.0, record { first = old.1.first; there = kept_at least n old.0 old.1.first old.1.there; same = old.1.same }))
              (λ _. (length least, new_number));
          apart = apart;
        }
          where
            leads : is_least_of_class t e l n ≡ true
            leads = is_least n (λ r less within same. (
                let old = so_far.each r less (from_filter (is_source t) (range_with_len 0 (length t.switches)) r within).1 in
                other_levels old.0 old.1.first old.1.there (old.1.same ∙ same)
                ))

            -- at the new row, and at others
            here : (other : K) → items q ≡ items other → next other ≡ Some (length least)
            here other same = updated other ∙ ap (λ b. cond b (Some (length least)) (by other)) ((rows_decided (items q) (items other)).1 same)

            elsewhere : (other : K) → pointwise (option_eq nat_eq) (items q) (items other) ≡ false → next other ≡ by other
            elsewhere other off = updated other ∙ ap (λ b. cond b (Some (length least)) (by other)) off

            found : (other : K) (k s : ℕ) → slice_get (least ++ n ∷ []) k ≡ Some s → items other ≡ levels_of t e l s → next other ≡ Some k
            found other k s there has = elim (from_more least n k s there) [
              | inl old ↦ elim (cases_Bool (pointwise (option_eq nat_eq) (items q) (items other))) [
                | inl same ↦ absurd (other_levels k s old (sym has ∙ sym ((rows_decided (items q) (items other)).0 same) ∙ row))
                | inr off ↦ elsewhere other off ∙ so_far.found other k s old has
              ]
              | inr new ↦ here other (row ∙ ap (levels_of t e l) new.1 ∙ sym has) ∙ ap Some (sym new.0)
            ]

            known : (other : K) (k : ℕ) → next other ≡ Some k → (s : ℕ) × (slice_get (least ++ n ∷ []) k ≡ Some s) × (levels_of t e l s ≡ items other)
            known other k is = elim (cases_Bool (pointwise (option_eq nat_eq) (items q) (items other))) [
              | inl same ↦
                  (let row_same : items q ≡ items other = (rows_decided (items q) (items other)).0 same in
                  let number : length least ≡ k = same_Some (length least) k (sym (here other row_same) ∙ is) in
                  (n, subst (λ (m : ℕ). slice_get (least ++ n ∷ []) m ≡ Some n) number (new_at least n), sym row ∙ row_same))
              | inr off ↦
                  (let old = so_far.known other k (sym (elsewhere other off) ∙ is) in
                  (old.0, kept_at least n k old.0 old.1, old.2))
            ]

            apart : (i j a b : ℕ) → slice_get (least ++ n ∷ []) i ≡ Some a → slice_get (least ++ n ∷ []) j ≡ Some b → levels_of t e l a ≡ levels_of t e l b → i ≡ j
            apart i j a b one other same = go (from_more least n i a one) (from_more least n j b other)
              where
                go : (slice_get least i ≡ Some a) ⊎ ((i ≡ length least) × (n ≡ a)) → (slice_get least j ≡ Some b) ⊎ ((j ≡ length least) × (n ≡ b)) → i ≡ j
                go (inl x) (inl y) = so_far.apart i j a b x y same
                go (inl x) (inr y) = absurd (other_levels i a x (same ∙ ap (levels_of t e l) (sym y.1)))
                go (inr x) (inl y) = absurd (other_levels j b y (sym same ∙ ap (levels_of t e l) (sym x.1)))
                go (inr x) (inr y) = x.0 ∙ sym y.0

  -- ---- all switches

  -- the number of each of the first switches
  pub record AreNumbers (least : List ℕ) (numbers : List (Option ℕ)) (n : ℕ) : Type 0 where
    pub counted : length numbers ≡ n
    pub each : (s : ℕ) → s < n → IsNumberOf t e l least s (slice_index_or numbers s None)

  module _ {K : Type 0} (items : K → List (Option ℕ)) (by : K → Option ℕ) (n : ℕ) (least : List ℕ) (all : IsNumbering t e l n least items by) where
    -- a number stands for the class of its least source
    same_number : (number first s : ℕ) → slice_get least number ≡ Some first → (o : Option ℕ) → IsNumberOf t e l least s o
        → option_eq nat_eq o (Some number) ≡ (is_source t s && have_same_levels t e l first s)
    same_number number first s there None off = sym (ap (λ b. b && have_same_levels t e l first s) off)
    same_number number first s there (Some k) is = told ∙ sym (ap (λ b. b && have_same_levels t e l first s) is.0)
      where
        told : nat_eq k number ≡ have_same_levels t e l first s
        told = elim (cases_eq k number) [
          | inl same ↦
              (let one : is.1.first ≡ first = same_Some is.1.first first (sym is.1.there ∙ ap (slice_get least) same ∙ there) in
              eq-eqb k number same ∙ sym (same_of_rows first s (ap (levels_of t e l) (sym one) ∙ is.1.same)))
          | inr ne ↦ elim (cases_Bool (have_same_levels t e l first s)) [
            | inl alike ↦ absurd (ne (all.apart k number is.1.first first is.1.there there (is.1.same ∙ sym (rows_of_same first s alike))))
            | inr off ↦ ne_eqb k number ne ∙ sym off
          ]
        ]

    pub of_number : (numbers : List (Option ℕ)) → AreNumbers least numbers n → (number first : ℕ) → slice_get least number ≡ Some first
        → filter (λ s. option_eq nat_eq (slice_index_or numbers s None) (Some number)) (range_with_len 0 n) ≡ filter (have_same_levels t e l first) (first_sources n)
    of_number numbers are number first there =
        both_tested (have_same_levels t e l first) (is_source t) (λ s. option_eq nat_eq (slice_index_or numbers s None) (Some number)) (range_with_len 0 n)
        (λ s within. same_number number first s there (slice_index_or numbers s None) (are.each s (omega (arith, (from_range 0 n s within).1))))

  pub are_classes : {K : Type 0} (items : K → List (Option ℕ)) (by : K → Option ℕ) (c : ClassNumbers) → IsNumbering t e l (length t.switches) c.least items by → AreNumbers c.least c.numbers (length t.switches) → AreClasses t e l c
  are_classes items by c all are = record {
    least = all.by_number;
    counted = are.counted;
    members = λ number low. (
        let there = slice_get_some c.least number low in
        of_number items by (length t.switches) c.least all c.numbers are number there.0 there.1
        ∙ ap (class_of t e l) (sym (get_or_from_slice_get c.least number there.0 0 there.1))
        );
  }

  -- ---- one number more

  more_numbers : (old new : List ℕ) (numbers : List (Option ℕ)) (n : ℕ) (number : Option ℕ) → AreNumbers old numbers n → ((s : ℕ) (o : Option ℕ) → IsNumberOf t e l old s o → IsNumberOf t e l new s o)
      → IsNumberOf t e l new n number → AreNumbers new (numbers ++ number ∷ []) (n + 1)
  more_numbers old new numbers n number are keep is = record {
    counted = omega (arith, length-append numbers (number ∷ []), are.counted);
    each = λ s low. elim (cases_eq s n) [
      | inl same ↦ subst (λ (m : ℕ). IsNumberOf t e l new m (slice_index_or (numbers ++ number ∷ []) m None)) (sym same)
          (subst (IsNumberOf t e l new n) (sym (ap (λ (m : ℕ). slice_index_or (numbers ++ number ∷ []) m None) (sym are.counted) ∙ get_or-append_seam numbers number [] None)) is)
      | inr ne ↦
          (let less : s < n = omega (arith, low, ne) in
          subst (IsNumberOf t e l new s) (sym (get_or_append_left numbers (number ∷ []) None s (omega (arith, less, are.counted)))) (keep s (slice_index_or numbers s None) (are.each s less)))
    ];
  }

  pub number_more : (old new : List ℕ) (numbers after : List (Option ℕ)) (n : ℕ) (number : Option ℕ) → after ≡ numbers ++ number ∷ [] → AreNumbers old numbers n
      → ((s : ℕ) (o : Option ℕ) → IsNumberOf t e l old s o → IsNumberOf t e l new s o) → IsNumberOf t e l new n number → AreNumbers new after (n + 1)
  number_more old new numbers after n number pushed are keep is =
      subst (λ (xs : List (Option ℕ)). AreNumbers new xs (n + 1)) (sym pushed) (more_numbers old new numbers n number are keep is)
