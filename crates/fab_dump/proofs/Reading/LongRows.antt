-- Rows of up to 64 LIDs.
use Rattle.std.proofs.Common.{◌≡◌, ℕ, zero, suc, ◌+◌, ◌-◌, ◌%◌, ◌<◌, ◌≤◌, List, [], ◌∷◌, ◌++◌, length, take, drop, get_or, map, min, Some, None, Option, inl, inr, refl, sym, ◌∙◌, ap, subst, arith}
use Rattle.std.specs.Prelude.{slice_get, if◌then◌else◌}
use Rattle.std.specs.List.{zip}
use Rattle.std.specs.List.Sorted.{IsStrictlyIncreasing}
use Rattle.std.proofs.lemmas.Bool.{cases_order, cases_lt, eq-eqb, ne_eqb}
use Rattle.std.proofs.lemmas.List.{get_or-drop, get_or_default, append_assoc, append-nil, length-drop, length-map, length-take-le, take_all}
use Rattle.std.proofs.lemmas.Slice.Zip.{length-zip}
use Rattle.std.proofs.lemmas.List.Kept.{AllPairs-from_increasing}
use Rattle.std.proofs.lemmas.Option.{slice_get_within, get_or_from_slice_get, slice_get-get_or}
use Rattle.fab_text.specs.Fields.{hex, all_read}
use Rattle.fab_model.specs.Topology.{Topology, lids_of}
use Rattle.fab_tables.specs.Entries.{index_of}
use Rattle.fab_tables.proofs.Rows.Cells.{index_found, index_there, unsome}
use Rattle.fab_dump.specs.declared.form.Block.{Block}
use Rattle.fab_dump.specs.declared.reader.PlanReader.{PlanReader}
use Rattle.fab_dump.specs.FieldsLeft.{AreNot, AreRowLids}
use Rattle.fab_dump.specs.Given.{Given, said_of}
use Rattle.fab_dump.specs.Lines.{Form, State, lids_at, lids_from, row_lids, paired, long_row}
use Rattle.fab_dump.specs.Standing.{Stands}

-- as many as there are, and 64 at most
take_min : {X : Type 0} (n : ℕ) (xs : List X) → take n xs ≡ take (min (length xs) n) xs
take_min n xs = elim (cases_lt (length xs) n) [
  | inl few ↦
      let all : length xs ≤ min (length xs) n = omega arith in
      take_all n xs (omega arith) ∙ sym (take_all (min (length xs) n) xs all)
  | inr many ↦
      let same : n ≡ min (length xs) n = omega arith in
      ap (λ k. take k xs) same
]

pub row_found : (lids : List ℕ) (field : List ℕ) (others : List (List ℕ)) (lid first count : ℕ) → Some lid ≡ hex 4 field → Some first ≡ index_of lid lids → first % 64 ≡ 0 →
    count ≡ min (length lids - first) 64 → first < length lids → AreRowLids lids (first, count) (row_lids lids (field ∷ others))
row_found lids field others lid first count named there begins is within =
    let many : length (drop first lids) ≡ length lids - first = length-drop first lids in
    record {
      are = ap (λ o. lids_at lids o) (sym named) ∙ ap (λ o. lids_from lids o) (sym there) ∙ ap (λ b. if b then take 64 (drop first lids) else []) (eq-eqb (first % 64) 0 begins)
          ∙ take_min 64 (drop first lids) ∙ ap (λ n. take (min n 64) (drop first lids)) many ∙ ap (λ n. take n (drop first lids)) (sym is);
      some = omega (arith, is);
      few = omega (arith, is);
      within = omega (arith, is);
    }

-- the place of the LID that stands at a place
pub index_at : (lids : List ℕ) (i lid : ℕ) → IsStrictlyIncreasing lids → slice_get lids i ≡ Some lid → index_of lid lids ≡ Some i
index_at lids i lid up got = go (index_of lid lids) refl
  where
    within : i < length lids
    within = slice_get_within lids i lid got

    here : (d : ℕ) → get_or lids i d ≡ lid
    here d = get_or_from_slice_get lids i lid d got

    go : (o : Option ℕ) → index_of lid lids ≡ o → o ≡ Some i
    go None e = absurd (index_there lid lids i within (here lid) e)
    go (Some j) e =
        let at : (j < length lids) × (slice_get lids j ≡ Some lid) = index_found lid lids j e in
        let there : get_or lids j 0 ≡ lid = get_or_from_slice_get lids j lid 0 at.1 in
        elim (cases_order j i) [
          | inl same ↦ ap (λ k. Some k) same
          | inr (inl below) ↦ absurd (omega (arith, AllPairs-from_increasing lids up j i 0 below within, there, here 0))
          | inr (inr above) ↦ absurd (omega (arith, AllPairs-from_increasing lids up i j 0 above at.0, there, here 0))
        ]

-- one LID and its value more
pub zip_more : {X : Type 0} (g : ℕ × X → Given) (lids : List ℕ) (values : List X) (i : ℕ) (lid : ℕ) (value : X) → i < length lids → i < length values →
    get_or lids i lid ≡ lid → get_or values i value ≡ value → take (i + 1) (map g (zip lids values)) ≡ take i (map g (zip lids values)) ++ g (lid, value) ∷ []
zip_more g [] values i lid value a b c d = absurd (omega arith)
zip_more g (l ∷ lids) [] i lid value a b c d = absurd (omega arith)
zip_more g (l ∷ lids) (v ∷ values) zero lid value a b c d = ap (λ x. g (x, v) ∷ []) c ∙ ap (λ x. g (lid, x) ∷ []) d
zip_more g (l ∷ lids) (v ∷ values) (suc i) lid value a b c d =
    let one : suc (i + 1) ≡ suc i + 1 = omega arith in
    ap (λ n. take n (map g (zip (l ∷ lids) (v ∷ values)))) (sym one) ∙ ap (λ xs. g (l, v) ∷ xs) (zip_more g lids values i lid value (omega arith) (omega arith) c d)

-- LIDs that have no value don't count
zip_take : {X : Type 0} (n : ℕ) (lids : List ℕ) (values : List X) → length values ≤ n → zip (take n lids) values ≡ zip lids values
zip_take zero [] [] h = refl
zip_take zero (l ∷ lids) [] h = refl
zip_take zero lids (v ∷ values) h = absurd (omega arith)
zip_take (suc n) [] values h = refl
zip_take (suc n) (l ∷ lids) [] h = refl
zip_take (suc n) (l ∷ lids) (v ∷ values) h = ap (λ xs. (l, v) ∷ xs) (zip_take n lids values (omega arith))

paired_some : {A : Type 0} (lids : List ℕ) (values : List A) → 0 < length lids → length values ≡ length lids → paired lids (Some values) ≡ Some (zip lids values)
paired_some [] values some e = absurd (omega arith)
paired_some (l ∷ lids) values some e = ap (λ b. if b then Some (zip (l ∷ lids) values) else None) (eq-eqb (length values) (length (l ∷ lids)) e)

paired_none : {A : Type 0} (lids : List ℕ) (o : Option (List A)) → AreNot (length lids) o → paired lids o ≡ None
paired_none [] o h = refl
paired_none (l ∷ lids) None h = refl
paired_none (l ∷ lids) (Some values) h = ap (λ b. if b then Some (zip (l ∷ lids) values) else None) (ne_eqb (length values) (length (l ∷ lids)) (h values refl))

row_length : (lids : List ℕ) (place : ℕ × ℕ) (row : List ℕ) → AreRowLids lids place row → length row ≡ place.1
row_length lids place row are = ap length are.are ∙ length-take-le place.1 (drop place.0 lids) (omega (arith, length-drop place.0 lids, are.within))

pub long_row_none : {A : Type 0} (lids : List ℕ) (read : List ℕ → Option A) (fields : List (List ℕ)) → row_lids lids fields ≡ [] → long_row lids read fields ≡ None
long_row_none lids read fields e = ap (λ row. paired row (all_read read (drop 1 fields))) e

pub long_row_bad : {A : Type 0} (lids : List ℕ) (read : List ℕ → Option A) (fields : List (List ℕ)) (place : ℕ × ℕ) → AreRowLids lids place (row_lids lids fields) →
    AreNot place.1 (all_read read (drop 1 fields)) → long_row lids read fields ≡ None
long_row_bad lids read fields place are bad =
    paired_none (row_lids lids fields) (all_read read (drop 1 fields)) (subst (λ n. AreNot n (all_read read (drop 1 fields))) (sym (row_length lids place (row_lids lids fields) are)) bad)

pub long_row_good : {A : Type 0} (lids : List ℕ) (read : List ℕ → Option A) (fields : List (List ℕ)) (place : ℕ × ℕ) (values : List A) → AreRowLids lids place (row_lids lids fields) →
    all_read read (drop 1 fields) ≡ Some values → length values ≡ place.1 → long_row lids read fields ≡ Some (zip (drop place.0 lids) values)
long_row_good lids read fields place values are good all =
    let size : length (row_lids lids fields) ≡ place.1 = row_length lids place (row_lids lids fields) are in
    ap (λ o. paired (row_lids lids fields) o) good ∙ paired_some (row_lids lids fields) values (omega (arith, size, are.some)) (omega (arith, size, all))
    ∙ ap (λ ls. Some (zip ls values)) are.are ∙ ap (λ rs. Some rs) (zip_take place.1 (drop place.0 lids) values (omega (arith, all)))

-- the first of some values
pub first_of : {X : Type 0} (xs : List X) → 0 < length xs → (x : X) × (others : List X) × (xs ≡ x ∷ others)
first_of [] h = absurd (omega arith)
first_of (x ∷ xs) h = (x, xs, refl)

pub first_at : (lids : List ℕ) (first lid : ℕ) (others : List ℕ) → drop first lids ≡ lid ∷ others → first < length lids → get_or lids first lid ≡ lid
first_at lids first lid others e within =
    let here : first + 0 ≡ first = omega arith in
    ap (λ n. get_or lids n lid) (sym here) ∙ sym (get_or-drop first lids 0 lid) ∙ ap (λ xs. get_or xs 0 lid) e

pub same_there : (lids : List ℕ) (place lid found : ℕ) → slice_get lids place ≡ Some lid → slice_get lids place ≡ Some found → found ≡ lid
same_there lids place lid found a b = unsome found lid (sym b ∙ a)

-- so many values of a row were told
abbrev pub ToldSoFar : {A : Type 0} → PlanReader → PlanReader → Block → (ℕ → A → Given) → ℕ → List A → ℕ → Type 0
ToldSoFar before now b say first values i = (f : Form) (s : State) → Stands before.fabric.now f s before →
    Stands before.fabric.now f (record { open_block = b; given = s.given ++ take i (said_of say (zip (drop first (lids_of before.fabric.now)) values)) }) now

module _ {A : Type 0} (before : PlanReader) (b : Block) (say : ℕ → A → Given) (first : ℕ) (values : List A) where
  abbrev lids : List ℕ
  lids = lids_of before.fabric.now

  abbrev all : List Given
  all = said_of say (zip (drop first lids) values)

  pub told_none : before.block ≡ b → ToldSoFar before before b say first values 0
  told_none is f s stands =
      subst (λ (x : Block). Stands before.fabric.now f (record { open_block = x; given = s.given ++ [] }) before) (sym stands.block ∙ is)
      (subst (λ (g : List Given). Stands before.fabric.now f (record { open_block = s.open_block; given = g }) before) (sym (append-nil s.given)) stands)

  -- the next value, by a call that tells it
  pub told_one : (now next : PlanReader) (none : A) (i : ℕ) → first + length values ≤ length lids → i < length values →
      ((t : Topology) (f : Form) (s : State) (lid : ℕ) → slice_get (lids_of t) (first + i) ≡ Some lid → Stands t f s now → Stands t f (record { open_block = b; given = s.given ++ say lid (get_or values i none) ∷ [] }) next) →
      ToldSoFar before now b say first values i → ToldSoFar before next b say first values (i + 1)
  told_one now next none i within low tells told f s stands =
      let rest : List ℕ = drop first lids in
      let lid : ℕ = get_or lids (first + i) 0 in
      let value : A = get_or values i none in
      let size : length rest ≡ length lids - first = length-drop first lids in
      let there : get_or rest i lid ≡ lid = get_or-drop first lids i lid ∙ get_or_default lids (first + i) lid 0 (omega (arith, within, low)) in
      let more : take (i + 1) all ≡ take i all ++ say lid value ∷ []
      = zip_more (λ (row : ℕ × A). say row.0 row.1) rest values i lid value (omega (arith, size, within, low)) low there (get_or_default values i value none low) in
      subst (λ (g : List Given). Stands before.fabric.now f (record { open_block = b; given = g }) next) (append_assoc s.given (take i all) (say lid value ∷ []) ∙ ap (λ xs. s.given ++ xs) (sym more))
      (tells before.fabric.now f (record { open_block = b; given = s.given ++ take i all }) lid (slice_get-get_or lids (first + i) 0 (omega (arith, within, low))) (told f s stands))

  pub told_all : (now : PlanReader) (i : ℕ) → length values ≤ i → ToldSoFar before now b say first values i → (f : Form) (s : State) → Stands before.fabric.now f s before →
      Stands before.fabric.now f (record { open_block = b; given = s.given ++ all }) now
  told_all now i whole told f s stands =
      subst (λ (g : List Given). Stands before.fabric.now f (record { open_block = b; given = s.given ++ g }) now)
      (take_all i all (omega (arith, whole, length-map (zip (drop first lids) values) (λ (row : ℕ × A). say row.0 row.1), length-zip (drop first lids) values))) (told f s stands)
