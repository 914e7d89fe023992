-- The loops that write rows.
use Rattle.std.proofs.Common.{◌≡◌, ◌<◌, ◌≤◌, ◌+◌, ◌-◌, ◌*◌, ℕ, zero, suc, List, [], ◌∷◌, ◌++◌, Some, length, get_or, take, drop, map, min, refl, sym, ap, ◌∙◌, arith, add-one, append_assoc, append-nil, length-drop}
use Rattle.std.specs.Prelude.{codes, slice_get}
use Rattle.std.specs.Int.{div_ceil}
use Rattle.std.specs.List.{concat, flat_map, enumerate_from, range_with_len, join_with_byte}
use Rattle.std.proofs.lemmas.List.{drop-map, flat_map_more, get_or-map, length-map, take-map, take_more, take_min, take_all, map-id}
use Rattle.std.proofs.lemmas.List.Concat.{flat_map-append}
use Rattle.std.proofs.lemmas.List.FromFn.{map-range_with_len_more, length-enumerate_from}
use Rattle.fab_model.specs.Topology.{Topology, lids_of}
use Rattle.fab_model.specs.WellFormed.{IsFabric}
use Rattle.fab_model.specs.declared.rows.Lid.{Lid}
use Rattle.fab_model.proofs.LidsInUse.{as_many}
use Rattle.fab_model.proofs.Order.{lids_are_counted}
use Rattle.fab_dump.specs.BlockValues.{numbers_of}
use Rattle.fab_dump.specs.Writing.{hex4, two, lids_text, lines_text, row_of, row_text, numbered_row, block_rows, lanes_text}

-- ---- lines

pub lines-append : (xs ys : List (List ℕ)) → lines_text (xs ++ ys) ≡ lines_text xs ++ lines_text ys
lines-append xs ys = flat_map-append (λ (line : List ℕ). line ++ 10 ∷ []) xs ys

-- what stands after a piece, and then another
pub added : (before a b old now : List ℕ) → old ≡ before ++ a → now ≡ old ++ b → now ≡ before ++ (a ++ b)
added before a b old now e f = f ∙ ap (λ (bytes : List ℕ). bytes ++ b) e ∙ append_assoc before a b

pub lines_added : (xs ys zs : List (List ℕ)) (before old now : List ℕ) → old ≡ before ++ lines_text xs → now ≡ old ++ lines_text ys → zs ≡ xs ++ ys → now ≡ before ++ lines_text zs
lines_added xs ys zs before old now e f g =
    added before (lines_text xs) (lines_text ys) old now e f ∙ ap (λ (bytes : List ℕ). before ++ bytes) (sym (lines-append xs ys)) ∙ ap (λ (lines : List (List ℕ)). before ++ lines_text lines) (sym g)

pub one_line : (line before old now : List ℕ) → old ≡ before ++ line → now ≡ old ++ 10 ∷ [] → now ≡ before ++ lines_text (line ∷ [])
one_line line before old now e f = added before line (10 ∷ []) old now e f ∙ ap (λ (bytes : List ℕ). before ++ bytes) (sym (append-nil (line ++ 10 ∷ [])))

-- one line more of those of the first numbers
pub line_added : (line : ℕ → List ℕ) (n : ℕ) (before old between now : List ℕ) → old ≡ before ++ lines_text (map line (range_with_len 0 n)) → between ≡ old ++ line n → now ≡ between ++ 10 ∷ []
    → now ≡ before ++ lines_text (map line (range_with_len 0 (n + 1)))
line_added line n before old between now e f g =
    lines_added (map line (range_with_len 0 n)) (line n ∷ []) (map line (range_with_len 0 (n + 1))) before old now e (one_line (line n) old between now f g)
    (map-range_with_len_more line 0 n n (omega arith))

range_more : (n : ℕ) → range_with_len 0 (n + 1) ≡ range_with_len 0 n ++ n ∷ []
range_more n = sym (map-id (range_with_len 0 (n + 1))) ∙ map-range_with_len_more (λ (k : ℕ). k) 0 n n (omega arith) ∙ ap (λ (xs : List ℕ). xs ++ n ∷ []) (map-id (range_with_len 0 n))

flat_map-one : {X A : Type 0} (f : X → List A) (xs : List X) (x : X) → flat_map f (xs ++ x ∷ []) ≡ flat_map f xs ++ f x
flat_map-one f xs x = flat_map-append f xs (x ∷ []) ∙ ap (λ rest. flat_map f xs ++ rest) (append-nil (f x))

pub flat_map-range_more : {A : Type 0} (f : ℕ → List A) (n : ℕ) → flat_map f (range_with_len 0 (n + 1)) ≡ flat_map f (range_with_len 0 n) ++ f n
flat_map-range_more f n = ap (flat_map f) (range_more n) ∙ flat_map-one f (range_with_len 0 n) n

-- and where a number has any count of lines
pub lines_of_number : (lines : ℕ → List (List ℕ)) (n : ℕ) (before old now : List ℕ) → old ≡ before ++ lines_text (flat_map lines (range_with_len 0 n)) → now ≡ old ++ lines_text (lines n)
    → now ≡ before ++ lines_text (flat_map lines (range_with_len 0 (n + 1)))
lines_of_number lines n before old now e f =
    lines_added (flat_map lines (range_with_len 0 n)) (lines n) (flat_map lines (range_with_len 0 (n + 1))) before old now e f
    (flat_map-range_more lines n)

-- ---- a row of LIDs

-- what follows a space
pub spaced : (value old between now : List ℕ) → between ≡ old ++ 32 ∷ [] → now ≡ between ++ value → now ≡ old ++ 32 ∷ value
spaced value old between now e f = f ∙ ap (λ (bytes : List ℕ). bytes ++ value) e ∙ append_assoc old (32 ∷ []) value

spaced_numbers : (value : ℕ → List ℕ) (lids : List Lid) → flat_map (λ (lid : Lid). 32 ∷ value lid.0) lids ≡ flat_map (λ (lid : ℕ). 32 ∷ value lid) (numbers_of lids)
spaced_numbers value [] = refl
spaced_numbers value (lid ∷ lids) = ap (λ (bytes : List ℕ). (32 ∷ value lid.0) ++ bytes) (spaced_numbers value lids)

-- the number of the LID at a place
number_at : (lids : List Lid) (k : ℕ) (d : Lid) → k < length lids → (get_or lids k d).0 ≡ get_or (numbers_of lids) k 0
number_at lids k d h = sym (get_or-map (λ (lid : Lid). lid.0) lids k d 0 h)

-- all LIDs of a row, behind its first
pub row_done : (value : ℕ → List ℕ) (lids : List Lid) (d : Lid) (before old now : List ℕ) (n : ℕ) → 0 < length lids → length lids ≤ n → old ≡ before ++ hex4 (get_or lids 0 d).0
    → now ≡ old ++ flat_map (λ (lid : Lid). 32 ∷ value lid.0) (take n lids) → now ≡ before ++ row_text value (numbers_of lids)
unfolding row_text
row_done value lids d before old now n some h e f =
    added before (hex4 (get_or lids 0 d).0) (flat_map (λ (lid : Lid). 32 ∷ value lid.0) (take n lids)) old now e f
    ∙ ap (λ (k : ℕ). before ++ (hex4 k ++ flat_map (λ (lid : Lid). 32 ∷ value lid.0) (take n lids))) (number_at lids 0 d some)
    ∙ ap (λ (some : List Lid). before ++ (hex4 (get_or (numbers_of lids) 0 0) ++ flat_map (λ (lid : Lid). 32 ∷ value lid.0) some)) (take_all n lids h)
    ∙ ap (λ (bytes : List ℕ). before ++ (hex4 (get_or (numbers_of lids) 0 0) ++ bytes)) (spaced_numbers value lids)

-- the LIDs of a row, by its number
pub row_lids_are : (lids : List Lid) (numbers : List ℕ) (first past i : ℕ) → numbers_of lids ≡ numbers → first ≡ i * 64 → past ≡ min (length lids) (first + 64) → i * 64 < length lids →
    numbers_of (take (past - first) (drop first lids)) ≡ row_of numbers i
row_lids_are lids numbers first past i are start end low =
    let many : length lids ≡ length numbers = as_many lids numbers are in
    let size : past - first ≡ min 64 (length (drop first numbers)) = omega (arith, start, end, low, many, length-drop first numbers) in
    sym (take-map (λ (lid : Lid). lid.0) (past - first) (drop first lids)) ∙ ap (take (past - first)) (sym (drop-map (λ (lid : Lid). lid.0) first lids) ∙ ap (drop first) are)
    ∙ ap (λ (n : ℕ). take n (drop first numbers)) size ∙ take_min 64 (drop first numbers) ∙ ap (λ (n : ℕ). take 64 (drop n numbers)) start

-- ---- lanes

pub joined : (x : ℕ) (xs : List ℕ) → join_with_byte 32 (map two (x ∷ xs)) ≡ two x ++ flat_map (λ (lane : ℕ). 32 ∷ two lane) xs
joined x [] = sym (append-nil (two x))
joined x (y ∷ ys) = ap (λ (bytes : List ℕ). two x ++ (32 ∷ bytes)) (joined y ys)

pub lane_added : (lanes before old between now : List ℕ) (n : ℕ) → n < length lanes → old ≡ before ++ flat_map (λ (lane : ℕ). 32 ∷ two lane) (take n lanes) → between ≡ old ++ 32 ∷ []
    → now ≡ between ++ two (get_or lanes n 0) → now ≡ before ++ flat_map (λ (lane : ℕ). 32 ∷ two lane) (take (n + 1) lanes)
lane_added lanes before old between now n h e f g =
    let one : now ≡ old ++ 32 ∷ two (get_or lanes n 0) = spaced (two (get_or lanes n 0)) old between now f g in
    one ∙ ap (λ (bytes : List ℕ). bytes ++ 32 ∷ two (get_or lanes n 0)) e
    ∙ flat_map_more (λ (lane : ℕ). 32 ∷ two lane) before (take n lanes) (get_or lanes n 0)
    ∙ ap (λ (some : List ℕ). before ++ flat_map (λ (lane : ℕ). 32 ∷ two lane) some) (sym (take_more lanes n 0 h))

pub lanes_done : (x : ℕ) (lanes before old now : List ℕ) (n : ℕ) → length lanes ≤ n → old ≡ before ++ two x → now ≡ old ++ flat_map (λ (lane : ℕ). 32 ∷ two lane) (take n lanes) → now ≡ before ++ lanes_text (x ∷ lanes)
unfolding lanes_text
lanes_done x lanes before old now n h e f =
    added before (two x) (flat_map (λ (lane : ℕ). 32 ∷ two lane) (take n lanes)) old now e f
    ∙ ap (λ (some : List ℕ). before ++ (two x ++ flat_map (λ (lane : ℕ). 32 ∷ two lane) some)) (take_all n lanes h)
    ∙ ap (λ (bytes : List ℕ). before ++ bytes) (sym (joined x lanes))

-- ---- numbered rows

pub record Row {X : Type 0} (xs : List X) (n : ℕ) : Type 0 where
  pub row : X
  pub found : slice_get xs n ≡ Some row

pub some_row : {X : Type 0} (xs : List X) (n : ℕ) → n < length xs → Row xs n
some_row [] n h = absurd (omega (arith, h))
some_row (x ∷ xs) zero h = record { row = x; found = refl }
some_row (x ∷ xs) (suc n) h =
    let later : Row xs n = some_row xs n (omega (arith, h)) in
    record { row = later.row; found = later.found }

numbered : {X : Type 0} (xs : List X) (from n : ℕ) (x : X) → slice_get xs n ≡ Some x → slice_get (enumerate_from from xs) n ≡ Some (from + n, x)
numbered [] from n x e = cc
numbered (y ∷ xs) from zero x e = let same : from + 0 ≡ from = omega arith in cc
numbered (y ∷ xs) from (suc n) x e = numbered xs (from + 1) n x e ∙ ap (λ (m : ℕ). Some (m, x)) (omega arith)

one_more : {X : Type 0} (xs : List X) (n : ℕ) (x : X) → slice_get xs n ≡ Some x → take (suc n) xs ≡ take n xs ++ x ∷ []
one_more [] n x e = cc
one_more (y ∷ xs) zero x e = let same : y ≡ x = cc in ap (λ z. z ∷ []) same
one_more (y ∷ xs) (suc n) x e = ap (λ zs. y ∷ zs) (one_more xs n x e)

-- the lines of one row more
pub lines_of_row : {X : Type 0} (lines : ℕ × X → List (List ℕ)) (rows : List X) (n : ℕ) (x : X) → slice_get rows n ≡ Some x
    → lines_text (flat_map lines (take (n + 1) (enumerate_from 0 rows))) ≡ lines_text (flat_map lines (take n (enumerate_from 0 rows))) ++ lines_text (lines (n, x))
lines_of_row lines rows n x e =
    let place : slice_get (enumerate_from 0 rows) n ≡ Some (n, x) = numbered rows 0 n x e ∙ ap (λ (m : ℕ). Some (m, x)) (omega arith) in
    let more : take (n + 1) (enumerate_from 0 rows) ≡ take n (enumerate_from 0 rows) ++ (n, x) ∷ [] = ap (λ (m : ℕ). take m (enumerate_from 0 rows)) (add-one n) ∙ one_more (enumerate_from 0 rows) n (n, x) place in
    ap (λ some. lines_text (flat_map lines some)) more ∙ ap lines_text (flat_map-one lines (take n (enumerate_from 0 rows)) (n, x)) ∙ lines-append (flat_map lines (take n (enumerate_from 0 rows))) (lines (n, x))

pub all_rows : {X : Type 0} (rows : List X) (n : ℕ) → length rows ≤ n → take n (enumerate_from 0 rows) ≡ enumerate_from 0 rows
all_rows rows n h = take_all n (enumerate_from 0 rows) (omega (arith, length-enumerate_from 0 rows, h))

-- ---- one piece after the other

module _ (before a b c d e t1 t2 t3 t4 : List ℕ) (first : t1 ≡ before ++ a) (second : t2 ≡ t1 ++ b) (third : t3 ≡ t2 ++ c) (fourth : t4 ≡ t3 ++ d) where
  pub five_pieces : t4 ++ e ≡ before ++ concat (a ∷ b ∷ c ∷ d ∷ e ∷ [])
  five_pieces =
      let all : t4 ≡ (((before ++ a) ++ b) ++ c) ++ d = fourth ∙ ap (λ (t : List ℕ). t ++ d) (third ∙ ap (λ (t : List ℕ). t ++ c) (second ∙ ap (λ (t : List ℕ). t ++ b) first)) in
      ap (λ (t : List ℕ). t ++ e) all ∙ simp (append_assoc, append-nil)

-- the least and the greatest LID in use
pub lids_done : (lids : List Lid) (d e : Lid) (before t1 t2 t3 t4 : List ℕ) → 0 < length lids → t1 ≡ before ++ codes "Unicast lids [" → t2 ≡ t1 ++ hex4 (get_or lids 0 d).0 → t3 ≡ t2 ++ codes "-"
    → t4 ≡ t3 ++ hex4 (get_or lids (length lids - 1) e).0 → t4 ++ codes "] of switch " ≡ before ++ lids_text (numbers_of lids)
unfolding lids_text
lids_done lids d e before t1 t2 t3 t4 some first second third fourth =
    let last : (get_or lids (length lids - 1) e).0 ≡ get_or (numbers_of lids) (length (numbers_of lids) - 1) 0 =
    number_at lids (length lids - 1) e (omega (arith, some)) ∙ ap (λ (n : ℕ). get_or (numbers_of lids) (n - 1) 0) (sym (length-map lids (λ (lid : Lid). lid.0))) in
    five_pieces before (codes "Unicast lids [") (hex4 (get_or lids 0 d).0) (codes "-") (hex4 (get_or lids (length lids - 1) e).0) (codes "] of switch ") t1 t2 t3 t4 first second third fourth
    ∙ ap (λ (n : ℕ). before ++ concat (codes "Unicast lids [" ∷ hex4 n ∷ codes "-" ∷ hex4 (get_or lids (length lids - 1) e).0 ∷ codes "] of switch " ∷ [])) (number_at lids 0 d some)
    ∙ ap (λ (n : ℕ). before ++ concat (codes "Unicast lids [" ∷ hex4 (get_or (numbers_of lids) 0 0) ∷ codes "-" ∷ hex4 n ∷ codes "] of switch " ∷ [])) last

pub two_lines : (line other before t1 t2 t3 now : List ℕ) → t1 ≡ before ++ line → t2 ≡ t1 ++ 10 ∷ [] → t3 ≡ t2 ++ other → now ≡ t3 ++ 10 ∷ [] → now ≡ before ++ lines_text (line ∷ other ∷ [])
two_lines line other before t1 t2 t3 now e f g h =
    lines_added (line ∷ []) (other ∷ []) (line ∷ other ∷ []) before t2 now (one_line line before t1 t2 e f) (one_line other t2 t3 now g h) refl

-- ---- how many LIDs there are

pub few_lids : (t : Topology) → IsFabric t → length (lids_of t) ≤ 16384
few_lids t is = omega (arith, lids_are_counted t, is.rows.lid_count)

-- a fabric with a switch has a LID in use
pub some_lid : (t : Topology) (s : ℕ) → s < length t.switches → 0 < length (lids_of t)
some_lid t s low = omega (arith, lids_are_counted t, low)

-- the last row
pub rows_done : (t : Topology) (value : ℕ → List ℕ) (before now : List ℕ) (n : ℕ) → n ≡ div_ceil (length (lids_of t)) 64 → now ≡ before ++ lines_text (map (numbered_row t value) (range_with_len 0 n))
    → now ≡ before ++ lines_text (block_rows t value)
rows_done t value before now n e f = f ∙ ap (λ (count : ℕ). before ++ lines_text (map (numbered_row t value) (range_with_len 0 count))) e
