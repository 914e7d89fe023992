-- Lines of lists that grow, one element at a time.
use Rattle.std.proofs.Common.{◌≡◌, ℕ, zero, suc, ◌+◌, ◌-◌, ◌<◌, Bool, true, false, cond, List, [], ◌∷◌, ◌++◌, Option, length, map, take, get_or, refl, sym, ◌∙◌, ap, arith, add-one, append_assoc, append-nil}
use Rattle.std.specs.Prelude.{filter, flat_map}
use Rattle.std.specs.List.{range_with_len}
use Rattle.std.proofs.lemmas.List.Concat.{flat_map-append}
use Rattle.std.proofs.lemmas.List.Elements.{filter-append}
use Rattle.fab_dump.specs.Writing.{lines_text}
use Rattle.fab_dump.proofs.Writing.Rows.{added, lines_added, lines-append, five_pieces}
use Rattle.fab_export.specs.SourceLevels.{is_level, lids_with}

pub flat_map-one : {X A : Type 0} (f : X → List A) (xs : List X) (x : X) → flat_map f (xs ++ x ∷ []) ≡ flat_map f xs ++ f x
flat_map-one f xs x = flat_map-append f xs (x ∷ []) ∙ ap (λ rest. flat_map f xs ++ rest) (append-nil (f x))

-- the lines of one element more
pub lines_more : {X : Type 0} (lines : X → List (List ℕ)) (xs : List X) (x : X) (before old now : List ℕ) → old ≡ before ++ lines_text (flat_map lines xs) → now ≡ old ++ lines_text (lines x)
    → now ≡ before ++ lines_text (flat_map lines (xs ++ x ∷ []))
lines_more lines xs x before old now so_far one =
    lines_added (flat_map lines xs) (lines x) (flat_map lines (xs ++ x ∷ [])) before old now so_far one (flat_map-one lines xs x)

pub range-more : (from n : ℕ) → range_with_len from (suc n) ≡ range_with_len from n ++ (from + n) ∷ []
range-more from zero = ap (λ k. k ∷ []) (omega arith)
range-more from (suc n) = ap (λ ks. from ∷ ks) (range-more (from + 1) n ∙ ap (λ k. range_with_len (from + 1) n ++ k ∷ []) (omega arith))

-- from one on
pub range-on : (n m : ℕ) → 0 < n → m ≡ n → range_with_len 1 (n - 1) ++ n ∷ [] ≡ range_with_len 1 m
range-on zero m some same = absurd (omega (arith, some))
range-on (suc n) m some same =
    let less : suc n - 1 ≡ n = omega arith in
    ap (λ k. range_with_len 1 k ++ suc n ∷ []) less ∙ ap (λ k. range_with_len 1 n ++ k ∷ []) (omega arith) ∙ sym (range-more 1 n) ∙ ap (range_with_len 1) (sym same)

-- from zero on
pub range-next : (n : ℕ) → range_with_len 0 (n + 1) ≡ range_with_len 0 n ++ n ∷ []
range-next n = ap (range_with_len 0) (add-one n) ∙ range-more 0 n ∙ ap (λ k. range_with_len 0 n ++ k ∷ []) (omega arith)

map-append : {X Y : Type 0} (f : X → Y) (xs ys : List X) → map f (xs ++ ys) ≡ map f xs ++ map f ys
map-append f [] ys = refl
map-append f (x ∷ xs) ys = ap (λ zs. f x ∷ zs) (map-append f xs ys)

-- the lines of what the next number has, if it passes
module _ {Y : Type 0} (line : Y → List ℕ) (parts : ℕ → List Y) (p : ℕ → Bool) where
  pub passing_more : (n : ℕ) (before old now : List ℕ) → old ≡ before ++ lines_text (map line (flat_map parts (filter p (range_with_len 0 n))))
      → now ≡ old ++ lines_text (map line (flat_map parts (filter p (n ∷ [])))) → now ≡ before ++ lines_text (map line (flat_map parts (filter p (range_with_len 0 (n + 1)))))
  passing_more n before old now so_far one =
      lines_added (map line (flat_map parts (filter p (range_with_len 0 n)))) (map line (flat_map parts (filter p (n ∷ [])))) (map line (flat_map parts (filter p (range_with_len 0 (n + 1))))) before old now so_far one
      (ap (λ ns. map line (flat_map parts (filter p ns))) (range-next n)
      ∙ ap (λ ns. map line (flat_map parts ns)) (filter-append p (range_with_len 0 n) (n ∷ []))
      ∙ ap (map line) (flat_map-append parts (filter p (range_with_len 0 n)) (filter p (n ∷ [])))
      ∙ map-append line (flat_map parts (filter p (range_with_len 0 n))) (flat_map parts (filter p (n ∷ []))))

-- ---- the LIDs at which a row has a level

both_ifs : (b : Bool) (lid : ℕ) (xs ys : List ℕ) → cond b (lid ∷ (xs ++ ys)) (xs ++ ys) ≡ cond b (lid ∷ xs) xs ++ ys
both_ifs true lid xs ys = refl
both_ifs false lid xs ys = refl

next_with : (v : ℕ) (row : List (Option ℕ)) (lids : List ℕ) (n : ℕ) (d : Option ℕ) (e : ℕ) → n < length row → n < length lids →
    lids_with v (take (suc n) row) (take (suc n) lids) ≡ lids_with v (take n row) (take n lids) ++ cond (is_level v (get_or row n d)) (get_or lids n e ∷ []) []
next_with v [] lids n d e h k = absurd (omega (arith, h))
next_with v (o ∷ row) [] n d e h k = absurd (omega (arith, k))
next_with v (o ∷ row) (lid ∷ lids) zero d e h k = refl
next_with v (o ∷ row) (lid ∷ lids) (suc n) d e h k =
    ap (λ rest. cond (is_level v o) (lid ∷ rest) rest) (next_with v row lids n d e (omega (arith, h)) (omega (arith, k)))
    ∙ both_ifs (is_level v o) lid (lids_with v (take n row) (take n lids)) (cond (is_level v (get_or row n d)) (get_or lids n e ∷ []) [])

-- a LID more, at which the row has the level or not
module _ (line : ℕ → List ℕ) (guid : ℕ → ℕ) (v : ℕ) (row : List (Option ℕ)) (lids : List ℕ) (n : ℕ) (d : Option ℕ) (e : ℕ) (h : n < length row) (k : n < length lids) where
  pub level_there : (before old now : List ℕ) → is_level v (get_or row n d) ≡ true → old ≡ before ++ lines_text (map line (map guid (lids_with v (take n row) (take n lids))))
      → now ≡ old ++ lines_text (line (guid (get_or lids n e)) ∷ []) → now ≡ before ++ lines_text (map line (map guid (lids_with v (take (n + 1) row) (take (n + 1) lids))))
  level_there before old now is so_far one =
      lines_added (map line (map guid (lids_with v (take n row) (take n lids)))) (line (guid (get_or lids n e)) ∷ []) (map line (map guid (lids_with v (take (n + 1) row) (take (n + 1) lids)))) before old now so_far one
      (ap (λ m. map line (map guid (lids_with v (take m row) (take m lids)))) (add-one n)
      ∙ ap (λ ns. map line (map guid ns)) (next_with v row lids n d e h k ∙ ap (λ b. lids_with v (take n row) (take n lids) ++ cond b (get_or lids n e ∷ []) []) is)
      ∙ ap (map line) (map-append guid (lids_with v (take n row) (take n lids)) (get_or lids n e ∷ []))
      ∙ map-append line (map guid (lids_with v (take n row) (take n lids))) (guid (get_or lids n e) ∷ []))

  pub level_elsewhere : (before old : List ℕ) → is_level v (get_or row n d) ≡ false → old ≡ before ++ lines_text (map line (map guid (lids_with v (take n row) (take n lids))))
      → old ≡ before ++ lines_text (map line (map guid (lids_with v (take (n + 1) row) (take (n + 1) lids))))
  level_elsewhere before old is so_far =
      so_far ∙ ap (λ ns. before ++ lines_text (map line (map guid ns)))
      (sym (ap (λ m. lids_with v (take m row) (take m lids)) (add-one n)
      ∙ next_with v row lids n d e h k ∙ ap (λ b. lids_with v (take n row) (take n lids) ++ cond b (get_or lids n e ∷ []) []) is ∙ append-nil (lids_with v (take n row) (take n lids))))

-- ---- a text that is pushed piece by piece, and its lines

module _ (before head number : List ℕ) (lines : List (List ℕ)) (last t1 t2 t3 t4 : List ℕ) where
  pub group_pushed : t1 ≡ before ++ head → t2 ≡ t1 ++ number → t3 ≡ t2 ++ 10 ∷ [] → t4 ≡ t3 ++ lines_text lines
      → t4 ++ (last ++ 10 ∷ []) ≡ before ++ (head ++ ((number ++ 10 ∷ []) ++ lines_text (lines ++ last ∷ [])))
  group_pushed first second third fourth =
      five_pieces before head number (10 ∷ []) (lines_text lines) (last ++ 10 ∷ []) t1 t2 t3 t4 first second third fourth
      ∙ ap (λ bytes. before ++ (head ++ bytes)) (sym (append_assoc number (10 ∷ []) (lines_text lines ++ lines_text (last ∷ []))) ∙ ap (λ rest. (number ++ 10 ∷ []) ++ rest) (sym (lines-append lines (last ∷ []))))

pub three_pieces : (before a b c t1 t2 t3 : List ℕ) → t1 ≡ before ++ a → t2 ≡ t1 ++ b → t3 ≡ t2 ++ c → t3 ≡ before ++ (a ++ (b ++ c))
three_pieces before a b c t1 t2 t3 first second third =
    added before (a ++ b) c t2 t3 (added before a b t1 t2 first second) third ∙ ap (λ bytes. before ++ bytes) (append_assoc a b c)
