-- Texts that are put part by part.
use Rattle.std.proofs.Common.{◌≡◌, ℕ, zero, suc, ◌+◌, ◌-◌, ◌<◌, ◌≤◌, Bool, true, false, cond, List, [], ◌∷◌, ◌++◌, Option, Result, Ok, Err, length, map, refl, sym, ◌∙◌, ap, subst, arith, append-nil}
use Rattle.std.specs.Prelude.{filter, flat_map, codes, slice_index}
use Rattle.std.specs.List.{enumerate_from, range_with_len}
use Rattle.std.proofs.lemmas.List.Concat.{flat_map-append}
use Rattle.fab_model.proofs.Lists.FlatMaps.{same_flat_map}
use Rattle.fab_model.proofs.Lists.Found.{from_range}
use Rattle.fab_model.proofs.Lists.Members.{In}
use Rattle.fab_dump.specs.declared.write.WriteFault.{WriteFault}
use Rattle.fab_dump.specs.Writing.{lines_text, PutsText}
use Rattle.fab_dump.proofs.Writing.Puts.{then_put, stopped}
use Rattle.fab_dump.proofs.Writing.Rows.{lines-append, lines_of_number, flat_map-range_more}
use Rattle.fab_export.specs.LevelsText.{enclosed}

-- ---- lines, number by number

-- those of the numbers that pass
chosen_step : {Y : Type 0} (lines : Y → List (List ℕ)) (f : ℕ → Y) (b : Bool) (x : ℕ) (rest : List (List ℕ)) (xs : List ℕ) → rest ≡ flat_map lines (map f xs)
    → cond b (lines (f x)) [] ++ rest ≡ flat_map lines (map f (cond b (x ∷ xs) xs))
chosen_step lines f true x rest xs same = ap (λ tail. lines (f x) ++ tail) same
chosen_step lines f false x rest xs same = same

pub chosen : {Y : Type 0} (lines : Y → List (List ℕ)) (f : ℕ → Y) (p : ℕ → Bool) (xs : List ℕ) → flat_map (λ x. cond (p x) (lines (f x)) []) xs ≡ flat_map lines (map f (filter p xs))
chosen lines f p [] = refl
chosen lines f p (x ∷ xs) = chosen_step lines f (p x) x (flat_map (λ x. cond (p x) (lines (f x)) []) xs) (filter p xs) (chosen lines f p xs)

flat_map_flat_map : {X Y Z : Type 0} (f : Y → List Z) (g : X → List Y) (xs : List X) → flat_map (λ x. flat_map f (g x)) xs ≡ flat_map f (flat_map g xs)
flat_map_flat_map f g [] = refl
flat_map_flat_map f g (x ∷ xs) = ap (λ zs. flat_map f (g x) ++ zs) (flat_map_flat_map f g xs) ∙ sym (flat_map-append f (g x) (flat_map g xs))

-- those of a list's elements with their places
enumerated : {Z : Type 0} (h : ℕ × ℕ → List Z) (from : ℕ) (xs : List ℕ) → flat_map (λ k. h (k, slice_index xs (k - from))) (range_with_len from (length xs)) ≡ flat_map h (enumerate_from from xs)
enumerated h from [] = refl
enumerated h from (x ∷ xs) =
    let first : from - from ≡ zero = omega arith in
    ap (λ i. h (from, slice_index (x ∷ xs) i) ++ flat_map (λ k. h (k, slice_index (x ∷ xs) (k - from))) (range_with_len (from + 1) (length xs))) first
    ∙ ap (λ zs. h (from, x) ++ zs)
    (same_flat_map (λ k. h (k, slice_index (x ∷ xs) (k - from))) (λ k. h (k, slice_index xs (k - (from + 1)))) (range_with_len (from + 1) (length xs)) later
    ∙ enumerated h (from + 1) xs)
  where
    later : (k : ℕ) → In k (range_with_len (from + 1) (length xs)) → h (k, slice_index (x ∷ xs) (k - from)) ≡ h (k, slice_index xs (k - (from + 1)))
    later k within =
        let low : from + 1 ≤ k = (from_range (from + 1) (length xs) k within).0 in
        let place : k - from ≡ suc (k - (from + 1)) = omega (arith, low) in
        ap (λ i. h (k, slice_index (x ∷ xs) i)) place

pub by_place : {Y Z : Type 0} (f : Y → List Z) (parts : ℕ × ℕ → List Y) (xs ys : List ℕ) → xs ≡ ys
    → flat_map (λ k. flat_map f (parts (k, slice_index xs k))) (range_with_len 0 (length xs)) ≡ flat_map f (flat_map parts (enumerate_from 0 ys))
by_place f parts xs ys same =
    same_flat_map (λ k. flat_map f (parts (k, slice_index xs k))) (λ k. flat_map f (parts (k, slice_index xs (k - 0)))) (range_with_len 0 (length xs)) (λ k within. let same_place : k ≡ k - 0 = omega arith in ap (λ i. flat_map f (parts (k, slice_index xs i))) same_place)
    ∙ enumerated (λ c. flat_map f (parts c)) 0 xs ∙ flat_map_flat_map f parts (enumerate_from 0 xs) ∙ ap (λ zs. flat_map f (flat_map parts (enumerate_from 0 zs))) same

range-split : (from m r : ℕ) → range_with_len from (m + r) ≡ range_with_len from m ++ range_with_len (from + m) r
range-split from zero r =
    let none : zero + r ≡ r = omega arith in
    let same : from ≡ from + zero = omega arith in
    ap (range_with_len from) none ∙ ap (λ (k : ℕ). range_with_len k r) same
range-split from (suc m) r =
    let longer : suc m + r ≡ suc (m + r) = omega arith in
    let after : (from + 1) + m ≡ from + suc m = omega arith in
    ap (range_with_len from) longer ∙ ap (λ (ks : List ℕ). from ∷ ks) (range-split (from + 1) m r) ∙ ap (λ (k : ℕ). from ∷ range_with_len (from + 1) m ++ range_with_len k r) after

-- a number more, whose lines are there if it passes
module _ (p : ℕ → Bool) (own : ℕ → List (List ℕ)) (n : ℕ) (before old : List ℕ) (so_far : old ≡ before ++ lines_text (flat_map (λ k. cond (p k) (own k) []) (range_with_len 0 n))) where
  pub chosen_more : p n ≡ true → (now : List ℕ) → now ≡ old ++ lines_text (own n) → now ≡ before ++ lines_text (flat_map (λ k. cond (p k) (own k) []) (range_with_len 0 (n + 1)))
  chosen_more passes now one =
      lines_of_number (λ k. cond (p k) (own k) []) n before old now so_far (one ∙ ap (λ b. old ++ lines_text (cond b (own n) [])) (sym passes))

  pub chosen_less : p n ≡ false → old ≡ before ++ lines_text (flat_map (λ k. cond (p k) (own k) []) (range_with_len 0 (n + 1)))
  chosen_less fails =
      lines_of_number (λ k. cond (p k) (own k) []) n before old old so_far (sym (append-nil old) ∙ ap (λ b. old ++ lines_text (cond b (own n) [])) (sym fails))

-- all numbers
pub all_chosen : {Y : Type 0} (lines : Y → List (List ℕ)) (f : ℕ → Y) (p : ℕ → Bool) (n m : ℕ) (before old : List ℕ) → n ≡ m → old ≡ before ++ lines_text (flat_map (λ k. cond (p k) (lines (f k)) []) (range_with_len 0 n))
    → old ≡ before ++ lines_text (flat_map lines (map f (filter p (range_with_len 0 m))))
all_chosen lines f p n m before old same so_far =
    so_far ∙ ap (λ all. before ++ lines_text all) (chosen lines f p (range_with_len 0 n)) ∙ ap (λ k. before ++ lines_text (flat_map lines (map f (filter p (range_with_len 0 k))))) same

-- ---- their puts

more : (lines : ℕ → List (List ℕ)) (n : ℕ) → lines_text (flat_map lines (range_with_len 0 n)) ++ lines_text (lines n) ≡ lines_text (flat_map lines (range_with_len 0 (n + 1)))
more lines n = sym (lines-append (flat_map lines (range_with_len 0 n)) (lines n)) ∙ ap lines_text (sym (flat_map-range_more lines n))

module _ (lines : ℕ → List (List ℕ)) (n : ℕ) {before between now : Option (List ℕ)} {count counting counted : ℕ} (so_far : PutsText (lines_text (flat_map lines (range_with_len 0 n))) before between count counting (Ok tt)) where
  pub number_put : PutsText (lines_text (lines n)) between now counting counted (Ok tt) → PutsText (lines_text (flat_map lines (range_with_len 0 (n + 1)))) before now count counted (Ok tt)
  number_put one =
      subst (λ (text : List ℕ). PutsText text before now count counted (Ok tt)) (more lines n) (then_put (lines_text (flat_map lines (range_with_len 0 n))) (lines_text (lines n)) (Ok tt) so_far one)

  pub number_stopped : (k : ℕ) → n < k → (fault : WriteFault) → PutsText (lines_text (lines n)) between now counting counted (Err fault) → PutsText (lines_text (flat_map lines (range_with_len 0 k))) before now count counted (Err fault)
  number_stopped k low fault one =
      let rest = flat_map lines (range_with_len (0 + (n + 1)) (k - (n + 1))) in
      let all : lines_text (flat_map lines (range_with_len 0 (n + 1))) ++ lines_text rest ≡ lines_text (flat_map lines (range_with_len 0 k)) =
      sym (lines-append (flat_map lines (range_with_len 0 (n + 1))) rest)
      ∙ ap lines_text (sym (flat_map-append lines (range_with_len 0 (n + 1)) (range_with_len (0 + (n + 1)) (k - (n + 1)))) ∙ ap (flat_map lines) (sym (range-split 0 (n + 1) (k - (n + 1))))
      ∙ ap (λ m. flat_map lines (range_with_len 0 m)) (omega (arith, low))) in
      let until : PutsText (lines_text (flat_map lines (range_with_len 0 (n + 1)))) before now count counted (Err fault) =
      subst (λ (text : List ℕ). PutsText text before now count counted (Err fault)) (more lines n) (then_put (lines_text (flat_map lines (range_with_len 0 n))) (lines_text (lines n)) (Err fault) so_far one) in
      subst (λ (text : List ℕ). PutsText text before now count counted (Err fault)) all (stopped (lines_text (flat_map lines (range_with_len 0 (n + 1)))) (lines_text rest) fault until)

-- ---- two and three parts

pub first_of_two : (a b whole : List ℕ) {before now : Option (List ℕ)} {count counted : ℕ} → a ++ b ≡ whole → (fault : WriteFault) → PutsText a before now count counted (Err fault) → PutsText whole before now count counted (Err fault)
first_of_two a b whole {before} {now} {count} {counted} same fault one = subst (λ (text : List ℕ). PutsText text before now count counted (Err fault)) same (stopped a b fault one)

pub two_put : (a b whole : List ℕ) {before between now : Option (List ℕ)} {count counting counted : ℕ} → a ++ b ≡ whole → (outcome : Result (Unit {0}) WriteFault) → PutsText a before between count counting (Ok tt) → PutsText b between now counting counted outcome → PutsText whole before now count counted outcome
two_put a b whole {before} {between} {now} {count} {counting} {counted} same outcome one two = subst (λ (text : List ℕ). PutsText text before now count counted outcome) same (then_put a b outcome one two)

module _ (word : List ℕ) (lines : List (List ℕ)) where
  in_parts : (word ++ 10 ∷ []) ++ (lines_text lines ++ ((codes "end-" ++ word) ++ 10 ∷ [])) ≡ lines_text (enclosed word lines)
  in_parts =
      ap (λ text. (word ++ 10 ∷ []) ++ (lines_text lines ++ text)) (sym (append-nil ((codes "end-" ++ word) ++ 10 ∷ [])))
      ∙ ap (λ text. (word ++ 10 ∷ []) ++ text) (sym (lines-append lines ((codes "end-" ++ word) ∷ [])))

  pub enclosed_first : {before now : Option (List ℕ)} {count counted : ℕ} (fault : WriteFault) → PutsText (word ++ 10 ∷ []) before now count counted (Err fault) → PutsText (lines_text (enclosed word lines)) before now count counted (Err fault)
  enclosed_first {before} {now} {count} {counted} fault one =
      subst (λ (text : List ℕ). PutsText text before now count counted (Err fault)) in_parts (stopped (word ++ 10 ∷ []) (lines_text lines ++ ((codes "end-" ++ word) ++ 10 ∷ [])) fault one)

  module _ {t0 t1 : Option (List ℕ)} {n0 n1 : ℕ} (first : PutsText (word ++ 10 ∷ []) t0 t1 n0 n1 (Ok tt)) {t2 : Option (List ℕ)} {n2 : ℕ} where
    pub enclosed_second : (fault : WriteFault) → PutsText (lines_text lines) t1 t2 n1 n2 (Err fault) → PutsText (lines_text (enclosed word lines)) t0 t2 n0 n2 (Err fault)
    enclosed_second fault one =
        subst (λ (text : List ℕ). PutsText text t0 t2 n0 n2 (Err fault)) in_parts
        (then_put (word ++ 10 ∷ []) (lines_text lines ++ ((codes "end-" ++ word) ++ 10 ∷ [])) (Err fault) first (stopped (lines_text lines) ((codes "end-" ++ word) ++ 10 ∷ []) fault one))

    pub enclosed_put : PutsText (lines_text lines) t1 t2 n1 n2 (Ok tt) → {t3 : Option (List ℕ)} {n3 : ℕ} (outcome : Result (Unit {0}) WriteFault) → PutsText ((codes "end-" ++ word) ++ 10 ∷ []) t2 t3 n2 n3 outcome → PutsText (lines_text (enclosed word lines)) t0 t3 n0 n3 outcome
    enclosed_put second {t3} {n3} outcome third =
        subst (λ (text : List ℕ). PutsText text t0 t3 n0 n3 outcome) in_parts
        (then_put (word ++ 10 ∷ []) (lines_text lines ++ ((codes "end-" ++ word) ++ 10 ∷ [])) outcome first (then_put (lines_text lines) ((codes "end-" ++ word) ++ 10 ∷ []) outcome second third))

-- what was pushed into a cleared buffer was put
pub pushed_put : (text cleared pushed piece : List ℕ) {before now : Option (List ℕ)} {count counted : ℕ} (outcome : Result (Unit {0}) WriteFault) → cleared ≡ [] → pushed ≡ cleared ++ text → piece ≡ pushed
    → PutsText piece before now count counted outcome → PutsText text before now count counted outcome
pushed_put text cleared pushed piece {before} {now} {count} {counted} outcome empty told same one =
    subst (λ (text : List ℕ). PutsText text before now count counted outcome) (same ∙ told ∙ ap (λ (front : List ℕ). front ++ text) empty) one

-- the same lines
pub put_as : (xs ys : List (List ℕ)) {before now : Option (List ℕ)} {count counted : ℕ} (outcome : Result (Unit {0}) WriteFault) → xs ≡ ys → PutsText (lines_text xs) before now count counted outcome → PutsText (lines_text ys) before now count counted outcome
put_as xs ys {before} {now} {count} {counted} outcome same one = subst (λ (lines : List (List ℕ)). PutsText (lines_text lines) before now count counted outcome) same one
