-- The fields of a line, one after the other.
use Rattle.std.proofs.Common.{◌≡◌, ℕ, suc, ◌+◌, ◌-◌, ◌<◌, Bool, true, false, cond, List, [], ◌∷◌, length, take, drop, Some, None, Option, subst, not, nat_eq, refl, sym, ◌∙◌, ap, arith}
use Rattle.std.specs.Prelude.{MatchOption}
use Rattle.std.specs.List.{prefix_len}
use Rattle.std.proofs.lemmas.Bool.{ne_eqb, eqb-true}
use Rattle.std.proofs.lemmas.List.{drop-drop}
use Rattle.std.proofs.lemmas.List.Sums.{prefix_len-le-length}
use Rattle.std.proofs.lemmas.Bool.Decides.{nat_tests}
use Rattle.std.proofs.lemmas.Grind.{common_steps}
use Rattle.fab_text.specs.Bytes.{is_blank}
use Rattle.fab_text.specs.Fields.{joined, parts, without_empty}
use Rattle.fab_text.specs.declared.fronts.Span.{Span}
use Rattle.fab_text.specs.Fronts.{word_at}

abbrev is_other : ℕ → Bool
is_other byte = not (is_blank byte)

abbrev front : List ℕ → ℕ
front bytes = prefix_len is_other bytes

abbrev blanks : List ℕ → ℕ
blanks bytes = prefix_len is_blank bytes

-- the parts behind a blank
abbrev behind : List ℕ → List (List ℕ)
behind [] = []
behind (b ∷ bs) = parts bs

split_step : (v : Bool) (b : ℕ) (bs : List ℕ) → parts bs ≡ take (front bs) bs ∷ behind (drop (front bs) bs) →
    joined v b (parts bs) ≡ take (cond (not v) (1 + front bs) 0) (b ∷ bs) ∷ behind (drop (cond (not v) (1 + front bs) 0) (b ∷ bs))
split_step true b bs h = refl
split_step false b bs h =
    let one : suc (front bs) ≡ 1 + front bs = omega arith in
    ap (joined false b) h ∙ ap (λ n. take n (b ∷ bs) ∷ behind (drop n (b ∷ bs))) one

-- the first part, and those behind it
parts_split : (bytes : List ℕ) → parts bytes ≡ take (front bytes) bytes ∷ behind (drop (front bytes) bytes)
parts_split [] = refl
parts_split (b ∷ bs) = split_step (is_blank b) b bs (parts_split bs)

behind_step : (v : Bool) (b : ℕ) (bs : List ℕ) → is_blank b ≡ v → without_empty (parts (drop (front bs) bs)) ≡ without_empty (behind (drop (front bs) bs)) →
    without_empty (parts (drop (cond (not v) (1 + front bs) 0) (b ∷ bs))) ≡ without_empty (behind (drop (cond (not v) (1 + front bs) 0) (b ∷ bs)))
behind_step true b bs e h = ap (λ w. without_empty (joined w b (parts bs))) e
behind_step false b bs e h =
    let one : suc (front bs) ≡ 1 + front bs = omega arith in
    ap (λ n. without_empty (parts (drop n (b ∷ bs)))) (sym one) ∙ h ∙ ap (λ n. without_empty (behind (drop n (b ∷ bs)))) one

-- what stands behind the first part begins with a blank
behind_front : (bytes : List ℕ) → without_empty (parts (drop (front bytes) bytes)) ≡ without_empty (behind (drop (front bytes) bytes))
behind_front [] = refl
behind_front (b ∷ bs) = behind_step (is_blank b) b bs refl (behind_front bs)

skip_step : (v : Bool) (b : ℕ) (bs : List ℕ) → is_blank b ≡ v → without_empty (parts bs) ≡ without_empty (parts (drop (blanks bs) bs)) →
    without_empty (joined v b (parts bs)) ≡ without_empty (parts (drop (cond v (1 + blanks bs) 0) (b ∷ bs)))
skip_step true b bs e h =
    let one : suc (blanks bs) ≡ 1 + blanks bs = omega arith in
    h ∙ ap (λ n. without_empty (parts (drop n (b ∷ bs)))) one
skip_step false b bs e h = ap (λ w. without_empty (joined w b (parts bs))) (sym e)

blanks_skipped : (bytes : List ℕ) → without_empty (parts bytes) ≡ without_empty (parts (drop (blanks bytes) bytes))
blanks_skipped [] = refl
blanks_skipped (b ∷ bs) = skip_step (is_blank b) b bs refl (blanks_skipped bs)

end_step : (v : Bool) (b : ℕ) (bs : List ℕ) → is_blank b ≡ v → (front (drop (blanks bs) bs) ≡ 0 → without_empty (parts bs) ≡ []) →
    front (drop (cond v (1 + blanks bs) 0) (b ∷ bs)) ≡ 0 → without_empty (joined v b (parts bs)) ≡ []
end_step true b bs e h k =
    let one : suc (blanks bs) ≡ 1 + blanks bs = omega arith in
    h (ap (λ n. front (drop n (b ∷ bs))) one ∙ k)
end_step false b bs e h k =
    let some : front (b ∷ bs) ≡ 1 + front bs = ap (λ w. cond (not w) (1 + front bs) 0) e in
    absurd (omega (arith, some, k))

-- no part that isn't empty
no_part : (bytes : List ℕ) → front (drop (blanks bytes) bytes) ≡ 0 → without_empty (parts bytes) ≡ []
no_part [] h = refl
no_part (b ∷ bs) h = end_step (is_blank b) b bs refl (no_part bs) h

kept_first : (part : List ℕ) (others : List (List ℕ)) → 0 < length part → without_empty (part ∷ others) ≡ part ∷ without_empty others
kept_first [] others h = absurd (omega arith)
kept_first (b ∷ bs) others h = ap (λ v. cond (not v) ((b ∷ bs) ∷ without_empty others) (without_empty others)) (ne_eqb (length (b ∷ bs)) 0 (λ e. omega (arith, e)))

some_part : (bytes : List ℕ) → 0 < front bytes → without_empty (parts bytes) ≡ take (front bytes) bytes ∷ without_empty (parts (drop (front bytes) bytes))
some_part bytes h =
    let within = prefix_len-le-length is_other bytes in
    let some : 0 < length (take (front bytes) bytes) = grind (arith, common_steps, within) in
    ap without_empty (parts_split bytes) ∙ kept_first (take (front bytes) bytes) (behind (drop (front bytes) bytes)) some
    ∙ ap (λ xs. take (front bytes) bytes ∷ xs) (sym (behind_front bytes))

-- the fields from a place on, by the next word there
abbrev FirstOf : List ℕ → ℕ → Type 0
FirstOf line from = MatchOption (word_at line from) (without_empty (parts (drop from line)) ≡ [])
    (λ part. without_empty (parts (drop from line)) ≡ take (part.end - part.start) (drop part.start line) ∷ without_empty (parts (drop part.end line)))

next_word : (line : List ℕ) (from : ℕ) → FirstOf line from
next_word line from = go _ refl
  where
    moved : drop (blanks (drop from line)) (drop from line) ≡ drop (from + blanks (drop from line)) line
    moved = drop-drop (blanks (drop from line)) from line

    go : (v : Bool) → nat_eq (front (drop (from + blanks (drop from line)) line)) 0 ≡ v →
        MatchOption (cond v None (Some (record { start = from + blanks (drop from line); end = from + blanks (drop from line) + front (drop (from + blanks (drop from line)) line) })))
        (without_empty (parts (drop from line)) ≡ [])
        (λ (part : Span). without_empty (parts (drop from line)) ≡ take (part.end - part.start) (drop part.start line) ∷ without_empty (parts (drop part.end line)))
    go true e = no_part (drop from line) (ap front moved ∙ eqb-true _ 0 e)
    go false e =
        let start : ℕ = from + blanks (drop from line) in
        let word : List ℕ = drop start line in
        let some : 0 < front word = grind (arith, nat_tests, e) in
        let size : start + front word - start ≡ front word = omega arith in
        let later : drop (front word) word ≡ drop (start + front word) line = drop-drop (front word) start line in
        blanks_skipped (drop from line) ∙ ap (λ bs. without_empty (parts bs)) moved ∙ some_part word some
        ∙ ap (λ n. take n word ∷ without_empty (parts (drop (front word) word))) (sym size)
        ∙ ap (λ bs. take (start + front word - start) word ∷ without_empty (parts bs)) later

pub word_next : (line : List ℕ) (from : ℕ) (part : Span) → Some part ≡ word_at line from →
    without_empty (parts (drop from line)) ≡ take (part.end - part.start) (drop part.start line) ∷ without_empty (parts (drop part.end line))
word_next line from part e = subst (λ (o : Option Span). MatchOption o (without_empty (parts (drop from line)) ≡ [])
    (λ part. without_empty (parts (drop from line)) ≡ take (part.end - part.start) (drop part.start line) ∷ without_empty (parts (drop part.end line)))) (sym e) (next_word line from)

pub no_word : (line : List ℕ) (from : ℕ) → None ≡ word_at line from → without_empty (parts (drop from line)) ≡ []
no_word line from e = subst (λ (o : Option Span). MatchOption o (without_empty (parts (drop from line)) ≡ [])
    (λ part. without_empty (parts (drop from line)) ≡ take (part.end - part.start) (drop part.start line) ∷ without_empty (parts (drop part.end line)))) (sym e) (next_word line from)
