-- Words with commas between them, one word more.
use Rattle.std.proofs.Common.{◌≡◌, ℕ, suc, ◌+◌, ◌<◌, List, [], ◌∷◌, ◌++◌, length, map, take, get_or, refl, sym, ◌∙◌, ap, arith, append_assoc}
use Rattle.std.specs.Prelude.{codes, decimal, if◌then◌else◌}
use Rattle.std.specs.List.{range_with_len}
use Rattle.std.proofs.lemmas.Bool.{ne_eqb}
use Rattle.std.proofs.lemmas.List.{length-map, length-take-le, map-append, take_more}
use Rattle.std.proofs.lemmas.List.FromFn.{map-range_with_len_more, length-map-range_with_len}
use Rattle.fab_dump.proofs.Writing.Rows.{added}
use Rattle.fab_export.specs.ConfigText.{with_commas, comma_before, weight_text, weights_text, map_text}

comma_behind : (n : ℕ) → comma_before (suc n) ≡ codes ","
comma_behind n = ap (λ b. if b then [] else codes ",") (ne_eqb (suc n) 0 (λ e. omega (arith, e)))

one_more : (words : List (List ℕ)) (word : List ℕ) → with_commas (words ++ word ∷ []) ≡ with_commas words ++ (comma_before (length words) ++ word)
one_more [] word = refl
one_more (x ∷ []) word = refl
one_more (x ∷ y ∷ words) word =
    ap (λ bytes. x ++ (44 ∷ bytes)) (one_more (y ∷ words) word)
    ∙ sym (append_assoc x (44 ∷ with_commas (y ∷ words)) (comma_before (length (y ∷ words)) ++ word))
    ∙ ap (λ comma. (x ++ (44 ∷ with_commas (y ∷ words))) ++ (comma ++ word)) (comma_behind (length words) ∙ sym (comma_behind (suc (length words))))

-- pushed behind a comma, but for the first
pub word_pushed : (words : List (List ℕ)) (word : List ℕ) (n : ℕ) (before old comma now : List ℕ) → length words ≡ n → old ≡ before ++ with_commas words → comma ≡ old ++ comma_before n → now ≡ comma ++ word →
    now ≡ before ++ with_commas (words ++ word ∷ [])
word_pushed words word n before old comma now many so_far first second =
    added before (with_commas words) (comma_before n ++ word) old now so_far (added old (comma_before n) word comma now first second)
    ∙ ap (λ k. before ++ (with_commas words ++ (comma_before k ++ word))) (sym many)
    ∙ ap (λ bytes. before ++ bytes) (sym (one_more words word))

pub weight_pushed : (n m k : ℕ) (before old comma number now : List ℕ) → m ≡ n → k ≡ n → old ≡ before ++ weights_text n → comma ≡ old ++ comma_before m → number ≡ comma ++ decimal k → now ≡ number ++ codes ":64" →
    now ≡ before ++ weights_text (n + 1)
weight_pushed n m k before old comma number now same also so_far first second third =
    word_pushed (map weight_text (range_with_len 0 n)) (weight_text n) n before old comma now (length-map-range_with_len weight_text 0 n) so_far (first ∙ ap (λ j. old ++ comma_before j) same)
    (added comma (decimal n) (codes ":64") number now (second ∙ ap (λ j. comma ++ decimal j) also) third)
    ∙ ap (λ words. before ++ with_commas words) (sym (map-range_with_len_more weight_text 0 n n (omega arith)))

pub lane_pushed : (lanes : List ℕ) (n d k : ℕ) (before old comma now : List ℕ) → n < length lanes → k ≡ get_or lanes n d → old ≡ before ++ map_text (take n lanes) → comma ≡ old ++ comma_before n → now ≡ comma ++ decimal k →
    now ≡ before ++ map_text (take (n + 1) lanes)
lane_pushed lanes n d k before old comma now low same so_far first second =
    word_pushed (map decimal (take n lanes)) (decimal (get_or lanes n d)) n before old comma now (length-map (take n lanes) decimal ∙ length-take-le n lanes (omega (arith, low))) so_far first (second ∙ ap (λ j. comma ++ decimal j) same)
    ∙ ap (λ words. before ++ with_commas words) (sym (ap (map decimal) (take_more lanes n d low) ∙ map-append decimal (take n lanes) (get_or lanes n d ∷ [])))
