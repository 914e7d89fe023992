-- The words that name roots, two at a time.
use Rattle.std.proofs.Common.{◌≡◌, ℕ, ◌-◌, ◌<◌, ◌≤◌, Bool, true, false, List, [], ◌∷◌, ◌++◌, length, take, drop, Option, Some, None, String, refl, sym, ◌∙◌, ap, arith, codes, slice_index_or, append_assoc}
use Rattle.std.specs.Prelude.{option_map, not, if◌then◌else◌}
use Rattle.std.specs.Str.{bytes_eq}
use Rattle.std.specs.String.{string_bytes}
use Rattle.std.proofs.Math.Seq.{take-length}
use Rattle.fab_text.specs.Fields.{hex}
use Rattle.fab_top.specs.declared.engine_words.Asked.TheVariants.{Lanes}
use Rattle.fab_top.specs.Words.{texts, with_guid, roots_in, lanes_in, roots_asked, asked_behind}

-- the GUIDs so far stand in front of those that the words left name
abbrev pub AreRootsSoFar : {Z : Type 0} → List (String Z) → List ℕ → List (String Z) → Type 0
AreRootsSoFar words guids rest = roots_in (texts words) ≡ option_map (λ others. guids ++ others) (roots_in (texts rest))

in_front_of : (o : Option (List ℕ)) → o ≡ option_map (λ others. [] ++ others) o
in_front_of (Some xs) = refl
in_front_of None = refl

pub none_read : {Z : Type 0} (words : List (String Z)) → AreRootsSoFar words [] words
none_read words = in_front_of (roots_in (texts words))

pub rest_shorter : {Z : Type 0} (rest : List (String Z)) → 2 ≤ length rest → length (take (length rest - 2) (drop 2 rest)) < length rest
rest_shorter [] some = absurd (omega (arith, some))
rest_shorter (a ∷ []) some = absurd (omega (arith, some))
rest_shorter (a ∷ b ∷ xs) some =
    let less : length (a ∷ b ∷ xs) - 2 ≡ length xs = omega arith in
    omega (arith, ap (λ n. length (take n xs)) less, ap (λ ys. length ys) (take-length xs))

pub other_flag : {Z : Type 0} (words : List (String Z)) (guids : List ℕ) (rest : List (String Z)) → 2 ≤ length rest → (flag : String Z) → flag ≡ slice_index_or rest 0 flag → (text : List ℕ) → text ≡ string_bytes flag →
    not (bytes_eq text (codes "--root")) ≡ true → AreRootsSoFar words guids rest → None ≡ roots_in (texts words)
other_flag words guids [] some flag at text is other before = absurd (omega (arith, some))
other_flag words guids (a ∷ []) some flag at text is other before = absurd (omega (arith, some))
other_flag words guids (a ∷ b ∷ xs) some flag at text is other before = sym (before ∙ ap (λ test. option_map (λ others. guids ++ others) (if test then with_guid (hex 16 (string_bytes b)) (roots_in (texts xs)) else None)) no)
  where
    refuted : (c : Bool) → not c ≡ true → c ≡ false
    refuted true e = cc
    refuted false e = refl

    no : bytes_eq (string_bytes a) (codes "--root") ≡ false
    no = ap (λ bytes. bytes_eq bytes (codes "--root")) (sym (is ∙ ap string_bytes at)) ∙ refuted (bytes_eq text (codes "--root")) other

no_guids : (test : Bool) (o : Option ℕ) (others : Option (List ℕ)) (guids : List ℕ) → o ≡ None → option_map (λ xs. guids ++ xs) (if test then with_guid o others else None) ≡ None
no_guids true None others guids e = refl
no_guids true (Some guid) others guids e = cc
no_guids false o others guids e = refl

pub no_guid : {Z : Type 0} (words : List (String Z)) (guids : List ℕ) (rest : List (String Z)) → 2 ≤ length rest → (guid : String Z) → guid ≡ slice_index_or rest 1 guid → hex 16 (string_bytes guid) ≡ None →
    AreRootsSoFar words guids rest → None ≡ roots_in (texts words)
no_guid words guids [] some guid at none before = absurd (omega (arith, some))
no_guid words guids (a ∷ []) some guid at none before = absurd (omega (arith, some))
no_guid words guids (a ∷ b ∷ xs) some guid at none before =
    sym (before ∙ no_guids (bytes_eq (string_bytes a) (codes "--root")) (hex 16 (string_bytes b)) (roots_in (texts xs)) guids (ap (λ w. hex 16 (string_bytes w)) (sym at) ∙ none))

one_more : (n : ℕ) (guids : List ℕ) (others : Option (List ℕ)) → option_map (λ xs. guids ++ xs) (with_guid (Some n) others) ≡ option_map (λ xs. (guids ++ n ∷ []) ++ xs) others
one_more n guids None = refl
one_more n guids (Some xs) = ap (λ ys. Some ys) (sym (append_assoc guids (n ∷ []) xs))

pub root_read : {Z : Type 0} (words : List (String Z)) (guids : List ℕ) (rest : List (String Z)) → 2 ≤ length rest → (flag : String Z) → flag ≡ slice_index_or rest 0 flag → (text : List ℕ) → text ≡ string_bytes flag →
    not (bytes_eq text (codes "--root")) ≡ false → (guid : String Z) → guid ≡ slice_index_or rest 1 guid → (n : ℕ) → hex 16 (string_bytes guid) ≡ Some n → AreRootsSoFar words guids rest →
    AreRootsSoFar words (guids ++ n ∷ []) (take (length rest - 2) (drop 2 rest))
root_read words guids [] some flag at text is same guid found n read before = absurd (omega (arith, some))
root_read words guids (a ∷ []) some flag at text is same guid found n read before = absurd (omega (arith, some))
root_read words guids (a ∷ b ∷ xs) some flag at text is same guid found n read before =
    before ∙ ap (λ test. option_map (λ others. guids ++ others) (if test then with_guid (hex 16 (string_bytes b)) (roots_in (texts xs)) else None)) yes
    ∙ ap (λ o. option_map (λ others. guids ++ others) (with_guid o (roots_in (texts xs)))) (ap (λ w. hex 16 (string_bytes w)) (sym found) ∙ read)
    ∙ one_more n guids (roots_in (texts xs)) ∙ ap (λ ys. option_map (λ others. (guids ++ n ∷ []) ++ others) (roots_in (texts ys))) (sym (ap (λ k. take k xs) less ∙ take-length xs))
  where
    less : length (a ∷ b ∷ xs) - 2 ≡ length xs
    less = omega arith

    accepted : (c : Bool) → not c ≡ false → c ≡ true
    accepted true e = refl
    accepted false e = cc

    yes : bytes_eq (string_bytes a) (codes "--root") ≡ true
    yes = ap (λ bytes. bytes_eq bytes (codes "--root")) (sym (is ∙ ap string_bytes at)) ∙ accepted (bytes_eq text (codes "--root")) same

pub word_left : {Z : Type 0} (words : List (String Z)) (guids : List ℕ) (rest : List (String Z)) → length rest < 2 → 0 < length rest → AreRootsSoFar words guids rest → None ≡ roots_in (texts words)
word_left words guids [] few some before = absurd (omega (arith, some))
word_left words guids (a ∷ []) few some before = sym before
word_left words guids (a ∷ b ∷ xs) few some before = absurd (omega (arith, few))

pub all_read : {Z : Type 0} (words : List (String Z)) (guids : List ℕ) (rest : List (String Z)) → length rest ≡ 0 → AreRootsSoFar words guids rest → Some guids ≡ roots_in (texts words)
all_read words guids [] none before = sym (before ∙ ap (λ xs. Some xs) (nothing_behind guids))
  where
    nothing_behind : (xs : List ℕ) → xs ++ [] ≡ xs
    nothing_behind [] = refl
    nothing_behind (x ∷ xs) = ap (λ ys. x ∷ ys) (nothing_behind xs)
all_read words guids (a ∷ xs) none before = absurd (omega (arith, none))

-- ---- words that are no lane count

pub not_two_words : {Z : Type 0} (others : List (String Z)) → (length others ≡ 0 → ⊥) → (length others ≡ 2 → ⊥) → asked_behind (texts others) ≡ roots_asked (texts others)
not_two_words [] some other = absurd (some refl)
not_two_words (a ∷ []) some other = refl
not_two_words (a ∷ b ∷ []) some other = absurd (other (omega arith))
not_two_words (a ∷ b ∷ c ∷ rest) some other = refl

pub other_two_words : {Z : Type 0} (others : List (String Z)) → length others ≡ 2 → (flag : String Z) → flag ≡ slice_index_or others 0 flag → (text : List ℕ) → text ≡ string_bytes flag →
    bytes_eq text (codes "--lanes") ≡ false → asked_behind (texts others) ≡ roots_asked (texts others)
other_two_words [] two flag at text is other = absurd (omega (arith, two))
other_two_words (a ∷ []) two flag at text is other = refl
other_two_words (a ∷ b ∷ c ∷ rest) two flag at text is other = refl
other_two_words (a ∷ b ∷ []) two flag at text is other =
    ap (λ test. if test then option_map Lanes (lanes_in (string_bytes b)) else roots_asked (texts (a ∷ b ∷ [])))
    (ap (λ bytes. bytes_eq bytes (codes "--lanes")) (sym (is ∙ ap string_bytes at)) ∙ other)
