-- The fields of a line that was written, each after a space.
use Rattle.std.proofs.Common.{◌≡◌, ℕ, ◌<◌, false, cond, not, List, [], ◌∷◌, ◌++◌, length, map, Some, Option, refl, sym, ◌∙◌, ap, arith}
use Rattle.std.specs.Prelude.{All, flat_map}
use Rattle.std.specs.List.{join_with_byte}
use Rattle.std.proofs.lemmas.Bool.{ne_eqb}
use Rattle.std.proofs.lemmas.List.{append-nil}
use Rattle.std.proofs.lemmas.List.Elements.{All-nil, All-cons, All-head, All-tail}
use Rattle.fab_text.specs.Bytes.{is_blank}
use Rattle.fab_text.proofs.Words.{IsWord}
use Rattle.fab_text.specs.Fields.{joined, parts, without_empty, first_kept, fields, all_read, with_first}

-- a word in front of a blank
parts_word : (word rest : List ℕ) → All (λ byte. is_blank byte ≡ false) word → parts (word ++ 32 ∷ rest) ≡ word ∷ parts rest
parts_word [] rest h = refl
parts_word (byte ∷ word) rest h =
    let first : is_blank byte ≡ false = All-head (λ byte. is_blank byte ≡ false) byte word h in
    ap (λ b. joined b byte (parts (word ++ 32 ∷ rest))) first ∙ ap (joined false byte) (parts_word word rest (All-tail (λ byte. is_blank byte ≡ false) byte word h))

-- a word at the end
parts_last : (word : List ℕ) → All (λ byte. is_blank byte ≡ false) word → parts word ≡ word ∷ []
parts_last [] h = refl
parts_last (byte ∷ word) h =
    let first : is_blank byte ≡ false = All-head (λ byte. is_blank byte ≡ false) byte word h in
    ap (λ b. joined b byte (parts word)) first ∙ ap (joined false byte) (parts_last word (All-tail (λ byte. is_blank byte ≡ false) byte word h))

kept_word : (word : List ℕ) (others : List (List ℕ)) → 0 < length word → without_empty (word ∷ others) ≡ word ∷ without_empty others
kept_word [] others h = absurd (omega arith)
kept_word (b ∷ bs) others h = ap (λ v. cond (not v) ((b ∷ bs) ∷ without_empty others) (without_empty others)) (ne_eqb (length (b ∷ bs)) 0 (λ e. omega (arith, e)))

pub all_kept : (words : List (List ℕ)) → All IsWord words → without_empty words ≡ words
all_kept [] h = refl
all_kept (word ∷ words) h = kept_word word words (All-head IsWord word words h).some ∙ ap (λ ws. word ∷ ws) (all_kept words (All-tail IsWord word words h))

-- words, each after a space
abbrev pub spaced : List (List ℕ) → List ℕ
spaced words = flat_map (λ word. 32 ∷ word) words

pub parts_spaced : (word : List ℕ) (words : List (List ℕ)) → All (λ byte. is_blank byte ≡ false) word → All IsWord words → parts (word ++ spaced words) ≡ word ∷ words
parts_spaced word [] h all = ap parts (append-nil word) ∙ parts_last word h
parts_spaced word (next ∷ words) h all =
    parts_word word (next ++ spaced words) h ∙ ap (λ ps. word ∷ ps) (parts_spaced next words (All-head IsWord next words all).solid (All-tail IsWord next words all))

-- the fields of a word and others behind it
pub fields_spaced : (word : List ℕ) (words : List (List ℕ)) → All (λ byte. is_blank byte ≡ false) word → All IsWord words → fields (word ++ spaced words) ≡ word ∷ words
fields_spaced word words h all = ap first_kept (parts_spaced word words h all) ∙ ap (λ ws. word ∷ ws) (all_kept words all)

pub fields_word : (word : List ℕ) → All (λ byte. is_blank byte ≡ false) word → fields word ≡ word ∷ []
fields_word word h = ap first_kept (parts_last word h)

-- the fields of a word and of what stands behind a space
pub fields_more : (word rest : List ℕ) → All (λ byte. is_blank byte ≡ false) word → fields (word ++ 32 ∷ rest) ≡ word ∷ without_empty (parts rest)
fields_more word rest h = ap first_kept (parts_word word rest h)

pub words_last : (word : List ℕ) → IsWord word → without_empty (parts word) ≡ word ∷ []
words_last word h = ap without_empty (parts_last word h.solid) ∙ kept_word word [] h.some

-- words with a space between them
pub joined_spaced : (word : List ℕ) (words : List (List ℕ)) → join_with_byte 32 (word ∷ words) ≡ word ++ spaced words
joined_spaced word [] = sym (append-nil word)
joined_spaced word (next ∷ words) = ap (λ rest. word ++ 32 ∷ rest) (joined_spaced next words)

-- what is read of each
pub read_back : {A X : Type 0} (read : List ℕ → Option A) (write : X → List ℕ) (value : X → A) (P : X → Type 0) → ((x : X) → P x → read (write x) ≡ Some (value x)) → (xs : List X) → All P xs →
    all_read read (map write xs) ≡ Some (map value xs)
read_back read write value P one [] all = refl
read_back read write value P one (x ∷ xs) all =
    ap (λ o. with_first o (all_read read (map write xs))) (one x (All-head P x xs all)) ∙ ap (λ o. with_first (Some (value x)) o) (read_back read write value P one xs (All-tail P x xs all))

pub all_words : {X : Type 0} (write : X → List ℕ) → ((x : X) → IsWord (write x)) → (xs : List X) → All IsWord (map write xs)
all_words write one [] = All-nil IsWord
all_words write one (x ∷ xs) = All-cons IsWord (write x) (map write xs) (one x) (all_words write one xs)

pub spaced_map : {X : Type 0} (write : X → List ℕ) (xs : List X) → flat_map (λ x. 32 ∷ write x) xs ≡ spaced (map write xs)
spaced_map write [] = refl
spaced_map write (x ∷ xs) = ap (λ rest. (32 ∷ write x) ++ rest) (spaced_map write xs)
