-- The words of a line of a group: its number, and LIDs.
use Rattle.std.proofs.Common.{◌≡◌, ◌≢◌, ℕ, ◌+◌, ◌*◌, ◌<◌, ◌≤◌, Bool, true, false, cond, not, ◌&&◌, List, [], ◌∷◌, ◌++◌, length, drop, Option, Some, None, nat_lt, nat_le, codes, refl, sym, ◌∙◌, ap, subst, arith, append_assoc, length-drop}
use Rattle.std.specs.Prelude.{◌==◌, if◌then◌else◌, option_map}
use Rattle.std.specs.Char.{digit_value, is_digit}
use Rattle.std.specs.List.{list_all, starts_with}
use Rattle.std.proofs.lemmas.Bool.{and_parts, eq-eqb, ne_eqb, le-leb, leb-true}
use Rattle.std.proofs.lemmas.Bool.Decides.{nat_tests}
use Rattle.std.proofs.lemmas.List.{append-nil}
use Rattle.std.proofs.lemmas.Option.{same_Some}
use Rattle.fab_text.specs.Digits.{number_spelled}
use Rattle.fab_text.specs.Fields.{all_read, with_first, hex, words_of}
use Rattle.fab_text.specs.Fronts.{hex_at}
use Rattle.fab_text.proofs.WordNumbers.{ends_at, hex_is}
use Rattle.fab_mcast.specs.GroupList.{lid_of}

-- ---- hexadecimal numbers of at most four digits

digit_low : (byte : ℕ) → is_digit byte 16 ≡ true → digit_value byte < 16
digit_low byte h = grind (arith, h)

four_low : (digits : List ℕ) → length digits ≤ 4 → list_all (λ byte. is_digit byte 16) digits ≡ true → number_spelled 16 digits < 65536
four_low [] few all = omega arith
four_low (a ∷ []) few all = let p = and_parts (is_digit a 16) true all in omega (arith, digit_low a p.0)
four_low (a ∷ b ∷ []) few all =
    let p = and_parts (is_digit a 16) (list_all (λ byte. is_digit byte 16) (b ∷ [])) all in
    let q = and_parts (is_digit b 16) true p.1 in
    omega (arith, digit_low a p.0, digit_low b q.0)
four_low (a ∷ b ∷ c ∷ []) few all =
    let p = and_parts (is_digit a 16) (list_all (λ byte. is_digit byte 16) (b ∷ c ∷ [])) all in
    let q = and_parts (is_digit b 16) (list_all (λ byte. is_digit byte 16) (c ∷ [])) p.1 in
    let r = and_parts (is_digit c 16) true q.1 in
    omega (arith, digit_low a p.0, digit_low b q.0, digit_low c r.0)
four_low (a ∷ b ∷ c ∷ d ∷ []) few all =
    let p = and_parts (is_digit a 16) (list_all (λ byte. is_digit byte 16) (b ∷ c ∷ d ∷ [])) all in
    let q = and_parts (is_digit b 16) (list_all (λ byte. is_digit byte 16) (c ∷ d ∷ [])) p.1 in
    let r = and_parts (is_digit c 16) (list_all (λ byte. is_digit byte 16) (d ∷ [])) q.1 in
    let s = and_parts (is_digit d 16) true r.1 in
    omega (arith, digit_low a p.0, digit_low b q.0, digit_low c r.0, digit_low d s.0)
four_low (a ∷ b ∷ c ∷ d ∷ e ∷ others) few all = absurd (omega (arith, few))

pub hex_low : (word : List ℕ) (number : ℕ) → hex 4 word ≡ Some number → number < 65536
hex_low word number e = by (starts_with (λ x y. x == y) word (codes "0x") && nat_lt 2 (length word)) (nat_le (length word) (2 + 4)) (list_all (λ byte. is_digit byte 16) (drop 2 word)) refl refl e
  where
    by : (front short all : Bool) → nat_le (length word) (2 + 4) ≡ short → list_all (λ byte. is_digit byte 16) (drop 2 word) ≡ all →
        cond (front && short && all) (Some (number_spelled 16 (drop 2 word))) None ≡ Some number → number < 65536
    by true true true is_short digits h =
        omega (arith, same_Some (number_spelled 16 (drop 2 word)) number h, four_low (drop 2 word) (omega (arith, leb-true (length word) 6 is_short, length-drop 2 word)) digits)
    by true true false is_short digits h = absurd (cc)
    by true false all is_short digits h = absurd (cc)
    by false short all is_short digits h = absurd (cc)

-- the same lemma stands above, for words of a command line
pub short_hex_is : (word : List ℕ) → starts_with (λ x y. x == y) word (codes "0x") ≡ true → length word ≤ 6 → hex 4 word ≡ ends_at (length word) (hex_at word 2)
short_hex_is word begun short =
    ap (λ test. if starts_with (λ x y. x == y) word (codes "0x") && nat_lt 2 (length word) && test && list_all (λ byte. is_digit byte 16) (drop 2 word) then Some (number_spelled 16 (drop 2 word)) else None)
    (le-leb (length word) 6 short ∙ sym (le-leb (length word) 18 (omega (arith, short))))
    ∙ hex_is word begun

pub long_hex : (word : List ℕ) → 6 < length word → hex 4 word ≡ None
long_hex word long = by (starts_with (λ x y. x == y) word (codes "0x") && nat_lt 2 (length word)) (nat_le (length word) (2 + 4)) (list_all (λ byte. is_digit byte 16) (drop 2 word)) refl
  where
    by : (front short all : Bool) → nat_le (length word) (2 + 4) ≡ short → cond (front && short && all) (Some (number_spelled 16 (drop 2 word))) None ≡ None
    by true true all e = absurd (omega (arith, leb-true (length word) 6 e, long))
    by true false all e = refl
    by false short all e = refl

pub other_hex : (word : List ℕ) → starts_with (λ x y. x == y) word (codes "0x") ≡ false → hex 4 word ≡ None
other_hex word e = ap (λ test. cond (test && nat_lt 2 (length word) && nat_le (length word) (2 + 4) && list_all (λ byte. is_digit byte 16) (drop 2 word)) (Some (number_spelled 16 (drop 2 word))) None) e

-- a number that ends with the word, ends before, or isn't there
module _ (word : List ℕ) (begun : starts_with (λ x y. x == y) word (codes "0x") ≡ true) (short : length word ≤ 6) where
  pub hex_ended : (number end : ℕ) → hex_at word 2 ≡ Some (number, end) → end ≡ length word → hex 4 word ≡ Some number
  hex_ended number end read at = short_hex_is word begun short ∙ ap (ends_at (length word)) read ∙ ap (λ (test : Bool). if test then Some number else None) (eq-eqb end (length word) at)

  pub hex_unended : (number end : ℕ) → hex_at word 2 ≡ Some (number, end) → end ≢ length word → hex 4 word ≡ None
  hex_unended number end read at = short_hex_is word begun short ∙ ap (ends_at (length word)) read ∙ ap (λ (test : Bool). if test then Some number else None) (ne_eqb end (length word) at)

  pub hex_missing : hex_at word 2 ≡ None → hex 4 word ≡ None
  hex_missing read = short_hex_is word begun short ∙ ap (ends_at (length word)) read

-- ---- LIDs, word after word

-- the LIDs in front of those that are still to be read
abbrev pub behind : List ℕ → Option (List ℕ) → Option (List ℕ)
behind front lids = option_map (λ others. front ++ others) lids

pub none_in_front : (lids : Option (List ℕ)) → behind [] lids ≡ lids
none_in_front None = refl
none_in_front (Some lids) = refl

one_behind : (front : List ℕ) (lid : ℕ) (lids : Option (List ℕ)) → behind front (with_first (Some lid) lids) ≡ behind (front ++ lid ∷ []) lids
one_behind front lid None = refl
one_behind front lid (Some lids) = ap (λ (all : List ℕ). Some all) (sym (append_assoc front (lid ∷ []) lids))

module _ (front : List ℕ) (rest word behind_it : List ℕ) (e : words_of rest ≡ word ∷ words_of behind_it) where
  pub lid_read : (lid : ℕ) → lid_of word ≡ Some lid → behind front (all_read lid_of (words_of rest)) ≡ behind (front ++ lid ∷ []) (all_read lid_of (words_of behind_it))
  lid_read lid is =
      ap (λ (words : List (List ℕ)). behind front (all_read lid_of words)) e ∙ ap (λ o. behind front (with_first o (all_read lid_of (words_of behind_it)))) is
      ∙ one_behind front lid (all_read lid_of (words_of behind_it))

  pub no_lid : lid_of word ≡ None → behind front (all_read lid_of (words_of rest)) ≡ None
  no_lid is =
      ap (λ (words : List (List ℕ)). behind front (all_read lid_of words)) e ∙ ap (λ o. behind front (with_first o (all_read lid_of (words_of behind_it)))) is

pub all_lids_read : (front rest : List ℕ) → words_of rest ≡ [] → behind front (all_read lid_of (words_of rest)) ≡ Some front
all_lids_read front rest e = ap (λ (words : List (List ℕ)). behind front (all_read lid_of words)) e ∙ ap (λ (all : List ℕ). Some all) (append-nil front)
