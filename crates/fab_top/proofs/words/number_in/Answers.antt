use Rattle.std.proofs.Common.{◌≡◌, ◌∙◌, ◌<◌, ◌^◌, ℕ, Bool, false, List, length, Option, Some, None, sym, ap, arith, eq-eqb}
use Rattle.std.specs.Prelude.{◌==◌, if◌then◌else◌}
use Rattle.std.proofs.lemmas.Bool.{le-leb, ne_eqb}
use Rattle.fab_text.proofs.WordNumbers.{at_most, ends_at}
use Rattle.fab_text.specs.Fronts.{dec_at}
use Rattle.fab_top.specs.Words.{has_leading_zero, number_in}
use Rattle.fab_top.proofs.LowNumbers.{number_is}
use Rattle.fab_top.proofs.words.number_in.Goals as goal

-- the number by what was read in the word's bytes
by_read : (greatest : ℕ) (word text : List ℕ) (read : Option (ℕ × ℕ)) (number end : ℕ) → has_leading_zero word ≡ false → greatest < 2 ^ 64 → text ≡ word → read ≡ dec_at text 0 → read ≡ Some (number, end) →
    number_in greatest word ≡ at_most greatest (if end == length text then Some number else None)
by_read greatest word text read number end zero h same is found =
    number_is greatest word zero h ∙ ap (λ (bytes : List ℕ). at_most greatest (ends_at (length bytes) (dec_at bytes 0))) (sym same)
    ∙ ap (λ (r : Option (ℕ × ℕ)). at_most greatest (ends_at (length text) r)) (sym is ∙ found)

pub returns-in-Some-clause-number : goal.returns-in-Some-clause-number
returns-in-Some-clause-number c =
    let number : ℕ = c.in-Some.number in
    sym (by_read c.args.greatest c.args.word.now _ _ number c.in-Some.end (sym c.has_leading_zero.ensures ∙ c.if-has_leading_zero.false) (omega (arith, c.ranges.greatest.fits)) c.as_bytes-digits.ensures.value c.read_dec.ensures.number c.in-Some.is
    ∙ ap (λ (test : Bool). at_most c.args.greatest (if test then Some number else None)) (eq-eqb c.in-Some.end _ c.if-end-digits.true)
    ∙ ap (λ (test : Bool). if test then Some number else None) (le-leb number c.args.greatest c.if-number-greatest.true))

pub returns-in_default-2-clause-number : goal.returns-in_default-2-clause-number
returns-in_default-2-clause-number c =
    let number : ℕ = c.in-Some.number in
    sym (by_read c.args.greatest c.args.word.now _ _ number c.in-Some.end (sym c.has_leading_zero.ensures ∙ c.if-has_leading_zero.false) (omega (arith, c.ranges.greatest.fits)) c.as_bytes-digits.ensures.value c.read_dec.ensures.number c.in-Some.is
    ∙ ap (λ (test : Bool). at_most c.args.greatest (if test then Some number else None)) (ne_eqb c.in-Some.end _ c.if-end-digits.false))
