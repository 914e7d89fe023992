use Rattle.std.proofs.Common.{◌≡◌, ◌≤◌, ◌∙◌, ℕ, length, Some, true, codes, sym, arith}
use Rattle.std.specs.Prelude.{◌==◌}
use Rattle.std.specs.List.{starts_with}
use Rattle.fab_text.specs.Fields.{hex}
use Rattle.fab_mcast.proofs.ReadingWords.{hex_low, hex_ended, hex_unended, hex_missing}
use Rattle.fab_mcast.proofs.group_list.hex_in.Goals as goal

pub overflow_cast-result : goal.overflow_cast-result
overflow_cast-result c =
    let begun : starts_with (λ x y. x == y) c.args.word.now (codes "0x") ≡ true = sym c.starts_with.ensures.value ∙ c.if-not-starts_with.false in
    let is : hex 4 c.args.word.now ≡ Some c.in-Some.number = hex_ended c.args.word.now begun (omega (arith, c.if-word-gt6.false)) c.in-Some.number c.in-Some.end (sym c.read_hex.ensures.number ∙ c.in-Some.is) c.if-end-word.true in
    omega (arith, hex_low c.args.word.now c.in-Some.number is)

pub returns-in-Some : goal.returns-in-Some
returns-in-Some c =
    let begun : starts_with (λ x y. x == y) c.args.word.now (codes "0x") ≡ true = sym c.starts_with.ensures.value ∙ c.if-not-starts_with.false in
    sym (hex_ended c.args.word.now begun (omega (arith, c.if-word-gt6.false)) c.in-Some.number c.in-Some.end (sym c.read_hex.ensures.number ∙ c.in-Some.is) c.if-end-word.true)

pub returns-in_default : goal.returns-in_default
returns-in_default c =
    let begun : starts_with (λ x y. x == y) c.args.word.now (codes "0x") ≡ true = sym c.starts_with.ensures.value ∙ c.if-not-starts_with.false in
    sym (hex_unended c.args.word.now begun (omega (arith, c.if-word-gt6.false)) c.in-Some.number c.in-Some.end (sym c.read_hex.ensures.number ∙ c.in-Some.is) c.if-end-word.false)

pub returns-in_default-2 : goal.returns-in_default-2
returns-in_default-2 c =
    let begun : starts_with (λ x y. x == y) c.args.word.now (codes "0x") ≡ true = sym c.starts_with.ensures.value ∙ c.if-not-starts_with.false in
    sym (hex_missing c.args.word.now begun (omega (arith, c.if-word-gt6.false)) (sym c.read_hex.ensures.number ∙ c.in_default.is))
