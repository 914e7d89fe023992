use Rattle.std.proofs.Common.{◌∙◌, ◌<◌, sym, arith, rules}
use Rattle.fab_top.proofs.LowNumbers.{short_hex_is_low}
use Rattle.fab_top.proofs.words.hex_in.Goals as goal

pub overflow_cast-result : goal.overflow_cast-result
overflow_cast-result c =
    let low : c.in-Some.number < 65536 =
    short_hex_is_low c.as_bytes-digits.result.now c.in-Some.number c.in-Some.end (sym c.starts_with.ensures.value ∙ c.if-not-starts_with.false) (omega (arith, c.if-digits-gt6.false))
    (sym c.read_hex.ensures.number ∙ c.in-Some.is) c.if-end-digits.true in
    first_of (omega (arith, low), search rules)
