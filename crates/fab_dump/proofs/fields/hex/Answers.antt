use Rattle.std.proofs.Common.{◌≡◌, ◌<◌, ◌^◌, ◌∙◌, IfSome, sym, ap, subst, arith}
use Rattle.std.proofs.lemmas.List.{take_rest}
use Rattle.fab_dump.specs.FieldsLeft.{spelled_in}
use Rattle.fab_text.specs.Fields.{hex}
use Rattle.fab_dump.proofs.Reading.FieldNumbers.{hex_read, hex_fits}
use Rattle.fab_dump.proofs.fields.hex.Goals as goal

pub returns : goal.returns
returns c =
    let is : c.spelled_in.result ≡ hex c.args.digits c.args.field.now =
    c.spelled_in.ensures ∙ ap (spelled_in 16) (take_rest c.args.field.now 2) ∙ hex_read c.args.digits c.args.field.now c.requires (sym c.starts_with.ensures.value ∙ c.if-not-starts_with.false) (omega (arith, c.if-field-lt3.false)) (omega (arith, c.if-field-digits.false)) in
    record { number = is; below = subst (λ o. IfSome o (λ n. n < 16 ^ c.args.digits)) (sym is) (hex_fits c.args.digits c.args.field.now) }
