use Rattle.std.proofs.Common.{◌∷◌, ◌-◌, ◌∙◌, sym, ap, take, drop}
use Rattle.fab_dump.specs.FieldsLeft.{fields_left}
use Rattle.fab_dump.proofs.Reading.FieldParts.{word_next, no_word}
use Rattle.fab_dump.proofs.fields.Fields.next.Goals as goal

pub returns-in-Some : goal.returns-in-Some
returns-in-Some c =
    let line = c.self.inside.line.now in
    let part = c.in-Some.part in
    sym c.self.view_is ∙ ap (λ b. fields_left b (drop c.self.inside.from line)) c.if-self.false
    ∙ word_next line c.self.inside.from part c.in-Some.ensures.part
    ∙ ap (λ b. take (part.end - part.start) (drop part.start line) ∷ fields_left b (drop part.end line)) (sym c.if-self.false)

pub returns-in-None : goal.returns-in-None
returns-in-None c =
    let line = c.self.inside.line.now in
    let none = sym c.self.view_is ∙ ap (λ b. fields_left b (drop c.self.inside.from line)) c.if-self.false ∙ no_word line c.self.inside.from c.in-None.ensures.part in
    (none, none)
