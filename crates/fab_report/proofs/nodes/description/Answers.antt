use Rattle.std.proofs.Common.{◌≡◌, ◌++◌, List, ℕ, sym, ◌∙◌, ap, subst}
use Rattle.std.specs.Prelude.{decimal}
use Rattle.fab_model.specs.Description.{IsDescription}
use Rattle.fab_report.proofs.Generated.GeneratedRows.{described}
use Rattle.fab_report.proofs.nodes.description.Goals as goal

pub new-requires : goal.new-requires
new-requires c =
    let text : c.deref.result.now ≡ c.args.word.now ++ decimal c.args.number =
    c.deref.ensures.value ∙ c.in_ok-push_dec.ensures.ok ∙ ap (λ (n : ℕ). c.extend_from_slice.new.self.items ++ decimal n) c.from.ensures
    ∙ ap (λ (xs : List ℕ). xs ++ decimal c.args.number) (c.in_ok-extend_from_slice.ensures.items ∙ ap (λ (xs : List ℕ). xs ++ c.args.word.now) c.new-text.ensures.items) in
    subst IsDescription (sym text) (described c.args.word.now c.args.number c.requires.one_line c.requires.short c.requires.number)
