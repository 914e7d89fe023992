use Rattle.std.proofs.Common.{◌≡◌, List, sym, ◌∙◌, ap, subst}
use Rattle.std.proofs.lemmas.List.{nil_from_length}
use Rattle.fab_tables.specs.declared.starts.Start.{Start}
use Rattle.fab_tables.specs.Starts.{StartLists, AreStartsFor}
use Rattle.fab_tables.proofs.Faults.FirstStarts.{all_stand, firsts_stand}
use Rattle.fab_tables.proofs.starts.Starts.standing.Goals as goal

pub returns-then-pairs-eq0 : goal.returns-then-pairs-eq0
returns-then-pairs-eq0 c t are =
    let l = c.args.lanes.now in
    let is : c.deref.result.now ≡ c.args.self.now.firsts = c.deref.ensures.value ∙ ap (λ (x : StartLists). x.firsts) c.self.view_is in
    subst (λ (xs : List Start). AreStartsFor t l xs) (sym is) (firsts_stand t c.args.self.now are l (nil_from_length l.pairs (sym c.pairs.ensures ∙ c.if-pairs-eq0.true)))

pub returns-else-pairs-eq0 : goal.returns-else-pairs-eq0
returns-else-pairs-eq0 c t are =
    let is : c.deref-else-pairs-eq0.result.now ≡ c.args.self.now.all = c.deref-else-pairs-eq0.ensures.value ∙ ap (λ (x : StartLists). x.all) c.self.view_is in
    subst (λ (xs : List Start). AreStartsFor t c.args.lanes.now xs) (sym is) (all_stand t c.args.self.now are c.args.lanes.now)
