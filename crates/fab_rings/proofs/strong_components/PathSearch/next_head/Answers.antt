use Rattle.std.proofs.Common.{◌≢◌, length, sym, subst}
use Rattle.fab_rings.specs.declared.strong_components.Group.{Group}
use Rattle.fab_rings.specs.PathSearch.{PathSearched, IsPathSearch, IsLast}
use Rattle.fab_rings.proofs.Searching.NextHead.{next}
use Rattle.fab_rings.proofs.strong_components.PathSearch.next_head.Goals as goal

pub returns-clause-next : goal.returns-clause-next
returns-clause-next c =
    let i = c.self.inside in
    let s : PathSearched = record { graph = i.successors.now; places = i.places.items; components = i.components.items; opened = i.opened.items; groups = i.groups.items; heads = i.heads.items; closed = i.closed } in
    let searched : IsPathSearch s = subst IsPathSearch (sym c.self.view_is) c.loop-self.invariant.search in
    let still : (y : Group) → IsLast s.groups y → y.below ≢ length s.heads =
    subst (λ (s : PathSearched). (y : Group) → IsLast s.groups y → y.below ≢ length s.heads) (sym c.self.view_is) (c.is_last_done.ensures.open_still c.loop-self-test.false) in
    next s searched still c.pop.new.self.items c.pop.result i.heads.len c.pop.new.self.len c.pop.ensures.items (sym i.heads.ok.0) c.pop.ensures.cases
