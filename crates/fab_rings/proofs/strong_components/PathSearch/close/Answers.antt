use Rattle.std.proofs.Common.{◌≡◌, ℕ, ◌+◌, ◌<◌, ◌≤◌, ◌++◌, List, length, drop, ◌∙◌, sym, ap, subst, arith, All}
use Rattle.std.specs.Option.{option_to_list}
use Rattle.std.proofs.lemmas.List.{take_rest, with_items_is}
use Rattle.fab_rings.specs.declared.strong_components.Group.{Group}
use Rattle.fab_rings.specs.PathSearch.{PathSearched, IsPathSearch, IsLast, IsLastDone, AreNumbered}
use Rattle.fab_rings.proofs.Searching.NextHead.{one_last}
use Rattle.fab_rings.proofs.Searching.Closing.{closed, opened_low, last_begins}
use Rattle.fab_rings.proofs.strong_components.PathSearch.close.Goals as goal

pub offset_bounds-deref-group : goal.offset_bounds-deref-group
offset_bounds-deref-group c =
    let i = c.self.inside in
    let s : PathSearched = record { graph = i.successors.now; places = i.places.items; components = i.components.items; opened = i.opened.items; groups = i.groups.items; heads = i.heads.items; closed = i.closed } in
    let searched : IsPathSearch s = subst IsPathSearch (sym c.self.view_is) c.requires.search in
    let begins : c.unwrap-group.result.first ≤ length s.opened = last_begins s searched c.pop.new.self.items c.unwrap-group.result (c.pop.ensures.items ∙ ap (λ o. c.pop.new.self.items ++ option_to_list o) c.unwrap-group.ensures) in
    let within : c.unwrap-group.result.first ≤ length c.deref.result.now = omega (arith, begins, ap (λ (xs : List ℕ). length xs) c.deref.ensures.value) in
    omega (arith, within, c.deref.type_inv.1)

pub slice_bounds-set_numbers-count : goal.slice_bounds-set_numbers-count
slice_bounds-set_numbers-count c =
    let i = c.self.inside in
    let s : PathSearched = record { graph = i.successors.now; places = i.places.items; components = i.components.items; opened = i.opened.items; groups = i.groups.items; heads = i.heads.items; closed = i.closed } in
    let searched : IsPathSearch s = subst IsPathSearch (sym c.self.view_is) c.requires.search in
    let begins : c.unwrap-group.result.first ≤ length s.opened = last_begins s searched c.pop.new.self.items c.unwrap-group.result (c.pop.ensures.items ∙ ap (λ o. c.pop.new.self.items ++ option_to_list o) c.unwrap-group.ensures) in
    let within : c.unwrap-group.result.first ≤ length c.deref.result.now = omega (arith, begins, ap (λ (xs : List ℕ). length xs) c.deref.ensures.value) in
    within

pub slice_bounds-set_numbers-start : goal.slice_bounds-set_numbers-start
slice_bounds-set_numbers-start c =
    let i = c.self.inside in
    let s : PathSearched = record { graph = i.successors.now; places = i.places.items; components = i.components.items; opened = i.opened.items; groups = i.groups.items; heads = i.heads.items; closed = i.closed } in
    let searched : IsPathSearch s = subst IsPathSearch (sym c.self.view_is) c.requires.search in
    let begins : c.unwrap-group.result.first ≤ length s.opened = last_begins s searched c.pop.new.self.items c.unwrap-group.result (c.pop.ensures.items ∙ ap (λ o. c.pop.new.self.items ++ option_to_list o) c.unwrap-group.ensures) in
    let within : c.unwrap-group.result.first ≤ length c.deref.result.now = omega (arith, begins, ap (λ (xs : List ℕ). length xs) c.deref.ensures.value) in
    omega (arith, within)

pub set_numbers-requires : goal.set_numbers-requires
set_numbers-requires c =
    let i = c.self.inside in
    let s : PathSearched = record { graph = i.successors.now; places = i.places.items; components = i.components.items; opened = i.opened.items; groups = i.groups.items; heads = i.heads.items; closed = i.closed } in
    let searched : IsPathSearch s = subst IsPathSearch (sym c.self.view_is) c.requires.search in
    let low : All (λ (a : ℕ). a < length s.components) (drop c.unwrap-group.result.first s.opened) = opened_low s searched c.unwrap-group.result.first in
    rw (take_rest c.deref.result.now c.unwrap-group.result.first, c.deref.ensures.value, c.deref_mut.ensures.value) low

pub returns-clause-search : goal.returns-clause-search
returns-clause-search c =
    let i = c.self.inside in
    let s : PathSearched = record { graph = i.successors.now; places = i.places.items; components = i.components.items; opened = i.opened.items; groups = i.groups.items; heads = i.heads.items; closed = i.closed } in
    let searched : IsPathSearch s = subst IsPathSearch (sym c.self.view_is) c.requires.search in
    let is_done : IsLastDone s = subst IsLastDone (sym c.self.view_is) c.requires.done in
    let y = c.unwrap-group.result in
    let front = c.pop.new.self.items in
    let last : IsLast s.groups y = (front, c.pop.ensures.items ∙ ap (λ o. front ++ option_to_list o) c.unwrap-group.ensures) in
    let done : y.below ≡ length s.heads = ap (λ (g : Group). g.below) (one_last s.groups y is_done.0 last is_done.1) ∙ is_done.2 in
    let new = c.set_numbers.new.numbers in
    let numbered : AreNumbered (drop y.first s.opened) (s.closed + 1) s.components new =
    rw (take_rest c.deref.result.now y.first, c.deref.ensures.value, c.deref_mut.ensures.value) at c.set_numbers.ensures in
    let each : length new ≡ i.components.len = omega (arith, numbered.each, i.components.ok.0) in
    rw (with_items_is i.components new each, c.truncate.ensures.items) (closed s searched front y last.1 done new numbered)
