use Rattle.std.proofs.Common.{◌≡◌, ◌<◌, ◌∙◌, length, sym, subst, arith}
use Rattle.std.specs.Prelude.{slice_index_or}
use Rattle.std.proofs.lemmas.List.{get_or_read}
use Rattle.fab_rings.specs.StrongComponents.{value_of}
use Rattle.fab_rings.specs.PathSearch.{PathSearched, HasTaken}
use Rattle.fab_rings.proofs.Searching.HeadTaken.{head_low, skipped}
use Rattle.fab_rings.proofs.Searching.Joining.{joined_at}
use Rattle.fab_rings.proofs.Searching.Finding.{found, no_more_work}
use Rattle.fab_rings.proofs.strong_components.PathSearch.look_at.Goals as goal

pub returns-in_ok-find-clause-search : goal.returns-in_ok-find-clause-search
returns-in_ok-find-clause-search c =
    let s = c.args.self.now in
    let low : c.args.head < length s.places = omega (arith, head_low s c.args.head c.requires, c.requires.before.each_place) in
    let read : c.index-place.result.now ≡ slice_index_or s.places c.args.head c.index-place.result.now =
    subst (λ (s : PathSearched). c.index-place.result.now ≡ slice_index_or s.places c.args.head c.index-place.result.now) c.self.view_is c.index-place.ensures in
    let at : c.index-place.result.now ≡ value_of s.places c.args.head = get_or_read s.places c.args.head c.index-place.result.now low read 0 in
    rw c.in_ok-find.ensures (found s c.args.head c.requires (sym at ∙ c.if-place-eq0.true))

pub returns-in_ok-find-clause-less : goal.returns-in_ok-find-clause-less
returns-in_ok-find-clause-less c =
    let s = c.args.self.now in
    let low : c.args.head < length s.places = omega (arith, head_low s c.args.head c.requires, c.requires.before.each_place) in
    let read : c.index-place.result.now ≡ slice_index_or s.places c.args.head c.index-place.result.now =
    subst (λ (s : PathSearched). c.index-place.result.now ≡ slice_index_or s.places c.args.head c.index-place.result.now) c.self.view_is c.index-place.ensures in
    let at : c.index-place.result.now ≡ value_of s.places c.args.head = get_or_read s.places c.args.head c.index-place.result.now low read 0 in
    rw c.in_ok-find.ensures (no_more_work s c.args.head c.requires (sym at ∙ c.if-place-eq0.true))

pub returns-then-index-eq0-clause-search : goal.returns-then-index-eq0-clause-search
returns-then-index-eq0-clause-search c =
    let i = c.self.inside in
    let s : PathSearched = record { graph = i.successors.now; places = i.places.items; components = i.components.items; opened = i.opened.items; groups = i.groups.items; heads = i.heads.items; closed = i.closed } in
    let head = c.args.head in
    let has_taken : HasTaken s head = subst (λ (s : PathSearched). HasTaken s head) (sym c.self.view_is) c.requires in
    let low : head < s.graph.nodes = head_low s head has_taken in
    let place : c.index-place.result.now ≡ value_of s.places head = get_or_read s.places head c.index-place.result.now (omega (arith, low, has_taken.before.each_place)) c.index-place.ensures 0 in
    let component : c.index.result.now ≡ value_of s.components head = get_or_read s.components head c.index.result.now (omega (arith, low, has_taken.before.each_component)) c.index.ensures 0 in
    joined_at s head has_taken c.index-place.result.now (sym place) c.if-place-eq0.false (sym component ∙ c.if-index-eq0.true) c.join_behind.new.groups.items c.join_behind.ensures

pub returns-else-index-eq0-clause-search : goal.returns-else-index-eq0-clause-search
returns-else-index-eq0-clause-search c =
    let s = c.args.self.now in
    let low : c.args.head < length s.components = omega (arith, head_low s c.args.head c.requires, c.requires.before.each_component) in
    let read : c.index.result.now ≡ slice_index_or s.components c.args.head c.index.result.now =
    subst (λ (s : PathSearched). c.index.result.now ≡ slice_index_or s.components c.args.head c.index.result.now) c.self.view_is c.index.ensures in
    let at : c.index.result.now ≡ value_of s.components c.args.head = get_or_read s.components c.args.head c.index.result.now low read 0 in
    skipped s c.args.head c.requires (omega (arith, at, c.if-index-eq0.false))
