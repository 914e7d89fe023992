use Rattle.std.proofs.Common.{◌≡◌, ◌∙◌, ap, arith}
use Rattle.std.specs.Prelude.{slice_index}
use Rattle.std.proofs.lemmas.List.{get_or_read}
use Rattle.fab_tables.specs.Entries.{index_of}
use Rattle.fab_tables.proofs.Rows.Places.{place_within, place_read}
use Rattle.fab_tables.proofs.columns.Columns.place.Goals as goal

pub returns : goal.returns
returns c =
    let places = c.self.inside.places.items in
    let read : c.from-2.result ≡ slice_index places c.args.lid.0
    = c.from-2.ensures ∙ get_or_read places c.from.result c.index.result.now (omega (arith, c.self.invariant.places_kept.whole)) c.index.ensures 0 ∙ ap (λ k. slice_index places k) c.from.ensures in
    let is : c.checked_sub.result ≡ index_of c.args.lid.0 c.args.self.now
    = place_read c.self.inside.lids.items c.self.inside.places.items c.args.lid.0 c.from-2.result c.checked_sub.result c.self.invariant.places_kept (omega arith) read c.checked_sub.ensures
    ∙ ap (λ xs. index_of c.args.lid.0 xs) c.self.view_is in
    record { place = is; within = place_within c.args.lid.0 c.args.self.now c.checked_sub.result is }
