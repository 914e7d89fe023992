use Rattle.std.proofs.Common.{◌≡◌, ◌<◌, ℕ, List, Option, length, slice_index_or, sym, ◌∙◌, ap, arith}
use Rattle.std.proofs.lemmas.Bool.{ltb-true}
use Rattle.std.proofs.lemmas.List.{length-map}
use Rattle.slab.specs.Slab.{slab_len}
use Rattle.fab_depgraph.specs.Edges.{EdgeRows, Row, rows_in, linked_row}
use Rattle.fab_depgraph.proofs.Linking.Calls.{IsLookUp, can_find, look_key, look_times, look_never}
use Rattle.fab_depgraph.proofs.edges.Edges.count.Goals as goal

pub find-requires : goal.find-requires
find-requires c =
    let inside = c.self.inside in
    let newest : c.in-Some.newest.now ≡ slice_index_or inside.newest.items c.args.first.0 c.in-Some.newest.now = c.in-Some.ensures.lookup.1 ∙ ap (λ (xs : List (Option ℕ)). slice_index_or xs c.args.first.0 c.in-Some.newest.now) c.deref.ensures.value in
    let below : c.args.first.0 < length c.deref.result.now = ltb-true c.args.first.0 (length c.deref.result.now) (sym c.in-Some.ensures.lookup.0) in
    let view : rows_in inside.edges.slots inside.newest.items ≡ c.args.self.now.rows = ap (λ (v : EdgeRows). v.rows) c.self.view_is in
    let within : c.args.first.0 < length c.args.self.now.rows = omega (arith, below, ap (length {A = Option ℕ}) c.deref.ensures.value, ap (length {A = Row}) view, length-map inside.newest.items (linked_row (slab_len inside.edges) inside.edges.slots)) in
    can_find inside.edges inside.newest.items c.self.invariant.0 c.self.invariant.1 c.args.self.now.rows view c.args.first.0 c.args.second.0 within c.in-Some.newest.now newest

pub index-requires : goal.index-requires
index-requires c =
    let inside = c.self.inside in
    let newest : c.in-Some.newest.now ≡ slice_index_or inside.newest.items c.args.first.0 c.in-Some.newest.now = c.in-Some.ensures.lookup.1 ∙ ap (λ (xs : List (Option ℕ)). slice_index_or xs c.args.first.0 c.in-Some.newest.now) c.deref.ensures.value in
    let below : c.args.first.0 < length c.deref.result.now = ltb-true c.args.first.0 (length c.deref.result.now) (sym c.in-Some.ensures.lookup.0) in
    let view : rows_in inside.edges.slots inside.newest.items ≡ c.args.self.now.rows = ap (λ (v : EdgeRows). v.rows) c.self.view_is in
    let within : c.args.first.0 < length c.args.self.now.rows = omega (arith, below, ap (length {A = Option ℕ}) c.deref.ensures.value, ap (length {A = Row}) view, length-map inside.newest.items (linked_row (slab_len inside.edges) inside.edges.slots)) in
    let look : IsLookUp inside.edges inside.newest.items c.args.self.now.rows c.args.first.0 c.args.second.0 c.find.result =
    record {
      links = c.self.invariant.0;
      linked = c.self.invariant.1;
      view = view;
      within = within;
      head = c.in-Some.newest.now;
      is_head = newest;
      finds = c.find.ensures;
    } in
    look_key look c.in-Some-find.key c.in-Some-find.is

pub returns-in-Some-find : goal.returns-in-Some-find
returns-in-Some-find c =
    let inside = c.self.inside in
    let newest : c.in-Some.newest.now ≡ slice_index_or inside.newest.items c.args.first.0 c.in-Some.newest.now = c.in-Some.ensures.lookup.1 ∙ ap (λ (xs : List (Option ℕ)). slice_index_or xs c.args.first.0 c.in-Some.newest.now) c.deref.ensures.value in
    let below : c.args.first.0 < length c.deref.result.now = ltb-true c.args.first.0 (length c.deref.result.now) (sym c.in-Some.ensures.lookup.0) in
    let view : rows_in inside.edges.slots inside.newest.items ≡ c.args.self.now.rows = ap (λ (v : EdgeRows). v.rows) c.self.view_is in
    let within : c.args.first.0 < length c.args.self.now.rows = omega (arith, below, ap (length {A = Option ℕ}) c.deref.ensures.value, ap (length {A = Row}) view, length-map inside.newest.items (linked_row (slab_len inside.edges) inside.edges.slots)) in
    let look : IsLookUp inside.edges inside.newest.items c.args.self.now.rows c.args.first.0 c.args.second.0 c.find.result =
    record {
      links = c.self.invariant.0;
      linked = c.self.invariant.1;
      view = view;
      within = within;
      head = c.in-Some.newest.now;
      is_head = newest;
      finds = c.find.ensures;
    } in
    look_times look c.in-Some-find.key c.in-Some-find.is c.index.result.now c.index.ensures

pub returns-in-None : goal.returns-in-None
returns-in-None c =
    let inside = c.self.inside in
    let newest : c.in-Some.newest.now ≡ slice_index_or inside.newest.items c.args.first.0 c.in-Some.newest.now = c.in-Some.ensures.lookup.1 ∙ ap (λ (xs : List (Option ℕ)). slice_index_or xs c.args.first.0 c.in-Some.newest.now) c.deref.ensures.value in
    let below : c.args.first.0 < length c.deref.result.now = ltb-true c.args.first.0 (length c.deref.result.now) (sym c.in-Some.ensures.lookup.0) in
    let view : rows_in inside.edges.slots inside.newest.items ≡ c.args.self.now.rows = ap (λ (v : EdgeRows). v.rows) c.self.view_is in
    let within : c.args.first.0 < length c.args.self.now.rows = omega (arith, below, ap (length {A = Option ℕ}) c.deref.ensures.value, ap (length {A = Row}) view, length-map inside.newest.items (linked_row (slab_len inside.edges) inside.edges.slots)) in
    let look : IsLookUp inside.edges inside.newest.items c.args.self.now.rows c.args.first.0 c.args.second.0 c.find.result =
    record {
      links = c.self.invariant.0;
      linked = c.self.invariant.1;
      view = view;
      within = within;
      head = c.in-Some.newest.now;
      is_head = newest;
      finds = c.find.ensures;
    } in
    look_never look c.in-None.is
