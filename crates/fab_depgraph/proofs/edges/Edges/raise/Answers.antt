use Rattle.std.proofs.Common.{◌≡◌, ◌+◌, refl, sym, ◌∙◌, ap, slice_set, arith}
use Rattle.fab_depgraph.specs.Edges.{EdgeRows, Row, row_at, raised, with_count}
use Rattle.fab_depgraph.proofs.Linking.Calls.{IsLookUp, can_find, look_key, look_known, look_room, look_times, look_new_linked, look_new_rows, look_counted_linked, look_counted_rows}
use Rattle.fab_depgraph.proofs.edges.Edges.raise.Goals as goal

pub find-requires : goal.find-requires
find-requires c = can_find c.self.inside.edges c.self.inside.newest.items c.self.invariant.0 c.self.invariant.1 c.args.self.now.rows (ap (λ (v : EdgeRows). v.rows) c.self.view_is) c.args.first.0 c.args.second.0 c.requires.within c.index-newest.result.now c.index-newest.ensures

pub index_mut-requires : goal.index_mut-requires
index_mut-requires c =
    let look : IsLookUp c.self.inside.edges c.self.inside.newest.items c.args.self.now.rows c.args.first.0 c.args.second.0 c.find.result =
    record {
      links = c.self.invariant.0;
      linked = c.self.invariant.1;
      view = ap (λ (v : EdgeRows). v.rows) c.self.view_is;
      within = c.requires.within;
      head = c.index-newest.result.now;
      is_head = c.index-newest.ensures;
      finds = c.find.ensures;
    } in
    look_key look c.in-Some.key c.in-Some.is

pub overflow_add-index_mut : goal.overflow_add-index_mut
overflow_add-index_mut c =
    let look : IsLookUp c.self.inside.edges c.self.inside.newest.items c.args.self.now.rows c.args.first.0 c.args.second.0 c.find.result =
    record {
      links = c.self.invariant.0;
      linked = c.self.invariant.1;
      view = ap (λ (v : EdgeRows). v.rows) c.self.view_is;
      within = c.requires.within;
      head = c.index-newest.result.now;
      is_head = c.index-newest.ensures;
      finds = c.find.ensures;
    } in
    omega (arith, c.requires.fits, look_times look c.in-Some.key c.in-Some.is c.index_mut.result.now c.index_mut.ensures.value)

pub invariant_of-self : goal.invariant_of-self
invariant_of-self c =
    let look : IsLookUp c.self.inside.edges c.self.inside.newest.items c.args.self.now.rows c.args.first.0 c.args.second.0 c.find.result =
    record {
      links = c.self.invariant.0;
      linked = c.self.invariant.1;
      view = ap (λ (v : EdgeRows). v.rows) c.self.view_is;
      within = c.requires.within;
      head = c.index-newest.result.now;
      is_head = c.index-newest.ensures;
      finds = c.find.ensures;
    } in
    let edge = c.index_mut.result.now in
    look_counted_linked look c.in-Some.key c.in-Some.is edge c.index_mut.ensures.value (record edge { count = edge.count + 1 }) refl refl

pub insert_reserved-key-requires : goal.insert_reserved-key-requires
insert_reserved-key-requires c =
    let look : IsLookUp c.self.inside.edges c.self.inside.newest.items c.args.self.now.rows c.args.first.0 c.args.second.0 c.find.result =
    record {
      links = c.self.invariant.0;
      linked = c.self.invariant.1;
      view = ap (λ (v : EdgeRows). v.rows) c.self.view_is;
      within = c.requires.within;
      head = c.index-newest.result.now;
      is_head = c.index-newest.ensures;
      finds = c.find.ensures;
    } in
    omega (arith, c.requires.room, look_room look, ap (λ (v : EdgeRows). v.capacity) c.self.view_is)

pub invariant_of-self-in-None : goal.invariant_of-self-in-None
invariant_of-self-in-None c =
    let look : IsLookUp c.self.inside.edges c.self.inside.newest.items c.args.self.now.rows c.args.first.0 c.args.second.0 c.find.result =
    record {
      links = c.self.invariant.0;
      linked = c.self.invariant.1;
      view = ap (λ (v : EdgeRows). v.rows) c.self.view_is;
      within = c.requires.within;
      head = c.index-newest.result.now;
      is_head = c.index-newest.ensures;
      finds = c.find.ensures;
    } in
    let added = c.insert_reserved-key in
    look_new_linked look added.new.self added.result (record { second = c.args.second; count = 1; next = c.index-newest.result.now }) c.in-None.is added.ensures.was_vacant added.ensures.updates added.ensures.len refl

pub returns-in-Some-clause-rows : goal.returns-in-Some-clause-rows
returns-in-Some-clause-rows c =
    let look : IsLookUp c.self.inside.edges c.self.inside.newest.items c.args.self.now.rows c.args.first.0 c.args.second.0 c.find.result =
    record {
      links = c.self.invariant.0;
      linked = c.self.invariant.1;
      view = ap (λ (v : EdgeRows). v.rows) c.self.view_is;
      within = c.requires.within;
      head = c.index-newest.result.now;
      is_head = c.index-newest.ensures;
      finds = c.find.ensures;
    } in
    let edge = c.index_mut.result.now in
    let row : raised (row_at c.args.self.now.rows c.args.first.0) c.args.second.0 ≡ with_count (λ n. n + 1) (row_at c.args.self.now.rows c.args.first.0) c.args.second.0 = rw (look_known look c.in-Some.key c.in-Some.is) refl in
    look_counted_rows look c.in-Some.key c.in-Some.is edge c.index_mut.ensures.value (record edge { count = edge.count + 1 }) refl refl (λ n. n + 1) refl
    ∙ ap (λ (row : Row). slice_set c.args.self.now.rows c.args.first.0 row) (sym row)

pub returns-in-None-clause-rows : goal.returns-in-None-clause-rows
returns-in-None-clause-rows c =
    let look : IsLookUp c.self.inside.edges c.self.inside.newest.items c.args.self.now.rows c.args.first.0 c.args.second.0 c.find.result =
    record {
      links = c.self.invariant.0;
      linked = c.self.invariant.1;
      view = ap (λ (v : EdgeRows). v.rows) c.self.view_is;
      within = c.requires.within;
      head = c.index-newest.result.now;
      is_head = c.index-newest.ensures;
      finds = c.find.ensures;
    } in
    let added = c.insert_reserved-key in
    look_new_rows look added.new.self added.result (record { second = c.args.second; count = 1; next = c.index-newest.result.now }) c.in-None.is added.ensures.was_vacant added.ensures.updates added.ensures.len refl refl refl
