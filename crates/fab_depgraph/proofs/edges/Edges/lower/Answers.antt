use Rattle.std.proofs.Common.{◌≡◌, ℕ, ◌-◌, ◌≤◌, false, Option, Some, None, IsSome, nat_le, refl, sym, ◌∙◌, ap, subst, slice_set, arith}
use Rattle.std.proofs.lemmas.Bool.{lt-leb}
use Rattle.fab_depgraph.specs.declared.edges.Edge.{Edge}
use Rattle.fab_depgraph.specs.Edges.{EdgeRows, Row, row_at, lowered, leads_to, times_in, with_count}
use Rattle.fab_depgraph.proofs.Linking.Calls.{IsLookUp, can_find, look_key, look_unknown, look_times, look_counted_linked, look_counted_rows, look_less_linked, look_less_rows, lowered_known}
use Rattle.fab_depgraph.proofs.edges.Edges.lower.Goals as goal

pub find-requires : goal.find-requires
find-requires c = can_find c.self.inside.edges c.self.inside.newest.items c.self.invariant.0 c.self.invariant.1 c.args.self.now.rows (ap (λ (v : EdgeRows). v.rows) c.self.view_is) c.args.first.0 c.args.second.0 c.requires.within c.index.result.now c.index.ensures

pub unwrap-key-requires : goal.unwrap-key-requires
unwrap-key-requires c =
    let look : IsLookUp c.self.inside.edges c.self.inside.newest.items c.args.self.now.rows c.args.first.0 c.args.second.0 c.find.result =
    record {
      links = c.self.invariant.0;
      linked = c.self.invariant.1;
      view = ap (λ (v : EdgeRows). v.rows) c.self.view_is;
      within = c.requires.within;
      head = c.index.result.now;
      is_head = c.index.ensures;
      finds = c.find.ensures;
    } in
    go c.find.result (look_unknown look)
  where
    go : (found : Option ℕ) → (found ≡ None → leads_to (row_at c.args.self.now.rows c.args.first.0) c.args.second.0 ≡ false) → IsSome found
    go (Some key) unknown = refl
    go None unknown = let e = unknown refl in let t = lowered_known (row_at c.args.self.now.rows c.args.first.0) c.args.second.0 c.requires.newest in absurd (cc)

pub index-requires-2 : goal.index-requires-2
index-requires-2 c =
    let look : IsLookUp c.self.inside.edges c.self.inside.newest.items c.args.self.now.rows c.args.first.0 c.args.second.0 c.find.result =
    record {
      links = c.self.invariant.0;
      linked = c.self.invariant.1;
      view = ap (λ (v : EdgeRows). v.rows) c.self.view_is;
      within = c.requires.within;
      head = c.index.result.now;
      is_head = c.index.ensures;
      finds = c.find.ensures;
    } in
    look_key look c.unwrap-key.result c.unwrap-key.ensures

pub invariant_of-self : goal.invariant_of-self
invariant_of-self c =
    let look : IsLookUp c.self.inside.edges c.self.inside.newest.items c.args.self.now.rows c.args.first.0 c.args.second.0 c.find.result =
    record {
      links = c.self.invariant.0;
      linked = c.self.invariant.1;
      view = ap (λ (v : EdgeRows). v.rows) c.self.view_is;
      within = c.requires.within;
      head = c.index.result.now;
      is_head = c.index.ensures;
      finds = c.find.ensures;
    } in
    let edge = c.index_mut.result.now in
    look_counted_linked look c.unwrap-key.result c.unwrap-key.ensures edge c.index_mut.ensures.value (record edge { count = edge.count - 1 }) refl refl

pub invariant_of-self-else-index-gt1 : goal.invariant_of-self-else-index-gt1
invariant_of-self-else-index-gt1 c =
    let look : IsLookUp c.self.inside.edges c.self.inside.newest.items c.args.self.now.rows c.args.first.0 c.args.second.0 c.find.result =
    record {
      links = c.self.invariant.0;
      linked = c.self.invariant.1;
      view = ap (λ (v : EdgeRows). v.rows) c.self.view_is;
      within = c.requires.within;
      head = c.index.result.now;
      is_head = c.index.ensures;
      finds = c.find.ensures;
    } in
    let gone = c.remove in
    let read = c.index-2.ensures in
    let was = gone.ensures.value in
    let same : c.index-2.result.now ≡ gone.result = cc in
    let few : gone.result.count ≤ 1 = subst (λ (edge : Edge). edge.count ≤ 1) same c.if-index-gt1.false in
    look_less_linked look c.unwrap-key.result c.unwrap-key.ensures gone.result gone.ensures.value c.requires.newest few gone.new.self gone.ensures.updates gone.ensures.len

pub returns-then-index-gt1-clause-rows : goal.returns-then-index-gt1-clause-rows
returns-then-index-gt1-clause-rows c =
    let look : IsLookUp c.self.inside.edges c.self.inside.newest.items c.args.self.now.rows c.args.first.0 c.args.second.0 c.find.result =
    record {
      links = c.self.invariant.0;
      linked = c.self.invariant.1;
      view = ap (λ (v : EdgeRows). v.rows) c.self.view_is;
      within = c.requires.within;
      head = c.index.result.now;
      is_head = c.index.ensures;
      finds = c.find.ensures;
    } in
    let edge = c.index_mut.result.now in
    let row = row_at c.args.self.now.rows c.args.first.0 in
    let many : nat_le (times_in row c.args.second.0) 1 ≡ false = lt-leb (times_in row c.args.second.0) 1 (omega (arith, look_times look c.unwrap-key.result c.unwrap-key.ensures c.index-2.result.now c.index-2.ensures, c.if-index-gt1.true)) in
    let less : lowered row c.args.second.0 ≡ with_count (λ n. n - 1) row c.args.second.0 = rw many refl in
    look_counted_rows look c.unwrap-key.result c.unwrap-key.ensures edge c.index_mut.ensures.value (record edge { count = edge.count - 1 }) refl refl (λ n. n - 1) refl
    ∙ ap (λ (row : Row). slice_set c.args.self.now.rows c.args.first.0 row) (sym less)

pub returns-else-index-gt1-clause-rows : goal.returns-else-index-gt1-clause-rows
returns-else-index-gt1-clause-rows c =
    let look : IsLookUp c.self.inside.edges c.self.inside.newest.items c.args.self.now.rows c.args.first.0 c.args.second.0 c.find.result =
    record {
      links = c.self.invariant.0;
      linked = c.self.invariant.1;
      view = ap (λ (v : EdgeRows). v.rows) c.self.view_is;
      within = c.requires.within;
      head = c.index.result.now;
      is_head = c.index.ensures;
      finds = c.find.ensures;
    } in
    let gone = c.remove in
    let read = c.index-2.ensures in
    let was = gone.ensures.value in
    let same : c.index-2.result.now ≡ gone.result = cc in
    let few : gone.result.count ≤ 1 = subst (λ (edge : Edge). edge.count ≤ 1) same c.if-index-gt1.false in
    look_less_rows look c.unwrap-key.result c.unwrap-key.ensures gone.result gone.ensures.value c.requires.newest few gone.new.self gone.ensures.updates gone.ensures.len
