use Rattle.std.proofs.Common.{◌≡◌, [], length, All}
use Rattle.fab_depgraph.proofs.layers.Layers.new.Given as goal

abbrev pub invariant-loop : goal.invariant-loop
invariant-loop l = record {
  count : length l.arenas.items ≡ l.counter;
  channels : All (λ graph. graph.channels ≡ l.channels) l.arenas.items;
  empty : All (λ graph. graph.listed ≡ []) l.arenas.items;
  spare : All (λ graph. graph.spare ≡ 0) l.arenas.items;
}
