use Rattle.std.proofs.Common.{◌≡◌, ◌++◌, ◌∷◌, [], arith, length-append}
use Rattle.std.proofs.lemmas.List.Elements.{All-push}
use Rattle.fab_depgraph.proofs.layers.Layers.new.Goals as goal

pub loop-preserved : goal.loop-preserved
loop-preserved c =
    let was = c.loop.invariant in
    let new = c.in_ok-new.field-0 in
    let made = c.in_ok-new.ensures in
    let grown : c.push.new.self.items ≡ c.loop.arenas.items ++ new ∷ [] = c.in_ok-push.ensures.items in
    rw grown (record {
      count = omega (arith, was.count, length-append c.loop.arenas.items (new ∷ []));
      channels = All-push (λ graph. graph.channels ≡ c.args.channels) c.loop.arenas.items new was.channels made.channels;
      empty = All-push (λ graph. graph.listed ≡ []) c.loop.arenas.items new was.empty made.empty;
      spare = All-push (λ graph. graph.spare ≡ 0) c.loop.arenas.items new was.spare made.spare;
    })
