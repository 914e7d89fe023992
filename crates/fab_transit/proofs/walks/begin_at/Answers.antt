use Rattle.std.proofs.Common.{◌<◌, length, sym, ◌∙◌, subst}
use Rattle.std.proofs.lemmas.List.Elements.{All-contains}
use Rattle.fab_model.specs.Topology.{Topology}
use Rattle.fab_model.specs.WellFormed.{IsFabric}
use Rattle.fab_tables.specs.declared.starts.Start.{Start}
use Rattle.fab_tables.specs.Starts.{IsOfTerminal}
use Rattle.fab_transit.proofs.Bounds.{level_small}
use Rattle.fab_transit.proofs.Beginning.{answer_from, answer_found, answer_begun}
use Rattle.fab_transit.proofs.walks.begin_at.Goals as goal

switch_low : (t : Topology) (start : Start) → IsFabric t → IsOfTerminal t start → start.switch.0 < length t.switches
switch_low t start fabric of = subst (λ (x : Start). x.switch.0 < length t.switches) of.2 (All-contains (λ row. row.switch.0 < length t.switches) t.terminals of.0 fabric.rows.terminal_switches of.1)

pub level-requires : goal.level-requires
level-requires c = switch_low c.args.plans.now.fabric c.args.start c.requires.changing.fabric c.requires.terminal

pub look-requires-clause-packet : goal.look-requires-clause-packet
look-requires-clause-packet c = record {
  changing = c.requires.changing;
  switch = switch_low c.args.plans.now.fabric c.args.start c.requires.changing.fabric c.requires.terminal;
  in_use = c.requires.in_use;
  level = level_small c.args.plans.now c.requires.changing c.args.side c.args.start.switch.0 c.args.lid.0 c.in-Some.level (sym c.level.ensures ∙ c.in-Some.is);
  held = tt;
}

pub returns-clause-from_walks : goal.returns-clause-from_walks
returns-clause-from_walks c =
    let g = c.args.plans.now in
    answer_from g.fabric g.change c.args.lid.0 c.in-Some.level c.args.start c.args.side c.requires.terminal c.requires.connected (sym c.level.ensures ∙ c.in-Some.is)
    c.args.found.now c.look.new.found c.args.walks.now c.look.new.walks c.look.result c.requires.from_walks c.look.ensures

pub returns-clause-found_for : goal.returns-clause-found_for
returns-clause-found_for c =
    let g = c.args.plans.now in
    answer_found g.fabric g.change c.args.lid.0 c.in-Some.level c.args.start c.args.side c.requires.terminal c.requires.connected (sym c.level.ensures ∙ c.in-Some.is)
    c.args.found.now c.look.new.found c.args.walks.now c.look.new.walks c.look.result c.requires.found_for c.look.ensures

pub returns-clause-begun : goal.returns-clause-begun
returns-clause-begun c =
    let g = c.args.plans.now in
    answer_begun g.fabric g.change c.args.lid.0 c.in-Some.level c.args.start c.args.side c.requires.terminal c.requires.connected (sym c.level.ensures ∙ c.in-Some.is)
    c.args.found.now c.look.new.found c.args.walks.now c.look.new.walks c.look.result c.look.ensures
