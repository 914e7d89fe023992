use Rattle.std.proofs.Common.{◌≡◌, ◌≤◌, ◌∙◌, ℕ, List, length, map, take, sym, ap, arith}
use Rattle.fab_model.specs.declared.rows.TerminalId.{TerminalId}
use Rattle.fab_escape.specs.Forest.{Forest}
use Rattle.fab_mcast.specs.declared.group_tables.Planted.{Planted as Kept}
use Rattle.fab_mcast.specs.GroupList.{Group}
use Rattle.fab_mcast.specs.GroupTrees.{planted, ArePlanted}
use Rattle.fab_mcast.specs.Tables.{seen_planted}
use Rattle.fab_mcast.proofs.KeptTables.{known_at, ascending_at, one_table_more, all_planted, all_entries}
use Rattle.fab_mcast.proofs.group_tables.plant.Goals as goal

pub plant_group-requires : goal.plant_group-requires
plant_group-requires c =
    let groups = c.args.groups.now in
    let members : List ℕ = map (λ (id : TerminalId). id.0) c.members.result.now in
    record {
      forest = c.in_ok-escape.ensures.trees;
      known = known_at (length c.args.fabric.now.terminals) groups c.loop-index.index members c.requires.known c.members.ensures;
      ascending = ascending_at groups c.loop-index.index members c.count-index-end.ensures.kept c.members.ensures;
    }

pub loop-index-preserved : goal.loop-index-preserved
loop-index-preserved c =
    let t = c.args.fabric.now in
    let f : Forest = record { roots = c.escape.inside.roots.items; links = c.escape.inside.links.items } in
    let view : f ≡ c.in_ok-escape.escape = c.escape.view_is in
    let members : List ℕ = map (λ (id : TerminalId). id.0) c.members.result.now in
    ap (λ (list : List Kept). map seen_planted list) c.in_ok-push.ensures.items
    ∙ one_table_more t f c.args.groups.now c.loop-index.index members c.loop-index.list.items c.in_ok-plant_group.field-0 c.members.ensures c.loop-index.invariant
    (c.in_ok-plant_group.ensures ∙ ap (λ (g : Forest). planted t g members) (sym view))

pub returns : goal.returns
returns c =
    let t = c.args.fabric.now in
    let groups = c.args.groups.now in
    let f : Forest = record { roots = c.escape.inside.roots.items; links = c.escape.inside.links.items } in
    let view : f ≡ c.in_ok-escape.escape = c.escape.view_is in
    let past : length groups ≤ c.loop-index.index = omega (arith, c.loop-index-test.false, c.count-index-end.ensures.count) in
    let of_escape : map seen_planted c.loop-index.list.items ≡ map (λ (g : Group). planted t c.in_ok-escape.escape g.members) (take c.loop-index.index groups) =
    c.loop-index.invariant ∙ ap (λ (e : Forest). map (λ (g : Group). planted t e g.members) (take c.loop-index.index groups)) view in
    let all : ArePlanted t (map (λ (g : Group). g.members) groups) (map seen_planted c.loop-index.list.items) =
    all_planted t c.in_ok-escape.escape c.in_ok-escape.ensures.trees groups c.loop-index.index (map seen_planted c.loop-index.list.items) past of_escape in
    record { planted = all; each_switch = all_entries t (map (λ (g : Group). g.members) groups) (map seen_planted c.loop-index.list.items) all }
