use Rattle.std.proofs.Common.{◌≡◌, ℕ, ◌<◌, ◌∙◌, Bool, List, map, take, get_or, length, unwrap_or, slice_index_or, refl, sym, ap, subst, arith}
use Rattle.std.proofs.lemmas.List.{with_items_is, get_or_default, get_or-map, length-map}
use Rattle.fab_model.specs.declared.rows.TerminalId.{TerminalId}
use Rattle.fab_model.specs.WellFormed.{IsWellFormed}
use Rattle.fab_model.proofs.Faultless.Facts.{slice_get_in}
use Rattle.fab_escape.specs.Forest.{root_of}
use Rattle.fab_escape.proofs.OneRoot.{root_below}
use Rattle.fab_mcast.specs.Ways.{home_of, HasMarkedWay}
use Rattle.fab_mcast.proofs.MarkedWays.{home_fits, home_chosen, one_way_more}
use Rattle.fab_mcast.proofs.PlantedTrees.{terminal_low}
use Rattle.fab_mcast.proofs.ways.mark_ways.Goals as goal

pub terminal-requires : goal.terminal-requires
terminal-requires c =
    let ids : List TerminalId = c.args.members.now in
    let i : ℕ = c.loop-member.member-index in
    let inside : i < length ids = c.loop-member-test.true in
    omega (
      arith,
      c.requires.known i 0 (omega (arith, inside, length-map ids (λ (id : TerminalId). id.0))),
      get_or-map (λ (id : TerminalId). id.0) ids i (record { 0 = 0 }) 0 inside,
    )

pub root-root-requires : goal.root-root-requires
root-root-requires c =
    let t = c.args.fabric.now in
    let id : TerminalId = slice_index_or c.args.members.now c.loop-member.member-index (record { 0 = 0 }) in
    omega (arith, terminal_low t c.switches-2.ensures.kept.rows c.terminal.result (slice_get_in t.terminals id.0 c.terminal.result c.terminal.ensures), c.requires.forest.each_root)

pub index-requires : goal.index-requires
index-requires c =
    let t = c.args.fabric.now in
    let good : IsWellFormed t = c.switches-2.ensures.kept.rows in
    let id : TerminalId = slice_index_or c.args.members.now c.loop-member.member-index (record { 0 = 0 }) in
    let low : c.terminal.result.switch.0 < length t.switches = terminal_low t good c.terminal.result (slice_get_in t.terminals id.0 c.terminal.result c.terminal.ensures) in
    omega (arith, root_below t good 0 c.args.escape.now c.requires.forest c.terminal.result.switch.0 low, c.root-root.ensures, c.loop-member.invariant.each_home, c.loop-member.homes.ok.0)

pub index_mut-requires : goal.index_mut-requires
index_mut-requires c =
    let t = c.args.fabric.now in
    let good : IsWellFormed t = c.switches-2.ensures.kept.rows in
    let id : TerminalId = slice_index_or c.args.members.now c.loop-member.member-index (record { 0 = 0 }) in
    let low : c.terminal.result.switch.0 < length t.switches = terminal_low t good c.terminal.result (slice_get_in t.terminals id.0 c.terminal.result c.terminal.ensures) in
    omega (arith, root_below t good 0 c.args.escape.now c.requires.forest c.terminal.result.switch.0 low, c.root-root.ensures, c.loop-member.invariant.each_home, c.loop-member.homes.ok.0)

pub mark_way-requires : goal.mark_way-requires
mark_way-requires c =
    let t = c.args.fabric.now in
    let f = c.args.escape.now in
    let good : IsWellFormed t = c.switches-2.ensures.kept.rows in
    let row = c.terminal.result in
    let there : ℕ = row.switch.0 in
    let homes = c.loop-member.homes.items in
    let i : ℕ = c.loop-member.member-index in
    let before : List ℕ = take i (map (λ (id : TerminalId). id.0) c.args.members.now) in
    let id : TerminalId = slice_index_or c.args.members.now i (record { 0 = 0 }) in
    let low : there < length t.switches = terminal_low t good row (slice_get_in t.terminals id.0 row c.terminal.ensures) in
    let root_low : root_of f there < length homes = omega (arith, root_below t good 0 f c.requires.forest there low, c.loop-member.invariant.each_home) in
    let read : c.index.result.now ≡ get_or homes (root_of f there) c.index.result.now = c.index.ensures ∙ ap (λ k. get_or homes k c.index.result.now) c.root-root.ensures in
    let chosen : unwrap_or (home_of f homes there) there ≡ c.unwrap_or-home.result =
    sym (c.unwrap_or-home.ensures ∙ home_chosen f homes there (root_of f there) c.index.result.now refl root_low read) in
    let fits : (unwrap_or (home_of f homes there) there < length t.switches) × (root_of f there ≡ root_of f (unwrap_or (home_of f homes there) there)) =
    home_fits t good f c.requires.forest before id.0 row c.terminal.ensures homes c.loop-member.passed.items c.loop-member.invariant in
    record {
      fabric = c.switches-2.ensures.kept;
      forest = c.requires.forest;
      from = low;
      home = subst (λ h. h < length t.switches) chosen fits.0;
      joined = subst (λ h. root_of f there ≡ root_of f h) chosen fits.1;
      each = ap (λ (marks : List Bool). length marks) c.deref_mut.ensures.value ∙ c.loop-member.invariant.each_passed;
    }

pub loop-member-preserved : goal.loop-member-preserved
loop-member-preserved c =
    let t = c.args.fabric.now in
    let f = c.args.escape.now in
    let good : IsWellFormed t = c.switches-2.ensures.kept.rows in
    let row = c.terminal.result in
    let there : ℕ = row.switch.0 in
    let homes = c.loop-member.homes.items in
    let passed = c.loop-member.passed.items in
    let ids : List TerminalId = c.args.members.now in
    let i : ℕ = c.loop-member.member-index in
    let id : TerminalId = slice_index_or ids i (record { 0 = 0 }) in
    let inside : i < length ids = c.loop-member-test.true in
    let low : there < length t.switches = terminal_low t good row (slice_get_in t.terminals id.0 row c.terminal.ensures) in
    let root_low : root_of f there < length homes = omega (arith, root_below t good 0 f c.requires.forest there low, c.loop-member.invariant.each_home) in
    let read : c.index.result.now ≡ get_or homes (root_of f there) c.index.result.now = c.index.ensures ∙ ap (λ k. get_or homes k c.index.result.now) c.root-root.ensures in
    let chosen : c.unwrap_or-home.result ≡ unwrap_or (home_of f homes there) there = c.unwrap_or-home.ensures ∙ home_chosen f homes there (root_of f there) c.index.result.now refl root_low read in
    let way : HasMarkedWay t f there c.unwrap_or-home.result passed c.mark_way.new.passed =
    subst (λ old. HasMarkedWay t f there c.unwrap_or-home.result old c.mark_way.new.passed) c.deref_mut.ensures.value c.mark_way.ensures in
    let whole = with_items_is c.loop-member.passed c.mark_way.new.passed (omega (arith, way.each, c.loop-member.passed.ok.0)) in
    rw whole (one_way_more t good f c.requires.forest ids i id row inside (get_or_default ids i (record { 0 = 0 }) id inside) c.terminal.ensures homes passed c.mark_way.new.passed
    c.root-root.result.0 c.unwrap_or-home.result c.loop-member.invariant c.root-root.ensures chosen way)
