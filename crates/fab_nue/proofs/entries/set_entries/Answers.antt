use Rattle.std.proofs.Common.{◌≡◌, ◌∙◌, ◌<◌, ◌+◌, length, sym, subst, arith}
use Rattle.std.specs.Prelude.{Contains}
use Rattle.fab_model.specs.Connected.{AreConnected}
use Rattle.fab_tables.specs.Entries.{Entries}
use Rattle.fab_tables.proofs.Joined.Lids.{lid_in_use}
use Rattle.fab_tables.proofs.Paths.FallingRoutes.{connected_below}
use Rattle.fab_nue.proofs.Searching.Adding.{own_read, none_read, channel_within}
use Rattle.fab_nue.proofs.Laying.TreeTables.{AreEntriesBelow, entries_begin, no_entry_more, one_entry_more, entries_end}
use Rattle.fab_nue.proofs.entries.set_entries.Goals as goal
use Rattle.fab_nue.proofs.entries.set_entries.Goals.{in-Some, in_default}

pub loop-s-init : goal.loop-s-init
loop-s-init c = entries_begin c.args.fabric.now c.args.lid.0 c.args.tree.now c.args.tables.now c.requires.tables

pub next-requires : goal.next-requires
next-requires c = omega (arith, c.loop-s-test.true, c.switches-s-end.ensures.count, c.requires.tree.is_tree.each_switch)

pub channel-requires : goal.channel-requires
channel-requires c =
    let tree = c.args.tree.now in
    channel_within c.args.fabric.now tree c.loop-s.s c.in-Some.channel.0 c.requires.tree.is_tree (own_read tree c.loop-s.s c.next.result c.in-Some.channel c.next.ensures c.in-Some.is)

pub set-requires-clause-switch : goal.set-requires-clause-switch
set-requires-clause-switch c = omega (arith, c.loop-s-test.true, c.switches-s-end.ensures.count, c.loop-s.invariant.fixed.fits.switches)

pub set-requires-clause-in_use : goal.set-requires-clause-in_use
set-requires-clause-in_use c =
    subst (λ ns. Contains ns c.args.lid.0) (sym c.loop-s.invariant.fixed.fits.in_use) (lid_in_use c.args.fabric.now c.args.lid.0 c.requires.tree.place c.requires.tree.in_use)

pub loop-s-preserved : goal.loop-s-preserved
loop-s-preserved c =
    let t = c.args.fabric.now in
    let tree = c.args.tree.now in
    let s = c.loop-s.s in
    let low : s < length t.switches = omega (arith, c.loop-s-test.true, c.switches-s-end.ensures.count) in
    elim c.match-next.branch [
      | in-Some w ↦
          (let P : Entries → Type 0 = λ e. AreEntriesBelow t c.args.lid.0 tree c.args.tables.now e (s + 1) in
          subst P (sym (w.tables-is ∙ w.set.ensures))
          (one_entry_more t c.args.lid.0 tree c.args.tables.now c.loop-s.tables s w.in-Some.channel.0 w.channel.result c.requires.tree low (omega (arith, w.channel.type_inv))
          (own_read tree s c.next.result w.in-Some.channel c.next.ensures w.in-Some.is) w.channel.ensures c.loop-s.invariant))
      | in_default w ↦
          (let P : Entries → Type 0 = λ e. AreEntriesBelow t c.args.lid.0 tree c.args.tables.now e (s + 1) in
          subst P (sym w.tables-is) (no_entry_more t c.args.lid.0 tree c.args.tables.now c.loop-s.tables s (none_read tree s c.next.result c.next.ensures w.in_default.is) c.loop-s.invariant))
    ]

pub returns : goal.returns
returns c =
    let t = c.args.fabric.now in
    entries_end t c.args.lid.0 c.args.tree.now c.args.tables.now c.loop-s.tables c.loop-s.s c.requires.tree (omega (arith, c.loop-s-test.false, c.switches-s-end.ensures.count))
    (λ s to chosen. connected_below t c.requires.fabric.rows s c.args.lid.0 (chosen.place, chosen.in_use, subst (λ k. AreConnected t s k) (sym chosen.at_switch) chosen.connected)) c.loop-s.invariant
