use Rattle.std.proofs.Common.{◌<◌, ◌≤◌, length, sym, subst, arith}
use Rattle.std.proofs.lemmas.Bool.{both_ways}
use Rattle.fab_model.proofs.Channels.{contains_read}
use Rattle.fab_tables.proofs.Joined.Tips.{tip_below}
use Rattle.fab_dfsssp.proofs.PathsOver.{AddsBehindUpTo, up_to_first, entry_skips, entry_pushes, behind_added}
use Rattle.fab_dfsssp.proofs.paths_over.push_behind.Goals as goal
use Rattle.fab_dfsssp.proofs.paths_over.push_behind.Goals.{then-sends_by+in_ok-push, else-sends_by}

pub loop-leaving-init : goal.loop-leaving-init
loop-leaving-init c =
    subst (λ n. AddsBehindUpTo c.args.fabric.now c.args.tables.now c.args.path c.args.behind.now.items n c.args.behind.now.items) (sym c.leaves-first.ensures.first)
    (up_to_first c.args.fabric.now c.args.tables.now c.requires.toward.fabric.rows c.args.path c.args.behind.now.items)

pub sends_by-requires : goal.sends_by-requires
sends_by-requires c =
    omega (arith, c.requires.toward.fits.switches, tip_below c.args.fabric.now c.requires.toward.fabric.rows c.channel-row.result (contains_read c.args.fabric.now.channels c.loop-leaving.leaving c.channel-row.result c.channel-row.ensures))

pub loop-leaving-preserved : goal.loop-leaving-preserved
loop-leaving-preserved c =
    let t = c.args.fabric.now in
    let l = c.loop-leaving.leaving in
    let row = c.channel-row.result in
    let low : l < length t.channels = omega (arith, c.loop-leaving-test.true, c.leaves-first.ensures.within) in
    let from = subst (λ n. n ≤ l) c.leaves-first.ensures.first c.loop-leaving.auto.leaving in
    let past = subst (λ n. l < n) c.leaves-first.ensures.past c.loop-leaving-test.true in
    elim c.if-sends_by.branch [
      | then-sends_by+in_ok-push w ↦
          rw (w.behind-is, w.in_ok-push.ensures.items)
          (entry_pushes t c.args.tables.now c.requires.toward.fabric.rows c.args.path c.args.behind.now.items l c.loop-leaving.behind.items c.loop-leaving.invariant low from past row c.channel-row.ensures
          (c.sends_by.ensures.0 w.if-sends_by.true))
      | else-sends_by w ↦
          rw w.behind-is
          (entry_skips t c.args.tables.now c.requires.toward.fabric.rows c.args.path c.args.behind.now.items l c.loop-leaving.behind.items c.loop-leaving.invariant low from past row c.channel-row.ensures
          (λ same. both_ways c.sends_by.result w.if-sends_by.false (c.sends_by.ensures.1 same)))
    ]

pub returns : goal.returns
returns c =
    behind_added c.args.fabric.now c.args.tables.now c.requires.toward.fabric.rows c.args.path c.args.behind.now.items c.loop-leaving.leaving c.loop-leaving.behind.items
    (omega (arith, c.loop-leaving-test.false, c.leaves-first.ensures.past)) c.loop-leaving.invariant
