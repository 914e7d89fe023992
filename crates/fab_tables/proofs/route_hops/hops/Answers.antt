use Rattle.std.proofs.Common.{sym, subst}
use Rattle.fab_tables.proofs.Paths.HopsTaken.{AreLow, channels_low}
use Rattle.fab_tables.proofs.route_hops.hops.Goals as goal

pub invariant_of-result : goal.invariant_of-result
invariant_of-result c =
    let t = c.args.fabric.now in
    let kept = c.follow.ensures.kept in
    record {
      kept = kept;
      fits = c.requires.lanes;
      level = c.requires.level;
      channels_kept = subst (λ cs. AreLow t cs) (sym c.follow.ensures.channels) (channels_low t c.args.tables.now c.args.start.switch.0 c.args.lid.0 kept);
    }
