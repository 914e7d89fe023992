use Rattle.std.proofs.Common.{◌≡◌, ◌∙◌, ◌<◌, ◌≤◌, ℕ, length, sym, subst, arith}
use Rattle.std.specs.Prelude.{option_copied}
use Rattle.fab_nue.specs.Forests.{AreForests, forest_in}
use Rattle.fab_nue.specs.Laying.{BeginsLaying, EndsLaying}
use Rattle.fab_nue.proofs.Lanes.LaneLists.{same_length, still_have}
use Rattle.fab_nue.proofs.Plans.WholePlan.{begins, without_levels}
use Rattle.fab_nue.proofs.nue_plan.lay_all.Goals as goal

pub lay_lids-requires-clause-lanes : goal.lay_lids-requires-clause-lanes
lay_lids-requires-clause-lanes g c =
    subst (λ k. (0 < k) × (k ≤ 15)) (sym (same_length c.args.used.now c.keep_old.new.used c.in_ok-kept.ensures.channels)) c.requires.lanes

pub lay_lids-requires-clause-forests : goal.lay_lids-requires-clause-forests
lay_lids-requires-clause-forests g c =
    subst (λ k. AreForests c.args.fabric.now k c.args.forests.now) (sym (same_length c.args.used.now c.keep_old.new.used c.in_ok-kept.ensures.channels)) c.requires.forests

pub lay_lids-requires-clause-channels : goal.lay_lids-requires-clause-channels
lay_lids-requires-clause-channels g c = still_have c.args.fabric.now c.args.used.now c.keep_old.new.used c.in_ok-kept.ensures.channels c.requires.channels

pub lay_lids-requires-clause-begun : goal.lay_lids-requires-clause-begun
lay_lids-requires-clause-begun g c =
    let t = c.args.fabric.now in
    let n = length c.args.used.now in
    subst (λ k. BeginsLaying t k c.in_ok-kept.kept (λ lane. forest_in c.args.forests.now lane) c.keep_old.new.tables c.keep_old.new.weights c.keep_old.new.used)
    (sym (same_length c.args.used.now c.keep_old.new.used c.in_ok-kept.ensures.channels))
    (begins t n (option_copied c.args.old) c.in_ok-kept.kept c.args.forests.now c.args.used.now c.keep_old.new.used c.keep_old.new.used c.keep_old.new.tables c.keep_old.new.tables c.keep_old.new.weights c.keep_old.new.weights
    c.requires.forests c.requires.listed c.in_ok-kept.ensures.kept)

pub returns : goal.returns
returns g c =
    let t = c.args.fabric.now in
    let n = length c.args.used.now in
    let was = same_length c.args.used.now c.keep_old.new.used c.in_ok-kept.ensures.channels in
    let end = same_length c.keep_old.new.used c.lay_lids.new.used c.in_ok-lay_lids.ensures.channels in
    without_levels t n (option_copied c.args.old) c.in_ok-kept.kept c.args.forests.now c.args.used.now c.keep_old.new.used c.lay_lids.new.used c.keep_old.new.tables c.lay_lids.new.tables c.keep_old.new.weights c.lay_lids.new.weights
    c.requires.forests c.requires.listed c.in_ok-kept.ensures.kept
    (subst (λ k. EndsLaying t k c.in_ok-kept.kept (λ lane. forest_in c.args.forests.now lane) c.keep_old.new.tables c.keep_old.new.weights c.keep_old.new.used c.lay_lids.new.tables c.lay_lids.new.weights c.lay_lids.new.used) was
    c.in_ok-lay_lids.ensures.laid) (end ∙ was)
    (still_have t c.keep_old.new.used c.lay_lids.new.used c.in_ok-lay_lids.ensures.channels (still_have t c.args.used.now c.keep_old.new.used c.in_ok-kept.ensures.channels c.requires.channels))
