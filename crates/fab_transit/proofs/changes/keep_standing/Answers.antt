use Rattle.std.proofs.Common.{rules}
use Rattle.std.proofs.lemmas.Fn.{dedup_same}
use Rattle.fab_transit.proofs.Alike.{all_stand, firsts_stand, same_source}
use Rattle.fab_transit.proofs.changes.keep_standing.Goals as goal

pub returns-then-not-have_pairs : goal.returns-then-not-have_pairs
returns-then-not-have_pairs c =
    let kept = dedup_same _ same_source _ (λ x y b f' x' y' k. search rules) _ _ c.dedup_by_key.ensures.filtered in
    rw kept (firsts_stand c.args.plans.now.fabric c.args.plans.now.change (c.have_pairs.ensures (search rules)) c.args.starts.now.items c.requires)

pub returns-else-not-have_pairs : goal.returns-else-not-have_pairs
returns-else-not-have_pairs c = all_stand c.args.plans.now.fabric c.args.plans.now.change c.args.starts.now.items c.requires
