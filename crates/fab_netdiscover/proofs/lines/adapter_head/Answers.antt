use Rattle.std.proofs.Common.{sym, subst}
use Rattle.fab_model.specs.Description.{IsDescription}
use Rattle.fab_netdiscover.proofs.OneLine.{front_is_line, description_or_none_is}
use Rattle.fab_netdiscover.proofs.lines.adapter_head.Goals as goal

pub new-requires : goal.new-requires
new-requires c = subst IsDescription (sym c.description_or_none.ensures) (description_or_none_is _ (front_is_line _ _ c.requires c.in_ok-front.ensures))
