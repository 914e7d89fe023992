use Rattle.fab_netdiscover.proofs.OneLine.{front_is_line, description_is}
use Rattle.fab_netdiscover.proofs.lines.switch_head.Goals as goal

pub new-requires : goal.new-requires
new-requires c = description_is _ (front_is_line _ _ c.requires c.in_ok-front.ensures) c.in_ok-desc.ensures
