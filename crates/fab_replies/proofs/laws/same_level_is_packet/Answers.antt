use Rattle.fab_replies.proofs.TerminalPlaces
use Rattle.fab_replies.proofs.laws.same_level_is_packet.Goals as goal

pub returns : goal.returns
returns c = TerminalPlaces.same_level_is_packet
