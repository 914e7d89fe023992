use Rattle.fab_dump.proofs.Round.Texts.{written_is_read}
use Rattle.fab_dump.proofs.laws.written_is_read.Goals as goal

pub returns : goal.returns
returns c = written_is_read
