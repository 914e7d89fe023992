use Rattle.fab_dump.proofs.Reading.ReadTidy.{read_is_tidy}
use Rattle.fab_dump.proofs.laws.read_is_tidy.Goals as goal

pub returns : goal.returns
returns c = read_is_tidy
