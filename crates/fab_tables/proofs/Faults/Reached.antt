-- Where no route has a fault all are delivered.
use Rattle.std.proofs.Common.{refl, None}
use Rattle.fab_model.specs.Topology.{Topology}
use Rattle.fab_tables.specs.Entries.{Entries}
use Rattle.fab_tables.specs.Certified.{Reaches}
use Rattle.fab_tables.specs.Verdicts.{IsFaultAt}
use Rattle.fab_tables.specs.First.{FindsFirst}
use Rattle.fab_tables.proofs.Verdicts.CertifiedLaws.{routes_reaches}

pub all_reached : (t : Topology) (e : Entries) → FindsFirst (IsFaultAt t e None) None → Reaches t e
all_reached t e none = ((routes_reaches t (record { tables = e; lanes = None })).0 (refl, none)).1
