-- Records without a fault make a fabric.
pub mod Channels
pub mod Count
pub mod Facts
pub mod Fields
pub mod Lids
pub mod Nodes
pub mod NoFault
pub mod Places
pub mod Sound
pub mod Terminals
pub mod Types
use Rattle.fab_model.specs.Laws.{FaultlessMake}
use Rattle.fab_model.proofs.Faultless.Facts.{have_lines}
use Rattle.fab_model.proofs.Faultless.Sound.{are_sound, are_few}
use Rattle.fab_model.proofs.Faultless.Fields.{is_well_formed}
use Rattle.fab_model.proofs.Faultless.Types.{fits_types}

pub faultless_make : FaultlessMake
faultless_make records are none = record {
  types = fits_types records are;
  rows = is_well_formed records (are_sound records (have_lines records are) none) (are_few records none);
}
