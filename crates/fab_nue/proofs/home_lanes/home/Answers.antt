use Rattle.std.proofs.Common.{◌∙◌, refl, sym, subst}
use Rattle.std.specs.Prelude.{IsSome}
use Rattle.fab_nue.proofs.Laying.LidPlaces.{has_place}
use Rattle.fab_nue.proofs.home_lanes.home.Goals as goal

pub unwrap-requires : goal.unwrap-requires
unwrap-requires c = subst (λ o. IsSome o) (sym (c.place_of.ensures ∙ (has_place c.args.fabric.now c.args.lid.0 c.requires.in_use).1)) refl
