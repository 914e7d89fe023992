-- Words of the commands that route.
use Rattle.std.proofs.Common.{◌≡◌, [], ◌∷◌, codes, refl}
use Rattle.std.specs.Prelude.{None, Some}
use Rattle.fab_report.specs.declared.recipe.Kind.TheVariants.{Tree}
use Rattle.fab_top.specs.declared.command.Command.TheVariants.{Route, Demo}
use Rattle.fab_top.specs.declared.command.Engine.TheVariants.{MinHop, Dor, Sssp, Updn, Lash, Dfsssp, Nue}
use Rattle.fab_top.specs.Words.{command_of}

route_dor : command_of (codes "route" ∷ codes "dor" ∷ codes "F" ∷ []) ≡ Some (Route 2 Dor)
route_dor = refl

dor_takes_no_lanes : command_of (codes "route" ∷ codes "dor" ∷ codes "F" ∷ codes "--lanes" ∷ codes "2" ∷ []) ≡ None
dor_takes_no_lanes = refl

route_sssp : command_of (codes "route" ∷ codes "sssp" ∷ codes "F" ∷ []) ≡ Some (Route 2 Sssp)
route_sssp = refl

route_updn : command_of (codes "route" ∷ codes "updn" ∷ codes "F" ∷ []) ≡ Some (Route 2 (Updn []))
route_updn = refl

two_roots : command_of (codes "route" ∷ codes "updn" ∷ codes "F" ∷ codes "--root" ∷ codes "0x10" ∷ codes "--root" ∷ codes "0x0012" ∷ []) ≡ Some (Route 2 (Updn (16 ∷ 18 ∷ [])))
two_roots = refl

root_is_no_guid : command_of (codes "route" ∷ codes "updn" ∷ codes "F" ∷ codes "--root" ∷ codes "16" ∷ []) ≡ None
root_is_no_guid = refl

no_root : command_of (codes "route" ∷ codes "updn" ∷ codes "F" ∷ codes "--root" ∷ []) ≡ None
no_root = refl

updn_takes_no_lanes : command_of (codes "route" ∷ codes "updn" ∷ codes "F" ∷ codes "--lanes" ∷ codes "2" ∷ []) ≡ None
updn_takes_no_lanes = refl

route_lash : command_of (codes "route" ∷ codes "lash" ∷ codes "F" ∷ codes "--lanes" ∷ codes "15" ∷ []) ≡ Some (Route 2 (Lash 15))
route_lash = refl

route_dfsssp : command_of (codes "route" ∷ codes "dfsssp" ∷ codes "F" ∷ codes "--lanes" ∷ codes "1" ∷ []) ≡ Some (Route 2 (Dfsssp 1))
route_dfsssp = refl

route_nue : command_of (codes "route" ∷ codes "nue" ∷ codes "F" ∷ codes "--lanes" ∷ codes "2" ∷ []) ≡ Some (Route 2 (Nue 2))
route_nue = refl

lash_takes_lanes : command_of (codes "route" ∷ codes "lash" ∷ codes "F" ∷ []) ≡ None
lash_takes_lanes = refl

lash_takes_no_roots : command_of (codes "route" ∷ codes "lash" ∷ codes "F" ∷ codes "--root" ∷ codes "0x10" ∷ []) ≡ None
lash_takes_no_roots = refl

no_lanes : command_of (codes "route" ∷ codes "lash" ∷ codes "F" ∷ codes "--lanes" ∷ codes "0" ∷ []) ≡ None
no_lanes = refl

too_many_lanes : command_of (codes "route" ∷ codes "dfsssp" ∷ codes "F" ∷ codes "--lanes" ∷ codes "16" ∷ []) ≡ None
too_many_lanes = refl

lanes_with_leading_zero : command_of (codes "route" ∷ codes "dfsssp" ∷ codes "F" ∷ codes "--lanes" ∷ codes "01" ∷ []) ≡ None
lanes_with_leading_zero = refl

no_such_engine : command_of (codes "route" ∷ codes "ftree" ∷ codes "F" ∷ []) ≡ None
no_such_engine = refl

a_flag : command_of (codes "route" ∷ codes "dor" ∷ codes "--F" ∷ []) ≡ None
a_flag = refl

no_fabric : command_of (codes "route" ∷ codes "minhop" ∷ []) ≡ None
no_fabric = refl

demo_min_hop : command_of (codes "demo" ∷ codes "tree" ∷ codes "16" ∷ codes "8" ∷ codes "0" ∷ codes "minhop" ∷ codes "0" ∷ [])
    ≡ Some (Demo (record { kind = Tree; a = 16; b = 8; seed = 0 }) MinHop)
demo_min_hop = refl

dor_takes_0 : command_of (codes "demo" ∷ codes "tree" ∷ codes "16" ∷ codes "8" ∷ codes "0" ∷ codes "dor" ∷ codes "1" ∷ []) ≡ None
dor_takes_0 = refl

no_count : command_of (codes "demo" ∷ codes "tree" ∷ codes "16" ∷ codes "8" ∷ codes "0" ∷ codes "dor" ∷ []) ≡ None
no_count = refl

recipe_too_small : command_of (codes "demo" ∷ codes "ring" ∷ codes "2" ∷ codes "1" ∷ codes "0" ∷ codes "dor" ∷ codes "0" ∷ []) ≡ None
recipe_too_small = refl

demo_updn : command_of (codes "demo" ∷ codes "tree" ∷ codes "16" ∷ codes "8" ∷ codes "0" ∷ codes "updn" ∷ codes "0" ∷ []) ≡ Some (Demo (record { kind = Tree; a = 16; b = 8; seed = 0 }) (Updn []))
demo_updn = refl

demo_lash : command_of (codes "demo" ∷ codes "tree" ∷ codes "16" ∷ codes "8" ∷ codes "0" ∷ codes "lash" ∷ codes "2" ∷ []) ≡ Some (Demo (record { kind = Tree; a = 16; b = 8; seed = 0 }) (Lash 2))
demo_lash = refl

lash_takes_no_0 : command_of (codes "demo" ∷ codes "tree" ∷ codes "16" ∷ codes "8" ∷ codes "0" ∷ codes "lash" ∷ codes "0" ∷ []) ≡ None
lash_takes_no_0 = refl
