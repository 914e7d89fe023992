-- Ends of cables: what kind of node has the end, its GUID and the port there.
use Rattle.std.proofs.lemmas.Cmp.{nat_eq_equiv}
use Rattle.std.proofs.Common.{true, false, ◌≡◌, Bool, List, refl, nat_eq}
use Rattle.std.specs.Prelude.{◌&&◌}
use Rattle.std.specs.Bool.{beq}
use Rattle.std.specs.List.{list_any}
use Rattle.fab_model.specs.declared.raw.NodeKind.{NodeKind}
use Rattle.fab_model.specs.declared.raw.NodeKind.TheVariants.{Switch, Adapter}
use Rattle.fab_model.specs.Records.{Stated, is_switch, same_kind}
use Rattle.fab_model.specs.Faults.{is_other_side}
use Rattle.fab_model.specs.FirstFault.{ends_of, same_side}
use Rattle.fab_model.proofs.FirstFault.Repeats.{any-same}

beq-kinds : (first second : NodeKind) → beq (is_switch first) (is_switch second) ≡ same_kind first second
beq-kinds Switch Switch = refl
beq-kinds Switch Adapter = refl
beq-kinds Adapter Switch = refl
beq-kinds Adapter Adapter = refl

beq-kinds_back : (first second : NodeKind) → beq (is_switch first) (is_switch second) ≡ same_kind second first
beq-kinds_back Switch Switch = refl
beq-kinds_back Switch Adapter = refl
beq-kinds_back Adapter Switch = refl
beq-kinds_back Adapter Adapter = refl

regroup : (a b c d e f : Bool) → ((a && (b && c)) && (d && (e && f))) ≡ ((a && b && c) && (d && e && f))
regroup true b c true e f = refl
regroup true b c false e f = refl
regroup false b c d e f = refl

-- a link states the other side of one where its ends are those of the one, turned about
other-side : (one other : Stated) → same_side (ends_of other) ((ends_of one).1, (ends_of one).0) ≡ is_other_side one other
other-side one other = rw (beq-kinds other.node.kind one.link.far_kind, beq-kinds_back other.link.far_kind one.node.kind, nat_eq_equiv.symm other.link.far_guid one.node.guid) (regroup (same_kind other.node.kind one.link.far_kind) (nat_eq other.node.guid one.link.far_guid) (nat_eq other.link.port one.link.far_port) (same_kind one.node.kind other.link.far_kind) (nat_eq one.node.guid other.link.far_guid) (nat_eq other.link.far_port one.link.port))

pub any_other_side : (one : Stated) (all : List Stated) → list_any (λ other. same_side (ends_of other) ((ends_of one).1, (ends_of one).0)) all ≡ list_any (is_other_side one) all
any_other_side one all = any-same _ (is_other_side one) (other-side one) all
