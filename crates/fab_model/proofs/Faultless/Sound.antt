-- Records without a fault, each fact in the form that the rows of their fabric need.
use Rattle.std.proofs.Common.{◌≡◌, ◌≢◌, ℕ, ◌<◌, ◌≤◌, Bool, true, false, length, None, refl, sym, arith}
use Rattle.std.specs.Prelude.{count_by, not, ◌&&◌, ◌==◌, nat_lt}
use Rattle.std.proofs.lemmas.Bool.{and_parts, or_parts, not-true, not-false, eqb-true, eqb-false, ltb-false}
use Rattle.fab_model.specs.declared.raw.NodeKind.{NodeKind}
use Rattle.fab_model.specs.declared.raw.NodeKind.TheVariants.{Switch, Adapter}
use Rattle.fab_model.specs.declared.raw.RawNode.{RawNode}
use Rattle.fab_model.specs.Records.{Records, Stated, stated, is_switch, is_adapter, same_kind}
use Rattle.fab_model.specs.Faults.{Claim, claims, first_fault, switch_limit, lid_limit, port_limit, greatest_lid, is_other_side, is_far_end}
use Rattle.fab_model.specs.WellFormed.{IsPort, IsUnicast}
use Rattle.fab_model.proofs.Lists.Members.{In, Pairs, from_list_any}
use Rattle.fab_model.proofs.Faultless.NoFault.{NoRow, no_row}
use Rattle.fab_model.proofs.Faultless.Facts.{HaveLines, AreSides, UseOthers, guids_differ, ports_differ, lids_differ, node_of_stated}

pub record AreSound (records : Records) : Type 0 where
  pub some_switch : (node : RawNode) × In node records.nodes × (is_switch node.kind ≡ true)
  pub guids_differ : Pairs (λ one other. one.guid ≢ other.guid) records.nodes
  pub node_ports : (node : RawNode) → In node records.nodes → node.ports ≤ port_limit
  pub link_ports : (one : Stated) → In one (stated records) → IsPort one.node.ports one.link.port
  pub link_nodes : (one : Stated) → In one (stated records) → In one.node records.nodes
  pub ports_differ : Pairs UseOthers (stated records)
  pub switched : (one : Stated) → In one (stated records) → is_adapter one.node.kind ≡ true → is_switch one.link.far_kind ≡ true
  pub sides : (one : Stated) → In one (stated records) → (other : Stated) × In other (stated records) × AreSides one other
  pub lids : (claim : Claim) → In claim (claims records) → IsUnicast claim.lid
  pub lids_differ : Pairs (λ one other. one.lid ≢ other.lid) (claims records)

-- the counts are within their limits
pub record AreFew (records : Records) : Type 0 where
  pub switch_count : count_by (λ node. is_switch node.kind) records.nodes ≤ switch_limit
  pub lid_count : length (claims records) ≤ lid_limit

kind_of_same : (first second : NodeKind) → same_kind first second ≡ true → is_switch first ≡ is_switch second
kind_of_same Switch second same = sym same
kind_of_same Adapter second same = sym (not-true (is_switch second) same)

sides_of_test : (one other : Stated) → is_other_side one other ≡ true → AreSides one other
sides_of_test one other passes =
    let halves = and_parts (is_far_end one other.node && other.link.port == one.link.far_port) (is_far_end other one.node && other.link.far_port == one.link.port) passes in
    let near = and_parts (is_far_end one other.node) (other.link.port == one.link.far_port) halves.0 in
    let far = and_parts (is_far_end other one.node) (other.link.far_port == one.link.port) halves.1 in
    let near_end = and_parts (same_kind other.node.kind one.link.far_kind) (other.node.guid == one.link.far_guid) near.0 in
    let far_end = and_parts (same_kind one.node.kind other.link.far_kind) (one.node.guid == other.link.far_guid) far.0 in
    record {
      kind = kind_of_same other.node.kind one.link.far_kind near_end.0;
      guid = eqb-true other.node.guid one.link.far_guid near_end.1;
      port = eqb-true other.link.port one.link.far_port near.1;
      back_kind = kind_of_same one.node.kind other.link.far_kind far_end.0;
      back_guid = eqb-true one.node.guid other.link.far_guid far_end.1;
      back_port = eqb-true other.link.far_port one.link.port far.1;
    }

sides_of_row : (records : Records) → NoRow records → (one : Stated) → In one (stated records) → (other : Stated) × In other (stated records) × AreSides one other
sides_of_row records clear one within =
    let there = from_list_any (is_other_side one) (stated records) (not-false _ (clear.sides one within)) in
    (there.0, there.1, sides_of_test one there.0 there.2)

positive : (n : ℕ) → (n == 0) ≡ false → 0 < n
positive n not_zero =
    let differs = eqb-false n 0 not_zero in omega arith

switched_of_row : (near far : Bool) → (not near && not far) ≡ false → not near ≡ true → far ≡ true
switched_of_row near true none at = refl
switched_of_row true false none at = at
switched_of_row false false none at = sym none

pub are_sound : (records : Records) → HaveLines records → first_fault records ≡ None → AreSound records
are_sound records are none = record {
  some_switch = from_list_any (λ (node : RawNode). is_switch node.kind) records.nodes clear.some_switch;
  guids_differ = guids_differ records are clear;
  node_ports = λ node within. ltb-false port_limit node.ports (clear.node_ports node within);
  link_ports = λ one within.
      let parts = or_parts (one.link.port == 0) (nat_lt one.node.ports one.link.port) (clear.link_ports one within) in
      (positive one.link.port parts.0, ltb-false one.node.ports one.link.port parts.1);
  link_nodes = node_of_stated records;
  ports_differ = ports_differ records are clear;
  switched = λ one within at. switched_of_row (is_switch one.node.kind) (is_switch one.link.far_kind) (clear.switched one within) at;
  sides = sides_of_row records clear;
  lids = λ claim within.
      let parts = or_parts (claim.lid == 0) (nat_lt greatest_lid claim.lid) (clear.lids claim within) in
      (positive claim.lid parts.0, ltb-false greatest_lid claim.lid parts.1);
  lids_differ = lids_differ records are clear;
}
  where
    clear : NoRow records
    clear = no_row records none

pub are_few : (records : Records) → first_fault records ≡ None → AreFew records
are_few records none = record {
  switch_count = ltb-false switch_limit (count_by (λ node. is_switch node.kind) records.nodes) (no_row records none).switch_count;
  lid_count = ltb-false lid_limit (length (claims records)) (no_row records none).lid_count;
}
