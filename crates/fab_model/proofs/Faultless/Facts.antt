-- What records without a fault keep, in the forms that the rows of their fabric need.
use Rattle.std.proofs.Common.{◌≡◌, ◌≢◌, ℕ, zero, suc, ◌<◌, inl, inr, List, [], ◌∷◌, Option, Some, None, refl, sym, ◌∙◌, ap, subst, arith}
use Rattle.std.specs.Prelude.{All, AllPairs, map, filter, slice_get, option_map, ◌&&◌, ◌==◌, nat_lt}
use Rattle.std.proofs.lemmas.Bool.{eq-eqb, lt-ltb, cases_order, both_ways, and_from}
use Rattle.std.proofs.lemmas.Option.{same_Some}
use Rattle.fab_model.specs.declared.raw.RawNode.{RawNode}
use Rattle.fab_model.specs.declared.raw.RawLink.{RawLink}
use Rattle.fab_model.specs.Records.{Records, AreRecords, Stated, stated, is_switch, is_adapter}
use Rattle.fab_model.specs.Faults.{Claim, claims}
use Rattle.fab_model.proofs.Lists.Members.{In, Pairs, pairs_from_AllPairs, pairs_weaker, pairs_map, pairs_filter, pairs_filter_map, pairs_join, from_filter_map, from_map, from_filter, in_all, list_any_false}
use Rattle.fab_model.proofs.Faultless.NoFault.{NoRow}

-- lines rise, and none states both a node and a link
pub record HaveLines (records : Records) : Type 0 where
  pub nodes_rise : AllPairs (λ first second. first.line < second.line) records.nodes
  pub links_rise : AllPairs (λ first second. first.line < second.line) records.links
  pub lines_differ : All (λ node. All (λ link. node.line ≢ link.line) records.links) records.nodes

pub have_lines : (records : Records) → AreRecords records → HaveLines records
have_lines records are = record { nodes_rise = are.nodes_rise; links_rise = are.links_rise; lines_differ = are.lines_differ }

-- the other link states the same cable from its other end
pub record AreSides (one other : Stated) : Type 0 where
  pub kind : is_switch other.node.kind ≡ is_switch one.link.far_kind
  pub guid : other.node.guid ≡ one.link.far_guid
  pub port : other.link.port ≡ one.link.far_port
  pub back_kind : is_switch one.node.kind ≡ is_switch other.link.far_kind
  pub back_guid : one.node.guid ≡ other.link.far_guid
  pub back_port : other.link.far_port ≡ one.link.port

abbrev pub UseOthers : Stated → Stated → Type 0
UseOthers one other = one.node.guid ≡ other.node.guid → one.link.port ≢ other.link.port

-- ---- the links with their nodes

pub from_option_map : {X Y : Type 0} (f : X → Y) (o : Option X) (y : Y) → option_map f o ≡ Some y → (x : X) × (o ≡ Some x) × (f x ≡ y)
from_option_map f None y is = absurd (cc)
from_option_map f (Some x) y is = (x, refl, cc)

pub slice_get_in : {X : Type 0} (xs : List X) (i : ℕ) (x : X) → slice_get xs i ≡ Some x → In x xs
slice_get_in [] i x is = absurd (cc)
slice_get_in (y ∷ ys) zero x is = inl (same_Some y x is)
slice_get_in (y ∷ ys) (suc i) x is = inr (slice_get_in ys i x is)

-- where keys differ, a key stands in one place
pub same_place : {X : Type 0} (key : X → ℕ) (xs : List X) (i j : ℕ) (x y : X) → Pairs (λ x y. key x ≢ key y) xs → slice_get xs i ≡ Some x → slice_get xs j ≡ Some y → key x ≡ key y → i ≡ j
same_place key [] i j x y pairs at_i at_j same = absurd (cc)
same_place key (z ∷ zs) zero zero x y pairs at_i at_j same = refl
same_place key (z ∷ zs) zero (suc j) x y pairs at_i at_j same =
    absurd (pairs.0 y (slice_get_in zs j y at_j) (ap key (same_Some z x at_i) ∙ same))
same_place key (z ∷ zs) (suc i) zero x y pairs at_i at_j same =
    absurd (pairs.0 x (slice_get_in zs i x at_i) (ap key (same_Some z y at_j) ∙ sym same))
same_place key (z ∷ zs) (suc i) (suc j) x y pairs at_i at_j same = ap suc (same_place key zs i j x y pairs.1 at_i at_j same)

abbrev pub stand : Records → RawLink → Option Stated
stand records link = option_map (λ node. record { node = node; link = link }) (slice_get records.nodes link.node)

-- a link in the list that it comes from, and its node in its place
stand_parts : (records : Records) (link : RawLink) (one : Stated) → stand records link ≡ Some one → (link ≡ one.link) × (slice_get records.nodes link.node ≡ Some one.node)
stand_parts records link one is =
    let there = from_option_map (λ (node : RawNode). record { node = node; link = link }) (slice_get records.nodes link.node) one is in
    (ap (λ (s : Stated). s.link) there.2, there.1 ∙ ap (λ (s : Stated). Some s.node) there.2)

pub from_stated : (records : Records) (one : Stated) → In one (stated records) → In one.link records.links × (slice_get records.nodes one.link.node ≡ Some one.node)
from_stated records one within =
    let there = from_filter_map (stand records) records.links one within in
    let parts = stand_parts records there.0 one there.2 in (
      subst (λ (l : RawLink). In l records.links) parts.0 there.1,
      subst (λ (l : RawLink). slice_get records.nodes l.node ≡ Some one.node) parts.0 parts.1,
    )

pub node_of_stated : (records : Records) (one : Stated) → In one (stated records) → In one.node records.nodes
node_of_stated records one within = slice_get_in records.nodes one.link.node one.node (from_stated records one within).1

-- ---- GUIDs and ports differ

guids_of_rows : (records : Records) → NoRow records → (one other : RawNode) → In one records.nodes → In other records.nodes → one.line < other.line → one.guid ≢ other.guid
guids_of_rows records clear one other in_one in_other less same =
    both_ways (nat_lt one.line other.line && one.guid == other.guid)
    (list_any_false (λ (node : RawNode). nat_lt node.line other.line && node.guid == other.guid) records.nodes (clear.guids other in_other) one in_one)
    (and_from (nat_lt one.line other.line) (one.guid == other.guid) (lt-ltb one.line other.line less) (eq-eqb one.guid other.guid same))

pub guids_differ : (records : Records) → HaveLines records → NoRow records → Pairs (λ one other. one.guid ≢ other.guid) records.nodes
guids_differ records are clear =
    pairs_weaker (λ (one other : RawNode). one.line < other.line) (λ (one other : RawNode). one.guid ≢ other.guid) records.nodes
    (λ one other in_one in_other less. guids_of_rows records clear one other in_one in_other less)
    (pairs_from_AllPairs (λ (one other : RawNode). one.line < other.line) records.nodes are.nodes_rise)

stated_rise : (records : Records) → HaveLines records → Pairs (λ one other. one.link.line < other.link.line) (stated records)
stated_rise records are =
    pairs_filter_map (λ (one other : RawLink). one.line < other.line) (λ (one other : Stated). one.link.line < other.link.line) (stand records)
    (λ one other v w at_v at_w less.
    subst (λ (l : RawLink). v.link.line < l.line) (stand_parts records other w at_w).0
    (subst (λ (l : RawLink). l.line < other.line) (stand_parts records one v at_v).0 less))
    records.links
    (pairs_from_AllPairs (λ (one other : RawLink). one.line < other.line) records.links are.links_rise)

ports_of_rows : (records : Records) → NoRow records → (one other : Stated) → In one (stated records) → In other (stated records) → one.link.line < other.link.line → one.link.node ≡ other.link.node → one.link.port ≢ other.link.port
ports_of_rows records clear one other in_one in_other less node port =
    both_ways (nat_lt one.link.line other.link.line && one.link.node == other.link.node && one.link.port == other.link.port)
    (list_any_false (λ (link : RawLink). nat_lt link.line other.link.line && link.node == other.link.node && link.port == other.link.port) records.links
    (clear.ports other in_other) one.link (from_stated records one in_one).0)
    (and_from (nat_lt one.link.line other.link.line && one.link.node == other.link.node) (one.link.port == other.link.port)
    (and_from (nat_lt one.link.line other.link.line) (one.link.node == other.link.node) (lt-ltb one.link.line other.link.line less) (eq-eqb one.link.node other.link.node node))
    (eq-eqb one.link.port other.link.port port))

pub ports_differ : (records : Records) → HaveLines records → NoRow records → Pairs UseOthers (stated records)
ports_differ records are clear =
    pairs_weaker (λ (one other : Stated). one.link.line < other.link.line) UseOthers (stated records)
    (λ one other in_one in_other less guid.
    ports_of_rows records clear one other in_one in_other less
    (same_place (λ (node : RawNode). node.guid) records.nodes one.link.node other.link.node one.node other.node (guids_differ records are clear)
    (from_stated records one in_one).1 (from_stated records other in_other).1 guid))
    (stated_rise records are)

-- ---- LIDs differ

lids_of_rows : (records : Records) → NoRow records → (one other : Claim) → In one (claims records) → In other (claims records) → one.line < other.line → one.lid ≢ other.lid
lids_of_rows records clear one other in_one in_other less same =
    both_ways (nat_lt one.line other.line && one.lid == other.lid)
    (list_any_false (λ (claim : Claim). nat_lt claim.line other.line && claim.lid == other.lid) (claims records) (clear.lids_once other in_other) one in_one)
    (and_from (nat_lt one.line other.line) (one.lid == other.lid) (lt-ltb one.line other.line less) (eq-eqb one.lid other.lid same))

lids_of_lines : (records : Records) → NoRow records → (one other : Claim) → In one (claims records) → In other (claims records) → one.line ≢ other.line → one.lid ≢ other.lid
lids_of_lines records clear one other in_one in_other apart same =
    elim (cases_order one.line other.line) [
      | inl e ↦ apart e
      | inr (inl less) ↦ lids_of_rows records clear one other in_one in_other less same
      | inr (inr more) ↦ lids_of_rows records clear other one in_other in_one more (sym same)
    ]

abbrev pub node_claim : RawNode → Claim
node_claim node = record { line = node.line; lid = node.lid; lmc = node.lmc }

abbrev pub link_claim : Stated → Claim
link_claim one = record { line = one.link.line; lid = one.link.lid; lmc = one.link.lmc }

abbrev pub switch_nodes : Records → List RawNode
switch_nodes records = filter (λ node. is_switch node.kind) records.nodes

abbrev pub adapter_links : Records → List Stated
adapter_links records = filter (λ one. is_adapter one.node.kind) (stated records)

lines_across : (records : Records) → HaveLines records → (one other : Claim) → In one (map node_claim (switch_nodes records)) → In other (map link_claim (adapter_links records)) → one.line ≢ other.line
lines_across records are one other in_one in_other same =
    let at_node = from_map node_claim (switch_nodes records) one in_one in
    let at_link = from_map link_claim (adapter_links records) other in_other in
    let apart : at_node.0.line ≢ at_link.0.link.line =
    in_all (λ (link : RawLink). at_node.0.line ≢ link.line) records.links
    (in_all (λ (node : RawNode). All (λ link. node.line ≢ link.line) records.links) records.nodes are.lines_differ at_node.0
    (from_filter (λ (node : RawNode). is_switch node.kind) records.nodes at_node.0 at_node.1).0)
    at_link.0.link
    (from_stated records at_link.0 (from_filter (λ (one : Stated). is_adapter one.node.kind) (stated records) at_link.0 at_link.1).0).0
    in
    apart (ap (λ (claim : Claim). claim.line) at_node.2 ∙ same ∙ sym (ap (λ (claim : Claim). claim.line) at_link.2))

claim_lines_differ : (records : Records) → HaveLines records → Pairs (λ one other. one.line ≢ other.line) (claims records)
claim_lines_differ records are =
    pairs_join (λ (one other : Claim). one.line ≢ other.line) (map node_claim (switch_nodes records)) (map link_claim (adapter_links records))
    (pairs_map (λ (one other : Claim). one.line ≢ other.line) node_claim (switch_nodes records)
    (pairs_filter (λ (one other : RawNode). one.line ≢ other.line) (λ node. is_switch node.kind) records.nodes
    (pairs_weaker (λ (one other : RawNode). one.line < other.line) (λ (one other : RawNode). one.line ≢ other.line) records.nodes
    (λ one other in_one in_other less same. omega arith)
    (pairs_from_AllPairs (λ (one other : RawNode). one.line < other.line) records.nodes are.nodes_rise))))
    (pairs_map (λ (one other : Claim). one.line ≢ other.line) link_claim (adapter_links records)
    (pairs_filter (λ (one other : Stated). one.link.line ≢ other.link.line) (λ one. is_adapter one.node.kind) (stated records)
    (pairs_weaker (λ (one other : Stated). one.link.line < other.link.line) (λ (one other : Stated). one.link.line ≢ other.link.line) (stated records)
    (λ one other in_one in_other less same. omega arith)
    (stated_rise records are))))
    (lines_across records are)

pub lids_differ : (records : Records) → HaveLines records → NoRow records → Pairs (λ one other. one.lid ≢ other.lid) (claims records)
lids_differ records are clear =
    pairs_weaker (λ (one other : Claim). one.line ≢ other.line) (λ (one other : Claim). one.lid ≢ other.lid) (claims records)
    (λ one other in_one in_other apart. lids_of_lines records clear one other in_one in_other apart)
    (claim_lines_differ records are)
