-- What the search for the first fault of raw records answers.
use Rattle.std.specs.Prelude.{◌≡◌, ℕ, Bool, false, ◌&&◌, not, List, [], ◌∷◌, ◌++◌, length, count_by, Option, Some, None, Result, Ok, Err, min, nat_eq, nat_lt, ◌==◌, is_some}
use Rattle.std.specs.List.{list_any}
use Rattle.std.specs.Bool.{beq}
use Rattle.std.specs.Fn.{Shared}
use denote.Ref.{Bor}
use Rattle.fab_model.specs.declared.raw.RawNode.{RawNode}
use Rattle.fab_model.specs.declared.raw.RawLink.{RawLink}
use Rattle.fab_model.specs.declared.fault.FabricFault.{FabricFault}
use Rattle.fab_model.specs.declared.fault.FabricFault.TheVariants as fault
use Rattle.fab_model.specs.declared.first_fault.ends.End.{End}
use Rattle.fab_model.specs.Records.{Records, Stated, is_switch, same_kind}
use Rattle.indexmap.specs.IndexMap.{IndexMap, get}
use Rattle.fab_model.specs.declared.raw.NodeKind.{NodeKind}
use Rattle.fab_model.specs.Faults.{switch_limit, lid_limit, claims, node_lines, link_lines, claim_lines, repeats_guid, has_too_many_ports, is_off_its_node, repeats_port, has_unknown_end, joins_adapters, is_one_sided, has_lmc, is_bad_lid, repeats_lid, when, at_least_line}
use Rattle.fab_model.specs.Built.{wants_memory}
use Rattle.fab_text.specs.Readings.{Unless}

-- each call at a node answers what the test gives
abbrev pub TestsNodes : {F : Type 0} → Shared F (Bor RawNode × Unit {0}) Bool → F → (RawNode → Bool) → Type 0
TestsNodes g f test = (node : Bor RawNode) (answer : Bool) → g.post f (node, tt) answer → answer ≡ test node.now

-- each call at a node and a link under it answers what the test gives
abbrev pub TestsLinks : {F : Type 0} → Shared F (Bor RawNode × (Bor RawLink × Unit {0})) Bool → F → (Stated → Bool) → Type 0
TestsLinks g f test = (node : Bor RawNode) (link : Bor RawLink) (answer : Bool) → g.post f (node, (link, tt)) answer → answer ≡ test (record { node = node.now; link = link.now })

-- the lesser of two numbers, of which either may be missing
abbrev pub lesser : Option ℕ → Option ℕ → Option ℕ
lesser None other = other
lesser (Some n) None = Some n
lesser (Some n) (Some m) = Some (min n m)

-- a line is behind the one that is there
abbrev pub is_later : Option ℕ → ℕ → Bool
is_later None line = false
is_later (Some first) line = nat_lt first line

-- a node that is found is of the kind
abbrev pub is_of_kind : NodeKind → Option (Bor RawNode) → Bool
is_of_kind kind None = false
is_of_kind kind (Some node) = same_kind node.now.kind kind

-- the map has a node of each GUID, and of its kind
pub record AreByGuid {S : Type 0} (nodes : List RawNode) (by_guid : IndexMap ℕ (Bor RawNode) S) : Type 0 where
  pub some : (guid : ℕ) → is_some (get nat_eq by_guid guid) ≡ list_any (λ node. node.guid == guid) nodes
  pub kinds : (kind : NodeKind) (guid : ℕ) → is_of_kind kind (get nat_eq by_guid guid) ≡ list_any (λ node. same_kind node.kind kind && node.guid == guid) nodes

-- the end at which a link is stated, and the one that it names
abbrev pub ends_of : Stated → End × End
ends_of one = (record { is_switch = is_switch one.node.kind; guid = one.node.guid; port = one.link.port }, record { is_switch = is_switch one.link.far_kind; guid = one.link.far_guid; port = one.link.far_port })

abbrev pub same_end : End → End → Bool
same_end first second = beq first.is_switch second.is_switch && (nat_eq first.guid second.guid && nat_eq first.port second.port)

abbrev pub same_side : End × End → End × End → Bool
same_side first second = same_end first.0 second.0 && same_end first.1 second.1

-- the rows of the table, on nodes, on links and on LIDs
abbrev pub node_rows : Records → List (Option FabricFault)
node_rows records =
    when (not (list_any (λ node. is_switch node.kind) records.nodes)) fault.NoSwitch
    ∷ when (nat_lt switch_limit (count_by (λ node. is_switch node.kind) records.nodes)) fault.TooManySwitches
    ∷ at_least_line fault.TwiceGuid (node_lines (repeats_guid records) records)
    ∷ at_least_line fault.PortRange (node_lines has_too_many_ports records ++ link_lines is_off_its_node records)
    ∷ []

abbrev pub link_rows : Records → List (Option FabricFault)
link_rows records =
    at_least_line fault.TwicePort (link_lines (repeats_port records) records)
    ∷ at_least_line fault.UnknownEnd (link_lines (has_unknown_end records) records)
    ∷ at_least_line fault.Unswitched (link_lines joins_adapters records)
    ∷ at_least_line fault.OneSided (link_lines (is_one_sided records) records)
    ∷ []

abbrev pub lid_rows : Records → List (Option FabricFault)
lid_rows records =
    at_least_line fault.Lmc (claim_lines has_lmc records)
    ∷ at_least_line fault.BadLid (claim_lines is_bad_lid records)
    ∷ at_least_line fault.TwiceLid (claim_lines (repeats_lid records) records)
    ∷ when (nat_lt lid_limit (length (claims records))) fault.TooManyLids
    ∷ []

-- a search answers that there is no fault or the one that there is, want of memory aside
abbrev pub FindsFault : {X : Type 0} → Result X FabricFault → Option FabricFault → Type 0
FindsFault (Ok found) wanted = wanted ≡ None
FindsFault (Err e) wanted = Unless (wants_memory e) (wanted ≡ Some e)
