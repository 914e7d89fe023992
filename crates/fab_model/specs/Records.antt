-- The raw records of a subnet: its nodes, and the links that stand under them.
use Rattle.std.specs.Prelude.{◌≢◌, ℕ, ◌<◌, ◌^◌, Bool, true, false, not, List, length, map, filter_map, option_map, slice_get, max, fold, All, AllPairs}
use Rattle.fab_model.specs.declared.raw.NodeKind.{NodeKind}
use Rattle.fab_model.specs.declared.raw.NodeKind.TheVariants.{Switch, Adapter}
use Rattle.fab_model.specs.declared.raw.RawNode.{RawNode}
use Rattle.fab_model.specs.declared.raw.RawLink.{RawLink}
use Rattle.fab_model.specs.Description.{IsDescription}

-- both lists in file order
pub record Records : Type 0 where
  pub nodes : List RawNode
  pub links : List RawLink

abbrev pub is_switch : NodeKind → Bool
is_switch Switch = true
is_switch Adapter = false

abbrev pub is_adapter : NodeKind → Bool
is_adapter kind = not (is_switch kind)

abbrev pub same_kind : NodeKind → NodeKind → Bool
same_kind Switch kind = is_switch kind
same_kind Adapter kind = is_adapter kind

-- a link with the node under whose head it stands
pub record Stated : Type 0 where
  pub node : RawNode
  pub link : RawLink

abbrev pub stated : Records → List Stated
stated records = filter_map (λ link. option_map (λ node. record { node = node; link = link }) (slice_get records.nodes link.node)) records.links

-- the line of the last record, or 0
abbrev pub last_line : Records → ℕ
last_line records = max (fold max 0 (map (λ node. node.line) records.nodes)) (fold max 0 (map (λ link. link.line) records.links))

-- What the records of a text keep: lines rise, each link stands under a node and below its line, and the
-- fields are in the ranges of their types.
pub record AreRecords (records : Records) : Type 0 where
  pub lines : All (λ node. 0 < node.line) records.nodes
  pub nodes_rise : AllPairs (λ first second. first.line < second.line) records.nodes
  pub links_rise : AllPairs (λ first second. first.line < second.line) records.links
  pub under : All (λ link. link.node < length records.nodes) records.links
  pub below : All (λ one. one.node.line < one.link.line) (stated records)
  -- no line states both a node and a link
  pub lines_differ : All (λ node. All (λ link. node.line ≢ link.line) records.links) records.nodes
  pub within : last_line records < 2 ^ 32
  pub node_count : length records.nodes < 2 ^ 32
  pub link_count : length records.links < 2 ^ 32
  pub node_guids : All (λ node. node.guid < 2 ^ 64) records.nodes
  pub far_guids : All (λ link. link.far_guid < 2 ^ 64) records.links
  pub port_guids : All (λ link. link.port_guid < 2 ^ 64) records.links
  pub descriptions : All (λ node. IsDescription node.desc) records.nodes
