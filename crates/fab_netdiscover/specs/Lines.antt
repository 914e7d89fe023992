-- What each line of a netdiscover text means.
use Rattle.std.specs.Prelude.{ℕ, ◌+◌, Bool, ◌&&◌, List, [], length, drop, Option, None, Some, option_map, position, unwrap_or, Result, Ok, Err, ◌==◌, slice_index, codes, if◌then◌else◌}
use Rattle.std.specs.Str.{byte}
use Rattle.fab_text.specs.Bytes.{is_blank}
use Rattle.fab_text.specs.Readings.{◌>>=◌}
use Rattle.fab_model.specs.declared.raw.NodeKind.{NodeKind}
use Rattle.fab_model.specs.declared.raw.NodeKind.TheVariants.{Switch, Adapter}
use Rattle.fab_model.specs.declared.raw.RawNode.{RawNode}
use Rattle.fab_model.specs.declared.raw.RawLink.{RawLink}
use Rattle.fab_model.specs.Records.{is_switch}
use Rattle.fab_netdiscover.specs.declared.fault.BadKind.TheVariants as kinds
use Rattle.fab_netdiscover.specs.declared.fault.LineFault.{LineFault}
use Rattle.fab_netdiscover.specs.declared.fault.LineFault.TheVariants.{NamesRouter}
use Rattle.fab_netdiscover.specs.declared.fronts.NameKind.{NameKind}
use Rattle.fab_netdiscover.specs.declared.fronts.NameKind.TheVariants as named
use Rattle.fab_netdiscover.specs.declared.words.Address.{Address}
use Rattle.fab_netdiscover.specs.declared.lines.NodeFront.{NodeFront}
use Rattle.fab_netdiscover.specs.declared.lines.Cabled.{Cabled}
use Rattle.fab_netdiscover.specs.declared.lines.LineKind as code
use Rattle.fab_netdiscover.specs.declared.lines.LineKind.TheVariants as coded
use Rattle.fab_netdiscover.specs.Fronts.{Read, past_blanks, blanks, begins_with, exactly, number_at, guid_at, port_at, name_at, name_of, description_at, address_in, address_behind_mark}

-- A line by what stands at its front, blanks aside; with the bytes that are read on.
pub data LineKind : Type 0 where
  SwitchHead : (rest : List ℕ) → LineKind
  AdapterHead : (rest : List ℕ) → LineKind
  RouterHead : LineKind
  PortLine : (whole : List ℕ) → LineKind
  PassedOver : LineKind

-- the same as the code has it
abbrev pub kind_view : code.LineKind → LineKind
kind_view (coded.SwitchHead rest) = SwitchHead rest.now
kind_view (coded.AdapterHead rest) = AdapterHead rest.now
kind_view coded.RouterHead = RouterHead
kind_view (coded.PortLine whole) = PortLine whole.now
kind_view coded.PassedOver = PassedOver

-- this word, and a blank
abbrev pub begins_with_word : List ℕ → List ℕ → Bool
begins_with_word word bytes = begins_with word bytes && is_blank (slice_index bytes (length word))

abbrev pub kind_at : List ℕ → LineKind
kind_at bytes =
    if begins_with_word (codes "Switch") bytes then SwitchHead (drop 6 bytes)
    else if begins_with_word (codes "Ca") bytes then AdapterHead (drop 2 bytes)
    else if begins_with_word (codes "Rt") bytes then RouterHead
    else if begins_with (codes "[") bytes then PortLine bytes
    else PassedOver

unfoldable pub line_kind : List ℕ → LineKind
line_kind bytes = kind_at (past_blanks bytes)

-- behind the word of a head: the port count and the name of a node of this kind, each behind blanks
abbrev pub node_front : NodeKind → List ℕ → Read NodeFront
node_front kind bytes = do
  count ← blanks kinds.Ports bytes
  ports ← number_at kinds.Ports count
  front ← blanks kinds.Name ports.1
  name ← name_of kind front
  Ok (record { ports = ports.0; guid = name.0.guid }, name.1)

-- behind the word `Switch`: port count, name, description, LID and LMC
unfoldable pub switch_head : ℕ → List ℕ → Result RawNode LineFault
switch_head line bytes = do
  front ← node_front Switch bytes
  desc ← description_at front.1
  address ← address_in desc.1
  Ok (record { line = line; kind = Switch; guid = front.0.guid; ports = front.0.ports; lid = address.lid; lmc = address.lmc; desc = desc.0 })

-- the description, or none
abbrev pub description_or_none : Read (List ℕ) → List ℕ
description_or_none (Ok text) = text.0
description_or_none (Err fault) = []

-- behind the word `Ca`: port count, name, and the description where there is one
unfoldable pub adapter_head : ℕ → List ℕ → Result RawNode LineFault
adapter_head line bytes = do
  front ← node_front Adapter bytes
  Ok (record { line = line; kind = Adapter; guid = front.0.guid; ports = front.0.ports; lid = 0; lmc = 0; desc = description_or_none (description_at front.1) })

-- behind blanks, the bytes after an extended port, where one stands there
abbrev pub past_extended_in : List ℕ → Option (List ℕ)
past_extended_in bytes =
    if begins_with (codes "[ext ") bytes then option_map (λ count. drop (count + 1) bytes) (position (λ one. one == byte "]") bytes) else None

abbrev pub past_extended : List ℕ → List ℕ
past_extended bytes = unwrap_or (past_extended_in (past_blanks bytes)) bytes

-- Behind blanks, the port's GUID in parentheses, and the bytes after it; 0, and nothing taken, where no
-- parenthesis stands there.
abbrev pub in_parentheses : List ℕ → Read ℕ
in_parentheses bytes = do
  inner ← exactly kinds.Port (codes "(") bytes
  guid ← guid_at kinds.Port inner
  rest ← exactly kinds.Port (codes ")") guid.1
  Ok (guid.0, rest)

abbrev pub port_guid_at : List ℕ → Read ℕ
port_guid_at bytes = if begins_with (codes "(") (past_blanks bytes) then in_parentheses (past_blanks bytes) else Ok (0, bytes)

-- an extended port and the port's GUID, each at most once, in either order
unfoldable pub optional_parts : List ℕ → Read ℕ
optional_parts bytes =
    elim (past_extended_in (past_blanks bytes)) [
      | Some rest ↦ port_guid_at rest
      | None ↦ port_guid_at bytes >>= λ guid. Ok (guid.0, past_extended guid.1)
    ]

-- what the far end of a cable is, by its name
abbrev pub far_kind_of : NameKind → Result NodeKind LineFault
far_kind_of named.Switch = Ok Switch
far_kind_of named.Adapter = Ok Adapter
far_kind_of named.Router = Err NamesRouter

-- what a port line says up to the far port, and the bytes after it
unfoldable pub cabled_at : List ℕ → Read Cabled
cabled_at bytes = do
  port ← port_at bytes
  guid ← optional_parts port.1
  front ← blanks kinds.Name guid.1
  name ← name_at front
  kind ← far_kind_of name.0.kind
  far_port ← port_at (past_blanks name.1)
  Ok (record { port = port.0; port_guid = guid.0; far_kind = kind; far_guid = name.0.guid; far_port = far_port.0 }, far_port.1)

abbrev pub link_of : ℕ → ℕ → Cabled → Address → RawLink
link_of line node cabled address = record {
  line = line;
  node = node;
  port = cabled.port;
  far_kind = cabled.far_kind;
  far_guid = cabled.far_guid;
  far_port = cabled.far_port;
  port_guid = cabled.port_guid;
  lid = address.lid;
  lmc = address.lmc;
}

-- a cable from the switch to itself
abbrev pub is_own : ℕ → Cabled → Bool
is_own guid cabled = is_switch cabled.far_kind && cabled.far_guid == guid

-- The link of a port line under a head. Under a switch the rest of the line is passed over, and a cable to
-- the switch itself gives no link. Under an adapter the LID and the LMC stand behind the next `#`.
abbrev pub link_under : NodeKind → ℕ → ℕ → ℕ → Cabled × List ℕ → Result (Option RawLink) LineFault
link_under Switch guid line node read = Ok (if is_own guid read.0 then None else Some (link_of line node read.0 (record { lid = 0; lmc = 0 })))
link_under Adapter guid line node read = address_behind_mark read.1 >>= λ address. Ok (Some (link_of line node read.0 address))

unfoldable pub port_line : RawNode → ℕ → ℕ → List ℕ → Result (Option RawLink) LineFault
port_line head line node bytes = cabled_at bytes >>= link_under head.kind head.guid line node
