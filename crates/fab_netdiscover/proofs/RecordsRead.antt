-- The records that a text within the limit gives keep what records keep.
use Rattle.std.proofs.Common.{◌≡◌, codes, ℕ, ◌+◌, ◌-◌, ◌<◌, ◌≤◌, ◌^◌, Bool, true, false, cond, not, ◌&&◌, ◌==◌, nat_lt, List, [], ◌∷◌, ◌++◌, length, map, fold, max, Option, None, Some, refl, ap, ◌∙◌, arith}
use Rattle.std.specs.Prelude.{Result, Ok, Err, IfOk, IfSome, All, slice_get}
use Rattle.std.specs.List.{slice_split}
use Rattle.std.specs.Str.Lines.{lines, lines_of_parts}
use Rattle.std.proofs.lemmas.Bool.{ltb-true}
use Rattle.std.proofs.lemmas.List.{map_push}
use Rattle.std.proofs.lemmas.List.Elements.{All-nil, All-head, All-tail}
use Rattle.std.proofs.lemmas.List.Splits.{length-slice_split}
use Rattle.std.proofs.lemmas.List.Sums.{fold_push, count_by-le-length}
use Rattle.std.proofs.lemmas.Result.{IfOk-at_ok}
use Rattle.fab_text.specs.Bytes.{is_line_feed}
use Rattle.fab_text.specs.Readings.{◌>>=◌}
use Rattle.fab_text.proofs.Numbers.{hex_fits}
use Rattle.fab_model.specs.declared.raw.NodeKind.{NodeKind}
use Rattle.fab_model.specs.declared.raw.NodeKind.TheVariants.{Switch, Adapter}
use Rattle.fab_model.specs.declared.raw.RawNode.{RawNode}
use Rattle.fab_model.specs.declared.raw.RawLink.{RawLink}
use Rattle.fab_model.specs.Description.{HasNoLineFeed, IsDescription}
use Rattle.fab_model.specs.Records.{Records, AreRecords, last_line}
use Rattle.fab_model.proofs.Pushed.{are_records_push_node, are_records_push_link}
use Rattle.fab_netdiscover.specs.declared.fault.LineFault.{LineFault}
use Rattle.fab_netdiscover.specs.declared.fault.ReadFault.{ReadFault}
use Rattle.fab_netdiscover.specs.declared.fault.BadKind.{BadKind}
use Rattle.fab_netdiscover.specs.declared.fronts.Name.{Name}
use Rattle.fab_netdiscover.specs.declared.lines.NodeFront.{NodeFront}
use Rattle.fab_netdiscover.specs.declared.lines.Cabled.{Cabled}
use Rattle.fab_netdiscover.specs.declared.words.Address.{Address}
use Rattle.fab_netdiscover.specs.Fronts.{Read, begins_with, past_blanks, guid_at, name_at, name_of, description_at, address_in, address_behind_mark}
use Rattle.fab_netdiscover.specs.Lines.{LineKind, SwitchHead, AdapterHead, RouterHead, PortLine, PassedOver, line_kind, node_front, switch_head, adapter_head, in_parentheses, port_guid_at, past_extended, past_extended_in, optional_parts, cabled_at, link_of, link_under, is_own, port_line}
use Rattle.fab_netdiscover.specs.Reading.{no_records, with_node, with_link, under_last, line_read, on_line, lines_read, records_in}
use Rattle.fab_netdiscover.proofs.OneLine.{front_is_line, description_is, description_or_none_is, switch_rest_is_line, adapter_rest_is_line, all_are_lines}

-- ---- one reading after the other

after : {A B E : Type 0} (P : A → Type 0) (Q : B → Type 0) (first : Result A E) (next : A → Result B E) → IfOk first P → ((x : A) → P x → IfOk (next x) Q) → IfOk (first >>= next) Q
after P Q (Ok x) next h k = k x h
after P Q (Err e) next h k = tt

after_any : {A B E : Type 0} (Q : B → Type 0) (first : Result A E) (next : A → Result B E) → ((x : A) → IfOk (next x) Q) → IfOk (first >>= next) Q
after_any Q (Ok x) next k = k x
after_any Q (Err e) next k = tt

when : {A E : Type 0} (P : A → Type 0) (test : Bool) (x : A) (e : E) → (test ≡ true → P x) → IfOk (cond test (Ok x) (Err e)) P
when P true x e h = h refl
when P false x e h = tt

-- what is read, by what it is
told : {A E : Type 0} (P : A → Type 0) (read : Result A E) → ((x : A) → read ≡ Ok x → P x) → IfOk read P
told P (Ok x) h = h x refl
told P (Err e) h = tt

both : {A E : Type 0} (P Q : A → Type 0) (read : Result A E) → IfOk read P → IfOk read Q → IfOk read (λ x. P x × Q x)
both P Q (Ok x) h k = (h, k)
both P Q (Err e) h k = tt

-- ---- GUIDs

abbrev IsGuid : ℕ → Type 0
IsGuid guid = guid < 2 ^ 64

abbrev GuidRead : ℕ × List ℕ → Type 0
GuidRead read = IsGuid read.0

after_guid : {B : Type 0} (Q : B → Type 0) (first : Read ℕ) (next : ℕ × List ℕ → Result B LineFault) → IfOk first GuidRead → ((read : ℕ × List ℕ) → IsGuid read.0 → IfOk (next read) Q) → IfOk (first >>= next) Q
after_guid Q first next h k = after GuidRead Q first next h k

few : (n : ℕ) → (not (n == 0) && nat_lt n 17) ≡ true → n ≤ 16
few n e = grind (arith, e)

guid_fits : (kind : BadKind) (bytes : List ℕ) → IfOk (guid_at kind bytes) GuidRead
unfolding guid_at
guid_fits kind bytes = when GuidRead _ _ _ (λ e. ltb-true _ _ (hex_fits bytes (few _ e)))

abbrev NameRead : Name × List ℕ → Type 0
NameRead read = IsGuid read.0.guid

after_name : {B : Type 0} (Q : B → Type 0) (first : Read Name) (next : Name × List ℕ → Result B LineFault) → IfOk first NameRead → ((read : Name × List ℕ) → IsGuid read.0.guid → IfOk (next read) Q) → IfOk (first >>= next) Q
after_name Q first next h k = after NameRead Q first next h k

name_fits : (bytes : List ℕ) → IfOk (name_at bytes) NameRead
unfolding name_at
name_fits bytes = search (after_guid, after_any, guid_fits)

name_of_fits : (kind : NodeKind) (bytes : List ℕ) → IfOk (name_of kind bytes) NameRead
unfolding name_of
name_of_fits kind bytes = search (after_name, name_fits, when)

-- ---- heads

abbrev FrontRead : NodeFront × List ℕ → Type 0
FrontRead read = IsGuid read.0.guid

abbrev RestIsLine : NodeFront × List ℕ → Type 0
RestIsLine read = HasNoLineFeed read.1

abbrev FrontFits : NodeFront × List ℕ → Type 0
FrontFits read = FrontRead read × RestIsLine read

front_guid : (kind : NodeKind) (bytes : List ℕ) → IfOk (node_front kind bytes) FrontRead
front_guid kind bytes = search (after_name, after_any, name_of_fits)

front_fits : (kind : NodeKind) (bytes : List ℕ) → HasNoLineFeed bytes → IfOk (node_front kind bytes) FrontFits
front_fits kind bytes h = both FrontRead RestIsLine _ (front_guid kind bytes) (told RestIsLine (node_front kind bytes) (λ read e. front_is_line kind bytes h e))

record NodeFits (line : ℕ) (node : RawNode) : Type 0 where
  stands : node.line ≡ line
  guid : IsGuid node.guid
  desc : IsDescription node.desc

abbrev DescriptionRead : List ℕ × List ℕ → Type 0
DescriptionRead read = IsDescription read.0

description_fits : (bytes : List ℕ) → HasNoLineFeed bytes → IfOk (description_at bytes) DescriptionRead
description_fits bytes h = told DescriptionRead (description_at bytes) (λ read e. description_is bytes h e)

switch_fits : (line : ℕ) (bytes : List ℕ) → HasNoLineFeed bytes → IfOk (switch_head line bytes) (NodeFits line)
unfolding switch_head
switch_fits line bytes h =
    after FrontFits (NodeFits line) (node_front Switch bytes) _ (front_fits Switch bytes h)
    (λ front f. after DescriptionRead (NodeFits line) (description_at front.1) _ (description_fits front.1 f.1)
    (λ desc d. after_any (NodeFits line) (address_in desc.1) _ (λ address. record { stands = refl; guid = f.0; desc = d })))

adapter_fits : (line : ℕ) (bytes : List ℕ) → HasNoLineFeed bytes → IfOk (adapter_head line bytes) (NodeFits line)
unfolding adapter_head
adapter_fits line bytes h =
    after FrontFits (NodeFits line) (node_front Adapter bytes) _ (front_fits Adapter bytes h)
    (λ front f. record { stands = refl; guid = f.0; desc = description_or_none_is front.1 f.1 })

-- ---- port lines

parentheses_fit : (bytes : List ℕ) → IfOk (in_parentheses bytes) GuidRead
parentheses_fit bytes = search (after_guid, after_any, guid_fits)

parentheses_if : (test : Bool) (bytes behind : List ℕ) → IfOk (cond test (in_parentheses behind) (Ok (0, bytes))) GuidRead
parentheses_if true bytes behind = parentheses_fit behind
parentheses_if false bytes behind = omega arith

port_guid_fits : (bytes : List ℕ) → IfOk (port_guid_at bytes) GuidRead
port_guid_fits bytes = parentheses_if (begins_with (codes "(") (past_blanks bytes)) bytes (past_blanks bytes)

parts_by : (bytes : List ℕ) (extended : Option (List ℕ)) → IfOk (elim extended [ Some rest ↦ port_guid_at rest | None ↦ port_guid_at bytes >>= λ guid. Ok (guid.0, past_extended guid.1) ]) GuidRead
parts_by bytes None = after GuidRead GuidRead _ _ (port_guid_fits bytes) (λ guid h. h)
parts_by bytes (Some rest) = port_guid_fits rest

parts_fit : (bytes : List ℕ) → IfOk (optional_parts bytes) GuidRead
unfolding optional_parts
parts_fit bytes = parts_by bytes (past_extended_in (past_blanks bytes))

abbrev CabledRead : Cabled × List ℕ → Type 0
CabledRead read = IsGuid read.0.port_guid × IsGuid read.0.far_guid

cabled_fits : (bytes : List ℕ) → IfOk (cabled_at bytes) CabledRead
unfolding cabled_at
cabled_fits bytes = search (after_guid, after_name, after_any, parts_fit, name_fits) depth 8

record LinkFits (line node : ℕ) (link : RawLink) : Type 0 where
  stands : link.line ≡ line
  under : link.node ≡ node
  port_guid : IsGuid link.port_guid
  far_guid : IsGuid link.far_guid

abbrev LinkRead : ℕ → ℕ → Option RawLink → Type 0
LinkRead line node link = IfSome link (LinkFits line node)

link_fits : (line node : ℕ) (cabled : Cabled) (address : Address) → IsGuid cabled.port_guid × IsGuid cabled.far_guid → LinkFits line node (link_of line node cabled address)
link_fits line node cabled address h = record { stands = refl; under = refl; port_guid = h.0; far_guid = h.1 }

under_switch : (line node : ℕ) (own : Bool) (link : RawLink) → LinkFits line node link → LinkRead line node (cond own None (Some link))
under_switch line node true link h = tt
under_switch line node false link h = h

under_fits : (kind : NodeKind) (guid line node : ℕ) (read : Cabled × List ℕ) → CabledRead read → IfOk (link_under kind guid line node read) (LinkRead line node)
under_fits Switch guid line node read h = under_switch line node (is_own guid read.0) _ (link_fits line node read.0 (record { lid = 0; lmc = 0 }) h)
under_fits Adapter guid line node read h = after_any (LinkRead line node) (address_behind_mark read.1) _ (λ address. link_fits line node read.0 address h)

port_line_fits : (head : RawNode) (line node : ℕ) (bytes : List ℕ) → IfOk (port_line head line node bytes) (LinkRead line node)
unfolding port_line
port_line_fits head line node bytes = after CabledRead (LinkRead line node) _ _ (cabled_fits bytes) (λ read h. under_fits head.kind head.guid line node read h)

-- ---- records with one more

record AreUpTo (line : ℕ) (records : Records) : Type 0 where
  are : AreRecords records
  last : last_line records ≤ line

greatest_push : {X : Type 0} (f : X → ℕ) (xs : List X) (x : X) → fold max 0 (map f (xs ++ x ∷ [])) ≡ max (fold max 0 (map f xs)) (f x)
greatest_push f xs x = ap (fold max 0) (map_push f xs x) ∙ fold_push max 0 (map f xs) (f x)

more_nodes : (line : ℕ) (found : Records) (node : RawNode) → AreRecords found → last_line found < line → line < 2 ^ 32 → NodeFits line node → AreUpTo line (with_node found node)
more_nodes line found node are below within fits = record {
  are = are_records_push_node found node are (omega (arith, below, fits.stands)) (omega (arith, within, fits.stands)) fits.guid fits.desc;
  last = omega (arith, greatest_push (λ (node : RawNode). node.line) found.nodes node, below, fits.stands);
}

more_links : (line : ℕ) (found : Records) (node : ℕ) (link : Option RawLink) → AreRecords found → last_line found < line → line < 2 ^ 32 → node < length found.nodes → LinkRead line node link → AreUpTo line (with_link found link)
more_links line found node None are below within under fits = record { are = are; last = omega (arith, below) }
more_links line found node (Some link) are below within under fits = record {
  are = are_records_push_link found link are (omega (arith, below, fits.stands)) (omega (arith, under, fits.under)) (omega (arith, within, fits.stands)) fits.far_guid fits.port_guid;
  last = omega (arith, greatest_push (λ (link : RawLink). link.line) found.links link, below, fits.stands);
}

-- ---- lines

some_node : (nodes : List RawNode) (head : RawNode) → slice_get nodes (length nodes - 1) ≡ Some head → length nodes - 1 < length nodes
some_node [] head e = cc
some_node (node ∷ nodes) head e = omega arith

under_last_gives : (last : Option RawNode) (line : ℕ) (found : Records) (bytes : List ℕ) → slice_get found.nodes (length found.nodes - 1) ≡ last → AreRecords found → last_line found < line → line < 2 ^ 32 →
    IfOk (under_last last line found bytes) (AreUpTo line)
under_last_gives None line found bytes e are below within = tt
under_last_gives (Some head) line found bytes e are below within =
    after (LinkRead line (length found.nodes - 1)) (AreUpTo line) _ _ (port_line_fits head line (length found.nodes - 1) bytes)
    (λ link h. more_links line found (length found.nodes - 1) link are below within (some_node found.nodes head e) h)

line_gives : (line : ℕ) (found : Records) (bytes : List ℕ) (kind : LineKind) → kind ≡ line_kind bytes → HasNoLineFeed bytes → AreRecords found → last_line found < line → line < 2 ^ 32 →
    IfOk (line_read line found kind) (AreUpTo line)
line_gives line found bytes (SwitchHead rest) is h are below within =
    after (NodeFits line) (AreUpTo line) _ _ (switch_fits line rest (switch_rest_is_line bytes h is)) (λ node fits. more_nodes line found node are below within fits)
line_gives line found bytes (AdapterHead rest) is h are below within =
    after (NodeFits line) (AreUpTo line) _ _ (adapter_fits line rest (adapter_rest_is_line bytes h is)) (λ node fits. more_nodes line found node are below within fits)
line_gives line found bytes RouterHead is h are below within = tt
line_gives line found bytes (PortLine whole) is h are below within = under_last_gives _ line found whole refl are below within
line_gives line found bytes PassedOver is h are below within = record { are = are; last = omega (arith, below) }

on_line_gives : (line : ℕ) (first : Result Records LineFault) (next : Records → Result Records ReadFault) → IfOk first (AreUpTo line) → ((found : Records) → AreUpTo line found → IfOk (next found) AreRecords) →
    IfOk (on_line line first >>= next) AreRecords
on_line_gives line (Ok found) next h k = k found h
on_line_gives line (Err fault) next h k = tt

lines_give : (line : ℕ) (found : Records) (others : List (List ℕ)) → All HasNoLineFeed others → line + length others ≤ 2 ^ 32 → AreRecords found → last_line found < line →
    IfOk (lines_read line found others) AreRecords
unfolding lines_read
lines_give line found [] h within are below = are
lines_give line found (bytes ∷ others) h within are below =
    on_line_gives line _ _ (line_gives line found bytes (line_kind bytes) refl (All-head HasNoLineFeed bytes others h) are below (omega (arith, within)))
    (λ next n. lines_give (line + 1) next others (All-tail HasNoLineFeed bytes others h) (omega (arith, within)) n.are (omega (arith, n.last)))

-- ---- a text

-- it has no more lines than bytes and one
last_count : (test : Bool) (part : List ℕ) → length (cond test [] (part ∷ [])) ≤ 1
last_count true part = omega arith
last_count false part = omega arith

part_count : (parts : List (List ℕ)) → length (lines_of_parts parts) ≤ length parts
part_count [] = omega arith
part_count (part ∷ []) = last_count (length part == 0) part
part_count (part ∷ next ∷ parts) = omega (arith, part_count (next ∷ parts))

line_count : (text : List ℕ) → length (lines text) ≤ length text + 1
line_count text = omega (arith, part_count (slice_split is_line_feed text), length-slice_split is_line_feed text, count_by-le-length is_line_feed text)

no_records_are : AreRecords no_records
no_records_are = record {
  lines = All-nil _;
  nodes_rise = λ i j d before within. absurd (omega (arith, within));
  links_rise = λ i j d before within. absurd (omega (arith, within));
  under = All-nil _;
  below = All-nil _;
  lines_differ = All-nil _;
  within = omega arith;
  node_count = omega arith;
  link_count = omega arith;
  node_guids = All-nil _;
  far_guids = All-nil _;
  port_guids = All-nil _;
  descriptions = All-nil _;
}

text_gives : (text : List ℕ) → length text ≤ 67108864 → IfOk (records_in text) AreRecords
unfolding records_in
text_gives text short =
    lines_give 1 no_records (lines text) (all_are_lines text) (omega (arith, line_count text, short)) no_records_are (omega arith)

pub are_records : (text : List ℕ) (records : Records) → length text ≤ 67108864 → records_in text ≡ Ok records → AreRecords records
are_records text records short e = IfOk-at_ok AreRecords e (text_gives text short)
