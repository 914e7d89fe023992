-- No text gives a cable from a switch to itself.
use Rattle.std.proofs.Common.{◌≡◌, ◌≢◌, ◌+◌, ◌-◌, ℕ, zero, suc, Bool, true, false, cond, not, ◌&&◌, ◌||◌, List, [], ◌∷◌, ◌++◌, map, filter, Option, Some, None, length, drop, get_or, refl, sym, subst, ap, ◌∙◌, arith}
use Rattle.std.specs.Prelude.{Result, Ok, Err, IfOk, All, ◌==◌, slice_get, option_map, filter_map}
use Rattle.std.specs.List.{list_any, cons_option}
use Rattle.std.proofs.lemmas.Bool.{and_parts}
use Rattle.std.proofs.lemmas.List.Elements.{All-nil, All-cons, All-head, All-tail, All-push, All-weaker, All-map, All-filter, filter_passes}
use Rattle.std.proofs.lemmas.List.Folds.{list_any_at}
use Rattle.std.proofs.lemmas.Option.{slice_get_within, get_or_from_slice_get}
use Rattle.std.proofs.lemmas.Result.{IfOk-at_ok}
use Rattle.fab_text.specs.Readings.{◌>>=◌}
use Rattle.fab_model.specs.declared.raw.NodeKind.{NodeKind}
use Rattle.fab_model.specs.declared.raw.NodeKind.TheVariants.{Switch, Adapter}
use Rattle.fab_model.specs.declared.raw.RawNode.{RawNode}
use Rattle.fab_model.specs.declared.raw.RawLink.{RawLink}
use Rattle.fab_model.specs.declared.rows.ChannelRow.{ChannelRow}
use Rattle.fab_model.specs.declared.rows.SwitchRow.{SwitchRow}
use Rattle.fab_model.specs.declared.fault.FabricFault.{FabricFault}
use Rattle.fab_model.specs.InOrder.{insert_in_order, in_order}
use Rattle.fab_model.specs.Records.{Records, Stated, stated, is_switch}
use Rattle.fab_model.specs.Topology.{Topology, HasNoOwnCable}
use Rattle.fab_model.specs.Built.{by_guid, switch_rows, switch_number, by_tail, channel_row, channel_rows, topology_of, unless_faulty}
use Rattle.fab_model.specs.Faults.{first_fault}
use Rattle.fab_netdiscover.specs.declared.fault.LineFault.{LineFault}
use Rattle.fab_netdiscover.specs.declared.fault.ReadFault.{ReadFault}
use Rattle.fab_netdiscover.specs.declared.lines.Cabled.{Cabled}
use Rattle.fab_netdiscover.specs.declared.words.Address.{Address}
use Rattle.fab_netdiscover.specs.Fronts.{Read, address_behind_mark}
use Rattle.fab_netdiscover.specs.Lines.{LineKind, SwitchHead, AdapterHead, RouterHead, PortLine, PassedOver, line_kind, switch_head, adapter_head, cabled_at, link_of, link_under, is_own, port_line}
use Rattle.fab_netdiscover.specs.Reading.{no_records, with_node, with_link, under_last, line_read, on_line, lines_read, records_in}
use Rattle.fab_netdiscover.specs.Laws.{MakeNoOwnCable, TextsHaveNoOwnCable}
use Rattle.std.specs.Str.Lines.{lines}
use Rattle.fab_text.specs.Fronts.{line_at}
use Rattle.fab_text.proofs.LinesMet.{no_line_left}

-- ---- what each line adds

-- the link is no cable of a switch to itself
abbrev IsNoOwn : RawNode → RawLink → Type 0
IsNoOwn node link = is_switch node.kind ≡ true → is_switch link.far_kind ≡ true → node.guid ≢ link.far_guid

record StandsUnder (nodes : List RawNode) (link : RawLink) : Type 0 where
  node : RawNode
  found : slice_get nodes link.node ≡ Some node
  no_own : IsNoOwn node link

abbrev HaveNoOwn : Records → Type 0
HaveNoOwn records = All (StandsUnder records.nodes) records.links

slice_get_before : {X : Type 0} (xs ys : List X) (k : ℕ) (x : X) → slice_get xs k ≡ Some x → slice_get (xs ++ ys) k ≡ Some x
slice_get_before [] ys k x e = cc
slice_get_before (y ∷ xs) ys zero x e = e
slice_get_before (y ∷ xs) ys (suc k) x e = slice_get_before xs ys k x e

more_nodes : (found : Records) (node : RawNode) → HaveNoOwn found → HaveNoOwn (with_node found node)
more_nodes found node h = All-weaker (StandsUnder found.nodes) (StandsUnder (found.nodes ++ node ∷ [])) (λ link one. record {
  node = one.node;
  found = slice_get_before found.nodes (node ∷ []) link.node one.node one.found;
  no_own = one.no_own;
}) found.links h

-- what a port line gives under a head
abbrev Fits : RawNode → ℕ → Option RawLink → Type 0
Fits head node None = Unit {0}
Fits head node (Some link) = (link.node ≡ node) × IsNoOwn head link

more_links : (found : Records) (head : RawNode) (node : ℕ) (link : Option RawLink) → slice_get found.nodes node ≡ Some head → HaveNoOwn found → Fits head node link → HaveNoOwn (with_link found link)
more_links found head node None e h k = h
more_links found head node (Some link) e h k = All-push (StandsUnder found.nodes) found.links link h (record {
  node = head;
  found = ap (slice_get found.nodes) k.0 ∙ e;
  no_own = k.1;
})

and_same : (far own : Bool) → (far && own) ≡ false → far ≡ true → own ≡ false
and_same true own e h = e
and_same false own e h = cc

under_switch : (head : RawNode) (line node : ℕ) (cabled : Cabled) (own : Bool) → is_own head.guid cabled ≡ own → Fits head node (cond own None (Some (link_of line node cabled (record { lid = 0; lmc = 0 }))))
under_switch head line node cabled true e = tt
under_switch head line node cabled false e = (
  refl,
  λ _ far same.
      let other : (cabled.far_guid == head.guid) ≡ false = and_same _ _ e far in
      grind (arith, other, same),
)

under_adapter : (head : RawNode) (line node : ℕ) (cabled : Cabled) → is_switch head.kind ≡ false → (address : Result Address LineFault)
    → IfOk {T = Option RawLink} (address >>= λ address. Ok (Some (link_of line node cabled address))) (Fits head node)
under_adapter head line node cabled e (Ok address) = (refl, λ here _ _. cc)
under_adapter head line node cabled e (Err fault) = tt

under_head : (head : RawNode) (line node : ℕ) (read : Cabled × List ℕ) (kind : NodeKind) → head.kind ≡ kind → IfOk (link_under kind head.guid line node read) (Fits head node)
under_head head line node read Switch e = under_switch head line node read.0 _ refl
under_head head line node read Adapter e = under_adapter head line node read.0 (ap is_switch e) (address_behind_mark read.1)

cabled_fits : (head : RawNode) (line node : ℕ) (read : Read Cabled) → IfOk (read >>= link_under head.kind head.guid line node) (Fits head node)
cabled_fits head line node (Ok read) = under_head head line node read head.kind refl
cabled_fits head line node (Err fault) = tt

port_line_fits : (head : RawNode) (line node : ℕ) (bytes : List ℕ) → IfOk (port_line head line node bytes) (Fits head node)
unfolding port_line
port_line_fits head line node bytes = cabled_fits head line node (cabled_at bytes)

with_links : (found : Records) (head : RawNode) (node : ℕ) (link : Result (Option RawLink) LineFault) → slice_get found.nodes node ≡ Some head → HaveNoOwn found → IfOk link (Fits head node)
    → IfOk {T = Records} (link >>= λ link. Ok (with_link found link)) HaveNoOwn
with_links found head node (Ok link) e h k = more_links found head node link e h k
with_links found head node (Err fault) e h k = tt

under_last_adds : (last : Option RawNode) (line : ℕ) (found : Records) (bytes : List ℕ) → slice_get found.nodes (length found.nodes - 1) ≡ last → HaveNoOwn found → IfOk (under_last last line found bytes) HaveNoOwn
under_last_adds None line found bytes e h = tt
under_last_adds (Some head) line found bytes e h = with_links found head (length found.nodes - 1) _ e h (port_line_fits head line (length found.nodes - 1) bytes)

head_adds : (found : Records) (head : Result RawNode LineFault) → HaveNoOwn found → IfOk {T = Records} (head >>= λ node. Ok (with_node found node)) HaveNoOwn
head_adds found (Ok node) h = more_nodes found node h
head_adds found (Err fault) h = tt

line_adds : (line : ℕ) (found : Records) (kind : LineKind) → HaveNoOwn found → IfOk (line_read line found kind) HaveNoOwn
line_adds line found (SwitchHead rest) h = head_adds found (switch_head line rest) h
line_adds line found (AdapterHead rest) h = head_adds found (adapter_head line rest) h
line_adds line found RouterHead h = tt
line_adds line found (PortLine whole) h = under_last_adds _ line found whole refl h
line_adds line found PassedOver h = h

then_adds : (line : ℕ) (first : Result Records LineFault) (next : Records → Result Records ReadFault) → IfOk first HaveNoOwn → ((found : Records) → HaveNoOwn found → IfOk (next found) HaveNoOwn)
    → IfOk (on_line line first >>= next) HaveNoOwn
then_adds line (Ok found) next h k = k found h
then_adds line (Err fault) next h k = tt

lines_add : (line : ℕ) (found : Records) (others : List (List ℕ)) → HaveNoOwn found → IfOk (lines_read line found others) HaveNoOwn
unfolding lines_read
lines_add line found [] h = h
lines_add line found (bytes ∷ others) h =
    then_adds line (line_read line found (line_kind bytes)) (λ next. lines_read (line + 1) next others) (line_adds line found (line_kind bytes) h) (λ next n. lines_add (line + 1) next others n)

texts_have_none : (text : List ℕ) → IfOk (records_in text) HaveNoOwn
unfolding records_in
texts_have_none text = lines_add 1 no_records (lines text) (All-nil _)

-- ---- the channels that the records make

swapped : (a b c : Bool) → (b || (a || c)) ≡ (a || (b || c))
swapped true true c = refl
swapped true false c = refl
swapped false true c = refl
swapped false false c = refl

any-insert : {X : Type 0} (test : X → Bool) (before : X → X → Bool) (x : X) (ys : List X) → list_any test (insert_in_order before x ys) ≡ (test x || list_any test ys)
any-insert test before x [] = refl
any-insert test before x (y ∷ ys) = elim (before y x) as (λ goes. list_any test (cond goes (y ∷ insert_in_order before x ys) (x ∷ y ∷ ys)) ≡ (test x || (test y || list_any test ys))) [
  | true ↦ ap (λ (found : Bool). test y || found) (any-insert test before x ys) ∙ swapped (test x) (test y) (list_any test ys)
  | false ↦ refl
]

any-in_order : {X : Type 0} (test : X → Bool) (before : X → X → Bool) (xs : List X) → list_any test (in_order before xs) ≡ list_any test xs
any-in_order test before [] = refl
any-in_order test before (x ∷ xs) = any-insert test before x (in_order before xs) ∙ ap (λ (found : Bool). test x || found) (any-in_order test before xs)

All-insert : {X : Type 0} (P : X → Type 0) (before : X → X → Bool) (x : X) (ys : List X) → P x → All P ys → All P (insert_in_order before x ys)
All-insert P before x [] h k = All-cons P x [] h k
All-insert P before x (y ∷ ys) h k = elim (before y x) as (λ goes. All P (cond goes (y ∷ insert_in_order before x ys) (x ∷ y ∷ ys))) [
  | true ↦ All-cons P y _ (All-head P y ys k) (All-insert P before x ys h (All-tail P y ys k))
  | false ↦ All-cons P x (y ∷ ys) h k
]

All-in_order : {X : Type 0} (P : X → Type 0) (before : X → X → Bool) (xs : List X) → All P xs → All P (in_order before xs)
All-in_order P before [] h = h
All-in_order P before (x ∷ xs) h = All-insert P before x (in_order before xs) (All-head P x xs h) (All-in_order P before xs (All-tail P x xs h))

any-map : {X Y : Type 0} (test : Y → Bool) (f : X → Y) (xs : List X) → list_any test (map f xs) ≡ list_any (λ x. test (f x)) xs
any-map test f [] = refl
any-map test f (x ∷ xs) = ap (λ (found : Bool). test (f x) || found) (any-map test f xs)

any-filter : {X : Type 0} (test keeps : X → Bool) (xs : List X) → list_any test (filter keeps xs) ≡ list_any (λ x. keeps x && test x) xs
any-filter test keeps [] = refl
any-filter test keeps (x ∷ xs) = elim (keeps x) as (λ kept. list_any test (cond kept (x ∷ filter keeps xs) (filter keeps xs)) ≡ ((kept && test x) || list_any (λ x. keeps x && test x) xs)) [
  | true ↦ ap (λ (found : Bool). test x || found) (any-filter test keeps xs)
  | false ↦ any-filter test keeps xs
]

-- a record beside its node, which is among the nodes
abbrev same_switch : ℕ → RawNode → Bool
same_switch guid node = is_switch node.kind && node.guid == guid

record IsKnown (nodes : List RawNode) (one : Stated) : Type 0 where
  no_own : IsNoOwn one.node one.link
  among : is_switch one.node.kind ≡ true → list_any (same_switch one.node.guid) nodes ≡ true

same_itself : (node : RawNode) → is_switch node.kind ≡ true → same_switch node.guid node ≡ true
same_itself node e = ap (λ (test : Bool). test && node.guid == node.guid) e ∙ grind arith

known : (nodes : List RawNode) (link : RawLink) (one : StandsUnder nodes link) → IsKnown nodes (record { node = one.node; link = link })
known nodes link one = record {
  no_own = one.no_own;
  among = λ e.
      let here : get_or nodes link.node one.node ≡ one.node = get_or_from_slice_get nodes link.node one.node one.node one.found in
      list_any_at (same_switch one.node.guid) nodes link.node one.node (slice_get_within nodes link.node one.node one.found)
      (ap (same_switch one.node.guid) here ∙ same_itself one.node e);
}

abbrev stated_by : Option RawNode → RawLink → List Stated → List Stated
stated_by node link others = cons_option (option_map (λ node. record { node = node; link = link }) node) others

stated_known : (nodes : List RawNode) (links : List RawLink) → All (StandsUnder nodes) links
    → All (IsKnown nodes) (filter_map (λ link. option_map (λ node. record { node = node; link = link }) (slice_get nodes link.node)) links)
stated_known nodes [] h = All-nil (IsKnown nodes)
stated_known nodes (link ∷ links) h =
    let one : StandsUnder nodes link = All-head (StandsUnder nodes) link links h in
    subst (λ (node : Option RawNode). All (IsKnown nodes) (stated_by node link (filter_map (λ link. option_map (λ node. record { node = node; link = link }) (slice_get nodes link.node)) links))) (sym one.found)
    (All-cons (IsKnown nodes) (record { node = one.node; link = link }) _ (known nodes link one) (stated_known nodes links (All-tail (StandsUnder nodes) link links h)))

-- GUIDs of one number are one GUID, where it is there
place_step : (first second others : Bool) (guid other row m n : ℕ) → (row == guid) ≡ first → (row == other) ≡ second → (first || others) ≡ true → (others ≡ true → m ≡ n → guid ≡ other)
    → cond (not first) (1 + m) 0 ≡ cond (not second) (1 + n) 0 → guid ≡ other
place_step true true others guid other row m n a b h later e = grind (arith, a, b)
place_step true false others guid other row m n a b h later e = absurd (omega (arith, e))
place_step false true others guid other row m n a b h later e = absurd (omega (arith, e))
place_step false false others guid other row m n a b h later e = later h (omega (arith, e))

same_guid : (rows : List SwitchRow) (guid other : ℕ) → list_any (λ row. row.guid == guid) rows ≡ true → switch_number rows guid ≡ switch_number rows other → guid ≡ other
same_guid [] guid other h e = cc
same_guid (row ∷ rows) guid other h e =
    place_step (row.guid == guid) (row.guid == other) (list_any (λ row. row.guid == guid) rows) guid other row.guid (switch_number rows guid) (switch_number rows other) refl refl h (same_guid rows guid other) e

-- the node of a switch is among the rows
has_row : (records : Records) (guid : ℕ) → list_any (same_switch guid) records.nodes ≡ true → list_any (λ row. row.guid == guid) (switch_rows records) ≡ true
has_row records guid h =
    any-map (λ row. row.guid == guid) _ (in_order by_guid (filter (λ node. is_switch node.kind) records.nodes))
    ∙ any-in_order (λ node. node.guid == guid) by_guid (filter (λ node. is_switch node.kind) records.nodes)
    ∙ any-filter (λ node. node.guid == guid) (λ node. is_switch node.kind) records.nodes ∙ h

abbrev IsApart : ChannelRow → Type 0
IsApart row = row.tail.0 ≢ row.tip.0

abbrev joins_switches : Stated → Bool
joins_switches one = is_switch one.node.kind && is_switch one.link.far_kind

apart : (records : Records) (one : Stated) → IsKnown records.nodes one → joins_switches one ≡ true → IsApart (channel_row (switch_rows records) one)
apart records one h e same =
    let here : is_switch one.node.kind ≡ true = (and_parts (is_switch one.node.kind) (is_switch one.link.far_kind) e).0 in
    let there : is_switch one.link.far_kind ≡ true = (and_parts (is_switch one.node.kind) (is_switch one.link.far_kind) e).1 in
    h.no_own here there (same_guid (switch_rows records) one.node.guid one.link.far_guid (has_row records one.node.guid (h.among here)) same)

channels_apart : (records : Records) → HaveNoOwn records → All IsApart (channel_rows (switch_rows records) records)
channels_apart records h =
    let rows : List SwitchRow = switch_rows records in
    let all : All (IsKnown records.nodes) (stated records) = stated_known records.nodes records.links h in
    let kept : All (IsKnown records.nodes) (filter joins_switches (stated records)) = All-filter joins_switches (IsKnown records.nodes) (stated records) all in
    let passed : All (λ one. joins_switches one ≡ true) (filter joins_switches (stated records)) = filter_passes joins_switches (stated records) in
    All-in_order IsApart by_tail (map (channel_row rows) (filter joins_switches (stated records)))
    (All-map IsApart (channel_row rows) (filter joins_switches (stated records)) (λ k d within. apart records _ (kept k d within) (passed k d within)))

made : (fault : Option FabricFault) (rows fabric : Topology) → unless_faulty fault rows ≡ Ok fabric → rows ≡ fabric
made None rows fabric e = cc
made (Some fault) rows fabric e = cc

make_none : (records : Records) → HaveNoOwn records → MakeNoOwnCable records
unfolding topology_of
make_none records h fabric e = subst HasNoOwnCable (made (first_fault records) (topology_of records) fabric e) (channels_apart records h)

pub texts_have_no_own_cable : TextsHaveNoOwnCable
texts_have_no_own_cable text records e = make_none records (IfOk-at_ok HaveNoOwn e (texts_have_none text))

-- as the end of the text meets it
pub ended_without : (text : List ℕ) (from line : ℕ) (found : Records) → lines_read line found (lines (drop from text)) ≡ records_in text → line_at text from ≡ None → MakeNoOwnCable found
unfolding lines_read
ended_without text from line found e h = texts_have_no_own_cable text found (sym e ∙ ap (lines_read line found) (no_line_left text from h))
