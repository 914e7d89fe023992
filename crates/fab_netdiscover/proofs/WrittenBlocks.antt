-- Written nodes with their ports, and the records that they are read as.
use Rattle.std.proofs.Common.{◌≡◌, ◌<◌, ◌≤◌, ◌+◌, ◌-◌, ◌^◌, ℕ, List, [], ◌∷◌, ◌++◌, Option, Some, None, length, refl, sym, subst, ap, ◌∙◌, arith, codes}
use Rattle.std.specs.Prelude.{Ok, Result, decimal, slice_get, filter_map, map}
use Rattle.std.specs.List.{concat, flat_map, cons_option}
use Rattle.std.specs.Str.Lines.{lines}
use Rattle.std.proofs.lemmas.List.{append_assoc, append-nil, length-append}
use Rattle.fab_text.specs.Readings.{◌>>=◌}
use Rattle.fab_model.specs.declared.raw.NodeKind.{NodeKind}
use Rattle.fab_model.specs.declared.raw.NodeKind.TheVariants.{Switch, Adapter}
use Rattle.fab_model.specs.declared.raw.RawNode.{RawNode}
use Rattle.fab_model.specs.declared.raw.RawLink.{RawLink}
use Rattle.fab_model.specs.declared.rows.SwitchRow.{SwitchRow}
use Rattle.fab_model.specs.declared.rows.AdapterRow.{AdapterRow}
use Rattle.fab_model.specs.Description.{HasNoLineFeed}
use Rattle.fab_model.specs.Records.{Records}
use Rattle.fab_model.specs.Written.{Block, laid_links, laid_out}
use Rattle.fab_netdiscover.specs.declared.fault.LineFault.{LineFault}
use Rattle.fab_netdiscover.specs.declared.fault.ReadFault.{ReadFault}
use Rattle.fab_netdiscover.specs.Lines.{SwitchHead, AdapterHead, PortLine, line_kind, port_line}
use Rattle.fab_netdiscover.specs.Reading.{with_node, with_link, under_last, line_read, on_line, lines_read}
use Rattle.fab_netdiscover.specs.Writing.{name_text, in_quotes, address_text, word_of, head_text, switch_head_text, adapter_head_text}
use Rattle.fab_netdiscover.proofs.ReadHeads.{onto, concat-onto, switch_node, adapter_node, switch_rest, adapter_rest, switch_rest_read, adapter_rest_read}
use Rattle.fab_netdiscover.proofs.WrittenLines.{IsLine, line_more, literal, decimal_line, name_feedless, quotes_feedless}
use Rattle.fab_netdiscover.proofs.WrittenPorts.{LinkText, EndsLine, onto_line, onto-append}

-- ---- heads

-- a text that is the line of a head
pub record HeadText (text : List ℕ) (head : RawNode) : Type 0 where
  pub body : List ℕ
  pub is_line : IsLine body
  pub ends : (rest : List ℕ) → text ++ rest ≡ body ++ 10 ∷ rest
  pub read : (line : ℕ) (found : Records) → line_read line found (line_kind body) ≡ Ok (with_node found (record head { line = line }))

abbrev switch_head_body : SwitchRow → List ℕ
switch_head_body row = onto (word_of Switch ∷ decimal row.ports ∷ codes " " ∷ name_text Switch row.guid ∷ codes "\t\t# " ∷ in_quotes row.desc ∷ codes " base port 0 " ∷ []) (address_text row.lid.0)

switch_head_kind : (row : SwitchRow) → line_kind (switch_head_body row) ≡ SwitchHead (switch_rest row)
unfolding line_kind
switch_head_kind row = refl

switch_head_ends : (row : SwitchRow) (rest : List ℕ) → switch_head_text row ++ rest ≡ switch_head_body row ++ 10 ∷ rest
unfolding switch_head_text head_text
switch_head_ends row rest =
    concat-onto (head_text Switch row.ports row.guid row.desc ∷ codes " base port 0 " ∷ address_text row.lid.0 ∷ codes "\n" ∷ []) rest
    ∙ concat-onto (word_of Switch ∷ decimal row.ports ∷ codes " " ∷ name_text Switch row.guid ∷ codes "\t\t# " ∷ in_quotes row.desc ∷ []) (codes " base port 0 " ++ (address_text row.lid.0 ++ (10 ∷ rest)))
    ∙ sym (onto-append (word_of Switch ∷ decimal row.ports ∷ codes " " ∷ name_text Switch row.guid ∷ codes "\t\t# " ∷ in_quotes row.desc ∷ codes " base port 0 " ∷ []) (address_text row.lid.0) (10 ∷ rest))

address_line : (lid : ℕ) → lid < 2 ^ 64 → EndsLine (address_text lid)
unfolding address_text
address_line lid h =
    onto_line (codes "lid " ∷ decimal lid ∷ []) (codes " lmc 0") (literal (codes "lid ") refl, ((decimal_line lid h).no_feed, tt))
    (record { line = record { no_feed = literal (codes " lmc 0") refl; ends = λ same. absurd (omega (arith, same)) }; some = omega arith })

head_given : (line : ℕ) (found : Records) (head : Result RawNode LineFault) (node : RawNode) → head ≡ Ok node → (head >>= λ node. Ok (with_node found node)) ≡ Ok (with_node found node)
head_given line found head node e = ap (λ (head : Result RawNode LineFault). head >>= λ node. Ok (with_node found node)) e

pub record RowFits (ports guid : ℕ) (desc : List ℕ) : Type 0 where
  pub ports_fit : ports < 2 ^ 32
  pub guid_fits : guid < 2 ^ 64
  pub short : length desc ≤ 64
  pub one_line : HasNoLineFeed desc

pub switch_line : (row : SwitchRow) → RowFits row.ports row.guid row.desc → row.lid.0 < 2 ^ 32 → HeadText (switch_head_text row) (switch_node 0 row)
switch_line row fits h = record {
  body = switch_head_body row;
  is_line = (onto_line (word_of Switch ∷ decimal row.ports ∷ codes " " ∷ name_text Switch row.guid ∷ codes "\t\t# " ∷ in_quotes row.desc ∷ codes " base port 0 " ∷ []) (address_text row.lid.0) (
    literal (word_of Switch) refl,
    (
      (decimal_line row.ports (omega (arith, fits.ports_fit))).no_feed,
      (
        literal (codes " ") refl,
        (
          name_feedless Switch row.guid fits.guid_fits,
          (literal (codes "\t\t# ") refl, (quotes_feedless row.desc fits.one_line, (literal (codes " base port 0 ") refl, tt))),
        ),
      ),
    ),
  ) (address_line row.lid.0 (omega (arith, h)))).line;
  ends = switch_head_ends row;
  read = λ line found. ap (line_read line found) (switch_head_kind row) ∙ head_given line found _ (switch_node line row) (switch_rest_read line row fits.ports_fit fits.guid_fits h fits.short);
}

abbrev adapter_head_body : AdapterRow → List ℕ
adapter_head_body row = onto (word_of Adapter ∷ decimal row.ports ∷ codes " " ∷ name_text Adapter row.guid ∷ codes "\t\t# " ∷ []) (in_quotes row.desc ++ [])

adapter_head_kind : (row : AdapterRow) → line_kind (adapter_head_body row) ≡ AdapterHead (adapter_rest row)
unfolding line_kind
adapter_head_kind row = refl

adapter_head_ends : (row : AdapterRow) (rest : List ℕ) → adapter_head_text row ++ rest ≡ adapter_head_body row ++ 10 ∷ rest
unfolding adapter_head_text head_text
adapter_head_ends row rest =
    concat-onto (head_text Adapter row.ports row.guid row.desc ∷ codes "\n" ∷ []) rest
    ∙ concat-onto (word_of Adapter ∷ decimal row.ports ∷ codes " " ∷ name_text Adapter row.guid ∷ codes "\t\t# " ∷ in_quotes row.desc ∷ []) (10 ∷ rest)
    ∙ ap (λ (quoted : List ℕ). onto (word_of Adapter ∷ decimal row.ports ∷ codes " " ∷ name_text Adapter row.guid ∷ codes "\t\t# " ∷ []) (quoted ++ 10 ∷ rest)) (sym (append-nil (in_quotes row.desc)))
    ∙ sym (onto-append (word_of Adapter ∷ decimal row.ports ∷ codes " " ∷ name_text Adapter row.guid ∷ codes "\t\t# " ∷ []) (in_quotes row.desc ++ []) (10 ∷ rest))

quotes_line : (desc : List ℕ) → HasNoLineFeed desc → EndsLine (in_quotes desc ++ [])
unfolding in_quotes
quotes_line desc h =
    let line : EndsLine (in_quotes desc) = onto_line (codes "\"" ∷ desc ∷ []) (codes "\"") (literal (codes "\"") refl, (h, tt))
    (record { line = record { no_feed = literal (codes "\"") refl; ends = λ same. absurd (omega (arith, same)) }; some = omega arith }) in
    subst EndsLine (sym (append-nil (in_quotes desc))) line

pub adapter_head_line : (row : AdapterRow) → RowFits row.ports row.guid row.desc → HeadText (adapter_head_text row) (adapter_node 0 row)
adapter_head_line row fits = record {
  body = adapter_head_body row;
  is_line = (onto_line (word_of Adapter ∷ decimal row.ports ∷ codes " " ∷ name_text Adapter row.guid ∷ codes "\t\t# " ∷ []) (in_quotes row.desc ++ [])
      (literal (word_of Adapter) refl, ((decimal_line row.ports (omega (arith, fits.ports_fit))).no_feed, (literal (codes " ") refl, (name_feedless Adapter row.guid fits.guid_fits, (literal (codes "\t\t# ") refl, tt)))))
      (quotes_line row.desc fits.one_line)).line;
  ends = adapter_head_ends row;
  read = λ line found. ap (line_read line found) (adapter_head_kind row) ∙ head_given line found _ (adapter_node line row) (adapter_rest_read line row fits.ports_fit fits.guid_fits fits.short);
}

-- ---- a line, and the lines behind it

step : (line : ℕ) (found next : Records) (body rest : List ℕ) → IsLine body → line_read line found (line_kind body) ≡ Ok next → lines_read line found (lines (body ++ 10 ∷ rest)) ≡ lines_read (line + 1) next (lines rest)
unfolding lines_read
step line found next body rest l e =
    ap (lines_read line found) (line_more body rest l) ∙ ap (λ (read : Result Records LineFault). on_line line read >>= λ next. lines_read (line + 1) next (lines rest)) e

-- ---- the ports of a node

-- what a port's text is read as
abbrev pub ReadsAs : NodeKind → ℕ → List ℕ → Option RawLink → Type 0
ReadsAs kind guid text None = text ≡ []
ReadsAs kind guid text (Some link) = LinkText kind guid text link

abbrev with_links : Records → List RawLink → Records
with_links found links = record found { links = found.links ++ links }

under : (line : ℕ) (found : Records) (head : RawNode) (body : List ℕ) (link : RawLink) → slice_get found.nodes (length found.nodes - 1) ≡ Some head → line_kind body ≡ PortLine body
    → port_line head line (length found.nodes - 1) body ≡ Ok (Some link) → line_read line found (line_kind body) ≡ Ok (with_links found (link ∷ []))
under line found head body link e k r =
    ap (line_read line found) k ∙ ap (λ (last : Option RawNode). under_last last line found body) e
    ∙ ap (λ (read : Result (Option RawLink) LineFault). read >>= λ link. Ok (with_link found link)) r

-- what the ports read of are read as
abbrev after_ports : ℕ → Records → List RawLink → ℕ → List (List ℕ) → Result Records ReadFault
after_ports line found links node others = lines_read (line + length links) (with_links found (laid_links line node links)) others

no_links : (line : ℕ) (found : Records) (node : ℕ) (others : List (List ℕ)) → lines_read line found others ≡ after_ports line found [] node others
no_links line found node others =
    ap (λ (n : ℕ). lines_read n found others) (omega arith) ∙ ap (λ (links : List RawLink). lines_read (line + 0) (record found { links = links }) others) (sym (append-nil found.links))

one_link : (line : ℕ) (found : Records) (link : RawLink) (links : List RawLink) (node : ℕ) (others : List (List ℕ))
    → after_ports (line + 1) (with_links found (record link { line = line; node = node } ∷ [])) links node others ≡ after_ports line found (link ∷ links) node others
one_link line found link links node others =
    ap (λ (n : ℕ). lines_read n (with_links (with_links found (record link { line = line; node = node } ∷ [])) (laid_links (line + 1) node links)) others) (omega arith)
    ∙ ap (λ (all : List RawLink). lines_read (line + length (link ∷ links)) (record found { links = all }) others) (append_assoc found.links (record link { line = line; node = node } ∷ []) (laid_links (line + 1) node links))

port_read : (kind : NodeKind) (guid : ℕ) (text : List ℕ) (link : Option RawLink) (line : ℕ) (found : Records) (head : RawNode) (behind : List ℕ) (links : List RawLink) (others : List (List ℕ))
    → slice_get found.nodes (length found.nodes - 1) ≡ Some head → head.kind ≡ kind → head.guid ≡ guid → ReadsAs kind guid text link
    → ((line : ℕ) (next : Records) → slice_get next.nodes (length next.nodes - 1) ≡ Some head → lines_read line next (lines behind) ≡ after_ports line next links (length next.nodes - 1) others)
    → lines_read line found (lines (text ++ behind)) ≡ after_ports line found (cons_option link links) (length found.nodes - 1) others
port_read kind guid text None line found head behind links others e k g reads later =
    ap (λ (none : List ℕ). lines_read line found (lines (none ++ behind))) reads ∙ later line found e
port_read kind guid text (Some link) line found head behind links others e k g reads later =
    ap (λ (all : List ℕ). lines_read line found (lines all)) (reads.ends behind)
    ∙ step line found _ reads.body behind reads.is_line (under line found head reads.body _ e reads.kind_is (reads.read head line (length found.nodes - 1) k g))
    ∙ later (line + 1) _ e
    ∙ one_link line found link links (length found.nodes - 1) others

ports_read : (kind : NodeKind) (guid : ℕ) (text : ℕ → List ℕ) (link : ℕ → Option RawLink) (reads : (port : ℕ) → ReadsAs kind guid (text port) (link port)) (ports : List ℕ) (line : ℕ) (found : Records) (head : RawNode) (rest : List ℕ)
    → slice_get found.nodes (length found.nodes - 1) ≡ Some head → head.kind ≡ kind → head.guid ≡ guid
    → lines_read line found (lines (flat_map text ports ++ rest)) ≡ after_ports line found (filter_map link ports) (length found.nodes - 1) (lines rest)
ports_read kind guid text link reads [] line found head rest e k g = no_links line found (length found.nodes - 1) (lines rest)
ports_read kind guid text link reads (port ∷ ports) line found head rest e k g =
    ap (λ (all : List ℕ). lines_read line found (lines all)) (append_assoc (text port) (flat_map text ports) rest)
    ∙ port_read kind guid (text port) (link port) line found head (flat_map text ports ++ rest) (filter_map link ports) (lines rest) e k g (reads port)
    (λ line found e. ports_read kind guid text link reads ports line found head rest e k g)

-- ---- a node with its ports, and an empty line

-- a text that is the lines of a block
pub record BlockText (text : List ℕ) (block : Block) : Type 0 where
  pub head_text : List ℕ
  pub head : HeadText head_text block.head
  pub port_texts : ℕ → List ℕ
  pub port_links : ℕ → Option RawLink
  pub ports : List ℕ
  pub pieces : text ≡ concat (head_text ∷ flat_map port_texts ports ∷ codes "\n" ∷ [])
  pub links : block.links ≡ filter_map port_links ports
  pub reads : (port : ℕ) → ReadsAs block.head.kind block.head.guid (port_texts port) (port_links port)

abbrev with_block : ℕ → Records → Block → Records
with_block line found block = record {
  nodes = found.nodes ++ record block.head { line = line } ∷ [];
  links = found.links ++ laid_links (line + 1) (length found.nodes) block.links;
}

empty_line : IsLine []
empty_line = record { no_feed = literal [] refl; ends = λ same. absurd (omega (arith, same)) }

passed : (line : ℕ) (found : Records) → line_read line found (line_kind []) ≡ Ok found
unfolding line_kind
passed line found = refl

empty_passed : (line : ℕ) (found : Records) (rest : List ℕ) → lines_read line found (lines (10 ∷ rest)) ≡ lines_read (line + 1) found (lines rest)
empty_passed line found rest = step line found found [] rest empty_line (passed line found)

node_behind : (nodes : List RawNode) (node : RawNode) → slice_get (nodes ++ node ∷ []) (length nodes) ≡ Some node
node_behind [] node = refl
node_behind (first ∷ nodes) node = node_behind nodes node

last_node : (nodes : List RawNode) (node : RawNode) → slice_get (nodes ++ node ∷ []) (length (nodes ++ node ∷ []) - 1) ≡ Some node
last_node nodes node = ap (slice_get (nodes ++ node ∷ [])) (omega (arith, length-append nodes (node ∷ []))) ∙ node_behind nodes node

block_read : (text : List ℕ) (block : Block) (line : ℕ) (found : Records) (rest : List ℕ) → BlockText text block
    → lines_read line found (lines (text ++ rest)) ≡ lines_read (line + length block.links + 2) (with_block line found block) (lines rest)
block_read text block line found rest b =
    let node : RawNode = record block.head { line = line } in
    let ports : List ℕ = flat_map b.port_texts b.ports in
    let count : length (with_node found node).nodes - 1 ≡ length found.nodes = omega (arith, length-append found.nodes (node ∷ [])) in
    let laid : after_ports (line + 1) (with_node found node) (filter_map b.port_links b.ports) (length (with_node found node).nodes - 1) (lines (10 ∷ rest))
    ≡ after_ports (line + 1) (with_node found node) block.links (length found.nodes) (lines (10 ∷ rest)) =
    ap (λ (links : List RawLink). after_ports (line + 1) (with_node found node) links (length (with_node found node).nodes - 1) (lines (10 ∷ rest))) (sym b.links)
    ∙ ap (λ (n : ℕ). after_ports (line + 1) (with_node found node) block.links n (lines (10 ∷ rest))) count in
    ap (λ (all : List ℕ). lines_read line found (lines (all ++ rest))) b.pieces
    ∙ ap (λ (all : List ℕ). lines_read line found (lines all)) (concat-onto (b.head_text ∷ ports ∷ codes "\n" ∷ []) rest ∙ b.head.ends (ports ++ (10 ∷ rest)))
    ∙ step line found (with_node found node) b.head.body (ports ++ (10 ∷ rest)) b.head.is_line (b.head.read line found)
    ∙ ports_read block.head.kind block.head.guid b.port_texts b.port_links b.reads b.ports (line + 1) (with_node found node) node (10 ∷ rest) (last_node found.nodes node) refl refl
    ∙ laid
    ∙ empty_passed (line + 1 + length block.links) (with_block line found block) rest
    ∙ ap (λ (n : ℕ). lines_read n (with_block line found block) (lines rest)) (omega arith)

-- ---- all blocks

abbrev joined : Records → Records → Records
joined found more = record { nodes = found.nodes ++ more.nodes; links = found.links ++ more.links }

abbrev pub AllRead : List (List ℕ × Block) → Type 0
AllRead [] = Unit {0}
AllRead (piece ∷ pieces) = BlockText piece.0 piece.1 × AllRead pieces

same_records : (nodes others : List RawNode) (links more : List RawLink) → nodes ≡ others → links ≡ more → (let a : Records = record { nodes = nodes; links = links } in let b : Records = record { nodes = others; links = more } in a ≡ b)
same_records nodes others links more e h = cc

one_block : (line : ℕ) (found : Records) (block : Block) (others : List Block)
    → joined (with_block line found block) (laid_out (line + length block.links + 2) (length (with_block line found block).nodes) others) ≡ joined found (laid_out line (length found.nodes) (block ∷ others))
one_block line found block others =
    let node : RawNode = record block.head { line = line } in
    let count : length (with_block line found block).nodes ≡ length found.nodes + 1 = length-append found.nodes (node ∷ []) in
    let after : Records = laid_out (line + length block.links + 2) (length found.nodes + 1) others in
    ap (λ (n : ℕ). joined (with_block line found block) (laid_out (line + length block.links + 2) n others)) count
    ∙ same_records _ _ _ _ (append_assoc found.nodes (node ∷ []) after.nodes) (append_assoc found.links (laid_links (line + 1) (length found.nodes) block.links) after.links)

nothing_left : (line : ℕ) (found : Records) → lines_read line found [] ≡ Ok (record { nodes = found.nodes ++ []; links = found.links ++ [] })
unfolding lines_read
nothing_left line found = ap (λ (records : Records). Ok records) (same_records found.nodes _ found.links _ (sym (append-nil found.nodes)) (sym (append-nil found.links)))

pub blocks_read : (pieces : List (List ℕ × Block)) (line : ℕ) (found : Records) → AllRead pieces
    → lines_read line found (lines (flat_map (λ piece. piece.0) pieces)) ≡ Ok (joined found (laid_out line (length found.nodes) (map (λ piece. piece.1) pieces)))
blocks_read [] line found h = nothing_left line found
blocks_read (piece ∷ pieces) line found h =
    block_read piece.0 piece.1 line found (flat_map (λ piece. piece.0) pieces) h.0
    ∙ blocks_read pieces (line + length piece.1.links + 2) (with_block line found piece.1) h.1
    ∙ ap (λ (records : Records). Ok records) (one_block line found piece.1 (map (λ piece. piece.1) pieces))
