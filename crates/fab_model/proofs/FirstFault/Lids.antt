-- The first lines of the LIDs in use.
use Rattle.std.proofs.Common.{◌≡◌, ℕ, ◌+◌, ◌<◌, Bool, true, false, cond, List, [], ◌∷◌, ◌++◌, length, map, take, get_or, Option, Some, None, refl, sym, ap, ◌∙◌, arith, length-append}
use Rattle.std.specs.Prelude.{◌&&◌, ◌||◌, ◌==◌, filter, count_by, nat_lt}
use Rattle.std.specs.List.{list_any}
use Rattle.std.proofs.lemmas.List.{take_more, length-map}
use Rattle.std.proofs.lemmas.List.Elements.{filter-append}
use Rattle.std.proofs.lemmas.List.Sums.{length-filter}
use Rattle.std.proofs.lemmas.Bool.Decides.{nat_tests}
use Rattle.fab_model.specs.declared.raw.RawNode.{RawNode}
use Rattle.fab_model.specs.declared.raw.RawLink.{RawLink}
use Rattle.fab_model.specs.Records.{Records, Stated, stated, is_switch, is_adapter}
use Rattle.fab_model.specs.Faults.{Claim, least, claims, claim_lines, repeats_lid}
use Rattle.fab_model.specs.FirstFault.{lesser, is_later}
use Rattle.fab_model.proofs.FirstFault.Lines.{claims_of_node, claims_of_link, least_append, least_push, lesser-assoc}
use Rattle.fab_model.proofs.FirstFault.Stated.{no_link, stated_more, or-false}

-- the least lines of the switches and of the links under adapters that state a LID
abbrev pub of_switches : ℕ → List RawNode → Option ℕ
of_switches lid nodes = least (map (λ node. node.line) (filter (claims_of_node (λ claim. claim.lid == lid)) nodes))

abbrev pub of_ports : ℕ → List RawNode → List RawLink → Option ℕ
of_ports lid nodes links = least (map (λ one. one.link.line) (filter (claims_of_link (λ claim. claim.lid == lid)) (stated (record { nodes = nodes; links = links }))))

-- one more node, which is or is not a switch
pub of_switches_more : (lid : ℕ) (nodes : List RawNode) (i : ℕ) (node : RawNode) (counts : Bool) → i < length nodes → node ≡ get_or nodes i node → is_switch node.kind ≡ counts → of_switches lid (take (i + 1) nodes) ≡ lesser (of_switches lid (take i nodes)) (cond (counts && node.lid == lid) (Some node.line) None)
of_switches_more lid nodes i node counts within is kind =
    let of : List RawNode → Option ℕ = of_switches lid in
    ap of (take_more nodes i node within)
    ∙ ap (λ one. of (take i nodes ++ one ∷ [])) (sym is)
    ∙ least_push (λ one. one.line) (claims_of_node (λ claim. claim.lid == lid)) (take i nodes) node
    ∙ ap (λ b. lesser (of (take i nodes)) (cond (b && node.lid == lid) (Some node.line) None)) kind

-- one more link, under an adapter or not
pub of_ports_more : (lid : ℕ) (nodes : List RawNode) (links : List RawLink) (i : ℕ) (node : RawNode) (counts : Bool) → i < length links →
    let link = get_or links i no_link in
    link.node < length nodes → node ≡ get_or nodes link.node node → is_adapter node.kind ≡ counts → (first : Option ℕ) →
    lesser first (of_ports lid nodes (take (i + 1) links)) ≡ lesser (lesser first (of_ports lid nodes (take i links))) (cond (counts && link.lid == lid) (Some link.line) None)
of_ports_more lid nodes links i node counts within under is kind first =
    let link = get_or links i no_link in
    let test = claims_of_link (λ claim. claim.lid == lid) in
    let front = of_ports lid nodes (take i links) in
    let more : of_ports lid nodes (take (i + 1) links) ≡ lesser front (cond (counts && link.lid == lid) (Some link.line) None) =
    ap (λ all. least (map (λ one. one.link.line) (filter test all))) (stated_more nodes links i node within under is)
    ∙ least_push (λ one. one.link.line) test (stated (record { nodes = nodes; links = take i links })) (record { node = node; link = link })
    ∙ ap (λ b. lesser front (cond (b && link.lid == lid) (Some link.line) None)) kind in
    ap (lesser first) more ∙ sym (lesser-assoc first front (cond (counts && link.lid == lid) (Some link.line) None))

later-lesser : (n line : ℕ) (rest : Option ℕ) → is_later (lesser (Some n) rest) line ≡ (nat_lt n line || is_later rest line)
later-lesser n line None = sym (or-false (nat_lt n line))
later-lesser n line (Some m) = grind (arith, nat_tests)

and-true : (b : Bool) → (b && true) ≡ b
and-true true = refl
and-true false = refl

and-false : (b : Bool) → (b && false) ≡ false
and-false true = refl
and-false false = refl

-- some claim on a line below has the LID where the least line with it is below
any-below : (lid line : ℕ) (all : List Claim) → list_any (λ other. nat_lt other.line line && other.lid == lid) all ≡ is_later (least (map (λ claim. claim.line) (filter (λ claim. claim.lid == lid) all))) line
any-below lid line [] = refl
any-below lid line (claim ∷ all) =
    let rest = any-below lid line all in
    let kept = filter (λ other. other.lid == lid) all in
    let lines = map (λ other. other.line) kept in
    elim (claim.lid == lid) as (λ b. ((nat_lt claim.line line && b) || list_any (λ other. nat_lt other.line line && other.lid == lid) all) ≡ is_later (least (map (λ other. other.line) (cond b (claim ∷ kept) kept))) line) [
      | true ↦
          ap (λ b. b || list_any (λ other. nat_lt other.line line && other.lid == lid) all) (and-true (nat_lt claim.line line))
          ∙ ap (λ b. nat_lt claim.line line || b) rest
          ∙ sym (later-lesser claim.line line (least lines))
          ∙ ap (λ first. is_later first line) (sym (least_append (claim.line ∷ []) lines))
      | false ↦ ap (λ b. b || list_any (λ other. nat_lt other.line line && other.lid == lid) all) (and-false (nat_lt claim.line line)) ∙ rest
    ]

pub repeats_where_later : (records : Records) (claim : Claim) → repeats_lid records claim ≡ is_later (least (claim_lines (λ other. other.lid == claim.lid) records)) claim.line
repeats_where_later records claim = any-below claim.lid claim.line (claims records)

-- how many links stand under adapters
abbrev pub port_count : List RawNode → List RawLink → ℕ
port_count nodes links = length (filter (λ one. is_adapter one.node.kind) (stated (record { nodes = nodes; links = links })))

pub port_count_more : (nodes : List RawNode) (links : List RawLink) (i : ℕ) (node : RawNode) (counts : Bool) → i < length links →
    let link = get_or links i no_link in
    link.node < length nodes → node ≡ get_or nodes link.node node → is_adapter node.kind ≡ counts →
    port_count nodes (take (i + 1) links) ≡ port_count nodes (take i links) + cond counts 1 0
port_count_more nodes links i node counts within under is kind =
    let one : Stated = record { node = node; link = get_or links i no_link } in
    let test : Stated → Bool = λ other. is_adapter other.node.kind in
    let front = stated (record { nodes = nodes; links = take i links }) in
    ap (λ all. length (filter test all)) (stated_more nodes links i node within under is)
    ∙ ap length (filter-append test front (one ∷ []))
    ∙ length-append (filter test front) (filter test (one ∷ []))
    ∙ ap (λ n. length (filter test front) + n) (elim counts as (λ b. is_adapter node.kind ≡ b → length (filter test (one ∷ [])) ≡ cond b 1 0) [ true ↦ λ e. ap (λ b. length (cond b (one ∷ []) [])) e | false ↦ λ e. ap (λ b. length (cond b (one ∷ []) [])) e ] kind)

pub claims_count : (records : Records) → length (claims records) ≡ count_by (λ node. is_switch node.kind) records.nodes + port_count records.nodes records.links
claims_count records = grind (arith, length-append, length-map, length-filter)
