-- The lines of raw records: they rise, so the least line at which a test passes is that of the first record.
use Rattle.std.proofs.Common.{◌≡◌, ℕ, suc, ◌<◌, ◌++◌, min, Bool, true, false, cond, List, [], ◌∷◌, map, Option, Some, None, fold, refl, ap, ◌∙◌, arith, append-nil}
use Rattle.std.specs.Prelude.{◌&&◌, All, AllPairs, find, filter, option_map, slice_get}
use Rattle.std.specs.List.{AllByRecursion, cons_option}
use Rattle.std.proofs.lemmas.List.Sums.{fold-append}
use Rattle.std.proofs.lemmas.List.{map-append}
use Rattle.std.proofs.lemmas.List.Elements.{recursion_from_All, filter-append}
use Rattle.fab_model.specs.declared.raw.RawNode.{RawNode}
use Rattle.fab_model.specs.declared.raw.RawLink.{RawLink}
use Rattle.fab_model.specs.Records.{Records, AreRecords, Stated, stated, is_switch, is_adapter}
use Rattle.fab_model.specs.Faults.{Claim, least, node_lines, link_lines, claim_lines}
use Rattle.fab_model.specs.FirstFault.{lesser}

-- the numbers of the elements rise
abbrev pub Rises : {X : Type 0} → (X → ℕ) → List X → Type 0
Rises number [] = Unit {0}
Rises number (x ∷ xs) = AllByRecursion (λ y. number x < number y) xs × Rises number xs

fold-min-kept : {X : Type 0} (number : X → ℕ) (test : X → Bool) (n : ℕ) (xs : List X) → AllByRecursion (λ y. n < number y) xs → fold min n (map number (filter test xs)) ≡ n
fold-min-kept number test n [] above = refl
fold-min-kept number test n (x ∷ xs) above =
    let kept = fold-min-kept number test n xs above.1 in
    let same : min n (number x) ≡ n = omega (arith, above.0) in
    elim (test x) as (λ passes. fold min n (map number (cond passes (x ∷ filter test xs) (filter test xs))) ≡ n) [
      | true ↦ ap (λ m. fold min m (map number (filter test xs))) same ∙ kept
      | false ↦ kept
    ]

least-found : {X : Type 0} (number : X → ℕ) (test : X → Bool) (xs : List X) → Rises number xs → least (map number (filter test xs)) ≡ option_map number (find test xs)
least-found number test [] rises = refl
least-found number test (x ∷ xs) rises =
    elim (test x) as (λ passes. least (map number (cond passes (x ∷ filter test xs) (filter test xs))) ≡ option_map number (cond passes (Some x) (find test xs))) [
      | true ↦ ap Some (fold-min-kept number test (number x) xs rises.0)
      | false ↦ least-found number test xs rises.1
    ]

pub rises_from_pairs : {X : Type 0} (number : X → ℕ) (xs : List X) → AllPairs (λ first second. number first < number second) xs → Rises number xs
rises_from_pairs number [] pairs = tt
rises_from_pairs {X} number (x ∷ xs) pairs =
    let above : All (λ y. number x < number y) xs = λ k d within. pairs 0 (suc k) d (omega arith) (omega arith) in
    (recursion_from_All (λ y. number x < number y) xs above, rises_from_pairs number xs (λ i j d before within. pairs (suc i) (suc j) d (omega arith) (omega arith)))

above-stated : (nodes : List RawNode) (line : ℕ) (links : List RawLink) → AllByRecursion (λ link. line < link.line) links → AllByRecursion (λ one. line < one.link.line) (stated (record { nodes = nodes; links = links }))
above-stated nodes line [] above = tt
above-stated nodes line (link ∷ links) above =
    let rest = above-stated nodes line links above.1 in
    elim (slice_get nodes link.node) as (λ found. AllByRecursion (λ one. line < one.link.line) (cons_option (option_map (λ node. record { node = node; link = link }) found) (stated (record { nodes = nodes; links = links })))) [
      | None ↦ rest
      | Some node ↦ (above.0, rest)
    ]

rises_stated : (nodes : List RawNode) (links : List RawLink) → Rises (λ link. link.line) links → Rises (λ one. one.link.line) (stated (record { nodes = nodes; links = links }))
rises_stated nodes [] rises = tt
rises_stated nodes (link ∷ links) rises =
    let rest = rises_stated nodes links rises.1 in
    elim (slice_get nodes link.node) as (λ found. Rises (λ one. one.link.line) (cons_option (option_map (λ node. record { node = node; link = link }) found) (stated (record { nodes = nodes; links = links })))) [
      | None ↦ rest
      | Some node ↦ (above-stated nodes link.line links rises.0, rest)
    ]

pub node_lines_found : (records : Records) → AreRecords records → (test : RawNode → Bool) → least (node_lines test records) ≡ option_map (λ node. node.line) (find test records.nodes)
node_lines_found records are test = least-found (λ node. node.line) test records.nodes (rises_from_pairs (λ node. node.line) records.nodes are.nodes_rise)

pub link_lines_found : (records : Records) → AreRecords records → (test : Stated → Bool) → least (link_lines test records) ≡ option_map (λ one. one.link.line) (find test (stated records))
link_lines_found records are test = least-found (λ one. one.link.line) test (stated records) (rises_stated records.nodes records.links (rises_from_pairs (λ link. link.line) records.links are.links_rise))

fold-min : (n m : ℕ) (ns : List ℕ) → fold min (min n m) ns ≡ min n (fold min m ns)
fold-min n m [] = refl
fold-min n m (k ∷ ns) = ap (λ x. fold min x ns) (omega arith) ∙ fold-min n (min m k) ns

pub least_append : (ns ms : List ℕ) → least (ns ++ ms) ≡ lesser (least ns) (least ms)
least_append [] ms = refl
least_append (n ∷ ns) [] = ap (λ ks. Some (fold min n ks)) (append-nil ns)
least_append (n ∷ ns) (m ∷ ms) = ap Some (fold-append min n ns (m ∷ ms) ∙ fold-min (fold min n ns) m ms)

-- what a test of LIDs in use says of a switch, and of a link under an adapter
abbrev pub claims_of_node : (Claim → Bool) → RawNode → Bool
claims_of_node test node = is_switch node.kind && test (record { line = node.line; lid = node.lid; lmc = node.lmc })

abbrev pub claims_of_link : (Claim → Bool) → Stated → Bool
claims_of_link test one = is_adapter one.node.kind && test (record { line = one.link.line; lid = one.link.lid; lmc = one.link.lmc })

-- the lines of a list's elements that pass one test, as some claims, which pass another
lines-claims : {X : Type 0} (kept : X → Bool) (claim : X → Claim) (test : Claim → Bool) (xs : List X) → map (λ one. one.line) (filter test (map claim (filter kept xs))) ≡ map (λ x. (claim x).line) (filter (λ x. kept x && test (claim x)) xs)
lines-claims kept claim test [] = refl
lines-claims kept claim test (x ∷ xs) =
    let rest = lines-claims kept claim test xs in
    elim (kept x) as (λ k. map (λ one. one.line) (filter test (map claim (cond k (x ∷ filter kept xs) (filter kept xs)))) ≡ map (λ y. (claim y).line) (cond (k && test (claim x)) (x ∷ filter (λ y. kept y && test (claim y)) xs) (filter (λ y. kept y && test (claim y)) xs))) [
      | true ↦ elim (test (claim x)) as (λ t. map (λ one. one.line) (cond t (claim x ∷ filter test (map claim (filter kept xs))) (filter test (map claim (filter kept xs)))) ≡ map (λ y. (claim y).line) (cond t (x ∷ filter (λ y. kept y && test (claim y)) xs) (filter (λ y. kept y && test (claim y)) xs))) [
        | true ↦ ap (λ lines. (claim x).line ∷ lines) rest
        | false ↦ rest
      ]
      | false ↦ rest
    ]

pub claim_lines_parts : (test : Claim → Bool) (records : Records) → claim_lines test records ≡ node_lines (claims_of_node test) records ++ link_lines (claims_of_link test) records
claim_lines_parts test records =
    let of_node : RawNode → Claim = λ node. record { line = node.line; lid = node.lid; lmc = node.lmc } in
    let of_link : Stated → Claim = λ one. record { line = one.link.line; lid = one.link.lid; lmc = one.link.lmc } in
    let of_nodes = map of_node (filter (λ node. is_switch node.kind) records.nodes) in
    let of_links = map of_link (filter (λ one. is_adapter one.node.kind) (stated records)) in
    ap (map (λ claim. claim.line)) (filter-append test of_nodes of_links)
    ∙ map-append (λ claim. claim.line) (filter test of_nodes) (filter test of_links)
    ∙ ap (λ lines. lines ++ map (λ claim. claim.line) (filter test of_links)) (lines-claims (λ node. is_switch node.kind) of_node test records.nodes)
    ∙ ap (λ lines. node_lines (claims_of_node test) records ++ lines) (lines-claims (λ one. is_adapter one.node.kind) of_link test (stated records))

pub least_claim_lines : (test : Claim → Bool) (records : Records) → least (claim_lines test records) ≡ lesser (least (node_lines (claims_of_node test) records)) (least (link_lines (claims_of_link test) records))
least_claim_lines test records = ap least (claim_lines_parts test records) ∙ least_append (node_lines (claims_of_node test) records) (link_lines (claims_of_link test) records)

-- one more element, as at a step of a loop
pub least_push : {X : Type 0} (line : X → ℕ) (test : X → Bool) (xs : List X) (x : X) → least (map line (filter test (xs ++ x ∷ []))) ≡ lesser (least (map line (filter test xs))) (cond (test x) (Some (line x)) None)
least_push line test xs x =
    let kept = filter test xs in
    let last : least (map line (cond (test x) (x ∷ []) [])) ≡ cond (test x) (Some (line x)) None = elim (test x) as (λ b. least (map line (cond b (x ∷ []) [])) ≡ cond b (Some (line x)) None) [ true ↦ refl | false ↦ refl ] in
    ap (λ ys. least (map line ys)) (filter-append test xs (x ∷ []))
    ∙ ap least (map-append line kept (cond (test x) (x ∷ []) []))
    ∙ least_append (map line kept) (map line (cond (test x) (x ∷ []) []))
    ∙ ap (lesser (least (map line kept))) last

pub lesser-none : (a : Option ℕ) → lesser a None ≡ a
lesser-none None = refl
lesser-none (Some n) = refl

pub lesser-assoc : (a b c : Option ℕ) → lesser (lesser a b) c ≡ lesser a (lesser b c)
lesser-assoc None b c = refl
lesser-assoc (Some n) None c = refl
lesser-assoc (Some n) (Some m) None = refl
lesser-assoc (Some n) (Some m) (Some k) = ap Some (omega arith)
