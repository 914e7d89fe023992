-- Records that repeat what an earlier one has: where the lines rise, the earlier ones are those in front.
use Rattle.std.proofs.Common.{◌≡◌, ℕ, zero, suc, ◌+◌, ◌<◌, Bool, true, false, cond, List, [], ◌∷◌, length, take, drop, get_or, Some, refl, sym, ap, ◌∙◌, ⊎_elim, arith}
use Rattle.std.specs.Prelude.{◌&&◌, ◌||◌, find, option_map, nat_lt, nat_eq}
use Rattle.std.specs.List.{AllByRecursion, list_any}
use Rattle.std.proofs.lemmas.List.{at_drop_more}
use Rattle.std.proofs.lemmas.List.Elements.{recursion_from_All}
use Rattle.std.proofs.lemmas.Option.{slice_get_cases}
use Rattle.std.proofs.lemmas.Bool.Decides.{nat_tests}
use Rattle.fab_model.specs.declared.raw.RawNode.{RawNode}
use Rattle.fab_model.specs.declared.raw.RawLink.{RawLink}
use Rattle.fab_model.specs.Records.{Records, AreRecords, stated}
use Rattle.fab_model.specs.Faults.{least, link_lines, repeats_guid, repeats_port}
use Rattle.fab_model.proofs.FirstFault.Lines.{Rises, rises_from_pairs, link_lines_found}

-- a number below n is not above it
none-above : {X : Type 0} (number : X → ℕ) (passes : X → Bool) (n : ℕ) (xs : List X) → AllByRecursion (λ y. n < number y) xs → list_any (λ y. nat_lt (number y) n && passes y) xs ≡ false
none-above number passes n [] above = refl
none-above number passes n (x ∷ xs) above =
    let below : nat_lt (number x) n ≡ false = grind (arith, nat_tests, above.0) in
    ap (λ b. (b && passes x) || list_any (λ y. nat_lt (number y) n && passes y) xs) below ∙ none-above number passes n xs above.1

at-recursion : {X : Type 0} (P : X → Type 0) (xs : List X) (i : ℕ) (d : X) → AllByRecursion P xs → i < length xs → P (get_or xs i d)
at-recursion P [] i d holds within = absurd (omega arith)
at-recursion P (x ∷ xs) zero d holds within = holds.0
at-recursion P (x ∷ xs) (suc i) d holds within = at-recursion P xs i d holds.1 (omega arith)

in-front : {X : Type 0} (number : X → ℕ) (passes : X → Bool) (xs : List X) (i : ℕ) (d : X) → Rises number xs → i < length xs → list_any (λ y. nat_lt (number y) (number (get_or xs i d)) && passes y) xs ≡ list_any passes (take i xs)
in-front number passes [] i d rises within = absurd (omega arith)
in-front number passes (x ∷ xs) zero d rises within =
    let below : nat_lt (number x) (number x) ≡ false = grind (arith, nat_tests) in
    ap (λ b. (b && passes x) || list_any (λ y. nat_lt (number y) (number x) && passes y) xs) below ∙ none-above number passes (number x) xs rises.0
in-front number passes (x ∷ xs) (suc i) d rises within =
    let after = at-recursion (λ y. number x < number y) xs i d rises.0 (omega arith) in
    let below : nat_lt (number x) (number (get_or xs i d)) ≡ true = grind (arith, nat_tests, after) in
    ap (λ b. (b && passes x) || list_any (λ y. nat_lt (number y) (number (get_or xs i d)) && passes y) xs) below ∙ ap (λ b. passes x || b) (in-front number passes xs i d rises.1 (omega arith))

-- the first of the rest is the next one where it passes
found-next : {X : Type 0} (test : X → Bool) (xs : List X) (i : ℕ) (x : X) → i < length xs → x ≡ get_or xs i x → find test (drop i xs) ≡ cond (test x) (Some x) (find test (drop (i + 1) xs))
found-next test xs i x within is = at_drop_more (find test) xs i x within ∙ ap (λ y. cond (test y) (Some y) (find test (drop (i + 1) xs))) (sym is)

-- the next node repeats a GUID where one in front of it has that
pub guid_turn : (records : Records) (nodes : List RawNode) (i : ℕ) (node : RawNode) → nodes ≡ records.nodes → AreRecords records → i < length nodes → node ≡ get_or nodes i node → find (repeats_guid records) (drop i nodes) ≡ cond (list_any (λ other. nat_eq other.guid node.guid) (take i nodes)) (Some node) (find (repeats_guid records) (drop (i + 1) nodes))
guid_turn records nodes i node same are within is =
    let rises = rises_from_pairs (λ other. other.line) records.nodes are.nodes_rise in
    let short : i < length records.nodes = omega (arith, ap length same) in
    let here : node ≡ get_or records.nodes i node = is ∙ ap (λ xs. get_or xs i node) same in
    let front = in-front (λ other. other.line) (λ other. nat_eq other.guid node.guid) records.nodes i node rises short in
    let repeats : repeats_guid records node ≡ list_any (λ other. nat_eq other.guid node.guid) (take i nodes) =
    ap (λ other. list_any (λ one. nat_lt one.line other.line && nat_eq one.guid node.guid) records.nodes) here ∙ front ∙ ap (λ xs. list_any (λ other. nat_eq other.guid node.guid) (take i xs)) (sym same) in
    found-next (repeats_guid records) nodes i node within is ∙ ap (λ b. cond b (Some node) (find (repeats_guid records) (drop (i + 1) nodes))) repeats

-- an earlier link has this link's node and port
abbrev pub repeats_link : Records → RawLink → Bool
repeats_link records link = list_any (λ other. nat_lt other.line link.line && nat_eq other.node link.node && nat_eq other.port link.port) records.links

-- the first link under a node is the first link, where each is under one
found-stated : (nodes : List RawNode) (test : RawLink → Bool) (links : List RawLink) → AllByRecursion (λ link. link.node < length nodes) links → option_map (λ one. one.link.line) (find (λ one. test one.link) (stated (record { nodes = nodes; links = links }))) ≡ option_map (λ link. link.line) (find test links)
found-stated nodes test [] under = refl
found-stated nodes test (link ∷ links) under =
    let rest = found-stated nodes test links under.1 in
    ⊎_elim
    (λ (node, short, found, read). rw found (
    elim (test link) as (λ b. option_map (λ one. one.link.line) (cond b (Some (record { node = node; link = link })) (find (λ one. test one.link) (stated (record { nodes = nodes; links = links })))) ≡ option_map (λ other. other.line) (cond b (Some link) (find test links))) [ true ↦ refl | false ↦ rest ]))
    (λ past. absurd (omega (arith, under.0, past.0)))
    (slice_get_cases nodes link.node).1

pub port_start : (records : Records) → AreRecords records → least (link_lines (repeats_port records) records) ≡ option_map (λ link. link.line) (find (repeats_link records) records.links)
port_start records are = link_lines_found records are (repeats_port records) ∙ found-stated records.nodes (repeats_link records) records.links (recursion_from_All (λ link. link.node < length records.nodes) records.links are.under)

pub any-same : {X : Type 0} (first second : X → Bool) → ((x : X) → first x ≡ second x) → (xs : List X) → list_any first xs ≡ list_any second xs
any-same first second same [] = refl
any-same first second same (x ∷ xs) = ap (λ b. b || list_any first xs) (same x) ∙ ap (λ b. second x || b) (any-same first second same xs)

and-assoc : (a b c : Bool) → (a && b && c) ≡ (a && (b && c))
and-assoc true b c = refl
and-assoc false b c = refl

-- the next link repeats a port where one in front of it has that
pub port_turn : (records : Records) (links : List RawLink) (i : ℕ) (d : RawLink) → links ≡ records.links → AreRecords records → i < length links →
    let link = get_or links i d in
    find (repeats_link records) (drop i links) ≡ cond (list_any (λ other. nat_eq other.node link.node && nat_eq other.port link.port) (take i links)) (Some link) (find (repeats_link records) (drop (i + 1) links))
port_turn records links i d same are within =
    let link = get_or links i d in
    let rises = rises_from_pairs (λ other. other.line) records.links are.links_rise in
    let short : i < length records.links = omega (arith, ap length same) in
    let here : link ≡ get_or records.links i d = ap (λ xs. get_or xs i d) same in
    let passes : RawLink → Bool = λ other. nat_eq other.node link.node && nat_eq other.port link.port in
    let repeats : repeats_link records link ≡ list_any passes (take i links) =
    any-same _ (λ one. nat_lt one.line link.line && passes one) (λ one. and-assoc (nat_lt one.line link.line) (nat_eq one.node link.node) (nat_eq one.port link.port)) records.links
    ∙ ap (λ other. list_any (λ one. nat_lt one.line other.line && passes one) records.links) here
    ∙ in-front (λ other. other.line) passes records.links i d rises short
    ∙ ap (λ xs. list_any passes (take i xs)) (sym same) in
    at_drop_more (find (repeats_link records)) links i d within ∙ ap (λ b. cond b (Some link) (find (repeats_link records) (drop (i + 1) links))) repeats

pub true-or : (b c : Bool) → cond b true c ≡ (c || b)
true-or true true = refl
true-or true false = refl
true-or false true = refl
true-or false false = refl
