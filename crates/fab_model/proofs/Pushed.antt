-- Records keep what they keep where one more is added below them.
use Rattle.std.proofs.Common.{◌≡◌, ◌≢◌, ℕ, zero, suc, ◌<◌, ◌≤◌, ◌^◌, List, [], ◌∷◌, ◌++◌, length, map, fold, max, get_or, Option, Some, None, inl, inr, refl, subst, ap, ◌∙◌, arith}
use Rattle.std.specs.List.{cons_option}
use Rattle.std.specs.Prelude.{All, AllPairs, filter_map, option_map, slice_get, IfSome}
use Rattle.std.proofs.lemmas.List.{length_push, map_push}
use Rattle.std.proofs.lemmas.List.Elements.{All-nil, All-cons, All-head, All-tail, All-push, All-weaker, filter_map-append}
use Rattle.std.proofs.lemmas.List.Quantifiers.{all_pairs_push}
use Rattle.std.proofs.lemmas.List.Sums.{fold_push}
use Rattle.std.proofs.lemmas.Option.{slice_get_cases, slice_get_within, get_or_from_slice_get}
use Rattle.fab_model.specs.declared.raw.RawNode.{RawNode}
use Rattle.fab_model.specs.declared.raw.RawLink.{RawLink}
use Rattle.fab_model.specs.Description.{IsDescription}
use Rattle.fab_model.specs.Records.{Records, AreRecords, Stated, stated, last_line}

le-fold_max : (a : ℕ) (xs : List ℕ) → a ≤ fold max a xs
le-fold_max a [] = omega arith
le-fold_max a (x ∷ xs) = omega (arith, le-fold_max (max a x) xs)

each-le-fold_max : {X : Type 0} (f : X → ℕ) (a : ℕ) (xs : List X) → All (λ x. f x ≤ fold max a (map f xs)) xs
each-le-fold_max f a [] = All-nil (λ x. f x ≤ fold max a [])
each-le-fold_max f a (x ∷ xs) =
    All-cons (λ y. f y ≤ fold max (max a (f x)) (map f xs)) x xs
    (omega (arith, le-fold_max (max a (f x)) (map f xs)))
    (each-le-fold_max f (max a (f x)) xs)

fold_max-push : {X : Type 0} (f : X → ℕ) (xs : List X) (x : X) → fold max 0 (map f (xs ++ x ∷ [])) ≡ max (fold max 0 (map f xs)) (f x)
fold_max-push f xs x = ap (fold max 0) (map_push f xs x) ∙ fold_push max 0 (map f xs) (f x)

-- numbers that rise from above 0 on are at least their places
place-lt : {X : Type 0} (f : X → ℕ) (xs : List X) → All (λ x. 0 < f x) xs → AllPairs (λ x y. f x < f y) xs → (k : ℕ) (d : X) → k < length xs → k < f (get_or xs k d)
place-lt f xs some rise zero d h = some 0 d h
place-lt f xs some rise (suc k) d h =
    omega (arith, place-lt f xs some rise k d (omega arith), rise k (suc k) d (omega arith) h)

count-lt : {X : Type 0} (f : X → ℕ) (xs : List X) (n : ℕ) → 0 < n → All (λ x. 0 < f x) xs → AllPairs (λ x y. f x < f y) xs → All (λ x. f x < n) xs → length xs < n
count-lt f [] n h some rise below = h
count-lt f (x ∷ xs) n h some rise below =
    omega (arith, place-lt f (x ∷ xs) some rise (length xs) x (omega arith), below (length xs) x (omega arith))

-- what a list of optional values keeps of the values that are there
All-filter_map : {X Y : Type 0} (h : X → Option Y) (P : Y → Type 0) (xs : List X) → All P (filter_map h xs) → All (λ x. IfSome (h x) P) xs
All-filter_map h P [] all = All-nil (λ x. IfSome (h x) P)
All-filter_map {X} {Y} h P (x ∷ xs) all =
    let both : IfSome (h x) P × All P (filter_map h xs) =
    elim (h x) as (λ (o : Option Y). All P (cons_option o (filter_map h xs)) → IfSome o P × All P (filter_map h xs)) [
      | None ↦ λ a. (tt, a)
      | Some y ↦ λ a. (All-head P y (filter_map h xs) a, All-tail P y (filter_map h xs) a)
    ] all in
    All-cons (λ x. IfSome (h x) P) x xs both.0 (All-filter_map h P xs both.1)

-- two functions that agree on a list keep the same of it
filter_map-agree : {X Y : Type 0} (f g : X → Option Y) (xs : List X) → All (λ x. f x ≡ g x) xs → filter_map f xs ≡ filter_map g xs
filter_map-agree f g [] agree = refl
filter_map-agree f g (x ∷ xs) agree =
    let here : f x ≡ g x = All-head (λ x. f x ≡ g x) x xs agree in
    let rest = filter_map-agree f g xs (All-tail (λ x. f x ≡ g x) x xs agree) in
    rw (here, rest)

slice_get-append_left : {X : Type 0} (xs ys : List X) (k : ℕ) → k < length xs → slice_get (xs ++ ys) k ≡ slice_get xs k
slice_get-append_left [] ys k h = absurd (omega arith)
slice_get-append_left (x ∷ xs) ys zero h = refl
slice_get-append_left (x ∷ xs) ys (suc k) h = slice_get-append_left xs ys k (omega arith)

-- a link beside its node
abbrev beside : List RawNode → RawLink → Option Stated
beside nodes link = option_map (λ node. record { node = node; link = link }) (slice_get nodes link.node)

stated-push_node : (records : Records) (node : RawNode) → All (λ link. link.node < length records.nodes) records.links → stated (record { nodes = records.nodes ++ node ∷ []; links = records.links }) ≡ stated records
stated-push_node records node under =
    filter_map-agree (beside (records.nodes ++ node ∷ [])) (beside records.nodes) records.links
    (All-weaker (λ link. link.node < length records.nodes) (λ link. beside (records.nodes ++ node ∷ []) link ≡ beside records.nodes link)
    (λ link h. ap (option_map (λ node. record { node = node; link = link })) (slice_get-append_left records.nodes (node ∷ []) link.node h)) records.links under)

last_line-push_node : (records : Records) (node : RawNode) → last_line (record { nodes = records.nodes ++ node ∷ []; links = records.links }) ≡ max (last_line records) node.line
last_line-push_node records node = omega (arith, fold_max-push (λ node. node.line) records.nodes node)

pub are_records_push_node : (records : Records) (node : RawNode) → AreRecords records → last_line records < node.line → node.line < 2 ^ 32 → node.guid < 2 ^ 64 → IsDescription node.desc → AreRecords (record { nodes = records.nodes ++ node ∷ []; links = records.links })
are_records_push_node records node are below fits guid desc =
    let lines : All (λ node. 0 < node.line) (records.nodes ++ node ∷ []) = All-push (λ (node : RawNode). 0 < node.line) records.nodes node are.lines (omega arith) in
    let rise : AllPairs (λ (first second : RawNode). first.line < second.line) (records.nodes ++ node ∷ []) =
    all_pairs_push (λ (first second : RawNode). first.line < second.line) records.nodes node are.nodes_rise
    (λ k d h. omega (arith, each-le-fold_max (λ (node : RawNode). node.line) 0 records.nodes k d h)) in
    let last = last_line-push_node records node in
    record {
      lines = lines;
      nodes_rise = rise;
      links_rise = are.links_rise;
      under = λ k d h. omega (arith, are.under k d h, length_push records.nodes node);
      below = rw (stated-push_node records node are.under) are.below;
      lines_differ = All-push (λ (node : RawNode). All (λ (link : RawLink). node.line ≢ link.line) records.links) records.nodes node are.lines_differ
          (λ k d h same. omega (arith, each-le-fold_max (λ (link : RawLink). link.line) 0 records.links k d h));
      within = rw last (omega (arith, are.within));
      node_count = count-lt (λ (node : RawNode). node.line) (records.nodes ++ node ∷ []) (2 ^ 32) (omega arith) lines rise
          (λ k d h. omega (arith, each-le-fold_max (λ (node : RawNode). node.line) 0 (records.nodes ++ node ∷ []) k d h, are.within, last));
      link_count = are.link_count;
      node_guids = All-push (λ (node : RawNode). node.guid < 2 ^ 64) records.nodes node are.node_guids guid;
      far_guids = are.far_guids;
      port_guids = are.port_guids;
      descriptions = All-push (λ (node : RawNode). IsDescription node.desc) records.nodes node are.descriptions desc;
    }

stated-push_link : (records : Records) (link : RawLink) → link.node < length records.nodes → (node : RawNode) × (slice_get records.nodes link.node ≡ Some node) × (stated (record { nodes = records.nodes; links = records.links ++ link ∷ [] }) ≡ stated records ++ record { node = node; link = link } ∷ [])
stated-push_link records link under =
    elim (slice_get_cases records.nodes link.node).1 [
      | inl found ↦
          let one : Stated = record { node = found.0; link = link } in
          let last : filter_map (beside records.nodes) (link ∷ []) ≡ one ∷ [] = ap (λ o. cons_option (option_map (λ node. record { node = node; link = link }) o) []) found.2 in
          (found.0, found.2, filter_map-append (beside records.nodes) records.links (link ∷ []) ∙ ap (λ (more : List Stated). stated records ++ more) last)
      | inr past ↦ absurd (omega (arith, past.0))
    ]

last_line-push_link : (records : Records) (link : RawLink) → last_line (record { nodes = records.nodes; links = records.links ++ link ∷ [] }) ≡ max (last_line records) link.line
last_line-push_link records link = omega (arith, fold_max-push (λ (link : RawLink). link.line) records.links link)

line-le-last : (records : Records) (k : ℕ) (node : RawNode) → slice_get records.nodes k ≡ Some node → node.line ≤ last_line records
line-le-last records k node at =
    let within = slice_get_within records.nodes k node at in
    let here : get_or records.nodes k node ≡ node = get_or_from_slice_get records.nodes k node node at in
    let below : (get_or records.nodes k node).line ≤ fold max 0 (map (λ (node : RawNode). node.line) records.nodes) = each-le-fold_max (λ (node : RawNode). node.line) 0 records.nodes k node within in
    omega (arith, rw here at below)

link_lines : (records : Records) → AreRecords records → All (λ link. 0 < link.line) records.links
link_lines records are = λ k d h.
    let link = get_or records.links k d in
    let IsBelow : Stated → Type 0 = λ one. one.node.line < one.link.line in
    let told : IfSome (beside records.nodes link) IsBelow = All-filter_map (beside records.nodes) IsBelow records.links (are.below) k d h in
    elim (slice_get_cases records.nodes link.node).1 [
      | inl found ↦
          let here : found.0.line < link.line = subst (λ (o : Option RawNode). IfSome (option_map (λ node. record { node = node; link = link }) o) IsBelow) found.2 told in
          omega arith
      | inr past ↦ absurd (omega (arith, past.0, are.under k d h))
    ]

pub are_records_push_link : (records : Records) (link : RawLink) → AreRecords records → last_line records < link.line → link.node < length records.nodes → link.line < 2 ^ 32 → link.far_guid < 2 ^ 64 → link.port_guid < 2 ^ 64 → AreRecords (record { nodes = records.nodes; links = records.links ++ link ∷ [] })
are_records_push_link records link are below under fits far port =
    let s = stated-push_link records link under in
    let one : Stated = record { node = s.0; link = link } in
    let rise : AllPairs (λ (first second : RawLink). first.line < second.line) (records.links ++ link ∷ []) =
    all_pairs_push (λ (first second : RawLink). first.line < second.line) records.links link are.links_rise
    (λ k d h. omega (arith, each-le-fold_max (λ (link : RawLink). link.line) 0 records.links k d h)) in
    let lines : All (λ link. 0 < link.line) (records.links ++ link ∷ []) = All-push (λ (link : RawLink). 0 < link.line) records.links link (link_lines records are) (omega arith) in
    let last = last_line-push_link records link in
    record {
      lines = are.lines;
      nodes_rise = are.nodes_rise;
      links_rise = rise;
      under = All-push (λ (link : RawLink). link.node < length records.nodes) records.links link are.under under;
      below = rw s.2 (All-push (λ (one : Stated). one.node.line < one.link.line) (stated records) one are.below (omega (arith, line-le-last records link.node s.0 s.1)));
      lines_differ = λ k d h. All-push (λ (link : RawLink). (get_or records.nodes k d).line ≢ link.line) records.links link (are.lines_differ k d h)
          (λ same. omega (arith, each-le-fold_max (λ (node : RawNode). node.line) 0 records.nodes k d h));
      within = rw last (omega (arith, are.within));
      node_count = are.node_count;
      link_count = count-lt (λ (link : RawLink). link.line) (records.links ++ link ∷ []) (2 ^ 32) (omega arith) lines rise
          (λ k d h. omega (arith, each-le-fold_max (λ (link : RawLink). link.line) 0 (records.links ++ link ∷ []) k d h, are.within, last));
      node_guids = are.node_guids;
      far_guids = All-push (λ (link : RawLink). link.far_guid < 2 ^ 64) records.links link are.far_guids far;
      port_guids = All-push (λ (link : RawLink). link.port_guid < 2 ^ 64) records.links link are.port_guids port;
      descriptions = are.descriptions;
    }
