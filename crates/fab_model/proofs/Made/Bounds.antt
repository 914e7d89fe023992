-- The numbers of records without a fault fit the fields of the rows.
use Rattle.std.proofs.Common.{◌≡◌, ℕ, zero, suc, ◌<◌, ◌≤◌, Bool, true, false, List, [], ◌∷◌, ◌++◌, length, get_or, map, filter, Option, Some, None, refl, sym, ap, ◌∙◌, subst, arith, inl, inr}
use Rattle.std.specs.Prelude.{not, ◌&&◌, All, filter_map, nat_lt, ◌==◌, option_map, slice_get, count_by}
use Rattle.std.specs.List.{list_any, cons_option}
use Rattle.std.specs.Option.{option_or}
use Rattle.std.proofs.lemmas.Bool.{cases_Bool, and_parts, not-false, cond-true, cond-false}
use Rattle.std.proofs.lemmas.Bool.Decides.{nat_tests}
use Rattle.std.proofs.lemmas.List.Elements.{All-nil, All-cons, All-head, All-tail, All-weaker}
use Rattle.fab_model.specs.declared.raw.RawNode.{RawNode}
use Rattle.fab_model.specs.declared.raw.RawLink.{RawLink}
use Rattle.fab_model.specs.declared.fault.FabricFault.{FabricFault}
use Rattle.fab_model.specs.declared.fault.FabricFault.TheVariants as fault
use Rattle.fab_model.specs.Records.{Records, Stated, stated, is_switch, is_adapter}
use Rattle.fab_model.specs.Faults.{Claim, claims, node_lines, link_lines, claim_lines, has_too_many_ports, is_off_its_node, is_one_sided, is_other_side, is_far_end, is_bad_lid, at_least_line, first_of, first_fault, when, repeats_guid, repeats_port, has_unknown_end, joins_adapters, has_lmc, repeats_lid, switch_limit, lid_limit, port_limit, greatest_lid}

none_parts : {X : Type 0} (x y : Option X) → option_or x y ≡ None → (x ≡ None) × (y ≡ None)
none_parts None y h = (refl, h)
none_parts (Some x) y h = cc

no_lines : (it : ℕ → FabricFault) (lines : List ℕ) → at_least_line it lines ≡ None → lines ≡ []
no_lines it [] h = refl
no_lines it (n ∷ ns) h = cc

empty_parts : {X : Type 0} (xs ys : List X) → xs ++ ys ≡ [] → (xs ≡ []) × (ys ≡ [])
empty_parts [] ys h = (refl, h)
empty_parts (x ∷ xs) ys h = cc

none_kept : {X Y : Type 0} (f : X → Y) (test : X → Bool) (xs : List X) → map f (filter test xs) ≡ [] → All (λ x. test x ≡ false) xs
none_kept f test [] h = All-nil (λ x. test x ≡ false)
none_kept f test (x ∷ xs) h =
    elim (cases_Bool (test x)) [
      | inl passes ↦ (let clash = sym (ap (map f) (cond-true (test x) (x ∷ filter test xs) (filter test xs) passes)) ∙ h in cc)
      | inr fails ↦
          All-cons (λ y. test y ≡ false) x xs fails
          (none_kept f test xs (sym (ap (map f) (cond-false (test x) (x ∷ filter test xs) (filter test xs) fails)) ∙ h))
    ]

-- none of them is
abbrev AllNone : {X : Type 0} → List (Option X) → Type 0
AllNone [] = Unit {0}
AllNone (x ∷ xs) = (x ≡ None) × AllNone xs

all_none : {X : Type 0} (xs : List (Option X)) → first_of xs ≡ None → AllNone xs
all_none [] h = tt
all_none (x ∷ xs) h = let parts = none_parts x (first_of xs) h in (parts.0, all_none xs parts.1)

abbrev rows : Records → List (Option FabricFault)
rows records =
    when (not (list_any (λ node. is_switch node.kind) records.nodes)) fault.NoSwitch
    ∷ when (nat_lt switch_limit (count_by (λ node. is_switch node.kind) records.nodes)) fault.TooManySwitches
    ∷ at_least_line fault.TwiceGuid (node_lines (repeats_guid records) records)
    ∷ at_least_line fault.PortRange (node_lines has_too_many_ports records ++ link_lines is_off_its_node records)
    ∷ at_least_line fault.TwicePort (link_lines (repeats_port records) records)
    ∷ at_least_line fault.UnknownEnd (link_lines (has_unknown_end records) records)
    ∷ at_least_line fault.Unswitched (link_lines joins_adapters records)
    ∷ at_least_line fault.OneSided (link_lines (is_one_sided records) records)
    ∷ at_least_line fault.Lmc (claim_lines has_lmc records)
    ∷ at_least_line fault.BadLid (claim_lines is_bad_lid records)
    ∷ at_least_line fault.TwiceLid (claim_lines (repeats_lid records) records)
    ∷ when (nat_lt lid_limit (length (claims records))) fault.TooManyLids
    ∷ []

-- the faults that a number out of its range would be: none stands at any line
record AreWithin (records : Records) : Type 0 where
  ports : node_lines has_too_many_ports records ++ link_lines is_off_its_node records ≡ []
  sides : link_lines (is_one_sided records) records ≡ []
  lids : claim_lines is_bad_lid records ≡ []

are_within : (records : Records) → first_fault records ≡ None → AreWithin records
unfolding first_fault
are_within records h =
    let none = all_none (rows records) h in
    record {
      ports = no_lines fault.PortRange (node_lines has_too_many_ports records ++ link_lines is_off_its_node records) none.1.1.1.0;
      sides = no_lines fault.OneSided (link_lines (is_one_sided records) records) none.1.1.1.1.1.1.1.0;
      lids = no_lines fault.BadLid (claim_lines is_bad_lid records) none.1.1.1.1.1.1.1.1.1.0;
    }

-- ---- the nodes and links in themselves

within_ports : (node : RawNode) → has_too_many_ports node ≡ false → node.ports ≤ port_limit
within_ports node h = grind (arith, nat_tests)

pub node_ports : (records : Records) → first_fault records ≡ None → All (λ node. node.ports ≤ port_limit) records.nodes
node_ports records h =
    All-weaker (λ node. has_too_many_ports node ≡ false) (λ node. node.ports ≤ port_limit) within_ports records.nodes
    (none_kept (λ node. node.line) has_too_many_ports records.nodes (empty_parts (node_lines has_too_many_ports records) (link_lines is_off_its_node records) (are_within records h).ports).0)

on_its_node : (one : Stated) → is_off_its_node one ≡ false → (0 < one.link.port) × (one.link.port ≤ one.node.ports)
on_its_node one h = (grind (arith, nat_tests), grind (arith, nat_tests))

pub link_ports : (records : Records) → first_fault records ≡ None → All (λ one. (0 < one.link.port) × (one.link.port ≤ one.node.ports)) (stated records)
link_ports records h =
    All-weaker (λ one. is_off_its_node one ≡ false) (λ one. (0 < one.link.port) × (one.link.port ≤ one.node.ports)) on_its_node (stated records)
    (none_kept (λ one. one.link.line) is_off_its_node (stated records) (empty_parts (node_lines has_too_many_ports records) (link_lines is_off_its_node records) (are_within records h).ports).1)

-- ---- lists that are made of others

append_parts : {X : Type 0} (P : X → Type 0) (xs ys : List X) → All P (xs ++ ys) → All P xs × All P ys
append_parts P [] ys h = (All-nil P, h)
append_parts P (x ∷ xs) ys h =
    let rest = append_parts P xs ys (All-tail P x (xs ++ ys) h) in
    (All-cons P x xs (All-head P x (xs ++ ys) h) rest.0, rest.1)

mapped : {X Y : Type 0} (P : Y → Type 0) (f : X → Y) (xs : List X) → All P (map f xs) → All (λ x. P (f x)) xs
mapped P f [] h = All-nil (λ x. P (f x))
mapped P f (x ∷ xs) h = All-cons (λ y. P (f y)) x xs (All-head P (f x) (map f xs) h) (mapped P f xs (All-tail P (f x) (map f xs) h))

kept : {X : Type 0} (P : X → Type 0) (test : X → Bool) (xs : List X) → All P (filter test xs) → All (λ x. test x ≡ true → P x) xs
kept P test [] h = All-nil (λ x. test x ≡ true → P x)
kept P test (x ∷ xs) h =
    elim (cases_Bool (test x)) [
      | inl passes ↦
          (let all : All P (x ∷ filter test xs) = subst (All P) (cond-true (test x) (x ∷ filter test xs) (filter test xs) passes) h in
          All-cons (λ y. test y ≡ true → P y) x xs (λ _. All-head P x (filter test xs) all) (kept P test xs (All-tail P x (filter test xs) all)))
      | inr fails ↦
          All-cons (λ y. test y ≡ true → P y) x xs (λ passes. absurd (let clash = sym passes ∙ fails in cc))
          (kept P test xs (subst (All P) (cond-false (test x) (x ∷ filter test xs) (filter test xs) fails) h))
    ]

there : {X : Type 0} (P : X → Type 0) (xs : List X) (k : ℕ) (x : X) → All P xs → slice_get xs k ≡ Some x → P x
there P [] k x all h = absurd cc
there P (y ∷ ys) zero x all h = let same : y ≡ x = cc in subst P same (All-head P y ys all)
there P (y ∷ ys) (suc k) x all h = there P ys k x (All-tail P y ys all) h

given_one : {Y : Type 0} (P : Y → Type 0) (o : Option Y) (ys : List Y) → ((y : Y) → o ≡ Some y → P y) → All P ys → All P (cons_option o ys)
given_one P None ys one rest = rest
given_one P (Some y) ys one rest = All-cons P y ys (one y refl) rest

given : {X Y : Type 0} (P : Y → Type 0) (f : X → Option Y) (xs : List X) → ((x : X) (y : Y) → f x ≡ Some y → P y) → All P (filter_map f xs)
given P f [] h = All-nil P
given P f (x ∷ xs) h = given_one P (f x) (filter_map f xs) (h x) (given P f xs h)

-- each link that has a node is stated
pub stated_all : {X Y : Type 0} (P : Y → Type 0) (f : X → Option Y) (xs : List X) (k : ℕ) (d : X) (y : Y) → All P (filter_map f xs) → k < length xs → f (get_or xs k d) ≡ Some y → P y
stated_all P f [] k d y all below is = absurd (omega arith)
stated_all P f (x ∷ xs) zero d y all below is =
    All-head P y (filter_map f xs) (subst (λ o. All P (cons_option o (filter_map f xs))) is all)
stated_all {Y} P f (x ∷ xs) (suc k) d y all below is = stated_all P f xs k d y (go (f x) all) (omega arith) is
  where
    go : (o : Option Y) → All P (cons_option o (filter_map f xs)) → All P (filter_map f xs)
    go None h = h
    go (Some z) h = All-tail P z (filter_map f xs) h

any_gives : {X : Type 0} (P : X → Type 0) (Q : Type 0) (test : X → Bool) (xs : List X) → ((x : X) → test x ≡ true → P x → Q) → All P xs → list_any test xs ≡ true → Q
any_gives P Q test [] from all h = absurd cc
any_gives P Q test (x ∷ xs) from all h =
    elim (cases_Bool (test x)) [
      | inl passes ↦ from x passes (All-head P x xs all)
      | inr fails ↦ any_gives P Q test xs from (All-tail P x xs all) (rw fails at h)
    ]

-- ---- LIDs

bounded_lid : (claim : Claim) → is_bad_lid claim ≡ false → claim.lid ≤ greatest_lid
bounded_lid claim h = grind (arith, nat_tests)

bounded_claims : (records : Records) → first_fault records ≡ None → All (λ claim. claim.lid ≤ greatest_lid) (claims records)
bounded_claims records h =
    All-weaker (λ claim. is_bad_lid claim ≡ false) (λ claim. claim.lid ≤ greatest_lid) bounded_lid (claims records)
    (none_kept (λ claim. claim.line) is_bad_lid (claims records) (are_within records h).lids)

abbrev claim_of_node : RawNode → Claim
claim_of_node node = record { line = node.line; lid = node.lid; lmc = node.lmc }

abbrev claim_of_link : Stated → Claim
claim_of_link one = record { line = one.link.line; lid = one.link.lid; lmc = one.link.lmc }

abbrev IsBounded : Claim → Type 0
IsBounded claim = claim.lid ≤ greatest_lid

claim_parts : (records : Records) → first_fault records ≡ None
    → All IsBounded (map claim_of_node (filter (λ node. is_switch node.kind) records.nodes)) × All IsBounded (map claim_of_link (filter (λ one. is_adapter one.node.kind) (stated records)))
claim_parts records h =
    append_parts IsBounded (map claim_of_node (filter (λ node. is_switch node.kind) records.nodes)) (map claim_of_link (filter (λ one. is_adapter one.node.kind) (stated records))) (bounded_claims records h)

pub switch_lids : (records : Records) → first_fault records ≡ None → All (λ node. is_switch node.kind ≡ true → node.lid ≤ greatest_lid) records.nodes
switch_lids records h =
    kept (λ node. node.lid ≤ greatest_lid) (λ node. is_switch node.kind) records.nodes
    (mapped IsBounded claim_of_node (filter (λ node. is_switch node.kind) records.nodes) (claim_parts records h).0)

pub link_lids : (records : Records) → first_fault records ≡ None → All (λ one. is_adapter one.node.kind ≡ true → one.link.lid ≤ greatest_lid) (stated records)
link_lids records h =
    kept (λ one. one.link.lid ≤ greatest_lid) (λ one. is_adapter one.node.kind) (stated records)
    (mapped IsBounded claim_of_link (filter (λ one. is_adapter one.node.kind) (stated records)) (claim_parts records h).1)

-- ---- ports at both ends

abbrev pub stated_link : Records → RawLink → Option Stated
stated_link records link = option_map (λ node. record { node = node; link = link }) (slice_get records.nodes link.node)

node_of : (records : Records) (P : RawNode → Type 0) (link : RawLink) (one : Stated) → All P records.nodes → stated_link records link ≡ Some one → P one.node
node_of records P link one all h = go (slice_get records.nodes link.node) refl h
  where
    go : (o : Option RawNode) → slice_get records.nodes link.node ≡ o → option_map (λ node. record { node = node; link = link }) o ≡ Some one → P one.node
    go None is h = absurd cc
    go (Some node) is h = let same : node ≡ one.node = cc in subst P same (there P records.nodes link.node node all is)

stated_nodes : (records : Records) (P : RawNode → Type 0) → All P records.nodes → All (λ one. P one.node) (stated records)
stated_nodes records P all = given (λ one. P one.node) (stated_link records) records.links (λ link one is. node_of records P link one all is)

pub small_ports : (records : Records) → first_fault records ≡ None → All (λ one. one.link.port ≤ port_limit) (stated records)
small_ports records h = λ k d below. omega (arith, link_ports records h k d below, stated_nodes records (λ node. node.ports ≤ port_limit) (node_ports records h) k d below)

far_port : (one other : Stated) → is_other_side one other ≡ true → other.link.port ≤ port_limit → one.link.far_port ≤ port_limit
far_port one other h small =
    let parts = and_parts (is_far_end one other.node && other.link.port == one.link.far_port) (is_far_end other one.node && other.link.far_port == one.link.port) h in
    let same = (and_parts (is_far_end one other.node) (other.link.port == one.link.far_port) parts.0).1 in
    grind (arith, nat_tests)

far_bound : (records : Records) → first_fault records ≡ None → (one : Stated) → is_one_sided records one ≡ false → one.link.far_port ≤ port_limit
far_bound records h one sided =
    any_gives (λ other. other.link.port ≤ port_limit) (one.link.far_port ≤ port_limit) (is_other_side one) (stated records) (far_port one) (small_ports records h)
    (not-false (list_any (is_other_side one) (stated records)) sided)

pub far_ports : (records : Records) → first_fault records ≡ None → All (λ one. one.link.far_port ≤ port_limit) (stated records)
far_ports records h =
    All-weaker (λ one. is_one_sided records one ≡ false) (λ one. one.link.far_port ≤ port_limit) (far_bound records h) (stated records)
    (none_kept (λ one. one.link.line) (is_one_sided records) (stated records) (are_within records h).sides)

-- an element of a list that is read by its index
pub All-item : {X : Type 0} (P : X → Type 0) (xs ys : List X) → ys ≡ xs → All P xs → (k : ℕ) (x : X) → k < length ys → x ≡ get_or ys k x → P x
All-item P xs ys same all k x below is = subst P (sym is) (subst (All P) (sym same) all k x below)
