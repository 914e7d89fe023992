-- No row of the table of faults holds of records that keep what a fabric needs.
use Rattle.std.proofs.Common.{◌≡◌, ◌≢◌, ℕ, ◌<◌, inl, inr, Bool, true, false, List, [], ◌∷◌, ◌++◌, length, Option, None, refl, sym, ◌∙◌, ap, subst, arith}
use Rattle.std.specs.Prelude.{map, filter, count_by, not, nat_lt, ◌&&◌, ◌==◌, slice_get}
use Rattle.std.specs.List.{list_any}
use Rattle.std.specs.Option.{option_or}
use Rattle.std.proofs.lemmas.Bool.{and_parts, and_from, or_from, both_ways, not-true, not_from_true, ltb-true, eqb-true, eq-eqb, ne_eqb, le-ltb, false_from_ne_true, cond-false}
use Rattle.std.proofs.lemmas.Option.{same_Some}
use Rattle.fab_model.specs.declared.raw.NodeKind.{NodeKind}
use Rattle.fab_model.specs.declared.raw.NodeKind.TheVariants.{Switch, Adapter}
use Rattle.fab_model.specs.declared.raw.RawNode.{RawNode}
use Rattle.fab_model.specs.declared.raw.RawLink.{RawLink}
use Rattle.fab_model.specs.declared.fault.FabricFault.{FabricFault}
use Rattle.fab_model.specs.declared.fault.FabricFault.TheVariants as fault
use Rattle.fab_model.specs.Records.{Records, Stated, stated, is_switch, is_adapter, same_kind}
use Rattle.fab_model.specs.Faults as row
use Rattle.fab_model.specs.Faults.{Claim, claims, first_fault, first_of, when, at_least_line, node_lines, link_lines, claim_lines, is_far_end, is_other_side}
use Rattle.fab_model.proofs.Lists.Members.{In, cases_pairs, list_any_from_in}
use Rattle.fab_model.proofs.Faultless.Facts.{AreSides, UseOthers, from_stated}
use Rattle.fab_model.proofs.Faultless.Sound.{AreSound, AreFew}

-- ---- the first of the rows

abbrev Nones : {X : Type 0} → List (Option X) → Type 0
Nones [] = Unit {0}
Nones (o ∷ os) = (o ≡ None) × Nones os

first_nones : {X : Type 0} (os : List (Option X)) → Nones os → first_of os ≡ None
first_nones [] nones = refl
first_nones {X} (o ∷ os) nones = ap (λ (p : Option X). option_or p (first_of os)) nones.0 ∙ first_nones os nones.1

when_false : (holds : Bool) (it : FabricFault) → holds ≡ false → when holds it ≡ None
when_false holds it is = ap (λ (b : Bool). when b it) is

filter_none : {X : Type 0} (test : X → Bool) (xs : List X) → ((x : X) → In x xs → test x ≡ false) → filter test xs ≡ []
filter_none test [] fails = refl
filter_none test (x ∷ xs) fails =
    cond-false (test x) (x ∷ filter test xs) (filter test xs) (fails x (inl refl)) ∙ filter_none test xs (λ y within. fails y (inr within))

no_lines : {X : Type 0} (line : X → ℕ) (test : X → Bool) (xs : List X) → ((x : X) → In x xs → test x ≡ false) → map line (filter test xs) ≡ []
no_lines line test xs fails = ap (map line) (filter_none test xs fails)

no_fault : (it : ℕ → FabricFault) (lines : List ℕ) → lines ≡ [] → at_least_line it lines ≡ None
no_fault it lines is = ap (at_least_line it) is

list_any_fails : {X : Type 0} (p : X → Bool) (xs : List X) → ((x : X) → In x xs → p x ≡ false) → list_any p xs ≡ false
list_any_fails p [] fails = refl
list_any_fails p (x ∷ xs) fails = or_from (p x) (list_any p xs) (fails x (inl refl)) (list_any_fails p xs (λ y within. fails y (inr within)))

-- ---- the tests

guid_once : (records : Records) → AreSound records → (node : RawNode) → In node records.nodes → row.repeats_guid records node ≡ false
guid_once records sound node within =
    list_any_fails (λ (other : RawNode). nat_lt other.line node.line && other.guid == node.guid) records.nodes (λ other in_other.
    false_from_ne_true (nat_lt other.line node.line && other.guid == node.guid) (λ passes.
    let parts = and_parts (nat_lt other.line node.line) (other.guid == node.guid) passes in
    let less = ltb-true other.line node.line parts.0 in
    let guid = eqb-true other.guid node.guid parts.1 in
    elim (cases_pairs (λ (one other : RawNode). one.guid ≢ other.guid) records.nodes sound.guids_differ other node in_other within) [
      | inl same ↦ let line = ap (λ (n : RawNode). n.line) same in omega (arith, less, line)
      | inr (inl apart) ↦ apart guid
      | inr (inr apart) ↦ apart (sym guid)
    ]))

port_once : (records : Records) → AreSound records → ((link : RawLink) → In link records.links → (one : Stated) × In one (stated records) × (one.link ≡ link)) → (one : Stated) → In one (stated records) → row.repeats_port records one ≡ false
port_once records sound stands one within =
    list_any_fails (λ (other : RawLink). nat_lt other.line one.link.line && other.node == one.link.node && other.port == one.link.port) records.links (λ link in_link.
    false_from_ne_true (nat_lt link.line one.link.line && link.node == one.link.node && link.port == one.link.port) (λ passes.
    let halves = and_parts (nat_lt link.line one.link.line && link.node == one.link.node) (link.port == one.link.port) passes in
    let parts = and_parts (nat_lt link.line one.link.line) (link.node == one.link.node) halves.0 in
    let other = stands link in_link in
    never other.0 other.1
    (let less = ltb-true link.line one.link.line parts.0 in subst (λ (l : RawLink). l.line < one.link.line) (sym other.2) less)
    (ap (λ (l : RawLink). l.node) other.2 ∙ eqb-true link.node one.link.node parts.1)
    (ap (λ (l : RawLink). l.port) other.2 ∙ eqb-true link.port one.link.port halves.1)))
  where
    guid : (other : Stated) → In other (stated records) → other.link.node ≡ one.link.node → other.node.guid ≡ one.node.guid
    guid other in_other node =
        ap (λ (n : RawNode). n.guid) (same_Some other.node one.node
        (sym (from_stated records other in_other).1 ∙ ap (slice_get records.nodes) node ∙ (from_stated records one within).1))

    never : (other : Stated) → In other (stated records) → other.link.line < one.link.line → other.link.node ≡ one.link.node → other.link.port ≡ one.link.port → ⊥
    never other in_other less node port =
        elim (cases_pairs UseOthers (stated records) sound.ports_differ other one in_other within) [
          | inl same ↦ let line = ap (λ (s : Stated). s.link.line) same in omega (arith, less, line)
          | inr (inl apart) ↦ apart (guid other in_other node) port
          | inr (inr apart) ↦ apart (sym (guid other in_other node)) (sym port)
        ]

lid_once : (records : Records) → AreSound records → (claim : Claim) → In claim (claims records) → row.repeats_lid records claim ≡ false
lid_once records sound claim within =
    list_any_fails (λ (other : Claim). nat_lt other.line claim.line && other.lid == claim.lid) (claims records) (λ other in_other.
    false_from_ne_true (nat_lt other.line claim.line && other.lid == claim.lid) (λ passes.
    let parts = and_parts (nat_lt other.line claim.line) (other.lid == claim.lid) passes in
    let less = ltb-true other.line claim.line parts.0 in
    let lid = eqb-true other.lid claim.lid parts.1 in
    elim (cases_pairs (λ (one other : Claim). one.lid ≢ other.lid) (claims records) sound.lids_differ other claim in_other within) [
      | inl same ↦ let line = ap (λ (c : Claim). c.line) same in omega (arith, less, line)
      | inr (inl apart) ↦ apart lid
      | inr (inr apart) ↦ apart (sym lid)
    ]))

not_zero : (n : ℕ) → 0 < n → (n == 0) ≡ false
not_zero n some = ne_eqb n 0 (λ zero. omega (arith, some, zero))

same_kinds : (first second : NodeKind) → is_switch first ≡ is_switch second → same_kind first second ≡ true
same_kinds Switch second same = sym same
same_kinds Adapter second same = ap not (sym same)

end_known : (one other : Stated) → AreSides one other → is_far_end one other.node ≡ true
end_known one other sides =
    and_from (same_kind other.node.kind one.link.far_kind) (other.node.guid == one.link.far_guid)
    (same_kinds other.node.kind one.link.far_kind sides.kind) (eq-eqb other.node.guid one.link.far_guid sides.guid)

back_known : (one other : Stated) → AreSides one other → is_far_end other one.node ≡ true
back_known one other sides =
    and_from (same_kind one.node.kind other.link.far_kind) (one.node.guid == other.link.far_guid)
    (same_kinds one.node.kind other.link.far_kind sides.back_kind) (eq-eqb one.node.guid other.link.far_guid sides.back_guid)

sides_known : (one other : Stated) → AreSides one other → is_other_side one other ≡ true
sides_known one other sides =
    and_from (is_far_end one other.node && other.link.port == one.link.far_port) (is_far_end other one.node && other.link.far_port == one.link.port)
    (and_from (is_far_end one other.node) (other.link.port == one.link.far_port) (end_known one other sides) (eq-eqb other.link.port one.link.far_port sides.port))
    (and_from (is_far_end other one.node) (other.link.far_port == one.link.port) (back_known one other sides) (eq-eqb other.link.far_port one.link.port sides.back_port))

has_end : (records : Records) → AreSound records → (one : Stated) → In one (stated records) → row.has_unknown_end records one ≡ false
has_end records sound one within =
    let other = sound.sides one within in
    not_from_true (list_any (is_far_end one) records.nodes)
    (list_any_from_in (is_far_end one) records.nodes other.0.node (sound.link_nodes other.0 other.1) (end_known one other.0 other.2))

has_side : (records : Records) → AreSound records → (one : Stated) → In one (stated records) → row.is_one_sided records one ≡ false
has_side records sound one within =
    let other = sound.sides one within in
    not_from_true (list_any (is_other_side one) (stated records))
    (list_any_from_in (is_other_side one) (stated records) other.0 other.1 (sides_known one other.0 other.2))

is_switched : (records : Records) → AreSound records → (one : Stated) → In one (stated records) → row.joins_adapters one ≡ false
is_switched records sound one within =
    false_from_ne_true (is_adapter one.node.kind && is_adapter one.link.far_kind) (λ passes.
    let parts = and_parts (is_adapter one.node.kind) (is_adapter one.link.far_kind) passes in
    both_ways (is_switch one.link.far_kind) (not-true (is_switch one.link.far_kind) parts.1) (sound.switched one within parts.0))

-- ---- the table

-- each link has a node, and no LMC is given
pub record AreComplete (records : Records) : Type 0 where
  pub stands : (link : RawLink) → In link records.links → (one : Stated) × In one (stated records) × (one.link ≡ link)
  pub lmcs : (claim : Claim) → In claim (claims records) → claim.lmc ≡ 0

abbrev node_line : RawNode → ℕ
node_line node = node.line

abbrev link_line : Stated → ℕ
link_line one = one.link.line

abbrev claim_line : Claim → ℕ
claim_line claim = claim.line

append_nils : (ms ns : List ℕ) → ms ≡ [] → ns ≡ [] → ms ++ ns ≡ []
append_nils ms ns e f = ap (λ (l : List ℕ). l ++ ns) e ∙ f

some_switch : (records : Records) → AreSound records → when (not (list_any (λ node. is_switch node.kind) records.nodes)) fault.NoSwitch ≡ None
some_switch records sound =
    when_false (not (list_any (λ node. is_switch node.kind) records.nodes)) fault.NoSwitch
    (not_from_true (list_any (λ node. is_switch node.kind) records.nodes)
    (list_any_from_in (λ (node : RawNode). is_switch node.kind) records.nodes sound.some_switch.0 sound.some_switch.1 sound.some_switch.2))

ports_in_range : (records : Records) → AreSound records → node_lines row.has_too_many_ports records ++ link_lines row.is_off_its_node records ≡ []
ports_in_range records sound =
    append_nils (node_lines row.has_too_many_ports records) (link_lines row.is_off_its_node records)
    (no_lines node_line row.has_too_many_ports records.nodes (λ node within. le-ltb row.port_limit node.ports (sound.node_ports node within)))
    (no_lines link_line row.is_off_its_node (stated records) (λ one within.
    let port = sound.link_ports one within in
    or_from (one.link.port == 0) (nat_lt one.node.ports one.link.port) (not_zero one.link.port port.0) (le-ltb one.node.ports one.link.port port.1)))

pub no_fault_of : (records : Records) → AreSound records → AreFew records → AreComplete records → first_fault records ≡ None
unfolding first_fault
no_fault_of records sound few complete =
    first_nones (
    when (not (list_any (λ node. is_switch node.kind) records.nodes)) fault.NoSwitch
    ∷ when (nat_lt row.switch_limit (count_by (λ node. is_switch node.kind) records.nodes)) fault.TooManySwitches
    ∷ at_least_line fault.TwiceGuid (node_lines (row.repeats_guid records) records)
    ∷ at_least_line fault.PortRange (node_lines row.has_too_many_ports records ++ link_lines row.is_off_its_node records)
    ∷ at_least_line fault.TwicePort (link_lines (row.repeats_port records) records)
    ∷ at_least_line fault.UnknownEnd (link_lines (row.has_unknown_end records) records)
    ∷ at_least_line fault.Unswitched (link_lines row.joins_adapters records)
    ∷ at_least_line fault.OneSided (link_lines (row.is_one_sided records) records)
    ∷ at_least_line fault.Lmc (claim_lines row.has_lmc records)
    ∷ at_least_line fault.BadLid (claim_lines row.is_bad_lid records)
    ∷ at_least_line fault.TwiceLid (claim_lines (row.repeats_lid records) records)
    ∷ when (nat_lt row.lid_limit (length (claims records))) fault.TooManyLids
    ∷ []) (
      some_switch records sound,
      (
        when_false (nat_lt row.switch_limit (count_by (λ node. is_switch node.kind) records.nodes)) fault.TooManySwitches
            (le-ltb row.switch_limit (count_by (λ node. is_switch node.kind) records.nodes) few.switch_count),
        (
          no_fault fault.TwiceGuid (node_lines (row.repeats_guid records) records) (no_lines node_line (row.repeats_guid records) records.nodes (guid_once records sound)),
          (
            no_fault fault.PortRange (node_lines row.has_too_many_ports records ++ link_lines row.is_off_its_node records) (ports_in_range records sound),
            (
              no_fault fault.TwicePort (link_lines (row.repeats_port records) records) (no_lines link_line (row.repeats_port records) (stated records) (port_once records sound complete.stands)),
              (
                no_fault fault.UnknownEnd (link_lines (row.has_unknown_end records) records) (no_lines link_line (row.has_unknown_end records) (stated records) (has_end records sound)),
                (
                  no_fault fault.Unswitched (link_lines row.joins_adapters records) (no_lines link_line row.joins_adapters (stated records) (is_switched records sound)),
                  (
                    no_fault fault.OneSided (link_lines (row.is_one_sided records) records) (no_lines link_line (row.is_one_sided records) (stated records) (has_side records sound)),
                    (
                      no_fault fault.Lmc (claim_lines row.has_lmc records) (no_lines claim_line row.has_lmc (claims records) (λ claim within.
                          not_from_true (claim.lmc == 0) (eq-eqb claim.lmc 0 (complete.lmcs claim within)))),
                      (
                        no_fault fault.BadLid (claim_lines row.is_bad_lid records) (no_lines claim_line row.is_bad_lid (claims records) (λ claim within.
                            let lid = sound.lids claim within in
                            or_from (claim.lid == 0) (nat_lt row.greatest_lid claim.lid) (not_zero claim.lid lid.0) (le-ltb row.greatest_lid claim.lid lid.1))),
                        (
                          no_fault fault.TwiceLid (claim_lines (row.repeats_lid records) records) (no_lines claim_line (row.repeats_lid records) (claims records) (lid_once records sound)),
                          (
                            when_false (nat_lt row.lid_limit (length (claims records))) fault.TooManyLids (le-ltb row.lid_limit (length (claims records)) few.lid_count),
                            tt,
                          ),
                        ),
                      ),
                    ),
                  ),
                ),
              ),
            ),
          ),
        ),
      ),
    )
