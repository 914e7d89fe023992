-- What the table of faults says where no row of it holds.
use Rattle.std.proofs.Common.{◌≡◌, ℕ, inl, inr, Bool, true, false, List, [], ◌∷◌, ◌++◌, length, Option, Some, None, refl, subst}
use Rattle.std.specs.Prelude.{map, filter, count_by, not, nat_lt}
use Rattle.std.specs.List.{list_any}
use Rattle.std.specs.Option.{option_or}
use Rattle.std.proofs.lemmas.Bool.{cases_Bool, not-false}
use Rattle.fab_model.specs.declared.raw.RawNode.{RawNode}
use Rattle.fab_model.specs.declared.fault.FabricFault.{FabricFault}
use Rattle.fab_model.specs.declared.fault.FabricFault.TheVariants as fault
use Rattle.fab_model.specs.Records.{Records, Stated, stated, is_switch}
use Rattle.fab_model.specs.Faults as row
use Rattle.fab_model.specs.Faults.{Claim, claims, first_fault, first_of, when, at_least_line, node_lines, link_lines, claim_lines}
use Rattle.fab_model.proofs.Lists.Members.{In, in_map, in_filter}

-- each row is false
pub record NoRow (records : Records) : Type 0 where
  pub some_switch : list_any (λ node. is_switch node.kind) records.nodes ≡ true
  pub switch_count : nat_lt row.switch_limit (count_by (λ node. is_switch node.kind) records.nodes) ≡ false
  pub guids : (node : RawNode) → In node records.nodes → row.repeats_guid records node ≡ false
  pub node_ports : (node : RawNode) → In node records.nodes → row.has_too_many_ports node ≡ false
  pub link_ports : (one : Stated) → In one (stated records) → row.is_off_its_node one ≡ false
  pub ports : (one : Stated) → In one (stated records) → row.repeats_port records one ≡ false
  pub ends : (one : Stated) → In one (stated records) → row.has_unknown_end records one ≡ false
  pub switched : (one : Stated) → In one (stated records) → row.joins_adapters one ≡ false
  pub sides : (one : Stated) → In one (stated records) → row.is_one_sided records one ≡ false
  pub lids : (claim : Claim) → In claim (claims records) → row.is_bad_lid claim ≡ false
  pub lids_once : (claim : Claim) → In claim (claims records) → row.repeats_lid records claim ≡ false
  pub lid_count : nat_lt row.lid_limit (length (claims records)) ≡ false

option_or_none : {X : Type 0} (a b : Option X) → option_or a b ≡ None → (a ≡ None) × (b ≡ None)
option_or_none None b none = (refl, none)
option_or_none (Some x) b none = absurd (cc)

first_none : {X : Type 0} (os : List (Option X)) → first_of os ≡ None → (o : Option X) → In o os → o ≡ None
first_none [] none o within = absurd within
first_none {X} (p ∷ ps) none o (inl e) = subst (λ (q : Option X). q ≡ None) e (option_or_none p (first_of ps) none).0
first_none (p ∷ ps) none o (inr within) = first_none ps (option_or_none p (first_of ps) none).1 o within

when_none : (holds : Bool) (it : FabricFault) → when holds it ≡ None → holds ≡ false
when_none true it none = absurd (cc)
when_none false it none = refl

no_lines : (it : ℕ → FabricFault) (lines : List ℕ) → at_least_line it lines ≡ None → lines ≡ []
no_lines it [] none = refl
no_lines it (n ∷ ns) none = absurd (cc)

append_nil : {X : Type 0} (xs ys : List X) → xs ++ ys ≡ [] → (xs ≡ []) × (ys ≡ [])
append_nil [] ys none = (refl, none)
append_nil (x ∷ xs) ys none = absurd (cc)

fails_each : {X : Type 0} (line : X → ℕ) (test : X → Bool) (xs : List X) → map line (filter test xs) ≡ [] → (x : X) → In x xs → test x ≡ false
fails_each line test xs none x within =
    elim (cases_Bool (test x)) [
      | inl passes ↦ absurd (subst (λ (l : List ℕ). In (line x) l) none (in_map line (filter test xs) x (in_filter test xs x within passes)))
      | inr fails ↦ fails
    ]

-- the rows in their order
abbrev rows : Records → List (Option FabricFault)
rows records =
    when (not (list_any (λ node. is_switch node.kind) records.nodes)) fault.NoSwitch
    ∷ when (nat_lt row.switch_limit (count_by (λ node. is_switch node.kind) records.nodes)) fault.TooManySwitches
    ∷ at_least_line fault.TwiceGuid (node_lines (row.repeats_guid records) records)
    ∷ at_least_line fault.PortRange (node_lines row.has_too_many_ports records ++ link_lines row.is_off_its_node records)
    ∷ at_least_line fault.TwicePort (link_lines (row.repeats_port records) records)
    ∷ at_least_line fault.UnknownEnd (link_lines (row.has_unknown_end records) records)
    ∷ at_least_line fault.Unswitched (link_lines row.joins_adapters records)
    ∷ at_least_line fault.OneSided (link_lines (row.is_one_sided records) records)
    ∷ at_least_line fault.Lmc (claim_lines row.has_lmc records)
    ∷ at_least_line fault.BadLid (claim_lines row.is_bad_lid records)
    ∷ at_least_line fault.TwiceLid (claim_lines (row.repeats_lid records) records)
    ∷ when (nat_lt row.lid_limit (length (claims records))) fault.TooManyLids
    ∷ []

rows_none : (records : Records) → first_fault records ≡ None → first_of (rows records) ≡ None
unfolding first_fault
rows_none records none = none

pub no_row : (records : Records) → first_fault records ≡ None → NoRow records
no_row records none = record {
  some_switch = not-false (list_any (λ node. is_switch node.kind) records.nodes) (when_none _ fault.NoSwitch (each _ (inl refl)));
  switch_count = when_none _ fault.TooManySwitches (each _ (inr (inl refl)));
  guids = fails_each (λ (node : RawNode). node.line) (row.repeats_guid records) records.nodes (no_lines fault.TwiceGuid (node_lines (row.repeats_guid records) records) (each _ (inr (inr (inl refl)))));
  node_ports = fails_each (λ (node : RawNode). node.line) row.has_too_many_ports records.nodes ports_none.0;
  link_ports = fails_each (λ (one : Stated). one.link.line) row.is_off_its_node (stated records) ports_none.1;
  ports = fails_each (λ (one : Stated). one.link.line) (row.repeats_port records) (stated records) (no_lines fault.TwicePort (link_lines (row.repeats_port records) records) (each _ (inr (inr (inr (inr (inl refl)))))));
  ends = fails_each (λ (one : Stated). one.link.line) (row.has_unknown_end records) (stated records) (no_lines fault.UnknownEnd (link_lines (row.has_unknown_end records) records) (each _ (inr (inr (inr (inr (inr (inl refl))))))));
  switched = fails_each (λ (one : Stated). one.link.line) row.joins_adapters (stated records) (no_lines fault.Unswitched (link_lines row.joins_adapters records) (each _ (inr (inr (inr (inr (inr (inr (inl refl)))))))));
  sides = fails_each (λ (one : Stated). one.link.line) (row.is_one_sided records) (stated records) (no_lines fault.OneSided (link_lines (row.is_one_sided records) records) (each _ (inr (inr (inr (inr (inr (inr (inr (inl refl))))))))));
  lids = fails_each (λ (claim : Claim). claim.line) row.is_bad_lid (claims records) (no_lines fault.BadLid (claim_lines row.is_bad_lid records) (each _ (inr (inr (inr (inr (inr (inr (inr (inr (inr (inl refl))))))))))));
  lids_once = fails_each (λ (claim : Claim). claim.line) (row.repeats_lid records) (claims records) (no_lines fault.TwiceLid (claim_lines (row.repeats_lid records) records) (each _ (inr (inr (inr (inr (inr (inr (inr (inr (inr (inr (inl refl)))))))))))));
  lid_count = when_none _ fault.TooManyLids (each _ (inr (inr (inr (inr (inr (inr (inr (inr (inr (inr (inr (inl refl)))))))))))));
}
  where
    each : (o : Option FabricFault) → In o (rows records) → o ≡ None
    each = first_none (rows records) (rows_none records none)

    ports_none : (node_lines row.has_too_many_ports records ≡ []) × (link_lines row.is_off_its_node records ≡ [])
    ports_none =
        append_nil (node_lines row.has_too_many_ports records) (link_lines row.is_off_its_node records)
        (no_lines fault.PortRange (node_lines row.has_too_many_ports records ++ link_lines row.is_off_its_node records) (each _ (inr (inr (inr (inl refl))))))
