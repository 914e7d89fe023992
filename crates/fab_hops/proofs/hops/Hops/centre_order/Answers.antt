use Rattle.std.proofs.Common.{◌≡◌, ◌++◌, ◌∷◌, [], ◌+◌, ◌∙◌, ℕ, List, Option, Some, None, Vec, Global, map, length, refl, sym, ap, subst, arith}
use Rattle.std.specs.Prelude.{is_some}
use Rattle.std.proofs.lemmas.Result.{IfOk-weaker}
use Rattle.fab_model.specs.declared.rows.SwitchId.{SwitchId}
use Rattle.fab_model.specs.Topology.{Topology}
use Rattle.fab_model.specs.WellFormed.{IsWellFormed}
use Rattle.fab_hops.specs.HopCounts.{AreHops, hop_count}
use Rattle.fab_hops.specs.Centres.{IsCentreOrder}
use Rattle.fab_hops.proofs.Ranked.{Ranked}
use Rattle.fab_hops.proofs.Members.{AreMembers, one_member_more, no_member_more, centre_order_found, numbers_of, count_there, count_missing}
use Rattle.fab_hops.proofs.hops.Hops.centre_order.Goals as goal
use Rattle.fab_hops.proofs.hops.Hops.centre_order.Goals.{then-is_some+in_ok-push, else-is_some}

pub loop-index-preserved : goal.loop-index-preserved
loop-index-preserved c =
    let h = c.args.self.now in
    let s : ℕ = c.args.s.0 in
    let index : ℕ = c.loop-index.index in
    let members : List Ranked = c.loop-index.members.items in
    elim c.if-is_some.branch [
      | then-is_some+in_ok-push w ↦
          (let there : (n : ℕ) × (hop_count h s index ≡ Some n) = count_there (hop_count h s index) (ap (λ (o : Option ℕ). is_some o) (sym c.hop.ensures) ∙ sym c.is_some.ensures ∙ w.if-is_some.true) in
          let items : c.if-is_some.members.items ≡ members ++ (w.eccentricity.result, record { 0 = index }) ∷ [] = ap (λ (v : Vec Ranked Global). v.items) w.members-is ∙ w.in_ok-push.ensures.items in
          subst (λ xs. AreMembers h s (index + 1) xs) (sym items) (one_member_more h s index members c.loop-index.invariant there.0 w.eccentricity.result (record { 0 = index }) refl there.1 w.eccentricity.ensures))
      | else-is_some w ↦
          (let none : hop_count h s index ≡ None = count_missing (hop_count h s index) (ap (λ (o : Option ℕ). is_some o) (sym c.hop.ensures) ∙ sym c.is_some.ensures ∙ w.if-is_some.false) in
          subst (λ xs. AreMembers h s (index + 1) xs) (sym (ap (λ (v : Vec Ranked Global). v.items) w.members-is)) (no_member_more h s index members c.loop-index.invariant none))
    ]

pub returns : goal.returns
returns c =
    let h = c.args.self.now in
    let s : ℕ = c.args.s.0 in
    let members : List Ranked = c.loop-index.members.items in
    let sorted : List Ranked = c.sort_unstable.new.self.items in
    IfOk-weaker c.switches_of.result (λ order. order.items ≡ map (λ (pair : Ranked). pair.1) c.deref.result.now)
    (λ order. (t : Topology) → IsWellFormed t → AreHops t h → IsCentreOrder t s (map (λ (x : SwitchId). x.0) order.items))
    (λ order same t good hops.
    let numbers = ap (λ (xs : List SwitchId). map (λ (x : SwitchId). x.0) xs) (same ∙ ap (λ (xs : List Ranked). map (λ (pair : Ranked). pair.1) xs) c.deref.ensures.value) ∙ numbers_of sorted in
    let whole : c.loop-index.index ≡ length t.switches = omega (arith, hops.switches, c.switches-index-end.ensures) in
    subst (λ xs. IsCentreOrder t s xs) (sym numbers)
    (centre_order_found t good h hops s (omega (arith, hops.switches, c.requires)) members sorted (subst (λ n. AreMembers h s n members) whole c.loop-index.invariant)
    c.sort_unstable.ensures.permutation c.sort_unstable.ensures.sorted))
    c.switches_of.ensures
