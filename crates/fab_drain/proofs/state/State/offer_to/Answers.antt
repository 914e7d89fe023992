use Rattle.std.proofs.Common.{◌≡◌, ◌∙◌, ◌+◌, ◌<◌, ℕ, suc, List, length, not, sym, ap, subst, arith, Some, slice_get, slice_index_or}
use Rattle.std.proofs.lemmas.Bool.{both_ways, eqb-true}
use Rattle.std.proofs.lemmas.List.{get_or_default}
use Rattle.std.proofs.lemmas.Option.{same_Some, slice_get-get_or}
use Rattle.fab_model.specs.declared.rows.SwitchId.{SwitchId}
use Rattle.fab_model.specs.Topology.{Topology}
use Rattle.fab_model.specs.Connected.{AreConnected}
use Rattle.fab_model.specs.WellFormed.{IsFabric}
use Rattle.fab_tables.specs.declared.starts.Start.{Start}
use Rattle.fab_tables.specs.Starts.{AreStarts, IsOfTerminal}
use Rattle.fab_tables.proofs.Faults.RouteFaults.{apart_by}
use Rattle.fab_tables.proofs.Faults.StartFaults.{same_option}
use Rattle.fab_tables.proofs.Paths.FallingRoutes.{place_below}
use Rattle.fab_drain.specs.Offers.{IsFilledBefore, behind_starts}
use Rattle.fab_drain.proofs.OfferPlaces.{HasSource, to_start, from_start, all_starts, past_start, past_alike, past_lid}
use Rattle.fab_drain.proofs.state.State.offer_to.Goals as goal
use Rattle.fab_drain.proofs.state.State.offer_to.Goals.{then-are_connected, else-are_connected}

abbrev no_start : Start
no_start = record { switch = record { 0 = 0 }; port = 0 }

abbrev start_at : List Start → ℕ → Start
start_at starts k = slice_index_or starts k no_start

start_low : (t : Topology) (starts : List Start) (k : ℕ) → IsFabric t → AreStarts t starts → k < length starts → (start_at starts k).switch.0 < length t.switches
start_low t starts k is are low =
    let of : IsOfTerminal t (start_at starts k) = are.terminals k no_start low in
    subst (λ (x : Start). x.switch.0 < length t.switches) of.2 (subst (λ r. r.switch.0 < length t.switches) of.1.2 (is.rows.terminal_switches of.1.0 of.0 of.1.1))

pub returns-in_default : goal.returns-in_default
returns-in_default c = past_lid c.args.fabric.now c.args.plan.now c.args.lid.0 (sym c.place_of.ensures ∙ c.in_default.is) c.args.self.now c.requires.before

pub are_connected-requires-clause-first : goal.are_connected-requires-clause-first
are_connected-requires-clause-first c = omega (
  arith,
  ap (λ (t : Topology). length t.switches) c.requires.components,
  start_low c.args.fabric.now c.args.starts.now c.loop-start.start-index c.requires.before.is_load.fabric c.requires.starts c.loop-start-test.true,
)

pub are_connected-requires-clause-second : goal.are_connected-requires-clause-second
are_connected-requires-clause-second c =
    omega (arith, ap (λ (t : Topology). length t.switches) c.requires.components, place_below c.args.fabric.now c.requires.before.is_load.fabric.rows c.args.lid.0 c.in-Some.place (sym c.place_of.ensures ∙ c.in-Some.is))

pub offer_from-requires-clause-start : goal.offer_from-requires-clause-start
offer_from-requires-clause-start c = c.requires.starts.terminals c.loop-start.start-index no_start c.loop-start-test.true

pub offer_from-requires-clause-connected : goal.offer_from-requires-clause-connected
offer_from-requires-clause-connected c =
    let start = start_at c.args.starts.now c.loop-start.start-index in
    let joined : AreConnected c.args.components.now start.switch.0 c.in-Some.place.switch.0 = c.are_connected.ensures.0 c.if-are_connected.true in
    (c.in-Some.place, sym c.place_of.ensures ∙ c.in-Some.is, subst (λ t. AreConnected t start.switch.0 c.in-Some.place.switch.0) c.requires.components joined)

pub offer_from-requires-clause-before : goal.offer_from-requires-clause-before
offer_from-requires-clause-before c =
    let k = c.loop-start.start-index in
    to_start c.args.fabric.now c.args.plan.now c.args.lid.0 c.args.starts.now c.requires.before.is_load.fabric c.requires.starts k (start_at c.args.starts.now k)
    (slice_get-get_or c.args.starts.now k no_start c.loop-start-test.true) c.loop-start.self c.loop-start.invariant.filled

one_on : (t : Topology) → (P : ℕ → Type 0) (k : ℕ) → P (suc k) → P (k + 1)
one_on t P k x = let e : suc k ≡ k + 1 = omega arith in subst P e x

pub loop-start-init : goal.loop-start-init
loop-start-init c = record { within = omega arith; filled = c.requires.before; source = λ s e. cc }

pub loop-start-preserved-then-eq : goal.loop-start-preserved-then-eq
loop-start-preserved-then-eq c =
    let t = c.args.fabric.now in
    let p = c.args.plan.now in
    let lid = c.args.lid.0 in
    let starts = c.args.starts.now in
    let k = c.loop-start.start-index in
    let start = start_at starts k in
    let is = c.requires.before.is_load.fabric in
    let at : slice_get starts k ≡ Some start = slice_get-get_or starts k no_start c.loop-start-test.true in
    let source : c.loop-start.source ≡ Some start.switch =
    same_option _ (λ x y same. ap (λ n. record { 0 = n }) (eqb-true x.0 y.0 same)) c.loop-start.source start.switch (not c.eq.result) (ap not c.eq.ensures) (ap not c.if-eq.true) in
    let before : (m : ℕ) × (m < k) × ((d : Start) → (slice_index_or starts m d).switch ≡ start.switch) = c.loop-start.invariant.source start.switch source in
    record {
      within = omega (arith, c.loop-start-test.true);
      filled = one_on t (λ n. IsFilledBefore t p (behind_starts lid starts n) c.loop-start.self) k
          (from_start t p lid starts is c.requires.starts k start at c.loop-start.self
          (past_alike t p lid starts is c.requires.starts (c.are_alike-alike.ensures.0 c.if-alike.true) k start at before.0 before.1 (ap (λ (s : SwitchId). s.0) (before.2 start)) c.loop-start.self
          (to_start t p lid starts is c.requires.starts k start at c.loop-start.self c.loop-start.invariant.filled)));
      source = λ s e. (let has : (m : ℕ) × (m < k) × ((d : Start) → (slice_index_or starts m d).switch ≡ s) = c.loop-start.invariant.source s e in (has.0, omega (arith, has.1), has.2));
    }

pub loop-start-preserved : goal.loop-start-preserved
loop-start-preserved c =
    let t = c.args.fabric.now in
    let p = c.args.plan.now in
    let lid = c.args.lid.0 in
    let starts = c.args.starts.now in
    let k = c.loop-start.start-index in
    let start = start_at starts k in
    let is = c.requires.before.is_load.fabric in
    let at : slice_get starts k ≡ Some start = slice_get-get_or starts k no_start c.loop-start-test.true in
    let source : HasSource starts (k + 1) (Some start.switch) =
    λ s e. (k, omega arith, λ d. ap (λ (x : Start). x.switch) (get_or_default starts k d no_start c.loop-start-test.true) ∙ same_Some start.switch s e) in
    elim c.if-are_connected.branch [
      | then-are_connected w ↦
          rw w.self-is (record { within = omega (arith, c.loop-start-test.true); source = source; filled = one_on t (λ n. IsFilledBefore t p (behind_starts lid starts n) w.offer_from.new.self) k (from_start t p lid starts is c.requires.starts k start at w.offer_from.new.self w.offer_from.ensures) })
      | else-are_connected w ↦
          rw w.self-is (record {
            within = omega (arith, c.loop-start-test.true);
            source = source;
            filled = one_on t (λ n. IsFilledBefore t p (behind_starts lid starts n) c.loop-start.self) k
                (from_start t p lid starts is c.requires.starts k start at c.loop-start.self
                (past_start t p lid start
                (apart_by t lid c.in-Some.place start.switch.0 (sym c.place_of.ensures ∙ c.in-Some.is) (λ joined.
                both_ways c.are_connected.result w.if-are_connected.false
                (c.are_connected.ensures.1 (subst (λ x. AreConnected x start.switch.0 c.in-Some.place.switch.0) (sym c.requires.components) joined))))
                c.loop-start.self (to_start t p lid starts is c.requires.starts k start at c.loop-start.self c.loop-start.invariant.filled)));
          })
    ]

pub returns : goal.returns
returns c =
    let k = c.loop-start.start-index in
    let all : k ≡ length c.args.starts.now = omega (arith, c.loop-start-test.false, c.loop-start.invariant.within) in
    all_starts c.args.fabric.now c.args.plan.now c.args.lid.0 c.args.starts.now c.requires.before.is_load.fabric c.requires.starts c.loop-start.self
    (subst (λ n. IsFilledBefore c.args.fabric.now c.args.plan.now (behind_starts c.args.lid.0 c.args.starts.now n) c.loop-start.self) all c.loop-start.invariant.filled)
