-- Without maps of pairs of ports lanes do not depend on the port by which a packet came, and all starts of a source are alike.
use Rattle.std.proofs.Common.{◌≡◌, ℕ, ◌≤◌, List, [], ◌∷◌, refl, sym, ◌∙◌, ap, subst, inl, inr, arith, Some, None, Option, Contains, Bool, true, false, cond}
use Rattle.std.specs.Prelude.{slice_get, slice_index_or, find, ◌==◌, AllPairs}
use Rattle.std.specs.Cmp.{IsEquivalence, on_equiv, nat_eq_equiv}
use Rattle.std.specs.List.{dedup, dedup_from, Any}
use Rattle.std.proofs.lemmas.Bool.{eqb-true, cases_lt}
use Rattle.std.proofs.lemmas.List.Filters.{All-dedup}
use Rattle.std.proofs.lemmas.List.Kept.{Any-dedup, Contains-from_dedup}
use Rattle.fab_model.specs.declared.rows.ChannelRow.{ChannelRow}
use Rattle.fab_model.specs.declared.rows.TerminalRow.{TerminalRow}
use Rattle.fab_model.specs.Topology.{Topology}
use Rattle.fab_model.proofs.Lists.Members.{Pairs, AllPairs_from_pairs, pairs_from_AllPairs, Contains_from_in, in_from_Contains}
use Rattle.fab_tables.specs.declared.starts.Start.{Start}
use Rattle.fab_tables.specs.declared.verdict.VirtualChannel.{VirtualChannel}
use Rattle.fab_tables.specs.LaneTables.{LaneTables, lane, lane_of_pair, is_pair}
use Rattle.fab_tables.specs.Reading.{level_read, lane_read}
use Rattle.fab_tables.specs.Starts.{start_of, StartsNotAfter, IsInOrder, IsOfTerminal, AreStarts}
use Rattle.fab_transit.specs.declared.faults.Fault.{Fault}
use Rattle.fab_transit.specs.declared.mixed.Side.{Side}
use Rattle.fab_transit.specs.declared.walks.Walks.{Walks}
use Rattle.fab_transit.specs.MixedWalks.{Change, plan_of, bound, Standing, lane_for, lane_along, MayTake}
use Rattle.fab_transit.specs.Finding.{Findings}
use Rattle.fab_transit.specs.Standing.{pairs_read, HasNoPairs, StandsIn, AreStanding}
use Rattle.fab_transit.specs.Walking.{IsWrong, IsSeen, BeginsFrom}

lane_alike : (l : Option LaneTables) → pairs_read l ≡ [] → (s from other to n : ℕ) → lane_read l s from to n ≡ lane_read l s other to n
lane_alike None none s from other to n = refl
lane_alike (Some l) none s from other to n =
    ap (λ rows. lane_of_pair (find (is_pair s from to) rows) n (lane l s n)) none ∙ sym (ap (λ rows. lane_of_pair (find (is_pair s other to) rows) n (lane l s n)) none)

module _ (t : Topology) (m : Change) (lid of_level : ℕ) (none : HasNoPairs m) (s from other : ℕ) where
  abbrev here : Standing
  here = record { at = s; from = from }

  abbrev there : Standing
  there = record { at = s; from = other }

  row_alike : (side : Side) (row : Option ChannelRow) → lane_for m side of_level here row ≡ lane_for m side of_level there row
  row_alike side None = refl
  row_alike side (Some row) = lane_alike (plan_of m side).lanes (none side) s from other row.port of_level

  along_alike : (side : Side) (c : ℕ) → lane_along t m side of_level here c ≡ lane_along t m side of_level there c
  along_alike side c = row_alike side (slice_get t.channels c)

  takes_alike : (v : VirtualChannel) → MayTake t m lid of_level there v → MayTake t m lid of_level here v
  takes_alike v x = record { enters = x.enters; map_side = x.map_side; mapped = along_alike x.map_side v.channel.0 ∙ x.mapped; good = x.good }

  wrong_alike : (x : Fault) → IsWrong t m lid of_level there x → IsWrong t m lid of_level here x
  wrong_alike x (side, inl lost) = (side, inl lost)
  wrong_alike x (side, inr (c, along, (map_side, (is, bad)))) = (side, inr (c, along, (map_side, (is, subst (λ n. bound m ≤ n) (sym (along_alike map_side c)) bad))))

  seen_alike : (f : Findings) (w : Walks) → IsSeen t m lid of_level here None f w → IsSeen t m lid of_level there None f w
  seen_alike f w seen = record {
    taken = λ v takes. seen.taken v (takes_alike v takes);
    used = λ v takes. seen.used v (takes_alike v takes);
    pairs = λ v n takes held. seen.pairs v n (takes_alike v takes) held;
    faults = λ x wrong. seen.faults x (wrong_alike x wrong);
  }

pub same_switch : (m : Change) (start : Start) (p : TerminalRow) → StandsIn m start p → start.switch.0 ≡ p.switch.0
same_switch m start p (inl own) = ap (λ (s : Start). s.switch.0) own
same_switch m start p (inr (same, none)) = same

-- what is begun at a start is begun at all for which it stands
pub begins_alike : (t : Topology) (m : Change) (lid : ℕ) (start : Start) (p : TerminalRow) (side : Side) (f : Findings) (w : Walks) → StandsIn m start p →
    BeginsFrom t m lid start side f w → BeginsFrom t m lid (start_of p) side f w
begins_alike t m lid start p side f w (inl own) begun = subst (λ (s : Start). BeginsFrom t m lid s side f w) own begun
begins_alike t m lid start p side f w (inr (same, none)) begun = λ of_level is.
    seen_alike t m lid of_level none p.switch.0 start.port p.port f w
    (subst (λ s. IsSeen t m lid of_level (record { at = s; from = start.port }) None f w) same
    (begun of_level (subst (λ s. level_read (plan_of m side).lanes s lid ≡ Some of_level) (sym same) is)))

-- all starts stand for all terminals
pub all_stand : (t : Topology) (m : Change) (starts : List Start) → AreStarts t starts → AreStanding t m starts
all_stand t m starts are = record {
  in_order = are.in_order;
  terminals = are.terminals;
  all = λ k d low. (start_of (slice_index_or t.terminals k d), are.all k d low, inl refl);
}

abbrev pub same_source : Start → Start → Bool
same_source a b = a.switch.0 == b.switch.0

equivalence : IsEquivalence same_source
equivalence = on_equiv (λ (s : Start). s.switch.0) nat_eq_equiv

-- each two of those that are kept were there before
pairs_kept : {X : Type 0} (same : X → X → Bool) (R : X → X → Type 0) (x : X) (xs : List X) → Pairs R (x ∷ xs) → Pairs R (dedup_from same x xs)
pairs_kept same R x [] pairs = pairs
pairs_kept {X} same R x (y ∷ ys) pairs = elim (same y x) as (λ v. Pairs R (cond v (dedup_from same x ys) (x ∷ dedup_from same y ys))) [
  | true ↦ pairs_kept same R x ys (λ z within. pairs.0 z (inr within), pairs.1.1)
  | false ↦ (λ z within. pairs.0 z (in_from_Contains (y ∷ ys) z (Contains-from_dedup same (y ∷ ys) z (Contains_from_in (dedup_from same y ys) z within))), pairs_kept same R y ys pairs.1)
]

all_kept : {X : Type 0} (same : X → X → Bool) (R : X → X → Type 0) (xs : List X) → Pairs R xs → Pairs R (dedup same xs)
all_kept same R [] pairs = pairs
all_kept same R (x ∷ xs) pairs = pairs_kept same R x xs pairs

firsts_in_order : (starts : List Start) → IsInOrder starts → IsInOrder (dedup same_source starts)
firsts_in_order starts ordered i j d not_after within = elim (cases_lt i j) [
  | inl before ↦ AllPairs_from_pairs StartsNotAfter (dedup same_source starts) (all_kept same_source StartsNotAfter starts (pairs_from_AllPairs StartsNotAfter starts earlier)) i j d before within
  | inr past ↦
      (let one : i ≡ j = omega (arith, not_after, past) in
      inr (ap (λ k. (slice_index_or (dedup same_source starts) k d).switch.0) one, omega (arith, ap (λ k. (slice_index_or (dedup same_source starts) k d).port) one)))
]
  where
    earlier : AllPairs StartsNotAfter starts
    earlier k l e before low = ordered k l e (omega (arith, before)) low

-- and without maps of pairs the first of each source
pub firsts_stand : (t : Topology) (m : Change) → HasNoPairs m → (starts : List Start) → AreStarts t starts → AreStanding t m (dedup same_source starts)
firsts_stand t m none starts are = record {
  in_order = firsts_in_order starts are.in_order;
  terminals = All-dedup same_source (IsOfTerminal t) starts are.terminals;
  all = λ k d low. stands (slice_index_or t.terminals k d) (Any-dedup equivalence starts (start_of (slice_index_or t.terminals k d)) (are.all k d low));
}
  where
    stands : (row : TerminalRow) → Any (λ y. same_source (start_of row) y ≡ true) (dedup same_source starts) → (start : Start) × Contains (dedup same_source starts) start × StandsIn m start row
    stands row any = (any.1, (any.0, any.2, any.3), inr (sym (eqb-true row.switch.0 any.1.switch.0 any.4), none))
