-- From the first fault to the refusal, or to a sound plan.
use Rattle.std.proofs.Common.{◌≡◌, ℕ, ◌<◌, List, [], ◌∷◌, refl, sym, subst, inl, inr, ◌⊎◌, arith, Some, None, Option, slice_get}
use Rattle.std.specs.Prelude.{IsSome, is_some, false, MatchOption}
use Rattle.std.proofs.lemmas.Bool.{cases_lt}
use Rattle.std.proofs.lemmas.Option.{same_Some, none-some}
use Rattle.fab_model.specs.declared.rows.ChannelRow.{ChannelRow}
use Rattle.fab_model.specs.declared.rows.TerminalRow.{TerminalRow}
use Rattle.fab_model.specs.Topology.{Topology, lid_id}
use Rattle.fab_tables.specs.declared.verdict.VirtualChannel.{VirtualChannel}
use Rattle.fab_tables.specs.declared.verdict.Verdict.{Verdict}
use Rattle.fab_tables.specs.declared.verdict.Verdict.TheVariants.{Routes, Lanes, Unreached, NoLevel, BadLane, NoNumber, NotRising}
use Rattle.fab_tables.specs.Entries.{Entries}
use Rattle.fab_tables.specs.LaneTables.{LaneTables, level}
use Rattle.fab_tables.specs.VirtualChannels.{virtual_channels}
use Rattle.fab_tables.specs.Dependencies.{IsPath}
use Rattle.fab_tables.specs.Certified.{Reaches}
use Rattle.fab_tables.specs.Verdicts.{IsHop, IsLaneFaultAt, IsFaultAt, IsStructural, IsRefusal}
use Rattle.fab_tables.proofs.Verdicts.CertifiedLaws.{get_of}
use Rattle.fab_tables.proofs.Faults.Reached.{all_reached}
use Rattle.fab_tables.proofs.Verdicts.PlainLaws.{source_of}
use Rattle.fab_tables.specs.First.{IsBefore, IsFirst, FindsFirst}
use Rattle.fab_tables.proofs.Faults.RouteFaults.{IsUnreached, unreached}
use Rattle.fab_tables.proofs.Faults.StartFaults.{IsOfLid, of_lid}
use Rattle.fab_tables.specs.LaneFaults.{IsStructuralAt}
use Rattle.fab_certify.specs.Numbered.{IsSound}
use Rattle.fab_certify.proofs.Collected.HopChannels.{row_of}

module _ (t : Topology) (e : Entries) (l : LaneTables) where
  -- what can be refused
  abbrev pub IsRefused : List ℕ → Verdict → Type 0
  IsRefused place fault = IsStructural fault × IsFaultAt t e (Some l) place fault

  -- a fault of a route, or a structural one of the lanes
  pub either : (place : List ℕ) (fault : Verdict) → IsRefused place fault → IsFaultAt t e None place fault ⊎ IsStructuralAt t e l place fault
  either place (Unreached lid s end) f = inl f.1
  either place Routes f = absurd f.1.2
  either place Lanes f = absurd f.1.2
  either place (NoLevel a b) f = inr (tt, subst (λ m. IsLaneFaultAt t e m place (NoLevel a b)) (sym (same_Some l f.1.0 f.1.1)) f.1.2)
  either place (BadLane a b c) f = inr (tt, subst (λ m. IsLaneFaultAt t e m place (BadLane a b c)) (sym (same_Some l f.1.0 f.1.1)) f.1.2)
  either place (NoNumber a b c) f = absurd f.0
  either place (NotRising a b c d m n) f = absurd f.0

  pub of_route : (place : List ℕ) (fault : Verdict) → IsFaultAt t e None place fault → IsRefused place fault
  of_route place (Unreached lid s end) f = (tt, f)
  of_route place Routes f = absurd (none-some f.0 f.1)
  of_route place Lanes f = absurd (none-some f.0 f.1)
  of_route place (NoLevel a b) f = absurd (none-some f.0 f.1)
  of_route place (BadLane a b c) f = absurd (none-some f.0 f.1)
  of_route place (NoNumber a b c) f = absurd (none-some f.0 f.1)
  of_route place (NotRising a b c d m n) f = absurd (none-some f.0 f.1)

  pub of_lanes : (place : List ℕ) (fault : Verdict) → IsStructuralAt t e l place fault → IsRefused place fault
  of_lanes place (Unreached lid s end) f = absurd f.1
  of_lanes place Routes f = absurd f.1
  of_lanes place Lanes f = absurd f.1
  of_lanes place (NoLevel a b) f = (tt, (l, refl, f.1))
  of_lanes place (BadLane a b c) f = (tt, (l, refl, f.1))
  of_lanes place (NoNumber a b c) f = absurd f.0
  of_lanes place (NotRising a b c d m n) f = absurd f.0

  -- those of the lanes come later
  later : (m n : ℕ) (ms ns : List ℕ) → m ≡ 1 → n ≡ 0 → ¬ IsBefore (m ∷ ms) (n ∷ ns)
  later m n ms ns one nought (inl less) = omega (arith, one, nought, less)
  later m n ms ns one nought (inr same) = omega (arith, one, nought, same.0)

  lane_later : (place earlier : List ℕ) (fault other : Verdict) → IsFaultAt t e None place fault → IsStructuralAt t e l earlier other → ¬ IsBefore earlier place
  lane_later place earlier fault other f g before =
      let x : IsUnreached t e place = unreached t e place fault f in
      let y : IsOfLid t e l earlier = of_lid t e l earlier other g.1 in
      later 1 0 (y.0 ∷ y.1 ∷ y.2) (x.0 ∷ x.1 ∷ []) refl refl (subst (λ xs. IsBefore xs (0 ∷ x.0 ∷ x.1 ∷ [])) y.3 (subst (λ xs. IsBefore earlier xs) x.2 before))

  pub unreached_is_refusal : (fault : Verdict) → IsFirst (IsFaultAt t e None) fault → IsRefusal t e l fault
  unreached_is_refusal fault first = (first.0, of_route first.0 fault first.1, before)
    where
      before : (earlier : List ℕ) (other : Verdict) → IsBefore earlier first.0 → ¬ IsRefused earlier other
      before earlier other comes f = elim (either earlier other f) [ inl x ↦ first.2 earlier other comes x | inr y ↦ lane_later first.0 earlier fault other first.1 y comes ]

  -- where all routes are delivered, the lanes decide
  module _ (reached : FindsFirst (IsFaultAt t e None) None) where
    pub lane_fault_is_refusal : (fault : Verdict) → IsFirst (IsStructuralAt t e l) fault → IsRefusal t e l fault
    lane_fault_is_refusal fault first = (first.0, of_lanes first.0 fault first.1, before)
      where
        before : (earlier : List ℕ) (other : Verdict) → IsBefore earlier first.0 → ¬ IsRefused earlier other
        before earlier other comes f = elim (either earlier other f) [ inl x ↦ reached earlier other x | inr y ↦ first.2 earlier other comes y ]

    module _ (none : FindsFirst (IsStructuralAt t e l) None) where
      leveled : (p : TerminalRow) (lid : ℕ) → IsPath t p lid → (o : Option ℕ) → level l p.switch.0 lid ≡ o → IsSome o
      leveled p lid path (Some n) is = refl
      leveled p lid path None is =
          absurd (none (1 ∷ lid ∷ p.switch.0 ∷ []) (NoLevel (lid_id lid) p.switch) (tt, (refl, source_of t.terminals p path.terminal.0 path.terminal.1 path.terminal.2, path.connected, is)))

      -- no fault is left
      pub is_sound : IsSound t e l
      is_sound = record {
        reaches = all_reached t e reached;
        level = λ p lid path. leveled p lid path (level l p.switch.0 lid) refl;
        lane = λ v u. lane_low v u.0 u.1 u.3.0 u.2 (get_of (virtual_channels t e l u.0 u.1) u.3.0 v u.3.1 u.3.2);
      }
        where
          lane_low : (v : VirtualChannel) (p : TerminalRow) (lid k : ℕ) → IsPath t p lid → slice_get (virtual_channels t e l p lid) k ≡ Some v → v.lane < l.count
          lane_low v p lid k path at = elim (cases_lt v.lane l.count) [
            | inl low ↦ low
            | inr high ↦
                (let row : (row : ChannelRow) × (slice_get t.channels v.channel.0 ≡ Some row) = row_of t e l p lid k v at in
                let hop : IsHop t e l lid p.switch.0 p.port k v = record { terminal = p; path = path; of_source = refl; at_port = refl; at_hop = at } in
                absurd (none (1 ∷ lid ∷ p.switch.0 ∷ p.port ∷ k ∷ 0 ∷ []) (BadLane (lid_id lid) p.switch row.0.tail) (tt, (p.port, k, v, refl, hop, (row.0, row.1, refl), high))))
          ]

  -- what the two searches find
  pub unreached_found : (o : Option Verdict) → IsSome o → FindsFirst (IsFaultAt t e None) o → MatchOption o (IsSound t e l) (IsRefusal t e l)
  unreached_found None some found = cc
  unreached_found (Some fault) some found = unreached_is_refusal fault found

  pub lane_fault_found : (first o : Option Verdict) → is_some first ≡ false → FindsFirst (IsFaultAt t e None) first → FindsFirst (IsStructuralAt t e l) o → MatchOption o (IsSound t e l) (IsRefusal t e l)
  lane_fault_found (Some fault) o none reached found = cc
  lane_fault_found None None none reached found = is_sound reached found
  lane_fault_found None (Some fault) none reached found = lane_fault_is_refusal reached fault found

pub reached : (t : Topology) (e : Entries) (first : Option Verdict) → is_some first ≡ false → FindsFirst (IsFaultAt t e None) first → Reaches t e
reached t e (Some fault) none found = cc
reached t e None none found = all_reached t e found
