-- The first fault that is noted is the first of all; where none is, there is none.
use Rattle.std.proofs.Common.{◌≡◌, ℕ, List, refl, sym, subst, inl, inr, Some, None, Option, Result}
use Rattle.std.specs.Prelude.{IfOk}
use Rattle.fab_model.specs.declared.rows.Lid.{Lid}
use Rattle.fab_model.specs.declared.rows.SwitchId.{SwitchId}
use Rattle.fab_model.specs.Topology.{Topology}
use Rattle.fab_tables.specs.declared.end.End.{End}
use Rattle.fab_tables.specs.First.{IsBefore, IsFirst}
use Rattle.fab_transit.specs.declared.mixed.Side.{Side}
use Rattle.fab_transit.specs.declared.mixed.Mixed.{Mixed}
use Rattle.fab_transit.specs.declared.mixed.Mixed.TheVariants.{Numbers, NoLevel, Lost, BadLane, RingMixed}
use Rattle.fab_transit.specs.declared.faults.Wrong.TheVariants.{Entry, Lane}
use Rattle.fab_transit.specs.declared.faults.Fault.{Fault}
use Rattle.fab_transit.specs.declared.walks.Walks.{Walks}
use Rattle.fab_transit.specs.MixedWalks.{Change}
use Rattle.fab_transit.specs.Answers.{IsLostAt, IsBadAt, IsFaultAt, HasNoFault, IsAnswerTo}
use Rattle.fab_transit.specs.Changing.{Changing}
use Rattle.fab_transit.specs.Faults.{place_of_fault, mixed_of, IsNoted}
use Rattle.fab_transit.specs.Levels.{HasAllLevels}
use Rattle.fab_transit.specs.Walking.{AreWalks}

-- a first fault is the answer
pub fault_answers : (t : Topology) (m : Change) (fault : Mixed) → IsFirst (IsFaultAt t m) fault → IsAnswerTo t m fault
fault_answers t m (Numbers l) first = absurd first.1
fault_answers t m (RingMixed r) first = absurd first.1
fault_answers t m (NoLevel lid source side) first = first
fault_answers t m (Lost lid at side end) first = first
fault_answers t m (BadLane lid at side) first = first

module _ (t : Topology) (m : Change) (w : Walks) (levels : HasAllLevels t m) (are : AreWalks t m w) where
  -- a fault that a walk comes to is noted
  lost_noted : (lid : Lid) (at : SwitchId) (side : Side) (end : End) → IsLostAt t m lid.0 at.0 side end → IsNoted w.fault (record { wrong = Entry end; lid = lid; at = at; side = side })
  lost_noted lid at side end lost = (are.has lid.0).faults lost.of_level (record { at = at.0; from = lost.from }) (record { wrong = Entry end; lid = lid; at = at; side = side }) lost.comes
      (side, inl (end, lost.stops, lost.lost, refl))

  bad_noted : (lid : Lid) (at : SwitchId) (side : Side) → IsBadAt t m lid.0 at.0 side → IsNoted w.fault (record { wrong = Lane; lid = lid; at = at; side = side })
  bad_noted lid at side bad = (are.has lid.0).faults bad.of_level (record { at = at.0; from = bad.from }) (record { wrong = Lane; lid = lid; at = at; side = side }) bad.comes
      (bad.enters.0, inr (bad.channel, bad.enters.1, (side, (refl, bad.bad))))

  -- so every fault is one that is noted, at its place
  each_noted : (place : List ℕ) (other : Mixed) → IsFaultAt t m place other → (x : Fault) × (place ≡ place_of_fault x) × IsNoted w.fault x
  each_noted place (Numbers l) f = absurd f
  each_noted place (RingMixed r) f = absurd f
  each_noted place (NoLevel lid source side) f = absurd (levels lid.0 source.0 side f.1)
  each_noted place (Lost lid at side end) f = (record { wrong = Entry end; lid = lid; at = at; side = side }, f.0, lost_noted lid at side end f.1)
  each_noted place (BadLane lid at side) f = (record { wrong = Lane; lid = lid; at = at; side = side }, f.0, bad_noted lid at side f.1)

  none_noted : (o : Option Fault) → o ≡ None → (x : Fault) → IsNoted o x → ⊥
  none_noted None e x noted = noted
  none_noted (Some f) e x noted = cc

  pub no_fault : w.fault ≡ None → HasNoFault t m
  no_fault none place other f = let x = each_noted place other f in none_noted w.fault none x.0 x.2

  pub first_noted : (x : Fault) → w.fault ≡ Some x → IsFirst (IsFaultAt t m) (mixed_of x)
  first_noted x is = (place_of_fault x, are.from_walks.fault x is, before)
    where
      before : (earlier : List ℕ) (other : Mixed) → IsBefore earlier (place_of_fault x) → ¬ IsFaultAt t m earlier other
      before earlier other less f =
          let y = each_noted earlier other f in
          let noted : IsNoted (Some x) y.0 = subst (λ o. IsNoted o y.0) is y.2 in
          noted (subst (λ p. IsBefore p (place_of_fault x)) y.1 less)

-- one that is noted answers the change, which may be seen otherwise
pub noted_answers : (g h : Changing) → g ≡ h → (w : Walks) → HasAllLevels g.fabric g.change → AreWalks g.fabric g.change w → (x : Fault) → w.fault ≡ Some x → (y : Mixed) → y ≡ mixed_of x → IsAnswerTo h.fabric h.change y
noted_answers g h same w levels are x is y answer =
    subst (λ (c : Changing). IsAnswerTo c.fabric c.change y) same
    (subst (λ z. IsAnswerTo g.fabric g.change z) (sym answer) (fault_answers g.fabric g.change (mixed_of x) (first_noted g.fabric g.change w levels are x is)))

pub same_answer : {E : Type 0} (g h : Changing) → g ≡ h → (r : Result Mixed E) → IfOk r (IsAnswerTo g.fabric g.change) → IfOk r (IsAnswerTo h.fabric h.change)
same_answer g h same r answer = subst (λ (c : Changing). IfOk r (IsAnswerTo c.fabric c.change)) same answer
