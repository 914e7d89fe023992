-- The search goes on behind each virtual channel that is found, one after the other.
use Rattle.std.proofs.Common.{◌≡◌, ℕ, ◌+◌, ◌<◌, ◌≤◌, length, refl, sym, ◌∙◌, ap, subst, inl, inr, arith, Contains, Some, None, slice_get}
use Rattle.std.proofs.lemmas.Bool.{cases_lt}
use Rattle.std.proofs.lemmas.Option.{same_Some, none-some, slice_get_within, slice_get-get_or, get_or_from_slice_get}
use Rattle.fab_model.specs.Topology.{Topology}
use Rattle.fab_tables.specs.Dependencies.{node_of}
use Rattle.fab_tables.proofs.Verdicts.DeadlockLaws.{some_at}
use Rattle.fab_transit.specs.declared.found.Taken.{Taken}
use Rattle.fab_transit.specs.declared.walks.Packet.{Packet}
use Rattle.fab_transit.specs.declared.walks.Walks.{Walks}
use Rattle.fab_transit.specs.MixedWalks.{Change, bound, Standing, ComesTo, standing_after}
use Rattle.fab_transit.specs.Changing.{standing_of}
use Rattle.fab_transit.specs.Finding.{Findings}
use Rattle.fab_transit.specs.Walking.{Takes, IsWrong, Keeps, LooksAt, IsTakenOn, AreFromWalks, AreFoundFor, AreBegun, IsSeenBehind, HasWalks}
use Rattle.fab_transit.proofs.WalkSteps.{comes_further}
use Rattle.fab_transit.proofs.Looking.{keeps_on}
use Rattle.fab_transit.proofs.Seeing.{from_still, found_still, is_seen, seen_still, has_walks}
use Rattle.fab_transit.proofs.Beginning.{begun_still}

-- all behind the virtual channels at the places so far is seen
pub record IsGoingOn (t : Topology) (m : Change) (lid : ℕ) (old : Walks) (f : Findings) (w : Walks) (place : ℕ) : Type 0 where
  pub from : AreFromWalks t m w
  pub found : AreFoundFor t m lid f
  pub begun : AreBegun t m lid f w
  pub keeps : Keeps old w
  pub low : place ≤ length f.taken
  pub seen : (k : ℕ) (x : Taken) → k < place → slice_get f.taken k ≡ Some x → IsSeenBehind t m lid f w x

module _ (t : Topology) (m : Change) (lid : ℕ) where
  -- what a packet at the end of a virtual channel may do
  pub looked_behind : (p : Packet) (x : Taken) (f g : Findings) (w y : Walks) → p.lid.0 ≡ lid → p.level ≡ x.level → standing_of p.here ≡ standing_after t x.hop.channel.0 → p.held ≡ Some (node_of (bound m) x.hop) →
      LooksAt (Takes t m p.lid.0 p.level (standing_of p.here)) (IsWrong t m p.lid.0 p.level (standing_of p.here)) m p.level p.held f g w y →
      LooksAt (Takes t m lid x.level (standing_after t x.hop.channel.0)) (IsWrong t m lid x.level (standing_after t x.hop.channel.0)) m x.level (Some (node_of (bound m) x.hop)) f g w y
  looked_behind p x f g w y a b c d looks =
      subst (λ h. LooksAt (Takes t m lid x.level (standing_after t x.hop.channel.0)) (IsWrong t m lid x.level (standing_after t x.hop.channel.0)) m x.level h f g w y) d
      (subst (λ (s : Standing). LooksAt (Takes t m lid x.level s) (IsWrong t m lid x.level s) m x.level p.held f g w y) c
      (subst (λ (n : ℕ). LooksAt (Takes t m lid n (standing_of p.here)) (IsWrong t m lid n (standing_of p.here)) m n p.held f g w y) b
      (subst (λ (n : ℕ). LooksAt (Takes t m n p.level (standing_of p.here)) (IsWrong t m n p.level (standing_of p.here)) m p.level p.held f g w y) a looks)))

  module _ (old : Walks) (f g : Findings) (w y : Walks) (place : ℕ) (on : IsGoingOn t m lid old f w place) (x : Taken) (at : slice_get f.taken place ≡ Some x)
      (looks : LooksAt (Takes t m lid x.level (standing_after t x.hop.channel.0)) (IsWrong t m lid x.level (standing_after t x.hop.channel.0)) m x.level (Some (node_of (bound m) x.hop)) f g w y) where
    taken_on : IsTakenOn t m lid x
    taken_on = on.found.taken x (place, slice_get_within f.taken place x at, get_or_from_slice_get f.taken place x x at)

    comes : ComesTo t m lid x.level (standing_after t x.hop.channel.0)
    comes = comes_further t m lid x.level taken_on.0 x.hop taken_on.1 taken_on.2

    holds : (n : ℕ) → Some (node_of (bound m) x.hop) ≡ Some n →
        (z : Taken) × IsTakenOn t m lid z × (z.level ≡ x.level) × (standing_after t x.hop.channel.0 ≡ standing_after t z.hop.channel.0) × (node_of (bound m) z.hop ≡ n)
    holds n e = (x, taken_on, refl, refl, same_Some (node_of (bound m) x.hop) n e)

    pub one_more_seen : IsGoingOn t m lid old g y (place + 1)
    one_more_seen = record {
      from = from_still t m lid x.level (standing_after t x.hop.channel.0) comes (Some (node_of (bound m) x.hop)) holds f g w y looks on.from;
      found = found_still t m lid x.level (standing_after t x.hop.channel.0) comes (Some (node_of (bound m) x.hop)) holds f g w y looks on.found;
      begun = begun_still t m lid f g w y looks.advances on.begun;
      keeps = keeps_on old w y on.keeps looks.advances.keeps;
      low = omega (arith, slice_get_within f.taken place x at, looks.advances.found.longer);
      seen = seen;
    }
      where
        seen : (k : ℕ) (z : Taken) → k < place + 1 → slice_get g.taken k ≡ Some z → IsSeenBehind t m lid g y z
        seen k z low there = elim (cases_lt k place) [
          | inl less ↦
              seen_still t m lid z.level (standing_after t z.hop.channel.0) (Some (node_of (bound m) z.hop)) f g w y looks.advances
              (on.seen k z less (sym (looks.advances.found.kept k (omega (arith, less, on.low))) ∙ there))
          | inr same ↦
              (let eq : place ≡ k = omega (arith, low, same) in
              let within : place < length f.taken = slice_get_within f.taken place x at in
              let one : x ≡ z = same_Some x z (sym at ∙ sym (looks.advances.found.kept place within) ∙ ap (λ n. slice_get g.taken n) eq ∙ there) in
              subst (λ (u : Taken). IsSeenBehind t m lid g y u) one
              (is_seen t m lid x.level (standing_after t x.hop.channel.0) comes (Some (node_of (bound m) x.hop)) holds f g w y looks))
        ]

  -- where none is left all walks are seen
  pub all_seen : (old : Walks) (f : Findings) (w : Walks) (place : ℕ) → IsGoingOn t m lid old f w place → slice_get f.taken place ≡ None → HasWalks t m lid w
  all_seen old f w place on none = has_walks t m lid f w on.begun behind
    where
      past : length f.taken ≤ place
      past = elim (cases_lt place (length f.taken)) [
        | inl within ↦ (let x = some_at f.taken place within in absurd (none-some x.0 (sym none ∙ x.1)))
        | inr h ↦ h
      ]

      behind : (x : Taken) → Contains f.taken x → IsSeenBehind t m lid f w x
      behind x has = on.seen has.0 x (omega (arith, past, has.1)) (slice_get-get_or f.taken has.0 x has.1 ∙ ap (λ (z : Taken). Some z) has.2)
