-- The walks to a LID begin at the starts, one after the other.
use Rattle.std.proofs.Common.{◌≡◌, ℕ, ◌+◌, ◌<◌, ◌≤◌, List, length, refl, sym, ◌∙◌, ap, subst, inl, inr, arith, Contains, Some, None, Result, Ok, Err, slice_get, []}
use Rattle.std.specs.Prelude.{OnOk}
use Rattle.std.proofs.lemmas.Bool.{cases_lt}
use Rattle.std.proofs.lemmas.List.Elements.{All-contains}
use Rattle.std.proofs.lemmas.Option.{same_Some, none-some, slice_get-get_or}
use Rattle.fab_model.specs.Topology.{Topology}
use Rattle.fab_model.specs.Connected.{IsConnectedTo}
use Rattle.fab_tables.specs.declared.starts.Start.{Start}
use Rattle.fab_tables.specs.Starts.{start_of, IsOfTerminal}
use Rattle.fab_tables.specs.Reading.{level_read}
use Rattle.fab_tables.specs.Dependencies.{node_of}
use Rattle.fab_transit.specs.declared.mixed.Side.{Side}
use Rattle.fab_transit.specs.declared.mixed.Side.TheVariants.{Old, New}
use Rattle.fab_transit.specs.declared.walks.Walks.{Walks}
use Rattle.fab_transit.specs.MixedWalks.{Change, plan_of, ComesTo, standing_after}
use Rattle.fab_transit.specs.Changing.{standing_of}
use Rattle.fab_transit.specs.Finding.{Findings}
use Rattle.fab_transit.specs.Standing.{AreStanding, StandsIn}
use Rattle.fab_transit.proofs.Alike.{begins_alike, same_switch}
use Rattle.fab_transit.specs.Walking.{Takes, IsWrong, Advances, LooksAt, IsTakenOn, AreFromWalks, AreFoundFor, IsSeen, BeginsFrom, AreBegun}
use Rattle.fab_transit.proofs.Seeing.{from_still, found_still, is_seen, seen_still}
use Rattle.fab_transit.specs.MixedWalks.{bound}
use Rattle.fab_transit.specs.declared.found.Taken.{Taken}

-- the walks begin at the starts before this one, where they are connected
abbrev pub AreBegunUpTo : Topology → Change → ℕ → List Start → ℕ → Findings → Walks → Type 0
AreBegunUpTo t m lid starts index f w =
    (k : ℕ) (start : Start) → k < index → slice_get starts k ≡ Some start → IsConnectedTo t start.switch.0 lid → (side : Side) → BeginsFrom t m lid start side f w

module _ (t : Topology) (m : Change) (lid : ℕ) where
  pub begins_still : (start : Start) (side : Side) (f g : Findings) (w x : Walks) → Advances f g w x → BeginsFrom t m lid start side f w → BeginsFrom t m lid start side g x
  begins_still start side f g w x a begins of_level is = seen_still t m lid of_level (standing_of start) None f g w x a (begins of_level is)

  pub begun_still : (f g : Findings) (w x : Walks) → Advances f g w x → AreBegun t m lid f w → AreBegun t m lid g x
  begun_still f g w x a begun p side path = begins_still (start_of p) side f g w x a (begun p side path)

  pub both_sides : (start : Start) (f : Findings) (w : Walks) → BeginsFrom t m lid start Old f w → BeginsFrom t m lid start New f w → (side : Side) → BeginsFrom t m lid start side f w
  both_sides start f w old new Old = old
  both_sides start f w old new New = new

  module _ (starts : List Start) (index : ℕ) (start : Start) (at : slice_get starts index ≡ Some start) (f g : Findings) (w x : Walks) (a : Advances f g w x) (before : AreBegunUpTo t m lid starts index f w) where
    pub one_start_more : (IsConnectedTo t start.switch.0 lid → (side : Side) → BeginsFrom t m lid start side g x) → AreBegunUpTo t m lid starts (index + 1) g x
    one_start_more here k other low there connected side = elim (cases_lt k index) [
      | inl less ↦ begins_still other side f g w x a (before k other less there connected side)
      | inr same ↦
          (let eq : index ≡ k = omega (arith, low, same) in
          let one : start ≡ other = same_Some start other (sym at ∙ ap (λ n. slice_get starts n) eq ∙ there) in
          subst (λ (y : Start). IsConnectedTo t y.switch.0 lid → BeginsFrom t m lid y side g x) one (λ c. here c side) connected)
    ]

  pub all_begun : (starts : List Start) → AreStanding t m starts → (index : ℕ) → length starts ≤ index → (f : Findings) (w : Walks) → AreBegunUpTo t m lid starts index f w → AreBegun t m lid f w
  all_begun starts are index past f w begun p side path =
      let stands : (start : Start) × Contains starts start × StandsIn m start p = All-contains (λ row. (start : Start) × Contains starts start × StandsIn m start row) t.terminals p are.all path.terminal in
      let start : Start = stands.0 in
      let has : Contains starts start = stands.1 in
      begins_alike t m lid start p side f w stands.2 (
      begun has.0 start (omega (arith, past, has.1)) (slice_get-get_or starts has.0 start has.1 ∙ ap (λ (s : Start). Some s) has.2)
      (subst (λ x. IsConnectedTo t x lid) (sym (same_switch m start p stands.2)) path.connected) side
      )

-- where a plan gives no level there is nothing to begin
pub begins_nowhere : (t : Topology) (m : Change) (lid : ℕ) (start : Start) (side : Side) (f : Findings) (w : Walks) → level_read (plan_of m side).lanes start.switch.0 lid ≡ None → BeginsFrom t m lid start side f w
begins_nowhere t m lid start side f w none of_level is = absurd (none-some of_level (sym none ∙ is))

-- a walk begins at a start, at the level that a plan gives
module _ (t : Topology) (m : Change) (lid of_level : ℕ) (start : Start) (side : Side) (of : IsOfTerminal t start) (connected : IsConnectedTo t start.switch.0 lid)
    (level : level_read (plan_of m side).lanes start.switch.0 lid ≡ Some of_level) where
  comes : ComesTo t m lid of_level (standing_of start)
  comes = subst (λ (s : Start). IsConnectedTo t s.switch.0 lid → level_read (plan_of m side).lanes s.switch.0 lid ≡ Some of_level → ComesTo t m lid of_level (standing_of s)) of.2
      (λ c l. (of.0, [], record { path = record { terminal = of.1; connected = c }; level = (side, l); leads = refl })) connected level

  holds : (n : ℕ) → None ≡ Some n → (z : Taken) × IsTakenOn t m lid z × (z.level ≡ of_level) × (standing_of start ≡ standing_after t z.hop.channel.0) × (node_of (bound m) z.hop ≡ n)
  holds n e = absurd (none-some n e)

  module _ (f g : Findings) (w y : Walks) where
    abbrev pub Looked : Type 0
    Looked = LooksAt (Takes t m lid of_level (standing_of start)) (IsWrong t m lid of_level (standing_of start)) m of_level None f g w y

    begins : Looked → BeginsFrom t m lid start side g y
    begins looks other is = subst (λ n. IsSeen t m lid n (standing_of start) None g y) (same_Some of_level other (sym level ∙ is))
        (is_seen t m lid of_level (standing_of start) comes None holds f g w y looks)

    pub answer_from : {T E : Type 0} (r : Result T E) → AreFromWalks t m w → OnOk r Looked → OnOk r (AreFromWalks t m y)
    answer_from (Ok x) from looks = from_still t m lid of_level (standing_of start) comes None holds f g w y looks from
    answer_from (Err x) from looks = tt

    pub answer_found : {T E : Type 0} (r : Result T E) → AreFoundFor t m lid f → OnOk r Looked → OnOk r (AreFoundFor t m lid g)
    answer_found (Ok x) found looks = found_still t m lid of_level (standing_of start) comes None holds f g w y looks found
    answer_found (Err x) found looks = tt

    pub answer_advances : {T E : Type 0} (r : Result T E) → OnOk r Looked → OnOk r (Advances f g w y)
    answer_advances (Ok x) looks = looks.advances
    answer_advances (Err x) looks = tt

    pub answer_begun : {T E : Type 0} (r : Result T E) → OnOk r Looked → OnOk r (BeginsFrom t m lid start side g y)
    answer_begun (Ok x) looks = begins looks
    answer_begun (Err x) looks = tt
