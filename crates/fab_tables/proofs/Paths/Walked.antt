-- A walk along a route that marks the switches to which it comes.
use Rattle.std.proofs.Common.{◌≡◌, ◌≢◌, ℕ, suc, ◌+◌, ◌<◌, ◌≤◌, List, length, refl, sym, ◌∙◌, ap, inl, inr, ◌⊎◌, arith, Some, None, Option, option_map, slice_get, get_or-set_same, get_or-set_other}
use Rattle.std.specs.Prelude.{Bool, true, false, not, is_some, slice_index_or, slice_set}
use Rattle.std.proofs.lemmas.Bool.{cases_eq, cases_lt}
use Rattle.std.proofs.lemmas.List.{length-set, get_or_past}
use Rattle.std.proofs.lemmas.Option.{same_Some, none-some, slice_get-map}
use Rattle.fab_model.specs.declared.rows.SwitchId.{SwitchId}
use Rattle.fab_model.specs.Topology.{Topology}
use Rattle.fab_tables.specs.declared.end.End.TheVariants.{Delivered, Loop}
use Rattle.fab_tables.specs.Entries.{Entries}
use Rattle.fab_tables.specs.Route.{tip, route, visited}
use Rattle.fab_tables.specs.Reaching.{IsToward, AreDelivered}
use Rattle.fab_tables.proofs.Paths.Routes.{delivered_behind}
use Rattle.fab_tables.proofs.Paths.LoopRepeats.{loop_repeats}

-- marks below a switch are below the next one
pub still_delivered : (t : Topology) (e : Entries) (lid below : ℕ) (marks : List (Option SwitchId)) → AreDelivered t e lid below marks → AreDelivered t e lid (below + 1) marks
still_delivered t e lid below marks are = record { room = are.room; delivered = λ x first at. let old : (first.0 < below) × ((route t e x lid).end ≡ Delivered) = are.delivered x first at in (omega (arith, old.0), old.1) }

-- a switch with a mark has a delivered route
pub delivered_if_marked : (t : Topology) (e : Entries) (lid below s : ℕ) (marks : List (Option SwitchId)) (unmarked : Bool) → AreDelivered t e lid below marks → is_some (slice_index_or marks s None) ≡ not unmarked → unmarked ≡ false →
    (route t e s lid).end ≡ Delivered
delivered_if_marked t e lid below s marks unmarked are is marked = go (slice_index_or marks s None) refl (is ∙ ap not marked)
  where
    go : (o : Option SwitchId) → slice_index_or marks s None ≡ o → is_some o ≡ true → (route t e s lid).end ≡ Delivered
    go None at x = cc
    go (Some first) at x = (are.delivered s first at).1

module _ (t : Topology) (e : Entries) (lid : ℕ) (s : ℕ) where
  abbrev channels : List ℕ
  channels = (route t e s lid).channels

  -- the route comes to the switch along so many channels at most
  abbrev IsPassed : ℕ → ℕ → Type 0
  IsPassed passed x = (x ≡ s) ⊎ ((j c : ℕ) × (j < passed) × (slice_get channels j ≡ Some c) × (tip t c ≡ x))

  -- the marks of this walk are at switches to which it came, and all others at those whose routes are delivered
  pub record IsWalking (passed : ℕ) (marks : List (Option SwitchId)) : Type 0 where
    pub room : length marks ≡ length t.switches
    pub marked : (x : ℕ) (first : SwitchId) → slice_index_or marks x None ≡ Some first → ((first.0 < s) × ((route t e x lid).end ≡ Delivered)) ⊎ ((first.0 ≡ s) × IsPassed passed x)

  pub walking_begins : (old : List (Option SwitchId)) (from : SwitchId) → from.0 ≡ s → AreDelivered t e lid s old → IsWalking 0 (slice_set old s (Some from))
  walking_begins old from is are = record { room = length-set old s (Some from) ∙ are.room; marked = marked }
    where
      marked : (x : ℕ) (first : SwitchId) → slice_index_or (slice_set old s (Some from)) x None ≡ Some first → ((first.0 < s) × ((route t e x lid).end ≡ Delivered)) ⊎ ((first.0 ≡ s) × IsPassed 0 x)
      marked x first at = elim (cases_eq x s) [
        | inl same ↦ inr (walks x first same at (cases_lt s (length old)), inl same)
        | inr other ↦ inl (are.delivered x first (sym (get_or-set_other old s x (Some from) None other) ∙ at))
      ]
        where
          walks : (x : ℕ) (first : SwitchId) → x ≡ s → slice_index_or (slice_set old s (Some from)) x None ≡ Some first → (s < length old) ⊎ (length old ≤ s) → first.0 ≡ s
          walks x first same at (inl low) =
              ap (λ (y : SwitchId). y.0) (sym (same_Some from first (sym (get_or-set_same old s (Some from) None low) ∙ ap (λ k. slice_index_or (slice_set old s (Some from)) k None) (sym same) ∙ at))) ∙ is
          walks x first same at (inr past) =
              absurd (none-some first (sym (get_or_past (slice_set old s (Some from)) x None (omega (arith, same, past, length-set old s (Some from)))) ∙ at))

  module _ (toward : IsToward t e lid) (passed : ℕ) (marks : List (Option SwitchId)) (walking : IsWalking passed marks) where
    -- where the route is delivered, so are those from the switches to which it came
    pub walking_done : (route t e s lid).end ≡ Delivered → AreDelivered t e lid (s + 1) marks
    walking_done d = record {
      room = walking.room;
      delivered = λ x first at. elim (walking.marked x first at) [
        | inl before ↦ (omega (arith, before.0), before.1)
        | inr own ↦ (omega (arith, own.0), passed_delivered x own.1)
      ];
    }
      where
        passed_delivered : (x : ℕ) → IsPassed passed x → (route t e x lid).end ≡ Delivered
        passed_delivered x (inl same) = ap (λ y. (route t e y lid).end) same ∙ d
        passed_delivered x (inr there) = ap (λ y. (route t e y lid).end) (sym there.4) ∙ delivered_behind t e lid toward.fabric.rows s there.0 there.1 there.3 d

    module _ (c to : ℕ) (at : slice_get channels passed ≡ Some c) (leads : tip t c ≡ to) where
      -- it comes to a switch without a mark
      pub walking_on : (from : SwitchId) → from.0 ≡ s → to < length t.switches → IsWalking (suc passed) (slice_set marks to (Some from))
      walking_on from is low = record { room = length-set marks to (Some from) ∙ walking.room; marked = marked }
        where
          later : (x : ℕ) → IsPassed passed x → IsPassed (suc passed) x
          later x (inl same) = inl same
          later x (inr there) = inr (there.0, there.1, omega (arith, there.2), there.3, there.4)

          marked : (x : ℕ) (first : SwitchId) → slice_index_or (slice_set marks to (Some from)) x None ≡ Some first → ((first.0 < s) × ((route t e x lid).end ≡ Delivered)) ⊎ ((first.0 ≡ s) × IsPassed (suc passed) x)
          marked x first is_first = elim (cases_eq x to) [
            | inl same ↦
                inr (
                  ap (λ (y : SwitchId). y.0)
                      (sym (same_Some from first (sym (get_or-set_same marks to (Some from) None (omega (arith, low, walking.room))) ∙ ap (λ k. slice_index_or (slice_set marks to (Some from)) k None) (sym same) ∙ is_first))) ∙ is,
                  inr (passed, c, omega arith, at, leads ∙ sym same),
                )
            | inr other ↦ elim (walking.marked x first (sym (get_or-set_other marks to x (Some from) None other) ∙ is_first)) [ inl before ↦ inl before | inr own ↦ inr (own.0, later x own.1) ]
          ]

      -- it comes to a switch of its own
      pub walks_in_loop : (first : SwitchId) → slice_index_or marks to None ≡ Some first → first.0 ≡ s → s < length t.switches → (route t e s lid).end ≡ Loop
      walks_in_loop first is own low = elim (walking.marked to first is) [
        | inl before ↦ absurd (omega (arith, before.0, own))
        | inr again ↦ (loop_repeats t e s lid toward.fabric low).1 (repeats again.1)
      ]
        where
          there : (j d : ℕ) → slice_get channels j ≡ Some d → slice_get (visited t s channels) (suc j) ≡ Some (tip t d)
          there j d x = slice_get-map (tip t) channels j ∙ ap (λ o. option_map (tip t) o) x

          here : slice_get (visited t s channels) (suc passed) ≡ Some to
          here = there passed c at ∙ ap Some leads

          repeats : IsPassed passed to → (a i j : ℕ) × (i < j) × (slice_get (visited t s channels) i ≡ Some a) × (slice_get (visited t s channels) j ≡ Some a)
          repeats (inl same) = (to, 0, suc passed, omega arith, ap Some (sym same), here)
          repeats (inr before) = (to, suc before.0, suc passed, omega (arith, before.2), there before.0 before.1 before.3 ∙ ap Some before.4, here)

      -- it comes to a switch of another walk
      pub walk_joins : (first : SwitchId) → slice_index_or marks to None ≡ Some first → first.0 ≢ s → (route t e to lid).end ≡ Delivered
      walk_joins first is other = elim (walking.marked to first is) [ inl before ↦ before.1 | inr own ↦ absurd (other own.0) ]
