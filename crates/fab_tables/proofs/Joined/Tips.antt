-- The channels that leave a switch, one after the other.
use Rattle.std.proofs.Common.{◌≡◌, ℕ, ◌+◌, ◌<◌, ◌≤◌, List, [], ◌∷◌, ◌++◌, length, sym, ◌∙◌, ap, subst, inl, inr, arith, Some, None, Option, option_map, Contains, slice_get, is_none, get_or-set_same, count_by, cond}
use Rattle.std.specs.Prelude.{slice_index_or, slice_set, IsSome, nat_lt}
use Rattle.std.proofs.lemmas.Bool.{cases_lt}
use Rattle.std.proofs.lemmas.List.{length_push}
use Rattle.std.proofs.lemmas.List.Elements.{Contains-get_or, All-contains}
use Rattle.std.proofs.lemmas.List.Sums.{count_by-le-length, sum_by-set}
use Rattle.std.proofs.lemmas.Option.{same_Some, slice_get-get_or}
use Rattle.fab_model.specs.declared.rows.SwitchId.{SwitchId}
use Rattle.fab_model.specs.declared.rows.ChannelRow.{ChannelRow}
use Rattle.fab_model.specs.Topology.{Topology, first_channel, reversed}
use Rattle.fab_model.specs.WellFormed.{IsFabric, IsWellFormed}
use Rattle.fab_tables.specs.Components.{component_of}
use Rattle.fab_tables.specs.Searching.{IsSearching}
use Rattle.fab_tables.proofs.Joined.Walks.{reverse_there}
use Rattle.fab_tables.proofs.Joined.Search.{reaches_tip, tip_has, finishes, keeps_others}
use Rattle.fab_tables.proofs.Joined.Leaving.{leaves_from, stands_between}

-- the row at a place, where there is one
abbrev row_at : Topology → ℕ → ChannelRow
row_at t c = slice_index_or t.channels c (record { tail = record { 0 = 0 }; port = 0; tip = record { 0 = 0 }; tip_port = 0 })

-- the tips of the channels of a switch up to this one have the number
pub record IsNumberingTips (t : Topology) (number : ℕ) (s : SwitchId) (numbers : List (Option ℕ)) (pending : List SwitchId) (channel : ℕ) : Type 0 where
  pub searching : IsSearching t number numbers (s ∷ pending)
  pub tips : (k : ℕ) (d : ChannelRow) → first_channel t s.0 ≤ k → k < channel → component_of numbers (slice_index_or t.channels k d).tip.0 ≡ Some number

-- a tip is a switch of the fabric
pub tip_below : (t : Topology) → IsWellFormed t → (row : ChannelRow) → Contains t.channels row → row.tip.0 < length t.switches
tip_below t good row has = All-contains (λ (r : ChannelRow). r.tail.0 < length t.switches) t.channels (reversed row) good.channel_tails (reverse_there t good row has)

module _ (t : Topology) (fabric : IsFabric t) (number : ℕ) (s : SwitchId) (channel : ℕ) (tip : SwitchId) (from : first_channel t s.0 ≤ channel) (past : channel < first_channel t (s.0 + 1))
    (is : option_map (λ (row : ChannelRow). row.tip) (slice_get t.channels channel) ≡ Some tip) where
  pub channel_below : channel < length t.channels
  channel_below = omega (arith, count_by-le-length (λ (row : ChannelRow). nat_lt row.tail.0 (s.0 + 1)) t.channels)

  there : Contains t.channels (row_at t channel)
  there = Contains-get_or t.channels channel _ channel_below

  leaves : (row_at t channel).tail.0 ≡ s.0
  leaves = leaves_from t fabric.rows s.0 channel _ channel_below from past

  comes_to : (d : ChannelRow) → (slice_index_or t.channels channel d).tip ≡ tip
  comes_to d = same_Some _ tip (sym (ap (λ o. option_map (λ (row : ChannelRow). row.tip) o) (slice_get-get_or t.channels channel d channel_below)) ∙ is)

  pub tip_within : tip.0 < length t.switches
  tip_within = subst (λ (x : SwitchId). x.0 < length t.switches) (comes_to _) (tip_below t fabric.rows (row_at t channel) there)

  more : (numbers : List (Option ℕ)) → ((k : ℕ) (d : ChannelRow) → first_channel t s.0 ≤ k → k < channel → component_of numbers (slice_index_or t.channels k d).tip.0 ≡ Some number) →
      component_of numbers tip.0 ≡ Some number → (k : ℕ) (d : ChannelRow) → first_channel t s.0 ≤ k → k < channel + 1 → component_of numbers (slice_index_or t.channels k d).tip.0 ≡ Some number
  more numbers before here k d low high = elim (cases_lt k channel) [
    | inl less ↦ before k d low less
    | inr same ↦
        (let e : k ≡ channel = omega arith in
        ap (λ j. component_of numbers (slice_index_or t.channels j d).tip.0) e ∙ ap (λ (x : SwitchId). component_of numbers x.0) (comes_to d) ∙ here)
  ]

  pub numbers_new : (numbers : List (Option ℕ)) (pending : List SwitchId) → IsNumberingTips t number s numbers pending channel → component_of numbers tip.0 ≡ None →
      IsNumberingTips t number s (slice_set numbers tip.0 (Some number)) (pending ++ tip ∷ []) (channel + 1)
  numbers_new numbers pending h none =
      let after : IsSearching t number (slice_set numbers tip.0 (Some number)) (s ∷ (pending ++ tip ∷ [])) =
      reaches_tip t number numbers s tip pending (row_at t channel) h.searching there leaves (ap (λ (x : SwitchId). x.0) (comes_to _)) tip_within none in
      record {
        searching = after;
        tips = more (slice_set numbers tip.0 (Some number)) (λ k d low high. keeps_others t numbers tip.0 number (omega (arith, h.searching.whole, tip_within)) none _ number (h.tips k d low high))
            (get_or-set_same numbers tip.0 (Some number) None (omega (arith, h.searching.whole, tip_within)));
      }

  pub numbers_old : (numbers : List (Option ℕ)) (pending : List SwitchId) → IsNumberingTips t number s numbers pending channel → IsSome (component_of numbers tip.0) →
      IsNumberingTips t number s numbers pending (channel + 1)
  numbers_old numbers pending h some = record {
    searching = h.searching;
    tips = more numbers h.tips (
        ap (λ (x : SwitchId). component_of numbers x.0) (sym (comes_to _))
        ∙ tip_has t number numbers s pending (row_at t channel) fabric h.searching there leaves (subst (λ (x : SwitchId). IsSome (component_of numbers x.0)) (sym (comes_to _)) some)
        );
  }

-- after the last of them the switch is pending no more
pub tips_done : (t : Topology) (number : ℕ) (s : SwitchId) (numbers : List (Option ℕ)) (pending : List SwitchId) (channel : ℕ) → IsFabric t →
    IsNumberingTips t number s numbers pending channel → first_channel t (s.0 + 1) ≤ channel → IsSearching t number numbers pending
tips_done t number s numbers pending channel fabric h past = finishes t number numbers s pending h.searching tips
  where
    tips : (row : ChannelRow) → Contains t.channels row → row.tail.0 ≡ s.0 → component_of numbers row.tip.0 ≡ Some number
    tips row has e =
        let between : (first_channel t s.0 ≤ has.0) × (has.0 < first_channel t (s.0 + 1)) = stands_between t fabric.rows s.0 has.0 row has.1 (ap (λ (r : ChannelRow). r.tail.0) has.2 ∙ e) in
        ap (λ (r : ChannelRow). component_of numbers r.tip.0) (sym has.2) ∙ h.tips has.0 row between.0 (omega (arith, between.1, past))

-- one switch more has a number, and one more is pending
pub one_more : (numbers : List (Option ℕ)) (pending : List SwitchId) (tip : SwitchId) (number : ℕ) → tip.0 < length numbers → component_of numbers tip.0 ≡ None →
    count_by is_none (slice_set numbers tip.0 (Some number)) + length (pending ++ tip ∷ []) ≡ count_by is_none numbers + length pending
one_more numbers pending tip number low none =
    omega (arith, sum_by-set (λ (o : Option ℕ). cond (is_none o) 1 0) numbers tip.0 (Some number) None low, length_push pending tip, ap (λ (o : Option ℕ). cond {A = ℕ} (is_none o) 1 0) none)
