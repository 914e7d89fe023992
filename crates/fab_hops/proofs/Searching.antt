-- The steps of the search for the hop counts from a switch.
use Rattle.std.proofs.Common.{◌≡◌, ◌≢◌, ℕ, zero, suc, ◌<◌, ◌≤◌, List, [], ◌∷◌, ◌++◌, length, refl, sym, ◌∙◌, ap, subst, inl, inr, ◌⊎◌, arith, Contains, get_or-set_same, get_or-set_other}
use Rattle.std.specs.Prelude.{slice_set}
use Rattle.std.proofs.lemmas.Bool.{cases_eq, cases_lt}
use Rattle.std.proofs.lemmas.List.Elements.{Contains-append_left, Contains-push, Contains-push_cases}
use Rattle.fab_graph.specs.Walks.{Walk}
use Rattle.fab_graph.proofs.Members.{later, first_or_later}
use Rattle.fab_model.specs.declared.rows.SwitchId.{SwitchId}
use Rattle.fab_model.specs.Topology.{Topology, switch_id}
use Rattle.fab_model.specs.Connected.{LeadsTo}
use Rattle.fab_hops.specs.HopCounts.{IsHopCount}
use Rattle.fab_hops.specs.HopCodes.{code_at}
use Rattle.fab_hops.specs.Searching.{IsReached, IsSearching}
use Rattle.fab_hops.proofs.HopWalks.{walk_on, last_channel, no_hops}

not_in_nothing : {A : Type 0} (x : A) → Contains [] x → ⊥
not_in_nothing x has = omega (arith, has.1)

module _ (t : Topology) (from : ℕ) (row : List ℕ) (here next : List SwitchId) (hops : ℕ) (is : IsSearching t from row here next hops) where
  start_reached : IsReached row from
  start_reached e = omega (arith, e, is.begun)

  nearer : (m s : ℕ) → suc m ≤ hops → ((b : ℕ) → Walk (LeadsTo t) m from b → IsReached row b) → (b : ℕ) × Walk (LeadsTo t) m from b × LeadsTo t b s → IsReached row s
  nearer m s low before step =
      let reached : IsReached row step.0 = before step.0 step.1 in
      let near : code_at row step.0 ≤ m = (is.right step.0 reached).least m step.1 in
      elim (is.looked step.0 s reached step.2) [
        | inl has ↦ absurd (omega (arith, near, low, (is.here_at step.0 has).0))
        | inr (inl has) ↦ absurd (omega (arith, near, low, (is.next_at step.0 has).0))
        | inr (inr found) ↦ found
      ]

  -- what is at most as far as the switches `here` was found
  near_reached : (m s : ℕ) → m ≤ hops → Walk (LeadsTo t) m from s → IsReached row s
  near_reached zero s low w = subst (λ x. IsReached row x) w start_reached
  near_reached (suc m) s low w = nearer m s low (λ b v. near_reached m b (omega (arith, low)) v) (last_channel t m from s w)

  -- a channel leads from a switch `here` to one that was not found
  module _ (x tip : ℕ) (at : Contains here (switch_id x)) (leads : LeadsTo t x tip) (none : code_at row tip ≡ 65535) where
    one_more_hop : IsHopCount t from tip (suc hops)
    one_more_hop = record {
      holds = walk_on t hops from x tip (subst (λ n. Walk (LeadsTo t) n from x) (is.here_at x at).0 (is.right x (is.here_at x at).1).holds) leads;
      least = λ m w. elim (cases_lt hops m) [ inl more ↦ omega (arith, more) | inr less ↦ absurd (near_reached m tip less w none) ];
    }

    module _ (low : tip < length row) (small : suc hops < 65535) where
      abbrev after : List ℕ
      after = slice_set row tip (suc hops)

      at_tip : code_at after tip ≡ suc hops
      at_tip = get_or-set_same row tip (suc hops) 65535 low

      elsewhere : (s : ℕ) → s ≢ tip → code_at after s ≡ code_at row s
      elsewhere s ne = get_or-set_other row tip s (suc hops) 65535 ne

      kept : (s : ℕ) → IsReached row s → code_at after s ≡ code_at row s
      kept s reached = elsewhere s (λ same. reached (ap (λ y. code_at row y) same ∙ none))

      pub still : (s : ℕ) → IsReached row s → IsReached after s
      still s reached e = reached (sym (kept s reached) ∙ e)

      pub tip_reached : IsReached after tip
      tip_reached e = omega (arith, at_tip, e, small)

      right : (s : ℕ) → (s ≡ tip) ⊎ (s ≢ tip) → IsReached after s → IsHopCount t from s (code_at after s)
      right s (inl same) reached =
          let count : code_at after s ≡ suc hops = ap (λ y. code_at after y) same ∙ at_tip in
          subst (λ n. IsHopCount t from s n) (sym count) (subst (λ y. IsHopCount t from y (suc hops)) (sym same) one_more_hop)
      right s (inr ne) reached = subst (λ n. IsHopCount t from s n) (sym (elsewhere s ne)) (is.right s (λ e. reached (elsewhere s ne ∙ e)))

      next_at : (s : ℕ) → Contains next (switch_id s) ⊎ (switch_id tip ≡ switch_id s) → (code_at after s ≡ suc hops) × IsReached after s
      next_at s (inl has) = let before : (code_at row s ≡ suc hops) × IsReached row s = is.next_at s has in (kept s before.1 ∙ before.0, still s before.1)
      next_at s (inr e) =
          let same : tip ≡ s = ap (λ (x : SwitchId). x.0) e in
          (ap (λ y. code_at after y) (sym same) ∙ at_tip, subst (λ y. IsReached after y) same tip_reached)

      looked : (s z : ℕ) → (s ≡ tip) ⊎ (s ≢ tip) → IsReached after s → LeadsTo t s z →
          Contains here (switch_id s) ⊎ (Contains (next ++ switch_id tip ∷ []) (switch_id s) ⊎ IsReached after z)
      looked s z (inl same) reached onward = inr (inl (subst (λ y. Contains (next ++ switch_id tip ∷ []) (switch_id y)) (sym same) (Contains-push next (switch_id tip))))
      looked s z (inr ne) reached onward = elim (is.looked s z (λ e. reached (elsewhere s ne ∙ e)) onward) [
        | inl has ↦ inl has
        | inr (inl has) ↦ inr (inl (Contains-append_left next (switch_id tip ∷ []) (switch_id s) has))
        | inr (inr found) ↦ inr (inr (still z found))
      ]

      -- it is given its hop count
      pub found_tip : IsSearching t from after here (next ++ switch_id tip ∷ []) hops
      found_tip = record {
        begun = kept from start_reached ∙ is.begun;
        right = λ s reached. right s (cases_eq s tip) reached;
        here_at = λ s has. (kept s (is.here_at s has).1 ∙ (is.here_at s has).0, still s (is.here_at s has).1);
        next_at = λ s has. next_at s (Contains-push_cases next (switch_id tip) (switch_id s) has);
        looked = λ s z reached onward. looked s z (cases_eq s tip) reached onward;
      }

-- where all tips of the first switch were found, it waits no more
pub looked_at : (t : Topology) (from : ℕ) (row : List ℕ) (x : SwitchId) (here next : List SwitchId) (hops : ℕ) → IsSearching t from row (x ∷ here) next hops →
    ((tip : ℕ) → LeadsTo t x.0 tip → IsReached row tip) → IsSearching t from row here next hops
looked_at t from row x here next hops is tips = record {
  begun = is.begun;
  right = is.right;
  here_at = λ s has. is.here_at s (later x here (switch_id s) has);
  next_at = is.next_at;
  looked = λ s z reached onward. elim (is.looked s z reached onward) [
    | inl has ↦ waits s z onward (first_or_later x here (switch_id s) has)
    | inr others ↦ inr others
  ];
}
  where
    waits : (s z : ℕ) → LeadsTo t s z → (x ≡ switch_id s) ⊎ Contains here (switch_id s) → Contains here (switch_id s) ⊎ (Contains next (switch_id s) ⊎ IsReached row z)
    waits s z onward (inl e) = inr (inr (tips z (subst (λ y. LeadsTo t y z) (ap (λ (y : SwitchId). y.0) (sym e)) onward)))
    waits s z onward (inr has) = inl has

-- the switches of a hop count are done: those of the next one are here
pub next_hop : (t : Topology) (from : ℕ) (row : List ℕ) (next : List SwitchId) (hops : ℕ) → IsSearching t from row [] next hops → IsSearching t from row next [] (suc hops)
next_hop t from row next hops is = record {
  begun = is.begun;
  right = is.right;
  here_at = is.next_at;
  next_at = λ s has. absurd (not_in_nothing (switch_id s) has);
  looked = λ s z reached onward. elim (is.looked s z reached onward) [
    | inl has ↦ absurd (not_in_nothing (switch_id s) has)
    | inr (inl has) ↦ inl has
    | inr (inr found) ↦ inr (inr found)
  ];
}

-- the switch itself is found first
pub search_begun : (t : Topology) (from : ℕ) (row : List ℕ) → from < length row → ((s : ℕ) → code_at row s ≡ 65535) → IsSearching t from (slice_set row from 0) (switch_id from ∷ []) [] 0
search_begun t from row low none = record {
  begun = at_start;
  right = λ s reached. subst (λ n. IsHopCount t from s n) (sym (there s reached).1) (no_hops t from s (sym (there s reached).0));
  here_at = λ s has. elim (first_or_later (switch_id from) [] (switch_id s) has) [ inl e ↦ at (ap (λ (x : SwitchId). x.0) e) | inr more ↦ absurd (not_in_nothing (switch_id s) more) ];
  next_at = λ s has. absurd (not_in_nothing (switch_id s) has);
  looked = λ s z reached onward. inl (subst (λ y. Contains (switch_id from ∷ []) (switch_id y)) (sym (there s reached).0) (0, omega arith, refl));
}
  where
    at_start : code_at (slice_set row from 0) from ≡ 0
    at_start = get_or-set_same row from 0 65535 low

    at : {s : ℕ} → from ≡ s → (code_at (slice_set row from 0) s ≡ 0) × IsReached (slice_set row from 0) s
    at e = let zero : code_at (slice_set row from 0) _ ≡ 0 = ap (λ y. code_at (slice_set row from 0) y) (sym e) ∙ at_start in (zero, λ none. omega (arith, none, zero))

    there : (s : ℕ) → IsReached (slice_set row from 0) s → (s ≡ from) × (code_at (slice_set row from 0) s ≡ 0)
    there s reached = elim (cases_eq s from) [
      | inl same ↦ (same, ap (λ y. code_at (slice_set row from 0) y) same ∙ at_start)
      | inr ne ↦ absurd (reached (get_or-set_other row from s 0 65535 ne ∙ none s))
    ]

-- where no switch waits, all to which walks lead were found
module _ (t : Topology) (from : ℕ) (row : List ℕ) (hops : ℕ) (is : IsSearching t from row [] [] hops) where
  reached_on : (b s : ℕ) → IsReached row b → LeadsTo t b s → IsReached row s
  reached_on b s reached leads = elim (is.looked b s reached leads) [
    | inl has ↦ absurd (not_in_nothing (switch_id b) has)
    | inr (inl has) ↦ absurd (not_in_nothing (switch_id b) has)
    | inr (inr found) ↦ found
  ]

  walks_reach : (m a s : ℕ) → IsReached row a → Walk (LeadsTo t) m a s → IsReached row s
  walks_reach zero a s reached w = subst (λ x. IsReached row x) w reached
  walks_reach (suc m) a s reached w = walks_reach m w.0 s (reached_on a w.0 reached w.1) w.2

  pub all_reached : (m s : ℕ) → Walk (LeadsTo t) m from s → IsReached row s
  all_reached m s w = walks_reach m from s (λ e. omega (arith, e, is.begun)) w
