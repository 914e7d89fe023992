-- The steps of a search for the switches of a component.
use Rattle.std.proofs.Common.{◌≡◌, ◌≢◌, ℕ, zero, suc, ◌+◌, ◌<◌, Bool, true, false, List, [], ◌∷◌, ◌++◌, length, refl, sym, ◌∙◌, ap, subst, inl, inr, ◌⊎◌, arith, Some, None, Option, Contains, get_or-set_same, get_or-set_other, not}
use Rattle.std.specs.Prelude.{slice_set, IsSome, is_some}
use Rattle.std.proofs.lemmas.Bool.{cases_eq, cases_lt}
use Rattle.std.proofs.lemmas.List.{length-set, get_or_past}
use Rattle.std.proofs.lemmas.Option.{none-some, same_Some}
use Rattle.std.proofs.lemmas.List.Elements.{All-contains}
use Rattle.fab_model.specs.Walks.{Walk}
use Rattle.fab_model.specs.declared.rows.SwitchId.{SwitchId}
use Rattle.fab_model.specs.declared.rows.ChannelRow.{ChannelRow}
use Rattle.fab_model.specs.Topology.{Topology, reversed}
use Rattle.fab_model.specs.Connected.{LeadsTo, AreConnected}
use Rattle.fab_model.specs.WellFormed.{IsFabric}
use Rattle.fab_tables.specs.Components.{component_of, AreComponents}
use Rattle.fab_tables.specs.Searching.{IsPending, IsSearching, HasSearched, KeepsNumbers}
use Rattle.fab_tables.proofs.Joined.Walks.{connected_on, connected_back, connected_through, reverse_there}

pending_front : (p : List SwitchId) (x : SwitchId) (s : ℕ) → IsPending (p ++ x ∷ []) s → IsPending (x ∷ p) s
pending_front [] x s h = h
pending_front (y ∷ ys) x s (inl e) = inr (inl e)
pending_front (y ∷ ys) x s (inr h) = elim (pending_front ys x s h) [ inl a ↦ inl a | inr b ↦ inr (inr b) ]

pending_back : (p : List SwitchId) (x : SwitchId) (s : ℕ) → IsPending (x ∷ p) s → IsPending (p ++ x ∷ []) s
pending_back [] x s h = h
pending_back (y ∷ ys) x s (inl e) = inr (pending_back ys x s (inl e))
pending_back (y ∷ ys) x s (inr (inl e)) = inl e
pending_back (y ∷ ys) x s (inr (inr h)) = inr (pending_back ys x s (inr h))

pub is_there : {A : Type 0} (o : Option A) (x : A) → o ≡ Some x → IsSome o
is_there o x e = ap is_some e

not_some : false ≡ true → ⊥
not_some e = cc

some_none : (o : Option ℕ) → IsSome o → o ≡ None → ⊥
some_none None h e = cc
some_none (Some x) h e = cc

pub none_found : (o : Option ℕ) (b : Bool) → is_some o ≡ not b → b ≡ true → o ≡ None
none_found None b is e = refl
none_found (Some x) true is e = cc
none_found (Some x) false is e = cc

pub some_found : (o : Option ℕ) (b : Bool) → is_some o ≡ not b → b ≡ false → IsSome o
some_found o true is e = cc
some_found o false is e = is

-- whether an optional number is this one
is_or_not : (o : Option ℕ) (n : ℕ) → (o ≡ Some n) ⊎ (o ≢ Some n)
is_or_not None n = inr (λ e. none-some n e)
is_or_not (Some m) n = elim (cases_eq m n) [ inl e ↦ inl (ap (λ x. Some x) e) | inr ne ↦ inr (λ e. ne (same_Some m n e)) ]

-- the switch of a last pending one
pub to_front : (t : Topology) (number : ℕ) (numbers : List (Option ℕ)) (pending : List SwitchId) (s : SwitchId) →
    IsSearching t number numbers (pending ++ s ∷ []) → IsSearching t number numbers (s ∷ pending)
to_front t number numbers pending s h = record {
  whole = h.whole;
  waiting = λ q w. h.waiting q (pending_back pending s q w);
  joined = h.joined;
  closed = λ row has some out. h.closed row has some (λ w. out (pending_front pending s row.tail.0 w));
}

module _ (t : Topology) (numbers : List (Option ℕ)) (x : ℕ) (new : ℕ) (low : x < length numbers) (none : component_of numbers x ≡ None) where
  abbrev after : List (Option ℕ)
  after = slice_set numbers x (Some new)

  at_x : component_of after x ≡ Some new
  at_x = get_or-set_same numbers x (Some new) None low

  elsewhere : (s : ℕ) → s ≢ x → component_of after s ≡ component_of numbers s
  elsewhere s ne = get_or-set_other numbers x s (Some new) None ne

  pub keeps_others : KeepsNumbers numbers after
  keeps_others s r e = elsewhere s (λ same. none-some r (sym none ∙ ap (λ y. component_of numbers y) (sym same) ∙ e)) ∙ e

  -- where a channel's tail has a number that is not new, and its tip the same, so it stays
  stays_closed : (row : ChannelRow) → row.tail.0 ≢ x → (IsSome (component_of numbers row.tail.0) → component_of numbers row.tip.0 ≡ component_of numbers row.tail.0) →
      IsSome (component_of after row.tail.0) → component_of after row.tip.0 ≡ component_of after row.tail.0
  stays_closed row ne before some =
      let had : IsSome (component_of numbers row.tail.0) = subst (λ (o : Option ℕ). IsSome o) (elsewhere row.tail.0 ne) some in
      elsewhere row.tip.0 (λ same. some_none (component_of numbers row.tail.0) had (sym (before had) ∙ ap (λ y. component_of numbers y) same ∙ none)) ∙ before had ∙ sym (elsewhere row.tail.0 ne)

  joined_after : ((s r : ℕ) → component_of numbers s ≡ Some r → AreConnected t r s) → AreConnected t new x → (s r : ℕ) → component_of after s ≡ Some r → AreConnected t r s
  joined_after before here s r e = elim (cases_eq s x) [
    | inl same ↦
        (let is_new : new ≡ r = same_Some new r (sym at_x ∙ ap (λ y. component_of after y) (sym same) ∙ e) in
        subst (λ y. AreConnected t r y) (sym same) (subst (λ y. AreConnected t y x) is_new here))
    | inr ne ↦ before s r (sym (elsewhere s ne) ∙ e)
  ]

-- a switch that is pending is one of the fabric's
pub pending_below : (t : Topology) (number : ℕ) (numbers : List (Option ℕ)) (pending : List SwitchId) (s : SwitchId) →
    IsSearching t number numbers (pending ++ s ∷ []) → s.0 < length t.switches
pending_below t number numbers pending s h = elim (cases_lt s.0 (length numbers)) [
  | inl low ↦ omega (arith, h.whole)
  | inr past ↦ absurd (none-some number (sym (get_or_past numbers s.0 None past) ∙ h.waiting s.0 (pending_back pending s s.0 (inl refl))))
]

-- the tip of a channel that leaves the first pending switch has no number yet: it is given this one, and is pending
pub reaches_tip : (t : Topology) (number : ℕ) (numbers : List (Option ℕ)) (s tip : SwitchId) (pending : List SwitchId) (row : ChannelRow) →
    IsSearching t number numbers (s ∷ pending) → Contains t.channels row → row.tail.0 ≡ s.0 → row.tip.0 ≡ tip.0 → tip.0 < length t.switches → component_of numbers tip.0 ≡ None →
    IsSearching t number (slice_set numbers tip.0 (Some number)) (s ∷ (pending ++ tip ∷ []))
reaches_tip t number numbers s tip pending row h has from to low none = record {
  whole = length-set numbers tip.0 (Some number) ∙ h.whole;
  waiting = waiting;
  joined = joined_after t numbers tip.0 number within none h.joined (connected_on t number s.0 tip.0 (h.joined s.0 number (h.waiting s.0 (inl refl))) (row, has, from, to));
  closed = λ other is some out. stays_closed t numbers tip.0 number within none other (λ same. out (inr (pending_back pending tip other.tail.0 (inl (sym same)))))
      (λ had. h.closed other is had (λ w. out (still other.tail.0 w))) some;
}
  where
    within : tip.0 < length numbers
    within = omega (arith, h.whole)

    still : (q : ℕ) → IsPending (s ∷ pending) q → IsPending (s ∷ (pending ++ tip ∷ [])) q
    still q (inl e) = inl e
    still q (inr w) = inr (pending_back pending tip q (inr w))

    old : (q : ℕ) → IsPending (s ∷ pending) q → component_of (slice_set numbers tip.0 (Some number)) q ≡ Some number
    old q w = keeps_others t numbers tip.0 number within none q number (h.waiting q w)

    waiting : (q : ℕ) → IsPending (s ∷ (pending ++ tip ∷ [])) q → component_of (slice_set numbers tip.0 (Some number)) q ≡ Some number
    waiting q (inl e) = old q (inl e)
    waiting q (inr w) = elim (pending_front pending tip q w) [
      | inl e ↦ ap (λ y. component_of (slice_set numbers tip.0 (Some number)) y) (sym e) ∙ at_x t numbers tip.0 number within none
      | inr v ↦ old q (inr v)
    ]

-- a tip that has a number has this one
pub tip_has : (t : Topology) (number : ℕ) (numbers : List (Option ℕ)) (s : SwitchId) (pending : List SwitchId) (row : ChannelRow) → IsFabric t →
    IsSearching t number numbers (s ∷ pending) → Contains t.channels row → row.tail.0 ≡ s.0 → IsSome (component_of numbers row.tip.0) → component_of numbers row.tip.0 ≡ Some number
tip_has t number numbers s pending row fabric h has from some = elim (is_or_not (component_of numbers row.tip.0) number) [
  | inl e ↦ e
  | inr ne ↦
      absurd (ne (sym (h.closed (reversed row) (reverse_there t fabric.rows row has) some (λ w. ne (h.waiting row.tip.0 w))) ∙ h.waiting row.tail.0 (inl (sym from))))
]

-- where all tips of the first pending switch have the number, it is pending no more
pub finishes : (t : Topology) (number : ℕ) (numbers : List (Option ℕ)) (s : SwitchId) (pending : List SwitchId) → IsSearching t number numbers (s ∷ pending) →
    ((row : ChannelRow) → Contains t.channels row → row.tail.0 ≡ s.0 → component_of numbers row.tip.0 ≡ Some number) → IsSearching t number numbers pending
finishes t number numbers s pending h tips = record {
  whole = h.whole;
  waiting = λ q w. h.waiting q (inr w);
  joined = h.joined;
  closed = closed;
}
  where
    closed : (row : ChannelRow) → Contains t.channels row → IsSome (component_of numbers row.tail.0) → ¬ IsPending pending row.tail.0 →
        component_of numbers row.tip.0 ≡ component_of numbers row.tail.0
    closed row has some out = elim (cases_eq s.0 row.tail.0) [
      | inl e ↦ tips row has (sym e) ∙ sym (h.waiting row.tail.0 (inl e))
      | inr ne ↦ h.closed row has some (λ w. elim w [ inl e ↦ ne e | inr v ↦ out v ])
    ]

-- a number that a switch has stays, so those below this one have numbers and so has this one
pub one_more_has : (old new : List (Option ℕ)) (count : ℕ) → ((s : ℕ) → s < count → IsSome (component_of old s)) → KeepsNumbers old new → IsSome (component_of new count) →
    (s : ℕ) → s < count + 1 → IsSome (component_of new s)
one_more_has old new count have keeps here s h = elim (cases_lt s count) [
  | inl low ↦ kept (component_of old s) (have s low) refl
  | inr same ↦ (let e : count ≡ s = omega arith in subst (λ x. IsSome (component_of new x)) e here)
]
  where
    kept : (o : Option ℕ) → IsSome o → component_of old s ≡ o → IsSome (component_of new s)
    kept None some is = absurd (not_some some)
    kept (Some r) some is = is_there (component_of new s) r (keeps s r is)

-- once all switches have numbers, these are the components
module _ (t : Topology) (fabric : IsFabric t) (numbers : List (Option ℕ)) (searched : HasSearched t numbers) (have : (s : ℕ) → s < length t.switches → IsSome (component_of numbers s)) where
  along : (n a b : ℕ) → Walk (LeadsTo t) n a b → component_of numbers a ≡ component_of numbers b
  along zero a b w = ap (λ x. component_of numbers x) w
  along (suc n) a b w =
      let low : w.1.0.tail.0 < length t.switches = All-contains (λ (row : ChannelRow). row.tail.0 < length t.switches) t.channels w.1.0 fabric.rows.channel_tails w.1.1 in
      ap (λ x. component_of numbers x) (sym w.1.2) ∙ sym (searched.closed w.1.0 w.1.1 (have w.1.0.tail.0 low) (λ none. none)) ∙ ap (λ x. component_of numbers x) w.1.3 ∙ along n w.0 b w.2

  joined : (a b : ℕ) (o : Option ℕ) → IsSome o → component_of numbers a ≡ o → component_of numbers b ≡ o → AreConnected t a b
  joined a b None some x y = absurd (not_some some)
  joined a b (Some r) some x y = connected_through t a r b (connected_back t fabric.rows r a (searched.joined a r x)) (searched.joined b r y)

  pub components_found : AreComponents t numbers
  components_found = record {
    whole = searched.whole;
    same = λ a b low high. (λ e. joined a b (component_of numbers a) (have a low) refl (sym e), λ w. along w.0 a b w.1);
  }
