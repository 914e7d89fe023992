-- Of starts in order, the first of each source.
use Rattle.std.proofs.Common.{◌≡◌, ℕ, ◌+◌, ◌<◌, ◌≤◌, List, [], ◌∷◌, ◌++◌, length, refl, sym, ◌∙◌, ap, subst, inl, inr, arith, Some, None, Option, Contains, slice_get}
use Rattle.std.specs.Prelude.{All, slice_index_or}
use Rattle.std.proofs.lemmas.Bool.{cases_lt}
use Rattle.std.proofs.lemmas.List.{get_or_append_left, get_or_push, length_push}
use Rattle.std.proofs.lemmas.List.Elements.{All-contains, All-push, Contains-append_left, Contains-append_right}
use Rattle.std.proofs.lemmas.Option.{same_Some, slice_get_within, get_or_from_slice_get, slice_get-get_or}
use Rattle.fab_model.specs.declared.rows.SwitchId.{SwitchId}
use Rattle.fab_model.specs.declared.rows.TerminalRow.{TerminalRow}
use Rattle.fab_model.specs.Topology.{Topology}
use Rattle.fab_tables.specs.declared.starts.Start.{Start}
use Rattle.fab_tables.specs.LaneTables.{LaneTables}
use Rattle.fab_tables.specs.Starts.{start_of, StartsNotAfter, IsOfTerminal, AreFirsts, HasFirst, StandsFor, AreStartsFor, IsInOrder, StartLists, AreAllStarts}

-- the first starts of those so far, and the last source
pub record AreFirstsSoFar (starts firsts : List Start) (index : ℕ) (source : Option SwitchId) : Type 0 where
  pub in_order : IsInOrder firsts
  pub among : All (λ first. (k : ℕ) × (k < index) × (slice_get starts k ≡ Some first)) firsts
  pub stand : (k : ℕ) (start : Start) → k < index → slice_get starts k ≡ Some start → HasFirst firsts start
  pub last : (s : SwitchId) → source ≡ Some s → (first : Start) × Contains firsts first × (first.switch.0 ≡ s.0)

pub no_firsts : (starts : List Start) → AreFirstsSoFar starts [] 0 None
no_firsts starts = record {
  in_order = λ i j d below low. absurd (omega arith);
  among = λ k d low. absurd (omega arith);
  stand = λ k start low at. absurd (omega arith);
  last = λ s e. cc;
}

pub all_firsts : (starts firsts : List Start) (index : ℕ) (source : Option SwitchId) → AreFirstsSoFar starts firsts index source → length starts ≤ index → AreFirsts starts firsts
all_firsts starts firsts index source so past = record {
  in_order = so.in_order;
  among = λ i d low. among (slice_index_or firsts i d) (so.among i d low);
  stand = λ k d low. so.stand k (slice_index_or starts k d) (omega arith) (slice_get-get_or starts k d low);
}
  where
    among : (first : Start) → (k : ℕ) × (k < index) × (slice_get starts k ≡ Some first) → Contains starts first
    among first x = (x.0, slice_get_within starts x.0 first x.2, get_or_from_slice_get starts x.0 first first x.2)

module _ (starts : List Start) (order : IsInOrder starts) (firsts : List Start) (index : ℕ) (source : Option SwitchId) (so : AreFirstsSoFar starts firsts index source)
    (start : Start) (at : slice_get starts index ≡ Some start) where
  -- one that was taken isn't after this one
  not_after : (first : Start) → (k : ℕ) × (k < index) × (slice_get starts k ≡ Some first) → StartsNotAfter first start
  not_after first x =
      subst (λ y. StartsNotAfter first y) (get_or_from_slice_get starts index start start at)
      (subst (λ y. StartsNotAfter y (slice_index_or starts index start)) (get_or_from_slice_get starts x.0 first start x.2)
      (order x.0 index start (omega (arith, x.1)) (slice_get_within starts index start at)))

  still : (new : List Start) → ((first : Start) → Contains firsts first → Contains new first) → (other : Start) → HasFirst firsts other → HasFirst new other
  still new keeps other x = (x.0, keeps x.0 x.1, x.2, x.3)

  more : (new : List Start) → ((first : Start) → Contains firsts first → Contains new first) → HasFirst new start → (k : ℕ) (other : Start) → k < index + 1 → slice_get starts k ≡ Some other → HasFirst new other
  more new keeps here k other low there = elim (cases_lt k index) [
    | inl less ↦ still new keeps other (so.stand k other less there)
    | inr same ↦ (let eq : index ≡ k = omega arith in subst (λ x. HasFirst new x) (same_Some start other (sym at ∙ ap (λ n. slice_get starts n) eq ∙ there)) here)
  ]

  earlier : (first : Start) → (k : ℕ) × (k < index) × (slice_get starts k ≡ Some first) → (k : ℕ) × (k < index + 1) × (slice_get starts k ≡ Some first)
  earlier first x = (x.0, omega (arith, x.1), x.2)

  among_more : All (λ first. (k : ℕ) × (k < index + 1) × (slice_get starts k ≡ Some first)) firsts
  among_more i d low = earlier (slice_index_or firsts i d) (so.among i d low)

  -- its source has a first start already
  pub same_source : source ≡ Some start.switch → AreFirstsSoFar starts firsts (index + 1) source
  same_source is = record { in_order = so.in_order; among = among_more; stand = more firsts (λ first has. has) here; last = so.last }
    where
      here : HasFirst firsts start
      here =
          let x : (first : Start) × Contains firsts first × (first.switch.0 ≡ start.switch.0) = so.last start.switch is in
          let taken : (k : ℕ) × (k < index) × (slice_get starts k ≡ Some x.0) = All-contains (λ first. (k : ℕ) × (k < index) × (slice_get starts k ≡ Some first)) firsts x.0 so.among x.1 in
          (x.0, x.1, x.2, elim (not_after x.0 taken) [ inl less ↦ absurd (omega (arith, less, x.2)) | inr same ↦ same.1 ])

  -- it is the first of its source, or one more
  pub next_source : AreFirstsSoFar starts (firsts ++ start ∷ []) (index + 1) (Some start.switch)
  next_source = record {
    in_order = order_more;
    among = All-push (λ first. (k : ℕ) × (k < index + 1) × (slice_get starts k ≡ Some first)) firsts start among_more (index, omega arith, at);
    stand = more (firsts ++ start ∷ []) (λ first has. Contains-append_left firsts (start ∷ []) first has) (start, here, refl, omega arith);
    last = λ s is. (start, here, ap (λ (x : SwitchId). x.0) (same_Some start.switch s is));
  }
    where
      here : Contains (firsts ++ start ∷ []) start
      here = Contains-append_right firsts (start ∷ []) start (0, omega arith, refl)

      order_more : IsInOrder (firsts ++ start ∷ [])
      order_more i j d below low = elim (cases_lt j (length firsts)) [
        | inl less ↦
            subst (λ x. StartsNotAfter (slice_index_or (firsts ++ start ∷ []) i d) x) (sym (get_or_append_left firsts (start ∷ []) d j less))
            (subst (λ x. StartsNotAfter x (slice_index_or firsts j d)) (sym (get_or_append_left firsts (start ∷ []) d i (omega (arith, below, less)))) (so.in_order i j d below less))
        | inr past ↦
            (let is_last : length firsts ≡ j = omega (arith, past, low, length_push firsts start) in
            subst (λ x. StartsNotAfter (slice_index_or (firsts ++ start ∷ []) i d) x) (sym (get_or_push firsts start d j is_last)) (elim (cases_lt i (length firsts)) [
              | inl before ↦ subst (λ x. StartsNotAfter x start) (sym (get_or_append_left firsts (start ∷ []) d i before)) (not_after (slice_index_or firsts i d) (so.among i d before))
              | inr there ↦
                  (let same : length firsts ≡ i = omega (arith, there, below, is_last) in
                  let itself : StartsNotAfter start start = inr (refl, omega arith) in
                  subst (λ x. StartsNotAfter x start) (sym (get_or_push firsts start d i same)) itself)
            ]))
      ]

-- they stand for all terminals
module _ (t : Topology) (lists : StartLists) (are : AreAllStarts t lists) (l : LaneTables) where
  own_start : (row : TerminalRow) → Contains t.terminals row → Contains lists.all (start_of row)
  own_start row has = All-contains (λ (r : TerminalRow). Contains lists.all (start_of r)) t.terminals row are.starts.all has

  pub all_stand : AreStartsFor t l lists.all
  all_stand = record {
    in_order = are.starts.in_order;
    terminals = are.starts.terminals;
    all = λ k d low. (start_of (slice_index_or t.terminals k d), are.starts.all k d low, record { switch = refl; port = omega arith; alike = inl refl });
  }

  pub firsts_stand : l.pairs ≡ [] → AreStartsFor t l lists.firsts
  firsts_stand plain = record {
    in_order = are.firsts.in_order;
    terminals = λ k d low. All-contains (IsOfTerminal t) lists.all (slice_index_or lists.firsts k d) are.starts.terminals (are.firsts.among k d low);
    all = λ k d low. stood_for (slice_index_or t.terminals k d) (are.starts.all k d low);
  }
    where
      stood_for : (row : TerminalRow) → Contains lists.all (start_of row) → (start : Start) × Contains lists.firsts start × StandsFor l start row
      stood_for row has =
          let x : HasFirst lists.firsts (start_of row) = All-contains (λ start. HasFirst lists.firsts start) lists.all (start_of row) are.firsts.stand has in
          (x.0, x.1, record { switch = x.2; port = x.3; alike = inr plain })
