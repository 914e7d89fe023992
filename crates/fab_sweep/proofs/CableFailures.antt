-- The failures of cables and of switches, one after the other.
use Rattle.std.proofs.Common.{◌≡◌, ℕ, zero, suc, ◌+◌, ◌<◌, ◌≤◌, Bool, true, false, List, [], ◌∷◌, ◌++◌, length, map, take, get_or, cond, Some, refl, sym, ◌∙◌, ap, subst, arith, slice_get}
use Rattle.std.specs.Prelude.{filter, nat_le, IfSome}
use Rattle.std.specs.List.{enumerate_from, range_with_len}
use Rattle.std.proofs.lemmas.Bool.{le-leb, leb-true}
use Rattle.std.proofs.lemmas.List.{map-append, take_all, append-nil}
use Rattle.std.proofs.lemmas.List.Elements.{filter_more}
use Rattle.std.proofs.lemmas.List.FromFn.{length-enumerate_from, get_or-enumerate_from, map-range_with_len_more}
use Rattle.std.proofs.lemmas.Option.{get_or_from_slice_get, slice_get_within}
use Rattle.fab_model.specs.declared.rows.Cable.{Cable}
use Rattle.fab_model.specs.declared.rows.ChannelRow.{ChannelRow}
use Rattle.fab_model.specs.Topology.{Topology, IsReverse, reversed}
use Rattle.fab_model.specs.WellFormed.{IsWellFormed}
use Rattle.fab_model.proofs.Finds.{channels_are_found}
use Rattle.fab_tables.specs.declared.plan.Plan.{Plan}
use Rattle.fab_sweep.specs.declared.rows.SweepRow.{SweepRow}
use Rattle.fab_sweep.specs.declared.Failing.TheVariants.{Cables, Switches}
use Rattle.fab_sweep.specs.Failures.{Failure, cable_of, is_not_above, is_lower, cable_failure, switch_failure, failures}
use Rattle.fab_sweep.specs.Sweeps.{IsSweepRow, AreRowsOf}
use Rattle.fab_sweep.proofs.FailureRows.{one_row_more}

there : {X : Type 0} (xs : List X) (n : ℕ) → n < length xs → (x : X) × (slice_get xs n ≡ Some x)
there [] n low = absurd (omega (arith, low))
there (x ∷ xs) zero low = (x, refl)
there (x ∷ xs) (suc n) low = there xs n (omega (arith, low))

above : (n other : ℕ) → other < n → nat_le n other ≡ false
above n other high = go (nat_le n other) refl
  where
    go : (b : Bool) → nat_le n other ≡ b → nat_le n other ≡ false
    go true is = absurd (omega (arith, high, leb-true n other is))
    go false is = is

module _ (t : Topology) where
  -- the failures of the first channels
  abbrev pub cables_below : ℕ → List Failure
  cables_below n = map (cable_failure t) (filter (is_lower t) (take n (enumerate_from 0 t.channels)))

  -- the test of a channel compares it with its reverse
  pub lower_is : IsWellFormed t → (n other : ℕ) (row : ChannelRow) → slice_get t.channels n ≡ Some row → IsReverse t n other → is_lower t (n, row) ≡ nat_le n other
  lower_is good n other row at reverse = ap (λ o. is_not_above n o) (channels_are_found t other (reversed row) good (subst (λ o. IfSome o (λ r. slice_get t.channels other ≡ Some (reversed r))) at reverse))

  module _ (n : ℕ) (row : ChannelRow) (at : slice_get t.channels n ≡ Some row) where
    low : n < length t.channels
    low = slice_get_within t.channels n row at

    step : cables_below (n + 1) ≡ cables_below n ++ map (cable_failure t) (cond (is_lower t (n, row)) ((n, row) ∷ []) [])
    step = ap (map (cable_failure t)) (filter_more (is_lower t) (enumerate_from 0 t.channels) n (0, row) (omega (arith, low, length-enumerate_from 0 t.channels))
        ∙ ap (λ (e : ℕ × ChannelRow). filter (is_lower t) (take n (enumerate_from 0 t.channels)) ++ cond (is_lower t e) (e ∷ []) []) here)
        ∙ map-append (cable_failure t) (filter (is_lower t) (take n (enumerate_from 0 t.channels))) (cond (is_lower t (n, row)) ((n, row) ∷ []) [])
      where
        number : 0 + n ≡ n
        number = omega arith

        here : get_or (enumerate_from 0 t.channels) n (0, row) ≡ (n, row)
        here = get_or-enumerate_from 0 t.channels n (0, row) low ∙ ap (λ m. (m, get_or t.channels n row)) number ∙ ap (λ r. (n, r)) (get_or_from_slice_get t.channels n row row at)

    taken : is_lower t (n, row) ≡ true → cables_below (n + 1) ≡ cables_below n ++ cable_failure t (n, row) ∷ []
    taken is = step ∙ ap (λ b. cables_below n ++ map (cable_failure t) (cond b ((n, row) ∷ []) [])) is

    passed : is_lower t (n, row) ≡ false → cables_below (n + 1) ≡ cables_below n
    passed is = step ∙ ap (λ b. cables_below n ++ map (cable_failure t) (cond b ((n, row) ∷ []) [])) is ∙ append-nil (cables_below n)

    pub cable_row_more : (plan : Plan) (lanes : ℕ) (rows : List SweepRow) (more : SweepRow) → is_lower t (n, row) ≡ true → AreRowsOf t plan lanes (cables_below n) rows → IsSweepRow t plan lanes (cable_failure t (n, row)) more →
        AreRowsOf t plan lanes (cables_below (n + 1)) (rows ++ more ∷ [])
    cable_row_more plan lanes rows more is so_far made = subst (λ of. AreRowsOf t plan lanes of (rows ++ more ∷ [])) (sym (taken is)) (one_row_more t plan lanes (cables_below n) rows (cable_failure t (n, row)) more so_far made)

    pub cable_row_same : (plan : Plan) (lanes : ℕ) (rows : List SweepRow) → is_lower t (n, row) ≡ false → AreRowsOf t plan lanes (cables_below n) rows → AreRowsOf t plan lanes (cables_below (n + 1)) rows
    cable_row_same plan lanes rows is so_far = subst (λ of. AreRowsOf t plan lanes of rows) (sym (passed is)) so_far

  -- a channel that isn't above its reverse has a row, and one above it has none
  pub cable_row_added : IsWellFormed t → (n other : ℕ) (row : ChannelRow) (cable : Cable) (plan : Plan) (lanes : ℕ) (rows : List SweepRow) (more : SweepRow) → slice_get t.channels n ≡ Some row → IsReverse t n other → n ≤ other → cable ≡ cable_of t row →
      AreRowsOf t plan lanes (cables_below n) rows → IsSweepRow t plan lanes (record { switch = row.tail.0; port = row.port; cables = cable ∷ [] }) more → AreRowsOf t plan lanes (cables_below (n + 1)) (rows ++ more ∷ [])
  cable_row_added good n other row cable plan lanes rows more at reverse low is so_far made =
      cable_row_more n row at plan lanes rows more (lower_is good n other row at reverse ∙ le-leb n other low) so_far
      (subst (λ (x : Cable). IsSweepRow t plan lanes (record { switch = row.tail.0; port = row.port; cables = x ∷ [] }) more) is made)

  pub cable_row_passed : IsWellFormed t → (n other : ℕ) (plan : Plan) (lanes : ℕ) (rows : List SweepRow) → n < length t.channels → IsReverse t n other → other < n →
      AreRowsOf t plan lanes (cables_below n) rows → AreRowsOf t plan lanes (cables_below (n + 1)) rows
  cable_row_passed good n other plan lanes rows low reverse high so_far =
      let read : (row : ChannelRow) × (slice_get t.channels n ≡ Some row) = there t.channels n low in
      cable_row_same n read.0 read.1 plan lanes rows (lower_is good n other read.0 read.1 reverse ∙ above n other high) so_far

  pub all_cable_rows : (n : ℕ) (plan : Plan) (lanes : ℕ) (rows : List SweepRow) → length t.channels ≤ n → AreRowsOf t plan lanes (cables_below n) rows → AreRowsOf t plan lanes (failures t Cables) rows
  all_cable_rows n plan lanes rows past so_far =
      subst (λ xs. AreRowsOf t plan lanes (map (cable_failure t) (filter (is_lower t) xs)) rows) (take_all n (enumerate_from 0 t.channels) (omega (arith, past, length-enumerate_from 0 t.channels))) so_far

  -- ---- switches

  abbrev pub switches_below : ℕ → List Failure
  switches_below n = map (switch_failure t) (range_with_len 0 n)

  pub switch_row_more : (n : ℕ) (plan : Plan) (lanes : ℕ) (rows : List SweepRow) (more : SweepRow) → AreRowsOf t plan lanes (switches_below n) rows → IsSweepRow t plan lanes (switch_failure t n) more →
      AreRowsOf t plan lanes (switches_below (n + 1)) (rows ++ more ∷ [])
  switch_row_more n plan lanes rows more so_far made =
      subst (λ of. AreRowsOf t plan lanes of (rows ++ more ∷ [])) (sym (map-range_with_len_more (switch_failure t) 0 n n (omega arith))) (one_row_more t plan lanes (switches_below n) rows (switch_failure t n) more so_far made)

  pub all_switch_rows : (n : ℕ) (plan : Plan) (lanes : ℕ) (rows : List SweepRow) → n ≡ length t.switches → AreRowsOf t plan lanes (switches_below n) rows → AreRowsOf t plan lanes (failures t Switches) rows
  all_switch_rows n plan lanes rows all so_far = subst (λ m. AreRowsOf t plan lanes (switches_below m) rows) all so_far
