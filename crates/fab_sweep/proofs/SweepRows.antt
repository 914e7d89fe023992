-- A failure has one row, and so a sweep has one list of rows.
use Rattle.std.proofs.Common.{◌≡◌, ℕ, zero, suc, ◌<◌, ◌≤◌, Bool, not, ◌&&◌, List, [], ◌∷◌, length, Some, refl, sym, ◌∙◌, ap, subst, arith, Contains, slice_get, Ok}
use Rattle.std.proofs.lemmas.Option.{same_Some, none-some, slice_get_within, slice_get-get_or}
use Rattle.std.specs.Prelude.{slice_index_or}
use Rattle.fab_graph.proofs.Members.{first, later}
use Rattle.fab_model.specs.Topology.{Topology, is_source}
use Rattle.fab_model.specs.WellFormed.{IsFabric}
use Rattle.fab_model.specs.Without.{taken_out}
use Rattle.fab_model.proofs.Without.{without_is_fabric}
use Rattle.fab_tables.specs.declared.plan.Plan.{Plan}
use Rattle.fab_nue.specs.Kept.{old_level}
use Rattle.fab_nue.specs.NuePlan.{IsNuePlan}
use Rattle.fab_nue.proofs.Plans.OverEscape.{one_nue_plan, nue_is_certified}
use Rattle.fab_repair.proofs.Repairing.{left_is}
use Rattle.fab_sweep.specs.declared.rows.SweepRow.{SweepRow}
use Rattle.fab_sweep.specs.declared.Failing.{Failing}
use Rattle.fab_sweep.specs.Failures.{Failure, failures}
use Rattle.fab_sweep.specs.Sweeps.{TellsConnected, is_lost, is_changed, is_moved, same_level, to_lid, pairs_with, after_failure, IsSweepRow, AreRowsOf, AreRepairsCertified}
use Rattle.fab_sweep.specs.Laws.{OneSweep}
use Rattle.fab_sweep.proofs.Pairs.{pairs_same, lids_told, joins, joins_tells}

-- ---- one row

abbrev pub row_with : Failure → ℕ → ℕ → ℕ → ℕ → SweepRow
row_with failure lost kept changed moved = record { switch = record { 0 = failure.switch }; port = failure.port; lost = lost; kept = kept; changed = changed; moved = moved }

module _ (t : Topology) (fabric : IsFabric t) (plan : Plan) (lanes : ℕ) (failure : Failure) where
  pub left_fabric : IsFabric (after_failure t failure)
  left_fabric = without_is_fabric t failure.cables fabric

  module _ (was also is too : ℕ → ℕ → Bool) (tells_was : TellsConnected t was) (tells_also : TellsConnected t also) (tells_is : TellsConnected (after_failure t failure) is) (tells_too : TellsConnected (after_failure t failure) too) where
    lost_same : pairs_with t (is_lost t was is) ≡ pairs_with t (is_lost t also too)
    lost_same = pairs_same t (is_lost t was is) (is_lost t also too) (λ s lid low.
        ap (λ b. b && not (to_lid t is s lid)) (lids_told t t fabric.rows refl was also tells_was tells_also s lid low)
        ∙ ap (λ b. to_lid t also s lid && not b) (lids_told t (after_failure t failure) fabric.rows refl is too tells_is tells_too s lid low))

    moved_same : (p : Plan) → pairs_with t (is_moved t is plan.lanes p.lanes) ≡ pairs_with t (is_moved t too plan.lanes p.lanes)
    moved_same p = pairs_same t (is_moved t is plan.lanes p.lanes) (is_moved t too plan.lanes p.lanes) (λ s lid low.
        ap (λ b. is_source t s && b && not (same_level (old_level plan.lanes s lid) (old_level p.lanes s lid))) (lids_told t (after_failure t failure) fabric.rows refl is too tells_is tells_too s lid low))

  pub one_row : 0 < lanes → (x y : SweepRow) → IsSweepRow t plan lanes failure x → IsSweepRow t plan lanes failure y → x ≡ y
  one_row some x y a b =
      a.is_row
      ∙ ap (λ n. row_with failure n (length a.kept) (pairs_with t (is_changed plan.tables a.repaired.tables)) (pairs_with t (is_moved t a.after plan.lanes a.repaired.lanes)))
      (lost_same a.before b.before a.after b.after a.tells_before b.tells_before a.tells_after b.tells_after)
      ∙ ap (λ n. row_with failure (pairs_with t (is_lost t b.before b.after)) n (pairs_with t (is_changed plan.tables a.repaired.tables)) (pairs_with t (is_moved t a.after plan.lanes a.repaired.lanes))) (ap length same.0)
      ∙ ap (λ n. row_with failure (pairs_with t (is_lost t b.before b.after)) (length b.kept) n (pairs_with t (is_moved t a.after plan.lanes a.repaired.lanes)))
      (ap (λ (p : Plan). pairs_with t (is_changed plan.tables p.tables)) same.1)
      ∙ ap (λ n. row_with failure (pairs_with t (is_lost t b.before b.after)) (length b.kept) (pairs_with t (is_changed plan.tables b.repaired.tables)) n)
      (ap (λ (p : Plan). pairs_with t (is_moved t a.after plan.lanes p.lanes)) same.1 ∙ moved_same a.before b.before a.after b.after a.tells_before b.tells_before a.tells_after b.tells_after b.repaired)
      ∙ sym b.is_row
    where
      same : (a.kept ≡ b.kept) × (a.repaired ≡ b.repaired)
      same = one_nue_plan (after_failure t failure) lanes (Some plan) a.kept b.kept a.repaired b.repaired left_fabric.rows some a.repair b.repair

  -- a plan of Nue makes a row
  pub row_made : (kept : List ℕ) (p : Plan) → IsNuePlan (after_failure t failure) lanes (Some plan) kept p →
      IsSweepRow t plan lanes failure (row_with failure (pairs_with t (is_lost t (joins t) (joins (after_failure t failure)))) (length kept) (pairs_with t (is_changed plan.tables p.tables)) (pairs_with t (is_moved t (joins (after_failure t failure)) plan.lanes p.lanes)))
  row_made kept p repair = record {
    kept = kept;
    repaired = p;
    repair = repair;
    before = joins t;
    tells_before = joins_tells t;
    after = joins (after_failure t failure);
    tells_after = joins_tells (after_failure t failure);
    is_row = refl;
  }

-- the same, where cables were taken out and their costs counted
pub row_counted : (t left : Topology) (plan : Plan) (lanes : ℕ) (failure : Failure) → taken_out t failure.cables ≡ Ok left → (kept : List ℕ) (p : Plan) (lost count changed moved : ℕ) → IsFabric t → IsNuePlan left lanes (Some plan) kept p →
    ((was is : ℕ → ℕ → Bool) → TellsConnected t was → TellsConnected left is → lost ≡ pairs_with t (is_lost t was is)) → count ≡ length kept → changed ≡ pairs_with t (is_changed plan.tables p.tables) →
    ((is : ℕ → ℕ → Bool) → TellsConnected left is → moved ≡ pairs_with t (is_moved t is plan.lanes p.lanes)) → IsSweepRow t plan lanes failure (row_with failure lost count changed moved)
row_counted t left plan lanes failure taken kept p lost count changed moved fabric repair lost_is count_is changed_is moved_is =
    subst (λ r. IsSweepRow t plan lanes failure r) (sym rows_are) (row_made t fabric plan lanes failure kept p repair_there)
  where
    same : left ≡ after_failure t failure
    same = sym (left_is t left failure.cables taken)

    tells : TellsConnected left (joins (after_failure t failure))
    tells = subst (λ u. TellsConnected u (joins (after_failure t failure))) (sym same) (joins_tells (after_failure t failure))

    repair_there : IsNuePlan (after_failure t failure) lanes (Some plan) kept p
    repair_there = subst (λ u. IsNuePlan u lanes (Some plan) kept p) same repair

    rows_are : row_with failure lost count changed moved
        ≡ row_with failure (pairs_with t (is_lost t (joins t) (joins (after_failure t failure)))) (length kept) (pairs_with t (is_changed plan.tables p.tables)) (pairs_with t (is_moved t (joins (after_failure t failure)) plan.lanes p.lanes))
    rows_are =
        ap (λ n. row_with failure n count changed moved) (lost_is (joins t) (joins (after_failure t failure)) (joins_tells t) tells)
        ∙ ap (λ n. row_with failure (pairs_with t (is_lost t (joins t) (joins (after_failure t failure)))) n changed moved) count_is
        ∙ ap (λ n. row_with failure (pairs_with t (is_lost t (joins t) (joins (after_failure t failure)))) (length kept) n moved) changed_is
        ∙ ap (λ n. row_with failure (pairs_with t (is_lost t (joins t) (joins (after_failure t failure)))) (length kept) (pairs_with t (is_changed plan.tables p.tables)) n) (moved_is (joins (after_failure t failure)) tells)

-- ---- one list of rows

lists_same : {X : Type 0} (xs ys : List X) → length xs ≡ length ys → ((n : ℕ) (x y : X) → slice_get xs n ≡ Some x → slice_get ys n ≡ Some y → x ≡ y) → xs ≡ ys
lists_same [] [] long each = refl
lists_same [] (y ∷ ys) long each = absurd (omega (arith, long))
lists_same (x ∷ xs) [] long each = absurd (omega (arith, long))
lists_same (x ∷ xs) (y ∷ ys) long each =
    ap (λ z. z ∷ xs) (each zero x y refl refl) ∙ ap (λ zs. y ∷ zs) (lists_same xs ys (omega (arith, long)) (λ n a b at also. each (suc n) a b at also))

no_failure : Failure
no_failure = record { switch = 0; port = 0; cables = [] }

pub one_sweep : OneSweep
one_sweep t plan lanes what x y fabric some a b = lists_same x y (a.each ∙ sym b.each) same
  where
    same : (n : ℕ) (r q : SweepRow) → slice_get x n ≡ Some r → slice_get y n ≡ Some q → r ≡ q
    same n r q at also =
        let there : slice_get (failures t what) n ≡ Some (slice_index_or (failures t what) n no_failure) = slice_get-get_or (failures t what) n no_failure (omega (arith, slice_get_within x n r at, a.each)) in
        one_row t fabric plan lanes (slice_index_or (failures t what) n no_failure) some r q (a.row n (slice_index_or (failures t what) n no_failure) r there at) (b.row n (slice_index_or (failures t what) n no_failure) q there also)

-- ---- repairs are certified

pub repairs_certified : (t : Topology) (plan : Plan) (lanes : ℕ) (what : Failing) → IsFabric t → 0 < lanes → lanes ≤ 15 → AreRepairsCertified t plan lanes what
repairs_certified t plan lanes what fabric some few n failure kept p at repair = nue_is_certified (after_failure t failure) lanes (Some plan) kept p (left_fabric t fabric plan lanes failure).rows some few repair

-- ---- a row for each

pub rows_there : (t : Topology) (plan : Plan) (lanes : ℕ) (of : List Failure) → ((failure : Failure) → Contains of failure → (row : SweepRow) × IsSweepRow t plan lanes failure row) → (rows : List SweepRow) × AreRowsOf t plan lanes of rows
rows_there t plan lanes [] each = ([], record { each = refl; row = λ n failure row at. absurd (none-some failure at) })
rows_there t plan lanes (failure ∷ of) each = go (each failure (first failure of)) (rows_there t plan lanes of (λ f has. each f (later failure of f has)))
  where
    go : (row : SweepRow) × IsSweepRow t plan lanes failure row → (rows : List SweepRow) × AreRowsOf t plan lanes of rows → (rows : List SweepRow) × AreRowsOf t plan lanes (failure ∷ of) rows
    go here rest = (here.0 ∷ rest.0, record { each = ap (λ n. suc n) rest.1.each; row = row })
      where
        row : (n : ℕ) (f : Failure) (r : SweepRow) → slice_get (failure ∷ of) n ≡ Some f → slice_get (here.0 ∷ rest.0) n ≡ Some r → IsSweepRow t plan lanes f r
        row zero f r a b = subst (λ g. IsSweepRow t plan lanes g r) (same_Some failure f a) (subst (λ q. IsSweepRow t plan lanes failure q) (same_Some here.0 r b) here.1)
        row (suc n) f r a b = rest.1.row n f r a b
