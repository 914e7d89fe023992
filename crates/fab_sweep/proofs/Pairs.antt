-- Tests of connection, and the counts of pairs of a switch and a LID.
use Rattle.std.proofs.Common.{◌≡◌, ℕ, ◌+◌, ◌<◌, ◌≤◌, inl, inr, Bool, true, false, [], ◌∷◌, length, cond, Option, Some, None, refl, sym, ◌∙◌, ap, arith, Contains, length-append}
use Rattle.std.specs.Prelude.{◌↔◌, IsTrue, filter, count_by}
use Rattle.std.specs.List.{range_with_len}
use Rattle.std.proofs.lemmas.Bool.{false≢true}
use Rattle.std.proofs.lemmas.List.FromFn.{length-range_with_len, get_or-range_with_len}
use Rattle.std.proofs.lemmas.List.Sums.{length-filter, count_by-le-length}
use Rattle.fab_graph.proofs.Decided.{Decided}
use Rattle.fab_model.specs.declared.rows.Place.{Place}
use Rattle.fab_model.specs.Topology.{Topology, lids_of, place_of}
use Rattle.fab_model.specs.Connected.{AreConnected}
use Rattle.fab_model.specs.WellFormed.{IsWellFormed}
use Rattle.fab_model.proofs.Tables.{filter_range_more}
use Rattle.fab_tables.proofs.Joined.ConnectedDecided.{connected_decided}
use Rattle.fab_tables.proofs.Paths.FallingRoutes.{place_below}
use Rattle.fab_nue.proofs.Laying.Members.{sum_members}
use Rattle.fab_sweep.specs.Sweeps.{TellsConnected, to_place, to_lid, count_below, pairs_with}

-- ---- tests

pub same_bool : (a b : Bool) → (IsTrue a → IsTrue b) → (IsTrue b → IsTrue a) → a ≡ b
same_bool true true to from = refl
same_bool true false to from = sym (to refl)
same_bool false true to from = from refl
same_bool false false to from = refl

-- a test that says the same of two switches
pub told_same : (P : Type 0) (a b : Bool) → (IsTrue a ↔ P) → (IsTrue b ↔ P) → a ≡ b
told_same P a b x y = same_bool a b (λ h. y.1 (x.0 h)) (λ h. x.1 (y.0 h))

truth : (P : Type 0) → Decided P → Bool
truth P (inl p) = true
truth P (inr refuted) = false

truth_tells : (P : Type 0) (d : Decided P) → IsTrue (truth P d) ↔ P
unfolding truth
truth_tells P (inl p) = (λ h. p, λ h. refl)
truth_tells P (inr refuted) = (λ h. absurd (false≢true h), λ p. absurd (refuted p))

-- each fabric has such a test
pub joins : Topology → ℕ → ℕ → Bool
joins t a b = truth (AreConnected t a b) (connected_decided t a b)

pub joins_tells : (t : Topology) → TellsConnected t (joins t)
unfolding joins
joins_tells t from to low high = truth_tells (AreConnected t from to) (connected_decided t from to)

-- ---- counts

pub count_more : (test : ℕ → ℕ → Bool) (lid n : ℕ) → count_below test lid (n + 1) ≡ count_below test lid n + cond (test n lid) 1 0
count_more test lid n = sym (length-filter p (range_with_len 0 (n + 1))) ∙ ap length (filter_range_more p n) ∙ length-append (filter p (range_with_len 0 n)) (cond (p n) (n ∷ []) [])
    ∙ ap (λ k. k + length (cond (p n) (n ∷ []) [])) (length-filter p (range_with_len 0 n)) ∙ ap (λ k. count_by p (range_with_len 0 n) + k) (one (p n))
  where
    p : ℕ → Bool
    p s = test s lid

    one : (b : Bool) → length (cond b (n ∷ []) []) ≡ cond b 1 0
    one true = refl
    one false = refl

pub count_few : (test : ℕ → ℕ → Bool) (lid n : ℕ) → count_below test lid n ≤ n
count_few test lid n = omega (arith, count_by-le-length (λ s. test s lid) (range_with_len 0 n), length-range_with_len 0 n)

in_range : (n s : ℕ) → Contains (range_with_len 0 n) s → s < n
in_range n s has =
    let low : has.0 < n = omega (arith, has.1, length-range_with_len 0 n) in
    omega (arith, low, has.2, get_or-range_with_len 0 n has.0 s low)

-- tests that agree at the switches and LIDs of the fabric count the same
pub pairs_same : (t : Topology) (p q : ℕ → ℕ → Bool) → ((s lid : ℕ) → s < length t.switches → p s lid ≡ q s lid) → pairs_with t p ≡ pairs_with t q
pairs_same t p q same = sum_members (λ lid. count_below p lid (length t.switches)) (λ lid. count_below q lid (length t.switches)) (lids_of t)
    (λ lid used. sum_members (λ s. cond (p s lid) 1 0) (λ s. cond (q s lid) 1 0) (range_with_len 0 (length t.switches)) (λ s has. ap (λ b. cond b 1 0) (same s lid (in_range (length t.switches) s has))))

-- ---- tests of LIDs

-- two tests that tell who is connected agree on LIDs
pub lids_told : (t u : Topology) → IsWellFormed t → length u.switches ≡ length t.switches → (p q : ℕ → ℕ → Bool) → TellsConnected u p → TellsConnected u q → (s lid : ℕ) → s < length t.switches → to_lid t p s lid ≡ to_lid t q s lid
lids_told t u good same p q tells also s lid low = go (place_of t lid) refl
  where
    go : (o : Option Place) → place_of t lid ≡ o → to_place p s o ≡ to_place q s o
    go None is = refl
    go (Some place) is =
        let to_low : place.switch.0 < length u.switches = omega (arith, same, place_below t good lid place is) in
        told_same (AreConnected u s place.switch.0) (p s place.switch.0) (q s place.switch.0) (tells s place.switch.0 (omega (arith, low, same)) to_low) (also s place.switch.0 (omega (arith, low, same)) to_low)

-- what a test says of a LID at this place
pub at_place : (t : Topology) (joined : ℕ → ℕ → Bool) (s lid : ℕ) (place : Place) → place_of t lid ≡ Some place → to_lid t joined s lid ≡ joined s place.switch.0
at_place t joined s lid place is = ap (λ o. to_place joined s o) is
