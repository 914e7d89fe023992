-- A route contains an edge once at most, since no channel of it stands at two places.
use Rattle.std.proofs.Common.{◌≡◌, ℕ, suc, ◌+◌, ◌<◌, ◌⊎◌, inl, inr, Bool, true, false, List, [], ◌∷◌, length, drop, refl, sym, ◌∙◌, ap, arith, Some}
use Rattle.std.specs.Prelude.{slice_get, ◌==◌, ◌&&◌, ◌||◌, if◌then◌else◌}
use Rattle.std.proofs.lemmas.Bool.{cases_Bool, cases_order, and_parts, eqb-true, false_from_ne_true}
use Rattle.std.proofs.lemmas.List.{length-drop}
use Rattle.std.proofs.lemmas.Option.{slice_get_within}
use Rattle.fab_model.specs.Topology.{Topology}
use Rattle.fab_model.specs.WellFormed.{IsWellFormed}
use Rattle.fab_tables.specs.declared.end.End.TheVariants.{Delivered}
use Rattle.fab_tables.specs.Entries.{Entries}
use Rattle.fab_tables.specs.Route.{route}
use Rattle.fab_tables.specs.VirtualChannels.{Follow}
use Rattle.fab_tables.proofs.Joined.ConnectedDecided.{connected_to_decided}
use Rattle.fab_tables.proofs.Paths.RoutesBehind.{behind_tip}
use Rattle.fab_sssp.specs.LeastWeightTables.{AreLeastWeightTables}
use Rattle.fab_sssp.proofs.Tables.RoutesLeast.{least_weight_reaches}
use Rattle.fab_dfsssp.specs.Assignments.{contains_edge}
use Rattle.fab_dfsssp.specs.LaneCounts.{times_along}
use Rattle.fab_dfsssp.proofs.PathCounts.{no_channels_apart}
use Rattle.fab_dfsssp.proofs.RingEdges.{contains-follow}

abbrev pub one_if : Bool → ℕ
one_if b = if b then 1 else 0

-- each element stands at one place
abbrev pub StandsOnce : List ℕ → Type 0
StandsOnce cs = (i j c : ℕ) → slice_get cs i ≡ Some c → slice_get cs j ≡ Some c → i ≡ j

times_once : (edge : ℕ × ℕ) (cs : List ℕ) → StandsOnce cs → times_along edge cs ≡ one_if (contains_edge edge cs)
times_once edge [] once = refl
times_once edge (c ∷ []) once = refl
times_once edge (c ∷ d ∷ rest) once = go (times_once edge (d ∷ rest) (λ i j x a b. omega (arith, once (suc i) (suc j) x a b))) (cases_Bool ((c == edge.0) && (d == edge.1)))
  where
    none_later : ((c == edge.0) && (d == edge.1)) ≡ true → contains_edge edge (d ∷ rest) ≡ false
    none_later here = false_from_ne_true (contains_edge edge (d ∷ rest)) (λ there.
        let same : c ≡ edge.0 = eqb-true c edge.0 (and_parts (c == edge.0) (d == edge.1) here).0 in
        let again : Follow (d ∷ rest) edge.0 edge.1 = contains-follow edge (d ∷ rest) there in
        absurd (omega (arith, once 0 (suc again.0) edge.0 (ap (λ x. Some x) same) again.1)))

    go : times_along edge (d ∷ rest) ≡ one_if (contains_edge edge (d ∷ rest)) → (((c == edge.0) && (d == edge.1)) ≡ true) ⊎ (((c == edge.0) && (d == edge.1)) ≡ false) → times_along edge (c ∷ d ∷ rest) ≡ one_if (contains_edge edge (c ∷ d ∷ rest))
    go later (inl here) =
        ap (λ b. one_if b + times_along edge (d ∷ rest)) here ∙ ap (λ n. 1 + n) (later ∙ ap one_if (none_later here)) ∙ sym (ap (λ b. one_if (b || contains_edge edge (d ∷ rest))) here)
    go later (inr other) =
        ap (λ b. one_if b + times_along edge (d ∷ rest)) other ∙ zero_plus (times_along edge (d ∷ rest)) ∙ later ∙ sym (ap (λ b. one_if (b || contains_edge edge (d ∷ rest))) other)
      where
        zero_plus : (n : ℕ) → 0 + n ≡ n
        zero_plus n = omega arith

-- behind a channel of a delivered route comes what is behind it wherever it stands
pub delivered_once : (t : Topology) (e : Entries) (s lid : ℕ) → (route t e s lid).end ≡ Delivered → StandsOnce (route t e s lid).channels
delivered_once t e s lid delivered i j c a b = elim (cases_order i j) [
  | inl same ↦ same
  | inr (inl less) ↦ absurd (apart i j less a b)
  | inr (inr more) ↦ absurd (apart j i more b a)
]
  where
    apart : (i j : ℕ) → i < j → slice_get (route t e s lid).channels i ≡ Some c → slice_get (route t e s lid).channels j ≡ Some c → ⊥
    apart i j less a b =
        let cs : List ℕ = (route t e s lid).channels in
        let same : drop (suc i) cs ≡ drop (suc j) cs = sym (behind_tip t e lid s i c delivered a) ∙ behind_tip t e lid s j c delivered b in
        omega (arith, less, slice_get_within cs j c b, length-drop (suc i) cs, length-drop (suc j) cs, ap (λ (xs : List ℕ). length xs) same)

pub path_once : (t : Topology) (e : Entries) → IsWellFormed t → AreLeastWeightTables t e → (edge : ℕ × ℕ) (s lid : ℕ) → times_along edge (route t e s lid).channels ≡ one_if (contains_edge edge (route t e s lid).channels)
path_once t e good tables edge s lid = elim (connected_to_decided t s lid) [
  | inl joined ↦ times_once edge (route t e s lid).channels (delivered_once t e s lid (least_weight_reaches t e good tables s lid joined))
  | inr apart ↦ (let none : (route t e s lid).channels ≡ [] = no_channels_apart t e tables.fixed s lid apart in
      ap (times_along edge) none ∙ sym (ap (λ cs. one_if (contains_edge edge cs)) none))
]
