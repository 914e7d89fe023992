-- A fabric has a table of hop counts, and each of its switches an eccentricity.
use Rattle.std.proofs.Common.{◌≡◌, ℕ, zero, suc, ◌+◌, ◌*◌, ◌<◌, ◌≤◌, ◌^◌, ◌⊎◌, inl, inr, List, [], ◌∷◌, ◌++◌, length, Option, Some, None, refl, sym, ◌∙◌, ap, subst, arith, max, get_or}
use Rattle.std.specs.Prelude.{All, IfSome, MatchOption}
use Rattle.std.proofs.lemmas.Bool.{cases_lt}
use Rattle.std.proofs.lemmas.List.{get_or_append_left, get_or-append-add, length-append, length_push}
use Rattle.std.proofs.lemmas.List.Elements.{All-nil, All-append, All-push}
use Rattle.fab_graph.specs.Walks.{Walk}
use Rattle.fab_graph.proofs.Decided.{found_below}
use Rattle.fab_model.specs.Topology.{Topology}
use Rattle.fab_model.specs.Connected.{LeadsTo, AreConnected}
use Rattle.fab_model.specs.WellFormed.{IsWellFormed}
use Rattle.fab_hops.specs.HopCounts.{IsHopCount, HopTable, IsHopTable, AreHops, hop_count}
use Rattle.fab_hops.specs.Centres.{IsEccentricity}
use Rattle.fab_hops.specs.Laws.{HopTableExists, EccentricityExists}
use Rattle.fab_hops.proofs.HopLaws.{hops_small}
use Rattle.fab_hops.proofs.HopWalks.{walk_decided, connected_have_count}
use Rattle.fab_hops.proofs.Rows.{row_before}
use Rattle.fab_hops.proofs.GreatestHops.{IsAttained, IsGreatest, attained_more, greatest_more, greatest_still}
use Rattle.fab_hops.proofs.Kept.{is_eccentricity}

module _ (t : Topology) (good : IsWellFormed t) where
  -- the count that a table keeps for two switches
  abbrev IsKept : ℕ → ℕ → Option ℕ → Type 0
  IsKept from to kept = MatchOption kept (¬ AreConnected t from to) (λ n. IsHopCount t from to n)

  abbrev IsSmall : Option ℕ → Type 0
  IsSmall kept = IfSome kept (λ n. n < 2 ^ 16)

  kept_exists : (from to : ℕ) → from < length t.switches → (kept : Option ℕ) × IsKept from to kept × IsSmall kept
  kept_exists from to low = go (found_below (λ m. Walk (LeadsTo t) m from to) (λ m. walk_decided t m from to) (length t.switches))
    where
      told : (n : ℕ) × IsHopCount t from to n → (kept : Option ℕ) × IsKept from to kept × IsSmall kept
      told count = (Some count.0, count.1, omega (arith, hops_small t from to count.0 good low count.1, good.switch_count))

      refuted : ((m : ℕ) → m < length t.switches → ¬ Walk (LeadsTo t) m from to) → (n : ℕ) × IsHopCount t from to n → ⊥
      refuted none count = none count.0 (hops_small t from to count.0 good low count.1) count.1.holds

      go : ((m : ℕ) × (m < length t.switches) × Walk (LeadsTo t) m from to) ⊎ ((m : ℕ) → m < length t.switches → ¬ Walk (LeadsTo t) m from to) → (kept : Option ℕ) × IsKept from to kept × IsSmall kept
      go (inl found) = told (connected_have_count t from to (found.0, found.2))
      go (inr none) = (None, λ w. refuted none (connected_have_count t from to w), tt)

  record RowOf (from count : ℕ) : Type 0 where
    row : List (Option ℕ)
    whole : length row ≡ count
    each : (to : ℕ) → to < count → IsKept from to (get_or row to None)
    small : All IsSmall row

  row_more : (from count : ℕ) → RowOf from count → (kept : Option ℕ) × IsKept from count kept × IsSmall kept → RowOf from (suc count)
  row_more from count r k = record {
    row = r.row ++ k.0 ∷ [];
    whole = omega (arith, r.whole, length_push r.row k.0);
    each = λ to low. elim (cases_lt to count) [
      | inl less ↦ subst (λ o. IsKept from to o) (sym (get_or_append_left r.row (k.0 ∷ []) None to (omega (arith, less, r.whole)))) (r.each to less)
      | inr last ↦
          (let same : to ≡ length r.row + 0 = omega (arith, r.whole, low, last) in
          let at : count ≡ to = omega (arith, low, last) in
          subst (λ o. IsKept from to o) (sym (ap (λ j. get_or (r.row ++ k.0 ∷ []) j None) same ∙ get_or-append-add r.row (k.0 ∷ []) 0 None)) (subst (λ x. IsKept from x k.0) at k.1))
    ];
    small = All-push IsSmall r.row k.0 r.small k.2;
  }

  row_of : (from : ℕ) → from < length t.switches → (count : ℕ) → RowOf from count
  row_of from low zero = record { row = []; whole = refl; each = λ to h. absurd (omega (arith, h)); small = All-nil IsSmall }
  row_of from low (suc count) = row_more from count (row_of from low count) (kept_exists from count low)

  record RowsOf (count : ℕ) : Type 0 where
    rows : List (Option ℕ)
    whole : length rows ≡ count * length t.switches
    each : (from to : ℕ) → from < count → to < length t.switches → IsKept from to (get_or rows (from * length t.switches + to) None)
    small : All IsSmall rows

  rows_more : (count : ℕ) → RowsOf count → RowOf count (length t.switches) → RowsOf (suc count)
  rows_more count rs r = record {
    rows = rs.rows ++ r.row;
    whole = omega (arith, rs.whole, r.whole, length-append rs.rows r.row);
    each = λ from to low high. elim (cases_lt from count) [
      | inl less ↦
          subst (λ o. IsKept from to o) (sym (get_or_append_left rs.rows r.row None (from * length t.switches + to) (omega (arith, high, rs.whole, row_before from count (length t.switches) less)))) (rs.each from to less high)
      | inr last ↦
          (let at : count ≡ from = omega (arith, low, last) in
          let same : from * length t.switches + to ≡ length rs.rows + to = ap (λ x. x * length t.switches + to) (sym at) ∙ ap (λ x. x + to) (sym rs.whole) in
          subst (λ o. IsKept from to o) (sym (ap (λ j. get_or (rs.rows ++ r.row) j None) same ∙ get_or-append-add rs.rows r.row to None)) (subst (λ x. IsKept x to (get_or r.row to None)) at (r.each to high)))
    ];
    small = All-append IsSmall rs.rows r.row rs.small r.small;
  }

  rows_of : (count : ℕ) → count ≤ length t.switches → RowsOf count
  rows_of zero low = record { rows = []; whole = omega arith; each = λ from to h g. absurd (omega (arith, h)); small = All-nil IsSmall }
  rows_of (suc count) low = rows_more count (rows_of count (omega (arith, low))) (row_of count (omega (arith, low)) (length t.switches))

pub hop_table_exists : HopTableExists
hop_table_exists t good = go (rows_of t good (length t.switches) (omega arith))
  where
    go : RowsOf t good (length t.switches) → (h : HopTable) × IsHopTable h × AreHops t h
    go rs = (
      record { switches = length t.switches; counts = rs.rows },
      record { few = omega (arith, good.switch_count); whole = rs.whole; small = rs.small },
      record { switches = refl; each = rs.each },
    )

-- ---- the greatest of the counts

module _ (counts : ℕ → Option ℕ) (count : ℕ) where
  greatest_of : (index : ℕ) → index ≤ count → (n : ℕ) × IsAttained counts count n × IsGreatest counts index n
  greatest_of zero low = (0, inl refl, λ other m h e. absurd (omega (arith, h)))
  greatest_of (suc index) low = by_count (greatest_of index (omega (arith, low))) (counts index) refl
    where
      by_count : (n : ℕ) × IsAttained counts count n × IsGreatest counts index n → (o : Option ℕ) → counts index ≡ o → (n : ℕ) × IsAttained counts count n × IsGreatest counts (suc index) n
      by_count g None e = (g.0, g.1, subst (λ k. IsGreatest counts k g.0) (let s : index + 1 ≡ suc index = omega arith in s) (greatest_still counts count index g.0 (omega (arith, low)) g.1 g.2 e))
      by_count g (Some hops) e = (
        max hops g.0,
        attained_more counts count index g.0 (omega (arith, low)) g.1 g.2 hops e,
        subst (λ k. IsGreatest counts k (max hops g.0)) (let s : index + 1 ≡ suc index = omega arith in s) (greatest_more counts count index g.0 (omega (arith, low)) g.1 g.2 hops e),
      )

pub eccentricity_exists : EccentricityExists
eccentricity_exists t s good low = go (hop_table_exists t good)
  where
    go : (h : HopTable) × IsHopTable h × AreHops t h → (n : ℕ) × IsEccentricity t s n
    go h =
        let g : (n : ℕ) × IsAttained (λ to. hop_count h.0 s to) h.0.switches n × IsGreatest (λ to. hop_count h.0 s to) h.0.switches n = greatest_of (λ to. hop_count h.0 s to) h.0.switches h.0.switches (omega arith) in
        (g.0, is_eccentricity t h.0 h.2 good s g.0 low (record { attained = g.1; greatest = g.2 }))
