-- Hops added up over sources and LIDs, and the numbers that are not 0.
use Rattle.std.proofs.Common.{◌≡◌, ℕ, ◌+◌, ◌*◌, ◌≤◌, Bool, true, false, cond, List, [], ◌∷◌, ◌++◌, length, ◌∙◌, ap, arith}
use Rattle.std.specs.Prelude.{sum_by, filter}
use Rattle.std.specs.List.{range_with_len}
use Rattle.std.proofs.lemmas.List.Sums.{sum_by_push, sum_by-le, length-filter, count_by-le-length}
use Rattle.std.proofs.lemmas.List.{append-nil}
use Rattle.std.proofs.lemmas.List.FromFn.{length-range_with_len}
use Rattle.fab_model.specs.Topology.{Topology, is_source}
use Rattle.fab_model.specs.WellFormed.{IsFabric}
use Rattle.fab_model.proofs.Tables.{filter_range_more}
use Rattle.fab_tables.specs.Entries.{Entries}
use Rattle.fab_tables.specs.Route.{route}
use Rattle.fab_report.specs.Summary.{hops_if_delivered}
use Rattle.fab_report.proofs.Reporting.Bounds.{route_short, hops_short}

module _ (t : Topology) (e : Entries) (lid : ℕ) where
  abbrev pub hops_by : ℕ → ℕ
  hops_by s = hops_if_delivered (route t e s lid)

  -- the hops from sources below a switch
  abbrev pub hops_below : ℕ → ℕ
  hops_below s = sum_by hops_by (filter (is_source t) (range_with_len 0 s))

  more : (s : ℕ) (b : Bool) → is_source t s ≡ b → hops_below (s + 1) ≡ sum_by hops_by (filter (is_source t) (range_with_len 0 s) ++ cond b (s ∷ []) [])
  more s b is = ap (λ (xs : List ℕ). sum_by hops_by xs) (filter_range_more (is_source t) s) ∙ ap (λ (v : Bool). sum_by hops_by (filter (is_source t) (range_with_len 0 s) ++ cond v (s ∷ []) [])) is

  pub source_added : (s : ℕ) → is_source t s ≡ true → hops_below (s + 1) ≡ hops_below s + hops_by s
  source_added s is = more s true is ∙ sum_by_push hops_by (filter (is_source t) (range_with_len 0 s)) s

  pub other_passed : (s : ℕ) → is_source t s ≡ false → hops_below (s + 1) ≡ hops_below s
  other_passed s is = more s false is ∙ ap (λ (xs : List ℕ). sum_by hops_by xs) (append-nil (filter (is_source t) (range_with_len 0 s)))

  pub hops_few : (s : ℕ) → IsFabric t → s ≤ 2048 → hops_below s ≤ 4194304
  hops_few s is h =
      let each : (u : ℕ) → hops_by u ≤ 2048 = λ u. at_most (hops_by u) (length t.switches) (hops_short (length t.switches) (route t e u lid) (route_short t e lid (length t.switches) u)) is.rows.switch_count in
      let sums : hops_below s ≤ length (filter (is_source t) (range_with_len 0 s)) * 2048 = sum_by-le hops_by 2048 (filter (is_source t) (range_with_len 0 s)) (λ k d low. each _) in
      omega (arith, sums, length-filter (is_source t) (range_with_len 0 s), count_by-le-length (is_source t) (range_with_len 0 s), length-range_with_len 0 s, h)
    where
      at_most : (a b : ℕ) → a ≤ b → b ≤ 2048 → a ≤ 2048
      at_most a b h k = omega (arith, h, k)
