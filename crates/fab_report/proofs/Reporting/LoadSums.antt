-- Counting loads, LID by LID.
use Rattle.std.proofs.Common.{◌≡◌, ℕ, ◌+◌, ◌<◌, ◌≤◌, ◌^◌, inl, inr, Bool, true, false, List, [], ◌∷◌, ◌++◌, length, take, get_or, set, refl, sym, ◌∙◌, ap, subst, arith, Some, slice_get, replicate, length-set, get_or-set_other}
use Rattle.std.specs.Prelude.{◌==◌, All, sum_by, count_by, slice_index, if◌then◌else◌}
use Rattle.std.proofs.lemmas.Bool.{cases_eq, eq-eqb, ne_eqb}
use Rattle.std.proofs.lemmas.Option.{get_or_from_slice_get}
use Rattle.std.proofs.lemmas.List.{get_or-set_same, get_or_default, take_all, length-replicate, get_or-replicate, length-take-le}
use Rattle.std.proofs.lemmas.List.FromFn.{fill_by_all}
use Rattle.std.proofs.lemmas.List.Sums.{sum_by_more, sum_by-take-le, sum_by-le, count_by-le-length}
use Rattle.fab_model.specs.declared.rows.TerminalRow.{TerminalRow}
use Rattle.fab_model.specs.Topology.{Topology, lids_of}
use Rattle.fab_model.specs.WellFormed.{IsFabric}
use Rattle.fab_model.proofs.Lists.Members.{in_all}
use Rattle.fab_model.proofs.Faultless.Facts.{slice_get_in}
use Rattle.fab_model.proofs.Order.{lids_are_counted}
use Rattle.fab_tables.specs.Entries.{Entries}
use Rattle.fab_tables.specs.Route.{route}
use Rattle.fab_report.specs.Loads.{is_loaded_by, load_of, loads_of}
use Rattle.fab_report.specs.Counting.{load_to, AreCounts}

-- ---- over LIDs

pub lid_added : (t : Topology) (e : Entries) (k lid : ℕ) (old new : List ℕ) → k < length (lids_of t) → lid ≡ get_or (lids_of t) k 0 → AreCounts (λ c. sum_by (load_to t e c) (take k (lids_of t))) (length t.channels) old →
    AreCounts (λ c. slice_index old c + load_to t e c lid) (length t.channels) new → AreCounts (λ c. sum_by (load_to t e c) (take (k + 1) (lids_of t))) (length t.channels) new
lid_added t e k lid old new h at so_far added = record {
  whole = added.whole;
  each = λ c low. omega (arith, added.each c low, so_far.each c low, sum_by_more (load_to t e c) (lids_of t) k 0 h, ap (λ n. load_to t e c n) at);
}

pub loads_small : (t : Topology) (e : Entries) (k : ℕ) (counts : List ℕ) → IsFabric t → AreCounts (λ c. sum_by (load_to t e c) (take k (lids_of t))) (length t.channels) counts → All (λ n. n < 2 ^ 32) counts
loads_small t e k counts is so_far c d low =
    let each : (lid : ℕ) → load_to t e c lid ≤ 16384 = λ lid. omega (arith, count_by-le-length (λ (p : TerminalRow). is_loaded_by c (route t e p.switch.0 lid)) t.terminals, is.rows.lid_count) in
    omega (
      arith,
      so_far.each c (omega (arith, low, so_far.whole)),
      get_or_default counts c d 0 low,
      sum_by-take-le (load_to t e c) (lids_of t) k,
      sum_by-le (load_to t e c) 16384 (lids_of t) (λ i d' i_low. each (get_or (lids_of t) i d')),
      lids_are_counted t,
      is.rows.lid_count,
    )

pub loads_are : (t : Topology) (e : Entries) (k : ℕ) (counts : List ℕ) → length (lids_of t) ≤ k → AreCounts (λ c. sum_by (load_to t e c) (take k (lids_of t))) (length t.channels) counts → counts ≡ loads_of t e
loads_are t e k counts h so_far =
    fill_by_all (λ c. load_of t e c) counts (length t.channels) 0 so_far.whole
    (λ c low. so_far.each c low ∙ ap (λ (lids : List ℕ). sum_by (load_to t e c) lids) (take_all k (lids_of t) h))

-- counts of no LID and no terminal
pub no_counts : (f : ℕ → ℕ) (n m : ℕ) (counts : List ℕ) → m ≡ n → counts ≡ replicate m 0 → ((k : ℕ) → f k ≡ 0) → AreCounts f n counts
no_counts f n m counts same is none = record {
  whole = ap length is ∙ length-replicate m 0 ∙ same;
  each = λ k low. ap (λ (xs : List ℕ). slice_index xs k) is ∙ get_or-replicate m k 0 0 (omega (arith, low, same)) ∙ sym (none k);
}

-- ---- terminals by switch

module _ (t : Topology) (is : IsFabric t) (n : ℕ) (counts : List ℕ) (row : TerminalRow) (h : n < length t.terminals) (at : slice_get t.terminals n ≡ Some row)
    (so_far : AreCounts (λ s. count_by (λ (p : TerminalRow). p.switch.0 == s) (take n t.terminals)) (length t.switches) counts) where
  pub terminal_low : row.switch.0 < length t.switches
  terminal_low = in_all (λ (r : TerminalRow). r.switch.0 < length t.switches) t.terminals is.rows.terminal_switches row (slice_get_in t.terminals n row at)

  pub terminals_few : slice_index counts row.switch.0 + 1 < 2 ^ 64
  terminals_few = omega (arith, so_far.each row.switch.0 terminal_low, count_by-le-length (λ (p : TerminalRow). p.switch.0 == row.switch.0) (take n t.terminals), length-take-le n t.terminals, is.rows.lid_count)

  counted : (s : ℕ) → count_by (λ (p : TerminalRow). p.switch.0 == s) (take (n + 1) t.terminals) ≡ count_by (λ (p : TerminalRow). p.switch.0 == s) (take n t.terminals) + (if row.switch.0 == s then 1 else 0)
  counted s =
      sum_by_more (λ (p : TerminalRow). if p.switch.0 == s then 1 else 0) t.terminals n row h
      ∙ ap (λ (r : TerminalRow). count_by (λ (p : TerminalRow). p.switch.0 == s) (take n t.terminals) + (if r.switch.0 == s then 1 else 0)) (get_or_from_slice_get t.terminals n row row at)

  terminal_counted : AreCounts (λ s. count_by (λ (p : TerminalRow). p.switch.0 == s) (take (n + 1) t.terminals)) (length t.switches) (set counts row.switch.0 (slice_index counts row.switch.0 + 1))
  terminal_counted = record {
    whole = length-set counts row.switch.0 (slice_index counts row.switch.0 + 1) ∙ so_far.whole;
    each = λ s low. elim (cases_eq s row.switch.0) [
      | inl same ↦ subst (λ x. slice_index (set counts row.switch.0 (slice_index counts row.switch.0 + 1)) x ≡ count_by (λ (p : TerminalRow). p.switch.0 == x) (take (n + 1) t.terminals)) (sym same)
          (omega (arith, get_or-set_same counts row.switch.0 (slice_index counts row.switch.0 + 1) 0 (omega (arith, terminal_low, so_far.whole)), so_far.each row.switch.0 terminal_low, counted row.switch.0, one_if (row.switch.0 == row.switch.0) (eq-eqb row.switch.0 row.switch.0 refl)))
      | inr other ↦
          omega (arith, get_or-set_other counts row.switch.0 s (slice_index counts row.switch.0 + 1) 0 other, so_far.each s low, counted s, none_if (row.switch.0 == s) (ne_eqb row.switch.0 s (λ e. other (sym e))))
    ];
  }
    where
      one_if : (b : Bool) → b ≡ true → ◌≡◌ {A = ℕ} (if b then 1 else 0) 1
      one_if true e = refl
      one_if false e = cc

      none_if : (b : Bool) → b ≡ false → ◌≡◌ {A = ℕ} (if b then 1 else 0) 0
      none_if true e = cc
      none_if false e = refl

  pub terminal_counted_from : (read : ℕ) → read ≡ slice_index counts row.switch.0 → AreCounts (λ s. count_by (λ (p : TerminalRow). p.switch.0 == s) (take (n + 1) t.terminals)) (length t.switches) (set counts row.switch.0 (read + 1))
  terminal_counted_from read e = subst (λ k. AreCounts (λ s. count_by (λ (p : TerminalRow). p.switch.0 == s) (take (n + 1) t.terminals)) (length t.switches) (set counts row.switch.0 (k + 1))) (sym e) terminal_counted

-- ---- counts that are written back

pub same_counts : {f : ℕ → ℕ} (n : ℕ) (xs ys : List ℕ) → xs ≡ ys → AreCounts f n ys → AreCounts f n xs
same_counts {f} n xs ys same are = subst (λ (zs : List ℕ). AreCounts f n zs) (sym same) are

whole_front : (xs ys : List ℕ) → take (length xs) (xs ++ ys) ≡ xs
whole_front [] ys = refl
whole_front (x ∷ xs) ys = ap (λ zs. x ∷ zs) (whole_front xs ys)

pub whole_counts : {f : ℕ → ℕ} (n len : ℕ) (xs ys : List ℕ) → len ≡ length xs → AreCounts f n xs → AreCounts f n (take len (xs ++ ys))
whole_counts n len xs ys whole are = same_counts n (take len (xs ++ ys)) xs (ap (λ k. take k (xs ++ ys)) whole ∙ whole_front xs ys) are
