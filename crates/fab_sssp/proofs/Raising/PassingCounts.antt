-- The counts with which passing on begins: the terminals of each switch, and for each switch those whose channel leads to it.
use Rattle.std.proofs.Common.{◌≡◌, ◌≢◌, ℕ, zero, suc, ◌+◌, ◌*◌, ◌<◌, ◌≤◌, Bool, true, false, cond, List, [], ◌∷◌, length, take, get_or, set, Some, Option, slice_get, refl, sym, ◌∙◌, ap, inl, inr, ◌⊎◌, arith, get_or-set_same, get_or-set_other}
use Rattle.std.specs.Prelude.{◌==◌, ◌&&◌, All, slice_index, count_by, sum_by}
use Rattle.std.specs.List.{list_any}
use Rattle.std.proofs.lemmas.Bool.{eq-eqb, ne_eqb, lt-ltb, cases_eq}
use Rattle.std.proofs.lemmas.List.Elements.{All-head, All-tail}
use Rattle.std.proofs.lemmas.List.Sums.{sum_by-cons, sum_by_more, sum_by-le, count_by-le-length}
use Rattle.std.proofs.lemmas.Option.{slice_get_within, get_or_from_slice_get}
use Rattle.fab_model.specs.declared.rows.TerminalRow.{TerminalRow}
use Rattle.fab_model.specs.Topology.{Topology}
use Rattle.fab_model.specs.WellFormed.{IsWellFormed}
use Rattle.fab_tables.specs.Trees.{next}
use Rattle.fab_tables.specs.TreeWalks.{walk_of, terminals_through}
use Rattle.fab_sssp.specs.Passing.{sum_below, one_if, terminals_on, walks_along, yet_to_pass, leads_to, leading_to, is_pending, pending_to, IsPassing}
use Rattle.fab_sssp.proofs.Raising.SumsBelow.{sum_below_same, sum_below_one, nothing_below}

-- so many of these terminals are on the switch
abbrev pub on_switch : List TerminalRow → ℕ → ℕ
on_switch ts s = count_by (λ (p : TerminalRow). p.switch.0 == s) ts

on_switch_more : (p : TerminalRow) (ts : List TerminalRow) (s : ℕ) → on_switch (p ∷ ts) s ≡ one_if (p.switch.0 == s) + on_switch ts s
on_switch_more p ts s = sum_by-cons (λ (q : TerminalRow). cond (q.switch.0 == s) 1 0) p ts

-- a sum over terminals is one over switches
pub by_switch : (w : ℕ → ℕ) (n : ℕ) (ts : List TerminalRow) → All (λ (p : TerminalRow). p.switch.0 < n) ts → sum_below (λ s. on_switch ts s * w s) n ≡ sum_by (λ (p : TerminalRow). w p.switch.0) ts
by_switch w n [] low = nothing_below (λ s. on_switch [] s * w s) n (λ s h. omega arith)
by_switch w n (p ∷ ts) low = omega (
  arith,
  sum_below_one (λ s. on_switch (p ∷ ts) s * w s) (λ s. on_switch ts s * w s) n i (All-head (λ (q : TerminalRow). q.switch.0 < n) p ts low) (λ s h other. ap (λ m. m * w s) (elsewhere s other)),
  here,
  by_switch w n ts (All-tail (λ (q : TerminalRow). q.switch.0 < n) p ts low),
  sum_by-cons (λ (q : TerminalRow). w q.switch.0) p ts,
)
  where
    i : ℕ
    i = p.switch.0

    elsewhere : (s : ℕ) → s ≢ i → on_switch (p ∷ ts) s ≡ on_switch ts s
    elsewhere s other = omega (arith, on_switch_more p ts s, ap {B = ℕ} one_if (ne_eqb i s (λ e. other (sym e))))

    here : on_switch (p ∷ ts) i * w i ≡ on_switch ts i * w i + w i
    here = ap (λ m. m * w i) (on_switch_more p ts i ∙ ap (λ b. one_if b + on_switch ts i) (eq-eqb i i refl)) ∙ omega arith

-- ---- one terminal more is counted

module _ (t : Topology) (good : IsWellFormed t) (k : ℕ) (p : TerminalRow) (there : slice_get t.terminals k ≡ Some p) (counts : List ℕ) (each : length counts ≡ length t.switches)
    (so_far : (s : ℕ) → s < length t.switches → get_or counts s 0 ≡ on_switch (take k t.terminals) s) where
  abbrev q : ℕ
  q = p.switch.0

  within : k < length t.terminals
  within = slice_get_within t.terminals k p there

  pub terminal_low : q < length t.switches
  terminal_low = omega (arith, ap (λ (r : TerminalRow). r.switch.0) (get_or_from_slice_get t.terminals k p p there), good.terminal_switches k p within)

  pub terminal_counted : (s : ℕ) → s < length t.switches → get_or (set counts q (get_or counts q 0 + 1)) s 0 ≡ on_switch (take (k + 1) t.terminals) s
  terminal_counted s low = omega (arith, here_or_elsewhere (cases_eq s q), so_far s low, sum_by_more (λ (r : TerminalRow). cond (r.switch.0 == s) 1 0) t.terminals k p within, ap (λ (r : TerminalRow). one_if (r.switch.0 == s)) (get_or_from_slice_get t.terminals k p p there))
    where
      here_or_elsewhere : (s ≡ q) ⊎ (s ≢ q) → get_or (set counts q (get_or counts q 0 + 1)) s 0 ≡ get_or counts s 0 + one_if (q == s)
      here_or_elsewhere (inl e) =
          ap (λ x. get_or (set counts q (get_or counts q 0 + 1)) x 0) e ∙ get_or-set_same counts q (get_or counts q 0 + 1) 0 (omega (arith, each, terminal_low))
          ∙ omega (arith, ap (λ x. get_or counts x 0) e, ap {B = ℕ} one_if (eq-eqb q s (sym e)))
      here_or_elsewhere (inr other) =
          get_or-set_other counts q s (get_or counts q 0 + 1) 0 other ∙ omega (arith, ap {B = ℕ} one_if (ne_eqb q s (λ e. other (sym e))))

-- no more lead to a switch than there are
leading_few : (t : Topology) (tree : List (Option ℕ)) (s k : ℕ) → leading_to t tree s k ≤ k
leading_few t tree s zero = omega arith
leading_few t tree s (suc k) = omega (arith, leading_few t tree s k, at_most (leads_to t (next tree k) s))
  where
    at_most : (b : Bool) → one_if b ≤ 1
    at_most true = omega arith
    at_most false = omega arith

pub leading_fits : (t : Topology) (tree : List (Option ℕ)) (s k n : ℕ) → IsWellFormed t → k < length t.switches → n ≡ 1 + leading_to t tree s k → n + 1 < 2147483648
leading_fits t tree s k n good low is = omega (arith, is, low, good.switch_count, leading_few t tree s k)

-- ---- passing on begins

module _ (t : Topology) (tree : List (Option ℕ)) (good : IsWellFormed t) (arrived pending : List ℕ) (arrived_each : length arrived ≡ length t.switches) (pending_each : length pending ≡ length t.switches)
    (terminals : (s : ℕ) → s < length t.switches → slice_index arrived s ≡ terminals_on t s)
    (leading : (s : ℕ) → s < length t.switches → slice_index pending s ≡ 1 + leading_to t tree s (length t.switches)) where
  pending_all : (s : ℕ) → s < length t.switches → is_pending pending s ≡ true
  pending_all s low = lt-ltb 0 (slice_index pending s) (omega (arith, leading s low))

  pub weighed_by_terminal : (w : ℕ → ℕ) → sum_below (λ s. slice_index arrived s * w s) (length t.switches) ≡ sum_by (λ (p : TerminalRow). w p.switch.0) t.terminals
  weighed_by_terminal w =
      sum_below_same (λ s. slice_index arrived s * w s) (λ s. on_switch t.terminals s * w s) (length t.switches) (λ s low. ap (λ m. m * w s) (terminals s low))
      ∙ by_switch w (length t.switches) t.terminals good.terminal_switches

  pub begins_passing : IsPassing t tree arrived pending
  begins_passing = record {
    arrived_each = arrived_each;
    pending_each = pending_each;
    few = omega (
      arith,
      sum_below_same (λ s. slice_index arrived s * 1) (λ s. slice_index arrived s) (length t.switches) (λ s low. omega arith),
      weighed_by_terminal (λ s. 1),
      sum_by-le (λ (p : TerminalRow). 1) 1 t.terminals (λ k d h. omega arith),
    );
    counted = λ s low. omega (arith, leading s low, ap {B = ℕ} one_if (pending_all s low), all_behind s);
    passed = λ s c low none has. absurd (omega (arith, leading s low, none));
  }
    where
      with_true : (b : Bool) → one_if (b && true) ≡ one_if b
      with_true true = refl
      with_true false = refl

      all_behind : (s : ℕ) → pending_to t tree pending s ≡ leading_to t tree s (length t.switches)
      all_behind s = sum_below_same (λ q. one_if (leads_to t (next tree q) s && is_pending pending q)) (λ q. one_if (leads_to t (next tree q) s)) (length t.switches)
          (λ q low. ap (λ b. one_if (leads_to t (next tree q) s && b)) (pending_all q low) ∙ with_true (leads_to t (next tree q) s))

  -- all terminals whose walk contains a channel have yet to pass it
  pub yet_is_through : (c : ℕ) → yet_to_pass t tree arrived c ≡ terminals_through t tree c
  yet_is_through c = weighed_by_terminal (λ s. walks_along t tree c s)

pub through_few : (t : Topology) (tree : List (Option ℕ)) (c : ℕ) → terminals_through t tree c ≤ length t.terminals
through_few t tree c = count_by-le-length (λ (p : TerminalRow). list_any (λ d. d == c) (walk_of t tree p.switch.0)) t.terminals
