-- Passing on along a tree: what a channel has and what has yet to pass it stay together the same, and in the end all has passed.
use Rattle.std.proofs.Common.{◌≡◌, ◌≢◌, ℕ, zero, suc, ◌+◌, ◌*◌, ◌-◌, ◌^◌, ◌<◌, ◌≤◌, Bool, true, false, List, [], ◌∷◌, length, get_or, set, Some, None, Option, option_map, slice_get, refl, sym, ◌∙◌, ap, subst, inl, inr, ◌⊎◌, arith, length-set, get_or-set_same, get_or-set_other}
use Rattle.std.specs.Prelude.{◌==◌, ◌&&◌, ◌||◌, slice_index, nat_lt}
use Rattle.std.specs.List.{list_any}
use Rattle.std.proofs.lemmas.Bool.{eqb-true, eq-eqb, ne_eqb, lt-ltb, le-ltb, ltb-false, cases_eq, false≢true, false_from_ne_true, and_right}
use Rattle.std.proofs.lemmas.Option.{same_Some, none-some, slice_get_within}
use Rattle.fab_model.specs.declared.rows.SwitchId.{SwitchId}
use Rattle.fab_model.specs.declared.rows.ChannelRow.{ChannelRow}
use Rattle.fab_model.specs.Topology.{Topology}
use Rattle.fab_model.specs.WellFormed.{IsWellFormed}
use Rattle.fab_tables.specs.Route.{tip, tip_of_row}
use Rattle.fab_tables.specs.Trees.{next, LeavesSwitch}
use Rattle.fab_tables.specs.TreeWalks.{GoesAlong, IsTree, walk_of}
use Rattle.fab_tables.proofs.Paths.TreeWalks.{goes_walk_of, walk_goes, walk_of_next, next_tip_below, walk_short}
use Rattle.fab_sssp.specs.Passing.{one_if, walks_along, yet_to_pass, leads_to, is_pending, pending_to, IsPassing, KeepsTotals, TotalsFit}
use Rattle.fab_sssp.proofs.Raising.SumsBelow.{sum_below_same, sum_below_one, one_of_sum, nothing_below, moved, moved_from, moved_elsewhere, moved_sum, moved_all}

pub tip_read : (t : Topology) (d : ℕ) (x : SwitchId) → option_map (λ (row : ChannelRow). row.tip) (slice_get t.channels d) ≡ Some x → tip t d ≡ x.0
tip_read t d x = go (slice_get t.channels d)
  where
    go : (o : Option ChannelRow) → option_map (λ (row : ChannelRow). row.tip) o ≡ Some x → tip_of_row o ≡ x.0
    go None e = absurd (none-some x e)
    go (Some row) e = ap (λ (s : SwitchId). s.0) (same_Some row.tip x e)

module _ (t : Topology) (tree : List (Option ℕ)) (is : IsTree t tree) where
  -- ---- which channels a walk contains

  -- from the tip of a channel of a walk on, the walk is shorter
  later_is_shorter : (s : ℕ) (cs : List ℕ) (c : ℕ) → GoesAlong t tree s cs → list_any (λ d. d == c) cs ≡ true → length (walk_of t tree (tip t c)) < length cs
  later_is_shorter s [] c goes has = absurd (false≢true has)
  later_is_shorter s (d ∷ ds) c goes has = go (λ h. later_is_shorter (tip t d) ds c goes.1 h) (d == c) refl has
    where
      go : (list_any (λ x. x == c) ds ≡ true → length (walk_of t tree (tip t c)) < length ds) → (b : Bool) → (d == c) ≡ b → (b || list_any (λ x. x == c) ds) ≡ true → length (walk_of t tree (tip t c)) < suc (length ds)
      go rest true same h =
          omega (arith, ap (λ (xs : List ℕ). length xs) (goes_walk_of t tree (tip t c) ds is.each_switch (subst (λ x. GoesAlong t tree (tip t x) ds) (eqb-true d c same) goes.1)))
      go rest false other h = omega (arith, rest h)

  -- so no channel stands in it twice
  not_again : (s c : ℕ) → next tree s ≡ Some c → list_any (λ d. d == c) (walk_of t tree (tip t c)) ≡ false
  not_again s c has = false_from_ne_true _ (λ h. omega (arith, later_is_shorter (tip t c) (walk_of t tree (tip t c)) c (walk_goes t tree (tip t c) is) h))

  walks_on : (s d c : ℕ) → next tree s ≡ Some d → walks_along t tree c s ≡ one_if (d == c) + walks_along t tree c (tip t d)
  walks_on s d c has = ap (λ cs. one_if (list_any (λ x. x == c) cs)) (walk_of_next t tree s d is has) ∙ go (d == c) refl
    where
      go : (b : Bool) → (d == c) ≡ b → one_if (b || list_any (λ x. x == c) (walk_of t tree (tip t d))) ≡ one_if b + walks_along t tree c (tip t d)
      go true same = omega (arith, ap {B = ℕ} one_if (subst (λ x. list_any (λ y. y == x) (walk_of t tree (tip t d)) ≡ false) (eqb-true d c same) (not_again s d has)))
      go false other = omega arith

  walks_nowhere : (s c : ℕ) → next tree s ≡ None → walks_along t tree c s ≡ 0
  walks_nowhere s c none = ap (λ cs. one_if (list_any (λ x. x == c) cs)) (goes_walk_of t tree s [] is.each_switch none)

  -- a channel leads to another switch
  tip_differs : (s d : ℕ) → next tree s ≡ Some d → tip t d ≢ s
  tip_differs s d has same = omega (arith, ap (λ (xs : List ℕ). length xs) (walk_of_next t tree s d is has), ap (λ x. length (walk_of t tree x)) same)

  -- ---- a switch that alone is pending passes on

  module _ (good : IsWellFormed t) (arrived pending : List ℕ) (passing : IsPassing t tree arrived pending) (from : ℕ) (low : from < length t.switches) (alone : slice_index pending from ≡ 1) where
    abbrev n : ℕ
    n = length t.switches

    -- none leads to it that has yet to pass on
    none_behind : pending_to t tree pending from ≡ 0
    none_behind = omega (arith, passing.counted from low, alone, ap {B = ℕ} one_if (lt-ltb 0 (slice_index pending from) (omega (arith, alone))))

    abbrev left : List ℕ
    left = set pending from 0

    left_from : get_or left from 0 ≡ 0
    left_from = get_or-set_same pending from 0 0 (omega (arith, low, passing.pending_each))

    left_elsewhere : (s : ℕ) → s ≢ from → get_or left s 0 ≡ get_or pending s 0
    left_elsewhere s other = get_or-set_other pending from s 0 0 other

    -- it has no channel
    pub passes_nothing : next tree from ≡ None → IsPassing t tree arrived left
    passes_nothing none = record {
      arrived_each = passing.arrived_each;
      pending_each = length-set pending from 0 ∙ passing.pending_each;
      few = passing.few;
      counted = λ s h. counted s h (cases_eq s from);
      passed = λ s c h nought has. passed s c h nought has (cases_eq s from);
    }
      where
        behind_same : (s : ℕ) → pending_to t tree left s ≡ pending_to t tree pending s
        behind_same s = sum_below_same (λ q. one_if (leads_to t (next tree q) s && is_pending left q)) (λ q. one_if (leads_to t (next tree q) s && is_pending pending q)) n (λ q h. go q (cases_eq q from))
          where
            go : (q : ℕ) → (q ≡ from) ⊎ (q ≢ from) → one_if (leads_to t (next tree q) s && is_pending left q) ≡ one_if (leads_to t (next tree q) s && is_pending pending q)
            go q (inl e) = let none_here : next tree q ≡ None = ap (λ x. next tree x) e ∙ none in ap (λ o. one_if (leads_to t o s && is_pending left q)) none_here ∙ sym (ap (λ o. one_if (leads_to t o s && is_pending pending q)) none_here)
            go q (inr other) = ap (λ x. one_if (leads_to t (next tree q) s && nat_lt 0 x)) (left_elsewhere q other)

        counted : (s : ℕ) → s < n → (s ≡ from) ⊎ (s ≢ from) → slice_index left s ≡ one_if (is_pending left s) + pending_to t tree left s
        counted s h (inl e) = let zero_there : get_or left s 0 ≡ 0 = ap (λ x. get_or left x 0) e ∙ left_from in
            omega (arith, zero_there, ap (λ x. one_if (nat_lt 0 x)) zero_there, behind_same s, ap (λ x. pending_to t tree pending x) e, none_behind)
        counted s h (inr other) = omega (arith, left_elsewhere s other, ap (λ x. one_if (nat_lt 0 x)) (left_elsewhere s other), behind_same s, passing.counted s h)

        passed : (s c : ℕ) → s < n → slice_index left s ≡ 0 → next tree s ≡ Some c → (s ≡ from) ⊎ (s ≢ from) → slice_index arrived s ≡ 0
        passed s c h nought has (inl e) = absurd (none-some c (sym none ∙ ap (λ x. next tree x) (sym e) ∙ has))
        passed s c h nought has (inr other) = passing.passed s c h (sym (left_elsewhere s other) ∙ nought) has

    -- it has one
    module _ (d : ℕ) (has : next tree from ≡ Some d) where
      abbrev to : ℕ
      to = tip t d

      to_low : to < n
      to_low = next_tip_below t good tree is from d has

      differs : to ≢ from
      differs = tip_differs from d has

      leads_there : leads_to t (next tree from) to ≡ true
      leads_there = ap (λ o. leads_to t o to) has ∙ eq-eqb to to refl

      leads_only_there : (s : ℕ) → s ≢ to → leads_to t (next tree from) s ≡ false
      leads_only_there s other = ap (λ o. leads_to t o s) has ∙ ne_eqb to s (λ e. other (sym e))

      abbrev awaits : List ℕ → ℕ → ℕ → ℕ
      awaits ps s q = one_if (leads_to t (next tree q) s && is_pending ps q)

      awaits_from : (s : ℕ) → awaits pending s from ≡ one_if (leads_to t (next tree from) s)
      awaits_from s = ap (λ b. one_if (leads_to t (next tree from) s && b)) (lt-ltb 0 (slice_index pending from) (omega (arith, alone))) ∙ go (leads_to t (next tree from) s)
        where
          go : (b : Bool) → one_if (b && true) ≡ one_if b
          go true = refl
          go false = refl

      two_at_tip : 2 ≤ slice_index pending to
      two_at_tip = go (is_pending pending to) refl
        where
          behind : 1 ≤ pending_to t tree pending to
          behind = omega (arith, one_of_sum (λ q. awaits pending to q) n from low, awaits_from to, ap {B = ℕ} one_if leads_there)

          go : (b : Bool) → is_pending pending to ≡ b → 2 ≤ slice_index pending to
          go true e = omega (arith, passing.counted to to_low, behind, ap {B = ℕ} one_if e)
          go false e = absurd (omega (arith, passing.counted to to_low, behind, ltb-false 0 (slice_index pending to) e))

      abbrev fewer : List ℕ
      fewer = set left to (get_or left to 0 - 1)

      fewer_from : get_or fewer from 0 ≡ 0
      fewer_from = get_or-set_other left to from (get_or left to 0 - 1) 0 (λ e. differs (sym e)) ∙ left_from

      fewer_to : get_or fewer to 0 + 1 ≡ get_or pending to 0
      fewer_to = omega (arith, get_or-set_same left to (get_or left to 0 - 1) 0 (omega (arith, to_low, passing.pending_each, length-set pending from 0)), left_elsewhere to differs, two_at_tip)

      fewer_elsewhere : (s : ℕ) → s ≢ from → s ≢ to → get_or fewer s 0 ≡ get_or pending s 0
      fewer_elsewhere s a b = get_or-set_other left to s (get_or left to 0 - 1) 0 b ∙ left_elsewhere s a

      -- the others are pending as before
      pending_still : (q : ℕ) → q ≢ from → is_pending fewer q ≡ is_pending pending q
      pending_still q other = elim (cases_eq q to) [
        | inl e ↦
            (let at : get_or fewer q 0 ≡ get_or fewer to 0 = ap (λ x. get_or fewer x 0) e in
            let before : get_or pending q 0 ≡ get_or pending to 0 = ap (λ x. get_or pending x 0) e in
            lt-ltb 0 (get_or fewer q 0) (omega (arith, at, fewer_to, two_at_tip)) ∙ sym (lt-ltb 0 (get_or pending q 0) (omega (arith, before, two_at_tip))))
        | inr elsewhere ↦ ap (λ x. nat_lt 0 x) (fewer_elsewhere q other elsewhere)
      ]

      behind_less : (s : ℕ) → pending_to t tree fewer s + one_if (leads_to t (next tree from) s) ≡ pending_to t tree pending s
      behind_less s = omega (
        arith,
        sum_below_one (λ q. awaits fewer s q) (λ q. awaits pending s q) n from low (λ q h other. ap (λ b. one_if (leads_to t (next tree q) s && b)) (pending_still q other)),
        awaits_from s,
        ap {B = ℕ} one_if (and_right (leads_to t (next tree from) s) (is_pending fewer from) (le-ltb 0 (get_or fewer from 0) (omega (arith, fewer_from)))),
      )

      counted : (s : ℕ) → s < n → (s ≡ from) ⊎ (s ≢ from) → (s ≡ to) ⊎ (s ≢ to) → slice_index fewer s ≡ one_if (is_pending fewer s) + pending_to t tree fewer s
      counted s h (inl e) x =
          let zero_there : get_or fewer s 0 ≡ 0 = ap (λ y. get_or fewer y 0) e ∙ fewer_from in
          omega (arith, zero_there, ap (λ y. one_if (nat_lt 0 y)) zero_there, behind_less s, ap (λ y. pending_to t tree pending y) e, none_behind)
      counted s h (inr a) (inl e) =
          let at : get_or fewer s 0 ≡ get_or fewer to 0 = ap (λ y. get_or fewer y 0) e in
          let before : get_or pending s 0 ≡ get_or pending to 0 = ap (λ y. get_or pending y 0) e in
          let leads : leads_to t (next tree from) s ≡ true = ap (λ y. leads_to t (next tree from) y) e ∙ leads_there in
          omega (
            arith,
            at,
            before,
            fewer_to,
            two_at_tip,
            behind_less s,
            ap {B = ℕ} one_if leads,
            passing.counted s h,
            ap {B = ℕ} one_if (lt-ltb 0 (get_or fewer s 0) (omega (arith, at, fewer_to, two_at_tip))),
            ap {B = ℕ} one_if (lt-ltb 0 (get_or pending s 0) (omega (arith, before, two_at_tip))),
          )
      counted s h (inr a) (inr b) =
          omega (
            arith,
            fewer_elsewhere s a b,
            ap (λ y. one_if (nat_lt 0 y)) (fewer_elsewhere s a b),
            behind_less s,
            ap {B = ℕ} one_if (leads_only_there s b),
            passing.counted s h,
          )

      passed : (s c : ℕ) → s < n → slice_index fewer s ≡ 0 → next tree s ≡ Some c → (s ≡ from) ⊎ (s ≢ from) → (s ≡ to) ⊎ (s ≢ to) → slice_index (moved arrived from to) s ≡ 0
      passed s c h nought hasc (inl e) x = ap (λ y. get_or (moved arrived from to) y 0) e ∙ moved_from arrived n from to passing.arrived_each low to_low differs
      passed s c h nought hasc (inr a) (inl e) = absurd (omega (arith, nought, ap (λ y. get_or fewer y 0) e, fewer_to, two_at_tip))
      passed s c h nought hasc (inr a) (inr b) =
          moved_elsewhere arrived n from to passing.arrived_each low to_low differs s a b ∙ passing.passed s c h (sym (fewer_elsewhere s a b) ∙ nought) hasc

      passes : IsPassing t tree (moved arrived from to) fewer
      passes = record {
        arrived_each = length-set (set arrived from 0) to (get_or (set arrived from 0) to 0 + get_or arrived from 0) ∙ length-set arrived from 0 ∙ passing.arrived_each;
        pending_each = length-set left to (get_or left to 0 - 1) ∙ length-set pending from 0 ∙ passing.pending_each;
        few = omega (arith, moved_all arrived n from to passing.arrived_each low to_low differs, passing.few);
        counted = λ s h. counted s h (cases_eq s from) (cases_eq s to);
        passed = λ s c h nought hasc. passed s c h nought hasc (cases_eq s from) (cases_eq s to);
      }

      some_left : 1 ≤ get_or left to 0
      some_left = omega (arith, left_elsewhere to differs, two_at_tip)

      -- no more come together than there are terminals
      come_few : get_or (set arrived from 0) to 0 + slice_index arrived from ≤ length t.terminals
      come_few = omega (
        arith,
        one_of_sum (λ k. get_or (moved arrived from to) k 0) n to to_low,
        get_or-set_same (set arrived from 0) to (get_or (set arrived from 0) to 0 + get_or arrived from 0) 0 (omega (arith, to_low, passing.arrived_each, length-set arrived from 0)),
        moved_all arrived n from to passing.arrived_each low to_low differs,
        passing.few,
      )

      -- what passes is what the channel gains and what has no more to pass it
      yet_less : (c : ℕ) → yet_to_pass t tree (moved arrived from to) c + slice_index arrived from * one_if (d == c) ≡ yet_to_pass t tree arrived c
      yet_less c =
          omega (
            arith,
            moved_sum arrived n from to passing.arrived_each low to_low differs (λ s. walks_along t tree c s),
            ap (λ m. slice_index arrived from * m) (walks_on from d c has),
          )

      totals_kept : (weights : List ℕ) → d < length weights → KeepsTotals t tree weights arrived (set weights d (get_or weights d 0 + slice_index arrived from)) (moved arrived from to)
      totals_kept weights there c h = elim (cases_eq c d) [
        | inl e ↦ omega (
          arith,
          yet_less c,
          ap (λ b. slice_index arrived from * one_if b) (eq-eqb d c (sym e)),
          ap (λ x. get_or (set weights d (get_or weights d 0 + slice_index arrived from)) x 0) e,
          ap (λ x. get_or weights x 0) e,
          get_or-set_same weights d (get_or weights d 0 + slice_index arrived from) 0 there,
        )
        | inr other ↦ omega (
          arith,
          yet_less c,
          ap (λ b. slice_index arrived from * one_if b) (ne_eqb d c (λ e. other (sym e))),
          get_or-set_other weights d c (get_or weights d 0 + slice_index arrived from) 0 other,
        )
      ]

      -- it has yet to pass the channel
      at_least_here : slice_index arrived from ≤ yet_to_pass t tree arrived d
      at_least_here = omega (
        arith,
        yet_less d,
        ap (λ b. slice_index arrived from * one_if b) (eq-eqb d d refl),
      )

  -- ---- what the code reads: the channel's tip, what it leaves and what it takes

  module _ (good : IsWellFormed t) (arrived pending : List ℕ) (passing : IsPassing t tree arrived pending) (from : ℕ) (low : from < length t.switches) (alone : slice_index pending from ≡ 1)
      (d : ℕ) (has : next tree from ≡ Some d) (x z m : ℕ) (into : tip t d ≡ x) (nought : z ≡ 0) (taken : m ≡ get_or arrived from 0) where
    pub read_low : x < length t.switches
    read_low = omega (arith, into, to_low good arrived pending passing from low alone d has)

    pub read_left : 1 ≤ get_or (set pending from 0) x 0
    read_left = rw (sym into) (some_left good arrived pending passing from low alone d has)

    pub read_few : get_or (set arrived from z) x 0 + m ≤ length t.terminals
    read_few = rw (sym into, nought, taken) (come_few good arrived pending passing from low alone d has)

    pub read_passes : IsPassing t tree (set (set arrived from z) x (get_or (set arrived from z) x 0 + m)) (set (set pending from 0) x (get_or (set pending from 0) x 0 - 1))
    read_passes = rw (sym into, nought, taken) (passes good arrived pending passing from low alone d has)

    pub read_totals : (weights : List ℕ) → d < length weights → KeepsTotals t tree weights arrived (set weights d (get_or weights d 0 + m)) (set (set arrived from z) x (get_or (set arrived from z) x 0 + m))
    read_totals weights there = rw (sym into, nought, taken) (totals_kept good arrived pending passing from low alone d has weights there)

    pub read_within : (weights : List ℕ) → TotalsFit t tree weights arrived → d < length t.channels → get_or weights d 0 + m < 2 ^ 64
    read_within weights fit there = omega (arith, fit d there, at_least_here good arrived pending passing from low alone d has, taken)

  pub channel_there : (s d : ℕ) → next tree s ≡ Some d → d < length t.channels
  channel_there s d has = let leaves : LeavesSwitch t d s = is.leaves s d has in slice_get_within t.channels d leaves.0 leaves.1

  -- ---- in the end

  module _ (arrived pending : List ℕ) (passing : IsPassing t tree arrived pending) (none_alone : (s : ℕ) → s < length t.switches → slice_index pending s ≢ 1) where
    none_pending : (k s : ℕ) → s < length t.switches → length tree < length (walk_of t tree s) + k → slice_index pending s ≡ 0
    none_pending zero s low long = absurd (omega (arith, long, walk_short t tree s (walk_of t tree s) (walk_goes t tree s is)))
    none_pending (suc k) s low long = go (λ q has h. none_pending k q h (omega (arith, longer q has, long)))
      where
        longer : (q : ℕ) → (d : ℕ) × (next tree q ≡ Some d) × (tip t d ≡ s) → length (walk_of t tree q) ≡ suc (length (walk_of t tree s))
        longer q x = ap (λ (cs : List ℕ). length cs) (walk_of_next t tree q x.0 is x.1) ∙ ap (λ y. suc (length (walk_of t tree y))) x.2

        go : ((q : ℕ) → (d : ℕ) × (next tree q ≡ Some d) × (tip t d ≡ s) → q < length t.switches → slice_index pending q ≡ 0) → slice_index pending s ≡ 0
        go behind = last (is_pending pending s) refl
          where
            term : (q : ℕ) → q < length t.switches → (o : Option ℕ) → next tree q ≡ o → (b : Bool) → leads_to t o s ≡ b → one_if (b && is_pending pending q) ≡ 0
            term q h None at true leads = absurd (false≢true leads)
            term q h (Some d) at true leads = ap (λ x. one_if (nat_lt 0 x)) (behind q (d, at, eqb-true (tip t d) s leads) h)
            term q h o at false leads = refl

            nothing : pending_to t tree pending s ≡ 0
            nothing = nothing_below (λ q. one_if (leads_to t (next tree q) s && is_pending pending q)) (length t.switches) (λ q h. term q h (next tree q) refl (leads_to t (next tree q) s) refl)

            last : (b : Bool) → is_pending pending s ≡ b → slice_index pending s ≡ 0
            last true e = absurd (none_alone s low (omega (arith, passing.counted s low, nothing, ap {B = ℕ} one_if e)))
            last false e = omega (arith, passing.counted s low, nothing, ap {B = ℕ} one_if e)

    -- all has passed
    pub all_passed : (c : ℕ) → yet_to_pass t tree arrived c ≡ 0
    all_passed c = nothing_below (λ s. slice_index arrived s * walks_along t tree c s) (length t.switches) (λ s h. go s h (next tree s) refl)
      where
        go : (s : ℕ) → s < length t.switches → (o : Option ℕ) → next tree s ≡ o → slice_index arrived s * walks_along t tree c s ≡ 0
        go s h None none = ap (λ m. slice_index arrived s * m) (walks_nowhere s c none) ∙ omega arith
        go s h (Some d) has = ap (λ m. m * walks_along t tree c s) (passing.passed s d h (none_pending (suc (length tree)) s h (omega arith)) has) ∙ omega arith
