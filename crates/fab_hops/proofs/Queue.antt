-- The queue of the search: a switch is taken, its channels are looked at one after the other, and the tips that are found wait behind the others.
use Rattle.std.proofs.Common.{◌≡◌, ℕ, suc, ◌+◌, ◌<◌, ◌≤◌, List, [], ◌∷◌, ◌++◌, length, refl, sym, ◌∙◌, ap, subst, inl, inr, arith, Some, None, Contains, Bool, true, false, append_assoc, cond}
use Rattle.std.specs.Prelude.{slice_set, slice_get, slice_index_or, option_map, nat_lt, MatchOption, ◌==◌}
use Rattle.std.proofs.lemmas.Bool.{cases_lt, ltb-true, ltb-false, eq-eqb, ne_eqb}
use Rattle.std.proofs.lemmas.List.{length_push, append-nil, get_or_past, get_or_default}
use Rattle.std.proofs.lemmas.List.Elements.{Contains-get_or}
use Rattle.std.proofs.lemmas.List.Sums.{count_by-le-length, sum_by-set}
use Rattle.std.proofs.lemmas.Option.{same_Some, slice_get-get_or}
use Rattle.fab_model.specs.declared.rows.SwitchId.{SwitchId}
use Rattle.fab_model.specs.declared.rows.ChannelRow.{ChannelRow}
use Rattle.fab_model.specs.Topology.{Topology, switch_id, first_channel}
use Rattle.fab_model.specs.Connected.{LeadsTo, AreConnected}
use Rattle.fab_model.specs.WellFormed.{IsWellFormed}
use Rattle.fab_hops.specs.HopCounts.{IsHopCount}
use Rattle.fab_hops.specs.HopCodes.{code_at}
use Rattle.fab_hops.specs.Searching.{IsHopRow, IsReached, IsSearching, IsQueue, IsLooking, unreached}
use Rattle.fab_hops.proofs.HopLaws.{hops_small}
use Rattle.fab_hops.proofs.HopWalks.{leads_below}
use Rattle.fab_hops.proofs.Leaving.{leaves_from, stands_between}
use Rattle.fab_hops.proofs.Searching.{found_tip, still, tip_reached, looked_at, next_hop, search_begun, all_reached}

-- ---- a switch is taken

-- the first switch of a queue, as the first of those of its hop count
taken_from : (t : Topology) (from : ℕ) (row : List ℕ) (x : SwitchId) (rest here next : List SwitchId) (hops : ℕ) → x ∷ rest ≡ here ++ next → IsSearching t from row here next hops →
    (before : ℕ) × (others next : List SwitchId) × (rest ≡ others ++ next) × IsSearching t from row (x ∷ others) next before
taken_from t from row x rest [] next hops e is =
    (suc hops, rest, [], sym (append-nil rest), subst (λ q. IsSearching t from row q [] (suc hops)) (sym e) (next_hop t from row next hops is))
taken_from t from row x rest (y ∷ ys) next hops e is =
    let same : x ≡ y = cc in
    (hops, ys, next, (cc), subst (λ z. IsSearching t from row (z ∷ ys) next hops) (sym same) is)

taken : (t : Topology) (from : ℕ) (row : List ℕ) (x : SwitchId) (rest : List SwitchId) → IsQueue t from row (x ∷ rest) → IsLooking t from row rest x (code_at row x.0 + 1) (first_channel t x.0)
taken t from row x rest q = go (taken_from t from row x rest q.here q.next q.hops q.are q.searching)
  where
    go : (before : ℕ) × (others next : List SwitchId) × (rest ≡ others ++ next) × IsSearching t from row (x ∷ others) next before → IsLooking t from row rest x (code_at row x.0 + 1) (first_channel t x.0)
    go f = record {
      before = f.0;
      one_less = omega (arith, (f.4.here_at x.0 (0, omega arith, refl)).0);
      here = f.1;
      next = f.2;
      are = f.3;
      searching = f.4;
      tips = λ k d low high. absurd (omega (arith, low, high));
    }

-- It is a switch of the fabric, and its hop count is small.
pub record IsTaken (t : Topology) (from : ℕ) (row : List ℕ) (x : SwitchId) (rest : List SwitchId) : Type 0 where
  pub within : x.0 < length t.switches
  pub small : slice_index_or row x.0 0 + 1 < 65535
  pub looking : IsLooking t from row rest x (slice_index_or row x.0 0 + 1) (first_channel t x.0)

pub is_taken : (t : Topology) → IsWellFormed t → (from : ℕ) (row : List ℕ) (queue : List SwitchId) (x : SwitchId) (rest : List SwitchId) → from < length t.switches → length row ≡ length t.switches →
    queue ≡ x ∷ rest → IsQueue t from row queue → IsTaken t from row x rest
is_taken t good from row queue x rest low whole e q = go (taken t from row x rest (subst (λ xs. IsQueue t from row xs) e q))
  where
    go : IsLooking t from row rest x (code_at row x.0 + 1) (first_channel t x.0) → IsTaken t from row x rest
    go l =
        let reached : IsReached row x.0 = (l.searching.here_at x.0 (0, omega arith, refl)).1 in
        let within : x.0 < length row = elim (cases_lt x.0 (length row)) [ inl h ↦ h | inr past ↦ absurd (reached (get_or_past row x.0 65535 past)) ] in
        let same : code_at row x.0 ≡ slice_index_or row x.0 0 = get_or_default row x.0 65535 0 within in
        record {
          within = omega (arith, within, whole);
          small = omega (arith, same, good.switch_count, hops_small t from x.0 (code_at row x.0) good low (l.searching.right x.0 reached));
          looking = subst (λ n. IsLooking t from row rest x (n + 1) (first_channel t x.0)) same l;
        }

-- ---- its channels are looked at

module _ (t : Topology) (good : IsWellFormed t) (s : SwitchId) (channel : ℕ) (tip : SwitchId) (first : first_channel t s.0 ≤ channel) (past : channel < first_channel t (s.0 + 1))
    (is : option_map (λ (row : ChannelRow). row.tip) (slice_get t.channels channel) ≡ Some tip) where
  channel_below : channel < length t.channels
  channel_below = omega (arith, past, count_by-le-length (λ (row : ChannelRow). nat_lt row.tail.0 (s.0 + 1)) t.channels)

  comes_to : (d : ChannelRow) → (slice_index_or t.channels channel d).tip ≡ tip
  comes_to d = same_Some _ tip (sym (ap (λ o. option_map (λ (row : ChannelRow). row.tip) o) (slice_get-get_or t.channels channel d channel_below)) ∙ is)

  some_row : ChannelRow
  some_row = record { tail = record { 0 = 0 }; port = 0; tip = record { 0 = 0 }; tip_port = 0 }

  leads : LeadsTo t s.0 tip.0
  leads = (slice_index_or t.channels channel some_row, Contains-get_or t.channels channel some_row channel_below, leaves_from t good s.0 channel some_row channel_below first past, ap (λ (x : SwitchId). x.0) (comes_to some_row))

  pub tip_within : tip.0 < length t.switches
  tip_within = leads_below t good s.0 tip.0 leads

  more : (row : List ℕ) → ((k : ℕ) (d : ChannelRow) → first_channel t s.0 ≤ k → k < channel → IsReached row (slice_index_or t.channels k d).tip.0) → IsReached row tip.0 →
      (k : ℕ) (d : ChannelRow) → first_channel t s.0 ≤ k → k < channel + 1 → IsReached row (slice_index_or t.channels k d).tip.0
  more row before here k d low high = elim (cases_lt k channel) [
    | inl less ↦ before k d low less
    | inr same ↦
        (let e : channel ≡ k = omega (arith, same, high) in
        let at : tip ≡ (slice_index_or t.channels k d).tip = sym (comes_to d) ∙ ap (λ j. (slice_index_or t.channels j d).tip) e in
        subst (λ (x : SwitchId). IsReached row x.0) at here)
  ]

  pub looks_new : (from : ℕ) (row : List ℕ) (queue : List SwitchId) (hops : ℕ) → tip.0 < length row → hops < 65535 → code_at row tip.0 ≡ 65535 → IsLooking t from row queue s hops channel →
      IsLooking t from (slice_set row tip.0 hops) (queue ++ tip ∷ []) s hops (channel + 1)
  looks_new from row queue hops low small none l =
      subst (λ n. IsLooking t from (slice_set row tip.0 n) (queue ++ tip ∷ []) s n (channel + 1)) (sym l.one_less) (record {
        before = l.before;
        one_less = refl;
        here = l.here;
        next = l.next ++ tip ∷ [];
        are = ap (λ (q : List SwitchId). q ++ tip ∷ []) l.are ∙ append_assoc l.here l.next (tip ∷ []);
        searching = found_tip t from row (s ∷ l.here) l.next l.before l.searching s.0 tip.0 at leads none low less;
        tips = more (slice_set row tip.0 (suc l.before)) (λ k d from' before. still t from row (s ∷ l.here) l.next l.before l.searching s.0 tip.0 at leads none low less _ (l.tips k d from' before))
            (tip_reached t from row (s ∷ l.here) l.next l.before l.searching s.0 tip.0 at leads none low less);
      })
    where
      at : Contains (s ∷ l.here) (switch_id s.0)
      at = (0, omega arith, refl)

      less : suc l.before < 65535
      less = omega (arith, small, l.one_less)

  pub looks_old : (from : ℕ) (row : List ℕ) (queue : List SwitchId) (hops : ℕ) → IsReached row tip.0 → IsLooking t from row queue s hops channel → IsLooking t from row queue s hops (channel + 1)
  looks_old from row queue hops reached l = record { before = l.before; one_less = l.one_less; here = l.here; next = l.next; are = l.are; searching = l.searching; tips = more row l.tips reached }

-- after the last of them the switch waits no more
pub looked : (t : Topology) → IsWellFormed t → (from : ℕ) (row : List ℕ) (queue : List SwitchId) (s : SwitchId) (hops channel : ℕ) → first_channel t (s.0 + 1) ≤ channel →
    IsLooking t from row queue s hops channel → IsQueue t from row queue
looked t good from row queue s hops channel past l = record { hops = l.before; here = l.here; next = l.next; are = l.are; searching = looked_at t from row s l.here l.next l.before l.searching tips }
  where
    tips : (tip : ℕ) → LeadsTo t s.0 tip → IsReached row tip
    tips tip leads =
        let at : ℕ = leads.1.0 in
        let between : (first_channel t s.0 ≤ at) × (at < first_channel t (s.0 + 1)) = stands_between t good s.0 at leads.0 leads.1.1 (ap (λ (r : ChannelRow). r.tail.0) leads.1.2 ∙ leads.2) in
        subst (λ x. IsReached row x) (ap (λ (r : ChannelRow). r.tip.0) leads.1.2 ∙ leads.3) (l.tips at leads.0 between.0 (omega (arith, between.1, past)))

-- one switch less is to be found, and one more waits
pub one_more : (row : List ℕ) (queue : List SwitchId) (tip : SwitchId) (hops : ℕ) → tip.0 < length row → hops < 65535 → code_at row tip.0 ≡ 65535 →
    unreached (slice_set row tip.0 hops) + length (queue ++ tip ∷ []) ≡ unreached row + length queue
one_more row queue tip hops low small none =
    omega (
      arith,
      sum_by-set (λ code. cond (code == 65535) 1 0) row tip.0 hops 65535 low,
      length_push queue tip,
      ap {B = ℕ} (λ b. cond b 1 0) (eq-eqb (code_at row tip.0) 65535 none),
      ap {B = ℕ} (λ b. cond b 1 0) (ne_eqb hops 65535 (λ e. omega (arith, e, small))),
    )

-- ---- from the first switch to the last

pub begun : (t : Topology) (start : SwitchId) (row : List ℕ) → start.0 < length row → ((s : ℕ) → code_at row s ≡ 65535) → IsQueue t start.0 (slice_set row start.0 0) (start ∷ [])
begun t start row low none = record { hops = 0; here = start ∷ []; next = []; are = refl; searching = search_begun t start.0 row low none }

nothing : {A : Type 0} (xs ys : List A) → [] ≡ xs ++ ys → (xs ≡ []) × (ys ≡ [])
nothing [] ys e = (refl, sym e)
nothing (x ∷ xs) ys e = absurd (cc)

pub done : (t : Topology) → IsWellFormed t → (from : ℕ) (row : List ℕ) → from < length t.switches → IsQueue t from row [] → IsHopRow t from row
done t good from row low q to within = by_code (nat_lt (code_at row to) 65535) refl
  where
    both : (q.here ≡ []) × (q.next ≡ [])
    both = nothing q.here q.next q.are

    is : IsSearching t from row [] [] q.hops
    is = subst (λ h. IsSearching t from row h [] q.hops) both.0 (subst (λ n. IsSearching t from row q.here n q.hops) both.1 q.searching)

    small : IsReached row to → code_at row to < length t.switches
    small reached = hops_small t from to (code_at row to) good low (is.right to reached)

    by_code : (b : Bool) → nat_lt (code_at row to) 65535 ≡ b → MatchOption (cond b (Some (code_at row to)) None) (¬ AreConnected t from to) (λ n. IsHopCount t from to n)
    by_code true e = is.right to (λ none. omega (arith, none, ltb-true (code_at row to) 65535 e))
    by_code false e = λ w. omega (arith, ltb-false (code_at row to) 65535 e, small (all_reached t from row q.hops is w.0 to w.1), good.switch_count)
