-- The terminals of all switches are carried along the delivered routes to a LID, channel by channel of the order.
use Rattle.std.proofs.Common.{◌≡◌, ℕ, ◌+◌, ◌<◌, ◌≤◌, ◌⊎◌, inl, inr, Bool, List, [], ◌∷◌, ◌++◌, length, set, refl, sym, ◌∙◌, ap, subst, arith, Some, slice_get}
use Rattle.std.specs.Prelude.{◌==◌, Contains, reverse, sum, count_by, slice_index, if◌then◌else◌}
use Rattle.std.specs.List.{list_any}
use Rattle.std.proofs.lemmas.Bool.{cases_lt}
use Rattle.std.proofs.lemmas.List.{get_or_past, reverse-append}
use Rattle.std.proofs.lemmas.List.Elements.{All-contains}
use Rattle.std.proofs.lemmas.List.Sums.{sum_by-cons, count_by-le-length}
use Rattle.std.proofs.lemmas.Option.{slice_get_within, get_or_from_slice_get}
use Rattle.fab_model.specs.declared.rows.ChannelId.{ChannelId}
use Rattle.fab_model.specs.declared.rows.ChannelRow.{ChannelRow}
use Rattle.fab_model.specs.declared.rows.TerminalRow.{TerminalRow}
use Rattle.fab_model.specs.Topology.{Topology}
use Rattle.fab_model.specs.WellFormed.{IsFabric}
use Rattle.fab_model.proofs.Lists.Members.{In, in_all, in_from_Contains}
use Rattle.fab_tables.specs.Entries.{Entries}
use Rattle.fab_tables.specs.Reaching.{IsToward}
use Rattle.fab_tables.specs.Route.{tip, tip_of_row, route}
use Rattle.fab_tables.proofs.Joined.Tips.{tip_below}
use Rattle.fab_tables.proofs.Paths.Carried.{IsCarrying, all_added, moved, count_fits, amount_fits, carried_on, all_carried, terminals_added, terminals_in_all}
use Rattle.fab_report.specs.Loads.{is_loaded_by}
use Rattle.fab_report.specs.Counting.{AreCounts, terminals_on, load_to}
use Rattle.fab_report.specs.Order.{way, tail_of_row, tails, IsLaid, AreInOrder, IsWholeOrder}
use Rattle.fab_report.proofs.Carrying.RouteWays.{are_ways, loaded_as_route}

-- ---- the terminals at first

same_count : (p q : TerminalRow → Bool) (rows : List TerminalRow) → ((row : TerminalRow) → p row ≡ q row) → count_by p rows ≡ count_by q rows
same_count p q [] same = refl
same_count p q (row ∷ rows) same = omega (
  arith,
  sum_by-cons (λ (r : TerminalRow). if p r then 1 else 0) row rows,
  sum_by-cons (λ (r : TerminalRow). if q r then 1 else 0) row rows,
  ap {B = ℕ} (λ (b : Bool). if b then 1 else 0) (same row),
  same_count p q rows same,
)

module _ (t : Topology) (e : Entries) (lid : ℕ) (fabric : IsFabric t) (amounts : List ℕ) (are : AreCounts (terminals_on t) (length t.switches) amounts) where
  stands_low : (row : TerminalRow) → In row t.terminals → row.switch.0 < length t.switches
  stands_low row at = in_all (λ (r : TerminalRow). r.switch.0 < length t.switches) t.terminals fabric.rows.terminal_switches row at

  -- they add what all routes to the LID add
  pub added_by_routes : (channel : ℕ) → all_added (way t e lid) (length t.switches) amounts channel ≡ load_to t e channel lid
  added_by_routes channel =
      terminals_added (way t e lid) t.terminals (length t.switches) amounts are.whole are.each stands_low channel
      ∙ same_count (λ row. list_any (λ c. c == channel) (way t e lid row.switch.0)) (λ row. is_loaded_by channel (route t e row.switch.0 lid)) t.terminals (λ row. loaded_as_route t e lid row.switch.0 channel)

  pub few_added : (channel : ℕ) → all_added (way t e lid) (length t.switches) amounts channel ≤ 16384
  few_added channel = omega (arith, added_by_routes channel, count_by-le-length (λ (p : TerminalRow). is_loaded_by channel (route t e p.switch.0 lid)) t.terminals, fabric.rows.lid_count)

  pub few_terminals : sum amounts ≤ 16384
  few_terminals = omega (arith, terminals_in_all (way t e lid) t.terminals (length t.switches) amounts are.whole are.each stands_low, fabric.rows.lid_count)

-- ---- under way

-- so far the counts have what the terminals have passed, and the rest of the order is on the stack
abbrev pub IsUnderWay : Topology → Entries → ℕ → List ℕ → List ℕ → List ChannelId → List ℕ → List ℕ → Type 0
IsUnderWay t e lid initial terminals stack counts amounts =
    IsCarrying (way t e lid) (length t.switches) (length t.channels) (sum terminals) (λ channel. slice_index initial channel + all_added (way t e lid) (length t.switches) terminals channel)
    (tails t stack) counts amounts

pub carrying_starts : (t : Topology) (e : Entries) (lid : ℕ) (channels : List ChannelId) (counts amounts : List ℕ) → IsWholeOrder t e lid channels → length counts ≡ length t.channels → length amounts ≡ length t.switches →
    IsUnderWay t e lid counts amounts (reverse channels) counts amounts
carrying_starts t e lid channels counts amounts order whole room = record {
  whole = whole;
  room = room;
  each = λ channel low. refl;
  kept = refl;
  elsewhere = λ s. elim (cases_lt s (length t.switches)) [
    | inl low ↦ standing s (order.whole s low)
    | inr past ↦ inr (inl (get_or_past amounts s 0 (omega (arith, past, room))))
  ];
}
  where
    standing : (s : ℕ) → IsLaid t e lid (reverse channels) s → (way t e lid s ≡ []) ⊎ ((slice_index amounts s ≡ 0) ⊎ In s (tails t (reverse channels)))
    standing s (inl none) = inl none
    standing s (inr there) = inr (inr (in_from_Contains (tails t (reverse channels)) s there))

module _ (t : Topology) (e : Entries) (lid : ℕ) (toward : IsToward t e lid) (initial terminals : List ℕ) (stack below : List ChannelId) (counts amounts : List ℕ) (c : ChannelId) (is : stack ≡ c ∷ below)
    (order : AreInOrder t e lid stack) (now : IsUnderWay t e lid initial terminals stack counts amounts) where
  ordered : AreInOrder t e lid (c ∷ below)
  ordered = subst (λ (xs : List ChannelId). AreInOrder t e lid xs) is order

  underway : IsUnderWay t e lid initial terminals (c ∷ below) counts amounts
  underway = subst (λ (xs : List ChannelId). IsUnderWay t e lid initial terminals xs counts amounts) is now

  pub next_low : c.0 < length t.channels
  next_low = ordered.0

  pub below_ordered : AreInOrder t e lid below
  below_ordered = ordered.3

  module _ (row : ChannelRow) (found : slice_get t.channels c.0 ≡ Some row) where
    there : Contains t.channels row
    there = (c.0, slice_get_within t.channels c.0 row found, get_or_from_slice_get t.channels c.0 row row found)

    pub row_tail_low : row.tail.0 < length t.switches
    row_tail_low = All-contains (λ (r : ChannelRow). r.tail.0 < length t.switches) t.channels row toward.fabric.rows.channel_tails there

    pub row_tip_low : row.tip.0 < length t.switches
    row_tip_low = tip_below t toward.fabric.rows row there

    first : way t e lid row.tail.0 ≡ c.0 ∷ way t e lid (tip t c.0)
    first = ap (λ (s : ℕ). way t e lid s) (sym (ap tail_of_row found)) ∙ ordered.1

    tip_is : tip t c.0 ≡ row.tip.0
    tip_is = ap tip_of_row found

    tip_low : tip t c.0 < length t.switches
    tip_low = omega (arith, tip_is, row_tip_low)

    left : IsCarrying (way t e lid) (length t.switches) (length t.channels) (sum terminals) (λ channel. slice_index initial channel + all_added (way t e lid) (length t.switches) terminals channel) (row.tail.0 ∷ tails t below) counts amounts
    left = subst
        (λ (s : ℕ). IsCarrying (way t e lid) (length t.switches) (length t.channels) (sum terminals) (λ channel. slice_index initial channel + all_added (way t e lid) (length t.switches) terminals channel) (s ∷ tails t below) counts amounts)
        (ap tail_of_row found) underway

    pub count_small : slice_index counts c.0 + slice_index amounts row.tail.0 ≤ slice_index initial c.0 + all_added (way t e lid) (length t.switches) terminals c.0
    count_small = count_fits (tip t) (way t e lid) (are_ways t e lid toward.fabric.rows) (length t.switches) (length t.channels) (sum terminals)
        (λ channel. slice_index initial channel + all_added (way t e lid) (length t.switches) terminals channel) counts amounts row.tail.0 c.0 (tails t below) left row_tail_low next_low tip_low first

    pub amount_small : slice_index (set amounts row.tail.0 0) row.tip.0 + slice_index amounts row.tail.0 ≤ sum terminals
    amount_small = subst (λ (s : ℕ). slice_index (set amounts row.tail.0 0) s + slice_index amounts row.tail.0 ≤ sum terminals) tip_is
        (amount_fits (tip t) (way t e lid) (are_ways t e lid toward.fabric.rows) (length t.switches) (length t.channels) (sum terminals)
        (λ channel. slice_index initial channel + all_added (way t e lid) (length t.switches) terminals channel) counts amounts row.tail.0 c.0 (tails t below) left row_tail_low next_low tip_low first)

    pub carrying_goes : IsUnderWay t e lid initial terminals below (set counts c.0 (slice_index counts c.0 + slice_index amounts row.tail.0)) (moved amounts row.tail.0 row.tip.0)
    carrying_goes = subst (λ (s : ℕ). IsUnderWay t e lid initial terminals below (set counts c.0 (slice_index counts c.0 + slice_index amounts row.tail.0)) (moved amounts row.tail.0 s)) tip_is
        (carried_on (tip t) (way t e lid) (are_ways t e lid toward.fabric.rows) (length t.switches) (length t.channels) (sum terminals)
        (λ channel. slice_index initial channel + all_added (way t e lid) (length t.switches) terminals channel) counts amounts row.tail.0 c.0 (tails t below) left row_tail_low next_low tip_low first
        (on ordered.2))
      where
        on : IsLaid t e lid below (tip t c.0) → (way t e lid (tip t c.0) ≡ []) ⊎ In (tip t c.0) (tails t below)
        on (inl none) = inl none
        on (inr stands) = inr (in_from_Contains (tails t below) (tip t c.0) stands)

pub carrying_ends : (t : Topology) (e : Entries) (lid : ℕ) (initial terminals : List ℕ) (stack : List ChannelId) (counts amounts : List ℕ) → IsFabric t → AreCounts (terminals_on t) (length t.switches) terminals → stack ≡ [] →
    IsUnderWay t e lid initial terminals stack counts amounts → AreCounts (λ channel. slice_index initial channel + load_to t e channel lid) (length t.channels) counts
carrying_ends t e lid initial terminals stack counts amounts fabric are none now = record { whole = now.whole; each = each }
  where
    done : IsUnderWay t e lid initial terminals [] counts amounts
    done = subst (λ (xs : List ChannelId). IsUnderWay t e lid initial terminals xs counts amounts) none now

    each : (channel : ℕ) → channel < length t.channels → slice_index counts channel ≡ slice_index initial channel + load_to t e channel lid
    each channel low = omega (
      arith,
      all_carried (way t e lid) (length t.switches) (length t.channels) (sum terminals) (λ x. slice_index initial x + all_added (way t e lid) (length t.switches) terminals x) counts amounts done channel low,
      added_by_routes t e lid fabric terminals are channel,
    )

pub none_left : {X : Type 0} (xs : List X) → length xs ≡ 0 → xs ≡ []
none_left [] e = refl
none_left (x ∷ xs) e = absurd (omega (arith, e))

-- the channel popped is the first of the stack
pub popped : (old new : List ChannelId) (c : ChannelId) → old ≡ new ++ c ∷ [] → reverse old ≡ c ∷ reverse new
popped old new c is = ap (λ (xs : List ChannelId). reverse xs) is ∙ reverse-append new (c ∷ [])
