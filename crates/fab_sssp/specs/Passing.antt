-- Terminals that are passed on along a tree, from its leaves on: each switch passes on its own and those that have come to it,
-- once no other switch whose channel leads to it has yet to do so.
use Rattle.std.specs.Prelude.{◌≡◌, ℕ, zero, suc, ◌+◌, ◌*◌, ◌^◌, ◌<◌, ◌≤◌, ◌==◌, ◌&&◌, Bool, false, List, length, Option, None, Some, if◌then◌else◌, slice_index, count_by, nat_lt}
use Rattle.std.specs.List.{list_any}
use Rattle.fab_model.specs.Topology.{Topology}
use Rattle.fab_tables.specs.Route.{tip}
use Rattle.fab_tables.specs.Trees.{next}
use Rattle.fab_tables.specs.TreeWalks.{walk_of}

-- the sum of a number for each switch below a bound
abbrev pub sum_below : (ℕ → ℕ) → ℕ → ℕ
sum_below f zero = 0
sum_below f (suc n) = sum_below f n + f n

abbrev pub one_if : Bool → ℕ
one_if b = if b then 1 else 0

-- how many terminals a switch has
abbrev pub terminals_on : Topology → ℕ → ℕ
terminals_on t s = count_by (λ p. p.switch.0 == s) t.terminals

-- 1 where the walk of a switch contains the channel, and 0 elsewhere
abbrev pub walks_along : Topology → List (Option ℕ) → ℕ → ℕ → ℕ
walks_along t tree channel s = one_if (list_any (λ c. c == channel) (walk_of t tree s))

-- the terminals at the switches whose walk contains the channel
abbrev pub yet_to_pass : Topology → List (Option ℕ) → List ℕ → ℕ → ℕ
yet_to_pass t tree arrived channel = sum_below (λ s. slice_index arrived s * walks_along t tree channel s) (length t.switches)

-- the channel leads to the switch
abbrev pub leads_to : Topology → Option ℕ → ℕ → Bool
leads_to t None s = false
leads_to t (Some c) s = tip t c == s

-- the switch has yet to pass on
abbrev pub is_pending : List ℕ → ℕ → Bool
is_pending pending s = nat_lt 0 (slice_index pending s)

-- of the switches below a bound, those whose channel leads to this one
abbrev pub leading_to : Topology → List (Option ℕ) → ℕ → ℕ → ℕ
leading_to t tree s bound = sum_below (λ q. one_if (leads_to t (next tree q) s)) bound

-- those that have yet to pass on
abbrev pub pending_to : Topology → List (Option ℕ) → List ℕ → ℕ → ℕ
pending_to t tree pending s = sum_below (λ q. one_if (leads_to t (next tree q) s && is_pending pending q)) (length t.switches)

-- For each switch: the terminals that have come to it and not gone on, and how many switches have yet to pass on, itself and those whose
-- channel leads to it.
pub record IsPassing (t : Topology) (tree : List (Option ℕ)) (arrived pending : List ℕ) : Type 0 where
  pub arrived_each : length arrived ≡ length t.switches
  pub pending_each : length pending ≡ length t.switches
  pub few : sum_below (λ s. slice_index arrived s) (length t.switches) ≤ length t.terminals
  pub counted : (s : ℕ) → s < length t.switches → slice_index pending s ≡ one_if (is_pending pending s) + pending_to t tree pending s
  pub passed : (s c : ℕ) → s < length t.switches → slice_index pending s ≡ 0 → next tree s ≡ Some c → slice_index arrived s ≡ 0

-- what a channel has and what has yet to pass it stay together the same
abbrev pub KeepsTotals : Topology → List (Option ℕ) → List ℕ → List ℕ → List ℕ → List ℕ → Type 0
KeepsTotals t tree weights arrived weights' arrived' = (c : ℕ) → c < length t.channels →
    slice_index weights' c + yet_to_pass t tree arrived' c ≡ slice_index weights c + yet_to_pass t tree arrived c

-- these totals are 64 bit numbers
abbrev pub TotalsFit : Topology → List (Option ℕ) → List ℕ → List ℕ → Type 0
TotalsFit t tree weights arrived = (c : ℕ) → c < length t.channels → slice_index weights c + yet_to_pass t tree arrived c < 2 ^ 64
