-- The search for the hop counts from a switch, in the order of the hop counts.
use Rattle.std.specs.Prelude.{◌≡◌, ◌≢◌, ℕ, suc, ◌<◌, ◌≤◌, ◌⊎◌, ◌==◌, List, ◌∷◌, ◌++◌, Contains, MatchOption, length, count_by, slice_index_or}
use Rattle.fab_model.specs.declared.rows.SwitchId.{SwitchId}
use Rattle.fab_model.specs.declared.rows.ChannelRow.{ChannelRow}
use Rattle.fab_model.specs.Topology.{Topology, switch_id, first_channel}
use Rattle.fab_model.specs.Connected.{LeadsTo, AreConnected}
use Rattle.fab_hops.specs.HopCounts.{IsHopCount}
use Rattle.fab_hops.specs.HopCodes.{count_of_code, code_at}

-- each switch of the row has its hop count from this one, and none exactly where no walk leads there
abbrev pub IsHopRow : Topology → ℕ → List ℕ → Type 0
IsHopRow t from row = (to : ℕ) → to < length t.switches → MatchOption (count_of_code (code_at row to)) (¬ AreConnected t from to) (λ n. IsHopCount t from to n)

-- a switch was found
abbrev pub IsReached : List ℕ → ℕ → Type 0
IsReached row s = code_at row s ≢ 65535

-- how many switches were not
abbrev pub unreached : List ℕ → ℕ
unreached row = count_by (λ code. code == 65535) row

-- What was found has its hop count. Of what was found, the switches `here` have this hop count and those `next` one more, and the tips of all others were found.
pub record IsSearching (t : Topology) (from : ℕ) (row : List ℕ) (here next : List SwitchId) (hops : ℕ) : Type 0 where
  pub begun : code_at row from ≡ 0
  pub right : (s : ℕ) → IsReached row s → IsHopCount t from s (code_at row s)
  pub here_at : (s : ℕ) → Contains here (switch_id s) → (code_at row s ≡ hops) × IsReached row s
  pub next_at : (s : ℕ) → Contains next (switch_id s) → (code_at row s ≡ suc hops) × IsReached row s
  pub looked : (s tip : ℕ) → IsReached row s → LeadsTo t s tip → Contains here (switch_id s) ⊎ (Contains next (switch_id s) ⊎ IsReached row tip)

-- the queue has the switches of a hop count, and behind them those of the next
pub record IsQueue (t : Topology) (from : ℕ) (row : List ℕ) (queue : List SwitchId) : Type 0 where
  pub hops : ℕ
  pub here : List SwitchId
  pub next : List SwitchId
  pub are : queue ≡ here ++ next
  pub searching : IsSearching t from row here next hops

-- a switch was taken from the queue, which has one hop less than this, and the tips of its channels up to this one were found
pub record IsLooking (t : Topology) (from : ℕ) (row : List ℕ) (queue : List SwitchId) (s : SwitchId) (hops channel : ℕ) : Type 0 where
  pub before : ℕ
  pub one_less : hops ≡ suc before
  pub here : List SwitchId
  pub next : List SwitchId
  pub are : queue ≡ here ++ next
  pub searching : IsSearching t from row (s ∷ here) next before
  pub tips : (k : ℕ) (d : ChannelRow) → first_channel t s.0 ≤ k → k < channel → IsReached row (slice_index_or t.channels k d).tip.0
