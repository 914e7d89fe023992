-- What an iterator over a route has before it.
use Rattle.std.specs.Prelude.{◌≡◌, ℕ, ◌<◌, length, List, [], ◌∷◌, Bool, true, false, Option, Some, None, if◌then◌else◌, MatchOption}
use Rattle.fab_model.specs.declared.rows.ChannelId.{ChannelId}
use Rattle.fab_model.specs.Topology.{Topology}
use Rattle.fab_tables.specs.declared.end.End.{End}
use Rattle.fab_model.specs.WellFormed.{IsFabric}
use Rattle.fab_tables.specs.Entries.{Entries}
use Rattle.fab_tables.specs.Fit.{EntriesFit}
use Rattle.fab_tables.specs.Route.{route_within}

pub record Ahead : Type 0 where
  pub channels : List ℕ  -- the channels that are still to come
  pub end : End  -- how the route ends
  pub over : Bool  -- whether the iterator has answered None

-- the end, once the iterator has answered None
abbrev pub end_told : Ahead → Option End
end_told a = if a.over then Some a.end else None

-- at a switch, with so many channels to go at most, or at the end
abbrev pub ahead : Topology → Entries → ℕ → ℕ → ℕ → Option End → Ahead
ahead t e lid s left (Some end) = record { channels = []; end = end; over = true }
ahead t e lid s left None = let r = route_within t e lid left s in record { channels = r.channels; end = r.end; over = false }

-- the route is at a switch of a fabric, and the tables are over that fabric
pub record CanGoOn (t : Topology) (e : Entries) (s : ℕ) : Type 0 where
  pub kept : IsFabric t
  pub fits : EntriesFit t e
  pub switch : s < length t.switches

-- a call gives the first of the channels, or None where none is left; the end stays
abbrev pub StepsTo : Ahead → Option ChannelId → Ahead → Type 0
StepsTo old result new = MatchOption result
    ((old.channels ≡ []) × (new ≡ record old { over = true }))
    (λ (c : ChannelId). (old.channels ≡ c.0 ∷ new.channels) × (new.end ≡ old.end) × (new.over ≡ old.over))
