-- The order in which terminals are carried along the routes to one LID: the channels with which delivered routes begin, each behind that of the next switch.
use Rattle.std.specs.Prelude.{◌≡◌, ◌≢◌, ℕ, ◌<◌, ◌⊎◌, List, [], ◌∷◌, ◌++◌, length, map, reverse, Contains, Option, Some, None, slice_get, slice_index_or, if◌then◌else◌}
use Rattle.fab_model.specs.declared.rows.ChannelId.{ChannelId}
use Rattle.fab_model.specs.declared.rows.ChannelRow.{ChannelRow}
use Rattle.fab_model.specs.Topology.{Topology}
use Rattle.fab_tables.specs.declared.end.End.TheVariants.{Delivered}
use Rattle.fab_tables.specs.Entries.{Entries}
use Rattle.fab_tables.specs.Route.{tip, route}
use Rattle.fab_report.specs.declared.order.Mark.{Mark}
use Rattle.fab_report.specs.declared.order.Mark.TheVariants.{Unseen, Lost, Laid}
use Rattle.fab_report.specs.Loads.{is_delivered}

-- the channels of the route from a switch if it is delivered, and else none
abbrev pub way : Topology → Entries → ℕ → ℕ → List ℕ
way t e lid s = if is_delivered (route t e s lid).end then (route t e s lid).channels else []

-- the switch that a channel leaves
abbrev pub tail_of_row : Option ChannelRow → ℕ
tail_of_row None = 0
tail_of_row (Some row) = row.tail.0

abbrev pub tail : Topology → ChannelId → ℕ
tail t c = tail_of_row (slice_get t.channels c.0)

abbrev pub tails : Topology → List ChannelId → List ℕ
tails t channels = map (tail t) channels

-- nothing of the switch's way is missing in some channels: it is empty, or one of them leaves the switch
abbrev pub IsLaid : Topology → Entries → ℕ → List ChannelId → ℕ → Type 0
IsLaid t e lid channels s = (way t e lid s ≡ []) ⊎ Contains (tails t channels) s

-- each is the first of its tail's way, and the way of its tip is laid by those before it; the last comes first here
abbrev pub AreInOrder : Topology → Entries → ℕ → List ChannelId → Type 0
AreInOrder t e lid [] = Unit {0}
AreInOrder t e lid (c ∷ before) = (c.0 < length t.channels) × (way t e lid (tail t c) ≡ c.0 ∷ way t e lid (tip t c.0)) × IsLaid t e lid before (tip t c.0) × AreInOrder t e lid before

-- they lay the ways of all switches
pub record IsWholeOrder (t : Topology) (e : Entries) (lid : ℕ) (channels : List ChannelId) : Type 0 where
  pub in_order : AreInOrder t e lid (reverse channels)
  pub whole : (s : ℕ) → s < length t.switches → IsLaid t e lid (reverse channels) s

-- ---- while they are laid

abbrev pub mark_of : List Mark → ℕ → Mark
mark_of marks s = slice_index_or marks s Unseen

-- what a mark says of a switch, where some channels are laid; only the unsure switches may be marked as lost before it is known
abbrev pub Means : Topology → Entries → ℕ → List ChannelId → List ℕ → Mark → ℕ → Type 0
Means t e lid channels unsure Unseen s = Unit {0}
Means t e lid channels unsure Lost s = (route t e s lid).end ≡ Delivered → Contains unsure s
Means t e lid channels unsure Laid s = ((route t e s lid).end ≡ Delivered) × IsLaid t e lid channels s

abbrev pub AreMarks : Topology → Entries → ℕ → List ChannelId → List ℕ → List Mark → Type 0
AreMarks t e lid channels unsure marks = (s : ℕ) → Means t e lid channels unsure (mark_of marks s) s

-- the switches seen before are seen, and one more
abbrev pub SeesMore : List Mark → ℕ → List Mark → Type 0
SeesMore old from new = (s : ℕ) → (s ≡ from) ⊎ (mark_of old s ≢ Unseen) → mark_of new s ≢ Unseen

-- where a walk along channels ends
abbrev pub after : Topology → ℕ → List ℕ → ℕ
after t s [] = s
after t s (c ∷ cs) = after t (tip t c) cs

abbrev pub numbers : List ChannelId → List ℕ
numbers channels = map (λ (c : ChannelId). c.0) channels

-- a delivered route walked to a switch whose way is laid; the tails of the channels walked are unsure
pub record IsWalked (t : Topology) (e : Entries) (lid from : ℕ) (channels walked : List ChannelId) (marks : List Mark) : Type 0 where
  pub delivered : (route t e from lid).end ≡ Delivered
  pub rest : List ℕ
  pub along : (route t e from lid).channels ≡ numbers walked ++ rest
  pub laid : IsLaid t e lid channels (after t from (numbers walked))
  pub marked : AreMarks t e lid channels (tails t walked) marks
