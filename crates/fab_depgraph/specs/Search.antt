-- A search forward along edges, among channels with lower numbers than one of them.
use Rattle.std.specs.Prelude.{◌≡◌, ◌≢◌, ℕ, ◌<◌, ◌≤◌, Bool, true, false, if◌then◌else◌, List, [], ◌∷◌, ◌++◌, length, slice_index, slice_set, replicate, All, AllPairs, Contains}
use Rattle.std.specs.List.{sum_by}
use Rattle.fab_model.specs.declared.rows.ChannelId.{ChannelId}
use Rattle.fab_model.specs.Topology.{channel_id}
use Rattle.fab_depgraph.specs.Edges.{Row, row_at, channels_of}
use Rattle.fab_depgraph.specs.Order.{is_reached}

-- channel by channel whether it was found, and the found channels in the order in which they were found
pub record Search : Type 0 where
  pub marks : List Bool
  pub found : List ChannelId

pub record IsSearch (s : Search) : Type 0 where
  pub marked : (c : ℕ) → is_reached s.marks c ≡ true → Contains s.found (channel_id c)
  pub known : All (λ channel. is_reached s.marks channel.0 ≡ true) s.found
  pub differ : AllPairs (λ c d. c.0 ≢ d.0) s.found

-- nothing was found so far
abbrev pub no_search : ℕ → Search
no_search channels = record { marks = replicate channels false; found = [] }

-- the channel is found now
abbrev pub with_found : Search → ChannelId → Search
with_found s channel = if is_reached s.marks channel.0 then s else record { marks = slice_set s.marks channel.0 true; found = s.found ++ channel ∷ [] }

-- an edge leads from one channel to another
abbrev pub Precedes : List Row → ℕ → ℕ → Type 0
Precedes rows first second = Contains (channels_of (row_at rows first)) (channel_id second)

-- more channels were found, all of them among these and with lower numbers than this one
pub record FindsMore (old new : Search) (channels : List ChannelId) (numbers : List ℕ) (bound : ℕ) : Type 0 where
  pub each : length new.marks ≡ length old.marks
  pub added : List ChannelId
  pub found : new.found ≡ old.found ++ added
  pub among : All (λ channel. Contains channels channel × (slice_index numbers channel.0 < bound)) added

-- the channels of a list, but for the last one, that are below the bound are found
abbrev pub AreFound : Search → List ChannelId → List ℕ → ℕ → ℕ → Type 0
AreFound s channels numbers last bound = All (λ channel. (channel.0 ≢ last) × (slice_index numbers channel.0 < bound → is_reached s.marks channel.0 ≡ true)) channels

-- how many edges leave these channels
abbrev pub edges_from : List Row → List ChannelId → ℕ
edges_from rows channels = sum_by (λ channel. length (row_at rows channel.0)) channels

-- what a graph of edges keeps, where the numbers rise along them
pub record AreRising (rows : List Row) (numbers : List ℕ) : Type 0 where
  pub each : length rows ≡ length numbers
  pub within : (a b : ℕ) → Precedes rows a b → b < length numbers
  pub rise : (a b : ℕ) → Precedes rows a b → slice_index numbers a < slice_index numbers b

-- all channels were found to which walks lead from the first through channels below the last, and the last one isn't one of them
pub record IsClosed (rows : List Row) (numbers : List ℕ) (from last : ℕ) (s : Search) : Type 0 where
  pub begins : is_reached s.marks from ≡ true
  pub between : (c : ℕ) → is_reached s.marks c ≡ true → (slice_index numbers from ≤ slice_index numbers c) × (slice_index numbers c < slice_index numbers last)
  pub goes_on : (a b : ℕ) → is_reached s.marks a ≡ true → Precedes rows a b → slice_index numbers b < slice_index numbers last → is_reached s.marks b ≡ true
  pub misses : (a b : ℕ) → is_reached s.marks a ≡ true → Precedes rows a b → b ≢ last

-- the found channels are in the range, each found once, and a step at most was taken for each edge that leaves one of them
pub record IsShort (rows : List Row) (numbers : List ℕ) (from last : ℕ) (s : Search) (steps : ℕ) : Type 0 where
  pub between : All (λ channel. (channel.0 < length numbers) × (slice_index numbers from ≤ slice_index numbers channel.0) × (slice_index numbers channel.0 < slice_index numbers last)) s.found
  pub differ : AllPairs (λ c d. c.0 ≢ d.0) s.found
  pub few : steps ≤ edges_from rows s.found
