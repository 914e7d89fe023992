-- One step of an iterator over the virtual channels of a route.
use Rattle.std.proofs.Common.{◌≡◌, ℕ, suc, ◌<◌, List, ◌∷◌, length, subst, arith, Some, slice_get}
use Rattle.std.specs.Prelude.{All, slice_index_or}
use Rattle.std.proofs.lemmas.Option.{slice_get_within, get_or_from_slice_get, slice_get-get_or}
use Rattle.std.proofs.lemmas.List.Elements.{All-contains}
use Rattle.fab_model.specs.declared.rows.ChannelRow.{ChannelRow}
use Rattle.fab_model.specs.Topology.{Topology}
use Rattle.fab_model.specs.WellFormed.{IsFabric}
use Rattle.fab_tables.specs.Entries.{Entries}
use Rattle.fab_tables.specs.LaneTables.{LaneTables}
use Rattle.fab_tables.specs.Fit.{LanesFit}
use Rattle.fab_tables.specs.Route.{route}
use Rattle.fab_tables.proofs.Paths.Routes.{channel_there}

abbrev pub AreLow : Topology → List ℕ → Type 0
AreLow t channels = All (λ c. c < length t.channels) channels

-- the channels of a route are the fabric's
pub channels_low : (t : Topology) (e : Entries) (s lid : ℕ) → IsFabric t → AreLow t (route t e s lid).channels
channels_low t e s lid fabric k d low =
    channel_there t e lid fabric.rows k s (slice_index_or (route t e s lid).channels k d) (slice_get-get_or (route t e s lid).channels k d low)

module _ (t : Topology) (xs ys : List ℕ) (x : ℕ) (is : xs ≡ x ∷ ys) (low : AreLow t xs) where
  all : AreLow t (x ∷ ys)
  all = subst (λ zs. AreLow t zs) is low

  pub first_low : x < length t.channels
  first_low = all 0 0 (omega arith)

  pub rest_low : AreLow t ys
  rest_low k d less = all (suc k) d (omega arith)

pub leaves_low : (t : Topology) (l : LaneTables) (c : ℕ) (row : ChannelRow) → IsFabric t → LanesFit t l → slice_get t.channels c ≡ Some row → row.tail.0 < l.switches
leaves_low t l c row fabric fits is = omega (
  arith,
  fits.switches,
  All-contains (λ (r : ChannelRow). r.tail.0 < length t.switches) t.channels row fabric.rows.channel_tails (c, slice_get_within t.channels c row is, get_or_from_slice_get t.channels c row row is),
)
