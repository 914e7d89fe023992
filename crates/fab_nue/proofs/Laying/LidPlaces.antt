-- A LID in use has a place.
use Rattle.std.proofs.Common.{◌≡◌, ℕ, Some, None, Option, refl}
use Rattle.std.specs.Prelude.{Contains, IsSome}
use Rattle.std.proofs.lemmas.Bool.{false≢true}
use Rattle.fab_model.specs.declared.rows.Place.{Place}
use Rattle.fab_model.specs.Topology.{Topology, place_of, lids_of}
use Rattle.fab_sssp.proofs.Tables.LidPlaces

some_of : {X : Type 0} (o : Option X) → IsSome o → (x : X) × (o ≡ Some x)
some_of None h = absurd (false≢true h)
some_of (Some x) h = (x, refl)

pub has_place : (t : Topology) (lid : ℕ) → Contains (lids_of t) lid → (place : Place) × (place_of t lid ≡ Some place)
has_place t lid has = some_of (place_of t lid) (LidPlaces.has_place t lid has)
