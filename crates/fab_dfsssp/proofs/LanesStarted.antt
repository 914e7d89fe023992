-- Lanes with level 0 for each path are those with which the steps begin.
use Rattle.std.proofs.Common.{ℕ, ◌≤◌, inl, inr, length, refl, ◌∙◌}
use Rattle.fab_model.specs.Topology.{Topology, lids_of}
use Rattle.fab_model.specs.Connected.{IsConnectedTo}
use Rattle.fab_tables.specs.Entries.{Entries}
use Rattle.fab_tables.specs.Fit.{IsSource}
use Rattle.fab_tables.specs.LaneTables.{LaneTables}
use Rattle.fab_tables.proofs.Joined.Lids.{connected_in_use}
use Rattle.fab_certify.specs.EnginePlans.{AreEngineLanes}
use Rattle.fab_dfsssp.specs.Assigned.{AreFirstLanes, IsBrokenBelow}
use Rattle.fab_dfsssp.proofs.Ending.{below_first}
use Rattle.fab_dfsssp.proofs.Releveling.{IsReleveled, IsOfFirst, all_releveled}

abbrev pub IsPath : Topology → ℕ → ℕ → Type 0
IsPath t s lid = IsSource t s × IsConnectedTo t s lid

pub lanes_started : (t : Topology) (count k : ℕ) (old now : LaneTables) → AreEngineLanes t count old → length (lids_of t) ≤ k → IsReleveled t (IsPath t) (IsOfFirst (lids_of t) k) 0 old now → AreFirstLanes t count now
lanes_started t count k old now engine past so_far = record {
  lane_count = so_far.lane_count ∙ engine.lane_count;
  fits = so_far.fits;
  maps = so_far.maps;
  levels = record {
    levels = λ s lid source connected. (0, refl, all_releveled t (IsPath t) 0 old now (lids_of t) k past so_far s lid (connected_in_use t s lid connected) (source, connected));
    no_other = λ s lid apart. elim (so_far.either s lid) [ inl given ↦ absurd (apart given.0) | inr stays ↦ stays ∙ engine.no_level s lid ];
  };
}

-- before the first step no lane is asked to be without rings
pub first_broken : (t : Topology) (e : Entries) (count : ℕ) (l : LaneTables) → AreFirstLanes t count l → IsBrokenBelow t e count 0 l
first_broken t e count l first = record {
  assigned = record { steps = 0; lane_of = λ s lid. 0; after = λ s lid. refl; lane_count = first.lane_count; fits = first.fits; maps = first.maps; levels = record { levels = first.levels.levels; no_other = first.levels.no_other } };
  acyclic = below_first t e (λ s lid. 0);
}
