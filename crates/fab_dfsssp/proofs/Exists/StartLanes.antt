-- There are the lanes with which engines begin, for any count of them.
use Rattle.std.proofs.Common.{◌≡◌, ℕ, zero, suc, ◌+◌, ◌<◌, ◌≤◌, length, refl, subst, arith}
use Rattle.fab_model.specs.Topology.{Topology, lids_of}
use Rattle.fab_model.specs.WellFormed.{IsFabric}
use Rattle.fab_tables.specs.LaneTables.{LaneTables, with_lane, no_lanes}
use Rattle.fab_certify.specs.EnginePlans.{AreEngineLanes}
use Rattle.fab_certify.specs.Mapping.{IsMapping}
use Rattle.fab_certify.proofs.Engines.Mapping.{mapping_begins, one_more_level, one_more_switch, all_mapped}

module _ (t : Topology) (fabric : IsFabric t) (count : ℕ) (few : (0 < count) × (count ≤ 15)) where
  abbrev Mapped : ℕ → ℕ → Type 0
  Mapped switch below = (l : LaneTables) × IsMapping t count l switch below

  levels : (switch : ℕ) → switch < length t.switches → Mapped switch 0 → (below : ℕ) → below ≤ count → Mapped switch below
  levels switch low begins zero h = begins
  levels switch low begins (suc below) h =
      let before : Mapped switch below = levels switch low begins below (omega (arith, h)) in
      let next : below + 1 ≡ suc below = omega arith in (
        with_lane before.0 switch below below,
        subst (λ k. IsMapping t count (with_lane before.0 switch below below) switch k) next
            (one_more_level t count before.0 switch below before.1 low (omega (arith, h, few.1))),
      )

  switches : (switch : ℕ) → switch ≤ length t.switches → Mapped switch 0
  switches zero h = (no_lanes count (length t.switches) (length t.channels) (lids_of t), mapping_begins t fabric count few)
  switches (suc switch) h =
      let all : Mapped switch count = levels switch (omega (arith, h)) (switches switch (omega (arith, h))) count (omega arith) in
      let next : switch + 1 ≡ suc switch = omega arith in
      (all.0, subst (λ s. IsMapping t count all.0 s 0) next (one_more_switch t count all.0 switch count all.1 refl))

  pub engine_lanes_exist : (l : LaneTables) × AreEngineLanes t count l
  engine_lanes_exist =
      let all : Mapped (length t.switches) 0 = switches (length t.switches) (omega arith) in
      (all.0, all_mapped t count all.0 (length t.switches) all.1 refl)
