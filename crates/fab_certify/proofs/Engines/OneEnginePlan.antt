-- Plans of routing engines with the same tables and the same levels are one.
use Rattle.std.proofs.Common.{◌≡◌, ℕ, refl, sym, ◌∙◌, ap, subst, inl, inr, Some}
use Rattle.fab_model.specs.Topology.{Topology}
use Rattle.fab_model.specs.Connected.{IsConnectedTo}
use Rattle.fab_tables.specs.declared.plan.Plan.{Plan}
use Rattle.fab_tables.specs.Entries.{Entries}
use Rattle.fab_tables.specs.LaneTables.{LaneTables, level}
use Rattle.fab_tables.specs.Fit.{IsSource}
use Rattle.fab_tables.specs.Plain.{IsPlainlyUsed, DependsPlainly}
use Rattle.fab_certify.specs.Numbered.{IsNumberedBy}
use Rattle.fab_certify.specs.EnginePlans.{IsEnginePlan}
use Rattle.fab_tables.proofs.Rows.SameTables.{same_but_numbers}
use Rattle.fab_certify.proofs.SameLanes.{same_or_other, same_numbers}

-- so they are one
module _ (t : Topology) (count : ℕ) (G H : ℕ → ℕ → ℕ → Type 0) (p q : Plan) (tables : p.tables ≡ q.tables)
    (alike : (s lid m n : ℕ) → IsSource t s → IsConnectedTo t s lid → G s lid m → H s lid n → m ≡ n) (x : IsEnginePlan t count G p) (y : IsEnginePlan t count H q) where
  same_level : (s lid : ℕ) → level x.lanes s lid ≡ level y.lanes s lid
  same_level s lid = elim (same_or_other (level x.lanes s lid) (level y.lanes s lid)) [
    | inl same ↦ same
    | inr other ↦
        (let apart : ¬ (IsSource t s × IsConnectedTo t s lid) = λ both. other (with_level both) in
        absurd (other (x.levels.no_other s lid apart ∙ sym (y.levels.no_other s lid apart))))
  ]
    where
      with_level : IsSource t s × IsConnectedTo t s lid → level x.lanes s lid ≡ level y.lanes s lid
      with_level both =
          let a : (n : ℕ) × G s lid n × (level x.lanes s lid ≡ Some n) = x.levels.levels s lid both.0 both.1 in
          let b : (n : ℕ) × H s lid n × (level y.lanes s lid ≡ Some n) = y.levels.levels s lid both.0 both.1 in
          a.2 ∙ ap (λ n. Some n) (alike s lid a.0 b.0 both.0 both.1 a.1 b.1) ∙ sym b.2

  renumbered : y.lanes ≡ record x.lanes { numbers = y.lanes.numbers }
  renumbered = same_but_numbers t x.lanes y.lanes x.fits y.fits (x.lane_count ∙ sym y.lane_count) x.maps y.maps same_level

  abbrev IsNumbered : Entries → LaneTables → LaneTables → Type 0
  IsNumbered e k n = IsNumberedBy (IsPlainlyUsed t e k) (DependsPlainly t e k) n n

  numbers : x.lanes.numbers ≡ y.lanes.numbers
  numbers = same_numbers (IsPlainlyUsed t p.tables x.lanes) (DependsPlainly t p.tables x.lanes) x.lanes (record x.lanes { numbers = y.lanes.numbers }) x.lanes (record x.lanes { numbers = y.lanes.numbers }) refl x.numbered
      (subst (λ k. IsNumbered p.tables k k) renumbered (subst (λ e. IsNumbered e y.lanes y.lanes) (sym tables) y.numbered))

  lanes : x.lanes ≡ y.lanes
  lanes = ap (λ ns. record x.lanes { numbers = ns }) numbers ∙ sym renumbered

  pub one_engine_plan : p ≡ q
  one_engine_plan =
      ap (λ e. record { tables = e; lanes = p.lanes }) tables ∙ ap (λ k. record { tables = q.tables; lanes = k }) (x.has_lanes ∙ ap (λ k. Some k) lanes ∙ sym y.has_lanes)
