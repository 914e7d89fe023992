-- The levels of Nue are below the lane count.
use Rattle.std.proofs.Common.{◌≡◌, ℕ, ◌<◌, inl, inr, List, [], Option, Some, None, refl, sym, ◌∙◌, subst, arith}
use Rattle.std.specs.Prelude.{Contains, ◌==◌}
use Rattle.std.specs.List.{list_any}
use Rattle.std.proofs.lemmas.Bool.{cond-true, cond-false}
use Rattle.fab_model.specs.Topology.{Topology}
use Rattle.fab_model.specs.Connected.{IsConnectedTo}
use Rattle.fab_tables.specs.declared.plan.Plan.{Plan}
use Rattle.fab_tables.specs.Fit.{IsSource}
use Rattle.fab_tables.proofs.Joined.Lids.{connected_in_use}
use Rattle.fab_escape.specs.EscapeSet.{home}
use Rattle.fab_nue.specs.Kept.{old_level, KeepsLevel, AreKeptOf, AreKept}
use Rattle.fab_nue.specs.NuePlan.{IsNueLevel}
use Rattle.fab_nue.specs.Levels.{level_given, AreLevelsLow}
use Rattle.fab_nue.proofs.Searching.Choosing.{contains_decided}
use Rattle.fab_nue.proofs.Laying.Reaching.{home_below}
use Rattle.fab_nue.proofs.Laying.Weighing.{among, not_among}

pub levels_low : (t : Topology) (lanes : ℕ) (escape : ℕ → ℕ → ℕ → Type 0) (old : Option Plan) (kept : List ℕ) → 0 < lanes → AreKept t lanes escape old kept → AreLevelsLow t lanes old kept
levels_low t lanes escape None kept some are s lid source c =
    (home t lid lanes, refl, home_below t lid lanes c.0 some c.1, inr ((λ has. none (subst (λ xs. Contains xs lid) are has)), refl))
  where
    none : Contains [] lid → ⊥
    none has = omega (arith, has.1)
levels_low t lanes escape (Some old) kept some are s lid source c = elim (contains_decided kept lid) [
  | inl has ↦
      (let keeps : KeepsLevel t lanes old s lid = ((are.each lid (connected_in_use t s lid c)).0 has).levels s source c in
      (keeps.level, cond-true (list_any (λ one. one == lid) kept) (old_level old.lanes s lid) (Some (home t lid lanes)) (among kept lid has) ∙ keeps.is, keeps.below, inl (has, keeps.is)))
  | inr not ↦
      (home t lid lanes, cond-false (list_any (λ one. one == lid) kept) (old_level old.lanes s lid) (Some (home t lid lanes)) (not_among kept lid not), home_below t lid lanes c.0 some c.1, inr (not, refl))
]
