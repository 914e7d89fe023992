-- Tables of least weight are one.
use Rattle.std.proofs.Common.{◌≡◌, ℕ, zero, suc, ◌<◌, inl, inr, refl, sym, ◌∙◌, subst, arith}
use Rattle.std.proofs.Math.Path.{fun_ext}
use Rattle.std.proofs.lemmas.Bool.{cases_eq}
use Rattle.std.proofs.lemmas.Bool.Decides.{eqb_tells}
use Rattle.fab_graph.proofs.Graphs.{one_least}
use Rattle.fab_model.specs.Topology.{Topology}
use Rattle.fab_model.specs.Connected.{IsConnectedTo}
use Rattle.fab_tables.specs.Entries.{Entries, entry}
use Rattle.fab_tables.specs.FixedEntries.{IsChosen}
use Rattle.fab_sssp.specs.LeastWeight.{BeginsLeastWalk, IsLeastPort}
use Rattle.fab_sssp.specs.LeastWeightTables.{weight_at, AreLeastWeightTables}
use Rattle.fab_sssp.specs.Laws.{OneDistance, OneLeastWeightTables}
use Rattle.fab_tables.proofs.Rows.SameTables.{entries_same}
use Rattle.fab_sssp.proofs.Tables.WeightsSame.{SameEntries, weight_at-same}

pub one_distance : OneDistance
one_distance t weight from to m n x y = omega (arith, x.2, y.2, x.1.least y.0 y.1.leads, y.1.least x.0 x.1.leads)

module _ (t : Topology) (e f : Entries) (x : AreLeastWeightTables t e) (y : AreLeastWeightTables t f) where
  -- the smaller LIDs decide the weights, so they decide the entries
  module _ (lid : ℕ) (smaller : (other : ℕ) → other < lid → SameEntries e f other) where
    weights : ◌≡◌ {A = ℕ → ℕ} (λ c. weight_at t f lid c) (λ c. weight_at t e lid c)
    weights = fun_ext (λ c. sym (weight_at-same t e f lid c smaller))

    chosen : (s to : ℕ) → IsChosen t s lid to → entry e s lid ≡ entry f s lid
    chosen s to is =
        one_least (λ p. BeginsLeastWalk t (λ c. weight_at t e lid c) s to p) _ _ (x.chosen s lid to is)
        (subst (λ weight. IsLeastPort t weight s to (entry f s lid)) weights (y.chosen s lid to is))

    where_connected : (s : ℕ) → IsConnectedTo t s lid → entry e s lid ≡ entry f s lid
    where_connected s c = elim (eqb_tells s c.0.switch.0) [
      | inl same ↦ subst (λ z. entry e z lid ≡ entry f z lid) (sym same.1) (x.fixed.own lid c.0 c.1 ∙ sym (y.fixed.own lid c.0 c.1))
      | inr other ↦ chosen s c.0.switch.0 (record { place = c.0; in_use = c.1; at_switch = refl; connected = c.2; other = other.1 })
    ]

    here : SameEntries e f lid
    here s = elim (cases_eq (entry e s lid) (entry f s lid)) [
      | inl same ↦ same
      | inr other ↦
          (let apart : ¬ IsConnectedTo t s lid = λ c. other (where_connected s c) in
          absurd (other (x.fixed.apart s lid apart ∙ sym (y.fixed.apart s lid apart))))
    ]

  below : (n lid : ℕ) → lid < n → SameEntries e f lid
  below zero lid h = absurd (omega (arith, h))
  below (suc n) lid h = here lid (λ other low. below n other (omega (arith, low, h)))

  pub one_table : e ≡ f
  one_table = entries_same t e f x.fixed.fits y.fixed.fits (λ s lid. below (suc lid) lid (omega arith) s)

pub one_least_weight_tables : OneLeastWeightTables
one_least_weight_tables t e f good x y = one_table t e f x y
