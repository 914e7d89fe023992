-- A fabric with named roots has one up/down plan: costs are one, and the entries of the smaller LIDs decide those of a LID.
use Rattle.std.proofs.Common.{◌≡◌, ℕ, zero, suc, ◌<◌, ◌≤◌, ◌⊎◌, inl, inr, List, [], length, Option, refl, sym, ◌∙◌, subst, arith}
use Rattle.std.proofs.Math.Path.{fun_ext}
use Rattle.std.proofs.lemmas.Bool.{cases_eq}
use Rattle.std.proofs.lemmas.Bool.Decides.{eqb_tells}
use Rattle.std.specs.Prelude.{slice_index_or}
use Rattle.fab_graph.specs.Least.{IsNotAfter}
use Rattle.fab_model.specs.Topology.{Topology}
use Rattle.fab_model.specs.Connected.{AreConnected, IsConnectedTo}
use Rattle.fab_model.specs.WellFormed.{IsWellFormed}
use Rattle.fab_model.proofs.Channels.{contains_read}
use Rattle.fab_tables.specs.Entries.{Entries, entry}
use Rattle.fab_tables.specs.FixedEntries.{HasFixedEntries, IsChosen}
use Rattle.fab_tables.proofs.Joined.Tips.{tip_below}
use Rattle.fab_tables.proofs.Paths.FallingRoutes.{connected_below, place_below}
use Rattle.fab_tables.proofs.Rows.SameTables.{entries_same}
use Rattle.fab_balance.specs.Loads.{port_load, IsBalancedChoice}
use Rattle.fab_balance.proofs.LoadCounts.{loads_same}
use Rattle.fab_certify.proofs.Engines.OneEnginePlan.{one_engine_plan}
use Rattle.fab_updn.specs.declared.costs.Cost.{Cost}
use Rattle.fab_updn.specs.Costs.{AreCosts}
use Rattle.fab_updn.specs.UpDown.{IsLegalPort, AreUpDownTables}
use Rattle.fab_updn.specs.Found.{AreAllCosts}
use Rattle.fab_updn.specs.Laws.{OneUpDownPlan}
use Rattle.fab_updn.proofs.CostRows.{one_cost}
use Rattle.fab_updn.proofs.Exists.Costs.{all_costs_exist}
use Rattle.fab_updn.proofs.Plans.{IsLevel0}
use Rattle.fab_updn.proofs.Turns.{one_list_of_ranks}

-- ---- costs are one

pub costs_same : (t : Topology) → IsWellFormed t → (ranks : List ℕ) → length ranks ≡ length t.switches → (to : ℕ) → to < length t.switches → (x y : ℕ → Option ℕ) → AreCosts t ranks to x → AreCosts t ranks to y →
    (s : ℕ) → s < length t.switches → x s ≡ y s
costs_same t good ranks whole to high x y a b s low = go (all_costs_exist t good ranks whole)
  where
    go : (table : List (List Cost)) × AreAllCosts t ranks table → x s ≡ y s
    go f =
        one_cost t good ranks to (slice_index_or f.0 to []) (f.1.each to high) f.1.order f.1.is_order whole x a s low
        ∙ sym (one_cost t good ranks to (slice_index_or f.0 to []) (f.1.each to high) f.1.order f.1.is_order whole y b s low)

-- and so are legal ports
legal_same : (t : Topology) → IsWellFormed t → (ranks : List ℕ) (to s port : ℕ) (x y : ℕ → Option ℕ) → s < length t.switches → ((v : ℕ) → v < length t.switches → x v ≡ y v) → IsLegalPort t ranks x to s port → IsLegalPort t ranks y to s port
legal_same t good ranks to s port x y low same (inl down) = inl down
legal_same t good ranks to s port x y low same (inr up) =
    inr (up.0, up.1, up.2, up.3, up.4, sym (same s low) ∙ up.5, sym (same up.0.tip.0 (tip_below t good up.0 (contains_read t.channels up.2.0 up.0 up.2.2))) ∙ up.6)

-- ---- tables whose entries are decided by those of the smaller LIDs are one

abbrev SameEntries : Entries → Entries → ℕ → Type 0
SameEntries e f lid = (s : ℕ) → entry e s lid ≡ entry f s lid

module _ (t : Topology) (e f : Entries) (x : HasFixedEntries t e) (y : HasFixedEntries t f)
    (choice : (lid : ℕ) → ((other : ℕ) → other < lid → SameEntries e f other) → (s to : ℕ) → IsChosen t s lid to → entry e s lid ≡ entry f s lid) where
  module _ (lid : ℕ) (smaller : (other : ℕ) → other < lid → SameEntries e f other) where
    where_connected : (s : ℕ) → IsConnectedTo t s lid → entry e s lid ≡ entry f s lid
    where_connected s c = elim (eqb_tells s c.0.switch.0) [
      | inl same ↦ subst (λ z. entry e z lid ≡ entry f z lid) (sym same.1) (x.own lid c.0 c.1 ∙ sym (y.own lid c.0 c.1))
      | inr other ↦ choice lid smaller s c.0.switch.0 (record { place = c.0; in_use = c.1; at_switch = refl; connected = c.2; other = other.1 })
    ]

    here : SameEntries e f lid
    here s = elim (cases_eq (entry e s lid) (entry f s lid)) [
      | inl same ↦ same
      | inr other ↦
          (let apart : ¬ IsConnectedTo t s lid = λ c. other (where_connected s c) in
          absurd (other (x.apart s lid apart ∙ sym (y.apart s lid apart))))
    ]

  below : (n lid : ℕ) → lid < n → SameEntries e f lid
  below zero lid h = absurd (omega (arith, h))
  below (suc n) lid h = here lid (λ other low. below n other (omega (arith, low, h)))

  one_table : e ≡ f
  one_table = entries_same t e f x.fits y.fits (λ s lid. below (suc lid) lid (omega arith) s)

not_after_both : (a b m n : ℕ) → (a < b) ⊎ ((a ≡ b) × (m ≤ n)) → (b < a) ⊎ ((b ≡ a) × (n ≤ m)) → m ≡ n
not_after_both a b m n (inl p) (inl q) = absurd (omega arith)
not_after_both a b m n (inl p) (inr q) = absurd (omega (arith, q.0))
not_after_both a b m n (inr p) (inl q) = absurd (omega (arith, p.0))
not_after_both a b m n (inr p) (inr q) = omega (arith, p.1, q.1)

-- two balanced choices among the same ports with the same loads are one
one_choice : (t : Topology) (e f : Entries) (s lid : ℕ) (P Q : ℕ → Type 0) (m n : ℕ) → ((port : ℕ) → P port → Q port) → ((port : ℕ) → Q port → P port) → ((port : ℕ) → port_load t e s lid port ≡ port_load t f s lid port) →
    IsBalancedChoice t e s lid P m → IsBalancedChoice t f s lid Q n → m ≡ n
one_choice t e f s lid P Q m n to from same x y =
    not_after_both (port_load t e s lid m) (port_load t e s lid n) m n (x.least n (from n y.eligible))
    (let R : (ℕ → ℕ) → Type 0 = λ load. IsNotAfter load n m in subst R (sym (fun_ext same)) (y.least m (to m x.eligible)))

-- ---- up/down tables, and plans

up_down_tables_same : (t : Topology) → IsWellFormed t → (ranks : List ℕ) → length ranks ≡ length t.switches → (e f : Entries) → AreUpDownTables t ranks e → AreUpDownTables t ranks f → e ≡ f
up_down_tables_same t good ranks whole e f x y = one_table t e f x.entries.fixed y.entries.fixed choice
  where
    choice : (lid : ℕ) → ((other : ℕ) → other < lid → SameEntries e f other) → (s to : ℕ) → IsChosen t s lid to → entry e s lid ≡ entry f s lid
    choice lid smaller s to is =
        one_choice t e f s lid (λ p. IsLegalPort t ranks (x.cost to) to s p) (λ p. IsLegalPort t ranks (y.cost to) to s p) (entry e s lid) (entry f s lid)
        (λ p legal. legal_same t good ranks to s p (x.cost to) (y.cost to) low same legal) (λ p legal. legal_same t good ranks to s p (y.cost to) (x.cost to) low (λ v h. sym (same v h)) legal)
        (λ port. loads_same t e f s lid (λ other less. smaller other less s) port) (x.entries.chosen s lid to is) (y.entries.chosen s lid to is)
      where
        high : to < length t.switches
        high = subst (λ v. v < length t.switches) is.at_switch (place_below t good lid is.place is.in_use)

        low : s < length t.switches
        low = connected_below t good s lid (is.place, is.in_use, subst (λ v. AreConnected t s v) (sym is.at_switch) is.connected)

        same : (v : ℕ) → v < length t.switches → x.cost to v ≡ y.cost to v
        same = costs_same t good ranks whole to high (x.cost to) (y.cost to) (x.costs to high) (y.costs to high)

pub one_up_down_plan : OneUpDownPlan
one_up_down_plan t named p q good x y =
    let ranks : y.tables.ranks ≡ x.tables.ranks = one_list_of_ranks t named y.tables.ranks x.tables.ranks y.tables.are_ranks x.tables.are_ranks in
    let same : p.tables ≡ q.tables = up_down_tables_same t good x.tables.ranks x.tables.are_ranks.whole p.tables q.tables x.tables.tables (subst (λ r. AreUpDownTables t r q.tables) ranks y.tables.tables) in
    one_engine_plan t 1 IsLevel0 IsLevel0 p q same (λ s lid m n source joined a b. a ∙ sym b) x.lanes y.lanes
