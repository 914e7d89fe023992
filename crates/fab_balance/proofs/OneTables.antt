-- There is one balanced choice, and a fabric has one Min Hop table and one DOR table: the entries of the smaller LIDs decide those of a LID.
use Rattle.std.proofs.Common.{◌≡◌, ℕ, zero, suc, ◌<◌, ◌≤◌, ◌⊎◌, inl, inr, refl, sym, ◌∙◌, subst, arith, Contains}
use Rattle.std.proofs.Math.Path.{fun_ext}
use Rattle.std.specs.Prelude.{slice_index}
use Rattle.std.proofs.lemmas.Bool.{cases_eq}
use Rattle.std.proofs.lemmas.Bool.Decides.{eqb_tells}
use Rattle.std.proofs.lemmas.List.Elements.{All-contains}
use Rattle.fab_graph.specs.Least.{IsNotAfter}
use Rattle.fab_graph.proofs.Graphs.{one_least}
use Rattle.fab_model.specs.Topology.{Topology}
use Rattle.fab_model.specs.Connected.{IsConnectedTo}
use Rattle.fab_tables.specs.Entries.{Entries, entry}
use Rattle.fab_tables.specs.FixedEntries.{HasFixedEntries, IsChosen}
use Rattle.fab_balance.specs.Eligible.{LeadsNearer}
use Rattle.fab_balance.specs.Loads.{port_load, IsBalancedChoice}
use Rattle.fab_balance.specs.Laws.{OnePicked, OneBalancedChoice, OneMinHopTable, OneDorTable}
use Rattle.fab_tables.proofs.Rows.SameTables.{entries_same}
use Rattle.fab_balance.proofs.LoadCounts.{loads_same}

abbrev SameEntries : Entries → Entries → ℕ → Type 0
SameEntries e f lid = (s : ℕ) → entry e s lid ≡ entry f s lid

module _ (t : Topology) (e f : Entries) (x : HasFixedEntries t e) (y : HasFixedEntries t f)
    (choice : (lid : ℕ) → ((other : ℕ) → other < lid → SameEntries e f other) → (s to : ℕ) → IsChosen t s lid to → entry e s lid ≡ entry f s lid) where
  module _ (lid : ℕ) (smaller : (other : ℕ) → other < lid → SameEntries e f other) where
    where_connected : (s : ℕ) → IsConnectedTo t s lid → entry e s lid ≡ entry f s lid
    where_connected s c = elim (eqb_tells s c.0.switch.0) [
      | inl same ↦ subst (λ z. entry e z lid ≡ entry f z lid) (sym same.1) (x.own lid c.0 c.1 ∙ sym (y.own lid c.0 c.1))
      | inr other ↦ choice lid smaller s c.0.switch.0 (record { place = c.0; in_use = c.1; at_switch = refl; connected = c.2; other = other.1 })
    ]

    here : SameEntries e f lid
    here s = elim (cases_eq (entry e s lid) (entry f s lid)) [
      | inl same ↦ same
      | inr other ↦
          (let apart : ¬ IsConnectedTo t s lid = λ c. other (where_connected s c) in
          absurd (other (x.apart s lid apart ∙ sym (y.apart s lid apart))))
    ]

  below : (n lid : ℕ) → lid < n → SameEntries e f lid
  below zero lid h = absurd (omega (arith, h))
  below (suc n) lid h = here lid (λ other low. below n other (omega (arith, low, h)))

  one_table : e ≡ f
  one_table = entries_same t e f x.fits y.fits (λ s lid. below (suc lid) lid (omega arith) s)

-- ---- DOR

pub one_dor_table : OneDorTable
one_dor_table t e f good x y =
    one_table t e f x.fixed y.fixed (λ lid smaller s to is. one_least (λ p. LeadsNearer t s to p) _ _ (x.chosen s lid to is) (y.chosen s lid to is))

-- ---- Min Hop

not_after_both : (a b m n : ℕ) → (a < b) ⊎ ((a ≡ b) × (m ≤ n)) → (b < a) ⊎ ((b ≡ a) × (n ≤ m)) → m ≡ n
not_after_both a b m n (inl p) (inl q) = absurd (omega arith)
not_after_both a b m n (inl p) (inr q) = absurd (omega (arith, q.0))
not_after_both a b m n (inr p) (inl q) = absurd (omega (arith, p.0))
not_after_both a b m n (inr p) (inr q) = omega (arith, p.1, q.1)

one_choice : (t : Topology) (e f : Entries) (s lid : ℕ) (Eligible : ℕ → Type 0) (m n : ℕ) → ((port : ℕ) → port_load t e s lid port ≡ port_load t f s lid port) →
    IsBalancedChoice t e s lid Eligible m → IsBalancedChoice t f s lid Eligible n → m ≡ n
one_choice t e f s lid Eligible m n same x y =
    not_after_both (port_load t e s lid m) (port_load t e s lid n) m n (x.least n y.eligible)
    (let P : (ℕ → ℕ) → Type 0 = λ load. IsNotAfter load n m in subst P (sym (fun_ext same)) (y.least m x.eligible))

pub one_balanced_choice : OneBalancedChoice
one_balanced_choice t e s lid eligible port other x y = one_choice t e e s lid (λ p. Contains eligible p) port other (λ p. refl) x y

pub one_picked : OnePicked
one_picked loads eligible port other x y =
    not_after_both (slice_index loads port) (slice_index loads other) port other (All-contains (IsNotAfter (λ p. slice_index loads p) port) eligible other x.least y.listed)
    (All-contains (IsNotAfter (λ p. slice_index loads p) other) eligible port y.least x.listed)

pub one_min_hop_table : OneMinHopTable
one_min_hop_table t e f good x y =
    one_table t e f x.fixed y.fixed (λ lid smaller s to is.
    one_choice t e f s lid (λ p. LeadsNearer t s to p) (entry e s lid) (entry f s lid) (λ port. loads_same t e f s lid (λ other low. smaller other low s) port) (x.chosen s lid to is) (y.chosen s lid to is))
