-- Lanes that differ in nothing but their numbers, and lanes whose numbers are the same.
use Rattle.std.proofs.Common.{◌≡◌, ℕ, refl, sym, ◌∙◌, ap, subst, inl, inr, ◌⊎◌, Some, None, Option}
use Rattle.std.proofs.lemmas.Bool.{cases_eq}
use Rattle.std.proofs.lemmas.Option.{same_Some, none-some}
use Rattle.fab_graph.proofs.Graphs.{one_level}
use Rattle.fab_model.specs.Topology.{Topology}
use Rattle.fab_model.specs.Connected.{IsConnectedTo}
use Rattle.fab_tables.specs.declared.verdict.VirtualChannel.{VirtualChannel}
use Rattle.fab_tables.specs.LaneTables.{LaneTables, level}
use Rattle.fab_tables.specs.Fit.{IsSource}
use Rattle.fab_tables.specs.VirtualChannels.{virtual_channel}
use Rattle.fab_tables.specs.Certified.{number_of}
use Rattle.fab_tables.specs.Dependencies.{IsOneLane, AreReadLanes}
use Rattle.fab_tables.proofs.Rows.SameTables.{same_but_numbers, numbers_same}
use Rattle.fab_certify.specs.Numbered.{IsNumberedBy}

pub same_or_other : (a b : Option ℕ) → (a ≡ b) ⊎ (a ≡ b → ⊥)
same_or_other None None = inl refl
same_or_other None (Some n) = inr (none-some n)
same_or_other (Some m) None = inr (λ e. none-some m (sym e))
same_or_other (Some m) (Some n) = elim (cases_eq m n) [ inl same ↦ inl (ap (λ k. Some k) same) | inr other ↦ inr (λ e. other (same_Some m n e)) ]

-- two readings of a plan without lanes
same_one_lane : (t : Topology) (l m : LaneTables) → IsOneLane t l → IsOneLane t m → m ≡ record l { numbers = m.numbers }
same_one_lane t l m x y = same_but_numbers t l m x.fits y.fits (x.count ∙ sym y.count) x.maps y.maps same_level
  where
    same_level : (s lid : ℕ) → level l s lid ≡ level m s lid
    same_level s lid = elim (same_or_other (level l s lid) (level m s lid)) [
      | inl same ↦ same
      | inr other ↦
          (let apart : ¬ (IsSource t s × IsConnectedTo t s lid) = λ both. other (x.level_0 s lid both.0 both.1 ∙ sym (y.level_0 s lid both.0 both.1)) in
          absurd (other (x.no_level s lid apart ∙ sym (y.no_level s lid apart))))
    ]

-- lanes that are numbered by the same dependencies have the same numbers
module _ (used : VirtualChannel → Type 0) (depends : VirtualChannel → VirtualChannel → Type 0) (old_l old_m l m : LaneTables) (channels : l.channels ≡ m.channels)
    (x : IsNumberedBy used depends old_l l) (y : IsNumberedBy used depends old_m m) where
  one_number : (v : VirtualChannel) → number_of l v ≡ number_of m v
  one_number v = elim (cases_eq (number_of l v) (number_of m v)) [
    | inl same ↦ same
    | inr other ↦
        (let unused : ¬ used v = λ u. other (x.numbers v u ∙ one_level depends x.level y.level x.levels y.levels v ∙ sym (y.numbers v u)) in
        absurd (other (x.others v unused ∙ sym (y.others v unused))))
  ]

  pub same_numbers : l.numbers ≡ m.numbers
  same_numbers = numbers_same l m x.whole y.whole channels (λ channel of_lane. one_number (virtual_channel channel of_lane))

pub same_lanes : (t : Topology) (o : Option LaneTables) (l m : LaneTables) → AreReadLanes t o l → AreReadLanes t o m → m ≡ record l { numbers = m.numbers }
same_lanes t None l m x y = same_one_lane t l m x y
same_lanes t (Some kept) l m x y = subst (λ (k : LaneTables). m ≡ record k { numbers = m.numbers }) (sym y ∙ x) refl
