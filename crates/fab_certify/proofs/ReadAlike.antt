-- What is said of a plan is the same whichever lanes it is read with: these differ in their numbers alone.
use Rattle.std.proofs.Common.{◌≡◌, ℕ, List, sym, ap, subst, Option}
use Rattle.std.specs.Prelude.{Contains}
use Rattle.fab_graph.specs.Walks.{SameGraph, IsAcyclic, HasClosedWalk}
use Rattle.fab_graph.specs.Rings.{IsFirstRing}
use Rattle.fab_graph.proofs.Graphs
use Rattle.fab_graph.proofs.Same
use Rattle.fab_model.specs.declared.rows.TerminalRow.{TerminalRow}
use Rattle.fab_model.specs.Topology.{Topology}
use Rattle.fab_tables.specs.declared.plan.Plan.{Plan}
use Rattle.fab_tables.specs.declared.verdict.VirtualChannel.{VirtualChannel}
use Rattle.fab_tables.specs.Entries.{Entries}
use Rattle.fab_tables.specs.LaneTables.{LaneTables}
use Rattle.fab_tables.specs.VirtualChannels.{virtual_channels, Follow}
use Rattle.fab_tables.specs.Dependencies.{IsPath, IsUsed, Depends, DependsByNode, AreReadLanes, node_of}
use Rattle.fab_certify.specs.Numbered.{IsNumberedPlan, IsSound}
use Rattle.fab_certify.proofs.ImageWalks.{closed_of_image}
use Rattle.fab_certify.proofs.Numbered.NumberedPlan.{one_node}
use Rattle.fab_certify.proofs.Numbered.Numbering.{numbers_aside, first_used, second_used}
use Rattle.fab_certify.proofs.SameLanes.{same_lanes}

-- the same lanes with other numbers
abbrev pub renumbered : LaneTables → List ℕ → LaneTables
renumbered l numbers = record l { numbers = numbers }

module _ (t : Topology) (e : Entries) (l : LaneTables) (numbers : List ℕ) where
  pub used_aside : (v : VirtualChannel) → IsUsed t e l v → IsUsed t e (renumbered l numbers) v
  used_aside v u = (u.0, u.1, u.2, subst (λ vs. Contains vs v) (sym (numbers_aside t e l numbers u.0 u.1)) u.3)

  pub depends_aside : (v w : VirtualChannel) → Depends t e l v w → Depends t e (renumbered l numbers) v w
  depends_aside v w d = (d.0, d.1, d.2, subst (λ vs. Follow vs v w) (sym (numbers_aside t e l numbers d.0 d.1)) d.3)

-- and back
module _ (t : Topology) (e : Entries) (l : LaneTables) (numbers : List ℕ) where
  pub used_back : (v : VirtualChannel) → IsUsed t e (renumbered l numbers) v → IsUsed t e l v
  used_back v u = used_aside t e (renumbered l numbers) l.numbers v u

  pub same_depends : SameGraph (Depends t e l) (Depends t e (renumbered l numbers))
  same_depends v w = (depends_aside t e l numbers v w, depends_aside t e (renumbered l numbers) l.numbers v w)

  pub sound_aside : IsSound t e l → IsSound t e (renumbered l numbers)
  sound_aside sound = record { reaches = sound.reaches; level = sound.level; lane = λ v u. sound.lane v (used_back v u) }

-- with the lanes with which a plan is read
module _ (t : Topology) (e : Entries) (o : Option LaneTables) (l m : LaneTables) (x : AreReadLanes t o l) (y : AreReadLanes t o m) where
  same : m ≡ renumbered l m.numbers
  same = same_lanes t o l m x y

  pub count_alike : l.count ≡ m.count
  count_alike = sym (ap (λ (k : LaneTables). k.count) same)

  pub channels_alike : (p : TerminalRow) (lid : ℕ) → IsPath t p lid → virtual_channels t e l p lid ≡ virtual_channels t e m p lid
  channels_alike p lid path = subst (λ k. virtual_channels t e l p lid ≡ virtual_channels t e k p lid) (sym same) (sym (numbers_aside t e l m.numbers p lid))

  pub sound_alike : IsSound t e l → IsSound t e m
  sound_alike sound = subst (IsSound t e) (sym same) (sound_aside t e l m.numbers sound)

  pub used_alike : (v : VirtualChannel) → IsUsed t e l v → IsUsed t e m v
  used_alike v u = subst (λ k. IsUsed t e k v) (sym same) (used_aside t e l m.numbers v u)

  pub depends_alike : (v w : VirtualChannel) → Depends t e l v w → Depends t e m v w
  depends_alike v w d = subst (λ k. Depends t e k v w) (sym same) (depends_aside t e l m.numbers v w d)

  pub depends_by_node_alike : (a b : ℕ) → DependsByNode t e l a b → DependsByNode t e m a b
  depends_by_node_alike a b d =
      subst (λ k. DependsByNode t e k a b) (sym same) (d.0, d.1, depends_aside t e l m.numbers d.0 d.1 d.2, d.3, d.4)

  pub acyclic_alike : IsAcyclic (Depends t e l) → IsAcyclic (Depends t e m)
  acyclic_alike acyclic =
      subst (λ k. IsAcyclic (Depends t e k)) (sym same) (Same.same_acyclic (Depends t e l) (Depends t e (renumbered l m.numbers)) (same_depends t e l m.numbers) acyclic)

-- the numbers of a numbered plan are levels, which rise
pub numbered_is_acyclic : (t : Topology) (e : Entries) (l : LaneTables) (new : Plan) → IsNumberedPlan (IsUsed t e l) (Depends t e l) e l new → IsAcyclic (Depends t e l)
numbered_is_acyclic t e l new x = Graphs.levels_rise (Depends t e l) x.numbered.level x.numbered.levels

-- a ring of numbers comes from a closed walk of virtual channels
pub ring_is_cyclic : (t : Topology) (e : Entries) (l : LaneTables) (ring : List ℕ) → IsFirstRing (DependsByNode t e l) ring → IsSound t e l → ¬ IsAcyclic (Depends t e l)
ring_is_cyclic t e l ring first sound acyclic = Graphs.ring_is_cyclic (DependsByNode t e l) ring first (λ n closed. none (closed_of_image (Depends t e l) (node_of l.count) apart n closed))
  where
    apart : (a b c d : VirtualChannel) → Depends t e l a b → Depends t e l c d → node_of l.count b ≡ node_of l.count c → b ≡ c
    apart a b c d p q = one_node l.count b c (sound.lane b (second_used t e l a b p)) (sound.lane c (first_used t e l c d q))

    none : HasClosedWalk (Depends t e l) → ⊥
    none w = acyclic w.0 w.1
