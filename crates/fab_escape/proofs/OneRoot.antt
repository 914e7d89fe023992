-- Each switch is connected to its root, and connected switches have one root.
use Rattle.std.proofs.Common.{◌≡◌, ℕ, ◌<◌, ◌≤◌, List, length, sym, ◌∙◌, ap, subst, arith, Some}
use Rattle.std.specs.Prelude.{◌%◌, slice_get}
use Rattle.std.proofs.lemmas.List.{get_or_past}
use Rattle.std.proofs.lemmas.Option.{same_Some}
use Rattle.fab_model.specs.Topology.{Topology}
use Rattle.fab_model.specs.Connected.{AreConnected}
use Rattle.fab_model.specs.WellFormed.{IsWellFormed}
use Rattle.fab_hops.proofs.HopWalks.{connected_back, connected_through}
use Rattle.fab_escape.specs.Forest.{Forest, root_of}
use Rattle.fab_escape.specs.Trees.{IsRoot, IsEscapeForest}
use Rattle.fab_escape.specs.Laws.{RootsTellComponents}
use Rattle.fab_model.proofs.Channels.{contains_read}
use Rattle.fab_hops.proofs.CentreOrders.{one_centre_order, order_of_component}
use Rattle.fab_hops.proofs.HopWalks.{connected_within}

one_read : (x y : List ℕ) (lane a b : ℕ) → x ≡ y → slice_get x (lane % length x) ≡ Some a → slice_get y (lane % length y) ≡ Some b → a ≡ b
one_read x y lane a b same p q = same_Some a b (sym p ∙ ap (λ (zs : List ℕ). slice_get zs (lane % length zs)) same ∙ q)

pub root_is_one : (t : Topology) → IsWellFormed t → (lane s u a b : ℕ) → AreConnected t s u → IsRoot t lane s a → IsRoot t lane u b → a ≡ b
root_is_one t good lane s u a b joined x y =
    one_read x.0 y.0 lane a b (one_centre_order t u x.0 y.0 (order_of_component t good s u x.0 joined x.1) y.1) x.2 y.2

module _ (t : Topology) (good : IsWellFormed t) (lane : ℕ) (f : Forest) (forest : IsEscapeForest t lane f) where
  pub root_connected : (s : ℕ) → s < length t.switches → AreConnected t s (root_of f s)
  root_connected s low =
      let is : IsRoot t lane s (root_of f s) = forest.roots s low in
      (is.1.component (root_of f s)).0 (contains_read is.0 (lane % length is.0) (root_of f s) is.2)

  pub root_below : (s : ℕ) → s < length t.switches → root_of f s < length t.switches
  root_below s low = connected_within t good s (root_of f s) (root_connected s low) low

  pub one_root : (s u : ℕ) → s < length t.switches → u < length t.switches → AreConnected t s u → root_of f s ≡ root_of f u
  one_root s u low also joined = root_is_one t good lane s u (root_of f s) (root_of f u) joined (forest.roots s low) (forest.roots u also)

  pub joined_by_root : (s u : ℕ) → s < length t.switches → u < length t.switches → root_of f s ≡ root_of f u → AreConnected t s u
  joined_by_root s u low also same =
      connected_through t s (root_of f s) u (root_connected s low) (subst (λ r. AreConnected t r u) (sym same) (connected_back t good u (root_of f u) (root_connected u also)))

  -- behind the last switch each number is its own root
  pub root_past : (s : ℕ) → length t.switches ≤ s → root_of f s ≡ s
  root_past s past = get_or_past f.roots s s (omega (arith, forest.each_root))

pub roots_tell_components : RootsTellComponents
roots_tell_components t lane f s u good forest low also = (joined_by_root t good lane f forest s u low also, one_root t good lane f forest s u low also)
