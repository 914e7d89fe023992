-- The whole escape tree towards a switch is a tree, and its walks lead there.
use Rattle.std.proofs.Common.{◌≡◌, ℕ, ◌+◌, ◌<◌, List, [], ◌∷◌, length, refl, sym, ◌∙◌, ap, subst, inl, inr, arith, Some}
use Rattle.std.specs.Prelude.{slice_get}
use Rattle.fab_model.specs.declared.rows.ChannelRow.{ChannelRow}
use Rattle.fab_model.specs.Topology.{Topology}
use Rattle.fab_model.specs.Connected.{LeadsTo, AreConnected, LeadsAlong}
use Rattle.fab_model.specs.WellFormed.{IsWellFormed}
use Rattle.fab_tables.specs.Route.{tip_of_row}
use Rattle.fab_tables.specs.Trees.{next, LeavesSwitch}
use Rattle.fab_tables.specs.TreeWalks.{GoesAlong, IsTree}
use Rattle.fab_hops.proofs.HopWalks.{connected_back, connected_through}
use Rattle.fab_escape.specs.Forest.{Forest, escape_tree}
use Rattle.fab_escape.specs.Trees.{IsEscapeForest}
use Rattle.fab_escape.specs.EscapeSet.{escape_number}
use Rattle.fab_escape.specs.Laws.{EscapeTreeIsTree, EscapeRoutesLead, IsOfTree}
use Rattle.fab_tables.proofs.Paths.RisingTrees.{rising_ends}
use Rattle.fab_hops.proofs.HopWalks.{leads_below, connected_within}
use Rattle.fab_model.proofs.Channels.{contains_read}
use Rattle.fab_escape.proofs.EndsOfRoutes.{routes_stay_in_tree, no_next_channel}
use Rattle.fab_escape.proofs.Numbers.{number_within, tree_rises}
use Rattle.fab_tables.proofs.Paths.TreeWalks.{goes_walk_of}
use Rattle.fab_escape.proofs.WholeTree.{tree_length, next_in_tree, of_tree}

module _ (t : Topology) (good : IsWellFormed t) (lane : ℕ) (f : Forest) (forest : IsEscapeForest t lane f) (to : ℕ) where
  leaves : (s c : ℕ) → next (escape_tree f to) s ≡ Some c → LeavesSwitch t c s
  leaves s c h =
      let row : (row : ChannelRow) × (slice_get t.channels c ≡ Some row) × (row.tail.0 ≡ s) × IsOfTree f c row = routes_stay_in_tree t lane f good forest s to c (of_tree f s to c h) in
      (row.0, row.1, row.2)

  pub is_tree : IsTree t (escape_tree f to)
  is_tree = record {
    each_switch = tree_length f to ∙ forest.each_link;
    leaves = leaves;
    ends = rising_ends t (escape_tree f to) (escape_number t f) (length t.switches + length t.switches) (record {
      rises = tree_rises t good lane f forest to;
      within = λ s c h. number_within t good lane f forest s to c (of_tree f s to c h);
    });
  }

  goes_there : (cs : List ℕ) (s : ℕ) → s < length t.switches → to < length t.switches → AreConnected t s to → GoesAlong t (escape_tree f to) s cs → LeadsAlong t s cs to
  goes_there [] s low also joined goes =
      elim ((no_next_channel t lane f good forest s to low also).0 (sym (next_in_tree f s to (omega (arith, low, forest.each_link))) ∙ goes)) [
        | inl same ↦ same
        | inr apart ↦ absurd (apart joined)
      ]
  goes_there (c ∷ cs) s low also joined goes = (
    out.0,
    out.1,
    out.2,
    goes_there cs out.0.tip.0 (leads_below t good s out.0.tip.0 over) also
        (connected_through t out.0.tip.0 s to (connected_back t good s out.0.tip.0 (1, (out.0.tip.0, over, refl))) joined)
        (subst (λ x. GoesAlong t (escape_tree f to) x cs) (ap tip_of_row out.1) goes.1),
  )
    where
      out : LeavesSwitch t c s
      out = leaves s c goes.0

      over : LeadsTo t s out.0.tip.0
      over = (out.0, contains_read t.channels c out.0 out.1, out.2, refl)

pub escape_tree_is_tree : EscapeTreeIsTree
escape_tree_is_tree t lane f to good forest low = is_tree t good lane f forest to

pub escape_routes_lead : EscapeRoutesLead
escape_routes_lead t lane f good forest from to also joined =
    let low : from < length t.switches = connected_within t good to from (connected_back t good from to joined) also in
    let is : IsTree t (escape_tree f to) = is_tree t good lane f forest to in
    let walk : (cs : List ℕ) × GoesAlong t (escape_tree f to) from cs = is.ends from in
    subst (λ cs. LeadsAlong t from cs to) (sym (goes_walk_of t (escape_tree f to) from walk.0 is.each_switch walk.1)) (goes_there t good lane f forest to walk.0 from low also joined walk.1)
