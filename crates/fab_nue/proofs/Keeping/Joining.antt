-- The dependencies of a LID's old routes are tried lane after lane.
use Rattle.std.proofs.Common.{◌≡◌, ◌≢◌, ℕ, suc, ◌+◌, ◌<◌, ◌≤◌, ◌⊎◌, inl, inr, Bool, true, false, List, length, take, Option, Some, refl, sym, ◌∙◌, ap, subst, arith}
use Rattle.std.specs.Prelude.{slice_get, slice_set}
use Rattle.std.proofs.lemmas.Bool.{false≢true}
use Rattle.fab_graph.specs.Walks.{SameGraph, IsAcyclic}
use Rattle.fab_graph.proofs.Parts.{part_acyclic}
use Rattle.fab_model.specs.Topology.{Topology}
use Rattle.fab_tables.specs.declared.plan.Plan.{Plan}
use Rattle.fab_tables.specs.TreeWalks.{DependsInTree}
use Rattle.fab_depgraph.specs.declared.dep.Dep.{Dep}
use Rattle.fab_depgraph.specs.declared.dep.Added.TheVariants.{Yes, WouldClose}
use Rattle.fab_depgraph.specs.Listed.{Dependencies, IsListed}
use Rattle.fab_nue.specs.Search.{ClosesNone}
use Rattle.fab_nue.specs.Kept.{DependsOnOldRoute}
use Rattle.fab_nue.specs.Arenas.{listed_in, channel_counts, ListsTree, IsTried, ChangesLane}
use Rattle.fab_nue.specs.OldRoutes.{AreAllDelivered, IsRouteTree, KeepLevels, CanJoin, JoinsLane, IsJoined, IsKeptOrNot}
use Rattle.fab_nue.proofs.Searching.Growing.{same_or_other}
use Rattle.fab_nue.proofs.Lanes.LaneLists.{same_length, changed, listed_here, listed_at}

-- past the last lane nothing is left to try
pub joined_ends : (t : Topology) (old : Plan) (lid first : ℕ) (used : List Dependencies) → first ≡ length used → IsJoined t old lid first used used true
joined_ends t old lid first used end = record {
  channels = refl;
  below = λ on_lane h. refl;
  joined = λ e on_lane low high. absurd (omega (arith, low, high, end));
  same = λ e. absurd (false≢true (sym e));
  refused = λ e. absurd (false≢true (sym e));
}

module _ (t : Topology) (old : Plan) (lid lane : ℕ) (part : List (Option ℕ)) (used mid : List Dependencies) (low : lane < length used) (depends : SameGraph (λ (c d : ℕ). DependsInTree t part c d) (λ (c d : ℕ). DependsOnOldRoute t old lid lane c d)) where
  -- a walk would be closed
  pub refused_here : IsTried t part lane used mid WouldClose → IsJoined t old lid lane used mid false
  refused_here x = record {
    channels = x.changes.channels;
    below = λ on_lane h. same on_lane;
    joined = λ e. absurd (false≢true e);
    same = λ e on_lane. same on_lane;
    refused = λ e. (
      lane,
      low,
      λ none. (x.refused refl).1 (part_acyclic
          (λ (c d : ℕ). IsListed (listed_in used lane) c d ⊎ DependsInTree t part c d) (λ (c d : ℕ). IsListed (listed_in used lane) c d ⊎ DependsOnOldRoute t old lid lane c d)
          (λ c d y. elim y [ inl l ↦ inl l | inr own ↦ inr ((depends c d).0 own) ]) none),
    );
  }
    where
      same : (on_lane : ℕ) → listed_in mid on_lane ≡ listed_in used on_lane
      same on_lane = elim (same_or_other on_lane lane) [
        | inl e ↦ subst (λ k. listed_in mid k ≡ listed_in used k) (sym e) (x.refused refl).0
        | inr other ↦ x.changes.listed on_lane other
      ]

  module _ (tried : IsTried t part lane used mid Yes) (after : List Dependencies) where
    lists : ListsTree t part (listed_in used lane) (listed_in mid lane)
    lists = tried.added refl

    joins_here : JoinsLane t old lid lane (listed_in used lane) (listed_in mid lane)
    joins_here = record {
      union = λ c d. (
        (λ y. (lists.union c d).0 (elim y [ inl l ↦ inl l | inr own ↦ inr ((depends c d).1 own) ])),
        (λ l. elim ((lists.union c d).1 l) [ inl o ↦ inl o | inr own ↦ inr ((depends c d).0 own) ]),
      );
      few = lists.few;
      closes_none = part_acyclic (λ (c d : ℕ). IsListed (listed_in used lane) c d ⊎ DependsOnOldRoute t old lid lane c d) (λ (c d : ℕ). IsListed (listed_in used lane) c d ⊎ DependsInTree t part c d)
          (λ c d y. elim y [ inl l ↦ inl l | inr own ↦ inr ((depends c d).1 own) ]) lists.closes_none;
    }

    -- all later lanes took theirs
    pub joined_all : IsJoined t old lid (lane + 1) mid after true → IsJoined t old lid lane used after true
    joined_all x = record {
      channels = x.channels ∙ tried.changes.channels;
      below = λ on_lane h. x.below on_lane (omega (arith, h)) ∙ tried.changes.listed on_lane (λ e. omega (arith, e, h));
      joined = λ e on_lane least high. joined on_lane least high (same_or_other on_lane lane);
      same = λ e. absurd (false≢true (sym e));
      refused = λ e. absurd (false≢true (sym e));
    }
      where
        joined : (on_lane : ℕ) → lane ≤ on_lane → on_lane < length used → (on_lane ≡ lane) ⊎ (on_lane ≢ lane) → JoinsLane t old lid on_lane (listed_in used on_lane) (listed_in after on_lane)
        joined on_lane least high (inl e) =
            subst (λ k. JoinsLane t old lid k (listed_in used k) (listed_in after k)) (sym e)
            (subst (λ xs. JoinsLane t old lid lane (listed_in used lane) xs) (sym (x.below lane (omega arith))) joins_here)
        joined on_lane least high (inr other) =
            subst (λ xs. JoinsLane t old lid on_lane xs (listed_in after on_lane)) (tried.changes.listed on_lane other)
            (x.joined refl on_lane (omega (arith, least, other)) (omega (arith, high, same_length used mid tried.changes.channels)))

    -- a later one refused them, and this one's are taken back
    pub taken_back_all : IsJoined t old lid (lane + 1) mid after false → (g h : Dependencies) → slice_get after lane ≡ Some g → h.channels ≡ g.channels → h.listed ≡ take (length (listed_in used lane)) g.listed →
        IsJoined t old lid lane used (slice_set after lane h) false
    taken_back_all x g h is kept cut = record {
      channels = (changed lane after g h is kept).channels ∙ x.channels ∙ tried.changes.channels;
      below = λ on_lane low'. same on_lane (same_or_other on_lane lane);
      joined = λ e. absurd (false≢true e);
      same = λ e on_lane. same on_lane (same_or_other on_lane lane);
      refused = λ e.
          let r = x.refused refl in (
            r.0,
            omega (arith, r.1, same_length used mid tried.changes.channels),
            elim (same_or_other r.0 lane) [
              | inl here ↦ (λ none. r.2 (subst (λ k. IsAcyclic (λ (c d : ℕ). IsListed (listed_in mid k) c d ⊎ DependsOnOldRoute t old lid k c d)) (sym here) still_none))
              | inr other ↦
                  (λ none. r.2 (subst (λ xs. IsAcyclic (λ (c d : ℕ). IsListed xs c d ⊎ DependsOnOldRoute t old lid r.0 c d)) (sym (tried.changes.listed r.0 other)) none))
            ],
          );
    }
      where
        -- beside its own dependencies they close no walk
        still_none : IsAcyclic (λ (c d : ℕ). IsListed (listed_in mid lane) c d ⊎ DependsOnOldRoute t old lid lane c d)
        still_none = part_acyclic (λ (c d : ℕ). IsListed (listed_in mid lane) c d ⊎ DependsOnOldRoute t old lid lane c d) (λ (c d : ℕ). IsListed (listed_in used lane) c d ⊎ DependsInTree t part c d)
            (λ c d y. elim y [ inl l ↦ (lists.union c d).1 l | inr own ↦ inr ((depends c d).1 own) ]) lists.closes_none

        same : (on_lane : ℕ) → (on_lane ≡ lane) ⊎ (on_lane ≢ lane) → listed_in (slice_set after lane h) on_lane ≡ listed_in used on_lane
        same on_lane (inl e) =
            subst (λ k. listed_in (slice_set after lane h) k ≡ listed_in used k) (sym e)
            (listed_here after lane g h is ∙ cut ∙ ap (λ xs. take (length (listed_in used lane)) xs) (sym (listed_at after lane g is) ∙ x.same refl lane) ∙ lists.behind)
        same on_lane (inr other) = (changed lane after g h is kept).listed on_lane other ∙ x.same refl on_lane ∙ tried.changes.listed on_lane other

-- ---- one LID in all lanes

pub not_kept_here : (t : Topology) (old : Plan) (lid : ℕ) (used : List Dependencies) (whole : List (Option ℕ)) → length whole ≡ length t.switches → ¬ CanJoin t (length used) old used lid → IsKeptOrNot t old lid used used whole false
not_kept_here t old lid used whole each none = record {
  channels = refl;
  each_switch = each;
  stays = λ e. absurd (false≢true e);
  tree = λ e. absurd (false≢true e);
  joined = λ e. absurd (false≢true e);
  same = λ e on_lane. refl;
  refused = λ e. none;
}

pub kept_by_lanes : (t : Topology) (old : Plan) (lid : ℕ) (used after : List Dependencies) (whole : List (Option ℕ)) (answer : Bool) → IsRouteTree t old.tables lid whole → AreAllDelivered t old.tables lid → KeepLevels t (length used) old lid →
    IsJoined t old lid 0 used after answer → IsKeptOrNot t old lid used after whole answer
kept_by_lanes t old lid used after whole answer routes delivered levels x = record {
  channels = x.channels;
  each_switch = routes.each_switch;
  stays = λ e. record { delivered = delivered; levels = levels; closes_none = λ on_lane below. (x.joined e on_lane (omega arith) below).closes_none };
  tree = λ e. routes;
  joined = λ e on_lane below. x.joined e on_lane (omega arith) below;
  same = λ e on_lane. x.same e on_lane;
  refused = λ e can. let r = x.refused e in r.2 (can.closes_none r.0 r.1);
}
