-- The part of a tree of routes on the ways of the sources of a level: it is a tree, and its dependencies are those of their routes.
use Rattle.std.proofs.Common.{◌≡◌, ℕ, zero, suc, ◌+◌, ◌<◌, ◌⊎◌, inl, inr, List, [], ◌∷◌, length, map, Option, Some, None, refl, sym, ◌∙◌, ap, subst, arith}
use Rattle.std.specs.Prelude.{Contains, slice_get, slice_set}
use Rattle.std.proofs.lemmas.Option.{none-some, same_Some}
use Rattle.std.proofs.lemmas.List.{length-replicate}
use Rattle.fab_graph.specs.Walks.{SameGraph}
use Rattle.fab_model.specs.Topology.{Topology}
use Rattle.fab_model.specs.Connected.{IsConnectedTo}
use Rattle.fab_model.specs.WellFormed.{IsWellFormed}
use Rattle.fab_tables.specs.declared.plan.Plan.{Plan}
use Rattle.fab_tables.specs.Fit.{IsSource}
use Rattle.fab_tables.specs.Route.{tip, visited, route}
use Rattle.fab_tables.specs.Trees.{next}
use Rattle.fab_tables.specs.TreeWalks.{GoesAlong, IsTree, walk_of, DependsInTree}
use Rattle.fab_tables.specs.VirtualChannels.{Follow}
use Rattle.fab_tables.proofs.Paths.FallingRoutes.{connected_below}
use Rattle.fab_tables.proofs.Paths.TreeWalks.{walk_goes, next_below}
use Rattle.fab_nue.specs.Kept.{old_level, DependsOnOldRoute}
use Rattle.fab_nue.specs.OldRoutes.{IsRouteTree, IsOnWayOf, IsPartOf}
use Rattle.fab_nue.specs.Search.{Passes, empty_tree}
use Rattle.fab_nue.proofs.Searching.Growing.{same_or_other, read_same, read_other}
use Rattle.fab_nue.proofs.Searching.Passing.{passes_here, passes_later, passes_before}
use Rattle.fab_nue.proofs.Searching.SearchTrees.{empty_next}
use Rattle.fab_nue.proofs.Laying.Members.{first, later, first_or_later}
use Rattle.fab_nue.proofs.Keeping.RouteTrees.{route_tree, route_walk}

module _ (t : Topology) (whole : List (Option ℕ)) where
  -- what follows on a walk are channels of switches on it
  follows_at : (s : ℕ) (cs : List ℕ) (k c d : ℕ) → GoesAlong t whole s cs → slice_get cs k ≡ Some c → slice_get cs (suc k) ≡ Some d →
      (x : ℕ) × Contains (visited t s cs) x × (next whole x ≡ Some c) × Contains (visited t s cs) (tip t c) × (next whole (tip t c) ≡ Some d)
  follows_at s [] k c d goes at after = absurd (none-some c at)
  follows_at s (b ∷ []) zero c d goes at after = absurd (none-some d after)
  follows_at s (b ∷ b' ∷ cs) zero c d goes at after =
      let same : b ≡ c = same_Some b c at in (
        s,
        first s s (map (tip t) (b ∷ b' ∷ cs)) refl,
        goes.0 ∙ at,
        later s (tip t c) (map (tip t) (b ∷ b' ∷ cs)) (first (tip t b) (tip t c) (map (tip t) (b' ∷ cs)) (ap (tip t) same)),
        subst (λ z. next whole (tip t z) ≡ Some d) same (goes.1.0 ∙ after),
      )
  follows_at s (b ∷ cs) (suc k) c d goes at after =
      let rest = follows_at (tip t b) cs k c d goes.1 at after in
      (rest.0, later s rest.0 (map (tip t) (b ∷ cs)) rest.1, rest.2, later s (tip t c) (map (tip t) (b ∷ cs)) rest.3, rest.4)

  -- and what a switch on it and the next one have follows there
  at_follows : (s : ℕ) (cs : List ℕ) (x c d : ℕ) → GoesAlong t whole s cs → Contains (visited t s cs) x → next whole x ≡ Some c → next whole (tip t c) ≡ Some d → Follow cs c d
  at_follows s [] x c d goes has own after = elim (first_or_later s x [] has) [
    | inl e ↦ absurd (none-some c (sym goes ∙ ap (λ k. next whole k) e ∙ own))
    | inr none ↦ absurd (omega (arith, none.1))
  ]
  at_follows s (b ∷ cs) x c d goes has own after = elim (first_or_later s x (map (tip t) (b ∷ cs)) has) [
    | inl e ↦
        (let same : b ≡ c = same_Some b c (sym goes.0 ∙ ap (λ k. next whole k) e ∙ own) in
        (0, ap Some same, second cs (subst (λ z. GoesAlong t whole (tip t z) cs) same goes.1)))
    | inr rest ↦ (let f : Follow cs c d = at_follows (tip t b) cs x c d goes.1 rest own after in (suc f.0, f.1, f.2))
  ]
    where
      second : (ds : List ℕ) → GoesAlong t whole (tip t c) ds → slice_get ds 0 ≡ Some d
      second [] g = absurd (none-some d (sym g ∙ after))
      second (e ∷ ds) g = sym g.0 ∙ after

module _ (t : Topology) (Some_of : ℕ → Type 0) (whole part : List (Option ℕ)) (is : IsTree t whole) (of : IsPartOf Some_of whole part) where
  in_whole : (x c : ℕ) → next part x ≡ Some c → next whole x ≡ Some c
  in_whole x c own = (of.only x c own).1

  part_goes : (x : ℕ) (cs : List ℕ) → GoesAlong t whole x cs → (ds : List ℕ) × GoesAlong t part x ds
  part_goes x [] goes = go (next part x) refl
    where
      go : (o : Option ℕ) → next part x ≡ o → (ds : List ℕ) × GoesAlong t part x ds
      go None own = ([], own)
      go (Some c) own = absurd (none-some c (sym goes ∙ in_whole x c own))
  part_goes x (d ∷ cs) goes = go (part_goes (tip t d) cs goes.1) (next part x) refl
    where
      go : (ds : List ℕ) × GoesAlong t part (tip t d) ds → (o : Option ℕ) → next part x ≡ o → (ds : List ℕ) × GoesAlong t part x ds
      go rest None own = ([], own)
      go rest (Some c) own =
          let same : d ≡ c = same_Some d c (sym goes.0 ∙ in_whole x c own) in
          (d ∷ rest.0, (own ∙ ap Some (sym same), rest.1))

  pub part_tree : IsTree t part
  part_tree = record {
    each_switch = of.each_switch ∙ is.each_switch;
    leaves = λ s c own. is.leaves s c (in_whole s c own);
    ends = λ s. part_goes s (is.ends s).0 (is.ends s).1;
  }

module _ (t : Topology) (old : Plan) (lid level : ℕ) (whole part : List (Option ℕ)) (good : IsWellFormed t) (routes : IsRouteTree t old.tables lid whole)
    (of : IsPartOf (IsOnWayOf t old lid whole level (length t.switches)) whole part) where
  whole_tree : IsTree t whole
  whole_tree = route_tree t old.tables lid whole good routes

  -- a source of the level whose way has a channel is connected to the LID
  connected_at : (s x c : ℕ) → s < length t.switches → Contains (visited t s (walk_of t whole s)) x → next whole x ≡ Some c → IsConnectedTo t s lid
  connected_at s x c low has own = elim (routes.each s low) [
    | inl r ↦ r.0
    | inr apart ↦ absurd (alone apart.1 (walk_of t whole s) (walk_goes t whole s whole_tree) has)
  ]
    where
      alone : next whole s ≡ None → (cs : List ℕ) → GoesAlong t whole s cs → Contains (visited t s cs) x → ⊥
      alone none [] goes h = elim (first_or_later s x [] h) [
        | inl e ↦ none-some c (sym none ∙ ap (λ k. next whole k) e ∙ own)
        | inr rest ↦ omega (arith, rest.1)
      ]
      alone none (d ∷ cs) goes h = none-some d (sym none ∙ goes.0)

  on_way : (s x : ℕ) → s < length t.switches → IsSource t s → old_level old.lanes s lid ≡ Some level → Contains (visited t s (walk_of t whole s)) x → IsOnWayOf t old lid whole level (length t.switches) x
  on_way s x low source at has = (s, low, source, at, has)

  pub part_depends : SameGraph (λ (c d : ℕ). DependsInTree t part c d) (λ (c d : ℕ). DependsOnOldRoute t old lid level c d)
  part_depends c d = (to, from)
    where
      to : DependsInTree t part c d → DependsOnOldRoute t old lid level c d
      to x =
          let way : IsOnWayOf t old lid whole level (length t.switches) x.0 = (of.only x.0 c x.1).0 in
          let own : next whole x.0 ≡ Some c = in_whole t (IsOnWayOf t old lid whole level (length t.switches)) whole part whole_tree of x.0 c x.1 in
          let after : next whole (tip t c) ≡ Some d = in_whole t (IsOnWayOf t old lid whole level (length t.switches)) whole part whole_tree of (tip t c) d x.2 in
          let connected : IsConnectedTo t way.0 lid = connected_at way.0 x.0 c way.1 way.4 own in (
            way.0,
            way.2,
            connected,
            way.3,
            subst (λ cs. Follow cs c d) (route_walk t old.tables lid whole good routes way.0 connected) (at_follows t whole way.0 (walk_of t whole way.0) x.0 c d (walk_goes t whole way.0 whole_tree) way.4 own after),
          )

      from : DependsOnOldRoute t old lid level c d → DependsInTree t part c d
      from x =
          let low : x.0 < length t.switches = connected_below t good x.0 lid x.2 in
          let f : Follow (walk_of t whole x.0) c d = subst (λ cs. Follow cs c d) (sym (route_walk t old.tables lid whole good routes x.0 x.2)) x.4 in
          let at : (y : ℕ) × Contains (visited t x.0 (walk_of t whole x.0)) y × (next whole y ≡ Some c) × Contains (visited t x.0 (walk_of t whole x.0)) (tip t c) × (next whole (tip t c) ≡ Some d)
          = follows_at t whole x.0 (walk_of t whole x.0) f.0 c d (walk_goes t whole x.0 whole_tree) f.1 f.2 in
          (at.0, of.has at.0 c (on_way x.0 at.0 low x.1 x.3 at.1) at.2, of.has (tip t c) d (on_way x.0 (tip t c) low x.1 x.3 at.3) at.4)

-- ---- a part is written way by way

pub part_begins : (t : Topology) (old : Plan) (lid level : ℕ) (whole : List (Option ℕ)) → length whole ≡ length t.switches → IsPartOf (IsOnWayOf t old lid whole level 0) whole (empty_tree t)
part_begins t old lid level whole each = record {
  each_switch = length-replicate (length t.switches) None ∙ sym each;
  has = λ x c way own. absurd (omega (arith, way.1));
  only = λ x c own. absurd (none-some c (sym (empty_next t x) ∙ own));
}

module _ (t : Topology) (old : Plan) (lid level s : ℕ) (whole part : List (Option ℕ)) (so_far : IsPartOf (IsOnWayOf t old lid whole level s) whole part) where
  wider : (x : ℕ) → IsOnWayOf t old lid whole level s x → IsOnWayOf t old lid whole level (s + 1) x
  wider x way = (way.0, omega (arith, way.1), way.2, way.3, way.4)

  -- a switch that is no source of the level changes nothing
  pub part_stays : ¬ (IsSource t s × (old_level old.lanes s lid ≡ Some level)) → IsPartOf (IsOnWayOf t old lid whole level (s + 1)) whole part
  part_stays none = record {
    each_switch = so_far.each_switch;
    has = λ x c way own. so_far.has x c (narrower x way) own;
    only = λ x c own. (wider x (so_far.only x c own).0, (so_far.only x c own).1);
  }
    where
      narrower : (x : ℕ) → IsOnWayOf t old lid whole level (s + 1) x → IsOnWayOf t old lid whole level s x
      narrower x way = elim (same_or_other way.0 s) [
        | inl e ↦ absurd (none (subst (λ k. IsSource t k × (old_level old.lanes k lid ≡ Some level)) e (way.2, way.3)))
        | inr other ↦ (way.0, omega (arith, way.1, other), way.2, way.3, way.4)
      ]

  pub part_more : (new : List (Option ℕ)) → IsSource t s → old_level old.lanes s lid ≡ Some level → length new ≡ length part →
      ((x c : ℕ) → Passes t whole s x → next whole x ≡ Some c → next new x ≡ Some c) → ((x c : ℕ) → next part x ≡ Some c → next whole x ≡ Some c → next new x ≡ Some c) →
      ((x c : ℕ) → next new x ≡ Some c → (next part x ≡ Some c) ⊎ (Passes t whole s x × (next whole x ≡ Some c))) → IsPartOf (IsOnWayOf t old lid whole level (s + 1)) whole new
  part_more new source at each taken kept only = record {
    each_switch = each ∙ so_far.each_switch;
    has = λ x c way own. elim (same_or_other way.0 s) [
      | inl e ↦ taken x c (subst (λ k. Passes t whole k x) e way.4) own
      | inr other ↦ kept x c (so_far.has x c (way.0, omega (arith, way.1, other), way.2, way.3, way.4) own) own
    ];
    only = λ x c own. elim (only x c own) [
      | inl was ↦ (wider x (so_far.only x c was).0, (so_far.only x c was).1)
      | inr new_one ↦ ((s, omega arith, source, at, new_one.0), new_one.1)
    ];
  }

-- ---- a way is copied switch by switch

pub record WayCopied (t : Topology) (whole : List (Option ℕ)) (from at : ℕ) (old now : List (Option ℕ)) : Type 0 where
  pub on : (x : ℕ) → Passes t whole at x → Passes t whole from x
  pub taken : (x c : ℕ) → Passes t whole from x → next whole x ≡ Some c → Passes t whole at x ⊎ (next now x ≡ Some c)
  pub kept : (x c : ℕ) → next old x ≡ Some c → next whole x ≡ Some c → next now x ≡ Some c
  pub only : (x c : ℕ) → next now x ≡ Some c → (next old x ≡ Some c) ⊎ (Passes t whole from x × (next whole x ≡ Some c))

pub way_copied : (t : Topology) (whole : List (Option ℕ)) (from at d to : ℕ) (old now : List (Option ℕ)) → IsTree t whole → next whole at ≡ Some d → tip t d ≡ to → at < length now → WayCopied t whole from at old now →
    WayCopied t whole from to old (slice_set now at (Some d))
way_copied t whole from at d to old now is own read low x = record { on = on; taken = taken; kept = kept; only = only }
  where
    on : (y : ℕ) → Passes t whole to y → Passes t whole from y
    on y has = x.on y (passes_later t whole is at y d own (subst (λ s. Passes t whole s y) (sym read) has))

    set_at : next (slice_set now at (Some d)) at ≡ Some d
    set_at = read_same now at (Some d) low

    taken : (y c : ℕ) → Passes t whole from y → next whole y ≡ Some c → Passes t whole to y ⊎ (next (slice_set now at (Some d)) y ≡ Some c)
    taken y c has its = elim (same_or_other y at) [
      | inl e ↦ inr (ap (λ k. next (slice_set now at (Some d)) k) e ∙ set_at ∙ sym own ∙ ap (λ k. next whole k) (sym e) ∙ its)
      | inr other ↦ (elim (x.taken y c has its) [
        | inl rest ↦ inl (subst (λ s. Passes t whole s y) read (passes_before t whole is at y d own (λ e. other (sym e)) rest))
        | inr there ↦ inr (read_other now at y (Some d) other ∙ there)
      ])
    ]

    kept : (y c : ℕ) → next old y ≡ Some c → next whole y ≡ Some c → next (slice_set now at (Some d)) y ≡ Some c
    kept y c was its = elim (same_or_other y at) [
      | inl e ↦ ap (λ k. next (slice_set now at (Some d)) k) e ∙ set_at ∙ sym own ∙ ap (λ k. next whole k) (sym e) ∙ its
      | inr other ↦ read_other now at y (Some d) other ∙ x.kept y c was its
    ]

    only : (y c : ℕ) → next (slice_set now at (Some d)) y ≡ Some c → (next old y ≡ Some c) ⊎ (Passes t whole from y × (next whole y ≡ Some c))
    only y c its = elim (same_or_other y at) [
      | inl e ↦ inr (x.on y (passes_here t whole at y (sym e)), ap (λ k. next whole k) e ∙ own ∙ sym set_at ∙ ap (λ k. next (slice_set now at (Some d)) k) (sym e) ∙ its)
      | inr other ↦ x.only y c (sym (read_other now at y (Some d) other) ∙ its)
    ]
