-- The paths over an edge are found layer after layer: those on which it stands behind one channel more begin toward those of the layer before.
use Rattle.std.proofs.Common.{◌≡◌, ℕ, zero, suc, ◌+◌, ◌-◌, ◌<◌, ◌≤◌, ◌⊎◌, ◌++◌, inl, inr, Bool, true, false, List, [], ◌∷◌, length, refl, sym, ◌∙◌, ap, subst, arith, Some, Option, option_map, Contains}
use Rattle.std.specs.Prelude.{slice_get, slice_index_or, ◌==◌, IfSome, if◌then◌else◌}
use Rattle.std.proofs.lemmas.Bool.{cases_lt, cases_Bool, eq-eqb, eqb-true, both_ways}
use Rattle.std.proofs.lemmas.List.Elements.{Contains-append_left, Contains-append_right, Contains-append_cases, All-contains}
use Rattle.std.proofs.lemmas.Option.{same_Some, none-some, slice_get-get_or}
use Rattle.fab_model.specs.declared.rows.SwitchId.{SwitchId}
use Rattle.fab_model.specs.declared.rows.ChannelRow.{ChannelRow}
use Rattle.fab_model.specs.Topology.{Topology, IsReverse, lids_of, first_channel, reversed}
use Rattle.fab_model.specs.WellFormed.{IsWellFormed}
use Rattle.fab_model.proofs.Channels.{contains_read, channel_once}
use Rattle.fab_tables.specs.declared.end.End.TheVariants.{Delivered}
use Rattle.fab_tables.specs.Entries.{Entries, entry}
use Rattle.fab_tables.specs.Route.{tip, tip_of_row, route}
use Rattle.fab_tables.specs.Trees.{LeavesSwitch}
use Rattle.fab_tables.specs.VirtualChannels.{Follow}
use Rattle.fab_tables.proofs.Joined.ConnectedDecided.{connected_to_decided}
use Rattle.fab_tables.proofs.Joined.Leaving.{leaves_from, stands_between}
use Rattle.fab_tables.proofs.Joined.Tips.{tip_below}
use Rattle.fab_tables.proofs.Joined.Walks.{reverse_there}
use Rattle.fab_tables.proofs.Paths.FallingRoutes.{channel_found}
use Rattle.fab_tables.proofs.Paths.Routes as routes
use Rattle.fab_tables.proofs.Paths.RoutesBehind.{behind_tip, slice_dropped}
use Rattle.fab_tables.proofs.Paths.RouteTurns.{along_channel, first_hop}
use Rattle.fab_tables.proofs.Verdicts.CertifiedLaws.{contains_of, get_of}
use Rattle.fab_sssp.specs.LeastWeightTables.{AreLeastWeightTables}
use Rattle.fab_sssp.proofs.Tables.RoutesLeast.{least_weight_reaches}
use Rattle.fab_dfsssp.specs.declared.paths_over.Path.{Path}
use Rattle.fab_dfsssp.specs.Assignments.{contains_edge}
use Rattle.fab_dfsssp.specs.PathsOver.{IsPathOf, HasPath, ArePathsOver, StandsAt, AreLayer, BeginsToward, AddsBehind}
use Rattle.fab_dfsssp.proofs.PathCounts.{no_channels_apart}
use Rattle.fab_dfsssp.proofs.FirstChannels.{told_by_row, begins_by_port}
use Rattle.fab_dfsssp.proofs.RingEdges.{contains-follow, follow-contains}
use Rattle.fab_dfsssp.proofs.RoutesOnce.{StandsOnce, delivered_once}

-- ---- what has been found so far

-- the paths on which the edge stands before a place
pub record ArePathsBefore (t : Topology) (e : Entries) (edge : ℕ × ℕ) (k : ℕ) (paths : List Path) : Type 0 where
  pub sound : (p : Path) → Contains paths p → IsPathOf t p × (contains_edge edge (route t e p.from.0 p.lid.0).channels ≡ true)
  pub complete : (j s lid : ℕ) → j < k → Contains (lids_of t) lid → StandsAt t e edge j s lid → HasPath paths s lid

-- of those that begin with the edge, at its tail, the paths to the first LIDs
pub record AreFirstPaths (t : Topology) (e : Entries) (edge : ℕ × ℕ) (tail n : ℕ) (paths : List Path) : Type 0 where
  pub sound : (p : Path) → Contains paths p → IsPathOf t p × StandsAt t e edge 0 p.from.0 p.lid.0
  pub complete : (j lid : ℕ) → j < n → slice_get (lids_of t) j ≡ Some lid → StandsAt t e edge 0 tail lid → HasPath paths tail lid

-- the paths behind the first ones of a layer
pub record ArePathsBehind (t : Topology) (e : Entries) (layer : List Path) (n : ℕ) (behind : List Path) : Type 0 where
  pub sound : (p : Path) → Contains behind p → (j : ℕ) × (q : Path) × (slice_get layer j ≡ Some q) × (p.from.0 < length t.switches) × (p.lid.0 ≡ q.lid.0) × BeginsToward t e p.from.0 p.lid.0 q.from.0
  pub complete : (j : ℕ) (q : Path) → j < n → slice_get layer j ≡ Some q → (s : ℕ) → BeginsToward t e s q.lid.0 q.from.0 → HasPath behind s q.lid.0

-- those behind one path, by the reverses of the channels up to a number that leave its switch
pub record AddsBehindUpTo (t : Topology) (e : Entries) (path : Path) (old : List Path) (n : ℕ) (new : List Path) : Type 0 where
  pub still : (p : Path) → Contains old p → Contains new p
  pub only : (p : Path) → Contains new p → Contains old p ⊎ ((p.from.0 < length t.switches) × (p.lid.0 ≡ path.lid.0) × BeginsToward t e p.from.0 p.lid.0 path.from.0)
  pub there : (s c l : ℕ) → slice_get (route t e s path.lid.0).channels 0 ≡ Some c → IsReverse t l c → first_channel t path.from.0 ≤ l → l < n → HasPath new s path.lid.0

-- ---- where an element stands first

abbrev pub place_of_first : ℕ → List ℕ → ℕ
place_of_first c [] = 0
place_of_first c (x ∷ xs) = if x == c then 0 else suc (place_of_first c xs)

once_later : (x : ℕ) (xs : List ℕ) → StandsOnce (x ∷ xs) → StandsOnce xs
once_later x xs once i j c a b = omega (arith, once (suc i) (suc j) c a b)

stands_there : (c : ℕ) (xs : List ℕ) (k : ℕ) → StandsOnce xs → slice_get xs k ≡ Some c → place_of_first c xs ≡ k
stands_there c [] k once at = absurd (none-some c at)
stands_there c (x ∷ xs) k once at = go (cases_Bool (x == c)) k at (λ j there. stands_there c xs j (once_later x xs once) there)
  where
    go : ((x == c) ≡ true) ⊎ ((x == c) ≡ false) → (k : ℕ) → slice_get (x ∷ xs) k ≡ Some c → ((j : ℕ) → slice_get xs j ≡ Some c → place_of_first c xs ≡ j) → place_of_first c (x ∷ xs) ≡ k
    go (inl is) k at later = ap (λ (b : Bool). if b then 0 else suc (place_of_first c xs)) is ∙ once 0 k c (ap (λ y. Some y) (eqb-true x c is)) at
    go (inr not) zero at later = absurd (both_ways (x == c) not (eq-eqb x c (same_Some x c at)))
    go (inr not) (suc j) at later = ap (λ (b : Bool). if b then 0 else suc (place_of_first c xs)) not ∙ ap (λ n. suc n) (later j at)

-- how many layers can come, from where the edge stands on the route of the first path
abbrev pub layers_left : Topology → Entries → ℕ × ℕ → List Path → ℕ
layers_left t e edge [] = 0
layers_left t e edge (p ∷ ps) = length t.switches - place_of_first edge.0 (route t e p.from.0 p.lid.0).channels

-- ---- routes, and those from the tips of their first channels

first_there : (xs : List ℕ) (k c : ℕ) → slice_get xs k ≡ Some c → (r : ℕ) × (slice_get xs 0 ≡ Some r)
first_there [] k c at = absurd (none-some c at)
first_there (x ∷ xs) k c at = (x, refl)

-- the first channel leaves the switch
first_leaves : (t : Topology) (e : Entries) (s lid c : ℕ) → slice_get (route t e s lid).channels 0 ≡ Some c → LeavesSwitch t c s
first_leaves t e s lid c at =
    let found : (row : ChannelRow) × (c < length t.channels) × (slice_get t.channels c ≡ Some row) × (row.tail.0 ≡ s) × (row.port ≡ entry e s lid) =
    channel_found t s (entry e s lid) c (along_channel t lid s (entry e s lid) c (first_hop t e lid (length t.switches) s c at)) in
    (found.0, found.2, found.3)

module _ (t : Topology) (e : Entries) (good : IsWellFormed t) (tables : AreLeastWeightTables t e) where
  -- a route with a channel is delivered
  delivered : (s lid k c : ℕ) → slice_get (route t e s lid).channels k ≡ Some c → (route t e s lid).end ≡ Delivered
  delivered s lid k c at = elim (connected_to_decided t s lid) [
    | inl joined ↦ least_weight_reaches t e good tables s lid joined
    | inr apart ↦ absurd (none-some c (sym (ap (λ (cs : List ℕ). slice_get cs k) (no_channels_apart t e tables.fixed s lid apart)) ∙ at))
  ]

  -- behind its first channel it is that from the channel's tip
  one_less : (s lid r k : ℕ) → slice_get (route t e s lid).channels 0 ≡ Some r → slice_get (route t e (tip t r) lid).channels k ≡ slice_get (route t e s lid).channels (suc k)
  one_less s lid r k at =
      let next : 1 + k ≡ suc k = omega arith in
      ap (λ (cs : List ℕ). slice_get cs k) (behind_tip t e lid s 0 r (delivered s lid 0 r at) at) ∙ slice_dropped (route t e s lid).channels 1 k ∙ ap (λ n. slice_get (route t e s lid).channels n) next

  -- so there the edge stands one place before
  module _ (edge : ℕ × ℕ) where
    stands_further : (s lid k r : ℕ) → slice_get (route t e s lid).channels 0 ≡ Some r → StandsAt t e edge k (tip t r) lid → StandsAt t e edge (suc k) s lid
    stands_further s lid k r at stands = (sym (one_less s lid r k at) ∙ stands.0, sym (one_less s lid r (suc k) at) ∙ stands.1)

    stands_nearer : (s lid k : ℕ) → StandsAt t e edge (suc k) s lid → (r : ℕ) × (slice_get (route t e s lid).channels 0 ≡ Some r) × StandsAt t e edge k (tip t r) lid
    stands_nearer s lid k stands =
        let first : (r : ℕ) × (slice_get (route t e s lid).channels 0 ≡ Some r) = first_there (route t e s lid).channels (suc k) edge.0 stands.0 in
        (first.0, first.1, (one_less s lid first.0 k first.1 ∙ stands.0, one_less s lid first.0 (suc k) first.1 ∙ stands.1))

    -- where no path has it at a place, none has it farther on
    none_farther : (lid k : ℕ) → ((s : ℕ) → StandsAt t e edge k s lid → ⊥) → (n s : ℕ) → StandsAt t e edge (n + k) s lid → ⊥
    none_farther lid k none zero s stands = let same : 0 + k ≡ k = omega arith in none s (subst (λ j. StandsAt t e edge j s lid) same stands)
    none_farther lid k none (suc n) s stands =
        let next : suc n + k ≡ suc (n + k) = omega arith in
        let before : (r : ℕ) × (slice_get (route t e s lid).channels 0 ≡ Some r) × StandsAt t e edge (n + k) (tip t r) lid = stands_nearer s lid (n + k) (subst (λ j. StandsAt t e edge j s lid) next stands) in
        none_farther lid k none n (tip t before.0) before.2

    -- no route has so many channels as there are switches before it
    place_small : (s lid k : ℕ) → StandsAt t e edge k s lid → k < length t.switches
    place_small s lid k stands = (routes.goes_on t e lid k (length t.switches) s edge.0 stands.0).0

    place_told : (s lid k : ℕ) → StandsAt t e edge k s lid → place_of_first edge.0 (route t e s lid).channels ≡ k
    place_told s lid k stands = stands_there edge.0 (route t e s lid).channels k (delivered_once t e s lid (delivered s lid k edge.0 stands.0)) stands.0

    -- ---- layers

    left_told : (k : ℕ) (p : Path) (ps : List Path) → AreLayer t e edge k (p ∷ ps) → (layers_left t e edge (p ∷ ps) ≡ length t.switches - k) × (k < length t.switches)
    left_told k p ps layer =
        let here : IsPathOf t p × StandsAt t e edge k p.from.0 p.lid.0 = layer.sound p (0, omega arith, refl) in
        (ap (λ n. length t.switches - n) (place_told p.from.0 p.lid.0 k here.1), place_small p.from.0 p.lid.0 k here.1)

    pub fewer_left : (k : ℕ) (old new : List Path) → 0 < length old → AreLayer t e edge k old → AreLayer t e edge (suc k) new → layers_left t e edge new < layers_left t e edge old
    fewer_left k [] new some a b = absurd (omega (arith, some))
    fewer_left k (p ∷ ps) [] some a b = omega (arith, (left_told k p ps a).0, (left_told k p ps a).1)
    fewer_left k (p ∷ ps) (q ∷ qs) some a b = omega (arith, (left_told k p ps a).0, (left_told k p ps a).1, (left_told (suc k) q qs b).0, (left_told (suc k) q qs b).1)

    pub none_before : ArePathsBefore t e edge 0 []
    none_before = record { sound = λ p h. absurd (omega (arith, h.1)); complete = λ j s lid low in_use stands. absurd (omega (arith, low)) }

    pub layer_joins : (k : ℕ) (paths layer : List Path) → ArePathsBefore t e edge k paths → AreLayer t e edge k layer → ArePathsBefore t e edge (suc k) (paths ++ layer)
    layer_joins k paths layer before here = record { sound = sound; complete = complete }
      where
        sound : (p : Path) → Contains (paths ++ layer) p → IsPathOf t p × (contains_edge edge (route t e p.from.0 p.lid.0).channels ≡ true)
        sound p h = elim (Contains-append_cases paths layer p h) [
          | inl old ↦ before.sound p old
          | inr new ↦ ((here.sound p new).0, follow-contains edge (route t e p.from.0 p.lid.0).channels (k, (here.sound p new).1.0, (here.sound p new).1.1))
        ]

        complete : (j s lid : ℕ) → j < suc k → Contains (lids_of t) lid → StandsAt t e edge j s lid → HasPath (paths ++ layer) s lid
        complete j s lid low in_use stands = elim (cases_lt j k) [
          | inl less ↦ (let old : HasPath paths s lid = before.complete j s lid less in_use stands in (old.0, Contains-append_left paths layer old.0 old.1, old.2, old.3))
          | inr past ↦
              (let same : j ≡ k = omega (arith, low, past) in
              let new : HasPath layer s lid = here.complete s lid in_use (subst (λ n. StandsAt t e edge n s lid) same stands) in
              (new.0, Contains-append_right paths layer new.0 new.1, new.2, new.3))
        ]

    -- an empty layer is the last
    pub layers_end : (k : ℕ) (paths layer : List Path) → length layer ≡ 0 → ArePathsBefore t e edge k paths → AreLayer t e edge k layer → ArePathsOver t e edge paths
    layers_end k paths layer none before here = record { sound = before.sound; complete = complete }
      where
        complete : (s lid : ℕ) → Contains (lids_of t) lid → contains_edge edge (route t e s lid).channels ≡ true → HasPath paths s lid
        complete s lid in_use over =
            let at : Follow (route t e s lid).channels edge.0 edge.1 = contains-follow edge (route t e s lid).channels over in
            elim (cases_lt at.0 k) [
              | inl less ↦ before.complete at.0 s lid less in_use (at.1, at.2)
              | inr past ↦
                  (let far : at.0 ≡ (at.0 - k) + k = omega (arith, past) in
                  absurd (none_farther lid k (λ x stands. let p : HasPath layer x lid = here.complete x lid in_use stands in omega (arith, p.1.1, none)) (at.0 - k) s
                  (subst (λ n. StandsAt t e edge n s lid) far (at.1, at.2))))
            ]

  -- ---- the next layer, path after path

  pub behind_begins : (layer : List Path) → ArePathsBehind t e layer 0 []
  behind_begins layer = record { sound = λ p h. absurd (omega (arith, h.1)); complete = λ j q low at s begins. absurd (omega (arith, low)) }

  pub behind_adds : (layer : List Path) (n : ℕ) (path : Path) (old new : List Path) → slice_get layer n ≡ Some path → ArePathsBehind t e layer n old → AddsBehind t e path old new → ArePathsBehind t e layer (n + 1) new
  behind_adds layer n path old new at so_far adds = record { sound = sound; complete = complete }
    where
      sound : (p : Path) → Contains new p → (j : ℕ) × (q : Path) × (slice_get layer j ≡ Some q) × (p.from.0 < length t.switches) × (p.lid.0 ≡ q.lid.0) × BeginsToward t e p.from.0 p.lid.0 q.from.0
      sound p h = elim (adds.only p h) [ inl before ↦ so_far.sound p before | inr added ↦ (n, path, at, added.0, added.1, added.2) ]

      complete : (j : ℕ) (q : Path) → j < n + 1 → slice_get layer j ≡ Some q → (s : ℕ) → BeginsToward t e s q.lid.0 q.from.0 → HasPath new s q.lid.0
      complete j q low is s begins = elim (cases_lt j n) [
        | inl less ↦ (let had : HasPath old s q.lid.0 = so_far.complete j q less is s begins in (had.0, adds.still had.0 had.1, had.2, had.3))
        | inr past ↦
            (let here : n ≡ j = omega (arith, low, past) in
            let same : path ≡ q = same_Some path q (sym at ∙ ap (λ k. slice_get layer k) here ∙ is) in
            subst (λ (x : Path). BeginsToward t e s x.lid.0 x.from.0 → HasPath new s x.lid.0) same (adds.there s) begins)
      ]

  pub behind_ends : (layer : List Path) (n : ℕ) (behind : List Path) → length layer ≤ n → ArePathsBehind t e layer n behind → (edge : ℕ × ℕ) (k : ℕ) → AreLayer t e edge k layer → AreLayer t e edge (suc k) behind
  behind_ends layer n behind all so_far edge k here = record { sound = sound; complete = complete }
    where
      sound : (p : Path) → Contains behind p → IsPathOf t p × StandsAt t e edge (suc k) p.from.0 p.lid.0
      sound p h =
          let from : (j : ℕ) × (q : Path) × (slice_get layer j ≡ Some q) × (p.from.0 < length t.switches) × (p.lid.0 ≡ q.lid.0) × BeginsToward t e p.from.0 p.lid.0 q.from.0 = so_far.sound p h in
          let q : Path = from.1 in
          let stands : IsPathOf t q × StandsAt t e edge k q.from.0 q.lid.0 = here.sound q (contains_of layer from.0 q from.2) in
          let begins : BeginsToward t e p.from.0 p.lid.0 q.from.0 = from.5 in (
            (from.3, subst (λ m. Contains (lids_of t) m) (sym from.4) stands.0.1),
            stands_further edge p.from.0 p.lid.0 k begins.0 begins.1 (subst (λ x. StandsAt t e edge k x p.lid.0) (sym begins.2) (subst (λ m. StandsAt t e edge k q.from.0 m) (sym from.4) stands.1)),
          )

      complete : (s lid : ℕ) → Contains (lids_of t) lid → StandsAt t e edge (suc k) s lid → HasPath behind s lid
      complete s lid in_use stands =
          let next : (r : ℕ) × (slice_get (route t e s lid).channels 0 ≡ Some r) × StandsAt t e edge k (tip t r) lid = stands_nearer edge s lid k stands in
          let q : HasPath layer (tip t next.0) lid = here.complete (tip t next.0) lid in_use next.2 in
          let begins : BeginsToward t e s lid q.0.from.0 = (next.0, next.1, sym q.2) in
          let found : HasPath behind s q.0.lid.0 =
          so_far.complete q.1.0 q.0 (omega (arith, q.1.1, all)) (get_of layer q.1.0 q.0 q.1.1 q.1.2) s (subst (λ m. BeginsToward t e s m q.0.from.0) (sym q.3) begins) in
          (found.0, found.1, found.2, found.3 ∙ q.3)

-- ---- the first layer, LID after LID

pub tail_low : (t : Topology) → IsWellFormed t → (c : ℕ) (row : ChannelRow) → slice_get t.channels c ≡ Some row → row.tail.0 < length t.switches
tail_low t good c row is = All-contains (λ (r : ChannelRow). r.tail.0 < length t.switches) t.channels row good.channel_tails (contains_read t.channels c row is)

module _ (t : Topology) (e : Entries) (edge : ℕ × ℕ) (row : ChannelRow) (is : slice_get t.channels edge.0 ≡ Some row) where
  pub first_paths_begin : AreFirstPaths t e edge row.tail.0 0 []
  first_paths_begin = record { sound = λ p h. absurd (omega (arith, h.1)); complete = λ j lid low at stands. absurd (omega (arith, low)) }

  module _ (n : ℕ) (path : Path) (old : List Path) (at : slice_get (lids_of t) n ≡ Some path.lid.0) (from : path.from.0 ≡ row.tail.0) (so_far : AreFirstPaths t e edge row.tail.0 n old) where
    more : (new : List Path) → ((p : Path) → Contains old p → Contains new p) → (StandsAt t e edge 0 path.from.0 path.lid.0 → Contains new path) →
        (j lid : ℕ) → j < n + 1 → slice_get (lids_of t) j ≡ Some lid → StandsAt t e edge 0 row.tail.0 lid → HasPath new row.tail.0 lid
    more new still there j lid low is stands = elim (cases_lt j n) [
      | inl less ↦ (let had : HasPath old row.tail.0 lid = so_far.complete j lid less is stands in (had.0, still had.0 had.1, had.2, had.3))
      | inr past ↦
          (let here : n ≡ j = omega (arith, low, past) in
          let same : path.lid.0 ≡ lid = same_Some path.lid.0 lid (sym at ∙ ap (λ k. slice_get (lids_of t) k) here ∙ is) in
          (path, there (subst (λ x. StandsAt t e edge 0 x path.lid.0) (sym from) (subst (λ m. StandsAt t e edge 0 row.tail.0 m) (sym same) stands)), from, same))
    ]

    pub first_path_skips : ¬ StandsAt t e edge 0 path.from.0 path.lid.0 → AreFirstPaths t e edge row.tail.0 (n + 1) old
    first_path_skips off = record { sound = so_far.sound; complete = more old (λ p h. h) (λ stands. absurd (off stands)) }

    pub first_path_adds : path.from.0 < length t.switches → StandsAt t e edge 0 path.from.0 path.lid.0 → AreFirstPaths t e edge row.tail.0 (n + 1) (old ++ path ∷ [])
    first_path_adds low stands = record {
      sound = sound;
      complete = more (old ++ path ∷ []) (λ p h. Contains-append_left old (path ∷ []) p h) (λ s. Contains-append_right old (path ∷ []) path (0, omega arith, refl));
    }
      where
        sound : (p : Path) → Contains (old ++ path ∷ []) p → IsPathOf t p × StandsAt t e edge 0 p.from.0 p.lid.0
        sound p h = elim (Contains-append_cases old (path ∷ []) p h) [
          | inl before ↦ so_far.sound p before
          | inr last ↦ only last.0 last.1 last.2
        ]
          where
            only : (k : ℕ) → k < 1 → slice_index_or (path ∷ []) k p ≡ p → IsPathOf t p × StandsAt t e edge 0 p.from.0 p.lid.0
            only zero less same = subst (λ (x : Path). IsPathOf t x × StandsAt t e edge 0 x.from.0 x.lid.0) same ((low, contains_of (lids_of t) n path.lid.0 at), stands)
            only (suc k) less same = absurd (omega (arith, less))

  -- a path that begins with the edge begins at its tail
  pub first_paths_end : (n : ℕ) (paths : List Path) → length (lids_of t) ≤ n → AreFirstPaths t e edge row.tail.0 n paths → AreLayer t e edge 0 paths
  first_paths_end n paths all so_far = record { sound = so_far.sound; complete = complete }
    where
      complete : (s lid : ℕ) → Contains (lids_of t) lid → StandsAt t e edge 0 s lid → HasPath paths s lid
      complete s lid in_use stands =
          let leaves : LeavesSwitch t edge.0 s = first_leaves t e s lid edge.0 stands.0 in
          let tail : row.tail.0 ≡ s = ap (λ (r : ChannelRow). r.tail.0) (same_Some row leaves.0 (sym is ∙ leaves.1)) ∙ leaves.2 in
          subst (λ x. StandsAt t e edge 0 x lid → HasPath paths x lid) tail (so_far.complete in_use.0 lid (omega (arith, in_use.1, all)) (get_of (lids_of t) in_use.0 lid in_use.1 in_use.2)) stands

-- ---- the paths behind one, channel after channel

module _ (t : Topology) (e : Entries) (good : IsWellFormed t) (path : Path) (old : List Path) where
  pub up_to_first : AddsBehindUpTo t e path old (first_channel t path.from.0) old
  up_to_first = record { still = λ p h. h; only = λ p h. inl h; there = λ s c l at back from past. absurd (omega (arith, from, past)) }

  -- the channel that comes back to the path's switch
  module _ (l : ℕ) (now : List Path) (so_far : AddsBehindUpTo t e path old l now) (low : l < length t.channels) (from : first_channel t path.from.0 ≤ l) (past : l < first_channel t (path.from.0 + 1))
      (before : Path) (to : before.lid.0 ≡ path.lid.0) (tip_is : option_map (λ (row : ChannelRow). row.tip) (slice_get t.channels l) ≡ Some before.from) where
    abbrev some_row : ChannelRow
    some_row = record { tail = record { 0 = 0 }; port = 0; tip = record { 0 = 0 }; tip_port = 0 }

    abbrev row : ChannelRow
    row = slice_index_or t.channels l some_row

    row_is : slice_get t.channels l ≡ Some row
    row_is = slice_get-get_or t.channels l some_row low

    tip_there : row.tip.0 ≡ before.from.0
    tip_there = ap (λ (s : SwitchId). s.0) (same_Some row.tip before.from (sym (ap (λ o. option_map (λ (r : ChannelRow). r.tip) o) row_is) ∙ tip_is))

    pub before_low : before.from.0 < length t.switches
    before_low = omega (arith, tip_there, tip_below t good row (contains_read t.channels l row row_is))

    reverse_row : (c : ℕ) → IsReverse t l c → slice_get t.channels c ≡ Some (reversed row)
    reverse_row c back = let P : Option ChannelRow → Type 0 = λ o. IfSome o (λ r. slice_get t.channels c ≡ Some (reversed r)) in subst P row_is back

    leads_here : (c : ℕ) → IsReverse t l c → tip t c ≡ path.from.0
    leads_here c back = ap tip_of_row (reverse_row c back) ∙ leaves_from t good path.from.0 l some_row low from past

    module _ (c : ℕ) (back : IsReverse t l c) where
      seen_more : (new : List Path) → ((p : Path) → Contains now p → Contains new p) → (slice_get (route t e before.from.0 before.lid.0).channels 0 ≡ Some c → Contains new before) →
          (s d k : ℕ) → slice_get (route t e s path.lid.0).channels 0 ≡ Some d → IsReverse t k d → first_channel t path.from.0 ≤ k → k < l + 1 → HasPath new s path.lid.0
      seen_more new still there s d k at is low high = elim (cases_lt k l) [
        | inl less ↦ (let had : HasPath now s path.lid.0 = so_far.there s d k at is low less in (had.0, still had.0 had.1, had.2, had.3))
        | inr not ↦
            (let same : k ≡ l = omega (arith, high, not) in
            let is_here : IsReverse t l d = subst (λ j. IsReverse t j d) same is in
            let one : c ≡ d = channel_once t good c d (reversed row) (reverse_row c back) (reverse_row d is_here) in
            let leaves : LeavesSwitch t d s = first_leaves t e s path.lid.0 d at in
            let tail : before.from.0 ≡ s = sym tip_there ∙ ap (λ (r : ChannelRow). r.tail.0) (same_Some (reversed row) leaves.0 (sym (reverse_row d is_here) ∙ leaves.1)) ∙ leaves.2 in
            let first : slice_get (route t e before.from.0 before.lid.0).channels 0 ≡ Some c =
            ap (λ x. slice_get (route t e x before.lid.0).channels 0) tail ∙ ap (λ m. slice_get (route t e s m).channels 0) to ∙ at ∙ ap (λ x. Some x) (sym one) in
            (before, there first, tail, to))
      ]

      pub behind_skips : ¬ (slice_get (route t e before.from.0 before.lid.0).channels 0 ≡ Some c) → AddsBehindUpTo t e path old (l + 1) now
      behind_skips off = record { still = so_far.still; only = so_far.only; there = seen_more now (λ p h. h) (λ at. absurd (off at)) }

      pub behind_pushes : slice_get (route t e before.from.0 before.lid.0).channels 0 ≡ Some c → AddsBehindUpTo t e path old (l + 1) (now ++ before ∷ [])
      behind_pushes at = record {
        still = λ p h. Contains-append_left now (before ∷ []) p (so_far.still p h);
        only = λ p h. elim (Contains-append_cases now (before ∷ []) p h) [ inl had ↦ so_far.only p had | inr last ↦ inr (added p last.0 last.1 last.2) ];
        there = seen_more (now ++ before ∷ []) (λ p h. Contains-append_left now (before ∷ []) p h) (λ x. Contains-append_right now (before ∷ []) before (0, omega arith, refl));
      }
        where
          added : (p : Path) (k : ℕ) → k < 1 → slice_index_or (before ∷ []) k p ≡ p → (p.from.0 < length t.switches) × (p.lid.0 ≡ path.lid.0) × BeginsToward t e p.from.0 p.lid.0 path.from.0
          added p zero less same =
              subst (λ (x : Path). (x.from.0 < length t.switches) × (x.lid.0 ≡ path.lid.0) × BeginsToward t e x.from.0 x.lid.0 path.from.0) same (before_low, to, (c, at, leads_here c back))
          added p (suc k) less same = absurd (omega (arith, less))

  -- each channel that leads to the path's switch has a reverse that leaves it
  pub behind_added : (n : ℕ) (new : List Path) → first_channel t (path.from.0 + 1) ≤ n → AddsBehindUpTo t e path old n new → AddsBehind t e path old new
  behind_added n new all so_far = record { still = so_far.still; only = so_far.only; there = there }
    where
      there : (s : ℕ) → BeginsToward t e s path.lid.0 path.from.0 → HasPath new s path.lid.0
      there s begins =
          let c : ℕ = begins.0 in
          let leaves : LeavesSwitch t c s = first_leaves t e s path.lid.0 c begins.1 in
          let r : ChannelRow = leaves.0 in
          let back : Contains t.channels (reversed r) = reverse_there t good r (contains_read t.channels c r leaves.1) in
          let at : slice_get t.channels back.0 ≡ Some (reversed r) = slice_get-get_or t.channels back.0 (reversed r) back.1 ∙ ap (λ x. Some x) back.2 in
          let tail : (slice_index_or t.channels back.0 (reversed r)).tail.0 ≡ path.from.0 = ap (λ (x : ChannelRow). x.tail.0) back.2 ∙ sym (ap tip_of_row leaves.1) ∙ begins.2 in
          let between : (first_channel t path.from.0 ≤ back.0) × (back.0 < first_channel t (path.from.0 + 1)) = stands_between t good path.from.0 back.0 (reversed r) back.1 tail in
          let P : Option ChannelRow → Type 0 = λ o. IfSome o (λ x. slice_get t.channels c ≡ Some (reversed x)) in
          so_far.there s c back.0 begins.1 (subst P (sym at) leaves.1) between.0 (omega (arith, between.1, all))

-- ---- a channel whose reverse stands at the entry of its tip

module _ (t : Topology) (e : Entries) (good : IsWellFormed t) (path : Path) (old : List Path) (l : ℕ) (now : List Path) (so_far : AddsBehindUpTo t e path old l now) (low : l < length t.channels)
    (from : first_channel t path.from.0 ≤ l) (past : l < first_channel t (path.from.0 + 1)) (row : ChannelRow) (is : slice_get t.channels l ≡ Some row) where
  abbrev before : Path
  before = record { from = row.tip; lid = path.lid }

  back : Contains t.channels (reversed row)
  back = reverse_there t good row (contains_read t.channels l row is)

  reverse_is : slice_get t.channels back.0 ≡ Some (reversed row)
  reverse_is = slice_get-get_or t.channels back.0 (reversed row) back.1 ∙ ap (λ x. Some x) back.2

  is_reverse : IsReverse t l back.0
  is_reverse = let P : Option ChannelRow → Type 0 = λ o. IfSome o (λ x. slice_get t.channels back.0 ≡ Some (reversed x)) in subst P (sym is) reverse_is

  tip_is : option_map (λ (r : ChannelRow). r.tip) (slice_get t.channels l) ≡ Some before.from
  tip_is = ap (λ o. option_map (λ (r : ChannelRow). r.tip) o) is

  pub entry_skips : (entry e row.tip.0 path.lid.0 ≡ row.tip_port → ⊥) → AddsBehindUpTo t e path old (l + 1) now
  entry_skips off =
      behind_skips t e good path old l now so_far low from past before refl tip_is back.0 is_reverse
      (λ at. off (sym (told_by_row t e row.tip.0 path.lid.0 back.0 (reversed row) reverse_is at).1))

  pub entry_pushes : entry e row.tip.0 path.lid.0 ≡ row.tip_port → AddsBehindUpTo t e path old (l + 1) (now ++ before ∷ [])
  entry_pushes same = behind_pushes t e good path old l now so_far low from past before refl tip_is back.0 is_reverse (begins_by_port t good back.0 (reversed row) reverse_is e path.lid.0 same)
