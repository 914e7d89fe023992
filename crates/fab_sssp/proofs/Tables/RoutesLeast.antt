-- Tables of least weight reach, by routes of least weight and with least channels.
use Rattle.std.proofs.Common.{◌≡◌, ◌≢◌, ℕ, zero, suc, ◌+◌, ◌*◌, ◌≤◌, ◌⊎◌, inl, inr, List, ◌∷◌, length, refl, sym, ◌∙◌, ap, subst, arith, Some}
use Rattle.std.specs.Prelude.{sum_by, nat_lt}
use Rattle.std.proofs.Math.Nat.{mul-le-mul_right}
use Rattle.std.proofs.lemmas.Bool.{cases_lt}
use Rattle.std.proofs.lemmas.Bool.Decides.{eqb_tells}
use Rattle.std.proofs.lemmas.List.Sums.{sum_by-cons, sum_by-le, count_by-le-length, length-filter}
use Rattle.std.proofs.lemmas.Option.{same_Some}
use Rattle.fab_graph.specs.Walks.{Walk}
use Rattle.fab_model.specs.declared.rows.Place.{Place}
use Rattle.fab_model.specs.Topology.{Topology, lids_of, place_of}
use Rattle.fab_model.specs.Connected.{LeadsTo, LeadsAlong, AreConnected, IsConnectedTo}
use Rattle.fab_model.specs.WellFormed.{IsWellFormed}
use Rattle.fab_model.proofs.Channels.{channels_of_walk}
use Rattle.fab_tables.specs.declared.end.End.TheVariants.{Delivered, Loop}
use Rattle.fab_tables.specs.Entries.{Entries, entry}
use Rattle.fab_tables.specs.Route.{Route, Hop, hop_by, tip, after_hop, route_within, route}
use Rattle.fab_tables.specs.Route.Hop.{Along, Stop}
use Rattle.fab_tables.proofs.Paths.FallingRoutes.{GoesNearer, falling_reaches, own_delivers, goes_along, tip_connected}
use Rattle.fab_sssp.specs.WeightTables.{start_weight}
use Rattle.fab_sssp.specs.LeastWeight.{weight_along, IsLeastWalk, IsDistance, BeginsLeastWalk}
use Rattle.fab_sssp.specs.Carried.{terminals_carried, smaller_lids}
use Rattle.fab_sssp.specs.LeastWeightTables.{weight_at, AreLeastWeightTables}
use Rattle.fab_sssp.specs.Laws.{LeastWeightReaches, RoutesAreLeast}
use Rattle.fab_sssp.proofs.Walks.LeastWalks.{least_rest, least_first, sum_by-ge, fewer}
use Rattle.fab_sssp.proofs.Tables.OneTable.{one_distance}

loops : Loop ≡ Delivered → ⊥
loops e = cc

-- a route has at most as many channels as it may go along
few_channels : (t : Topology) (e : Entries) (lid n s : ℕ) → length (route_within t e lid n s).channels ≤ n
few_channels t e lid zero s = omega arith
few_channels t e lid (suc n) s = go (hop_by t lid s (entry e s lid)) (λ next. few_channels t e lid n next)
  where
    go : (hop : Hop) → ((next : ℕ) → length (route_within t e lid n next).channels ≤ n) → length (after_hop t (λ next. route_within t e lid n next) hop).channels ≤ suc n
    go (Stop x) rest = omega arith
    go (Along c) rest = omega (arith, rest (tip t c))

module _ (t : Topology) (e : Entries) (lid : ℕ) where
  abbrev weight : ℕ → ℕ
  weight c = weight_at t e lid c

  at_least_start : (c : ℕ) → start_weight t ≤ weight c
  at_least_start c = omega arith

  -- what the smaller LIDs add
  few_smaller : length (smaller_lids t lid) ≤ length (lids_of t)
  few_smaller = omega (arith, length-filter (λ other. nat_lt other lid) (lids_of t), count_by-le-length (λ other. nat_lt other lid) (lids_of t))

  at_most : (c : ℕ) → weight c ≤ start_weight t + length (lids_of t) * length t.terminals
  at_most c = omega (
    arith,
    sum_by-le (λ other. terminals_carried t e other c) (length t.terminals) (smaller_lids t lid) (λ k d h. count_by-le-length _ t.terminals),
    mul-le-mul_right (length t.terminals) few_smaller,
  )

module _ (t : Topology) (e : Entries) (good : IsWellFormed t) (tables : AreLeastWeightTables t e) (lid : ℕ) (place : Place) (is : place_of t lid ≡ Some place) where
  abbrev to : ℕ
  to = place.switch.0

  -- the measure of a switch is its distance to the LID's switch
  abbrev Distance : ℕ → ℕ → Type 0
  Distance s n = IsDistance t (λ c. weight_at t e lid c) s to n

  -- what the entry says at the LID's switch
  stops : (s : ℕ) → s ≡ to → hop_by t lid s (entry e s lid) ≡ Stop Delivered
  stops s same = subst (λ x. hop_by t lid x (entry e x lid) ≡ Stop Delivered) (sym same) (own_delivers t e lid place good tables.fixed is)

  -- and at another one
  begins : (s : ℕ) → AreConnected t s to → s ≢ to → BeginsLeastWalk t (λ c. weight_at t e lid c) s to (entry e s lid)
  begins s connected other = (tables.chosen s lid to (record { place = place; in_use = is; at_switch = refl; connected = connected; other = other })).holds

  goes : (s : ℕ) → IsConnectedTo t s lid → (hop_by t lid s (entry e s lid) ≡ Stop Delivered) ⊎ GoesNearer t e lid Distance s
  goes s c = elim (eqb_tells s to) [
    | inl same ↦ inl (stops s same.1)
    | inr other ↦ inr (go other.1 (begins s connected other.1))
  ]
    where
      connected : AreConnected t s to
      connected = subst (λ (q : Place). AreConnected t s q.switch.0) (same_Some c.0 place (sym c.1 ∙ is)) c.2

      go : s ≢ to → BeginsLeastWalk t (λ c. weight_at t e lid c) s to (entry e s lid) → GoesNearer t e lid Distance s
      go other x = (
        x.0,
        weight_along (weight t e lid) (x.0 ∷ x.1),
        weight_along (weight t e lid) x.1,
        goes_along t lid s (entry e s lid) x.0 place good is other x.2,
        (place, is, tip_connected t good s (entry e s lid) x.0 to x.2 connected),
        (x.0 ∷ x.1, x.3, refl),
        (x.1, least_rest t (weight t e lid) s to x.0 x.1 x.3, refl),
        omega (arith, sum_by-cons (weight t e lid) x.0 x.1, at_least_start t e lid x.0),
      )

  reaches : (s : ℕ) → IsConnectedTo t s lid → (route t e s lid).end ≡ Delivered
  reaches s c = falling_reaches t e lid Distance good (record { one = λ x m n. one_distance t (weight t e lid) x to m n; goes = goes }) s c

  -- a route that is delivered is a walk of least weight
  least_within : (n s : ℕ) → AreConnected t s to → (route_within t e lid n s).end ≡ Delivered → IsLeastWalk t (weight t e lid) s to (route_within t e lid n s).channels
  least_within zero s connected d = absurd (loops d)
  least_within (suc n) s connected d = elim (eqb_tells s to) [
    | inl same ↦ at_place same.1
    | inr other ↦ further other.1 (begins s connected other.1) (λ next joined x. least_within n next joined x)
  ]
    where
      rest : ℕ → Route
      rest next = route_within t e lid n next

      at_place : s ≡ to → IsLeastWalk t (weight t e lid) s to (route_within t e lid (suc n) s).channels
      at_place same =
          subst (λ h. IsLeastWalk t (weight t e lid) s to (after_hop t (λ next. route_within t e lid n next) h).channels) (sym (stops s same)) (record { leads = same; least = λ others leads. omega arith })

      further : s ≢ to → BeginsLeastWalk t (λ c. weight_at t e lid c) s to (entry e s lid) →
          ((next : ℕ) → AreConnected t next to → (route_within t e lid n next).end ≡ Delivered → IsLeastWalk t (weight t e lid) next to (route_within t e lid n next).channels) →
          IsLeastWalk t (weight t e lid) s to (route_within t e lid (suc n) s).channels
      further other x more =
          let along : hop_by t lid s (entry e s lid) ≡ Along x.0 = goes_along t lid s (entry e s lid) x.0 place good is other x.2 in
          let end : (route_within t e lid n (tip t x.0)).end ≡ Delivered = sym (ap (λ h. (after_hop t (λ next. route_within t e lid n next) h).end) along) ∙ d in
          subst (λ h. IsLeastWalk t (weight t e lid) s to (after_hop t (λ next. route_within t e lid n next) h).channels) (sym along)
          (least_first t (weight t e lid) s to x.0 x.1 x.3 (route_within t e lid n (tip t x.0)).channels (more (tip t x.0) (tip_connected t good s (entry e s lid) x.0 to x.2 connected) end))

  least_route : (s : ℕ) → IsConnectedTo t s lid → IsLeastWalk t (weight t e lid) s to (route t e s lid).channels
  least_route s c = least_within (length t.switches) s (subst (λ (q : Place). AreConnected t s q.switch.0) (same_Some c.0 place (sym c.1 ∙ is)) c.2) (reaches s c)

  -- no walk has fewer channels
  least_channels : (s count : ℕ) → IsConnectedTo t s lid → Walk (LeadsTo t) count s to → length (route t e s lid).channels ≤ count
  least_channels s count c w = elim (cases_lt count (length t.switches)) [
    | inl few ↦ fewer (length cs) count (length t.switches) (length t.terminals) (length (lids_of t)) (start_weight t) refl between (omega (arith, few))
    | inr many ↦ omega (arith, many, few_channels t e lid (length t.switches) s)
  ]
    where
      cs : List ℕ
      cs = (route t e s lid).channels

      other : (xs : List ℕ) × LeadsAlong t s xs to × (length xs ≡ count)
      other = channels_of_walk t count s to w

      between : length cs * start_weight t ≤ count * (start_weight t + length (lids_of t) * length t.terminals)
      between =
          let low : length cs * start_weight t ≤ sum_by (weight t e lid) cs = sum_by-ge (weight t e lid) (start_weight t) cs (at_least_start t e lid) in
          let high : sum_by (weight t e lid) other.0 ≤ length other.0 * (start_weight t + length (lids_of t) * length t.terminals) =
          sum_by-le (weight t e lid) (start_weight t + length (lids_of t) * length t.terminals) other.0 (λ k d h. at_most t e lid _) in
          let least : sum_by (weight t e lid) cs ≤ sum_by (weight t e lid) other.0 = (least_route s c).least other.0 other.1 in
          let same : length other.0 * (start_weight t + length (lids_of t) * length t.terminals) ≡ count * (start_weight t + length (lids_of t) * length t.terminals) =
          ap (λ n. n * (start_weight t + length (lids_of t) * length t.terminals)) other.2 in
          omega (arith, low, high, least, same)

pub least_weight_reaches : LeastWeightReaches
least_weight_reaches t e good tables s lid c = reaches t e good tables lid c.0 c.1 s c

pub routes_are_least : RoutesAreLeast
routes_are_least t e s lid place good tables is c = (least_route t e good tables lid place is s c, λ count w. least_channels t e good tables lid place is s count c w)
