-- An arena lists few dependencies of pairs: each is of a channel and a port of the channel's tip.
use Rattle.std.proofs.Common.{◌≡◌, ℕ, zero, suc, ◌+◌, ◌*◌, ◌<◌, ◌≤◌, inl, inr, true, cond, List, [], ◌∷◌, length, map, refl, sym, ◌∙◌, ap, subst, arith, Some, Option, Contains, slice_get, slice_index_or, length-append}
use Rattle.std.specs.Prelude.{option_map, unwrap_or}
use Rattle.std.proofs.lemmas.Bool.{cases_lt, eq-eqb}
use Rattle.std.proofs.lemmas.Option.{same_Some, none-some, slice_get-get_or}
use Rattle.std.proofs.lemmas.List.{length-map}
use Rattle.std.proofs.lemmas.List.Sums.{sum_by-cons}
use Rattle.fab_graph.proofs.Repeats.{HasRepeat, pigeonhole}
use Rattle.fab_model.specs.declared.rows.ChannelRow.{ChannelRow}
use Rattle.fab_model.specs.Topology.{Topology, channel_at}
use Rattle.fab_model.specs.WellFormed.{IsWellFormed}
use Rattle.fab_tables.specs.Entries.{Entries, entry}
use Rattle.fab_tables.specs.Route.{tip, route}
use Rattle.fab_tables.specs.VirtualChannels.{Follow}
use Rattle.fab_tables.proofs.Paths.FallingRoutes.{channel_found, channel_port_small}
use Rattle.fab_tables.proofs.Paths.Routes.{channel_there, goes_on}
use Rattle.fab_tables.proofs.Paths.RouteTurns.{along_channel, TurnsAt, follow_turns}
use Rattle.fab_tables.proofs.Verdicts.CertifiedLaws.{contains_of}
use Rattle.fab_depgraph.specs.declared.dep.Dep.{Dep}
use Rattle.fab_depgraph.specs.Listed.{Dependencies, dep_of, same_dep, times_listed}
use Rattle.fab_depgraph.proofs.Listing.Added.{one_if, listed_times}
use Rattle.fab_lash.specs.Adding.{ListsOnce}
use Rattle.fab_lash.specs.Followers.{followers, followers_between, pair_dependencies}
use Rattle.fab_lash.specs.Pairs.{own_lid, DependsOnPair}
use Rattle.fab_lash.specs.Placing.{listed_in, HaveRoom, ListsPairs}

-- ---- what stands at two places is counted twice

same_itself : (d : Dep) → same_dep d d ≡ true
same_itself d = rw (eq-eqb d.first.0 d.first.0 refl) (eq-eqb d.second.0 d.second.0 refl)

twice : (xs : List Dep) (i j : ℕ) (d : Dep) → i < j → slice_get xs i ≡ Some d → slice_get xs j ≡ Some d → 2 ≤ times_listed xs d
twice [] i j d less at again = absurd (none-some d at)
twice (x ∷ xs) zero zero d less at again = absurd (omega (arith, less))
twice (x ∷ xs) zero (suc j) d less at again =
    let here : same_dep x d ≡ true = subst (λ (y : Dep). same_dep x y ≡ true) (same_Some x d at) (same_itself x) in
    omega (arith, sum_by-cons (λ (y : Dep). cond (same_dep y d) 1 0) x xs, ap one_if here, listed_times xs d (contains_of xs j d again))
twice (x ∷ xs) (suc i) zero d less at again = absurd (omega (arith, less))
twice (x ∷ xs) (suc i) (suc j) d less at again =
    omega (arith, sum_by-cons (λ (y : Dep). cond (same_dep y d) 1 0) x xs, twice xs i j d (omega (arith, less)) at again)

module _ (t : Topology) (good : IsWellFormed t) where
  abbrev port_of : ℕ → ℕ
  port_of c = unwrap_or (option_map (λ (row : ChannelRow). row.port) (slice_get t.channels c)) 0

  port_is : (s port c : ℕ) → channel_at t s port ≡ Some c → port_of c ≡ port
  port_is s port c at =
      let found : (row : ChannelRow) × (c < length t.channels) × (slice_get t.channels c ≡ Some row) × (row.tail.0 ≡ s) × (row.port ≡ port) = channel_found t s port c at in
      ap (λ (o : Option ChannelRow). unwrap_or (option_map (λ (row : ChannelRow). row.port) o) 0) found.2 ∙ found.4

  -- ---- a number for each dependency, by its first channel and the port of its second

  abbrev code : Dep → ℕ
  code d = d.first.0 * 256 + port_of d.second.0

  -- the second channel leaves the tip of the first
  record GoesOn (d : Dep) : Type 0 where
    first_there : d.first.0 < length t.channels
    port : ℕ
    leaves : channel_at t (tip t d.first.0) port ≡ Some d.second.0

  code_is : (d : Dep) (x : GoesOn d) → (code d ≡ d.first.0 * 256 + x.port) × (x.port < 255)
  code_is d x = (ap (λ n. d.first.0 * 256 + n) (port_is (tip t d.first.0) x.port d.second.0 x.leaves), channel_port_small t good (tip t d.first.0) x.port d.second.0 x.leaves)

  code_low : (d : Dep) → GoesOn d → code d < length t.channels * 256
  code_low d x = omega (arith, (code_is d x).0, (code_is d x).1, x.first_there)

  one_dep : (d e : Dep) → GoesOn d → GoesOn e → code d ≡ code e → d ≡ e
  one_dep d e x y same =
      let both : d.first.0 * 256 + x.port ≡ e.first.0 * 256 + y.port = sym (code_is d x).0 ∙ same ∙ (code_is e y).0 in
      let firsts : d.first.0 ≡ e.first.0 = omega (arith, both, (code_is d x).1, (code_is e y).1) in
      let ports : x.port ≡ y.port = omega (arith, both, firsts) in
      let seconds : d.second.0 ≡ e.second.0 =
      same_Some d.second.0 e.second.0 (sym x.leaves ∙ ap (λ c. channel_at t (tip t c) x.port) firsts ∙ ap (λ p. channel_at t (tip t e.first.0) p) ports ∙ y.leaves) in
      ap (λ c. dep_of c d.second.0) firsts ∙ ap (λ c. dep_of e.first.0 c) seconds

  -- so a list in which none stands twice is short
  at_code : (xs : List Dep) (i n : ℕ) → slice_get (map code xs) i ≡ Some n → (d : Dep) × (slice_get xs i ≡ Some d) × (code d ≡ n)
  at_code [] i n at = absurd (none-some n at)
  at_code (x ∷ xs) zero n at = (x, refl, same_Some (code x) n at)
  at_code (x ∷ xs) (suc i) n at = at_code xs i n at

  few_listed : (xs : List Dep) → ListsOnce xs → ((d : Dep) → Contains xs d → GoesOn d) → length xs ≤ length t.channels * 256
  few_listed xs once all = elim (cases_lt (length t.channels * 256) (length xs)) [
    | inr short ↦ short
    | inl long ↦ absurd (none_twice (pigeonhole (length t.channels * 256) (map code xs) below (omega (arith, long, length-map xs code))))
  ]
    where
      goes_on_at : (i : ℕ) (d : Dep) → slice_get xs i ≡ Some d → GoesOn d
      goes_on_at i d at = all d (contains_of xs i d at)

      below : (i n : ℕ) → slice_get (map code xs) i ≡ Some n → n < length t.channels * 256
      below i n at = let d : (d : Dep) × (slice_get xs i ≡ Some d) × (code d ≡ n) = at_code xs i n at in omega (arith, code_low d.0 (goes_on_at i d.0 d.1), d.2)

      none_twice : HasRepeat (map code xs) → ⊥
      none_twice r =
          let d : (d : Dep) × (slice_get xs r.1 ≡ Some d) × (code d ≡ r.0) = at_code xs r.1 r.0 r.4 in
          let e : (e : Dep) × (slice_get xs r.2 ≡ Some e) × (code e ≡ r.0) = at_code xs r.2 r.0 r.5 in
          let same : e.0 ≡ d.0 = one_dep e.0 d.0 (goes_on_at r.2 e.0 e.1) (goes_on_at r.1 d.0 d.1) (e.2 ∙ sym d.2) in
          omega (arith, once d.0, twice xs r.1 r.2 d.0 r.3 d.1 (e.1 ∙ ap Some same))

  -- ---- the dependencies of pairs

  module _ (e : Entries) where
    on_route : (lid s c d : ℕ) → Follow (route t e s lid).channels c d → GoesOn (dep_of c d)
    on_route lid s c d f =
        let turn : TurnsAt t e lid (λ x. Unit {0}) c d = follow_turns t e lid (λ x. Unit {0}) (λ x k here is. tt) s c d tt f in
        record {
          first_there = channel_there t e lid good f.0 s c f.1;
          port = entry e (tip t c) lid;
          leaves = along_channel t lid (tip t c) (entry e (tip t c) lid) d turn.3;
        }

    of_pair : (low high c d : ℕ) → DependsOnPair t e low high c d → GoesOn (dep_of c d)
    of_pair low high c d (inl f) = on_route (own_lid t high) low c d f
    of_pair low high c d (inr f) = on_route (own_lid t low) high c d f

    pub few_of_pairs : (listed : List Dep) → ListsPairs t e listed → length listed ≤ length t.channels * 256
    few_of_pairs listed x = few_listed listed x.once (λ d has. let p = x.of_pairs d.first.0 d.second.0 has in of_pair p.0 p.1 d.first.0 d.second.0 p.3)

    -- a pair itself has a dependency less than channels on its routes
    fewer : (cs : List ℕ) → length (followers cs) ≤ length cs
    fewer [] = omega arith
    fewer (c ∷ []) = omega arith
    fewer (c ∷ d ∷ rest) = omega (arith, fewer (d ∷ rest))

    short_route : (s lid : ℕ) → length (route t e s lid).channels ≤ length t.switches
    short_route s lid = elim (cases_lt (length t.switches) (length (route t e s lid).channels)) [
      | inr short ↦ short
      | inl long ↦
          (let cs : List ℕ = (route t e s lid).channels in
          absurd (omega (arith, (goes_on t e lid (length t.switches) (length t.switches) s (slice_index_or cs (length t.switches) 0) (slice_get-get_or cs (length t.switches) 0 long)).0)))
    ]

    few_of_pair : (low high : ℕ) → length (pair_dependencies t e low high) ≤ length t.switches + length t.switches
    few_of_pair low high =
        omega (
          arith,
          length-append (followers_between t e low high) (followers_between t e high low),
          fewer (route t e low (own_lid t high)).channels,
          fewer (route t e high (own_lid t low)).channels,
          short_route low (own_lid t high),
          short_route high (own_lid t low),
        )

    -- so there is room for those of one more pair
    pub room_for_pair : (low high : ℕ) (used : List Dependencies) (deps : List Dep) → ((lane : ℕ) → ListsPairs t e (listed_in used lane)) → deps ≡ pair_dependencies t e low high → HaveRoom used deps
    room_for_pair low high used deps lists is lane =
        omega (arith, few_of_pairs (listed_in used lane) (lists lane), few_of_pair low high, ap (length {A = Dep}) is, good.channel_count, good.switch_count)
