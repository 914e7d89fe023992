-- A search under way takes out a choice: it settles a switch, or it is passed over.
use Rattle.std.proofs.Common.{◌≡◌, ℕ, suc, ◌+◌, ◌*◌, ◌-◌, ◌<◌, ◌≤◌, inl, inr, List, [], ◌∷◌, ◌++◌, length, Some, Option, sym, ◌∙◌, ap, subst, arith, ◌^◌, append_assoc, length-append}
use Rattle.std.specs.Prelude.{Contains, sum_by, ◌==◌, flat_map, zero, None, is_some}
use Rattle.std.specs.List.{range_with_len}
use Rattle.std.proofs.lemmas.List.Sums.{count_by-le-length}
use Rattle.std.proofs.lemmas.List.Sorted.{length_permutation}
use Rattle.fab_tables.specs.TreeWalks.{walk_within, after_channel}
use Rattle.fab_sssp.specs.Nearing.{weight_limit}
use Rattle.fab_nue.specs.Added.{dep_made, deps_of_tree}
use Rattle.fab_nue.proofs.Searching.Growing.{same_or_other}
use Rattle.fab_nue.proofs.Searching.SearchTrees.{unsettled_none}
use Rattle.fab_nue.proofs.Searching.Listing.{few, one_made}
use Rattle.std.proofs.lemmas.List.Elements.{Contains-append_cases}
use Rattle.std.proofs.lemmas.List.Sorted.{Contains-permutation, IsPermutation-sym, sum_by-IsPermutation}
use Rattle.std.proofs.lemmas.List.Sums.{sum_by-cons}
use Rattle.fab_graph.specs.Walks.{IsAcyclic, HasClosedWalk}
use Rattle.fab_model.specs.Topology.{Topology, channel_id}
use Rattle.fab_model.specs.WellFormed.{IsWellFormed}
use Rattle.fab_tables.specs.Route.{tip}
use Rattle.fab_tables.specs.Trees.{next}
use Rattle.fab_tables.specs.TreeWalks.{walk_of}
use Rattle.fab_tables.proofs.Paths.TreeWalks.{walk_of_next}
use Rattle.fab_sssp.specs.LeastWeight.{weight_along}
use Rattle.fab_depgraph.specs.declared.dep.Dep.{Dep}
use Rattle.fab_depgraph.specs.Listed.{Dependencies, IsListed}
use Rattle.fab_nue.specs.declared.choices.Choice.{Choice}
use Rattle.fab_nue.specs.Choices.{Held, LosesLeast}
use Rattle.fab_nue.specs.Search.{tail, with_channel, IsSettled, IsCandidate, ClosesNone, way_weight}
use Rattle.fab_nue.specs.Added.{dep_behind}
use Rattle.fab_nue.specs.Laws.{settled_count}
use Rattle.fab_nue.specs.Offers.{HoldsOnce, Offers, LeadsInto, LeadElsewhere}
use Rattle.fab_nue.specs.UnderWay.{choice_of, IsWeighed, HoldsCandidates, IsUnderWay, still_to_do}
use Rattle.fab_nue.proofs.Searching.SearchTrees.{LeadsTree, is_there, tail_below}
use Rattle.fab_nue.proofs.Searching.Settling.{IsLeaf, gives_it, leaf_leads}
use Rattle.fab_nue.proofs.Searching.Runs.{run_leads}
use Rattle.fab_nue.proofs.Searching.Measure.{settle_adds_one}
use Rattle.fab_nue.proofs.Searching.Listing.{settled_once, candidate_listed}
use Rattle.fab_nue.proofs.Heaps.Counts.{one_less}
use Rattle.fab_nue.proofs.Heaps.Heaping.{first_or_later, stood, least_settles, still_holds, grown_holds, settled_still, way_stays}
use Rattle.fab_nue.proofs.Heaps.Offering.{one_if, held_more, few_held}

-- fewer choices hold each channel at most once too
holds_fewer : (t : Topology) (old new : Held) (m : Choice) → LosesLeast old new m → HoldsOnce t old.entries → HoldsOnce t new.entries
holds_fewer t old new m loses h = record {
  once = λ c. omega (arith, h.once c, held_more m new.entries c, sum_by-IsPermutation (λ (e : Choice). one_if (e.channel.0 == c)) old.entries (m ∷ new.entries) loses.entries);
  within = λ e has. h.within e (Contains-permutation (m ∷ new.entries) old.entries e (IsPermutation-sym old.entries (m ∷ new.entries) loses.entries) (suc has.0, omega (arith, has.1), has.2));
}

-- where a switch makes no dependency there are fewer than switches
fewer_made : (f : ℕ → List Dep) → ((s : ℕ) → length (f s) ≤ 1) → (v a n : ℕ) → f v ≡ [] → a ≤ v → v < a + n → length (flat_map f (range_with_len a n)) < n
fewer_made f one v a zero none from past = absurd (omega (arith, from, past))
fewer_made f one v a (suc n) none from past = elim (same_or_other a v) [
  | inl e ↦
      (let here : length (f a) ≡ 0 = ap (λ k. length (f k)) e ∙ ap (λ (ds : List Dep). length ds) none in
      omega (arith, length-append (f a) (flat_map f (range_with_len (a + 1) n)), here, few f one (a + 1) n))
  | inr other ↦
      omega (arith, length-append (f a) (flat_map f (range_with_len (a + 1) n)), one a, fewer_made f one v (a + 1) n none (omega (arith, from, other)) (omega (arith, past)))
]

-- ---- a way weighs little

sum_small : (f : ℕ → ℕ) → ((c : ℕ) → f c ≤ weight_limit) → (cs : List ℕ) → sum_by f cs ≤ length cs * weight_limit
sum_small f each [] = omega arith
sum_small f each (c ∷ cs) = omega (arith, sum_by-cons f c cs, each c, sum_small f each cs)

one_longer : (t : Topology) (rest : ℕ → List ℕ) (n : ℕ) (o : Option ℕ) → ((x : ℕ) → length (rest x) ≤ n) → length (after_channel t rest o) ≤ suc n
one_longer t rest n None few_on = omega arith
one_longer t rest n (Some d) few_on = omega (arith, few_on (tip t d))

within_short : (t : Topology) (tree : List (Option ℕ)) (n s : ℕ) → length (walk_within t tree n s) ≤ n
within_short t tree zero s = omega arith
within_short t tree (suc n) s = one_longer t (λ x. walk_within t tree n x) n (next tree s) (within_short t tree n)

pub way_small : (t : Topology) (weight : ℕ → ℕ) (tree : List (Option ℕ)) (c : ℕ) → ((d : ℕ) → weight d ≤ weight_limit) → way_weight t weight tree c ≤ (length t.switches + 1) * weight_limit
way_small t weight tree c each = omega (arith, each c, sum_small weight each (walk_of t tree (tip t c)), within_short t tree (length t.switches) (tip t c))

module _ (t : Topology) (weight : ℕ → ℕ) (to : ℕ) (start now : Dependencies) (tree : List (Option ℕ)) (good : IsWellFormed t) (old mid : Held) (m : Choice) (loses : LosesLeast old mid m)
    (u : IsUnderWay t weight to start now tree old.entries) where
  abbrev c : ℕ
  c = m.channel.0

  pub leads : LeadsTree t (IsListed start.listed) to tree
  leads = run_leads t weight (IsListed start.listed) to good u.acyclic u.steps tree u.run

  has_it : Contains old.entries m
  has_it = stood t weight (IsListed start.listed) to tree old mid m u.candidates loses

  pub low : c < length t.channels
  low = u.once.within m has_it

  weighed : IsWeighed t weight to tree m
  weighed = u.candidates.weighed m has_it

  kept_before : (e : Choice) → Contains mid.entries e → Contains old.entries e
  kept_before e has = Contains-permutation (m ∷ mid.entries) old.entries e (IsPermutation-sym old.entries (m ∷ mid.entries) loses.entries) (suc has.0, omega (arith, has.1), has.2)

  pub mid_once : HoldsOnce t mid.entries
  mid_once = holds_fewer t old mid m loses u.once

  -- the arena has room for one more
  pub spare_left : ¬ IsSettled to tree (tail t c) → 0 < now.spare
  spare_left not = omega (
    arith,
    u.spare,
    u.adds.spare,
    length_permutation u.adds.added (deps_of_tree t tree) u.adds.once,
    fewer_made (λ s. dep_made t tree (next tree s)) (λ s. one_made t tree (next tree s)) (tail t c) 0 (length t.switches) (ap (dep_made t tree) (unsettled_none to tree (tail t c) not)) (omega arith) (omega (arith, tail_below t c good low)),
  )

  -- its weight is small, as the weights are
  pub small : ((d : ℕ) → weight d ≤ weight_limit) → m.weight + weight_limit < 2 ^ 64
  small each = omega (arith, weighed.1, way_small t weight tree c each, good.switch_count)

  -- what is no candidate is passed over
  passed : ¬ IsCandidate t (IsListed start.listed) to tree c → IsUnderWay t weight to start now tree mid.entries
  passed none = record {
    acyclic = u.acyclic;
    spare = u.spare;
    steps = u.steps;
    run = u.run;
    adds = u.adds;
    candidates = still_holds t weight (IsListed start.listed) to tree old mid m u.candidates loses none;
    once = mid_once;
  }

  pub passed_settled : IsSettled to tree (tail t c) → IsUnderWay t weight to start now tree mid.entries
  passed_settled settled = passed (λ k. k.from settled)

  pub passed_fewer : still_to_do t tree mid.entries < still_to_do t tree old.entries
  passed_fewer = omega (arith, one_less old mid m loses)

  module _ (from : ¬ IsSettled to tree (tail t c)) where
    leaf : IsLeaf t to tree c
    leaf = record { channel = low; from = from; into = weighed.0 }

    listed_same : (start.listed ++ u.adds.added) ++ dep_behind c (next tree (tip t c)) ≡ now.listed ++ dep_behind c (next tree (tip t c))
    listed_same = ap (λ xs. xs ++ dep_behind c (next tree (tip t c))) (sym u.adds.listed)

    pub passed_closing : HasClosedWalk (IsListed (now.listed ++ dep_behind c (next tree (tip t c)))) → IsUnderWay t weight to start now tree mid.entries
    passed_closing closed = passed (λ k.
        (candidate_listed t start.listed u.adds.added to tree c good leads leaf u.adds.once).1 k.closes_none (closed_there closed).0 (closed_there closed).1)
      where
        closed_there : HasClosedWalk (IsListed (now.listed ++ dep_behind c (next tree (tip t c)))) →
            HasClosedWalk (IsListed ((start.listed ++ u.adds.added) ++ dep_behind c (next tree (tip t c))))
        closed_there h = subst (λ (xs : List Dep). HasClosedWalk (IsListed xs)) (sym listed_same) h

    abbrev Grown : List (Option ℕ)
    Grown = with_channel t tree c

    -- the weight of a way through the new switch
    way_through : (d : ℕ) → tip t d ≡ tail t c → LeadsTree t (IsListed start.listed) to Grown → way_weight t weight Grown d ≡ weight d + m.weight
    way_through d e grown =
        let on : walk_of t Grown (tail t c) ≡ c ∷ walk_of t Grown (tip t c) = walk_of_next t Grown (tail t c) c grown.is_tree (gives_it t (IsListed start.listed) to tree c good leads leaf) in
        ap (λ s. weight d + weight_along weight (walk_of t Grown s)) e
        ∙ ap (λ cs. weight d + weight_along weight cs) on
        ∙ ap (λ n. weight d + n) (sum_by-cons weight c (walk_of t Grown (tip t c)) ∙ way_stays t weight start.listed to tree c good leads leaf c weighed.0 ∙ sym weighed.1)

    pub elsewhere : LeadElsewhere t (tail t c) mid.entries
    elsewhere e has is = from (subst (IsSettled to tree) is (u.candidates.weighed e (kept_before e has)).0)

    module _ (new : Dependencies) (entries : List Choice) (added : new.listed ≡ now.listed ++ dep_behind c (next tree (tip t c)))
        (fell : now.spare ≡ new.spare + length (dep_behind c (next tree (tip t c)))) (none : IsAcyclic (IsListed new.listed))
        (offers : Offers t to Grown (λ d. weight d + m.weight) (LeadsInto t (tail t c)) mid.entries entries) where
      closes : ClosesNone t (IsListed start.listed) Grown
      closes = (candidate_listed t start.listed u.adds.added to tree c good leads leaf u.adds.once).0 (subst (λ (xs : List Dep). IsAcyclic (IsListed xs)) (added ∙ sym listed_same) none)

      candidate : IsCandidate t (IsListed start.listed) to tree c
      candidate = record { channel = low; from = from; into = weighed.0; closes_none = closes }

      grown : LeadsTree t (IsListed start.listed) to Grown
      grown = leaf_leads t (IsListed start.listed) to tree c good leads leaf closes

      there : IsSettled to Grown (tail t c)
      there = inr (is_there (next Grown (tail t c)) c (gives_it t (IsListed start.listed) to tree c good leads leaf))

      new_weighed : (e : Choice) → Contains entries e → IsWeighed t weight to Grown e
      new_weighed e has = elim (offers.only e has) [
        | inl before ↦
            (let w : IsWeighed t weight to tree e = u.candidates.weighed e (kept_before e before) in
            (settled_still t weight start.listed to tree c good leads leaf (tip t e.channel.0) w.0, w.1 ∙ sym (way_stays t weight start.listed to tree c good leads leaf e.channel.0 w.0)))
        | inr one ↦ (subst (IsSettled to Grown) (sym one.0.1) there, one.1 ∙ sym (way_through e.channel.0 one.0.1 grown))
      ]

      all_hold : HoldsCandidates t weight (IsListed start.listed) to Grown (old.entries ++ entries)
      all_hold = grown_holds t weight start.listed to tree c good leads leaf old.entries entries u.candidates
          (λ d within e open_tail. subst (λ n. Contains entries (record { weight = n; channel = channel_id d })) (sym (way_through d e grown)) (offers.offered d (within, e) open_tail)) new_weighed

      each : (d : ℕ) → IsCandidate t (IsListed start.listed) to Grown d → Contains entries (choice_of t weight Grown d)
      each d k = elim (Contains-append_cases old.entries entries (choice_of t weight Grown d) (all_hold.each d k)) [
        | inl before ↦ (elim (first_or_later m (choice_of t weight Grown d) mid.entries (Contains-permutation old.entries (m ∷ mid.entries) (choice_of t weight Grown d) loses.entries before)) [
          | inl is ↦ absurd (k.from (subst (λ x. IsSettled to Grown (tail t x)) (ap (λ (e : Choice). e.channel.0) is) there))
          | inr kept ↦ offers.kept (choice_of t weight Grown d) kept
        ])
        | inr now_there ↦ now_there
      ]

      pub settled_on_way : IsUnderWay t weight to start new Grown entries
      settled_on_way = record {
        acyclic = u.acyclic;
        spare = u.spare;
        steps = suc u.steps;
        run = (tree, u.run, inl (least_settles t weight (IsListed start.listed) to tree old mid m u.candidates loses candidate));
        adds = record {
          added = u.adds.added ++ dep_behind c (next tree (tip t c));
          listed = added ∙ ap (λ xs. xs ++ dep_behind c (next tree (tip t c))) u.adds.listed ∙ append_assoc start.listed u.adds.added (dep_behind c (next tree (tip t c)));
          once = settled_once t start.listed u.adds.added to tree c good leads leaf u.adds.once;
          spare = omega (arith, u.adds.spare, fell, length-append u.adds.added (dep_behind c (next tree (tip t c))));
        };
        candidates = record { each = each; weighed = new_weighed };
        once = offers.holds;
      }

      pub settled_fewer : still_to_do t Grown entries < still_to_do t tree old.entries
      settled_fewer =
          let counts : settled_count Grown ≡ settled_count tree + 1 = settle_adds_one t to tree c good leads.is_tree.each_switch low from in
          let most : settled_count Grown ≤ length t.switches = omega (arith, count_by-le-length is_some Grown, grown.is_tree.each_switch) in
          let one : length t.switches - settled_count tree ≡ suc (length t.switches - settled_count Grown) = omega (arith, counts, most) in
          omega (arith, ap (λ n. n * (length t.channels + 1)) one, few_held t entries offers.holds)
