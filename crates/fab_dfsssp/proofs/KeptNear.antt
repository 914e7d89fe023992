-- Rings are sought along numbers that are kept while edges go.
use Rattle.std.proofs.Common.{◌≡◌, ◌≢◌, ℕ, zero, suc, ◌+◌, ◌-◌, ◌<◌, ◌≤◌, ◌⊎◌, List, [], ◌∷◌, ◌++◌, length, sym, ◌∙◌, ap, subst, refl, inl, inr, arith, append_assoc, get_or-set_other, get_or-set_same, Option, Some, None, Result, Ok, Err, true, false}
use Rattle.std.specs.Prelude.{◌==◌, slice_set, is_some, MatchOption, IfOk, OnOk}
use Rattle.std.proofs.lemmas.Bool.{cases_lt, cases_eq, false≢true}
use Rattle.std.proofs.lemmas.List.{length-append, length_push, get_or_past}
use Rattle.std.proofs.lemmas.List.Sums.{sum_by-set}
use Rattle.fab_graph.specs.Walks.{Walk, IsEdge, IsOnClosedWalk}
use Rattle.fab_graph.specs.Least.{IsLeast}
use Rattle.fab_graph.specs.Rings.{Returns, IsNearness, IsNearer, ReturnsByLeast, IsFirstRing}
use Rattle.fab_graph.proofs.Parts.{walk_in}
use Rattle.fab_graph.proofs.Same.{same_walk}
use Rattle.fab_graph.proofs.Walks.{walk_through}
use Rattle.fab_rings.specs.EdgeList.{EdgeList}
use Rattle.fab_rings.specs.Layers.{times}
use Rattle.fab_rings.specs.Nearness.{near_of, StandsAtDistance}
use Rattle.fab_rings.proofs.Times.{one_if, one_if_same, none_if_other}
use Rattle.fab_dfsssp.specs.declared.counted_edges.CountedEdges.{CountedEdges}
use Rattle.fab_dfsssp.specs.Around.{AreNearAround}
use Rattle.fab_dfsssp.specs.CountedEdges.{IsCounted, list_at, IsWhole, IsListing}
use Rattle.fab_dfsssp.specs.KeptNear.{HasNoShorter, NumbersRings, AreKeptNear}
use Rattle.fab_dfsssp.proofs.Counting.{listing_exists}

-- ---- what is kept

pub kept_none : (R : ℕ → ℕ → Type 0) (first : ℕ) (near : List ℕ) → near_of near first ≡ 0 → AreKeptNear R first near
kept_none R first near none = record {
  no_shorter = λ n some less. absurd (omega (arith, none, less));
  numbers = λ a k m some more sum w v. absurd (omega (arith, none, some, sum));
}

-- fewer edges have no other walks
pub kept_fewer : (R S : ℕ → ℕ → Type 0) (first : ℕ) (near : List ℕ) → ((a b : ℕ) → R a b → S a b) → AreKeptNear S first near → AreKeptNear R first near
kept_fewer R S first near part kept = record {
  no_shorter = λ n some less w. kept.no_shorter n some less (walk_in R S part n first first w);
  numbers = λ a k m some more sum w v. kept.numbers a k m some more sum (walk_in R S part m first a w) (walk_in R S part k a first v);
}

-- a search gives such numbers
pub kept_found : (g : EdgeList) (first : ℕ) (near : List ℕ) → AreNearAround g first near → AreKeptNear (IsEdge g.edges) first near
kept_found g first near are = record { no_shorter = no_shorter; numbers = numbers }
  where
    shortest : 0 < near_of near first → (n : ℕ) → 0 < n → Walk (IsEdge g.edges) n first first → near_of near first ≤ n
    shortest has n some w = (are.right first has).least n (some, w)

    no_shorter : HasNoShorter (IsEdge g.edges) first (near_of near first)
    no_shorter n some less w = absurd (omega (arith, less, shortest (omega (arith, less)) n some w))

    numbers : NumbersRings (IsEdge g.edges) first (near_of near first) near
    numbers a k m some more sum w v =
        let has : (0 < near_of near a) × (near_of near a ≤ k) = are.found a k some (omega (arith, sum)) v in
        let nearest : IsNearness (IsEdge g.edges) first a (near_of near a) = are.right a has.0 in
        let all : Walk (IsEdge g.edges) (m + near_of near a) first first = walk_through (IsEdge g.edges) m (near_of near a) first a first w nearest.holds.1 in
        omega (arith, has.1, sum, shortest (omega (arith, sum, more)) (m + near_of near a) (omega (arith, more)) all)

pub kept_search : (e : CountedEdges) → IsWhole e → (first : ℕ) (near : List ℕ) → ((g : EdgeList) → IsListing g e → AreNearAround g first near) → AreKeptNear (λ a b. IsCounted e a b) first near
kept_search e whole first near are =
    let g = listing_exists e whole in
    kept_fewer (λ a b. IsCounted e a b) (IsEdge g.0.edges) first near (λ a b. (g.1.same a b).1) (kept_found g.0 first near (are g.0 g.1))

-- so where the first node has a number, there is a ring of this length
pub search_closes : (e : CountedEdges) → IsWhole e → (first : ℕ) (near : List ℕ) → ((g : EdgeList) → IsListing g e → AreNearAround g first near) → 0 < near_of near first →
    Walk (λ (a b : ℕ). IsCounted e a b) (near_of near first) first first
search_closes e whole first near are has =
    let g = listing_exists e whole in
    same_walk (IsEdge g.0.edges) (λ (a b : ℕ). IsCounted e a b) g.1.same (near_of near first) first first ((are g.0 g.1).right first has).holds.1

-- ---- the ring so far

-- The node stands behind these, and its number says how many edges are left. Where that is its nearness, the ring has come to it by the least heads.
pub record IsOnWay (R : ℕ → ℕ → Type 0) (first around : ℕ) (near front : List ℕ) (node : ℕ) : Type 0 where
  pub at : length front + near_of near node ≡ around
  pub some : 0 < near_of near node
  pub walk : Walk R (length front) first node
  pub root : front ≡ [] → node ≡ first
  pub returns : (n : ℕ) → length front + n ≡ around → IsNearness R first node n → (rest : List ℕ) → ReturnsByLeast R first (node ∷ rest) → ReturnsByLeast R first (front ++ node ∷ rest)

abbrev pub AreOnWay : (ℕ → ℕ → Type 0) → ℕ → ℕ → List ℕ → List ℕ → Type 0
AreOnWay R first around near ring = (front rest : List ℕ) (node : ℕ) → ring ≡ front ++ node ∷ rest → IsOnWay R first around near front node

-- a node of a longer ring is the last one, or was there before
split_last : (ring front rest : List ℕ) (b node : ℕ) → ring ++ b ∷ [] ≡ front ++ node ∷ rest → ((front ≡ ring) × (node ≡ b)) ⊎ ((back : List ℕ) × (ring ≡ front ++ node ∷ back))
split_last [] [] rest b node e = inl (refl, cc)
split_last [] (f ∷ fs) rest b node e =
    let tail : [] ≡ fs ++ node ∷ rest = cc in
    absurd (omega (arith, ap (λ (xs : List ℕ). length xs) tail, length-append fs (node ∷ rest)))
split_last (r ∷ rs) [] rest b node e = inr (rs, cc)
split_last (r ∷ rs) (f ∷ fs) rest b node e =
    let tail : rs ++ b ∷ [] ≡ fs ++ node ∷ rest = cc in
    let same : r ≡ f = cc in
    elim (split_last rs fs rest b node tail) [
      | inl last ↦ inl ((let front : fs ≡ rs = last.0 in cc), last.1)
      | inr before ↦ inr (before.0, (let back : rs ≡ fs ++ node ∷ before.0 = before.1 in cc))
    ]

module _ (R : ℕ → ℕ → Type 0) (first around : ℕ) (near : List ℕ) where
  pub way_begins : near_of near first ≡ around → 0 < around → AreOnWay R first around near (first ∷ [])
  way_begins at some front rest node e = elim (split_last [] front rest first node e) [
    | inl here ↦ subst (λ (f : List ℕ). IsOnWay R first around near f node) (sym here.0) (subst (λ x. IsOnWay R first around near [] x) (sym here.1) begins)
    | inr before ↦ absurd (omega (arith, ap (λ (xs : List ℕ). length xs) before.1, length-append front (node ∷ before.0)))
  ]
    where
      begins : IsOnWay R first around near [] first
      begins = record { at = omega (arith, at); some = omega (arith, at, some); walk = refl; root = λ e. refl; returns = λ n sum nearest rest r. r }

  -- the ring's first node
  pub way_root : (front : List ℕ) (node : ℕ) → AreOnWay R first around near (front ++ node ∷ []) → (rest : List ℕ) × (front ++ node ∷ [] ≡ first ∷ rest)
  way_root [] node way = ([], ap (λ x. x ∷ []) ((way [] [] node refl).root refl))
  way_root (x ∷ xs) node way = (xs ++ node ∷ [], ap (λ y. y ∷ (xs ++ node ∷ [])) ((way [] (xs ++ node ∷ []) x refl).root refl))

  pub way_around : (front : List ℕ) (node : ℕ) → AreOnWay R first around near (front ++ node ∷ []) → near_of near first ≡ around
  way_around front node way =
      let root : (rest : List ℕ) × (front ++ node ∷ [] ≡ first ∷ rest) = way_root front node way in
      let here : IsOnWay R first around near [] first = way [] root.0 first root.1 in
      omega (arith, here.at)

  module _ (shorter : HasNoShorter R first around) (numbers : NumbersRings R first around near) (front : List ℕ) (node : ℕ) (way : AreOnWay R first around near (front ++ node ∷ [])) where
    here : IsOnWay R first around near front node
    here = way front [] node refl

    step_walk : (b : ℕ) → R node b → Walk R (length front + 1) first b
    step_walk b edge = walk_through R (length front) 1 first node b here.walk (b, edge, refl)

    -- the next node
    module _ (head : ℕ) (more : 1 < near_of near node) (edge : R node head) (nearer : near_of near head + 1 ≡ near_of near node) (least : (c : ℕ) → R node c → near_of near c ≡ near_of near head → head ≤ c) where
      nearest_node : (n : ℕ) → length front + suc n ≡ around → IsNearness R first head n → IsNearness R first node (suc n)
      nearest_node n sum nearest = record { holds = (omega arith, (head, edge, nearest.holds.1)); least = not_less }
        where
          not_less : (k : ℕ) → Returns R first node k → suc n ≤ k
          not_less k back = elim (cases_lt k (suc n)) [
            | inl less ↦ absurd (shorter (length front + k) (omega (arith, back.0)) (omega (arith, less, sum)) (walk_through R (length front) k first node first here.walk back.1))
            | inr not ↦ not
          ]

      least_head : (n : ℕ) → length front + suc n ≡ around → IsNearness R first head n → IsLeast (IsNearer R first node n) head
      least_head n sum nearest = record { holds = (edge, nearest); least = not_before }
        where
          not_before : (c : ℕ) → IsNearer R first node n c → head ≤ c
          not_before c other =
              let number : near_of near c ≡ n = numbers c n (length front + 1) nearest.holds.0 (omega arith) (omega (arith, sum)) (step_walk c other.0) other.1.holds.1 in
              least c other.0 (omega (arith, number, nearer, here.at, sum))

      on_way : IsOnWay R first around near (front ++ node ∷ []) head
      on_way = record {
        at = omega (arith, length_push front node, here.at, nearer);
        some = omega (arith, more, nearer);
        walk = subst (λ n. Walk R n first head) (sym (length_push front node)) (step_walk head edge);
        root = λ e. absurd (omega (arith, ap (λ (xs : List ℕ). length xs) e, length_push front node));
        returns = returns;
      }
        where
          returns : (n : ℕ) → length (front ++ node ∷ []) + n ≡ around → IsNearness R first head n → (rest : List ℕ) → ReturnsByLeast R first (head ∷ rest) → ReturnsByLeast R first ((front ++ node ∷ []) ++ head ∷ rest)
          returns n sum nearest rest r =
              let left : length front + suc n ≡ around = omega (arith, sum, length_push front node) in
              let all : ReturnsByLeast R first (front ++ node ∷ head ∷ rest) =
              here.returns (suc n) left (nearest_node n left nearest) (head ∷ rest) (n, nearest.holds.0, nearest_node n left nearest, least_head n left nearest, r) in
              subst (λ (ns : List ℕ). ReturnsByLeast R first ns) (sym (append_assoc front (node ∷ []) (head ∷ rest))) all

      pub way_goes_on : AreOnWay R first around near ((front ++ node ∷ []) ++ head ∷ [])
      way_goes_on before rest a e = elim (split_last (front ++ node ∷ []) before rest head a e) [
        | inl last ↦ subst (λ (f : List ℕ). IsOnWay R first around near f a) (sym last.0) (subst (λ x. IsOnWay R first around near (front ++ node ∷ []) x) (sym last.1) on_way)
        | inr old ↦ way before old.0 a old.1
      ]

    -- the last node
    pub way_ends : near_of near node ≡ 1 → R node first → (rest : List ℕ) × (front ++ node ∷ [] ≡ first ∷ rest) × ReturnsByLeast R first (first ∷ rest)
    way_ends one edge =
        let root : (rest : List ℕ) × (front ++ node ∷ [] ≡ first ∷ rest) = way_root front node way in
        let nearest : IsNearness R first node 1 = record { holds = (omega arith, (first, edge, refl)); least = λ k back. omega (arith, back.0) } in
        let all : ReturnsByLeast R first (front ++ node ∷ []) = here.returns 1 (omega (arith, here.at, one)) nearest [] nearest in
        (root.0, root.1, subst (λ (ns : List ℕ). ReturnsByLeast R first ns) root.1 all)

    pub kept_still : AreKeptNear R first near
    kept_still =
        let same : around ≡ near_of near first = sym (way_around front node way) in
        record { no_shorter = subst (λ n. HasNoShorter R first n) same shorter; numbers = subst (λ n. NumbersRings R first n near) same numbers }

    -- a node from which no such ring leads on
    module _ (not_back : near_of near node ≡ 1 → ¬ R node first) (not_on : (c : ℕ) → 1 < near_of near node → R node c → near_of near c + 1 ≢ near_of near node) where
      no_walk : (n : ℕ) → near_of near node ≡ n → ¬ Walk R n node first
      no_walk zero is w = absurd (omega (arith, is, here.some))
      no_walk (suc zero) is w = not_back (omega (arith, is)) (subst (λ x. R node x) w.2 w.1)
      no_walk (suc (suc n)) is w =
          let number : near_of near w.0 ≡ suc n = numbers w.0 (suc n) (length front + 1) (omega arith) (omega arith) (omega (arith, here.at, is)) (step_walk w.0 w.1) w.2 in
          not_on w.0 (omega (arith, is)) w.1 (omega (arith, number, is))

      abbrev after : List ℕ
      after = slice_set near node 0

      pub numbers_without : NumbersRings R first around after
      numbers_without a k m some more sum w v = elim (cases_eq a node) [
        | inl same ↦
            (let number : near_of near node ≡ k = ap (λ x. near_of near x) (sym same) ∙ numbers a k m some more sum w v in
            absurd (no_walk k number (subst (λ x. Walk R k x first) same v)))
        | inr ne ↦ get_or-set_other near node a 0 0 ne ∙ numbers a k m some more sum w v
      ]

      pub way_goes_back : AreOnWay R first around after front
      way_goes_back before rest a e =
          let joined : front ++ node ∷ [] ≡ before ++ a ∷ (rest ++ node ∷ []) = ap (λ (ns : List ℕ). ns ++ node ∷ []) e ∙ append_assoc before (a ∷ rest) (node ∷ []) in
          let old : IsOnWay R first around near before a = way before (rest ++ node ∷ []) a joined in
          let long : length front ≡ length before + length (a ∷ rest) = ap (λ (ns : List ℕ). length ns) e ∙ length-append before (a ∷ rest) in
          let ne : a ≢ node = λ same. absurd (omega (arith, ap (λ x. near_of near x) same, old.at, here.at, long)) in
          let same : near_of after a ≡ near_of near a = get_or-set_other near node a 0 0 ne in
          record { at = omega (arith, same, old.at); some = omega (arith, same, old.some); walk = old.walk; root = old.root; returns = old.returns }

      -- where it is the first one, there is none
      pub none_around : node < length near → front ≡ [] → (near_of after first ≡ 0) × (¬ Walk R around first first)
      none_around low empty =
          let same : node ≡ first = here.root empty in
          let all : near_of near node ≡ around = omega (arith, here.at, ap (λ (ns : List ℕ). length ns) empty) in
          (ap (λ x. near_of after x) (sym same) ∙ get_or-set_same near node 0 0 low, λ w. no_walk around all (subst (λ x. Walk R around x first) (sym same) w))

-- along edges with counts
module _ (e : CountedEdges) (whole : IsWhole e) (first around : ℕ) (near : List ℕ) (shorter : HasNoShorter (λ a b. IsCounted e a b) first around) (numbers : NumbersRings (λ a b. IsCounted e a b) first around near) (ring front : List ℕ) (node : ℕ) (is : ring ≡ front ++ node ∷ []) (way : AreOnWay (λ a b. IsCounted e a b) first around near ring) where
  abbrev E : ℕ → ℕ → Type 0
  E = λ a b. IsCounted e a b

  abbrev nearer_at : ℕ → Type 0
  nearer_at = StandsAtDistance (list_at e.heads node) near (near_of near node - 1)

  way_here : AreOnWay E first around near (front ++ node ∷ [])
  way_here = subst (λ (ns : List ℕ). AreOnWay E first around near ns) is way

  pub last_on_way : IsOnWay E first around near front node
  last_on_way = way_here front [] node refl

  pub ring_goes_on : (head : ℕ) → (1 < near_of near node) × IsLeast nearer_at head → AreOnWay E first around near ((front ++ node ∷ []) ++ head ∷ [])
  ring_goes_on head found =
      way_goes_on E first around near shorter numbers front node way_here head found.0 (whole.heads.only node head found.1.holds.0) (omega (arith, found.0, found.1.holds.1))
      (λ c edge same. found.1.least c (whole.heads.there node c edge, same ∙ found.1.holds.1))

  pub ring_ends : (near_of near node ≡ 1) × IsCounted e node first → (rest : List ℕ) × (front ++ node ∷ [] ≡ first ∷ rest) × ReturnsByLeast E first (first ∷ rest)
  ring_ends back = way_ends E first around near shorter numbers front node way_here back.0 back.1

  pub ring_kept : AreKeptNear E first near
  ring_kept = kept_still E first around near shorter numbers front node way_here

  pub ring_numbered : near_of near first ≡ around
  ring_numbered = way_around E first around near front node way_here

  module _ (not_back : ¬ ((near_of near node ≡ 1) × IsCounted e node first)) (none : 1 < near_of near node → (a : ℕ) → ¬ nearer_at a) where
    not_first : near_of near node ≡ 1 → ¬ IsCounted e node first
    not_first one edge = not_back (one, edge)

    not_on : (c : ℕ) → 1 < near_of near node → IsCounted e node c → near_of near c + 1 ≢ near_of near node
    not_on c more edge same = none more c (whole.heads.there node c edge, omega (arith, same, more))

    pub numbers_less : NumbersRings E first around (slice_set near node 0)
    numbers_less = numbers_without E first around near shorter numbers front node way_here not_first not_on

    pub ring_goes_back : AreOnWay E first around (slice_set near node 0) front
    ring_goes_back = way_goes_back E first around near shorter numbers front node way_here not_first not_on

    pub ring_is_none : node < length near → front ≡ [] → (near_of (slice_set near node 0) first ≡ 0) × (¬ Walk E around first first)
    ring_is_none = none_around E first around near shorter numbers front node way_here not_first not_on

-- a number stands at a node
pub numbered_low : (near : List ℕ) (a : ℕ) → 0 < near_of near a → a < length near
numbered_low near a has = elim (cases_lt a (length near)) [ inl low ↦ low | inr past ↦ absurd (omega (arith, has, get_or_past {X = ℕ} near a 0 past)) ]

-- one node less has a number
pub numbered_less : (near : List ℕ) (node : ℕ) → node < length near → 0 < near_of near node → times 0 (slice_set near node 0) ≡ times 0 near + 1
numbered_less near node low has = omega (
  arith,
  sum_by-set (λ n. one_if (n == 0)) near node 0 0 low,
  none_if_other (near_of near node) 0 (λ e. absurd (omega (arith, e, has))),
  one_if_same 0 0 refl,
)

-- ---- the first ring

pub first_from : (R : ℕ → ℕ → Type 0) (first : ℕ) (ring : List ℕ) → ((a : ℕ) → a < first → ¬ IsOnClosedWalk R a) → (rest : List ℕ) × (ring ≡ first ∷ rest) × ReturnsByLeast R first (first ∷ rest) → IsFirstRing R ring
first_from R first ring none made =
    let is : IsFirstRing R (first ∷ made.0) = (record { holds = closed made.0 made.2; least = not_before }, made.2) in
    subst (λ (ns : List ℕ). IsFirstRing R ns) (sym made.1) is
  where
    from_nearness : (n : ℕ) → IsNearness R first first (suc n) → IsOnClosedWalk R first
    from_nearness n nearest = (n, nearest.holds.1)

    closed : (rest : List ℕ) → ReturnsByLeast R first (first ∷ rest) → IsOnClosedWalk R first
    closed [] r = from_nearness 0 r
    closed (b ∷ rest) r = from_nearness r.0 r.2

    not_before : (a : ℕ) → IsOnClosedWalk R a → first ≤ a
    not_before a c = elim (cases_lt a first) [ inl less ↦ absurd (none a less c) | inr not ↦ not ]

-- where a ring was found
pub found_first : (R : ℕ → ℕ → Type 0) (first : ℕ) (P : Type 0) (found : Option (List ℕ)) → ((a : ℕ) → a < first → ¬ IsOnClosedWalk R a) → is_some found ≡ true →
    MatchOption found P (λ nodes. (rest : List ℕ) × (nodes ≡ first ∷ rest) × ReturnsByLeast R first (first ∷ rest)) → MatchOption found (¬ IsOnClosedWalk R first) (λ nodes. IsFirstRing R nodes)
found_first R first P None before some made = absurd (false≢true some)
found_first R first P (Some nodes) before some made = first_from R first nodes before made

-- after a search, either way
pub searched_first : {E : Type 0} (R : ℕ → ℕ → Type 0) (first number : ℕ) (result : Result (Option (List ℕ)) E) → ((a : ℕ) → a < first → ¬ IsOnClosedWalk R a) → (number ≡ 0 → ¬ IsOnClosedWalk R first) → (0 < number → Walk R number first first) →
    IfOk result (λ found. MatchOption found (0 < number → ¬ Walk R number first first) (λ nodes. (rest : List ℕ) × (nodes ≡ first ∷ rest) × ReturnsByLeast R first (first ∷ rest))) →
    IfOk result (λ found. MatchOption found (¬ IsOnClosedWalk R first) (λ nodes. IsFirstRing R nodes))
searched_first R first number (Ok None) before none closes made = elim (cases_lt 0 number) [ inl has ↦ absurd (made has (closes has)) | inr not ↦ none (omega (arith, not)) ]
searched_first R first number (Ok (Some nodes)) before none closes made = first_from R first nodes before made
searched_first R first number (Err e) before none closes made = tt

-- what holds in any case holds on success
pub holds_ok : {T E : Type 0} (result : Result T E) (P : Type 0) → P → OnOk result P
holds_ok (Ok x) P p = p
holds_ok (Err e) P p = tt
