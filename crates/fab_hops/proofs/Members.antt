-- The switches of a component with their greatest hop counts, which sorted are its centre order.
use Rattle.std.proofs.Common.{◌≡◌, ◌≢◌, ℕ, ◌+◌, ◌<◌, ◌≤◌, ◌⊎◌, inl, inr, true, false, List, [], ◌∷◌, ◌++◌, length, map, cond, refl, sym, ◌∙◌, ap, subst, arith, Option, Some, None, Contains, IsPermutation, is_lt, nat_cmp}
use Rattle.std.specs.Prelude.{slice_index_or, is_some, ◌==◌}
use Rattle.std.specs.Ordering.{ordering_then}
use Rattle.std.specs.List.Sorted.{IsSortedBy}
use Rattle.std.proofs.lemmas.Bool.{cases_eq, cases_lt, eq-eqb, ne_eqb}
use Rattle.std.proofs.lemmas.List.{get_or-map, length-map}
use Rattle.std.proofs.lemmas.List.Elements.{Contains-push, Contains-push_cases, Contains-append_left, Contains-get_or}
use Rattle.std.proofs.lemmas.List.Sorted.{Contains-permutation, IsPermutation-sym}
use Rattle.std.proofs.lemmas.List.Sums.{sum_by_push}
use Rattle.std.proofs.lemmas.Option.{none-some}
use Rattle.fab_model.specs.declared.rows.SwitchId.{SwitchId}
use Rattle.fab_model.specs.Topology.{Topology}
use Rattle.fab_model.specs.Connected.{AreConnected}
use Rattle.fab_model.specs.WellFormed.{IsWellFormed}
use Rattle.fab_hops.specs.HopCounts.{IsHopCount, HopTable, AreHops, hop_count}
use Rattle.fab_hops.specs.Centres.{IsGreatestHop, IsNearerCentre, IsCentreOrder}
use Rattle.fab_hops.proofs.HopWalks.{connected_within, connected_have_count}
use Rattle.fab_hops.proofs.Kept.{count_told, count_kept, is_eccentricity}
use Rattle.fab_hops.proofs.Ranked.{Ranked, times, strictly}

-- it has its greatest hop count, and a hop count from this switch
pub record IsMember (h : HopTable) (s count : ℕ) (member : Ranked) : Type 0 where
  pub below : member.1.0 < count
  pub hops : ℕ
  pub there : hop_count h s member.1.0 ≡ Some hops
  pub greatest : IsGreatestHop h member.1.0 member.0

-- those below a number, each once
pub record AreMembers (h : HopTable) (s count : ℕ) (members : List Ranked) : Type 0 where
  pub each : (member : Ranked) → Contains members member → IsMember h s count member
  pub all : (v n : ℕ) → v < count → hop_count h s v ≡ Some n → (member : Ranked) × Contains members member × (member.1.0 ≡ v)
  pub once : (v : ℕ) → times v members ≤ 1
  pub beyond : (v : ℕ) → count ≤ v → times v members ≡ 0

one_further : (h : HopTable) (s count : ℕ) (member : Ranked) → IsMember h s count member → IsMember h s (count + 1) member
one_further h s count member is = record { below = omega (arith, is.below); hops = is.hops; there = is.there; greatest = is.greatest }

module _ (h : HopTable) (s count : ℕ) (members : List Ranked) (are : AreMembers h s count members) where
  module _ (hops greatest : ℕ) (id : SwitchId) (at : id.0 ≡ count) (there : hop_count h s count ≡ Some hops) (is : IsGreatestHop h count greatest) where
    abbrev more : List Ranked
    more = members ++ (greatest, id) ∷ []

    counted : (v : ℕ) → times v more ≡ times v members + cond (id.0 == v) 1 0
    counted v = sum_by_push (λ (pair : Ranked). cond (pair.1.0 == v) 1 0) members (greatest, id)

    here : times count more ≡ 1
    here = omega (arith, counted count, are.beyond count (omega arith), ap {B = ℕ} (λ b. cond b 1 0) (eq-eqb id.0 count at))

    elsewhere : (v : ℕ) → v ≢ count → times v more ≡ times v members
    elsewhere v ne = omega (arith, counted v, ap {B = ℕ} (λ b. cond b 1 0) (ne_eqb id.0 v (λ e. ne (sym e ∙ at))))

    new : IsMember h s (count + 1) (greatest, id)
    new = record {
      below = omega (arith, at);
      hops = hops;
      there = ap (λ v. hop_count h s v) at ∙ there;
      greatest = subst (λ v. IsGreatestHop h v greatest) (sym at) is;
    }

    each : (member : Ranked) → Contains members member ⊎ ((greatest, id) ≡ member) → IsMember h s (count + 1) member
    each member (inl has) = one_further h s count member (are.each member has)
    each member (inr e) = subst (λ m. IsMember h s (count + 1) m) e new

    pub one_member_more : AreMembers h s (count + 1) more
    one_member_more = record {
      each = λ member has. each member (Contains-push_cases members (greatest, id) member has);
      all = λ v n below told. elim (cases_lt v count) [
        | inl less ↦
            (let found : (member : Ranked) × Contains members member × (member.1.0 ≡ v) = are.all v n less told in
            (found.0, Contains-append_left members ((greatest, id) ∷ []) found.0 found.1, found.2))
        | inr last ↦ ((greatest, id), Contains-push members (greatest, id), omega (arith, at, last, below))
      ];
      once = λ v. elim (cases_eq v count) [ inl e ↦ omega (arith, ap (λ u. times u more) e, here) | inr ne ↦ omega (arith, elsewhere v ne, are.once v) ];
      beyond = λ v past. (let ne : v ≢ count = λ e. omega (arith, e, past) in elsewhere v ne ∙ are.beyond v (omega (arith, past)));
    }

  pub no_member_more : hop_count h s count ≡ None → AreMembers h s (count + 1) members
  no_member_more none = record {
    each = λ member has. one_further h s count member (are.each member has);
    all = λ v n below told. elim (cases_lt v count) [
      | inl less ↦ are.all v n less told
      | inr last ↦ (let same : count ≡ v = omega (arith, last, below) in absurd (none-some n (sym none ∙ ap (λ u. hop_count h s u) same ∙ told)))
    ];
    once = are.once;
    beyond = λ v past. are.beyond v (omega (arith, past));
  }

-- sorted they are the centre order
module _ (t : Topology) (good : IsWellFormed t) (h : HopTable) (hops : AreHops t h) (s : ℕ) (low : s < length t.switches) (members sorted : List Ranked) (are : AreMembers h s (length t.switches) members)
    (moved : IsPermutation members sorted) (by : IsSortedBy (λ x y. is_lt (ordering_then (nat_cmp x.0 y.0) (nat_cmp x.1.0 y.1.0))) sorted) where
  abbrev number : Ranked → ℕ
  number pair = pair.1.0

  some_pair : Ranked
  some_pair = (0, record { 0 = 0 })

  member_of : (pair : Ranked) → Contains sorted pair → IsMember h s (length t.switches) pair
  member_of pair has = are.each pair (Contains-permutation sorted members pair (IsPermutation-sym members sorted moved) has)

  at : (i d : ℕ) → i < length sorted → slice_index_or (map number sorted) i d ≡ (slice_index_or sorted i some_pair).1.0
  at i d h' = get_or-map number sorted i some_pair d h'

  to_component : (other : ℕ) → Contains (map number sorted) other → AreConnected t s other
  to_component other has =
      let within : has.0 < length sorted = omega (arith, has.1, length-map sorted number) in
      let pair : Ranked = slice_index_or sorted has.0 some_pair in
      let is : IsMember h s (length t.switches) pair = member_of pair (Contains-get_or sorted has.0 some_pair within) in
      let same : pair.1.0 ≡ other = sym (at has.0 other within) ∙ has.2 in
      subst (λ x. AreConnected t s x) same (is.hops, (count_told t h hops s pair.1.0 is.hops low is.below is.there).holds)

  from_component : (other : ℕ) → AreConnected t s other → Contains (map number sorted) other
  from_component other joined =
      let high : other < length t.switches = connected_within t good s other joined low in
      let count : (n : ℕ) × IsHopCount t s other n = connected_have_count t s other joined in
      let found : (member : Ranked) × Contains members member × (member.1.0 ≡ other) = are.all other count.0 high (count_kept t h hops s other count.0 low high count.1) in
      let has : Contains sorted found.0 = Contains-permutation members sorted found.0 moved found.1 in
      (has.0, omega (arith, has.1, length-map sorted number), get_or-map number sorted has.0 found.0 other has.1 ∙ ap number has.2 ∙ found.2)

  nearer : (i j d : ℕ) → i < j → j < length (map number sorted) → IsNearerCentre t (slice_index_or (map number sorted) i d) (slice_index_or (map number sorted) j d)
  nearer i j d less within =
      let high : j < length sorted = omega (arith, within, length-map sorted number) in
      let first : Ranked = slice_index_or sorted i some_pair in
      let second : Ranked = slice_index_or sorted j some_pair in
      let first_is : IsMember h s (length t.switches) first = member_of first (Contains-get_or sorted i some_pair (omega (arith, less, high))) in
      let second_is : IsMember h s (length t.switches) second = member_of second (Contains-get_or sorted j some_pair high) in
      let near : IsNearerCentre t first.1.0 second.1.0 = record {
        near = first.0;
        far = second.0;
        first_has = is_eccentricity t h hops good first.1.0 first.0 first_is.below first_is.greatest;
        second_has = is_eccentricity t h hops good second.1.0 second.0 second_is.below second_is.greatest;
        before = strictly members sorted are.once moved by i j some_pair less high;
      } in
      subst (λ x. IsNearerCentre t x (slice_index_or (map number sorted) j d)) (sym (at i d (omega (arith, less, high)))) (subst (λ x. IsNearerCentre t first.1.0 x) (sym (at j d high)) near)

  pub centre_order_found : IsCentreOrder t s (map number sorted)
  centre_order_found = record { component = λ other. (to_component other, from_component other); ordered = nearer }

-- the numbers of the switches of pairs
pub numbers_of : (ranked : List Ranked) → map (λ (x : SwitchId). x.0) (map (λ (pair : Ranked). pair.1) ranked) ≡ map (λ (pair : Ranked). pair.1.0) ranked
numbers_of [] = refl
numbers_of (x ∷ xs) = ap (λ (ns : List ℕ). x.1.0 ∷ ns) (numbers_of xs)

-- what the test says of a count
pub count_there : (o : Option ℕ) → is_some o ≡ true → (n : ℕ) × (o ≡ Some n)
count_there None e = absurd (cc)
count_there (Some n) e = (n, refl)

pub count_missing : (o : Option ℕ) → is_some o ≡ false → o ≡ None
count_missing None e = refl
count_missing (Some n) e = absurd (cc)
