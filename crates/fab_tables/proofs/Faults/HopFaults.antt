-- Faults of the hops of a route, by their places.
use Rattle.std.proofs.Common.{◌≡◌, ℕ, zero, suc, ◌<◌, ◌≤◌, Bool, true, false, List, [], ◌∷◌, length, drop, refl, sym, ◌∙◌, ap, subst, inl, inr, ◌⊎◌, arith, Some, None, Option, slice_get}
use Rattle.std.specs.Prelude.{slice_index, slice_index_or, nat_le, IfSome, IsSome, ◌==◌, if◌then◌else◌}
use Rattle.std.proofs.lemmas.Bool.{cases_lt, leb-true, leb-false, eqb-true, eqb-false}
use Rattle.std.proofs.lemmas.Option.{same_Some, none-some, slice_get_within, slice_get-get_or}
use Rattle.fab_model.specs.declared.rows.Lid.{Lid}
use Rattle.fab_model.specs.declared.rows.SwitchId.{SwitchId}
use Rattle.fab_model.specs.declared.rows.TerminalRow.{TerminalRow}
use Rattle.fab_model.specs.Topology.{Topology}
use Rattle.fab_model.specs.Connected.{IsConnectedTo}
use Rattle.fab_tables.specs.declared.verdict.VirtualChannel.{VirtualChannel}
use Rattle.fab_tables.specs.declared.verdict.Verdict.{Verdict}
use Rattle.fab_tables.specs.declared.verdict.Verdict.TheVariants.{Routes, Lanes, Unreached, NoLevel, BadLane, NoNumber, NotRising}
use Rattle.fab_tables.specs.declared.lane_faults.LaneFaults.{LaneFaults}
use Rattle.fab_tables.specs.declared.lane_faults.LaneFaults.TheVariants.{Every, Structural}
use Rattle.fab_tables.specs.Entries.{Entries}
use Rattle.fab_tables.specs.LaneTables.{LaneTables, level}
use Rattle.fab_tables.specs.Route.{route}
use Rattle.fab_tables.specs.VirtualChannels.{virtual_channels, at_level}
use Rattle.fab_tables.specs.Certified.{number_of}
use Rattle.fab_tables.specs.Verdicts.{IsHop, Leaves, IsLaneFaultAt}
use Rattle.fab_tables.specs.declared.starts.Start.{Start}
use Rattle.fab_tables.specs.First.{IsBefore, IsFirst, FindsFirst, Beneath}
use Rattle.fab_tables.specs.Starts.{StartsAt}
use Rattle.fab_tables.specs.LaneFaults.{IsSoughtAt, SeeksNumbers}
use Rattle.fab_tables.specs.HopFaults.{fault_after, fault_sought, fault_of_hop}
use Rattle.fab_tables.specs.Judged.{IsRight, before_at, IsRightAt, AreRight, hops_from}
use Rattle.fab_tables.proofs.Faults.SoughtFaults.{sought_faults, bad_sought, number_sought, seeks_none, seeks_falling}
use Rattle.fab_tables.proofs.Faults.Firsts.{none_beneath, first_beneath}

-- what comes before a place of one number
before_one : (earlier : List ℕ) (n : ℕ) → IsBefore earlier (n ∷ []) → (earlier ≡ []) ⊎ ((m : ℕ) × (ms : List ℕ) × (earlier ≡ m ∷ ms) × (m < n))
before_one [] n h = inl refl
before_one (m ∷ ms) n (inl less) = inr (m, ms, refl, less)
before_one (m ∷ []) n (inr same) = absurd same.1
before_one (m ∷ k ∷ ms) n (inr same) = absurd same.1

abbrev RisesFrom : LaneTables → VirtualChannel → Option VirtualChannel → Type 0
RisesFrom l v o = IfSome o (λ u. number_of l u < number_of l v)

-- a hop without a fault is right
pub right_of : (faults : LaneFaults) (l : LaneTables) (lid : Lid) (source tail : SwitchId) (before : Option VirtualChannel) (v : VirtualChannel) →
    fault_of_hop faults l lid source tail before v ≡ None → IsRight faults l before v
right_of faults l lid source tail before v none = by_lane (nat_le l.count v.lane) refl none
  where
    after : (o : Option VirtualChannel) → fault_after l lid source o v ≡ None → RisesFrom l v o
    after None is = tt
    after (Some u) is = go (nat_le (number_of l v) (number_of l u)) refl is
      where
        go : (b : Bool) → nat_le (number_of l v) (number_of l u) ≡ b → (if b then Some (NotRising lid source u v (number_of l u) (number_of l v)) else None) ≡ None → number_of l u < number_of l v
        go true x y = absurd (none-some (NotRising lid source u v (number_of l u) (number_of l v)) (sym y))
        go false x y = leb-false _ _ x

    by_number : (b : Bool) → (number_of l v == 0) ≡ b → (if b then Some (NoNumber lid source v) else fault_after l lid source before v) ≡ None → (0 < number_of l v) × RisesFrom l v before
    by_number true x y = absurd (none-some (NoNumber lid source v) (sym y))
    by_number false x y = let some : (number_of l v ≡ 0) → ⊥ = eqb-false _ 0 x in (omega arith, after before y)

    numbers : (f : LaneFaults) → fault_sought f l lid source before v ≡ None → SeeksNumbers f → (0 < number_of l v) × RisesFrom l v before
    numbers Structural is seeks = absurd seeks
    numbers Every is seeks = by_number (number_of l v == 0) refl is

    by_lane : (b : Bool) → nat_le l.count v.lane ≡ b → (if b then Some (BadLane lid source tail) else fault_sought faults l lid source before v) ≡ None → IsRight faults l before v
    by_lane true x y = absurd (none-some (BadLane lid source tail) (sym y))
    by_lane false x y = record { lane = leb-false _ _ x; number = λ q. (numbers faults y q).0; rises = λ q. (numbers faults y q).1 }

module _ (faults : LaneFaults) (t : Topology) (e : Entries) (l : LaneTables) (lid : Lid) (start : Start) (of_level : ℕ) (starts : StartsAt t e l lid.0 start of_level) where
  abbrev P : List ℕ → Verdict → Type 0
  P = IsSoughtAt faults t e l

  abbrev s : ℕ
  s = start.switch.0

  abbrev channels : List ℕ
  channels = (route t e s lid.0).channels

  abbrev hops : List VirtualChannel
  hops = hops_from t e l lid.0 s start.port of_level

  same_hops : (row : TerminalRow) → row.switch.0 ≡ s → row.port ≡ start.port → virtual_channels t e l row lid.0 ≡ hops
  same_hops row a b =
      ap (λ x. at_level t l row.port ((route t e x lid.0).channels) (level l x lid.0)) a
      ∙ ap (λ x. at_level t l x channels (level l s lid.0)) b
      ∙ ap (λ o. at_level t l start.port channels o) starts.has_level

  hop_in : (hop : ℕ) (v : VirtualChannel) → IsHop t e l lid.0 s start.port hop v → slice_get hops hop ≡ Some v
  hop_in hop v h = ap (λ xs. slice_get xs hop) (sym (same_hops h.terminal h.of_source h.at_port)) ∙ h.at_hop

  hop_of : (hop : ℕ) (v : VirtualChannel) → slice_get hops hop ≡ Some v → IsHop t e l lid.0 s start.port hop v
  hop_of hop v at = record {
    terminal = row;
    path = record { terminal = starts.terminal.1; connected = subst (λ x. IsConnectedTo t x lid.0) (sym from) starts.connected };
    of_source = from;
    at_port = by;
    at_hop = ap (λ xs. slice_get xs hop) (same_hops row from by) ∙ at;
  }
    where
      row : TerminalRow
      row = starts.terminal.0

      from : row.switch.0 ≡ s
      from = ap (λ (x : Start). x.switch.0) starts.terminal.2

      by : row.port ≡ start.port
      by = ap (λ (x : Start). x.port) starts.terminal.2

  -- what a fault on this route says
  abbrev Bad : ℕ → VirtualChannel → List ℕ → Type 0
  Bad hop v rest = (rest ≡ hop ∷ 0 ∷ []) × (l.count ≤ v.lane)

  abbrev Unnumbered : ℕ → VirtualChannel → List ℕ → Type 0
  Unnumbered hop v rest = (rest ≡ hop ∷ 1 ∷ []) × SeeksNumbers faults × (number_of l v ≡ 0)

  abbrev Falling : ℕ → VirtualChannel → List ℕ → Type 0
  Falling hop v rest = (rest ≡ hop ∷ 2 ∷ []) × SeeksNumbers faults × ((u : VirtualChannel) × (before_at hops hop ≡ Some u) × (number_of l v ≤ number_of l u))

  abbrev IsHopFault : List ℕ → Type 0
  IsHopFault rest = (hop : ℕ) × (v : VirtualChannel) × (slice_get hops hop ≡ Some v) × (Bad hop v rest ⊎ (Unnumbered hop v rest ⊎ Falling hop v rest))

  -- a hop of the same LID, source and port
  moved : (a b c hop : ℕ) (v : VirtualChannel) → a ≡ lid.0 → b ≡ s → c ≡ start.port → IsHop t e l a b c hop v → slice_get hops hop ≡ Some v
  moved a b c hop v x y z h =
      hop_in hop v (subst (λ k. IsHop t e l lid.0 s k hop v) z (subst (λ k. IsHop t e l lid.0 k c hop v) y (subst (λ k. IsHop t e l k b c hop v) x h)))

  abbrev place_of_rest : List ℕ → List ℕ
  place_of_rest rest = 1 ∷ lid.0 ∷ s ∷ start.port ∷ rest

  at_1 : (rest : List ℕ) (a b c : ℕ) (ends : List ℕ) → place_of_rest rest ≡ 1 ∷ a ∷ b ∷ c ∷ ends → a ≡ lid.0
  at_1 rest a b c ends is = sym (ap (λ xs. slice_index xs 1) is)

  at_2 : (rest : List ℕ) (a b c : ℕ) (ends : List ℕ) → place_of_rest rest ≡ 1 ∷ a ∷ b ∷ c ∷ ends → b ≡ s
  at_2 rest a b c ends is = sym (ap (λ xs. slice_index xs 2) is)

  at_3 : (rest : List ℕ) (a b c : ℕ) (ends : List ℕ) → place_of_rest rest ≡ 1 ∷ a ∷ b ∷ c ∷ ends → c ≡ start.port
  at_3 rest a b c ends is = sym (ap (λ xs. slice_index xs 3) is)

  at_4 : (rest : List ℕ) (a b c : ℕ) (ends : List ℕ) → place_of_rest rest ≡ 1 ∷ a ∷ b ∷ c ∷ ends → rest ≡ ends
  at_4 rest a b c ends is = ap (λ xs. drop 4 xs) is

  hop_fault : (rest : List ℕ) (fault : Verdict) → P (place_of_rest rest) fault → IsHopFault rest
  hop_fault rest fault p = of_kind fault p ((sought_faults t e l faults).fault (place_of_rest rest) fault p)
    where
      of_kind : (fault : Verdict) → P (place_of_rest rest) fault → IsLaneFaultAt t e l (place_of_rest rest) fault → IsHopFault rest
      of_kind Routes p f = absurd f
      of_kind Lanes p f = absurd f
      of_kind (Unreached a b c) p f = absurd f
      of_kind (NoLevel a b) p f = absurd (omega (arith, ap (λ (xs : List ℕ). length xs) f.0))
      of_kind (BadLane a b c) p f =
          let is : place_of_rest rest ≡ 1 ∷ a.0 ∷ b.0 ∷ f.0 ∷ f.1 ∷ 0 ∷ [] = f.3 in
          (f.1, f.2, moved a.0 b.0 f.0 f.1 f.2 (at_1 rest a.0 b.0 f.0 _ is) (at_2 rest a.0 b.0 f.0 _ is) (at_3 rest a.0 b.0 f.0 _ is) f.4, inl (at_4 rest a.0 b.0 f.0 _ is, f.6))
      of_kind (NoNumber a b v) p f =
          let is : place_of_rest rest ≡ 1 ∷ a.0 ∷ b.0 ∷ f.0 ∷ f.1 ∷ 1 ∷ [] = f.2 in
          (f.1, v, moved a.0 b.0 f.0 f.1 v (at_1 rest a.0 b.0 f.0 _ is) (at_2 rest a.0 b.0 f.0 _ is) (at_3 rest a.0 b.0 f.0 _ is) f.3, inr (inl (at_4 rest a.0 b.0 f.0 _ is, seeks_none t e l faults (place_of_rest rest) a b v p, f.4)))
      of_kind (NotRising a b u v m n) p f =
          let is : place_of_rest rest ≡ 1 ∷ a.0 ∷ b.0 ∷ f.0 ∷ suc f.1 ∷ 2 ∷ [] = f.2 in
          let x : a.0 ≡ lid.0 = at_1 rest a.0 b.0 f.0 _ is in
          let y : b.0 ≡ s = at_2 rest a.0 b.0 f.0 _ is in
          let z : f.0 ≡ start.port = at_3 rest a.0 b.0 f.0 _ is in
          (suc f.1, v, moved a.0 b.0 f.0 (suc f.1) v x y z f.4, inr (inr (at_4 rest a.0 b.0 f.0 _ is, seeks_falling t e l faults (place_of_rest rest) a b u v m n p, (u, moved a.0 b.0 f.0 f.1 u x y z f.3, omega (arith, f.5, f.6, f.7)))))

  -- the faults of one hop, by the last number of their place
  module _ (k : ℕ) (v : VirtualChannel) (at : slice_get hops k ≡ Some v) where
    abbrev IsFalling : Type 0
    IsFalling = (u : VirtualChannel) × (before_at hops k ≡ Some u) × (number_of l v ≤ number_of l u)

    abbrev Kinds : List ℕ → Type 0
    Kinds last = ((last ≡ 0 ∷ []) × (l.count ≤ v.lane)) ⊎ (((last ≡ 1 ∷ []) × SeeksNumbers faults × (number_of l v ≡ 0)) ⊎ ((last ≡ 2 ∷ []) × SeeksNumbers faults × IsFalling))

    kinds : (last : List ℕ) (fault : Verdict) → P (1 ∷ lid.0 ∷ s ∷ start.port ∷ k ∷ last) fault → Kinds last
    kinds last fault f = go (hop_fault (k ∷ last) fault f)
      where
        same : (hop : ℕ) (w : VirtualChannel) → slice_get hops hop ≡ Some w → k ≡ hop → w ≡ v
        same hop w there is = same_Some w v (sym there ∙ ap (λ i. slice_get hops i) (sym is) ∙ at)

        first : (hop n : ℕ) → k ∷ last ≡ hop ∷ n ∷ [] → k ≡ hop
        first hop n is = ap (λ xs. slice_index xs 0) is

        second : (hop n : ℕ) → k ∷ last ≡ hop ∷ n ∷ [] → last ≡ n ∷ []
        second hop n is = ap (λ xs. drop 1 xs) is

        go : IsHopFault (k ∷ last) → Kinds last
        go (hop, w, there, inl bad) = inl (second hop 0 bad.0, subst (λ (x : VirtualChannel). l.count ≤ x.lane) (same hop w there (first hop 0 bad.0)) bad.1)
        go (hop, w, there, inr (inl none)) = inr (inl (second hop 1 none.0, none.1, subst (λ (x : VirtualChannel). number_of l x ≡ 0) (same hop w there (first hop 1 none.0)) none.2))
        go (hop, w, there, inr (inr falls)) = inr (inr (
          second hop 2 falls.0,
          falls.1,
          (
            falls.2.0,
            ap (λ i. before_at hops i) (first hop 2 falls.0) ∙ falls.2.1,
            subst (λ (x : VirtualChannel). number_of l x ≤ number_of l falls.2.0) (same hop w there (first hop 2 falls.0)) falls.2.2,
          ),
        ))

    no_place : (xs : List ℕ) (n : ℕ) → [] ≡ n ∷ [] → ⊥
    no_place xs n is = omega (arith, ap (λ (ys : List ℕ). length ys) is)

    -- nothing stands at the hop itself
    none_at_hop : (fault : Verdict) → ¬ P (1 ∷ lid.0 ∷ s ∷ start.port ∷ k ∷ []) fault
    none_at_hop fault f = go (kinds [] fault f)
      where
        go : Kinds [] → ⊥
        go (inl bad) = no_place [] 0 bad.0
        go (inr (inl none)) = no_place [] 1 none.0
        go (inr (inr falls)) = no_place [] 2 falls.0

    -- where the faults of smaller last numbers are none, a fault is the hop's first
    first_of_hop : (n : ℕ) (fault : Verdict) → P (1 ∷ lid.0 ∷ s ∷ start.port ∷ k ∷ n ∷ []) fault →
        ((m : ℕ) (ms : List ℕ) → m < n → ¬ Kinds (m ∷ ms)) → IsFirst (Beneath (1 ∷ lid.0 ∷ s ∷ start.port ∷ k ∷ []) P) fault
    first_of_hop n fault is none = (n ∷ [], is, λ earlier other before f. go earlier other f (before_one earlier n before))
      where
        go : (earlier : List ℕ) (other : Verdict) → P (1 ∷ lid.0 ∷ s ∷ start.port ∷ k ∷ earlier) other →
            (earlier ≡ []) ⊎ ((m : ℕ) × (ms : List ℕ) × (earlier ≡ m ∷ ms) × (m < n)) → ⊥
        go earlier other f (inl empty) = none_at_hop other (subst (λ xs. P (1 ∷ lid.0 ∷ s ∷ start.port ∷ k ∷ xs) other) empty f)
        go earlier other f (inr less) = none less.0 less.1 less.3 (subst (λ xs. Kinds xs) less.2 (kinds earlier other f))

    last_number : (m : ℕ) (ms : List ℕ) (n : ℕ) → m ∷ ms ≡ n ∷ [] → m ≡ n
    last_number m ms n is = ap (λ xs. slice_index xs 0) is

    bad_first : (tail : SwitchId) → Leaves t v tail → l.count ≤ v.lane → IsFirst (Beneath (1 ∷ lid.0 ∷ s ∷ start.port ∷ k ∷ []) P) (BadLane lid start.switch tail)
    bad_first tail leaves bad =
        first_of_hop 0 (BadLane lid start.switch tail) (bad_sought t e l faults _ lid start.switch tail (start.port, k, v, refl, hop_of k v at, leaves, bad)) (λ m ms less. absurd (omega arith))

    unnumbered_first : SeeksNumbers faults → v.lane < l.count → number_of l v ≡ 0 → IsFirst (Beneath (1 ∷ lid.0 ∷ s ∷ start.port ∷ k ∷ []) P) (NoNumber lid start.switch v)
    unnumbered_first seeks good none =
        first_of_hop 1 (NoNumber lid start.switch v) (number_sought t e l faults seeks _ (NoNumber lid start.switch v) (start.port, k, refl, hop_of k v at, none)) (λ m ms less kind. go m ms less kind)
      where
        go : (m : ℕ) (ms : List ℕ) → m < 1 → Kinds (m ∷ ms) → ⊥
        go m ms less (inl bad) = omega (arith, bad.1)
        go m ms less (inr (inl one)) = omega (arith, last_number m ms 1 one.0)
        go m ms less (inr (inr two)) = omega (arith, last_number m ms 2 two.0)

    -- the hop before, where there is one
    one_before : (i : ℕ) (u : VirtualChannel) → before_at hops i ≡ Some u → (j : ℕ) × (i ≡ suc j) × (slice_get hops j ≡ Some u)
    one_before zero u is = absurd (none-some u is)
    one_before (suc j) u is = (j, refl, is)

    falling_first : SeeksNumbers faults → v.lane < l.count → (number_of l v ≡ 0 → ⊥) → (u : VirtualChannel) → before_at hops k ≡ Some u → number_of l v ≤ number_of l u →
        IsFirst (Beneath (1 ∷ lid.0 ∷ s ∷ start.port ∷ k ∷ []) P) (NotRising lid start.switch u v (number_of l u) (number_of l v))
    falling_first seeks good some u before falls =
        let x : (j : ℕ) × (k ≡ suc j) × (slice_get hops j ≡ Some u) = one_before k u before in
        first_of_hop 2 (NotRising lid start.switch u v (number_of l u) (number_of l v))
        (number_sought t e l faults seeks _ (NotRising lid start.switch u v (number_of l u) (number_of l v))
        (start.port, x.0, ap (λ n. 1 ∷ lid.0 ∷ s ∷ start.port ∷ n ∷ 2 ∷ []) x.1, hop_of x.0 u x.2, subst (λ n. IsHop t e l lid.0 s start.port n v) x.1 (hop_of k v at), refl, refl, falls))
        (λ m ms less kind. go m ms less kind)
      where
        go : (m : ℕ) (ms : List ℕ) → m < 2 → Kinds (m ∷ ms) → ⊥
        go m ms less (inl bad) = omega (arith, bad.1)
        go m ms less (inr (inl one)) = some one.2
        go m ms less (inr (inr two)) = omega (arith, last_number m ms 2 two.0)

    -- a hop that is right has no fault
    clear_hop : IsRight faults l (before_at hops k) v → FindsFirst (Beneath (1 ∷ lid.0 ∷ s ∷ start.port ∷ k ∷ []) P) None
    clear_hop right last fault f = go (kinds last fault f)
      where
        go : Kinds last → ⊥
        go (inl bad) = omega (arith, bad.1, right.lane)
        go (inr (inl none)) = omega (arith, none.2, right.number none.1)
        go (inr (inr falls)) =
            let rises : number_of l falls.2.0 < number_of l v = subst (λ (o : Option VirtualChannel). IfSome o (λ u. number_of l u < number_of l v)) falls.2.1 (right.rises falls.1) in
            omega (arith, falls.2.2, rises)

    abbrev Found : Option Verdict → Type 0
    Found o = FindsFirst (Beneath (1 ∷ lid.0 ∷ s ∷ start.port ∷ k ∷ []) P) o

    -- the hop is judged with the one before it
    pub judged : (tail : SwitchId) (before : Option VirtualChannel) → Leaves t v tail → before ≡ before_at hops k →
        FindsFirst (Beneath (1 ∷ lid.0 ∷ s ∷ start.port ∷ k ∷ []) P) (fault_of_hop faults l lid start.switch tail before v)
    judged tail before leaves is = by_lane (nat_le l.count v.lane) refl
      where
        after : SeeksNumbers faults → v.lane < l.count → (number_of l v ≡ 0 → ⊥) → (o : Option VirtualChannel) → o ≡ before_at hops k → Found (fault_after l lid start.switch o v)
        after seeks good some None eq = clear_hop (record { lane = good; number = λ q. omega arith; rises = λ q. subst (λ (o : Option VirtualChannel). IfSome o (λ u. number_of l u < number_of l v)) eq tt })
        after seeks good some (Some u) eq = compared (nat_le (number_of l v) (number_of l u)) refl
          where
            compared : (b : Bool) → nat_le (number_of l v) (number_of l u) ≡ b → Found (if b then Some (NotRising lid start.switch u v (number_of l u) (number_of l v)) else None)
            compared true falls = falling_first seeks good some u (sym eq) (leb-true _ _ falls)
            compared false rises = clear_hop (record {
              lane = good;
              number = λ q. omega arith;
              rises = λ q. subst (λ (o : Option VirtualChannel). IfSome o (λ w. number_of l w < number_of l v)) eq (leb-false _ _ rises);
            })

        by_number : SeeksNumbers faults → v.lane < l.count → (b : Bool) → (number_of l v == 0) ≡ b → Found (if b then Some (NoNumber lid start.switch v) else fault_after l lid start.switch before v)
        by_number seeks good true none = unnumbered_first seeks good (eqb-true _ 0 none)
        by_number seeks good false some = after seeks good (eqb-false _ 0 some) before is

        by_choice : (f : LaneFaults) → faults ≡ f → v.lane < l.count → Found (fault_sought f l lid start.switch before v)
        by_choice Every same good = by_number (subst (λ g. SeeksNumbers g) (sym same) tt) good (number_of l v == 0) refl
        by_choice Structural same good =
            let not : SeeksNumbers faults → ⊥ = λ q. subst (λ g. SeeksNumbers g) same q in
            clear_hop (record { lane = good; number = λ q. absurd (not q); rises = λ q. absurd (not q) })

        by_lane : (b : Bool) → nat_le l.count v.lane ≡ b → Found (if b then Some (BadLane lid start.switch tail) else fault_sought faults l lid start.switch before v)
        by_lane true bad = bad_first tail leaves (leb-true _ _ bad)
        by_lane false good = by_choice faults refl (leb-false _ _ good)

  pub none_at_start : (fault : Verdict) → ¬ P (1 ∷ lid.0 ∷ s ∷ start.port ∷ []) fault
  none_at_start fault f = go (hop_fault [] fault f)
    where
      go : IsHopFault [] → ⊥
      go (hop, w, there, inl bad) = omega (arith, ap (λ (xs : List ℕ). length xs) bad.0)
      go (hop, w, there, inr (inl none)) = omega (arith, ap (λ (xs : List ℕ). length xs) none.0)
      go (hop, w, there, inr (inr falls)) = omega (arith, ap (λ (xs : List ℕ). length xs) falls.0)

  -- behind the last hop there is no fault
  none_past : (k : ℕ) → length hops ≤ k → FindsFirst (Beneath (1 ∷ lid.0 ∷ s ∷ start.port ∷ k ∷ []) P) None
  none_past k past last fault f = go (hop_fault (k ∷ last) fault f)
    where
      beyond : (hop n : ℕ) (w : VirtualChannel) → slice_get hops hop ≡ Some w → k ∷ last ≡ hop ∷ n ∷ [] → ⊥
      beyond hop n w there is = omega (arith, slice_get_within hops hop w there, ap (λ xs. slice_index xs 0) is)

      go : IsHopFault (k ∷ last) → ⊥
      go (hop, w, there, inl bad) = beyond hop 0 w there bad.0
      go (hop, w, there, inr (inl none)) = beyond hop 1 w there none.0
      go (hop, w, there, inr (inr falls)) = beyond hop 2 w there falls.0

  -- where all hops are right there is no fault
  pub right_clear : AreRight faults l hops → FindsFirst (Beneath (1 ∷ lid.0 ∷ s ∷ start.port ∷ []) P) None
  right_clear right = none_beneath (Beneath (1 ∷ lid.0 ∷ s ∷ start.port ∷ []) P) none_at_start (λ k. at_hop k (cases_lt k (length hops)))
    where
      some_hop : VirtualChannel
      some_hop = record { channel = record { 0 = 0 }; lane = 0 }

      at_hop : (k : ℕ) → (k < length hops) ⊎ (length hops ≤ k) → FindsFirst (Beneath (1 ∷ lid.0 ∷ s ∷ start.port ∷ k ∷ []) P) None
      at_hop k (inl low) = let at : slice_get hops k ≡ Some (slice_index_or hops k some_hop) = slice_get-get_or hops k some_hop low in clear_hop k (slice_index_or hops k some_hop) at (right k (slice_index_or hops k some_hop) at)
      at_hop k (inr past) = none_past k past

  -- the first hop that isn't right has the first fault
  pub hop_first : (k : ℕ) (v : VirtualChannel) (tail : SwitchId) (found : Option Verdict) → slice_get hops k ≡ Some v → Leaves t v tail → found ≡ fault_of_hop faults l lid start.switch tail (before_at hops k) v → IsSome found →
      ((j : ℕ) → j < k → IsRightAt faults l hops j) → FindsFirst (Beneath (1 ∷ lid.0 ∷ s ∷ start.port ∷ []) P) found
  hop_first k v tail found at leaves is some right = go found some (subst (λ o. FindsFirst (Beneath (1 ∷ lid.0 ∷ s ∷ start.port ∷ k ∷ []) P) o) (sym is) (judged k v at tail (before_at hops k) leaves refl))
    where
      low : k < length hops
      low = slice_get_within hops k v at

      below : (j : ℕ) → j < k → FindsFirst (Beneath (1 ∷ lid.0 ∷ s ∷ start.port ∷ j ∷ []) P) None
      below j less = let there : slice_get hops j ≡ Some (slice_index_or hops j v) = slice_get-get_or hops j v (omega (arith, less, low)) in clear_hop j (slice_index_or hops j v) there (right j less (slice_index_or hops j v) there)

      go : (o : Option Verdict) → IsSome o → FindsFirst (Beneath (1 ∷ lid.0 ∷ s ∷ start.port ∷ k ∷ []) P) o → FindsFirst (Beneath (1 ∷ lid.0 ∷ s ∷ start.port ∷ []) P) o
      go None x first = cc
      go (Some fault) x first = first_beneath (Beneath (1 ∷ lid.0 ∷ s ∷ start.port ∷ []) P) none_at_start k fault first below
