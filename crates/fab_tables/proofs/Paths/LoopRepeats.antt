-- A route is a loop exactly where a switch repeats.
use Rattle.std.proofs.Common.{◌≡◌, ℕ, zero, suc, ◌+◌, ◌*◌, ◌-◌, ◌<◌, ◌≤◌, length, map, Some, refl, sym, ◌∙◌, ap, subst, arith}
use Rattle.std.proofs.Math.Nat.{mul-le-mul_left}
use Rattle.std.specs.Prelude.{slice_get}
use Rattle.std.proofs.lemmas.List.{length-map}
use Rattle.fab_graph.proofs.Repeats.{pigeonhole}
use Rattle.fab_model.specs.declared.rows.ChannelRow.{ChannelRow}
use Rattle.fab_model.specs.Topology.{Topology}
use Rattle.fab_model.specs.WellFormed.{IsFabric}
use Rattle.fab_tables.specs.declared.end.End.TheVariants.{Loop}
use Rattle.fab_tables.specs.Entries.{Entries, entry}
use Rattle.fab_tables.specs.Route.{Hop, Route, hop_by, tip, tip_of_row, after_hop, route_within, route, visited, HasRepeat}
use Rattle.fab_tables.specs.Route.Hop.{Along, Stop}
use Rattle.fab_tables.specs.Laws.{LoopRepeats}
use Rattle.fab_tables.proofs.Rows.Cells.{none_some, unsome}
use Rattle.fab_tables.proofs.Verdicts.CertifiedLaws.{contains_of}
use Rattle.fab_tables.proofs.Paths.RouteTurns.{along_channel}
use Rattle.fab_tables.proofs.Paths.FallingRoutes.{channel_found}
use Rattle.fab_tables.proofs.Paths.Steps.{row_within}
use Rattle.fab_tables.proofs.Paths.Loops.{loop_is_long}

module _ (t : Topology) (e : Entries) (lid : ℕ) where
  -- so many hops lead from one switch to another
  abbrev Goes : ℕ → ℕ → ℕ → Type 0
  Goes zero a b = a ≡ b
  Goes (suc k) a b = (c : ℕ) × (hop_by t lid a (entry e a lid) ≡ Along c) × Goes k (tip t c) b

  same_channel : (a c d : ℕ) → hop_by t lid a (entry e a lid) ≡ Along c → hop_by t lid a (entry e a lid) ≡ Along d → c ≡ d
  same_channel a c d x y = one (sym x ∙ y)
    where
      one : Along c ≡ Along d → c ≡ d
      one z = cc

  goes_visited : (n s i a : ℕ) → slice_get (visited t s (route_within t e lid n s).channels) i ≡ Some a → Goes i s a
  goes_visited n s zero a h = unsome s a h
  goes_visited zero s (suc i) a h = absurd (none_some a h)
  goes_visited (suc n) s (suc i) a h = go (λ c x. goes_visited n (tip t c) i a x) (hop_by t lid s (entry e s lid)) refl h
    where
      rest : ℕ → Route
      rest next = route_within t e lid n next

      go : ((c : ℕ) → slice_get (visited t (tip t c) (rest (tip t c)).channels) i ≡ Some a → Goes i (tip t c) a) → (hop : Hop) → hop_by t lid s (entry e s lid) ≡ hop →
          slice_get (map (tip t) (after_hop t rest hop).channels) i ≡ Some a → Goes (suc i) s a
      go more (Stop end) is x = absurd (none_some a x)
      go more (Along c) is x = (c, is, more c x)

  goes_between : (i s a j b d : ℕ) → Goes i s a → Goes j s b → j ≡ i + d → Goes d a b
  goes_between zero s a j b d x y h = subst (λ k. Goes k a b) (omega arith) (subst (λ z. Goes j z b) x y)
  goes_between (suc i) s a zero b d x y h = absurd (omega arith)
  goes_between (suc i) s a (suc j) b d x y h = goes_between i (tip t x.0) a j b d x.2 (subst (λ c. Goes j (tip t c) b) (same_channel s y.0 x.0 y.1 x.1) y.2) (omega arith)

  goes_on : (i s a d b j : ℕ) → Goes i s a → Goes d a b → j ≡ i + d → Goes j s b
  goes_on zero s a d b j x y h = subst (λ k. Goes k s b) (omega arith) (subst (λ z. Goes d z b) (sym x) y)
  goes_on (suc i) s a d b zero x y h = absurd (omega arith)
  goes_on (suc i) s a d b (suc j) x y h = (x.0, x.1, goes_on i (tip t x.0) a d b j x.2 y (omega arith))

  goes_part : (m s j b : ℕ) → Goes j s b → m ≤ j → (x : ℕ) × Goes m s x
  goes_part zero s j b g h = (s, refl)
  goes_part (suc m) s zero b g h = absurd (omega arith)
  goes_part (suc m) s (suc j) b g h = let r : (x : ℕ) × Goes m (tip t g.0) x = goes_part m (tip t g.0) j b g.2 (omega arith) in (r.0, (g.0, g.1, r.1))

  goes_round : (q k a m : ℕ) → Goes k a a → m ≡ q * k → Goes m a a
  goes_round zero k a m g h = let none : 0 ≡ m = omega (arith, h) in subst (λ n. Goes n a a) none refl
  goes_round (suc q) k a m g h = goes_on k a a (q * k) a m g (goes_round q k a (q * k) g refl) (omega (arith, h))

  loops_on : (m s x : ℕ) → Goes m s x → (route_within t e lid m s).end ≡ Loop
  loops_on zero s x g = refl
  loops_on (suc m) s x g = ap (λ hop. (after_hop t (λ next. route_within t e lid m next) hop).end) g.1 ∙ loops_on m (tip t g.0) x g.2

  -- a switch that repeats is passed again and again
  repeats_on : (n s i j a : ℕ) → i < j → Goes i s a → Goes j s a → (route_within t e lid n s).end ≡ Loop
  repeats_on n s i j a h x y =
      let round : Goes (n * (j - i)) a a = goes_round n (j - i) a (n * (j - i)) (goes_between i s a j a (j - i) x y (omega arith)) refl in
      let far : Goes (i + n * (j - i)) s a = goes_on i s a (n * (j - i)) a (i + n * (j - i)) x round refl in
      let one : 1 ≤ j - i = omega arith in
      let part : (z : ℕ) × Goes n s z = goes_part n s (i + n * (j - i)) a far (omega (arith, mul-le-mul_left n one)) in
      loops_on n s part.0 part.1

  module _ (is : IsFabric t) where
    hop_below : (s c : ℕ) → hop_by t lid s (entry e s lid) ≡ Along c → tip t c < length t.switches
    hop_below s c h =
        let found : (row : ChannelRow) × (c < length t.channels) × (slice_get t.channels c ≡ Some row) × (row.tail.0 ≡ s) × (row.port ≡ entry e s lid)
        = channel_found t s (entry e s lid) c (along_channel t lid s (entry e s lid) c h) in
        subst (λ o. tip_of_row o < length t.switches) (sym found.2) (row_within t is found.0 (contains_of t.channels c found.0 found.2))

    goes_below : (i s a : ℕ) → s < length t.switches → Goes i s a → a < length t.switches
    goes_below zero s a h g = omega (arith, g)
    goes_below (suc i) s a h g = goes_below i (tip t g.0) a (hop_below s g.0 g.1) g.2

pub loop_repeats : LoopRepeats
loop_repeats t e s lid is low = (to, from)
  where
    to : (route t e s lid).end ≡ Loop → HasRepeat (visited t s (route t e s lid).channels)
    to loop = pigeonhole (length t.switches) (visited t s (route t e s lid).channels)
        (λ i a h. goes_below t e lid is i s a low (goes_visited t e lid (length t.switches) s i a h))
        (omega (arith, length-map (route t e s lid).channels (tip t), loop_is_long t e s lid loop))

    from : HasRepeat (visited t s (route t e s lid).channels) → (route t e s lid).end ≡ Loop
    from r = repeats_on t e lid (length t.switches) s r.1 r.2 r.0 r.3 (goes_visited t e lid (length t.switches) s r.1 r.0 r.4) (goes_visited t e lid (length t.switches) s r.2 r.0 r.5)
