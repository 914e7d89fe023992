-- A walk over the hops of a route that judges each.
use Rattle.std.proofs.Common.{◌≡◌, ℕ, suc, ◌<◌, List, [], ◌∷◌, length, drop, refl, sym, ◌∙◌, ap, subst, inl, inr, arith, Some, None, Option, slice_get, Bool, true, false, ◌⊎◌, get_or-set_other}
use Rattle.std.specs.Prelude.{IfSome, IsSome, slice_index_or, slice_set}
use Rattle.std.proofs.lemmas.Bool.{cases_order, cases_lt, cases_eq}
use Rattle.std.proofs.lemmas.Option.{same_Some, slice_get_within}
use Rattle.std.proofs.lemmas.List.{length-drop, length-set}
use Rattle.fab_model.specs.declared.rows.ChannelRow.{ChannelRow}
use Rattle.fab_model.specs.declared.rows.Lid.{Lid}
use Rattle.fab_model.specs.Topology.{Topology}
use Rattle.fab_tables.specs.declared.verdict.VirtualChannel.{VirtualChannel}
use Rattle.fab_tables.specs.declared.verdict.Verdict.{Verdict}
use Rattle.fab_tables.specs.declared.lane_faults.LaneFaults.{LaneFaults}
use Rattle.fab_tables.specs.declared.end.End.TheVariants.{Delivered}
use Rattle.fab_tables.specs.declared.starts.Start.{Start}
use Rattle.fab_tables.specs.Entries.{Entries, cell}
use Rattle.fab_tables.specs.LaneTables.{LaneTables}
use Rattle.fab_tables.specs.Route.{route}
use Rattle.fab_tables.specs.VirtualChannels.{on_channels}
use Rattle.fab_tables.specs.HopsAhead.{HopsAhead, TakesHop}
use Rattle.fab_tables.specs.First.{FindsFirst, Beneath}
use Rattle.fab_tables.specs.Starts.{StartsAt}
use Rattle.fab_tables.specs.LaneFaults.{IsSoughtAt}
use Rattle.fab_tables.specs.HopFaults.{fault_of_hop}
use Rattle.fab_tables.specs.Judged.{IsRight, before_at, IsRightAt, AreRight, hops_from, IsJudgedAt, IsRoomFor, AreJudged}
use Rattle.fab_tables.proofs.Paths.Routes.{channel_there}
use Rattle.fab_tables.proofs.Paths.RoutesBehind.{behind_tail, hops_dropped, channel_of_hop}
use Rattle.fab_tables.proofs.Paths.Ways.{drop_step}
use Rattle.fab_tables.proofs.Paths.HopsTaken.{leaves_low}
use Rattle.fab_tables.proofs.Faults.HopFaults.{right_of, hop_first}
use Rattle.fab_tables.proofs.Faults.Judged.{right_dropped, right_later, right_from, one_cell, hops_on, plain_right}

module _ (faults : LaneFaults) (t : Topology) (e : Entries) (l : LaneTables) (lid : Lid) (start : Start) (of_level : ℕ) where
  abbrev hops : List VirtualChannel
  hops = hops_from t e l lid.0 start.switch.0 start.port of_level

  abbrev channels : List ℕ
  channels = (route t e start.switch.0 lid.0).channels

  -- so many hops are passed, and all of them are right; where the rest is judged, so are all behind the next one
  pub record IsJudging (ahead : HopsAhead) (before : Option VirtualChannel) (is_judged : Bool) : Type 0 where
    pub passed : ℕ
    pub rest : ahead.hops ≡ drop passed hops
    pub last : before ≡ before_at hops passed
    pub numbered : IfSome before (λ first. (first.channel.0 < l.channels) × (first.lane < 15))
    pub right : (k : ℕ) → k < passed → IsRightAt faults l hops k
    pub behind : is_judged ≡ true → (k : ℕ) → passed < k → IsRightAt faults l hops k

  abbrev pub judging_starts : (ahead : HopsAhead) → ahead.hops ≡ hops → IsJudging ahead None false
  judging_starts ahead is = record { passed = 0; rest = is; last = refl; numbered = tt; right = λ k less. absurd (omega arith); behind = λ x. cc }

  -- at the end all are right
  pub judging_ends : (ahead : HopsAhead) (before : Option VirtualChannel) (is_judged : Bool) → IsJudging ahead before is_judged → ahead.hops ≡ [] → AreRight faults l hops
  judging_ends ahead before is_judged h over k v at = h.right k (omega (arith, slice_get_within hops k v at, length-drop h.passed hops, ap (λ (xs : List VirtualChannel). length xs) (sym h.rest ∙ over))) v at

  -- one of so many hops leaves the switch
  abbrev HasLeft : ℕ → ℕ → Type 0
  HasLeft passed x = (k : ℕ) × (v : VirtualChannel) × (row : ChannelRow) × (k < passed) × (slice_get hops k ≡ Some v) × (slice_get t.channels v.channel.0 ≡ Some row) × (row.tail.0 ≡ x)

  -- the marks are those at first, and one at each switch that was left
  pub record HaveMarked (first marks : List Bool) (passed : ℕ) : Type 0 where
    pub room : IsRoomFor t marks
    pub marked : (x n : ℕ) → n < 16 → slice_index_or marks (cell 16 x n) false ≡ true → (slice_index_or first (cell 16 x n) false ≡ true) ⊎ ((n ≡ of_level) × HasLeft passed x)

  pub marking_starts : (marks : List Bool) → IsRoomFor t marks → HaveMarked marks marks 0
  marking_starts marks room = record { room = room; marked = λ x n low is. inl is }

  -- where all hops are right, the switches that were left are judged
  pub marks_judged : (route t e start.switch.0 lid.0).end ≡ Delivered → (first marks : List Bool) (passed : ℕ) → HaveMarked first marks passed → AreRight faults l hops → AreJudged faults t e l lid.0 first → AreJudged faults t e l lid.0 marks
  marks_judged delivered first marks passed have right are = record {
    room = have.room;
    right = λ x n low is. elim (have.marked x n low is) [ inl before ↦ are.right x n low before | inr own ↦ subst (λ m. IsJudgedAt faults t e l lid.0 x m) (sym own.0) (left_judged x own.1) ];
  }
    where
      left_judged : (x : ℕ) → HasLeft passed x → IsJudgedAt faults t e l lid.0 x of_level
      left_judged x left =
          let on : (q : ℕ) × (on_channels t l of_level q (drop left.0 channels) ≡ drop left.0 hops) = hops_on t l of_level left.0 start.port channels in
          subst (λ y. IsJudgedAt faults t e l lid.0 y of_level) left.6 (
            on.0,
            subst (λ vs. AreRight faults l vs) (sym (ap (λ cs. on_channels t l of_level on.0 cs)
                (behind_tail t e lid.0 start.switch.0 left.0 left.1.channel.0 left.2 delivered (channel_of_hop t l of_level channels start.port left.0 left.1 left.4) left.5) ∙ on.1)) (right_dropped faults l hops left.0 right),
          )

  module _ (starts : StartsAt t e l lid.0 start of_level) (old new : HopsAhead) (hop : VirtualChannel) (before : Option VirtualChannel) (is_judged : Bool) (judging : IsJudging old before is_judged) (steps : TakesHop old (Some hop) new) where
    pub there : (slice_get hops judging.passed ≡ Some hop) × (new.hops ≡ drop (suc judging.passed) hops)
    there = drop_step hops new.hops judging.passed hop (sym steps ∙ judging.rest)

    on_route : slice_get (route t e start.switch.0 lid.0).channels judging.passed ≡ Some hop.channel.0
    on_route = channel_of_hop t l of_level (route t e start.switch.0 lid.0).channels start.port judging.passed hop there.0

    pub channel_low : hop.channel.0 < length t.channels
    channel_low = channel_there t e lid.0 starts.toward.fabric.rows judging.passed start.switch.0 hop.channel.0 on_route

    pub hop_low : hop.channel.0 < l.channels
    hop_low = omega (arith, channel_low, starts.lanes.channels)

    module _ (row : ChannelRow) (is : slice_get t.channels hop.channel.0 ≡ Some row) where
      pub tail_low : row.tail.0 < length t.switches
      tail_low = omega (arith, leaves_low t l hop.channel.0 row starts.toward.fabric starts.lanes is, starts.lanes.switches)

      module _ (low : of_level < 16) (first marks : List Bool) (have : HaveMarked first marks judging.passed) where
        -- no switch is left twice on a delivered route
        left_once : (route t e start.switch.0 lid.0).end ≡ Delivered → ¬ HasLeft judging.passed row.tail.0
        left_once delivered left =
            let same : drop left.0 channels ≡ drop judging.passed channels
            = sym (behind_tail t e lid.0 start.switch.0 left.0 left.1.channel.0 left.2 delivered (channel_of_hop t l of_level channels start.port left.0 left.1 left.4) left.5)
            ∙ ap (λ x. (route t e x lid.0).channels) left.6 ∙ behind_tail t e lid.0 start.switch.0 judging.passed hop.channel.0 row delivered on_route is in
            omega (arith, left.3, ap (λ (cs : List ℕ). length cs) same, length-drop left.0 channels, length-drop judging.passed channels, slice_get_within channels judging.passed hop.channel.0 on_route)

        pub judged_there : (route t e start.switch.0 lid.0).end ≡ Delivered → AreJudged faults t e l lid.0 first → slice_index_or marks (cell 16 row.tail.0 of_level) false ≡ true → IsJudgedAt faults t e l lid.0 row.tail.0 of_level
        judged_there delivered are marked = elim (have.marked row.tail.0 of_level low marked) [ inl before ↦ are.right row.tail.0 of_level low before | inr own ↦ absurd (left_once delivered own.1) ]

        pub marking_goes : HaveMarked first (slice_set marks (cell 16 row.tail.0 of_level) true) (suc judging.passed)
        marking_goes = record { room = length-set marks (cell 16 row.tail.0 of_level) true ∙ have.room; marked = marked }
          where
            later : (x : ℕ) → HasLeft judging.passed x → HasLeft (suc judging.passed) x
            later x left = (left.0, left.1, left.2, omega (arith, left.3), left.4, left.5, left.6)

            marked : (x n : ℕ) → n < 16 → slice_index_or (slice_set marks (cell 16 row.tail.0 of_level) true) (cell 16 x n) false ≡ true → (slice_index_or first (cell 16 x n) false ≡ true) ⊎ ((n ≡ of_level) × HasLeft (suc judging.passed) x)
            marked x n few at = elim (cases_eq (cell 16 x n) (cell 16 row.tail.0 of_level)) [
              | inl same ↦
                  (let both : (x ≡ row.tail.0) × (n ≡ of_level) = one_cell x n row.tail.0 of_level few low same in
                  inr (both.1, (judging.passed, hop, row, omega arith, there.0, is, sym both.0)))
              | inr other ↦ elim (have.marked x n few (sym (get_or-set_other marks (cell 16 row.tail.0 of_level) (cell 16 x n) true false other) ∙ at)) [ inl before ↦ inl before | inr own ↦ inr (own.0, later x own.1) ]
            ]

      module _ (found : Option Verdict) (found_is : found ≡ fault_of_hop faults l lid start.switch row.tail before hop) where
        same_found : found ≡ fault_of_hop faults l lid start.switch row.tail (before_at hops judging.passed) hop
        same_found = found_is ∙ ap (λ o. fault_of_hop faults l lid start.switch row.tail o hop) judging.last

        pub judging_finds : IsSome found → FindsFirst (Beneath (1 ∷ lid.0 ∷ start.switch.0 ∷ start.port ∷ []) (IsSoughtAt faults t e l)) found
        judging_finds some = hop_first faults t e l lid start of_level starts judging.passed hop row.tail found there.0 (row, is, refl) same_found some judging.right

        -- without a fault the hop is right
        pub this_right : found ≡ None → IsRight faults l (before_at hops judging.passed) hop
        this_right none = right_of faults l lid start.switch row.tail (before_at hops judging.passed) hop (sym same_found ∙ none)

        right_here : found ≡ None → (k : ℕ) → k ≡ judging.passed → IsRightAt faults l hops k
        right_here none k eq v at =
            let same : hop ≡ v = same_Some hop v (sym there.0 ∙ ap (λ i. slice_get hops i) (sym eq) ∙ at) in
            subst (λ i. IsRight faults l (before_at hops i) v) (sym eq) (subst (λ (w : VirtualChannel). IsRight faults l (before_at hops judging.passed) w) same (this_right none))

        -- and where the rest is judged all are
        pub judging_stops : found ≡ None → is_judged ≡ true → AreRight faults l hops
        judging_stops none known k = elim (cases_order k judging.passed) [
          | inl same ↦ right_here none k same
          | inr (inl less) ↦ judging.right k less
          | inr (inr more) ↦ judging.behind known k more
        ]

        -- without maps of pairs all are right where the switch that this one leaves is judged
        pub judging_rests : found ≡ None → l.pairs ≡ [] → IsJudgedAt faults t e l lid.0 row.tail.0 of_level → (route t e start.switch.0 lid.0).end ≡ Delivered → AreRight faults l hops
        judging_rests none plain judged delivered k = elim (cases_order k judging.passed) [
          | inl same ↦ right_here none k same
          | inr (inl less) ↦ judging.right k less
          | inr (inr more) ↦ right_later faults l hops judging.passed behind k more
        ]
          where
            behind : AreRight faults l (drop judging.passed hops)
            behind =
                let on : (q : ℕ) × (on_channels t l of_level q (drop judging.passed channels) ≡ drop judging.passed hops) = hops_on t l of_level judging.passed start.port channels in
                subst (λ vs. AreRight faults l vs) (ap (λ cs. on_channels t l of_level on.0 cs) (behind_tail t e lid.0 start.switch.0 judging.passed hop.channel.0 row delivered on_route is) ∙ on.1)
                (plain_right faults t e l lid.0 row.tail.0 of_level plain judged on.0)

        -- what is judged from the switch on that this one leaves is right behind this one
        pub behind_right : IsJudgedAt faults t e l lid.0 row.tail.0 of_level → (route t e start.switch.0 lid.0).end ≡ Delivered → (k : ℕ) → suc judging.passed < k → IsRightAt faults l hops k
        behind_right judged delivered =
            right_later faults l hops (suc judging.passed)
            (subst (λ vs. AreRight faults l vs)
            (ap (λ cs. drop 1 (on_channels t l of_level 0 cs)) (behind_tail t e lid.0 start.switch.0 judging.passed hop.channel.0 row delivered on_route is)
            ∙ sym (hops_dropped t l of_level judging.passed start.port 0 channels))
            (right_from faults t e l lid.0 row.tail.0 judged.0 of_level judged.1))

        pub right_so_far : found ≡ None → (k : ℕ) → k < suc judging.passed → IsRightAt faults l hops k
        right_so_far none k less = elim (cases_lt k judging.passed) [ inl low ↦ judging.right k low | inr past ↦ right_here none k (omega arith) ]

        abbrev pub judging_goes : found ≡ None → (next : Bool) → (next ≡ true → IsJudgedAt faults t e l lid.0 row.tail.0 of_level) → (route t e start.switch.0 lid.0).end ≡ Delivered → IsJudging new (Some hop) next
        judging_goes none next marked delivered = record {
          passed = suc judging.passed;
          rest = there.1;
          last = sym there.0;
          numbered = (hop_low, omega (arith, (this_right none).lane, starts.lanes.whole.count.1));
          right = right_so_far none;
          behind = λ known. behind_right (marked known) delivered;
        }
