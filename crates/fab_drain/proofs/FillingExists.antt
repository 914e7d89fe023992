-- A plan that fits a fabric has a filling, or is refused: there are finitely many packets, and so a first one of those that may stand on a virtual channel.
use Rattle.std.proofs.Common.{◌≡◌, ℕ, suc, ◌*◌, ◌<◌, ◌⊎◌, inl, inr, List, [], ◌∷◌, length, map, refl, sym, ◌∙◌, ap, subst, arith, Some, None, Option, Contains}
use Rattle.std.specs.Prelude.{slice_get, IfSome, MatchOption}
use Rattle.std.specs.List.{range_with_len}
use Rattle.std.proofs.lemmas.Bool.{cases_lt}
use Rattle.std.proofs.lemmas.List.{get_or_past}
use Rattle.std.proofs.lemmas.List.FromFn.{length-map-range_with_len, get_or-map-range_with_len}
use Rattle.std.proofs.lemmas.Option.{same_Some, slice_get_within, get_or_from_slice_get}
use Rattle.fab_graph.proofs.Decided.{Decided, equivalent, both, below_decided}
use Rattle.fab_graph.proofs.Members.{first_or_later}
use Rattle.fab_model.specs.declared.rows.TerminalRow.{TerminalRow}
use Rattle.fab_model.specs.Topology.{Topology, lids_of}
use Rattle.fab_model.specs.Connected.{IsConnectedTo}
use Rattle.fab_model.specs.WellFormed.{IsFabric}
use Rattle.fab_model.proofs.Lists.Found.{in_range}
use Rattle.fab_model.proofs.Lists.Members.{Contains_from_in}
use Rattle.fab_tables.specs.declared.plan.Plan.{Plan}
use Rattle.fab_tables.specs.declared.verdict.VirtualChannel.{VirtualChannel}
use Rattle.fab_tables.specs.Dependencies.{node_of}
use Rattle.fab_tables.specs.First.{IsBefore}
use Rattle.fab_tables.specs.Reading.{count_read}
use Rattle.fab_tables.proofs.Faults.Firsts.{order, before_itself, before_through, not_sooner}
use Rattle.fab_tables.proofs.Joined.ConnectedDecided.{connected_to_decided}
use Rattle.fab_tables.proofs.Joined.Lids.{connected_in_use}
use Rattle.fab_tables.proofs.Verdicts.CertifiedLaws.{none_some}
use Rattle.fab_certify.specs.declared.certified.Certified.{Certified}
use Rattle.fab_certify.specs.declared.certified.Certified.TheVariants as certified
use Rattle.fab_certify.specs.Certificate.{IsCertificate}
use Rattle.fab_certify.proofs.Exists.Certificates.{certificate_exists}
use Rattle.fab_certify.proofs.Exists.Listed.{Listed, some_listed, images_listed}
use Rattle.fab_drain.specs.declared.packet.Packet.{Packet}
use Rattle.fab_drain.specs.declared.state.Filled.{Filled}
use Rattle.fab_drain.specs.declared.state.Filled.TheVariants.{Full, Refused}
use Rattle.fab_certify.specs.Certificate.{IsSoundPlan}
use Rattle.fab_drain.specs.Loads.{hops_of, stand_of, IsPacket, Load, Loaded, loaded_at, loaded_with, channel_of_cell, StandsOn}
use Rattle.fab_drain.specs.Fills.{IsCandidate, key_of, GoesFurther, IsPlaced, IsFilling, IsFilled}
use Rattle.fab_drain.specs.Laws.{FillingExists}
use Rattle.fab_drain.proofs.Cells.{read_there, read_past, channel_is, node_below, one_channel}
use Rattle.fab_drain.proofs.HopCounts.{hops_of_short}
use Rattle.fab_drain.proofs.PacketHops.{hop_there}

-- ---- the first packet of a list

module _ (t : Topology) (P : Packet → Type 0) where
  abbrev FirstIn : List Packet → Type 0
  FirstIn xs = (q : Packet) × P q × ((r : Packet) → Contains xs r → P r → ¬ IsBefore (key_of t r) (key_of t q))

  abbrev NoneIn : List Packet → Type 0
  NoneIn xs = (r : Packet) → Contains xs r → ¬ P r

  module _ (x : Packet) (xs : List Packet) where
    passed : ¬ P x → FirstIn xs ⊎ NoneIn xs → FirstIn (x ∷ xs) ⊎ NoneIn (x ∷ xs)
    passed other (inr none) = inr (λ r has p. elim (first_or_later x xs r has) [ inl e ↦ other (subst P (sym e) p) | inr there ↦ none r there p ])
    passed other (inl m) = inl (
      m.0,
      m.1,
      λ r has p before. elim (first_or_later x xs r has) [ inl e ↦ other (subst P (sym e) p) | inr there ↦ m.2 r there p before ],
    )

    not_itself : (r : Packet) → x ≡ r → ¬ IsBefore (key_of t r) (key_of t x)
    not_itself r e before = before_itself (key_of t x) (subst (λ q. IsBefore (key_of t q) (key_of t x)) (sym e) before)

    chosen : P x → FirstIn xs ⊎ NoneIn xs → FirstIn (x ∷ xs)
    chosen p (inr none) = (x, p, λ r has q before. elim (first_or_later x xs r has) [ inl e ↦ not_itself r e before | inr there ↦ none r there q ])
    chosen p (inl m) = elim (order (key_of t x) (key_of t m.0)) [
      | inl sooner ↦ (
        x,
        p,
        λ r has q before. elim (first_or_later x xs r has) [
          | inl e ↦ not_itself r e before
          | inr there ↦ m.2 r there q (before_through (key_of t r) (key_of t x) (key_of t m.0) before sooner)
        ],
      )
      | inr other ↦ (
        m.0,
        m.1,
        λ r has q before. elim (first_or_later x xs r has) [
          | inl e ↦ not_sooner (key_of t x) (key_of t m.0) other (subst (λ y. IsBefore (key_of t y) (key_of t m.0)) (sym e) before)
          | inr there ↦ m.2 r there q before
        ],
      )
    ]

  first_in : ((q : Packet) → Decided (P q)) → (xs : List Packet) → FirstIn xs ⊎ NoneIn xs
  first_in decide [] = inr (λ r has p. omega (arith, has.1))
  first_in decide (x ∷ xs) = elim (decide x) [ inl p ↦ inl (chosen x xs p (first_in decide xs)) | inr other ↦ passed x xs other (first_in decide xs) ]

-- ---- what a virtual channel gets

record IsContent (t : Topology) (p : Plan) (v : VirtualChannel) (o : Option Loaded) : Type 0 where
  pub stand : IfSome o (StandsOn t p v)
  pub placed : MatchOption o ((q : Packet) → ¬ IsCandidate t p v q) (λ (loaded : Loaded). IsPlaced t p v loaded.packet)

below : (n k : ℕ) → k < n → Contains (range_with_len 0 n) k
below n k low = Contains_from_in (range_with_len 0 n) k (in_range 0 n k (omega arith) (omega (arith, low)))

module _ (t : Topology) (p : Plan) (is : IsFabric t) where
  -- ---- all packets

  abbrev packet_of : ℕ → ℕ → ℕ → Packet
  packet_of terminal lid position = record { terminal = record { 0 = terminal }; lid = record { 0 = lid }; position = position }

  abbrev IsMade : Packet → Type 0
  IsMade q =
      (k : ℕ) × Contains (range_with_len 0 (length t.terminals)) k × ((lid : ℕ) × Contains (lids_of t) lid × ((n : ℕ) × Contains (range_with_len 0 (length t.switches)) n × (packet_of k lid n ≡ q)))

  made : Listed IsMade
  made =
      some_listed (λ k q. (lid : ℕ) × Contains (lids_of t) lid × ((n : ℕ) × Contains (range_with_len 0 (length t.switches)) n × (packet_of k lid n ≡ q)))
      (λ k. some_listed (λ lid q. (n : ℕ) × Contains (range_with_len 0 (length t.switches)) n × (packet_of k lid n ≡ q)) (λ lid. images_listed (λ n. packet_of k lid n) (range_with_len 0 (length t.switches))) (lids_of t))
      (range_with_len 0 (length t.terminals))

  all_made : (q : Packet) → IsPacket t p q → Contains made.list q
  all_made q x = made.all q (
    q.terminal.0,
    below (length t.terminals) q.terminal.0 (slice_get_within t.terminals q.terminal.0 x.row x.terminal),
    (
      q.lid.0,
      connected_in_use t x.row.switch.0 q.lid.0 x.path.connected,
      (q.position, below (length t.switches) q.position (omega (arith, x.position, hops_of_short t p q x)), refl),
    ),
  )

  -- ---- what is decided

  packet_decided : (q : Packet) → Decided (IsPacket t p q)
  packet_decided q = go (slice_get t.terminals q.terminal.0) refl
    where
      go : (o : Option TerminalRow) → slice_get t.terminals q.terminal.0 ≡ o → Decided (IsPacket t p q)
      go None e = inr (λ x. none_some x.row (sym e ∙ x.terminal))
      go (Some row) e = equivalent (IsConnectedTo t row.switch.0 q.lid.0 × (q.position < length (hops_of t p q))) (IsPacket t p q)
          (λ y. record {
            row = row;
            terminal = e;
            path = record { terminal = (q.terminal.0, slice_get_within t.terminals q.terminal.0 row e, get_or_from_slice_get t.terminals q.terminal.0 row row e); connected = y.0 };
            position = y.1;
          })
          (λ x. (subst (λ (r : TerminalRow). IsConnectedTo t r.switch.0 q.lid.0) (same_Some x.row row (sym x.terminal ∙ e)) x.path.connected, x.position))
          (both _ _ (connected_to_decided t row.switch.0 q.lid.0) (below_decided q.position (length (hops_of t p q))))

  stands_decided : (o : Option VirtualChannel) (v : VirtualChannel) → Decided (o ≡ Some v)
  stands_decided None v = inr (λ e. none_some v e)
  stands_decided (Some u) v = equivalent (u ≡ v) (Some u ≡ Some v) (λ e. ap Some e) (λ e. same_Some u v e) (one_channel u v)

  module _ (v : VirtualChannel) where
    candidate_decided : (q : Packet) → Decided (IsCandidate t p v q)
    candidate_decided q = equivalent (IsPacket t p q × (stand_of t p q ≡ Some v)) (IsCandidate t p v q) (λ x. record { is_packet = x.0; stands = x.1 }) (λ c. (c.is_packet, c.stands))
        (both _ _ (packet_decided q) (stands_decided (stand_of t p q) v))

    further_decided : (q : Packet) → Decided (GoesFurther t p v q)
    further_decided q = equivalent (IsCandidate t p v q × (suc q.position < length (hops_of t p q))) (GoesFurther t p v q) (λ x. record { candidate = x.0; further = x.1 }) (λ g. (g.candidate, g.further))
        (both _ _ (candidate_decided q) (below_decided (suc q.position) (length (hops_of t p q))))

    filled_with : (q : Packet) → IsCandidate t p v q → IsPlaced t p v q → (o : Option Loaded) × IsContent t p v o
    filled_with q c placed = (Some (loaded_with t p q), record { stand = record { is_packet = c.is_packet; stands = c.stands; remaining = refl }; placed = placed })

    content : (o : Option Loaded) × IsContent t p v o
    content = elim (first_in t (GoesFurther t p v) further_decided made.list) [
      | inl m ↦ filled_with m.0 m.1.candidate (inl (record { holds = m.1; first = λ q g. m.2 q (all_made q g.candidate.is_packet) g }))
      | inr last ↦ elim (first_in t (IsCandidate t p v) candidate_decided made.list) [
        | inl m ↦ filled_with m.0 m.1 (inr (λ q g. last q (all_made q g.candidate.is_packet) g, record { holds = m.1; first = λ q c. m.2 q (all_made q c.is_packet) c }))
        | inr none ↦ (None, record { stand = tt; placed = λ q c. none q (all_made q c.is_packet) c })
      ]
    ]

  -- ---- the load

  module _ (admitted : IsSoundPlan t p) where
    abbrev count : ℕ
    count = count_read p.lanes

    abbrev cell : ℕ → Option Loaded
    cell k = (content (channel_of_cell count k)).0

    abbrev load : Load
    load = record { count = count; cells = map cell (range_with_len 0 (length t.channels * count)) }

    each : length load.cells ≡ length t.channels * count
    each = length-map-range_with_len cell 0 (length t.channels * count)

    -- without a cell it has no candidate
    outside : (v : VirtualChannel) → (v.channel.0 < length t.channels → v.lane < count → ⊥) → loaded_at load v ≡ None → IsContent t p v (loaded_at load v)
    outside v far e = subst (IsContent t p v) (sym e) (record {
      stand = tt;
      placed = λ q c. let there : (v.channel.0 < length t.channels) × (v.lane < count) = hop_there t p is admitted q q.position v c.is_packet c.stands in far there.0 there.1;
    })

    contents : (v : VirtualChannel) → IsContent t p v (loaded_at load v)
    contents v = elim (cases_lt v.lane count) [
      | inr past ↦ outside v (λ a b. omega (arith, b, past)) (read_past load v past)
      | inl low ↦ elim (cases_lt (node_of count v) (length t.channels * count)) [
        | inr beyond ↦ outside v (λ a b. omega (arith, node_below (length t.channels) count v a b, beyond))
            (read_there load v low ∙ get_or_past load.cells (node_of count v) None (omega (arith, beyond, each)))
        | inl within ↦ subst (IsContent t p v)
            (sym (read_there load v low ∙ get_or-map-range_with_len cell 0 (length t.channels * count) (node_of count v) (node_of count v) None within (omega arith)
            ∙ ap (λ (u : VirtualChannel). (content u).0) (channel_is count v low))) (content v).1
      ]
    ]

    filling : IsFilling t p load
    filling = record { is_load = record { fabric = is; count = refl; each = each; stand = λ v. (contents v).stand }; placed = λ v. (contents v).placed }

pub filling_exists : FillingExists
filling_exists t p is fits = go certificate.0 certificate.1
  where
    certificate : (answer : Certified) × IsCertificate t p answer
    certificate = certificate_exists t p is fits

    full : IsSoundPlan t p → (x : Filled) × IsFilled t p x
    full admitted = (Full (load t p is admitted), (admitted, filling t p is admitted))

    go : (answer : Certified) → IsCertificate t p answer → (x : Filled) × IsFilled t p x
    go (certified.Refused fault) c = (Refused fault, c)
    go (certified.RingUsed ring) c = full (c.0, c.1, c.2.0)
    go (certified.Numbers new) c = full (c.0, c.1, c.2.0)
