-- A plan has one filling: of the packets that may stand on a virtual channel one has the first key.
use Rattle.std.proofs.Common.{◌≡◌, ℕ, ◌*◌, ◌<◌, inl, inr, List, [], ◌∷◌, length, refl, sym, ◌∙◌, ap, subst, arith, Some, None, Option}
use Rattle.std.specs.Prelude.{slice_get, slice_index, slice_index_or, MatchOption, IfSome}
use Rattle.std.proofs.lemmas.Bool.{cases_order}
use Rattle.std.proofs.lemmas.List.{ext_get_or}
use Rattle.std.proofs.lemmas.Option.{get_or_from_slice_get, slice_get_within}
use Rattle.fab_model.specs.declared.rows.TerminalRow.{TerminalRow}
use Rattle.fab_model.specs.Topology.{Topology}
use Rattle.fab_model.specs.WellFormed.{IsFabric, UseOtherPorts}
use Rattle.fab_tables.specs.declared.plan.Plan.{Plan}
use Rattle.fab_tables.specs.declared.verdict.Verdict.{Verdict}
use Rattle.fab_tables.specs.declared.verdict.VirtualChannel.{VirtualChannel}
use Rattle.fab_tables.specs.First.{IsBefore}
use Rattle.fab_certify.specs.declared.certified.Certified.{Certified}
use Rattle.fab_certify.specs.declared.certified.Certified.TheVariants as certified
use Rattle.fab_certify.specs.Certificate.{IsCertificate}
use Rattle.fab_certify.proofs.OneCertificate.{one_certificate}
use Rattle.fab_certify.proofs.Plainly.{refusal_is_unsound}
use Rattle.fab_certify.proofs.ReadAlike.{sound_alike}
use Rattle.fab_drain.specs.declared.packet.Packet.{Packet}
use Rattle.fab_drain.specs.declared.state.Filled.TheVariants.{Full, Refused}
use Rattle.fab_certify.specs.Certificate.{IsSoundPlan}
use Rattle.fab_drain.specs.Loads.{remaining_hops, IsPacket, Load, Loaded, loaded_at, channel_of_cell, StandsOn}
use Rattle.fab_drain.specs.Fills.{IsCandidate, key_of, key_of_row, IsFirstOf, GoesFurther, IsPlaced, IsFilling}
use Rattle.fab_drain.specs.Laws.{OneFilling}
use Rattle.fab_drain.proofs.Cells.{read_cell}

-- ---- the first key

same_key : (p q : List ℕ) → ¬ IsBefore p q → ¬ IsBefore q p → p ≡ q
same_key [] [] a b = refl
same_key [] (n ∷ ns) a b = absurd (a tt)
same_key (m ∷ ms) [] a b = absurd (b tt)
same_key (m ∷ ms) (n ∷ ns) a b = elim (cases_order m n) [
  | inr (inl less) ↦ absurd (a (inl less))
  | inr (inr more) ↦ absurd (b (inl more))
  | inl e ↦ ap (λ k. k ∷ ms) e ∙ ap (λ ks. n ∷ ks) (same_key ms ns (λ h. a (inr (e, h))) (λ h. b (inr (sym e, h))))
]

-- two terminals at one port are one
pub one_terminal : (t : Topology) → IsFabric t → (i j : ℕ) (a b : TerminalRow) → slice_get t.terminals i ≡ Some a → slice_get t.terminals j ≡ Some b → a.switch.0 ≡ b.switch.0 → a.port ≡ b.port → i ≡ j
one_terminal t is i j a b x y switches ports = elim (cases_order i j) [
  | inl e ↦ e
  | inr (inl less) ↦ absurd (apart i j a b x y less switches ports)
  | inr (inr more) ↦ absurd (apart j i b a y x more (sym switches) (sym ports))
]
  where
    apart : (i j : ℕ) (a b : TerminalRow) → slice_get t.terminals i ≡ Some a → slice_get t.terminals j ≡ Some b → i < j → a.switch.0 ≡ b.switch.0 → a.port ≡ b.port → ⊥
    apart i j a b x y less switches ports =
        let differ : UseOtherPorts (slice_index_or t.terminals i a) (slice_index_or t.terminals j a) = is.rows.switch_ports_differ i j a less (slice_get_within t.terminals j b y) in
        let others : UseOtherPorts a b =
        subst (λ r. UseOtherPorts a r) (get_or_from_slice_get t.terminals j b a y) (subst (λ r. UseOtherPorts r (slice_index_or t.terminals j a)) (get_or_from_slice_get t.terminals i a a x) differ) in
        others switches ports

-- packets of one key are one
pub one_packet : (t : Topology) (p : Plan) → IsFabric t → (a b : Packet) → IsPacket t p a → IsPacket t p b → key_of t a ≡ key_of t b → a ≡ b
one_packet t p is a b x y same = go a b lids terminals positions
  where
    keys : key_of_row a (Some x.row) ≡ key_of_row b (Some y.row)
    keys = sym (ap (λ o. key_of_row a o) x.terminal) ∙ same ∙ ap (λ o. key_of_row b o) y.terminal

    lids : a.lid.0 ≡ b.lid.0
    lids = ap (λ k. slice_index k 0) keys

    positions : a.position ≡ b.position
    positions = ap (λ k. slice_index k 3) keys

    terminals : a.terminal.0 ≡ b.terminal.0
    terminals = one_terminal t is a.terminal.0 b.terminal.0 x.row y.row x.terminal y.terminal (ap (λ k. slice_index k 1) keys) (ap (λ k. slice_index k 2) keys)

    go : (a b : Packet) → a.lid.0 ≡ b.lid.0 → a.terminal.0 ≡ b.terminal.0 → a.position ≡ b.position → a ≡ b
    go a b e f g =
        ap (λ n. record { terminal = record { 0 = n }; lid = a.lid; position = a.position }) f
        ∙ ap (λ n. record { terminal = b.terminal; lid = record { 0 = n }; position = a.position }) e
        ∙ ap (λ n. record { terminal = b.terminal; lid = b.lid; position = n }) g

module _ (t : Topology) (p : Plan) (is : IsFabric t) where
  one_first : (P : Packet → Type 0) → ((q : Packet) → P q → IsPacket t p q) → (a b : Packet) → IsFirstOf t P a → IsFirstOf t P b → a ≡ b
  one_first P packet a b x y = one_packet t p is a b (packet a x.holds) (packet b y.holds) (same_key (key_of t a) (key_of t b) (y.first a x.holds) (x.first b y.holds))

  one_placed : (v : VirtualChannel) (a b : Packet) → IsPlaced t p v a → IsPlaced t p v b → a ≡ b
  one_placed v a b (inl x) (inl y) = one_first (GoesFurther t p v) (λ q g. g.candidate.is_packet) a b x y
  one_placed v a b (inl x) (inr y) = absurd (y.0 a x.holds)
  one_placed v a b (inr x) (inl y) = absurd (x.0 b y.holds)
  one_placed v a b (inr x) (inr y) = one_first (IsCandidate t p v) (λ q c. c.is_packet) a b x.1 y.1

  placed_candidate : (v : VirtualChannel) (a : Packet) → IsPlaced t p v a → IsCandidate t p v a
  placed_candidate v a (inl x) = x.holds.candidate
  placed_candidate v a (inr x) = x.1.holds

  -- two contents of a cell are one
  one_content : (v : VirtualChannel) (o q : Option Loaded) → IfSome o (StandsOn t p v) → IfSome q (StandsOn t p v) →
      MatchOption o ((r : Packet) → ¬ IsCandidate t p v r) (λ (x : Loaded). IsPlaced t p v x.packet) → MatchOption q ((r : Packet) → ¬ IsCandidate t p v r) (λ (x : Loaded). IsPlaced t p v x.packet) → o ≡ q
  one_content v None None a b x y = refl
  one_content v None (Some m) a b x y = absurd (x m.packet (placed_candidate v m.packet y))
  one_content v (Some m) None a b x y = absurd (y m.packet (placed_candidate v m.packet x))
  one_content v (Some m) (Some n) a b x y =
      let packets : m.packet ≡ n.packet = one_placed v m.packet n.packet x y in
      let hops : m.remaining ≡ n.remaining = a.remaining ∙ ap (λ q. remaining_hops t p q) packets ∙ sym b.remaining in
      ap Some (ap (λ q. record { packet = q; remaining = m.remaining }) packets ∙ ap (λ k. record { packet = n.packet; remaining = k }) hops)

  one_load : (x y : Load) → IsFilling t p x → IsFilling t p y → x ≡ y
  one_load x y a b =
      let counts : x.count ≡ y.count = a.is_load.count ∙ sym b.is_load.count in
      let lengths : length x.cells ≡ length y.cells = a.is_load.each ∙ ap (λ n. length t.channels * n) counts ∙ sym b.is_load.each in
      let cells : x.cells ≡ y.cells = ext_get_or None x.cells y.cells lengths (λ k low. at k low lengths counts) in
      ap (λ n. record { count = n; cells = x.cells }) counts ∙ ap (λ (cs : List (Option Loaded)). record { count = y.count; cells = cs }) cells
    where
      at : (k : ℕ) → k < length x.cells → length x.cells ≡ length y.cells → x.count ≡ y.count → slice_index_or x.cells k None ≡ slice_index_or y.cells k None
      at k low lengths counts =
          let v : VirtualChannel = channel_of_cell x.count k in
          let same : channel_of_cell y.count k ≡ v = ap (λ n. channel_of_cell n k) (sym counts) in
          sym (read_cell x (length t.channels) k a.is_load.each low)
          ∙ one_content v (loaded_at x v) (loaded_at y v) (a.is_load.stand v) (b.is_load.stand v) (a.placed v) (b.placed v)
          ∙ ap (λ u. loaded_at y u) (sym same) ∙ read_cell y (length t.channels) k b.is_load.each (omega (arith, low, lengths))

-- an admitted plan is not refused
admitted_or_refused : (t : Topology) (p : Plan) (fault : Verdict) → IsSoundPlan t p → IsCertificate t p (certified.Refused fault) → ⊥
admitted_or_refused t p fault a c = refusal_is_unsound t p.tables c.0 fault c.2 (sound_alike t p.tables p.lanes a.0 c.0 a.1 c.1 a.2)

one_fault : (a b : Verdict) → ◌≡◌ {A = Certified} (certified.Refused a) (certified.Refused b) → a ≡ b
one_fault a b e = cc

pub one_filling : OneFilling
one_filling t p (Full x) (Full y) is fits a b = ap Full (one_load t p is x y a.1 b.1)
one_filling t p (Full x) (Refused fault) is fits a b = absurd (admitted_or_refused t p fault a.0 b)
one_filling t p (Refused fault) (Full y) is fits a b = absurd (admitted_or_refused t p fault b.0 a)
one_filling t p (Refused fault) (Refused other) is fits a b =
    ap Refused (one_fault fault other (one_certificate t p (certified.Refused fault) (certified.Refused other) fits a b))
