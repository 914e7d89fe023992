-- Routes are collected from start to start, and from LID to LID.
use Rattle.std.proofs.Common.{◌≡◌, ℕ, ◌+◌, ◌*◌, ◌<◌, ◌≤◌, ◌^◌, Bool, false, List, [], length, replicate, sym, ◌∙◌, ap, subst, inl, inr, arith, Contains, Some, None, Option, slice_get}
use Rattle.std.specs.Prelude.{slice_index_or, IsSome}
use Rattle.std.proofs.lemmas.Bool.{cases_lt, false≢true}
use Rattle.std.proofs.lemmas.List.{get_or-replicate, get_or_past, length-replicate}
use Rattle.std.proofs.lemmas.List.Elements.{All-contains}
use Rattle.std.proofs.lemmas.Option.{same_Some}
use Rattle.std.proofs.Math.Nat.{mul-le-mul_left}
use Rattle.fab_model.specs.declared.rows.TerminalRow.{TerminalRow}
use Rattle.fab_model.specs.Topology.{Topology, lids_of}
use Rattle.fab_model.specs.Connected.{IsConnectedTo}
use Rattle.fab_model.specs.WellFormed.{IsFabric}
use Rattle.fab_tables.specs.declared.verdict.VirtualChannel.{VirtualChannel}
use Rattle.fab_tables.specs.Entries.{Entries}
use Rattle.fab_tables.specs.LaneTables.{LaneTables, level}
use Rattle.fab_tables.specs.Route.{route}
use Rattle.fab_tables.specs.VirtualChannels.{virtual_channels, at_level}
use Rattle.fab_tables.specs.Dependencies.{IsPath, IsUsed, Depends, DependsByNode, node_of}
use Rattle.fab_tables.specs.Plain.{plain_channels}
use Rattle.fab_tables.proofs.Verdicts.PlainLaws.{same_channels}
use Rattle.fab_tables.proofs.Verdicts.CertifiedLaws.{get_of}
use Rattle.fab_tables.specs.declared.starts.Start.{Start}
use Rattle.fab_tables.specs.Starts.{start_of, IsOfTerminal, StandsFor, AreStartsFor}
use Rattle.fab_tables.proofs.Joined.Lids.{connected_in_use}
use Rattle.fab_certify.specs.Numbered.{IsSound}
use Rattle.fab_certify.specs.Collected.{Collected, IsMarked, Grows, IsFromRoutes, HasHops, HasRoutes, HasRoutesFor, AreDependencies}
use Rattle.fab_certify.proofs.Collected.BehindHops.{hops_grow}
use Rattle.fab_certify.proofs.Collected.CollectingHops.{grows_none, grows_on}

module _ (t : Topology) (e : Entries) (l : LaneTables) where
  routes_grow : (lid : ℕ) (start : Start) (a b : Collected) → Grows a b → HasRoutes t e l lid start a → HasRoutes t e l lid start b
  routes_grow lid start a b grows has p path is = hops_grow l.count (virtual_channels t e l p lid) a b grows (has p path is)

  -- from a start that isn't connected, or has no level, there is no route
  pub routes_apart : (lid : ℕ) (start : Start) (c : Collected) → ¬ IsConnectedTo t start.switch.0 lid → HasRoutes t e l lid start c
  routes_apart lid start c apart p path is = absurd (apart (subst (λ (x : Start). IsConnectedTo t x.switch.0 lid) is path.connected))

  pub routes_unleveled : IsSound t e l → (lid : ℕ) (start : Start) (c : Collected) → level l start.switch.0 lid ≡ None → HasRoutes t e l lid start c
  routes_unleveled sound lid start c none p path is = absurd (not_none (level l p.switch.0 lid) (sound.level p lid path) (ap (λ (x : Start). level l x.switch.0 lid) is ∙ none))
    where
      not_none : (o : Option ℕ) → IsSome o → o ≡ None → ⊥
      not_none None a b = cc
      not_none (Some n) a b = cc

  -- packets of a terminal have the hops of the start that stands for it
  hops_alike : (start : Start) (q p : TerminalRow) (lid : ℕ) → start_of q ≡ start → StandsFor l start p → virtual_channels t e l q lid ≡ virtual_channels t e l p lid
  hops_alike start q p lid of stands = elim stands.alike [
    | inl port ↦
        (let ports : q.port ≡ p.port = ap (λ (x : Start). x.port) of ∙ port in
        ap (λ x. at_level t l q.port ((route t e x lid).channels) (level l x lid)) switches ∙ ap (λ x. at_level t l x ((route t e p.switch.0 lid).channels) (level l p.switch.0 lid)) ports)
    | inr plain ↦ same_channels t e l plain q lid ∙ ap (λ s. plain_channels t e l s lid) switches ∙ sym (same_channels t e l plain p lid)
  ]
    where
      switches : q.switch.0 ≡ p.switch.0
      switches = ap (λ (x : Start). x.switch.0) of ∙ stands.switch

-- the starts of smaller index are collected
pub record AreCollectedFrom (t : Topology) (e : Entries) (l : LaneTables) (lid : ℕ) (starts : List Start) (old now : Collected) (index : ℕ) : Type 0 where
  pub from_routes : IsFromRoutes t e l now
  pub grows : Grows old now
  pub has : (k : ℕ) (start : Start) → k < index → slice_get starts k ≡ Some start → HasRoutes t e l lid start now

pub none_collected : (t : Topology) (e : Entries) (l : LaneTables) (lid : ℕ) (starts : List Start) (c : Collected) → IsFromRoutes t e l c → AreCollectedFrom t e l lid starts c c 0
none_collected t e l lid starts c from = record { from_routes = from; grows = grows_none c; has = λ k start low at. absurd (omega arith) }

module _ (t : Topology) (e : Entries) (l : LaneTables) (lid : ℕ) (starts : List Start) (index : ℕ) (start : Start) (at : slice_get starts index ≡ Some start) (old now : Collected)
    (so_far : AreCollectedFrom t e l lid starts old now index) where
  one_more : (new : Collected) → Grows now new → HasRoutes t e l lid start new → (k : ℕ) (other : Start) → k < index + 1 → slice_get starts k ≡ Some other → HasRoutes t e l lid other new
  one_more new grows here k other low there = elim (cases_lt k index) [
    | inl less ↦ routes_grow t e l lid other now new grows (so_far.has k other less there)
    | inr same ↦
        (let eq : index ≡ k = omega arith in
        subst (λ x. HasRoutes t e l lid x new) (same_Some start other (sym at ∙ ap (λ n. slice_get starts n) eq ∙ there)) here)
  ]

  pub collected_more : (new : Collected) → IsFromRoutes t e l new → Grows now new → HasRoutes t e l lid start new → AreCollectedFrom t e l lid starts old new (index + 1)
  collected_more new from grows here = record { from_routes = from; grows = grows_on old now new so_far.grows grows; has = one_more new grows here }

  -- nothing is to be collected from this start
  pub collected_same : HasRoutes t e l lid start now → AreCollectedFrom t e l lid starts old now (index + 1)
  collected_same here = collected_more now so_far.from_routes (grows_none now) here

-- all starts are collected
pub has_all : (t : Topology) (e : Entries) (l : LaneTables) (lid : ℕ) (starts : List Start) → AreStartsFor t l starts → (old now : Collected) (index : ℕ) →
    AreCollectedFrom t e l lid starts old now index → length starts ≤ index → HasRoutesFor t e l lid now
has_all t e l lid starts are old now index so_far all p path =
    let stands : (start : Start) × Contains starts start × StandsFor l start p =
    All-contains (λ (r : TerminalRow). (start : Start) × Contains starts start × StandsFor l start r) t.terminals p are.all path.terminal in
    let of_terminal : IsOfTerminal t stands.0 = All-contains (IsOfTerminal t) starts stands.0 are.terminals stands.1 in
    let connected : IsConnectedTo t of_terminal.0.switch.0 lid =
    subst (λ s. IsConnectedTo t s lid) (sym (ap (λ (x : Start). x.switch.0) of_terminal.2 ∙ stands.2.switch)) path.connected in
    subst (λ vs. HasHops l.count vs now) (hops_alike t e l stands.0 of_terminal.0 p lid of_terminal.2 stands.2)
    (so_far.has stands.1.0 stands.0 (omega (arith, stands.1.1, all)) (get_of starts stands.1.0 stands.0 stands.1.1 stands.1.2) of_terminal.0 (record { terminal = of_terminal.1; connected = connected }) of_terminal.2)

-- a LID that has no place has no routes
pub no_routes : (t : Topology) (e : Entries) (l : LaneTables) (lid : ℕ) (c : Collected) → ((s : ℕ) → ¬ IsConnectedTo t s lid) → HasRoutesFor t e l lid c
no_routes t e l lid c apart p path = absurd (apart p.switch.0 path.connected)

module _ (t : Topology) (e : Entries) (l : LaneTables) where
  -- nothing is collected at first
  pub from_no_routes : (c : Collected) → c.used ≡ replicate (length t.channels * l.count) false → c.pairs ≡ [] → IsFromRoutes t e l c
  from_no_routes c none empty = record {
    each = ap (λ (bs : List Bool). length bs) none ∙ length-replicate {A = Bool} (length t.channels * l.count) false;
    used = λ n is. absurd (false≢true (sym (unmarked n) ∙ is));
    pairs = λ m n has. absurd (omega (arith, has.1, ap (λ (xs : List (ℕ × ℕ)). length xs) empty));
  }
    where
      unmarked : (n : ℕ) → slice_index_or c.used n false ≡ false
      unmarked n = ap (λ (bs : List Bool). slice_index_or bs n false) none ∙ (elim (cases_lt n (length t.channels * l.count)) [
        | inl low ↦ get_or-replicate {A = Bool} (length t.channels * l.count) n false false low
        | inr past ↦ get_or_past {X = Bool} (replicate (length t.channels * l.count) false) n false (omega (arith, length-replicate {A = Bool} (length t.channels * l.count) false))
      ])

  pub one_lid_more : (index lid : ℕ) (a b : Collected) → slice_get (lids_of t) index ≡ Some lid → ((k other : ℕ) → k < index → slice_get (lids_of t) k ≡ Some other → HasRoutesFor t e l other a) → Grows a b → HasRoutesFor t e l lid b →
      (k other : ℕ) → k < index + 1 → slice_get (lids_of t) k ≡ Some other → HasRoutesFor t e l other b
  one_lid_more index lid a b at before grows here k other low there = elim (cases_lt k index) [
    | inl less ↦ (λ p path. hops_grow l.count (virtual_channels t e l p other) a b grows (before k other less there p path))
    | inr same ↦
        (let eq : index ≡ k = omega arith in
        subst (λ n. HasRoutesFor t e l n b) (same_Some lid other (sym at ∙ ap (λ n. slice_get (lids_of t) n) eq ∙ there)) here)
  ]

  -- all LIDs are collected
  pub are_dependencies : (c : Collected) → IsFromRoutes t e l c → ((k lid : ℕ) → k < length (lids_of t) → slice_get (lids_of t) k ≡ Some lid → HasRoutesFor t e l lid c) → AreDependencies t e l c
  are_dependencies c from has = record { from_routes = from; used = used; pairs = pairs }
    where
      routes : (p : TerminalRow) (lid : ℕ) → IsPath t p lid → HasHops l.count (virtual_channels t e l p lid) c
      routes p lid path =
          let in_use : Contains (lids_of t) lid = connected_in_use t p.switch.0 lid path.connected in
          has in_use.0 lid in_use.1 (get_of (lids_of t) in_use.0 lid in_use.1 in_use.2) p path

      used : (v : VirtualChannel) → IsUsed t e l v → IsMarked c (node_of l.count v)
      used v u = (routes u.0 u.1 u.2).used u.3.0 v (get_of (virtual_channels t e l u.0 u.1) u.3.0 v u.3.1 u.3.2)

      pairs : (m n : ℕ) → DependsByNode t e l m n → Contains c.pairs (m, n)
      pairs m n x =
          let d : Depends t e l x.0 x.1 = x.2 in
          let has_pair : Contains c.pairs (node_of l.count x.0, node_of l.count x.1) =
          (routes d.0 d.1 d.2).pairs d.3.0 x.0 x.1 d.3.1 d.3.2 in
          subst (λ k. Contains c.pairs (m, k)) x.4 (subst (λ k. Contains c.pairs (k, node_of l.count x.1)) x.3 has_pair)

pub nodes_fit : (t : Topology) → IsFabric t → (count : ℕ) → count ≤ 15 → length t.channels * count < 2 ^ 32
nodes_fit t fabric count few = omega (arith, fabric.rows.channel_count, mul-le-mul_left (length t.channels) few)
