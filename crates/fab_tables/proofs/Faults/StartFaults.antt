-- Faults of lanes, from start to start and from LID to LID. What is said here holds of all of them, and of those
-- alone that no numbers can mend.
use Rattle.std.proofs.Common.{◌≡◌, ◌≢◌, ℕ, suc, ◌+◌, ◌<◌, ◌≤◌, Bool, true, false, List, [], ◌∷◌, length, drop, refl, sym, ◌∙◌, ap, subst, inl, inr, ◌⊎◌, arith, Some, None, Option, Contains, slice_get, add-one, not}
use Rattle.std.specs.Prelude.{All, slice_index, slice_index_or, IsSome, is_some}
use Rattle.std.specs.List.Sorted.{IsStrictlyIncreasing}
use Rattle.std.specs.Option.{option_eq}
use Rattle.std.proofs.lemmas.Bool.{cases_lt, cases_eq, both_ways, not-false}
use Rattle.std.proofs.lemmas.List.Elements.{All-contains}
use Rattle.std.proofs.lemmas.Option.{same_Some, slice_get_within, get_or_from_slice_get, slice_get-get_or}
use Rattle.fab_model.specs.declared.rows.Lid.{Lid}
use Rattle.fab_model.specs.declared.rows.SwitchId.{SwitchId}
use Rattle.fab_model.specs.declared.rows.TerminalRow.{TerminalRow}
use Rattle.fab_model.specs.Topology.{Topology, lids_of}
use Rattle.fab_model.specs.Connected.{IsConnectedTo}
use Rattle.fab_model.specs.WellFormed.{IsFabric}
use Rattle.fab_tables.specs.declared.verdict.VirtualChannel.{VirtualChannel}
use Rattle.fab_tables.specs.declared.verdict.Verdict.{Verdict}
use Rattle.fab_tables.specs.declared.verdict.Verdict.TheVariants.{Routes, Lanes, Unreached, NoLevel, BadLane, NoNumber, NotRising}
use Rattle.fab_tables.specs.Entries.{Entries}
use Rattle.fab_tables.specs.LaneTables.{LaneTables, level}
use Rattle.fab_tables.specs.Fit.{EntriesFit, IsSource}
use Rattle.fab_tables.specs.VirtualChannels.{virtual_channels}
use Rattle.fab_tables.specs.Plain.{plain_channels}
use Rattle.fab_tables.specs.Verdicts.{IsHop, IsLaneFaultAt}
use Rattle.fab_tables.proofs.Verdicts.PlainLaws.{same_channels, source_of, terminal_of}
use Rattle.fab_tables.specs.declared.starts.Start.{Start}
use Rattle.fab_tables.specs.Starts.{start_of, StartsNotAfter, IsOfTerminal, StandsFor, AreStartsFor}
use Rattle.fab_tables.specs.First.{IsFirst, FindsFirst, Beneath}
use Rattle.fab_tables.proofs.Joined.Lids.{connected_in_use, lesser_first}
use Rattle.fab_tables.proofs.Faults.Firsts.{none_beneath, first_beneath}
use Rattle.fab_tables.proofs.Faults.RouteFaults.{none_before}

-- A choice of the faults of lanes: which ones are chosen doesn't hang on their places, and a missing level is among them
pub record IsLaneChoice (t : Topology) (e : Entries) (l : LaneTables) (P : List ℕ → Verdict → Type 0) : Type 0 where
  pub fault : (place : List ℕ) (fault : Verdict) → P place fault → IsLaneFaultAt t e l place fault
  pub elsewhere : (place other : List ℕ) (fault : Verdict) → P place fault → IsLaneFaultAt t e l other fault → P other fault
  pub level : (place : List ℕ) (lid : Lid) (source : SwitchId) → IsLaneFaultAt t e l place (NoLevel lid source) → P place (NoLevel lid source)

-- all of them
pub all_lane_faults : (t : Topology) (e : Entries) (l : LaneTables) → IsLaneChoice t e l (IsLaneFaultAt t e l)
all_lane_faults t e l = record { fault = λ place fault f. f; elsewhere = λ place other fault f g. g; level = λ place lid source f. f }

-- Packets from a start to the LID meet no fault of P: its switch has a level if it is connected to the LID, and no hop of the route has a fault
pub record IsClear (t : Topology) (l : LaneTables) (P : List ℕ → Verdict → Type 0) (lid : ℕ) (start : Start) : Type 0 where
  pub has_level : IsConnectedTo t start.switch.0 lid → IsSome (level l start.switch.0 lid)
  pub hops : FindsFirst (Beneath (1 ∷ lid ∷ start.switch.0 ∷ start.port ∷ []) P) None

module _ (t : Topology) (e : Entries) (l : LaneTables) where
  -- a fault of a level, or of a hop
  abbrev IsLevelFault : List ℕ → Type 0
  IsLevelFault place = (lid s : ℕ) × (place ≡ 1 ∷ lid ∷ s ∷ []) × IsSource t s × IsConnectedTo t s lid × (level l s lid ≡ None)

  abbrev IsHopFault : List ℕ → Type 0
  IsHopFault place = (lid s port hop n : ℕ) × (v : VirtualChannel) × (place ≡ 1 ∷ lid ∷ s ∷ port ∷ hop ∷ n ∷ []) × IsHop t e l lid s port hop v

  kind : (place : List ℕ) (fault : Verdict) → IsLaneFaultAt t e l place fault → IsLevelFault place ⊎ IsHopFault place
  kind place Routes f = absurd f
  kind place Lanes f = absurd f
  kind place (Unreached a b c) f = absurd f
  kind place (NoLevel a b) f = inl (a.0, b.0, f.0, f.1, f.2, f.3)
  kind place (BadLane a b c) f = inr (a.0, b.0, f.0, f.1, 0, f.2, f.3, f.4)
  kind place (NoNumber a b v) f = inr (a.0, b.0, f.0, f.1, 1, v, f.2, f.3)
  kind place (NotRising a b u v m n) f = inr (a.0, b.0, f.0, f.1 + 1, 2, v, f.2 ∙ ap (λ k. 1 ∷ a.0 ∷ b.0 ∷ f.0 ∷ k ∷ 2 ∷ []) (sym (add-one f.1)), subst (λ k. IsHop t e l a.0 b.0 f.0 k v) (sym (add-one f.1)) f.4)

  hop_connected : (lid s port hop : ℕ) (v : VirtualChannel) → IsHop t e l lid s port hop v → IsConnectedTo t s lid
  hop_connected lid s port hop v h = subst (λ x. IsConnectedTo t x lid) h.of_source h.path.connected

  -- each fault is one of a switch connected to its LID
  abbrev pub IsOfLid : List ℕ → Type 0
  IsOfLid place = (lid s : ℕ) × (rest : List ℕ) × (place ≡ 1 ∷ lid ∷ s ∷ rest) × IsConnectedTo t s lid

  pub of_lid : (place : List ℕ) (fault : Verdict) → IsLaneFaultAt t e l place fault → IsOfLid place
  of_lid place fault f = elim (kind place fault f) [
    | inl x ↦ (x.0, x.1, [], x.2, x.4)
    | inr y ↦ (y.0, y.1, y.2 ∷ y.3 ∷ y.4 ∷ [], y.6, hop_connected y.0 y.1 y.2 y.3 y.5 y.7)
  ]

  -- without maps of pairs the hops from two starts of a source are the same
  module _ (plain : l.pairs ≡ []) (a b : Start) (of_terminal : IsOfTerminal t a) (same : a.switch.0 ≡ b.switch.0) where
    abbrev row : TerminalRow
    row = of_terminal.0

    from : row.switch.0 ≡ a.switch.0
    from = ap (λ (x : Start). x.switch.0) of_terminal.2

    moved : (lid s port hop : ℕ) (v : VirtualChannel) → s ≡ b.switch.0 → IsHop t e l lid s port hop v → IsHop t e l lid s a.port hop v
    moved lid s port hop v is h = record {
      terminal = row;
      path = record { terminal = of_terminal.1; connected = subst (λ x. IsConnectedTo t x lid) switches h.path.connected };
      of_source = from ∙ same ∙ sym is;
      at_port = ap (λ (x : Start). x.port) of_terminal.2;
      at_hop = ap (λ vs. slice_get vs hop) alike ∙ h.at_hop;
    }
      where
        switches : h.terminal.switch.0 ≡ row.switch.0
        switches = h.of_source ∙ is ∙ sym same ∙ sym from

        alike : virtual_channels t e l row lid ≡ virtual_channels t e l h.terminal lid
        alike = same_channels t e l plain row lid ∙ ap (λ s. plain_channels t e l s lid) (sym switches) ∙ sym (same_channels t e l plain h.terminal lid)

    other_port : (lid : ℕ) (rest : List ℕ) (x y : ℕ) (ends : List ℕ) (port : ℕ) → 1 ∷ lid ∷ b.switch.0 ∷ b.port ∷ rest ≡ 1 ∷ x ∷ y ∷ port ∷ ends → 1 ∷ lid ∷ a.switch.0 ∷ a.port ∷ rest ≡ 1 ∷ x ∷ y ∷ a.port ∷ ends
    other_port lid rest x y ends port is =
        ap (λ n. 1 ∷ n ∷ a.switch.0 ∷ a.port ∷ rest) (ap (λ xs. slice_index xs 1) is)
        ∙ ap (λ n. 1 ∷ x ∷ n ∷ a.port ∷ rest) (same ∙ ap (λ xs. slice_index xs 2) is)
        ∙ ap (λ ns. 1 ∷ x ∷ y ∷ a.port ∷ ns) (ap (λ xs. drop 4 xs) is)

    at_switch : (lid : ℕ) (rest : List ℕ) (x y : ℕ) (ends : List ℕ) → 1 ∷ lid ∷ b.switch.0 ∷ b.port ∷ rest ≡ 1 ∷ x ∷ y ∷ ends → y ≡ b.switch.0
    at_switch lid rest x y ends is = sym (ap (λ xs. slice_index xs 2) is)

    fault_moved : (lid : ℕ) (rest : List ℕ) (fault : Verdict) →
        IsLaneFaultAt t e l (1 ∷ lid ∷ b.switch.0 ∷ b.port ∷ rest) fault → IsLaneFaultAt t e l (1 ∷ lid ∷ a.switch.0 ∷ a.port ∷ rest) fault
    fault_moved lid rest Routes f = f
    fault_moved lid rest Lanes f = f
    fault_moved lid rest (Unreached x y z) f = f
    fault_moved lid rest (NoLevel x y) f = absurd (omega (arith, ap (λ (xs : List ℕ). length xs) f.0))
    fault_moved lid rest (BadLane x y z) f =
        (a.port, f.1, f.2, other_port lid rest x.0 y.0 _ f.0 f.3, moved x.0 y.0 f.0 f.1 f.2 (at_switch lid rest x.0 y.0 _ f.3) f.4, f.5, f.6)
    fault_moved lid rest (NoNumber x y v) f =
        (a.port, f.1, other_port lid rest x.0 y.0 _ f.0 f.2, moved x.0 y.0 f.0 f.1 v (at_switch lid rest x.0 y.0 _ f.2) f.3, f.4)
    fault_moved lid rest (NotRising x y u v m n) f =
        (a.port, f.1, other_port lid rest x.0 y.0 _ f.0 f.2, moved x.0 y.0 f.0 f.1 u (at_switch lid rest x.0 y.0 _ f.2) f.3, moved x.0 y.0 f.0 (suc f.1) v (at_switch lid rest x.0 y.0 _ f.2) f.4, f.5, f.6, f.7)

  module _ (P : List ℕ → Verdict → Type 0) (choice : IsLaneChoice t e l P) where
    -- each of the faults is one of a switch connected to its LID
    at_lid : (place : List ℕ) (fault : Verdict) → P place fault → IsOfLid place
    at_lid place fault f = of_lid place fault (choice.fault place fault f)

    none_empty : (fault : Verdict) → ¬ P [] fault
    none_empty fault f = let x : IsOfLid [] = at_lid [] fault f in absurd (omega (arith, ap (λ (xs : List ℕ). length xs) x.3))

    none_at_1 : (fault : Verdict) → ¬ P (1 ∷ []) fault
    none_at_1 fault f = let x : IsOfLid (1 ∷ []) = at_lid (1 ∷ []) fault f in absurd (omega (arith, ap (λ (xs : List ℕ). length xs) x.3))

    none_at_lid : (lid : ℕ) (fault : Verdict) → ¬ P (1 ∷ lid ∷ []) fault
    none_at_lid lid fault f = let x : IsOfLid (1 ∷ lid ∷ []) = at_lid (1 ∷ lid ∷ []) fault f in absurd (omega (arith, ap (λ (xs : List ℕ). length xs) x.3))

    none_at_other : (m : ℕ) → m ≢ 1 → FindsFirst (Beneath (m ∷ []) P) None
    none_at_other m other place fault f = other (ap (λ xs. slice_index xs 0) (at_lid (m ∷ place) fault f).3)

    -- the LID of a fault is in use
    in_use : (lid : ℕ) (rest : List ℕ) (fault : Verdict) → P (1 ∷ lid ∷ rest) fault → Contains (lids_of t) lid
    in_use lid rest fault f =
        let x : IsOfLid (1 ∷ lid ∷ rest) = at_lid (1 ∷ lid ∷ rest) fault f in
        subst (λ n. Contains (lids_of t) n) (sym (ap (λ xs. slice_index xs 1) x.3)) (connected_in_use t x.1 x.0 x.4)

    -- no fault stands at a switch that isn't connected
    none_apart : (lid s : ℕ) (rest : List ℕ) → ¬ IsConnectedTo t s lid → (fault : Verdict) → ¬ P (1 ∷ lid ∷ s ∷ rest) fault
    none_apart lid s rest apart fault f =
        let x : IsOfLid (1 ∷ lid ∷ s ∷ rest) = at_lid (1 ∷ lid ∷ s ∷ rest) fault f in
        let same_lid : x.0 ≡ lid = sym (ap (λ xs. slice_index xs 1) x.3) in
        let same_switch : x.1 ≡ s = sym (ap (λ xs. slice_index xs 2) x.3) in
        apart (subst (λ n. IsConnectedTo t n lid) same_switch (subst (λ n. IsConnectedTo t x.1 n) same_lid x.4))

    pub clear_apart : (lid : ℕ) (start : Start) → ¬ IsConnectedTo t start.switch.0 lid → IsClear t l P lid start
    clear_apart lid start apart = record { has_level = λ c. absurd (apart c); hops = λ rest fault f. none_apart lid start.switch.0 (start.port ∷ rest) apart fault f }

    -- without maps of pairs a start is clear where another of its source is
    pub clear_alike : l.pairs ≡ [] → (a b : Start) → IsOfTerminal t a → a.switch.0 ≡ b.switch.0 → (lid : ℕ) → IsClear t l P lid a → IsClear t l P lid b
    clear_alike plain a b of_terminal same lid clear = record {
      has_level = λ c. subst (λ s. IsSome (level l s lid)) same (clear.has_level (subst (λ s. IsConnectedTo t s lid) (sym same) c));
      hops = λ rest fault f. clear.hops rest fault
          (choice.elsewhere _ _ fault f (fault_moved plain a b of_terminal same lid rest fault (choice.fault _ fault f)));
    }

    -- a start is clear where another one at the same port is
    clear_same : (a b : Start) → a.switch.0 ≡ b.switch.0 → a.port ≡ b.port → (lid : ℕ) → IsClear t l P lid a → IsClear t l P lid b
    clear_same a b same by lid clear = record {
      has_level = λ c. subst (λ s. IsSome (level l s lid)) same (clear.has_level (subst (λ s. IsConnectedTo t s lid) (sym same) c));
      hops = λ rest fault f. clear.hops rest fault
          (subst (λ n. P (1 ∷ lid ∷ n ∷ a.port ∷ rest) fault) (sym same) (subst (λ n. P (1 ∷ lid ∷ b.switch.0 ∷ n ∷ rest) fault) (sym by) f));
    }

    -- from port to port, and from source to source
    module _ (lid : ℕ) (starts : List Start) (are : AreStartsFor t l starts) where
      -- one of the starts stands for a terminal
      abbrev IsStoodFor : TerminalRow → Type 0
      IsStoodFor row = (start : Start) × Contains starts start × StandsFor l start row

      stood_for : (row : TerminalRow) → Contains t.terminals row → IsStoodFor row
      stood_for row has = All-contains (λ (r : TerminalRow). IsStoodFor r) t.terminals row are.all has

      of_terminal : (start : Start) → Contains starts start → IsOfTerminal t start
      of_terminal start has = All-contains (IsOfTerminal t) starts start are.terminals has

      -- where it is clear, so is the terminal's own
      own_clear : (row : TerminalRow) (start : Start) → Contains starts start → StandsFor l start row → IsClear t l P lid start → IsClear t l P lid (start_of row)
      own_clear row start has stands clear = elim stands.alike [
        | inl same ↦ clear_same start (start_of row) stands.switch same lid clear
        | inr plain ↦ clear_alike plain start (start_of row) (of_terminal start has) stands.switch lid clear
      ]

      -- the fault of a hop stands at some terminal
      abbrev IsAt : ℕ → ℕ → Type 0
      IsAt s port = (row : TerminalRow) × Contains t.terminals row × (row.switch.0 ≡ s) × (row.port ≡ port)

      at_terminal : (s port : ℕ) (rest : List ℕ) (fault : Verdict) → P (1 ∷ lid ∷ s ∷ port ∷ rest) fault → IsAt s port
      at_terminal s port rest fault f = elim (kind (1 ∷ lid ∷ s ∷ port ∷ rest) fault (choice.fault _ fault f)) [
        | inl x ↦ absurd (omega (arith, ap (λ (xs : List ℕ). length xs) x.2))
        | inr y ↦ (y.7.terminal, y.7.path.terminal, y.7.of_source ∙ sym (ap (λ xs. slice_index xs 2) y.6), y.7.at_port ∙ sym (ap (λ xs. slice_index xs 3) y.6))
      ]

      -- where the starts of a switch at a port and lower ones are clear, none is beneath
      none_at_port : (s port : ℕ) → ((start : Start) → Contains starts start → start.switch.0 ≡ s → start.port ≤ port → IsClear t l P lid start) → FindsFirst (Beneath (1 ∷ lid ∷ s ∷ port ∷ []) P) None
      none_at_port s port clear rest fault f =
          let x : IsAt s port = at_terminal s port rest fault f in
          let y : IsStoodFor x.0 = stood_for x.0 x.1 in
          let own : IsClear t l P lid (start_of x.0) = own_clear x.0 y.0 y.1 y.2 (clear y.0 y.1 (y.2.switch ∙ x.2) (omega (arith, y.2.port, x.3))) in
          own.hops rest fault (subst (λ n. P (1 ∷ lid ∷ n ∷ x.0.port ∷ rest) fault) (sym x.2) (subst (λ n. P (1 ∷ lid ∷ s ∷ n ∷ rest) fault) (sym x.3) f))

      -- with a level there is none at a switch itself
      some_level : (s : ℕ) → (IsSource t s → IsConnectedTo t s lid → IsSome (level l s lid)) → (fault : Verdict) → ¬ P (1 ∷ lid ∷ s ∷ []) fault
      some_level s some fault f = elim (kind (1 ∷ lid ∷ s ∷ []) fault (choice.fault _ fault f)) [
        | inl x ↦
            (let same_lid : x.0 ≡ lid = sym (ap (λ xs. slice_index xs 1) x.2) in
            let same_switch : x.1 ≡ s = sym (ap (λ xs. slice_index xs 2) x.2) in
            let source : IsSource t s = subst (λ n. IsSource t n) same_switch x.3 in
            let connected : IsConnectedTo t s lid = subst (λ n. IsConnectedTo t n lid) same_switch (subst (λ n. IsConnectedTo t x.1 n) same_lid x.4) in
            let none : level l s lid ≡ None = ap (λ n. level l n lid) (sym same_switch) ∙ ap (λ n. level l x.1 n) (sym same_lid) ∙ x.5 in
            not_none (level l s lid) (some source connected) none)
        | inr y ↦ absurd (omega (arith, ap (λ (xs : List ℕ). length xs) y.6))
      ]
        where
          not_none : (o : Option ℕ) → IsSome o → o ≡ None → ⊥
          not_none None a b = cc
          not_none (Some n) a b = cc

      clear_level : (s : ℕ) → ((start : Start) → Contains starts start → start.switch.0 ≡ s → IsClear t l P lid start) → IsSource t s → IsConnectedTo t s lid → IsSome (level l s lid)
      clear_level s clear source connected =
          let q : (p : TerminalRow) × Contains t.terminals p × (p.switch.0 ≡ s) = terminal_of t.terminals s source in
          let y : IsStoodFor q.0 = stood_for q.0 q.1 in
          let at : y.0.switch.0 ≡ s = y.2.switch ∙ q.2 in
          subst (λ n. IsSome (level l n lid)) at ((clear y.0 y.1 at).has_level (subst (λ n. IsConnectedTo t n lid) (sym at) connected))

      none_at_switch : (s : ℕ) → ((start : Start) → Contains starts start → start.switch.0 ≡ s → IsClear t l P lid start) → FindsFirst (Beneath (1 ∷ lid ∷ s ∷ []) P) None
      none_at_switch s clear = none_beneath (Beneath (1 ∷ lid ∷ s ∷ []) P) (some_level s (clear_level s clear)) (λ port. none_at_port s port (λ start has a b. clear start has a))

      -- where all starts are clear
      pub none_from_starts : ((k : ℕ) (start : Start) → k < length starts → slice_get starts k ≡ Some start → IsClear t l P lid start) → FindsFirst (Beneath (1 ∷ lid ∷ []) P) None
      none_from_starts clear = none_beneath (Beneath (1 ∷ lid ∷ []) P) (none_at_lid lid)
          (λ s. none_at_switch s (λ start has is. clear has.0 start has.1 (slice_get-get_or starts has.0 start has.1 ∙ ap (λ x. Some x) has.2)))

      -- where those before this one are
      module _ (index : ℕ) (start : Start) (at : slice_get starts index ≡ Some start) (clear : (k : ℕ) (other : Start) → k < index → slice_get starts k ≡ Some other → IsClear t l P lid other) where
        earlier : (other : Start) → Contains starts other → (StartsNotAfter start other → ⊥) → IsClear t l P lid other
        earlier other has before = elim (cases_lt has.0 index) [
          | inl low ↦ clear has.0 other low (slice_get-get_or starts has.0 other has.1 ∙ ap (λ x. Some x) has.2)
          | inr past ↦
              absurd (before (subst (λ x. StartsNotAfter start x) has.2
              (subst (λ x. StartsNotAfter x (slice_index_or starts has.0 other)) (get_or_from_slice_get starts index start other at) (are.in_order index has.0 other past has.1))))
        ]

        none_below : (m : ℕ) → m < start.switch.0 → FindsFirst (Beneath (1 ∷ lid ∷ m ∷ []) P) None
        none_below m less = none_at_switch m (λ other has is. earlier other has (λ after. elim after [ inl x ↦ omega (arith, x, is, less) | inr y ↦ omega (arith, y.0, is, less) ]))

        none_lower : (port : ℕ) → port < start.port → FindsFirst (Beneath (1 ∷ lid ∷ start.switch.0 ∷ port ∷ []) P) None
        none_lower port less =
            none_at_port start.switch.0 port (λ other has is by. earlier other has (λ after. elim after [ inl x ↦ omega (arith, x, is) | inr y ↦ omega (arith, y.1, by, less) ]))

        -- a hop's fault is the first
        pub first_hop : (fault : Verdict) → IsSome (level l start.switch.0 lid) → IsFirst (Beneath (1 ∷ lid ∷ start.switch.0 ∷ start.port ∷ []) P) fault → IsFirst (Beneath (1 ∷ lid ∷ []) P) fault
        first_hop fault some first =
            first_beneath (Beneath (1 ∷ lid ∷ []) P) (none_at_lid lid) start.switch.0 fault
            (first_beneath (Beneath (1 ∷ lid ∷ start.switch.0 ∷ []) P) (some_level start.switch.0 (λ a b. some)) start.port fault first none_lower) none_below

    -- so is a missing level
    pub first_level : (lid : Lid) (starts : List Start) (are : AreStartsFor t l starts) (index : ℕ) (start : Start) → slice_get starts index ≡ Some start →
        ((k : ℕ) (other : Start) → k < index → slice_get starts k ≡ Some other → IsClear t l P lid.0 other) → IsConnectedTo t start.switch.0 lid.0 → level l start.switch.0 lid.0 ≡ None →
        IsFirst (Beneath (1 ∷ lid.0 ∷ []) P) (NoLevel lid start.switch)
    first_level lid starts are index start at clear connected none =
        first_beneath (Beneath (1 ∷ lid.0 ∷ []) P) (none_at_lid lid.0) start.switch.0 (NoLevel lid start.switch)
        ([], choice.level _ lid start.switch (refl, source, connected, none), λ earlier other before f. none_before earlier before) (none_below lid.0 starts are index start at clear)
      where
        is_of : IsOfTerminal t start
        is_of = All-contains (IsOfTerminal t) starts start are.terminals (index, slice_get_within starts index start at, get_or_from_slice_get starts index start start at)

        source : IsSource t start.switch.0
        source = subst (λ n. IsSource t n) (ap (λ (x : Start). x.switch.0) is_of.2) (source_of t.terminals is_of.0 is_of.1.0 is_of.1.1 is_of.1.2)

    -- LIDs are looked at in ascending order
    module _ (fits : EntriesFit t e) (index lid : ℕ) (at : slice_get (lids_of t) index ≡ Some lid)
        (none : (k other : ℕ) → k < index → slice_get (lids_of t) k ≡ Some other → FindsFirst (Beneath (1 ∷ other ∷ []) P) None) where
      none_less : (m : ℕ) → m < lid → FindsFirst (Beneath (1 ∷ m ∷ []) P) None
      none_less m less place fault f =
          none has.0 m (lesser_first (lids_of t) index m ascending has low (omega (arith, get_or_from_slice_get (lids_of t) index lid m at)))
          (slice_get-get_or (lids_of t) has.0 m has.1 ∙ ap (λ x. Some x) has.2) place fault f
        where
          has : Contains (lids_of t) m
          has = in_use m place fault f

          ascending : IsStrictlyIncreasing (lids_of t)
          ascending = subst (λ xs. IsStrictlyIncreasing xs) fits.in_use fits.whole.ascending

          low : index < length (lids_of t)
          low = slice_get_within (lids_of t) index lid at

      pub first_by_lid : (found : Option Verdict) → IsSome found → FindsFirst (Beneath (1 ∷ lid ∷ []) P) found → FindsFirst P found
      first_by_lid None some first = cc
      first_by_lid (Some fault) some first = first_beneath P none_empty 1 fault (first_beneath (Beneath (1 ∷ []) P) none_at_1 lid fault first none_less) (λ m less. none_at_other m (λ is. omega (arith, is, less)))

      pub one_lid_clear : (found : Option Verdict) → found ≡ None → FindsFirst (Beneath (1 ∷ lid ∷ []) P) found →
          (k other : ℕ) → k < index + 1 → slice_get (lids_of t) k ≡ Some other → FindsFirst (Beneath (1 ∷ other ∷ []) P) None
      one_lid_clear found nothing here k other low there = elim (cases_lt k index) [
        | inl less ↦ none k other less there
        | inr same ↦
            (let eq : index ≡ k = omega arith in
            let is : lid ≡ other = same_Some lid other (sym at ∙ ap (λ n. slice_get (lids_of t) n) eq ∙ there) in
            let none_here : FindsFirst (Beneath (1 ∷ lid ∷ []) P) None = subst (λ o. FindsFirst (Beneath (1 ∷ lid ∷ []) P) o) nothing here in
            subst (λ n. FindsFirst (Beneath (1 ∷ n ∷ []) P) None) is none_here)
      ]

    pub none_by_lid : ((k lid : ℕ) → k < length (lids_of t) → slice_get (lids_of t) k ≡ Some lid → FindsFirst (Beneath (1 ∷ lid ∷ []) P) None) → FindsFirst P None
    none_by_lid none = none_beneath P none_empty (λ m. kinds m (cases_eq m 1))
      where
        used : (lid : ℕ) → FindsFirst (Beneath (1 ∷ lid ∷ []) P) None
        used lid place fault f =
            let has : Contains (lids_of t) lid = in_use lid place fault f in
            none has.0 lid has.1 (slice_get-get_or (lids_of t) has.0 lid has.1 ∙ ap (λ x. Some x) has.2) place fault f

        kinds : (m : ℕ) → (m ≡ 1) ⊎ (m ≢ 1) → FindsFirst (Beneath (m ∷ []) P) None
        kinds m (inl one) = subst (λ k. FindsFirst (Beneath (k ∷ []) P) None) (sym one) (none_beneath (Beneath (1 ∷ []) P) none_at_1 used)
        kinds m (inr other) = none_at_other m other

-- the starts of smaller index are clear
abbrev pub AreClear : Topology → LaneTables → (List ℕ → Verdict → Type 0) → ℕ → List Start → ℕ → Type 0
AreClear t l P lid starts index = (k : ℕ) (start : Start) → k < index → slice_get starts k ≡ Some start → IsClear t l P lid start

module _ (t : Topology) (e : Entries) (l : LaneTables) (P : List ℕ → Verdict → Type 0) (choice : IsLaneChoice t e l P)
    (lid : ℕ) (starts : List Start) (index : ℕ) (start : Start) (at : slice_get starts index ≡ Some start) where
  pub one_clear_more : AreClear t l P lid starts index → IsClear t l P lid start → AreClear t l P lid starts (index + 1)
  one_clear_more before here k other low there = elim (cases_lt k index) [
    | inl less ↦ before k other less there
    | inr same ↦
        (let eq : index ≡ k = omega arith in
        subst (λ x. IsClear t l P lid x) (same_Some start other (sym at ∙ ap (λ n. slice_get starts n) eq ∙ there)) here)
  ]

  -- a start without a fault is clear
  pub found_clear : (found : Option Verdict) → found ≡ None → (level l start.switch.0 lid ≡ None → IsSome found) →
      (IsSome (level l start.switch.0 lid) → FindsFirst (Beneath (1 ∷ lid ∷ start.switch.0 ∷ start.port ∷ []) P) found) → IsClear t l P lid start
  found_clear found none no_level hops = by_level (level l start.switch.0 lid) refl
    where
      by_level : (o : Option ℕ) → level l start.switch.0 lid ≡ o → IsClear t l P lid start
      by_level None is = absurd (not_none found (no_level is) none)
        where
          not_none : (o : Option Verdict) → IsSome o → o ≡ None → ⊥
          not_none None a b = cc
          not_none (Some v) a b = cc
      by_level (Some n) is =
          let some : IsSome (level l start.switch.0 lid) = ap is_some is in
          record { has_level = λ c. some; hops = subst (λ o. FindsFirst (Beneath (1 ∷ lid ∷ start.switch.0 ∷ start.port ∷ []) P) o) none (hops some) }

-- the first fault from a start is the first for the LID
pub found_first : (t : Topology) (e : Entries) (l : LaneTables) (P : List ℕ → Verdict → Type 0) → IsLaneChoice t e l P → (lid : Lid) (starts : List Start) (are : AreStartsFor t l starts) (index : ℕ) (start : Start) → slice_get starts index ≡ Some start →
    AreClear t l P lid.0 starts index → IsConnectedTo t start.switch.0 lid.0 → (found : Option Verdict) → IsSome found →
    (level l start.switch.0 lid.0 ≡ None → found ≡ Some (NoLevel lid start.switch)) →
    (IsSome (level l start.switch.0 lid.0) → FindsFirst (Beneath (1 ∷ lid.0 ∷ start.switch.0 ∷ start.port ∷ []) P) found) →
    FindsFirst (Beneath (1 ∷ lid.0 ∷ []) P) found
found_first t e l P choice lid starts are index start at before connected None some no_level hops = cc
found_first t e l P choice lid starts are index start at before connected (Some fault) some no_level hops = by_level (level l start.switch.0 lid.0) refl
  where
    by_level : (o : Option ℕ) → level l start.switch.0 lid.0 ≡ o → IsFirst (Beneath (1 ∷ lid.0 ∷ []) P) fault
    by_level None is =
        subst (λ (v : Verdict). IsFirst (Beneath (1 ∷ lid.0 ∷ []) P) v) (sym (same_Some fault (NoLevel lid start.switch) (no_level is)))
        (first_level t e l P choice lid starts are index start at before connected is)
    by_level (Some n) is = let has : IsSome (level l start.switch.0 lid.0) = ap is_some is in first_hop t e l P choice lid.0 starts are index start at before fault has (hops has)

-- what isn't told apart is the same
pub same_option : {A : Type 0} (eq : A → A → Bool) → ((x y : A) → eq x y ≡ true → x ≡ y) → (o : Option A) (y : A) (differs : Bool) → differs ≡ not (option_eq eq o (Some y)) → differs ≡ false → o ≡ Some y
same_option eq same None y differs is none = absurd (both_ways differs none is)
same_option eq same (Some x) y differs is none = ap (λ z. Some z) (same x y (not-false (eq x y) (sym is ∙ none)))

-- what was not found is none
pub none_found : (found : Option Verdict) → is_some found ≡ false → found ≡ None
none_found None e = refl
none_found (Some fault) e = cc

pub none_is : (found : Option Verdict) (v : Verdict) → found ≡ Some v → IsSome found
none_is found v e = ap is_some e

abbrev pub start_at : List Start → ℕ → Start
start_at starts k = slice_index_or starts k (record { switch = record { 0 = 0 }; port = 0 })

-- a start is at a switch of the fabric
pub start_low : (t : Topology) (starts : List Start) (k : ℕ) → IsFabric t → All (IsOfTerminal t) starts → k < length starts → (start_at starts k).switch.0 < length t.switches
start_low t starts k fabric are low =
    let of_terminal : IsOfTerminal t (start_at starts k) = are k (record { switch = record { 0 = 0 }; port = 0 }) low in
    subst (λ (x : Start). x.switch.0 < length t.switches) of_terminal.2 (All-contains (λ row. row.switch.0 < length t.switches) t.terminals of_terminal.0 fabric.rows.terminal_switches of_terminal.1)
