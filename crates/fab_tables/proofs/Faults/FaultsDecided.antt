-- Whether a fault stands at a place is decided. Places with faults are short, and their numbers are small.
use Rattle.std.proofs.Common.{◌≡◌, ◌≢◌, Bool, true, false, ℕ, zero, suc, ◌+◌, ◌<◌, ◌≤◌, ◌⊎◌, inl, inr, List, [], ◌∷◌, length, Option, Some, None, refl, sym, ◌∙◌, ap, subst, arith, Contains}
use Rattle.std.specs.Prelude.{slice_get, slice_index, IsTrue}
use Rattle.std.proofs.lemmas.Option.{none-some, same_Some}
use Rattle.fab_graph.proofs.Decided.{Decided, equal, equivalent, both, either, not_decided}
use Rattle.fab_model.specs.declared.rows.ChannelRow.{ChannelRow}
use Rattle.fab_model.specs.declared.rows.TerminalRow.{TerminalRow}
use Rattle.fab_model.specs.Topology.{Topology, lids_of, is_source, lid_id, switch_id}
use Rattle.fab_model.specs.Connected.{IsConnectedTo}
use Rattle.fab_model.specs.WellFormed.{IsFabric}
use Rattle.fab_tables.specs.declared.end.End.TheVariants.{Delivered}
use Rattle.fab_tables.specs.declared.verdict.VirtualChannel.{VirtualChannel}
use Rattle.fab_tables.specs.declared.verdict.Verdict.{Verdict}
use Rattle.fab_tables.specs.declared.verdict.Verdict.TheVariants.{Routes, Lanes, Unreached, NoLevel, BadLane, NoNumber, NotRising}
use Rattle.fab_tables.specs.Entries.{Entries}
use Rattle.fab_tables.specs.LaneTables.{LaneTables, level}
use Rattle.fab_tables.specs.Fit.{IsSource}
use Rattle.fab_tables.specs.Route.{route}
use Rattle.fab_tables.specs.VirtualChannels.{virtual_channels}
use Rattle.fab_tables.specs.Certified.{number_of}
use Rattle.fab_tables.specs.Verdicts.{IsHop, Leaves, IsLaneFaultAt, IsFaultAt, IsStructural}
use Rattle.fab_tables.proofs.Verdicts.CertifiedLaws.{leaves, channel_of_virtual, same_terminal}
use Rattle.fab_tables.proofs.Joined.ConnectedDecided.{some_decided, connected_to_decided}
use Rattle.fab_tables.proofs.Verdicts.DeadlockLaws.{total, at_most_total}
use Rattle.fab_tables.proofs.Paths.FallingRoutes.{connected_below}
use Rattle.fab_tables.proofs.Faults.FaultSearch.{IsSmall, Stands}
use Rattle.fab_tables.proofs.Joined.Lids.{connected_in_use}
use Rattle.fab_tables.proofs.Paths.Routes.{delivered_or_not, goes_on}

-- ---- of lists, numbers and options

pub same_list : (xs ys : List ℕ) → Decided (xs ≡ ys)
same_list [] [] = inl refl
same_list [] (y ∷ ys) = inr (λ e. cc)
same_list (x ∷ xs) [] = inr (λ e. cc)
same_list (x ∷ xs) (y ∷ ys) = equivalent ((x ≡ y) × (xs ≡ ys)) ((x ∷ xs) ≡ (y ∷ ys)) (λ p. both_same p.0 p.1) (λ e. (same_head e, same_tail e)) (both (x ≡ y) (xs ≡ ys) (equal x y) (same_list xs ys))
  where
    both_same : x ≡ y → xs ≡ ys → (x ∷ xs) ≡ (y ∷ ys)
    both_same a b = cc

    same_head : (x ∷ xs) ≡ (y ∷ ys) → x ≡ y
    same_head e = cc

    same_tail : (x ∷ xs) ≡ (y ∷ ys) → xs ≡ ys
    same_tail e = cc

at_most_decided : (m n : ℕ) → Decided (m ≤ n)
at_most_decided m n = grind arith

none_decided : (o : Option ℕ) → Decided (o ≡ None)
none_decided None = inl refl
none_decided (Some n) = inr (λ e. cc)

true_decided : (b : Bool) → Decided (IsTrue b)
true_decided true = inl refl
true_decided false = inr (λ e. cc)

other_decided : (t : Topology) (e : Entries) (s lid : ℕ) → Decided ((route t e s lid).end ≢ Delivered)
other_decided t e s lid = not_decided ((route t e s lid).end ≡ Delivered) (delivered_or_not (route t e s lid).end)

three : (P Q R : Type 0) → Decided P → Decided Q → Decided R → Decided (P × Q × R)
three P Q R p q r = equivalent (P × (Q × R)) (P × Q × R) (λ x. (x.0, x.1.0, x.1.1)) (λ x. (x.0, (x.1, x.2))) (both P (Q × R) p (both Q R q r))

-- the number before
abbrev one_less : ℕ → ℕ
one_less zero = 0
one_less (suc n) = n

same_lanes : (a b : LaneTables) → Some a ≡ Some b → a ≡ b
same_lanes a b e = cc

-- ---- a route that isn't delivered

module _ (t : Topology) (e : Entries) where
  abbrev pub UnreachedAt : List ℕ → Type 0
  UnreachedAt place = (place ≡ 0 ∷ slice_index place 1 ∷ slice_index place 2 ∷ []) × IsConnectedTo t (slice_index place 2) (slice_index place 1)
      × ((route t e (slice_index place 2) (slice_index place 1)).end ≢ Delivered)

  pub unreached_decided : (place : List ℕ) → Decided (UnreachedAt place)
  unreached_decided place = three _ _ _ (same_list place (0 ∷ slice_index place 1 ∷ slice_index place 2 ∷ [])) (connected_to_decided t (slice_index place 2) (slice_index place 1))
      (other_decided t e (slice_index place 2) (slice_index place 1))

  pub unreached_is : (place : List ℕ) (lid s : ℕ) → place ≡ 0 ∷ lid ∷ s ∷ [] → IsConnectedTo t s lid → (route t e s lid).end ≢ Delivered → UnreachedAt place
  unreached_is place lid s is c other = subst UnreachedAt (sym is) (refl, c, other)

-- ---- a fault of lanes

module _ (t : Topology) (e : Entries) (l : LaneTables) where
  -- a fact holds of the virtual channel of a hop
  abbrev HopWith : (lid s port hop : ℕ) → (VirtualChannel → Type 0) → Type 0
  HopWith lid s port hop Q = (v : VirtualChannel) × IsHop t e l lid s port hop v × Q v

  -- some terminal begins at the switch and port
  abbrev BeginsAt : ℕ → ℕ → TerminalRow → Type 0
  BeginsAt s port p = (p.switch.0 ≡ s) × (p.port ≡ port)

  module _ (lid s port hop : ℕ) (Q : VirtualChannel → Type 0) (decide : (v : VirtualChannel) → Decided (Q v)) where
    module _ (p : TerminalRow) (there : Contains t.terminals p) (begins : BeginsAt s port p) where
      same_hop : (v : VirtualChannel) → IsHop t e l lid s port hop v → slice_get (virtual_channels t e l p lid) hop ≡ Some v
      same_hop v h = ap (λ vs. slice_get vs hop) (same_terminal t e l p h.terminal lid (begins.0 ∙ sym h.of_source) (begins.1 ∙ sym h.at_port)) ∙ h.at_hop

      by_hop : IsConnectedTo t s lid → (o : Option VirtualChannel) → slice_get (virtual_channels t e l p lid) hop ≡ o → Decided (HopWith lid s port hop Q)
      by_hop c None is = inr (λ h. none-some h.0 (sym is ∙ same_hop h.0 h.1))
      by_hop c (Some v) is = equivalent (Q v) (HopWith lid s port hop Q)
          (λ q. (
            v,
            record { terminal = p; path = record { terminal = there; connected = subst (λ x. IsConnectedTo t x lid) (sym begins.0) c }; of_source = begins.0; at_port = begins.1; at_hop = is },
            q,
          ))
          (λ h. subst Q (same_Some h.0 v (sym (same_hop h.0 h.1) ∙ is)) h.2)
          (decide v)

      by_connected : Decided (IsConnectedTo t s lid) → Decided (HopWith lid s port hop Q)
      by_connected (inl c) = by_hop c (slice_get (virtual_channels t e l p lid) hop) refl
      by_connected (inr apart) = inr (λ h. apart (subst (λ x. IsConnectedTo t x lid) h.1.of_source h.1.path.connected))

    by_terminal : Decided ((p : TerminalRow) × Contains t.terminals p × BeginsAt s port p) → Decided (HopWith lid s port hop Q)
    by_terminal (inl p) = by_connected p.0 p.1 p.2 (connected_to_decided t s lid)
    by_terminal (inr none) = inr (λ h. none (h.1.terminal, h.1.path.terminal, (h.1.of_source, h.1.at_port)))

    hop_decided : Decided (HopWith lid s port hop Q)
    hop_decided = by_terminal (some_decided (BeginsAt s port) (λ p. both (p.switch.0 ≡ s) (p.port ≡ port) (equal p.switch.0 s) (equal p.port port)) t.terminals)

  -- what has no level, a bad lane, no number, and what doesn't rise
  abbrev Unlevelled : ℕ → ℕ → Type 0
  Unlevelled lid s = IsSource t s × IsConnectedTo t s lid × (level l s lid ≡ None)

  abbrev Bad : (lid s port hop : ℕ) → Type 0
  Bad lid s port hop = HopWith lid s port hop (λ v. l.count ≤ v.lane)

  abbrev Unnumbered : (lid s port hop : ℕ) → Type 0
  Unnumbered lid s port hop = HopWith lid s port hop (λ v. number_of l v ≡ 0)

  abbrev Falling : (lid s port hop : ℕ) → Type 0
  Falling lid s port hop = HopWith lid s port hop (λ v. HopWith lid s port (suc hop) (λ w. number_of l w ≤ number_of l v))

  -- the kinds of faults at a place: those that no numbers can mend, and those of numbers
  abbrev pub StructuralAt : List ℕ → Type 0
  StructuralAt place = UnreachedAt t e place
      ⊎ (((place ≡ 1 ∷ slice_index place 1 ∷ slice_index place 2 ∷ []) × Unlevelled (slice_index place 1) (slice_index place 2))
      ⊎ ((place ≡ 1 ∷ slice_index place 1 ∷ slice_index place 2 ∷ slice_index place 3 ∷ slice_index place 4 ∷ 0 ∷ [])
      × Bad (slice_index place 1) (slice_index place 2) (slice_index place 3) (slice_index place 4)))

  abbrev pub NumberedAt : List ℕ → Type 0
  NumberedAt place =
      ((place ≡ 1 ∷ slice_index place 1 ∷ slice_index place 2 ∷ slice_index place 3 ∷ slice_index place 4 ∷ 1 ∷ [])
      × Unnumbered (slice_index place 1) (slice_index place 2) (slice_index place 3) (slice_index place 4))
      ⊎ ((place ≡ 1 ∷ slice_index place 1 ∷ slice_index place 2 ∷ slice_index place 3 ∷ suc (one_less (slice_index place 4)) ∷ 2 ∷ [])
      × Falling (slice_index place 1) (slice_index place 2) (slice_index place 3) (one_less (slice_index place 4)))

  pub structural_decided : (place : List ℕ) → Decided (StructuralAt place)
  structural_decided place = either _ _ (unreached_decided t e place) (either _ _
      (both _ _ (same_list place _) (three _ _ _ (true_decided (is_source t (slice_index place 2))) (connected_to_decided t (slice_index place 2) (slice_index place 1)) (none_decided (level l (slice_index place 2) (slice_index place 1)))))
      (both _ _ (same_list place _) (hop_decided _ _ _ _ _ (λ v. at_most_decided l.count v.lane))))

  pub numbered_decided : (place : List ℕ) → Decided (NumberedAt place)
  numbered_decided place = either _ _
      (both _ _ (same_list place _) (hop_decided _ _ _ _ _ (λ v. equal (number_of l v) 0)))
      (both _ _ (same_list place _) (hop_decided _ _ _ _ _ (λ v. hop_decided _ _ _ _ _ (λ w. at_most_decided (number_of l w) (number_of l v)))))

  -- they stand there
  abbrev Structural : List ℕ → Verdict → Type 0
  Structural place f = IsStructural f × IsFaultAt t e (Some l) place f

  pub structural_stands : (place : List ℕ) → StructuralAt place → Stands Structural place
  structural_stands place (inl u) = (Unreached (lid_id (slice_index place 1)) (switch_id (slice_index place 2)) (route t e (slice_index place 2) (slice_index place 1)).end, (tt, (u.0, u.1, refl, u.2)))
  structural_stands place (inr (inl x)) = (NoLevel (lid_id (slice_index place 1)) (switch_id (slice_index place 2)), (tt, (l, refl, (x.0, x.1.0, x.1.1, x.1.2))))
  structural_stands place (inr (inr x)) =
      let h = x.1.1 in
      let tail : (c : ChannelRow) × Leaves t x.1.0 c.tail = leaves t e l h.terminal (slice_index place 1) (slice_index place 4) x.1.0 h.at_hop in (
        BadLane (lid_id (slice_index place 1)) (switch_id (slice_index place 2)) tail.0.tail,
        (tt, (l, refl, (slice_index place 3, slice_index place 4, x.1.0, x.0, h, tail.1, x.1.2))),
      )

  pub numbered_stands : (place : List ℕ) → NumberedAt place → Stands (IsFaultAt t e (Some l)) place
  numbered_stands place (inl x) = (
    NoNumber (lid_id (slice_index place 1)) (switch_id (slice_index place 2)) x.1.0,
    (l, refl, (slice_index place 3, slice_index place 4, x.0, x.1.1, x.1.2)),
  )
  numbered_stands place (inr x) = (
    NotRising (lid_id (slice_index place 1)) (switch_id (slice_index place 2)) x.1.0 x.1.2.0 (number_of l x.1.0) (number_of l x.1.2.0),
    (l, refl, (slice_index place 3, one_less (slice_index place 4), x.0, x.1.1, x.1.2.1, refl, refl, x.1.2.2)),
  )

  -- and what stands there is one of them
  lane_kind : (place : List ℕ) (f : Verdict) → IsLaneFaultAt t e l place f → (IsStructural f × StructuralAt place) ⊎ ((¬ IsStructural f) × NumberedAt place)
  lane_kind place Routes f = absurd f
  lane_kind place Lanes f = absurd f
  lane_kind place (Unreached a b c) f = absurd f
  lane_kind place (NoLevel a b) f = inl (tt, subst StructuralAt (sym f.0) (inr (inl (refl, (f.1, f.2, f.3)))))
  lane_kind place (BadLane a b c) f = inl (tt, subst StructuralAt (sym f.3) (inr (inr (refl, (f.2, f.4, f.6)))))
  lane_kind place (NoNumber a b v) f = inr (λ s. s, subst NumberedAt (sym f.2) (inl (refl, (v, f.3, f.4))))
  lane_kind place (NotRising a b v w m n) f = inr (λ s. s, subst NumberedAt (sym f.2) (inr (refl, (v, f.3, (w, f.4, omega (arith, f.5, f.6, f.7))))))

  with_these : (o : LaneTables) (place : List ℕ) (f : Verdict) → Some l ≡ Some o → IsLaneFaultAt t e o place f → IsLaneFaultAt t e l place f
  with_these o place f is x = subst (λ k. IsLaneFaultAt t e k place f) (sym (same_lanes l o is)) x

  pub kind : (place : List ℕ) (f : Verdict) → IsFaultAt t e (Some l) place f → (IsStructural f × StructuralAt place) ⊎ ((¬ IsStructural f) × NumberedAt place)
  kind place Routes f = absurd f.2
  kind place Lanes f = absurd f.2
  kind place (Unreached a b c) f = inl (tt, inl (unreached_is t e place a.0 b.0 f.0 f.1 (λ d. f.3 (sym f.2 ∙ d))))
  kind place (NoLevel a b) f = lane_kind place (NoLevel a b) (with_these f.0 place (NoLevel a b) f.1 f.2)
  kind place (BadLane a b c) f = lane_kind place (BadLane a b c) (with_these f.0 place (BadLane a b c) f.1 f.2)
  kind place (NoNumber a b v) f = lane_kind place (NoNumber a b v) (with_these f.0 place (NoNumber a b v) f.1 f.2)
  kind place (NotRising a b v w m n) f = lane_kind place (NotRising a b v w m n) (with_these f.0 place (NotRising a b v w m n) f.1 f.2)

-- ---- places of faults are small

-- above the numbers of all places of faults
abbrev pub size : Topology → ℕ
size t = 3 + (total (λ n. n) (lids_of t) + (length t.switches + total (λ (p : TerminalRow). p.port) t.terminals))

module _ (t : Topology) (fabric : IsFabric t) (e : Entries) where
  lid_small : (s lid : ℕ) → IsConnectedTo t s lid → lid < size t
  lid_small s lid c = let has : Contains (lids_of t) lid = connected_in_use t s lid c in omega (arith, at_most_total (λ n. n) (lids_of t) lid has.0 has.1 has.2)

  switch_small : (s lid : ℕ) → IsConnectedTo t s lid → s < size t
  switch_small s lid c = omega (arith, connected_below t fabric.rows s lid c)

  pub unreached_small : (place : List ℕ) → UnreachedAt t e place → IsSmall (size t) 6 place
  unreached_small place u = subst (IsSmall (size t) 6) (sym u.0) (omega arith, (lid_small _ _ u.1, (switch_small _ _ u.1, tt)))

  module _ (l : LaneTables) where
    hop_small : (lid s port hop kind : ℕ) (v : VirtualChannel) → kind < 3 → IsHop t e l lid s port hop v → IsSmall (size t) 6 (1 ∷ lid ∷ s ∷ port ∷ hop ∷ kind ∷ [])
    hop_small lid s port hop kind v few h = (omega arith, (lid_small s lid connected, (switch_small s lid connected, (port_small, (within, (omega (arith, few), tt))))))
      where
        connected : IsConnectedTo t s lid
        connected = subst (λ x. IsConnectedTo t x lid) h.of_source h.path.connected

        port_small : port < size t
        port_small = let has = h.path.terminal in omega (arith, h.at_port, at_most_total (λ (p : TerminalRow). p.port) t.terminals h.terminal has.0 has.1 has.2)

        within : hop < size t
        within = omega (arith, (goes_on t e lid hop (length t.switches) h.terminal.switch.0 v.channel.0 (channel_of_virtual t e l h.terminal lid hop v h.at_hop)).0)

    pub structural_small : (place : List ℕ) → StructuralAt t e l place → IsSmall (size t) 6 place
    structural_small place (inl u) = unreached_small place u
    structural_small place (inr (inl x)) = subst (IsSmall (size t) 6) (sym x.0) (omega arith, (lid_small _ _ x.1.1, (switch_small _ _ x.1.1, tt)))
    structural_small place (inr (inr x)) = subst (IsSmall (size t) 6) (sym x.0) (hop_small _ _ _ _ 0 x.1.0 (omega arith) x.1.1)

    pub numbered_small : (place : List ℕ) → NumberedAt t e l place → IsSmall (size t) 6 place
    numbered_small place (inl x) = subst (IsSmall (size t) 6) (sym x.0) (hop_small _ _ _ _ 1 x.1.0 (omega arith) x.1.1)
    numbered_small place (inr x) = subst (IsSmall (size t) 6) (sym x.0) (hop_small _ _ _ _ 2 x.1.2.0 (omega arith) x.1.2.1)
