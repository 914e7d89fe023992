-- The virtual channels that routes use, and their dependencies, are finitely many, and so are collected.
use Rattle.std.proofs.Common.{◌≡◌, ℕ, ◌*◌, ◌<◌, inl, inr, Bool, true, false, length, map, refl, sym, ◌∙◌, arith, Contains}
use Rattle.std.specs.Prelude.{slice_index_or}
use Rattle.std.specs.List.{range_with_len}
use Rattle.std.proofs.lemmas.Bool.{cases_lt, false≢true}
use Rattle.std.proofs.lemmas.List.{get_or_past}
use Rattle.std.proofs.lemmas.List.FromFn.{length-map-range_with_len, get_or-map-range_with_len}
use Rattle.fab_graph.proofs.Decided.{Decided, contains_decided}
use Rattle.fab_model.specs.declared.rows.TerminalRow.{TerminalRow}
use Rattle.fab_model.specs.Topology.{Topology, lids_of}
use Rattle.fab_model.specs.Connected.{IsConnectedTo}
use Rattle.fab_tables.specs.declared.verdict.VirtualChannel.{VirtualChannel}
use Rattle.fab_tables.specs.Entries.{Entries}
use Rattle.fab_tables.specs.LaneTables.{LaneTables}
use Rattle.fab_tables.specs.VirtualChannels.{virtual_channels}
use Rattle.fab_tables.specs.Dependencies.{IsPath, IsUsed, DependsByNode, node_of}
use Rattle.fab_tables.proofs.Joined.ConnectedDecided.{connected_to_decided}
use Rattle.fab_tables.proofs.Joined.Lids.{connected_in_use}
use Rattle.fab_certify.specs.Collected.{Collected, IsMarked, AreDependencies}
use Rattle.fab_certify.specs.Numbered.{IsSound}
use Rattle.fab_certify.proofs.Collected.CollectingHops.{node_low}
use Rattle.fab_certify.proofs.Collected.HopChannels.{used_channel}
use Rattle.fab_certify.proofs.Exists.Listed.{Listed, same_listed, where_listed, some_listed, images_listed, FollowAs, follow_listed}

truth : {P : Type 0} → Decided P → Bool
truth (inl p) = true
truth (inr refuted) = false

holds : {P : Type 0} (d : Decided P) → truth d ≡ true → P
unfolding truth
holds (inl p) is = p
holds (inr refuted) is = absurd (false≢true is)

is_true : {P : Type 0} (d : Decided P) → P → truth d ≡ true
unfolding truth
is_true (inl p) q = refl
is_true (inr refuted) q = absurd (refuted q)

-- what holds on a path
module _ (t : Topology) {A : Type 0} (P : TerminalRow → ℕ → A → Type 0) (each : (p : TerminalRow) (lid : ℕ) → Listed (P p lid)) where
  abbrev pub OnPath : A → Type 0
  OnPath a = (p : TerminalRow) × (lid : ℕ) × IsPath t p lid × P p lid a

  abbrev Joined : TerminalRow → ℕ → A → Type 0
  Joined p lid a = IsConnectedTo t p.switch.0 lid × P p lid a

  abbrev From : TerminalRow → A → Type 0
  From p a = (lid : ℕ) × Contains (lids_of t) lid × Joined p lid a

  from_terminal : (p : TerminalRow) → Listed (From p)
  from_terminal p = some_listed (Joined p) (λ lid. where_listed (IsConnectedTo t p.switch.0 lid) (P p lid) (connected_to_decided t p.switch.0 lid) (each p lid)) (lids_of t)

  pub paths_listed : Listed OnPath
  paths_listed = same_listed (λ a. (p : TerminalRow) × Contains t.terminals p × From p a) OnPath
      (λ a s. (s.0, s.2.0, record { terminal = s.1; connected = s.2.2.0 }, s.2.2.1))
      (λ a s. (s.0, s.2.terminal, (s.1, connected_in_use t s.0.switch.0 s.1 s.2.connected, (s.2.connected, s.3))))
      (some_listed From from_terminal t.terminals)

module _ (t : Topology) (e : Entries) (l : LaneTables) where
  abbrev UsedAs : TerminalRow → ℕ → ℕ → Type 0
  UsedAs p lid n = (v : VirtualChannel) × Contains (virtual_channels t e l p lid) v × (node_of l.count v ≡ n)

  abbrev EdgeOf : TerminalRow → ℕ → ℕ × ℕ → Type 0
  EdgeOf p lid = FollowAs (node_of l.count) (virtual_channels t e l p lid)

  each_used : (p : TerminalRow) (lid : ℕ) → Listed (UsedAs p lid)
  each_used p lid = images_listed (node_of l.count) (virtual_channels t e l p lid)

  each_edge : (p : TerminalRow) (lid : ℕ) → Listed (EdgeOf p lid)
  each_edge p lid = follow_listed (node_of l.count) (virtual_channels t e l p lid)

  used_nodes : Listed (OnPath t UsedAs each_used)
  used_nodes = paths_listed t UsedAs each_used

  edges : Listed (OnPath t EdgeOf each_edge)
  edges = paths_listed t EdgeOf each_edge

  mark : ℕ → Bool
  mark n = truth (contains_decided used_nodes.list n)

  abbrev size : ℕ
  size = length t.channels * l.count

  pub collected : Collected
  collected = record { used = map mark (range_with_len 0 size); pairs = edges.list }

  each_node : length collected.used ≡ size
  unfolding collected
  each_node = length-map-range_with_len mark 0 size

  mark_at : (n : ℕ) → n < size → slice_index_or collected.used n false ≡ mark n
  unfolding collected
  mark_at n low = get_or-map-range_with_len mark 0 size n n false low (omega arith)

  used : (n : ℕ) → IsMarked collected n → (v : VirtualChannel) × IsUsed t e l v × (node_of l.count v ≡ n)
  unfolding mark
  used n is = elim (cases_lt n size) [
    | inl low ↦
        (let s : OnPath t UsedAs each_used n = used_nodes.only n (holds (contains_decided used_nodes.list n) (sym (mark_at n low) ∙ is)) in
        (s.3.0, (s.0, s.1, s.2, s.3.1), s.3.2))
    | inr past ↦ absurd (false≢true (sym (get_or_past collected.used n false (omega (arith, each_node, past))) ∙ is))
  ]

  pairs : (m n : ℕ) → Contains collected.pairs (m, n) → DependsByNode t e l m n
  unfolding collected
  pairs m n has = let s : OnPath t EdgeOf each_edge (m, n) = edges.only (m, n) has in (s.3.0, s.3.1, (s.0, s.1, s.2, s.3.2), s.3.3, s.3.4)

  has_pairs : (m n : ℕ) → DependsByNode t e l m n → Contains collected.pairs (m, n)
  unfolding collected
  has_pairs m n d = edges.all (m, n) (d.2.0, d.2.1, d.2.2, (d.0, d.1, d.2.3, d.3, d.4))

  module _ (sound : IsSound t e l) where
    pub used_low : (v : VirtualChannel) → IsUsed t e l v → node_of l.count v < size
    used_low v u = node_low (length t.channels) l.count v.channel.0 v.lane (used_channel t e l v u) (sound.lane v u)

    marked : (v : VirtualChannel) → IsUsed t e l v → IsMarked collected (node_of l.count v)
    unfolding mark
    marked v u =
        mark_at (node_of l.count v) (used_low v u)
        ∙ is_true (contains_decided used_nodes.list (node_of l.count v)) (used_nodes.all (node_of l.count v) (u.0, u.1, u.2, (v, u.3, refl)))

    pub are_collected : AreDependencies t e l collected
    are_collected = record { from_routes = record { each = each_node; used = used; pairs = pairs }; used = marked; pairs = has_pairs }
