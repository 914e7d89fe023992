-- Without pairs, what is said of terminals is what is said of sources.
use Rattle.std.proofs.Common.{◌≡◌, ℕ, zero, suc, ◌<◌, Bool, true, false, List, [], ◌∷◌, length, refl, sym, ◌∙◌, ap, subst, arith, Some, None, Option, ◌⊎◌, inl, inr}
use Rattle.std.proofs.lemmas.Bool.Decides.{eqb_tells}
use Rattle.std.specs.Prelude.{Contains, slice_get, slice_index_or, find, ◌==◌, IsSome, ◌||◌}
use Rattle.std.specs.List.{list_any}
use Rattle.fab_model.specs.declared.rows.ChannelRow.{ChannelRow}
use Rattle.fab_model.specs.declared.rows.TerminalRow.{TerminalRow}
use Rattle.fab_model.specs.Topology.{Topology}
use Rattle.fab_model.specs.Connected.{IsConnectedTo}
use Rattle.fab_tables.specs.declared.verdict.VirtualChannel.{VirtualChannel}
use Rattle.fab_tables.specs.declared.lanes.PairRow.{PairRow}
use Rattle.fab_tables.specs.Entries.{Entries}
use Rattle.fab_tables.specs.LaneTables.{LaneTables, level, lane, lane_at, lane_of_pair, is_pair}
use Rattle.fab_tables.specs.Fit.{IsSource}
use Rattle.fab_tables.specs.Route.{route}
use Rattle.fab_tables.specs.VirtualChannels.{virtual_channel, virtual_channels, on_channels, at_level, hop_lane, arrival, Follow}
use Rattle.fab_tables.specs.Dependencies.{IsPath, IsUsed, Depends}
use Rattle.fab_tables.specs.Certified.{HasRisingNumbers}
use Rattle.fab_tables.specs.Plain.{plain_lane, plain_at_level, plain_channels, IsPlainlyUsed, DependsPlainly, RisesPlainly}
use Rattle.fab_tables.specs.Laws.{PlainAgrees}

pub general_lane : (l : LaneTables) (s from to of_level : ℕ) → l.pairs ≡ [] → lane_at l s from to of_level ≡ lane l s of_level
general_lane l s from to of_level e = ap (λ (rows : List PairRow). lane_of_pair (find (is_pair s from to) rows) of_level (lane l s of_level)) e

same_lane : (l : LaneTables) (of_level from : ℕ) (c : Option ChannelRow) → l.pairs ≡ [] → hop_lane l of_level from c ≡ plain_lane l of_level c
same_lane l of_level from None e = refl
same_lane l of_level from (Some c) e = general_lane l c.tail.0 from c.port of_level e

pub same_hops : (t : Topology) (l : LaneTables) (of_level from : ℕ) (cs : List ℕ) → l.pairs ≡ [] → on_channels t l of_level from cs ≡ plain_at_level t l cs (Some of_level)
same_hops t l of_level from [] e = refl
same_hops t l of_level from (c ∷ cs) e =
    ap (λ on_lane. virtual_channel c on_lane ∷ on_channels t l of_level (arrival (slice_get t.channels c)) cs) (same_lane l of_level from (slice_get t.channels c) e)
    ∙ ap (λ vs. virtual_channel c (plain_lane l of_level (slice_get t.channels c)) ∷ vs) (same_hops t l of_level (arrival (slice_get t.channels c)) cs e)

same_at_level : (t : Topology) (l : LaneTables) (from : ℕ) (cs : List ℕ) (o : Option ℕ) → l.pairs ≡ [] → at_level t l from cs o ≡ plain_at_level t l cs o
same_at_level t l from cs None e = refl
same_at_level t l from cs (Some of_level) e = same_hops t l of_level from cs e

pub same_channels : (t : Topology) (e : Entries) (l : LaneTables) → l.pairs ≡ [] → (p : TerminalRow) (lid : ℕ) → virtual_channels t e l p lid ≡ plain_channels t e l p.switch.0 lid
same_channels t e l none p lid = same_at_level t l p.port ((route t e p.switch.0 lid).channels) (level l p.switch.0 lid) none

or_left : (a b : Bool) → a ≡ true → (a || b) ≡ true
or_left true b e = refl
or_left false b e = cc

or_right : (a b : Bool) → b ≡ true → (a || b) ≡ true
or_right true b e = refl
or_right false b e = e

or_cases : (a b : Bool) → (a || b) ≡ true → (a ≡ true) ⊎ (b ≡ true)
or_cases true b e = inl refl
or_cases false b e = inr e

equal_tests : (a b : ℕ) → a ≡ b → (a == b) ≡ true
equal_tests a b e = elim (eqb_tells a b) [ inl x ↦ x.0 | inr y ↦ absurd (y.1 e) ]

tested_equal : (a b : ℕ) → (a == b) ≡ true → a ≡ b
tested_equal a b e = elim (eqb_tells a b) [ inl x ↦ x.1 | inr y ↦ absurd (not_both (a == b) y.0 e) ]
  where
    not_both : (c : Bool) → c ≡ false → c ≡ true → ⊥
    not_both c x y = cc

-- the switch of a terminal is a source, and a source is the switch of a terminal
pub source_of : (ps : List TerminalRow) (p : TerminalRow) (k : ℕ) → k < length ps → slice_index_or ps k p ≡ p → list_any (λ (row : TerminalRow). row.switch.0 == p.switch.0) ps ≡ true
source_of [] p k h e = absurd (omega arith)
source_of (q ∷ ps) p zero h e = or_left (q.switch.0 == p.switch.0) _ (equal_tests q.switch.0 p.switch.0 (ap (λ (r : TerminalRow). r.switch.0) e))
source_of (q ∷ ps) p (suc k) h e = or_right (q.switch.0 == p.switch.0) _ (source_of ps p k (omega arith) e)

pub terminal_of : (ps : List TerminalRow) (s : ℕ) → list_any (λ (row : TerminalRow). row.switch.0 == s) ps ≡ true → (p : TerminalRow) × Contains ps p × (p.switch.0 ≡ s)
terminal_of [] s h = absurd (false_is_true h)
  where
    false_is_true : false ≡ true → ⊥
    false_is_true x = cc
terminal_of (q ∷ ps) s h = here_or_there (terminal_of ps s) (or_cases (q.switch.0 == s) _ h)
  where
    here_or_there : (list_any (λ (row : TerminalRow). row.switch.0 == s) ps ≡ true → (p : TerminalRow) × Contains ps p × (p.switch.0 ≡ s)) →
        ((q.switch.0 == s) ≡ true) ⊎ (list_any (λ (row : TerminalRow). row.switch.0 == s) ps ≡ true) → (p : TerminalRow) × Contains (q ∷ ps) p × (p.switch.0 ≡ s)
    here_or_there go (inl x) = (q, (0, omega arith, refl), tested_equal q.switch.0 s x)
    here_or_there go (inr y) = let r : (p : TerminalRow) × Contains ps p × (p.switch.0 ≡ s) = go y in (r.0, (suc r.1.0, omega (arith, r.1.1), r.1.2), r.2)

module _ (t : Topology) (e : Entries) (l : LaneTables) (none : l.pairs ≡ []) where
  to_plain : (p : TerminalRow) (lid : ℕ) (P : List VirtualChannel → Type 0) → P (virtual_channels t e l p lid) → P (plain_channels t e l p.switch.0 lid)
  to_plain p lid P h = subst P (same_channels t e l none p lid) h

  -- a path of a source begins at a terminal
  path_of : (s lid : ℕ) (P : List VirtualChannel → Type 0) → IsSource t s → IsConnectedTo t s lid → P (plain_channels t e l s lid) →
      (p : TerminalRow) × IsPath t p lid × (p.switch.0 ≡ s) × P (virtual_channels t e l p lid)
  path_of s lid P source connected h =
      let q : (p : TerminalRow) × Contains t.terminals p × (p.switch.0 ≡ s) = terminal_of t.terminals s source in (
        q.0,
        record { terminal = q.1; connected = subst (λ x. IsConnectedTo t x lid) (sym q.2) connected },
        q.2,
        subst P (sym (same_channels t e l none q.0 lid)) (subst (λ x. P (plain_channels t e l x lid)) (sym q.2) h),
      )

  is_source_of : (p : TerminalRow) → Contains t.terminals p → IsSource t p.switch.0
  is_source_of p c = source_of t.terminals p c.0 c.1 c.2

  used : (v : VirtualChannel) → IsUsed t e l v → IsPlainlyUsed t e l v
  used v u = (u.0.switch.0, u.1, is_source_of u.0 u.2.terminal, u.2.connected, to_plain u.0 u.1 (λ vs. Contains vs v) u.3)

  plainly_used : (v : VirtualChannel) → IsPlainlyUsed t e l v → IsUsed t e l v
  plainly_used v u =
      let q : (p : TerminalRow) × IsPath t p u.1 × (p.switch.0 ≡ u.0) × Contains (virtual_channels t e l p u.1) v = path_of u.0 u.1 (λ vs. Contains vs v) u.2 u.3 u.4 in
      (q.0, u.1, q.1, q.3)

  depends : (v w : VirtualChannel) → Depends t e l v w → DependsPlainly t e l v w
  depends v w d = (d.0.switch.0, d.1, is_source_of d.0 d.2.terminal, d.2.connected, to_plain d.0 d.1 (λ vs. Follow vs v w) d.3)

  depends_plainly : (v w : VirtualChannel) → DependsPlainly t e l v w → Depends t e l v w
  depends_plainly v w d =
      let q : (p : TerminalRow) × IsPath t p d.1 × (p.switch.0 ≡ d.0) × Follow (virtual_channels t e l p d.1) v w = path_of d.0 d.1 (λ vs. Follow vs v w) d.2 d.3 d.4 in
      (q.0, d.1, q.1, q.3)

  rises : HasRisingNumbers t e l → RisesPlainly t e l
  rises h = record {
    level = λ s lid source connected. let q : (p : TerminalRow) × Contains t.terminals p × (p.switch.0 ≡ s) = terminal_of t.terminals s source in
        subst (λ x. IsSome (level l x lid)) q.2 (h.level q.0 lid (record { terminal = q.1; connected = subst (λ x. IsConnectedTo t x lid) (sym q.2) connected }));
    lane = λ v u. h.lane v (plainly_used v u);
    number = λ v u. h.number v (plainly_used v u);
    rises = λ v w d. h.rises v w (depends_plainly v w d);
  }

  rises_plainly : RisesPlainly t e l → HasRisingNumbers t e l
  rises_plainly h = record {
    level = λ p lid path. h.level p.switch.0 lid (is_source_of p path.terminal) path.connected;
    lane = λ v u. h.lane v (used v u);
    number = λ v u. h.number v (used v u);
    rises = λ v w d. h.rises v w (depends v w d);
  }

pub plain_agrees : PlainAgrees
plain_agrees t e l none =
    (same_channels t e l none, (λ v. (used t e l none v, plainly_used t e l none v)), (λ v w. (depends t e l none v w, depends_plainly t e l none v w)), (rises t e l none, rises_plainly t e l none))
