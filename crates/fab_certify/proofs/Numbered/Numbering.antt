-- A numbered plan is certified: its numbers don't touch its virtual channels, and levels rise.
use Rattle.std.proofs.Common.{◌≡◌, ℕ, suc, List, [], ◌∷◌, refl, sym, ◌∙◌, ap, subst, arith, Some, None, Option}
use Rattle.std.specs.Prelude.{Contains, slice_get}
use Rattle.fab_model.specs.declared.rows.ChannelRow.{ChannelRow}
use Rattle.fab_model.specs.declared.rows.TerminalRow.{TerminalRow}
use Rattle.fab_model.specs.Topology.{Topology}
use Rattle.fab_tables.specs.declared.verdict.VirtualChannel.{VirtualChannel}
use Rattle.fab_tables.specs.Entries.{Entries}
use Rattle.fab_tables.specs.LaneTables.{LaneTables, level}
use Rattle.fab_tables.specs.Route.{route}
use Rattle.fab_tables.specs.VirtualChannels.{virtual_channel, virtual_channels, on_channels, at_level, hop_lane, arrival, Follow}
use Rattle.fab_tables.specs.Dependencies.{IsUsed, Depends}
use Rattle.fab_tables.specs.Certified.{Reaches, HasRisingNumbers}
use Rattle.fab_tables.proofs.Verdicts.CertifiedLaws.{contains_of}
use Rattle.fab_certify.specs.Numbered.{IsNumberedBy, IsSound}
use Rattle.fab_certify.specs.Laws.{NumberedIsCertified}

same_lane : (l : LaneTables) (ns : List ℕ) (of_level from : ℕ) (c : Option ChannelRow) → hop_lane (record l { numbers = ns }) of_level from c ≡ hop_lane l of_level from c
same_lane l ns of_level from None = refl
same_lane l ns of_level from (Some c) = refl

same_hops : (t : Topology) (l : LaneTables) (ns : List ℕ) (of_level from : ℕ) (cs : List ℕ) → on_channels t (record l { numbers = ns }) of_level from cs ≡ on_channels t l of_level from cs
same_hops t l ns of_level from [] = refl
same_hops t l ns of_level from (c ∷ cs) =
    ap (λ on_lane. virtual_channel c on_lane ∷ on_channels t (record l { numbers = ns }) of_level (arrival (slice_get t.channels c)) cs) (same_lane l ns of_level from (slice_get t.channels c))
    ∙ ap (λ vs. virtual_channel c (hop_lane l of_level from (slice_get t.channels c)) ∷ vs) (same_hops t l ns of_level (arrival (slice_get t.channels c)) cs)

same_at_level : (t : Topology) (l : LaneTables) (ns : List ℕ) (from : ℕ) (cs : List ℕ) (o : Option ℕ) → at_level t (record l { numbers = ns }) from cs o ≡ at_level t l from cs o
same_at_level t l ns from cs None = refl
same_at_level t l ns from cs (Some of_level) = same_hops t l ns of_level from cs

-- the numbers don't touch the virtual channels
pub numbers_aside : (t : Topology) (e : Entries) (l : LaneTables) (ns : List ℕ) (p : TerminalRow) (lid : ℕ) → virtual_channels t e (record l { numbers = ns }) p lid ≡ virtual_channels t e l p lid
numbers_aside t e l ns p lid = same_at_level t l ns p.port ((route t e p.switch.0 lid).channels) (level l p.switch.0 lid)

module _ (t : Topology) (e : Entries) (l : LaneTables) (ns : List ℕ) where
  used : (v : VirtualChannel) → IsUsed t e (record l { numbers = ns }) v → IsUsed t e l v
  used v u = (u.0, u.1, u.2, subst (λ vs. Contains vs v) (numbers_aside t e l ns u.0 u.1) u.3)

  depends : (v w : VirtualChannel) → Depends t e (record l { numbers = ns }) v w → Depends t e l v w
  depends v w d = (d.0, d.1, d.2, subst (λ vs. Follow vs v w) (numbers_aside t e l ns d.0 d.1) d.3)

-- a virtual channel that another depends on, or that depends on one, is used
pub first_used : (t : Topology) (e : Entries) (l : LaneTables) (v w : VirtualChannel) → Depends t e l v w → IsUsed t e l v
first_used t e l v w d = (d.0, d.1, d.2, contains_of _ d.3.0 v d.3.1)

pub second_used : (t : Topology) (e : Entries) (l : LaneTables) (v w : VirtualChannel) → Depends t e l v w → IsUsed t e l w
second_used t e l v w d = (d.0, d.1, d.2, contains_of _ (suc d.3.0) w d.3.2)

rising : (t : Topology) (e : Entries) (l : LaneTables) (ns : List ℕ) → IsSound t e l → IsNumberedBy (IsUsed t e l) (Depends t e l) l (record l { numbers = ns }) → HasRisingNumbers t e (record l { numbers = ns })
rising t e l ns sound x = record {
  level = sound.level;
  lane = λ v u. sound.lane v (used t e l ns v u);
  number = λ v u. omega (arith, x.levels.positive v, x.numbers v (used t e l ns v u));
  rises = λ v w d. let old : Depends t e l v w = depends t e l ns v w d in
      omega (arith, x.levels.above v w old, x.numbers v (first_used t e l v w old), x.numbers w (second_used t e l v w old));
}

pub numbered_is_certified : NumberedIsCertified
numbered_is_certified t e l new sound x =
    let m : LaneTables = record l { numbers = x.lanes.numbers } in
    let numbered : IsNumberedBy (IsUsed t e l) (Depends t e l) l m = subst (IsNumberedBy (IsUsed t e l) (Depends t e l) l) x.numbered.same x.numbered in (
      m,
      x.has_lanes ∙ ap (λ k. Some k) x.numbered.same,
      subst (Reaches t) (sym x.tables) sound.reaches,
      subst (λ f. HasRisingNumbers t f m) (sym x.tables) (rising t e l x.lanes.numbers sound numbered),
    )
