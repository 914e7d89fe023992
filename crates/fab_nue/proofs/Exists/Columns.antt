-- The entries of a LID are set switch by switch.
use Rattle.std.proofs.Common.{◌≡◌, ◌≢◌, ℕ, zero, suc, ◌<◌, ◌≤◌, inl, inr, Bool, true, false, List, length, Option, Some, None, refl, sym, ◌∙◌, ap, subst, arith, All, Contains}
use Rattle.std.specs.Prelude.{nat_lt, slice_index_or}
use Rattle.std.proofs.lemmas.Bool.{cases_lt}
use Rattle.std.proofs.lemmas.List.{get_or_past}
use Rattle.fab_model.specs.declared.rows.Place.{Place}
use Rattle.fab_model.specs.Topology.{Topology, lids_of, place_of}
use Rattle.fab_model.specs.Connected.{IsConnectedTo}
use Rattle.fab_model.specs.WellFormed.{IsWellFormed}
use Rattle.fab_tables.specs.declared.end.End.{End}
use Rattle.fab_tables.specs.declared.end.End.TheVariants.{Delivered, NoEntry, DeadPort, Astray, Loop}
use Rattle.fab_tables.specs.Entries.{Entries, AreEntries, index_of, cell, port_in_column, entry, with_entry}
use Rattle.fab_tables.specs.Fit.{EntriesFit}
use Rattle.fab_tables.specs.FixedEntries.{HasFixedEntries}
use Rattle.fab_tables.specs.Route.{Hop, hop_by, is_place, along_or_stop, tip, after_hop, route_within}
use Rattle.fab_tables.specs.Route.Hop.{Along, Stop}
use Rattle.fab_model.specs.Topology.{channel_at, terminal_at}
use Rattle.fab_tables.proofs.Paths.FallingRoutes.{place_below}
use Rattle.fab_tables.proofs.Rows.EntriesSet.{fits_kept, entry_set, entry_kept, entry_past}
use Rattle.std.specs.Prelude.{◌==◌, ◌&&◌, ◌||◌, is_some, if◌then◌else◌}
use Rattle.std.proofs.lemmas.Bool.{eqb-true, false≢true}
use Rattle.fab_nue.proofs.Searching.Growing.{same_or_other}

-- ---- entries are below 256

port_low : (ports : List ℕ) (k : ℕ) → All (λ port. port < 256) ports → slice_index_or ports k 255 < 256
port_low ports k low = elim (cases_lt k (length ports)) [ inl less ↦ low k 255 less | inr past ↦ omega (arith, get_or_past ports k 255 past) ]

pub entry_low : (e : Entries) (s lid : ℕ) → AreEntries e → entry e s lid < 256
entry_low e s lid are = go (index_of lid e.in_use)
  where
    chosen : (b : Bool) (port : ℕ) → port < 256 → (if b then port else 255) < 256
    chosen true port low = low
    chosen false port low = omega arith

    go : (o : Option ℕ) → port_in_column e s o < 256
    go None = omega arith
    go (Some i) = chosen (nat_lt s e.switches) (slice_index_or e.ports (cell e.switches i s) 255) (port_low e.ports (cell e.switches i s) are.low_ports)

-- ---- a column is set

-- the entries for the LID are those ports, and the other entries are as they were
pub record HasColumn (t : Topology) (old : Entries) (lid : ℕ) (port : ℕ → ℕ) (new : Entries) : Type 0 where
  pub fits : EntriesFit t new
  pub others : (s other : ℕ) → other ≢ lid → entry new s other ≡ entry old s other
  pub here : (s : ℕ) → s < length t.switches → entry new s lid ≡ port s

module _ (t : Topology) (e : Entries) (fits : EntriesFit t e) (lid : ℕ) (in_use : Contains (lids_of t) lid) (port : ℕ → ℕ) (small : (s : ℕ) → port s < 256) where
  record SetBelow (count : ℕ) : Type 0 where
    tables : Entries
    fit : EntriesFit t tables
    others : (s other : ℕ) → other ≢ lid → entry tables s other ≡ entry e s other
    here : (s : ℕ) → s < count → entry tables s lid ≡ port s

  set_below : (count : ℕ) → count ≤ length t.switches → SetBelow count
  set_below zero low = record { tables = e; fit = fits; others = λ s other apart. refl; here = λ s less. absurd (omega (arith, less)) }
  set_below (suc k) low = go (set_below k (omega (arith, low)))
    where
      go : SetBelow k → SetBelow (suc k)
      go before = record {
        tables = with_entry before.tables k lid (port k);
        fit = fits_kept t before.tables k lid (port k) before.fit (omega (arith, low)) in_use (small k);
        others = λ s other apart. entry_kept t before.tables k lid (port k) before.fit (omega (arith, low)) in_use s other (λ same also. apart also) ∙ before.others s other apart;
        here = λ s less. elim (same_or_other s k) [
          | inl same ↦ (let P : ℕ → Type 0 = λ x. entry (with_entry before.tables k lid (port k)) x lid ≡ port x in
              subst P (sym same) (entry_set t before.tables k lid (port k) before.fit (omega (arith, low)) in_use))
          | inr other ↦ entry_kept t before.tables k lid (port k) before.fit (omega (arith, low)) in_use s lid (λ same also. other same) ∙ before.here s (omega (arith, less, other))
        ];
      }

  pub column_set : (new : Entries) × HasColumn t e lid port new
  column_set = let all : SetBelow (length t.switches) = set_below (length t.switches) (omega arith) in (all.tables, record { fits = all.fit; others = all.others; here = all.here })

-- fixed entries stay where those of the column are right
pub fixed_after : (t : Topology) → IsWellFormed t → (old : Entries) (lid : ℕ) (port : ℕ → ℕ) (new : Entries) → HasFixedEntries t old → HasColumn t old lid port new →
    ((place : Place) → place_of t lid ≡ Some place → port place.switch.0 ≡ place.port) → ((s : ℕ) → ¬ IsConnectedTo t s lid → port s ≡ 255) → HasFixedEntries t new
fixed_after t good old lid port new fixed column own apart = record { fits = column.fits; own = each_own; apart = each_apart }
  where
    here_own : (n : ℕ) (place : Place) → n ≡ lid → place_of t n ≡ Some place → entry new place.switch.0 n ≡ place.port
    here_own n place same is =
        let at : place_of t lid ≡ Some place = ap (λ m. place_of t m) (sym same) ∙ is in
        ap (λ m. entry new place.switch.0 m) same ∙ column.here place.switch.0 (place_below t good lid place at) ∙ own place at

    each_own : (n : ℕ) (place : Place) → place_of t n ≡ Some place → entry new place.switch.0 n ≡ place.port
    each_own n place is = elim (same_or_other n lid) [ inl same ↦ here_own n place same is | inr other ↦ column.others place.switch.0 n other ∙ fixed.own n place is ]

    here_apart : (s : ℕ) → ¬ IsConnectedTo t s lid → entry new s lid ≡ 255
    here_apart s none = elim (cases_lt s (length t.switches)) [ inl low ↦ column.here s low ∙ apart s none | inr past ↦ entry_past t new s lid column.fits past ]

    each_apart : (s n : ℕ) → ¬ IsConnectedTo t s n → entry new s n ≡ 255
    each_apart s n none = elim (same_or_other n lid) [
      | inl same ↦ ap (λ m. entry new s m) same ∙ here_apart s (λ c. none (subst (λ m. IsConnectedTo t s m) (sym same) c))
      | inr other ↦ column.others s n other ∙ fixed.apart s n none
    ]

-- ---- where a route is delivered, the LID's own switch has the port of its place

stop_is : (a b : Bool) (rest : Hop) → ((end : End) → rest ≡ Stop end → end ≡ Delivered → ⊥) → (end : End) → (if a then Stop NoEntry else if b then Stop Delivered else rest) ≡ Stop end → end ≡ Delivered → b ≡ true
stop_is true b rest other end is delivered = let same : Stop NoEntry ≡ Stop Delivered = is ∙ ap (λ x. Stop x) delivered in cc
stop_is false true rest other end is delivered = refl
stop_is false false rest other end is delivered = absurd (other end is delivered)

never_delivers : (t : Topology) (s port : ℕ) (o : Option ℕ) (end : End) → along_or_stop t s port o ≡ Stop end → end ≡ Delivered → ⊥
never_delivers t s port (Some c) end is delivered = cc
never_delivers t s port None end is delivered = by_kind ((port == 0) || is_some (terminal_at t s port)) is
  where
    by_kind : (b : Bool) → (if b then Stop Astray else Stop DeadPort) ≡ Stop end → ⊥
    by_kind true same = let e : Stop Astray ≡ Stop Delivered = same ∙ ap (λ x. Stop x) delivered in cc
    by_kind false same = let e : Stop DeadPort ≡ Stop Delivered = same ∙ ap (λ x. Stop x) delivered in cc

both_true : (a b : Bool) → (a && b) ≡ true → (a ≡ true) × (b ≡ true)
both_true true b is = (refl, is)
both_true false b is = absurd (false≢true is)

pub delivered_own : (t : Topology) (e : Entries) (lid : ℕ) (place : Place) → place_of t lid ≡ Some place → (n s : ℕ) → (route_within t e lid n s).end ≡ Delivered → entry e place.switch.0 lid ≡ place.port
delivered_own t e lid place is zero s delivered = let same : Loop ≡ Delivered = delivered in cc
delivered_own t e lid place is (suc n) s delivered = go (λ x d. delivered_own t e lid place is n x d) (hop_by t lid s (entry e s lid)) refl delivered
  where
    at_place : is_place (place_of t lid) s (entry e s lid) ≡ true → entry e place.switch.0 lid ≡ place.port
    at_place there =
        let pair : (place.switch.0 == s) && (place.port == entry e s lid) ≡ true = ap (λ o. is_place o s (entry e s lid)) (sym is) ∙ there in
        let two : ((place.switch.0 == s) ≡ true) × ((place.port == entry e s lid) ≡ true) = both_true (place.switch.0 == s) (place.port == entry e s lid) pair in
        ap (λ x. entry e x lid) (eqb-true place.switch.0 s two.0) ∙ sym (eqb-true place.port (entry e s lid) two.1)

    go : ((x : ℕ) → (route_within t e lid n x).end ≡ Delivered → entry e place.switch.0 lid ≡ place.port) → (h : Hop) → hop_by t lid s (entry e s lid) ≡ h →
        (after_hop t (λ next. route_within t e lid n next) h).end ≡ Delivered → entry e place.switch.0 lid ≡ place.port
    go more (Along c) at x = more (tip t c) x
    go more (Stop end) at x =
        at_place (stop_is (entry e s lid == 255) (is_place (place_of t lid) s (entry e s lid)) (along_or_stop t s (entry e s lid) (channel_at t s (entry e s lid)))
        (never_delivers t s (entry e s lid) (channel_at t s (entry e s lid))) end at x)
