-- A fabric has tables of least weight: LID after LID, each switch takes its channel.
use Rattle.std.proofs.Common.{◌≡◌, ℕ, zero, suc, ◌+◌, ◌<◌, ◌≤◌, List, length, map, set, Some, None, Option, option_map, position, find, slice_get, refl, ◌∙◌, ap, subst, arith, Contains, true, length-set}
use Rattle.std.specs.Prelude.{◌==◌, IsSome, replicate, slice_index, unwrap_or}
use Rattle.std.specs.Option.{option_or}
use Rattle.std.specs.List.{range_with_len}
use Rattle.std.proofs.lemmas.Bool.{cond_both, false≢true}
use Rattle.std.proofs.lemmas.List.{get_or_default, length-replicate}
use Rattle.std.proofs.lemmas.List.FromFn.{length-map-range_with_len, get_or-map-range_with_len}
use Rattle.std.proofs.lemmas.List.Elements.{All-contains}
use Rattle.std.proofs.lemmas.Option.{same_Some, none-some}
use Rattle.fab_model.specs.declared.rows.SwitchRow.{SwitchRow}
use Rattle.fab_model.specs.declared.rows.TerminalRow.{TerminalRow}
use Rattle.fab_model.specs.declared.rows.Place.{Place}
use Rattle.fab_model.specs.Topology.{Topology, switch_id, lids_of, place_of, ports_of}
use Rattle.fab_model.specs.WellFormed.{IsFabric, IsWellFormed, IsPort}
use Rattle.fab_model.proofs.Channels.{contains_read}
use Rattle.fab_model.proofs.Finds.{channels_are_found}
use Rattle.fab_model.proofs.Lists.Found.{from_find}
use Rattle.fab_model.proofs.Lists.Members.{In, Contains_from_in}
use Rattle.fab_tables.specs.Entries.{Entries, with_entry, no_entries}
use Rattle.fab_tables.specs.Fit.{EntriesFit}
use Rattle.fab_tables.specs.TreeWalks.{terminals_through}
use Rattle.fab_tables.proofs.Paths.FallingRoutes.{channel_port_small}
use Rattle.fab_sssp.specs.WeightTables.{WeightTable, weight_of, start_weights}
use Rattle.fab_sssp.specs.Laws.{LeastWeightTablesExist}
use Rattle.fab_sssp.specs.Laying.{port_of_row, port_along, HasItsChannel, IsLaidAt, IsLaid, KeepsOtherLids}
use Rattle.fab_tables.proofs.Rows.EntriesSet.{fits_kept, entry_kept}
use Rattle.fab_sssp.proofs.Tables.LidPlaces.{has_place}
use Rattle.fab_sssp.proofs.Tables.LaidTrees.{one_laid, all_laid}
use Rattle.fab_sssp.proofs.Tables.LaidLids.{IsLaying, laying_begins, one_lid_read, all_lids_laid}
use Rattle.fab_sssp.proofs.Walks.DistancesExist.{channel_exists}

-- ---- ports are small

ports_small : (t : Topology) → IsWellFormed t → (s : ℕ) → ports_of t s ≤ 254
ports_small t good s = go (slice_get t.switches s) refl
  where
    go : (o : Option SwitchRow) → slice_get t.switches s ≡ o → unwrap_or (option_map (λ (row : SwitchRow). row.ports) o) 0 ≤ 254
    go None at = omega arith
    go (Some row) at = All-contains (λ (r : SwitchRow). r.ports ≤ 254) t.switches row good.switch_ports (contains_read t.switches s row at)

place_port_small : (t : Topology) → IsWellFormed t → (lid : ℕ) (place : Place) → place_of t lid ≡ Some place → place.port < 256
place_port_small t good lid place e = go (position (λ (row : SwitchRow). row.lid.0 == lid) t.switches) (find (λ (row : TerminalRow). row.lid.0 == lid) t.terminals) refl e
  where
    go : (o : Option ℕ) (p : Option TerminalRow) → find (λ (row : TerminalRow). row.lid.0 == lid) t.terminals ≡ p →
        option_or (option_map (λ number. record { switch = switch_id number; port = 0 }) o) (option_map (λ (row : TerminalRow). record { switch = row.switch; port = row.port }) p) ≡ Some place → place.port < 256
    go (Some n) p found is = omega (arith, ap (λ (q : Place). q.port) (same_Some _ place is))
    go None None found is = absurd (none-some place is)
    go None (Some row) found is =
        let at : In row t.terminals × ((row.lid.0 == lid) ≡ true) = from_find (λ (r : TerminalRow). r.lid.0 == lid) t.terminals row found in
        let port : IsPort (ports_of t row.switch.0) row.port = All-contains (λ (r : TerminalRow). IsPort (ports_of t r.switch.0) r.port) t.terminals row good.terminal_ports (Contains_from_in t.terminals row at.0) in
        omega (arith, ap (λ (q : Place). q.port) (same_Some _ place is), port.1, ports_small t good row.switch.0)

port_small : (t : Topology) (weight : ℕ → ℕ) → IsWellFormed t → (place : Place) (s : ℕ) (o : Option ℕ) → place.port < 256 → HasItsChannel t weight s place.switch.0 o → port_along t place s o < 256
port_small t weight good place s None low has = cond_both (s == place.switch.0) place.port 255 (λ n. n < 256) (λ e. low) (λ e. omega arith)
port_small t weight good place s (Some c) low has =
    omega (arith, ap port_of_row has.1.there, channel_port_small t good has.1.row.tail.0 has.1.row.port c (channels_are_found t c has.1.row good has.1.there))

-- ---- one LID

-- the first so many switches have their channels and entries
record IsPartlyLaid (t : Topology) (weight : ℕ → ℕ) (old : Entries) (lid : ℕ) (place : Place) (count : ℕ) : Type 0 where
  tables : Entries
  tree : List (Option ℕ)
  each : length tree ≡ length t.switches
  fits : EntriesFit t tables
  others : KeepsOtherLids lid old tables
  laid : (q : ℕ) → q < count → IsLaidAt t weight tables lid place tree q

module _ (t : Topology) (good : IsWellFormed t) (weight : ℕ → ℕ) (positive : (c : ℕ) → c < length t.channels → 0 < weight c) (e : Entries) (fits : EntriesFit t e) (lid : ℕ) (in_use : Contains (lids_of t) lid)
    (place : Place) (is : place_of t lid ≡ Some place) (blank : List (Option ℕ)) (whole : length blank ≡ length t.switches) where
  partly_laid : (k : ℕ) → k ≤ length t.switches → IsPartlyLaid t weight e lid place k
  partly_laid zero h = record { tables = e; tree = blank; each = whole; fits = fits; others = λ s other apart. refl; laid = λ q low. absurd (omega (arith, low)) }
  partly_laid (suc k) h = go (partly_laid k (omega (arith, h)))
    where
      chosen : (o : Option ℕ) × HasItsChannel t weight k place.switch.0 o
      chosen = channel_exists t weight positive place.switch.0 good k

      port : ℕ
      port = port_along t place k chosen.0

      small : port < 256
      small = port_small t weight good place k chosen.0 (place_port_small t good lid place is) chosen.1

      go : IsPartlyLaid t weight e lid place k → IsPartlyLaid t weight e lid place (suc k)
      go before = record {
        tables = with_entry before.tables k lid port;
        tree = set before.tree k chosen.0;
        each = length-set before.tree k chosen.0 ∙ before.each;
        fits = fits_kept t before.tables k lid port before.fits (omega (arith, h)) in_use small;
        others = λ q other apart. entry_kept t before.tables k lid port before.fits (omega (arith, h)) in_use q other (λ same also. apart also) ∙ before.others q other apart;
        laid = λ q low. one_laid t weight before.tables lid place before.tree before.fits before.each in_use k port chosen.0 (omega (arith, h)) chosen.1 refl before.laid q (omega (arith, low));
      }

  all : IsPartlyLaid t weight e lid place (length t.switches)
  all = partly_laid (length t.switches) (omega arith)

  laid_exists : (new : Entries) × (tree : List (Option ℕ)) × EntriesFit t new × KeepsOtherLids lid e new × IsLaid t weight new lid tree
  laid_exists = (all.tables, all.tree, all.fits, all.others, all_laid t weight all.tables lid place all.tree good all.fits all.each is all.laid)

-- ---- LID after LID

module _ (t : Topology) (fabric : IsFabric t) where
  abbrev Laying : ℕ → Type 0
  Laying k = (e : Entries) × (w : WeightTable) × IsLaying t e w k

  one_more : (k : ℕ) → k < length (lids_of t) → Laying k → Laying (suc k)
  one_more k low before = go (place_of t lid) refl
    where
      lid : ℕ
      lid = slice_index (lids_of t) k

      in_use : Contains (lids_of t) lid
      in_use = (k, low, get_or_default (lids_of t) k lid 0 low)

      W : ℕ → ℕ
      W c = weight_of before.1 c

      positive : (c : ℕ) → c < length t.channels → 0 < W c
      positive c h = omega (arith, before.2.weights c h)

      raised : List (Option ℕ) → WeightTable
      raised tree = record { weights = map (λ c. W c + terminals_through t tree c) (range_with_len 0 (length t.channels)); switches = before.1.switches; raised = before.1.raised + 1 }

      go : (o : Option Place) → place_of t lid ≡ o → Laying (suc k)
      go None is = absurd (false≢true (subst (λ o. IsSome o) is (has_place t lid in_use)))
      go (Some place) is =
          let x : (new : Entries) × (tree : List (Option ℕ)) × EntriesFit t new × KeepsOtherLids lid before.0 new × IsLaid t W new lid tree =
          laid_exists t fabric.rows W positive before.0 before.2.fits lid in_use place is (replicate (length t.switches) None) (length-replicate (length t.switches) None) in
          let after : IsLaying t x.0 (raised x.1) (k + 1) =
          one_lid_read t before.0 x.0 before.1 (raised x.1) k lid x.1 fabric.rows before.2 low refl x.4 x.3 x.2
          (record { channels = length-map-range_with_len (λ c. W c + terminals_through t x.1 c) 0 (length t.channels); switches = before.2.made_for.switches }) refl
          (λ c h. get_or-map-range_with_len (λ d. W d + terminals_through t x.1 d) 0 (length t.channels) c c 0 h (omega arith)) in
          (x.0, raised x.1, subst (λ j. IsLaying t x.0 (raised x.1) j) (omega arith) after)

  laying_exists : (k : ℕ) → k ≤ length (lids_of t) → Laying k
  laying_exists zero h = (no_entries (length t.switches) (lids_of t), start_weights t, laying_begins t fabric)
  laying_exists (suc k) h = one_more k (omega (arith, h)) (laying_exists k (omega (arith, h)))

pub least_weight_tables_exist : LeastWeightTablesExist
least_weight_tables_exist t fabric =
    let found : Laying t fabric (length (lids_of t)) = laying_exists t fabric (length (lids_of t)) (omega arith) in
    (found.0, all_lids_laid t found.0 found.1 (length (lids_of t)) found.2 (omega arith))
