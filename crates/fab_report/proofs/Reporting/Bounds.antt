-- Loads and hops are small numbers.
use Rattle.std.proofs.Common.{ℕ, zero, suc, ◌*◌, ◌≤◌, Bool, true, false, length, arith}
use Rattle.std.specs.Prelude.{count_by, sum_by, if◌then◌else◌}
use Rattle.std.specs.List.{range_with_len}
use Rattle.std.proofs.lemmas.List.FromFn.{length-range_with_len}
use Rattle.std.proofs.lemmas.List.Sums.{sum_by-le, count_by-le-length, length-filter}
use Rattle.fab_model.specs.declared.rows.TerminalRow.{TerminalRow}
use Rattle.fab_model.specs.Topology.{Topology, lids_of, is_source}
use Rattle.fab_model.proofs.Order.{lids_are_counted}
use Rattle.fab_tables.specs.Entries.{Entries, entry}
use Rattle.fab_tables.specs.Route.{Hop, Route, hop_by, tip, after_hop, route_within, route}
use Rattle.fab_tables.specs.Route.Hop.{Along, Stop}
use Rattle.fab_report.specs.Loads.{is_delivered, is_loaded_by, load_of}
use Rattle.fab_report.specs.Summary.{sources, hops_if_delivered, hops_in_all}
use Rattle.fab_report.specs.Laws.{LoadIsSmall, HopsAreFew}

pub load_is_small : LoadIsSmall
load_is_small t e channel is =
    let each : (lid : ℕ) → count_by (λ (p : TerminalRow). is_loaded_by channel (route t e p.switch.0 lid)) t.terminals ≤ 16384 = λ lid.
    omega (arith, count_by-le-length (λ (p : TerminalRow). is_loaded_by channel (route t e p.switch.0 lid)) t.terminals, is.rows.lid_count) in
    let sum : load_of t e channel ≤ length (lids_of t) * 16384 = sum_by-le (λ lid. count_by (λ (p : TerminalRow). is_loaded_by channel (route t e p.switch.0 lid)) t.terminals) 16384 (lids_of t) (λ k d h. each _) in
    omega (arith, sum, lids_are_counted t, is.rows.lid_count)

-- a route goes along no more channels than it may
pub route_short : (t : Topology) (e : Entries) (lid n s : ℕ) → length (route_within t e lid n s).channels ≤ n
route_short t e lid zero s = omega arith
route_short t e lid (suc n) s = go (λ next. route_short t e lid n next) (hop_by t lid s (entry e s lid))
  where
    go : ((next : ℕ) → length (route_within t e lid n next).channels ≤ n) → (hop : Hop) → length (after_hop t (λ next. route_within t e lid n next) hop).channels ≤ suc n
    go rest (Stop x) = omega arith
    go rest (Along c) = omega (arith, rest (tip t c))

pub hops_short : (n : ℕ) (r : Route) → length r.channels ≤ n → hops_if_delivered r ≤ n
hops_short n r h = go (is_delivered r.end)
  where
    go : (b : Bool) → (if b then length r.channels else 0) ≤ n
    go true = h
    go false = omega arith

pub hops_are_few : HopsAreFew
hops_are_few t e is =
    let few : length (sources t) ≤ 2048 = omega (arith, is.rows.switch_count, length-filter (is_source t) (range_with_len 0 (length t.switches)), count_by-le-length (is_source t) (range_with_len 0 (length t.switches)), length-range_with_len 0 (length t.switches)) in
    let one : (lid s : ℕ) → hops_if_delivered (route t e s lid) ≤ 2048 = λ lid s. hops_short 2048 (route t e s lid) (omega (arith, route_short t e lid (length t.switches) s, is.rows.switch_count)) in
    let each : (lid : ℕ) → sum_by (λ s. hops_if_delivered (route t e s lid)) (sources t) ≤ 4194304 = λ lid.
    omega (arith, few, sum_by-le (λ s. hops_if_delivered (route t e s lid)) 2048 (sources t) (λ k d h. one lid _)) in
    let sum : hops_in_all t e ≤ length (lids_of t) * 4194304 = sum_by-le (λ lid. sum_by (λ s. hops_if_delivered (route t e s lid)) (sources t)) 4194304 (lids_of t) (λ k d h. each _) in
    omega (arith, sum, lids_are_counted t, is.rows.lid_count)
