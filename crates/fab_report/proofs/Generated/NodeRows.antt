-- The switches and adapters of a recipe's fabric, one after the other, and its four lists.
use Rattle.std.proofs.Common.{◌≡◌, ℕ, ◌+◌, List, [], ◌∷◌, ◌++◌, length, map, ◌∙◌, ap, arith}
use Rattle.std.specs.Prelude.{codes, decimal}
use Rattle.std.specs.List.{range_with_len, enumerate_from}
use Rattle.fab_model.specs.declared.rows.SwitchRow.{SwitchRow}
use Rattle.fab_model.specs.declared.rows.AdapterRow.{AdapterRow}
use Rattle.fab_model.specs.declared.rows.TerminalRow.{TerminalRow}
use Rattle.fab_model.specs.declared.rows.ChannelRow.{ChannelRow}
use Rattle.fab_model.specs.Topology.{Topology, lid_id}
use Rattle.fab_report.specs.declared.recipe.Recipe.{Recipe}
use Rattle.fab_report.specs.Recipes.{port_count, switch_row, all_switches, terminal_places, terminal_row, adapter_row, cables, channels_of, generated}
use Rattle.fab_report.proofs.Generated.RegularRows.{mapped_more}

nothing : (n : ℕ) → n ≡ 0 + n
nothing n = omega arith

abbrev adapter_of : ℕ → List ℕ → AdapterRow
adapter_of number desc = record { guid = 0x20000 + number; ports = 1; desc = desc }

pub adapter_more : (n number : ℕ) (desc : List ℕ) (old new : List AdapterRow) → old ≡ map adapter_row (range_with_len 0 n) → number ≡ n → desc ≡ codes "node " ++ decimal n →
    new ≡ old ++ adapter_of number desc ∷ [] → new ≡ map adapter_row (range_with_len 0 (n + 1))
adapter_more n number desc old new e same text g =
    mapped_more adapter_row 0 n [] old new e
    (g ∙ ap (λ k. old ++ adapter_of k desc ∷ []) same ∙ ap (λ (d : List ℕ). old ++ adapter_of n d ∷ []) text ∙ ap (λ k. old ++ adapter_row k ∷ []) (nothing n))

abbrev switch_with : ℕ → ℕ → ℕ → List ℕ → SwitchRow
switch_with number lid ports desc = record { guid = 0x10000 + number; lid = lid_id lid; ports = ports; desc = desc }

pub switch_more : (r : Recipe) (n number ports : ℕ) (desc : List ℕ) (old new : List SwitchRow) → old ≡ map (switch_row r) (range_with_len 0 n) → number ≡ n → ports ≡ port_count r.kind r.a r.b n →
    desc ≡ codes "switch " ++ decimal n → new ≡ old ++ switch_with number (n + 1) ports desc ∷ [] → new ≡ map (switch_row r) (range_with_len 0 (n + 1))
switch_more r n number ports desc old new e same are text g =
    mapped_more (switch_row r) 0 n [] old new e
    (g ∙ ap (λ k. old ++ switch_with k (n + 1) ports desc ∷ []) same ∙ ap (λ k. old ++ switch_with n (n + 1) k desc ∷ []) are ∙ ap (λ (d : List ℕ). old ++ switch_with n (n + 1) (port_count r.kind r.a r.b n) d ∷ []) text
    ∙ ap (λ k. old ++ switch_row r k ∷ []) (nothing n))

abbrev pub of_lists : List SwitchRow → List AdapterRow → List ChannelRow → List TerminalRow → Topology
of_lists switches adapters channels terminals = record { switches = switches; adapters = adapters; channels = channels; terminals = terminals }

pub lists_are : (r : Recipe) (count : ℕ) (switches : List SwitchRow) (adapters : List AdapterRow) (channels : List ChannelRow) (terminals : List TerminalRow) (rows : List ChannelRow) →
    switches ≡ map (switch_row r) (all_switches r) → adapters ≡ map adapter_row (range_with_len 0 count) → count ≡ length (terminal_places r) → channels ≡ channels_of rows → rows ≡ cables r.kind r.a r.b r.seed →
    terminals ≡ map (terminal_row r) (enumerate_from 0 (terminal_places r)) → of_lists switches adapters channels terminals ≡ generated r
lists_are r count switches adapters channels terminals rows s a n c cs t =
    ap (λ (x : List SwitchRow). of_lists x adapters channels terminals) s
    ∙ ap (λ (x : List AdapterRow). of_lists (map (switch_row r) (all_switches r)) x channels terminals) (a ∙ ap (λ k. map adapter_row (range_with_len 0 k)) n)
    ∙ ap (λ (x : List ChannelRow). of_lists (map (switch_row r) (all_switches r)) (map adapter_row (range_with_len 0 (length (terminal_places r)))) x terminals) (c ∙ ap (λ (x : List ChannelRow). channels_of x) cs)
    ∙ ap (λ (x : List TerminalRow). of_lists (map (switch_row r) (all_switches r)) (map adapter_row (range_with_len 0 (length (terminal_places r)))) (channels_of (cables r.kind r.a r.b r.seed)) x) t
