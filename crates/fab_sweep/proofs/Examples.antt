-- Failures of STUB, PAIR and RING5, and the counts of STUB's one row. The numbers are those of an independent program.
use Rattle.std.proofs.Common.{◌≡◌, ℕ, List, [], ◌∷◌, refl}
use Rattle.std.specs.Prelude.{Bool, true, ◌==◌, None, map}
use Rattle.fab_model.specs.declared.rows.Cable.{Cable}
use Rattle.fab_tables.specs.Entries.{Entries}
use Rattle.fab_tables.proofs.Examples.Fabrics.{stub, stub_entries}
use Rattle.fab_tables.proofs.Examples.MoreFabrics.{pair, ring5}
use Rattle.fab_sweep.specs.declared.Failing.TheVariants.{Cables, Switches}
use Rattle.fab_sweep.specs.Failures.{Failure, failures}
use Rattle.fab_sweep.specs.Sweeps.{is_lost, is_changed, is_moved, pairs_with, after_failure}

abbrev cable : ℕ → ℕ → Cable
cable guid port = record { guid = guid; port = port }

abbrev failure : ℕ → ℕ → List Cable → Failure
failure switch port cables = record { switch = switch; port = port; cables = cables }

cable_of_stub : failures stub Cables ≡ failure 0 1 (cable 0x10000 1 ∷ []) ∷ []
cable_of_stub = refl

switches_of_stub : failures stub Switches ≡ failure 0 0 (cable 0x10000 1 ∷ []) ∷ failure 1 0 (cable 0x10001 1 ∷ []) ∷ []
switches_of_stub = refl

cables_of_pair : failures pair Cables ≡ failure 0 1 (cable 0x10 1 ∷ []) ∷ failure 0 2 (cable 0x10 2 ∷ []) ∷ []
cables_of_pair = refl

switches_of_pair : failures pair Switches ≡ failure 0 0 (cable 0x10 1 ∷ cable 0x10 2 ∷ []) ∷ failure 1 0 (cable 0x11 1 ∷ cable 0x11 2 ∷ []) ∷ []
switches_of_pair = refl

-- the cable from switch 4 back to switch 0 stands under the port of switch 0
cables_of_ring : map {B = ℕ × ℕ} (λ (f : Failure). (f.switch, f.port)) (failures ring5 Cables) ≡ (0, 1) ∷ (0, 2) ∷ (1, 1) ∷ (2, 1) ∷ (3, 1) ∷ []
cables_of_ring = refl

-- without its cable STUB has no channel
cut_stub : (after_failure stub (failure 0 1 (cable 0x10000 1 ∷ []))).channels ≡ []
cut_stub = refl

abbrev all_joined : ℕ → ℕ → Bool
all_joined from to = true

abbrev none_joined : ℕ → ℕ → Bool
none_joined from to = from == to

-- LID 2 from switch 0, and LIDs 1 and 3 from switch 1
lost : pairs_with stub (is_lost stub all_joined none_joined) ≡ 3
lost = refl

abbrev repaired : Entries
repaired = record { switches = 2; in_use = 1 ∷ 2 ∷ 3 ∷ []; ports = 0 ∷ 255 ∷ 255 ∷ 0 ∷ 2 ∷ 255 ∷ [] }

changed : pairs_with stub (is_changed stub_entries repaired) ≡ 3
changed = refl

moved : pairs_with stub (is_moved stub none_joined None None) ≡ 0
moved = refl
