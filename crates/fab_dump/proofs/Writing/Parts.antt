-- A text in four parts.
use Rattle.std.proofs.Common.{◌≡◌, refl, ℕ, List, [], ◌∷◌, ◌++◌, Option, Result, Ok, Err, sym, subst, ap, ◌∙◌, append_assoc}
use Rattle.std.specs.List.{flat_map, enumerate_from}
use Rattle.std.specs.Prelude.{codes}
use Rattle.fab_model.specs.Topology.{Topology}
use Rattle.fab_tables.specs.declared.plan.Plan.{Plan}
use Rattle.fab_tables.specs.LaneTables.{LaneTables}
use Rattle.fab_dump.specs.declared.write.WriteFault.{WriteFault}
use Rattle.fab_dump.specs.Writing.{lines_text, version_text, lanes_line, table_block, levels_block, map_block, number_lines, lane_lines, lane_part, plan_lines, PutsText}
use Rattle.fab_dump.proofs.Writing.Puts.{then_put, stopped}
use Rattle.fab_dump.proofs.Writing.Rows.{lines-append}

module _ (a b c d whole : List (List ℕ)) (same : ((a ++ b) ++ c) ++ d ≡ whole) where
  together : ((lines_text a ++ lines_text b) ++ lines_text c) ++ lines_text d ≡ lines_text whole
  together =
      ap (λ (front : List ℕ). (front ++ lines_text c) ++ lines_text d) (sym (lines-append a b)) ∙ ap (λ (front : List ℕ). front ++ lines_text d) (sym (lines-append (a ++ b) c))
      ∙ sym (lines-append ((a ++ b) ++ c) d) ∙ ap lines_text same

  module _ {before now : Option (List ℕ)} {count counted : ℕ} (fault : WriteFault) where
    first_stopped : PutsText (lines_text a) before now count counted (Err fault) → PutsText ((lines_text a ++ lines_text b) ++ lines_text c) before now count counted (Err fault)
    first_stopped one = stopped (lines_text a ++ lines_text b) (lines_text c) fault (stopped (lines_text a) (lines_text b) fault one)

    all_stopped : PutsText ((lines_text a ++ lines_text b) ++ lines_text c) before now count counted (Err fault) → PutsText (lines_text whole) before now count counted (Err fault)
    all_stopped one = subst (λ (text : List ℕ). PutsText text before now count counted (Err fault)) together (stopped ((lines_text a ++ lines_text b) ++ lines_text c) (lines_text d) fault one)

    pub stopped_in_first : PutsText (lines_text a) before now count counted (Err fault) → PutsText (lines_text whole) before now count counted (Err fault)
    stopped_in_first one = all_stopped (first_stopped one)

  module _ {t0 t1 : Option (List ℕ)} {n0 n1 : ℕ} (first : PutsText (lines_text a) t0 t1 n0 n1 (Ok tt)) where
    module _ {t2 : Option (List ℕ)} {n2 : ℕ} where
      pub stopped_in_second : (fault : WriteFault) → PutsText (lines_text b) t1 t2 n1 n2 (Err fault) → PutsText (lines_text whole) t0 t2 n0 n2 (Err fault)
      stopped_in_second fault one = all_stopped fault (stopped (lines_text a ++ lines_text b) (lines_text c) fault (then_put (lines_text a) (lines_text b) (Err fault) first one))

      module _ (second : PutsText (lines_text b) t1 t2 n1 n2 (Ok tt)) {t3 : Option (List ℕ)} {n3 : ℕ} where
        pub stopped_in_third : (fault : WriteFault) → PutsText (lines_text c) t2 t3 n2 n3 (Err fault) → PutsText (lines_text whole) t0 t3 n0 n3 (Err fault)
        stopped_in_third fault one = all_stopped fault (then_put (lines_text a ++ lines_text b) (lines_text c) (Err fault) (then_put (lines_text a) (lines_text b) (Ok tt) first second) one)

        pub four_put : PutsText (lines_text c) t2 t3 n2 n3 (Ok tt) → {t4 : Option (List ℕ)} {n4 : ℕ} (outcome : Result (Unit {0}) WriteFault) → PutsText (lines_text d) t3 t4 n3 n4 outcome → PutsText (lines_text whole) t0 t4 n0 n4 outcome
        four_put third {t4} {n4} outcome fourth =
            subst (λ (text : List ℕ). PutsText text t0 t4 n0 n4 outcome) together
            (then_put ((lines_text a ++ lines_text b) ++ lines_text c) (lines_text d) outcome
            (then_put (lines_text a ++ lines_text b) (lines_text c) (Ok tt) (then_put (lines_text a) (lines_text b) (Ok tt) first second) third) fourth)

-- what a text tells of lanes
pub lane_parts : (t : Topology) (l : LaneTables) →
    ((flat_map (levels_block t l) (enumerate_from 0 t.switches) ++ flat_map (map_block l) (enumerate_from 0 t.switches)) ++ codes "Certificate:" ∷ []) ++ flat_map (number_lines t l) (enumerate_from 0 t.channels) ≡ lane_lines t l
lane_parts t l = append_assoc (flat_map (levels_block t l) (enumerate_from 0 t.switches) ++ flat_map (map_block l) (enumerate_from 0 t.switches)) (codes "Certificate:" ∷ []) (flat_map (number_lines t l) (enumerate_from 0 t.channels))

-- and the whole
pub plan_parts : (t : Topology) (p : Plan) →
    (((version_text p.lanes ∷ lanes_line p.lanes ∷ []) ++ flat_map (table_block t p.tables) (enumerate_from 0 t.switches)) ++ lane_part t p.lanes) ++ codes "end plan" ∷ [] ≡ plan_lines t p
plan_parts t p = refl

-- what was pushed into a new buffer was put
pub new_put : (text fresh pushed piece : List ℕ) {before now : Option (List ℕ)} {count counted : ℕ} (outcome : Result (Unit {0}) WriteFault) → fresh ≡ [] → pushed ≡ fresh ++ text → piece ≡ pushed
    → PutsText piece before now count counted outcome → PutsText text before now count counted outcome
new_put text fresh pushed piece {before} {now} {count} {counted} outcome empty told same one =
    let is : piece ≡ text = same ∙ told ∙ ap (λ (front : List ℕ). front ++ text) empty in
    subst (λ (text : List ℕ). PutsText text before now count counted outcome) is one
