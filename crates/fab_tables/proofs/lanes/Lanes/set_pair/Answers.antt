use Rattle.std.proofs.Common.{◌≡◌, ◌∷◌, length, take, drop, set, subst, sym, ◌∙◌, ap, arith, inl, inr}
use Rattle.std.specs.Prelude.{OnOk, ◌==◌}
use Rattle.std.specs.List.{insert, list_any}
use Rattle.std.proofs.lemmas.List.{length-set}
use Rattle.std.proofs.lemmas.List.Edits.{length-insert}
use Rattle.std.proofs.lemmas.List.Elements.{All-set, All-append, All-cons, All-take, All-drop}
use Rattle.fab_tables.specs.declared.lanes.PairRow.{PairRow}
use Rattle.fab_tables.specs.LaneBytes.{lane_tables}
use Rattle.fab_tables.specs.PairPlaces.{StandsAt, GoesTo}
use Rattle.fab_tables.specs.LaneTables.{LaneTables, AreLaneTables, IsPairRow, pair_key, with_pair}
use Rattle.fab_tables.proofs.Rows.PairRows.{pair_set, pair_set_keys, pair_inserted, pair_inserted_keys, pair_is_nowhere}
use Rattle.fab_tables.proofs.Rows.LaneSets.{pairs_kept}
use Rattle.fab_tables.proofs.lanes.Lanes.set_pair.Goals as goal
use Rattle.fab_tables.proofs.lanes.Lanes.set_pair.Goals.{in-Ok-insert, in-Err-insert}

pub invariant_of-self : goal.invariant_of-self
invariant_of-self c =
    let l : LaneTables = lane_tables c.self.inside in
    let at = c.in-Ok.ensures.found in
    let row : IsPairRow l.switches c.args.row
    = record { switch = omega (arith, c.requires.switch, ap (λ (k : LaneTables). k.switches) c.self.view_is); from_port = omega arith; to_port = omega arith; levels = omega arith; lanes = c.requires.map } in
    pairs_kept l c.self.invariant (set l.pairs c.in-Ok.place c.args.row) (pair_set_keys l.pairs c.self.invariant.in_order c.key_of_row.result c.in-Ok.place at c.args.row (sym c.key_of_row.ensures))
    (omega (arith, length-set l.pairs c.in-Ok.place c.args.row, c.self.invariant.few_pairs)) (All-set (IsPairRow l.switches) l.pairs c.in-Ok.place c.args.row row c.self.invariant.pairs)

pub invariant_of-self-in-Err-2 : goal.invariant_of-self-in-Err-2
invariant_of-self-in-Err-2 c =
    let l : LaneTables = lane_tables c.self.inside in
    let row : IsPairRow l.switches c.args.row
    = record { switch = omega (arith, c.requires.switch, ap (λ (k : LaneTables). k.switches) c.self.view_is); from_port = omega arith; to_port = omega arith; levels = omega arith; lanes = c.requires.map } in
    let to = c.in-Err.ensures.missing in
    let placed = insert l.pairs c.in-Err.field-0 c.args.row in
    elim c.match-insert.branch [
      | in-Ok-insert w ↦
          subst (λ rows. AreLaneTables (record l { pairs = rows })) (sym w.in-Ok-insert.ensures.items)
          (pairs_kept l c.self.invariant placed (pair_inserted_keys l.pairs c.self.invariant.in_order c.key_of_row.result c.in-Err.field-0 to c.args.row (sym c.key_of_row.ensures))
          (omega (arith, length-insert l.pairs c.in-Err.field-0 c.args.row to.within, c.if-len-ge-PAIRS.false, c.len.ensures, c.self.inside.pair_rows.ok))
          (All-append (IsPairRow l.switches) (take c.in-Err.field-0 l.pairs) (c.args.row ∷ drop c.in-Err.field-0 l.pairs) (All-take (IsPairRow l.switches) c.in-Err.field-0 l.pairs c.self.invariant.pairs)
          (All-cons (IsPairRow l.switches) c.args.row (drop c.in-Err.field-0 l.pairs) row (All-drop (IsPairRow l.switches) c.in-Err.field-0 l.pairs c.self.invariant.pairs))))
      | in-Err-insert w ↦ subst (λ rows. AreLaneTables (record l { pairs = rows })) (sym w.in-Err-insert.ensures.unchanged.0) c.self.invariant
    ]

pub returns-in-Ok-clause-ok : goal.returns-in-Ok-clause-ok
returns-in-Ok-clause-ok c =
    let l : LaneTables = lane_tables c.self.inside in
    let at = c.in-Ok.ensures.found in
    ap (λ rows. record l { pairs = rows }) (pair_set l.pairs c.self.invariant.in_order c.key_of_row.result c.in-Ok.place at c.args.row (sym c.key_of_row.ensures))
    ∙ ap (λ k. with_pair k c.args.row) c.self.view_is

pub returns-in-Err-clause-too_many : goal.returns-in-Err-clause-too_many
returns-in-Err-clause-too_many c =
    let l : LaneTables = lane_tables c.self.inside in
    let to = c.in-Err.ensures.missing in
    λ e room. elim room [
      | inl there ↦
          pair_is_nowhere l.pairs c.self.invariant.in_order c.key_of_row.result c.in-Err.field-0 to
          (ap (λ n. list_any (λ (p : PairRow). pair_key p == n) l.pairs) c.key_of_row.ensures ∙ ap (λ (k : LaneTables). list_any (λ (p : PairRow). pair_key p == pair_key c.args.row) k.pairs) c.self.view_is ∙ there)
      | inr few ↦ omega (arith, few, c.if-len-ge-PAIRS.true, c.len.ensures, c.self.inside.pair_rows.ok, ap (λ (k : LaneTables). length k.pairs) c.self.view_is)
    ]

pub returns-after-insert-clause-ok : goal.returns-after-insert-clause-ok
returns-after-insert-clause-ok c =
    let l : LaneTables = lane_tables c.self.inside in
    let to = c.in-Err.ensures.missing in
    elim c.match-insert.branch [
      | in-Ok-insert w ↦
          subst (λ r. OnOk r (record l { pairs = c.insert.new.self.items } ≡ with_pair c.args.self.now c.args.row)) (sym w.result-is)
          (ap (λ rows. record l { pairs = rows }) (w.in-Ok-insert.ensures.items ∙ pair_inserted l.pairs c.self.invariant.in_order c.key_of_row.result c.in-Err.field-0 to c.args.row (sym c.key_of_row.ensures))
          ∙ ap (λ k. with_pair k c.args.row) c.self.view_is)
      | in-Err-insert w ↦ subst (λ r. OnOk r (record l { pairs = c.insert.new.self.items } ≡ with_pair c.args.self.now c.args.row)) (sym w.result-is) tt
    ]
