use Rattle.std.proofs.Common.{◌≡◌, ◌∙◌, ◌<◌, ◌==◌, ℕ, Bool, true, List, Option, Some, None, get_or, ap, sym, take, length, length-set, arith}
use Rattle.std.specs.Prelude.{filter_map, ◌||◌}
use Rattle.std.specs.List.{list_any}
use Rattle.fab_model.specs.declared.rows.TerminalId.{TerminalId}
use Rattle.fab_mcast.specs.Sending.{seen_copy, terminal_by, is_marked}
use Rattle.fab_mcast.proofs.Spreading.{gives_some, gives_none, some_seen, none_seen, terminal_within, marked_more}
use Rattle.fab_mcast.proofs.copies.mark_reached.Goals as goal
use Rattle.fab_mcast.proofs.copies.mark_reached.Goals.{in-Some, in_default}

pub loop-port-preserved : goal.loop-port-preserved
loop-port-preserved c =
    let t = c.args.fabric.now in
    let f : ℕ → Option ℕ = terminal_by t (seen_copy c.args.copy) in
    let ports : List ℕ = c.args.ports.now in
    let i : ℕ = c.loop-port.port-index in
    let old : List Bool = c.args.reached.now in
    let now : List Bool = c.loop-port.reached in
    elim c.match-terminal_by.branch [
      | in-Some w ↦
          (let n : ℕ = w.in-Some.terminal.0 in
          let told : f (get_or ports i 0) ≡ Some n = some_seen (λ (id : TerminalId). id.0) c.terminal_by.result (f (get_or ports i 0)) w.in-Some.terminal c.terminal_by.ensures w.in-Some.is in
          let low : n < length now = omega (arith, terminal_within t (seen_copy c.args.copy) (get_or ports i 0) n told, c.requires.each, c.loop-port.invariant.each) in
          record {
            each = ap (λ (xs : List Bool). length xs) w.reached-is ∙ length-set now n true ∙ c.loop-port.invariant.each;
            marked = λ m. ap (λ (xs : List Bool). is_marked xs m) w.reached-is ∙ marked_more old now (filter_map f (take i ports)) n low c.loop-port.invariant.marked m
                ∙ ap (λ (xs : List ℕ). is_marked old m || list_any (λ k. k == m) xs) (sym (gives_some f ports i n c.loop-port-test.true told));
          })
      | in_default w ↦
          (let told : f (get_or ports i 0) ≡ None = none_seen (λ (id : TerminalId). id.0) c.terminal_by.result (f (get_or ports i 0)) c.terminal_by.ensures w.in_default.is in
          record {
            each = ap (λ (xs : List Bool). length xs) w.reached-is ∙ c.loop-port.invariant.each;
            marked = λ m. ap (λ (xs : List Bool). is_marked xs m) w.reached-is ∙ c.loop-port.invariant.marked m
                ∙ ap (λ (xs : List ℕ). is_marked old m || list_any (λ k. k == m) xs) (sym (gives_none f ports i c.loop-port-test.true told));
          })
    ]
