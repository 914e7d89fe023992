use Rattle.std.proofs.Common.{◌≡◌, ◌∙◌, ◌++◌, ◌∷◌, [], ℕ, List, Vec, Global, Option, Some, None, get_or, ap, sym, take, append_assoc}
use Rattle.std.specs.Prelude.{filter_map}
use Rattle.std.proofs.lemmas.List.{map-append}
use Rattle.fab_mcast.specs.declared.copies.PacketCopy.{PacketCopy}
use Rattle.fab_mcast.specs.Copies.{Copy}
use Rattle.fab_mcast.specs.Sending.{seen_copy, seen_copies, copy_by}
use Rattle.fab_mcast.proofs.Spreading.{gives_some, gives_none, some_seen, none_seen}
use Rattle.fab_mcast.proofs.copies.push_copies.Goals as goal
use Rattle.fab_mcast.proofs.copies.push_copies.Goals.{in-Some+in_ok-push, in_default}

pub loop-port-preserved : goal.loop-port-preserved
loop-port-preserved c =
    let f : ℕ → Option Copy = copy_by c.args.fabric.now (seen_copy c.args.copy) in
    let ports : List ℕ = c.args.ports.now in
    let i : ℕ = c.loop-port.port-index in
    let old : List Copy = seen_copies c.args.pending.now.items in
    elim c.match-copy_by.branch [
      | in-Some+in_ok-push w ↦
          (let told : f (get_or ports i 0) ≡ Some (seen_copy w.in-Some.next) = some_seen seen_copy c.copy_by.result (f (get_or ports i 0)) w.in-Some.next c.copy_by.ensures w.in-Some.is in
          ap (λ (v : Vec PacketCopy Global). seen_copies v.items) w.pending-is ∙ ap seen_copies w.in_ok-push.ensures.items ∙ map-append seen_copy c.loop-port.pending.items (w.in-Some.next ∷ [])
          ∙ ap (λ (xs : List Copy). xs ++ seen_copy w.in-Some.next ∷ []) c.loop-port.invariant ∙ append_assoc old (filter_map f (take i ports)) (seen_copy w.in-Some.next ∷ [])
          ∙ ap (λ (xs : List Copy). old ++ xs) (sym (gives_some f ports i (seen_copy w.in-Some.next) c.loop-port-test.true told)))
      | in_default w ↦
          (let told : f (get_or ports i 0) ≡ None = none_seen seen_copy c.copy_by.result (f (get_or ports i 0)) c.copy_by.ensures w.in_default.is in
          ap (λ (v : Vec PacketCopy Global). seen_copies v.items) w.pending-is ∙ c.loop-port.invariant ∙ ap (λ (xs : List Copy). old ++ xs) (sym (gives_none f ports i c.loop-port-test.true told)))
    ]
