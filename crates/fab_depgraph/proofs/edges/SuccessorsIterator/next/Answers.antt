use Rattle.std.proofs.Common.{ℕ, Option, Some, IsSome, length, refl, sym, ◌∙◌, ap, subst, arith}
use Rattle.fab_model.specs.declared.rows.ChannelId.{ChannelId}
use Rattle.slab.specs.Slab.{slab_len}
use Rattle.fab_depgraph.specs.declared.edges.Edge.{Edge}
use Rattle.fab_depgraph.specs.Edges.{IsChain, linked_row, channels_of}
use Rattle.fab_depgraph.proofs.Linking.Rows.{first_key, pass_first}
use Rattle.fab_depgraph.proofs.edges.SuccessorsIterator.next.Goals as goal

pub index-edge-requires : goal.index-edge-requires
index-edge-requires c =
    let slots = c.self.inside.edges.now.slots in
    let chain : IsChain slots (Some c.in_ok-self.field-0) c.self.invariant.0 = subst (λ (at : Option ℕ). IsChain slots at c.self.invariant.0) c.in_ok-self.was c.self.invariant.1 in
    let P : Option Edge → Type 0 = λ edge. IsSome edge in
    subst P (sym (first_key slots c.in_ok-self.field-0 c.self.invariant.0 chain).1) refl

pub invariant_of-self : goal.invariant_of-self
invariant_of-self c =
    let slots = c.self.inside.edges.now.slots in
    let chain : IsChain slots (Some c.in_ok-self.field-0) c.self.invariant.0 = subst (λ (at : Option ℕ). IsChain slots at c.self.invariant.0) c.in_ok-self.was c.self.invariant.1 in
    let passed = pass_first slots (slab_len c.self.inside.edges.now) c.in_ok-self.field-0 c.index-edge.result.now c.index-edge.ensures c.self.invariant.0 chain c.self.invariant.2 in
    (passed.keys, passed.chain, passed.few)

pub returns-clause-steps : goal.returns-clause-steps
returns-clause-steps c =
    let slots = c.self.inside.edges.now.slots in
    let chain : IsChain slots (Some c.in_ok-self.field-0) c.self.invariant.0 = subst (λ (at : Option ℕ). IsChain slots at c.self.invariant.0) c.in_ok-self.was c.self.invariant.1 in
    let passed = pass_first slots (slab_len c.self.inside.edges.now) c.in_ok-self.field-0 c.index-edge.result.now c.index-edge.ensures c.self.invariant.0 chain c.self.invariant.2 in
    let n = slab_len c.self.inside.edges.now in
    sym c.self.view_is ∙ (ap (λ (at : Option ℕ). channels_of (linked_row n slots at)) c.in_ok-self.was ∙ ap channels_of passed.row)

pub returns-clause-goes : goal.returns-clause-goes
returns-clause-goes c =
    let less = ap (length {A = ChannelId}) (returns-clause-steps c) in
    record {
      on = λ finite. (tt, tt, omega (arith, less));
      keeps = tt;
      rests = λ finite. tt;
    }
