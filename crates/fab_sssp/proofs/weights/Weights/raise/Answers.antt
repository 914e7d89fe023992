use Rattle.std.proofs.Common.{◌≡◌, ◌<◌, ◌+◌, ◌∙◌, ℕ, List, length, ap, sym, arith}
use Rattle.std.specs.Prelude.{slice_index}
use Rattle.std.proofs.lemmas.List.{with_items_is}
use Rattle.fab_model.specs.Topology.{lids_of}
use Rattle.fab_tables.specs.TreeWalks.{terminals_through}
use Rattle.fab_sssp.specs.WeightTables.{WeightTable}
use Rattle.fab_sssp.proofs.Raising.WeightBounds.{raised_kept}
use Rattle.fab_sssp.proofs.weights.Weights.raise.Goals as goal

pub invariant_of-self : goal.invariant_of-self
invariant_of-self c =
    let t = c.args.fabric.now in
    let own = c.self.inside in
    let before : WeightTable = record { weights = own.by_channel.items; switches = length own.arrived.items; raised = own.trees } in
    let seen : before ≡ c.args.self.now = c.self.view_is in
    let channels : length own.by_channel.items ≡ length t.channels = ap (λ (w : WeightTable). length w.weights) seen ∙ c.requires.made_for.channels in
    let few : own.trees < length (lids_of t) = omega (arith, ap (λ (w : WeightTable). w.raised) seen, c.requires.few) in
    let weights = c.add_terminals.new.weights in
    let all : length weights ≡ length own.by_channel.items = c.add_terminals.auto.weights ∙ ap (λ (ns : List ℕ). length ns) c.deref_mut.ensures.value in
    let arrived : length c.add_terminals.new.arrived ≡ length own.arrived.items = c.add_terminals.auto.arrived ∙ ap (λ (ns : List ℕ). length ns) c.deref_mut-2.ensures.value in
    let pending : length c.add_terminals.new.pending ≡ length own.pending.items = c.add_terminals.auto.pending ∙ ap (λ (ns : List ℕ). length ns) c.deref_mut-3.ensures.value in
    let a = with_items_is own.by_channel weights (all ∙ sym own.by_channel.ok.0) in
    let b = with_items_is own.arrived c.add_terminals.new.arrived (arrived ∙ sym own.arrived.ok.0) in
    let d = with_items_is own.pending c.add_terminals.new.pending (pending ∙ sym own.pending.ok.0) in
    rw (a, b, d) (
      raised_kept t c.args.tree.now before weights (length c.add_terminals.new.arrived) c.add_terminals.ensures.kept.rows c.self.invariant.0 few channels (all ∙ channels)
          (λ k low. c.add_terminals.ensures.added k low ∙ ap (λ (ns : List ℕ). slice_index ns k + terminals_through t c.args.tree.now k) c.deref_mut.ensures.value),
      pending ∙ c.self.invariant.1 ∙ sym arrived,
    )
