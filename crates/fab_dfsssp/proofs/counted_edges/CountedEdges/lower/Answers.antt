use Rattle.std.proofs.Common.{◌≡◌, ℕ, ◌+◌, ◌-◌, cond, ap, ◌∙◌, arith, Some}
use Rattle.std.specs.HashMap.{get}
use Rattle.fab_dfsssp.specs.declared.counted_edges.CountedEdges.{CountedEdges}
use Rattle.fab_dfsssp.specs.CountedEdges.{same_edge, times_of, one_at}
use Rattle.fab_dfsssp.proofs.Counting.{one_there, times_lowered, lowered_there, lowered_last}
use Rattle.fab_dfsssp.proofs.counted_edges.CountedEdges.lower.Goals as goal
use Rattle.fab_dfsssp.proofs.counted_edges.CountedEdges.lower.Goals.{then-times-eq0, else-times-eq0}

pub remove-requires : goal.remove-requires
remove-requires c = (c.requires.whole.ends c.args.edge.0 c.args.edge.1 c.requires.some).0

pub remove-requires-then-times-eq0 : goal.remove-requires-then-times-eq0
remove-requires-then-times-eq0 c = omega (arith, (c.requires.whole.ends c.args.edge.0 c.args.edge.1 c.requires.some).1, c.requires.whole.tails.each)

abbrev after : goal.In_ok-insert → CountedEdges
after c = record { times = c.insert.new.self; heads = c.if-times-eq0.self.heads; tails = c.if-times-eq0.self.tails }

same_times : (c : goal.In_ok-insert) → c.if-times-eq0.self.times ≡ c.args.self.now.times
same_times c = elim c.if-times-eq0.branch [
  | then-times-eq0 w ↦ ap (λ (e : CountedEdges). e.times) w.self-is
  | else-times-eq0 w ↦ ap (λ (e : CountedEdges). e.times) w.self-is
]

lowered : (c : goal.In_ok-insert) → (other : ℕ × ℕ) → times_of (after c) other + one_at c.args.edge other ≡ times_of c.args.self.now other
lowered c =
    times_lowered c.args.self.now (after c) c.args.edge (c.times-times.result - 1)
    (λ q. c.in_ok-insert.ensures.updates.0 q ∙ ap (λ m. cond (same_edge c.args.edge q) (Some (c.times-times.result - 1)) (get same_edge m q)) (same_times c))
    (omega (arith, c.times-times.ensures, c.requires.some))

pub returns-clause-whole : goal.returns-clause-whole
returns-clause-whole c =
    let old = c.args.self.now in
    let edge = c.args.edge in
    elim c.if-times-eq0.branch [
      | then-times-eq0 w ↦
          lowered_last old (after c) edge c.requires.whole (lowered c) (omega (arith, lowered c edge, one_there edge, c.times-times.ensures, w.if-times-eq0.true, c.requires.some))
          (c.requires.whole.ends edge.0 edge.1 c.requires.some).0 (c.requires.whole.ends edge.0 edge.1 c.requires.some).1
          (ap (λ (e : CountedEdges). e.heads) w.self-is ∙ w.remove.ensures) (ap (λ (e : CountedEdges). e.tails) w.self-is ∙ w.remove-then-times-eq0.ensures)
      | else-times-eq0 w ↦
          lowered_there old (after c) edge c.requires.whole (lowered c) (omega (arith, lowered c edge, one_there edge, c.times-times.ensures, w.if-times-eq0.false, c.requires.some))
          (ap (λ (e : CountedEdges). e.heads) w.self-is) (ap (λ (e : CountedEdges). e.tails) w.self-is)
    ]

pub returns-clause-times : goal.returns-clause-times
returns-clause-times c = lowered c
