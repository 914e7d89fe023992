use Rattle.std.proofs.Common.{◌≡◌, ℕ, ◌+◌, cond, ap, ◌∙◌, arith, Some}
use Rattle.std.specs.HashMap.{get}
use Rattle.fab_dfsssp.specs.declared.counted_edges.CountedEdges.{CountedEdges}
use Rattle.fab_dfsssp.specs.CountedEdges.{same_edge, times_of, one_at}
use Rattle.fab_dfsssp.proofs.Counting.{times_raised, raised_new, raised_there}
use Rattle.fab_dfsssp.proofs.counted_edges.CountedEdges.raise.Goals as goal
use Rattle.fab_dfsssp.proofs.counted_edges.CountedEdges.raise.Goals.{then-times-eq0+in_ok-add+in_ok-add-2, else-times-eq0}

abbrev after : goal.In_ok-insert → CountedEdges
after c = record { times = c.insert.new.self; heads = c.if-times-eq0.self.heads; tails = c.if-times-eq0.self.tails }

same_times : (c : goal.In_ok-insert) → c.if-times-eq0.self.times ≡ c.args.self.now.times
same_times c = elim c.if-times-eq0.branch [
  | then-times-eq0+in_ok-add+in_ok-add-2 w ↦ ap (λ (e : CountedEdges). e.times) w.self-is
  | else-times-eq0 w ↦ ap (λ (e : CountedEdges). e.times) w.self-is
]

raised : (c : goal.In_ok-insert) → (other : ℕ × ℕ) → times_of (after c) other ≡ times_of c.args.self.now other + one_at c.args.edge other
raised c =
    times_raised c.args.self.now (after c) c.args.edge (c.times-times.result + 1)
    (λ q. c.in_ok-insert.ensures.updates.0 q ∙ ap (λ m. cond (same_edge c.args.edge q) (Some (c.times-times.result + 1)) (get same_edge m q)) (same_times c)) (omega (arith, c.times-times.ensures))

pub returns-clause-whole : goal.returns-clause-whole
returns-clause-whole c =
    let old = c.args.self.now in
    let edge = c.args.edge in
    elim c.if-times-eq0.branch [
      | then-times-eq0+in_ok-add+in_ok-add-2 w ↦
          raised_new old (after c) edge c.requires.whole (raised c) c.requires.tail c.requires.head (ap (λ (e : CountedEdges). e.heads) w.self-is ∙ w.in_ok-add.ensures)
          (ap (λ (e : CountedEdges). e.tails) w.self-is ∙ w.in_ok-add-2.ensures)
      | else-times-eq0 w ↦
          raised_there old (after c) edge c.requires.whole (raised c) (omega (arith, c.times-times.ensures, w.if-times-eq0.false)) (ap (λ (e : CountedEdges). e.heads) w.self-is) (ap (λ (e : CountedEdges). e.tails) w.self-is)
    ]

pub returns-clause-times : goal.returns-clause-times
returns-clause-times c = raised c
