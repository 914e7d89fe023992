use Rattle.std.proofs.Common.{◌≡◌, ◌==◌, ◌≢◌, ◌<◌, ◌≤◌, ◌++◌, ◌∷◌, [], List, length, slice_index, sym, ◌∙◌, ap, subst, arith, length-append}
use Rattle.std.proofs.lemmas.Bool.{eqb-false}
use Rattle.fab_model.specs.declared.rows.ChannelId.{ChannelId}
use Rattle.fab_depgraph.specs.Search.{Search, FindsMore, AreFound}
use Rattle.fab_depgraph.proofs.Searching.Along.{more_widened, more_found, passes_found, passes_over, next_known, passed_next}
use Rattle.fab_depgraph.proofs.search.Search.look_along.Goals as goal

pub returns-then-eq-clause-more : goal.returns-then-eq-clause-more
returns-then-eq-clause-more g c =
    let numbers = c.args.order.now in
    let bound = slice_index numbers c.args.last.0 in
    let was = c.loop-successor.invariant in
    subst (λ (all : List ChannelId). FindsMore c.args.self.now c.loop-successor.self all numbers bound) (sym was.left) (more_widened c.args.self.now c.loop-successor.self c.loop-successor.yielded c.loop-successor.successor-iterator numbers bound was.more)

pub loop-successor-preserved-then-number-bound : goal.loop-successor-preserved-then-number-bound
loop-successor-preserved-then-number-bound g c =
    let numbers = c.args.order.now in
    let bound = slice_index numbers c.args.last.0 in
    let was = c.loop-successor.invariant in
    let ys = c.loop-successor.yielded in
    let x = c.in-Some.successor in
    let s = c.loop-successor.self in
    let rest : c.loop-successor.successor-iterator ≡ x ∷ c.next.new.self = c.in-Some.ensures.steps in
    let whole : c.args.successors ≡ ys ++ (x ∷ c.next.new.self) = was.left ∙ ap (λ zs. ys ++ zs) rest in
    let within : x.0 < length s.marks = omega (arith, was.more.each, c.requires.each, next_known (λ (c : ChannelId). c.0 < length numbers) c.args.successors ys c.next.new.self x whole c.requires.known) in
    let differs : x.0 ≢ c.args.last.0 = eqb-false x.0 c.args.last.0 (sym {b = x.0 == c.args.last.0} c.if-eq.ensures) in
    let below : slice_index numbers x.0 < bound = omega (arith, c.number.ensures, c.number-bound.ensures, c.if-number-bound.true) in
    record {
      left = passed_next c.args.successors ys c.next.new.self x whole;
      kept = c.find.ensures.kept;
      more = subst (λ (s : Search). FindsMore c.args.self.now s (ys ++ x ∷ []) numbers bound) (sym c.find.ensures.found) (more_found c.args.self.now s ys x numbers bound below was.more);
      passes = subst (λ (s : Search). AreFound s (ys ++ x ∷ []) numbers c.args.last.0 bound) (sym c.find.ensures.found) (passes_found s ys x numbers c.args.last.0 bound within differs was.passes);
      steps = omega (arith, c.tick.ensures, was.steps, length-append ys (x ∷ []));
    }

pub loop-successor-preserved : goal.loop-successor-preserved
loop-successor-preserved g c =
    let numbers = c.args.order.now in
    let bound = slice_index numbers c.args.last.0 in
    let was = c.loop-successor.invariant in
    let ys = c.loop-successor.yielded in
    let x = c.in-Some.successor in
    let s = c.loop-successor.self in
    let rest : c.loop-successor.successor-iterator ≡ x ∷ c.next.new.self = c.in-Some.ensures.steps in
    let whole : c.args.successors ≡ ys ++ (x ∷ c.next.new.self) = was.left ∙ ap (λ zs. ys ++ zs) rest in
    let differs : x.0 ≢ c.args.last.0 = eqb-false x.0 c.args.last.0 (sym {b = x.0 == c.args.last.0} c.if-eq.ensures) in
    let above : bound ≤ slice_index numbers x.0 = omega (arith, c.number.ensures, c.number-bound.ensures, c.if-number-bound.false) in
    record {
      left = passed_next c.args.successors ys c.next.new.self x whole;
      kept = was.kept;
      more = more_widened c.args.self.now s ys (x ∷ []) numbers bound was.more;
      passes = passes_over s ys x numbers c.args.last.0 bound above differs was.passes;
      steps = omega (arith, c.tick.ensures, was.steps, length-append ys (x ∷ []));
    }
