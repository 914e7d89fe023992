use Rattle.std.proofs.Common.{◌≡◌, ◌++◌, ℕ, List, length, take, sym, ◌∙◌, ap, subst, arith}
use Rattle.std.proofs.Math.Seq.{take-append_seam}
use Rattle.fab_updn.specs.declared.costs.Cost.{Cost}
use Rattle.fab_updn.specs.Found.{AreDowns, AreCostsTo}
use Rattle.fab_updn.proofs.costs.costs_to.Goals as goal

-- a list of the whole length takes the place of a vector's items
in_front : (n : ℕ) (xs ys : List Cost) → length xs ≡ n → take n (xs ++ ys) ≡ xs
in_front n xs ys same = ap (λ k. take k (xs ++ ys)) (sym same) ∙ take-append_seam xs ys

pub returns : goal.returns
returns c =
    let t = c.args.fabric.now in
    let ranks = c.args.ranks.now in
    let to = c.args.to.0 in
    let v = c.in_ok-costs.costs in
    let room : v.len ≡ length t.switches = omega (arith, c.in_ok-costs.ensures.len, c.switches.ensures.count) in
    let below : c.deref_mut-2.result.now ≡ c.count_below.new.costs = c.deref_mut-2.ensures.value ∙ in_front v.len c.count_below.new.costs _ (c.count_below.ensures.downs.whole ∙ sym room) in
    let done : AreCostsTo t ranks to c.count_above.new.costs = c.count_above.ensures to (subst (λ (xs : List Cost). AreDowns t ranks to xs) (sym below) c.count_below.ensures.downs) in
    subst (λ (xs : List Cost). AreCostsTo t ranks to xs) (sym (in_front v.len c.count_above.new.costs _ (done.whole ∙ sym room))) done
