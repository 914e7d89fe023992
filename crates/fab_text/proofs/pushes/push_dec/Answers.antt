use Rattle.std.proofs.Common.{ℕ, arith, ◌≡◌, ◌+◌, ◌-◌, ◌<◌, ◌≤◌, ◌^◌, length, drop, set, lit<, lit≤, refl, ◌∙◌}
use Rattle.std.specs.Prelude.{decimal}
use Rattle.std.proofs.lemmas.Fmt.{length-decimal-le, decimal_nonempty}
use Rattle.std.proofs.lemmas.List.{append-nil}
use Rattle.std.proofs.lemmas.Grind.{common_steps}
use Rattle.fab_text.proofs.Written.{decimal_more, decimal_first, decimal_longer}
use Rattle.fab_text.proofs.pushes.push_dec.Goals as goal

pub loop-rest-init : goal.loop-rest-init
loop-rest-init c =
    let fits : c.args.n < 2 ^ 64 = omega arith in
    record {
      told = append-nil _;
      room = length-decimal-le 20 c.args.n (lit< tt) (omega arith) fits;
      within = lit≤ tt;
      size = refl;
    }

pub overflow_sub-place : goal.overflow_sub-place
overflow_sub-place c =
    let fits : c.loop-rest.rest < 2 ^ 64 = omega arith in
    omega (arith, decimal_nonempty c.loop-rest.rest fits)

pub loop-rest-preserved : goal.loop-rest-preserved
loop-rest-preserved c =
    let n : ℕ = c.loop-rest.rest in
    let fits : n < 2 ^ 64 = omega arith in
    let some : 0 < c.loop-rest.place = omega (arith, decimal_nonempty n fits) in
    let within : c.loop-rest.place ≤ length c.loop-rest.digits = omega arith in
    record {
      told = decimal_more n c.loop-rest.place c.loop-rest.digits c.loop-rest-test.true fits some within ∙ c.loop-rest.invariant.told;
      room = omega (arith, decimal_longer n c.loop-rest-test.true fits);
      within = omega arith;
      size = grind (arith, common_steps);
    }

pub overflow_sub-place-2 : goal.overflow_sub-place-2
overflow_sub-place-2 c =
    let fits : c.loop-rest.rest < 2 ^ 64 = omega arith in
    omega (arith, decimal_nonempty c.loop-rest.rest fits)

pub returns-clause-ok : goal.returns-clause-ok
returns-clause-ok c =
    let n : ℕ = c.loop-rest.rest in
    let fits : n < 2 ^ 64 = omega arith in
    let some : 0 < c.loop-rest.place = omega (arith, decimal_nonempty n fits) in
    let within : c.loop-rest.place ≤ length c.loop-rest.digits = omega arith in
    let all : drop (c.loop-rest.place - 1) (set c.loop-rest.digits (c.loop-rest.place - 1) (48 + n)) ≡ decimal c.args.n = decimal_first n c.loop-rest.place c.loop-rest.digits c.loop-rest-test.false some within ∙ c.loop-rest.invariant.told in
    grind (arith, common_steps, all)
