use Rattle.std.proofs.Common.{ℕ, ◌≡◌, ◌+◌, ◌-◌, ◌<◌, ◌≤◌, List, ◌++◌, length, take, sym, ap, subst, ◌∙◌, refl, arith}
use Rattle.std.specs.Io.KnownBytes.{Consumes, IsAtEnd}
use Rattle.std.proofs.lemmas.Grind.{common_steps}
use Rattle.std.proofs.lemmas.List.{length-append}
use Rattle.fab_io.proofs.KnownBytes.{consumes_none, consumes_more, consumed_all, consumed_some}
use Rattle.fab_io.proofs.files.append_whole.Goals as goal

pub loop-chunk-init : goal.loop-chunk-init
loop-chunk-init g c = record {
  taken = subst (λ (xs : List ℕ). Consumes (g.I.Read.remaining c.args.reader.now) (g.I.Read.remaining c.args.reader.now) xs) (sym c.requires.empty) (consumes_none (g.I.Read.remaining c.args.reader.now));
  within = omega (arith, ap length c.requires.empty);
  same = refl;
}

pub returns-in_err-append_read-clause-taken : goal.returns-in_err-append_read-clause-taken
returns-in_err-append_read-clause-taken g c =
    let more = c.append_read.ensures.taken in
    let room : length (take c.min-room.result c.loop-chunk.chunk) ≤ c.args.limit + 1 - length c.loop-chunk.into.items = grind (arith, common_steps) in
    (c.loop-chunk.into.items ++ more.0, consumes_more _ _ _ _ _ c.loop-chunk.invariant.taken more.1, omega (arith, length-append c.loop-chunk.into.items more.0, more.2, room))

pub returns-then-branch-eq0 : goal.returns-then-branch-eq0
returns-then-branch-eq0 g c =
    let read = c.in_ok-append_read.ensures.ok in
    let both : Consumes (g.I.Read.remaining c.args.reader.now) (g.I.Read.remaining c.append_read.new.reader) (c.loop-chunk.into.items ++ read.0) = consumes_more _ _ _ _ _ c.loop-chunk.invariant.taken read.4 in
    let room : 0 < length (take c.min-room.result c.loop-chunk.chunk) = grind (arith, common_steps) in
    let ended : IsAtEnd (g.I.Read.remaining c.append_read.new.reader) = read.5 c.if-branch-eq0.true room in
    let size : length c.append_read.new.into.items ≡ length c.loop-chunk.into.items + length read.0 = ap length read.1 ∙ length-append c.loop-chunk.into.items read.0 in
    record {
      ok = (
        omega (arith, size, read.2),
        consumed_all _ _ _ (subst (λ (xs : List ℕ). Consumes (g.I.Read.remaining c.args.reader.now) (g.I.Read.remaining c.append_read.new.reader) xs) (sym read.1) both) ended,
      );
      taken = (c.loop-chunk.into.items ++ read.0, both, omega (arith, length-append c.loop-chunk.into.items read.0, read.2));
    }

pub loop-chunk-preserved : goal.loop-chunk-preserved
loop-chunk-preserved g c =
    let read = c.in_ok-append_read.ensures.ok in
    let both : Consumes (g.I.Read.remaining c.args.reader.now) (g.I.Read.remaining c.append_read.new.reader) (c.loop-chunk.into.items ++ read.0) = consumes_more _ _ _ _ _ c.loop-chunk.invariant.taken read.4 in
    let size : length c.append_read.new.into.items ≡ length c.loop-chunk.into.items + length read.0 = ap length read.1 ∙ length-append c.loop-chunk.into.items read.0 in
    let room : length (take c.min-room.result c.loop-chunk.chunk) ≤ c.args.limit + 1 - length c.loop-chunk.into.items = grind (arith, common_steps) in
    record {
      taken = subst (λ (xs : List ℕ). Consumes (g.I.Read.remaining c.args.reader.now) (g.I.Read.remaining c.append_read.new.reader) xs) (sym read.1) both;
      within = omega (arith, size, read.2, read.3, room);
      same = refl;
    }

pub returns : goal.returns
returns g c = record {
  ok = consumed_some (g.I.Read.remaining c.args.reader.now) (g.I.Read.remaining c.loop-chunk.reader) c.loop-chunk.into.items c.args.limit c.loop-chunk.invariant.taken (omega arith);
  taken = (c.loop-chunk.into.items, c.loop-chunk.invariant.taken, omega arith);
}
