use Rattle.std.proofs.Common.{◌≡◌, ◌-◌, ◌<◌, ℕ, map, List, length, take, get_or, Option, Some, None, refl, sym, ap, ◌∙◌, arith, cond, eqb, true, false, Bool}
use Rattle.std.specs.Option.{option_or}
use Rattle.std.proofs.lemmas.Grind.{common_steps}
use Rattle.fab_io.specs.declared.memory_sink.Failing.{Failing}
use Rattle.fab_io.specs.MemorySink.{kept_at}
use Rattle.fab_io.proofs.Newest.{picks_from_end}
use Rattle.fab_io.proofs.memory_sink.kept_at.Goals as goal

abbrev kept_in : List Failing → ℕ → Option ℕ
kept_in xs call = kept_at (map (λ (named : Failing). record { call = named.call; kept = named.kept }) xs) call

-- by the test of the newest
from_end : (test : Bool) (xs : List Failing) (call : ℕ) (d : Failing) → 0 < length xs → eqb (get_or xs (length xs - 1) d).call call ≡ test
    → kept_in xs call ≡ option_or (cond test (Some (get_or xs (length xs - 1) d).kept) None) (kept_in (take (length xs - 1) xs) call)
from_end test xs call d some e =
    picks_from_end (λ (named : Failing). cond (eqb named.call call) (Some named.kept) None) (λ (ys : List Failing). kept_in ys call) (record { none = refl; more = λ x newer. refl }) xs d some
    ∙ ap (λ (v : Bool). option_or (cond v (Some (get_or xs (length xs - 1) d).kept) None) (kept_in (take (length xs - 1) xs) call)) e

abbrev nobody : Failing
nobody = record { call = 0; kept = 0 }

pub returns-then-from-call : goal.returns-then-from-call
returns-then-from-call c =
    let xs : List Failing = c.loop-older.older.now in
    let hit : eqb (get_or xs (length xs - 1) nobody).call c.args.call ≡ true = grind arith in
    sym (from_end true xs c.args.call nobody c.in-len1-up.len_at_least hit) ∙ c.loop-older.invariant.told

pub loop-older-preserved : goal.loop-older-preserved
loop-older-preserved c =
    let xs : List Failing = c.loop-older.older.now in
    let miss : eqb (get_or xs (length xs - 1) nobody).call c.args.call ≡ false = grind arith in
    record {
      told = sym (from_end false xs c.args.call nobody c.in-len1-up.len_at_least miss) ∙ c.loop-older.invariant.told;
      within = grind (arith, common_steps);
    }
