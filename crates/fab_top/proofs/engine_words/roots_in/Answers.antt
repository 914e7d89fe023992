use Rattle.std.proofs.Common.{◌-◌, ℕ, List, Some, length, take, drop, sym, ap, subst, ◌∙◌, arith, rules}
use Rattle.fab_text.specs.Fields.{hex}
use Rattle.fab_top.proofs.RootWords.{AreRootsSoFar, none_read, other_flag, no_guid, root_read, word_left, all_read, rest_shorter}
use Rattle.fab_top.proofs.engine_words.roots_in.Goals as goal

pub loop-rest-init : goal.loop-rest-init
loop-rest-init c = subst (λ xs. AreRootsSoFar c.args.words.now xs c.args.words.now) (sym c.new-guids.ensures.items) (none_read c.args.words.now)

pub returns-then-ne : goal.returns-then-ne
returns-then-ne c =
    other_flag c.args.words.now c.loop-rest.guids.items c.loop-rest.rest.now (omega (arith, c.in-len2-up.len_at_least)) c.flag-item.result c.flag-item.is c.as_str.result.now c.as_str.ensures.value (sym c.ne.ensures ∙ c.if-ne.true)
    c.loop-rest.invariant

pub returns-in_default-guid_in : goal.returns-in_default-guid_in
returns-in_default-guid_in c =
    no_guid c.args.words.now c.loop-rest.guids.items c.loop-rest.rest.now (omega (arith, c.in-len2-up.len_at_least)) c.guid-item.result c.guid-item.is
    (ap (λ (w : List ℕ). hex 16 w) (sym c.as_str-in-len2-up.ensures.value) ∙ sym c.guid_in.ensures ∙ c.in_default-guid_in.is) c.loop-rest.invariant

pub loop-rest-smaller : goal.loop-rest-smaller
loop-rest-smaller c = rest_shorter c.loop-rest.rest.now (omega (arith, c.in-len2-up.len_at_least))

pub loop-rest-preserved : goal.loop-rest-preserved
loop-rest-preserved c =
    subst (λ xs. AreRootsSoFar c.args.words.now xs (take (length c.loop-rest.rest.now - 2) (drop 2 c.loop-rest.rest.now))) (sym c.in_ok-push.ensures.items)
    (root_read c.args.words.now c.loop-rest.guids.items c.loop-rest.rest.now (omega (arith, c.in-len2-up.len_at_least)) c.flag-item.result c.flag-item.is c.as_str.result.now c.as_str.ensures.value (sym c.ne.ensures ∙ c.if-ne.false)
    c.guid-item.result c.guid-item.is c.in-Some.guid (ap (λ (w : List ℕ). hex 16 w) (sym c.as_str-in-len2-up.ensures.value) ∙ sym c.guid_in.ensures ∙ c.in-Some.is) c.loop-rest.invariant)

pub returns-then-not-is_empty : goal.returns-then-not-is_empty
returns-then-not-is_empty c =
    word_left c.args.words.now c.loop-rest.guids.items c.loop-rest.rest.now (omega (arith, c.in_default.len_below)) (search rules) c.loop-rest.invariant

pub returns : goal.returns
returns c =
    ap (λ xs. Some xs) c.new.ensures ∙ all_read c.args.words.now c.loop-rest.guids.items c.loop-rest.rest.now (search rules) c.loop-rest.invariant
