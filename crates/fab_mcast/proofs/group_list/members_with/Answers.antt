use Rattle.std.proofs.Common.{◌≡◌, ◌∙◌, ◌<◌, ℕ, ◌++◌, ◌∷◌, [], List, length, map, Contains, refl, sym, ap, subst, arith, rules}
use Rattle.std.proofs.lemmas.List.{map-append}
use Rattle.std.proofs.lemmas.List.Filters.{dedup_is}
use Rattle.fab_model.specs.declared.rows.TerminalId.{TerminalId}
use Rattle.fab_mcast.proofs.MembersByLid.{AreAscending, AreRead, ascending_lids, one_read_more, stranger_found, all_read}
use Rattle.fab_mcast.proofs.group_list.members_with.Goals as goal

pub returns-in_default-clause-members : goal.returns-in_default-clause-members
returns-in_default-clause-members c =
    let up : AreAscending c.args.lids.items c.deref-lid-items.result.now =
    ascending_lids _ _ _ c.sort_unstable.ensures.permutation c.sort_unstable.ensures.sorted (c.deref-lid-items.ensures.value ∙ dedup_is _ _ _ c.dedup.ensures.filtered) in
    stranger_found c.args.fabric.now c.terminals.ensures.kept.rows c.args.lids.items c.deref-lid-items.result.now c.loop-lid.lid-index _ c.loop-lid-test.true refl up.from (sym c.in_default.ensures)

pub loop-lid-preserved : goal.loop-lid-preserved
loop-lid-preserved c =
    let items : c.push.new.self.items ≡ c.loop-lid.members.items ++ c.in-Some.member ∷ [] = search rules in
    one_read_more c.args.fabric.now c.terminals.ensures.kept.rows c.deref-lid-items.result.now c.loop-lid.lid-index _ c.in-Some.member.0 (map (λ (id : TerminalId). id.0) c.loop-lid.members.items)
    (map (λ (id : TerminalId). id.0) c.push.new.self.items) c.loop-lid-test.true refl (sym c.in-Some.ensures)
    (ap (λ (xs : List TerminalId). map (λ (id : TerminalId). id.0) xs) items ∙ map-append (λ (id : TerminalId). id.0) c.loop-lid.members.items (c.in-Some.member ∷ [])) c.loop-lid.invariant

pub returns-clause-members : goal.returns-clause-members
returns-clause-members c =
    let up : AreAscending c.args.lids.items c.deref-lid-items.result.now =
    ascending_lids _ _ _ c.sort_unstable.ensures.permutation c.sort_unstable.ensures.sorted (c.deref-lid-items.ensures.value ∙ dedup_is _ _ _ c.dedup.ensures.filtered) in
    let whole : c.loop-lid.lid-index ≡ length c.deref-lid-items.result.now = omega (arith, c.loop-lid-test.false, c.loop-lid.auto.lid-index-end) in
    all_read c.args.fabric.now c.terminals.ensures.kept.rows c.args.lids.items c.deref-lid-items.result.now (map (λ (id : TerminalId). id.0) c.loop-lid.members.items) up.up up.from up.to
    (subst (λ k. AreRead c.args.fabric.now c.deref-lid-items.result.now k (map (λ (id : TerminalId). id.0) c.loop-lid.members.items)) whole c.loop-lid.invariant)
