use Rattle.std.proofs.Common.{◌≡◌, ℕ, ◌∙◌, List, Option, MatchOption, refl, subst, arith}
use Rattle.fab_model.specs.Connected.{AreConnected}
use Rattle.fab_depgraph.specs.declared.dep.Dep.{Dep}
use Rattle.fab_lash.specs.Followers.{pair_dependencies}
use Rattle.fab_lash.specs.Placing.{IsNowhere, IsPlaced}
use Rattle.fab_lash.proofs.FewListed.{room_for_pair}
use Rattle.fab_lash.proofs.PairChannels.{pair_fits}
use Rattle.fab_lash.proofs.layering.place_pair.Goals as goal

pub place-requires : goal.place-requires
place-requires g c = record {
  within = pair_fits c.args.fabric.now c.args.tables.now c.args.low.0 c.args.high.0 c.args.used.now c.deref.result.now c.requires.fabric.rows c.requires.channels
      (c.deref.ensures.value ∙ c.in_ok-write_dependencies.ensures);
  room = room_for_pair c.args.fabric.now c.requires.fabric.rows c.args.tables.now c.args.low.0 c.args.high.0 c.args.used.now c.deref.result.now c.requires.listed
      (c.deref.ensures.value ∙ c.in_ok-write_dependencies.ensures);
}

pub returns-in-None-clause-refusal : goal.returns-in-None-clause-refusal
returns-in-None-clause-refusal g c =
    let t = c.args.fabric.now in
    let deps : c.deref.result.now ≡ pair_dependencies t c.args.tables.now c.args.low.0 c.args.high.0 = c.deref.ensures.value ∙ c.in_ok-write_dependencies.ensures in
    let joined : AreConnected c.args.components.now c.args.low.0 c.args.high.0 = c.are_connected.ensures.0 c.if-not-are_connected.false in
    let P : List Dep → Type 0 = λ xs. IsNowhere c.args.used.now xs in
    let Q : Option ℕ → Type 0 = λ o. MatchOption o (IsNowhere c.args.used.now c.deref.result.now) (IsPlaced c.args.used.now c.place.new.used c.deref.result.now) in (
      refl,
      refl,
      (omega (arith, c.if-low-high.false), subst (λ x. AreConnected x c.args.low.0 c.args.high.0) c.requires.components joined),
      subst P deps (subst Q c.in-None.is c.in_ok-lane.ensures),
    )
