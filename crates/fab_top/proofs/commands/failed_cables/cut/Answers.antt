use Rattle.std.proofs.Common.{◌∙◌, ◌∷◌, [], List, ℕ}
use Rattle.fab_model.specs.declared.rows.Cable.{Cable}
use Rattle.fab_model.specs.Topology.{Topology}
use Rattle.fab_top.specs.Answer.{Answer}
use Rattle.fab_top.specs.Answers.{IsFabricText}
use Rattle.fab_top.specs.Files.{fabric_in, failed_in}
use Rattle.fab_top.specs.Headline.{WritesTruly}
use Rattle.fab_top.specs.Seen.{Seen, WithoutFailed}
use Rattle.fab_top.proofs.Steps.Concluding.{goes_on, stops, found}
use Rattle.fab_top.proofs.Running.{word_is}
use Rattle.fab_top.proofs.Steps.AfterList.{OfList, found_likewise}
use Rattle.fab_top.proofs.Steps.Taking.{place_within}
use Rattle.fab_top.proofs.commands.failed_cables.cut.Goals as goal

-- what is said of the fabric without the cables is said of the fabric
abbrev OfFabric : ℕ → (Topology → Answer → Type 0) → Topology → Seen → Answer → Type 0
OfFabric failed rest t w answer = WithoutFailed w t failed rest answer

pub returns-in_err-fabric : goal.returns-in_err-fabric
returns-in_err-fabric g c =
    stops c.args.fabric fabric_in (c.args.failed ∷ []) (OfFabric c.args.failed IsFabricText) (OfFabric c.args.failed WritesTruly) _ _ _ _ _ _ c.in_err-fabric.ensures.taken c.from_residual.ensures.1

pub returns-in_err-cables : goal.returns-in_err-cables
returns-in_err-cables g c =
    goes_on c.args.fabric fabric_in (c.args.failed ∷ []) (OfFabric c.args.failed IsFabricText) (OfFabric c.args.failed WritesTruly) _ _ _ _ _ _ _ _ c.in_ok-fabric.ensures.taken c.in_ok-fabric.ensures.told
    (stops c.args.failed failed_in [] (OfList c.args.failed IsFabricText _) (OfList c.args.failed WritesTruly _) _ _ _ _ _ _ c.in_err-cables.ensures.taken c.from_residual-in_err-cables.ensures.1)

pub returns : goal.returns
returns g c =
    let t : Topology = c.in_ok-fabric.fabric in
    let cables : List Cable = c.in_ok-cables.cables.items in
    goes_on c.args.fabric fabric_in (c.args.failed ∷ []) (OfFabric c.args.failed IsFabricText) (OfFabric c.args.failed WritesTruly) _ _ _ _ _ _ t _ c.in_ok-fabric.ensures.taken c.in_ok-fabric.ensures.told
    (goes_on c.args.failed failed_in [] (OfList c.args.failed IsFabricText t) (OfList c.args.failed WritesTruly t) _ _ _ _ _ _ cables _ c.in_ok-cables.ensures.taken c.in_ok-cables.ensures.told
    (found (OfList c.args.failed IsFabricText t cables) (OfList c.args.failed WritesTruly t cables) _ _ _ _
    (found_likewise IsFabricText WritesTruly _ _ t _ cables c.text_without.result (c.as_str.ensures.value ∙ word_is _ _ _ (place_within c.args.words.now c.args.failed c.requires.failed) c.index-words-failed.is) c.deref.ensures.value c.text_without.ensures)))
