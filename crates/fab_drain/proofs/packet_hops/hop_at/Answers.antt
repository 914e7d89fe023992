use Rattle.std.proofs.Common.{◌≡◌, ℕ, suc, ◌-◌, ◌<◌, List, [], ◌∷◌, Option, Some, None, sym, ap, ◌∙◌, subst, arith}
use Rattle.std.specs.Prelude.{slice_get}
use Rattle.fab_tables.specs.declared.verdict.VirtualChannel.{VirtualChannel}
use Rattle.fab_tables.specs.Dependencies.{IsPath}
use Rattle.fab_tables.specs.HopsAhead.{HopsAhead}
use Rattle.fab_tables.specs.Reading.{hops_read}
use Rattle.fab_tables.proofs.Rows.Cells.{unsome}
use Rattle.fab_drain.specs.Loads.{hops_of, hops_of_row}
use Rattle.fab_drain.proofs.packet_hops.hop_at.Goals as goal

first : (hops rest : List VirtualChannel) (hop : VirtualChannel) (left : ℕ) (o : Option VirtualChannel) → hops ≡ hop ∷ rest → left ≡ 0 → slice_get hops left ≡ o → Some hop ≡ o
first hops rest hop left o e f at = sym (ap (λ xs. slice_get xs left) e ∙ ap (λ k. slice_get (hop ∷ rest) k) f) ∙ at

later : (hops rest : List VirtualChannel) (hop : VirtualChannel) (left : ℕ) (o : Option VirtualChannel) → hops ≡ hop ∷ rest → 0 < left → slice_get hops left ≡ o → slice_get rest (left - 1) ≡ o
later hops rest hop left o e f at =
    let one : left ≡ suc (left - 1) = omega (arith, f) in
    sym (ap (λ xs. slice_get xs left) e ∙ ap (λ k. slice_get (hop ∷ rest) k) one) ∙ at

none : (hops : List VirtualChannel) (left : ℕ) (o : Option VirtualChannel) → hops ≡ [] → slice_get hops left ≡ o → None ≡ o
none hops left o e at = sym (ap (λ xs. slice_get xs left) e) ∙ at

pub packet_hops-hop-items-requires-clause-path : goal.packet_hops-hop-items-requires-clause-path
packet_hops-hop-items-requires-clause-path c =
    let is = c.requires.packet in
    subst (λ r. IsPath c.args.fabric.now r c.args.packet.lid.0) (unsome is.row c.terminal-row.result (sym is.terminal ∙ c.terminal-row.ensures)) is.path

pub loop-hop-init : goal.loop-hop-init
loop-hop-init c =
    let hops = ap (λ (a : HopsAhead). a.hops) c.into_iter-hop-iterator.ensures.into_iter_gives ∙ c.packet_hops-hop-items.ensures in
    let own : hops_of c.args.fabric.now c.args.plan.now c.args.packet ≡ hops_read c.args.fabric.now c.args.plan.now c.terminal-row.result c.args.packet.lid.0 = ap (λ o. hops_of_row c.args.fabric.now c.args.plan.now c.args.packet.lid.0 o) c.terminal-row.ensures in (
      tt,
      tt,
      ap (λ (vs : List VirtualChannel). slice_get vs c.args.position) (hops ∙ sym own),
    )

pub returns-then-left-eq0 : goal.returns-then-left-eq0
returns-then-left-eq0 c = first c.loop-hop.hop-iterator.hops c.next.new.self.hops c.in-Some.hop c.loop-hop.left _ c.in-Some.ensures.steps c.if-left-eq0.true c.loop-hop.invariant.2

pub loop-hop-preserved : goal.loop-hop-preserved
loop-hop-preserved c = (
  tt,
  tt,
  later c.loop-hop.hop-iterator.hops c.next.new.self.hops c.in-Some.hop c.loop-hop.left _ c.in-Some.ensures.steps (omega (arith, c.if-left-eq0.false)) c.loop-hop.invariant.2,
)

pub returns : goal.returns
returns c = none c.loop-hop.hop-iterator.hops c.loop-hop.left _ c.in-None.ensures.steps.0 c.loop-hop.invariant.2
