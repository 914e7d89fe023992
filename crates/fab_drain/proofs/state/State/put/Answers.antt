use Rattle.std.proofs.Common.{◌≡◌, ◌∙◌, ◌-◌, List, length, sym, ap, subst, Some}
use Rattle.fab_tables.specs.declared.verdict.VirtualChannel.{VirtualChannel}
use Rattle.fab_drain.specs.Loads.{Load, IsLoad, hops_of, hops_of_row, stand_of}
use Rattle.fab_drain.proofs.Moving.{stand_place, with_keeps}
use Rattle.fab_drain.proofs.state.State.put.Goals as goal

pub get-requires : goal.get-requires
get-requires c = λ low. (stand_place c.args.fabric.now c.args.plan.now c.args.self.now c.args.packet c.in-Some.at c.requires.admitted c.requires.load c.requires.packet (sym c.hop_at.ensures ∙ c.in-Some.is)).1

pub set-requires : goal.set-requires
set-requires c = stand_place c.args.fabric.now c.args.plan.now c.args.self.now c.args.packet c.in-Some.at c.requires.admitted c.requires.load c.requires.packet (sym c.hop_at.ensures ∙ c.in-Some.is)

pub returns-in-Some-clause-load : goal.returns-in-Some-clause-load
returns-in-Some-clause-load c =
    let t = c.args.fabric.now in
    let p = c.args.plan.now in
    let packet = c.args.packet in
    let stands : stand_of t p packet ≡ Some c.in-Some.at = sym c.hop_at.ensures ∙ c.in-Some.is in
    let own : c.hop_count-hops.result ≡ length (hops_of t p packet) =
    c.hop_count-hops.ensures ∙ ap (λ (vs : List VirtualChannel). length vs) (sym (ap (λ o. hops_of_row t p packet.lid.0 o) c.terminal.ensures)) in
    subst (λ (l : Load). IsLoad t p l) (sym c.set.ensures)
    (with_keeps t p c.args.self.now c.in-Some.at (Some (record { packet = packet; remaining = c.hop_count-hops.result - packet.position })) c.requires.load
    (stand_place t p c.args.self.now packet c.in-Some.at c.requires.admitted c.requires.load c.requires.packet stands)
    (record { is_packet = c.requires.packet; stands = stands; remaining = ap (λ n. n - packet.position) own }))
