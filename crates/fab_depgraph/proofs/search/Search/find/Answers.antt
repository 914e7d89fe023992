use Rattle.std.proofs.Common.{◌≡◌, ◌<◌, ◌≤◌, false, true, set, length, sym, ◌∙◌, ap, subst, List, slice_index_or, vec_capacity, arith, length-set}
use Rattle.fab_model.specs.declared.rows.ChannelId.{ChannelId}
use Rattle.fab_depgraph.specs.Order.{is_reached}
use Rattle.fab_depgraph.specs.Search.{Search, IsSearch}
use Rattle.fab_depgraph.proofs.Searching.Found.{found_kept, room_left}
use Rattle.fab_depgraph.proofs.search.Search.find.Goals as goal

pub push_reserved-requires : goal.push_reserved-requires
push_reserved-requires c =
    let s : Search = record { marks = c.self.inside.marks.items; found = c.self.inside.found.items } in
    let read : c.index_mut-mark.result.now ≡ slice_index_or s.marks c.args.channel.0 c.index_mut-mark.result.now = c.index_mut-mark.ensures.value in
    let new : is_reached s.marks c.args.channel.0 ≡ false = ap (slice_index_or s.marks c.args.channel.0) (sym c.if-not-mark.true) ∙ (sym read ∙ c.if-not-mark.true) in
    let within : c.args.channel.0 < length s.marks = omega (arith, c.requires, ap (λ (s : Search). length s.marks) c.self.view_is) in
    let room : length s.marks ≤ vec_capacity c.self.inside.found = c.self.invariant.1 in
    omega (arith, room_left s c.self.invariant.0 c.args.channel new within, room, c.self.inside.found.ok.0)

pub invariant_of-self : goal.invariant_of-self
invariant_of-self c =
    let s : Search = record { marks = c.self.inside.marks.items; found = c.self.inside.found.items } in
    let read : c.index_mut-mark.result.now ≡ slice_index_or s.marks c.args.channel.0 c.index_mut-mark.result.now = c.index_mut-mark.ensures.value in
    let new : is_reached s.marks c.args.channel.0 ≡ false = ap (slice_index_or s.marks c.args.channel.0) (sym c.if-not-mark.true) ∙ (sym read ∙ c.if-not-mark.true) in
    let within : c.args.channel.0 < length s.marks = omega (arith, c.requires, ap (λ (s : Search). length s.marks) c.self.view_is) in
    let room : length s.marks ≤ vec_capacity c.self.inside.found = c.self.invariant.1 in (
      subst (λ (found : List ChannelId). IsSearch (record { marks = set s.marks c.args.channel.0 true; found = found })) (sym c.push_reserved.ensures.items) (found_kept s c.self.invariant.0 c.args.channel new within),
      omega (arith, room, c.push_reserved.ensures.capacity, length-set s.marks c.args.channel.0 true),
    )
