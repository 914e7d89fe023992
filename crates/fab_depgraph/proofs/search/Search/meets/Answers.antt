use Rattle.std.proofs.Common.{◌≡◌, ◌<◌, ◌≤◌, ◌+◌, ◌-◌, ℕ, true, List, Some, length, All, Contains, slice_get, slice_index, None, refl, sym, inl, inr, [], ◌∷◌, ◌∙◌, ap, subst, arith}
use Rattle.std.proofs.lemmas.Option.{slice_get_within, slice_get-get_or, get_or_from_slice_get}
use Rattle.std.proofs.lemmas.Bool.{cases_lt}
use Rattle.fab_model.specs.declared.rows.ChannelId.{ChannelId}
use Rattle.fab_depgraph.specs.Edges.{row_at, channels_of}
use Rattle.fab_depgraph.specs.Search.{Search, no_search, with_found, FindsMore, AreFound}
use Rattle.fab_depgraph.specs.Order.{is_reached}
use Rattle.fab_depgraph.proofs.Searching.Found.{found_short, reached_within}
use Rattle.fab_depgraph.proofs.Searching.Going.{going_first, going_on, short_now, row_known, comes_to, going_closed, going_short}
use Rattle.fab_depgraph.proofs.search.Search.meets.Goals as goal

pub loop-channel-init : goal.loop-channel-init
loop-channel-init g c =
    let rows = c.args.edges.now.rows in
    let numbers = c.args.order.now in
    (0, omega arith, going_first rows numbers c.args.from.0 c.args.last.0 c.find.new.self c.args.from refl c.requires.from c.requires.below c.find.ensures.kept (c.find.ensures.found ∙ ap (λ (s : Search). with_found s c.args.from) (c.clear.ensures ∙ ap no_search c.requires.each)))

pub successors-requires : goal.successors-requires
successors-requires g c =
    let rows = c.args.edges.now.rows in
    let numbers = c.args.order.now in
    let s = c.loop-channel.self in
    let going = c.loop-channel.invariant.2 in
    let here : slice_get s.found c.loop-channel.next ≡ Some c.in-Some.channel = sym c.found_at.ensures.channel ∙ c.in-Some.is in
    omega (arith, c.requires.rising.each, going.each, reached_within s.marks c.in-Some.channel.0 (subst (λ (channel : ChannelId). is_reached s.marks channel.0 ≡ true) (get_or_from_slice_get s.found c.loop-channel.next c.in-Some.channel c.in-Some.channel here) (going.kept.known c.loop-channel.next c.in-Some.channel (slice_get_within s.found c.loop-channel.next c.in-Some.channel here))))

pub look_along-requires-clause-known : goal.look_along-requires-clause-known
look_along-requires-clause-known g c =
    let rows = c.args.edges.now.rows in
    let numbers = c.args.order.now in
    let s = c.loop-channel.self in
    let going = c.loop-channel.invariant.2 in
    let here : slice_get s.found c.loop-channel.next ≡ Some c.in-Some.channel = sym c.found_at.ensures.channel ∙ c.in-Some.is in
    subst (All (λ channel. channel.0 < length numbers)) (sym c.successors.ensures) (row_known rows numbers c.args.from.0 c.args.last.0 c.requires.rising s c.loop-channel.next c.loop-channel.invariant.0 going c.in-Some.channel here)

pub returns-then-look_along-clause-meets : goal.returns-then-look_along-clause-meets
returns-then-look_along-clause-meets g c =
    let rows = c.args.edges.now.rows in
    let numbers = c.args.order.now in
    let s = c.loop-channel.self in
    let going = c.loop-channel.invariant.2 in
    let here : slice_get s.found c.loop-channel.next ≡ Some c.in-Some.channel = sym c.found_at.ensures.channel ∙ c.in-Some.is in
    λ yes_met. comes_to rows numbers c.args.from.0 c.args.last.0 c.requires.rising s c.loop-channel.next c.loop-channel.invariant.0 going c.in-Some.channel here c.args.last refl (subst (λ (all : List ChannelId). Contains all c.args.last) c.successors.ensures (c.look_along.ensures.meets c.if-look_along.true))

pub returns-then-look_along-clause-steps : goal.returns-then-look_along-clause-steps
returns-then-look_along-clause-steps g c =
    let rows = c.args.edges.now.rows in
    let numbers = c.args.order.now in
    let s = c.loop-channel.self in
    let going = c.loop-channel.invariant.2 in
    let here : slice_get s.found c.loop-channel.next ≡ Some c.in-Some.channel = sym c.found_at.ensures.channel ∙ c.in-Some.is in
    let row = channels_of (row_at rows c.in-Some.channel.0) in
    let bound = slice_index numbers c.args.last.0 in
    let t = c.look_along.new.self in
    let finds : FindsMore s t row numbers bound = subst (λ (all : List ChannelId). FindsMore s t all numbers bound) c.successors.ensures c.look_along.ensures.more in
    let more = c.look_along.new.steps - c.loop-channel.steps in
    let short : more ≤ length row = omega (arith, c.look_along.ensures.few, ap (length {A = ChannelId}) c.successors.ensures) in
    let total : c.look_along.new.steps ≡ c.args.steps.now + (c.loop-channel.invariant.0 + more) = omega (arith, c.look_along.ensures.counted, c.loop-channel.invariant.1) in
    (c.loop-channel.invariant.0 + more, total, short_now rows numbers c.args.from.0 c.args.last.0 c.requires.rising s c.loop-channel.next c.loop-channel.invariant.0 going c.in-Some.channel here t finds c.look_along.ensures.kept more short)

pub overflow_add-next : goal.overflow_add-next
overflow_add-next g c =
    let rows = c.args.edges.now.rows in
    let numbers = c.args.order.now in
    let s = c.loop-channel.self in
    let going = c.loop-channel.invariant.2 in
    let here : slice_get s.found c.loop-channel.next ≡ Some c.in-Some.channel = sym c.found_at.ensures.channel ∙ c.in-Some.is in
    omega (arith, c.found_at.ensures.short, slice_get_within s.found c.loop-channel.next c.in-Some.channel here)

pub loop-channel-smaller : goal.loop-channel-smaller
loop-channel-smaller g c =
    let rows = c.args.edges.now.rows in
    let numbers = c.args.order.now in
    let s = c.loop-channel.self in
    let going = c.loop-channel.invariant.2 in
    let here : slice_get s.found c.loop-channel.next ≡ Some c.in-Some.channel = sym c.found_at.ensures.channel ∙ c.in-Some.is in
    omega (arith, going.each, found_short s going.kept, slice_get_within s.found c.loop-channel.next c.in-Some.channel here)

pub loop-channel-preserved : goal.loop-channel-preserved
loop-channel-preserved g c =
    let rows = c.args.edges.now.rows in
    let numbers = c.args.order.now in
    let s = c.loop-channel.self in
    let going = c.loop-channel.invariant.2 in
    let here : slice_get s.found c.loop-channel.next ≡ Some c.in-Some.channel = sym c.found_at.ensures.channel ∙ c.in-Some.is in
    let row = channels_of (row_at rows c.in-Some.channel.0) in
    let bound = slice_index numbers c.args.last.0 in
    let t = c.look_along.new.self in
    let finds : FindsMore s t row numbers bound = subst (λ (all : List ChannelId). FindsMore s t all numbers bound) c.successors.ensures c.look_along.ensures.more in
    let more = c.look_along.new.steps - c.loop-channel.steps in
    let short : more ≤ length row = omega (arith, c.look_along.ensures.few, ap (length {A = ChannelId}) c.successors.ensures) in
    let total : c.look_along.new.steps ≡ c.args.steps.now + (c.loop-channel.invariant.0 + more) = omega (arith, c.look_along.ensures.counted, c.loop-channel.invariant.1) in
    let passes : AreFound t row numbers c.args.last.0 bound = subst (λ (all : List ChannelId). AreFound t all numbers c.args.last.0 bound) c.successors.ensures (c.look_along.ensures.passes c.if-look_along.false) in
    (c.loop-channel.invariant.0 + more, total, going_on rows numbers c.args.from.0 c.args.last.0 c.requires.rising s c.loop-channel.next c.loop-channel.invariant.0 going c.in-Some.channel here t finds c.look_along.ensures.kept more short passes)

none_left : {X : Type 0} (xs : List X) (i : ℕ) → slice_get xs i ≡ None → length xs ≤ i
none_left xs i none = elim (cases_lt i (length xs)) [
  | inl inside ↦ none_inside xs i none inside
  | inr past ↦ past
]
  where
    none_inside : {X : Type 0} (xs : List X) (i : ℕ) → slice_get xs i ≡ None → i < length xs → length xs ≤ i
    none_inside [] i none inside = absurd (omega arith)
    none_inside (x ∷ xs) i none inside = let some = slice_get-get_or (x ∷ xs) i x inside in absurd (cc)

pub returns-clause-closed : goal.returns-clause-closed
returns-clause-closed g c =
    let rows = c.args.edges.now.rows in
    let numbers = c.args.order.now in
    let s = c.loop-channel.self in
    let over : length s.found ≤ c.loop-channel.next = none_left s.found c.loop-channel.next (sym c.found_at.ensures.channel ∙ c.in_default.is) in
    λ none. going_closed rows numbers c.args.from.0 c.args.last.0 s c.loop-channel.next c.loop-channel.invariant.0 c.loop-channel.invariant.2 over

pub returns-clause-steps : goal.returns-clause-steps
returns-clause-steps g c =
    let rows = c.args.edges.now.rows in
    let numbers = c.args.order.now in
    let s = c.loop-channel.self in
    let over : length s.found ≤ c.loop-channel.next = none_left s.found c.loop-channel.next (sym c.found_at.ensures.channel ∙ c.in_default.is) in
    (c.loop-channel.invariant.0, c.loop-channel.invariant.1, going_short rows numbers c.args.from.0 c.args.last.0 s c.loop-channel.next c.loop-channel.invariant.0 c.loop-channel.invariant.2 over)
