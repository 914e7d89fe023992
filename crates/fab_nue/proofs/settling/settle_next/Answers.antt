use Rattle.std.proofs.Common.{◌≡◌, ◌∙◌, ◌+◌, ◌<◌, ℕ, List, Option, length, length-set, slice_set, Some, Bool, false, sym, subst, ap, arith}
use Rattle.std.specs.Prelude.{slice_get}
use Rattle.std.proofs.lemmas.Bool.{MatchBool-at_true, MatchBool-at_false}
use Rattle.fab_model.specs.declared.rows.ChannelRow.{ChannelRow}
use Rattle.std.specs.Prelude.{MatchBool}
use Rattle.fab_model.specs.Topology.{Topology}
use Rattle.fab_sssp.specs.WeightTables.{weight_of}
use Rattle.fab_sssp.proofs.Raising.WeightBounds.{weight_within}
use Rattle.fab_depgraph.specs.Listed.{Dependencies}
use Rattle.fab_nue.specs.Search.{tail, with_channel, IsSettled}
use Rattle.fab_nue.specs.Offers.{Offers, LeadsInto, LeadElsewhere}
use Rattle.fab_nue.specs.Laws.{settled_count}
use Rattle.fab_nue.specs.UnderWay.{IsUnderWay, still_to_do}
use Rattle.fab_nue.proofs.Searching.SearchTrees.{tail_below}
use Rattle.fab_nue.proofs.Searching.Measure.{settle_adds_one}
use Rattle.fab_nue.proofs.Searching.Adding.{tail_read}
use Rattle.fab_nue.proofs.Heaps.UnderWay.{low, leads, spare_left, small, mid_once, elsewhere, passed_settled, passed_fewer, passed_closing, settled_on_way, settled_fewer}
use Rattle.fab_nue.proofs.settling.settle_next.Goals as goal

is_open : (t : Topology) (to : ℕ) (tree : List (Option ℕ)) (c : ℕ) (row : ChannelRow) (answer : Bool) → slice_get t.channels c ≡ Some row → answer ≡ false →
    MatchBool answer (IsSettled to tree row.tail.0) (¬ IsSettled to tree row.tail.0) → ¬ IsSettled to tree (tail t c)
is_open t to tree c row answer at refuted told =
    subst (λ s. ¬ IsSettled to tree s) (sym (tail_read t c row at)) (MatchBool-at_false (IsSettled to tree row.tail.0) (¬ IsSettled to tree row.tail.0) refuted told)

pub channel-requires : goal.channel-requires
channel-requires g c =
    let t = c.args.fabric.now in
    low t _ c.args.to.0 c.requires.under_way.0 c.args.used.now c.args.tree.now c.requires.fabric.rows c.args.choices.now c.pop.new.self c.in-Some.field-0 c.in-Some.ensures c.requires.under_way.1

pub is_settled-requires : goal.is_settled-requires
is_settled-requires g c =
    let t = c.args.fabric.now in
    let W : ℕ → ℕ = λ k. weight_of c.args.weights.now k in
    let start = c.requires.under_way.0 in
    let m = c.in-Some.field-0 in
    let lead = leads t W c.args.to.0 start c.args.used.now c.args.tree.now c.requires.fabric.rows c.args.choices.now c.pop.new.self m c.in-Some.ensures c.requires.under_way.1 in
    let within = low t W c.args.to.0 start c.args.used.now c.args.tree.now c.requires.fabric.rows c.args.choices.now c.pop.new.self m c.in-Some.ensures c.requires.under_way.1 in
    omega (arith, lead.is_tree.each_switch, tail_below t m.channel.0 c.requires.fabric.rows within, tail_read t m.channel.0 c.channel.result c.channel.ensures)

pub returns-then-is_settled-clause-under_way : goal.returns-then-is_settled-clause-under_way
returns-then-is_settled-clause-under_way g c = λ start u.
    let t = c.args.fabric.now in
    let W : ℕ → ℕ = λ k. weight_of c.args.weights.now k in
    let to = c.args.to.0 in
    let tree = c.args.tree.now in
    let m = c.in-Some.field-0 in
    let s = c.channel.result.tail.0 in
    let settled : IsSettled to tree s = MatchBool-at_true (IsSettled to tree s) (¬ IsSettled to tree s) c.if-is_settled.true c.is_settled.ensures in
    passed_settled t W to start c.args.used.now tree c.requires.fabric.rows c.args.choices.now c.pop.new.self m c.in-Some.ensures u
    (subst (IsSettled to tree) (sym (tail_read t m.channel.0 c.channel.result c.channel.ensures)) settled)

pub returns-then-is_settled-clause-fewer : goal.returns-then-is_settled-clause-fewer
returns-then-is_settled-clause-fewer g c = λ e.
    passed_fewer c.args.fabric.now (λ k. weight_of c.args.weights.now k) c.args.to.0 c.requires.under_way.0 c.args.used.now c.args.tree.now c.requires.fabric.rows c.args.choices.now c.pop.new.self c.in-Some.field-0
    c.in-Some.ensures c.requires.under_way.1

pub add_behind-requires-clause-tree : goal.add_behind-requires-clause-tree
add_behind-requires-clause-tree g c = (leads _ _ _ _ _ _ c.requires.fabric.rows _ _ _ c.in-Some.ensures c.requires.under_way.1).is_tree

pub add_behind-requires-clause-channel : goal.add_behind-requires-clause-channel
add_behind-requires-clause-channel g c = low _ _ _ _ _ _ c.requires.fabric.rows _ _ _ c.in-Some.ensures c.requires.under_way.1

pub add_behind-requires-clause-spare : goal.add_behind-requires-clause-spare
add_behind-requires-clause-spare g c =
    spare_left _ _ _ _ _ _ c.requires.fabric.rows _ _ _ c.in-Some.ensures c.requires.under_way.1
    (is_open c.args.fabric.now c.args.to.0 c.args.tree.now c.in-Some.field-0.channel.0 c.channel.result c.is_settled.result c.channel.ensures c.if-is_settled.false c.is_settled.ensures)

pub set-requires-clause-switch : goal.set-requires-clause-switch
set-requires-clause-switch g c =
    let t = c.args.fabric.now in
    let m = c.in-Some.field-0 in
    let lead = leads _ _ _ _ _ _ c.requires.fabric.rows _ _ _ c.in-Some.ensures c.requires.under_way.1 in
    let within = low _ _ _ _ _ _ c.requires.fabric.rows _ _ _ c.in-Some.ensures c.requires.under_way.1 in
    omega (arith, lead.is_tree.each_switch, tail_below t m.channel.0 c.requires.fabric.rows within, tail_read t m.channel.0 c.channel.result c.channel.ensures)

pub offer-requires-clause-tree : goal.offer-requires-clause-tree
offer-requires-clause-tree g c =
    let lead = leads _ _ _ _ _ _ c.requires.fabric.rows _ _ _ c.in-Some.ensures c.requires.under_way.1 in
    ap length c.set.ensures ∙ length-set c.args.tree.now c.channel.result.tail.0 (Some c.in-Some.field-0.channel.0) ∙ lead.is_tree.each_switch

pub offer-requires-clause-settled : goal.offer-requires-clause-settled
offer-requires-clause-settled g c =
    let t = c.args.fabric.now in
    let m = c.in-Some.field-0 in
    let within = low _ _ _ _ _ _ c.requires.fabric.rows _ _ _ c.in-Some.ensures c.requires.under_way.1 in
    omega (arith, tail_below t m.channel.0 c.requires.fabric.rows within, tail_read t m.channel.0 c.channel.result c.channel.ensures)

pub offer-requires-clause-small : goal.offer-requires-clause-small
offer-requires-clause-small g c = λ kept.
    small _ _ _ _ _ _ c.requires.fabric.rows _ _ _ c.in-Some.ensures c.requires.under_way.1 (weight_within c.args.weights.now kept)

pub offer-requires-clause-holds : goal.offer-requires-clause-holds
offer-requires-clause-holds g c = mid_once _ _ _ _ _ _ c.requires.fabric.rows _ _ _ c.in-Some.ensures c.requires.under_way.1

pub offer-requires-clause-elsewhere : goal.offer-requires-clause-elsewhere
offer-requires-clause-elsewhere g c =
    let t = c.args.fabric.now in
    let m = c.in-Some.field-0 in
    subst (λ s. LeadElsewhere t s c.pop.new.self.entries) (tail_read t m.channel.0 c.channel.result c.channel.ensures)
    (elsewhere _ _ _ _ _ _ c.requires.fabric.rows _ _ _ c.in-Some.ensures c.requires.under_way.1
    (is_open t c.args.to.0 c.args.tree.now m.channel.0 c.channel.result c.is_settled.result c.channel.ensures c.if-is_settled.false c.is_settled.ensures))

pub returns-in-WouldClose-clause-under_way : goal.returns-in-WouldClose-clause-under_way
returns-in-WouldClose-clause-under_way g c = λ start u.
    let t = c.args.fabric.now in
    let m = c.in-Some.field-0 in
    let W : ℕ → ℕ = λ k. weight_of c.args.weights.now k in
    subst (λ (x : Dependencies). IsUnderWay t W c.args.to.0 start x c.args.tree.now c.pop.new.self.entries) (sym (c.add_behind.ensures.stays c.in-WouldClose.is))
    (passed_closing t W c.args.to.0 start c.args.used.now c.args.tree.now c.requires.fabric.rows c.args.choices.now c.pop.new.self m c.in-Some.ensures u
    (is_open t c.args.to.0 c.args.tree.now m.channel.0 c.channel.result c.is_settled.result c.channel.ensures c.if-is_settled.false c.is_settled.ensures)
    (c.add_behind.ensures.closes c.in-WouldClose.is))

pub returns-in-WouldClose-clause-fewer : goal.returns-in-WouldClose-clause-fewer
returns-in-WouldClose-clause-fewer g c = λ e.
    passed_fewer c.args.fabric.now (λ k. weight_of c.args.weights.now k) c.args.to.0 c.requires.under_way.0 c.args.used.now c.args.tree.now c.requires.fabric.rows c.args.choices.now c.pop.new.self c.in-Some.field-0
    c.in-Some.ensures c.requires.under_way.1

pub returns-in-Yes-clause-under_way : goal.returns-in-Yes-clause-under_way
returns-in-Yes-clause-under_way g c = λ start u.
    let t = c.args.fabric.now in
    let m = c.in-Some.field-0 in
    let W : ℕ → ℕ = λ k. weight_of c.args.weights.now k in
    let s_is = tail_read t m.channel.0 c.channel.result c.channel.ensures in
    let tree_is : with_channel t c.args.tree.now m.channel.0 ≡ c.set.new.self = ap (λ k. slice_set c.args.tree.now k (Some m.channel.0)) s_is ∙ sym c.set.ensures in
    let open_tail = is_open t c.args.to.0 c.args.tree.now m.channel.0 c.channel.result c.is_settled.result c.channel.ensures c.if-is_settled.false c.is_settled.ensures in
    subst (λ (x : List (Option ℕ)). IsUnderWay t W c.args.to.0 start c.add_behind.new.used x c.offer.new.choices.entries) tree_is
    (settled_on_way t W c.args.to.0 start c.args.used.now c.args.tree.now c.requires.fabric.rows c.args.choices.now c.pop.new.self m c.in-Some.ensures u open_tail c.add_behind.new.used
    c.offer.new.choices.entries (c.add_behind.ensures.added c.in-Yes.is) (c.add_behind.ensures.spare c.in-Yes.is) (c.add_behind.ensures.acyclic c.in-Yes.is)
    (subst (λ (x : List (Option ℕ)). Offers t c.args.to.0 x (λ d. W d + m.weight) (LeadsInto t (tail t m.channel.0)) c.pop.new.self.entries c.offer.new.choices.entries) (sym tree_is)
    (subst (λ s. Offers t c.args.to.0 c.set.new.self (λ d. W d + m.weight) (LeadsInto t s) c.pop.new.self.entries c.offer.new.choices.entries) (sym s_is) c.offer.ensures.offered)))

pub returns-in-Yes-clause-fewer : goal.returns-in-Yes-clause-fewer
returns-in-Yes-clause-fewer g c = λ e.
    let t = c.args.fabric.now in
    let m = c.in-Some.field-0 in
    let W : ℕ → ℕ = λ k. weight_of c.args.weights.now k in
    let s_is = tail_read t m.channel.0 c.channel.result c.channel.ensures in
    let tree_is : with_channel t c.args.tree.now m.channel.0 ≡ c.set.new.self = ap (λ k. slice_set c.args.tree.now k (Some m.channel.0)) s_is ∙ sym c.set.ensures in
    let open_tail = is_open t c.args.to.0 c.args.tree.now m.channel.0 c.channel.result c.is_settled.result c.channel.ensures c.if-is_settled.false c.is_settled.ensures in
    subst (λ (x : List (Option ℕ)). still_to_do t x c.offer.new.choices.entries < still_to_do t c.args.tree.now c.args.choices.now.entries) tree_is
    (settled_fewer t W c.args.to.0 c.requires.under_way.0 c.args.used.now c.args.tree.now c.requires.fabric.rows c.args.choices.now c.pop.new.self m c.in-Some.ensures c.requires.under_way.1 open_tail c.add_behind.new.used
    c.offer.new.choices.entries (c.add_behind.ensures.added c.in-Yes.is) (c.add_behind.ensures.spare c.in-Yes.is) (c.add_behind.ensures.acyclic c.in-Yes.is)
    (subst (λ (x : List (Option ℕ)). Offers t c.args.to.0 x (λ d. W d + m.weight) (LeadsInto t (tail t m.channel.0)) c.pop.new.self.entries c.offer.new.choices.entries) (sym tree_is)
    (subst (λ s. Offers t c.args.to.0 c.set.new.self (λ d. W d + m.weight) (LeadsInto t s) c.pop.new.self.entries c.offer.new.choices.entries) (sym s_is) c.offer.ensures.offered)))

pub returns-in-Yes-clause-grows : goal.returns-in-Yes-clause-grows
returns-in-Yes-clause-grows g c =
    let t = c.args.fabric.now in
    let m = c.in-Some.field-0 in
    let s_is = tail_read t m.channel.0 c.channel.result c.channel.ensures in
    let tree_is : with_channel t c.args.tree.now m.channel.0 ≡ c.set.new.self = ap (λ k. slice_set c.args.tree.now k (Some m.channel.0)) s_is ∙ sym c.set.ensures in
    let open_tail = is_open t c.args.to.0 c.args.tree.now m.channel.0 c.channel.result c.is_settled.result c.channel.ensures c.if-is_settled.false c.is_settled.ensures in
    let lead = leads _ _ _ _ _ _ c.requires.fabric.rows _ _ _ c.in-Some.ensures c.requires.under_way.1 in
    let within = low _ _ _ _ _ _ c.requires.fabric.rows _ _ _ c.in-Some.ensures c.requires.under_way.1 in
    let counts : settled_count (with_channel t c.args.tree.now m.channel.0) ≡ settled_count c.args.tree.now + 1
    = settle_adds_one t c.args.to.0 c.args.tree.now m.channel.0 c.requires.fabric.rows lead.is_tree.each_switch within open_tail in
    omega (arith, counts, ap settled_count tree_is)
