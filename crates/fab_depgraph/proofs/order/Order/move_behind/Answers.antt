use Rattle.std.proofs.Common.{◌≡◌, ◌<◌, ◌+◌, ◌-◌, ℕ, List, ◌++◌, length, take, drop, filter, All, AllPairs, ◌≢◌, sym, ◌∙◌, ap, subst, arith}
use Rattle.std.proofs.lemmas.List.{with_items_is}
use Rattle.fab_depgraph.specs.Order.{IsOrder, AreNumberedFrom, IsMovedBehind, is_reached, is_unreached}
use Rattle.fab_depgraph.proofs.Ordering.Loops.{order_numbers}
use Rattle.fab_depgraph.proofs.Ordering.Lists.{drop_twice}
use Rattle.fab_depgraph.proofs.Ordering.Moved.{parted, parted_known, parted_differ, parted_length, arranged, arranged_length, moved_order, is_moved}
use Rattle.fab_depgraph.proofs.order.Order.move_behind.Goals as goal

pub set_numbers-requires-clause-known : goal.set_numbers-requires-clause-known
set_numbers-requires-clause-known c =
    let numbers = c.self.inside.numbers.items in
    let channels = c.self.inside.channels.items in
    let order = c.self.invariant.0 in
    let reached = c.args.reached.now in
    let low = c.args.low in
    let high = c.args.high in
    let inside : high < length numbers = omega (arith, c.requires.high, ap (length {A = ℕ}) c.self.view_is) in
    let mid : c.unreached_first.new.channels ≡ parted numbers channels order reached low high c.requires.low inside = c.unreached_first.ensures.parted ∙ ap (λ (xs : List ℕ). filter (is_unreached reached) (take (high + 1 - low) (drop low xs)) ++ filter (is_reached reached) (take (high + 1 - low) (drop low xs))) c.deref_mut.ensures.value in
    subst (λ (xs : List ℕ). All (λ c. c < length xs) c.unreached_first.new.channels) (sym c.deref_mut-2.ensures.value) (subst (λ (xs : List ℕ). All (λ c. c < length numbers) xs) (sym mid) (parted_known numbers channels order reached low high c.requires.low inside))

pub set_numbers-requires-clause-differ : goal.set_numbers-requires-clause-differ
set_numbers-requires-clause-differ c =
    let numbers = c.self.inside.numbers.items in
    let channels = c.self.inside.channels.items in
    let order = c.self.invariant.0 in
    let reached = c.args.reached.now in
    let low = c.args.low in
    let high = c.args.high in
    let inside : high < length numbers = omega (arith, c.requires.high, ap (length {A = ℕ}) c.self.view_is) in
    let mid : c.unreached_first.new.channels ≡ parted numbers channels order reached low high c.requires.low inside = c.unreached_first.ensures.parted ∙ ap (λ (xs : List ℕ). filter (is_unreached reached) (take (high + 1 - low) (drop low xs)) ++ filter (is_reached reached) (take (high + 1 - low) (drop low xs))) c.deref_mut.ensures.value in
    subst (λ (xs : List ℕ). AllPairs (λ c d. c ≢ d) xs) (sym mid) (parted_differ numbers channels order reached low high c.requires.low inside)

pub set_numbers-requires-clause-fits : goal.set_numbers-requires-clause-fits
set_numbers-requires-clause-fits c =
    let numbers = c.self.inside.numbers.items in
    let channels = c.self.inside.channels.items in
    let order = c.self.invariant.0 in
    let reached = c.args.reached.now in
    let low = c.args.low in
    let high = c.args.high in
    let inside : high < length numbers = omega (arith, c.requires.high, ap (length {A = ℕ}) c.self.view_is) in
    let mid : c.unreached_first.new.channels ≡ parted numbers channels order reached low high c.requires.low inside = c.unreached_first.ensures.parted ∙ ap (λ (xs : List ℕ). filter (is_unreached reached) (take (high + 1 - low) (drop low xs)) ++ filter (is_reached reached) (take (high + 1 - low) (drop low xs))) c.deref_mut.ensures.value in
    omega (arith, ap (length {A = ℕ}) mid, parted_length numbers channels order reached low high c.requires.low inside, c.ranges.high.fits)

pub invariant_of-self : goal.invariant_of-self
invariant_of-self c =
    let numbers = c.self.inside.numbers.items in
    let channels = c.self.inside.channels.items in
    let order = c.self.invariant.0 in
    let reached = c.args.reached.now in
    let low = c.args.low in
    let high = c.args.high in
    let inside : high < length numbers = omega (arith, c.requires.high, ap (length {A = ℕ}) c.self.view_is) in
    let mid : c.unreached_first.new.channels ≡ parted numbers channels order reached low high c.requires.low inside = c.unreached_first.ensures.parted ∙ ap (λ (xs : List ℕ). filter (is_unreached reached) (take (high + 1 - low) (drop low xs)) ++ filter (is_reached reached) (take (high + 1 - low) (drop low xs))) c.deref_mut.ensures.value in
    let new = c.set_numbers.new.numbers in
    let numbered : AreNumberedFrom low (parted numbers channels order reached low high c.requires.low inside) numbers new =
    subst (λ (old : List ℕ). AreNumberedFrom low (parted numbers channels order reached low high c.requires.low inside) old new) c.deref_mut-2.ensures.value (subst (λ (xs : List ℕ). AreNumberedFrom low xs c.deref_mut-2.result.now new) mid c.set_numbers.ensures) in
    let long : length new ≡ c.self.inside.numbers.len = omega (arith, numbered.each, c.self.inside.numbers.ok.0) in
    let back = drop (high + 1 - low) (drop low c.deref_mut.result.now) in
    let sum : low + (high + 1 - low) ≡ high + 1 = omega arith in
    let whole : take low c.deref_mut.result.now ++ (c.unreached_first.new.channels ++ back) ≡ arranged numbers channels order reached low high c.requires.low inside =
    ap (λ (xs : List ℕ). take low xs ++ (c.unreached_first.new.channels ++ drop (high + 1 - low) (drop low xs))) c.deref_mut.ensures.value
    ∙ (ap (λ (xs : List ℕ). take low channels ++ (xs ++ drop (high + 1 - low) (drop low channels))) mid
    ∙ ap (λ (xs : List ℕ). take low channels ++ (parted numbers channels order reached low high c.requires.low inside ++ xs)) (drop_twice low (high + 1 - low) channels ∙ ap (λ k. drop k channels) sum)) in
    let fits : length (take low c.deref_mut.result.now ++ (c.unreached_first.new.channels ++ back)) ≡ c.self.inside.channels.len = ap (length {A = ℕ}) whole ∙ (arranged_length numbers channels order reached low high c.requires.low inside ∙ sym c.self.inside.channels.ok.0) in
    rw (with_items_is c.self.inside.numbers new long, with_items_is c.self.inside.channels (take low c.deref_mut.result.now ++ (c.unreached_first.new.channels ++ back)) fits) (
      subst (IsOrder new) (sym whole) (moved_order numbers channels order reached low high c.requires.low inside new numbered),
      omega (arith, numbered.each, c.self.invariant.1, c.unreached_first.ensures.capacity),
    )

pub returns-clause-moved : goal.returns-clause-moved
returns-clause-moved c =
    let numbers = c.self.inside.numbers.items in
    let channels = c.self.inside.channels.items in
    let order = c.self.invariant.0 in
    let reached = c.args.reached.now in
    let low = c.args.low in
    let high = c.args.high in
    let inside : high < length numbers = omega (arith, c.requires.high, ap (length {A = ℕ}) c.self.view_is) in
    let mid : c.unreached_first.new.channels ≡ parted numbers channels order reached low high c.requires.low inside = c.unreached_first.ensures.parted ∙ ap (λ (xs : List ℕ). filter (is_unreached reached) (take (high + 1 - low) (drop low xs)) ++ filter (is_reached reached) (take (high + 1 - low) (drop low xs))) c.deref_mut.ensures.value in
    let new = c.set_numbers.new.numbers in
    let numbered : AreNumberedFrom low (parted numbers channels order reached low high c.requires.low inside) numbers new =
    subst (λ (old : List ℕ). AreNumberedFrom low (parted numbers channels order reached low high c.requires.low inside) old new) c.deref_mut-2.ensures.value (subst (λ (xs : List ℕ). AreNumberedFrom low xs c.deref_mut-2.result.now new) mid c.set_numbers.ensures) in
    let long : length new ≡ c.self.inside.numbers.len = omega (arith, numbered.each, c.self.inside.numbers.ok.0) in
    rw (with_items_is c.self.inside.numbers new long) (subst (λ (old : List ℕ). IsMovedBehind old new low high reached) c.self.view_is (is_moved numbers channels order reached low high c.requires.low inside new numbered))

pub returns-clause-numbers : goal.returns-clause-numbers
returns-clause-numbers c =
    let numbers = c.self.inside.numbers.items in
    let channels = c.self.inside.channels.items in
    let order = c.self.invariant.0 in
    let reached = c.args.reached.now in
    let low = c.args.low in
    let high = c.args.high in
    let inside : high < length numbers = omega (arith, c.requires.high, ap (length {A = ℕ}) c.self.view_is) in
    let mid : c.unreached_first.new.channels ≡ parted numbers channels order reached low high c.requires.low inside = c.unreached_first.ensures.parted ∙ ap (λ (xs : List ℕ). filter (is_unreached reached) (take (high + 1 - low) (drop low xs)) ++ filter (is_reached reached) (take (high + 1 - low) (drop low xs))) c.deref_mut.ensures.value in
    let new = c.set_numbers.new.numbers in
    let numbered : AreNumberedFrom low (parted numbers channels order reached low high c.requires.low inside) numbers new =
    subst (λ (old : List ℕ). AreNumberedFrom low (parted numbers channels order reached low high c.requires.low inside) old new) c.deref_mut-2.ensures.value (subst (λ (xs : List ℕ). AreNumberedFrom low xs c.deref_mut-2.result.now new) mid c.set_numbers.ensures) in
    let long : length new ≡ c.self.inside.numbers.len = omega (arith, numbered.each, c.self.inside.numbers.ok.0) in
    rw (with_items_is c.self.inside.numbers new long) (order_numbers new (arranged numbers channels order reached low high c.requires.low inside) (moved_order numbers channels order reached low high c.requires.low inside new numbered))
