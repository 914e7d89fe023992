use Rattle.std.proofs.Common.{◌≡◌, ◌+◌, ℕ, true, false, List, [], ◌∷◌, ◌++◌, length, take, filter, refl, slice_index_or, sym, ◌∙◌, ap, arith, append-nil}
use Rattle.std.proofs.lemmas.List.{get_or_default, length_push}
use Rattle.std.proofs.lemmas.List.Elements.{filter_more}
use Rattle.std.proofs.lemmas.List.Filters.{FiltersInPlace-more_no, FiltersInPlace-more_set}
use Rattle.fab_depgraph.specs.Order.{is_reached, is_unreached}
use Rattle.fab_depgraph.proofs.Ordering.Loops.{kept_read}
use Rattle.fab_depgraph.proofs.order.unreached_first.Goals as goal
use Rattle.fab_depgraph.proofs.order.unreached_first.Goals.{then-reached-channel, else-reached-channel}

pub bounds-reached-channel : goal.bounds-reached-channel
bounds-reached-channel c =
    omega (arith, kept_read c.loop-at.invariant.kept 0, c.requires.known c.loop-at.at 0 (omega arith))

pub loop-at-preserved : goal.loop-at-preserved
loop-at-preserved c =
    let was = c.loop-at.invariant in
    let ys = c.loop-at.channels in
    let xs = c.args.channels.now in
    let i = c.loop-at.at in
    let x = slice_index_or ys i 0 in
    let read : x ≡ slice_index_or ys i x = get_or_default ys i 0 x (omega arith) in
    let same = kept_read was.kept 0 in
    elim c.if-reached-channel.branch [
      | then-reached-channel w ↦
          let h = w.if-reached-channel.true in
          let here : is_reached c.args.reached.now (slice_index_or xs i 0) ≡ true = ap (is_reached c.args.reached.now) (sym same) ∙ h in
          let passes : is_unreached c.args.reached.now x ≡ false = rw h refl in
          let more : filter (is_reached c.args.reached.now) (take (i + 1) xs) ≡ c.loop-at.moved.items ++ x ∷ [] = filter_more (is_reached c.args.reached.now) xs i 0 (omega arith) ∙ (rw here (ap (λ (zs : List ℕ). zs ++ slice_index_or xs i 0 ∷ []) (sym was.moved) ∙ ap (λ z. c.loop-at.moved.items ++ z ∷ []) (sym same))) in
          let pushed : w.push_reserved.new.self.items ≡ c.loop-at.moved.items ++ x ∷ [] = w.push_reserved.ensures.items in
          rw (w.channels-is, w.next-is, w.moved-is) (record {
            kept = FiltersInPlace-more_no was.kept (omega arith) passes read;
            moved = pushed ∙ sym more;
            capacity = w.push_reserved.ensures.capacity ∙ was.capacity;
            count = omega (arith, was.count, ap (length {A = ℕ}) pushed, length_push c.loop-at.moved.items x);
          })
      | else-reached-channel w ↦
          let h = w.if-reached-channel.false in
          let here : is_reached c.args.reached.now (slice_index_or xs i 0) ≡ false = ap (is_reached c.args.reached.now) (sym same) ∙ h in
          let passes : is_unreached c.args.reached.now x ≡ true = rw h refl in
          let more : filter (is_reached c.args.reached.now) (take (i + 1) xs) ≡ filter (is_reached c.args.reached.now) (take i xs) = filter_more (is_reached c.args.reached.now) xs i 0 (omega arith) ∙ (rw here (append-nil (filter (is_reached c.args.reached.now) (take i xs)))) in
          rw (w.channels-is, w.next-is, w.moved-is) (record {
            kept = FiltersInPlace-more_set was.kept (omega arith) passes read;
            moved = was.moved ∙ sym more;
            capacity = was.capacity;
            count = omega (arith, was.count);
          })
    ]
