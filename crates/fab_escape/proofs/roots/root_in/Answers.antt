use Rattle.std.proofs.Common.{◌≡◌, ◌∙◌, ◌%◌, ◌<◌, ℕ, List, length, map, refl, sym, ap, arith, Some, Contains}
use Rattle.std.specs.Prelude.{slice_get, option_map}
use Rattle.std.proofs.lemmas.Nat.{mod_below}
use Rattle.std.proofs.lemmas.List.{length-map}
use Rattle.std.proofs.lemmas.Option.{slice_get_read}
use Rattle.std.proofs.lemmas.Option.{slice_get-map}
use Rattle.fab_model.specs.declared.rows.SwitchId.{SwitchId}
use Rattle.fab_model.specs.Topology.{Topology}
use Rattle.fab_hops.specs.Centres.{IsCentreOrder}
use Rattle.fab_escape.proofs.roots.root_in.Goals as goal

number : SwitchId → ℕ
number x = x.0

some_there : (t : Topology) (s : ℕ) (order : List SwitchId) → IsCentreOrder t s (map (λ (x : SwitchId). x.0) order) → 0 < length order
some_there t s order is =
    let has : Contains (map (λ (x : SwitchId). x.0) order) s = (is.component s).1 (0, refl) in
    omega (arith, has.1, length-map order (λ (x : SwitchId). x.0))

pub nonzero_rem-lane : goal.nonzero_rem-lane
nonzero_rem-lane c =
    let known = c.requires.fabric in
    omega (arith, c.len.ensures, c.in_ok-order.order.ok.0, some_there known.0 c.args.s.0 c.in_ok-order.order.items (c.in_ok-order.ensures known.0 known.1 known.2))

pub index-requires : goal.index-requires
index-requires c =
    let known = c.requires.fabric in
    let some : 0 < c.len.result = omega (arith, c.len.ensures, c.in_ok-order.order.ok.0, some_there known.0 c.args.s.0 c.in_ok-order.order.items (c.in_ok-order.ensures known.0 known.1 known.2)) in
    omega (arith, c.len.ensures, mod_below c.args.lane c.len.result some)

pub returns : goal.returns
returns c = λ t good hops.
    let items = c.in_ok-order.order.items in
    let is : IsCentreOrder t c.args.s.0 (map (λ (x : SwitchId). x.0) items) = c.in_ok-order.ensures t good hops in
    let long : c.len.result ≡ length items = omega (arith, c.len.ensures, c.in_ok-order.order.ok.0) in
    let low : c.args.lane % c.len.result < c.len.result = mod_below c.args.lane c.len.result (omega (arith, long, some_there t c.args.s.0 items is)) in
    let read : slice_get items (c.args.lane % c.len.result) ≡ Some c.index.result.now = slice_get_read items c.len.result (c.args.lane % c.len.result) c.index.result.now long low c.index.ensures in
    let same : c.args.lane % length (map (λ (x : SwitchId). x.0) items) ≡ c.args.lane % c.len.result = ap (λ n. c.args.lane % n) (length-map items (λ (x : SwitchId). x.0) ∙ sym long) in (
      map (λ (x : SwitchId). x.0) items,
      is,
      ap (λ k. slice_get (map (λ (x : SwitchId). x.0) items) k) same ∙ slice_get-map (λ (x : SwitchId). x.0) items (c.args.lane % c.len.result) ∙ ap (λ o. option_map (λ (x : SwitchId). x.0) o) read,
    )
