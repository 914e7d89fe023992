use Rattle.std.proofs.Common.{◌≡◌, ◌<◌, [], ◌∙◌, List, length, map, filter, slice_index_or, slice_set, ap, sym, arith, rules, ℕ, Vec, Global}
use Rattle.std.specs.Prelude.{not, ◌==◌}
use Rattle.std.proofs.lemmas.Fn.{filter_same}
use Rattle.std.proofs.lemmas.List.{map-set, get_or-map, length-map}
use Rattle.fab_dfsssp.proofs.neighbours.Neighbours.remove.Goals as goal

abbrev items : Vec ℕ Global → List ℕ
items v = v.items

removed : (lists : List (Vec ℕ Global)) (old : List (List ℕ)) (at : ℕ) (here new : Vec ℕ Global) (x : ℕ) → map items lists ≡ old → at < length old → here ≡ slice_index_or lists at here →
    new.items ≡ filter (λ other. not (other == x)) here.items → map items (slice_set lists at new) ≡ slice_set old at (filter (λ other. not (other == x)) (slice_index_or old at []))
removed lists old at here new x same low read kept =
    let within : at < length lists = omega (arith, length-map lists items, ap length same, low) in
    let before : here.items ≡ slice_index_or old at [] = ap items read ∙ sym (get_or-map items lists at here [] within) ∙ ap (λ xs. slice_index_or xs at []) same in
    map-set items lists at new ∙ ap (λ xs. slice_set xs at new.items) same ∙ ap (λ ys. slice_set old at ys) (kept ∙ ap (filter (λ other. not (other == x))) before)

pub returns : goal.returns
returns c =
    removed c.self.inside.lists.items c.args.self.now c.args.node c.index_mut.result.now c.retain.new.self c.args.neighbour c.self.view_is c.requires c.index_mut.ensures.value
    (filter_same _ _ _ (λ x b f' k. search rules) _ _ c.retain.ensures.filtered)
