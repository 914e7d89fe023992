use Rattle.std.proofs.Common.{◌≡◌, ◌<◌, ◌++◌, [], ◌∷◌, ◌∙◌, List, length, map, slice_index_or, slice_set, ap, sym, arith, ℕ, Vec, Global}
use Rattle.std.proofs.lemmas.List.{map-set, get_or-map, length-map}
use Rattle.fab_drain.proofs.turns.Waiting.push.Goals as goal

abbrev items : Vec ℕ Global → List ℕ
items v = v.items

added : (lists : List (Vec ℕ Global)) (old : List (List ℕ)) (at : ℕ) (here new : Vec ℕ Global) (x : ℕ) → map items lists ≡ old → at < length old → here ≡ slice_index_or lists at here → new.items ≡ here.items ++ x ∷ [] →
    map items (slice_set lists at new) ≡ slice_set old at (slice_index_or old at [] ++ x ∷ [])
added lists old at here new x same low read pushed =
    let within : at < length lists = omega (arith, length-map lists items, ap length same) in
    let before : here.items ≡ slice_index_or old at [] = ap items read ∙ sym (get_or-map items lists at here [] within) ∙ ap (λ xs. slice_index_or xs at []) same in
    map-set items lists at new ∙ ap (λ xs. slice_set xs at new.items) same ∙ ap (λ ys. slice_set old at ys) (pushed ∙ ap (λ ys. ys ++ x ∷ []) before)

pub returns : goal.returns
returns c = added c.self.inside.lists.items c.args.self.now c.args.awaited c.index_mut.result.now c.push.new.self c.args.number c.self.view_is c.requires c.index_mut.ensures.value c.in_ok-push.ensures.items
