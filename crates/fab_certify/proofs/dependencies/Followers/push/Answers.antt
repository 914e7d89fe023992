use Rattle.std.proofs.Common.{◌≡◌, ◌<◌, ◌++◌, [], ◌∷◌, ◌∙◌, List, length, map, slice_index_or, slice_set, ap, sym, arith, ℕ, Vec, Global, Result, Ok, Err}
use Rattle.std.specs.Prelude.{OnErr}
use Rattle.std.proofs.lemmas.List.{map-set, get_or-map, length-map}
use Rattle.std.proofs.Math.Seq.{map-set_same}
use Rattle.fab_certify.proofs.dependencies.Followers.push.Goals as goal

on_err : {T E : Type 0} (r : Result T E) (P : Type 0) → P → OnErr r P
on_err (Ok x) P p = tt
on_err (Err e) P p = p

abbrev items : Vec ℕ Global → List ℕ
items v = v.items

added : (lists : List (Vec ℕ Global)) (old : List (List ℕ)) (at : ℕ) (here new : Vec ℕ Global) (x : ℕ) → map items lists ≡ old → at < length old → here ≡ slice_index_or lists at here → new.items ≡ here.items ++ x ∷ [] →
    map items (slice_set lists at new) ≡ slice_set old at (slice_index_or old at [] ++ x ∷ [])
added lists old at here new x same low read pushed =
    let within : at < length lists = omega (arith, length-map lists items, ap length same) in
    let before : here.items ≡ slice_index_or old at [] = ap items read ∙ sym (get_or-map items lists at here [] within) ∙ ap (λ xs. slice_index_or xs at []) same in
    map-set items lists at new ∙ ap (λ xs. slice_set xs at new.items) same ∙ ap (λ ys. slice_set old at ys) (pushed ∙ ap (λ ys. ys ++ x ∷ []) before)

unchanged : (lists : List (Vec ℕ Global)) (old : List (List ℕ)) (at : ℕ) (here new : Vec ℕ Global) → map items lists ≡ old → here ≡ slice_index_or lists at here → new.items ≡ here.items → map items (slice_set lists at new) ≡ old
unchanged lists old at here new same read kept = map-set_same items lists at new here (kept ∙ ap items read) ∙ same

pub returns-clause-ok : goal.returns-clause-ok
returns-clause-ok c = added c.self.inside.lists.items c.args.self.now c.args.first c.index_mut.result.now c.push.new.self c.args.second c.self.view_is c.requires c.index_mut.ensures.value c.in_ok-push.ensures.items

pub returns-in_err-push-clause-err : goal.returns-in_err-push-clause-err
returns-in_err-push-clause-err c =
    on_err c.from_residual.result _ (unchanged c.self.inside.lists.items c.args.self.now c.args.first c.index_mut.result.now c.push.new.self c.self.view_is c.index_mut.ensures.value c.in_err-push.ensures.items)
