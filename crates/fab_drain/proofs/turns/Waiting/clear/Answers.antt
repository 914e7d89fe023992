use Rattle.std.proofs.Common.{◌≡◌, [], ◌∙◌, List, map, slice_set, ap, ℕ, Vec, Global}
use Rattle.std.proofs.lemmas.List.{map-set}
use Rattle.fab_drain.proofs.turns.Waiting.clear.Goals as goal

abbrev items : Vec ℕ Global → List ℕ
items v = v.items

cleared : (lists : List (Vec ℕ Global)) (old : List (List ℕ)) (at : ℕ) (new : Vec ℕ Global) → map items lists ≡ old → new.items ≡ [] → map items (slice_set lists at new) ≡ slice_set old at []
cleared lists old at new same none = map-set items lists at new ∙ ap (λ xs. slice_set xs at new.items) same ∙ ap (λ ys. slice_set old at ys) none

pub returns : goal.returns
returns c = cleared c.self.inside.lists.items c.args.self.now c.args.awaited c.clear.new.self c.self.view_is c.clear.ensures.items
