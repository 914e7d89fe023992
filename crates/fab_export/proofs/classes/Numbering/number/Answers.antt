use Rattle.std.proofs.Common.{◌≡◌, ℕ, ◌+◌, cond, List, [], ◌∷◌, ◌++◌, length, map, Option, Some, sym, ◌∙◌, ap, subst, arith, nat_eq, Vec, Global}
use Rattle.std.specs.Option.{option_eq}
use Rattle.std.specs.Cmp.Lexicographic.{pointwise}
use Rattle.std.proofs.lemmas.List.{length-map, map-append}
use Rattle.fab_model.specs.declared.rows.SwitchId.{SwitchId}
use Rattle.fab_export.specs.ClassNumbers.{number_by, IsNumber, IsNumbering, IsNumberOf}
use Rattle.fab_export.specs.Numberings.{least_of}
use Rattle.fab_export.proofs.NumberedClasses.{known_number, with_known, new_number, with_new, number_kept}
use Rattle.fab_export.proofs.classes.Numbering.number.Goals as goal

items : Vec (Option ℕ) Global → List (Option ℕ)
items row = row.items

pub returns-in-Some-clause-then : goal.returns-in-Some-clause-then
unfolding items
returns-in-Some-clause-then c =
    let before = c.args.self.now in
    with_known c.args.reached.now.fabric c.args.reached.now.entries c.args.lanes.now items (number_by before.by_levels) c.args.source.0 (least_of before) c.requires.so_far
    c.requires.switch c.requires.source c.in_ok-levels.levels c.in_ok-levels.ensures c.in-Some.number.now (sym c.in-Some.ensures.value)

pub returns-in-Some-clause-number : goal.returns-in-Some-clause-number
unfolding items
returns-in-Some-clause-number c =
    let before = c.args.self.now in
    known_number c.args.reached.now.fabric c.args.reached.now.entries c.args.lanes.now items (number_by before.by_levels) c.args.source.0 (least_of before) c.requires.so_far
    c.requires.switch c.requires.source c.in_ok-levels.levels c.in_ok-levels.ensures c.in-Some.number.now (sym c.in-Some.ensures.value)

-- the least sources with one more
grown : (old new : List SwitchId) (source : SwitchId) → new ≡ old ++ source ∷ [] → map (λ (s : SwitchId). s.0) new ≡ map (λ (s : SwitchId). s.0) old ++ source.0 ∷ []
grown old new source more = ap (map (λ (s : SwitchId). s.0)) more ∙ map-append (λ (s : SwitchId). s.0) old (source ∷ [])

counted : (old : List SwitchId) (number : ℕ) → number ≡ length old → number ≡ length (map (λ (s : SwitchId). s.0) old)
counted old number is = is ∙ sym (length-map old (λ (s : SwitchId). s.0))

pub returns-clause-then : goal.returns-clause-then
unfolding items
returns-clause-then c =
    let t = c.args.reached.now.fabric in
    let e = c.args.reached.now.entries in
    let l = c.args.lanes.now in
    let n = c.args.source.0 in
    let before = c.args.self.now in
    let number : c.len-number.result ≡ length (least_of before) = counted before.least.items c.len-number.result (omega (arith, c.len-number.ensures, before.least.ok.0)) in
    subst (λ (least : List ℕ). IsNumbering t e l (n + 1) least items (number_by c.insert.new.self)) (sym (grown before.least.items c.push.new.self.items c.args.source c.in_ok-push.ensures.items))
    (with_new t e l items (number_by before.by_levels) n (least_of before) c.requires.so_far c.requires.switch c.requires.source c.in_ok-levels.levels c.in_ok-levels.ensures (sym c.in_default.ensures.value) (number_by c.insert.new.self)
    (λ other. c.in_ok-insert.ensures.updates.0 other ∙ ap (λ (m : ℕ). cond (pointwise (option_eq nat_eq) c.in_ok-levels.levels.items other.items) (Some m) (number_by before.by_levels other)) number))

pub returns-clause-number : goal.returns-clause-number
unfolding items
returns-clause-number c =
    let t = c.args.reached.now.fabric in
    let e = c.args.reached.now.entries in
    let l = c.args.lanes.now in
    let n = c.args.source.0 in
    let before = c.args.self.now in
    let number : c.len-number.result ≡ length (least_of before) = counted before.least.items c.len-number.result (omega (arith, c.len-number.ensures, before.least.ok.0)) in
    subst (λ (least : List ℕ). IsNumber t e l least n c.len-number.result) (sym (grown before.least.items c.push.new.self.items c.args.source c.in_ok-push.ensures.items))
    (subst (IsNumber t e l (least_of before ++ n ∷ []) n) (sym number)
    (new_number t e l items (number_by before.by_levels) n (least_of before) c.requires.so_far c.requires.switch c.requires.source c.in_ok-levels.levels c.in_ok-levels.ensures (sym c.in_default.ensures.value)))

pub returns-clause-kept : goal.returns-clause-kept
returns-clause-kept c = λ s number is.
    let t = c.args.reached.now.fabric in
    let e = c.args.reached.now.entries in
    let l = c.args.lanes.now in
    let before = c.args.self.now in
    subst (λ (least : List ℕ). IsNumberOf t e l least s number) (sym (grown before.least.items c.push.new.self.items c.args.source c.in_ok-push.ensures.items))
    (number_kept t e l (least_of before) c.args.source.0 s number is)
