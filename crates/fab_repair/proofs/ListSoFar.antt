-- The cables of the lines that were read, in front of those that are still to be read.
use Rattle.std.proofs.Common.{◌≡◌, ℕ, ◌+◌, true, false, List, [], ◌∷◌, ◌++◌, Some, None, drop, refl, sym, ap, ◌∙◌, append_assoc}
use Rattle.std.specs.Prelude.{Result, Ok, Err, slice_range, if◌then◌else◌}
use Rattle.std.proofs.lemmas.List.{append-nil}
use Rattle.std.specs.Str.Lines.{lines}
use Rattle.fab_model.specs.declared.rows.Cable.{Cable}
use Rattle.fab_text.specs.Fields.{is_passed_over}
use Rattle.fab_text.specs.Fronts.{line_at}
use Rattle.fab_text.specs.declared.fronts.Line.{Line}
use Rattle.fab_text.proofs.LinesMet.{line_first, no_line_left}
use Rattle.fab_repair.specs.declared.fault.FailedFault.{FailedFault}
use Rattle.fab_repair.specs.declared.fault.FailedFault.TheVariants.{BadLine}
use Rattle.fab_repair.specs.FailedList.{cable_in, cables_from, with_cable, unless_bad}

abbrev pub behind : List Cable → Result (List Cable) FailedFault → Result (List Cable) FailedFault
behind front (Ok cables) = Ok (front ++ cables)
behind front (Err fault) = Err fault

behind_one : (front : List Cable) (cable : Cable) (wanted : Result (List Cable) FailedFault) → behind front (with_cable cable wanted) ≡ behind (front ++ cable ∷ []) wanted
behind_one front cable (Ok cables) = ap (λ (all : List Cable). Ok all) (sym (append_assoc front (cable ∷ []) cables))
behind_one front cable (Err fault) = refl

-- what the list is from a place on, behind the cables before
abbrev pub list_from : List Cable → ℕ → List ℕ → ℕ → Result (List Cable) FailedFault
list_from front line text from = behind front (cables_from (line + 1) (lines (drop from text)))

module _ (front : List Cable) (line : ℕ) (text : List ℕ) (from : ℕ) where
  pub ended : line_at text from ≡ None → list_from front line text from ≡ Ok front
  ended e = ap (λ (rest : List (List ℕ)). behind front (cables_from (line + 1) rest)) (no_line_left text from e) ∙ ap (λ (all : List Cable). Ok all) (append-nil front)

  module _ (found : Line) (met : line_at text from ≡ Some found) where
    abbrev bytes : List ℕ
    bytes = slice_range text found.start found.end

    abbrev others : Result (List Cable) FailedFault
    others = cables_from (line + 1 + 1) (lines (drop found.next text))

    first : list_from front line text from ≡ behind front (if is_passed_over bytes then others else unless_bad (line + 1) (cable_in bytes) others)
    first = ap (λ (rest : List (List ℕ)). behind front (cables_from (line + 1) rest)) (line_first text from found met)

    pub passed_over : is_passed_over bytes ≡ true → list_from front line text from ≡ list_from front (line + 1) text found.next
    passed_over e = first ∙ ap (λ test. behind front (if test then others else unless_bad (line + 1) (cable_in bytes) others)) e

    pub cable_read : (cable : Cable) → is_passed_over bytes ≡ false → cable_in bytes ≡ Some cable → list_from front line text from ≡ list_from (front ++ cable ∷ []) (line + 1) text found.next
    cable_read cable e is =
        first ∙ ap (λ test. behind front (if test then others else unless_bad (line + 1) (cable_in bytes) others)) e
        ∙ ap (λ named. behind front (unless_bad (line + 1) named others)) is ∙ behind_one front cable others

    pub bad_line : is_passed_over bytes ≡ false → cable_in bytes ≡ None → list_from front line text from ≡ Err (BadLine (line + 1))
    bad_line e is =
        first ∙ ap (λ test. behind front (if test then others else unless_bad (line + 1) (cable_in bytes) others)) e
        ∙ ap (λ named. behind front (unless_bad (line + 1) named others)) is
