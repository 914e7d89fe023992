-- Marks of what was said, and one statement more.
use Rattle.std.proofs.Common.{◌≡◌, ◌≢◌, ℕ, ◌<◌, Bool, true, false, List, [], ◌∷◌, ◌++◌, length, set, get_or, Some, None, Option, inl, inr, nat_eq, refl, sym, ◌∙◌, ap}
use Rattle.std.specs.Prelude.{◌||◌, ◌&&◌, slice_get}
use Rattle.std.specs.Str.{bytes_eq}
use Rattle.std.proofs.lemmas.Bool.{eq-eqb, or_right}
use Rattle.std.proofs.lemmas.Bool.Decides.{eqb_tells}
use Rattle.std.proofs.lemmas.List.{get_or-set_same, get_or-set_other}
use Rattle.std.proofs.lemmas.List.Folds.{list_any-append}
use Rattle.std.proofs.lemmas.List.Sums.{fold-append}
use Rattle.fab_model.specs.Topology.{Topology}
use Rattle.fab_tables.specs.Entries.{Entries, index_of, with_entry, with_port_in_column}
use Rattle.fab_tables.proofs.Rows.Cells.{index_found, unsome}
use Rattle.fab_dump.specs.Given.{Given, subject, was_given, plan_with, plan_given}
use Rattle.fab_dump.specs.Standing.{AreMarks, AreRowMarks}

pub or_false : (b : Bool) → (b || false) ≡ b
or_false true = refl
or_false false = refl

pub same_number : (n : ℕ) → nat_eq n n ≡ true
same_number n = eq-eqb n n refl

-- what was said, with one statement more
pub was_given-push : (given : List Given) (new other : Given) → was_given (given ++ new ∷ []) other ≡ (was_given given other || bytes_eq (subject new) (subject other))
was_given-push given new other =
    list_any-append (λ old. bytes_eq (subject old) (subject other)) given (new ∷ [])
    ∙ ap (λ b. was_given given other || b) (or_false (bytes_eq (subject new) (subject other)))

-- what the new one doesn't speak of
pub not_of : (given : List Given) (new other : Given) → bytes_eq (subject new) (subject other) ≡ false → was_given (given ++ new ∷ []) other ≡ was_given given other
not_of given new other h = was_given-push given new other ∙ ap (λ b. was_given given other || b) h ∙ or_false (was_given given other)

-- what the new one speaks of
pub now_of : (given : List Given) (new other : Given) → bytes_eq (subject new) (subject other) ≡ true → was_given (given ++ new ∷ []) other ≡ true
now_of given new other h = was_given-push given new other ∙ or_right (was_given given other) (bytes_eq (subject new) (subject other)) h

pub plan_given-push : (t : Topology) (count : Option ℕ) (given : List Given) (new : Given) → plan_given t count (given ++ new ∷ []) ≡ plan_with (plan_given t count given) new
plan_given-push t count given new = fold-append plan_with _ given (new ∷ [])

-- marks of switches, where the new statement is of another kind
pub marks_stay : (count : ℕ) (statement : ℕ → Given) (given : List Given) (new : Given) (marks : List Bool) → ((s : ℕ) → bytes_eq (subject new) (subject (statement s)) ≡ false) →
    AreMarks count statement given marks → AreMarks count statement (given ++ new ∷ []) marks
marks_stay count statement given new marks other h = λ s low. h s low ∙ sym (not_of given new (statement s) (other s))

-- a mark where the new statement speaks of the switch of this number
pub mark_set : (count : ℕ) (statement : ℕ → Given) (given : List Given) (marks : List Bool) (s : ℕ) →
    ((other : ℕ) → bytes_eq (subject (statement s)) (subject (statement other)) ≡ nat_eq s other) → s < length marks →
    AreMarks count statement given marks → AreMarks count statement (given ++ statement s ∷ []) (set marks s true)
mark_set count statement given marks s same within h = λ other low. elim (eqb_tells s other) [
  | inl y ↦ ap (λ k. get_or (set marks s true) k false) (sym y.1) ∙ get_or-set_same marks s true false within ∙ sym (now_of given (statement s) (statement other) (same other ∙ y.0))
  | inr n ↦ get_or-set_other marks s other true false (λ e. n.1 (sym e)) ∙ h other low ∙ sym (not_of given (statement s) (statement other) (same other ∙ n.0))
]

-- a mark where the new statement speaks of the LID at this place
pub row_mark_set : (lids : List ℕ) (statement : ℕ → Given) (new : Given) (lid : ℕ) (given : List Given) (marks : List Bool) (place : ℕ) →
    ((other : ℕ) → bytes_eq (subject new) (subject (statement other)) ≡ nat_eq lid other) → index_of lid lids ≡ Some place → place < length marks →
    AreRowMarks lids statement given marks → AreRowMarks lids statement (given ++ new ∷ []) (set marks place true)
row_mark_set lids statement new lid given marks place same found within h = λ other p e. elim (eqb_tells lid other) [
  | inl y ↦
      let here : p ≡ place = unsome p place (sym e ∙ ap (λ n. index_of n lids) (sym y.1) ∙ found) in
      ap (λ k. get_or (set marks place true) k false) here ∙ get_or-set_same marks place true false within ∙ sym (now_of given new (statement other) (same other ∙ y.0))
  | inr n ↦
      let apart : p ≢ place = λ here. n.1 (unsome lid other (sym (index_found lid lids place found).1 ∙ ap (λ k. slice_get lids k) (sym here) ∙ (index_found other lids p e).1)) in
      get_or-set_other marks place p true false apart ∙ h other p e ∙ sym (not_of given new (statement other) (same other ∙ n.0))
]

pub and_true : (b : Bool) → (b && true) ≡ b
and_true true = refl
and_true false = refl

-- subjects of one kind and one switch
pub same_lid : (s a b : ℕ) → (nat_eq s s && (nat_eq a b && true)) ≡ nat_eq a b
same_lid s a b = ap (λ v. v && (nat_eq a b && true)) (same_number s) ∙ and_true (nat_eq a b)

pub same_switch : (a b : ℕ) → (nat_eq a b && true) ≡ nat_eq a b
same_switch a b = and_true (nat_eq a b)

-- what stays of entries
pub entries_keep : (e : Entries) (s lid port : ℕ) → ((with_entry e s lid port).switches ≡ e.switches) × ((with_entry e s lid port).in_use ≡ e.in_use)
entries_keep e s lid port = go (index_of lid e.in_use)
  where
    go : (place : Option ℕ) → ((with_port_in_column e s port place).switches ≡ e.switches) × ((with_port_in_column e s port place).in_use ≡ e.in_use)
    go None = (refl, refl)
    go (Some i) = (refl, refl)
