-- Levels of paths: compared with a number, and where they stand.
use Rattle.std.proofs.Common.{◌≡◌, ℕ, ◌<◌, inl, inr, refl, sym, ◌∙◌, ap, Some, None, Option, true, false, slice_index_or}
use Rattle.std.specs.Prelude.{Contains, nat_lt, nat_eq}
use Rattle.std.specs.Option.{option_eq}
use Rattle.std.proofs.lemmas.Bool.{cases_lt, both_ways, eq-eqb, eqb-true, cond-false, le-ltb}
use Rattle.std.proofs.lemmas.Option.{none-some}
use Rattle.fab_tables.specs.Entries.{index_of, cell}
use Rattle.fab_tables.specs.LaneTables.{LaneTables, level, level_in_column}
use Rattle.fab_tables.proofs.Rows.Cells.{index_found}
use Rattle.fab_tables.proofs.Verdicts.CertifiedLaws.{contains_of}

-- a level that is compared with a number
pub level_same : (o : Option ℕ) (n : ℕ) → option_eq nat_eq o (Some n) ≡ true → o ≡ Some n
level_same None n x = cc
level_same (Some m) n x = ap (λ k. Some k) (eqb-true m n x)

pub level_other : (o : Option ℕ) (n : ℕ) → option_eq nat_eq o (Some n) ≡ false → ¬ (o ≡ Some n)
level_other o n x is = both_ways (option_eq nat_eq o (Some n)) x (ap (λ p. option_eq nat_eq p (Some n)) is ∙ eq-eqb n n refl)

-- a switch with a level is one of the lanes' switches, and its LID is in use
pub leveled : (l : LaneTables) (s lid n : ℕ) → level l s lid ≡ Some n → (s < l.switches) × Contains l.in_use lid
leveled l s lid n is = go (index_of lid l.in_use) refl is
  where
    go : (place : Option ℕ) → index_of lid l.in_use ≡ place → level_in_column l s place ≡ Some n → (s < l.switches) × Contains l.in_use lid
    go None at x = absurd (none-some n x)
    go (Some i) at x = elim (cases_lt s l.switches) [
      | inl low ↦ (low, contains_of l.in_use i lid (index_found lid l.in_use i at).1)
      | inr past ↦ absurd (none-some n (sym (cond-false (nat_lt s l.switches) (slice_index_or l.levels (cell l.switches i s) None) None (le-ltb s l.switches past)) ∙ x))
    ]
