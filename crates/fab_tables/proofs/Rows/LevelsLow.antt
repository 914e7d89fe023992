-- Levels are below 16.
use Rattle.std.proofs.Common.{◌≡◌, ℕ, ◌<◌, Bool, true, false, length, sym, ◌∙◌, subst, inl, inr, Some, None, Option}
use Rattle.std.specs.Prelude.{IfSome, if◌then◌else◌, nat_lt, slice_index_or}
use Rattle.std.proofs.lemmas.Bool.{cases_lt}
use Rattle.std.proofs.lemmas.List.{get_or_past}
use Rattle.std.proofs.lemmas.Option.{none-some}
use Rattle.fab_tables.specs.Entries.{index_of, cell}
use Rattle.fab_tables.specs.LaneTables.{LaneTables, AreLaneTables, level_in_column, level}

pub level_low : (l : LaneTables) (s lid n : ℕ) → AreLaneTables l → level l s lid ≡ Some n → n < 16
level_low l s lid n are is = in_column (index_of lid l.in_use) is
  where
    in_column : (o : Option ℕ) → level_in_column l s o ≡ Some n → n < 16
    in_column None e = absurd (none-some n e)
    in_column (Some i) e = inside (nat_lt s l.switches) e
      where
        inside : (b : Bool) → (if b then slice_index_or l.levels (cell l.switches i s) None else None) ≡ Some n → n < 16
        inside true e = elim (cases_lt (cell l.switches i s) (length l.levels)) [
          | inl low ↦ subst (λ (o : Option ℕ). IfSome o (λ m. m < 16)) e (are.low_levels (cell l.switches i s) None low)
          | inr past ↦ absurd (none-some n (sym (get_or_past l.levels (cell l.switches i s) None past) ∙ e))
        ]
        inside false e = absurd (none-some n e)
