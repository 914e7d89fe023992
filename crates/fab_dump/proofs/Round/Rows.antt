-- Rows of up to 64 LIDs that are written one after the other.
use Rattle.std.proofs.Common.{◌≡◌, ◌≢◌, ℕ, zero, suc, ◌+◌, ◌*◌, ◌<◌, ◌≤◌, false, List, [], ◌∷◌, ◌++◌, length, map, take, drop, get_or, refl, sym, ◌∙◌, ap, subst, arith, add-one}
use Rattle.std.specs.Prelude.{All}
use Rattle.std.specs.Int.{div_ceil}
use Rattle.std.specs.List.{range_with_len}
use Rattle.std.proofs.lemmas.Grind.{div_ceil_times}
use Rattle.std.proofs.lemmas.List.{append_assoc, append-nil, map-append, get_or-take, get_or-drop, get_or_default, length-take, length-drop, take_all}
use Rattle.std.proofs.lemmas.List.FromFn.{map-range_with_len_more}
use Rattle.std.proofs.lemmas.List.Kept.{AllPairs-from_increasing}
use Rattle.std.proofs.lemmas.List.Elements.{All-map}
use lib.Seq.{take-add}
use Rattle.fab_model.specs.Topology.{Topology, lids_of}
use Rattle.fab_model.specs.WellFormed.{IsFabric}
use Rattle.fab_tables.proofs.Joined.Ascending.{lids_are}
use Rattle.fab_dump.specs.declared.fault.PlanFault.TheVariants.{TwiceRow}
use Rattle.fab_dump.specs.declared.form.Block.{Block}
use Rattle.fab_dump.specs.Given.{Given, was_given}
use Rattle.fab_dump.specs.Lines.{Form, State, adds, line_says}
use Rattle.fab_dump.specs.Writing.{numbered_row, block_rows, row_of}
use Rattle.fab_dump.proofs.Round.LinesPlaces.{row_begins}
use Rattle.fab_dump.proofs.Round.Fresh.{Apart, not_given_more}
use Rattle.fab_dump.proofs.Round.Leads.{Leads, leads_none, leads_line, leads_then, adds_new, goes_with}

module _ (t : Topology) (f : Form) (fabric : IsFabric t) (block : Block) (of : ℕ → Given) (value : ℕ → List ℕ) (given : List Given)
    (says : (n i : ℕ) (s : State) → s.open_block ≡ block → i * 64 < length (lids_of t) → line_says t f n s (numbered_row t value i) ≡ adds (TwiceRow n) s block (map of (row_of (lids_of t) i)))
    (new : (lid : ℕ) → was_given given (of lid) ≡ false) (apart : (a b : ℕ) → a ≢ b → Apart (of b) (of a)) where
  abbrev lids : List ℕ
  lids = lids_of t

  -- after so many rows
  abbrev after : ℕ → State
  after i = record { open_block = block; given = given ++ map of (take (i * 64) lids) }

  rises : (i j d e : ℕ) → i < j → j < length lids → get_or lids i d < get_or lids j e
  rises i j d e a b = omega (arith, AllPairs-from_increasing lids (lids_are t fabric).ascending i j d a b, get_or_default lids j d e b)

  -- a LID of a row comes after those of earlier rows
  module _ (i k d : ℕ) (low : k < length (row_of lids i)) where
    within : i * 64 + k < length lids
    within = omega (arith, low, length-take 64 (drop (i * 64) lids), length-drop (i * 64) lids)

    at : get_or (row_of lids i) k d ≡ get_or lids (i * 64 + k) d
    at = get_or-take 64 (drop (i * 64) lids) k d (omega (arith, low, length-take 64 (drop (i * 64) lids))) ∙ get_or-drop (i * 64) lids k d

    earlier : (j e : ℕ) → j < length (take (i * 64) lids) → get_or (take (i * 64) lids) j e ≢ get_or (row_of lids i) k d
    earlier j e h same =
        omega (arith, same, at, get_or-take (i * 64) lids j e (omega (arith, h, length-take (i * 64) lids)), rises j (i * 64 + k) e d (omega (arith, h, length-take (i * 64) lids)) within)

    row_new : was_given (given ++ map of (take (i * 64) lids)) (of (get_or (row_of lids i) k d)) ≡ false
    row_new = not_given_more given (map of (take (i * 64) lids)) (of (get_or (row_of lids i) k d)) (new (get_or (row_of lids i) k d))
        (All-map (Apart (of (get_or (row_of lids i) k d))) of (take (i * 64) lids) (λ j e h. apart (get_or (take (i * 64) lids) j e) (get_or (row_of lids i) k d) (earlier j e h)))

  rows_new : (i : ℕ) → All (λ g. was_given (given ++ map of (take (i * 64) lids)) g ≡ false) (map of (row_of lids i))
  rows_new i = All-map (λ g. was_given (given ++ map of (take (i * 64) lids)) g ≡ false) of (row_of lids i) (λ k d low. row_new i k d low)

  one_more : (i : ℕ) → (given ++ map of (take (i * 64) lids)) ++ map of (row_of lids i) ≡ given ++ map of (take ((i + 1) * 64) lids)
  one_more i =
      append_assoc given (map of (take (i * 64) lids)) (map of (row_of lids i))
      ∙ ap (λ gs. given ++ gs) (sym (map-append of (take (i * 64) lids) (row_of lids i)) ∙ ap (λ some. map of some) (sym (take-add (i * 64) 64 lids)) ∙ ap (λ m. map of (take m lids)) size)
    where
      size : i * 64 + 64 ≡ (i + 1) * 64
      size = omega arith

  row_leads : (i : ℕ) → i < div_ceil (length lids) 64 → Leads t f (after i) (numbered_row t value i ∷ []) (after (i + 1))
  row_leads i h = leads_line t f (after i) (after (i + 1)) (numbered_row t value i)
      (λ n. says n i (after i) refl (row_begins lids i h) ∙ adds_new (TwiceRow n) (after i) block (map of (row_of lids i)) (rows_new i) ∙ goes_with (after i) block (map of (row_of lids i)) (given ++ map of (take ((i + 1) * 64) lids)) (one_more i))

  rows_lead : (i : ℕ) → i ≤ div_ceil (length lids) 64 → Leads t f (after 0) (map (numbered_row t value) (range_with_len 0 i)) (after i)
  rows_lead zero h = leads_none t f (after 0)
  rows_lead (suc i) h =
      subst (λ m. Leads t f (after 0) (map (numbered_row t value) (range_with_len 0 m)) (after m)) (add-one i)
      (subst (λ ls. Leads t f (after 0) ls (after (i + 1))) (sym (map-range_with_len_more (numbered_row t value) 0 i i (omega arith)))
      (leads_then t f (after 0) (after i) (after (i + 1)) (map (numbered_row t value) (range_with_len 0 i)) (numbered_row t value i ∷ []) (rows_lead i (omega (arith, h))) (row_leads i (omega (arith, h)))))

  all_taken : take (div_ceil (length lids) 64 * 64) lids ≡ lids
  all_taken = take_all (div_ceil (length lids) 64 * 64) lids (div_ceil_times (length lids) 64 (omega arith)).0

  -- all rows of the block
  pub block_leads : Leads t f (record { open_block = block; given = given }) (block_rows t value) (record { open_block = block; given = given ++ map of lids })
  block_leads =
      subst (λ (g : List Given). Leads t f (record { open_block = block; given = g }) (block_rows t value) (record { open_block = block; given = given ++ map of lids })) (append-nil given)
      (subst (λ (some : List ℕ). Leads t f (after 0) (block_rows t value) (record { open_block = block; given = given ++ map of some })) all_taken
      (rows_lead (div_ceil (length lids) 64) (omega arith)))
