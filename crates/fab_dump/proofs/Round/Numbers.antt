-- The certificate that is written, with a row for each number, and read.
use Rattle.std.proofs.Common.{◌≡◌, ℕ, zero, suc, ◌+◌, ◌^◌, ◌<◌, ◌≤◌, Bool, true, false, List, [], ◌∷◌, ◌++◌, length, get_or, nat_eq, nat_lt, codes, refl, sym, ◌∙◌, ap, subst, arith, add-one, Some, inl, inr}
use Rattle.std.specs.Prelude.{All, ◌==◌, ◌&&◌, flat_map, slice_get, is_some, if◌then◌else◌}
use Rattle.std.specs.List.{enumerate_from, range_with_len}
use Rattle.std.proofs.lemmas.Bool.{cond_both, cases_lt, eqb-false}
use Rattle.std.proofs.lemmas.List.{append_assoc, append-nil, get_or_past}
use Rattle.std.proofs.lemmas.List.FromFn.{length-range_with_len, get_or-range_with_len}
use Rattle.std.proofs.lemmas.List.Elements.{All-nil, All-cons, All-append, All-get_or}
use Rattle.fab_model.specs.declared.rows.ChannelRow.{ChannelRow}
use Rattle.fab_model.specs.Topology.{Topology, guid_of}
use Rattle.fab_model.specs.WellFormed.{IsFabric}
use Rattle.fab_tables.specs.Entries.{cell}
use Rattle.fab_tables.specs.LaneTables.{LaneTables, number}
use Rattle.fab_tables.specs.Fit.{LanesFit}
use Rattle.fab_dump.specs.declared.fault.PlanFault.TheVariants.{TwiceBlock, TwiceRow}
use Rattle.fab_dump.specs.declared.form.Block.TheVariants.{Numbers}
use Rattle.fab_dump.specs.Given.{Given, was_given}
use Rattle.fab_dump.specs.Given.Given.{Certificate, Number}
use Rattle.fab_dump.specs.Lines.{Form, State}
use Rattle.fab_dump.specs.Writing.{number_text, number_line, number_lines}
use Rattle.fab_dump.proofs.Round.LinesPlaces.{IsLong, WaitsForNone}
use Rattle.fab_dump.proofs.Round.LinesLanes.{certificate_said, number_said}
use Rattle.fab_dump.proofs.Round.Said.{number_of, numbers_said, all_numbers}
use Rattle.fab_dump.proofs.Round.Writes.{all_flat_map, all_parts}
use Rattle.fab_dump.proofs.Round.Fresh.{Spoken, Within, further, Apart, not_given_more, new_certificate, new_number, other_number}
use Rattle.fab_dump.proofs.Round.Leads.{Leads, leads_none, leads_line, leads_then, adds_new, Went, went_then, went_rows, each_row}
use Rattle.fab_dump.proofs.Round.Maps.{maps_spoken}
use Rattle.fab_dump.proofs.Writing.Rows.{flat_map-range_more}

abbrev pub numbers_spoken : ℕ → ℕ → Spoken
numbers_spoken n c = record { tables = n; levels = n; maps = n; certificates = 1; numbers = c }

-- so far the numbers of the first channels were read
pub record HasNumbers (n c : ℕ) (s : State) : Type 0 where
  pub within : All (Within (numbers_spoken n c)) s.given
  pub block : s.open_block ≡ Numbers

module _ (t : Topology) (f : Form) (fabric : IsFabric t) (long : IsLong f.version) where
  certificate_went : is_some f.count ≡ true → (n : ℕ) (s : State) → All (Within (maps_spoken n n)) s.given → WaitsForNone s.open_block → Went t f s (codes "Certificate:" ∷ []) (Certificate ∷ []) (HasNumbers n 0)
  certificate_went some n s within waits = record {
    now = record { open_block = Numbers; given = s.given ++ Certificate ∷ [] };
    leads = leads_line t f s (record { open_block = Numbers; given = s.given ++ Certificate ∷ [] }) (codes "Certificate:")
        (λ m. certificate_said t f m s long waits some
        ∙ adds_new (TwiceBlock m) s Numbers (Certificate ∷ []) (All-cons (λ g. was_given s.given g ≡ false) Certificate [] (new_certificate (maps_spoken n n) s.given within refl) (All-nil (λ g. was_given s.given g ≡ false))));
    given = refl;
    holds = record {
      within = All-append (Within (numbers_spoken n 0)) s.given (Certificate ∷ [])
          (further (maps_spoken n n) (numbers_spoken n 0) s.given (record { tables = omega arith; levels = omega arith; maps = omega arith; certificates = omega arith; numbers = omega arith }) within)
          (All-cons (Within (numbers_spoken n 0)) Certificate [] (omega arith) (All-nil (Within (numbers_spoken n 0))));
      block = refl;
    };
  }

  module _ (l : LaneTables) (fit : LanesFit t l) (m c : ℕ) (row : ChannelRow) (s : State) (at : slice_get t.channels c ≡ Some row) (so_far : HasNumbers m c s) where
    abbrev after : ℕ → State
    after j = record { open_block = Numbers; given = s.given ++ flat_map (number_of l c) (range_with_len 0 j) }

    number_few : (on_lane : ℕ) → number l c on_lane < 2 ^ 32
    number_few on_lane = cond_both (nat_lt on_lane 15) (get_or l.numbers (cell 15 c on_lane) 0) 0 (λ n. n < 2 ^ 32)
        (λ e. elim (cases_lt (cell 15 c on_lane) (length l.numbers)) [
          | inl low ↦ All-get_or (λ n. n < 2 ^ 32) l.numbers (cell 15 c on_lane) 0 low fit.whole.low_numbers
          | inr high ↦ omega (arith, get_or_past l.numbers (cell 15 c on_lane) 0 high)
        ])
        (λ e. omega arith)

    -- what was said of other lanes of the channel
    others_apart : (j number_there : ℕ) → All (Apart (Number c j number_there)) (flat_map (number_of l c) (range_with_len 0 j))
    others_apart j there = all_flat_map (Apart (Number c j there)) (number_of l c) (range_with_len 0 j) (λ i d low. one (get_or (range_with_len 0 j) i d) (omega (arith, low, length-range_with_len 0 j, get_or-range_with_len 0 j i d (omega (arith, low, length-range_with_len 0 j)))))
      where
        apart : (other : ℕ) → other < j → Apart (Number c j there) (Number c other (number l c other))
        apart other low = go (nat_eq c c) (other_number other j true (λ e. omega (arith, e, low)))
          where
            go : (x : Bool) → (nat_eq other j && true) ≡ false → (x && (nat_eq other j && true)) ≡ false
            go true e = e
            go false e = refl

        one : (other : ℕ) → other < j → All (Apart (Number c j there)) (number_of l c other)
        one other low = cond_both (number l c other == 0) [] (Number c other (number l c other) ∷ []) (All (Apart (Number c j there)))
            (λ e. All-nil (Apart (Number c j there)))
            (λ e. All-cons (Apart (Number c j there)) (Number c other (number l c other)) [] (apart other low) (All-nil (Apart (Number c j there))))

    number_new : (j there : ℕ) → was_given (after j).given (Number c j there) ≡ false
    number_new j there = not_given_more s.given (flat_map (number_of l c) (range_with_len 0 j)) (Number c j there) (new_number (numbers_spoken m c) s.given so_far.within c j there (omega arith)) (others_apart j there)

    lane_leads : (j : ℕ) → j < 15 → Leads t f (after j) (number_line t l (c, row) j) (record { open_block = Numbers; given = (after j).given ++ number_of l c j })
    lane_leads j low = go (number l c j == 0) refl
      where
        line : List ℕ
        line = number_text (guid_of t row.tail.0) row.port j (number l c j)

        go : (none : Bool) → (number l c j == 0) ≡ none → Leads t f (after j) (if none then [] else number_text (guid_of t row.tail.0) row.port j (number l c j) ∷ []) (record { open_block = Numbers; given = (after j).given ++ (if none then [] else Number c j (number l c j) ∷ []) })
        go true e = subst (λ (g : List Given). Leads t f (after j) [] (record { open_block = Numbers; given = g })) (sym (append-nil (after j).given)) (leads_none t f (after j))
        go false e = leads_line t f (after j) (record { open_block = Numbers; given = (after j).given ++ Number c j (number l c j) ∷ [] }) (number_text (guid_of t row.tail.0) row.port j (number l c j))
            (λ n. number_said t f n (after j) c row j (number l c j) fabric long refl at low (some (eqb-false (number l c j) 0 e)) (number_few j)
            ∙ adds_new (TwiceRow n) (after j) Numbers (Number c j (number l c j) ∷ []) (All-cons (λ g. was_given (after j).given g ≡ false) (Number c j (number l c j)) [] (number_new j (number l c j)) (All-nil (λ g. was_given (after j).given g ≡ false))))
          where
            some : (number l c j ≡ 0 → ⊥) → 0 < number l c j
            some h = omega (arith, h)

    lanes_lead : (j : ℕ) → j ≤ 15 → Leads t f s (flat_map (number_line t l (c, row)) (range_with_len 0 j)) (after j)
    lanes_lead zero h =
        subst (λ (g : List Given). Leads t f s [] (record { open_block = Numbers; given = g })) (sym (append-nil s.given))
        (subst (λ b. Leads t f s [] (record { open_block = b; given = s.given })) so_far.block (leads_none t f s))
    lanes_lead (suc j) h =
        subst (λ i. Leads t f s (flat_map (number_line t l (c, row)) (range_with_len 0 i)) (after i)) (add-one j)
        (subst (λ ls. Leads t f s ls (after (j + 1))) (sym (flat_map-range_more (number_line t l (c, row)) j))
        (leads_then t f s (after j) (after (j + 1)) (flat_map (number_line t l (c, row)) (range_with_len 0 j)) (number_line t l (c, row) j) (lanes_lead j (omega (arith, h)))
        (subst (λ (g : List Given). Leads t f (after j) (number_line t l (c, row) j) (record { open_block = Numbers; given = g })) more (lane_leads j (omega (arith, h))))))
      where
        more : (s.given ++ flat_map (number_of l c) (range_with_len 0 j)) ++ number_of l c j ≡ s.given ++ flat_map (number_of l c) (range_with_len 0 (j + 1))
        more = append_assoc s.given (flat_map (number_of l c) (range_with_len 0 j)) (number_of l c j) ∙ ap (λ gs. s.given ++ gs) (sym (flat_map-range_more (number_of l c) j))

    numbers_within : All (Within (numbers_spoken m (c + 1))) (s.given ++ numbers_said l (c, row))
    numbers_within = All-append (Within (numbers_spoken m (c + 1))) s.given (numbers_said l (c, row))
        (further (numbers_spoken m c) (numbers_spoken m (c + 1)) s.given (record { tables = omega arith; levels = omega arith; maps = omega arith; certificates = omega arith; numbers = omega arith }) so_far.within)
        (all_parts (Within (numbers_spoken m (c + 1))) (number_of l c) (range_with_len 0 15) one)
      where
        one : (on_lane : ℕ) → All (Within (numbers_spoken m (c + 1))) (number_of l c on_lane)
        one on_lane = cond_both (number l c on_lane == 0) [] (Number c on_lane (number l c on_lane) ∷ []) (All (Within (numbers_spoken m (c + 1))))
            (λ e. All-nil (Within (numbers_spoken m (c + 1))))
            (λ e. All-cons (Within (numbers_spoken m (c + 1))) (Number c on_lane (number l c on_lane)) [] (omega arith) (All-nil (Within (numbers_spoken m (c + 1)))))

    channel_went : Went t f s (number_lines t l (c, row)) (numbers_said l (c, row)) (HasNumbers m (c + 1))
    channel_went = record { now = after 15; leads = lanes_lead 15 (omega arith); given = refl; holds = record { within = numbers_within; block = refl } }

  pub numbers_went : is_some f.count ≡ true → (l : LaneTables) (m : ℕ) (s : State) → LanesFit t l → All (Within (maps_spoken m m)) s.given → WaitsForNone s.open_block →
      Went t f s (codes "Certificate:" ∷ flat_map (number_lines t l) (enumerate_from 0 t.channels)) (Certificate ∷ all_numbers t l) (HasNumbers m (0 + length t.channels))
  numbers_went some l m s fit within waits = went_then t f s (codes "Certificate:" ∷ []) (flat_map (number_lines t l) (enumerate_from 0 t.channels)) (Certificate ∷ []) (all_numbers t l) (HasNumbers m 0) (HasNumbers m (0 + length t.channels))
      (certificate_went some m s within waits)
      (λ mid h. went_rows t f (number_lines t l) (numbers_said l) (λ c row. slice_get t.channels c ≡ Some row) (HasNumbers m) (λ c row now at so_far. channel_went l fit m c row now at so_far) t.channels 0 mid (each_row t.channels) h)
