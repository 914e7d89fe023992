-- Lane maps that are written, each with the rows of its pairs, and read.
use Rattle.std.proofs.Common.{◌≡◌, ℕ, ◌+◌, ◌≤◌, true, false, List, [], ◌∷◌, ◌++◌, length, map, get_or, nat_lt, refl, sym, ◌∙◌, ap, subst, arith, Some}
use Rattle.std.specs.Prelude.{All, AllPairs, ◌==◌, filter, flat_map, slice_get, is_some, count_by, if◌then◌else◌}
use Rattle.std.specs.List.{enumerate_from}
use Rattle.std.proofs.lemmas.Bool.{cond_both, ne_eqb, eqb-true}
use Rattle.std.proofs.lemmas.List.{append_assoc, append-nil, length-append}
use Rattle.std.proofs.lemmas.List.Elements.{All-nil, All-cons, All-head, All-tail, All-append, All-map, All-filter, filter_passes, All-weaker}
use Rattle.std.proofs.lemmas.List.Kept.{AllPairs-filter}
use Rattle.std.proofs.lemmas.List.Sums.{length-filter, count_by-le-length}
use Rattle.fab_model.specs.declared.rows.SwitchRow.{SwitchRow}
use Rattle.fab_model.specs.Topology.{Topology, switch_id}
use Rattle.fab_model.specs.WellFormed.{IsFabric}
use Rattle.fab_tables.specs.declared.lanes.PairRow.{PairRow}
use Rattle.fab_tables.specs.LaneTables.{LaneTables, IsPairRow, pair_key}
use Rattle.fab_tables.specs.Fit.{LanesFit, PairFits}
use Rattle.fab_dump.specs.declared.fault.PlanFault.TheVariants.{TwiceBlock, TwiceRow, TooManyPairs}
use Rattle.fab_dump.specs.declared.form.Version.{Version}
use Rattle.fab_dump.specs.declared.form.Version.TheVariants.{Two, Three}
use Rattle.fab_dump.specs.declared.form.Block.{Block}
use Rattle.fab_dump.specs.declared.form.Block.TheVariants.{Nothing, MapRow, Pairs}
use Rattle.fab_dump.specs.Given.{Given, was_given}
use Rattle.fab_dump.specs.Given.Given.{MapBlock, Map, PairMap}
use Rattle.fab_dump.specs.Lines.{Form, State, adds_pair, goes, after_map_row, has_pairs, is_pair_map, map_head}
use Rattle.fab_dump.specs.Lines.Next.{Goes, Fails}
use Rattle.fab_dump.specs.Writing.{guid_head_text, map_block, lanes_text, general_map, pair_text, pair_rows, is_of_switch}
use Rattle.fab_dump.proofs.Reading.Marks.{not_of}
use Rattle.fab_dump.proofs.Round.Lines.{version_written}
use Rattle.fab_dump.proofs.Round.LinesPlaces.{IsLong, WaitsForNone}
use Rattle.fab_dump.proofs.Round.LinesLanes.{map_head_said, map_row_said, pair_said}
use Rattle.fab_dump.proofs.Round.Said.{map_block_said, all_maps}
use Rattle.fab_dump.proofs.Round.Fresh.{Spoken, Within, further, new_map, new_pair, count-append, pairs_counted, other_number}
use Rattle.fab_dump.proofs.Round.Pairs.{of_earlier, of_one_more, KeyBefore, pairs_tail, head_before, keys_are_rising, switches_are_rising}
use Rattle.fab_dump.proofs.Round.Leads.{Leads, leads_none, leads_line, leads_then, adds_new, Went, went_rows, each_row}

abbrev pub maps_spoken : ℕ → ℕ → Spoken
maps_spoken n k = record { tables = n; levels = n; maps = k; certificates = 0; numbers = 0 }

-- so far the lane maps of the first switches were read
pub record HasMaps (l : LaneTables) (n k : ℕ) (s : State) : Type 0 where
  pub within : All (Within (maps_spoken n k)) s.given
  pub waits : WaitsForNone s.open_block
  pub count : count_by is_pair_map s.given ≡ length (of_earlier l.pairs k)

-- the rows of pairs of a switch that can follow what was said
pub record CanFollow (t : Topology) (k : ℕ) (given : List Given) (pairs : List PairRow) : Type 0 where
  pub switch : All (λ (p : PairRow). p.switch.0 ≡ k) pairs
  pub fit : All (PairFits t) pairs
  pub are : All (IsPairRow (length t.switches)) pairs
  pub rising : AllPairs KeyBefore pairs
  pub new : All (λ (p : PairRow). was_given given (PairMap p) ≡ false) pairs
  pub room : count_by is_pair_map given + length pairs ≤ 65536

module _ (t : Topology) (f : Form) (long : IsLong f.version) (k : ℕ) where
  abbrev in_pairs : List Given → State
  in_pairs given = record { open_block = Pairs (switch_id k); given = given }

  -- one row
  pair_added : (given : List Given) (p : PairRow) (pairs : List PairRow) → CanFollow t k given (p ∷ pairs) → (n : ℕ) → adds_pair n (in_pairs given) k (Some p) ≡ Goes (in_pairs (given ++ PairMap p ∷ []))
  pair_added given p pairs h n =
      ap (λ b. if b then Fails (TwiceRow n) else if count_by is_pair_map given == 65536 then Fails (TooManyPairs n) else goes (in_pairs given) (Pairs (switch_id k)) (PairMap p ∷ [])) (All-head (λ (q : PairRow). was_given given (PairMap q) ≡ false) p pairs h.new)
      ∙ ap (λ b. if b then Fails (TooManyPairs n) else goes (in_pairs given) (Pairs (switch_id k)) (PairMap p ∷ [])) (ne_eqb (count_by is_pair_map given) 65536 (λ e. omega (arith, e, h.room)))

  follow_on : (given : List Given) (p : PairRow) (pairs : List PairRow) → CanFollow t k given (p ∷ pairs) → CanFollow t k (given ++ PairMap p ∷ []) pairs
  follow_on given p pairs h = record {
    switch = All-tail (λ (q : PairRow). q.switch.0 ≡ k) p pairs h.switch;
    fit = All-tail (PairFits t) p pairs h.fit;
    are = All-tail (IsPairRow (length t.switches)) p pairs h.are;
    rising = pairs_tail KeyBefore p pairs h.rising;
    new = λ i d low.
        not_of given (PairMap p) (PairMap (get_or pairs i d)) (other_number (pair_key p) (pair_key (get_or pairs i d)) true (λ e. omega (arith, e, head_before p pairs h.rising i d low)))
        ∙ All-tail (λ (q : PairRow). was_given given (PairMap q) ≡ false) p pairs h.new i d low;
    room = omega (arith, h.room, count-append given (PairMap p ∷ []));
  }

  pairs_lead : (pairs : List PairRow) (given : List Given) → CanFollow t k given pairs → Leads t f (in_pairs given) (map pair_text pairs) (in_pairs (given ++ map PairMap pairs))
  pairs_lead [] given h = subst (λ (g : List Given). Leads t f (in_pairs given) [] (in_pairs g)) (sym (append-nil given)) (leads_none t f (in_pairs given))
  pairs_lead (p ∷ pairs) given h =
      subst (λ (g : List Given). Leads t f (in_pairs given) (pair_text p ∷ map pair_text pairs) (in_pairs g)) (append_assoc given (PairMap p ∷ []) (map PairMap pairs))
      (leads_then t f (in_pairs given) (in_pairs (given ++ PairMap p ∷ [])) (in_pairs ((given ++ PairMap p ∷ []) ++ map PairMap pairs)) (pair_text p ∷ []) (map pair_text pairs)
      (leads_line t f (in_pairs given) (in_pairs (given ++ PairMap p ∷ [])) (pair_text p)
      (λ n. pair_said t f n (in_pairs given) k p long refl (All-head (λ (q : PairRow). q.switch.0 ≡ k) p pairs h.switch) (All-head (PairFits t) p pairs h.fit) (All-head (IsPairRow (length t.switches)) p pairs h.are) ∙ pair_added given p pairs h n))
      (pairs_lead pairs (given ++ PairMap p ∷ []) (follow_on given p pairs h)))

-- a plan of which some pair has a map is of version 3
pairs_stay_open : (l : LaneTables) (p : PairRow) (pairs : List PairRow) → l.pairs ≡ p ∷ pairs → has_pairs (version_written (Some l)) ≡ true
pairs_stay_open l p pairs e = ap (λ b. has_pairs (if b then Two else Three)) (ne_eqb (length l.pairs) 0 (λ none. omega (arith, none, ap length e)))

module _ (t : Topology) (f : Form) (fabric : IsFabric t) (long : IsLong f.version) (some : is_some f.count ≡ true) (l : LaneTables) (fit : LanesFit t l) (version : f.version ≡ version_written (Some l))
    (k : ℕ) (row : SwitchRow) (s : State) (at : slice_get t.switches k ≡ Some row) (so_far : HasMaps l (length t.switches) k s) where
  abbrev pairs : List PairRow
  pairs = filter (is_of_switch k) l.pairs

  abbrev head : State
  head = record { open_block = MapRow (switch_id k); given = s.given ++ MapBlock k ∷ [] }

  abbrev until_row : List Given
  until_row = (s.given ++ MapBlock k ∷ []) ++ Map k (general_map l k) ∷ []

  abbrev map_read : State
  map_read = record { open_block = after_map_row f k; given = until_row }

  head_leads : Leads t f s (guid_head_text map_head row.guid ∷ []) head
  head_leads = leads_line t f s head (guid_head_text map_head row.guid)
      (λ n. map_head_said t f n s k row fabric long so_far.waits some at
      ∙ adds_new (TwiceBlock n) s (MapRow (switch_id k)) (MapBlock k ∷ []) (All-cons (λ g. was_given s.given g ≡ false) (MapBlock k) [] (new_map (maps_spoken (length t.switches) k) s.given so_far.within k (omega arith)) (All-nil (λ g. was_given s.given g ≡ false))))

  row_leads : Leads t f head (lanes_text (general_map l k) ∷ []) map_read
  row_leads = leads_line t f head map_read (lanes_text (general_map l k)) (λ n. map_row_said t f n head l k long refl fit)

  both_lead : Leads t f s (guid_head_text map_head row.guid ∷ lanes_text (general_map l k) ∷ []) map_read
  both_lead = leads_then t f s head map_read (guid_head_text map_head row.guid ∷ []) (lanes_text (general_map l k) ∷ []) head_leads row_leads

  waits_after : WaitsForNone (after_map_row f k)
  waits_after = cond_both (has_pairs f.version) (Pairs (switch_id k)) Nothing WaitsForNone (λ e. tt) (λ e. tt)

  -- the pairs of this switch
  of_it : All (λ (p : PairRow). p.switch.0 ≡ k) pairs
  of_it = All-weaker (λ (p : PairRow). is_of_switch k p ≡ true) (λ (p : PairRow). p.switch.0 ≡ k) (λ p e. eqb-true p.switch.0 k e) pairs (filter_passes (is_of_switch k) l.pairs)

  are_rows : All (IsPairRow (length t.switches)) pairs
  are_rows = subst (λ (n : ℕ). All (IsPairRow n) pairs) fit.switches (All-filter (is_of_switch k) (IsPairRow l.switches) l.pairs fit.whole.pairs)

  counted : length (of_earlier l.pairs (k + 1)) ≡ length (of_earlier l.pairs k) + length pairs
  counted = ap (λ (ps : List PairRow). length ps) (of_one_more k l.pairs (switches_are_rising l.switches l.pairs fit.whole.in_order fit.whole.pairs)) ∙ length-append (of_earlier l.pairs k) pairs

  few : length (of_earlier l.pairs (k + 1)) ≤ 65536
  few = omega (arith, length-filter (λ (p : PairRow). nat_lt p.switch.0 (k + 1)) l.pairs, count_by-le-length (λ (p : PairRow). nat_lt p.switch.0 (k + 1)) l.pairs, fit.whole.few_pairs)

  can_follow : CanFollow t k until_row pairs
  can_follow = record {
    switch = of_it;
    fit = All-filter (is_of_switch k) (PairFits t) l.pairs fit.pairs;
    are = are_rows;
    rising = AllPairs-filter KeyBefore (is_of_switch k) l.pairs (keys_are_rising l.pairs fit.whole.in_order);
    new = λ i d low. new_one (get_or pairs i d) (of_it i d low);
    room = omega (arith, so_far.count, count-append s.given (MapBlock k ∷ []), count-append (s.given ++ MapBlock k ∷ []) (Map k (general_map l k) ∷ []), counted, few);
  }
    where
      new_one : (p : PairRow) → p.switch.0 ≡ k → was_given until_row (PairMap p) ≡ false
      new_one p of =
          not_of (s.given ++ MapBlock k ∷ []) (Map k (general_map l k)) (PairMap p) refl ∙ not_of s.given (MapBlock k) (PairMap p) refl
          ∙ new_pair (maps_spoken (length t.switches) k) s.given so_far.within p (omega (arith, of))

  -- where the rows of the pairs lead
  pairs_open : (some_pair : PairRow) (others : List PairRow) → l.pairs ≡ some_pair ∷ others → after_map_row f k ≡ Pairs (switch_id k)
  pairs_open p others e = ap (λ (v : Version). if has_pairs v then Pairs (switch_id k) else Nothing) version ∙ ap (λ b. if b then Pairs (switch_id k) else Nothing) (pairs_stay_open l p others e)

  rows_lead_at : (all : List PairRow) → l.pairs ≡ all → Leads t f map_read (map pair_text (filter (is_of_switch k) all)) (record { open_block = after_map_row f k; given = until_row ++ map PairMap (filter (is_of_switch k) all) })
  rows_lead_at [] e = subst (λ (g : List Given). Leads t f map_read [] (record { open_block = after_map_row f k; given = g })) (sym (append-nil until_row)) (leads_none t f map_read)
  rows_lead_at (p ∷ others) e =
      subst (λ (b : Block). Leads t f (record { open_block = b; given = until_row }) (map pair_text (filter (is_of_switch k) (p ∷ others))) (record { open_block = b; given = until_row ++ map PairMap (filter (is_of_switch k) (p ∷ others)) }))
      (sym (pairs_open p others e))
      (pairs_lead t f long k (filter (is_of_switch k) (p ∷ others)) until_row (subst (λ (ps : List PairRow). CanFollow t k until_row (filter (is_of_switch k) ps)) e can_follow))

  block_said : until_row ++ map PairMap pairs ≡ s.given ++ map_block_said l (k, row)
  block_said =
      append_assoc (s.given ++ MapBlock k ∷ []) (Map k (general_map l k) ∷ []) (map PairMap pairs)
      ∙ append_assoc s.given (MapBlock k ∷ []) (Map k (general_map l k) ∷ map PairMap pairs)

  maps_within : All (Within (maps_spoken (length t.switches) (k + 1))) (s.given ++ map_block_said l (k, row))
  maps_within =
      let far : Spoken = maps_spoken (length t.switches) (k + 1) in
      All-append (Within far) s.given (map_block_said l (k, row))
      (further (maps_spoken (length t.switches) k) far s.given (record { tables = omega arith; levels = omega arith; maps = omega arith; certificates = omega arith; numbers = omega arith }) so_far.within)
      (All-cons (Within far) (MapBlock k) (Map k (general_map l k) ∷ map PairMap pairs) (omega arith)
      (All-cons (Within far) (Map k (general_map l k)) (map PairMap pairs) tt
      (All-map (Within far) PairMap pairs (λ i d low. omega (arith, of_it i d low, (are_rows i d low).from_port, (are_rows i d low).to_port)))))

  maps_counted : count_by is_pair_map (s.given ++ map_block_said l (k, row)) ≡ length (of_earlier l.pairs (k + 1))
  maps_counted = omega (
    arith,
    ap (λ (g : List Given). count_by is_pair_map g) block_said,
    count-append until_row (map PairMap pairs),
    count-append (s.given ++ MapBlock k ∷ []) (Map k (general_map l k) ∷ []),
    count-append s.given (MapBlock k ∷ []),
    pairs_counted pairs,
    so_far.count,
    counted,
  )

  map_went : Went t f s (map_block l (k, row)) (map_block_said l (k, row)) (HasMaps l (length t.switches) (k + 1))
  map_went = record {
    now = record { open_block = after_map_row f k; given = s.given ++ map_block_said l (k, row) };
    leads = subst (λ (g : List Given). Leads t f s (map_block l (k, row)) (record { open_block = after_map_row f k; given = g })) block_said
        (leads_then t f s map_read (record { open_block = after_map_row f k; given = until_row ++ map PairMap pairs }) (guid_head_text map_head row.guid ∷ lanes_text (general_map l k) ∷ []) (pair_rows l.pairs k) both_lead (rows_lead_at l.pairs refl));
    given = refl;
    holds = record { within = maps_within; waits = waits_after; count = maps_counted };
  }

pub maps_went : (t : Topology) (f : Form) → IsFabric t → IsLong f.version → is_some f.count ≡ true → (l : LaneTables) → LanesFit t l → f.version ≡ version_written (Some l) → (s : State) → HasMaps l (length t.switches) 0 s →
    Went t f s (flat_map (map_block l) (enumerate_from 0 t.switches)) (all_maps t l) (HasMaps l (length t.switches) (0 + length t.switches))
maps_went t f fabric long some l fit version s h = went_rows t f (map_block l) (map_block_said l) (λ k row. slice_get t.switches k ≡ Some row) (HasMaps l (length t.switches))
    (λ k row now at so_far. map_went t f fabric long some l fit version k row now at so_far) t.switches 0 s (each_row t.switches) h
