-- Rows of lane maps and of the certificate, read in their blocks.
use Rattle.std.proofs.Common.{◌≡◌, ℕ, ◌<◌, Bool, true, false, [], ◌∷◌, length, Some, None, Option, IfSome, not, nat_lt, refl, sym, ◌∙◌, ap, subst, arith, inl, inr, ◌≤◌}
use Rattle.std.specs.Prelude.{is_some, if◌then◌else◌, ◌==◌, count_by}
use Rattle.std.specs.List.{list_any}
use Rattle.std.proofs.lemmas.Bool.{cases_lt, ne_eqb, eq-eqb, lt-ltb, le-ltb, false≢true, false_from_ne_true, cases_Bool}
use Rattle.fab_model.specs.declared.rows.SwitchId.{SwitchId}
use Rattle.fab_model.specs.Topology.{Topology, switch_id}
use Rattle.fab_tables.specs.declared.plan.Plan.{Plan}
use Rattle.fab_tables.specs.declared.lanes.PairRow.{PairRow}
use Rattle.fab_tables.specs.LaneTables.{LaneTables, number, pair_key, with_pair_row, HasRoomFor}
use Rattle.fab_tables.specs.Fit.{LanesFit}
use Rattle.fab_dump.specs.declared.fault.PlanFault.TheVariants.{TwiceRow, TooManyPairs}
use Rattle.fab_dump.specs.declared.form.Block.{Block}
use Rattle.fab_dump.specs.declared.form.Block.TheVariants.{Nothing, Pairs, Numbers}
use Rattle.fab_dump.specs.declared.reader.PlanReader.{PlanReader}
use Rattle.fab_dump.specs.Given.{was_given}
use Rattle.fab_dump.specs.Given.Given.{PairMap, Number}
use Rattle.fab_dump.specs.Lines.{Form, State, is_pair_map, adds_pair, goes, after_map_row, has_pairs}
use Rattle.fab_dump.specs.Lines.Next.{Fails}
use Rattle.fab_dump.specs.Orderly.{IsOrderly, LanesTell, MayBeOpen}
use Rattle.fab_dump.specs.Standing.{Stands, LanesAreOver}
use Rattle.fab_dump.proofs.Reading.AfterHeads.{has_lanes}
use Rattle.fab_dump.proofs.Reading.PairSteps.{pair_there, pair_new}

pub block_after_map : (f : Form) (switch : SwitchId) (pairs : Bool) (block : Block) → pairs ≡ has_pairs f.version → block ≡ (if pairs then Pairs switch else Nothing) → block ≡ after_map_row f switch.0
block_after_map f switch pairs block e is = is ∙ ap (λ b. if b then Pairs switch else Nothing) e

not_not : (b : Bool) → not (not b) ≡ b
not_not true = refl
not_not false = refl

module _ (f : Form) (s : State) (r : PlanReader) (stands : Stands r.fabric.now f s r) (orderly : IsOrderly r.fabric.now f s) where
  abbrev t : Topology
  t = r.fabric.now

  told : IfSome r.plan.lanes (LanesTell s.given)
  told = subst (λ (p : Plan). IfSome p.lanes (LanesTell s.given)) (sym stands.plan) orderly.told

  fits : IfSome r.plan.lanes (LanesFit t)
  fits = subst (λ (p : Plan). IfSome p.lanes (LanesFit t)) (sym stands.plan) orderly.plan.lanes

  open_block : (b : Block) → r.block ≡ b → MayBeOpen t f.count b
  open_block b e = subst (λ (x : Block). MayBeOpen t f.count x) (sym stands.block ∙ e) orderly.block

  lanes_there : is_some f.count ≡ true → is_some r.plan.lanes ≡ true
  lanes_there h = has_lanes t f.count s.given r.plan stands.plan ∙ h

  the_lanes : (o : Option LaneTables) → is_some o ≡ true → (l : LaneTables) × (o ≡ Some l)
  the_lanes None h = absurd (false≢true h)
  the_lanes (Some l) h = (l, refl)

  number_in : (o : Option LaneTables) (channel lane : ℕ) (mark : Bool) → is_some o ≡ true → IfSome o (LanesTell s.given) → IfSome o (LanesAreOver t) → channel < length t.channels → lane < 15 →
      IfSome o (λ l. mark ≡ not (number l channel lane == 0)) → mark ≡ was_given s.given (Number channel lane 0)
  number_in None channel lane mark some tell over low lane_low is = absurd (false≢true some)
  number_in (Some l) channel lane mark some tell over low lane_low is =
      is ∙ ap not (tell.numbers channel lane (omega (arith, low, over.channels)) lane_low) ∙ not_not (was_given s.given (Number channel lane 0))

  pub number_mark : (channel lane : ℕ) (mark : Bool) → r.block ≡ Numbers → channel < length t.channels → lane < 15 → IfSome r.plan.lanes (λ l. mark ≡ not (number l channel lane == 0)) →
      mark ≡ was_given s.given (Number channel lane 0)
  number_mark channel lane mark block low lane_low is = number_in r.plan.lanes channel lane mark (lanes_there (open_block Numbers block)) told stands.fits.plan.lanes low lane_low is

  module _ (switch : SwitchId) (n : ℕ) (row : PairRow) (block : r.block ≡ Pairs switch) where
    -- the lanes, and what they tell of the pair
    record Found : Type 0 where
      lanes : LaneTables
      is : r.plan.lanes ≡ Some lanes
      tells : LanesTell s.given lanes
      fit : LanesFit t lanes

    found : Found
    found =
        let l = the_lanes r.plan.lanes (lanes_there (open_block (Pairs switch) block).0) in
        record {
          lanes = l.0;
          is = l.1;
          tells = subst (λ (o : Option LaneTables). IfSome o (LanesTell s.given)) l.1 told;
          fit = subst (λ (o : Option LaneTables). IfSome o (LanesFit t)) l.1 fits;
        }

    twice : (b : Bool) → was_given s.given (PairMap row) ≡ b → adds_pair n s switch.0 (Some row)
        ≡ (if b then Fails (TwiceRow n) else if count_by is_pair_map s.given == 65536 then Fails (TooManyPairs n) else goes s (Pairs (switch_id switch.0)) (PairMap row ∷ []))
    twice b e = ap (λ v. if v then Fails (TwiceRow n) else if count_by is_pair_map s.given == 65536 then Fails (TooManyPairs n) else goes s (Pairs (switch_id switch.0)) (PairMap row ∷ [])) e

    apart_if : (l : Found) → nat_lt (length l.lanes.pairs) (length (with_pair_row l.lanes.pairs row)) ≡ true → list_any (λ p. pair_key p == pair_key row) l.lanes.pairs ≡ false
    apart_if l h = elim (cases_Bool (list_any (λ p. pair_key p == pair_key row) l.lanes.pairs)) [
      | inl there ↦
          absurd (false≢true (sym (le-ltb (length l.lanes.pairs) (length (with_pair_row l.lanes.pairs row)) (omega (arith, pair_there l.lanes.pairs l.fit.whole.in_order row there))) ∙ h))
      | inr apart ↦ apart
    ]

    there_if : (l : Found) → nat_lt (length l.lanes.pairs) (length (with_pair_row l.lanes.pairs row)) ≡ false → list_any (λ p. pair_key p == pair_key row) l.lanes.pairs ≡ true
    there_if l h = elim (cases_Bool (list_any (λ p. pair_key p == pair_key row) l.lanes.pairs)) [
      | inl there ↦ there
      | inr apart ↦
          absurd (false≢true (sym h ∙ lt-ltb (length l.lanes.pairs) (length (with_pair_row l.lanes.pairs row)) (omega (arith, pair_new l.lanes.pairs l.fit.whole.in_order row apart))))
    ]

    room_left : (l : Found) → list_any (λ p. pair_key p == pair_key row) l.lanes.pairs ≡ false → HasRoomFor l.lanes row → length l.lanes.pairs < 65536
    room_left l apart (inl there) = absurd (false≢true (sym apart ∙ there))
    room_left l apart (inr few) = few

    pub pair_goes : (fresh : Bool) → fresh ≡ true → ((l : LaneTables) → r.plan.lanes ≡ Some l → fresh ≡ nat_lt (length l.pairs) (length (with_pair_row l.pairs row))) → IfSome r.plan.lanes (λ l. HasRoomFor l row) →
        adds_pair n s switch.0 (Some row) ≡ goes s (Pairs (switch_id switch.0)) (PairMap row ∷ [])
    pair_goes fresh e is room =
        let l : Found = found in
        let apart = apart_if l (sym (is l.lanes l.is) ∙ e) in
        let few : length l.lanes.pairs < 65536 = room_left l apart (subst (λ (o : Option LaneTables). IfSome o (λ k. HasRoomFor k row)) l.is room) in
        twice false (sym (l.tells.pairs row) ∙ apart)
        ∙ ap (λ v. if v then Fails (TooManyPairs n) else goes s (Pairs (switch_id switch.0)) (PairMap row ∷ [])) (ne_eqb (count_by is_pair_map s.given) 65536 (λ x. omega (arith, x, l.tells.pair_count, few)))

    pub pair_twice : (fresh : Bool) → fresh ≡ false → ((l : LaneTables) → r.plan.lanes ≡ Some l → fresh ≡ nat_lt (length l.pairs) (length (with_pair_row l.pairs row))) →
        adds_pair n s switch.0 (Some row) ≡ Fails (TwiceRow n)
    pair_twice fresh e is =
        let l : Found = found in
        twice true (sym (l.tells.pairs row) ∙ there_if l (sym (is l.lanes l.is) ∙ e))

    pub pair_too_many : IfSome r.plan.lanes (λ l. HasRoomFor l row → ⊥) → adds_pair n s switch.0 (Some row) ≡ Fails (TooManyPairs n)
    pair_too_many full =
        let l : Found = found in
        let none = subst (λ (o : Option LaneTables). IfSome o (λ k. HasRoomFor k row → ⊥)) l.is full in
        let apart : list_any (λ p. pair_key p == pair_key row) l.lanes.pairs ≡ false = false_from_ne_true _ (λ there. none (inl there)) in
        let many : 65536 ≤ length l.lanes.pairs
        = elim (cases_lt (length l.lanes.pairs) 65536) [ inl few ↦ absurd (none (inr few)) | inr h ↦ h ] in
        twice false (sym (l.tells.pairs row) ∙ apart)
        ∙ ap (λ v. if v then Fails (TooManyPairs n) else goes s (Pairs (switch_id switch.0)) (PairMap row ∷ [])) (eq-eqb (count_by is_pair_map s.given) 65536 (omega (arith, l.tells.pair_count, l.fit.whole.few_pairs, many)))
