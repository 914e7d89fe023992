-- The table of reasons in parts: the check, port GUIDs, routes, lanes, and whether there are lanes.
use Rattle.std.proofs.Common.{◌≡◌, refl, sym, ◌∙◌, ap, Some, None, Option, true, false}
use Rattle.std.specs.Prelude.{option_and_then, Result, Ok, Err, IfOk}
use Rattle.std.specs.declared.alloc.AllocError.{AllocError}
use Rattle.std.specs.Option.{option_or, is_some}
use Rattle.fab_model.specs.Topology.{Topology}
use Rattle.fab_tables.specs.declared.plan.Plan.{Plan}
use Rattle.fab_tables.specs.declared.verdict.Verdict.{Verdict}
use Rattle.fab_tables.specs.LaneTables.{LaneTables}
use Rattle.fab_tables.specs.Verdicts.{IsVerdict}
use Rattle.fab_export.specs.declared.part.Part.{Part}
use Rattle.fab_export.specs.declared.fault.Unfit.{Unfit}
use Rattle.fab_export.specs.Unfits.{refused, bad_port_guid, too_far, own_map, other_map, high_lane, no_level_0, no_spare, lanes_unfit, no_lanes, unfit_after, IsFirstUnfit}

or_none : {X : Type 0} (o : Option X) → option_or o None ≡ o
or_none None = refl
or_none (Some x) = refl

-- the first of five, asked one after the other
five : {X : Type 0} (a b c d e : Option X) → option_or (option_or (option_or (option_or a b) c) d) e ≡ option_or a (option_or b (option_or c (option_or d (option_or e None))))
five (Some x) b c d e = refl
five None (Some x) c d e = refl
five None None (Some x) d e = refl
five None None None (Some x) e = refl
five None None None None e = sym (or_none e)

pub first_of_five : {X : Type 0} (a b c d e a' b' c' d' e' one two three four : Option X) → a ≡ a' → b ≡ b' → c ≡ c' → d ≡ d' → e ≡ e' →
    one ≡ option_or a b → two ≡ option_or one c → three ≡ option_or two d → four ≡ option_or three e → four ≡ option_or a' (option_or b' (option_or c' (option_or d' (option_or e' None))))
first_of_five a b c d e a' b' c' d' e' one two three four is_a is_b is_c is_d is_e is_one is_two is_three is_four =
    is_four ∙ ap (λ o. option_or o e) (is_three ∙ ap (λ o. option_or o d) (is_two ∙ ap (λ o. option_or o c) is_one))
    ∙ ap (λ o. option_or (option_or (option_or (option_or o b) c) d) e) is_a
    ∙ ap (λ o. option_or (option_or (option_or (option_or a' o) c) d) e) is_b
    ∙ ap (λ o. option_or (option_or (option_or (option_or a' b') o) d) e) is_c
    ∙ ap (λ o. option_or (option_or (option_or (option_or a' b') c') o) e) is_d
    ∙ ap (λ o. option_or (option_or (option_or (option_or a' b') c') d') o) is_e
    ∙ five a' b' c' d' e'

-- five and one behind them
five_and : {X : Type 0} (a b c d e rest : Option X) → option_or a (option_or b (option_or c (option_or d (option_or e (option_or rest None))))) ≡ option_or (option_or a (option_or b (option_or c (option_or d (option_or e None))))) rest
five_and (Some x) b c d e rest = refl
five_and None (Some x) c d e rest = refl
five_and None None (Some x) d e rest = refl
five_and None None None (Some x) e rest = refl
five_and None None None None (Some x) rest = refl
five_and None None None None None rest = or_none rest

-- of a plan that the check lets through
abbrev pub unfit_behind : Topology → Plan → Part → Option Unfit
unfit_behind t p of_part = option_or (too_far t p.tables) (option_or (option_and_then (lanes_unfit t p.tables) p.lanes) (no_lanes of_part p.lanes))

lane_rows : (t : Topology) (p : Plan) (of_part : Part) (lanes : Option LaneTables) →
    option_or (option_and_then own_map lanes) (option_or (option_and_then (other_map t) lanes) (option_or (option_and_then (high_lane t p.tables) lanes) (option_or (option_and_then (no_level_0 t p.tables) lanes)
    (option_or (option_and_then (no_spare t p.tables) lanes) (option_or (no_lanes of_part lanes) None)))))
    ≡ option_or (option_and_then (lanes_unfit t p.tables) lanes) (no_lanes of_part lanes)
lane_rows t p of_part None = or_none (no_lanes of_part None)
lane_rows t p of_part (Some l) = five_and (own_map l) (other_map t l) (high_lane t p.tables l) (no_level_0 t p.tables l) (no_spare t p.tables l) (no_lanes of_part (Some l))

pub unfit_of_good : (t : Topology) (p : Plan) (of_part : Part) (v : Verdict) → refused v ≡ None → unfit_after v t p of_part ≡ option_or (bad_port_guid t) (unfit_behind t p of_part)
unfolding unfit_after
unfit_of_good t p of_part v good =
    ap (λ o. option_or o (option_or (bad_port_guid t) (option_or (too_far t p.tables) (option_or (option_and_then own_map p.lanes) (option_or (option_and_then (other_map t) p.lanes) (option_or (option_and_then (high_lane t p.tables) p.lanes)
    (option_or (option_and_then (no_level_0 t p.tables) p.lanes) (option_or (option_and_then (no_spare t p.tables) p.lanes) (option_or (no_lanes of_part p.lanes) None))))))))) good
    ∙ ap (λ o. option_or (bad_port_guid t) (option_or (too_far t p.tables) o)) (lane_rows t p of_part p.lanes)

pub unfit_of_refused : (t : Topology) (p : Plan) (of_part : Part) (v : Verdict) (reason : Unfit) → Some reason ≡ refused v → Some reason ≡ unfit_after v t p of_part
unfolding unfit_after
unfit_of_refused t p of_part v reason is =
    ap (λ o. option_or o (option_or (bad_port_guid t) (option_or (too_far t p.tables) (option_or (option_and_then own_map p.lanes) (option_or (option_and_then (other_map t) p.lanes) (option_or (option_and_then (high_lane t p.tables) p.lanes)
    (option_or (option_and_then (no_level_0 t p.tables) p.lanes) (option_or (option_and_then (no_spare t p.tables) p.lanes) (option_or (no_lanes of_part p.lanes) None))))))))) is

three : {X : Type 0} (a b c : Option X) → option_or (option_or a b) c ≡ option_or a (option_or b c)
three None b c = refl
three (Some x) b c = refl

-- the first is there
pub first_there : {X : Type 0} (first rest : Option X) → is_some first ≡ true → first ≡ option_or first rest
first_there None rest is = absurd (cc)
first_there (Some x) rest is = refl

-- it isn't, so the rest is asked: three, one after the other
pub rest_asked : {X : Type 0} (first first' a b c a' b' c' one two : Option X) → first ≡ first' → is_some first ≡ false → a ≡ a' → b ≡ b' → c ≡ c' → one ≡ option_or a b → two ≡ option_or one c →
    two ≡ option_or first' (option_or a' (option_or b' c'))
rest_asked (Some x) first' a b c a' b' c' one two is_first off is_a is_b is_c is_one is_two = absurd (cc)
rest_asked None first' a b c a' b' c' one two is_first off is_a is_b is_c is_one is_two =
    is_two ∙ ap (λ o. option_or o c) is_one ∙ three a b c ∙ ap (λ o. option_or o (option_or b c)) is_a ∙ ap (λ o. option_or a' (option_or o c)) is_b ∙ ap (λ o. option_or a' (option_or b' o)) is_c
    ∙ ap (λ o. option_or o (option_or a' (option_or b' c'))) is_first

-- what is found behind a verdict is the first reason
pub first_behind : (t : Topology) (p : Plan) (of_part : Part) (v : Verdict) (result : Result (Option Unfit) AllocError) → IsVerdict t p.tables p.lanes v →
    IfOk result (λ found. found ≡ unfit_after v t p of_part) → IfOk result (IsFirstUnfit t p of_part)
first_behind t p of_part v (Ok found) is same = (v, is, same)
first_behind t p of_part v (Err lack) is same = tt
