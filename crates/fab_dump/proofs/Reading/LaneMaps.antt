-- Lane maps, level by level.
use Rattle.std.proofs.Common.{◌≡◌, ℕ, ◌+◌, ◌<◌, List, [], ◌∷◌, ◌++◌, length, take, get_or, sym, ◌∙◌, ap, arith}
use Rattle.std.proofs.lemmas.List.{take_more, length-take}
use Rattle.fab_tables.specs.LaneTables.{LaneTables, with_lane}
use Rattle.fab_dump.specs.Given.{with_lanes}

pub with_lanes-push : (l : LaneTables) (s level : ℕ) (lanes : List ℕ) (lane : ℕ) → with_lanes l s level (lanes ++ lane ∷ []) ≡ with_lane (with_lanes l s level lanes) s (level + length lanes) lane
with_lanes-push l s level [] lane = ap (λ n. with_lane l s n lane) (omega arith)
with_lanes-push l s level (x ∷ lanes) lane =
    with_lanes-push (with_lane l s level x) s (level + 1) lanes lane ∙ ap (λ n. with_lane (with_lanes (with_lane l s level x) s (level + 1) lanes) s n lane) (omega arith)

-- one lane more of a map
pub one_lane_more : (l : LaneTables) (s level : ℕ) (map : List ℕ) (lane : ℕ) → level < length map → lane ≡ get_or map level 0 →
    with_lane (with_lanes l s 0 (take level map)) s level lane ≡ with_lanes l s 0 (take (level + 1) map)
one_lane_more l s level map lane within is =
    let size : 0 + length (take level map) ≡ level = omega (arith, length-take level map) in
    ap (λ n. with_lane (with_lanes l s 0 (take level map)) s n lane) (sym size) ∙ sym (with_lanes-push l s 0 (take level map) lane)
    ∙ ap (λ xs. with_lanes l s 0 xs) (ap (λ x. take level map ++ x ∷ []) is ∙ sym (take_more map level 0 within))
