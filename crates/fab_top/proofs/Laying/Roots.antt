-- The switches of named roots, one after the other.
use Rattle.std.proofs.Common.{◌≡◌, ℕ, zero, suc, Bool, true, false, cond, ◌+◌, ◌<◌, ◌≤◌, List, [], ◌∷◌, ◌++◌, length, map, drop, Option, Some, None, Result, Ok, Err, refl, sym, ◌∙◌, ap, subst, arith, All, append_assoc}
use Rattle.std.specs.Prelude.{ok_or, option_map, position, nat_lt, slice_index_or, ◌==◌}
use Rattle.std.specs.List.{position_or_len}
use Rattle.std.proofs.lemmas.Bool.{ltb-true}
use Rattle.std.proofs.lemmas.List.{length_push}
use Rattle.fab_updn.proofs.CostRows.{map_push}
use Rattle.std.proofs.lemmas.List.Elements.{All-nil, All-cons, All-push}
use Rattle.std.proofs.lemmas.Option.{none-some, same_Some}
use Rattle.fab_model.specs.declared.rows.SwitchId.{SwitchId}
use Rattle.fab_model.specs.declared.rows.SwitchRow.{SwitchRow}
use Rattle.fab_model.specs.Topology.{Topology, switch_id, switch_of}
use Rattle.fab_text.specs.Readings.{◌>>=◌}
use Rattle.fab_top.specs.FaultTexts.{unknown_root_text}
use Rattle.fab_top.specs.Files.{roots_from}

position_within : {X : Type 0} (p : X → Bool) (xs : List X) (s : ℕ) → position p xs ≡ Some s → s < length xs
position_within p xs s e = by (nat_lt (position_or_len p xs) (length xs)) refl e
  where
    by : (b : Bool) → nat_lt (position_or_len p xs) (length xs) ≡ b → cond b (Some (position_or_len p xs)) None ≡ Some s → s < length xs
    by true low is = omega (arith, same_Some (position_or_len p xs) s is, ltb-true (position_or_len p xs) (length xs) low)
    by false past is = absurd (none-some s is)

-- the switch of a GUID is one of the fabric
pub switch_within : (t : Topology) (guid s : ℕ) → switch_of t guid ≡ Some s → s < length t.switches
switch_within t guid s e = position_within (λ (row : SwitchRow). row.guid == guid) t.switches s e

-- other roots in front
abbrev pub behind : List ℕ → Result (List ℕ) (List ℕ) → Result (List ℕ) (List ℕ)
behind found others = others >>= λ roots. Ok (found ++ roots)

with_first : (root : ℕ) (others : Result (List ℕ) (List ℕ)) (roots : List ℕ) → (others >>= λ rest. Ok (root ∷ rest)) ≡ Ok roots → (rest : List ℕ) × (others ≡ Ok rest) × (roots ≡ root ∷ rest)
with_first root (Ok rest) roots e = (rest, refl, cc)
with_first root (Err reason) roots e = cc

pub are_within : (index : ℕ) (t : Topology) (guids roots : List ℕ) → roots_from index t guids ≡ Ok roots → All (λ root. root < length t.switches) roots
are_within index t [] roots e = let none : [] ≡ roots = cc in subst (λ xs. All (λ root. root < length t.switches) xs) none (All-nil (λ root. root < length t.switches))
are_within index t (guid ∷ others) roots e = by (λ rest told. are_within (index + 1) t others rest told) (switch_of t guid) refl e
  where
    by : ((rest : List ℕ) → roots_from (index + 1) t others ≡ Ok rest → All (λ root. root < length t.switches) rest) → (o : Option ℕ) → switch_of t guid ≡ o →
        (ok_or o (unknown_root_text index) >>= λ root. roots_from (index + 1) t others >>= λ rest. Ok (root ∷ rest)) ≡ Ok roots → All (λ root. root < length t.switches) roots
    by within None is told = cc
    by within (Some s) is told =
        let rest : (rest : List ℕ) × (roots_from (index + 1) t others ≡ Ok rest) × (roots ≡ s ∷ rest) = with_first s (roots_from (index + 1) t others) roots told in
        subst (λ xs. All (λ root. root < length t.switches) xs) (sym rest.2)
        (All-cons (λ root. root < length t.switches) s rest.0 (switch_within t guid s is) (within rest.0 rest.1))

-- ---- the roots so far

module _ (t : Topology) (guids : List ℕ) where
  -- the first so many are known, and the others are to be looked for
  pub record RootsSoFar (count : ℕ) (roots : List SwitchId) : Type 0 where
    pub whole : length roots ≡ count
    pub within : All (λ root. root.0 < length t.switches) roots
    pub rest : roots_from 0 t guids ≡ behind (map (λ (root : SwitchId). root.0) roots) (roots_from count t (drop count guids))

  front_of_nothing : (others : Result (List ℕ) (List ℕ)) → others ≡ behind [] others
  front_of_nothing (Ok roots) = refl
  front_of_nothing (Err reason) = refl

  pub none_so_far : RootsSoFar 0 []
  none_so_far = record { whole = refl; within = All-nil (λ (root : SwitchId). root.0 < length t.switches); rest = front_of_nothing (roots_from 0 t guids) }

  dropped : (xs : List ℕ) (k x : ℕ) → k < length xs → x ≡ slice_index_or xs k x → drop k xs ≡ x ∷ drop (k + 1) xs
  dropped [] k x low at = absurd (omega (arith, low))
  dropped (y ∷ ys) zero x low at = ap (λ z. z ∷ ys) (sym at)
  dropped (y ∷ ys) (suc k) x low at = dropped ys k x (omega (arith, low)) at ∙ (let same : suc (k + 1) ≡ suc k + 1 = omega arith in ap (λ n. x ∷ drop n (y ∷ ys)) same)

  module _ (count guid : ℕ) (roots : List SwitchId) (low : count < length guids) (at : guid ≡ slice_index_or guids count guid) (before : RootsSoFar count roots) where
    next : roots_from 0 t guids ≡ behind (map (λ (root : SwitchId). root.0) roots) (ok_or (switch_of t guid) (unknown_root_text count) >>= λ root. roots_from (count + 1) t (drop (count + 1) guids) >>= λ others. Ok (root ∷ others))
    next = before.rest ∙ ap (λ (xs : List ℕ). behind (map (λ (root : SwitchId). root.0) roots) (roots_from count t xs)) (dropped guids count guid low at)

    pub unknown : None ≡ option_map switch_id (switch_of t guid) → roots_from 0 t guids ≡ Err (unknown_root_text count)
    unknown none = next ∙ by (switch_of t guid) none
      where
        by : (o : Option ℕ) → None ≡ option_map switch_id o → behind (map (λ (root : SwitchId). root.0) roots) (ok_or o (unknown_root_text count) >>= λ root. roots_from (count + 1) t (drop (count + 1) guids) >>= λ others. Ok (root ∷ others)) ≡ Err (unknown_root_text count)
        by None e = refl
        by (Some s) e = absurd (none-some (switch_id s) e)

    moved : (root : ℕ) (xs : List ℕ) (others : Result (List ℕ) (List ℕ)) → behind xs (others >>= λ rest. Ok (root ∷ rest)) ≡ behind (xs ++ root ∷ []) others
    moved root xs (Ok rest) = ap (λ (ys : List ℕ). Ok ys) (sym (append_assoc xs (root ∷ []) rest))
    moved root xs (Err reason) = refl

    pub known : (root : SwitchId) → Some root ≡ option_map switch_id (switch_of t guid) → RootsSoFar (count + 1) (roots ++ root ∷ [])
    known root found = by (switch_of t guid) refl found
      where
        by : (o : Option ℕ) → switch_of t guid ≡ o → Some root ≡ option_map switch_id o → RootsSoFar (count + 1) (roots ++ root ∷ [])
        by None is e = absurd (none-some root (sym e))
        by (Some s) is e =
            let same : root.0 ≡ s = ap (λ (r : SwitchId). r.0) (same_Some root (switch_id s) e) in
            record {
              whole = length_push roots root ∙ ap (λ n. n + 1) before.whole;
              within = All-push (λ (r : SwitchId). r.0 < length t.switches) roots root before.within (omega (arith, same, switch_within t guid s is));
              rest = next
                  ∙ ap (λ o. behind (map (λ (r : SwitchId). r.0) roots) (ok_or o (unknown_root_text count) >>= λ r. roots_from (count + 1) t (drop (count + 1) guids) >>= λ others. Ok (r ∷ others))) is
                  ∙ moved s (map (λ (r : SwitchId). r.0) roots) (roots_from (count + 1) t (drop (count + 1) guids))
                  ∙ ap (λ (xs : List ℕ). behind xs (roots_from (count + 1) t (drop (count + 1) guids))) (ap (λ r. map (λ (x : SwitchId). x.0) roots ++ r ∷ []) (sym same) ∙ sym (map_push (λ (r : SwitchId). r.0) roots root));
            }

  at_end : (xs : List ℕ) (k : ℕ) → length xs ≤ k → drop k xs ≡ []
  at_end [] zero end = refl
  at_end [] (suc k) end = refl
  at_end (x ∷ xs) zero end = absurd (omega (arith, end))
  at_end (x ∷ xs) (suc k) end = at_end xs k (omega (arith, end))

  pub all_known : (count : ℕ) (roots : List SwitchId) → length guids ≤ count → RootsSoFar count roots → roots_from 0 t guids ≡ Ok (map (λ (root : SwitchId). root.0) roots)
  all_known count roots end is =
      is.rest ∙ ap (λ (xs : List ℕ). behind (map (λ (root : SwitchId). root.0) roots) (roots_from count t xs)) (at_end guids count end) ∙ ap (λ (xs : List ℕ). Ok xs) (nothing_behind (map (λ (root : SwitchId). root.0) roots))
    where
      nothing_behind : (xs : List ℕ) → xs ++ [] ≡ xs
      nothing_behind [] = refl
      nothing_behind (x ∷ xs) = ap (λ (ys : List ℕ). x ∷ ys) (nothing_behind xs)
