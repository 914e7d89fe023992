-- The channels of a switch stand one after the other, so the cables between its first and its last are all of them.
use Rattle.std.proofs.Common.{◌≡◌, ◌≢◌, ℕ, zero, suc, ◌+◌, ◌<◌, ◌≤◌, Bool, true, false, List, [], ◌∷◌, ◌++◌, length, map, take, get_or, cond, refl, sym, ◌∙◌, ap, arith}
use Rattle.std.specs.Prelude.{filter, ◌==◌}
use Rattle.std.proofs.lemmas.Bool.{eq-eqb, ne_eqb}
use Rattle.std.proofs.lemmas.List.{map-append}
use Rattle.std.proofs.lemmas.List.Elements.{filter_more}
use Rattle.fab_model.specs.declared.rows.Cable.{Cable}
use Rattle.fab_model.specs.declared.rows.ChannelRow.{ChannelRow}
use Rattle.fab_model.specs.Topology.{Topology, first_channel}
use Rattle.fab_model.specs.WellFormed.{IsWellFormed}
use Rattle.fab_tables.proofs.Joined.Leaving.{leaves_from, stands_between}
use Rattle.fab_sweep.specs.Failures.{cable_of}

-- none of the first passes the test
none_in_front : {X : Type 0} (p : X → Bool) (xs : List X) (n : ℕ) → ((k : ℕ) (d : X) → k < n → k < length xs → p (get_or xs k d) ≡ false) → filter p (take n xs) ≡ []
none_in_front p [] zero none = refl
none_in_front p [] (suc n) none = refl
none_in_front p (x ∷ xs) zero none = refl
none_in_front p (x ∷ xs) (suc n) none =
    ap (λ b. cond b (x ∷ filter p (take n xs)) (filter p (take n xs))) (none zero x (omega arith) (omega arith)) ∙ none_in_front p xs n (λ k d low within. none (suc k) d (omega (arith, low)) (omega (arith, within)))

none_at_all : {X : Type 0} (p : X → Bool) (xs : List X) → ((k : ℕ) (d : X) → k < length xs → p (get_or xs k d) ≡ false) → filter p xs ≡ []
none_at_all p [] none = refl
none_at_all p (x ∷ xs) none =
    ap (λ b. cond b (x ∷ filter p xs) (filter p xs)) (none zero x (omega arith)) ∙ none_at_all p xs (λ k d low. none (suc k) d (omega (arith, low)))

-- none behind passes it
none_behind : {X : Type 0} (p : X → Bool) (xs : List X) (n : ℕ) → ((k : ℕ) (d : X) → n ≤ k → k < length xs → p (get_or xs k d) ≡ false) → filter p (take n xs) ≡ filter p xs
none_behind p [] zero none = refl
none_behind p [] (suc n) none = refl
none_behind p (x ∷ xs) zero none = sym (none_at_all p (x ∷ xs) (λ k d low. none k d (omega arith) low))
none_behind p (x ∷ xs) (suc n) none =
    let rest : filter p (take n xs) ≡ filter p xs = none_behind p xs n (λ k d past within. none (suc k) d (omega (arith, past)) (omega (arith, within))) in
    ap (λ ys. cond (p x) (x ∷ ys) ys) rest

module _ (t : Topology) (good : IsWellFormed t) (s : ℕ) where
  abbrev leaves : ChannelRow → Bool
  leaves row = row.tail.0 == s

  elsewhere : (k : ℕ) (d : ChannelRow) → (get_or t.channels k d).tail.0 ≢ s → leaves (get_or t.channels k d) ≡ false
  elsewhere k d other = ne_eqb (get_or t.channels k d).tail.0 s other

  pub cables_begin : map (cable_of t) (filter (λ (row : ChannelRow). row.tail.0 == s) (take (first_channel t s) t.channels)) ≡ []
  cables_begin = ap (map (cable_of t)) (none_in_front leaves t.channels (first_channel t s) (λ k d low within. elsewhere k d (λ same. omega (arith, low, (stands_between t good s k d within same).0))))

  pub one_cable_more : (c : ℕ) (d : ChannelRow) (cables : List Cable) → first_channel t s ≤ c → c < first_channel t (s + 1) → c < length t.channels →
      cables ≡ map (cable_of t) (filter (λ (row : ChannelRow). row.tail.0 == s) (take c t.channels)) →
      cables ++ cable_of t (get_or t.channels c d) ∷ [] ≡ map (cable_of t) (filter (λ (row : ChannelRow). row.tail.0 == s) (take (c + 1) t.channels))
  one_cable_more c d cables from past within so_far =
      let here : leaves (get_or t.channels c d) ≡ true = eq-eqb (get_or t.channels c d).tail.0 s (leaves_from t good s c d within from past) in
      ap (λ xs. xs ++ cable_of t (get_or t.channels c d) ∷ []) so_far ∙ sym (map-append (cable_of t) (filter leaves (take c t.channels)) (get_or t.channels c d ∷ []))
      ∙ ap (map (cable_of t)) (ap (λ b. filter leaves (take c t.channels) ++ cond b (get_or t.channels c d ∷ []) []) (sym here) ∙ sym (filter_more leaves t.channels c d within))

  pub all_cables : filter (λ (row : ChannelRow). row.tail.0 == s) (take (first_channel t (s + 1)) t.channels) ≡ filter (λ (row : ChannelRow). row.tail.0 == s) t.channels
  all_cables = none_behind leaves t.channels (first_channel t (s + 1)) (λ k d past within. elsewhere k d (λ same. omega (arith, past, (stands_between t good s k d within same).1)))
