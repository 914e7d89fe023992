-- What a change of one slot makes of the chains and rows.
use Rattle.std.proofs.Common.{◌≡◌, ◌≢◌, ℕ, suc, ◌+◌, ◌<◌, ◌≤◌, ◌==◌, cond, List, [], ◌∷◌, length, map, set, drop, slice_index_or, Option, Some, None, is_some, count_by, unwrap_or, refl, sym, ◌∙◌, ap, subst, inl, inr, arith, length-set, get_or-set_other}
use Rattle.std.specs.List.{sum_by}
use Rattle.std.proofs.lemmas.Bool.{eq-eqb, ne_eqb, cases_eq}
use Rattle.std.proofs.lemmas.List.{map-set, length-map, get_or-map, same_lists, set-get_or}
use Rattle.std.proofs.lemmas.Grind.{get_or-set_at}
use Rattle.std.proofs.lemmas.List.Sums.{sum_by-cons, sum_by-set}
use Rattle.fab_depgraph.specs.declared.edges.Edge.{Edge}
use Rattle.fab_depgraph.specs.Edges.{Slots, Row, slot, IsChain, IsFound, AreLinked, rows_in, row_at, times_key, with_count, keys_at}
use Rattle.fab_depgraph.proofs.Linking.Sums.{term_below, two_below, no_terms, times_first, times_later}
use Rattle.fab_depgraph.proofs.Linking.Rows.{shown, row_of, rows_are, vacant_off, found_some}

-- every other key keeps its edge
abbrev pub KeepOthers : Slots → Slots → ℕ → Type 0
KeepOthers old new key = (other : ℕ) → other ≢ key → slot new other ≡ slot old other

module _ (old new : Slots) (key : ℕ) (others : KeepOthers old new key) where
  off_head : (other : ℕ) (keys : List ℕ) → times_key key (other ∷ keys) ≡ 0 → other ≢ key
  off_head other keys off same = absurd (omega (arith, times_first key keys, subst (λ k. times_key key (k ∷ keys) ≡ 0) same off))

  pub row_kept : (keys : List ℕ) → times_key key keys ≡ 0 → row_of new keys ≡ row_of old keys
  row_kept [] off = refl
  row_kept (other ∷ keys) off =
      let differ = off_head other keys off in
      let head = others other differ in
      let tail = row_kept keys (omega (arith, off, times_later key other keys differ)) in
      cc

  pub chain_kept : (at : Option ℕ) (keys : List ℕ) → times_key key keys ≡ 0 → IsChain old at keys → IsChain new at keys
  chain_kept at [] off p = p
  chain_kept at (other ∷ keys) off p =
      let differ = off_head other keys off in
      (p.0, p.1, others other differ ∙ p.2, chain_kept p.0.next keys (omega (arith, off, times_later key other keys differ)) p.3)

  -- an edge changes and leads on as before
  pub chain_rewritten : (before after : Edge) → slot old key ≡ Some before → slot new key ≡ Some after → after.next ≡ before.next → (at : Option ℕ) (keys : List ℕ) → IsChain old at keys → IsChain new at keys
  chain_rewritten before after was is next at [] p = p
  chain_rewritten before after was is next at (other ∷ keys) p =
      let rest = chain_rewritten before after was is next p.0.next keys p.3 in
      let there = p.2 in
      elim (cases_eq other key) [
        | inl same ↦
            let here : slot old other ≡ Some before = subst (λ k. slot old k ≡ Some before) (sym same) was in
            let edge : p.0 ≡ before = cc in
            let leads : p.0.next ≡ after.next = ap (λ (e : Edge). e.next) edge ∙ sym next in
            (after, p.1, subst (λ k. slot new k ≡ Some after) (sym same) is, subst (λ (at : Option ℕ). IsChain new at keys) leads rest)
        | inr differ ↦ (p.0, p.1, others other differ ∙ p.2, rest)
      ]

  pub row_rewritten : (change : ℕ → ℕ) (second : ℕ) (before after : Edge) → slot old key ≡ Some before → slot new key ≡ Some after → after.second.0 ≡ second → after.count ≡ change before.count → (keys : List ℕ) → IsFound old second keys (Some key) → times_key key keys ≤ 1 → row_of new keys ≡ with_count change (row_of old keys) second
  row_rewritten change second before after was is leads counted [] p once = absurd (cc)
  row_rewritten change second before after was is leads counted (first ∷ keys) p once =
      let P : Option Edge → Type 0 = λ edge. row_of new (first ∷ keys) ≡ with_count change (shown edge ∷ row_of old keys) second in
      subst P (sym p.1) (elim p.2 [
        | inl h ↦
            let e = h.1 in
            let same : first ≡ key = cc in
            let here : slot old first ≡ Some before = subst (λ k. slot old k ≡ Some before) (sym same) was in
            let there = p.1 in
            let edge : p.0 ≡ before = cc in
            let now : slot new first ≡ Some after = subst (λ k. slot new k ≡ Some after) (sym same) is in
            let tail : row_of new keys ≡ row_of old keys = row_kept keys (omega (arith, once, subst (λ k. times_key key (k ∷ keys) ≡ suc (times_key key keys)) (sym same) (times_first key keys))) in
            let count : after.count ≡ change p.0.count = counted ∙ ap (λ (e : Edge). change e.count) (sym edge) in
            let to : after.second.0 ≡ p.0.second.0 = leads ∙ sym h.0 in
            rw (eq-eqb p.0.second.0 second h.0) (rw now (cc))
        | inr h ↦
            let later = found_some old second keys key h.1 in
            let differ : first ≢ key = λ same. (let here : slot old first ≡ Some later.edge = subst (λ k. slot old k ≡ Some later.edge) (sym same) later.there in let there = p.1 in let edge : later.edge ≡ p.0 = cc in h.0 (ap (λ (e : Edge). e.second.0) (sym edge) ∙ later.leads)) in
            let now : slot new first ≡ Some p.0 = others first differ ∙ p.1 in
            let tail = row_rewritten change second before after was is leads counted keys h.1 (omega (arith, once, times_later key first keys differ)) in
            rw (ne_eqb p.0.second.0 second h.0) (rw now (ap (λ (row : Row). (p.0.second.0, p.0.count) ∷ row) tail))
      ])

module _ (slots : Slots) (newest : List (Option ℕ)) (links : List (List ℕ)) (linked : AreLinked slots newest links) where
  pub row_at_is : (first : ℕ) → first < length newest → row_at (rows_in slots newest) first ≡ row_of slots (keys_at links first)
  row_at_is first within =
      let here : first < length links = omega (arith, linked.each) in
      ap (λ (rows : List Row). row_at rows first) (rows_are slots newest links linked) ∙ get_or-map (row_of slots) links first [] [] here

  once_at : (key first : ℕ) → times_key key (keys_at links first) ≤ 1
  once_at key first = omega (arith, linked.once key, term_below (times_key key) [] refl links first)

  apart : (key first other : ℕ) → 0 < times_key key (keys_at links first) → other ≢ first → times_key key (keys_at links other) ≡ 0
  apart key first other there differ = omega (arith, linked.once key, two_below (times_key key) [] refl links other first differ)

  -- the rows after a change in the chain of one channel
  rows_changed : (new : Slots) (newest' : List (Option ℕ)) (first : ℕ) (keys : List ℕ) → first < length newest → AreLinked new newest' (set links first keys) → ((other : ℕ) → other ≢ first → row_of new (keys_at links other) ≡ row_of slots (keys_at links other)) → rows_in new newest' ≡ set (rows_in slots newest) first (row_of new keys)
  rows_changed new newest' first keys within after same =
      let here : first < length links = omega (arith, linked.each) in
      let x = map (row_of new) links in
      let y = map (row_of slots) links in
      let lx : length x ≡ length links = length-map links (row_of new) in
      let ly : length y ≡ length links = length-map links (row_of slots) in
      let v = row_of new keys in
      let each : (k : ℕ) (d : Row) → k < length (set x first v) → slice_index_or (set x first v) k d ≡ slice_index_or (set y first v) k d = λ k d below. elim (cases_eq k first) [
        | inl equal ↦ get_or-set_at x first k v d equal (omega arith) ∙ sym (get_or-set_at y first k v d equal (omega arith))
        | inr differ ↦
            let k_in : k < length links = omega (arith, below, length-set x first v) in
            get_or-set_other x first k v d differ ∙ (get_or-map (row_of new) links k [] d k_in ∙ (same k differ ∙ (sym (get_or-map (row_of slots) links k [] d k_in) ∙ sym (get_or-set_other y first k v d differ))))
      ] in
      rows_are new newest' (set links first keys) after
      ∙ (map-set (row_of new) links first keys
      ∙ (same_lists (set x first v) (set y first v) (omega (arith, length-set x first v, length-set y first v)) each
      ∙ ap (λ (rows : List Row). set rows first v) (sym (rows_are slots newest links linked))))

  -- an edge was counted anew
  pub written : (new : Slots) (key : ℕ) (before after : Edge) → KeepOthers slots new key → slot slots key ≡ Some before → slot new key ≡ Some after → after.next ≡ before.next → count_by is_some new ≡ count_by is_some slots → AreLinked new newest links
  written new key before after others was is next count = record {
    each = linked.each;
    chains = λ first. chain_rewritten slots new key others before after was is next (slice_index_or newest first None) (keys_at links first) (linked.chains first);
    once = linked.once;
    all = count ∙ linked.all;
  }

  pub rows_written : (new : Slots) (key : ℕ) (before after : Edge) → KeepOthers slots new key → slot slots key ≡ Some before → slot new key ≡ Some after → after.next ≡ before.next → count_by is_some new ≡ count_by is_some slots
      → (change : ℕ → ℕ) (first second : ℕ) → first < length newest → IsFound slots second (keys_at links first) (Some key) → after.second.0 ≡ second → after.count ≡ change before.count
      → rows_in new newest ≡ set (rows_in slots newest) first (with_count change (row_at (rows_in slots newest) first) second)
  rows_written new key before after others was is next count change first second within found leads counted =
      let keys = keys_at links first in
      let at = found_some slots second keys key found in
      let now = written new key before after others was is next count in
      let whole : set links first keys ≡ links = set-get_or links first [] in
      let row : row_of new keys ≡ with_count change (row_at (rows_in slots newest) first) second =
      row_rewritten slots new key others change second before after was is leads counted keys found (once_at key first) ∙ ap (λ (row : Row). with_count change row second) (sym (row_at_is first within)) in
      rows_changed new newest first keys within (subst (λ (ls : List (List ℕ)). AreLinked new newest ls) (sym whole) now) (λ other differ. row_kept slots new key others (keys_at links other) (apart key first other at.contained differ))
      ∙ ap (λ (row : Row). set (rows_in slots newest) first row) row

  chains_set : (new : Slots) (first : ℕ) (at : Option ℕ) (keys : List ℕ) → first < length newest → IsChain new at keys → ((other : ℕ) → other ≢ first → IsChain new (slice_index_or newest other None) (keys_at links other)) → (other : ℕ) → IsChain new (slice_index_or (set newest first at) other None) (keys_at (set links first keys) other)
  chains_set new first at keys within here rest other =
      let inside : first < length links = omega (arith, linked.each) in
      let P : Option ℕ → List ℕ → Type 0 = λ a ks. IsChain new a ks in
      elim (cases_eq other first) [
        | inl equal ↦
            subst (λ (a : Option ℕ). P a (keys_at (set links first keys) other)) (sym (get_or-set_at newest first other at None equal within)) (subst (λ (ks : List ℕ). P at ks) (sym (get_or-set_at links first other keys [] equal inside)) here)
        | inr differ ↦
            subst (λ (a : Option ℕ). P a (keys_at (set links first keys) other)) (sym (get_or-set_other newest first other at None differ)) (subst (λ (ks : List ℕ). P (slice_index_or newest other None) ks) (sym (get_or-set_other links first other keys [] differ)) (rest other differ))
      ]

  -- an edge was added in front
  pub inserted : (new : Slots) (key first : ℕ) (after : Edge) → KeepOthers slots new key → slot slots key ≡ None → slot new key ≡ Some after → after.next ≡ slice_index_or newest first None → count_by is_some new ≡ count_by is_some slots + 1 → first < length newest → AreLinked new (set newest first (Some key)) (set links first (key ∷ keys_at links first))
  inserted new key first after others was is next count within =
      let inside : first < length links = omega (arith, linked.each) in
      let keys = keys_at links first in
      let off : (other : ℕ) → times_key key (keys_at links other) ≡ 0 = λ other. vacant_off slots key was (slice_index_or newest other None) (keys_at links other) (linked.chains other) in
      let kept : (other : ℕ) → IsChain new (slice_index_or newest other None) (keys_at links other) = λ other. chain_kept slots new key others (slice_index_or newest other None) (keys_at links other) (off other) (linked.chains other) in
      record {
        each = omega (arith, linked.each, length-set newest first (Some key), length-set links first (key ∷ keys));
        chains = chains_set new first (Some key) (key ∷ keys) within (after, refl, is, subst (λ (at : Option ℕ). IsChain new at keys) (sym next) (kept first)) (λ other differ. kept other);
        once = λ k. elim (cases_eq key k) [
          | inl same ↦ subst (λ j. sum_by (times_key j) (set links first (key ∷ keys)) ≤ 1) same (omega (arith, sum_by-set (times_key key) links first (key ∷ keys) [] inside, times_first key keys, no_terms (times_key key) [] refl links off))
          | inr differ ↦ omega (arith, sum_by-set (times_key k) links first (key ∷ keys) [] inside, times_later k key keys differ, linked.once k)
        ];
        all = omega (arith, count, linked.all, sum_by-set (length {A = ℕ}) links first (key ∷ keys) [] inside);
      }

  pub rows_inserted : (new : Slots) (key first : ℕ) (after : Edge) → KeepOthers slots new key → slot slots key ≡ None → slot new key ≡ Some after → after.next ≡ slice_index_or newest first None → count_by is_some new ≡ count_by is_some slots + 1 → first < length newest → rows_in new (set newest first (Some key)) ≡ set (rows_in slots newest) first ((after.second.0, after.count) ∷ row_at (rows_in slots newest) first)
  rows_inserted new key first after others was is next count within =
      let keys = keys_at links first in
      let off : (other : ℕ) → times_key key (keys_at links other) ≡ 0 = λ other. vacant_off slots key was (slice_index_or newest other None) (keys_at links other) (linked.chains other) in
      let kept : (other : ℕ) → row_of new (keys_at links other) ≡ row_of slots (keys_at links other) = λ other. row_kept slots new key others (keys_at links other) (off other) in
      let head : shown (slot new key) ≡ (after.second.0, after.count) = ap shown is in
      let tail : row_of new keys ≡ row_at (rows_in slots newest) first = kept first ∙ sym (row_at_is first within) in
      let row : row_of new (key ∷ keys) ≡ (after.second.0, after.count) ∷ row_at (rows_in slots newest) first = cc in
      rows_changed new (set newest first (Some key)) first (key ∷ keys) within (inserted new key first after others was is next count within) (λ other differ. kept other)
      ∙ ap (λ (row : Row). set (rows_in slots newest) first row) row

  -- the newest edge of a channel was taken away
  module _ (new : Slots) (key first : ℕ) (before : Edge) (rest : List ℕ) (others : KeepOthers slots new key) (was : slot slots key ≡ Some before) (count : count_by is_some new + 1 ≡ count_by is_some slots) (within : first < length newest) (front : keys_at links first ≡ key ∷ rest) where
    rest_off : times_key key rest ≡ 0
    rest_off = omega (arith, times_first key rest, subst (λ (ks : List ℕ). times_key key ks ≤ 1) front (once_at key first))

    rest_chain : IsChain new before.next rest
    rest_chain =
        let p : IsChain slots (slice_index_or newest first None) (key ∷ rest) = subst (λ (ks : List ℕ). IsChain slots (slice_index_or newest first None) ks) front (linked.chains first) in
        let there = p.2 in
        let edge : p.0 ≡ before = cc in
        chain_kept slots new key others before.next rest rest_off (subst (λ (e : Edge). IsChain slots e.next rest) edge p.3)

    others_off : (other : ℕ) → other ≢ first → times_key key (keys_at links other) ≡ 0
    others_off other differ = apart key first other (subst (λ (ks : List ℕ). 0 < times_key key ks) (sym front) (omega (arith, times_first key rest))) differ

    pub removed : AreLinked new (set newest first before.next) (set links first rest)
    removed =
        let inside : first < length links = omega (arith, linked.each) in
        let old_row : (k : ℕ) → times_key k (keys_at links first) ≡ times_key k (key ∷ rest) = λ k. ap (times_key k) front in
        record {
          each = omega (arith, linked.each, length-set newest first before.next, length-set links first rest);
          chains = chains_set new first before.next rest within rest_chain (λ other differ. chain_kept slots new key others (slice_index_or newest other None) (keys_at links other) (others_off other differ) (linked.chains other));
          once = λ k. omega (arith, sum_by-set (times_key k) links first rest [] inside, old_row k, linked.once k, sum_by-cons (λ other. cond (other == k) 1 0) key rest);
          all = omega (arith, count, linked.all, sum_by-set (length {A = ℕ}) links first rest [] inside, ap (length {A = ℕ}) front);
        }

    pub rows_removed : rows_in new (set newest first before.next) ≡ set (rows_in slots newest) first (drop 1 (row_at (rows_in slots newest) first))
    rows_removed =
        let old_row : row_at (rows_in slots newest) first ≡ row_of slots (key ∷ rest) = row_at_is first within ∙ ap (row_of slots) front in
        let row : row_of new rest ≡ drop 1 (row_at (rows_in slots newest) first) = row_kept slots new key others rest rest_off ∙ ap (λ (row : Row). drop 1 row) (sym old_row) in
        rows_changed new (set newest first before.next) first rest within removed (λ other differ. row_kept slots new key others (keys_at links other) (others_off other differ))
        ∙ ap (λ (row : Row). set (rows_in slots newest) first row) row

-- the first edge of a chain is found where its row begins with that channel
pub found_front : (slots : Slots) (second : ℕ) (keys : List ℕ) (key count : ℕ) (row : Row) → IsFound slots second keys (Some key) → row_of slots keys ≡ (second, count) ∷ row → (rest : List ℕ) × (keys ≡ key ∷ rest)
found_front slots second [] key count row p e = absurd (cc)
found_front slots second (first ∷ keys) key count row p e =
    let head : shown (slot slots first) ≡ (second, count) = cc in
    let edge : (p.0.second.0, p.0.count) ≡ (second, count) = ap shown (sym p.1) ∙ head in
    let leads : p.0.second.0 ≡ second = ap (λ (q : ℕ × ℕ). q.0) edge in
    elim p.2 [
      | inl h ↦ (keys, ap (λ (found : Option ℕ). unwrap_or found 0 ∷ keys) (sym h.1))
      | inr h ↦ absurd (h.0 leads)
    ]
