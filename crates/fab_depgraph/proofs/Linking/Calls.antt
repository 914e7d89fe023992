-- What a look-up and the changes of one edge are to the rows.
use Rattle.std.proofs.Common.{◌≡◌, ℕ, ◌+◌, ◌<◌, ◌≤◌, true, false, cond, List, [], ◌∷◌, length, map, set, drop, nat_le, slice_index_or, slice_set, Option, Some, None, is_some, IsSome, count_by, refl, sym, le-leb, ◌∙◌, ap, subst, inl, inr, arith, get_or-set_same, get_or-set_other}
use Rattle.std.specs.List.{sum_by}
use Rattle.std.proofs.lemmas.Bool.{eq-eqb}
use Rattle.std.proofs.lemmas.Bool.Decides.{eqb_tells}
use Rattle.std.proofs.lemmas.List.{length-map, get_or_default}
use Rattle.std.proofs.lemmas.List.Sums.{sum_by-cons, sum_by-set}
use Rattle.slab.specs.Slab.{Slab, get, slab_len, ContainsKey, Updates}
use Rattle.slab.proofs.SlabLemmas.{ContainsKey-within}
use Rattle.fab_depgraph.specs.declared.edges.Edge.{Edge}
use Rattle.fab_depgraph.specs.Edges.{Slots, Row, slot, IsChain, IsFound, AreLinked, linked_row, rows_in, row_at, edge_count, times_in, leads_to, with_count, keys_at, raised, lowered, with_raised, with_lowered, CanBeLowered}
use Rattle.fab_depgraph.proofs.Linking.Rows.{row_of, rows_are, chain_short, found_none, IsEdgeAt, found_some}
use Rattle.fab_depgraph.proofs.Linking.Changes.{KeepOthers, row_at_is, written, rows_written, inserted, rows_inserted, removed, rows_removed, found_front}

pub absent_never : (row : Row) (second : ℕ) → leads_to row second ≡ false → times_in row second ≡ 0
absent_never [] second e = refl
absent_never ((other, count) ∷ row) second e = elim (eqb_tells other second) [
  | inl h ↦ let t : true ≡ false = rw h.0 at e in absurd (cc)
  | inr h ↦ rw h.0 (absent_never row second (rw h.0 at e))
]

lengths : (slots : Slots) (links : List (List ℕ)) → sum_by (length {A = ℕ × ℕ}) (map (row_of slots) links) ≡ sum_by (length {A = ℕ}) links
lengths slots [] = refl
lengths slots (keys ∷ links) = omega (arith, lengths slots links, length-map keys (λ key. Rattle.fab_depgraph.proofs.Linking.Rows.shown (slot slots key)), sum_by-cons (length {A = ℕ × ℕ}) (row_of slots keys) (map (row_of slots) links), sum_by-cons (length {A = ℕ}) keys links)

module _ (s : Slab Edge) (newest : List (Option ℕ)) (links : List (List ℕ)) (linked : AreLinked s.slots newest links) (rows : List Row) (view : rows_in s.slots newest ≡ rows) where
  pub count_is : edge_count rows ≡ slab_len s
  count_is = ap edge_count (sym view) ∙ (ap edge_count (rows_are s.slots newest links linked) ∙ (lengths s.slots links ∙ sym linked.all))

  module _ (first second : ℕ) (within : first < length rows) where
    pub inside : first < length newest
    inside = omega (arith, within, ap (length {A = Row}) view, length-map newest (linked_row (slab_len s) s.slots))

    pub row_is : row_at rows first ≡ row_of s.slots (keys_at links first)
    row_is = ap (λ (rows : List Row). row_at rows first) (sym view) ∙ row_at_is s.slots newest links linked first inside

    module _ (head : Option ℕ) (is_head : head ≡ slice_index_or newest first head) where
      at_head : head ≡ slice_index_or newest first None
      at_head = is_head ∙ get_or_default newest first head None inside

      chain : IsChain s.slots head (keys_at links first)
      chain = subst (λ (at : Option ℕ). IsChain s.slots at (keys_at links first)) (sym at_head) (linked.chains first)

      pub can_find : (keys : List ℕ) × IsChain s.slots head keys × (length keys ≤ slab_len s)
      can_find = (keys_at links first, chain, chain_short s.slots newest links linked first)

      module _ (found : Option ℕ) (finds : (keys : List ℕ) → IsChain s.slots head keys → IsFound s.slots second keys found) where
        pub is_found : IsFound s.slots second (keys_at links first) found
        is_found = finds (keys_at links first) chain

        pub is_absent : found ≡ None → leads_to (row_at rows first) second ≡ false
        is_absent none = ap (λ (row : Row). leads_to row second) row_is ∙ found_none s.slots second (keys_at links first) (subst (λ (f : Option ℕ). IsFound s.slots second (keys_at links first) f) none is_found)

        pub never_added : found ≡ None → 0 ≡ times_in (row_at rows first) second
        never_added none = sym (absent_never (row_at rows first) second (is_absent none))

        -- an edge was added in front
        pub new_linked : (new : Slab Edge) (key : ℕ) (edge : Edge) → found ≡ None → get s key ≡ None → Updates s new key (Some edge) → slab_len new ≡ slab_len s + 1 → edge.next ≡ head → (ls : List (List ℕ)) × AreLinked new.slots (set newest first (Some key)) ls
        new_linked new key edge none vacant updates len next = (set links first (key ∷ keys_at links first), inserted s.slots newest links linked new.slots key first edge updates.others vacant updates.changed (next ∙ at_head) len inside)

        pub new_rows : (new : Slab Edge) (key : ℕ) (edge : Edge) → found ≡ None → get s key ≡ None → Updates s new key (Some edge) → slab_len new ≡ slab_len s + 1 → edge.next ≡ head → edge.second.0 ≡ second → edge.count ≡ 1 → rows_in new.slots (set newest first (Some key)) ≡ with_raised rows first second
        new_rows new key edge none vacant updates len next to once =
            let row : raised (row_at rows first) second ≡ (second, 1) ∷ row_at rows first = rw (is_absent none) refl in
            let pair : (edge.second.0, edge.count) ≡ (second, 1) = cc in
            rows_inserted s.slots newest links linked new.slots key first edge updates.others vacant updates.changed (next ∙ at_head) len inside
            ∙ (ap (λ (rows : List Row). set rows first ((edge.second.0, edge.count) ∷ row_at rows first)) view
            ∙ (ap (λ (pair : ℕ × ℕ). set rows first (pair ∷ row_at rows first)) pair
            ∙ ap (λ (row : Row). set rows first row) (sym row)))

        module _ (key : ℕ) (some : found ≡ Some key) where
          found_key : IsFound s.slots second (keys_at links first) (Some key)
          found_key = subst (λ (f : Option ℕ). IsFound s.slots second (keys_at links first) f) some is_found

          edge_at : IsEdgeAt s.slots second (keys_at links first) key
          edge_at = found_some s.slots second (keys_at links first) key found_key

          pub has_key : ContainsKey s key
          has_key = let P : Option Edge → Type 0 = λ edge. IsSome edge in subst P (sym edge_at.there) refl

          pub is_known : leads_to (row_at rows first) second ≡ true
          is_known = ap (λ (row : Row). leads_to row second) row_is ∙ edge_at.known

          module _ (edge : Edge) (there : get s key ≡ Some edge) where
            same_edge : edge_at.edge ≡ edge
            same_edge = let a = edge_at.there in cc

            pub times_are : edge.count ≡ times_in (row_at rows first) second
            times_are = ap (λ (e : Edge). e.count) (sym same_edge) ∙ (sym edge_at.times ∙ ap (λ (row : Row). times_in row second) (sym row_is))

            leads : edge.second.0 ≡ second
            leads = ap (λ (e : Edge). e.second.0) (sym same_edge) ∙ edge_at.leads

            -- an edge was counted anew
            module _ (after : Edge) (to : after.second ≡ edge.second) (next : after.next ≡ edge.next) where
              new_slots : Slots
              new_slots = slice_set s.slots key (Some after)

              others : KeepOthers s.slots (slice_set s.slots key (Some after)) key
              others other differ = get_or-set_other s.slots key other (Some after) None differ

              is : slot (slice_set s.slots key (Some after)) key ≡ Some after
              is = get_or-set_same s.slots key (Some after) None (ContainsKey-within s key has_key)

              count : count_by is_some (slice_set s.slots key (Some after)) ≡ count_by is_some s.slots
              count =
                  let one : Option Edge → ℕ = λ slot. cond (is_some slot) 1 0 in
                  let was : one (slot s.slots key) ≡ one (Some edge) = ap one there in
                  omega (arith, was, sum_by-set one s.slots key (Some after) None (ContainsKey-within s key has_key))

              pub counted_linked : (ls : List (List ℕ)) × AreLinked (slice_set s.slots key (Some after)) newest ls
              counted_linked = (links, written s.slots newest links linked (slice_set s.slots key (Some after)) key edge after others there is next count)

              pub counted_rows : (change : ℕ → ℕ) → after.count ≡ change edge.count → rows_in (slice_set s.slots key (Some after)) newest ≡ slice_set rows first (with_count change (row_at rows first) second)
              counted_rows change counted =
                  rows_written s.slots newest links linked (slice_set s.slots key (Some after)) key edge after others there is next count change first second inside found_key (ap (λ (c : Rattle.fab_model.specs.declared.rows.ChannelId.ChannelId). c.0) to ∙ leads) counted
                  ∙ ap (λ (rows : List Row). set rows first (with_count change (row_at rows first) second)) view

            -- the newest edge was taken away
            front : CanBeLowered (row_at rows first) second → edge.count ≤ 1 → (rest : List ℕ) × (keys_at links first ≡ key ∷ rest)
            front can few = elim can [
              | inl many ↦ absurd (omega (arith, many, times_are))
              | inr h ↦ found_front s.slots second (keys_at links first) key 1 h.0 found_key (sym row_is ∙ h.1)
            ]

            pub less_linked : CanBeLowered (row_at rows first) second → edge.count ≤ 1 → (new : Slab Edge) → Updates s new key None → slab_len new + 1 ≡ slab_len s → (ls : List (List ℕ)) × AreLinked new.slots (set newest first edge.next) ls
            less_linked can few new updates len =
                let f = front can few in
                (set links first f.0, removed s.slots newest links linked new.slots key first edge f.0 updates.others there len inside f.1)

            pub less_rows : CanBeLowered (row_at rows first) second → edge.count ≤ 1 → (new : Slab Edge) → Updates s new key None → slab_len new + 1 ≡ slab_len s → rows_in new.slots (set newest first edge.next) ≡ with_lowered rows first second
            less_rows can few new updates len =
                let f = front can few in
                let test : nat_le (times_in (row_at rows first) second) 1 ≡ true = le-leb (times_in (row_at rows first) second) 1 (omega (arith, times_are, few)) in
                let row : lowered (row_at rows first) second ≡ drop 1 (row_at rows first) = rw test refl in
                rows_removed s.slots newest links linked new.slots key first edge f.0 updates.others there len inside f.1
                ∙ (ap (λ (rows : List Row). set rows first (drop 1 (row_at rows first))) view
                ∙ ap (λ (row : Row). set rows first row) (sym row))

-- a look-up of an edge, and what it found
pub record IsLookUp (s : Slab Edge) (newest : List (Option ℕ)) (rows : List Row) (first second : ℕ) (found : Option ℕ) : Type 0 where
  pub links : List (List ℕ)
  pub linked : AreLinked s.slots newest links
  pub view : rows_in s.slots newest ≡ rows
  pub within : first < length rows
  pub head : Option ℕ
  pub is_head : head ≡ slice_index_or newest first head
  pub finds : (keys : List ℕ) → IsChain s.slots head keys → IsFound s.slots second keys found

module _ {s : Slab Edge} {newest : List (Option ℕ)} {rows : List Row} {first second : ℕ} {found : Option ℕ} (look : IsLookUp s newest rows first second found) where
  pub look_never : found ≡ None → 0 ≡ times_in (row_at rows first) second
  look_never = never_added s newest look.links look.linked rows look.view first second look.within look.head look.is_head found look.finds

  pub look_unknown : found ≡ None → leads_to (row_at rows first) second ≡ false
  look_unknown = is_absent s newest look.links look.linked rows look.view first second look.within look.head look.is_head found look.finds

  pub look_room : edge_count rows ≡ slab_len s
  look_room = count_is s newest look.links look.linked rows look.view

  pub look_new_linked : (new : Slab Edge) (key : ℕ) (edge : Edge) → found ≡ None → get s key ≡ None → Updates s new key (Some edge) → slab_len new ≡ slab_len s + 1 → edge.next ≡ look.head → (ls : List (List ℕ)) × AreLinked new.slots (set newest first (Some key)) ls
  look_new_linked = new_linked s newest look.links look.linked rows look.view first second look.within look.head look.is_head found look.finds

  pub look_new_rows : (new : Slab Edge) (key : ℕ) (edge : Edge) → found ≡ None → get s key ≡ None → Updates s new key (Some edge) → slab_len new ≡ slab_len s + 1 → edge.next ≡ look.head → edge.second.0 ≡ second → edge.count ≡ 1 → rows_in new.slots (set newest first (Some key)) ≡ with_raised rows first second
  look_new_rows = new_rows s newest look.links look.linked rows look.view first second look.within look.head look.is_head found look.finds

  module _ (key : ℕ) (some : found ≡ Some key) where
    pub look_key : ContainsKey s key
    look_key = has_key s newest look.links look.linked rows look.view first second look.within look.head look.is_head found look.finds key some

    pub look_known : leads_to (row_at rows first) second ≡ true
    look_known = is_known s newest look.links look.linked rows look.view first second look.within look.head look.is_head found look.finds key some

    pub look_times : (edge : Edge) → get s key ≡ Some edge → edge.count ≡ times_in (row_at rows first) second
    look_times = times_are s newest look.links look.linked rows look.view first second look.within look.head look.is_head found look.finds key some

    pub look_counted_linked : (edge : Edge) → get s key ≡ Some edge → (after : Edge) → after.second ≡ edge.second → after.next ≡ edge.next → (ls : List (List ℕ)) × AreLinked (slice_set s.slots key (Some after)) newest ls
    look_counted_linked = counted_linked s newest look.links look.linked rows look.view first second look.within look.head look.is_head found look.finds key some

    pub look_counted_rows : (edge : Edge) → get s key ≡ Some edge → (after : Edge) → after.second ≡ edge.second → after.next ≡ edge.next → (change : ℕ → ℕ) → after.count ≡ change edge.count → rows_in (slice_set s.slots key (Some after)) newest ≡ slice_set rows first (with_count change (row_at rows first) second)
    look_counted_rows = counted_rows s newest look.links look.linked rows look.view first second look.within look.head look.is_head found look.finds key some

    pub look_less_linked : (edge : Edge) → get s key ≡ Some edge → CanBeLowered (row_at rows first) second → edge.count ≤ 1 → (new : Slab Edge) → Updates s new key None → slab_len new + 1 ≡ slab_len s → (ls : List (List ℕ)) × AreLinked new.slots (set newest first edge.next) ls
    look_less_linked edge there = less_linked s newest look.links look.linked rows look.view first second look.within look.head look.is_head found look.finds key some edge there

    pub look_less_rows : (edge : Edge) → get s key ≡ Some edge → CanBeLowered (row_at rows first) second → edge.count ≤ 1 → (new : Slab Edge) → Updates s new key None → slab_len new + 1 ≡ slab_len s → rows_in new.slots (set newest first edge.next) ≡ with_lowered rows first second
    look_less_rows edge there = less_rows s newest look.links look.linked rows look.view first second look.within look.head look.is_head found look.finds key some edge there

-- an edge that can be taken back is found
pub lowered_known : (row : Row) (second : ℕ) → CanBeLowered row second → leads_to row second ≡ true
lowered_known row second can = elim can [
  | inl many ↦ go row many
  | inr h ↦ subst (λ (row : Row). leads_to row second ≡ true) (sym h.1) (rw (eq-eqb second second refl) refl)
]
  where
    go : (row : Row) → 1 < times_in row second → leads_to row second ≡ true
    go [] many = absurd (omega arith)
    go ((other, count) ∷ row) many = elim (eqb_tells other second) [
      | inl h ↦ rw h.0 refl
      | inr h ↦ rw h.0 (go row (rw h.0 at many))
    ]
