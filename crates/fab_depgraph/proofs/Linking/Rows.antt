-- The rows of linked edges.
use Rattle.std.proofs.Common.{unwrap_or, ◌≡◌, ◌≢◌, ℕ, zero, suc, ◌<◌, ◌≤◌, true, false, List, [], ◌∷◌, length, map, slice_index_or, Option, Some, None, is_some, count_by, refl, sym, ◌∙◌, ap, subst, inl, inr, arith}
use Rattle.std.proofs.lemmas.Bool.{eq-eqb, ne_eqb, cases_eq}
use Rattle.fab_depgraph.specs.declared.edges.Edge.{Edge}
use Rattle.fab_depgraph.specs.Edges.{Slots, Row, slot, IsChain, IsFound, AreLinked, linked_row, edge_before, rows_in, times_key, times_in, leads_to, keys_at}
use Rattle.fab_depgraph.proofs.Linking.Sums.{term_below, times_first, times_later}

-- the second channel and the count of an edge
abbrev pub shown : Option Edge → ℕ × ℕ
shown None = (0, 0)
shown (Some edge) = (edge.second.0, edge.count)

abbrev pub row_of : Slots → List ℕ → Row
row_of slots keys = map (λ key. shown (slot slots key)) keys

pub linked_is_row : (slots : Slots) (n : ℕ) (at : Option ℕ) (keys : List ℕ) → IsChain slots at keys → length keys ≤ n → linked_row n slots at ≡ row_of slots keys
linked_is_row slots zero at [] p few = refl
linked_is_row slots zero at (key ∷ keys) p few = absurd (omega arith)
linked_is_row slots (suc n) at [] p few = subst (λ (at : Option ℕ). linked_row (suc n) slots at ≡ []) (sym p) refl
linked_is_row slots (suc n) at (key ∷ keys) p few =
    let P : Option ℕ → Type 0 = λ at. linked_row (suc n) slots at ≡ row_of slots (key ∷ keys) in
    let Q : Option Edge → Type 0 = λ edge. edge_before edge (linked_row n slots) ≡ shown edge ∷ row_of slots keys in
    subst P (sym p.1) (subst Q (sym p.2) (ap (λ (row : Row). (p.0.second.0, p.0.count) ∷ row) (linked_is_row slots n p.0.next keys p.3 (omega arith))))

each_linked : (slots : Slots) (n : ℕ) (newest : List (Option ℕ)) (links : List (List ℕ)) → length links ≡ length newest → ((i : ℕ) → IsChain slots (slice_index_or newest i None) (slice_index_or links i [])) → ((i : ℕ) → length (slice_index_or links i []) ≤ n) → map (linked_row n slots) newest ≡ map (row_of slots) links
each_linked slots n [] [] each chains few = refl
each_linked slots n [] (keys ∷ links) each chains few = absurd (omega arith)
each_linked slots n (at ∷ newest) [] each chains few = absurd (omega arith)
each_linked slots n (at ∷ newest) (keys ∷ links) each chains few =
    let head = linked_is_row slots n at keys (chains 0) (few 0) in
    let tail = each_linked slots n newest links (omega arith) (λ i. chains (suc i)) (λ i. few (suc i)) in
    cc

pub chain_short : (slots : Slots) (newest : List (Option ℕ)) (links : List (List ℕ)) → AreLinked slots newest links → (first : ℕ) → length (keys_at links first) ≤ count_by is_some slots
chain_short slots newest links linked first = omega (arith, linked.all, term_below (length {A = ℕ}) [] refl links first)

pub rows_are : (slots : Slots) (newest : List (Option ℕ)) (links : List (List ℕ)) → AreLinked slots newest links → rows_in slots newest ≡ map (row_of slots) links
rows_are slots newest links linked = each_linked slots (count_by is_some slots) newest links linked.each linked.chains (chain_short slots newest links linked)

-- a key without an edge is on no chain
pub vacant_off : (slots : Slots) (key : ℕ) → slot slots key ≡ None → (at : Option ℕ) (keys : List ℕ) → IsChain slots at keys → times_key key keys ≡ 0
vacant_off slots key none at [] p = refl
vacant_off slots key none at (other ∷ keys) p =
    let there = p.2 in
    let differ : other ≢ key = λ same. (let here : slot slots other ≡ None = subst (λ k. slot slots k ≡ None) (sym same) none in cc) in
    times_later key other keys differ ∙ vacant_off slots key none p.0.next keys p.3

pub found_none : (slots : Slots) (second : ℕ) (keys : List ℕ) → IsFound slots second keys None → leads_to (row_of slots keys) second ≡ false
found_none slots second [] p = refl
found_none slots second (key ∷ keys) p =
    let P : Option Edge → Type 0 = λ edge. leads_to (shown edge ∷ row_of slots keys) second ≡ false in
    subst P (sym p.1) (elim p.2 [
      | inl h ↦ let e = h.1 in absurd (cc)
      | inr h ↦ rw (ne_eqb p.0.second.0 second h.0) (found_none slots second keys h.1)
    ])

pub record IsEdgeAt (slots : Slots) (second : ℕ) (keys : List ℕ) (key : ℕ) : Type 0 where
  pub edge : Edge
  pub there : slot slots key ≡ Some edge
  pub leads : edge.second.0 ≡ second
  pub known : leads_to (row_of slots keys) second ≡ true
  pub times : times_in (row_of slots keys) second ≡ edge.count
  pub contained : 0 < times_key key keys

pub found_some : (slots : Slots) (second : ℕ) (keys : List ℕ) (key : ℕ) → IsFound slots second keys (Some key) → IsEdgeAt slots second keys key
found_some slots second [] key p = absurd (cc)
found_some slots second (first ∷ keys) key p =
    let P : Option Edge → Type 0 = λ edge. leads_to (shown edge ∷ row_of slots keys) second ≡ true in
    elim p.2 [
      | inl h ↦
          let e = h.1 in
          let same : first ≡ key = cc in
          let Q : Option Edge → Type 0 = λ edge. times_in (shown edge ∷ row_of slots keys) second ≡ p.0.count in
          record {
            edge = p.0;
            there = subst (λ k. slot slots k ≡ Some p.0) same p.1;
            leads = h.0;
            known = subst P (sym p.1) (rw (eq-eqb p.0.second.0 second h.0) refl);
            times = subst Q (sym p.1) (rw (eq-eqb p.0.second.0 second h.0) refl);
            contained = subst (λ k. 0 < times_key key (k ∷ keys)) (sym same) (omega (arith, times_first key keys));
          }
      | inr h ↦
          let later = found_some slots second keys key h.1 in
          let Q : Option Edge → Type 0 = λ edge. times_in (shown edge ∷ row_of slots keys) second ≡ later.edge.count in
          record {
            edge = later.edge;
            there = later.there;
            leads = later.leads;
            known = subst P (sym p.1) (rw (ne_eqb p.0.second.0 second h.0) later.known);
            times = subst Q (sym p.1) (rw (ne_eqb p.0.second.0 second h.0) later.times);
            contained = elim (cases_eq first key) [
              | inl same ↦ subst (λ k. 0 < times_key key (k ∷ keys)) (sym same) (omega (arith, times_first key keys))
              | inr differ ↦ omega (arith, times_later key first keys differ, later.contained)
            ];
          }
    ]

-- what is left of a chain once its first edge was passed
pub record IsPassed (slots : Slots) (n key : ℕ) (edge : Edge) : Type 0 where
  pub keys : List ℕ
  pub chain : IsChain slots edge.next keys
  pub few : length keys ≤ n
  pub row : linked_row n slots (Some key) ≡ (edge.second.0, edge.count) ∷ linked_row n slots edge.next

pub first_key : (slots : Slots) (key : ℕ) (keys : List ℕ) → IsChain slots (Some key) keys → (edge : Edge) × (slot slots key ≡ Some edge)
first_key slots key [] p = absurd (cc)
first_key slots key (other ∷ keys) p = let at : Some key ≡ Some other = p.1 in (p.0, subst (λ k. slot slots k ≡ Some p.0) (ap (λ (o : Option ℕ). unwrap_or o 0) (sym at)) p.2)

pub pass_first : (slots : Slots) (n key : ℕ) (edge : Edge) → slot slots key ≡ Some edge → (keys : List ℕ) → IsChain slots (Some key) keys → length keys ≤ n → IsPassed slots n key edge
pass_first slots n key edge there [] p few = absurd (cc)
pass_first slots n key edge there (other ∷ keys) p few =
    let at : Some key ≡ Some other = p.1 in
    let same : other ≡ key = ap (λ (o : Option ℕ). unwrap_or o 0) (sym at) in
    let was : slot slots key ≡ Some p.0 = subst (λ k. slot slots k ≡ Some p.0) same p.2 in
    let edges : p.0 ≡ edge = cc in
    let chain : IsChain slots edge.next keys = subst (λ (e : Edge). IsChain slots e.next keys) edges p.3 in
    let head : shown (slot slots other) ≡ (edge.second.0, edge.count) = ap shown (ap (slot slots) same ∙ there) in
    let tail = linked_is_row slots n edge.next keys chain (omega arith) in
    record {
      keys = keys;
      chain = chain;
      few = omega arith;
      row = linked_is_row slots n (Some key) (other ∷ keys) p few ∙ cc;
    }
