-- Chains of edges, and what is found along them.
use Rattle.std.proofs.Common.{◌≡◌, ◌≢◌, ℕ, zero, suc, ◌<◌, ◌≤◌, List, [], ◌∷◌, length, Option, Some, None, refl, sym, subst, inl, inr, arith}
use Rattle.fab_depgraph.specs.declared.edges.Edge.{Edge}
use Rattle.fab_depgraph.specs.Edges.{Slots, slot, IsChain, IsFound, linked_row, edge_before}

-- from a key on there is one chain at most
pub one_chain : (slots : Slots) (at : Option ℕ) (xs ys : List ℕ) → IsChain slots at xs → IsChain slots at ys → xs ≡ ys
one_chain slots at [] [] p q = refl
one_chain slots at [] (y ∷ ys) p q = let r = q.1 in cc
one_chain slots at (x ∷ xs) [] p q = let r = p.1 in cc
one_chain slots at (x ∷ xs) (y ∷ ys) p q =
    let a = p.1 in
    let b = q.1 in
    let same : y ≡ x = cc in
    let there : slot slots x ≡ Some q.0 = subst (λ k. slot slots k ≡ Some q.0) same q.2 in
    let e = p.2 in
    let same_edge : q.0 ≡ p.0 = cc in
    let rest : xs ≡ ys = one_chain slots p.0.next xs ys p.3 (subst (λ (edge : Edge). IsChain slots edge.next ys) same_edge q.3) in
    cc

pub row_length : (slots : Slots) (n : ℕ) (at : Option ℕ) (keys : List ℕ) → IsChain slots at keys → length keys ≤ n → length (linked_row n slots at) ≡ length keys
row_length slots zero at [] p few = refl
row_length slots zero at (key ∷ keys) p few = absurd (omega arith)
row_length slots (suc n) at [] p few = subst (λ (at : Option ℕ). length (linked_row (suc n) slots at) ≡ 0) (sym p) refl
row_length slots (suc n) at (key ∷ keys) p few =
    let P : Option ℕ → Type 0 = λ at. length (linked_row (suc n) slots at) ≡ length (key ∷ keys) in
    let Q : Option Edge → Type 0 = λ edge. length (edge_before edge (linked_row n slots)) ≡ length (key ∷ keys) in
    subst P (sym p.1) (subst Q (sym p.2) (omega (arith, row_length slots n p.0.next keys p.3 (omega arith))))

-- a search that has come to a key: what it finds from there on, it finds
pub record IsSeeking (slots : Slots) (count second : ℕ) (newest at : Option ℕ) : Type 0 where
  pub keys : List ℕ
  pub chain : IsChain slots at keys
  pub few : length keys ≤ count
  pub rest : (found : Option ℕ) → IsFound slots second keys found → (all : List ℕ) → IsChain slots newest all → IsFound slots second all found

module _ (slots : Slots) (count second : ℕ) (newest : Option ℕ) where
  pub seek_first : (keys : List ℕ) → IsChain slots newest keys → length keys ≤ count → IsSeeking slots count second newest newest
  seek_first keys chain few = record {
    keys = keys;
    chain = chain;
    few = few;
    rest = λ found here all whole. subst (λ (ks : List ℕ). IsFound slots second ks found) (one_chain slots newest keys all chain whole) here;
  }

  pub seek_none : IsSeeking slots count second newest None → (all : List ℕ) → IsChain slots newest all → IsFound slots second all None
  seek_none seeking = go seeking.keys seeking.chain seeking.rest
    where
      go : (keys : List ℕ) → IsChain slots None keys → ((found : Option ℕ) → IsFound slots second keys found → (all : List ℕ) → IsChain slots newest all → IsFound slots second all found) → (all : List ℕ) → IsChain slots newest all → IsFound slots second all None
      go [] chain rest = rest None refl
      go (key ∷ keys) chain rest = let e = chain.1 in absurd (cc)

  -- at a key there is an edge, and the search ends there or goes on behind it
  pub record IsAt (key : ℕ) : Type 0 where
    pub edge : Edge
    pub there : slot slots key ≡ Some edge
    pub keys : List ℕ
    pub chain : IsChain slots edge.next keys
    pub few : suc (length keys) ≤ count
    pub rest : (found : Option ℕ) → IsFound slots second (key ∷ keys) found → (all : List ℕ) → IsChain slots newest all → IsFound slots second all found

  pub seek_at : (key : ℕ) → IsSeeking slots count second newest (Some key) → IsAt key
  seek_at key seeking = go seeking.keys seeking.chain seeking.few seeking.rest
    where
      go : (keys : List ℕ) → IsChain slots (Some key) keys → length keys ≤ count → ((found : Option ℕ) → IsFound slots second keys found → (all : List ℕ) → IsChain slots newest all → IsFound slots second all found) → IsAt key
      go [] chain few rest = absurd (cc)
      go (other ∷ keys) chain few rest =
          let e = chain.1 in
          let same : other ≡ key = cc in
          record {
            edge = chain.0;
            there = subst (λ k. slot slots k ≡ Some chain.0) same chain.2;
            keys = keys;
            chain = chain.3;
            few = omega arith;
            rest = subst (λ k. (found : Option ℕ) → IsFound slots second (k ∷ keys) found → (all : List ℕ) → IsChain slots newest all → IsFound slots second all found) same rest;
          }

  pub seek_found : (key : ℕ) (edge : Edge) → IsSeeking slots count second newest (Some key) → slot slots key ≡ Some edge → edge.second.0 ≡ second → (all : List ℕ) → IsChain slots newest all → IsFound slots second all (Some key)
  seek_found key edge seeking there same = (seek_at key seeking).rest (Some key) (edge, there, inl (same, refl))

  pub seek_next : (key : ℕ) (edge : Edge) → IsSeeking slots count second newest (Some key) → slot slots key ≡ Some edge → edge.second.0 ≢ second → IsSeeking slots count second newest edge.next
  seek_next key edge seeking there differs =
      let at = seek_at key seeking in
      let was = at.there in
      let same : at.edge ≡ edge = cc in
      record {
        keys = at.keys;
        chain = subst (λ (e : Edge). IsChain slots e.next at.keys) same at.chain;
        few = omega (arith, at.few);
        rest = λ found here. at.rest found (edge, there, inr (differs, here));
      }

  pub seek_falls : (key : ℕ) (edge : Edge) → IsSeeking slots count second newest (Some key) → slot slots key ≡ Some edge → length (linked_row count slots edge.next) < length (linked_row count slots (Some key))
  seek_falls key edge seeking there =
      let at = seek_at key seeking in
      let was = at.there in
      let same : at.edge ≡ edge = cc in
      let chain : IsChain slots edge.next at.keys = subst (λ (e : Edge). IsChain slots e.next at.keys) same at.chain in
      omega (arith, at.few, row_length slots count edge.next at.keys chain (omega (arith, at.few)), row_length slots count (Some key) (key ∷ at.keys) (edge, refl, there, chain) at.few)
