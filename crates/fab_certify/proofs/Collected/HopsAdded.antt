-- A hop is added to what is collected.
use Rattle.std.proofs.Common.{◌≡◌, ◌≢◌, ℕ, zero, suc, ◌<◌, Bool, true, false, List, [], ◌∷◌, ◌++◌, length, refl, sym, ◌∙◌, ap, subst, inl, inr, ◌⊎◌, arith, Contains, Some, None, get_or-set_same, get_or-set_other, Result, Ok, Err}
use Rattle.std.specs.Prelude.{slice_index_or, slice_set, OnOk, OnErr}
use Rattle.std.proofs.lemmas.Bool.{cases_eq}
use Rattle.std.proofs.lemmas.List.{length-set}
use Rattle.std.proofs.lemmas.List.Elements.{Contains-append_left, Contains-append_right, Contains-append_cases}
use Rattle.fab_graph.specs.Walks.{IsEdge}
use Rattle.fab_rings.specs.EdgeList.{EdgeList}
use Rattle.fab_certify.specs.Collected.{AreFollowers, AddsHop}

in_one : {A : Type 0} (x y : A) → Contains (x ∷ []) y → y ≡ x
in_one x y (zero, low, is) = sym is
in_one x y (suc k, low, is) = absurd (omega (arith, low))

module _ (used : List Bool) (node : ℕ) (low : node < length used) where
  marked : slice_index_or (slice_set used node true) node false ≡ true
  marked = get_or-set_same used node true false low

  elsewhere : (n : ℕ) → n ≢ node → slice_index_or (slice_set used node true) n false ≡ slice_index_or used n false
  elsewhere n ne = get_or-set_other used node n true false ne

  still_marked : (n : ℕ) → slice_index_or used n false ≡ true → slice_index_or (slice_set used node true) n false ≡ true
  still_marked n was = elim (cases_eq n node) [ inl same ↦ ap (λ k. slice_index_or (slice_set used node true) k false) same ∙ marked | inr ne ↦ elsewhere n ne ∙ was ]

  marked_only : (n : ℕ) → slice_index_or (slice_set used node true) n false ≡ true → (slice_index_or used n false ≡ true) ⊎ (n ≡ node)
  marked_only n is = elim (cases_eq n node) [ inl same ↦ inr same | inr ne ↦ inl (sym (elsewhere n ne) ∙ is) ]

  -- the first hop of a route depends on none
  pub adds_first : (pairs : List (ℕ × ℕ)) → AddsHop None node (record { used = used; pairs = pairs }) (record { used = slice_set used node true; pairs = pairs })
  adds_first pairs = record {
    grows = record { each = length-set used node true; used = still_marked; pairs = λ x has. has };
    marked = marked;
    marked_only = marked_only;
    paired = tt;
    paired_only = λ x has. inl has;
  }

  -- the pair stands already
  pub adds_again : (pairs : List (ℕ × ℕ)) (first : ℕ) → Contains pairs (first, node) → AddsHop (Some first) node (record { used = used; pairs = pairs }) (record { used = slice_set used node true; pairs = pairs })
  adds_again pairs first has = record {
    grows = record { each = length-set used node true; used = still_marked; pairs = λ x had. had };
    marked = marked;
    marked_only = marked_only;
    paired = has;
    paired_only = λ x had. inl had;
  }

  -- it is new
  pub adds_next : (pairs : List (ℕ × ℕ)) (first : ℕ) → AddsHop (Some first) node (record { used = used; pairs = pairs }) (record { used = slice_set used node true; pairs = pairs ++ (first, node) ∷ [] })
  adds_next pairs first = record {
    grows = record { each = length-set used node true; used = still_marked; pairs = λ x had. Contains-append_left pairs ((first, node) ∷ []) x had };
    marked = marked;
    marked_only = marked_only;
    paired = Contains-append_right pairs ((first, node) ∷ []) (first, node) (0, omega arith, refl);
    paired_only = λ x had. elim (Contains-append_cases pairs ((first, node) ∷ []) x had) [
      | inl before ↦ inl before
      | inr here ↦ (let same : x ≡ (first, node) = in_one (first, node) x here in inr (ap (λ (y : ℕ × ℕ). Some y.0) (sym same), ap (λ (y : ℕ × ℕ). y.1) same))
    ];
  }

-- the lists of followers stay edges
module _ (used : List Bool) (g : EdgeList) (followers : List (List ℕ)) (are : AreFollowers used g followers) where
  pub followers_still : (node : ℕ) → AreFollowers (slice_set used node true) g followers
  followers_still node = record { nodes = are.nodes ∙ sym (length-set used node true); lists = are.lists ∙ sym (length-set used node true); edges = are.edges }

  -- an edge is added
  pub followers_edge : (node : ℕ) (x : ℕ × ℕ) → AreFollowers (slice_set used node true) (record g { edges = g.edges ++ x ∷ [] }) followers
  followers_edge node x = record {
    nodes = are.nodes ∙ sym (length-set used node true);
    lists = are.lists ∙ sym (length-set used node true);
    edges = λ a b has. Contains-append_left g.edges (x ∷ []) (a, b) (are.edges a b has);
  }

  -- and its follower
  pub followers_next : (node first : ℕ) → first < length used →
      AreFollowers (slice_set used node true) (record g { edges = g.edges ++ (first, node) ∷ [] }) (slice_set followers first (slice_index_or followers first [] ++ node ∷ []))
  followers_next node first low = record {
    nodes = are.nodes ∙ sym (length-set used node true);
    lists = length-set followers first here ∙ are.lists ∙ sym (length-set used node true);
    edges = λ a b has. elim (cases_eq a first) [
      | inr other ↦ Contains-append_left g.edges ((first, node) ∷ []) (a, b) (are.edges a b (subst (λ xs. Contains xs b) (get_or-set_other followers first a here [] other) has))
      | inl same ↦
          elim (Contains-append_cases (slice_index_or followers first []) (node ∷ []) b (subst (λ xs. Contains xs b) (ap (λ n. slice_index_or (slice_set followers first here) n []) same ∙ get_or-set_same followers first here [] (omega (arith, low, are.lists))) has)) [
            | inl before ↦ Contains-append_left g.edges ((first, node) ∷ []) (a, b) (subst (λ n. IsEdge g.edges n b) (sym same) (are.edges first b before))
            | inr new ↦
                (let there : b ≡ node = in_one node b new in
                Contains-append_right g.edges ((first, node) ∷ []) (a, b) (0, omega arith, ap (λ (n : ℕ). (n, node)) (sym same) ∙ ap (λ (n : ℕ). (a, n)) (sym there)))
          ]
    ];
  }
    where
      here : List ℕ
      here = slice_index_or followers first [] ++ node ∷ []

  -- as the pushes answer
  pub edge_pushed : {T E : Type 0} (node first : ℕ) (r : Result T E) (new : EdgeList) → OnOk r (new ≡ record g { edges = g.edges ++ (first, node) ∷ [] }) → OnErr r (new ≡ g) → AreFollowers (slice_set used node true) new followers
  edge_pushed node first (Ok x) new ok err = subst (λ (h : EdgeList). AreFollowers (slice_set used node true) h followers) (sym ok) (followers_edge node (first, node))
  edge_pushed node first (Err x) new ok err = subst (λ (h : EdgeList). AreFollowers (slice_set used node true) h followers) (sym err) (followers_still node)

  pub follower_pushed : {T E : Type 0} (node first : ℕ) → first < length used → (h : EdgeList) → h ≡ record g { edges = g.edges ++ (first, node) ∷ [] } → (r : Result T E) (new : List (List ℕ)) →
      OnOk r (new ≡ slice_set followers first (slice_index_or followers first [] ++ node ∷ [])) → OnErr r (new ≡ followers) → AreFollowers (slice_set used node true) h new
  follower_pushed node first low h is (Ok x) new ok err =
      subst (λ (k : EdgeList). AreFollowers (slice_set used node true) k new) (sym is) (subst (λ ls. AreFollowers (slice_set used node true) (record g { edges = g.edges ++ (first, node) ∷ [] }) ls) (sym ok) (followers_next node first low))
  follower_pushed node first low h is (Err x) new ok err =
      subst (λ (k : EdgeList). AreFollowers (slice_set used node true) k new) (sym is) (subst (λ ls. AreFollowers (slice_set used node true) (record g { edges = g.edges ++ (first, node) ∷ [] }) ls) (sym err) (followers_edge node (first, node)))
