-- Whether a switch is connected to another, or to a LID, is decided.
use Rattle.std.proofs.Common.{◌≡◌, ℕ, ◌⊎◌, inl, inr, List, [], ◌∷◌, map, Option, Some, None, refl, sym, ◌∙◌, ap, subst, arith, Contains}
use Rattle.std.proofs.lemmas.Option.{none-some, same_Some}
use Rattle.fab_graph.specs.Walks.{Walk, IsEdge}
use Rattle.fab_graph.proofs.Decided.{Decided, equivalent, either}
use Rattle.fab_graph.proofs.FirstRings.{comes_decided}
use Rattle.fab_graph.proofs.Members.{first, later, first_or_later}
use Rattle.fab_graph.proofs.Parts.{walk_in}
use Rattle.fab_model.specs.declared.rows.ChannelRow.{ChannelRow}
use Rattle.fab_model.specs.declared.rows.Place.{Place}
use Rattle.fab_model.specs.Topology.{Topology, place_of}
use Rattle.fab_model.specs.Connected.{LeadsTo, AreConnected, IsConnectedTo}

-- whether a list has an element of which a decided fact holds
pub some_decided : {A : Type 0} (Q : A → Type 0) → ((a : A) → Decided (Q a)) → (xs : List A) → Decided ((a : A) × Contains xs a × Q a)
some_decided Q decide [] = inr (λ s. omega (arith, s.1.1))
some_decided {A} Q decide (x ∷ xs) =
    equivalent (Q x ⊎ ((a : A) × Contains xs a × Q a)) ((a : A) × Contains (x ∷ xs) a × Q a) here (λ s. there s.0 s.2 (first_or_later x xs s.0 s.1))
    (either (Q x) ((a : A) × Contains xs a × Q a) (decide x) (some_decided Q decide xs))
  where
    here : Q x ⊎ ((a : A) × Contains xs a × Q a) → (a : A) × Contains (x ∷ xs) a × Q a
    here (inl q) = (x, first x xs, q)
    here (inr s) = (s.0, later x xs s.0 s.1, s.2)

    there : (a : A) → Q a → (x ≡ a) ⊎ Contains xs a → Q x ⊎ ((a : A) × Contains xs a × Q a)
    there a q (inl e) = inl (subst Q (sym e) q)
    there a q (inr has) = inr (a, has, q)

-- the elements of a list's image
module _ {A B : Type 0} (f : A → B) where
  pub image_has : (xs : List A) (a : A) → Contains xs a → Contains (map f xs) (f a)
  image_has [] a has = absurd (omega (arith, has.1))
  image_has (x ∷ xs) a has = elim (first_or_later x xs a has) [
    | inl e ↦ subst (λ y. Contains (map f (x ∷ xs)) (f y)) e (first (f x) (map f xs))
    | inr there ↦ later (f x) (map f xs) (f a) (image_has xs a there)
  ]

  pub image_of : (xs : List A) (b : B) → Contains (map f xs) b → (a : A) × Contains xs a × (f a ≡ b)
  image_of [] b has = absurd (omega (arith, has.1))
  image_of (x ∷ xs) b has = here_or_there (image_of xs b) (first_or_later (f x) (map f xs) b has)
    where
      here_or_there : (Contains (map f xs) b → (a : A) × Contains xs a × (f a ≡ b)) → (f x ≡ b) ⊎ Contains (map f xs) b → (a : A) × Contains (x ∷ xs) a × (f a ≡ b)
      here_or_there go (inl e) = (x, first x xs, e)
      here_or_there go (inr there) = let r : (a : A) × Contains xs a × (f a ≡ b) = go there in (r.0, later x xs r.0 r.1, r.2)

-- the graph of a fabric's channels, as a list of edges
abbrev edge_of : ChannelRow → ℕ × ℕ
edge_of row = (row.tail.0, row.tip.0)

module _ (t : Topology) where
  edges : List (ℕ × ℕ)
  edges = map edge_of t.channels

  to_edge : (a b : ℕ) → LeadsTo t a b → IsEdge edges a b
  unfolding edges
  to_edge a b leads = subst (λ (p : ℕ × ℕ). Contains (map edge_of t.channels) p) (cc) (image_has edge_of t.channels leads.0 leads.1)

  from_edge : (a b : ℕ) → IsEdge edges a b → LeadsTo t a b
  unfolding edges
  from_edge a b has =
      let row : (row : ChannelRow) × Contains t.channels row × (edge_of row ≡ (a, b)) = image_of edge_of t.channels (a, b) has in
      (row.0, row.1, ap (λ (p : ℕ × ℕ). p.0) row.2, ap (λ (p : ℕ × ℕ). p.1) row.2)

  pub connected_decided : (a b : ℕ) → Decided (AreConnected t a b)
  connected_decided a b = equivalent ((n : ℕ) × Walk (IsEdge edges) n a b) (AreConnected t a b)
      (λ w. (w.0, walk_in (IsEdge edges) (LeadsTo t) from_edge w.0 a b w.1))
      (λ w. (w.0, walk_in (LeadsTo t) (IsEdge edges) to_edge w.0 a b w.1))
      (comes_decided edges a b)

  pub connected_to_decided : (s lid : ℕ) → Decided (IsConnectedTo t s lid)
  connected_to_decided s lid = by_place (place_of t lid) refl
    where
      by_place : (o : Option Place) → place_of t lid ≡ o → Decided (IsConnectedTo t s lid)
      by_place None e = inr (λ c. none-some c.0 (sym e ∙ c.1))
      by_place (Some home) e = equivalent (AreConnected t s home.switch.0) (IsConnectedTo t s lid) (λ w. (home, e, w))
          (λ c. subst (λ (p : Place). AreConnected t s p.switch.0) (same_Some c.0 home (sym c.1 ∙ e)) c.2) (connected_decided s home.switch.0)
