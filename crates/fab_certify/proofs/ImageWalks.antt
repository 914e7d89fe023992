-- Closed walks on the numbers of nodes, where numbers tell the nodes of edges apart, come from closed walks of the nodes.
use Rattle.std.proofs.Common.{◌≡◌, ℕ, zero, suc, refl, sym, ◌∙◌, subst}
use Rattle.fab_graph.specs.Walks.{Walk, IsOnClosedWalk, HasClosedWalk, Image}

module _ {A : Type 0} (R : A → A → Type 0) (number : A → ℕ) (apart : (a b c d : A) → R a b → R c d → number b ≡ number c → b ≡ c) where
  -- a walk of the nodes with these numbers, and an edge to its end
  abbrev IsLifted : ℕ → ℕ → ℕ → Type 0
  IsLifted n m k = (a b : A) × Walk R (suc n) a b × (number a ≡ m) × (number b ≡ k) × ((c : A) × R c b)

  lifted : (n m k : ℕ) → Walk (Image number R) (suc n) m k → IsLifted n m k
  lifted zero m k w = (w.1.0, w.1.1, (w.1.1, w.1.2, refl), w.1.3, w.1.4 ∙ w.2, (w.1.0, w.1.2))
  lifted (suc n) m k w =
      let rest : IsLifted n w.0 k = lifted n w.0 k w.2 in
      let same : w.1.1 ≡ rest.0 = apart w.1.0 w.1.1 rest.0 rest.2.0 w.1.2 rest.2.1 (w.1.4 ∙ sym rest.3) in
      (w.1.0, rest.1, (w.1.1, w.1.2, subst (λ x. Walk R (suc n) x rest.1) (sym same) rest.2), w.1.3, rest.4, rest.5)

  pub closed_of_image : (m : ℕ) → IsOnClosedWalk (Image number R) m → HasClosedWalk R
  closed_of_image m closed =
      let w : IsLifted closed.0 m m = lifted closed.0 m m closed.1 in
      let same : w.1 ≡ w.0 = apart w.5.0 w.1 w.0 w.2.0 w.5.1 w.2.1 (w.4 ∙ sym w.3) in
      (w.0, (closed.0, subst (λ x. Walk R (suc closed.0) w.0 x) same w.2))
