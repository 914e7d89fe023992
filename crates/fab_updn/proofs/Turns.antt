-- Turns that don't go down and then up close no walk.
use Rattle.std.proofs.Common.{◌≡◌, ◌≢◌, ℕ, zero, suc, ◌<◌, ◌⊎◌, inl, inr, sym, ◌∙◌, subst, arith, List, length, Some, slice_get}
use Rattle.std.proofs.lemmas.Option.{same_Some}
use Rattle.std.proofs.lemmas.Grind.{same_number_lists}
use Rattle.fab_graph.specs.Walks.{Walk, IsAcyclic}
use Rattle.fab_graph.proofs.Graphs.{one_least}
use Rattle.fab_model.specs.declared.rows.SwitchId.{SwitchId}
use Rattle.fab_model.specs.declared.rows.ChannelRow.{ChannelRow}
use Rattle.fab_model.specs.Topology.{Topology}
use Rattle.fab_updn.specs.Ranks.{IsAtRoot, HasSmallerKey, GoesUp, GoesDown}
use Rattle.fab_updn.specs.Laws.{OneRank, OneListOfRanks, IsLegalTurn, LegalTurnsAreAcyclic}

pub one_rank : OneRank
one_rank t named s m n x y = one_least (λ k. IsAtRoot t named s k) m n x y

pub one_list_of_ranks : OneListOfRanks
one_list_of_ranks t named x y p q = same_number_lists x y (p.whole ∙ sym q.whole) (λ k low. let within : k < length t.switches = omega (arith, low, p.whole) in one_rank t named k _ _ (p.each k within) (q.each k within))

module _ (t : Topology) (ranks : List ℕ) where
  -- the order of the keys
  abbrev Less : ℕ → ℕ → Type 0
  Less a b = HasSmallerKey ranks a b

  less-trans : (a b c : ℕ) → Less a b → Less b c → Less a c
  less-trans a b c p q = grind (arith)

  less-self : (a : ℕ) → Less a a → ⊥
  less-self a p = grind (arith)

  less-total : (a b : ℕ) → a ≢ b → Less a b ⊎ Less b a
  less-total a b differ = grind (arith)

  pub up_or_down : (row : ChannelRow) → row.tail.0 ≢ row.tip.0 → GoesUp ranks row ⊎ (GoesDown ranks row × Less row.tail.0 row.tip.0)
  up_or_down row other = elim (less-total row.tip.0 row.tail.0 (λ e. other (sym e))) [
    | inl up ↦ inl up
    | inr down ↦ inr ((λ up. less-self row.tip.0 (less-trans row.tip.0 row.tail.0 row.tip.0 up down)), down)
  ]

  -- the channel goes down from a greater key
  abbrev IsDownFrom : ℕ → ℕ → Type 0
  IsDownFrom d s = (last : ChannelRow) × (slice_get t.channels d ≡ Some last) × GoesDown ranks last × Less s last.tail.0

  -- after a channel that goes down comes one that goes down, from a greater key
  down_turn : (c x : ℕ) (row : ChannelRow) → slice_get t.channels c ≡ Some row → GoesDown ranks row → IsLegalTurn t ranks c x → IsDownFrom x row.tail.0
  down_turn c x row is down turn = (turn.1, turn.3, next_down turn.7, less)
    where
      same : turn.0 ≡ row
      same = same_Some turn.0 row (sym turn.2 ∙ is)

      not_up : GoesUp ranks turn.0 → ⊥
      not_up up = down (let P : ChannelRow → Type 0 = λ r. GoesUp ranks r in subst P same up)

      next_down : GoesUp ranks turn.0 ⊎ GoesDown ranks turn.1 → GoesDown ranks turn.1
      next_down (inl up) = absurd (not_up up)
      next_down (inr y) = y

      rises : GoesUp ranks turn.0 ⊎ (GoesDown ranks turn.0 × Less turn.0.tail.0 turn.0.tip.0) → Less turn.0.tail.0 turn.0.tip.0
      rises (inl up) = absurd (not_up up)
      rises (inr y) = y.1

      less : Less row.tail.0 turn.1.tail.0
      less =
          let P : ChannelRow → Type 0 = λ r. Less r.tail.0 turn.1.tail.0 in
          let Q : SwitchId → Type 0 = λ s. Less turn.0.tail.0 s.0 in
          subst P same (subst Q turn.4 (rises (up_or_down turn.0 turn.5)))

  -- after a channel that goes up the next one begins at a smaller key
  up_turn : (c x : ℕ) (row : ChannelRow) → slice_get t.channels c ≡ Some row → GoesUp ranks row → (turn : IsLegalTurn t ranks c x) → Less turn.1.tail.0 row.tail.0
  up_turn c x row is up turn =
      let same : row ≡ turn.0 = same_Some row turn.0 (sym is ∙ turn.2) in
      let P : ChannelRow → Type 0 = λ r. GoesUp ranks r in
      let Q : SwitchId → Type 0 = λ s. Less s.0 turn.0.tail.0 in
      let R : ChannelRow → Type 0 = λ r. Less turn.1.tail.0 r.tail.0 in
      subst R (sym same) (subst Q turn.4 (subst P same up))

  down_walk : (n c d : ℕ) (row : ChannelRow) → slice_get t.channels c ≡ Some row → GoesDown ranks row → Walk (IsLegalTurn t ranks) (suc n) c d → IsDownFrom d row.tail.0
  down_walk zero c d row is down w = let P : ℕ → Type 0 = λ x. IsDownFrom x row.tail.0 in subst P w.2 (down_turn c w.0 row is down w.1)
  down_walk (suc n) c d row is down w =
      let first : IsDownFrom w.0 row.tail.0 = down_turn c w.0 row is down w.1 in
      let rest : IsDownFrom d first.0.tail.0 = down_walk n w.0 d first.0 first.1 first.2 w.2 in
      (rest.0, rest.1, rest.2, less-trans row.tail.0 first.0.tail.0 rest.0.tail.0 first.3 rest.3)

  -- the last channel goes down, or begins at a smaller key
  abbrev EndsLower : ℕ → ℕ → Type 0
  EndsLower d s = (last : ChannelRow) × (slice_get t.channels d ≡ Some last) × (GoesDown ranks last ⊎ Less last.tail.0 s)

  lower : (d a b : ℕ) → Less a b → EndsLower d a → EndsLower d b
  lower d a b h ends = (ends.0, ends.1, either ends.2)
    where
      either : GoesDown ranks ends.0 ⊎ Less ends.0.tail.0 a → GoesDown ranks ends.0 ⊎ Less ends.0.tail.0 b
      either (inl down) = inl down
      either (inr less) = inr (less-trans ends.0.tail.0 a b less h)

  from_down : (d s : ℕ) → IsDownFrom d s → EndsLower d s
  from_down d s x = (x.0, x.1, inl x.2)

  any_walk : (n c d : ℕ) (row : ChannelRow) → slice_get t.channels c ≡ Some row → Walk (IsLegalTurn t ranks) (suc n) c d → EndsLower d row.tail.0
  any_walk zero c d row is w = go (up_or_down w.1.0 w.1.5)
    where
      same : w.1.0 ≡ row
      same = same_Some w.1.0 row (sym w.1.2 ∙ is)

      go : GoesUp ranks w.1.0 ⊎ (GoesDown ranks w.1.0 × Less w.1.0.tail.0 w.1.0.tip.0) → EndsLower d row.tail.0
      go (inl up) =
          let P : ChannelRow → Type 0 = λ r. GoesUp ranks r in
          let Q : ℕ → Type 0 = λ x. EndsLower x row.tail.0 in
          subst Q w.2 (w.1.1, w.1.3, inr (up_turn c w.0 row is (subst P same up) w.1))
      go (inr down) = let P : ChannelRow → Type 0 = λ r. GoesDown ranks r in from_down d row.tail.0 (down_walk zero c d row is (subst P same down.0) w)
  any_walk (suc n) c d row is w = go (any_walk n w.0 d w.1.1 w.1.3 w.2) (up_or_down w.1.0 w.1.5)
    where
      same : w.1.0 ≡ row
      same = same_Some w.1.0 row (sym w.1.2 ∙ is)

      go : EndsLower d w.1.1.tail.0 → GoesUp ranks w.1.0 ⊎ (GoesDown ranks w.1.0 × Less w.1.0.tail.0 w.1.0.tip.0) → EndsLower d row.tail.0
      go rest (inl up) = let P : ChannelRow → Type 0 = λ r. GoesUp ranks r in lower d w.1.1.tail.0 row.tail.0 (up_turn c w.0 row is (subst P same up) w.1) rest
      go rest (inr down) = let P : ChannelRow → Type 0 = λ r. GoesDown ranks r in from_down d row.tail.0 (down_walk (suc n) c d row is (subst P same down.0) w)

  closes_none : IsAcyclic (IsLegalTurn t ranks)
  closes_none c closed = go (up_or_down row closed.1.1.5)
    where
      row : ChannelRow
      row = closed.1.1.0

      is : slice_get t.channels c ≡ Some row
      is = closed.1.1.2

      ends : EndsLower c row.tail.0
      ends = any_walk closed.0 c c row is closed.1

      again : ends.0 ≡ row
      again = same_Some ends.0 row (sym ends.1 ∙ is)

      falls : GoesUp ranks row → GoesDown ranks ends.0 ⊎ Less ends.0.tail.0 row.tail.0 → ⊥
      falls up (inl down) = let P : ChannelRow → Type 0 = λ r. GoesDown ranks r in subst P again down up
      falls up (inr less) = let P : ChannelRow → Type 0 = λ r. Less r.tail.0 row.tail.0 in less-self row.tail.0 (subst P again less)

      go : GoesUp ranks row ⊎ (GoesDown ranks row × Less row.tail.0 row.tip.0) → ⊥
      go (inl up) = falls up ends.2
      go (inr down) =
          let last : IsDownFrom c row.tail.0 = down_walk closed.0 c c row is down.0 closed.1 in
          let same : last.0 ≡ row = same_Some last.0 row (sym last.1 ∙ is) in
          let P : ChannelRow → Type 0 = λ r. Less row.tail.0 r.tail.0 in
          less-self row.tail.0 (subst P same last.3)

pub legal_turns_are_acyclic : LegalTurnsAreAcyclic
legal_turns_are_acyclic t ranks = closes_none t ranks
