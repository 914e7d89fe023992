-- A turn is taken: by what became of the packet, who is ready and who waits.
use Rattle.std.proofs.Common.{◌≡◌, ℕ, suc, ◌<◌, inl, inr, List, [], ◌∷◌, ◌++◌, length, sym, ◌∙◌, ap, subst, arith, All, Contains, Some, None, nat_cmp}
use Rattle.std.specs.Prelude.{slice_index_or, slice_set}
use Rattle.std.specs.BTreeSet.{insert_key}
use Rattle.std.proofs.Math.ListN.{length-set}
use Rattle.std.proofs.lemmas.List.Elements.{All-cons}
use Rattle.fab_model.specs.Topology.{Topology}
use Rattle.fab_tables.specs.declared.plan.Plan.{Plan}
use Rattle.fab_tables.specs.declared.verdict.VirtualChannel.{VirtualChannel}
use Rattle.fab_tables.specs.Dependencies.{node_of}
use Rattle.fab_tables.proofs.Rows.Cells.{unsome}
use Rattle.fab_drain.specs.declared.packet.Moved.TheVariants.{Went, Left, Waits, Nothing}
use Rattle.fab_certify.specs.Certificate.{IsSoundPlan}
use Rattle.fab_drain.specs.Loads.{Load, IsPlace, with_cell, channel_of_cell, IsLoad}
use Rattle.fab_drain.specs.Moves.{next_at}
use Rattle.fab_drain.specs.Turns.{AreTurns, AreWoken}
use Rattle.fab_drain.proofs.Advancing.{Outcome}
use Rattle.fab_drain.proofs.Moving.{next_place}
use Rattle.fab_drain.proofs.Readying.{inserted_still, inserted_there, inserted_low}
use Rattle.fab_drain.proofs.Rings.{here_or_later, later}
use Rattle.fab_drain.proofs.Turning.{more_ready, number_low, nothing_there, waits_now, leaves, comes}

module _ (t : Topology) (p : Plan) (load new : Load) (good : IsLoad t p load) (admitted : IsSoundPlan t p) (number : ℕ) (ready : List ℕ) (waiting : List (List ℕ)) (turns : AreTurns t p load (number ∷ ready) waiting) where
  abbrev v : VirtualChannel
  v = channel_of_cell load.count number

  pub turn_nothing : Outcome t p load v Nothing new → AreTurns t p new ready waiting
  turn_nothing x = subst (λ l. AreTurns t p l ready waiting) (sym x.1) (nothing_there t p load good number ready waiting turns x.0)

  pub turn_waits : (u : VirtualChannel) (awaited : ℕ) → Outcome t p load v Waits new → next_at t p load v ≡ Some u → awaited ≡ node_of new.count u →
      AreTurns t p new ready (slice_set waiting awaited (slice_index_or waiting awaited [] ++ number ∷ []))
  turn_waits u awaited x after is =
      let same : u ≡ x.0 = unsome u x.0 (sym after ∙ x.2) in
      let at : awaited ≡ node_of load.count x.0 = is ∙ ap (λ (l : Load). node_of l.count u) x.3 ∙ ap (λ w. node_of load.count w) same in
      subst (λ l. AreTurns t p l ready (slice_set waiting awaited (slice_index_or waiting awaited [] ++ number ∷ []))) (sym x.3)
      (subst (λ n. AreTurns t p load ready (slice_set waiting n (slice_index_or waiting n [] ++ number ∷ []))) (sym at) (waits_now t p load good number ready waiting turns x.0 x.1))

  pub awaited_low : (u : VirtualChannel) → Outcome t p load v Waits new → next_at t p load v ≡ Some u → node_of new.count u < length new.cells
  awaited_low u x after =
      let same : x.0 ≡ u = unsome x.0 u (sym x.2 ∙ after) in
      let at : IsPlace load x.0 = next_place t p load good.fabric admitted good v x.0 x.1.0 x.1.1 x.1.2 in
      subst (λ (l : Load). node_of l.count u < length l.cells) (sym x.3) (subst (λ w. node_of load.count w < length load.cells) same at.1)

  pub turn_leaves : (ready' : List ℕ) (waiting' : List (List ℕ)) → Outcome t p load v Left new → AreWoken number ready ready' waiting waiting' → AreTurns t p new ready' waiting'
  turn_leaves ready' waiting' x woken = subst (λ l. AreTurns t p l ready' waiting') (sym x.2) (leaves t p load good number ready waiting turns ready' waiting' woken)

  pub reached_low : (u : VirtualChannel) → Outcome t p load v Went new → next_at t p load v ≡ Some u → node_of new.count u < length new.cells
  reached_low u x after =
      let same : x.1 ≡ u = unsome x.1 u (sym x.4 ∙ after) in
      let at : IsPlace load x.1 = next_place t p load good.fabric admitted good v x.1 x.0 x.3 x.5 in
      let between : Load = with_cell load v None in
      let lengths : length (with_cell between x.1 (Some x.2)).cells ≡ length load.cells = length-set between.cells (node_of load.count x.1) (Some x.2) ∙ length-set load.cells (node_of load.count v) None in
      subst (λ (l : Load). node_of l.count u < length l.cells) (sym x.6) (subst (λ w. node_of load.count w < length (with_cell between x.1 (Some x.2)).cells) same (omega (arith, at.1, lengths)))

  pub turn_goes : (u : VirtualChannel) (reached : ℕ) (ready' : List ℕ) (waiting' : List (List ℕ)) → Outcome t p load v Went new → next_at t p load v ≡ Some u → reached ≡ node_of new.count u →
      AreWoken number (insert_key nat_cmp ready reached) ready' waiting waiting' → AreTurns t p new ready' waiting'
  turn_goes u reached ready' waiting' x after is woken =
      let same : u ≡ x.1 = unsome u x.1 (sym after ∙ x.4) in
      let counts : new.count ≡ load.count = ap (λ (l : Load). l.count) x.6 in
      let node : reached ≡ node_of load.count x.1 = is ∙ ap (λ n. node_of n u) counts ∙ ap (λ w. node_of load.count w) same in
      let at : IsPlace load x.1 = next_place t p load good.fabric admitted good v x.1 x.0 x.3 x.5 in
      let low : reached < length load.cells = omega (arith, node, at.1) in
      let between : Load = with_cell load v None in
      let rest : All (λ k. k < length load.cells) ready = λ k d h. turns.ready_low (suc k) d (omega (arith, h)) in
      let all_low : All (λ k. k < length load.cells) (number ∷ insert_key nat_cmp ready reached) =
      All-cons (λ k. k < length load.cells) number (insert_key nat_cmp ready reached) (number_low t p load good number ready waiting turns) (inserted_low (length load.cells) reached ready rest low) in
      let more : AreTurns t p load (number ∷ insert_key nat_cmp ready reached) waiting = more_ready t p load (number ∷ ready) (number ∷ insert_key nat_cmp ready reached) waiting turns still all_low in
      let left : AreTurns t p between ready' waiting' = leaves t p load good number (insert_key nat_cmp ready reached) waiting more ready' waiting' woken in
      let place : IsPlace between x.1 = (at.0, omega (arith, at.1, length-set load.cells (node_of load.count v) None)) in
      let there : Contains ready' (node_of load.count x.1) = subst (λ n. Contains ready' n) node (woken.still reached (inserted_there ready reached)) in
      subst (λ l. AreTurns t p l ready' waiting') (sym x.6) (comes t p between x.1 x.2 ready' waiting' place left there)
    where
      still : (k : ℕ) → Contains (number ∷ ready) k → Contains (number ∷ insert_key nat_cmp ready reached) k
      still k has = elim (here_or_later number ready k has) [
        | inl e ↦ (0, omega arith, e)
        | inr d ↦ later number (insert_key nat_cmp ready reached) k (inserted_still ready reached k d)
      ]
