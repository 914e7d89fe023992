-- What a move does, case by case.
use Rattle.std.proofs.Common.{◌≡◌, ◌+◌, ◌-◌, length, refl, sym, ◌∙◌, ap, subst, arith, Some, None, Option}
use Rattle.std.specs.Prelude.{is_some}
use Rattle.fab_model.specs.Topology.{Topology}
use Rattle.fab_tables.specs.declared.plan.Plan.{Plan}
use Rattle.fab_tables.specs.declared.verdict.VirtualChannel.{VirtualChannel}
use Rattle.fab_drain.specs.declared.packet.Moved.{Moved}
use Rattle.fab_drain.specs.declared.packet.Moved.TheVariants.{Went, Left, Waits, Nothing}
use Rattle.fab_drain.specs.Loads.{hops_of, next_of, Load, Loaded, loaded_at, loaded_with, with_cell, StandsOn}
use Rattle.fab_drain.specs.Moves.{one_on, went_to, moved_on, moved_from, advanced, next_from, next_at, IsMove, MayMove, Awaits}

module _ (t : Topology) (p : Plan) (load : Load) (v : VirtualChannel) where
  pub nothing_moves : loaded_at load v ≡ None → advanced t p load v ≡ (Nothing, load)
  nothing_moves e = ap (λ o. moved_from t p load v o) e

  module _ (x : Loaded) (e : loaded_at load v ≡ Some x) where
    pub next_is : next_at t p load v ≡ next_of t p x.packet
    next_is = ap (λ o. next_from t p o) e

    pub it_leaves : next_at t p load v ≡ None → advanced t p load v ≡ (Left, with_cell load v None)
    it_leaves after = ap (λ o. moved_from t p load v o) e ∙ ap (λ o. moved_on t p load v x o) (sym next_is ∙ after)

    module _ (w : VirtualChannel) (after : next_at t p load v ≡ Some w) where
      pub it_waits : (y : Loaded) → loaded_at load w ≡ Some y → advanced t p load v ≡ (Waits, load)
      it_waits y f = ap (λ o. moved_from t p load v o) e ∙ ap (λ o. moved_on t p load v x o) (sym next_is ∙ after) ∙ ap (λ o. went_to t p load v x w o) f

      pub one_further : StandsOn t p v x → (record { packet = one_on x.packet; remaining = x.remaining - 1 }) ≡ loaded_with t p (one_on x.packet)
      one_further stands =
          let same : x.remaining - 1 ≡ length (hops_of t p x.packet) - (x.packet.position + 1) = omega (arith, stands.remaining) in
          ap (λ n. record { packet = one_on x.packet; remaining = n }) same

      pub it_goes : StandsOn t p v x → loaded_at load w ≡ None →
          advanced t p load v ≡ (Went, with_cell (with_cell load v None) w (Some (record { packet = one_on x.packet; remaining = x.remaining - 1 })))
      it_goes stands f =
          ap (λ o. moved_from t p load v o) e ∙ ap (λ o. moved_on t p load v x o) (sym next_is ∙ after) ∙ ap (λ o. went_to t p load v x w o) f
          ∙ ap (λ y. (Went, with_cell (with_cell load v None) w (Some y))) (sym (one_further stands))

-- ---- what the answer of a move says

-- by the answer: what stood there, and the load after it
abbrev pub Outcome : Topology → Plan → Load → VirtualChannel → Moved → Load → Type 0
Outcome t p load v Nothing new = (loaded_at load v ≡ None) × (new ≡ load)
Outcome t p load v Waits new = (w : VirtualChannel) × Awaits t p load v w × (next_at t p load v ≡ Some w) × (new ≡ load)
Outcome t p load v Left new = (x : Loaded) × (loaded_at load v ≡ Some x) × (new ≡ with_cell load v None)
Outcome t p load v Went new = (x : Loaded) × (w : VirtualChannel) × (y : Loaded) × (loaded_at load v ≡ Some x) × (next_at t p load v ≡ Some w) × (next_of t p x.packet ≡ Some w)
    × (new ≡ with_cell (with_cell load v None) w (Some y))

pub outcome : (t : Topology) (p : Plan) (load : Load) (v : VirtualChannel) → Outcome t p load v (advanced t p load v).0 (advanced t p load v).1
outcome t p load v = go (loaded_at load v) refl
  where
    came : (x : Loaded) (w : VirtualChannel) (o : Option Loaded) → loaded_at load v ≡ Some x → next_of t p x.packet ≡ Some w → loaded_at load w ≡ o → Outcome t p load v (went_to t p load v x w o).0 (went_to t p load v x w o).1
    came x w None e after f = (x, w, loaded_with t p (one_on x.packet), e, next_is t p load v x e ∙ after, after, refl)
    came x w (Some y) e after f = (w, (x, e, after, ap is_some f), next_is t p load v x e ∙ after, refl)

    on : (x : Loaded) (o : Option VirtualChannel) → loaded_at load v ≡ Some x → next_of t p x.packet ≡ o → Outcome t p load v (moved_on t p load v x o).0 (moved_on t p load v x o).1
    on x None e after = (x, e, refl)
    on x (Some w) e after = came x w (loaded_at load w) e after refl

    go : (o : Option Loaded) → loaded_at load v ≡ o → Outcome t p load v (moved_from t p load v o).0 (moved_from t p load v o).1
    go None e = (e, refl)
    go (Some x) e = on x (next_of t p x.packet) e refl

pub outcome_by : (t : Topology) (p : Plan) (load new : Load) (v at : VirtualChannel) (moved : Moved) → at ≡ v → (moved, new) ≡ advanced t p load at → Outcome t p load v moved new
outcome_by t p load new v at moved same is = subst (λ (r : Moved × Load). Outcome t p load v r.0 r.1) (sym (is ∙ ap (λ u. advanced t p load u) same)) (outcome t p load v)

pub move_by : (t : Topology) (p : Plan) (load new : Load) (v at : VirtualChannel) (moved : Moved) → at ≡ v → (moved, new) ≡ advanced t p load at → IsMove moved → MayMove t p load v
move_by t p load new v at moved same is m = subst (λ (r : Moved × Load). IsMove r.0) (is ∙ ap (λ u. advanced t p load u) same) m
