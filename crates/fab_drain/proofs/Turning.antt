-- The packet on the least ready virtual channel has its turn: it waits, or it moves and those that waited for its place are ready.
use Rattle.std.proofs.Common.{◌≡◌, ◌≢◌, ℕ, suc, ◌<◌, ◌≤◌, ◌⊎◌, inl, inr, List, [], ◌∷◌, ◌++◌, length, refl, sym, ◌∙◌, ap, subst, arith, All, Contains, Some, None, get_or-set_same, get_or-set_other}
use Rattle.std.specs.Prelude.{IsSome, slice_index_or, slice_set}
use Rattle.std.proofs.Math.ListN.{length-set}
use Rattle.std.proofs.Math.Nat.{mul-le-mul_left}
use Rattle.std.proofs.lemmas.Bool.{cases_lt, cases_eq}
use Rattle.std.proofs.lemmas.List.Elements.{All-cons}
use Rattle.fab_model.specs.Topology.{Topology}
use Rattle.fab_tables.specs.declared.plan.Plan.{Plan}
use Rattle.fab_tables.specs.declared.verdict.VirtualChannel.{VirtualChannel}
use Rattle.fab_tables.specs.Dependencies.{node_of}
use Rattle.fab_tables.proofs.Verdicts.CertifiedLaws.{none_some}
use Rattle.fab_certify.proofs.Numbered.NumberedPlan.{one_node}
use Rattle.fab_drain.specs.Loads.{Load, Loaded, IsPlace, loaded_at, with_cell, channel_of_cell, IsLoad}
use Rattle.fab_drain.specs.Moves.{went_to, moved_on, moved_from, IsMove, MayMove, Awaits}
use Rattle.fab_drain.specs.Drains.{IsLeastMover, IsStill}
use Rattle.fab_drain.specs.Turns.{those_for, IsWaiting, AreTurns, AreWoken}
use Rattle.fab_drain.proofs.Cells.{read_after, read_same, read_other, taken_place, cell_is}
use Rattle.fab_drain.proofs.Rings.{here_or_later, later}
use Rattle.fab_drain.proofs.Waiting.{mover_loaded, some_of, is_some_of}

-- what waits doesn't move
pub waits_still : (t : Topology) (p : Plan) (load : Load) (v w : VirtualChannel) → Awaits t p load v w → ¬ MayMove t p load v
waits_still t p load v w waits may =
    let y : (y : Loaded) × (loaded_at load w ≡ Some y) = some_of (loaded_at load w) waits.3 in
    stays y.0 (subst (λ o. IsMove (went_to t p load v waits.0 w o).0) y.1 (subst (λ o. IsMove (moved_on t p load v waits.0 o).0) waits.2 (subst (λ o. IsMove (moved_from t p load v o).0) waits.1 may)))
  where
    stays : (y : Loaded) → IsMove (went_to t p load v waits.0 w (Some y)).0 → ⊥
    stays y m = m

-- more are ready
pub more_ready : (t : Topology) (p : Plan) (load : Load) (ready ready' : List ℕ) (waiting : List (List ℕ)) → AreTurns t p load ready waiting → ((k : ℕ) → Contains ready k → Contains ready' k) →
    All (λ k. k < length load.cells) ready' → AreTurns t p load ready' waiting
more_ready t p load ready ready' waiting turns more low = record {
  each = turns.each;
  all = λ v some. elim (turns.all v some) [ inl c ↦ inl (more (node_of load.count v) c) | inr w ↦ inr w ];
  ready_low = low;
  waiting_low = turns.waiting_low;
}

-- with none ready no packet may move
pub none_ready : (t : Topology) (p : Plan) (load : Load) (waiting : List (List ℕ)) → AreTurns t p load [] waiting → IsStill t p load
none_ready t p load waiting turns v may =
    let x : (x : Loaded) × (loaded_at load v ≡ Some x) = mover_loaded t p load v may in
    elim (turns.all v (is_some_of (loaded_at load v) x.0 x.1)) [
      | inl c ↦ absurd (omega (arith, c.1))
      | inr w ↦ waits_still t p load v w.0 w.1 may
    ]

-- a new list is read at its own place, and the old ones elsewhere
pub list_same : (waiting : List (List ℕ)) (at : ℕ) (new : List ℕ) → at < length waiting → those_for (slice_set waiting at new) at ≡ new
list_same waiting at new low = get_or-set_same waiting at new [] low

pub list_other : (waiting : List (List ℕ)) (at k : ℕ) (new : List ℕ) → k ≢ at → those_for (slice_set waiting at new) k ≡ those_for waiting k
list_other waiting at k new other = get_or-set_other waiting at k new [] other

contains_pushed : (xs : List ℕ) (x k : ℕ) → Contains xs k → Contains (xs ++ x ∷ []) k
contains_pushed [] x k has = absurd (omega (arith, has.1))
contains_pushed (y ∷ ys) x k has = elim (here_or_later y ys k has) [
  | inl e ↦ (0, omega arith, e)
  | inr c ↦ later y (ys ++ x ∷ []) k (contains_pushed ys x k c)
]

contains_last : (xs : List ℕ) (x : ℕ) → Contains (xs ++ x ∷ []) x
contains_last [] x = (0, omega arith, refl)
contains_last (y ∷ ys) x = later y (ys ++ x ∷ []) x (contains_last ys x)

all_pushed : (P : ℕ → Type 0) (xs : List ℕ) (x : ℕ) → All P xs → P x → All P (xs ++ x ∷ [])
all_pushed P [] x all here = All-cons P x [] here all
all_pushed P (y ∷ ys) x all here =
    All-cons P y (ys ++ x ∷ []) (all 0 y (omega arith)) (all_pushed P ys x (λ k d low. all (suc k) d (omega (arith, low))) here)

module _ (t : Topology) (p : Plan) (load : Load) (good : IsLoad t p load) (number : ℕ) (ready : List ℕ) (waiting : List (List ℕ)) (turns : AreTurns t p load (number ∷ ready) waiting) where
  abbrev v : VirtualChannel
  v = channel_of_cell load.count number

  pub number_low : number < length load.cells
  number_low = turns.ready_low 0 number (omega arith)

  pub cell : (node_of load.count v ≡ number) × (v.lane < load.count)
  cell = cell_is (length t.channels) load.count number (omega (arith, number_low, good.each))

  pub channel_low : v.channel.0 < length t.channels
  channel_low = elim (cases_lt v.channel.0 (length t.channels)) [
    | inl h ↦ h
    | inr h ↦ absurd (omega (arith, number_low, good.each, cell.0, mul-le-mul_left load.count h))
  ]

  place : IsPlace load v
  place = (cell.1, omega (arith, cell.0, number_low))

  ready_rest : All (λ k. k < length load.cells) ready
  ready_rest = λ k d low. turns.ready_low (suc k) d (omega (arith, low))

  -- a packet on another virtual channel is ready still, or waits
  same_channel : (u : VirtualChannel) → IsSome (loaded_at load u) → number ≡ node_of load.count u → v ≡ u
  same_channel u some e =
      let x : (x : Loaded) × (loaded_at load u ≡ Some x) = some_of (loaded_at load u) some in
      one_node load.count v u cell.1 (taken_place load u x.0 x.1).0 (omega (arith, cell.0, e))

  -- of those that may move, this one is the least
  pub least_mover : All (λ other. number < other) ready → MayMove t p load v → IsLeastMover t p load v
  least_mover least may = record { moves = may; least = λ w moves. go w moves }
    where
      go : (w : VirtualChannel) → MayMove t p load w → node_of load.count v ≤ node_of load.count w
      go w moves =
          let x : (x : Loaded) × (loaded_at load w ≡ Some x) = mover_loaded t p load w moves in
          elim (turns.all w (is_some_of (loaded_at load w) x.0 x.1)) [
            | inr waits ↦ absurd (waits_still t p load w waits.0 waits.1 moves)
            | inl c ↦ elim (here_or_later number ready (node_of load.count w) c) [
              | inl e ↦ omega (arith, cell.0, e)
              | inr d ↦ omega (arith, cell.0, least d.0 (node_of load.count w) d.1, d.2)
            ]
          ]

  -- no packet stands there
  pub nothing_there : loaded_at load v ≡ None → AreTurns t p load ready waiting
  nothing_there none = record { each = turns.each; all = all; ready_low = ready_rest; waiting_low = turns.waiting_low }
    where
      all : (u : VirtualChannel) → IsSome (loaded_at load u) → Contains ready (node_of load.count u) ⊎ IsWaiting t p load waiting u
      all u some = elim (turns.all u some) [
        | inr w ↦ inr w
        | inl c ↦ elim (here_or_later number ready (node_of load.count u) c) [
          | inr d ↦ inl d
          | inl e ↦
              (let x : (x : Loaded) × (loaded_at load u ≡ Some x) = some_of (loaded_at load u) some in
              absurd (none_some x.0 (sym none ∙ ap (λ w. loaded_at load w) (same_channel u some e) ∙ x.1)))
        ]
      ]

  -- it waits
  pub waits_now : (w : VirtualChannel) → Awaits t p load v w → AreTurns t p load ready (slice_set waiting (node_of load.count w) (slice_index_or waiting (node_of load.count w) [] ++ number ∷ []))
  waits_now w awaits = record {
    each = length-set waiting at new ∙ turns.each;
    all = all;
    ready_low = ready_rest;
    waiting_low = low;
  }
    where
      at : ℕ
      at = node_of load.count w

      new : List ℕ
      new = slice_index_or waiting (node_of load.count w) [] ++ number ∷ []

      there : at < length waiting
      there = let y : (y : Loaded) × (loaded_at load w ≡ Some y) = some_of (loaded_at load w) awaits.3 in omega (arith, turns.each, (taken_place load w y.0 y.1).1)

      kept : (k number : ℕ) → Contains (those_for waiting k) number → Contains (those_for (slice_set waiting at new) k) number
      kept k other has = elim (cases_eq k at) [
        | inl e ↦ subst (λ n. Contains (those_for (slice_set waiting at new) n) other) (sym e)
            (subst (λ xs. Contains xs other) (sym (list_same waiting at new there)) (contains_pushed (those_for waiting at) number other (subst (λ n. Contains (those_for waiting n) other) e has)))
        | inr n ↦ subst (λ xs. Contains xs other) (sym (list_other waiting at k new n)) has
      ]

      low : (k : ℕ) → All (λ n. n < length load.cells) (those_for (slice_set waiting at new) k)
      low k = elim (cases_eq k at) [
        | inl e ↦ subst (λ n. All (λ n. n < length load.cells) (those_for (slice_set waiting at new) n)) (sym e)
            (subst (λ xs. All (λ n. n < length load.cells) xs) (sym (list_same waiting at new there)) (all_pushed (λ n. n < length load.cells) (those_for waiting at) number (turns.waiting_low at) number_low))
        | inr n ↦ subst (λ xs. All (λ n. n < length load.cells) xs) (sym (list_other waiting at k new n)) (turns.waiting_low k)
      ]

      all : (u : VirtualChannel) → IsSome (loaded_at load u) → Contains ready (node_of load.count u) ⊎ IsWaiting t p load (slice_set waiting at new) u
      all u some = elim (turns.all u some) [
        | inr x ↦ inr (x.0, x.1, kept (node_of load.count x.0) (node_of load.count u) x.2)
        | inl c ↦ elim (here_or_later number ready (node_of load.count u) c) [
          | inr d ↦ inl d
          | inl e ↦
              (let same : v ≡ u = same_channel u some e in
              inr (
                w,
                subst (λ x. Awaits t p load x w) same awaits,
                subst (λ xs. Contains xs (node_of load.count u)) (sym (list_same waiting at new there))
                    (subst (λ n. Contains new n) e (contains_last (those_for waiting at) number)),
              ))
        ]
      ]

  -- it leaves its virtual channel, and those that waited for it are ready
  other_cell : (u : VirtualChannel) → v ≢ u → loaded_at (with_cell load v None) u ≡ loaded_at load u
  other_cell u other = read_other load v u None place other

  pub leaves : (ready' : List ℕ) (waiting' : List (List ℕ)) → AreWoken number ready ready' waiting waiting' → AreTurns t p (with_cell load v None) ready' waiting'
  leaves ready' waiting' woken = record {
    each = woken.each ∙ turns.each ∙ sym (length-set load.cells (node_of load.count v) None);
    all = all;
    ready_low = subst (λ n. All (λ k. k < n) ready') (sym (length-set load.cells (node_of load.count v) None)) (woken.ready_low (length load.cells) ready_rest (turns.waiting_low number));
    waiting_low = λ k. subst (λ n. All (λ j. j < n) (those_for waiting' k)) (sym (length-set load.cells (node_of load.count v) None)) (woken.waiting_low (length load.cells) k (turns.waiting_low k));
  }
    where
      all : (u : VirtualChannel) → IsSome (loaded_at (with_cell load v None) u) → Contains ready' (node_of load.count u) ⊎ IsWaiting t p (with_cell load v None) waiting' u
      all u some = go (turns.all u (subst (λ o. IsSome o) (other_cell u apart) some))
        where
          apart : v ≢ u
          apart e =
              let x : (x : Loaded) × (loaded_at (with_cell load v None) u ≡ Some x) = some_of (loaded_at (with_cell load v None) u) some in
              none_some x.0 (sym (read_same load v None place) ∙ ap (λ w. loaded_at (with_cell load v None) w) e ∙ x.1)

          waits : (x : VirtualChannel) → Awaits t p load u x → Contains (those_for waiting (node_of load.count x)) (node_of load.count u) → Contains ready' (node_of load.count u) ⊎ IsWaiting t p (with_cell load v None) waiting' u
          waits x awaits has = elim (cases_eq (node_of load.count x) number) [
            | inl e ↦ inl (woken.woken (node_of load.count u) (subst (λ n. Contains (those_for waiting n) (node_of load.count u)) e has))
            | inr n ↦
                inr (
                  x,
                  (awaits.0, other_cell u apart ∙ awaits.1, awaits.2, subst (λ o. IsSome o) (sym (other_cell x (λ e. n (ap (λ w. node_of load.count w) (sym e) ∙ cell.0)))) awaits.3),
                  subst (λ xs. Contains xs (node_of load.count u)) (sym (woken.others (node_of load.count x) n)) has,
                )
          ]

          go : Contains (number ∷ ready) (node_of load.count u) ⊎ IsWaiting t p load waiting u → Contains ready' (node_of load.count u) ⊎ IsWaiting t p (with_cell load v None) waiting' u
          go (inr x) = waits x.0 x.1 x.2
          go (inl c) = elim (here_or_later number ready (node_of load.count u) c) [
            | inr d ↦ inl (woken.still (node_of load.count u) d)
            | inl e ↦ absurd (apart (same_channel u (subst (λ o. IsSome o) (other_cell u apart) some) e))
          ]

-- a packet that comes to a virtual channel is ready there
pub comes : (t : Topology) (p : Plan) (load : Load) (w : VirtualChannel) (y : Loaded) (ready : List ℕ) (waiting : List (List ℕ)) → IsPlace load w → AreTurns t p load ready waiting → Contains ready (node_of load.count w) →
    AreTurns t p (with_cell load w (Some y)) ready waiting
comes t p load w y ready waiting at turns has = record {
  each = turns.each ∙ sym (length-set load.cells (node_of load.count w) (Some y));
  all = all;
  ready_low = subst (λ n. All (λ k. k < n) ready) (sym (length-set load.cells (node_of load.count w) (Some y))) turns.ready_low;
  waiting_low = λ k. subst (λ n. All (λ j. j < n) (those_for waiting k)) (sym (length-set load.cells (node_of load.count w) (Some y))) (turns.waiting_low k);
}
  where
    taken : (x : VirtualChannel) → IsSome (loaded_at load x) → IsSome (loaded_at (with_cell load w (Some y)) x)
    taken x some = elim (read_after load w x (Some y) at) [
      | inl here ↦ subst (λ o. IsSome o) (sym here.1) refl
      | inr e ↦ subst (λ o. IsSome o) (sym e) some
    ]

    all : (u : VirtualChannel) → IsSome (loaded_at (with_cell load w (Some y)) u) → Contains ready (node_of load.count u) ⊎ IsWaiting t p (with_cell load w (Some y)) waiting u
    all u some = elim (read_after load w u (Some y) at) [
      | inl here ↦ inl (subst (λ x. Contains ready (node_of load.count x)) here.0 has)
      | inr e ↦ elim (turns.all u (subst (λ o. IsSome o) e some)) [
        | inl c ↦ inl c
        | inr x ↦ inr (x.0, (x.1.0, e ∙ x.1.1, x.1.2, taken x.0 x.1.3), x.2)
      ]
    ]
