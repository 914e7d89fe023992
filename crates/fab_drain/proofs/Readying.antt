-- Packets become ready for a turn: at first all of them, and later those that waited for a virtual channel that is left.
use Rattle.std.proofs.Common.{◌≡◌, ℕ, zero, suc, ◌+◌, ◌<◌, ◌≤◌, ◌⊎◌, inl, inr, List, [], ◌∷◌, length, replicate, refl, sym, ◌∙◌, ap, subst, arith, All, Contains, Some, None, Option, Ordering, nat_cmp, true, false}
use Rattle.std.specs.Prelude.{IsSome, IfSome, IfNone, slice_get, slice_index_or, slice_set}
use Rattle.std.specs.BTreeMap.Range.{IsLtBy}
use Rattle.std.specs.BTreeSet.{insert_key}
use Rattle.std.specs.Ordering.{match_ordering}
use Rattle.std.specs.declared.cmp.Ordering.TheVariants.{Less, Equal, Greater}
use Rattle.std.proofs.Math.ListN.{length-set}
use Rattle.std.proofs.lemmas.Bool.{cases_lt, cases_eq}
use Rattle.std.proofs.lemmas.Cmp.{ranked}
use Rattle.std.proofs.lemmas.List.{length-replicate}
use Rattle.std.proofs.lemmas.Map.Lookups.{exact_unsigned}
use Rattle.std.proofs.lemmas.Map.Views.{All-insert_key}
use Rattle.std.proofs.lemmas.Option.{slice_get-get_or, slice_get_within, same_Some}
use Rattle.fab_model.specs.Topology.{Topology}
use Rattle.fab_tables.specs.declared.plan.Plan.{Plan}
use Rattle.fab_tables.specs.declared.verdict.VirtualChannel.{VirtualChannel}
use Rattle.fab_tables.specs.Dependencies.{node_of}
use Rattle.fab_tables.proofs.Verdicts.CertifiedLaws.{none_some}
use Rattle.fab_drain.specs.Loads.{Load, Loaded, loaded_at}
use Rattle.fab_drain.specs.Turns.{those_for, AreTurns, AreWoken}
use Rattle.fab_drain.proofs.Cells.{taken_place, read_there}
use Rattle.fab_drain.proofs.Rings.{here_or_later, later}
use Rattle.fab_drain.proofs.Turning.{list_other, list_same}
use Rattle.fab_drain.proofs.Waiting.{some_of}

-- ---- a number more in a set

pub inserted_still : (ks : List ℕ) (k q : ℕ) → Contains ks q → Contains (insert_key nat_cmp ks k) q
inserted_still [] k q has = absurd (omega (arith, has.1))
inserted_still (x ∷ xs) k q has = go (λ c. inserted_still xs k q c) (nat_cmp k x)
  where
    go : (Contains xs q → Contains (insert_key nat_cmp xs k) q) → (o : Ordering) → Contains (match_ordering o (k ∷ x ∷ xs) (x ∷ xs) (x ∷ insert_key nat_cmp xs k)) q
    go rest Less = later k (x ∷ xs) q has
    go rest Equal = has
    go rest Greater = elim (here_or_later x xs q has) [
      | inl e ↦ (0, omega arith, e)
      | inr c ↦ later x (insert_key nat_cmp xs k) q (rest c)
    ]

pub inserted_there : (ks : List ℕ) (k : ℕ) → Contains (insert_key nat_cmp ks k) k
inserted_there [] k = (0, omega arith, refl)
inserted_there (x ∷ xs) k = go (inserted_there xs k) (nat_cmp k x) refl
  where
    go : Contains (insert_key nat_cmp xs k) k → (o : Ordering) → nat_cmp k x ≡ o → Contains (match_ordering o (k ∷ x ∷ xs) (x ∷ xs) (x ∷ insert_key nat_cmp xs k)) k
    go rest Less e = (0, omega arith, refl)
    go rest Equal e = (0, omega arith, sym (exact_unsigned k x e))
    go rest Greater e = later x (insert_key nat_cmp xs k) k rest

pub inserted_low : (bound k : ℕ) (ks : List ℕ) → All (λ n. n < bound) ks → k < bound → All (λ n. n < bound) (insert_key nat_cmp ks k)
inserted_low bound k ks all low = All-insert_key nat_cmp k (λ n. n < bound) ks all low

-- all others are greater than the least
pub above_all : (k : ℕ) (ks : List ℕ) → All (IsLtBy nat_cmp k) ks → All (λ other. k < other) ks
above_all k ks all i d low = ranked k (slice_index_or ks i d) Less (sym (all i d low))

pub least_taken : (first : Option ℕ) (ks : List ℕ) → IfSome first (λ k. All (IsLtBy nat_cmp k) ks) → IfSome first (λ k. All (λ other. k < other) ks)
least_taken None ks all = tt
least_taken (Some k) ks all = above_all k ks all

pub none_left : (first : Option ℕ) (ks : List ℕ) → (0 < length ks → IsSome first) → IfNone first (ks ≡ [])
none_left (Some k) ks some = tt
none_left None [] some = refl
none_left None (k ∷ ks) some = let e : false ≡ true = some (omega arith) in cc

-- ---- those that waited for a virtual channel

-- so many of the list are ready
pub record IsWaking (ready now list : List ℕ) (index : ℕ) : Type 0 where
  pub still : (k : ℕ) → Contains ready k → Contains now k
  pub woken : (i k : ℕ) → i < index → slice_get list i ≡ Some k → Contains now k
  pub low : (bound : ℕ) → All (λ k. k < bound) ready → All (λ k. k < bound) list → All (λ k. k < bound) now

pub waking_begins : (ready list : List ℕ) → IsWaking ready ready list 0
waking_begins ready list = record { still = λ k h. h; woken = λ i k h e. absurd (omega (arith, h)); low = λ bound a b. a }

pub wakes_one : (ready now list : List ℕ) (index number : ℕ) → IsWaking ready now list index → slice_get list index ≡ Some number → IsWaking ready (insert_key nat_cmp now number) list (index + 1)
wakes_one ready now list index number waking at = record {
  still = λ k h. inserted_still now number k (waking.still k h);
  woken = λ i k h e. go i k (cases_lt i index) h e;
  low = λ bound a b. inserted_low bound number now (waking.low bound a b) (number_low bound b);
}
  where
    number_low : (bound : ℕ) → All (λ k. k < bound) list → number < bound
    number_low bound b =
        let low : index < length list = slice_get_within list index number at in
        let read : slice_index_or list index number ≡ number = same_Some _ _ (sym (slice_get-get_or list index number low) ∙ at) in
        omega (arith, b index number low, read)

    go : (i k : ℕ) → (i < index) ⊎ (index ≤ i) → i < index + 1 → slice_get list i ≡ Some k → Contains (insert_key nat_cmp now number) k
    go i k (inl less) h e = inserted_still now number k (waking.woken i k less e)
    go i k (inr more) h e =
        let here : i ≡ index = omega (arith, h, more) in
        subst (λ n. Contains (insert_key nat_cmp now number) n) (same_Some number k (sym at ∙ ap (λ n. slice_get list n) (sym here) ∙ e)) (inserted_there now number)

pub all_woken : (left : ℕ) (ready now : List ℕ) (waiting : List (List ℕ)) → left < length waiting → IsWaking ready now (those_for waiting left) (length (those_for waiting left)) → AreWoken left ready now waiting (slice_set waiting left [])
all_woken left ready now waiting low waking = record {
  each = length-set waiting left [];
  still = waking.still;
  woken = λ k has. waking.woken has.0 k has.1 (slice_get-get_or (those_for waiting left) has.0 k has.1 ∙ ap Some has.2);
  others = λ awaited other. list_other waiting left awaited [] other;
  ready_low = waking.low;
  waiting_low = lists_low;
}
  where
    lists_low : (bound awaited : ℕ) → All (λ k. k < bound) (those_for waiting awaited) → All (λ k. k < bound) (those_for (slice_set waiting left []) awaited)
    lists_low bound awaited all = elim (cases_eq awaited left) [
      | inr other ↦ subst (λ xs. All (λ k. k < bound) xs) (sym (list_other waiting left awaited [] other)) all
      | inl same ↦ subst (λ n. All (λ k. k < bound) (those_for (slice_set waiting left []) n)) (sym same)
          (subst (λ xs. All (λ k. k < bound) xs) (sym (list_same waiting left [] low)) (λ k d h. absurd (omega (arith, h))))
    ]

-- ---- all packets

-- those on so many virtual channels are ready
pub record AreReady (load : Load) (ready : List ℕ) (bound : ℕ) : Type 0 where
  pub all : (v : VirtualChannel) → IsSome (loaded_at load v) → node_of load.count v < bound → Contains ready (node_of load.count v)
  pub low : All (λ k. k < length load.cells) ready

pub none_ready_yet : (load : Load) (ready : List ℕ) → ready ≡ [] → AreReady load ready 0
none_ready_yet load ready none = record {
  all = λ v some h. absurd (omega (arith, h));
  low = subst (λ xs. All (λ k. k < length load.cells) xs) (sym none) (λ k d h. absurd (omega (arith, h)));
}

pub one_ready : (load : Load) (ready : List ℕ) (k : ℕ) → k < length load.cells → AreReady load ready k → AreReady load (insert_key nat_cmp ready k) (k + 1)
one_ready load ready k low are = record {
  all = λ v some h. go v some h (cases_lt (node_of load.count v) k);
  low = inserted_low (length load.cells) k ready are.low low;
}
  where
    go : (v : VirtualChannel) → IsSome (loaded_at load v) → node_of load.count v < k + 1 → (node_of load.count v < k) ⊎ (k ≤ node_of load.count v) → Contains (insert_key nat_cmp ready k) (node_of load.count v)
    go v some h (inl less) = inserted_still ready k (node_of load.count v) (are.all v some less)
    go v some h (inr more) =
        let here : k ≡ node_of load.count v = omega (arith, h, more) in
        subst (λ n. Contains (insert_key nat_cmp ready k) n) here (inserted_there ready k)

pub none_there : (load : Load) (ready : List ℕ) (k : ℕ) → slice_index_or load.cells k None ≡ None → AreReady load ready k → AreReady load ready (k + 1)
none_there load ready k none are = record { all = λ v some h. go v some h (cases_lt (node_of load.count v) k); low = are.low }
  where
    go : (v : VirtualChannel) → IsSome (loaded_at load v) → node_of load.count v < k + 1 → (node_of load.count v < k) ⊎ (k ≤ node_of load.count v) → Contains ready (node_of load.count v)
    go v some h (inl less) = are.all v some less
    go v some h (inr more) =
        let here : node_of load.count v ≡ k = omega (arith, h, more) in
        let x : (x : Loaded) × (loaded_at load v ≡ Some x) = some_of (loaded_at load v) some in
        absurd (none_some x.0 (sym none ∙ ap (λ n. slice_index_or load.cells n None) (sym here) ∙ sym (read_there load v (taken_place load v x.0 x.1).0) ∙ x.1))

pub all_are_ready : (t : Topology) (p : Plan) (load : Load) (ready : List ℕ) (waiting : List (List ℕ)) → AreReady load ready (length load.cells) → waiting ≡ replicate (length load.cells) [] → AreTurns t p load ready waiting
all_are_ready t p load ready waiting are none = record {
  each = ap (λ (xs : List (List ℕ)). length xs) none ∙ length-replicate (length load.cells) [];
  all = λ v some. inl (are.all v some (place v some));
  ready_low = are.low;
  waiting_low = λ awaited. subst (λ xs. All (λ k. k < length load.cells) xs) (sym (empty awaited)) (λ k d h. absurd (omega (arith, h)));
}
  where
    place : (v : VirtualChannel) → IsSome (loaded_at load v) → node_of load.count v < length load.cells
    place v some = let x : (x : Loaded) × (loaded_at load v ≡ Some x) = some_of (loaded_at load v) some in (taken_place load v x.0 x.1).1

    all_empty : (n k : ℕ) → slice_index_or (replicate {A = List ℕ} n []) k [] ≡ []
    all_empty zero k = refl
    all_empty (suc n) zero = refl
    all_empty (suc n) (suc k) = all_empty n k

    empty : (awaited : ℕ) → those_for waiting awaited ≡ []
    empty awaited = ap (λ (xs : List (List ℕ)). slice_index_or xs awaited []) none ∙ all_empty (length load.cells) awaited
