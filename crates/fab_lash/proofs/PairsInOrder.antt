-- The layers of the pairs in order, as a list that grows.
use Rattle.std.proofs.Common.{◌≡◌, ℕ, ◌+◌, ◌*◌, ◌<◌, ◌++◌, ◌∷◌, [], zero, suc, inl, inr, List, length, refl, sym, ap, subst, arith}
use Rattle.std.specs.Prelude.{All, Result, Ok, Err, if◌then◌else◌, IfErr, IsErrAnd, is_ok}
use Rattle.std.proofs.lemmas.Bool.{both_ways}
use Rattle.std.proofs.lemmas.List.{get_or_push, get_or_append_left}
use Rattle.std.proofs.lemmas.Nat.{mul-add-lt}
use Rattle.std.proofs.Math.Nat.{mul_comm, suc-mul}
use Rattle.fab_model.specs.Topology.{Topology}
use Rattle.fab_model.specs.WellFormed.{IsWellFormed}
use Rattle.fab_tables.specs.Entries.{Entries, cell}
use Rattle.fab_depgraph.specs.Listed.{Dependencies}
use Rattle.fab_lash.specs.declared.layered.LashFault.{LashFault}
use Rattle.fab_lash.specs.declared.layered.LashFault.TheVariants.{NeedsLane, Memory}
use Rattle.fab_lash.specs.Layerings as layerings
use Rattle.fab_lash.specs.Pairs.{IsPair, ComesBefore}
use Rattle.fab_lash.specs.PairLayers.{layer_at, HasNoLayers}
use Rattle.fab_lash.specs.Placing.{listed_in, channel_counts, IsPlacedPair, FitsNowhere}
use Rattle.fab_lash.proofs.OneLayering.{AlikeBefore}
use Rattle.fab_lash.proofs.LaneSteps.{pair_below}
use Rattle.fab_lash.proofs.LaneStates.{AreLayersBefore, nowhere_needs}
use Rattle.fab_lash.proofs.PairAfterPair.{said_alike, one_more_placed, next_row, pair_decided}

-- earlier rows lie below
row_below : (s a b low high : ℕ) → a < low → b < s → cell s a b < cell s low high
row_below s a b low high less short = omega (arith, mul-add-lt a s b low less short, comm)
  where
    comm : s * low ≡ low * s
    comm = mul_comm s low

module _ (t : Topology) (e : Entries) (count : ℕ) (layers : List ℕ) (used new : List Dependencies) (low high lane : ℕ) (good : IsWellFormed t) (as_many : length layers ≡ cell (length t.switches) low high) where
  abbrev switches : ℕ
  switches = length t.switches

  place_below : (a b : ℕ) → IsPair t a b → ComesBefore a b low high → cell switches a b < length layers
  place_below a b pair (inl less) = omega (arith, as_many, row_below switches a b low high less (pair_below t good a b pair))
  place_below a b pair (inr same) = omega (arith, as_many, ap (λ z. cell switches z b) same.0, same.1)

  alike : AlikeBefore t (layer_at switches layers) (layer_at switches (layers ++ lane ∷ [])) low high
  alike a b pair at = sym (get_or_append_left layers (lane ∷ []) 0 (cell switches a b) (place_below a b pair at))

  -- one more pair is placed, and its layer put at the end
  pub one_more_layer : AreLayersBefore t e count (layer_at switches layers) used low high → IsPlacedPair t e low high used new lane →
      AreLayersBefore t e count (layer_at switches (layers ++ lane ∷ [])) new low (high + 1)
  one_more_layer before placed =
      one_more_placed t e count (layer_at switches (layers ++ lane ∷ [])) used new low high lane
      (said_alike t e count (layer_at switches layers) (layer_at switches (layers ++ lane ∷ [])) used low high alike before) good
      (get_or_push layers lane 0 (cell switches low high) as_many) placed

-- channels lane by lane, as when the arenas were new
pub counts_are : (n : ℕ) (old now : List Dependencies) → All (λ (g : Dependencies). g.channels ≡ n) old → channel_counts now ≡ channel_counts old → All (λ count. count ≡ n) (channel_counts now)
counts_are n old now all same = let P : List ℕ → Type 0 = λ xs. All (λ count. count ≡ n) xs in subst P (sym same) (go old all)
  where
    go : (us : List Dependencies) → All (λ (g : Dependencies). g.channels ≡ n) us → All (λ count. count ≡ n) (channel_counts us)
    go [] all k d low = absurd (omega (arith, low))
    go (u ∷ us) all zero d low = all 0 u (omega arith)
    go (u ∷ us) all (suc k) d low = go us (λ j g less. all (suc j) g (omega (arith, less))) k d (omega (arith, low))

-- no arena lists anything
pub none_listed : (us : List Dependencies) → All (λ (g : Dependencies). g.listed ≡ []) us → (lane : ℕ) → listed_in us lane ≡ []
none_listed [] all lane = refl
none_listed (u ∷ us) all zero = all 0 u (omega arith)
none_listed (u ∷ us) all (suc lane) = none_listed us (λ j g less. all (suc j) g (omega (arith, less))) lane

-- what placing a pair refuses needs another lane
pub no_layers_then : (t : Topology) (e : Entries) (count : ℕ) (layer : ℕ → ℕ → ℕ) (used : List Dependencies) (low high : ℕ) → AreLayersBefore t e count layer used low high →
    (fault : LashFault) → FitsNowhere t e low high used fault → HasNoLayers t e count fault
no_layers_then t e count layer used low high before (NeedsLane one other) x =
    let P : ℕ → Type 0 = λ z. layerings.NeedsLane t e count z other.0 in
    let Q : ℕ → Type 0 = λ z. layerings.NeedsLane t e count low z in
    subst P (sym x.0) (subst Q (sym x.1) (nowhere_needs t e count layer used low high before x.2 x.3))
no_layers_then t e count layer used low high before (Memory refused) x = x

-- a row is at its end
pub row_ends : (t : Topology) (e : Entries) (count : ℕ) (layers : List ℕ) (used : List Dependencies) (low high : ℕ) → IsWellFormed t → high ≡ length t.switches → AreLayersBefore t e count (layer_at (length t.switches) layers) used low high →
    AreLayersBefore t e count (layer_at (length t.switches) layers) used (low + 1) 0
row_ends t e count layers used low high good end before =
    let P : ℕ → Type 0 = λ z. AreLayersBefore t e count (layer_at (length t.switches) layers) used low z in
    next_row t e count (layer_at (length t.switches) layers) used good low (subst P end before)

pub cells_of_row : (s low high : ℕ) → high ≡ s → cell s low high ≡ cell s (low + 1) 0
cells_of_row s low high end = omega (arith, end, mul_add_one)
  where
    mul_add_one : (low + 1) * s ≡ low * s + s
    mul_add_one = subst (λ z. z * s ≡ low * s + s) (omega arith) (suc-mul low s)

-- channels lane by lane stay where a pair is placed, and where none stands
pub counts_stay : (t : Topology) (e : Entries) (low high : ℕ) (old new : List Dependencies) (lane : ℕ) → IsPlacedPair t e low high old new lane → channel_counts new ≡ channel_counts old
counts_stay t e low high old new lane placed = elim (pair_decided t low high) [
  | inl pair ↦ (placed.placed pair).channels
  | inr none ↦ ap channel_counts (placed.other none)
]

-- an addition to a list came off, where its error was only written anew
pub came_off : {T E D X : Type 0} (r : Result T E) (m : Result T D) (x : T) (new grown old : X) → is_ok m ≡ is_ok r → m ≡ Ok x → new ≡ (if is_ok r then grown else old) → new ≡ grown
came_off (Ok y) m x new grown old same is items = items
came_off (Err y) m x new grown old same is items = absurd (both_ways (is_ok m) same (ap is_ok is))

-- what the exit of a question mark says
pub fault_goes_on : {T : Type 0} (Q : LashFault → Type 0) (r : Result T LashFault) (fault : LashFault) → IsErrAnd r (λ other. other ≡ fault) → Q fault → IfErr r Q
fault_goes_on Q (Ok x) fault is q = tt
fault_goes_on Q (Err other) fault is q = subst Q (sym is) q
