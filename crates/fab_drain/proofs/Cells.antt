-- The cells of a load: where a packet stands, and what a new content of one cell does to the others.
use Rattle.std.proofs.Common.{◌≡◌, ℕ, zero, suc, ◌*◌, ◌<◌, ◌≤◌, ◌⊎◌, inl, inr, cond, List, [], ◌∷◌, length, refl, sym, ◌∙◌, ap, arith, Some, None, Option, get_or-set_same, get_or-set_other}
use Rattle.std.specs.Prelude.{◌%◌, nat_lt, slice_index_or, slice_set, count_by, sum_by, is_some}
use Rattle.std.proofs.Math.Nat.{mul-le-mul_left}
use Rattle.std.proofs.lemmas.Bool.{cases_lt, cases_eq, lt-ltb, le-ltb, cond-true, cond-false}
use Rattle.std.proofs.lemmas.Nat.{div-add-mod', div-mul-add, mod-mul-add, mod_below}
use Rattle.std.proofs.lemmas.List.{get_or_past}
use Rattle.std.proofs.lemmas.List.Sums.{sum_by-cons}
use Rattle.fab_tables.specs.declared.verdict.VirtualChannel.{VirtualChannel}
use Rattle.fab_tables.specs.Dependencies.{node_of}
use Rattle.fab_tables.proofs.Verdicts.CertifiedLaws.{none_some}
use Rattle.fab_certify.proofs.Numbered.NumberedPlan.{one_node}
use Rattle.fab_drain.specs.Drains.{IsTakenNumber}
use Rattle.fab_drain.specs.Loads.{Load, Loaded, IsPlace, loaded_at, with_cell, channel_of_cell, hops_in_cell}

-- on a lane below the count the cell is read
pub read_there : (load : Load) (v : VirtualChannel) → v.lane < load.count → loaded_at load v ≡ slice_index_or load.cells (node_of load.count v) None
read_there load v low = cond-true (nat_lt v.lane load.count) (slice_index_or load.cells (node_of load.count v) None) None (lt-ltb v.lane load.count low)

pub read_past : (load : Load) (v : VirtualChannel) → load.count ≤ v.lane → loaded_at load v ≡ None
read_past load v past = cond-false (nat_lt v.lane load.count) (slice_index_or load.cells (node_of load.count v) None) None (le-ltb v.lane load.count past)

pub taken_place : (load : Load) (v : VirtualChannel) (x : Loaded) → loaded_at load v ≡ Some x → IsPlace load v
taken_place load v x e = elim (cases_lt v.lane load.count) [
  | inr past ↦ absurd (none_some x (sym (read_past load v past) ∙ e))
  | inl low ↦ elim (cases_lt (node_of load.count v) (length load.cells)) [
    | inl within ↦ (low, within)
    | inr beyond ↦ absurd (none_some x (sym (get_or_past load.cells (node_of load.count v) None beyond) ∙ sym (read_there load v low) ∙ e))
  ]
]

-- a new content is read at its own virtual channel, and the old ones at all others
pub read_after : (load : Load) (v w : VirtualChannel) (new : Option Loaded) → IsPlace load v →
    ((v ≡ w) × (loaded_at (with_cell load v new) w ≡ new)) ⊎ (loaded_at (with_cell load v new) w ≡ loaded_at load w)
read_after load v w new at = elim (cases_lt w.lane load.count) [
  | inr past ↦ inr (read_past (with_cell load v new) w past ∙ sym (read_past load w past))
  | inl low ↦ elim (cases_eq (node_of load.count w) (node_of load.count v)) [
    | inl same ↦
        inl (
          one_node load.count v w at.0 low (sym same),
          read_there (with_cell load v new) w low ∙ ap (λ k. slice_index_or (slice_set load.cells (node_of load.count v) new) k None) same
              ∙ get_or-set_same load.cells (node_of load.count v) new None at.1,
        )
    | inr other ↦
        inr (read_there (with_cell load v new) w low ∙ get_or-set_other load.cells (node_of load.count v) (node_of load.count w) new None other ∙ sym (read_there load w low))
  ]
]

pub read_same : (load : Load) (v : VirtualChannel) (new : Option Loaded) → IsPlace load v → loaded_at (with_cell load v new) v ≡ new
read_same load v new at = read_there (with_cell load v new) v at.0 ∙ get_or-set_same load.cells (node_of load.count v) new None at.1

pub read_other : (load : Load) (v w : VirtualChannel) (new : Option Loaded) → IsPlace load v → (v ≡ w → ⊥) → loaded_at (with_cell load v new) w ≡ loaded_at load w
read_other load v w new at other = elim (read_after load v w new at) [ inl here ↦ absurd (other here.0) | inr e ↦ e ]

pub one_channel : (v w : VirtualChannel) → (v ≡ w) ⊎ (v ≡ w → ⊥)
one_channel v w = elim (cases_eq v.channel.0 w.channel.0) [
  | inr other ↦ inr (λ e. other (ap (λ (x : VirtualChannel). x.channel.0) e))
  | inl e ↦ elim (cases_eq v.lane w.lane) [
    | inr other ↦ inr (λ e. other (ap (λ (x : VirtualChannel). x.lane) e))
    | inl f ↦ inl (ap (λ c. record { channel = record { 0 = c }; lane = v.lane }) e ∙ ap (λ k. record { channel = w.channel; lane = k }) f)
  ]
]

-- ---- cells by number

-- a virtual channel of the fabric has a cell
pub node_below : (channels count : ℕ) (v : VirtualChannel) → v.channel.0 < channels → v.lane < count → node_of count v < channels * count
node_below channels count v a b = omega (arith, b, mul-le-mul_left count a)

some_count : (channels count k : ℕ) → k < channels * count → 0 < count
some_count channels zero k h = absurd (omega (arith, h))
some_count channels (suc count) k h = omega arith

pub cell_is : (channels count k : ℕ) → k < channels * count → (node_of count (channel_of_cell count k) ≡ k) × ((channel_of_cell count k).lane < count)
cell_is channels count k h = (div-add-mod' k count, mod_below k count (some_count channels count k h))

pub channel_is : (count : ℕ) (v : VirtualChannel) → v.lane < count → channel_of_cell count (node_of count v) ≡ v
channel_is count v low =
    ap (λ c. record { channel = record { 0 = c }; lane = node_of count v % count }) (div-mul-add v.channel.0 count v.lane low)
    ∙ ap (λ k. record { channel = v.channel; lane = k }) (mod-mul-add v.channel.0 count v.lane low)

pub read_cell : (load : Load) (channels k : ℕ) → length load.cells ≡ channels * load.count → k < length load.cells → loaded_at load (channel_of_cell load.count k) ≡ slice_index_or load.cells k None
read_cell load channels k whole h =
    let is : (node_of load.count (channel_of_cell load.count k) ≡ k) × ((channel_of_cell load.count k).lane < load.count) = cell_is channels load.count k (omega (arith, h, whole)) in
    read_there load (channel_of_cell load.count k) is.1 ∙ ap (λ n. slice_index_or load.cells n None) is.0

-- a taken cell is that of a virtual channel
pub read_taken : (load : Load) (k : ℕ) (x : Loaded) → 0 < load.count → slice_index_or load.cells k None ≡ Some x → IsTakenNumber load k
read_taken load k x count e =
    let v : VirtualChannel = channel_of_cell load.count k in
    let same : node_of load.count v ≡ k = div-add-mod' k load.count in
    (v, ap is_some (read_there load v (mod_below k load.count count) ∙ ap (λ n. slice_index_or load.cells n None) same ∙ e), same)

-- ---- how many cells are taken

abbrev pub IsTakenCell : List (Option Loaded) → ℕ → Type 0
IsTakenCell cells k = (x : Loaded) × (k < length cells) × (slice_index_or cells k None ≡ Some x)

pub some_taken : (cells : List (Option Loaded)) → 0 < count_by is_some cells → (k : ℕ) × IsTakenCell cells k
some_taken [] h = absurd (omega (arith, h))
some_taken (Some x ∷ cells) h = (0, (x, omega arith, refl))
some_taken (None ∷ cells) h =
    let r : (k : ℕ) × IsTakenCell cells k = some_taken cells (omega (arith, h, sum_by-cons (λ (o : Option Loaded). cond (is_some o) 1 0) None cells)) in
    (suc r.0, (r.1.0, omega (arith, r.1.1), r.1.2))

pub some_packet : (load : Load) (channels : ℕ) → length load.cells ≡ channels * load.count → 0 < count_by is_some load.cells → (v : VirtualChannel) × (x : Loaded) × (loaded_at load v ≡ Some x)
some_packet load channels whole h =
    let r : (k : ℕ) × IsTakenCell load.cells k = some_taken load.cells h in
    (channel_of_cell load.count r.0, r.1.0, read_cell load channels r.0 whole r.1.1 ∙ r.1.2)

-- without packets no hop is left
pub no_hops : (cells : List (Option Loaded)) → count_by is_some cells ≡ 0 → sum_by hops_in_cell cells ≡ 0
no_hops [] h = refl
no_hops (Some x ∷ cells) h = absurd (omega (arith, h, sum_by-cons (λ (o : Option Loaded). cond (is_some o) 1 0) (Some x) cells))
no_hops (None ∷ cells) h =
    omega (arith, sum_by-cons hops_in_cell None cells, no_hops cells (omega (arith, h, sum_by-cons (λ (o : Option Loaded). cond (is_some o) 1 0) None cells)))
