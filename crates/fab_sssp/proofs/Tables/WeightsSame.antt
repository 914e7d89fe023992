-- The weights at a LID's turn are given by the entries for the LIDs that are laid.
use Rattle.std.proofs.Common.{◌≡◌, ℕ, ◌+◌, ◌<◌, List, [], ◌∷◌, refl, ap, arith}
use Rattle.std.specs.Prelude.{◌==◌, nat_lt, All, count_by, sum_by}
use Rattle.std.specs.List.{list_any}
use Rattle.std.proofs.Math.Path.{fun_ext}
use Rattle.std.proofs.lemmas.Bool.{ltb-true}
use Rattle.std.proofs.lemmas.List.Elements.{All-head, All-tail, filter_passes}
use Rattle.std.proofs.lemmas.List.Sums.{sum_by-cons}
use Rattle.fab_model.specs.declared.rows.TerminalRow.{TerminalRow}
use Rattle.fab_model.specs.Topology.{Topology, lids_of}
use Rattle.fab_tables.specs.Entries.{Entries, entry}
use Rattle.fab_tables.specs.Route.{Route}
use Rattle.fab_sssp.specs.WeightTables.{start_weight}
use Rattle.fab_sssp.specs.Carried.{terminals_carried, weight_after, smaller_lids}
use Rattle.fab_sssp.specs.LeastWeightTables.{weight_at}
use Rattle.fab_tables.proofs.Paths.SameRoutes.{routes_same}

-- sums of what is the same at each element
pub sum_by-same : {X : Type 0} (f g : X → ℕ) (xs : List X) → All (λ x. f x ≡ g x) xs → sum_by f xs ≡ sum_by g xs
sum_by-same f g [] same = refl
sum_by-same f g (x ∷ xs) same =
    omega (arith, sum_by-cons f x xs, sum_by-cons g x xs, All-head (λ x. f x ≡ g x) x xs same, sum_by-same f g xs (All-tail (λ x. f x ≡ g x) x xs same))

-- both tables have the same entries for the LID
abbrev pub SameEntries : Entries → Entries → ℕ → Type 0
SameEntries e f lid = (s : ℕ) → entry e s lid ≡ entry f s lid

pub carried-same : (t : Topology) (e f : Entries) (lid channel : ℕ) → SameEntries e f lid → terminals_carried t e lid channel ≡ terminals_carried t f lid channel
carried-same t e f lid channel same =
    ap (λ (of_switch : ℕ → Route). count_by (λ (p : TerminalRow). list_any (λ c. c == channel) (of_switch p.switch.0).channels) t.terminals) (fun_ext (λ s. routes_same t e f lid same s))

pub weight_after-same : (t : Topology) (e f : Entries) (laid : List ℕ) (channel : ℕ) → All (λ lid. SameEntries e f lid) laid → weight_after t e laid channel ≡ weight_after t f laid channel
weight_after-same t e f laid channel same =
    ap (λ n. start_weight t + n) (sum_by-same (λ lid. terminals_carried t e lid channel) (λ lid. terminals_carried t f lid channel) laid (λ k d h. carried-same t e f _ channel (same k d h)))

-- the smaller LIDs are smaller
pub smaller_below : (t : Topology) (lid : ℕ) → All (λ other. other < lid) (smaller_lids t lid)
smaller_below t lid = λ k d h. ltb-true _ lid (filter_passes (λ other. nat_lt other lid) (lids_of t) k d h)

pub weight_at-same : (t : Topology) (e f : Entries) (lid channel : ℕ) → ((other : ℕ) → other < lid → SameEntries e f other) → weight_at t e lid channel ≡ weight_at t f lid channel
weight_at-same t e f lid channel same = weight_after-same t e f (smaller_lids t lid) channel (λ k d h. same _ (smaller_below t lid k d h))
