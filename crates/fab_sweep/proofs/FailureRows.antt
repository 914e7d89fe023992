-- Failures and their rows, one after the other; their cables are in the fabric.
use Rattle.std.proofs.Common.{◌≡◌, ℕ, zero, suc, ◌^◌, ◌<◌, ◌⊎◌, inl, inr, Bool, true, false, not, ◌||◌, List, [], ◌∷◌, ◌++◌, length, map, get_or, cond, Some, None, refl, sym, ◌∙◌, ap, subst, arith, Contains, length-append, slice_get}
use Rattle.std.specs.Prelude.{filter, ◌==◌, position}
use Rattle.std.specs.List.{list_any, enumerate_from, range_with_len}
use Rattle.std.proofs.lemmas.Bool.{and_from, eq-eqb}
use Rattle.std.proofs.lemmas.List.{length-map}
use Rattle.std.proofs.lemmas.List.Sums.{length-filter, count_by-le-length}
use Rattle.fab_model.specs.WellFormed.{IsWellFormed}
use Rattle.std.proofs.lemmas.List.FromFn.{length-enumerate_from, get_or-enumerate_from}
use Rattle.std.proofs.lemmas.Option.{same_Some, none-some, slice_get_within}
use Rattle.fab_graph.proofs.Members.{first, later, first_or_later}
use Rattle.fab_model.specs.declared.rows.Cable.{Cable}
use Rattle.fab_model.specs.declared.rows.ChannelRow.{ChannelRow}
use Rattle.fab_model.specs.Topology.{Topology, guid_of}
use Rattle.fab_model.specs.Without.{leaves_named, is_unknown}
use Rattle.fab_model.proofs.Finds.{position_none}
use Rattle.fab_tables.specs.declared.plan.Plan.{Plan}
use Rattle.fab_tables.proofs.Joined.ConnectedDecided.{image_of}
use Rattle.fab_sweep.specs.declared.rows.SweepRow.{SweepRow}
use Rattle.fab_sweep.specs.declared.Failing.TheVariants.{Cables, Switches}
use Rattle.fab_sweep.specs.Failures.{Failure, cable_of, is_lower, cable_failure, switch_failure}
use Rattle.fab_sweep.specs.Sweeps.{IsSweepRow, AreRowsOf}
use Rattle.fab_sweep.specs.Laws.{FailuresAreKnown}

-- ---- one row more

pub no_rows : (t : Topology) (plan : Plan) (lanes : ℕ) → AreRowsOf t plan lanes [] []
no_rows t plan lanes = record { each = refl; row = λ n failure row at. absurd (none-some failure at) }

-- what stands at a place of a list with one element more behind
pushed_at : {X : Type 0} (xs : List X) (y : X) (n : ℕ) (x : X) → slice_get (xs ++ y ∷ []) n ≡ Some x → (slice_get xs n ≡ Some x) ⊎ ((n ≡ length xs) × (y ≡ x))
pushed_at [] y zero x at = inr (refl, same_Some y x at)
pushed_at [] y (suc n) x at = absurd (none-some x at)
pushed_at (z ∷ zs) y zero x at = inl at
pushed_at (z ∷ zs) y (suc n) x at = elim (pushed_at zs y n x at) [ inl there ↦ inl there | inr last ↦ inr (omega (arith, last.0), last.1) ]

pub one_row_more : (t : Topology) (plan : Plan) (lanes : ℕ) (of : List Failure) (rows : List SweepRow) (failure : Failure) (row : SweepRow) → AreRowsOf t plan lanes of rows → IsSweepRow t plan lanes failure row →
    AreRowsOf t plan lanes (of ++ failure ∷ []) (rows ++ row ∷ [])
one_row_more t plan lanes of rows failure row x is = record { each = omega (arith, length-append of (failure ∷ []), length-append rows (row ∷ []), x.each); row = each_row }
  where
    both : (n : ℕ) (f : Failure) (r : SweepRow) → (slice_get of n ≡ Some f) ⊎ ((n ≡ length of) × (failure ≡ f)) → (slice_get rows n ≡ Some r) ⊎ ((n ≡ length rows) × (row ≡ r)) → IsSweepRow t plan lanes f r
    both n f r (inl a) (inl b) = x.row n f r a b
    both n f r (inl a) (inr b) = absurd (omega (arith, slice_get_within of n f a, b.0, x.each))
    both n f r (inr a) (inl b) = absurd (omega (arith, slice_get_within rows n r b, a.0, x.each))
    both n f r (inr a) (inr b) = subst (λ g. IsSweepRow t plan lanes g r) a.1 (subst (λ q. IsSweepRow t plan lanes failure q) b.1 is)

    each_row : (n : ℕ) (f : Failure) (r : SweepRow) → slice_get (of ++ failure ∷ []) n ≡ Some f → slice_get (rows ++ row ∷ []) n ≡ Some r → IsSweepRow t plan lanes f r
    each_row n f r a b = both n f r (pushed_at of failure n f a) (pushed_at rows row n r b)

-- ---- cables are known

any_has : {X : Type 0} (p : X → Bool) (xs : List X) (x : X) → Contains xs x → p x ≡ true → list_any p xs ≡ true
any_has p [] x has is = absurd (omega (arith, has.1))
any_has p (y ∷ ys) x has is = elim (first_or_later y ys x has) [
  | inl same ↦ left (p y) (list_any p ys) (ap p same ∙ is)
  | inr there ↦ right (p y) (list_any p ys) (any_has p ys x there is)
]
  where
    left : (a b : Bool) → a ≡ true → (a || b) ≡ true
    left true b h = refl
    left false b h = cc

    right : (a b : Bool) → b ≡ true → (a || b) ≡ true
    right true b h = refl
    right false b h = h

pub known_row : (t : Topology) (row : ChannelRow) → Contains t.channels row → is_unknown t (cable_of t row) ≡ false
known_row t row has = ap not (any_has (λ other. leaves_named t other (cable_of t row)) t.channels row has
    (and_from (guid_of t row.tail.0 == guid_of t row.tail.0) (row.port == row.port) (eq-eqb (guid_of t row.tail.0) (guid_of t row.tail.0) refl) (eq-eqb row.port row.port refl)))

from_filter : {X : Type 0} (p : X → Bool) (xs : List X) (x : X) → Contains (filter p xs) x → Contains xs x
from_filter p [] x has = has
from_filter {X} p (y ∷ ys) x has = go (λ h. from_filter p ys x h) (p y) has
  where
    go : (Contains (filter p ys) x → Contains ys x) → (b : Bool) → Contains (cond b (y ∷ filter p ys) (filter p ys)) x → Contains (y ∷ ys) x
    go more true h = elim (first_or_later y (filter p ys) x h) [ inl same ↦ (0, omega arith, same) | inr there ↦ later y ys x (more there) ]
    go more false h = later y ys x (more h)

numbered_row : (t : Topology) (numbered : ℕ × ChannelRow) → Contains (enumerate_from 0 t.channels) numbered → Contains t.channels numbered.1
numbered_row t numbered has =
    let low : has.0 < length t.channels = omega (arith, has.1, length-enumerate_from 0 t.channels) in
    (has.0, low, ap (λ (x : ℕ × ChannelRow). x.1) (sym (get_or-enumerate_from 0 t.channels has.0 numbered low) ∙ has.2))

-- the cables of a switch
pub switch_cables_known : (t : Topology) (s : ℕ) (cable : Cable) → Contains (map (cable_of t) (filter (λ (row : ChannelRow). row.tail.0 == s) t.channels)) cable → is_unknown t cable ≡ false
switch_cables_known t s cable has =
    let row : (row : ChannelRow) × Contains (filter (λ (row : ChannelRow). row.tail.0 == s) t.channels) row × (cable_of t row ≡ cable) = image_of (cable_of t) (filter (λ (row : ChannelRow). row.tail.0 == s) t.channels) cable has in
    subst (λ c. is_unknown t c ≡ false) row.2 (known_row t row.0 (from_filter (λ (row : ChannelRow). row.tail.0 == s) t.channels row.0 row.1))

-- a list of known cables has no first unknown one
pub none_unknown : (t : Topology) (cables : List Cable) → ((cable : Cable) → Contains cables cable → is_unknown t cable ≡ false) → position (is_unknown t) cables ≡ None
none_unknown t cables known = position_none (is_unknown t) cables (λ k d low. known (get_or cables k d) (contains_here cables k d low))
  where
    contains_here : (xs : List Cable) (k : ℕ) (d : Cable) → k < length xs → Contains xs (get_or xs k d)
    contains_here [] k d low = absurd (omega (arith, low))
    contains_here (x ∷ xs) zero d low = first x xs
    contains_here (x ∷ xs) (suc k) d low = later x xs (get_or xs k d) (contains_here xs k d (omega (arith, low)))

pub one_known : (t : Topology) (cable : Cable) (row : ChannelRow) → cable ≡ cable_of t row → Contains t.channels row → position (is_unknown t) (cable ∷ []) ≡ None
one_known t cable row is has = none_unknown t (cable ∷ []) (λ other among. elim (first_or_later cable [] other among) [
  | inl same ↦ subst (λ c. is_unknown t c ≡ false) (sym is ∙ same) (known_row t row has)
  | inr none ↦ absurd (omega (arith, none.1))
])

-- the cables of a switch are few
pub few_cables : (t : Topology) (s : ℕ) → IsWellFormed t → length (map (cable_of t) (filter (λ (row : ChannelRow). row.tail.0 == s) t.channels)) < 2 ^ 32
few_cables t s good = omega (
  arith,
  length-map (filter (λ (row : ChannelRow). row.tail.0 == s) t.channels) (cable_of t),
  length-filter (λ (row : ChannelRow). row.tail.0 == s) t.channels,
  count_by-le-length (λ (row : ChannelRow). row.tail.0 == s) t.channels,
  good.channel_count,
)

pub failures_are_known : FailuresAreKnown
failures_are_known t Cables failure cable of has = go (image_of (cable_failure t) (filter (is_lower t) (enumerate_from 0 t.channels)) failure of)
  where
    go : (numbered : ℕ × ChannelRow) × Contains (filter (is_lower t) (enumerate_from 0 t.channels)) numbered × (cable_failure t numbered ≡ failure) → is_unknown t cable ≡ false
    go x =
        let row : Contains t.channels x.0.1 = numbered_row t x.0 (from_filter (is_lower t) (enumerate_from 0 t.channels) x.0 x.1) in
        let among : Contains (cable_of t x.0.1 ∷ []) cable = subst (λ (f : Failure). Contains f.cables cable) (sym x.2) has in
        elim (first_or_later (cable_of t x.0.1) [] cable among) [
          | inl same ↦ subst (λ c. is_unknown t c ≡ false) same (known_row t x.0.1 row)
          | inr none ↦ absurd (omega (arith, none.1))
        ]
failures_are_known t Switches failure cable of has = go (image_of (switch_failure t) (range_with_len 0 (length t.switches)) failure of)
  where
    go : (s : ℕ) × Contains (range_with_len 0 (length t.switches)) s × (switch_failure t s ≡ failure) → is_unknown t cable ≡ false
    go x = switch_cables_known t x.0 cable (subst (λ (f : Failure). Contains f.cables cable) (sym x.2) has)
