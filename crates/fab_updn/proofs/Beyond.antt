-- The least cost beyond the channels of a switch, as they are gone through.
use Rattle.std.proofs.Common.{◌≡◌, ℕ, ◌+◌, ◌<◌, ◌≤◌, ◌⊎◌, inl, inr, List, length, sym, ◌∙◌, ap, subst, arith, Option, Some, None, MatchOption}
use Rattle.std.specs.Prelude.{slice_get}
use Rattle.std.proofs.lemmas.Bool.{cases_lt}
use Rattle.std.proofs.lemmas.Option.{same_Some, none-some, slice_get_within, slice_get-get_or, get_or_from_slice_get}
use Rattle.fab_graph.specs.Least.{IsLeast}
use Rattle.fab_model.specs.declared.rows.ChannelRow.{ChannelRow}
use Rattle.fab_model.specs.Topology.{Topology, first_channel}
use Rattle.fab_model.specs.WellFormed.{IsWellFormed}
use Rattle.fab_model.proofs.Channels.{contains_read}
use Rattle.fab_tables.proofs.Joined.Leaving.{leaves_from, stands_between}
use Rattle.fab_tables.proofs.Joined.Tips.{tip_below}
use Rattle.fab_updn.specs.declared.keys.Direction.{Direction}
use Rattle.fab_updn.specs.declared.costs.Cost.{Cost}
use Rattle.fab_updn.specs.Found.{Goes, count_of, cost_at, IsCountBeyond}

-- the cost beyond a channel
abbrev pub IsCountOver : List ℕ → List Cost → Direction → ChannelRow → ℕ → Type 0
IsCountOver ranks costs direction row n = Goes direction ranks row × (count_of (cost_at costs row.tip.0) ≡ Some n)

-- the cost beyond a channel below this number
pub record IsCountBefore (t : Topology) (ranks : List ℕ) (costs : List Cost) (direction : Direction) (s number n : ℕ) : Type 0 where
  pub channel : ℕ
  pub row : ChannelRow
  pub is : slice_get t.channels channel ≡ Some row
  pub leaves : row.tail.0 ≡ s
  pub before : channel < number
  pub over : IsCountOver ranks costs direction row n

-- the least of them
abbrev pub IsLeastSoFar : Topology → List ℕ → List Cost → Direction → ℕ → ℕ → Option ℕ → Type 0
IsLeastSoFar t ranks costs direction s number least =
    MatchOption least ((n : ℕ) → ¬ IsCountBefore t ranks costs direction s number n) (λ n. IsLeast (IsCountBefore t ranks costs direction s number) n)

module _ (t : Topology) (good : IsWellFormed t) (ranks : List ℕ) (costs : List Cost) (direction : Direction) (s : ℕ) where
  between : (c : ℕ) (row : ChannelRow) → slice_get t.channels c ≡ Some row → row.tail.0 ≡ s → (first_channel t s ≤ c) × (c < first_channel t (s + 1))
  between c row is leaves = stands_between t good s c row (slice_get_within t.channels c row is) (ap (λ (r : ChannelRow). r.tail.0) (get_or_from_slice_get t.channels c row row is) ∙ leaves)

  pub none_so_far : IsLeastSoFar t ranks costs direction s (first_channel t s) None
  none_so_far n x = omega (arith, x.before, (between x.channel x.row x.is x.leaves).0)

  from_all : (number n : ℕ) → first_channel t (s + 1) ≤ number → IsCountBeyond t ranks costs direction s n → IsCountBefore t ranks costs direction s number n
  from_all number n end x =
      let is : slice_get t.channels x.1.0 ≡ Some x.0 = slice_get-get_or t.channels x.1.0 x.0 x.1.1 ∙ ap (λ r. Some r) x.1.2 in
      record { channel = x.1.0; row = x.0; is = is; leaves = x.2; before = omega (arith, end, (between x.1.0 x.0 is x.2).1); over = (x.3, x.4) }

  to_all : (number n : ℕ) → IsCountBefore t ranks costs direction s number n → IsCountBeyond t ranks costs direction s n
  to_all number n x = (x.row, contains_read t.channels x.channel x.row x.is, x.leaves, x.over.0, x.over.1)

  pub least_of_all : (number : ℕ) (o : Option ℕ) → first_channel t (s + 1) ≤ number → IsLeastSoFar t ranks costs direction s number o →
      MatchOption o ((n : ℕ) → ¬ IsCountBeyond t ranks costs direction s n) (λ n. IsLeast (IsCountBeyond t ranks costs direction s) n)
  least_of_all number None end none = λ n x. none n (from_all number n end x)
  least_of_all number (Some n) end x = record { holds = to_all number n x.holds; least = λ m y. x.least m (from_all number m end y) }

  -- ---- one channel more

  module _ (c : ℕ) (row : ChannelRow) (is : slice_get t.channels c ≡ Some row) (from : first_channel t s ≤ c) (past : c < first_channel t (s + 1)) where
    pub leaves_here : row.tail.0 ≡ s
    leaves_here = ap (λ (r : ChannelRow). r.tail.0) (sym (get_or_from_slice_get t.channels c row row is)) ∙ leaves_from t good s c row (slice_get_within t.channels c row is) from past

    pub tip_within : row.tip.0 < length t.switches
    tip_within = tip_below t good row (contains_read t.channels c row is)

    either : (n : ℕ) → IsCountBefore t ranks costs direction s (c + 1) n → IsCountBefore t ranks costs direction s c n ⊎ IsCountOver ranks costs direction row n
    either n x = elim (cases_lt x.channel c) [
      | inl less ↦ inl (record { channel = x.channel; row = x.row; is = x.is; leaves = x.leaves; before = less; over = x.over })
      | inr last ↦
          (let same : x.channel ≡ c = omega (arith, last, x.before) in
          let rows : x.row ≡ row = same_Some x.row row (sym x.is ∙ ap (λ k. slice_get t.channels k) same ∙ is) in
          inr (subst (λ r. IsCountOver ranks costs direction r n) rows x.over))
    ]

    still : (n : ℕ) → IsCountBefore t ranks costs direction s c n → IsCountBefore t ranks costs direction s (c + 1) n
    still n x = record { channel = x.channel; row = x.row; is = x.is; leaves = x.leaves; before = omega (arith, x.before); over = x.over }

    new : (n : ℕ) → IsCountOver ranks costs direction row n → IsCountBefore t ranks costs direction s (c + 1) n
    new n over = record { channel = c; row = row; is = is; leaves = leaves_here; before = omega arith; over = over }

    one : (m n : ℕ) → IsCountOver ranks costs direction row m → IsCountOver ranks costs direction row n → m ≡ n
    one m n x y = same_Some m n (sym x.1 ∙ y.1)

    pub no_count : (o : Option ℕ) → IsLeastSoFar t ranks costs direction s c o → ((n : ℕ) → Goes direction ranks row → ¬ (count_of (cost_at costs row.tip.0) ≡ Some n)) → IsLeastSoFar t ranks costs direction s (c + 1) o
    no_count None none not = λ n x. elim (either n x) [ inl old ↦ none n old | inr over ↦ not n over.0 over.1 ]
    no_count (Some n) x not = record { holds = still n x.holds; least = λ m y. elim (either m y) [ inl old ↦ x.least m old | inr over ↦ absurd (not m over.0 over.1) ] }

    pub first_count : (o : Option ℕ) (n : ℕ) → IsLeastSoFar t ranks costs direction s c o → o ≡ None → IsCountOver ranks costs direction row n → IsLeastSoFar t ranks costs direction s (c + 1) (Some n)
    first_count (Some k) n x e over = absurd (none-some k (sym e))
    first_count None n none e over = record { holds = new n over; least = λ m y. elim (either m y) [ inl old ↦ absurd (none m old) | inr there ↦ omega (arith, one n m over there) ] }

    pub another_count : (o : Option ℕ) (k n r : ℕ) → IsLeastSoFar t ranks costs direction s c o → o ≡ Some k → IsCountOver ranks costs direction row n → (r ≡ k) ⊎ (r ≡ n) → r ≤ k → r ≤ n → IsLeastSoFar t ranks costs direction s (c + 1) (Some r)
    another_count None k n r none e over which a b = absurd (none-some k e)
    another_count (Some j) k n r x e over which a b = record {
      holds = elim which [
        | inl old ↦ subst (λ i. IsCountBefore t ranks costs direction s (c + 1) i) (same_Some j k e ∙ sym old) (still j x.holds)
        | inr now ↦ subst (λ i. IsCountBefore t ranks costs direction s (c + 1) i) (sym now) (new n over)
      ];
      least = λ m y. elim (either m y) [ inl old ↦ omega (arith, x.least m old, same_Some j k e, a) | inr there ↦ omega (arith, one n m over there, b) ];
    }
