-- How many edges leave some channels, as a count of dependencies that differ.
use Rattle.std.proofs.Common.{◌≡◌, ◌≢◌, ◌⊎◌, ℕ, ◌+◌, ◌<◌, ◌≤◌, ◌==◌, ◌&&◌, ◌||◌, Bool, true, false, cond, if◌then◌else◌, nat_le, List, [], ◌∷◌, length, replicate, AllPairs, Contains, count_by, slice_index, refl, sym, ◌∙◌, ap, subst, inl, inr, le-leb, arith, length-set}
use Rattle.std.specs.List.{sum_by, fold, list_any}
use Rattle.std.proofs.lemmas.Bool.{eq-eqb, ne_eqb, cases_lt}
use Rattle.std.proofs.lemmas.Bool.Decides.{eqb_tells}
use Rattle.std.proofs.lemmas.List.{get_or_past, length-replicate}
use Rattle.std.proofs.lemmas.List.Sums.{sum_by-cons, sum_by-le-sum_by, length-filter}
use Rattle.fab_model.specs.declared.rows.ChannelId.{ChannelId}
use Rattle.fab_graph.proofs.Members.{first, later, first_or_later}
use Rattle.fab_graph.proofs.Orders.{pairs_head, pairs_tail}
use Rattle.fab_depgraph.specs.declared.dep.Dep.{Dep}
use Rattle.fab_depgraph.specs.Edges.{Row, row_at, leads_to, raised}
use Rattle.fab_depgraph.specs.Search.{Search, edges_from, IsShort}
use Rattle.fab_depgraph.specs.Listed.{Dependencies, same_dep}
use Rattle.fab_depgraph.specs.Bound.{each_once, lies_between, present_between}
use Rattle.fab_depgraph.specs.Arena.{rows_of}
use Rattle.fab_depgraph.proofs.Searching.Going.{known_of}
use Rattle.fab_depgraph.proofs.Listing.OneRow.{raised_length, raised_leads}
use Rattle.fab_depgraph.proofs.Listing.Added.{one_if, added, same_is, here, other, none_at, length_of}

either : (b : Bool) → (b ≡ true) ⊎ (b ≡ false)
either true = inl refl
either false = inr refl

one_at_most : (b : Bool) → one_if b ≤ 1
one_at_most true = omega arith
one_at_most false = omega arith

module _ {X : Type 0} (p q : X → Bool) (implies : (x : X) → p x ≡ true → q x ≡ true) where
  below : (x : X) → one_if (p x) ≤ one_if (q x)
  below x = elim (either (p x)) [
    | inl has ↦ omega (arith, ap one_if has, ap one_if (implies x has))
    | inr lacks ↦ omega (arith, ap one_if lacks)
  ]

  count_below : (xs : List X) → count_by p xs ≤ count_by q xs
  count_below [] = omega arith
  count_below (x ∷ xs) = omega (arith, count_below xs, below x, sum_by-cons (λ y. cond (p y) 1 0) x xs, sum_by-cons (λ y. cond (q y) 1 0) x xs)

  count_less : (xs : List X) (x : X) → Contains xs x → p x ≡ false → q x ≡ true → count_by p xs + 1 ≤ count_by q xs
  count_less [] x has lacks more = absurd (omega (arith, has.1))
  count_less (y ∷ ys) x has lacks more = elim (first_or_later y ys x has) [
    | inl same ↦
        let at_p : p y ≡ false = ap p same ∙ lacks in
        let at_q : q y ≡ true = ap q same ∙ more in
        omega (arith, count_below ys, ap one_if at_p, ap one_if at_q, sum_by-cons (λ y. cond (p y) 1 0) y ys, sum_by-cons (λ y. cond (q y) 1 0) y ys)
    | inr behind ↦ omega (arith, count_less ys x behind lacks more, below y, sum_by-cons (λ y. cond (p y) 1 0) y ys, sum_by-cons (λ y. cond (q y) 1 0) y ys)
  ]

any_contains : (ds : List Dep) (d : Dep) → list_any (λ e. same_dep e d) ds ≡ true → Contains ds d
any_contains [] d h = absurd (cc)
any_contains (e ∷ ds) d h = go (any_contains ds d) (same_dep e d) refl h
  where
    go : (list_any (λ e. same_dep e d) ds ≡ true → Contains ds d) → (b : Bool) → same_dep e d ≡ b → (b || list_any (λ e. same_dep e d) ds) ≡ true → Contains (e ∷ ds) d
    go rest true same h = subst (Contains (e ∷ ds)) (same_is e d same) (first e ds)
    go rest false differs h = later e ds d (rest h)

once_step : (d e : Dep) (ds : List Dep) → Contains (each_once ds) e → Contains (each_once (d ∷ ds)) e
once_step d e ds has = go (list_any (λ x. same_dep x d) ds)
  where
    go : (b : Bool) → Contains (if b then each_once ds else d ∷ each_once ds) e
    go true = has
    go false = later d (each_once ds) e has

once_keeps : (ds : List Dep) (d : Dep) → Contains ds d → Contains (each_once ds) d
once_keeps [] d has = has
once_keeps (e ∷ ds) d has = elim (first_or_later e ds d has) [
  | inl same ↦ subst (Contains (each_once (e ∷ ds))) same (go (once_keeps ds e) (list_any (λ x. same_dep x e) ds) refl)
  | inr behind ↦ once_step e d ds (once_keeps ds d behind)
]
  where
    go : (Contains ds e → Contains (each_once ds) e) → (b : Bool) → list_any (λ x. same_dep x e) ds ≡ b → Contains (if b then each_once ds else e ∷ each_once ds) e
    go rest true again = rest (any_contains ds e again)
    go rest false once = first e (each_once ds)

count_once : (p : Dep → Bool) (d : Dep) (ds : List Dep) → count_by p (each_once ds) ≤ count_by p (each_once (d ∷ ds))
count_once p d ds = go (list_any (λ x. same_dep x d) ds)
  where
    go : (b : Bool) → count_by p (each_once ds) ≤ count_by p (if b then each_once ds else d ∷ each_once ds)
    go true = omega arith
    go false = omega (arith, sum_by-cons (λ y. cond (p y) 1 0) d (each_once ds))

-- a dependency from a channel, to which the row does not lead so far
abbrev is_new : ℕ → Row → Dep → Bool
is_new c row d = (d.first.0 == c) && (if leads_to row d.second.0 then false else true)

new_when : (c : ℕ) (row : Row) (d : Dep) → d.first.0 ≡ c → leads_to row d.second.0 ≡ false → is_new c row d ≡ true
new_when c row d from unknown = rw (eq-eqb d.first.0 c from) (rw unknown refl)

not_new : (c : ℕ) (row : Row) (d : Dep) → leads_to row d.second.0 ≡ true → is_new c row d ≡ false
not_new c row d known = elim (eqb_tells d.first.0 c) [
  | inl h ↦ rw h.0 (rw known refl)
  | inr h ↦ rw h.0 refl
]

when_new : (c : ℕ) (row : Row) (d : Dep) → is_new c row d ≡ true → (d.first.0 ≡ c) × (leads_to row d.second.0 ≡ false)
when_new c row d new = elim (eqb_tells d.first.0 c) [
  | inr h ↦ (let t : false ≡ true = rw h.0 at new in absurd (cc))
  | inl h ↦ elim (either (leads_to row d.second.0)) [
    | inl known ↦ (let t : false ≡ true = rw (h.0, known) at new in absurd (cc))
    | inr unknown ↦ (h.1, unknown)
  ]
]

-- what is new to a longer row is new to the row
new_before : (c : ℕ) (row : Row) (b : ℕ) (d : Dep) → is_new c (raised row b) d ≡ true → is_new c row d ≡ true
new_before c row b d new =
    let was = when_new c (raised row b) d new in
    let e = raised_leads row b d.second.0 in
    let unknown : leads_to row d.second.0 ≡ false = elim (eqb_tells b d.second.0) [
      | inl h ↦ (let t : leads_to (raised row b) d.second.0 ≡ true = rw h.0 at e in let f = was.1 in absurd (cc))
      | inr h ↦ sym (rw h.0 at e) ∙ was.1
    ] in
    new_when c row d was.0 unknown

row_from : (c : ℕ) (ds : List Dep) (rows : List Row) → c < length rows → length (row_at (fold added rows ds) c) ≤ length (row_at rows c) + count_by (is_new c (row_at rows c)) (each_once ds)
row_from c [] rows within = omega arith
row_from c (d ∷ ds) rows within =
    let rows' = added rows d in
    let row = row_at rows c in
    let longer : c < length rows' = omega (arith, within, length-set rows d.first.0 (raised (row_at rows d.first.0) d.second.0)) in
    let rest = row_from c ds rows' longer in
    let more = count_once (is_new c row) d ds in
    elim (eqb_tells d.first.0 c) [
      | inr h ↦
          let at : row_at rows' c ≡ row = other rows d.first.0 d.second.0 c (λ same. h.1 (sym same)) in
          omega (arith, more, subst (λ (r : Row). length (row_at (fold added rows' ds) c) ≤ length r + count_by (is_new c r) (each_once ds)) at rest)
      | inl h ↦
          let b = d.second.0 in
          let at : row_at rows' c ≡ raised row b = subst (λ c. c < length rows → row_at rows' c ≡ raised (row_at rows c) b) h.1 (here rows d.first.0 b) within in
          let grown : length (row_at (fold added rows' ds) c) ≤ length (raised row b) + count_by (is_new c (raised row b)) (each_once ds) = subst (λ (r : Row). length (row_at (fold added rows' ds) c) ≤ length r + count_by (is_new c r) (each_once ds)) at rest in
          elim (either (leads_to row b)) [
            | inl known ↦
                let same : length (raised row b) ≡ length row = raised_length row b ∙ rw known (omega arith) in
                omega (arith, grown, same, more, count_below (is_new c (raised row b)) (is_new c row) (new_before c row b) (each_once ds))
            | inr unknown ↦
                let one : length (raised row b) ≡ length row + 1 = raised_length row b ∙ rw unknown refl in
                let new : is_new c row d ≡ true = new_when c row d h.1 unknown in
                let now_known : leads_to (raised row b) d.second.0 ≡ true = raised_leads row b b ∙ rw (eq-eqb b b refl) refl in
                let old : is_new c (raised row b) d ≡ false = not_new c (raised row b) d now_known in
                let strict : count_by (is_new c (raised row b)) (each_once ds) + 1 ≤ count_by (is_new c row) (each_once (d ∷ ds)) = counts c row b d ds new old in
                omega (arith, grown, one, strict)
          ]
    ]
  where
    counts : (c : ℕ) (row : Row) (b : ℕ) (d : Dep) (ds : List Dep) → is_new c row d ≡ true → is_new c (raised row b) d ≡ false → count_by (is_new c (raised row b)) (each_once ds) + 1 ≤ count_by (is_new c row) (each_once (d ∷ ds))
    counts c row b d ds new old = go (list_any (λ x. same_dep x d) ds) refl
      where
        go : (again : Bool) → list_any (λ x. same_dep x d) ds ≡ again → count_by (is_new c (raised row b)) (each_once ds) + 1 ≤ count_by (is_new c row) (if again then each_once ds else d ∷ each_once ds)
        go true again = count_less (is_new c (raised row b)) (is_new c row) (new_before c row b) (each_once ds) d (once_keeps ds d (any_contains ds d again)) old new
        go false once = omega (arith, ap one_if new, sum_by-cons (λ y. cond (is_new c row y) 1 0) d (each_once ds), count_below (is_new c (raised row b)) (is_new c row) (new_before c row b) (each_once ds))

-- a row is as long at most as there are different dependencies from its channel
row_short : (n : ℕ) (ds : List Dep) (c : ℕ) → length (row_at (rows_of n ds) c) ≤ count_by (λ d. d.first.0 == c) (each_once ds)
row_short n ds c = elim (cases_lt c n) [
  | inr past ↦ (let none : row_at (rows_of n ds) c ≡ [] = get_or_past (rows_of n ds) c [] (omega (arith, past, length_of n ds)) in omega (arith, ap (length {A = ℕ × ℕ}) none))
  | inl within ↦
      let start : row_at (replicate n []) c ≡ [] = none_at n c in
      let bound = row_from c ds (replicate n []) (omega (arith, within, length-replicate n (let none : Row = [] in none))) in
      let begun : length (row_at (rows_of n ds) c) ≤ length (let none : Row = [] in none) + count_by (is_new c []) (each_once ds) = subst (λ (r : Row). length (row_at (rows_of n ds) c) ≤ length r + count_by (is_new c r) (each_once ds)) start bound in
      omega (arith, begun, count_below (is_new c []) (λ d. d.first.0 == c) (λ d new. eq-eqb d.first.0 c (when_new c [] d new).0) (each_once ds))
]

sum_split : {X : Type 0} (h f g : X → ℕ) → ((x : X) → h x ≡ f x + g x) → (xs : List X) → sum_by h xs ≡ sum_by f xs + sum_by g xs
sum_split h f g each [] = omega arith
sum_split h f g each (x ∷ xs) = omega (arith, sum_split h f g each xs, each x, sum_by-cons h x xs, sum_by-cons f x xs, sum_by-cons g x xs)

no_sum : {X : Type 0} (f : X → ℕ) (xs : List X) → ((x : X) → Contains xs x → f x ≡ 0) → sum_by f xs ≡ 0
no_sum f [] none = refl
no_sum f (x ∷ xs) none = omega (arith, sum_by-cons f x xs, none x (first x xs), no_sum f xs (λ y has. none y (later x xs y has)))

abbrev Apart : ChannelId → ChannelId → Type 0
Apart c d = c.0 ≢ d.0

-- a number is that of one channel at most, where the channels differ
once_at_most : (x : ℕ) (cs : List ChannelId) → AllPairs Apart cs → sum_by (λ c. one_if (x == c.0)) cs ≤ 1
once_at_most x [] apart = omega arith
once_at_most x (c ∷ cs) apart = elim (eqb_tells x c.0) [
  | inl h ↦
      let rest : sum_by (λ c. one_if (x == c.0)) cs ≡ 0 = no_sum (λ (c : ChannelId). one_if (x == c.0)) cs (λ e has. ap one_if (ne_eqb x e.0 (λ same. pairs_head Apart c cs apart e has (sym h.1 ∙ same)))) in
      omega (arith, sum_by-cons (λ (c : ChannelId). one_if (x == c.0)) c cs, ap one_if h.0, rest)
  | inr h ↦ omega (arith, sum_by-cons (λ (c : ChannelId). one_if (x == c.0)) c cs, ap one_if h.0, once_at_most x cs (pairs_tail Apart c cs apart))
]

counts_apart : (cs : List ChannelId) → AllPairs Apart cs → (p : Dep → Bool) → ((c : ChannelId) (d : Dep) → Contains cs c → d.first.0 ≡ c.0 → p d ≡ true) → (ds : List Dep) → sum_by (λ c. count_by (λ d. d.first.0 == c.0) ds) cs ≤ count_by p ds
counts_apart cs apart p passes [] = omega (arith, no_sum (λ (c : ChannelId). 0) cs (λ c has. refl))
counts_apart cs apart p passes (d ∷ ds) =
    let here : sum_by (λ c. one_if (d.first.0 == c.0)) cs ≤ one_if (p d) = elim (either (p d)) [
      | inl has ↦ omega (arith, ap one_if has, once_at_most d.first.0 cs apart)
      | inr lacks ↦
          let none : sum_by (λ c. one_if (d.first.0 == c.0)) cs ≡ 0 = no_sum (λ (c : ChannelId). one_if (d.first.0 == c.0)) cs (λ c in_cs. ap one_if (ne_eqb d.first.0 c.0 (λ same. (let t = passes c d in_cs same in absurd (cc))))) in
          omega (arith, none)
    ] in
    omega (
      arith,
      here,
      counts_apart cs apart p passes ds,
      sum_by-cons (λ y. cond (p y) 1 0) d ds,
      sum_split (λ (c : ChannelId). count_by (λ d. d.first.0 == c.0) (d ∷ ds)) (λ c. one_if (d.first.0 == c.0)) (λ c. count_by (λ d. d.first.0 == c.0) ds) (λ c. sum_by-cons (λ (e : Dep). cond (e.first.0 == c.0) 1 0) d ds) cs,
    )

-- a short search takes at most as many steps as there are different dependencies that begin in its range
pub steps_bound : (g : Dependencies) (new : Dep) (s : Search) (taken : ℕ) → IsShort (rows_of g.channels g.listed) g.numbers new.second.0 new.first.0 s taken → taken ≤ present_between g new
steps_bound g new s taken short =
    let rows = rows_of g.channels g.listed in
    let once = each_once g.listed in
    let each : edges_from rows s.found ≤ sum_by (λ c. count_by (λ d. d.first.0 == c.0) once) s.found = sum_by-le-sum_by (λ (c : ChannelId). length (row_at rows c.0)) (λ c. count_by (λ d. d.first.0 == c.0) once) s.found (λ c. row_short g.channels g.listed c.0) in
    let all = counts_apart s.found short.differ (lies_between g new) (λ c d has same.
    let between = known_of (λ channel. (channel.0 < length g.numbers) × (slice_index g.numbers new.second.0 ≤ slice_index g.numbers channel.0) × (slice_index g.numbers channel.0 < slice_index g.numbers new.first.0)) s.found c short.between has in
    let low : nat_le (slice_index g.numbers new.second.0) (slice_index g.numbers d.first.0) ≡ true = le-leb (slice_index g.numbers new.second.0) (slice_index g.numbers d.first.0) (omega (arith, between.1, ap (slice_index g.numbers) same)) in
    let high : nat_le (slice_index g.numbers d.first.0) (slice_index g.numbers new.first.0) ≡ true = le-leb (slice_index g.numbers d.first.0) (slice_index g.numbers new.first.0) (omega (arith, between.2, ap (slice_index g.numbers) same)) in
    rw (low, high) refl) once in
    omega (arith, short.few, each, all, length-filter (lies_between g new) once)
