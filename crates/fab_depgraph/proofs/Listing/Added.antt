-- The rows after the dependencies of a list were added.
use Rattle.std.proofs.Common.{◌≡◌, ◌≢◌, ℕ, zero, suc, ◌+◌, ◌<◌, ◌≤◌, Bool, true, false, cond, if◌then◌else◌, List, [], ◌∷◌, ◌++◌, length, set, replicate, Contains, refl, sym, ◌∙◌, ap, subst, inl, inr, arith, length-set, get_or-set_same, get_or-set_other}
use Rattle.std.specs.List.{fold}
use Rattle.std.proofs.lemmas.Bool.{eq-eqb, cases_lt}
use Rattle.std.proofs.lemmas.Bool.Decides.{eqb_tells}
use Rattle.std.proofs.lemmas.List.{get_or_past, length-replicate, set-get_or, set-set, set_past}
use Rattle.std.proofs.lemmas.List.Sums.{sum_by-cons, sum_by-set, fold_push}
use Rattle.fab_model.specs.Topology.{channel_id}
use Rattle.fab_graph.proofs.Members.{first, later, first_or_later}
use Rattle.fab_depgraph.specs.declared.dep.Dep.{Dep}
use Rattle.fab_depgraph.specs.Edges.{Row, row_at, edge_count, channels_of, times_in, leads_to, raised, lowered, with_raised, with_lowered, CanBeLowered}
use Rattle.fab_depgraph.specs.Search.{Precedes}
use Rattle.fab_depgraph.specs.Listed.{dep_of, same_dep, times_listed, IsListed}
use Rattle.fab_depgraph.specs.Arena.{rows_of}
use Rattle.fab_depgraph.proofs.Listing.OneRow.{IsCounted, raised_times, raised_counted, raised_length, lowered_raised, raised_lowers, leads_contains, contains_leads}

abbrev pub one_if : Bool → ℕ
one_if b = cond b 1 0

abbrev pub added : List Row → Dep → List Row
added rows d = with_raised rows d.first.0 d.second.0

pub here : (rows : List Row) (a b : ℕ) → a < length rows → row_at (with_raised rows a b) a ≡ raised (row_at rows a) b
here rows a b within = get_or-set_same rows a (raised (row_at rows a) b) [] within

pub other : (rows : List Row) (a b c : ℕ) → c ≢ a → row_at (with_raised rows a b) c ≡ row_at rows c
other rows a b c differ = get_or-set_other rows a c (raised (row_at rows a) b) [] differ

pub none_at : (n a : ℕ) → row_at (replicate n []) a ≡ []
none_at zero a = refl
none_at (suc n) zero = refl
none_at (suc n) (suc a) = none_at n a

length_from : (ds : List Dep) (rows : List Row) → length (fold added rows ds) ≡ length rows
length_from [] rows = refl
length_from (d ∷ ds) rows = length_from ds (added rows d) ∙ length-set rows d.first.0 (raised (row_at rows d.first.0) d.second.0)

pub length_of : (n : ℕ) (ds : List Dep) → length (rows_of n ds) ≡ n
length_of n ds = length_from ds (replicate n []) ∙ length-replicate n []

counted_step : (rows : List Row) (d : Dep) → ((a : ℕ) → IsCounted (row_at rows a)) → (a : ℕ) → IsCounted (row_at (added rows d) a)
counted_step rows d counted a = elim (eqb_tells a d.first.0) [
  | inr h ↦ subst IsCounted (sym (other rows d.first.0 d.second.0 a h.1)) (counted a)
  | inl h ↦ subst (λ a. IsCounted (row_at (added rows d) a)) (sym h.1) (elim (cases_lt d.first.0 (length rows)) [
    | inl within ↦ subst IsCounted (sym (here rows d.first.0 d.second.0 within)) (raised_counted (row_at rows d.first.0) d.second.0 (counted d.first.0))
    | inr past ↦
        let long : length (added rows d) ≤ d.first.0 = omega (arith, past, length-set rows d.first.0 (raised (row_at rows d.first.0) d.second.0)) in
        subst IsCounted (sym (get_or_past (added rows d) d.first.0 [] long)) tt
  ])
]

counted_from : (ds : List Dep) (rows : List Row) → ((a : ℕ) → IsCounted (row_at rows a)) → (a : ℕ) → IsCounted (row_at (fold added rows ds) a)
counted_from [] rows counted = counted
counted_from (d ∷ ds) rows counted = counted_from ds (added rows d) (counted_step rows d counted)

pub counted_of : (n : ℕ) (ds : List Dep) (a : ℕ) → IsCounted (row_at (rows_of n ds) a)
counted_of n ds = counted_from ds (replicate n []) (λ a. subst IsCounted (sym (none_at n a)) tt)

times_step : (rows : List Row) (d : Dep) (a b : ℕ) → a < length rows → times_in (row_at (added rows d) a) b ≡ times_in (row_at rows a) b + one_if (same_dep d (dep_of a b))
times_step rows d a b within = elim (eqb_tells d.first.0 a) [
  | inl h ↦
      let at : row_at (added rows d) a ≡ raised (row_at rows a) d.second.0 = subst (λ a. a < length rows → row_at (added rows d) a ≡ raised (row_at rows a) d.second.0) h.1 (here rows d.first.0 d.second.0) within in
      ap (λ (r : Row). times_in r b) at ∙ (raised_times (row_at rows a) d.second.0 b ∙ rw h.0 refl)
  | inr h ↦ ap (λ (r : Row). times_in r b) (other rows d.first.0 d.second.0 a (λ same. h.1 (sym same))) ∙ rw h.0 (omega arith)
]

times_from : (ds : List Dep) (rows : List Row) (a b : ℕ) → a < length rows → times_in (row_at (fold added rows ds) a) b ≡ times_in (row_at rows a) b + times_listed ds (dep_of a b)
times_from [] rows a b within = omega arith
times_from (d ∷ ds) rows a b within =
    let longer : a < length (added rows d) = omega (arith, within, length-set rows d.first.0 (raised (row_at rows d.first.0) d.second.0)) in
    omega (arith, times_from ds (added rows d) a b longer, times_step rows d a b within, sum_by-cons (λ e. cond (same_dep e (dep_of a b)) 1 0) d ds)

pub times_of : (n : ℕ) (ds : List Dep) (a b : ℕ) → a < n → times_in (row_at (rows_of n ds) a) b ≡ times_listed ds (dep_of a b)
times_of n ds a b within =
    let start : times_in (row_at (replicate n []) a) b ≡ 0 = ap (λ (r : Row). times_in r b) (none_at n a) in
    omega (arith, start, times_from ds (replicate n []) a b (omega (arith, within, length-replicate n (let none : Row = [] in none))))

edges_step : (rows : List Row) (d : Dep) → edge_count (added rows d) ≤ edge_count rows + 1
edges_step rows d = elim (cases_lt d.first.0 (length rows)) [
  | inl within ↦
      let x = row_at rows d.first.0 in
      omega (arith, sum_by-set (length {A = ℕ × ℕ}) rows d.first.0 (raised x d.second.0) [] within, raised_length x d.second.0, one_at_most (if leads_to x d.second.0 then false else true))
  | inr past ↦ (let same : added rows d ≡ rows = set_past rows d.first.0 (raised (row_at rows d.first.0) d.second.0) past in omega (arith, ap edge_count same))
]
  where
    one_at_most : (b : Bool) → one_if b ≤ 1
    one_at_most true = omega arith
    one_at_most false = omega arith

edges_from_list : (ds : List Dep) (rows : List Row) → edge_count (fold added rows ds) ≤ edge_count rows + length ds
edges_from_list [] rows = omega arith
edges_from_list (d ∷ ds) rows = omega (arith, edges_from_list ds (added rows d), edges_step rows d)

pub edges_of : (n : ℕ) (ds : List Dep) → edge_count (rows_of n ds) ≤ length ds
edges_of n ds = omega (arith, edges_from_list ds (replicate n []), none n)
  where
    none : (n : ℕ) → edge_count (replicate n []) ≡ 0
    none zero = refl
    none (suc n) = omega (arith, none n, sum_by-cons (length {A = ℕ × ℕ}) [] (replicate n []))

pub one_more : (n : ℕ) (ds : List Dep) (d : Dep) → rows_of n (ds ++ d ∷ []) ≡ with_raised (rows_of n ds) d.first.0 d.second.0
one_more n ds d = fold_push added (replicate n []) ds d

pub one_less : (n : ℕ) (ds : List Dep) (d : Dep) → d.first.0 < n → with_lowered (rows_of n (ds ++ d ∷ [])) d.first.0 d.second.0 ≡ rows_of n ds
one_less n ds d within =
    let rows = rows_of n ds in
    let a = d.first.0 in
    let b = d.second.0 in
    let inside : a < length rows = omega (arith, within, length_of n ds) in
    let row : row_at (with_raised rows a b) a ≡ raised (row_at rows a) b = here rows a b inside in
    ap (λ (rs : List Row). with_lowered rs a b) (one_more n ds d)
    ∙ (ap (λ (r : Row). set (with_raised rows a b) a (lowered r b)) row
    ∙ (ap (λ (r : Row). set (with_raised rows a b) a r) (lowered_raised (row_at rows a) b (counted_of n ds a))
    ∙ (set-set rows a (raised (row_at rows a) b) (row_at rows a) ∙ set-get_or rows a [])))

pub can_lower : (n : ℕ) (ds : List Dep) (d : Dep) → d.first.0 < n → CanBeLowered (row_at (rows_of n (ds ++ d ∷ [])) d.first.0) d.second.0
can_lower n ds d within =
    let rows = rows_of n ds in
    let inside : d.first.0 < length rows = omega (arith, within, length_of n ds) in
    let row : row_at (rows_of n (ds ++ d ∷ [])) d.first.0 ≡ raised (row_at rows d.first.0) d.second.0 = ap (λ (rs : List Row). row_at rs d.first.0) (one_more n ds d) ∙ here rows d.first.0 d.second.0 inside in
    subst (λ (r : Row). CanBeLowered r d.second.0) (sym row) (raised_lowers (row_at rows d.first.0) d.second.0 (counted_of n ds d.first.0))

-- a dependency stands in a list where it is counted there
pub listed_times : (ds : List Dep) (d : Dep) → Contains ds d → 0 < times_listed ds d
listed_times [] d h = absurd (omega (arith, h.1))
listed_times (e ∷ ds) d h = elim (first_or_later e ds d h) [
  | inl same ↦
      let one : same_dep e d ≡ true = subst (λ (d : Dep). same_dep e d ≡ true) same (rw (eq-eqb e.first.0 e.first.0 refl) (eq-eqb e.second.0 e.second.0 refl)) in
      omega (arith, sum_by-cons (λ x. cond (same_dep x d) 1 0) e ds, ap one_if one)
  | inr behind ↦ omega (arith, sum_by-cons (λ x. cond (same_dep x d) 1 0) e ds, listed_times ds d behind)
]

pub same_is : (e d : Dep) → same_dep e d ≡ true → e ≡ d
same_is e d same = elim (eqb_tells e.first.0 d.first.0) [
  | inr h ↦ (let t : false ≡ true = rw h.0 at same in absurd (cc))
  | inl h ↦ elim (eqb_tells e.second.0 d.second.0) [
    | inr k ↦ (let t : false ≡ true = rw (h.0, k.0) at same in absurd (cc))
    | inl k ↦ (let a = h.1 in let b = k.1 in let x : dep_of e.first.0 e.second.0 ≡ dep_of d.first.0 d.second.0 = cc in x)
  ]
]

pub times_listed_some : (ds : List Dep) (d : Dep) → 0 < times_listed ds d → Contains ds d
times_listed_some [] d some = absurd (omega arith)
times_listed_some (e ∷ ds) d some = go (times_listed_some ds d) (same_dep e d) refl
  where
    go : (0 < times_listed ds d → Contains ds d) → (b : Bool) → same_dep e d ≡ b → Contains (e ∷ ds) d
    go rest true same = subst (Contains (e ∷ ds)) (same_is e d same) (first e ds)
    go rest false differs = later e ds d (rest (omega (arith, some, sum_by-cons (λ x. cond (same_dep x d) 1 0) e ds, ap one_if differs)))

pub precedes_listed : (n : ℕ) (ds : List Dep) (a b : ℕ) → a < n → Precedes (rows_of n ds) a b → IsListed ds a b
precedes_listed n ds a b within edge = times_listed_some ds (dep_of a b) (omega (arith, times_of n ds a b within, contains_leads (row_at (rows_of n ds) a) b (counted_of n ds a) edge))

pub listed_precedes : (n : ℕ) (ds : List Dep) (a b : ℕ) → a < n → IsListed ds a b → Precedes (rows_of n ds) a b
listed_precedes n ds a b within listed = leads_contains (row_at (rows_of n ds) a) b (omega (arith, times_of n ds a b within, listed_times ds (dep_of a b) listed))

pub precedes_within : (n : ℕ) (ds : List Dep) (a b : ℕ) → Precedes (rows_of n ds) a b → a < n
precedes_within n ds a b edge = elim (cases_lt a n) [
  | inl within ↦ within
  | inr past ↦
      let none : row_at (rows_of n ds) a ≡ [] = get_or_past (rows_of n ds) a [] (omega (arith, past, length_of n ds)) in
      let nothing : Contains (channels_of []) (channel_id b) = subst (λ (r : Row). Contains (channels_of r) (channel_id b)) none edge in
      absurd (omega (arith, nothing.1))
]
