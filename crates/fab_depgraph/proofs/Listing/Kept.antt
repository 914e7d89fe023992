-- What an arena keeps as dependencies are added and taken back.
use Rattle.std.proofs.Common.{◌≡◌, ℕ, ◌+◌, ◌<◌, ◌^◌, Bool, true, false, List, [], ◌∷◌, ◌++◌, length, All, Contains, slice_index, slice_index_or, refl, sym, ◌∙◌, ap, subst, inl, inr, arith, length-append}
use Rattle.std.proofs.lemmas.Bool.{cases_lt}
use Rattle.std.proofs.lemmas.List.{get_or_default, get_or_append_left, get_or_past}
use Rattle.std.proofs.lemmas.List.Elements.{All-push, Contains-append_left, Contains-append_right}
use Rattle.fab_graph.specs.Walks.{Walk, IsAcyclic, HasClosedWalk}
use Rattle.fab_graph.proofs.Graphs.{rising_is_acyclic}
use Rattle.fab_graph.proofs.Parts.{walk_in}
use Rattle.fab_graph.proofs.Members.{first}
use Rattle.fab_depgraph.specs.declared.dep.Dep.{Dep}
use Rattle.fab_depgraph.specs.Edges.{Row, EdgeRows, CanBeLowered, row_at, times_in, with_raised, with_lowered}
use Rattle.fab_depgraph.specs.Order.{AreNumbers, IsMovedBehind, IsBetween, is_reached}
use Rattle.fab_depgraph.specs.Search.{Search, Precedes, AreRising, IsClosed}
use Rattle.fab_depgraph.specs.Listed.{Dependencies, dep_of, IsListed, times_listed, number, IsWithin, NumbersRise, AreDependencies}
use Rattle.fab_depgraph.specs.Arena.{rows_of, IsArena}
use Rattle.fab_depgraph.proofs.Searching.Going.{known_of}
use Rattle.fab_depgraph.proofs.Listing.Added.{length_of, times_of, times_listed_some, can_lower, one_more, one_less, precedes_listed, listed_precedes, precedes_within}

-- numbers that rise along all dependencies close no walk
pub rising_closes_none : (g : Dependencies) → NumbersRise g → IsAcyclic (IsListed g.listed)
rising_closes_none g rise = rising_is_acyclic (IsListed g.listed) (number g) (λ a b edge. known_of (λ (d : Dep). number g d.first.0 < number g d.second.0) g.listed (dep_of a b) rise edge)

none_listed : (listed : List Dep) (P : Dep → Type 0) → listed ≡ [] → All P listed
none_listed listed P none k d k_in = absurd (omega (arith, ap (length {A = Dep}) none))

-- a new arena
pub first_dependencies : (numbers : List ℕ) → AreNumbers numbers → AreDependencies (record { channels = length numbers; listed = []; spare = 0; numbers = numbers })
first_dependencies numbers are =
    let g : Dependencies = record { channels = length numbers; listed = []; spare = 0; numbers = numbers } in
    record {
      within = none_listed [] (λ d. IsWithin g.channels d) refl;
      short = omega arith;
      acyclic = rising_closes_none g (none_listed [] (λ d. number g d.first.0 < number g d.second.0) refl);
      each_number = refl;
      from_0_on = are.below;
      differ = are.differ;
      rise = none_listed [] (λ d. number g d.first.0 < number g d.second.0) refl;
    }

-- the graph of the edges is that of the list, so numbers rise along it
pub edges_rise : (g : Dependencies) → AreDependencies g → AreRising (rows_of g.channels g.listed) g.numbers
edges_rise g kept = record {
  each = length_of g.channels g.listed ∙ sym kept.each_number;
  within = λ a b edge.
      let listed = precedes_listed g.channels g.listed a b (precedes_within g.channels g.listed a b edge) edge in
      let known = known_of (λ (d : Dep). IsWithin g.channels d) g.listed (dep_of a b) kept.within listed in
      omega (arith, known.1, kept.each_number);
  rise = λ a b edge.
      let listed = precedes_listed g.channels g.listed a b (precedes_within g.channels g.listed a b edge) edge in
      known_of (λ (d : Dep). number g d.first.0 < number g d.second.0) g.listed (dep_of a b) kept.rise listed;
}

pub walk_listed : (channels : ℕ) (listed : List Dep) (n a b : ℕ) → Walk (Precedes (rows_of channels listed)) n a b → Walk (IsListed listed) n a b
walk_listed channels listed = walk_in (Precedes (rows_of channels listed)) (IsListed listed) (λ a b edge. precedes_listed channels listed a b (precedes_within channels listed a b edge) edge)

-- a walk back from the second channel to the first is closed by the dependency
pub closes : (listed : List Dep) (d : Dep) (n : ℕ) → Walk (IsListed listed) n d.second.0 d.first.0 → HasClosedWalk (IsListed (listed ++ d ∷ []))
closes listed d n walk =
    let more : (a b : ℕ) → IsListed listed a b → IsListed (listed ++ d ∷ []) a b = λ a b edge. Contains-append_left listed (d ∷ []) (dep_of a b) edge in
    (d.first.0, (n, (d.second.0, Contains-append_right listed (d ∷ []) d (first d []), walk_in (IsListed listed) (IsListed (listed ++ d ∷ [])) more n d.second.0 d.first.0 walk)))

-- the numbers were shared out anew after a search that did not meet the first channel
module _ (g : Dependencies) (kept : AreDependencies g) (d : Dep) (within : IsWithin g.channels d) (s : Search) (closed : IsClosed (rows_of g.channels g.listed) g.numbers d.second.0 d.first.0 s)
    (new : List ℕ) (moved : IsMovedBehind g.numbers new (number g d.second.0) (number g d.first.0) s.marks) (numbers : AreNumbers new) (order : number g d.second.0 < number g d.first.0) where
  low : ℕ
  low = number g d.second.0

  inside : (c : ℕ) → c < g.channels → c < length g.numbers
  inside c c_in = omega (arith, c_in, kept.each_number)

  first_missed : is_reached s.marks d.first.0 ≡ false
  first_missed = go (is_reached s.marks d.first.0) refl
    where
      go : (b : Bool) → is_reached s.marks d.first.0 ≡ b → b ≡ false
      go true reached = absurd (omega (arith, (closed.between d.first.0 reached).1))
      go false reached = refl

  pub moved_rises : slice_index new d.first.0 < slice_index new d.second.0
  moved_rises =
      moved.behind d.first.0 d.second.0 (inside d.first.0 within.0) (inside d.second.0 within.1) (omega (arith, order), omega arith) (omega arith, omega (arith, order)) first_missed closed.begins

  both_inside : (a b : ℕ) → a < g.channels → b < g.channels → Precedes (rows_of g.channels g.listed) a b → number g a < number g b → IsBetween (number g d.second.0) (number g d.first.0) (number g a) → IsBetween (number g d.second.0) (number g d.first.0) (number g b) → slice_index new a < slice_index new b
  both_inside a b a_in b_in edge less a_between b_between = go (is_reached s.marks a) (is_reached s.marks b) refl refl
    where
      below : is_reached s.marks a ≡ true → number g b < number g d.first.0
      below reached = elim (cases_lt (number g b) (number g d.first.0)) [
        | inl lower ↦ lower
        | inr higher ↦
            let same : number g b ≡ number g d.first.0 = omega (arith, b_between.1, higher) in
            absurd (closed.misses a b reached edge (kept.differ b d.first.0 b_in within.0 same))
      ]

      go : (x y : Bool) → is_reached s.marks a ≡ x → is_reached s.marks b ≡ y → slice_index new a < slice_index new b
      go true y a_is b_is = moved.keeps a b (inside a a_in) (inside b b_in) a_between b_between (a_is ∙ sym (closed.goes_on a b a_is edge (below a_is))) less
      go false true a_is b_is = moved.behind a b (inside a a_in) (inside b b_in) a_between b_between a_is b_is
      go false false a_is b_is = moved.keeps a b (inside a a_in) (inside b b_in) a_between b_between (a_is ∙ sym b_is) less

  still_rises : (a b : ℕ) → a < g.channels → b < g.channels → Precedes (rows_of g.channels g.listed) a b → number g a < number g b → slice_index new a < slice_index new b
  still_rises a b a_in b_in edge less = elim (cases_lt (number g a) (number g d.second.0)) [
    | inl a_low ↦
        let a_same = moved.outside a (inside a a_in) (inl a_low) in
        elim (cases_lt (number g b) (number g d.second.0)) [
          | inl b_low ↦ omega (arith, less, a_same, moved.outside b (inside b b_in) (inl b_low))
          | inr b_not_low ↦ elim (cases_lt (number g d.first.0) (number g b)) [
            | inl b_high ↦ omega (arith, less, a_same, moved.outside b (inside b b_in) (inr b_high))
            | inr b_not_high ↦ omega (arith, a_low, a_same, (moved.inside b (inside b b_in) (b_not_low, omega arith)).0)
          ]
        ]
    | inr a_not_low ↦ elim (cases_lt (number g d.first.0) (number g a)) [
      | inl a_high ↦ omega (arith, less, moved.outside a (inside a a_in) (inr a_high), moved.outside b (inside b b_in) (inr (omega (arith, less, a_high))))
      | inr a_not_high ↦ elim (cases_lt (number g d.first.0) (number g b)) [
        | inl b_high ↦ omega (arith, b_high, moved.outside b (inside b b_in) (inr b_high), (moved.inside a (inside a a_in) (a_not_low, omega arith)).1)
        | inr b_not_high ↦ both_inside a b a_in b_in edge less (a_not_low, omega arith) (omega (arith, less, a_not_low), omega arith)
      ]
    ]
  ]

  pub moved_kept : AreDependencies (record g { numbers = new })
  moved_kept =
      let rise : NumbersRise (record g { numbers = new }) = λ k e k_in.
      let dep = slice_index_or g.listed k e in
      let known = kept.within k e k_in in
      let here : IsListed g.listed dep.first.0 dep.second.0 = (k, k_in, get_or_default g.listed k dep e k_in) in
      still_rises dep.first.0 dep.second.0 known.0 known.1 (listed_precedes g.channels g.listed dep.first.0 dep.second.0 known.0 here) (kept.rise k e k_in) in
      record {
        within = kept.within;
        short = kept.short;
        acyclic = kept.acyclic;
        each_number = moved.each ∙ kept.each_number;
        from_0_on = subst (λ n. All (λ m. m < n) new) (moved.each ∙ kept.each_number) numbers.below;
        differ = λ c e c_in e_in same. numbers.differ c e (omega (arith, c_in, moved.each, kept.each_number)) (omega (arith, e_in, moved.each, kept.each_number)) same;
        rise = rise;
      }

-- a dependency along which the numbers rise was added
pub added_kept : (g : Dependencies) → AreDependencies g → (d : Dep) → IsWithin g.channels d → number g d.first.0 < number g d.second.0 → (spare : ℕ) → g.spare ≡ spare + 1 → AreDependencies (record g { listed = g.listed ++ d ∷ []; spare = spare })
added_kept g kept d within less spare fewer =
    let rise : NumbersRise (record g { listed = g.listed ++ d ∷ []; spare = spare }) = All-push (λ e. number g e.first.0 < number g e.second.0) g.listed d kept.rise less in
    record {
      within = All-push (λ e. IsWithin g.channels e) g.listed d kept.within within;
      short = omega (arith, kept.short, fewer, length-append g.listed (d ∷ []));
      acyclic = rising_closes_none (record g { listed = g.listed ++ d ∷ []; spare = spare }) rise;
      each_number = kept.each_number;
      from_0_on = kept.from_0_on;
      differ = kept.differ;
      rise = rise;
    }

-- the last dependency was taken back
pub less_kept : (g : Dependencies) → AreDependencies g → (listed : List Dep) (d : Dep) → g.listed ≡ listed ++ d ∷ [] → AreDependencies (record g { listed = listed; spare = g.spare + 1 })
less_kept g kept listed d whole =
    let front : (P : Dep → Type 0) → All P g.listed → All P listed = λ P all k e k_in.
    let long : length g.listed ≡ length listed + 1 = ap (length {A = Dep}) whole ∙ length-append listed (d ∷ []) in
    let at : slice_index_or g.listed k e ≡ slice_index_or listed k e = ap (λ (ds : List Dep). slice_index_or ds k e) whole ∙ get_or_append_left listed (d ∷ []) e k k_in in
    subst P at (all k e (omega (arith, k_in, long))) in
    let rise : NumbersRise (record g { listed = listed; spare = g.spare + 1 }) = front (λ e. number g e.first.0 < number g e.second.0) kept.rise in
    record {
      within = front (λ e. IsWithin g.channels e) kept.within;
      short = omega (arith, kept.short, ap (length {A = Dep}) whole, length-append listed (d ∷ []));
      acyclic = rising_closes_none (record g { listed = listed; spare = g.spare + 1 }) rise;
      each_number = kept.each_number;
      from_0_on = kept.from_0_on;
      differ = kept.differ;
      rise = rise;
    }

-- how often an edge was added is how often its dependency is listed
pub times_all : (g : Dependencies) → AreDependencies g → (d : Dep) → times_in (row_at (rows_of g.channels g.listed) d.first.0) d.second.0 ≡ times_listed g.listed d
times_all g kept d = elim (cases_lt d.first.0 g.channels) [
  | inl within ↦ times_of g.channels g.listed d.first.0 d.second.0 within
  | inr past ↦
      let none : row_at (rows_of g.channels g.listed) d.first.0 ≡ [] = get_or_past (rows_of g.channels g.listed) d.first.0 [] (omega (arith, past, length_of g.channels g.listed)) in
      let never : times_listed g.listed d ≡ 0 = elim (cases_lt 0 (times_listed g.listed d)) [
        | inl some ↦ absurd (omega (arith, past, (known_of (λ (e : Dep). IsWithin g.channels e) g.listed d kept.within (times_listed_some g.listed d some)).0))
        | inr never ↦ omega arith
      ] in
      ap (λ (row : Row). times_in row d.second.0) none ∙ sym never
]

-- another spare
pub respared : (g : Dependencies) → AreDependencies g → (spare : ℕ) → length g.listed + spare < 2 ^ 32 → AreDependencies (record g { spare = spare })
respared g kept spare fits = record {
  within = kept.within;
  short = fits;
  acyclic = kept.acyclic;
  each_number = kept.each_number;
  from_0_on = kept.from_0_on;
  differ = kept.differ;
  rise = kept.rise;
}

module _ (edges new : EdgeRows) (numbers : List ℕ) (search : Search) (listed : List Dep) (d : Dep) (capacity : ℕ) (same : new.capacity ≡ edges.capacity) where
  -- an arena after an addition
  pub added_arena : (spare fewer : ℕ) → IsArena edges numbers search listed spare capacity → IsWithin (length numbers) d → slice_index numbers d.first.0 < slice_index numbers d.second.0 → spare ≡ fewer + 1 → new.rows ≡ with_raised edges.rows d.first.0 d.second.0 → IsArena new numbers search (listed ++ d ∷ []) fewer capacity
  added_arena spare fewer arena within less one raised =
      let g : Dependencies = record { channels = length numbers; listed = listed; spare = spare; numbers = numbers } in
      record {
        dependencies = added_kept g arena.dependencies d within less fewer one;
        rows = raised ∙ (ap (λ (rows : List Row). with_raised rows d.first.0 d.second.0) arena.rows ∙ sym (one_more (length numbers) listed d));
        marks = arena.marks;
        edge_room = omega (arith, same, arena.edge_room, one, length-append listed (d ∷ []));
        trail_room = omega (arith, arena.trail_room, one, length-append listed (d ∷ []));
      }

  -- an arena after its last addition was taken back
  pub undone_arena : (spare : ℕ) (whole : List Dep) → IsArena edges numbers search whole spare capacity → whole ≡ listed ++ d ∷ [] → new.rows ≡ with_lowered edges.rows d.first.0 d.second.0 → IsArena new numbers search listed (spare + 1) capacity
  undone_arena spare whole arena last lowered =
      let g : Dependencies = record { channels = length numbers; listed = whole; spare = spare; numbers = numbers } in
      let long : length whole ≡ length listed + 1 = ap (length {A = Dep}) last ∙ length-append listed (d ∷ []) in
      record {
        dependencies = less_kept g arena.dependencies listed d last;
        rows = lowered ∙ (ap (λ (rows : List Row). with_lowered rows d.first.0 d.second.0) (arena.rows ∙ ap (rows_of (length numbers)) last) ∙ one_less (length numbers) listed d (last_within whole arena last).0);
        marks = arena.marks;
        edge_room = omega (arith, same, arena.edge_room, long);
        trail_room = omega (arith, arena.trail_room, long);
      }
    where
      last_within : (whole : List Dep) → IsArena edges numbers search whole spare capacity → whole ≡ listed ++ d ∷ [] → IsWithin (length numbers) d
      last_within whole arena last = known_of (λ (e : Dep). IsWithin (length numbers) e) whole d arena.dependencies.within (subst (λ (ds : List Dep). Contains ds d) (sym last) (Contains-append_right listed (d ∷ []) d (first d [])))

-- the last dependency of a list is within, and can be taken back
pub last_is_within : (numbers : List ℕ) (edges : EdgeRows) (search : Search) (whole listed : List Dep) (d : Dep) (spare capacity : ℕ) → IsArena edges numbers search whole spare capacity → whole ≡ listed ++ d ∷ [] → (d.first.0 < length edges.rows) × CanBeLowered (row_at edges.rows d.first.0) d.second.0
last_is_within numbers edges search whole listed d spare capacity arena last =
    let within : IsWithin (length numbers) d = known_of (λ (e : Dep). IsWithin (length numbers) e) whole d arena.dependencies.within (subst (λ (ds : List Dep). Contains ds d) (sym last) (Contains-append_right listed (d ∷ []) d (first d []))) in
    let rows : edges.rows ≡ rows_of (length numbers) (listed ++ d ∷ []) = arena.rows ∙ ap (rows_of (length numbers)) last in (
      omega (arith, within.0, ap (length {A = Row}) arena.rows, length_of (length numbers) whole),
      subst (λ (rows : List Row). CanBeLowered (row_at rows d.first.0) d.second.0) (sym rows) (can_lower (length numbers) listed d within.0),
    )
