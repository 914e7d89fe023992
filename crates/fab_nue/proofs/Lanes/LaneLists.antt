-- What a change of one arena leaves of the others.
use Rattle.std.proofs.Common.{◌≡◌, ◌≢◌, ℕ, zero, suc, ◌+◌, ◌<◌, ◌≤◌, ◌⊎◌, inl, inr, List, [], ◌∷◌, ◌++◌, length, All, Option, Some, refl, sym, ◌∙◌, ap, subst, arith, length-append}
use Rattle.std.specs.Prelude.{slice_get, slice_set, slice_index_or, option_map, unwrap_or}
use Rattle.std.proofs.lemmas.Option.{same_Some, none-some, slice_get-get_or}
use Rattle.std.proofs.lemmas.List.Elements.{All-contains}
use Rattle.std.proofs.lemmas.List.Sorted.{length_permutation}
use Rattle.fab_graph.specs.Walks.{SameGraph}
use Rattle.fab_graph.proofs.Same.{swapped}
use Rattle.fab_model.specs.Topology.{Topology}
use Rattle.fab_tables.specs.TreeWalks.{DependsInTree}
use Rattle.fab_tables.proofs.Verdicts.CertifiedLaws.{contains_of}
use Rattle.fab_depgraph.specs.declared.dep.Dep.{Dep}
use Rattle.fab_depgraph.specs.declared.dep.Added.{Added}
use Rattle.fab_depgraph.specs.declared.dep.Added.TheVariants.{Yes, WouldClose}
use Rattle.fab_depgraph.specs.Listed.{Dependencies, IsListed}
use Rattle.fab_nue.specs.Search.{ClosesNone}
use Rattle.fab_nue.specs.Added.{deps_of_tree, AddsTree}
use Rattle.fab_nue.specs.Arenas.{listed_in, spare_in, channel_counts, HaveChannels, AreShort, ChangesLane, ListsTree, IsTried}
use Rattle.fab_nue.proofs.Searching.Growing.{same_or_other}
use Rattle.fab_nue.proofs.Searching.Listing.{union_listed, few_deps}
use Rattle.fab_nue.proofs.Searching.Adding.{taken_back}

-- ---- what is read of the arena of a lane

module _ {A : Type 0} (f : Dependencies → A) (d : A) where
  abbrev pub read : List Dependencies → ℕ → A
  read used lane = unwrap_or (option_map f (slice_get used lane)) d

  pub read_at : (used : List Dependencies) (lane : ℕ) (g : Dependencies) → slice_get used lane ≡ Some g → read used lane ≡ f g
  read_at used lane g is = ap (λ o. unwrap_or (option_map f o) d) is

  pub read_here : (used : List Dependencies) (lane : ℕ) (g h : Dependencies) → slice_get used lane ≡ Some g → read (slice_set used lane h) lane ≡ f h
  read_here [] lane g h is = absurd (none-some g is)
  read_here (x ∷ xs) zero g h is = refl
  read_here (x ∷ xs) (suc lane) g h is = read_here xs lane g h is

  pub read_elsewhere : (used : List Dependencies) (lane other : ℕ) (h : Dependencies) → other ≢ lane → read (slice_set used lane h) other ≡ read used other
  read_elsewhere [] lane other h differ = refl
  read_elsewhere (x ∷ xs) zero zero h differ = absurd (differ refl)
  read_elsewhere (x ∷ xs) zero (suc other) h differ = refl
  read_elsewhere (x ∷ xs) (suc lane) zero h differ = refl
  read_elsewhere (x ∷ xs) (suc lane) (suc other) h differ = read_elsewhere xs lane other h (λ same. differ (ap suc same))

abbrev list_of : Dependencies → List Dep
list_of g = g.listed

abbrev spare_of : Dependencies → ℕ
spare_of g = g.spare

pub listed_at : (used : List Dependencies) (lane : ℕ) (g : Dependencies) → slice_get used lane ≡ Some g → listed_in used lane ≡ g.listed
listed_at used lane g is = read_at list_of [] used lane g is

pub spare_at : (used : List Dependencies) (lane : ℕ) (g : Dependencies) → slice_get used lane ≡ Some g → spare_in used lane ≡ g.spare
spare_at used lane g is = read_at spare_of 0 used lane g is

-- ---- how many channels each has

counts_set : (used : List Dependencies) (lane : ℕ) (g h : Dependencies) → slice_get used lane ≡ Some g → h.channels ≡ g.channels → channel_counts (slice_set used lane h) ≡ channel_counts used
counts_set [] lane g h is same = absurd (none-some g is)
counts_set (x ∷ xs) zero g h is same = ap (λ n. n ∷ channel_counts xs) (same ∙ ap (λ (y : Dependencies). y.channels) (sym (same_Some x g is)))
counts_set (x ∷ xs) (suc lane) g h is same = ap (λ ns. x.channels ∷ ns) (counts_set xs lane g h is same)

count_at : (used : List Dependencies) (lane : ℕ) (g : Dependencies) → slice_get used lane ≡ Some g → slice_get (channel_counts used) lane ≡ Some g.channels
count_at [] lane g is = absurd (none-some g is)
count_at (x ∷ xs) zero g is = ap (λ (y : Dependencies). Some y.channels) (same_Some x g is)
count_at (x ∷ xs) (suc lane) g is = count_at xs lane g is

pub same_length : (old new : List Dependencies) → channel_counts new ≡ channel_counts old → length new ≡ length old
same_length [] [] same = refl
same_length [] (x ∷ xs) same = cc
same_length (x ∷ xs) [] same = cc
same_length (x ∷ xs) (y ∷ ys) same = let rest : length ys ≡ length xs = same_length xs ys cc in omega (arith, rest)

pub channels_at : (t : Topology) (used : List Dependencies) (lane : ℕ) (g : Dependencies) → HaveChannels t used → slice_get used lane ≡ Some g → g.channels ≡ length t.channels
channels_at t used lane g all is =
    All-contains (λ count. count ≡ length t.channels) (channel_counts used) g.channels all (contains_of (channel_counts used) lane g.channels (count_at used lane g is))

pub still_have : (t : Topology) (old new : List Dependencies) → channel_counts new ≡ channel_counts old → HaveChannels t old → HaveChannels t new
still_have t old new same all = subst (λ counts. All (λ count. count ≡ length t.channels) counts) (sym same) all

-- the arena of a lane that there is
pub arena_at : (used : List Dependencies) (lane : ℕ) → lane < length used → (g : Dependencies) × (slice_get used lane ≡ Some g)
arena_at used lane low =
    let d : Dependencies = record { channels = 0; listed = []; spare = 0; numbers = [] } in
    (slice_index_or used lane d, slice_get-get_or used lane d low)

-- ---- one arena changes

pub changed : (lane : ℕ) (old : List Dependencies) (g h : Dependencies) → slice_get old lane ≡ Some g → h.channels ≡ g.channels → ChangesLane lane old (slice_set old lane h)
changed lane old g h is same = record {
  channels = counts_set old lane g h is same;
  listed = λ other differ. read_elsewhere list_of [] old lane other h differ;
  spare = λ other differ. read_elsewhere spare_of 0 old lane other h differ;
}

pub listed_here : (used : List Dependencies) (lane : ℕ) (g h : Dependencies) → slice_get used lane ≡ Some g → listed_in (slice_set used lane h) lane ≡ h.listed
listed_here used lane g h is = read_here list_of [] used lane g h is

pub spare_here : (used : List Dependencies) (lane : ℕ) (g h : Dependencies) → slice_get used lane ≡ Some g → spare_in (slice_set used lane h) lane ≡ h.spare
spare_here used lane g h is = read_here spare_of 0 used lane g h is

-- a list to which a tree was added
pub lists_tree : (t : Topology) (tree : List (Option ℕ)) (m h : Dependencies) (xs ys : List Dep) → length tree ≡ length t.switches → AddsTree t tree m h → ClosesNone t (IsListed m.listed) tree →
    m.listed ≡ xs → h.listed ≡ ys → ListsTree t tree xs ys
lists_tree t tree m h xs ys each adds none old new = record {
  union = subst (λ zs. SameGraph (λ (c d : ℕ). IsListed xs c d ⊎ DependsInTree t tree c d) (IsListed zs)) (ap (λ zs. zs ++ adds.added) (sym old) ∙ sym adds.listed ∙ new)
      (swapped (IsListed (xs ++ adds.added)) (λ (c d : ℕ). IsListed xs c d ⊎ DependsInTree t tree c d) (union_listed t xs adds.added tree each adds.once));
  behind = taken_back xs adds.added ys (length xs) refl (sym new ∙ adds.listed ∙ ap (λ zs. zs ++ adds.added) old);
  few = omega (
    arith,
    few_deps t tree,
    length_permutation adds.added (deps_of_tree t tree) adds.once,
    ap (λ (zs : List Dep). length zs) (sym new ∙ adds.listed),
    length-append m.listed adds.added,
    ap (λ (zs : List Dep). length zs) old,
  );
  closes_none = subst (λ zs. ClosesNone t (IsListed zs) tree) old none;
}

-- the try of an arena is a try of its lane
pub tried : (t : Topology) (tree : List (Option ℕ)) (lane : ℕ) (old new : List Dependencies) (g m h : Dependencies) (answer : Added) → slice_get old lane ≡ Some g → new ≡ slice_set old lane h →
    m.listed ≡ g.listed → m.channels ≡ g.channels → h.channels ≡ m.channels → length tree ≡ length t.switches → (answer ≡ Yes → AddsTree t tree m h) →
    (answer ≡ Yes → ClosesNone t (IsListed m.listed) tree) → (answer ≡ WouldClose → ¬ ClosesNone t (IsListed m.listed) tree) → (answer ≡ WouldClose → h.listed ≡ m.listed) →
    IsTried t tree lane old new answer
tried t tree lane old new g m h answer is set same_listed same_channels kept each added none closes stays =
    subst (λ (x : List Dependencies). IsTried t tree lane old x answer) (sym set) (record {
      changes = changed lane old g h is (kept ∙ same_channels);
      added = λ yes. lists_tree t tree m h (listed_in old lane) (listed_in (slice_set old lane h) lane) each (added yes) (none yes) before (sym here);
      refused = λ no. (here ∙ stays no ∙ before, subst (λ xs. ¬ ClosesNone t (IsListed xs) tree) before (closes no));
    })
  where
    here : listed_in (slice_set old lane h) lane ≡ h.listed
    here = listed_here old lane g h is

    before : m.listed ≡ listed_in old lane
    before = same_listed ∙ sym (listed_at old lane g is)

-- lists grow by one for each switch at most
pub still_short : (t : Topology) (tree : List (Option ℕ)) (lane n : ℕ) (old new : List Dependencies) → ChangesLane lane old new → ListsTree t tree (listed_in old lane) (listed_in new lane) →
    AreShort n old → AreShort (n + length t.switches) new
still_short t tree lane n old new changes lists short other = elim (same_or_other other lane) [
  | inl e ↦ subst (λ k. length (listed_in new k) ≤ n + length t.switches) (sym e) (omega (arith, lists.few, short lane))
  | inr differ ↦ omega (arith, short other, ap (λ (zs : List Dep). length zs) (changes.listed other differ))
]
