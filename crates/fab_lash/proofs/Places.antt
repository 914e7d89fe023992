-- A try in one lane leaves the other lanes as they were.
use Rattle.std.proofs.Common.{◌≡◌, ◌≢◌, ℕ, zero, suc, ◌+◌, ◌<◌, ◌∷◌, [], Bool, true, false, List, length, All, refl, sym, ◌∙◌, ap, subst, arith, Some, inl, inr}
use Rattle.std.specs.Prelude.{slice_get, slice_set}
use Rattle.std.proofs.lemmas.Bool.{cases_eq, cases_lt}
use Rattle.std.proofs.lemmas.Option.{same_Some, none-some}
use Rattle.std.proofs.lemmas.List.Elements.{All-contains}
use Rattle.fab_graph.specs.Walks.{IsAcyclic}
use Rattle.fab_tables.proofs.Verdicts.CertifiedLaws.{contains_of}
use Rattle.fab_depgraph.specs.declared.dep.Dep.{Dep}
use Rattle.fab_depgraph.specs.Listed.{Dependencies, IsListed, IsWithin}
use Rattle.fab_lash.specs.Adding.{with_deps}
use Rattle.fab_lash.specs.Trying.{TakesAll, TakesNone}
use Rattle.fab_lash.specs.Placing.{listed_in, channel_counts, FitInto, Refuses, Takes, IsTried, IsPlaced}

pub listed_at : (used : List Dependencies) (lane : ℕ) (g : Dependencies) → slice_get used lane ≡ Some g → listed_in used lane ≡ g.listed
listed_at [] lane g is = absurd (none-some g is)
listed_at (x ∷ xs) zero g is = ap (λ (y : Dependencies). y.listed) (same_Some x g is)
listed_at (x ∷ xs) (suc lane) g is = listed_at xs lane g is

pub listed_here : (used : List Dependencies) (lane : ℕ) (g h : Dependencies) → slice_get used lane ≡ Some g → listed_in (slice_set used lane h) lane ≡ h.listed
listed_here [] lane g h is = absurd (none-some g is)
listed_here (x ∷ xs) zero g h is = refl
listed_here (x ∷ xs) (suc lane) g h is = listed_here xs lane g h is

pub listed_elsewhere : (used : List Dependencies) (lane other : ℕ) (h : Dependencies) → other ≢ lane → listed_in (slice_set used lane h) other ≡ listed_in used other
listed_elsewhere [] lane other h differ = refl
listed_elsewhere (x ∷ xs) zero zero h differ = absurd (differ refl)
listed_elsewhere (x ∷ xs) zero (suc other) h differ = refl
listed_elsewhere (x ∷ xs) (suc lane) zero h differ = refl
listed_elsewhere (x ∷ xs) (suc lane) (suc other) h differ = listed_elsewhere xs lane other h (λ same. differ (ap suc same))

pub counts_set : (used : List Dependencies) (lane : ℕ) (g h : Dependencies) → slice_get used lane ≡ Some g → h.channels ≡ g.channels → channel_counts (slice_set used lane h) ≡ channel_counts used
counts_set [] lane g h is same = absurd (none-some g is)
counts_set (x ∷ xs) zero g h is same = ap (λ n. n ∷ channel_counts xs) (same ∙ ap (λ (y : Dependencies). y.channels) (sym (same_Some x g is)))
counts_set (x ∷ xs) (suc lane) g h is same = ap (λ ns. x.channels ∷ ns) (counts_set xs lane g h is same)

pub count_at : (used : List Dependencies) (lane : ℕ) (g : Dependencies) → slice_get used lane ≡ Some g → slice_get (channel_counts used) lane ≡ Some g.channels
count_at [] lane g is = absurd (none-some g is)
count_at (x ∷ xs) zero g is = ap (λ (y : Dependencies). Some y.channels) (same_Some x g is)
count_at (x ∷ xs) (suc lane) g is = count_at xs lane g is

pub same_length : (old new : List Dependencies) → channel_counts new ≡ channel_counts old → length new ≡ length old
same_length [] [] same = refl
same_length [] (x ∷ xs) same = cc
same_length (x ∷ xs) [] same = cc
same_length (x ∷ xs) (y ∷ ys) same = let rest : length ys ≡ length xs = same_length xs ys cc in omega (arith, rest)

pub fit_lane : (used : List Dependencies) (deps : List Dep) (lane : ℕ) (g : Dependencies) (channels : ℕ) → FitInto used deps → slice_get used lane ≡ Some g → channels ≡ g.channels → All (λ d. IsWithin channels d) deps
fit_lane used deps lane g channels fit is same =
    let P : ℕ → Type 0 = λ n. All (λ d. IsWithin n d) deps in
    subst P (sym same) (All-contains P (channel_counts used) g.channels fit (contains_of (channel_counts used) lane g.channels (count_at used lane g is)))

-- the try of an arena is a try of its lane
pub tried : (lane : ℕ) (old new : List Dependencies) (g m h : Dependencies) (deps : List Dep) (took : Bool) → slice_get old lane ≡ Some g → new ≡ slice_set old lane h →
    m.listed ≡ g.listed → m.channels ≡ g.channels → h.channels ≡ m.channels → (took ≡ true → TakesAll m h deps) → (took ≡ false → TakesNone m h deps) → IsTried lane old new deps took
tried lane old new g m h deps took is set same_listed same_channels kept taken refused =
    let P : List Dependencies → Type 0 = λ n. IsTried lane old n deps took in
    subst P (sym set) (record {
      channels = counts_set old lane g h is (kept ∙ same_channels);
      others = λ other differ. listed_elsewhere old lane other h differ;
      taken = λ yes. let t : TakesAll m h deps = taken yes in (
        here ∙ t.0 ∙ ap (λ (xs : List Dep). with_deps xs deps) (same_listed ∙ sym before),
        let Q : List Dep → Type 0 = λ xs. IsAcyclic (IsListed xs) in subst Q (sym here) t.1,
      );
      refused = λ no. let r : TakesNone m h deps = refused no in (
        here ∙ r.0 ∙ same_listed ∙ sym before,
        let Q : List Dep → Type 0 = λ xs. Refuses xs deps in subst Q (same_listed ∙ sym before) r.1,
      );
    })
  where
    here : listed_in (slice_set old lane h) lane ≡ h.listed
    here = listed_here old lane g h is

    before : listed_in old lane ≡ g.listed
    before = listed_at old lane g is

-- ---- lane after lane

module _ (old now new : List Dependencies) (deps : List Dep) (lane : ℕ) (counts : channel_counts now ≡ channel_counts old) (same : (k : ℕ) → listed_in now k ≡ listed_in old k)
    (refused : (k : ℕ) → k < lane → Refuses (listed_in old k) deps) where
  pub placed : IsTried lane now new deps true → lane < length old → IsPlaced old new deps lane
  placed x low = record {
    low = low;
    channels = x.channels ∙ counts;
    others = λ other differ. x.others other differ ∙ same other;
    taken = let P : List Dep → Type 0 = λ xs. Takes xs (listed_in new lane) deps in subst P (same lane) (x.taken refl);
    refused = refused;
  }

  pub still_same : IsTried lane now new deps false → (k : ℕ) → listed_in new k ≡ listed_in old k
  still_same x k = elim (cases_eq k lane) [
    | inl here ↦ let P : ℕ → Type 0 = λ n. listed_in new n ≡ listed_in now n in subst P (sym here) (x.refused refl).0 ∙ same k
    | inr other ↦ x.others k other ∙ same k
  ]

  pub one_more_refused : IsTried lane now new deps false → (k : ℕ) → k < lane + 1 → Refuses (listed_in old k) deps
  one_more_refused x k low = elim (cases_lt k lane) [
    | inl before ↦ refused k before
    | inr past ↦
        (let here : lane ≡ k = omega (arith, low, past) in
        let P : ℕ → Type 0 = λ n. Refuses (listed_in old n) deps in
        let Q : List Dep → Type 0 = λ xs. Refuses xs deps in
        subst P here (subst Q (same lane) (x.refused refl).1))
  ]
