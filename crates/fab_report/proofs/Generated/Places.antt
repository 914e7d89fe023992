-- The switches, the ports and the terminals' places of each recipe that fits.
use Rattle.std.proofs.Common.{◌≡◌, ◌≢◌, ℕ, zero, suc, ◌+◌, ◌*◌, ◌<◌, ◌≤◌, inl, inr, Bool, true, false, List, [], ◌∷◌, length, map, ap, subst, arith}
use Rattle.std.specs.Prelude.{IsTrue, flat_map, sum_by, nat_lt, if◌then◌else◌}
use Rattle.std.specs.List.{range_with_len}
use Rattle.std.proofs.lemmas.Bool.{cases_lt, cond-true, cond-false, lt-ltb, le-ltb}
use Rattle.std.proofs.lemmas.List.{length-map}
use Rattle.std.proofs.lemmas.List.Concat.{length-flat_map}
use Rattle.std.proofs.lemmas.List.FromFn.{length-range_with_len}
use Rattle.std.proofs.lemmas.List.Sums.{sum_by-cons}
use Rattle.fab_model.specs.WellFormed.{IsPort}
use Rattle.fab_model.proofs.Lists.Members.{In, Pairs, pairs_map, pairs_weaker, from_map}
use Rattle.fab_model.proofs.Lists.Found.{from_range, range_rises}
use Rattle.fab_report.specs.declared.recipe.Kind.{Kind}
use Rattle.fab_report.specs.declared.recipe.Kind.TheVariants.{Ring, Torus, Tree, Random}
use Rattle.fab_report.specs.Recipes.{fits_kind, switch_count, port_count, terminal_ports}
use Rattle.fab_model.proofs.Lists.FlatMaps.{from_flat_map, pairs_flat_map}
use Rattle.fab_report.proofs.Generated.Ranges.{FitsRing, FitsTorus, FitsTree, FitsRandom, ring_fits, torus_fits, tree_fits, random_fits}

abbrev pub place_at : ℕ → ℕ → ℕ × ℕ
place_at s port = (s, port)

abbrev pub places_of : Kind → ℕ → ℕ → List (ℕ × ℕ)
places_of k a b = flat_map (λ s. map (λ port. place_at s port) (terminal_ports k a b s)) (range_with_len 0 (switch_count k a b))

pub record ArePlaces (k : Kind) (a b : ℕ) : Type 0 where
  pub some_switch : 0 < switch_count k a b
  pub few_switches : switch_count k a b ≤ 512
  pub ports : (s : ℕ) → port_count k a b s ≤ 254
  pub lids : switch_count k a b + length (places_of k a b) ≤ 4096
  pub terminal_port : (s port : ℕ) → s < switch_count k a b → In port (terminal_ports k a b s) → IsPort (port_count k a b s) port
  pub ports_rise : (s : ℕ) → Pairs (λ m n. m < n) (terminal_ports k a b s)

-- ---- how many places there are

-- so many at each switch
evenly : (count : ℕ → ℕ) (each from n : ℕ) → ((s : ℕ) → count s ≤ each) → sum_by count (range_with_len from n) ≤ n * each
evenly count each from zero few = omega arith
evenly count each from (suc n) few = omega (arith, sum_by-cons count from (range_with_len (from + 1) n), few from, evenly count each (from + 1) n few)

-- and none from a switch on
evenly_before : (count : ℕ → ℕ) (each last d from n : ℕ) → ((s : ℕ) → count s ≤ each) → ((s : ℕ) → last ≤ s → count s ≡ 0) → last ≤ from + d → sum_by count (range_with_len from n) ≤ d * each
evenly_before count each last d from zero few none h = omega arith
evenly_before count each last zero from (suc n) few none h =
    omega (arith, sum_by-cons count from (range_with_len (from + 1) n), none from (omega (arith, h)), evenly_before count each last zero (from + 1) n few none (omega (arith, h)))
evenly_before count each last (suc d) from (suc n) few none h =
    omega (arith, sum_by-cons count from (range_with_len (from + 1) n), few from, evenly_before count each last d (from + 1) n few none (omega (arith, h)))

places_length : (k : Kind) (a b : ℕ) → length (places_of k a b) ≡ sum_by (λ s. length (map (λ port. place_at s port) (terminal_ports k a b s))) (range_with_len 0 (switch_count k a b))
places_length k a b = length-flat_map (λ s. map (λ port. place_at s port) (terminal_ports k a b s)) (range_with_len 0 (switch_count k a b))

one_rises : (n : ℕ) → Pairs (λ i j. i < j) (n ∷ [])
one_rises n = (λ y none. absurd none, tt)

-- ---- by kind

ring_places : (a b : ℕ) → FitsRing a b → ArePlaces Ring a b
ring_places a b fit = record {
  some_switch = omega (arith, fit.least);
  few_switches = fit.greatest;
  ports = λ s. omega (arith, fit.terminals);
  lids = omega (arith, places_length Ring a b, evenly (λ s. length (map (λ port. place_at s port) (range_with_len 3 b))) b 0 a (λ s. omega (arith, length-map (range_with_len 3 b) (λ port. place_at s port), length-range_with_len 3 b)), fit.lids);
  terminal_port = λ s port h within. let range : (3 ≤ port) × (port < 3 + b) = from_range 3 b port within in (omega (arith, range.0), omega (arith, range.1));
  ports_rise = λ s. range_rises 3 b;
}

torus_places : (a b : ℕ) → FitsTorus a b → ArePlaces Torus a b
torus_places a b fit = record {
  some_switch = positive a b fit.columns fit.rows;
  few_switches = fit.switches;
  ports = λ s. omega arith;
  lids = omega (arith, places_length Torus a b, evenly (λ s. length (map (λ port. place_at s port) (5 ∷ []))) 1 0 (a * b) (λ s. omega arith), fit.lids);
  terminal_port = λ s port h within. five port within;
  ports_rise = λ s. one_rises 5;
}
  where
    positive : (a b : ℕ) → 3 ≤ a → 3 ≤ b → 0 < a * b
    positive (suc a) b h k = omega (arith, k)
    positive zero b h k = absurd (omega (arith, h))

    five : (port : ℕ) → In port (5 ∷ []) → IsPort 5 port
    five port (inl e) = (omega (arith, e), omega (arith, e))
    five port (inr none) = absurd none

tree_places : (a b : ℕ) → FitsTree a b → ArePlaces Tree a b
tree_places a b fit = record {
  some_switch = omega (arith, fit.some_leaf);
  few_switches = fit.switches;
  ports = λ s. ports (nat_lt s a);
  lids = omega (arith, places_length Tree a b, evenly_before (λ s. length (map (λ port. place_at s port) (terminal_ports Tree a b s))) b a a 0 (a + b) (λ s. few s (nat_lt s a)) (λ s h. none s h) (omega arith), fit.lids);
  terminal_port = λ s port h within. elim (cases_lt s a) [
    | inl less ↦
        (let above : In port (range_with_len (b + 1) b) = subst (λ ports. In port ports) (cond-true (nat_lt s a) (range_with_len (b + 1) b) [] (lt-ltb s a less)) within in
        let range : (b + 1 ≤ port) × (port < b + 1 + b) = from_range (b + 1) b port above in
        (omega (arith, range.0), omega (arith, range.1, cond-true (nat_lt s a) (2 * b) a (lt-ltb s a less))))
    | inr more ↦ absurd (subst (λ ports. In port ports) (cond-false (nat_lt s a) (range_with_len (b + 1) b) [] (le-ltb s a more)) within)
  ];
  ports_rise = λ s. rises (nat_lt s a);
}
  where
    ports : (v : Bool) → (if v then 2 * b else a) ≤ 254
    ports true = omega (arith, fit.few_tops)
    ports false = fit.few_leaves

    few : (s : ℕ) (v : Bool) → length (map (λ port. place_at s port) (if v then range_with_len (b + 1) b else [])) ≤ b
    few s true = omega (arith, length-map (range_with_len (b + 1) b) (λ port. place_at s port), length-range_with_len (b + 1) b)
    few s false = omega arith

    none : (s : ℕ) → a ≤ s → length (map (λ port. place_at s port) (terminal_ports Tree a b s)) ≡ 0
    none s h = ap (λ (ports : List ℕ). length (map (λ port. place_at s port) ports)) (cond-false (nat_lt s a) (range_with_len (b + 1) b) [] (le-ltb s a h))

    rises : (v : Bool) → Pairs (λ m n. m < n) (if v then range_with_len (b + 1) b else [])
    rises true = range_rises (b + 1) b
    rises false = tt

random_places : (a b : ℕ) → FitsRandom a b → ArePlaces Random a b
random_places a b fit = record {
  some_switch = omega (arith, fit.some_switch);
  few_switches = fit.greatest;
  ports = λ s. omega arith;
  lids = omega (arith, places_length Random a b, evenly (λ s. length (map (λ port. place_at s port) (1 ∷ []))) 1 0 a (λ s. omega arith), fit.lids);
  terminal_port = λ s port h within. first port within;
  ports_rise = λ s. one_rises 1;
}
  where
    first : (port : ℕ) → In port (1 ∷ []) → IsPort 254 port
    first port (inl e) = (omega (arith, e), omega (arith, e))
    first port (inr none) = absurd none

pub are_places : (k : Kind) (a b : ℕ) → IsTrue (fits_kind k a b) → ArePlaces k a b
are_places Ring a b e = ring_places a b (ring_fits a b e)
are_places Torus a b e = torus_places a b (torus_fits a b e)
are_places Tree a b e = tree_places a b (tree_fits a b e)
are_places Random a b e = random_places a b (random_fits a b e)

-- ---- places

-- a place is that of a terminal's port at a switch
pub from_place : (k : Kind) (a b : ℕ) (place : ℕ × ℕ) → In place (places_of k a b) → (place.0 < switch_count k a b) × In place.1 (terminal_ports k a b place.0)
from_place k a b place within =
    let from : (s : ℕ) × In s (range_with_len 0 (switch_count k a b)) × In place (map (λ port. place_at s port) (terminal_ports k a b s)) =
    from_flat_map (λ s. map (λ port. place_at s port) (terminal_ports k a b s)) (range_with_len 0 (switch_count k a b)) place within in
    let at : (port : ℕ) × In port (terminal_ports k a b from.0) × ((from.0, port) ≡ place) = from_map (λ port. place_at from.0 port) (terminal_ports k a b from.0) place from.2 in
    let same : from.0 ≡ place.0 = ap (λ (p : ℕ × ℕ). p.0) at.2 in
    (omega (arith, same, (from_range 0 (switch_count k a b) from.0 from.1).1), subst (λ (p : ℕ × ℕ). In p.1 (terminal_ports k a b p.0)) at.2 at.1)

-- no two are one
abbrev pub DifferPlaces : ℕ × ℕ → ℕ × ℕ → Type 0
DifferPlaces p q = p.0 ≡ q.0 → p.1 ≢ q.1

pub places_differ : (k : Kind) (a b : ℕ) → ArePlaces k a b → Pairs DifferPlaces (places_of k a b)
places_differ k a b are =
    pairs_flat_map DifferPlaces (λ s u. s < u) (λ s. map (λ port. place_at s port) (terminal_ports k a b s)) (range_with_len 0 (switch_count k a b)) of_one of_two (range_rises 0 (switch_count k a b))
  where
    of_one : (s : ℕ) → In s (range_with_len 0 (switch_count k a b)) → Pairs DifferPlaces (map (λ port. place_at s port) (terminal_ports k a b s))
    of_one s at =
        pairs_map DifferPlaces (λ port. place_at s port) (terminal_ports k a b s)
        (pairs_weaker (λ m n. m < n) (λ m n. DifferPlaces (s, m) (s, n)) (terminal_ports k a b s) (λ m n in_m in_n less same ports. omega (arith, less, ports)) (are.ports_rise s))

    of_two : (s u : ℕ) → In s (range_with_len 0 (switch_count k a b)) → In u (range_with_len 0 (switch_count k a b)) → s < u → (p q : ℕ × ℕ) → In p (map (λ port. place_at s port) (terminal_ports k a b s)) →
        In q (map (λ port. place_at u port) (terminal_ports k a b u)) → DifferPlaces p q
    of_two s u at there less p q in_p in_q same ports =
        let m : (port : ℕ) × In port (terminal_ports k a b s) × ((s, port) ≡ p) = from_map (λ port. place_at s port) (terminal_ports k a b s) p in_p in
        let n : (port : ℕ) × In port (terminal_ports k a b u) × ((u, port) ≡ q) = from_map (λ port. place_at u port) (terminal_ports k a b u) q in_q in
        omega (arith, less, same, ap (λ (x : ℕ × ℕ). x.0) m.2, ap (λ (x : ℕ × ℕ). x.0) n.2)
