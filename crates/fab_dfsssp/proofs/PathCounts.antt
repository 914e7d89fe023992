-- How many paths contain an edge, switch after switch; and by levels as by lanes.
use Rattle.std.proofs.Common.{◌≡◌, ℕ, zero, suc, ◌+◌, ◌<◌, ◌≤◌, ◌⊎◌, inl, inr, Bool, true, false, List, [], ◌∷◌, length, refl, sym, ◌∙◌, ap, arith, Some}
use Rattle.std.proofs.Math.Path.{fun_ext}
use Rattle.std.specs.Prelude.{slice_get, sum_by, ◌==◌, ◌&&◌, if◌then◌else◌, nat_eq}
use Rattle.std.specs.Option.{option_eq}
use Rattle.std.proofs.lemmas.Bool.{cases_Bool, both_ways, and_left, and_right}
use Rattle.std.proofs.lemmas.Option.{same_Some, slice_get_within, none-some}
use Rattle.fab_model.specs.Topology.{Topology, lids_of, is_source}
use Rattle.fab_model.specs.Connected.{IsConnectedTo}
use Rattle.fab_tables.specs.Entries.{Entries, entry}
use Rattle.fab_tables.specs.FixedEntries.{HasFixedEntries}
use Rattle.fab_tables.specs.LaneTables.{LaneTables, level}
use Rattle.fab_tables.specs.Route.{route, route_within, after_hop, hop_by}
use Rattle.fab_tables.proofs.Joined.ConnectedDecided.{connected_to_decided}
use Rattle.fab_certify.specs.EnginePlans.{HasLevels}
use Rattle.fab_dfsssp.specs.Assignments.{contains_edge, is_over, count_below, paths_over}
use Rattle.fab_dfsssp.specs.Breaking.{IsFirstLeast, edges_back_to, ring_edges}
use Rattle.fab_dfsssp.specs.LevelPaths.{is_level_over, level_paths_over}
use Rattle.fab_dfsssp.proofs.LevelEdges.{level_of_lane}
use Rattle.fab_dfsssp.proofs.Weakest.{count_below_more}

pub count_one_more : (n k : ℕ) (p : ℕ → Bool) → k ≡ count_below n p → p n ≡ true → k + 1 ≡ count_below (n + 1) p
count_one_more n k p is one = ap (λ m. m + 1) is ∙ ap (λ (b : Bool). count_below n p + (if b then 1 else 0)) (sym one) ∙ sym (count_below_more n p)

pub count_no_more : (n k : ℕ) (p : ℕ → Bool) → k ≡ count_below n p → p n ≡ false → k ≡ count_below (n + 1) p
count_no_more n k p is none = is ∙ plus_zero (count_below n p) ∙ ap (λ (b : Bool). count_below n p + (if b then 1 else 0)) (sym none) ∙ sym (count_below_more n p)
  where
    plus_zero : (m : ℕ) → m ≡ m + 0
    plus_zero m = omega arith

count_same : (n : ℕ) (p q : ℕ → Bool) → ((k : ℕ) → p k ≡ q k) → count_below n p ≡ count_below n q
count_same zero p q same = refl
count_same (suc n) p q same = ap (λ m. m + (if p n then 1 else 0)) (count_same n p q same) ∙ ap (λ (b : Bool). count_below n q + (if b then 1 else 0)) (same n)

-- the route to a LID that isn't connected has no channel
no_channel : (t : Topology) (e : Entries) (s lid n : ℕ) → entry e s lid ≡ 255 → (route_within t e lid n s).channels ≡ []
no_channel t e s lid zero none = refl
no_channel t e s lid (suc n) none = ap (λ port. (after_hop t (λ next. route_within t e lid n next) (hop_by t lid s port)).channels) none

pub no_channels_apart : (t : Topology) (e : Entries) (fixed : HasFixedEntries t e) (s lid : ℕ) → ¬ IsConnectedTo t s lid → (route t e s lid).channels ≡ []
no_channels_apart t e fixed s lid apart = no_channel t e s lid (length t.switches) (fixed.apart s lid apart)

apart_no_edge : (t : Topology) (e : Entries) (fixed : HasFixedEntries t e) (edge : ℕ × ℕ) (s lid : ℕ) → ¬ IsConnectedTo t s lid → contains_edge edge (route t e s lid).channels ≡ false
apart_no_edge t e fixed edge s lid apart = ap (contains_edge edge) (no_channels_apart t e fixed s lid apart)

module _ (t : Topology) (e : Entries) (fixed : HasFixedEntries t e) (l : LaneTables) (lane_of : ℕ → ℕ → ℕ) (levels : HasLevels t l (λ s lid n. n ≡ lane_of s lid)) (lane : ℕ) (edge : ℕ × ℕ) where
  level_or_lane : (lid s : ℕ) → is_level_over t e l lane edge lid s ≡ (is_source t s && is_over t e lane_of lane edge s lid)
  level_or_lane lid s = go (cases_Bool (is_source t s)) (connected_to_decided t s lid)
    where
      contains : Bool
      contains = contains_edge edge (route t e s lid).channels

      by_level : Bool
      by_level = option_eq nat_eq (level l s lid) (Some lane)

      no_level : ¬ ((is_source t s ≡ true) × IsConnectedTo t s lid) → by_level ≡ false
      no_level apart = ap (λ o. option_eq nat_eq o (Some lane)) (levels.no_other s lid (λ both. apart (both.0, both.1)))

      go : (is_source t s ≡ true) ⊎ (is_source t s ≡ false) → IsConnectedTo t s lid ⊎ (¬ IsConnectedTo t s lid) → is_level_over t e l lane edge lid s ≡ (is_source t s && is_over t e lane_of lane edge s lid)
      go (inl source) (inl connected) =
          ap (λ o. option_eq nat_eq o (Some lane) && contains) (level_of_lane t e l lane_of levels s lid source connected) ∙ sym (ap (λ b. b && is_over t e lane_of lane edge s lid) source)
      go (inl source) (inr apart) =
          and_right by_level contains (apart_no_edge t e fixed edge s lid apart)
          ∙ sym (and_right (is_source t s) (is_over t e lane_of lane edge s lid) (and_right (lane_of s lid == lane) contains (apart_no_edge t e fixed edge s lid apart)))
      go (inr none) x = and_left by_level contains (no_level (λ both. both_ways (is_source t s) none both.0)) ∙ sym (and_left (is_source t s) (is_over t e lane_of lane edge s lid) none)

  pub paths_by_level : level_paths_over t e l lane edge ≡ paths_over t e lane_of lane edge
  paths_by_level =
      ap (λ (f : ℕ → ℕ). sum_by f (lids_of t))
      (fun_ext (λ lid. count_same (length t.switches) (is_level_over t e l lane edge lid) (λ s. is_source t s && is_over t e lane_of lane edge s lid) (level_or_lane lid)))

pub least_by : {X : Type 0} (f g : X → ℕ) (xs : List X) (x : X) → ((y : X) → f y ≡ g y) → IsFirstLeast f xs x → IsFirstLeast g xs x
least_by {X} f g xs x same least = (least.0, least.1, λ j y at. go y j (least.2 j y at))
  where
    go : (y : X) (j : ℕ) → (f x < f y) ⊎ ((f x ≡ f y) × (least.0 ≤ j)) → (g x < g y) ⊎ ((g x ≡ g y) × (least.0 ≤ j))
    go y j (inl less) = inl (omega (arith, less, same x, same y))
    go y j (inr alike) = inr (sym (same x) ∙ alike.0 ∙ same y, alike.1)

-- the edges of a ring: one for each node
edges-length : (f : ℕ) (xs : List ℕ) → length (edges_back_to f xs) ≡ length xs
edges-length f [] = refl
edges-length f (a ∷ []) = refl
edges-length f (a ∷ b ∷ rest) = ap suc (edges-length f (b ∷ rest))

pub ring_edges-length : (xs : List ℕ) → length (ring_edges xs) ≡ length xs
ring_edges-length [] = refl
ring_edges-length (f ∷ rest) = edges-length f (f ∷ rest)

inner_edge : (f : ℕ) (xs : List ℕ) (k a b : ℕ) → slice_get xs k ≡ Some a → slice_get xs (suc k) ≡ Some b → slice_get (edges_back_to f xs) k ≡ Some (a, b)
inner_edge f [] k a b x y = absurd (none-some a x)
inner_edge f (c ∷ []) zero a b x y = absurd (none-some b y)
inner_edge f (c ∷ []) (suc k) a b x y = absurd (none-some a x)
inner_edge f (c ∷ d ∷ rest) zero a b x y = ap (λ n. Some (n, d)) (same_Some c a x) ∙ ap (λ n. Some (a, n)) (same_Some d b y)
inner_edge f (c ∷ d ∷ rest) (suc k) a b x y = inner_edge f (d ∷ rest) k a b x y

closing_edge : (f : ℕ) (xs : List ℕ) (k a : ℕ) → slice_get xs k ≡ Some a → length xs ≡ suc k → slice_get (edges_back_to f xs) k ≡ Some (a, f)
closing_edge f [] k a x all = absurd (none-some a x)
closing_edge f (c ∷ []) zero a x all = ap (λ n. Some (n, f)) (same_Some c a x)
closing_edge f (c ∷ []) (suc k) a x all = absurd (none-some a x)
closing_edge f (c ∷ d ∷ rest) zero a x all = absurd (omega (arith, all))
closing_edge f (c ∷ d ∷ rest) (suc k) a x all = closing_edge f (d ∷ rest) k a x (omega (arith, all))

pub edge_between : (xs : List ℕ) (k a b : ℕ) → slice_get xs k ≡ Some a → slice_get xs (k + 1) ≡ Some b → slice_get (ring_edges xs) k ≡ Some (a, b)
edge_between [] k a b x y = absurd (none-some a x)
edge_between (f ∷ rest) k a b x y = let next : k + 1 ≡ suc k = omega arith in inner_edge f (f ∷ rest) k a b x (sym (ap (λ n. slice_get (f ∷ rest) n) next) ∙ y)

pub edge_back : (xs : List ℕ) (k a b : ℕ) → slice_get xs k ≡ Some a → slice_get xs 0 ≡ Some b → length xs ≤ k + 1 → slice_get (ring_edges xs) k ≡ Some (a, b)
edge_back [] k a b x y past = absurd (none-some a x)
edge_back (f ∷ rest) k a b x y past =
    closing_edge f (f ∷ rest) k a x (omega (arith, past, slice_get_within (f ∷ rest) k a x)) ∙ ap (λ n. Some (a, n)) (same_Some f b y)
