-- The first match of a plan's policy gives the level of the plan.
use Rattle.std.proofs.Common.{◌≡◌, ℕ, ◌<◌, ◌^◌, inl, inr, true, List, [], ◌∷◌, length, refl, sym, ◌∙◌, ap, subst, arith, Some, map, slice_get}
use Rattle.std.specs.Prelude.{find, flat_map, ◌==◌}
use Rattle.std.specs.List.{list_any}
use Rattle.std.specs.Str.{bytes_eq}
use Rattle.std.proofs.lemmas.Bool.{eqb-true, eq-eqb}
use Rattle.std.proofs.lemmas.Option.{same_Some, slice_get_within}
use Rattle.std.proofs.lemmas.Slice.Eq.{bytes_eq-Decides}
use Rattle.fab_model.specs.Topology.{Topology}
use Rattle.fab_model.proofs.Lists.Members.{In, from_filter, in_map, from_map, in_left, in_right, from_append, from_list_any, list_any_from_in}
use Rattle.fab_model.proofs.Lists.Found.{find_only, from_enumerate, from_range}
use Rattle.fab_tables.specs.Entries.{Entries}
use Rattle.fab_tables.specs.LaneTables.{LaneTables}
use Rattle.fab_export.specs.PortGuids.{port_guid, source_guids}
use Rattle.fab_export.specs.LevelsInUse.{is_level_of, all_levels}
use Rattle.fab_export.specs.Classes.{least_sources, class_of, class_levels, lids_at_level}
use Rattle.fab_export.specs.Policies.{PortGroup, holds, is_in_group, matches, class_name, class_level_name, class_group, level_group, class_groups, level_rule, numbered_classes, policy_of}
use Rattle.fab_export.proofs.GroupNames.{one_class, one_class_level, class_no_level}
use Rattle.fab_export.proofs.ListTests.{both_true, and_true}

-- elements of joined lists
pub in_flat_map : {X Y : Type 0} (f : X → List Y) (xs : List X) (x : X) (y : Y) → In x xs → In y (f x) → In y (flat_map f xs)
in_flat_map f [] x y within there = absurd within
in_flat_map {X} {Y} f (z ∷ zs) x y (inl same) there = in_left (f z) (flat_map f zs) y (subst (λ w. In y (f w)) (sym same) there)
in_flat_map f (z ∷ zs) x y (inr within) there = in_right (f z) (flat_map f zs) y (in_flat_map f zs x y within there)

pub from_flat_map : {X Y : Type 0} (f : X → List Y) (xs : List X) (y : Y) → In y (flat_map f xs) → (x : X) × In x xs × In y (f x)
from_flat_map f [] y within = absurd within
from_flat_map f (z ∷ zs) y within = elim (from_append (f z) (flat_map f zs) y within) [
  | inl here ↦ (z, inl refl, here)
  | inr later ↦ let r = from_flat_map f zs y later in (r.0, inr r.1, r.2)
]

pub same_bytes : (xs ys : List ℕ) → bytes_eq xs ys ≡ true → xs ≡ ys
same_bytes xs ys = (bytes_eq-Decides xs ys).0

pub bytes_same : (xs ys : List ℕ) → xs ≡ ys → bytes_eq xs ys ≡ true
bytes_same xs ys = (bytes_eq-Decides xs ys).1

-- what a group holds
holds_in : (guids : List ℕ) (guid : ℕ) → list_any (λ n. n == guid) guids ≡ true → In guid guids
holds_in guids guid is = let found = from_list_any (λ n. n == guid) guids is in subst (λ n. In n guids) (eqb-true found.0 guid found.2) found.1

in_holds : (guids : List ℕ) (guid : ℕ) → In guid guids → list_any (λ n. n == guid) guids ≡ true
in_holds guids guid within = list_any_from_in (λ n. n == guid) guids guid within (eq-eqb guid guid refl)

module _ (t : Topology) (e : Entries) (l : LaneTables) (few : length (least_sources t e l) < 2 ^ 64) where
  -- numbers of classes and levels are small
  small_class : (c : ℕ × ℕ) → In c (numbered_classes t e l) → c.0 < 2 ^ 64
  small_class c within =
      let at = from_enumerate 0 (least_sources t e l) c within in
      let low : at.0 < length (least_sources t e l) = slice_get_within (least_sources t e l) at.0 c.1 at.2 in
      omega (arith, at.1, low, few)

  small_level : (s v : ℕ) → In v (class_levels t e l s) → v < 2 ^ 64
  small_level s v within = omega (arith, (from_range 0 16 v (from_filter (is_level_of t e l s) all_levels v within).0).1)

  -- a number is of one class
  same_class : (c d : ℕ × ℕ) → In c (numbered_classes t e l) → In d (numbered_classes t e l) → c.0 ≡ d.0 → c ≡ d
  same_class c d in_c in_d same =
      let a = from_enumerate 0 (least_sources t e l) c in_c in
      let b = from_enumerate 0 (least_sources t e l) d in_d in
      let place : a.0 ≡ b.0 = omega (arith, a.1, b.1, same) in
      let second : c.1 ≡ d.1 = same_Some c.1 d.1 (sym a.2 ∙ ap (slice_get (least_sources t e l)) place ∙ b.2) in
      ap (λ n. (n, c.1)) same ∙ ap (λ n. (d.0, n)) second

  -- a group is found by its name
  class_found : (c : ℕ × ℕ) → In c (numbered_classes t e l) → find (λ (group : PortGroup). bytes_eq group.name (class_name c.0)) (flat_map (class_groups t e l) (numbered_classes t e l)) ≡ Some (class_group t e l c)
  class_found c in_c = find_only (λ (group : PortGroup). bytes_eq group.name (class_name c.0)) (flat_map (class_groups t e l) (numbered_classes t e l)) (class_group t e l c)
      (in_flat_map (class_groups t e l) (numbered_classes t e l) c (class_group t e l c) in_c (inl refl)) (bytes_same (class_name c.0) (class_name c.0) refl) only
    where
      of_group : (d : ℕ × ℕ) → In d (numbered_classes t e l) → (y : PortGroup) → In y (class_groups t e l d) → bytes_eq y.name (class_name c.0) ≡ true → y ≡ class_group t e l c
      of_group d in_d y (inl same) is =
          let name : class_name d.0 ≡ class_name c.0 = ap (λ (g : PortGroup). g.name) same ∙ same_bytes y.name (class_name c.0) is in
          sym same ∙ ap (class_group t e l) (same_class d c in_d in_c (one_class d.0 c.0 (small_class d in_d) (small_class c in_c) name))
      of_group d in_d y (inr within) is =
          let from = from_map (level_group t e l d) (class_levels t e l d.1) y within in
          let name : class_level_name d.0 from.0 ≡ class_name c.0 = ap (λ (g : PortGroup). g.name) from.2 ∙ same_bytes y.name (class_name c.0) is in
          absurd (class_no_level c.0 d.0 from.0 (small_class c in_c) (small_class d in_d) (sym name))

      only : (y : PortGroup) → In y (flat_map (class_groups t e l) (numbered_classes t e l)) → bytes_eq y.name (class_name c.0) ≡ true → y ≡ class_group t e l c
      only y within is = let from = from_flat_map (class_groups t e l) (numbered_classes t e l) y within in of_group from.0 from.1 y from.2 is

  level_found : (c : ℕ × ℕ) (v : ℕ) → In c (numbered_classes t e l) → In v (class_levels t e l c.1) →
      find (λ (group : PortGroup). bytes_eq group.name (class_level_name c.0 v)) (flat_map (class_groups t e l) (numbered_classes t e l)) ≡ Some (level_group t e l c v)
  level_found c v in_c in_v = find_only (λ (group : PortGroup). bytes_eq group.name (class_level_name c.0 v)) (flat_map (class_groups t e l) (numbered_classes t e l)) (level_group t e l c v)
      (in_flat_map (class_groups t e l) (numbered_classes t e l) c (level_group t e l c v) in_c (inr (in_map (level_group t e l c) (class_levels t e l c.1) v in_v)))
      (bytes_same (class_level_name c.0 v) (class_level_name c.0 v) refl) only
    where
      of_group : (d : ℕ × ℕ) → In d (numbered_classes t e l) → (y : PortGroup) → In y (class_groups t e l d) → bytes_eq y.name (class_level_name c.0 v) ≡ true → y ≡ level_group t e l c v
      of_group d in_d y (inl same) is =
          let name : class_name d.0 ≡ class_level_name c.0 v = ap (λ (g : PortGroup). g.name) same ∙ same_bytes y.name (class_level_name c.0 v) is in
          absurd (class_no_level d.0 c.0 v (small_class d in_d) (small_class c in_c) name)
      of_group d in_d y (inr within) is =
          let from = from_map (level_group t e l d) (class_levels t e l d.1) y within in
          let name : class_level_name d.0 from.0 ≡ class_level_name c.0 v = ap (λ (g : PortGroup). g.name) from.2 ∙ same_bytes y.name (class_level_name c.0 v) is in
          let same : (d.0 ≡ c.0) × (from.0 ≡ v)
          = one_class_level d.0 from.0 c.0 v (small_class d in_d) (small_class c in_c) (small_level d.1 from.0 from.1) (small_level c.1 v in_v) name in
          sym from.2 ∙ ap (λ x. level_group t e l x from.0) (same_class d c in_d in_c same.0) ∙ ap (level_group t e l c) same.1

      only : (y : PortGroup) → In y (flat_map (class_groups t e l) (numbered_classes t e l)) → bytes_eq y.name (class_level_name c.0 v) ≡ true → y ≡ level_group t e l c v
      only y within is = let from = from_flat_map (class_groups t e l) (numbered_classes t e l) y within in of_group from.0 from.1 y from.2 is

  -- a rule matches where the class has the one GUID and its LIDs at the level the other
  pub record Matches (c : ℕ × ℕ) (v from to : ℕ) : Type 0 where
    pub source : In from (flat_map (source_guids t) (class_of t e l c.1))
    pub destination : In to (map (port_guid t) (lids_at_level t e l c.1 v))

  pub matched : (c : ℕ × ℕ) (v from to : ℕ) → In c (numbered_classes t e l) → In v (class_levels t e l c.1) → matches (policy_of t e l) from to (level_rule c.0 v) ≡ true → Matches c v from to
  unfolding policy_of
  matched c v from to in_c in_v is =
      let both = both_true (is_in_group (policy_of t e l) (class_name c.0) from) (is_in_group (policy_of t e l) (class_level_name c.0 v) to) is in
      record {
        source = holds_in _ from (ap (λ o. holds o from) (sym (class_found c in_c)) ∙ both.0);
        destination = holds_in _ to (ap (λ o. holds o to) (sym (level_found c v in_c in_v)) ∙ both.1);
      }

  pub matching : (c : ℕ × ℕ) (v from to : ℕ) → In c (numbered_classes t e l) → In v (class_levels t e l c.1) → Matches c v from to → matches (policy_of t e l) from to (level_rule c.0 v) ≡ true
  unfolding policy_of
  matching c v from to in_c in_v m =
      and_true (is_in_group (policy_of t e l) (class_name c.0) from) (is_in_group (policy_of t e l) (class_level_name c.0 v) to)
      (ap (λ o. holds o from) (class_found c in_c) ∙ in_holds _ from m.source)
      (ap (λ o. holds o to) (level_found c v in_c in_v) ∙ in_holds _ to m.destination)
