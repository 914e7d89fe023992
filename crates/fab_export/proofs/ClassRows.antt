-- The levels of a class's row are those of its least source.
use Rattle.std.proofs.Common.{◌≡◌, ℕ, ◌||◌, ◌+◌, ◌<◌, inl, inr, Bool, false, cond, List, [], ◌∷◌, ◌++◌, Option, Some, length, map, get_or, refl, sym, ◌∙◌, ap, subst, arith}
use Rattle.std.specs.Prelude.{codes, filter, flat_map, slice_get, slice_index}
use Rattle.std.specs.List.{list_any, range_with_len}
use Rattle.std.proofs.lemmas.List.{get_or-map}
use Rattle.std.proofs.lemmas.List.Elements.{filter_agree}
use Rattle.std.proofs.lemmas.List.FromFn.{get_or-range_with_len, length-range_with_len}
use Rattle.std.proofs.lemmas.Option.{slice_get-get_or}
use Rattle.fab_model.specs.Topology.{Topology, lids_of, is_source}
use Rattle.fab_model.proofs.Faultless.Facts.{slice_get_in}
use Rattle.fab_model.proofs.Lists.Found.{from_range}
use Rattle.fab_model.proofs.Lists.Members.{In, from_filter}
use Rattle.fab_tables.specs.Entries.{Entries}
use Rattle.fab_tables.specs.LaneTables.{LaneTables}
use Rattle.fab_dump.specs.Writing.{lines_text}
use Rattle.fab_dump.proofs.Writing.Rows.{lines-append, lines_added}
use Rattle.fab_export.specs.ClassNumbers.{ClassNumbers, AreClasses, is_of_class}
use Rattle.fab_export.specs.Classes.{class_levels, is_least_of_class, least_sources}
use Rattle.fab_export.specs.LevelsInUse.{level_to, is_level_of, is_in_use, levels_in_use, spare_level, all_levels}
use Rattle.fab_export.specs.LevelsText.{enclosed, group_lines, level_lines, rule_lines}
use Rattle.fab_export.specs.Policies.{class_group, class_groups, class_name, class_rules, default_name, level_group, level_rule, named_level, named_levels}
use Rattle.fab_export.specs.PortGuids.{port_guid, source_guids}
use Rattle.fab_export.specs.SourceLevels.{levels_of, is_level, row_has, lids_with, row_group, is_set}

list_any-map : {X Y : Type 0} (p : Y → Bool) (f : X → Y) (xs : List X) → list_any p (map f xs) ≡ list_any (λ x. p (f x)) xs
list_any-map p f [] = refl
list_any-map p f (x ∷ xs) = ap (λ b. p (f x) || b) (list_any-map p f xs)

map_same : {X Y : Type 0} (f g : X → Y) → ((x : X) → f x ≡ g x) → (xs : List X) → map f xs ≡ map g xs
map_same f g same [] = refl
map_same f g same (x ∷ xs) = ap (λ y. y ∷ map f xs) (same x) ∙ ap (λ ys. g x ∷ ys) (map_same f g same xs)

with_level : (v : ℕ) (f : ℕ → Option ℕ) (lids : List ℕ) → lids_with v (map f lids) lids ≡ filter (λ lid. is_level v (f lid)) lids
with_level v f [] = refl
with_level v f (lid ∷ lids) = ap (λ rest. cond (is_level v (f lid)) (lid ∷ rest) rest) (with_level v f lids)

module _ (t : Topology) (e : Entries) (l : LaneTables) (s : ℕ) (row : List (Option ℕ)) (is : row ≡ levels_of t e l s) where
  pub levels_there : filter (row_has row) all_levels ≡ class_levels t e l s
  levels_there =
      ap (λ r. filter (row_has r) all_levels) is
      ∙ filter_agree (row_has (levels_of t e l s)) (is_level_of t e l s) (λ v. list_any-map (is_level v) (level_to t e l s) (lids_of t)) all_levels

  group_at : (number v : ℕ) → row_group t number row v ≡ level_group t e l (number, s) v
  group_at number v =
      ap (λ r. row_group t number r v) is
      ∙ ap (λ lids. record { name = (level_group t e l (number, s) v).name; guids = map (port_guid t) lids }) (with_level v (level_to t e l s) (lids_of t))

  pub groups_there : (number : ℕ) → map (row_group t number row) (filter (row_has row) all_levels) ≡ map (level_group t e l (number, s)) (class_levels t e l s)
  groups_there number =
      ap (map (row_group t number row)) levels_there ∙ map_same (row_group t number row) (level_group t e l (number, s)) (group_at number) (class_levels t e l s)

  pub rules_there : (number : ℕ) → flat_map rule_lines (map (level_rule number) (filter (row_has row) all_levels)) ≡ flat_map rule_lines (class_rules t e l (number, s))
  rules_there number = ap (λ levels. flat_map rule_lines (map (level_rule number) levels)) levels_there

-- the groups of a class: that of its sources, and those of its levels
module _ (t : Topology) (e : Entries) (l : LaneTables) (c : ClassNumbers) (are : AreClasses t e l c) (class : ℕ) (low : class < length c.least) where
  pub sources_there : group_lines (record { name = class_name class; guids = flat_map (source_guids t) (filter (is_of_class c class) (range_with_len 0 (length t.switches))) }) ≡ group_lines (class_group t e l (class, slice_index c.least class))
  sources_there = ap (λ sources. group_lines (record { name = class_name class; guids = flat_map (source_guids t) sources })) (are.members class low)

  pub groups_text : (row : List (Option ℕ)) → row ≡ levels_of t e l (slice_index c.least class) →
      lines_text (group_lines (record { name = class_name class; guids = flat_map (source_guids t) (filter (is_of_class c class) (range_with_len 0 (length t.switches))) }))
      ++ lines_text (flat_map group_lines (map (row_group t class row) (filter (row_has row) all_levels)))
      ≡ lines_text (flat_map group_lines (class_groups t e l (class, slice_index c.least class)))
  groups_text row is =
      ap (λ lines. lines_text lines ++ lines_text (flat_map group_lines (map (row_group t class row) (filter (row_has row) all_levels)))) sources_there
      ∙ ap (λ groups. lines_text (group_lines (class_group t e l (class, slice_index c.least class))) ++ lines_text (flat_map group_lines groups)) (groups_there t e l (slice_index c.least class) row is class)
      ∙ sym (lines-append (group_lines (class_group t e l (class, slice_index c.least class))) (flat_map group_lines (map (level_group t e l (class, slice_index c.least class)) (class_levels t e l (slice_index c.least class)))))

-- the least source of a class is a switch
pub least_below : (t : Topology) (e : Entries) (l : LaneTables) (c : ClassNumbers) → AreClasses t e l c → (class first : ℕ) → class < length c.least → first ≡ slice_index c.least class → first < length t.switches
least_below t e l c are class first low is =
    let place : slice_get c.least class ≡ Some (get_or c.least class 0) = slice_get-get_or c.least class 0 low in
    let here : In (get_or c.least class 0) (least_sources t e l) = subst (λ (xs : List ℕ). In (get_or c.least class 0) xs) are.least (slice_get_in c.least class (get_or c.least class 0) place) in
    let source = from_filter (is_least_of_class t e l) (filter (is_source t) (range_with_len 0 (length t.switches))) (get_or c.least class 0) here in
    let number = from_filter (is_source t) (range_with_len 0 (length t.switches)) (get_or c.least class 0) source.0 in
    let below = (from_range 0 (length t.switches) (get_or c.least class 0) number.0).1 in
    subst (λ (n : ℕ). n < length t.switches) (sym is) (omega (arith, below))

-- ---- the levels in use

filter_within : (p q : ℕ → Bool) (xs : List ℕ) → ((x : ℕ) → In x xs → p x ≡ q x) → filter p xs ≡ filter q xs
filter_within p q [] same = refl
filter_within p q (x ∷ xs) same =
    ap (λ b. cond b (x ∷ filter p xs) (filter p xs)) (same x (inl refl)) ∙ ap (λ rest. cond (q x) (x ∷ rest) rest) (filter_within p q xs (λ y within. same y (inr within)))

set_levels : (f : ℕ → Bool) (n : ℕ) → filter (is_set (map f (range_with_len 0 n))) (range_with_len 0 n) ≡ filter f (range_with_len 0 n)
set_levels f n = filter_within (is_set (map f (range_with_len 0 n))) f (range_with_len 0 n) at
  where
    at : (k : ℕ) → In k (range_with_len 0 n) → is_set (map f (range_with_len 0 n)) k ≡ f k
    at k within =
        let bound = (from_range 0 n k within).1 in
        let low : k < n = omega (arith, bound) in
        let inside : k < length (range_with_len 0 n) = omega (arith, low, length-range_with_len 0 n) in
        let zero_more : 0 + k ≡ k = omega arith in
        get_or-map f (range_with_len 0 n) k 0 false inside ∙ ap f (get_or-range_with_len 0 n k 0 low ∙ zero_more)

module _ (t : Topology) (e : Entries) (l : LaneTables) (used : List Bool) (spare : ℕ) (is : used ≡ map (is_in_use t e l) all_levels) (left : spare ≡ spare_level t e l) where
  in_use : filter (is_set used) all_levels ≡ levels_in_use t e l
  in_use = ap (λ (u : List Bool). filter (is_set u) all_levels) is ∙ set_levels (is_in_use t e l) 16

  pub levels_pushed : (before t1 t2 t3 : List ℕ) → t1 ≡ before ++ codes "qos-levels\n" → t2 ≡ t1 ++ lines_text (level_lines (record { name = default_name; sl = spare }))
      → t3 ≡ t2 ++ lines_text (flat_map level_lines (map named_level (filter (is_set used) all_levels)))
      → t3 ++ codes "end-qos-levels\n" ≡ before ++ lines_text (enclosed (codes "qos-levels") (flat_map level_lines (named_levels t e l)))
  levels_pushed before t1 t2 t3 first second third =
      let head = codes "qos-levels" ∷ [] in
      let own = level_lines (record { name = default_name; sl = spare }) in
      let others = flat_map level_lines (map named_level (filter (is_set used) all_levels)) in
      let last = codes "end-qos-levels" ∷ [] in
      let two : t2 ≡ before ++ lines_text (head ++ own) = lines_added head own (head ++ own) before t1 t2 first second refl in
      let three : t3 ≡ before ++ lines_text ((head ++ own) ++ others) = lines_added (head ++ own) others ((head ++ own) ++ others) before t2 t3 two third refl in
      let four : t3 ++ codes "end-qos-levels\n" ≡ before ++ lines_text (((head ++ own) ++ others) ++ last) = lines_added ((head ++ own) ++ others) last (((head ++ own) ++ others) ++ last) before t3 (t3 ++ codes "end-qos-levels\n") three refl refl in
      four
      ∙ ap (λ n. before ++ lines_text (((head ++ level_lines (record { name = default_name; sl = n })) ++ others) ++ last)) left
      ∙ ap (λ levels. before ++ lines_text (((head ++ level_lines (record { name = default_name; sl = spare_level t e l })) ++ flat_map level_lines (map named_level levels)) ++ last)) in_use
