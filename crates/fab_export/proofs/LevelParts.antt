-- The text of the levels in its four parts.
use Rattle.std.proofs.Common.{◌≡◌, refl, List, ℕ, [], ◌∷◌, ◌++◌}
use Rattle.std.specs.Prelude.{codes, flat_map}
use Rattle.fab_model.specs.Topology.{Topology}
use Rattle.fab_tables.specs.Entries.{Entries}
use Rattle.fab_tables.specs.LaneTables.{LaneTables}
use Rattle.fab_export.specs.LevelsText.{group_lines, level_lines, rule_lines, enclosed, policy_lines}
use Rattle.fab_export.specs.Policies.{class_groups, class_rules, named_levels, numbered_classes, policy_of}

module _ (t : Topology) (e : Entries) (l : LaneTables) where
  abbrev pub groups_part : List (List ℕ)
  groups_part = enclosed (codes "port-groups") (flat_map group_lines (flat_map (class_groups t e l) (numbered_classes t e l)))

  abbrev pub levels_part : List (List ℕ)
  levels_part = enclosed (codes "qos-levels") (flat_map level_lines (named_levels t e l))

  abbrev pub rules_part : List (List ℕ)
  rules_part = enclosed (codes "qos-match-rules") (flat_map rule_lines (flat_map (class_rules t e l) (numbered_classes t e l)))

  pub level_parts : (((codes "# fabroute levels" ∷ []) ++ groups_part) ++ levels_part) ++ rules_part ≡ policy_lines (policy_of t e l)
  unfolding policy_of
  level_parts = refl
