-- What the first match gives to the pairs that the plan knows, and to all others.
use Rattle.std.proofs.Common.{◌≡◌, ◌≢◌, ℕ, ◌+◌, ◌<◌, ◌^◌, inl, inr, true, length, refl, sym, ◌∙◌, ap, subst, arith, Option, Some, None, map}
use Rattle.std.specs.Prelude.{flat_map, option_map, ◌==◌, IsSome}
use Rattle.std.specs.List.{range_with_len}
use Rattle.std.specs.Str.{bytes_eq}
use Rattle.std.proofs.lemmas.Bool.{eqb-true, false_from_ne_true}
use Rattle.std.proofs.lemmas.List.FromFn.{length-range_with_len}
use Rattle.std.proofs.lemmas.Option.{same_Some}
use Rattle.fab_model.specs.declared.rows.TerminalRow.{TerminalRow}
use Rattle.fab_model.specs.Topology.{Topology, lids_of, is_source}
use Rattle.fab_model.specs.WellFormed.{IsFabric}
use Rattle.fab_model.specs.Connected.{IsConnectedTo}
use Rattle.fab_model.proofs.Faultless.Facts.{slice_get_in, same_place}
use Rattle.fab_model.proofs.Lists.Members.{In, Pairs, in_filter, from_filter, in_map, from_map, from_list_any, list_any_from_in, in_from_Contains, Contains_from_in, pairs_filter, pairs_weaker}
use Rattle.fab_model.proofs.Lists.Found.{find_only, find_none, from_enumerate, in_enumerate, place_of_in, from_range, in_range, range_rises}
use Rattle.fab_tables.specs.declared.plan.Plan.{Plan}
use Rattle.fab_tables.specs.Certified.{Reaches, IsCertified}
use Rattle.fab_tables.specs.Dependencies.{IsPath}
use Rattle.fab_tables.specs.Entries.{Entries}
use Rattle.fab_tables.specs.LaneTables.{LaneTables, AreLaneTables, level}
use Rattle.fab_tables.specs.Fit.{IsSource}
use Rattle.fab_tables.proofs.Paths.FallingRoutes.{connected_below}
use Rattle.fab_tables.proofs.Joined.Lids.{connected_in_use}
use Rattle.fab_tables.proofs.Rows.LevelsLow.{level_low}
use Rattle.fab_export.specs.PortGuids.{port_guid, source_guids}
use Rattle.fab_export.specs.Reached.{is_reached}
use Rattle.fab_export.specs.LevelsInUse.{sources, level_to, has_level, is_level_of, all_levels, is_in_use, levels_in_use, spare_level}
use Rattle.fab_export.specs.Classes.{is_least_of_class, least_sources, class_of, class_levels, lids_at_level}
use Rattle.fab_export.specs.Policies.{NamedLevel, Rule, matches, level_named_by, sl_named, first_match, level_name, level_rule, class_rules, named_level, named_levels, numbered_classes, policy_of}
use Rattle.fab_export.specs.Laws.{IsPairOf, GivesLevels, AreClasses, CanBeLoaded, PolicyGivesLevels}
use Rattle.fab_export.proofs.GroupNames.{one_level, default_no_level}
use Rattle.fab_export.proofs.LoadedTables.{tables_can_be_loaded}
use Rattle.fab_export.proofs.NoRows.{fit_is_good}
use Rattle.fab_export.proofs.PolicyLevels.{Matches, matched, matching, in_flat_map, from_flat_map, same_bytes, bytes_same}
use Rattle.fab_export.proofs.Reaching.{reached_is_connected}
use Rattle.fab_export.proofs.SourceClasses.{sources_have_classes, told_same, in_class, source_of_least, no_more}
use Rattle.fab_export.proofs.SourceGuids.{IsLidAt, lid_at_in_use, one_switch, lid_of_guid}
use Rattle.fab_export.proofs.ListTests.{same_level, options_same, chosen_if}
use Rattle.fab_export.proofs.WrittenMaps.{lanes_fit, level_there}

none_is : (o : Option ℕ) → o ≡ None → IsSome o → ⊥
none_is None is some = cc
none_is (Some v) is some = cc

module _ (t : Topology) (p : Plan) (l : LaneTables) (kept : IsFabric t) (are : AreLaneTables l) (reaches : Reaches t p.tables) (loads : CanBeLoaded t p.tables)
    (classes : AreClasses t p.tables l) (has_levels : (s lid : ℕ) → IsSource t s → IsConnectedTo t s lid → IsSome (level l s lid)) where
  abbrev e : Entries
  e = p.tables

  few : length (least_sources t p.tables l) < 2 ^ 64
  few =
      omega (
        arith,
        no_more (is_least_of_class t p.tables l) (sources t),
        no_more (is_source t) (range_with_len 0 (length t.switches)),
        length-range_with_len 0 (length t.switches),
        kept.rows.switch_count,
      )

  -- the least sources are different ones
  apart : Pairs (λ (m n : ℕ). m ≢ n) (least_sources t p.tables l)
  apart = pairs_weaker (λ (m n : ℕ). m < n) (λ (m n : ℕ). m ≢ n) (least_sources t p.tables l) (λ m n in_m in_n less same. omega (arith, less, same))
      (pairs_filter (λ (m n : ℕ). m < n) (is_least_of_class t p.tables l) (sources t) (pairs_filter (λ (m n : ℕ). m < n) (is_source t) (range_with_len 0 (length t.switches)) (range_rises 0 (length t.switches))))

  one_number : (c d : ℕ × ℕ) → In c (numbered_classes t p.tables l) → In d (numbered_classes t p.tables l) → c.1 ≡ d.1 → c.0 ≡ d.0
  one_number c d in_c in_d same =
      let a = from_enumerate 0 (least_sources t p.tables l) c in_c in
      let b = from_enumerate 0 (least_sources t p.tables l) d in_d in
      let place : a.0 ≡ b.0 = same_place (λ (n : ℕ). n) (least_sources t p.tables l) a.0 b.0 c.1 d.1 apart a.2 b.2 same in
      omega (arith, a.1, b.1, place)

  least_there : (c : ℕ × ℕ) → In c (numbered_classes t p.tables l) → In c.1 (least_sources t p.tables l)
  least_there c within = let at = from_enumerate 0 (least_sources t p.tables l) c within in slice_get_in (least_sources t p.tables l) at.0 c.1 at.2

  source_low : (s : ℕ) → In s (sources t) → (is_source t s ≡ true) × (s < length t.switches)
  source_low s within =
      let both = from_filter (is_source t) (range_with_len 0 (length t.switches)) s within in (both.1, omega (arith, (from_range 0 (length t.switches) s both.0).1))

  -- a LID has its port GUID alone
  one_lid : (a b : ℕ) → In a (lids_of t) → In b (lids_of t) → port_guid t a ≡ port_guid t b → a ≡ b
  one_lid a b in_a in_b same = loads.one_lid a b (Contains_from_in (lids_of t) a in_a) (Contains_from_in (lids_of t) b in_b) same

  -- a GUID is of one source
  one_source : (guid a b : ℕ) → In a (sources t) → In b (sources t) → In guid (source_guids t a) → In guid (source_guids t b) → a ≡ b
  one_source guid a b in_a in_b of_a of_b =
      let x : (lid : ℕ) × IsLidAt t lid a × (port_guid t lid ≡ guid) = lid_of_guid t kept a guid (source_low a in_a).1 of_a in
      let y : (lid : ℕ) × IsLidAt t lid b × (port_guid t lid ≡ guid) = lid_of_guid t kept b guid (source_low b in_b).1 of_b in
      let same : x.0 ≡ y.0 = one_lid x.0 y.0 (lid_at_in_use t x.0 a x.1) (lid_at_in_use t y.0 b y.1) (x.2 ∙ sym y.2) in
      one_switch t kept y.0 a b (subst (λ lid. IsLidAt t lid a) same x.1) y.1

  -- what a rule that matches says: a source of its class, and a LID at the level
  record IsSaidBy (c : ℕ × ℕ) (v from to : ℕ) : Type 0 where
    source : ℕ
    lid : ℕ
    of_class : In source (class_of t p.tables l c.1)
    from_guid : In from (source_guids t source)
    in_use : In lid (lids_of t)
    level : level_to t p.tables l c.1 lid ≡ Some v
    to_guid : port_guid t lid ≡ to

  said_by : (c : ℕ × ℕ) (v from to : ℕ) → Matches t p.tables l few c v from to → IsSaidBy c v from to
  said_by c v from to m =
      let one = from_flat_map (source_guids t) (class_of t p.tables l c.1) from m.source in
      let two = from_map (port_guid t) (lids_at_level t p.tables l c.1 v) to m.destination in
      let three = from_filter (has_level t p.tables l v c.1) (lids_of t) two.0 two.1 in
      record {
        source = one.0;
        lid = two.0;
        of_class = one.1;
        from_guid = one.2;
        in_use = three.0;
        level = same_level (level_to t p.tables l c.1 two.0) v three.1;
        to_guid = two.2;
      }

  -- every rule is one of a class and a level of it
  record IsRuleOf (y : Rule) : Type 0 where
    class : ℕ × ℕ
    of_level : ℕ
    in_classes : In class (numbered_classes t p.tables l)
    in_levels : In of_level (class_levels t p.tables l class.1)
    is : level_rule class.0 of_level ≡ y

  rule_of : (y : Rule) → In y (flat_map (class_rules t p.tables l) (numbered_classes t p.tables l)) → IsRuleOf y
  rule_of y within =
      let one = from_flat_map (class_rules t p.tables l) (numbered_classes t p.tables l) y within in
      let two = from_map (level_rule one.0.0) (class_levels t p.tables l one.0.1) y one.2 in
      record { class = one.0; of_level = two.0; in_classes = one.1; in_levels = two.1; is = two.2 }

  said_by_rule : (y : Rule) (r : IsRuleOf y) (from to : ℕ) → matches (policy_of t p.tables l) from to y ≡ true → IsSaidBy r.class r.of_level from to
  said_by_rule y r from to is =
      said_by r.class r.of_level from to (matched t p.tables l few r.class r.of_level from to r.in_classes r.in_levels (subst (λ (z : Rule). matches (policy_of t p.tables l) from to z ≡ true) (sym r.is) is))

  -- ---- pairs that the plan doesn't know

  module _ (from to : ℕ) (unknown : (s lid : ℕ) → ¬ IsPairOf t from to s lid) where
    no_rule : (y : Rule) → In y (flat_map (class_rules t p.tables l) (numbered_classes t p.tables l)) → matches (policy_of t p.tables l) from to y ≡ true → ⊥
    no_rule y within is =
        let r : IsRuleOf y = rule_of y within in
        let said : IsSaidBy r.class r.of_level from to = said_by_rule y r from to is in
        let of_class = in_class t p.tables l r.class.1 said.source said.of_class in
        let same : level_to t p.tables l said.source said.lid ≡ Some r.of_level = sym (told_same t p.tables l r.class.1 said.source of_class.1 said.lid) ∙ said.level in
        unknown said.source said.lid (record {
          of_source = (source_low said.source of_class.0).0;
          connected = (reached_is_connected t p.tables said.source said.lid reaches).0 (level_there t p.tables l said.source said.lid r.of_level same).0;
          from_guid = Contains_from_in (source_guids t said.source) from said.from_guid;
          to_guid = said.to_guid;
        })

    spare_given : first_match (policy_of t p.tables l) from to ≡ Some (spare_level t p.tables l)
    unfolding policy_of first_match
    spare_given = ap (λ (o : Option Rule). sl_named (policy_of t p.tables l) (level_named_by o))
        (find_none (matches (policy_of t p.tables l) from to) (flat_map (class_rules t p.tables l) (numbered_classes t p.tables l))
        (λ y within. false_from_ne_true (matches (policy_of t p.tables l) from to y) (no_rule y within)))

  -- ---- pairs that the plan knows

  module _ (from to s lid : ℕ) (pair : IsPairOf t from to s lid) where
    low : s < length t.switches
    low = connected_below t kept.rows s lid pair.connected

    source_there : In s (sources t)
    source_there = in_filter (is_source t) (range_with_len 0 (length t.switches)) s (in_range 0 (length t.switches) s (omega arith) (omega (arith, low))) pair.of_source

    lid_there : In lid (lids_of t)
    lid_there = in_from_Contains (lids_of t) lid (connected_in_use t s lid pair.connected)

    reached : is_reached t p.tables s lid ≡ true
    reached = (reached_is_connected t p.tables s lid reaches).1 pair.connected

    module _ (v : ℕ) (is : level l s lid ≡ Some v) where
      level_of_s : level_to t p.tables l s lid ≡ Some v
      level_of_s = chosen_if (is_reached t p.tables s lid) (level l s lid) None reached ∙ is

      small : v < 16
      small = level_low l s lid v are is

      there : In v all_levels
      there = in_range 0 16 v (omega arith) (omega (arith, small))

      -- a source that has the level there has it at some LID
      has_it : (a : ℕ) → level_to t p.tables l a lid ≡ Some v → is_level_of t p.tables l a v ≡ true
      has_it a same = list_any_from_in (has_level t p.tables l v a) (lids_of t) lid lid_there (options_same (level_to t p.tables l a lid) (Some v) same)

      used : is_in_use t p.tables l v ≡ true
      used = list_any_from_in (λ a. is_level_of t p.tables l a v) (sources t) s source_there (has_it s level_of_s)

      -- the level is found by its name
      named : sl_named (policy_of t p.tables l) (level_name v) ≡ Some v
      unfolding policy_of
      named = ap (option_map (λ (level : NamedLevel). level.sl))
          (find_only (λ (level : NamedLevel). bytes_eq level.name (level_name v)) (named_levels t p.tables l) (named_level v)
          (inr (in_map named_level (levels_in_use t p.tables l) v (in_filter (is_in_use t p.tables l) all_levels v there used))) (bytes_same (level_name v) (level_name v) refl) only)
        where
          only : (y : NamedLevel) → In y (named_levels t p.tables l) → bytes_eq y.name (level_name v) ≡ true → y ≡ named_level v
          only y (inl same) is' = absurd (default_no_level v (ap (λ (n : NamedLevel). n.name) same ∙ same_bytes y.name (level_name v) is'))
          only y (inr within) is' =
              let from' = from_map named_level (levels_in_use t p.tables l) y within in
              let low' = from_range 0 16 from'.0 (from_filter (is_in_use t p.tables l) all_levels from'.0 from'.1).0 in
              let same : from'.0 ≡ v = one_level from'.0 v (omega (arith, low'.1)) (omega (arith, small)) (ap (λ (n : NamedLevel). n.name) from'.2 ∙ same_bytes y.name (level_name v) is') in
              sym from'.2 ∙ ap named_level same

      module _ (c : ℕ × ℕ) (in_c : In c (numbered_classes t p.tables l)) (of_class : In s (class_of t p.tables l c.1)) where
        level_of_c : level_to t p.tables l c.1 lid ≡ Some v
        level_of_c = told_same t p.tables l c.1 s (in_class t p.tables l c.1 s of_class).1 lid ∙ level_of_s

        source_of_c : In c.1 (sources t)
        source_of_c = source_of_least t p.tables l c.1 (least_there c in_c)

        in_v : In v (class_levels t p.tables l c.1)
        in_v = in_filter (is_level_of t p.tables l c.1) all_levels v there (has_it c.1 level_of_c)

        rule_there : In (level_rule c.0 v) (flat_map (class_rules t p.tables l) (numbered_classes t p.tables l))
        rule_there = in_flat_map (class_rules t p.tables l) (numbered_classes t p.tables l) c (level_rule c.0 v) in_c (in_map (level_rule c.0) (class_levels t p.tables l c.1) v in_v)

        rule_matches : matches (policy_of t p.tables l) from to (level_rule c.0 v) ≡ true
        rule_matches = matching t p.tables l few c v from to in_c in_v (record {
          source = in_flat_map (source_guids t) (class_of t p.tables l c.1) s from of_class (in_from_Contains (source_guids t s) from pair.from_guid);
          destination =
              subst (λ n. In n (map (port_guid t) (lids_at_level t p.tables l c.1 v))) pair.to_guid
              (in_map (port_guid t) (lids_at_level t p.tables l c.1 v) lid
              (in_filter (has_level t p.tables l v c.1) (lids_of t) lid lid_there (options_same (level_to t p.tables l c.1 lid) (Some v) level_of_c)));
        })

        -- no other rule matches
        only_rule : (y : Rule) → In y (flat_map (class_rules t p.tables l) (numbered_classes t p.tables l)) → matches (policy_of t p.tables l) from to y ≡ true → y ≡ level_rule c.0 v
        only_rule y within is' =
            let r : IsRuleOf y = rule_of y within in
            let said : IsSaidBy r.class r.of_level from to = said_by_rule y r from to is' in
            let other = in_class t p.tables l r.class.1 said.source said.of_class in
            let same : said.source ≡ s = one_source from said.source s other.0 source_there said.from_guid (in_from_Contains (source_guids t s) from pair.from_guid) in
            let of_other : In s (class_of t p.tables l r.class.1) = subst (λ n. In n (class_of t p.tables l r.class.1)) same said.of_class in
            let least : r.class.1 ≡ c.1
            = classes.one r.class.1 c.1 s (Contains_from_in (least_sources t p.tables l) r.class.1 (least_there r.class r.in_classes)) (Contains_from_in (least_sources t p.tables l) c.1 (least_there c in_c))
            (Contains_from_in (class_of t p.tables l r.class.1) s of_other) (Contains_from_in (class_of t p.tables l c.1) s of_class) in
            let number : r.class.0 ≡ c.0 = one_number r.class c r.in_classes in_c least in
            let same_lid : said.lid ≡ lid = one_lid said.lid lid said.in_use lid_there (said.to_guid ∙ sym pair.to_guid) in
            let levels : r.of_level ≡ v
            = same_Some r.of_level v (sym said.level ∙ ap (λ n. level_to t p.tables l n said.lid) least ∙ ap (level_to t p.tables l c.1) same_lid ∙ level_of_c) in
            sym r.is ∙ ap (λ n. level_rule n r.of_level) number ∙ ap (level_rule c.0) levels

        given : first_match (policy_of t p.tables l) from to ≡ Some v
        unfolding policy_of first_match
        given = ap (λ (o : Option Rule). sl_named (policy_of t p.tables l) (level_named_by o))
            (find_only (matches (policy_of t p.tables l) from to) (flat_map (class_rules t p.tables l) (numbered_classes t p.tables l)) (level_rule c.0 v) rule_there rule_matches only_rule)
            ∙ named

      of_some_class : first_match (policy_of t p.tables l) from to ≡ Some v
      of_some_class =
          let class = classes.some s (Contains_from_in (sources t) s source_there) in
          let place = place_of_in (least_sources t p.tables l) class.0 (in_from_Contains (least_sources t p.tables l) class.0 class.1) in
          given (0 + place.0, class.0) (in_enumerate 0 (least_sources t p.tables l) place.0 class.0 place.1) (in_from_Contains (class_of t p.tables l class.0) s class.2)

    known_given : first_match (policy_of t p.tables l) from to ≡ level l s lid
    known_given = go (level l s lid) refl (has_levels s lid pair.of_source pair.connected)
      where
        go : (o : Option ℕ) → level l s lid ≡ o → IsSome o → first_match (policy_of t p.tables l) from to ≡ level l s lid
        go None is some = absurd (none_is None refl some)
        go (Some v) is some = of_some_class v is ∙ sym is

  pub gives_levels : GivesLevels t p.tables l
  gives_levels = record { known = known_given; others = spare_given }

-- a certified plan has a level for each source and each LID connected to it
pub certified_levels : (t : Topology) (p : Plan) (l : LaneTables) → IsCertified t p → p.lanes ≡ Some l → (s lid : ℕ) → IsSource t s → IsConnectedTo t s lid → IsSome (level l s lid)
certified_levels t p l certified some s lid of_source connected =
    let same : certified.0 ≡ l = same_Some certified.0 l (sym certified.1 ∙ some) in
    let found = from_list_any (λ (row : TerminalRow). row.switch.0 == s) t.terminals of_source in
    let at : found.0.switch.0 ≡ s = eqb-true found.0.switch.0 s found.2 in
    let path : IsPath t found.0 lid = record { terminal = Contains_from_in t.terminals found.0 found.1; connected = subst (λ n. IsConnectedTo t n lid) (sym at) connected } in
    subst (λ (k : LaneTables). IsSome (level k s lid)) same (subst (λ n. IsSome (level certified.0 n lid)) at (certified.3.level found.0 lid path))

pub policy_gives_levels : PolicyGivesLevels
policy_gives_levels t p l of_part kept fits some fit =
    let good = fit_is_good t p of_part fit in
    gives_levels t p l kept (lanes_fit t p l fits some).whole good.0 (tables_can_be_loaded t p of_part kept fits fit)
    (sources_have_classes t p l of_part kept fits some fit) (certified_levels t p l (good.1 l some) some)
