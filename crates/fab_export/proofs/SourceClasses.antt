-- Each source is in one class, and there are few rules for a class.
use Rattle.std.proofs.Common.{◌≡◌, ℕ, zero, suc, ◌+◌, ◌*◌, ◌<◌, ◌≤◌, inl, inr, Bool, true, false, ◌&&◌, List, [], ◌∷◌, length, refl, sym, ◌∙◌, subst, arith, None}
use Rattle.std.specs.Prelude.{filter, flat_map, nat_lt, not, nat_eq, if◌then◌else◌}
use Rattle.std.specs.List.{list_any}
use Rattle.std.specs.Option.{option_eq}
use Rattle.std.proofs.lemmas.Bool.{cases_order, lt-ltb, ltb-true, both_ways, not-true, not_from_false}
use Rattle.std.proofs.lemmas.List.{length-map, length-append}
use Rattle.std.proofs.lemmas.List.FromFn.{length-enumerate_from, length-range_with_len}
use Rattle.fab_model.specs.Topology.{Topology, lids_of}
use Rattle.fab_model.specs.Connected.{IsConnectedTo}
use Rattle.fab_model.proofs.Faultless.Facts.{slice_get_in}
use Rattle.fab_model.proofs.Lists.Members.{In, in_filter, from_filter, from_list_any, list_any_false, in_from_Contains, Contains_from_in}
use Rattle.fab_model.proofs.Lists.Found.{from_enumerate}
use Rattle.fab_tables.specs.Entries.{Entries}
use Rattle.fab_tables.specs.LaneTables.{LaneTables, level}
use Rattle.fab_tables.proofs.Joined.Lids.{connected_in_use}
use Rattle.fab_tables.proofs.Joined.Walks.{connected_back, connected_through}
use Rattle.fab_export.specs.Reached.{is_reached}
use Rattle.fab_export.specs.LevelsInUse.{sources, level_to, is_level_of, all_levels, is_in_use, spare_level}
use Rattle.fab_export.specs.Classes.{HaveSameLevels, have_same_levels, is_least_of_class, least_sources, class_of, class_levels}
use Rattle.fab_export.specs.Policies.{policy_of, class_rules, level_rule, numbered_classes}
use Rattle.fab_export.specs.Laws.{SourcesHaveClasses, SameIsSame}
use Rattle.fab_export.proofs.NoRows.{HasNoRow, rows_of_fit}
use Rattle.fab_export.proofs.Reaching.{delivered_is, delivered_connected, reached_is_connected}
use Rattle.fab_export.proofs.ListTests.{all_pass, pass_all, same_options, options_same, chosen_if, other_if, both_true, second_false}
use Rattle.fab_export.proofs.WrittenMaps.{spare_there, spare_unused}

module _ (t : Topology) (e : Entries) (l : LaneTables) where
  -- what is reached is in use
  pub reached_in_use : (s lid : ℕ) → is_reached t e s lid ≡ true → In lid (lids_of t)
  reached_in_use s lid is = in_from_Contains (lids_of t) lid (connected_in_use t s lid (delivered_connected t e lid (length t.switches) s (delivered_is _ is)))

  same_told : (a b : ℕ) → HaveSameLevels t e l a b → have_same_levels t e l a b ≡ true
  same_told a b same = pass_all (λ lid. option_eq nat_eq (level_to t e l a lid) (level_to t e l b lid)) (lids_of t) (λ lid within. options_same _ _ (same lid))

  pub told_same : (a b : ℕ) → have_same_levels t e l a b ≡ true → HaveSameLevels t e l a b
  told_same a b told lid = go (is_reached t e a lid) (is_reached t e b lid) refl refl
    where
      there : In lid (lids_of t) → level_to t e l a lid ≡ level_to t e l b lid
      there within = same_options _ _ (all_pass (λ lid. option_eq nat_eq (level_to t e l a lid) (level_to t e l b lid)) (lids_of t) told lid within)

      go : (x y : Bool) → is_reached t e a lid ≡ x → is_reached t e b lid ≡ y → level_to t e l a lid ≡ level_to t e l b lid
      go true y p q = there (reached_in_use a lid p)
      go false true p q = there (reached_in_use b lid q)
      go false false p q = other_if (is_reached t e a lid) (level l a lid) None p ∙ sym (other_if (is_reached t e b lid) (level l b lid) None q)

  itself : (a : ℕ) → have_same_levels t e l a a ≡ true
  itself a = same_told a a (λ lid. refl)

  pub back : (a b : ℕ) → have_same_levels t e l a b ≡ true → have_same_levels t e l b a ≡ true
  back a b told = same_told b a (λ lid. sym (told_same a b told lid))

  through : (a b c : ℕ) → have_same_levels t e l a b ≡ true → have_same_levels t e l b c ≡ true → have_same_levels t e l a c ≡ true
  through a b c one two = same_told a c (λ lid. told_same a b one lid ∙ told_same b c two lid)

  -- ---- the least source of a class

  abbrev Leads : ℕ → ℕ → Type 0
  Leads least s = In least (least_sources t e l) × (have_same_levels t e l least s ≡ true)

  least_of : (n s : ℕ) → s < n → In s (sources t) → (least : ℕ) × Leads least s
  least_of zero s low within = absurd (omega arith)
  least_of (suc n) s low within = go (list_any (λ r. nat_lt r s && have_same_levels t e l r s) (sources t)) refl (λ r less in_r. least_of n r (omega (arith, low, less)) in_r)
    where
      go : (b : Bool) → list_any (λ r. nat_lt r s && have_same_levels t e l r s) (sources t) ≡ b → ((r : ℕ) → r < s → In r (sources t) → (least : ℕ) × Leads least r) → (least : ℕ) × Leads least s
      go false none rest = (s, (in_filter (is_least_of_class t e l) (sources t) s within (not_from_false (list_any (λ r. nat_lt r s && have_same_levels t e l r s) (sources t)) none), itself s))
      go true some rest =
          let found = from_list_any (λ r. nat_lt r s && have_same_levels t e l r s) (sources t) some in
          let both : (nat_lt found.0 s ≡ true) × (have_same_levels t e l found.0 s ≡ true) = both_true (nat_lt found.0 s) (have_same_levels t e l found.0 s) found.2 in
          let least : (least : ℕ) × Leads least found.0 = rest found.0 (ltb-true found.0 s both.0) found.1 in
          (least.0, (least.1.0, through least.0 found.0 s least.1.1 both.1))

  -- no lesser source is of the class of one that is the least
  none_less : (a b : ℕ) → In a (sources t) → In b (least_sources t e l) → a < b → have_same_levels t e l a b ≡ true → ⊥
  none_less a b in_a in_b less same =
      let is : not (list_any (λ r. nat_lt r b && have_same_levels t e l r b) (sources t)) ≡ true = (from_filter (is_least_of_class t e l) (sources t) b in_b).1 in
      let fails : (nat_lt a b && have_same_levels t e l a b) ≡ false
      = list_any_false (λ r. nat_lt r b && have_same_levels t e l r b) (sources t) (not-true (list_any (λ r. nat_lt r b && have_same_levels t e l r b) (sources t)) is) a in_a in
      both_ways (have_same_levels t e l a b) (second_false (nat_lt a b) (have_same_levels t e l a b) (lt-ltb a b less) fails) same

  pub source_of_least : (a : ℕ) → In a (least_sources t e l) → In a (sources t)
  source_of_least a within = (from_filter (is_least_of_class t e l) (sources t) a within).0

  one_least : (a b s : ℕ) → In a (least_sources t e l) → In b (least_sources t e l) → have_same_levels t e l a s ≡ true → have_same_levels t e l b s ≡ true → a ≡ b
  one_least a b s in_a in_b one two = elim (cases_order a b) [
    | inl same ↦ same
    | inr (inl less) ↦ absurd (none_less a b (source_of_least a in_a) in_b less (through a s b one (back b s two)))
    | inr (inr more) ↦ absurd (none_less b a (source_of_least b in_b) in_a more (through b s a two (back a s one)))
  ]

  pub in_class : (least s : ℕ) → In s (class_of t e l least) → In s (sources t) × (have_same_levels t e l least s ≡ true)
  in_class least s within = from_filter (have_same_levels t e l least) (sources t) s within

  of_class : (least s : ℕ) → In s (sources t) → have_same_levels t e l least s ≡ true → In s (class_of t e l least)
  of_class least s within told = in_filter (have_same_levels t e l least) (sources t) s within told

-- ---- rules

pub no_more : {X : Type 0} (p : X → Bool) (xs : List X) → length (filter p xs) ≤ length xs
no_more p [] = omega arith
no_more p (y ∷ ys) = go (p y) (no_more p ys)
  where
    go : (b : Bool) → length (filter p ys) ≤ length ys → length (if b then y ∷ filter p ys else filter p ys) ≤ length (y ∷ ys)
    go true rest = omega (arith, rest)
    go false rest = omega (arith, rest)

-- a test that one element fails keeps fewer
fewer : {X : Type 0} (p : X → Bool) (xs : List X) (x : X) → In x xs → p x ≡ false → length (filter p xs) < length xs
fewer p [] x within fails = absurd within
fewer {X} p (y ∷ ys) x within fails = go (λ w. fewer p ys x w fails) (p y) refl within
  where
    go : (In x ys → length (filter p ys) < length ys) → (b : Bool) → p y ≡ b → In x (y ∷ ys) → length (if b then y ∷ filter p ys else filter p ys) < length (y ∷ ys)
    go rest true is (inl same) = absurd (both_ways (p y) (subst (λ (z : X). p z ≡ false) (sym same) fails) is)
    go rest true is (inr w) = omega (arith, rest w)
    go rest false is w = omega (arith, no_more p ys)

few_made : {X Y : Type 0} (f : X → List Y) (xs : List X) → ((x : X) → In x xs → length (f x) ≤ 15) → length (flat_map f xs) ≤ 15 * length xs
few_made f [] each = omega arith
few_made f (x ∷ xs) each = omega (arith, length-append (f x) (flat_map f xs), each x (inl refl), few_made f xs (λ y within. each y (inr within)))

few_rules : (t : Topology) (e : Entries) (l : LaneTables) → is_in_use t e l (spare_level t e l) ≡ false → In (spare_level t e l) all_levels → length (policy_of t e l).rules ≤ 15 * length (least_sources t e l)
unfolding policy_of
few_rules t e l unused there = omega (arith, few_made (class_rules t e l) (numbered_classes t e l) each, length-enumerate_from 0 (least_sources t e l))
  where
    each : (c : ℕ × ℕ) → In c (numbered_classes t e l) → length (class_rules t e l c) ≤ 15
    each c within =
        let at = from_enumerate 0 (least_sources t e l) c within in
        let source : In c.1 (sources t) = source_of_least t e l c.1 (slice_get_in (least_sources t e l) at.0 c.1 at.2) in
        let fails : is_level_of t e l c.1 (spare_level t e l) ≡ false = list_any_false (λ s. is_level_of t e l s (spare_level t e l)) (sources t) unused c.1 source in
        omega (arith, length-map (class_levels t e l c.1) (level_rule c.0), fewer (is_level_of t e l c.1) all_levels (spare_level t e l) there fails, length-range_with_len 0 16)

pub sources_have_classes : SourcesHaveClasses
sources_have_classes t p l of_part kept fits some fit = record {
  some = λ s has. (
      let least = least_of t p.tables l (s + 1) s (omega arith) (in_from_Contains (sources t) s has) in (
        least.0,
        Contains_from_in (least_sources t p.tables l) least.0 least.1.0,
        Contains_from_in (class_of t p.tables l least.0) s (of_class t p.tables l least.0 s (in_from_Contains (sources t) s has) least.1.1),
      )
      );
  one = λ a b s in_a in_b one two. (
      let x = in_class t p.tables l a s (in_from_Contains (class_of t p.tables l a) s one) in
      let y = in_class t p.tables l b s (in_from_Contains (class_of t p.tables l b) s two) in
      one_least t p.tables l a b s (in_from_Contains (least_sources t p.tables l) a in_a) (in_from_Contains (least_sources t p.tables l) b in_b) x.1 y.1
      );
  greatest = λ least a b in_a. (
      let x = in_class t p.tables l least a (in_from_Contains (class_of t p.tables l least) a in_a) in (
        λ in_b. (
            let y = in_class t p.tables l least b (in_from_Contains (class_of t p.tables l least) b in_b) in
            (Contains_from_in (sources t) b y.0, told_same t p.tables l a b (through t p.tables l a least b (back t p.tables l least a x.1) y.1))
            ),
        λ same. Contains_from_in (class_of t p.tables l least) b
            (of_class t p.tables l least b (in_from_Contains (sources t) b same.0) (through t p.tables l least a b x.1 (same_told t p.tables l a b same.1))),
      )
      );
  few_rules = few_rules t p.tables l (spare_unused t p l fits some of_part fit.0 row)
      (from_filter (λ n. not (is_in_use t p.tables l n)) all_levels (spare_level t p.tables l) (spare_there t p l fits some of_part fit.0 row)).0;
}
  where
    row : HasNoRow t p of_part fit.0
    row = rows_of_fit t p of_part fit.0 fit.2

pub same_is_same : SameIsSame
same_is_same t e l a b kept fits reaches joined same lid = go (is_reached t e a lid) (is_reached t e b lid) refl refl
  where
    reach_a : is_reached t e b lid ≡ true → is_reached t e a lid ≡ true
    reach_a is =
        let c : IsConnectedTo t b lid = (reached_is_connected t e b lid reaches).0 is in
        (reached_is_connected t e a lid reaches).1 (c.0, c.1, connected_through t a b c.0.switch.0 joined c.2)

    reach_b : is_reached t e a lid ≡ true → is_reached t e b lid ≡ true
    reach_b is =
        let c : IsConnectedTo t a lid = (reached_is_connected t e a lid reaches).0 is in
        (reached_is_connected t e b lid reaches).1 (c.0, c.1, connected_through t b a c.0.switch.0 (connected_back t kept.rows a b joined) c.2)

    go : (x y : Bool) → is_reached t e a lid ≡ x → is_reached t e b lid ≡ y → level_to t e l a lid ≡ level_to t e l b lid
    go true y p q = chosen_if (is_reached t e a lid) (level l a lid) None p ∙ same lid ∙ sym (chosen_if (is_reached t e b lid) (level l b lid) None (reach_b p))
    go false true p q = absurd (both_ways (is_reached t e a lid) p (reach_a q))
    go false false p q = other_if (is_reached t e a lid) (level l a lid) None p ∙ sym (other_if (is_reached t e b lid) (level l b lid) None q)
