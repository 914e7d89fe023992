-- The parts of a plan of Nue joined: arenas that are empty at first, LIDs that are kept and laid, and the levels.
use Rattle.std.proofs.Common.{◌≡◌, ℕ, ◌+◌, ◌*◌, ◌<◌, ◌≤◌, inl, inr, List, [], length, All, Option, Some, None, refl, sym, ◌∙◌, ap, subst, arith}
use Rattle.std.specs.Prelude.{Contains, slice_get, option_map, unwrap_or, map}
use Rattle.std.specs.List.Sorted.{IsStrictlyIncreasing}
use Rattle.std.proofs.lemmas.List.{get_or-replicate, length-replicate}
use Rattle.std.proofs.lemmas.List.Elements.{All-contains, All-map}
use Rattle.fab_model.specs.Topology.{Topology, lids_of}
use Rattle.fab_model.specs.WellFormed.{IsFabric}
use Rattle.fab_tables.specs.declared.plan.Plan.{Plan}
use Rattle.fab_tables.specs.Entries.{Entries}
use Rattle.fab_tables.specs.Fit.{LanesFit}
use Rattle.fab_tables.specs.FixedEntries.{HasFixedEntries}
use Rattle.fab_tables.specs.LaneTables.{LaneTables, HasLanePerLevel}
use Rattle.fab_tables.proofs.Joined.Ascending.{lids_ascend}
use Rattle.fab_tables.proofs.Verdicts.CertifiedLaws.{contains_of}
use Rattle.fab_certify.specs.EnginePlans.{HasLevels}
use Rattle.fab_depgraph.specs.Listed.{Dependencies, IsListed}
use Rattle.fab_sssp.specs.WeightTables.{WeightTable, start_weight, start_weights}
use Rattle.fab_sssp.specs.Carried.{weight_after}
use Rattle.fab_escape.specs.Forest.{Forest}
use Rattle.fab_nue.specs.Kept.{AreKept}
use Rattle.fab_nue.specs.NuePlan.{DependsToEscapeIn, IsNueLevel, AreUsed, laid_before}
use Rattle.fab_nue.specs.Arenas.{listed_in, channel_counts, HaveChannels, AreListing, AreShort}
use Rattle.fab_nue.specs.Forests.{AreForests, forest_in}
use Rattle.fab_nue.specs.Laying.{AreLaid, AreLaidBelow, BeginsLaying, EndsLaying, IsUnnumbered}
use Rattle.fab_nue.specs.LidsKept.{KeepsLids}
use Rattle.fab_nue.specs.Unleveled.{IsWithoutLevels}
use Rattle.fab_nue.specs.Levels.{AreLevelsLow}
use Rattle.fab_nue.proofs.Laying.LayingSteps.{at_first}
use Rattle.fab_nue.proofs.Laying.LayingLoop.{all_laid, all_used}
use Rattle.fab_nue.proofs.Laying.Weighing.{first_laid}
use Rattle.fab_nue.proofs.Lanes.LaneLists.{listed_at}
use Rattle.fab_nue.proofs.Plans.LevelsLow.{levels_low}

-- ---- arenas at first

pub short_at_first : (used : List Dependencies) → All (λ (g : Dependencies). g.listed ≡ []) used → AreShort 0 used
short_at_first used empty on_lane = go (slice_get used on_lane) refl
  where
    go : (o : Option Dependencies) → slice_get used on_lane ≡ o → length (listed_in used on_lane) ≤ 0
    go None is = omega (arith, ap (λ (o : Option Dependencies). length (unwrap_or (option_map (λ (g : Dependencies). g.listed) o) [])) is)
    go (Some g) is = omega (
      arith,
      ap (λ xs. length xs) (listed_at used on_lane g is ∙ All-contains (λ (x : Dependencies). x.listed ≡ []) used g empty (contains_of used on_lane g is)),
    )

pub channels_at_first : (t : Topology) (used : List Dependencies) → All (λ (g : Dependencies). g.channels ≡ length t.channels) used → HaveChannels t used
channels_at_first t used all = All-map (λ count. count ≡ length t.channels) (λ (g : Dependencies). g.channels) used all

-- ---- no old plan

pub keeps_none : (t : Topology) (lanes : ℕ) (start : List Dependencies) (e : Entries) → IsFabric t → HasFixedEntries t e → KeepsLids t lanes None [] start e (start_weights t) start
keeps_none t lanes start e fabric fixed forest laid at_start =
    let first = first_laid t [] (lids_ascend t fabric) (λ k h. absurd (omega (arith, h))) (λ lid c. absurd (omega (arith, c.1))) in (
      refl,
      record {
        trees = λ lid place h. absurd (omega (arith, h));
        fixed = fixed;
        of_kept = λ s lid k c. tt;
        of_laid = λ s lid to h. absurd (omega (arith, h));
        made_for = record { channels = length-replicate (length t.channels) (start_weight t); switches = refl };
        raised = sym (ap (λ (xs : List ℕ). length xs) first);
        weights = λ c low. get_or-replicate (length t.channels) c (start_weight t) 0 low ∙ plain first c;
        listed = λ on_lane below c d.
            let same = at_first t lanes None [] forest laid on_lane c d in (
              (λ l. same.0 (inl ((at_start on_lane below c d).0 l))),
              (λ u. elim (same.1 u) [ inl a ↦ (at_start on_lane below c d).1 a | inr o ↦ absurd o ]),
            );
      },
    )
  where
    plain : laid_before t [] 0 ≡ [] → (c : ℕ) → start_weight t ≡ weight_after t e (laid_before t [] 0) c
    plain first c = omega (arith, ap (λ xs. weight_after t e xs c) first)

-- ---- the whole

module _ (t : Topology) (lanes : ℕ) (old : Option Plan) (kept : List ℕ) (forests : List Forest) (start begun after : List Dependencies) (e new : Entries) (w heavy : WeightTable)
    (are : AreForests t lanes forests) (at_start : AreListing lanes (λ on_lane c d. DependsToEscapeIn t lanes (λ lane. forest_in forests lane) on_lane c d) start)
    (keeps : KeepsLids t lanes old kept start e w begun) where
  abbrev no_tree : ℕ → List (Option ℕ)
  no_tree lid = []

  pub begins : BeginsLaying t lanes kept (λ lane. forest_in forests lane) e w begun
  begins = (old, no_tree, (keeps (λ lane. forest_in forests lane) no_tree at_start).1)

  pub without_levels : EndsLaying t lanes kept (λ lane. forest_in forests lane) e w begun new heavy after → length after ≡ lanes → HaveChannels t after → IsWithoutLevels t lanes old kept new after
  without_levels ends each channels =
      let was = keeps (λ lane. forest_in forests lane) no_tree at_start in
      let end = ends old no_tree was.1 in
      record {
        forest = λ lane. forest_in forests lane;
        laid = end.1;
        lids = all_laid t lanes old kept (λ lane. forest_in forests lane) end.1 end.0 new heavy after are.right was.0 end.2 end.3;
        used_lists = all_used t lanes old kept (λ lane. forest_in forests lane) end.1 end.0 new heavy after each channels end.2 end.3;
      }

module _ (t : Topology) (lanes : ℕ) (old : Option Plan) (kept : List ℕ) (e : Entries) (used : List Dependencies) (is : IsWithoutLevels t lanes old kept e used) where
  pub low : 0 < lanes → AreLevelsLow t lanes old kept
  low some = levels_low t lanes (λ on_lane c d. DependsToEscapeIn t lanes is.forest on_lane c d) old kept some is.lids.keeps

  pub unnumbered : (l : LaneTables) → l.count ≡ lanes → LanesFit t l → HasLanePerLevel l → HasLevels t l (λ s lid n. IsNueLevel t lanes old kept s lid n) → IsUnnumbered t old kept e l used
  unnumbered l count fits maps levels =
      let P : ℕ → Type 0 = λ k. AreLaid t k old kept is.forest is.laid e in
      let Q : ℕ → Type 0 = λ k. AreUsed t k old kept is.forest is.laid used in
      let R : ℕ → Type 0 = λ k. HasLevels t l (λ s lid n. IsNueLevel t k old kept s lid n) in
      record {
        forest = is.forest;
        laid = is.laid;
        lids = subst P (sym count) is.lids;
        fits = fits;
        maps = maps;
        levels = subst R (sym count) levels;
        used_lists = subst Q (sym count) is.used_lists;
      }
