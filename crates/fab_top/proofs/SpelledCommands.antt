-- What is known of a command that words spell: its files are named by places among the words, its recipe fits, and its lane count is
-- 1 to 15.
use Rattle.std.proofs.Common.{◌≡◌, ℕ, suc, ◌<◌, ◌≤◌, ◌-◌, ◌^◌, ◌&&◌, Bool, true, false, List, [], ◌∷◌, length, Option, None, Some, String, refl, subst, arith}
use Rattle.std.specs.Prelude.{option_map, option_and_then, find, if◌then◌else◌, IsTrue, IfSome}
use Rattle.std.specs.Bool.{then_some}
use Rattle.std.specs.Str.{bytes_eq}
use Rattle.std.proofs.lemmas.List.{length-map}
use Rattle.fab_model.specs.declared.rows.Lid.{Lid}
use Rattle.fab_model.specs.Topology.{lid_id}
use Rattle.fab_report.specs.declared.recipe.Kind.{Kind}
use Rattle.fab_report.specs.declared.recipe.Recipe.{Recipe}
use Rattle.fab_report.specs.Laws.{HasSeed}
use Rattle.fab_report.specs.Recipes.{fits}
use Rattle.fab_export.specs.declared.part.Part.{Part}
use Rattle.fab_sweep.specs.declared.Failing.{Failing}
use Rattle.fab_top.specs.declared.command.Engine.{Engine}
use Rattle.fab_top.specs.Engines.{IsLaneCount, HasLaneCount}
use Rattle.fab_top.specs.declared.command.Command.{Command}
use Rattle.fab_top.specs.declared.command.Command.TheVariants.{Check, Route, Certify, Convert, Repair, Cut, Load, Gen, Demo, Transit, Drain, Mcast, Spread, Sweep, Export, Replies}
use Rattle.fab_top.specs.Ran.{files_of}
use Rattle.fab_top.specs.Words.{texts, is_file, named, number_in, kinds, two_files, recipe_of, recipe_in, lid_in, group_in, flagged_lanes, are_three_files, repair_words, show_from_to, show_words, gen_words, engine_in, asked_behind, asked_by, route_words, demo_words, transit_words, spread_words, failings, sweep_words, part_names, export_words, commands, command_of}
use Rattle.fab_top.proofs.LowNumbers.{number_is_low}
use Rattle.fab_top.proofs.AskedLanes.{engine_after, asked_behind_rightly, asked_by_rightly, flagged_in_range}

-- each place is below a number
abbrev pub AllBelow : ℕ → List ℕ → Type 0
AllBelow n [] = Unit {0}
AllBelow n (place ∷ places) = (place < n) × AllBelow n places

pub record IsFitting (recipe : Recipe) : Type 0 where
  pub fits : IsTrue (fits recipe)
  pub seed : HasSeed recipe

-- its recipe, if it has one, fits
abbrev pub HasFittingRecipe : Command → Type 0
HasFittingRecipe (Gen recipe) = IsFitting recipe
HasFittingRecipe (Demo recipe engine) = IsFitting recipe
HasFittingRecipe _ = Unit {0}

-- an engine that takes a lane count is asked for 1 to 15
abbrev pub HasLanes : Command → Type 0
HasLanes (Route fabric engine) = HasLaneCount engine
HasLanes (Demo recipe engine) = HasLaneCount engine
HasLanes (Repair fabric plan failed lanes) = IsLaneCount lanes
HasLanes (Sweep what fabric plan lanes) = IsLaneCount lanes
HasLanes _ = Unit {0}

-- what the command asks for can be done
pub record CanBeDone (command : Command) : Type 0 where
  pub recipe : HasFittingRecipe command
  pub lanes : HasLanes command

pub record IsSpelledBy (count : ℕ) (command : Command) : Type 0 where
  pub places : AllBelow count (files_of command)
  pub asks : CanBeDone command

-- what a form makes of the words behind the first
abbrev SpellsRightly : (List (List ℕ) → Option Command) → Type 0
SpellsRightly form = (others : List (List ℕ)) (made : Command) → form others ≡ Some made → IsSpelledBy (suc (length others)) made

-- ---- what a form made

abbrev IfSpelled : ℕ → Option Command → Type 0
IfSpelled n None = Unit {0}
IfSpelled n (Some command) = IsSpelledBy n command

made_as : (n : ℕ) (x made : Command) → Some x ≡ Some made → IsSpelledBy n x → IsSpelledBy n made
made_as n x made e spelled = subst (IfSpelled n) e spelled

made_if : (n : ℕ) (b : Bool) (x made : Command) → then_some b x ≡ Some made → IsSpelledBy n x → IsSpelledBy n made
made_if n true x made e spelled = made_as n x made e spelled
made_if n false x made e spelled = cc

-- ---- the forms

two_within : (make : ℕ → ℕ → Command) → IsSpelledBy 3 (make 1 2) → SpellsRightly (two_files make)
two_within make both [] made e = cc
two_within make both (a ∷ []) made e = cc
two_within make both (a ∷ b ∷ []) made e = made_if 3 (is_file a && is_file b) (make 1 2) made e both
two_within make both (a ∷ b ∷ c ∷ rest) made e = cc

made_repair : (b : Bool) (o : Option ℕ) (made : Command) → IfSome o IsLaneCount → option_and_then (λ lanes. then_some b (Repair 1 2 3 lanes)) o ≡ Some made → IsSpelledBy 6 made
made_repair b None made count e = cc
made_repair b (Some lanes) made count e =
    made_if 6 b (Repair 1 2 3 lanes) made e (record { places = (omega arith, (omega arith, (omega arith, tt))); asks = record { recipe = tt; lanes = count } })

repair_within : SpellsRightly repair_words
repair_within [] made e = cc
repair_within (a ∷ []) made e = cc
repair_within (a ∷ b ∷ []) made e = cc
repair_within (a ∷ b ∷ c ∷ []) made e = cc
repair_within (a ∷ b ∷ c ∷ d ∷ []) made e = cc
repair_within (a ∷ b ∷ c ∷ d ∷ x ∷ []) made e = made_repair (are_three_files a b c) (flagged_lanes d x) made (flagged_in_range d x) e
repair_within (a ∷ b ∷ c ∷ d ∷ x ∷ y ∷ rest) made e = cc

made_show : (from to : Option ℕ) (made : Command) → show_from_to from to ≡ Some made → IsSpelledBy 5 made
made_show (Some from) (Some to) made e = made_as 5 _ made e (record { places = (omega arith, (omega arith, tt)); asks = record { recipe = tt; lanes = tt } })
made_show (Some from) None made e = cc
made_show None to made e = cc

made_when : (b : Bool) (o : Option Command) (made : Command) → (if b then o else None) ≡ Some made → o ≡ Some made
made_when true o made e = e
made_when false o made e = cc

show_within : SpellsRightly show_words
show_within [] made e = cc
show_within (a ∷ []) made e = cc
show_within (a ∷ b ∷ []) made e = cc
show_within (a ∷ b ∷ c ∷ []) made e = cc
show_within (a ∷ b ∷ c ∷ d ∷ []) made e = made_show (lid_in c) (lid_in d) made (made_when (is_file a && is_file b) (show_from_to (lid_in c) (lid_in d)) made e)
show_within (a ∷ b ∷ c ∷ d ∷ x ∷ rest) made e = cc

abbrev IfFitting : Option Recipe → Type 0
IfFitting None = Unit {0}
IfFitting (Some recipe) = IsFitting recipe

fitting : (recipe : Recipe) (b : Bool) → fits recipe ≡ b → HasSeed recipe → IfFitting (then_some b recipe)
fitting recipe true e seed = record { fits = e; seed = seed }
fitting recipe false e seed = tt

abbrev IfLow : Option ℕ → Type 0
IfLow None = Unit {0}
IfLow (Some n) = n < 2 ^ 64

recipe_fits : (kind : Option Kind) (a b seed : Option ℕ) → IfLow seed → IfFitting (recipe_of kind a b seed)
recipe_fits None a b seed low = tt
recipe_fits (Some kind) None b seed low = tt
recipe_fits (Some kind) (Some a) None seed low = tt
recipe_fits (Some kind) (Some a) (Some b) None low = tt
recipe_fits (Some kind) (Some a) (Some b) (Some seed) low = fitting (record { kind = kind; a = a; b = b; seed = seed }) _ refl low

spelled_recipe_fits : (kind a b seed : List ℕ) → IfFitting (recipe_in kind a b seed)
spelled_recipe_fits kind a b seed =
    recipe_fits (named kinds kind) (number_in (2 ^ 32 - 1) a) (number_in (2 ^ 32 - 1) b) (number_in (2 ^ 64 - 1) seed) (seed_is_low (number_in (2 ^ 64 - 1) seed) (number_is_low (2 ^ 64 - 1) seed))
  where
    seed_is_low : (n : Option ℕ) → IfSome n (λ number. number ≤ 2 ^ 64 - 1) → IfLow n
    seed_is_low None low = tt
    seed_is_low (Some n) low = omega (arith, low)

made_gen : (recipe : Option Recipe) (made : Command) → IfFitting recipe → option_map (λ r. Gen r) recipe ≡ Some made → IsSpelledBy 5 made
made_gen None made fits e = cc
made_gen (Some recipe) made fits e = made_as 5 (Gen recipe) made e (record { places = tt; asks = record { recipe = fits; lanes = tt } })

gen_within : SpellsRightly gen_words
gen_within [] made e = cc
gen_within (a ∷ []) made e = cc
gen_within (a ∷ b ∷ []) made e = cc
gen_within (a ∷ b ∷ c ∷ []) made e = cc
gen_within (a ∷ b ∷ c ∷ d ∷ []) made e = made_gen (recipe_in a b c d) made (spelled_recipe_fits a b c d) e
gen_within (a ∷ b ∷ c ∷ d ∷ x ∷ rest) made e = cc

made_route : (n : ℕ) (engine : Option Engine) (made : Command) → 2 < n → IfSome engine HasLaneCount → option_map (λ x. Route 2 x) engine ≡ Some made → IsSpelledBy n made
made_route n None made low lanes e = cc
made_route n (Some engine) made low lanes e = made_as n (Route 2 engine) made e (record { places = (low, tt); asks = record { recipe = tt; lanes = lanes } })

route_within : SpellsRightly route_words
route_within [] made e = cc
route_within (a ∷ []) made e = cc
route_within (a ∷ b ∷ others) made e =
    let engine : Option Engine = option_and_then (engine_in a) (asked_behind others) in
    made_route (suc (length (a ∷ b ∷ others))) engine made (omega arith) (engine_after a (asked_behind others) (asked_behind_rightly others)) (made_when (is_file b) (option_map (λ x. Route 2 x) engine) made e)

made_demo : (recipe : Option Recipe) (engine : Option Engine) (made : Command) → IfFitting recipe → IfSome engine HasLaneCount → option_and_then (λ r. option_map (λ x. Demo r x) engine) recipe ≡ Some made → IsSpelledBy 7 made
made_demo None engine made fits lanes e = cc
made_demo (Some recipe) None made fits lanes e = cc
made_demo (Some recipe) (Some engine) made fits lanes e = made_as 7 (Demo recipe engine) made e (record { places = tt; asks = record { recipe = fits; lanes = lanes } })

demo_within : SpellsRightly demo_words
demo_within [] made e = cc
demo_within (a ∷ []) made e = cc
demo_within (a ∷ b ∷ []) made e = cc
demo_within (a ∷ b ∷ c ∷ []) made e = cc
demo_within (a ∷ b ∷ c ∷ d ∷ []) made e = cc
demo_within (a ∷ b ∷ c ∷ d ∷ x ∷ []) made e = cc
demo_within (a ∷ b ∷ c ∷ d ∷ x ∷ y ∷ []) made e = made_demo (recipe_in a b c d) (option_and_then (engine_in x) (asked_by y)) made (spelled_recipe_fits a b c d) (engine_after x (asked_by y) (asked_by_rightly y)) e
demo_within (a ∷ b ∷ c ∷ d ∷ x ∷ y ∷ z ∷ rest) made e = cc

transit_within : SpellsRightly transit_words
transit_within [] made e = cc
transit_within (a ∷ []) made e = cc
transit_within (a ∷ b ∷ []) made e = cc
transit_within (a ∷ b ∷ c ∷ []) made e =
    made_if 4 (are_three_files a b c) (Transit 1 2 3) made e (record { places = (omega arith, (omega arith, (omega arith, tt))); asks = record { recipe = tt; lanes = tt } })
transit_within (a ∷ b ∷ c ∷ d ∷ rest) made e = cc

made_spread : (files : Bool) (group : Option ℕ) (lid : Option Lid) (made : Command) →
    option_and_then (λ number. option_and_then (λ from. then_some files (Spread 1 2 number from)) lid) group ≡ Some made → IsSpelledBy 5 made
made_spread files None lid made e = cc
made_spread files (Some group) None made e = cc
made_spread files (Some group) (Some lid) made e =
    made_if 5 files (Spread 1 2 group lid) made e (record { places = (omega arith, (omega arith, tt)); asks = record { recipe = tt; lanes = tt } })

spread_within : SpellsRightly spread_words
spread_within [] made e = cc
spread_within (a ∷ []) made e = cc
spread_within (a ∷ b ∷ []) made e = cc
spread_within (a ∷ b ∷ c ∷ []) made e = cc
spread_within (a ∷ b ∷ c ∷ d ∷ []) made e = made_spread (is_file a && is_file b) (group_in c) (option_map lid_id (lid_in d)) made e
spread_within (a ∷ b ∷ c ∷ d ∷ x ∷ rest) made e = cc

made_sweep : (files : Bool) (what : Option Failing) (lanes : Option ℕ) (made : Command) → IfSome lanes IsLaneCount →
    option_and_then (λ one. option_and_then (λ n. then_some files (Sweep one 2 3 n)) lanes) what ≡ Some made → IsSpelledBy 6 made
made_sweep files None lanes made count e = cc
made_sweep files (Some what) None made count e = cc
made_sweep files (Some what) (Some lanes) made count e =
    made_if 6 files (Sweep what 2 3 lanes) made e (record { places = (omega arith, (omega arith, tt)); asks = record { recipe = tt; lanes = count } })

sweep_within : SpellsRightly sweep_words
sweep_within [] made e = cc
sweep_within (a ∷ []) made e = cc
sweep_within (a ∷ b ∷ []) made e = cc
sweep_within (a ∷ b ∷ c ∷ []) made e = cc
sweep_within (a ∷ b ∷ c ∷ d ∷ []) made e = cc
sweep_within (a ∷ b ∷ c ∷ d ∷ x ∷ []) made e = made_sweep (is_file b && is_file c) (named failings a) (flagged_lanes d x) made (flagged_in_range d x) e
sweep_within (a ∷ b ∷ c ∷ d ∷ x ∷ y ∷ rest) made e = cc

made_export : (files : Bool) (of_part : Option Part) (made : Command) → option_and_then (λ one. then_some files (Export one 2 3)) of_part ≡ Some made → IsSpelledBy 4 made
made_export files None made e = cc
made_export files (Some of_part) made e =
    made_if 4 files (Export of_part 2 3) made e (record { places = (omega arith, (omega arith, tt)); asks = record { recipe = tt; lanes = tt } })

export_within : SpellsRightly export_words
export_within [] made e = cc
export_within (a ∷ []) made e = cc
export_within (a ∷ b ∷ []) made e = cc
export_within (a ∷ b ∷ c ∷ []) made e = made_export (is_file b && is_file c) (named part_names a) made e
export_within (a ∷ b ∷ c ∷ d ∷ rest) made e = cc

-- ---- the table of the forms

abbrev AllRight : List (List ℕ × (List (List ℕ) → Option Command)) → Type 0
AllRight [] = Unit {0}
AllRight (row ∷ rows) = SpellsRightly row.1 × AllRight rows

abbrev form_of : Option (List ℕ × (List (List ℕ) → Option Command)) → List (List ℕ) → Option Command
form_of found others = option_and_then (λ form. form others) (option_map (λ row. row.1) found)

by_test : (b : Bool) (row : List ℕ × (List (List ℕ) → Option Command)) (behind : Option (List ℕ × (List (List ℕ) → Option Command))) (others : List (List ℕ)) (made : Command) →
    SpellsRightly row.1 → (form_of behind others ≡ Some made → IsSpelledBy (suc (length others)) made) →
    form_of (if b then Some row else behind) others ≡ Some made → IsSpelledBy (suc (length others)) made
by_test true row behind others made right rest e = right others made e
by_test false row behind others made right rest e = rest e

by_row : (rows : List (List ℕ × (List (List ℕ) → Option Command))) → AllRight rows → (word : List ℕ) (others : List (List ℕ)) (made : Command) →
    form_of (find (λ row. bytes_eq row.0 word) rows) others ≡ Some made → IsSpelledBy (suc (length others)) made
by_row [] all word others made e = cc
by_row (row ∷ rows) all word others made e = by_test (bytes_eq row.0 word) row _ others made all.0 (by_row rows all.1 word others made) e

both_places : AllBelow 3 (1 ∷ 2 ∷ [])
both_places = (omega arith, (omega arith, tt))

all_right : AllRight commands
all_right = (
  two_within (λ f p. Check f p) (record { places = both_places; asks = record { recipe = tt; lanes = tt } }),
  (
    route_within,
    (
      two_within (λ f p. Certify f p) (record { places = both_places; asks = record { recipe = tt; lanes = tt } }),
      (
        two_within (λ f p. Convert f p) (record { places = both_places; asks = record { recipe = tt; lanes = tt } }),
        (
          repair_within,
          (
            two_within (λ f x. Cut f x) (record { places = both_places; asks = record { recipe = tt; lanes = tt } }),
            (
              show_within,
              (
                two_within (λ f p. Load f p) (record { places = both_places; asks = record { recipe = tt; lanes = tt } }),
                (
                  gen_within,
                  (
                    demo_within,
                    (
                      transit_within,
                      (
                        two_within (λ f p. Drain f p) (record { places = both_places; asks = record { recipe = tt; lanes = tt } }),
                        (
                          two_within (λ f g. Mcast f g) (record { places = both_places; asks = record { recipe = tt; lanes = tt } }),
                          (spread_within, (sweep_within, (export_within, (two_within (λ f p. Replies f p) (record { places = both_places; asks = record { recipe = tt; lanes = tt } }), tt)))),
                        ),
                      ),
                    ),
                  ),
                ),
              ),
            ),
          ),
        ),
      ),
    ),
  ),
)

spelled_right : (words : List (List ℕ)) (made : Command) → command_of words ≡ Some made → IsSpelledBy (length words) made
spelled_right [] made e = cc
spelled_right (word ∷ others) made e = by_row commands all_right word others made e

pub can_be_done : (words : List (List ℕ)) (made : Command) → command_of words ≡ Some made → CanBeDone made
can_be_done words made e = (spelled_right words made e).asks

-- said of the words themselves
pub is_spelled : {Z : Type 0} (words : List (String Z)) (command made : Command) → command_of (texts words) ≡ Some command → command ≡ made → IsSpelledBy (length words) made
is_spelled {Z} words command made e is =
    let P : Command → Type 0 = λ c. IsSpelledBy (length (texts words)) c in
    let Q : ℕ → Type 0 = λ n. IsSpelledBy n made in
    let same : length (texts words) ≡ length words = simp length-map in
    subst Q same (subst P is (spelled_right (texts words) command e))
