-- The grammar of the words:
--     check FABRIC PLAN
--     route minhop|dor|sssp FABRIC
--     route updn FABRIC, and then any number of --root GUID
--     route lash|dfsssp|nue FABRIC --lanes N
--     certify FABRIC PLAN
--     convert FABRIC PLAN
--     repair FABRIC PLAN FAILED --lanes N
--     cut FABRIC FAILED
--     show FABRIC PLAN SRC DST
--     load FABRIC PLAN
--     gen KIND A B SEED
--     demo KIND A B SEED ENGINE N
--     transit FABRIC OLD NEW
--     drain FABRIC PLAN
--     mcast FABRIC GROUPS
--     spread FABRIC GROUPS GROUP LID
--     sweep cables|switches FABRIC PLAN --lanes N
--     export tables|levels|config FABRIC PLAN
--     replies FABRIC PLAN
-- A file's word is not empty and does not begin with two dashes. A file is named by the place of its word. Numbers are
-- decimal, without leading zeros. A LID is a decimal number, or `0x` and 1 to 4 hexadecimal digits. A GUID is `0x` and 1 to 16
-- hexadecimal digits, a GROUP is `0x` and 4. N is a lane count, 1 to 15, and 0 in a demonstration of an engine that takes none.
use Rattle.std.specs.Prelude.{ℕ, ◌-◌, ◌^◌, Bool, false, ◌&&◌, not, List, [], ◌∷◌, length, map, Option, None, Some, option_map, option_and_then, find, nat_lt, ◌==◌, if◌then◌else◌, codes, String}
use Rattle.std.specs.Bool.{then_some}
use Rattle.std.specs.List.{starts_with}
use Rattle.std.specs.Option.{option_or}
use Rattle.std.specs.Str.{bytes_eq}
use Rattle.std.specs.String.{string_bytes}
use Rattle.fab_text.specs.Fields.{dec_up_to, hex}
use Rattle.fab_model.specs.Topology.{lid_id}
use Rattle.fab_report.specs.declared.recipe.Kind.{Kind}
use Rattle.fab_report.specs.declared.recipe.Kind.TheVariants as kind
use Rattle.fab_report.specs.declared.recipe.Recipe.{Recipe}
use Rattle.fab_report.specs.Recipes.{fits}
use Rattle.fab_export.specs.declared.part.Part.{Part}
use Rattle.fab_export.specs.declared.part.Part.TheVariants as part
use Rattle.fab_sweep.specs.declared.Failing.{Failing}
use Rattle.fab_sweep.specs.declared.Failing.TheVariants as failing
use Rattle.fab_top.specs.declared.command.Engine.{Engine}
use Rattle.fab_top.specs.declared.command.Engine.TheVariants as engine
use Rattle.fab_top.specs.declared.engine_words.Asked.{Asked}
use Rattle.fab_top.specs.declared.engine_words.Asked.TheVariants.{Nothing, Roots, Lanes}
use Rattle.fab_top.specs.declared.command.Command.{Command}
use Rattle.fab_top.specs.declared.command.Command.TheVariants as command

-- the bytes of each word
abbrev pub texts : {Z : Type 0} → List (String Z) → List (List ℕ)
texts words = map string_bytes words

abbrev pub is_file : List ℕ → Bool
is_file word = not (length word == 0) && not (starts_with (λ x y. x == y) word (codes "--"))

-- a decimal number of at most this value, without leading zeros
abbrev pub has_leading_zero : List ℕ → Bool
has_leading_zero word = nat_lt 1 (length word) && starts_with (λ x y. x == y) word (codes "0")

abbrev pub number_in : ℕ → List ℕ → Option ℕ
number_in greatest word = if has_leading_zero word then None else dec_up_to greatest word

-- a LID, which need not be in use
abbrev pub lid_in : List ℕ → Option ℕ
lid_in word = option_or (hex 4 word) (number_in 65535 word)

-- a group's number, which need not be in the list
abbrev pub group_in : List ℕ → Option ℕ
group_in word = if length word == 6 then hex 4 word else None

-- what a table has for a word
abbrev pub named : {A : Type 0} → List (List ℕ × A) → List ℕ → Option A
named table word = option_map (λ row. row.1) (find (λ row. bytes_eq row.0 word) table)

-- ---- engines, by name and by what they are asked for: nothing, roots, or so many lanes

abbrev pub bare : Engine → Asked → Option Engine
bare one Nothing = Some one
bare one (Roots guids) = None
bare one (Lanes count) = None

abbrev pub rooted : Asked → Option Engine
rooted Nothing = Some (engine.Updn [])
rooted (Roots guids) = Some (engine.Updn guids)
rooted (Lanes count) = None

-- the lane count that is asked for
abbrev pub lanes_asked : Asked → Option ℕ
lanes_asked Nothing = None
lanes_asked (Roots guids) = None
lanes_asked (Lanes count) = Some count

abbrev pub laned : (ℕ → Engine) → Asked → Option Engine
laned make asked = option_map make (lanes_asked asked)

abbrev pub engine_forms : List (List ℕ × (Asked → Option Engine))
engine_forms =
    (codes "minhop", bare engine.MinHop)
    ∷ (codes "dor", bare engine.Dor)
    ∷ (codes "sssp", bare engine.Sssp)
    ∷ (codes "updn", rooted)
    ∷ (codes "lash", laned engine.Lash)
    ∷ (codes "dfsssp", laned engine.Dfsssp)
    ∷ (codes "nue", laned engine.Nue)
    ∷ []

abbrev pub engine_in : List ℕ → Asked → Option Engine
engine_in name asked = option_and_then (λ form. form asked) (named engine_forms name)

-- a lane count, 1 to 15
abbrev pub if_not_0 : ℕ → Option ℕ
if_not_0 n = then_some (not (n == 0)) n

abbrev pub lanes_in : List ℕ → Option ℕ
lanes_in word = option_and_then if_not_0 (number_in 15 word)

-- behind its flag
abbrev pub flagged_lanes : List ℕ → List ℕ → Option ℕ
flagged_lanes flag count = if bytes_eq flag (codes "--lanes") then lanes_in count else None

-- any number of roots, each behind its flag
abbrev pub with_guid : Option ℕ → Option (List ℕ) → Option (List ℕ)
with_guid (Some guid) (Some others) = Some (guid ∷ others)
with_guid _ _ = None

abbrev pub roots_in : List (List ℕ) → Option (List ℕ)
roots_in [] = Some []
roots_in (flag ∷ []) = None
roots_in (flag ∷ guid ∷ others) = if bytes_eq flag (codes "--root") then with_guid (hex 16 guid) (roots_in others) else None

-- by the words behind a fabric
abbrev pub roots_asked : List (List ℕ) → Option Asked
roots_asked words = option_map Roots (roots_in words)

abbrev pub asked_behind : List (List ℕ) → Option Asked
asked_behind [] = Some Nothing
asked_behind (flag ∷ count ∷ []) = if bytes_eq flag (codes "--lanes") then option_map Lanes (lanes_in count) else roots_asked (flag ∷ count ∷ [])
asked_behind words = roots_asked words

-- by the last word of a demonstration
abbrev pub asked_by : List ℕ → Option Asked
asked_by count = if bytes_eq count (codes "0") then Some Nothing else option_map Lanes (lanes_in count)

-- ---- recipes

abbrev pub kinds : List (List ℕ × Kind)
kinds = (codes "ring", kind.Ring) ∷ (codes "torus", kind.Torus) ∷ (codes "tree", kind.Tree) ∷ (codes "random", kind.Random) ∷ []

abbrev pub if_fits : Recipe → Option Recipe
if_fits recipe = then_some (fits recipe) recipe

abbrev pub recipe_of : Option Kind → Option ℕ → Option ℕ → Option ℕ → Option Recipe
recipe_of (Some of_kind) (Some a) (Some b) (Some seed) = if_fits (record { kind = of_kind; a = a; b = b; seed = seed })
recipe_of _ _ _ _ = None

abbrev pub recipe_in : List ℕ → List ℕ → List ℕ → List ℕ → Option Recipe
recipe_in word a b seed = recipe_of (named kinds word) (number_in (2 ^ 32 - 1) a) (number_in (2 ^ 32 - 1) b) (number_in (2 ^ 64 - 1) seed)

-- ---- commands, by the words behind the first

abbrev pub are_two_files : List (List ℕ) → Bool
are_two_files (first ∷ second ∷ []) = is_file first && is_file second
are_two_files _ = false

abbrev pub two_files : (ℕ → ℕ → Command) → List (List ℕ) → Option Command
two_files make words = then_some (are_two_files words) (make 1 2)

abbrev pub are_three_files : List ℕ → List ℕ → List ℕ → Bool
are_three_files first second third = is_file first && is_file second && is_file third

abbrev pub repair_words : List (List ℕ) → Option Command
repair_words (fabric ∷ plan ∷ failed ∷ flag ∷ count ∷ []) =
    option_and_then (λ lanes. then_some (are_three_files fabric plan failed) (command.Repair 1 2 3 lanes)) (flagged_lanes flag count)
repair_words _ = None

abbrev pub show_from_to : Option ℕ → Option ℕ → Option Command
show_from_to (Some from) (Some to) = Some (command.Show 1 2 (lid_id from) (lid_id to))
show_from_to _ _ = None

abbrev pub show_words : List (List ℕ) → Option Command
show_words (fabric ∷ plan ∷ from ∷ to ∷ []) = if is_file fabric && is_file plan then show_from_to (lid_in from) (lid_in to) else None
show_words _ = None

abbrev pub gen_words : List (List ℕ) → Option Command
gen_words (word ∷ a ∷ b ∷ seed ∷ []) = option_map command.Gen (recipe_in word a b seed)
gen_words _ = None

abbrev pub route_words : List (List ℕ) → Option Command
route_words (name ∷ fabric ∷ others) = if is_file fabric then option_map (command.Route 2) (option_and_then (engine_in name) (asked_behind others)) else None
route_words _ = None

abbrev pub demo_words : List (List ℕ) → Option Command
demo_words (word ∷ a ∷ b ∷ seed ∷ name ∷ count ∷ []) =
    option_and_then (λ recipe. option_map (command.Demo recipe) (option_and_then (engine_in name) (asked_by count))) (recipe_in word a b seed)
demo_words _ = None

abbrev pub transit_words : List (List ℕ) → Option Command
transit_words (fabric ∷ old ∷ new ∷ []) = then_some (are_three_files fabric old new) (command.Transit 1 2 3)
transit_words _ = None

abbrev pub spread_words : List (List ℕ) → Option Command
spread_words (fabric ∷ groups ∷ group ∷ from ∷ []) =
    option_and_then (λ number. option_and_then (λ lid. then_some (is_file fabric && is_file groups) (command.Spread 1 2 number lid)) (option_map lid_id (lid_in from))) (group_in group)
spread_words _ = None

abbrev pub failings : List (List ℕ × Failing)
failings = (codes "cables", failing.Cables) ∷ (codes "switches", failing.Switches) ∷ []

abbrev pub sweep_words : List (List ℕ) → Option Command
sweep_words (word ∷ fabric ∷ plan ∷ flag ∷ count ∷ []) =
    option_and_then (λ what. option_and_then (λ lanes. then_some (is_file fabric && is_file plan) (command.Sweep what 2 3 lanes)) (flagged_lanes flag count)) (named failings word)
sweep_words _ = None

abbrev pub part_names : List (List ℕ × Part)
part_names = (codes "tables", part.Tables) ∷ (codes "levels", part.Levels) ∷ (codes "config", part.Config) ∷ []

abbrev pub export_words : List (List ℕ) → Option Command
export_words (name ∷ fabric ∷ plan ∷ []) = option_and_then (λ of_part. then_some (is_file fabric && is_file plan) (command.Export of_part 2 3)) (named part_names name)
export_words _ = None

abbrev pub commands : List (List ℕ × (List (List ℕ) → Option Command))
commands =
    (codes "check", two_files command.Check)
    ∷ (codes "route", route_words)
    ∷ (codes "certify", two_files command.Certify)
    ∷ (codes "convert", two_files command.Convert)
    ∷ (codes "repair", repair_words)
    ∷ (codes "cut", two_files command.Cut)
    ∷ (codes "show", show_words)
    ∷ (codes "load", two_files command.Load)
    ∷ (codes "gen", gen_words)
    ∷ (codes "demo", demo_words)
    ∷ (codes "transit", transit_words)
    ∷ (codes "drain", two_files command.Drain)
    ∷ (codes "mcast", two_files command.Mcast)
    ∷ (codes "spread", spread_words)
    ∷ (codes "sweep", sweep_words)
    ∷ (codes "export", export_words)
    ∷ (codes "replies", two_files command.Replies)
    ∷ []

-- the command that the words spell, if they are in the grammar
abbrev pub command_of : List (List ℕ) → Option Command
command_of [] = None
command_of (word ∷ others) = option_and_then (λ form. form others) (named commands word)
