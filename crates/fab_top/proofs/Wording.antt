-- Words that no command has.
use Rattle.std.proofs.Common.{◌≡◌, ℕ, ◌<◌, ◌&&◌, Bool, true, false, List, [], ◌∷◌, length, Option, None, Some, String, refl, subst, sym, ◌∙◌, ap, arith, codes, slice_index_or}
use Rattle.std.specs.Prelude.{option_map, option_and_then, find, if◌then◌else◌}
use Rattle.std.specs.Str.{bytes_eq}
use Rattle.std.specs.String.{string_bytes}
use Rattle.std.proofs.lemmas.Slice.Eq.{bytes_eq-Decides}
use Rattle.std.specs.Bool.{Decides}
use Rattle.fab_model.specs.declared.rows.Lid.{Lid}
use Rattle.fab_model.specs.Topology.{lid_id}
use Rattle.fab_top.specs.declared.command.Command.{Command}
use Rattle.fab_top.specs.declared.command.Command.TheVariants.{Show}
use Rattle.fab_top.specs.Words.{texts, is_file, lid_in, named, kinds, repair_words, transit_words, show_from_to, show_words, gen_words, route_words, demo_words, spread_words, failings, sweep_words, part_names, export_words, command_of, commands}

-- a word that a table does not begin with is looked for behind
other_word : (b : Bool) (xs ys : List ℕ) → Decides b (xs ≡ ys) → (ys ≡ xs → ⊥) → b ≡ false
other_word true xs ys decides other = absurd (other (sym (decides.0 refl)))
other_word false xs ys decides other = refl

past_word : {A : Type 0} (row : List ℕ × A) (table : List (List ℕ × A)) (word : List ℕ) → (word ≡ row.0 → ⊥) → named (row ∷ table) word ≡ named table word
past_word {A} row table word other =
    let is : bytes_eq row.0 word ≡ false = other_word _ row.0 word (bytes_eq-Decides row.0 word) other in
    let P : Bool → Type 0 = λ b. option_map (λ (r : List ℕ × A). r.1) (if b then Some row else find (λ r. bytes_eq r.0 word) table) ≡ named table word in
    subst P (sym is) refl

-- the word is none of a table's
abbrev pub IsNoneOf : {A : Type 0} → List (List ℕ × A) → List ℕ → Type 0
IsNoneOf [] word = Unit {0}
IsNoneOf (row ∷ table) word = (word ≡ row.0 → ⊥) × IsNoneOf table word

not_named : {A : Type 0} (table : List (List ℕ × A)) (word : List ℕ) → IsNoneOf table word → named table word ≡ None
not_named [] word others = refl
not_named (row ∷ table) word others = past_word row table word others.0 ∙ not_named table word others.1

pub no_such_kind : (word : List ℕ) → (word ≡ codes "ring" → ⊥) → (word ≡ codes "torus" → ⊥) → (word ≡ codes "tree" → ⊥) → (word ≡ codes "random" → ⊥) → None ≡ named kinds word
no_such_kind word ring torus tree random = sym (not_named kinds word (ring, (torus, (tree, (random, tt)))))

pub no_such_failing : (word : List ℕ) → (word ≡ codes "cables" → ⊥) → (word ≡ codes "switches" → ⊥) → None ≡ named failings word
no_such_failing word cables switches = sym (not_named failings word (cables, (switches, tt)))

pub no_such_part : (word : List ℕ) → (word ≡ codes "tables" → ⊥) → (word ≡ codes "levels" → ⊥) → (word ≡ codes "config" → ⊥) → None ≡ named part_names word
no_such_part word tables levels config = sym (not_named part_names word (tables, (levels, (config, tt))))

pub no_route : {Z : Type 0} (others : List (String Z)) → length others < 2 → None ≡ route_words (texts others)
no_route [] short = refl
no_route (a ∷ []) short = refl
no_route (a ∷ b ∷ rest) short = absurd (omega (arith, short))

pub no_demo : {Z : Type 0} (others : List (String Z)) → (length others ≡ 6 → ⊥) → None ≡ demo_words (texts others)
no_demo [] other = refl
no_demo (a ∷ []) other = refl
no_demo (a ∷ b ∷ []) other = refl
no_demo (a ∷ b ∷ c ∷ []) other = refl
no_demo (a ∷ b ∷ c ∷ d ∷ []) other = refl
no_demo (a ∷ b ∷ c ∷ d ∷ x ∷ []) other = refl
no_demo (a ∷ b ∷ c ∷ d ∷ x ∷ y ∷ []) other = absurd (other (omega arith))
no_demo (a ∷ b ∷ c ∷ d ∷ x ∷ y ∷ z ∷ rest) other = refl

pub no_recipe : {Z : Type 0} (others : List (String Z)) → (length others ≡ 4 → ⊥) → None ≡ gen_words (texts others)
no_recipe [] other = refl
no_recipe (a ∷ []) other = refl
no_recipe (a ∷ b ∷ []) other = refl
no_recipe (a ∷ b ∷ c ∷ []) other = refl
no_recipe (a ∷ b ∷ c ∷ d ∷ []) other = absurd (other (omega arith))
no_recipe (a ∷ b ∷ c ∷ d ∷ x ∷ rest) other = refl

pub no_repair : {Z : Type 0} (others : List (String Z)) → (length others ≡ 5 → ⊥) → None ≡ repair_words (texts others)
no_repair [] other = refl
no_repair (a ∷ []) other = refl
no_repair (a ∷ b ∷ []) other = refl
no_repair (a ∷ b ∷ c ∷ []) other = refl
no_repair (a ∷ b ∷ c ∷ d ∷ []) other = refl
no_repair (a ∷ b ∷ c ∷ d ∷ x ∷ []) other = absurd (other (omega arith))
no_repair (a ∷ b ∷ c ∷ d ∷ x ∷ y ∷ rest) other = refl

pub no_transit : {Z : Type 0} (others : List (String Z)) → (length others ≡ 3 → ⊥) → None ≡ transit_words (texts others)
no_transit [] other = refl
no_transit (a ∷ []) other = refl
no_transit (a ∷ b ∷ []) other = refl
no_transit (a ∷ b ∷ c ∷ []) other = absurd (other (omega arith))
no_transit (a ∷ b ∷ c ∷ d ∷ rest) other = refl

pub no_spread : {Z : Type 0} (others : List (String Z)) → (length others ≡ 4 → ⊥) → None ≡ spread_words (texts others)
no_spread [] other = refl
no_spread (a ∷ []) other = refl
no_spread (a ∷ b ∷ []) other = refl
no_spread (a ∷ b ∷ c ∷ []) other = refl
no_spread (a ∷ b ∷ c ∷ d ∷ []) other = absurd (other (omega arith))
no_spread (a ∷ b ∷ c ∷ d ∷ x ∷ rest) other = refl

pub no_sweep : {Z : Type 0} (others : List (String Z)) → (length others ≡ 5 → ⊥) → None ≡ sweep_words (texts others)
no_sweep [] other = refl
no_sweep (a ∷ []) other = refl
no_sweep (a ∷ b ∷ []) other = refl
no_sweep (a ∷ b ∷ c ∷ []) other = refl
no_sweep (a ∷ b ∷ c ∷ d ∷ []) other = refl
no_sweep (a ∷ b ∷ c ∷ d ∷ x ∷ []) other = absurd (other (omega arith))
no_sweep (a ∷ b ∷ c ∷ d ∷ x ∷ y ∷ rest) other = refl

pub no_export : {Z : Type 0} (others : List (String Z)) → (length others ≡ 3 → ⊥) → None ≡ export_words (texts others)
no_export [] other = refl
no_export (a ∷ []) other = refl
no_export (a ∷ b ∷ []) other = refl
no_export (a ∷ b ∷ c ∷ []) other = absurd (other (omega arith))
no_export (a ∷ b ∷ c ∷ d ∷ rest) other = refl

pub show_to_missing : (from to : Option ℕ) → None ≡ option_map lid_id to → None ≡ show_from_to from to
show_to_missing (Some from) (Some to) e = cc
show_to_missing (Some from) None e = refl
show_to_missing None to e = refl

pub show_both : (from to : Option ℕ) (a b : Lid) → Some a ≡ option_map lid_id from → Some b ≡ option_map lid_id to → Some (Show 1 2 a b) ≡ show_from_to from to
show_both (Some from) (Some to) a b first second = let one : a ≡ lid_id from = cc in let two : b ≡ lid_id to = cc in ap (λ (x : Lid). Some (Show 1 2 x b)) one ∙ ap (λ (x : Lid). Some (Show 1 2 (lid_id from) x)) two
show_both (Some from) None a b first second = cc
show_both None to a b first second = cc

pub no_show : {Z : Type 0} (others : List (String Z)) → (length others ≡ 4 → ⊥) → None ≡ show_words (texts others)
no_show [] other = refl
no_show (a ∷ []) other = refl
no_show (a ∷ b ∷ []) other = refl
no_show (a ∷ b ∷ c ∷ []) other = refl
no_show (a ∷ b ∷ c ∷ d ∷ []) other = absurd (other (omega arith))
no_show (a ∷ b ∷ c ∷ d ∷ x ∷ rest) other = refl

no_files : (first second : Bool) (asked : Option Command) → second ≡ false → (if first && second then asked else None) ≡ None
no_files true second asked e = ap (λ test. if test then asked else None) e
no_files false second asked e = refl

-- the first word, or the second, names no file
pub no_show_fabric : {Z : Type 0} (others : List (String Z)) → length others ≡ 4 → (item : String Z) → item ≡ slice_index_or others 0 item → (text : List ℕ) → text ≡ string_bytes item → is_file text ≡ false → None ≡ show_words (texts others)
no_show_fabric [] four item at text is other = absurd (omega (arith, four))
no_show_fabric (a ∷ []) four item at text is other = absurd (omega (arith, four))
no_show_fabric (a ∷ b ∷ []) four item at text is other = absurd (omega (arith, four))
no_show_fabric (a ∷ b ∷ c ∷ []) four item at text is other = absurd (omega (arith, four))
no_show_fabric (a ∷ b ∷ c ∷ d ∷ x ∷ rest) four item at text is other = absurd (omega (arith, four))
no_show_fabric (a ∷ b ∷ c ∷ d ∷ []) four item at text is other =
    sym (ap (λ test. if test && is_file (string_bytes b) then show_from_to (lid_in (string_bytes c)) (lid_in (string_bytes d)) else None)
    (ap (λ (w : List ℕ). is_file w) (sym (is ∙ ap string_bytes at)) ∙ other))

pub no_show_plan : {Z : Type 0} (others : List (String Z)) → length others ≡ 4 → (item : String Z) → item ≡ slice_index_or others 1 item → (text : List ℕ) → text ≡ string_bytes item → is_file text ≡ false → None ≡ show_words (texts others)
no_show_plan [] four item at text is other = absurd (omega (arith, four))
no_show_plan (a ∷ []) four item at text is other = absurd (omega (arith, four))
no_show_plan (a ∷ b ∷ []) four item at text is other = absurd (omega (arith, four))
no_show_plan (a ∷ b ∷ c ∷ []) four item at text is other = absurd (omega (arith, four))
no_show_plan (a ∷ b ∷ c ∷ d ∷ x ∷ rest) four item at text is other = absurd (omega (arith, four))
no_show_plan (a ∷ b ∷ c ∷ d ∷ []) four item at text is other =
    sym (no_files (is_file (string_bytes a)) (is_file (string_bytes b)) (show_from_to (lid_in (string_bytes c)) (lid_in (string_bytes d))) (ap (λ (w : List ℕ). is_file w) (sym (is ∙ ap string_bytes at)) ∙ other))

pub no_such_command : {Z : Type 0} (words : List (String Z)) (name : String Z) → 0 < length words → name ≡ slice_index_or words 0 name → IsNoneOf commands (string_bytes name) → None ≡ command_of (texts words)
no_such_command [] name some is others = absurd (omega (arith, some))
no_such_command {Z} (word ∷ behind) name some is others =
    let P : String Z → Type 0 = λ w. None ≡ command_of (texts (w ∷ behind)) in
    subst P is (sym (ap (λ (o : Option (List (List ℕ) → Option Command)). option_and_then (λ form. form (texts behind)) o) (not_named commands (string_bytes name) others)))
