use Rattle.std.proofs.Common.{◌≡◌, ◌-◌, ◌<◌, ℕ, map, List, length, take, get_or, Option, Some, None, string_bytes, refl, sym, ap, ◌∙◌, arith, cond, true, false, Bool}
use Rattle.std.specs.Option.{option_or}
use Rattle.std.specs.Str.{bytes_eq}
use Rattle.std.proofs.lemmas.Grind.{common_steps}
use Rattle.fab_io.specs.declared.memory_shelf.Entry.{Entry}
use Rattle.fab_io.specs.MemoryShelf.{content_in}
use Rattle.fab_io.proofs.Newest.{picks_from_end}
use Rattle.fab_io.proofs.memory_shelf.newest.Goals as goal

abbrev newest_in : List Entry → List ℕ → Option (List ℕ)
newest_in xs name = content_in (map (λ (entry : Entry). record { name = string_bytes entry.name; content = entry.content.items }) xs) name

-- by the test of the newest
from_end : (test : Bool) (xs : List Entry) (name : List ℕ) (last : Entry) → 0 < length xs → last ≡ get_or xs (length xs - 1) last → bytes_eq (string_bytes last.name) name ≡ test
    → newest_in xs name ≡ option_or (cond test (Some last.content.items) None) (newest_in (take (length xs - 1) xs) name)
from_end test xs name last some is e =
    picks_from_end (λ (entry : Entry). cond (bytes_eq (string_bytes entry.name) name) (Some entry.content.items) None) (λ (ys : List Entry). newest_in ys name) (record { none = refl; more = λ x newer. refl }) xs last some
    ∙ ap (λ (entry : Entry). option_or (cond (bytes_eq (string_bytes entry.name) name) (Some entry.content.items) None) (newest_in (take (length xs - 1) xs) name)) (sym is)
    ∙ ap (λ (v : Bool). option_or (cond v (Some last.content.items) None) (newest_in (take (length xs - 1) xs) name)) e

pub returns-then-eq : goal.returns-then-eq
returns-then-eq c =
    let xs : List Entry = c.loop-older.older.now in
    let hit : bytes_eq (string_bytes c.entry-item.result.name) c.args.name.now ≡ true = cc in
    ap (λ (bytes : List ℕ). Some bytes) c.deref.ensures.value ∙ sym (from_end true xs c.args.name.now c.entry-item.result c.in-len1-up.len_at_least c.entry-item.is hit) ∙ c.loop-older.invariant.told

pub loop-older-preserved : goal.loop-older-preserved
loop-older-preserved c =
    let xs : List Entry = c.loop-older.older.now in
    let miss : bytes_eq (string_bytes c.entry-item.result.name) c.args.name.now ≡ false = cc in
    record {
      told = sym (from_end false xs c.args.name.now c.entry-item.result c.in-len1-up.len_at_least c.entry-item.is miss) ∙ c.loop-older.invariant.told;
      within = grind (arith, common_steps);
    }
