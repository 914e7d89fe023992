use Rattle.std.proofs.Common.{◌≡◌, ◌<◌, ◌∙◌, ℕ, List, Some, length, sym, ap, subst, arith, map, Vec, Global}
use Rattle.std.specs.Prelude.{slice_get}
use Rattle.std.proofs.lemmas.List.{length-map}
use Rattle.fab_mcast.specs.GroupTrees.{Planted, entries_at}
use Rattle.fab_mcast.specs.Tables.{seen_planted}
use Rattle.fab_mcast.proofs.KeptTables.{entries_told, entry_told}
use Rattle.fab_mcast.proofs.group_tables.GroupTables.ports.Goals as goal

pub returns : goal.returns
returns c =
    let list = c.self.inside.list.items in
    let i : ℕ = c.args.index in
    let s : ℕ = c.args.s.0 in
    let kept = c.index.result.now in
    let view : map seen_planted list ≡ c.args.self.now = c.self.view_is in
    let low : i < length list = omega (arith, c.requires.index, length-map list seen_planted, ap (λ (tables : List Planted). length tables) view) in
    let entries : entries_at c.args.self.now i ≡ map (λ (ports : Vec ℕ Global). ports.items) kept.ports.items =
    ap (λ (tables : List Planted). entries_at tables i) (sym view) ∙ entries_told list i kept low c.index.ensures in
    let low_s : s < length kept.ports.items = omega (arith, c.requires.switch, ap (λ (es : List (List ℕ)). length es) entries, length-map kept.ports.items (λ (ports : Vec ℕ Global). ports.items)) in
    subst (λ tables. slice_get (entries_at tables i) s ≡ Some c.as_slice.result.now) view
    (entry_told list i s kept c.index-2.result.now low c.index.ensures low_s c.index-2.ensures ∙ ap (λ (ports : List ℕ). Some ports) (sym c.as_slice.ensures.value))
