use Rattle.std.proofs.Common.{◌≡◌, ◌∙◌, rules, List, [], ◌∷◌, length, map, replicate, refl, ap, None, Option}
use Rattle.fab_drain.specs.Loads.{Loaded}
use Rattle.fab_drain.proofs.state.State.clear.Goals as goal

all_none : (cells : List (Option Loaded)) → replicate {A = Option Loaded} (length cells) None ≡ map {B = Option Loaded} (λ (cell : Option Loaded). None) cells
all_none [] = refl
all_none (x ∷ xs) = ap (λ ys. None ∷ ys) (all_none xs)

pub returns : goal.returns
returns c =
    let cells : c.fill.new.self.items ≡ replicate {A = Option Loaded} (length c.self.inside.cells.items) None = search rules in
    rw (← c.self.view_is) (ap (λ items. record { count = c.self.inside.lanes; cells = items }) (cells ∙ all_none c.self.inside.cells.items))
