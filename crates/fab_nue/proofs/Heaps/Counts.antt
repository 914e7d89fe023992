-- How many choices stand in a heap.
use Rattle.std.proofs.Common.{◌≡◌, suc, ◌∷◌, length}
use Rattle.std.proofs.lemmas.List.Sorted.{length_permutation}
use Rattle.fab_nue.specs.declared.choices.Choice.{Choice}
use Rattle.fab_nue.specs.Choices.{Held, GainsChoice, LosesLeast}

pub one_more : (old new : Held) (choice : Choice) → GainsChoice old new choice → suc (length old.entries) ≡ length new.entries
one_more old new choice gains = length_permutation new.entries (choice ∷ old.entries) gains.entries

pub one_less : (old new : Held) (choice : Choice) → LosesLeast old new choice → suc (length new.entries) ≡ length old.entries
one_less old new choice loses = length_permutation old.entries (choice ∷ new.entries) loses.entries
