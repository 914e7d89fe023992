use Rattle.fab_export.specs.Numberings.{least_of, IsNumberingOf}
use Rattle.fab_export.proofs.NumberedClasses.{AreNumbers}
use Rattle.fab_export.proofs.classes.Classes.new.Given as goal

abbrev pub invariant-loop-switch : goal.invariant-loop-switch
invariant-loop-switch l = record {
  numbering : IsNumberingOf l.reached.fabric l.reached.entries l.lanes l.switch l.numbering;
  numbers : AreNumbers l.reached.fabric l.reached.entries l.lanes (least_of l.numbering) l.numbers.items l.switch;
}
