use Rattle.fab_nue.proofs.nue_plan.nue.Given as goal

abbrev pub ghosts-nue_on : goal.ghosts-nue_on
ghosts-nue_on a = record { name = a.blank.name; parts = a.blank.parts }
