use Rattle.fab_lash.proofs.layered_plan.lash.Given as goal

abbrev pub ghosts-lash_on : goal.ghosts-lash_on
ghosts-lash_on a = record { name = a.blank.name; parts = a.blank.parts }
