use Rattle.fab_tests.proofs.depgraph.numbers_rise.Given as goal

abbrev pub ghosts-go_down : goal.ghosts-go_down
ghosts-go_down g a = record { name = a.blank.name; parts = a.blank.parts }
