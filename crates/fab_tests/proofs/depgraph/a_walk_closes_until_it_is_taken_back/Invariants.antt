use Rattle.fab_tests.proofs.depgraph.a_walk_closes_until_it_is_taken_back.Given as goal

abbrev pub ghosts-go_round : goal.ghosts-go_round
ghosts-go_round g a = record { name = a.blank.name; parts = a.blank.parts }
