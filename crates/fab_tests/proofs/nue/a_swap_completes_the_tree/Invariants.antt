use Rattle.fab_tests.proofs.nue.a_swap_completes_the_tree.Given as goal

abbrev pub ghosts-search_first : goal.ghosts-search_first
ghosts-search_first g a = record { name = a.blank.name; parts = a.blank.parts }
