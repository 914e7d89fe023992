use Rattle.fab_tests.proofs.nue.an_impasse_leaves_what_is_in_use.Given as goal

abbrev pub ghosts-search_first : goal.ghosts-search_first
ghosts-search_first g a = record { name = a.blank.name; parts = a.blank.parts }
