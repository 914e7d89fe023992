use Rattle.fab_tests.proofs.depgraph.random_calls.random_calls_answer_as_a_list_does.Given as goal

abbrev pub ghosts-call_at_random : goal.ghosts-call_at_random
ghosts-call_at_random g a = record { name = a.blank.name; parts = a.blank.parts }
