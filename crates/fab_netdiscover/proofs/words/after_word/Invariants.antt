use Rattle.std.proofs.Common.{◌≡◌, length}
use Rattle.fab_text.specs.Fields.{words_of}
use Rattle.fab_netdiscover.specs.Fronts.{words_after}
use Rattle.fab_netdiscover.proofs.words.after_word.Given as goal

abbrev pub invariant-loop-found : goal.invariant-loop-found
invariant-loop-found l = words_after l.key (words_of l.rest) ≡ words_after l.key (words_of l.fn.bytes)

abbrev pub decreases-loop-found : goal.decreases-loop-found
decreases-loop-found l = length l.rest
