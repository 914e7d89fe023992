use Rattle.std.proofs.Common.{◌≡◌, length}
use Rattle.fab_text.specs.Fields.{words_of, all_read}
use Rattle.fab_mcast.specs.GroupList.{lid_of}
use Rattle.fab_mcast.proofs.ReadingWords.{behind}
use Rattle.fab_mcast.proofs.group_list.lids_in.Given as goal

abbrev pub invariant-loop-word : goal.invariant-loop-word
invariant-loop-word l = behind l.lids.items (all_read lid_of (words_of l.rest)) ≡ all_read lid_of (words_of l.fn.words)

abbrev pub decreases-loop-word : goal.decreases-loop-word
decreases-loop-word l = length (words_of l.rest)
