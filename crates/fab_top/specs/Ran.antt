-- What a run answers, and what it leaves outside:
--     0 done    1 no    2 unknown words    3 what was given isn't in order
--     4 a file can't be read    5 an output can't be written    6 out of memory
use Rattle.std.specs.Prelude.{◌≡◌, ℕ, ◌<◌, ◌≤◌, ◌⊎◌, List, [], ◌∷◌, Option, None, Contains}
use Rattle.std.specs.Option.{option_map_or}
use Rattle.fab_io.specs.Faults.{Rose}
use Rattle.fab_top.specs.declared.command.Command.{Command}
use Rattle.fab_top.specs.declared.command.Command.TheVariants.{Check, Route, Certify, Convert, Repair, Cut, Show, Load, Gen, Demo, Transit, Drain, Mcast, Spread, Sweep, Export, Replies}
use Rattle.fab_top.specs.Words.{command_of}
use Rattle.fab_top.specs.Answer.{Answer, unread}
use Rattle.fab_top.specs.Seen.{seen, seen_failing, word_at}
use Rattle.fab_top.specs.Answers.{IsAnswer}
use Rattle.fab_top.specs.Outputs.{Output, NothingPut, WholePut, PrefixPut, IsInOrder, HasFailed, HasMoreFaults}
use Rattle.fab_top.specs.Headline.{KeepsHeadline}

-- the shelf by name, and the two outputs
pub record Outside : Type 0 where
  pub told : List ℕ → Option (List ℕ)
  pub faults_before : List ℕ → ℕ
  pub faults_now : List ℕ → ℕ
  pub out : Output
  pub err : Output

-- ---- files

-- the places of the words that name files, in their order
abbrev pub files_of : Command → List ℕ
files_of (Check fabric plan) = fabric ∷ plan ∷ []
files_of (Route fabric engine) = fabric ∷ []
files_of (Certify fabric plan) = fabric ∷ plan ∷ []
files_of (Convert fabric plan) = fabric ∷ plan ∷ []
files_of (Repair fabric plan failed lanes) = fabric ∷ plan ∷ failed ∷ []
files_of (Cut fabric failed) = fabric ∷ failed ∷ []
files_of (Show fabric plan from to) = fabric ∷ plan ∷ []
files_of (Load fabric plan) = fabric ∷ plan ∷ []
files_of (Gen recipe) = []
files_of (Demo recipe engine) = []
files_of (Transit fabric old new) = fabric ∷ old ∷ new ∷ []
files_of (Drain fabric plan) = fabric ∷ plan ∷ []
files_of (Mcast fabric groups) = fabric ∷ groups ∷ []
files_of (Spread fabric groups group from) = fabric ∷ groups ∷ []
files_of (Sweep what fabric plan lanes) = fabric ∷ plan ∷ []
files_of (Export of_part fabric plan) = fabric ∷ plan ∷ []
files_of (Replies fabric plan) = fabric ∷ plan ∷ []

abbrev pub files_named : List (List ℕ) → List ℕ
files_named words = option_map_or files_of (command_of words) []

-- the count of a named file is greater at the end than at the start
abbrev pub FileHasMoreFaults : List (List ℕ) → Outside → Type 0
FileHasMoreFaults words o =
    (place : ℕ) × Contains (files_named words) place × (o.faults_before (word_at words place) < o.faults_now (word_at words place))

-- ---- by status

-- 0 to 3: the outputs have the texts of the answer, and it keeps what the program promises
pub record IsAnswered (words : List (List ℕ)) (o : Outside) (status : ℕ) : Type 0 where
  pub answer : Answer
  pub is : IsAnswer (seen o.told words) answer
  pub headline : KeepsHeadline (seen o.told words) answer
  pub status_is : answer.status ≡ status
  pub out : WholePut answer.out o.out
  pub err : WholePut answer.err o.err

-- 4: the shelf failed at a file of the words, to which all that was told before it leads; nothing was put but its line
pub record IsUnread (words : List (List ℕ)) (o : Outside) : Type 0 where
  pub place : ℕ
  pub named : Contains (files_named words) place
  pub failed : Rose (o.faults_before (word_at words place)) (o.faults_now (word_at words place))
  pub answer : IsAnswer (seen_failing o.told words place) (unread (word_at words place))
  pub out : NothingPut o.out
  pub err : PrefixPut (unread (word_at words place)).err o.err
  pub whole : WholePut (unread (word_at words place)).err o.err ⊎ HasFailed o.err

-- 5: an output failed, and both have a prefix of the answer's texts, the error output only behind the whole text of the output
pub record IsUnwritten (words : List (List ℕ)) (o : Outside) : Type 0 where
  pub failed : HasFailed o.out ⊎ HasFailed o.err
  pub answer : Answer
  pub is : IsAnswer (seen o.told words) answer
  pub out : PrefixPut answer.out o.out
  pub err : PrefixPut answer.err o.err
  pub whole : WholePut answer.out o.out ⊎ HasFailed o.out
  pub after_out : HasMoreFaults o.out → NothingPut o.err
  pub in_order : IsInOrder answer.out o.out o.err

-- 6: nothing was put, or prefixes of the answer's texts in the same order, and then no file failed
pub record IsCutShort (words : List (List ℕ)) (o : Outside) : Type 0 where
  pub answer : Answer
  pub is : IsAnswer (seen o.told words) answer
  pub out : PrefixPut answer.out o.out
  pub err : PrefixPut answer.err o.err
  pub in_order : IsInOrder answer.out o.out o.err
  pub no_file_failed : ¬ FileHasMoreFaults words o

abbrev pub IsOutOfMemory : List (List ℕ) → Outside → Type 0
IsOutOfMemory words o = (NothingPut o.out × NothingPut o.err) ⊎ IsCutShort words o

pub record Ran (words : List (List ℕ)) (o : Outside) (status : ℕ) : Type 0 where
  pub within : status ≤ 6
  pub answered : status ≤ 3 → IsAnswered words o status
  pub unread : status ≡ 4 → IsUnread words o
  pub unwritten : status ≡ 5 → IsUnwritten words o
  pub out_of_memory : status ≡ 6 → IsOutOfMemory words o
  -- unknown words have their status whatever the files tell, and no other words have it
  pub unknown : status ≡ 2 → command_of words ≡ None
  -- no fault of the outside is passed over
  pub file_faults : FileHasMoreFaults words o → (status ≡ 4) ⊎ (status ≡ 6)
  pub output_faults : HasMoreFaults o.out ⊎ HasMoreFaults o.err → (status ≡ 4) ⊎ (status ≡ 5) ⊎ (status ≡ 6)
