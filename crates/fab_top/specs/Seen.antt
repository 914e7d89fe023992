-- The words, and what is seen of the files that they name.
use Rattle.std.specs.Prelude.{◌≡◌, ℕ, List, [], Option, None, Some, Result, Ok, Err, slice_get, unwrap_or, ◌==◌, if◌then◌else◌}
use Rattle.fab_model.specs.declared.rows.Cable.{Cable}
use Rattle.fab_model.specs.Topology.{Topology}
use Rattle.fab_tables.specs.declared.plan.Plan.{Plan}
use Rattle.fab_mcast.specs.GroupList.{Group}
use Rattle.fab_top.specs.Answer.{Answer, refused, unread}
use Rattle.fab_top.specs.Files.{fabric_in, plan_in, failed_in, groups_in, without_failed}

-- the content of a file: told, not told, or one that can't be read
pub data Content : Type 0 where
  Holds : (bytes : List ℕ) → Content
  Untold : Content
  Fails : Content

-- the words, and by the place of its word the content of each file
pub record Seen : Type 0 where
  pub words : List (List ℕ)
  pub content : ℕ → Content

abbrev pub word_at : List (List ℕ) → ℕ → List ℕ
word_at words place = unwrap_or (slice_get words place) []

abbrev pub content_told : Option (List ℕ) → Content
content_told None = Content.Untold
content_told (Some bytes) = Content.Holds bytes

-- with the contents that a shelf tells
abbrev pub seen : (List ℕ → Option (List ℕ)) → List (List ℕ) → Seen
seen told words = record { words = words; content = λ place. content_told (told (word_at words place)) }

-- the same, but that the file of this place can't be read
abbrev pub seen_failing : (List ℕ → Option (List ℕ)) → List (List ℕ) → ℕ → Seen
seen_failing told words failing =
    record { words = words; content = λ place. if place == failing then Content.Fails else content_told (told (word_at words place)) }

-- the answer is a refusal with this text, or that of the rest
abbrev pub After : {X : Type 0} → Result X (List ℕ) → (X → Answer → Type 0) → Answer → Type 0
After (Ok x) rest answer = rest x answer
After (Err reason) rest answer = answer ≡ refused reason

-- The answer after a file is read. Where its content isn't told, nothing is said of the answer.
abbrev pub AfterFile : {X : Type 0} → List ℕ → Content → (List ℕ → List ℕ → Result X (List ℕ)) → (X → Answer → Type 0) → Answer → Type 0
AfterFile name (Content.Holds bytes) read rest answer = After (read name bytes) rest answer
AfterFile name Content.Untold read rest answer = Unit {0}
AfterFile name Content.Fails read rest answer = answer ≡ unread name

abbrev pub WithFabric : Seen → ℕ → (Topology → Answer → Type 0) → Answer → Type 0
WithFabric w place rest answer = AfterFile (word_at w.words place) (w.content place) fabric_in rest answer

abbrev pub WithPlan : Seen → Topology → ℕ → (Plan → Answer → Type 0) → Answer → Type 0
WithPlan w t place rest answer = AfterFile (word_at w.words place) (w.content place) (plan_in t) rest answer

-- after a fabric and a plan of it are read
abbrev pub WithBoth : Seen → ℕ → ℕ → (Topology → Plan → Answer → Type 0) → Answer → Type 0
WithBoth w fabric plan rest answer = WithFabric w fabric (λ t. WithPlan w t plan (rest t)) answer

-- after a list of failed cables is read
abbrev pub WithFailed : Seen → ℕ → (List Cable → Answer → Type 0) → Answer → Type 0
WithFailed w place rest answer = AfterFile (word_at w.words place) (w.content place) failed_in rest answer

-- after it is read, and its cables are all in the fabric: with the fabric without them
abbrev pub WithoutFailed : Seen → Topology → ℕ → (Topology → Answer → Type 0) → Answer → Type 0
WithoutFailed w t failed rest answer = WithFailed w failed (λ cables. After (without_failed (word_at w.words failed) t cables) rest) answer

-- after a list of groups of a fabric is read
abbrev pub WithGroups : Seen → Topology → ℕ → (List Group → Answer → Type 0) → Answer → Type 0
WithGroups w t place rest answer = AfterFile (word_at w.words place) (w.content place) (groups_in t) rest answer
