-- What a command on files answers, one file after the other:
--     goes_on    a file was taken, and the rest goes on with what it says
--     stops      a file is refused or can't be read, or memory ran out
--     found      the last file was taken
use Rattle.std.proofs.Common.{◌≡◌, ℕ, suc, ◌≤◌, List, [], ◌∷◌, Option, None, Some, Result, Ok, Err, Bool, true, refl, subst, sym, ap, arith, inl, inr, IfSome, Contains, if◌then◌else◌, ◌==◌}
use Rattle.std.specs.Prelude.{IsErrAnd}
use Rattle.std.proofs.lemmas.Bool.Decides.{eqb_tells}
use Rattle.fab_top.specs.declared.outcome.Outcome.{Outcome}
use Rattle.fab_top.specs.declared.outcome.Stop.{Stop}
use Rattle.fab_top.specs.declared.outcome.Stop.TheVariants.{Refused, Unread, Memory}
use Rattle.fab_top.specs.Answer.{Answer, refused, unread}
use Rattle.fab_top.specs.Outcomes.{FindsRightly, IsFound, IsStoppedAt, Concludes, answer_of}
use Rattle.fab_top.specs.Seen.{Seen, Content, content_told, After, AfterFile, seen, seen_failing, word_at}
use Rattle.fab_top.specs.Taking.{FileSays, StopsAt, IsTaken}

-- the answer after the file of this place is read, from the answer to the rest
abbrev pub WithFile : {X : Type 0} → ℕ → (List ℕ → List ℕ → Result X (List ℕ)) → (X → Seen → Answer → Type 0) → Seen → Answer → Type 0
WithFile place read rest w answer = AfterFile (word_at w.words place) (w.content place) read (λ x. rest x w) answer

-- ---- a file that is told

-- a file that was taken goes on with the rest
after_taken : {X : Type 0} (name : List ℕ) (content : Option (List ℕ)) (read : List ℕ → List ℕ → Result X (List ℕ)) (rest : X → Answer → Type 0) (x : X) (answer : Answer) →
    IfSome content (λ bytes. read name bytes ≡ Ok x) → rest x answer → AfterFile name (content_told content) read rest answer
after_taken name None read rest x answer taken done = tt
after_taken {X} name (Some bytes) read rest x answer taken done =
    let P : Result X (List ℕ) → Type 0 = λ r. After r rest answer in subst P (sym taken) done

-- a file that is refused ends with its text
after_refused : {X : Type 0} (name : List ℕ) (content : Option (List ℕ)) (read : List ℕ → List ℕ → Result X (List ℕ)) (rest : X → Answer → Type 0) (text : List ℕ) →
    IfSome content (λ bytes. read name bytes ≡ Err text) → AfterFile name (content_told content) read rest (refused text)
after_refused name None read rest text found = tt
after_refused {X} name (Some bytes) read rest text found =
    let P : Result X (List ℕ) → Type 0 = λ r. After r rest (refused text) in subst P (sym found) refl

-- ---- a file that can't be read

same_place : (n : ℕ) → (n == n) ≡ true
same_place n = elim (eqb_tells n n) [ inl e ↦ e.0 | inr e ↦ absurd (e.1 refl) ]

-- the file of this place can't be read
at_failing : {X : Type 0} (told : List ℕ → Option (List ℕ)) (words : List (List ℕ)) (place : ℕ) (read : List ℕ → List ℕ → Result X (List ℕ)) (rest : X → Answer → Type 0) →
    AfterFile (word_at words place) ((seen_failing told words place).content place) read rest (unread (word_at words place))
at_failing told words place read rest =
    let P : Bool → Type 0 = λ b. AfterFile (word_at words place) (if b then Content.Fails else content_told (told (word_at words place))) read rest (unread (word_at words place))
    in subst P (sym (same_place place)) refl

-- a later file can't be read
before_failing : {X : Type 0} (told : List ℕ → Option (List ℕ)) (words : List (List ℕ)) (place failing : ℕ) (read : List ℕ → List ℕ → Result X (List ℕ)) (rest : X → Answer → Type 0) (x : X) →
    IfSome (told (word_at words place)) (λ bytes. read (word_at words place) bytes ≡ Ok x) →
    rest x (unread (word_at words failing)) →
    AfterFile (word_at words place) ((seen_failing told words failing).content place) read rest (unread (word_at words failing))
before_failing told words place failing read rest x taken done =
    let P : Bool → Type 0 = λ b. AfterFile (word_at words place) (if b then Content.Fails else content_told (told (word_at words place))) read rest (unread (word_at words failing))
    in elim (eqb_tells place failing) [
      | inl e ↦ subst P (sym e.0) (ap (λ n. unread (word_at words n)) (sym e.1))
      | inr e ↦ subst P (sym e.0) (after_taken (word_at words place) (told (word_at words place)) read rest x _ taken done)
    ]

named_first : (files : List ℕ) (place : ℕ) → Contains (place ∷ files) place
named_first files place = (0, omega arith, refl)

named_later : (files : List ℕ) (place at : ℕ) → Contains files at → Contains (place ∷ files) at
named_later files place at named = (suc named.0, omega (arith, named.1), named.2)

-- ---- the steps

-- at a shelf that tells the same and has the same counts
goes_on_there : {X : Type 0} (place : ℕ) (read : List ℕ → List ℕ → Result X (List ℕ)) (files : List ℕ) (A H : X → Seen → Answer → Type 0) (words : List (List ℕ)) (told : List ℕ → Option (List ℕ)) (before now : List ℕ → ℕ) (x : X) (result : Result Outcome Stop) →
    IfSome (told (word_at words place)) (λ bytes. read (word_at words place) bytes ≡ Ok x) → Concludes files (A x) (H x) words told before now result →
    Concludes (place ∷ files) (WithFile place read A) (WithFile place read H) words told before now result
goes_on_there place read files A H words told before now x (Ok outcome) says rest = record {
  right = record {
    is = after_taken (word_at words place) (told (word_at words place)) read (λ y. A y (seen told words)) x (answer_of outcome) says rest.right.is;
    headline = after_taken (word_at words place) (told (word_at words place)) read (λ y. H y (seen told words)) x (answer_of outcome) says rest.right.headline;
    status = rest.right.status;
    can_be_put = rest.right.can_be_put;
  };
  counts = rest.counts;
}
goes_on_there place read files A H words told before now x (Err (Refused text)) says rest = record {
  right = record {
    is = after_taken (word_at words place) (told (word_at words place)) read (λ y. A y (seen told words)) x (refused text.items) says rest.right.is;
    headline = after_taken (word_at words place) (told (word_at words place)) read (λ y. H y (seen told words)) x (refused text.items) says rest.right.headline;
  };
  counts = rest.counts;
}
goes_on_there place read files A H words told before now x (Err (Unread at)) says rest = record {
  named = named_later files place at rest.named;
  within = rest.within;
  failed = rest.failed;
  answer = before_failing told words place at read (λ y. A y (seen_failing told words at)) x says rest.answer;
}
goes_on_there place read files A H words told before now x (Err (Memory lack)) says rest = rest

-- A file was taken, at a shelf that tells the same afterwards: what the rest concludes is concluded.
pub goes_on : {X : Type 0} (place : ℕ) (read : List ℕ → List ℕ → Result X (List ℕ)) (files : List ℕ) (A H : X → Seen → Answer → Type 0) (words : List (List ℕ)) (told later : List ℕ → Option (List ℕ)) (before mid now : List ℕ → ℕ) (x : X) (result : Result Outcome Stop) →
    FileSays words told before mid place read (Ok x) → later ≡ told → Concludes files (A x) (H x) words later mid now result →
    Concludes (place ∷ files) (WithFile place read A) (WithFile place read H) words told before now result
goes_on place read files A H words told later before mid now x result taken same rest =
    let P : (List ℕ → Option (List ℕ)) → Type 0 = λ f. Concludes files (A x) (H x) words f mid now result in
    let Q : (List ℕ → ℕ) → Type 0 = λ f. Concludes files (A x) (H x) words told f now result in
    goes_on_there place read files A H words told before now x result taken.says (subst Q taken.counts (subst P same rest))

stops_there : {X : Type 0} (place : ℕ) (read : List ℕ → List ℕ → Result X (List ℕ)) (files : List ℕ) (A H : X → Seen → Answer → Type 0) (words : List (List ℕ)) (told : List ℕ → Option (List ℕ)) (before now : List ℕ → ℕ) (stop : Stop) →
    StopsAt words told before now place read stop → Concludes (place ∷ files) (WithFile place read A) (WithFile place read H) words told before now (Err stop)
stops_there place read files A H words told before now (Refused text) stops_at = record {
  right = record {
    is = after_refused (word_at words place) (told (word_at words place)) read (λ y. A y (seen told words)) text.items stops_at.says;
    headline = after_refused (word_at words place) (told (word_at words place)) read (λ y. H y (seen told words)) text.items stops_at.says;
  };
  counts = stops_at.counts;
}
stops_there place read files A H words told before now (Unread at) stops_at =
    let P : ℕ → Type 0 = λ n. IsStoppedAt (place ∷ files) (WithFile place read A) words told before now n in
    subst P (sym stops_at.is) (record {
      named = named_first files place;
      within = stops_at.within;
      failed = stops_at.failed;
      answer = at_failing told words place read (λ y. A y (seen_failing told words place));
    })
stops_there place read files A H words told before now (Memory lack) stops_at = stops_at

-- Nothing was taken from a file: the command hands on why.
pub stops : {X : Type 0} (place : ℕ) (read : List ℕ → List ℕ → Result X (List ℕ)) (files : List ℕ) (A H : X → Seen → Answer → Type 0) (words : List (List ℕ)) (told : List ℕ → Option (List ℕ)) (before now : List ℕ → ℕ) (stop : Stop) (result : Result Outcome Stop) →
    StopsAt words told before now place read stop → IsErrAnd result (λ handed. handed ≡ stop) → Concludes (place ∷ files) (WithFile place read A) (WithFile place read H) words told before now result
stops place read files A H words told before now stop (Ok outcome) stops_at hands = absurd hands
stops place read files A H words told before now stop (Err handed) stops_at hands =
    let P : Stop → Type 0 = λ s. Concludes (place ∷ files) (WithFile place read A) (WithFile place read H) words told before now (Err s) in
    subst P (sym hands) (stops_there place read files A H words told before now stop stops_at)

-- What is found behind the last file: no count has changed since.
pub found : (A H : Seen → Answer → Type 0) (words : List (List ℕ)) (told : List ℕ → Option (List ℕ)) (now : List ℕ → ℕ) (result : Result Outcome Stop) →
    FindsRightly (A (seen told words)) (H (seen told words)) result → Concludes [] A H words told now now result
found A H words told now (Ok outcome) finds = record { right = finds; counts = refl }
found A H words told now (Err (Refused text)) finds = record { right = finds; counts = refl }
found A H words told now (Err (Unread place)) finds = absurd finds
found A H words told now (Err (Memory lack)) finds = refl

-- ---- what is named

-- what was named is taken, and the rest goes on with it
pub name_taken : {X : Type 0} (read : Result X (List ℕ)) (A H : X → Answer → Type 0) (x : X) (result : Result Outcome Stop) → read ≡ Ok x → FindsRightly (A x) (H x) result → FindsRightly (After read A) (After read H) result
name_taken {X} read A H x result taken finds = let P : Result X (List ℕ) → Type 0 = λ r. FindsRightly (After r A) (After r H) result in subst P (sym taken) finds

name_stops_there : {X : Type 0} (read : Result X (List ℕ)) (A H : X → Answer → Type 0) (stop : Stop) → IsTaken {X = X} (Err stop) read → FindsRightly (After read A) (After read H) (Err stop)
name_stops_there {X} read A H (Refused text) taken =
    let P : Result X (List ℕ) → Type 0 = λ r. After r A (refused text.items) in
    let Q : Result X (List ℕ) → Type 0 = λ r. After r H (refused text.items) in
    record { is = subst P (sym taken) refl; headline = subst Q (sym taken) refl }
name_stops_there read A H (Unread place) taken = absurd taken
name_stops_there read A H (Memory lack) taken = tt

-- what was named isn't there
pub name_stops : {X : Type 0} (read : Result X (List ℕ)) (A H : X → Answer → Type 0) (stop : Stop) (result : Result Outcome Stop) → IsTaken {X = X} (Err stop) read → IsErrAnd result (λ handed. handed ≡ stop) →
    FindsRightly (After read A) (After read H) result
name_stops read A H stop (Ok outcome) taken hands = absurd hands
name_stops read A H stop (Err handed) taken hands =
    let P : Stop → Type 0 = λ s. FindsRightly (After read A) (After read H) (Err s) in subst P (sym hands) (name_stops_there read A H stop taken)

-- ---- statuses of what is found

pub found_at_most_1 : (status : ℕ) → status ≤ 1 → IsFound status
found_at_most_1 status small = (omega arith, λ two. absurd (omega arith))
