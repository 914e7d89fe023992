-- Lines that lead a reader on, one block after the other.
use Rattle.std.proofs.Common.{◌≡◌, ℕ, suc, ◌+◌, false, List, [], ◌∷◌, ◌++◌, length, refl, sym, ◌∙◌, ap, subst, arith, Some}
use Rattle.std.specs.Prelude.{All, flat_map, slice_get, if◌then◌else◌}
use Rattle.std.specs.List.{enumerate_from}
use Rattle.std.proofs.lemmas.List.{append_assoc, append-nil, length-append}
use Rattle.std.proofs.lemmas.List.Elements.{All-head}
use Rattle.fab_model.specs.Topology.{Topology}
use Rattle.fab_dump.specs.declared.fault.PlanFault.{PlanFault}
use Rattle.fab_dump.specs.declared.form.Block.{Block}
use Rattle.fab_dump.specs.Given.{Given, was_given}
use Rattle.fab_dump.specs.Lines.{Form, State, adds, goes, line_says}
use Rattle.fab_dump.specs.Lines.Next.{Goes, Fails}
use Rattle.fab_dump.specs.Reading.{read_lines, after_line}

-- the lines lead a reader from one state to another
abbrev pub Leads : Topology → Form → State → List (List ℕ) → State → Type 0
Leads t f s ls now = (n : ℕ) (rest : List (List ℕ)) → read_lines t f n s (ls ++ rest) ≡ read_lines t f (n + length ls) now rest

pub leads_none : (t : Topology) (f : Form) (s : State) → Leads t f s [] s
leads_none t f s n rest = ap (λ (m : ℕ). read_lines t f m s rest) same
  where
    same : n ≡ n + 0
    same = omega arith

pub leads_line : (t : Topology) (f : Form) (s now : State) (line : List ℕ) → ((n : ℕ) → line_says t f n s line ≡ Goes now) → Leads t f s (line ∷ []) now
leads_line t f s now line says n rest = ap (after_line t f s (λ next. read_lines t f (n + 1) next rest)) (says n)

pub leads_then : (t : Topology) (f : Form) (s mid now : State) (xs ys : List (List ℕ)) → Leads t f s xs mid → Leads t f mid ys now → Leads t f s (xs ++ ys) now
leads_then t f s mid now xs ys first second n rest =
    ap (read_lines t f n s) (append_assoc xs ys rest) ∙ first n (ys ++ rest) ∙ second (n + length xs) rest ∙ ap (λ (m : ℕ). read_lines t f m now rest) same
  where
    same : n + length xs + length ys ≡ n + length (xs ++ ys)
    same = omega (arith, length-append xs ys)

-- what is new is added
pub adds_new : (twice : PlanFault) (s : State) (now_open : Block) (new : List Given) → All (λ g. was_given s.given g ≡ false) new → adds twice s now_open new ≡ goes s now_open new
adds_new twice s now_open [] h = refl
adds_new twice s now_open (g ∷ new) h = ap (λ b. if b then Fails twice else goes s now_open (g ∷ new)) (All-head (λ x. was_given s.given x ≡ false) g new h)

-- the same state, with other statements
pub goes_with : (s : State) (now_open : Block) (new now : List Given) → s.given ++ new ≡ now → goes s now_open new ≡ Goes (record { open_block = now_open; given = now })
goes_with s now_open new now e = ap (λ (g : List Given). Goes (record { open_block = now_open; given = g })) e

-- lines that say so much, and where they lead
pub record Went (t : Topology) (f : Form) (s : State) (ls : List (List ℕ)) (new : List Given) (Q : State → Type 0) : Type 0 where
  pub now : State
  pub leads : Leads t f s ls now
  pub given : now.given ≡ s.given ++ new
  pub holds : Q now

pub went_then : (t : Topology) (f : Form) (s : State) (xs ys : List (List ℕ)) (new more : List Given) (P Q : State → Type 0) → Went t f s xs new P →
    ((mid : State) → P mid → Went t f mid ys more Q) → Went t f s (xs ++ ys) (new ++ more) Q
went_then t f s xs ys new more P Q first next =
    let second : Went t f first.now ys more Q = next first.now first.holds in
    record {
      now = second.now;
      leads = leads_then t f s first.now second.now xs ys first.leads second.leads;
      given = second.given ∙ ap (λ (g : List Given). g ++ more) first.given ∙ append_assoc s.given new more;
      holds = second.holds;
    }

-- ---- numbered rows, each with lines of its own

abbrev pub EachFrom : {X : Type 0} → (ℕ → X → Type 0) → ℕ → List X → Type 0
EachFrom R n [] = Unit {0}
EachFrom R n (x ∷ xs) = R n x × EachFrom R (n + 1) xs

each_from : {X : Type 0} (rows xs : List X) (n : ℕ) → ((k : ℕ) (x : X) → slice_get xs k ≡ Some x → slice_get rows (n + k) ≡ Some x) → EachFrom (λ k x. slice_get rows k ≡ Some x) n xs
each_from rows [] n h = tt
each_from rows (x ∷ xs) n h = (subst (λ (k : ℕ). slice_get rows k ≡ Some x) here (h 0 x refl), each_from rows xs (n + 1) (λ k y e. subst (λ (m : ℕ). slice_get rows m ≡ Some y) (next k) (h (suc k) y e)))
  where
    here : n + 0 ≡ n
    here = omega arith

    next : (k : ℕ) → n + suc k ≡ n + 1 + k
    next k = omega arith

pub each_row : {X : Type 0} (rows : List X) → EachFrom (λ k x. slice_get rows k ≡ Some x) 0 rows
each_row rows = each_from rows rows 0 (λ k x e. subst (λ (m : ℕ). slice_get rows m ≡ Some x) (same k) e)
  where
    same : (k : ℕ) → k ≡ 0 + k
    same k = omega arith

module _ {X : Type 0} (t : Topology) (f : Form) (lines : ℕ × X → List (List ℕ)) (new : ℕ × X → List Given) (R : ℕ → X → Type 0) (Q : ℕ → State → Type 0)
    (step : (k : ℕ) (x : X) (s : State) → R k x → Q k s → Went t f s (lines (k, x)) (new (k, x)) (Q (k + 1))) where
  pub went_rows : (rows : List X) (from : ℕ) (s : State) → EachFrom R from rows → Q from s → Went t f s (flat_map lines (enumerate_from from rows)) (flat_map new (enumerate_from from rows)) (Q (from + length rows))
  went_rows [] from s each q = record { now = s; leads = leads_none t f s; given = sym (append-nil s.given); holds = subst (λ (k : ℕ). Q k s) same q }
    where
      same : from ≡ from + 0
      same = omega arith
  went_rows (x ∷ rows) from s each q =
      subst (λ (k : ℕ). Went t f s (lines (from, x) ++ flat_map lines (enumerate_from (from + 1) rows)) (new (from, x) ++ flat_map new (enumerate_from (from + 1) rows)) (Q k)) more
      (went_then t f s (lines (from, x)) (flat_map lines (enumerate_from (from + 1) rows)) (new (from, x)) (flat_map new (enumerate_from (from + 1) rows)) (Q (from + 1)) (Q (from + 1 + length rows))
      (step from x s each.0 q) (λ mid k. went_rows rows (from + 1) mid each.1 k))
    where
      more : from + 1 + length rows ≡ from + suc (length rows)
      more = omega arith
