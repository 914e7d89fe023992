-- Groups, line after line: members by their LIDs, and the groups of the lines that were read.
use Rattle.std.proofs.Common.{◌≡◌, ◌≢◌, ℕ, ◌+◌, ◌^◌, ◌<◌, ◌≤◌, ◌⊎◌, inl, inr, Bool, true, false, cond, not, ◌&&◌, List, [], ◌∷◌, ◌++◌, length, map, drop, Option, Some, None, Result, Ok, Err, Contains, All, refl, sym, ◌∙◌, ap, subst, arith, length-append, eqb}
use Rattle.std.specs.Prelude.{◌==◌, ◌||◌, if◌then◌else◌, is_ok, OnOk, IsErrAnd, slice_get, slice_range, filter, position, AllPairs, nat_le}
use Rattle.std.specs.List.{list_any, range_with_len, dedup}
use Rattle.std.specs.List.Sorted.{IsStrictlyIncreasing}
use Rattle.std.specs.Str.Lines.{lines}
use Rattle.std.proofs.lemmas.Bool.{cases_Bool, cases_order, eqb-true, eq-eqb, and_parts, leb-true}
use Rattle.std.proofs.lemmas.List.Folds.{list_any-append}
use Rattle.std.proofs.lemmas.List.Kept.{IsStrictlyIncreasing-filter, AllPairs-from_increasing}
use Rattle.std.proofs.lemmas.Option.{same_Some, none-some}
use Rattle.fab_text.specs.Fields.{is_passed_over, words_of, hex, all_read}
use Rattle.fab_text.specs.Fronts.{line_at}
use Rattle.fab_text.specs.Readings.{◌>>=◌, Unless, Gives}
use Rattle.fab_text.specs.declared.fronts.Line.{Line}
use Rattle.fab_text.proofs.LinesMet.{line_first, no_line_left}
use Rattle.fab_model.specs.declared.rows.TerminalRow.{TerminalRow}
use Rattle.fab_model.specs.Topology.{Topology}
use Rattle.fab_model.specs.WellFormed.{IsWellFormed}
use Rattle.fab_model.proofs.Lists.Members.{In, Pairs, in_from_Contains, Contains_from_in, All_from_in, in_all, AllPairs_from_pairs, pairs_from_AllPairs, pairs_join, from_append, from_filter, in_filter, list_any_from_in, list_any_false, from_list_any}
use Rattle.fab_model.proofs.Lists.Found.{from_range, in_range, range_rises, slice_get_some}
use Rattle.fab_model.proofs.Faultless.Facts.{slice_get_in}
use Rattle.fab_mcast.specs.declared.fault.GroupFault.{GroupFault}
use Rattle.fab_mcast.specs.declared.fault.GroupFault.TheVariants.{BadLine, TwiceGroup, UnknownMember}
use Rattle.fab_mcast.specs.GroupList.{Group, Named, has_bare_ends, if_in_range, group_number, lid_of, named_by, named_in_words, named_in, is_named, terminals_named, has_stranger, group_of, groups_from, wants_memory, IsGroup, AreGroups}
use Rattle.fab_mcast.proofs.AllCopies.{increasing}
use Rattle.fab_mcast.proofs.TreePorts.{false_from}

-- ---- the lines that are left

module _ (t : Topology) (earlier : List Group) (line : ℕ) (text : List ℕ) (from : ℕ) where
  abbrev pub groups_left : Result (List Group) GroupFault
  groups_left = groups_from t earlier (line + 1) (lines (drop from text))

  pub none_left : line_at text from ≡ None → groups_left ≡ Ok earlier
  none_left e = ap (λ (rest : List (List ℕ)). groups_from t earlier (line + 1) rest) (no_line_left text from e)

  module _ (found : Line) (met : line_at text from ≡ Some found) where
    abbrev bytes : List ℕ
    bytes = slice_range text found.start found.end

    abbrev later : List Group → Result (List Group) GroupFault
    later groups = groups_from t groups (line + 1 + 1) (lines (drop found.next text))

    first : groups_left ≡ (if is_passed_over bytes then later earlier else ((group_of t earlier (line + 1) (named_in bytes)) >>= (λ group. later (earlier ++ group ∷ []))))
    first = ap (λ (rest : List (List ℕ)). groups_from t earlier (line + 1) rest) (line_first text from found met)

    pub passed_over : is_passed_over bytes ≡ true → groups_left ≡ later earlier
    passed_over e = first ∙ ap (λ test. if test then later earlier else ((group_of t earlier (line + 1) (named_in bytes)) >>= (λ group. later (earlier ++ group ∷ [])))) e

    read : is_passed_over bytes ≡ false → groups_left ≡ ((group_of t earlier (line + 1) (named_in bytes)) >>= (λ group. later (earlier ++ group ∷ [])))
    read e = first ∙ ap (λ test. if test then later earlier else ((group_of t earlier (line + 1) (named_in bytes)) >>= (λ group. later (earlier ++ group ∷ [])))) e

    pub group_read : (group : Group) → is_passed_over bytes ≡ false → group_of t earlier (line + 1) (named_in bytes) ≡ Ok group → groups_left ≡ later (earlier ++ group ∷ [])
    group_read group e is = read e ∙ ap (λ r. r >>= (λ group. later (earlier ++ group ∷ []))) is

    pub fault_read : (fault : GroupFault) → is_passed_over bytes ≡ false → group_of t earlier (line + 1) (named_in bytes) ≡ Err fault → groups_left ≡ Err fault
    fault_read fault e is = read e ∙ ap (λ r. r >>= (λ group. later (earlier ++ group ∷ []))) is

-- ---- what a group keeps

-- a group that a line gives
pub record IsRead (t : Topology) (earlier : List Group) (group : Group) : Type 0 where
  pub is : IsGroup group
  pub known : All (λ n. n < length t.terminals) group.members
  pub new : list_any (λ (g : Group). g.number == group.number) earlier ≡ false

in_range_of : (o : Option ℕ) (n : ℕ) → if_in_range o ≡ Some n → (0xc000 ≤ n) × (n ≤ 0xfffe)
in_range_of None n e = absurd (none-some n e)
in_range_of (Some m) n e = by (nat_le 0xc000 m) (nat_le m 0xfffe) refl refl e
  where
    by : (low high : Bool) → nat_le 0xc000 m ≡ low → nat_le m 0xfffe ≡ high → (if low && high then Some m else None) ≡ Some n → (0xc000 ≤ n) × (n ≤ 0xfffe)
    by true true x y h = let same : m ≡ n = same_Some m n h in (omega (arith, leb-true 0xc000 m x, same), omega (arith, leb-true m 0xfffe y, same))
    by true false x y h = absurd (none-some n h)
    by false high x y h = absurd (none-some n h)

number_in_range : (word : List ℕ) (n : ℕ) → group_number word ≡ Some n → (0xc000 ≤ n) × (n ≤ 0xfffe)
number_in_range word n e = by (length word == 6) e
  where
    by : (six : Bool) → (if six then if_in_range (hex 4 word) else None) ≡ Some n → (0xc000 ≤ n) × (n ≤ 0xfffe)
    by true h = in_range_of (hex 4 word) n h
    by false h = absurd (none-some n h)

named_in_range : (line : List ℕ) (named : Named) → named_in line ≡ Some named → (0xc000 ≤ named.number) × (named.number ≤ 0xfffe)
named_in_range line named e = by (has_bare_ends line) e
  where
    nothing : (x : Named) → None ≡ Some x → ⊥
    nothing x h = cc

    by_parts : (o : Option ℕ) (lids : Option (List ℕ)) → ((n : ℕ) → o ≡ Some n → (0xc000 ≤ n) × (n ≤ 0xfffe)) → named_by o lids ≡ Some named → (0xc000 ≤ named.number) × (named.number ≤ 0xfffe)
    by_parts None lids there h = absurd (nothing named h)
    by_parts (Some n) None there h = absurd (nothing named h)
    by_parts (Some n) (Some []) there h = absurd (nothing named h)
    by_parts (Some n) (Some (lid ∷ lids)) there h = let same : n ≡ named.number = ap (λ (x : Named). x.number) (same_Some _ named h) in subst (λ k. (0xc000 ≤ k) × (k ≤ 0xfffe)) same (there n refl)

    by_words : (words : List (List ℕ)) → named_in_words words ≡ Some named → (0xc000 ≤ named.number) × (named.number ≤ 0xfffe)
    by_words [] h = absurd (nothing named h)
    by_words (word ∷ words) h = by_parts (group_number word) (all_read lid_of words) (number_in_range word) h

    by : (bare : Bool) → (if bare then named_in_words (words_of line) else None) ≡ Some named → (0xc000 ≤ named.number) × (named.number ≤ 0xfffe)
    by true h = by_words (words_of line) h
    by false h = absurd (nothing named h)

pub members_ascend : (t : Topology) (lids : List ℕ) → IsStrictlyIncreasing (terminals_named t lids)
members_ascend t lids = IsStrictlyIncreasing-filter (λ n. is_named lids (slice_get t.terminals n)) (range_with_len 0 (length t.terminals)) (increasing (range_with_len 0 (length t.terminals)) (range_rises 0 (length t.terminals)))

members_known : (t : Topology) (lids : List ℕ) → All (λ n. n < length t.terminals) (terminals_named t lids)
members_known t lids = All_from_in (λ n. n < length t.terminals) (terminals_named t lids) (λ n at.
    let listed : In n (range_with_len 0 (length t.terminals)) = (from_filter (λ n. is_named lids (slice_get t.terminals n)) (range_with_len 0 (length t.terminals)) n at).0 in
    omega (arith, (from_range 0 (length t.terminals) n listed).1))

same_ok : (x y : Group) (r : Result Group GroupFault) → r ≡ Ok x → r ≡ Ok y → x ≡ y
same_ok x y r p q = cc

not_both : (group : Group) (fault : GroupFault) (r : Result Group GroupFault) → r ≡ Err fault → r ≡ Ok group → ⊥
not_both group fault r p q = cc

pub group_is_read : (t : Topology) → length t.terminals < 2 ^ 32 → (earlier : List Group) (line : ℕ) (bytes : List ℕ) (group : Group) → group_of t earlier line (named_in bytes) ≡ Ok group → IsRead t earlier group
group_is_read t few earlier line bytes group e = by (named_in bytes) (named_in_range bytes) e
  where
    by_tests : (named : Named) → (0xc000 ≤ named.number) × (named.number ≤ 0xfffe) → (twice stranger : Bool) → list_any (λ (g : Group). g.number == named.number) earlier ≡ twice →
        (if twice then Err (TwiceGroup line) else if stranger then Err (UnknownMember line) else Ok (record { number = named.number; members = terminals_named t named.lids })) ≡ Ok group → IsRead t earlier group
    by_tests named range true stranger is h = absurd (not_both group (TwiceGroup line) _ refl h)
    by_tests named range false true is h = absurd (not_both group (UnknownMember line) _ refl h)
    by_tests named range false false is h = subst (λ (g : Group). IsRead t earlier g) (same_ok _ group _ refl h) (record {
      is = record {
        number = range;
        ascending = members_ascend t named.lids;
        few = All_from_in (λ n. n < 2 ^ 32) (terminals_named t named.lids) (λ n at. omega (arith, in_all (λ n. n < length t.terminals) (terminals_named t named.lids) (members_known t named.lids) n at, few));
      };
      known = members_known t named.lids;
      new = is;
    })

    by : (o : Option Named) → ((named : Named) → o ≡ Some named → (0xc000 ≤ named.number) × (named.number ≤ 0xfffe)) → group_of t earlier line o ≡ Ok group → IsRead t earlier group
    by None range h = absurd (not_both group (BadLine line) _ refl h)
    by (Some named) range h = by_tests named (range named refl) (list_any (λ (g : Group). g.number == named.number) earlier) (has_stranger t named.lids) refl h

-- one group more
pub one_group_more : (t : Topology) (earlier : List Group) (group : Group) → AreGroups earlier → length earlier + 1 < 2 ^ 32 → IsRead t earlier group → AreGroups (earlier ++ group ∷ [])
one_group_more t earlier group are few read = record {
  few_groups = omega (arith, few, length-append earlier (group ∷ []));
  each = All_from_in IsGroup (earlier ++ group ∷ []) (λ g at. elim (from_append earlier (group ∷ []) g at) [
    | inl before ↦ in_all IsGroup earlier are.each g before
    | inr last ↦ elim last [ inl same ↦ subst (λ (x : Group). IsGroup x) same read.is | inr z ↦ absurd z ]
  ]);
  differ = AllPairs_from_pairs (λ x y. x.number ≢ y.number) (earlier ++ group ∷ [])
      (pairs_join (λ x y. x.number ≢ y.number) earlier (group ∷ []) (pairs_from_AllPairs (λ x y. x.number ≢ y.number) earlier are.differ) ((λ y z. absurd z), tt)
      (λ x y at last. elim last [
        | inl same ↦ (λ e. both (list_any_false (λ (g : Group). g.number == group.number) earlier read.new x at) (eq-eqb x.number group.number (e ∙ ap (λ (z : Group). z.number) (sym same))))
        | inr z ↦ absurd z
      ]));
}
  where
    both : {b : Bool} → b ≡ false → b ≡ true → ⊥
    both p q = cc

pub one_known_more : (t : Topology) (earlier : List Group) (group : Group) → All (λ (g : Group). All (λ n. n < length t.terminals) g.members) earlier → IsRead t earlier group →
    All (λ (g : Group). All (λ n. n < length t.terminals) g.members) (earlier ++ group ∷ [])
one_known_more t earlier group known read = All_from_in (λ (g : Group). All (λ n. n < length t.terminals) g.members) (earlier ++ group ∷ []) (λ g at. elim (from_append earlier (group ∷ []) g at) [
  | inl before ↦ in_all (λ (g : Group). All (λ n. n < length t.terminals) g.members) earlier known g before
  | inr last ↦ elim last [ inl same ↦ subst (λ (x : Group). All (λ n. n < length t.terminals) x.members) same read.known | inr z ↦ absurd z ]
])

pub no_groups : AreGroups []
no_groups = record { few_groups = omega arith; each = All_from_in IsGroup [] (λ g z. absurd z); differ = AllPairs_from_pairs (λ x y. x.number ≢ y.number) [] tt }

-- the numbers of the groups that were read
pub number_kept : (earlier : List Group) (group : Group) (n : ℕ) (before now : Bool) → before ≡ list_any (λ (g : Group). g.number == n) earlier → now ≡ cond (group.number == n) true before → now ≡ list_any (λ (g : Group). g.number == n) (earlier ++ group ∷ [])
number_kept earlier group n before now was is = is ∙ by (group.number == n) before ∙ ap (λ b. b || list_any (λ (g : Group). g.number == n) (group ∷ [])) was ∙ sym (list_any-append (λ (g : Group). g.number == n) earlier (group ∷ []))
  where
    by : (same old : Bool) → cond same true old ≡ (old || (same || false))
    by true true = refl
    by true false = refl
    by false true = refl
    by false false = refl

-- what is told of a line's fault is told of the list's
pub fault_of_line : (t : Topology) (earlier : List Group) (line : ℕ) (text : List ℕ) (from : ℕ) (found : Line) → line_at text from ≡ Some found → is_passed_over (slice_range text found.start found.end) ≡ false → (memory : Bool) (fault : GroupFault) →
    Unless memory (group_of t earlier (line + 1) (named_in (slice_range text found.start found.end)) ≡ Err fault) → Unless memory (groups_left t earlier line text from ≡ Err fault)
fault_of_line t earlier line text from found met e true fault h = tt
fault_of_line t earlier line text from found met e false fault h = fault_read t earlier line text from found met fault e h

pub some_bytes : (line : List ℕ) → is_passed_over line ≡ false → 0 < length line
some_bytes [] e = absurd (cc)
some_bytes (byte ∷ line) e = omega arith

-- what a call said of its success is said where its error was taken for another
pub passed_on : {X D E : Type 0} (P : Type 0) (r : Result X D) (m : Result X E) (x : X) → is_ok m ≡ is_ok r → m ≡ Ok x → OnOk r P → P
passed_on P (Ok y) m x same is told = told
passed_on P (Err y) m x same is told = absurd (both same (ap is_ok is))
  where
    both : {b : Bool} → b ≡ false → b ≡ true → ⊥
    both p q = cc

-- a fault that a question mark passes on
pub fault_given : {X : Type 0} (result wanted : Result X GroupFault) (fault : GroupFault) → IsErrAnd result (λ handed. handed ≡ fault) → Unless (wants_memory fault) (wanted ≡ Err fault) → Gives wants_memory result wanted
fault_given (Ok x) wanted fault is told = absurd is
fault_given (Err handed) wanted fault is told = subst (λ (f : GroupFault). Unless (wants_memory f) (wanted ≡ Err f)) (sym is) told
