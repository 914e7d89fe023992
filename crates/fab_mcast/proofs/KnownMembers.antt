-- The groups that a text names have members in the fabric: each line's do.
use Rattle.std.proofs.Common.{◌≡◌, ℕ, ◌+◌, ◌^◌, ◌<◌, Bool, true, false, List, [], ◌∷◌, ◌++◌, length, Result, Ok, Err, All, refl, subst, arith}
use Rattle.std.specs.Prelude.{if◌then◌else◌}
use Rattle.std.specs.Str.Lines.{lines}
use Rattle.fab_text.specs.Fields.{is_passed_over}
use Rattle.fab_text.specs.Readings.{◌>>=◌}
use Rattle.fab_model.specs.Topology.{Topology}
use Rattle.fab_model.proofs.Lists.Members.{All_from_in}
use Rattle.fab_mcast.specs.declared.fault.GroupFault.{GroupFault}
use Rattle.fab_mcast.specs.GroupList.{Group, named_in, group_of, groups_from}
use Rattle.fab_mcast.specs.Laws.{ReadGroupsAreKnown}
use Rattle.fab_mcast.proofs.ReadingGroups.{group_is_read, one_known_more}

module _ (t : Topology) (few : length t.terminals < 2 ^ 32) where
  abbrev AreKnown : List Group → Type 0
  AreKnown groups = All (λ (g : Group). All (λ n. n < length t.terminals) g.members) groups

  same_ok : (x y : List Group) (r : Result (List Group) GroupFault) → r ≡ Ok x → r ≡ Ok y → x ≡ y
  same_ok x y r p q = cc

  known_from : (all : List (List ℕ)) (earlier : List Group) (line : ℕ) (groups : List Group) → groups_from t earlier line all ≡ Ok groups → AreKnown earlier → AreKnown groups
  known_from [] earlier line groups e known = subst AreKnown (same_ok earlier groups (Ok earlier) refl e) known
  known_from (bytes ∷ others) earlier line groups e known = by (is_passed_over bytes) (λ now known h. known_from others now (line + 1) groups h known) e
    where
      of : (r : Result Group GroupFault) → group_of t earlier line (named_in bytes) ≡ r → ((now : List Group) → AreKnown now → groups_from t now (line + 1) others ≡ Ok groups → AreKnown groups) →
          (r >>= (λ group. groups_from t (earlier ++ group ∷ []) (line + 1) others)) ≡ Ok groups → AreKnown groups
      of (Ok group) is later h = later (earlier ++ group ∷ []) (one_known_more t earlier group known (group_is_read t few earlier line bytes group is)) h
      of (Err fault) is later h = absurd (cc)

      by : (over : Bool) → ((now : List Group) → AreKnown now → groups_from t now (line + 1) others ≡ Ok groups → AreKnown groups) →
          (if over then groups_from t earlier (line + 1) others else ((group_of t earlier line (named_in bytes)) >>= (λ group. groups_from t (earlier ++ group ∷ []) (line + 1) others))) ≡ Ok groups → AreKnown groups
      by true later h = later earlier known h
      by false later h = of (group_of t earlier line (named_in bytes)) refl later h

pub read_groups_are_known : ReadGroupsAreKnown
read_groups_are_known t text groups is e =
    known_from t (omega (arith, is.rows.lid_count)) (lines text) [] 1 groups e (All_from_in (λ (g : Group). All (λ n. n < length t.terminals) g.members) [] (λ g z. absurd z))
