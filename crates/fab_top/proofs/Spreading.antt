-- Groups as answers: their tables, and what a packet to one of them reaches.
use Rattle.std.proofs.Common.{◌≡◌, ℕ, ◌+◌, ◌<◌, ◌≤◌, ◌↔◌, Bool, true, All, List, [], ◌∷◌, ◌++◌, length, map, flat_map, Contains, Option, None, Some, Result, Ok, Err, refl, sym, ◌∙◌, ap, subst, arith}
use Rattle.std.specs.Prelude.{◌==◌, ◌-◌, IsErrAnd, filter, find, option_map, slice_get, ok_or}
use Rattle.std.specs.List.{list_any, range_with_len}
use Rattle.std.proofs.lemmas.Bool.{eqb-true, eq-eqb}
use Rattle.std.proofs.lemmas.List.{length-map}
use Rattle.std.proofs.lemmas.List.Kept.{IsStrictlyIncreasing-filter}
use Rattle.std.proofs.lemmas.Option.{same_Some, none-some, slice_get-map, slice_get_within}
use Rattle.fab_model.specs.declared.rows.TerminalId.{TerminalId}
use Rattle.fab_model.specs.declared.rows.TerminalRow.{TerminalRow}
use Rattle.fab_model.specs.Topology.{Topology}
use Rattle.fab_model.specs.WellFormed.{IsFabric}
use Rattle.fab_model.proofs.Faultless.Facts.{slice_get_in}
use Rattle.fab_model.proofs.Lists.Found.{from_find, in_range, range_rises}
use Rattle.fab_model.proofs.Lists.Members.{In, All_from_in, in_all, Contains_from_in, in_from_Contains, in_map, from_map, in_filter, from_filter, list_any_from_in, from_list_any}
use Rattle.fab_mcast.specs.Copies.{Copy}
use Rattle.fab_mcast.specs.GroupList.{Group, members_of}
use Rattle.fab_mcast.specs.GroupTrees.{Planted, planted, ArePlanted, entries_at, members_at}
use Rattle.fab_mcast.specs.GroupTrees as tree
use Rattle.fab_mcast.specs.Spreads.{AreCopies, IsOtherMember, IsSpread, ReachesMembers, reached}
use Rattle.fab_mcast.proofs.AllCopies.{increasing, one_list, one_spread}
use Rattle.fab_mcast.proofs.OnePlanting.{one_planting}
use Rattle.fab_mcast.proofs.Planting.{planted_reaches}
use Rattle.fab_mcast.proofs.PlantingExists.{planting_exists}
use Rattle.fab_top.specs.declared.outcome.Outcome.{Outcome}
use Rattle.fab_top.specs.declared.outcome.Stop.{Stop}
use Rattle.fab_top.specs.Answer.{Answer, done}
use Rattle.fab_top.specs.Answers.{IsMcastAnswer, IsSpreadFrom, IsSpreadAnswer, AfterMember, members_by_group}
use Rattle.fab_top.specs.Files.{AreKnown, known_group, known_member, members_in, has_lid}
use Rattle.fab_top.specs.FaultTexts.{no_member_text}
use Rattle.fab_top.specs.GroupTexts.{groups_text, lid_row, spread_text}
use Rattle.fab_top.specs.Headline.{PlantsTruly, SpreadsTruly}
use Rattle.fab_top.specs.Outcomes.{FindsRightly, IsRightOutcome, CanBePut, answer_of}
use Rattle.fab_top.specs.Seen.{Seen, After, WithFabric, WithGroups}
use Rattle.fab_top.specs.Taking.{IsTaken}
use Rattle.fab_top.proofs.Generating.{done_is_small}
use Rattle.fab_top.proofs.Steps.AfterFiles.{IsTold, HasRightAnswer, after_weaker, after_one, after_small, after_exists, fabric_weaker, fabric_one, fabric_small, fabric_exists, groups_weaker, groups_one, groups_small, groups_exist}
use Rattle.fab_top.proofs.Steps.Concluding.{found_at_most_1, name_taken, name_stops}

-- ---- tables are those of the groups

same_members : (make : List ℕ → Planted) → ((members : List ℕ) → (make members).members ≡ members) → (lists : List (List ℕ)) → map (λ (g : Planted). g.members) (map make lists) ≡ lists
same_members make keeps [] = refl
same_members make keeps (members ∷ lists) = ap (λ (ms : List ℕ). ms ∷ map (λ (g : Planted). g.members) (map make lists)) (keeps members) ∙ ap (λ (ls : List (List ℕ)). members ∷ ls) (same_members make keeps lists)

pub of_groups : (t : Topology) (lists : List (List ℕ)) (tables : List Planted) → ArePlanted t lists tables → map (λ (g : Planted). g.members) tables ≡ lists
of_groups t lists tables are = ap (λ (gs : List Planted). map (λ (g : Planted). g.members) gs) are.2 ∙ same_members (planted t are.0) (λ members. refl) lists

pub as_many_tables : (t : Topology) (groups : List Group) (tables : List Planted) → ArePlanted t (members_by_group groups) tables → length tables ≡ length groups
as_many_tables t groups tables are =
    sym (length-map tables (λ (g : Planted). g.members)) ∙ ap (λ (ls : List (List ℕ)). length ls) (of_groups t (members_by_group groups) tables are) ∙ length-map groups (λ (g : Group). g.members)

-- planted for their own members
pub planted_for_own : (t : Topology) (groups : List Group) (tables : List Planted) → ArePlanted t (members_by_group groups) tables → ArePlanted t (map (λ (g : Planted). g.members) tables) tables
planted_for_own t groups tables are = subst (λ (ls : List (List ℕ)). ArePlanted t ls tables) (sym (of_groups t (members_by_group groups) tables are)) are

module _ (t : Topology) (groups : List Group) (tables : List Planted) (known : AreKnown t groups) (are : ArePlanted t (members_by_group groups) tables) where
  known_list : (members : List ℕ) → In members (members_by_group groups) → All (λ n. n < length t.terminals) members
  known_list members at =
      let of : (g : Group) × In g groups × (g.members ≡ members) = from_map (λ (g : Group). g.members) groups members at in
      subst (λ (ns : List ℕ). All (λ n. n < length t.terminals) ns) of.2 (in_all (λ (g : Group). All (λ n. n < length t.terminals) g.members) groups known of.0 of.1)

  known_table : (g : Planted) → In g tables → All (λ n. n < length t.terminals) g.members
  known_table g at =
      known_list g.members (subst (λ (ls : List (List ℕ)). In g.members ls) (of_groups t (members_by_group groups) tables are) (in_map (λ (g : Planted). g.members) tables g at))

  pub tables_known : All (λ (g : Planted). All (λ n. n < length t.terminals) g.members) tables
  tables_known = All_from_in (λ (g : Planted). All (λ n. n < length t.terminals) g.members) tables known_table

  -- the members at a place
  same_there : (o : Option Planted) (q : Option Group) → option_map (λ (g : Planted). g.members) o ≡ option_map (λ (g : Group). g.members) q → tree.members_in o ≡ members_in q
  same_there None None e = refl
  same_there None (Some q) e = absurd (none-some q.members e)
  same_there (Some g) None e = absurd (none-some g.members (sym e))
  same_there (Some g) (Some q) e = same_Some g.members q.members e

  pub members_there : (index : ℕ) → members_at tables index ≡ members_in (slice_get groups index)
  members_there index =
      same_there (slice_get tables index) (slice_get groups index)
      (sym (slice_get-map (λ (g : Planted). g.members) tables index) ∙ ap (λ (ls : List (List ℕ)). slice_get ls index) (of_groups t (members_by_group groups) tables are) ∙ slice_get-map (λ (g : Group). g.members) groups index)

  module _ (fabric : IsFabric t) where
    pub reaches_from : (index from : ℕ) (g : Planted) → slice_get tables index ≡ Some g → Contains g.members from → ReachesMembers t g.members g.ports from
    reaches_from index from g at member = planted_reaches t (members_by_group groups) tables index g from fabric are at (known_table g (slice_get_in tables index g at)) member

    reaches_by : (index from : ℕ) (o : Option Planted) → slice_get tables index ≡ o → Contains (tree.members_in o) from → ReachesMembers t (tree.members_in o) (tree.entries_in o) from
    reaches_by index from None e member = absurd (in_from_Contains [] from member)
    reaches_by index from (Some g) e member = reaches_from index from g e member

    pub reaches_at : (index from : ℕ) → Contains (members_in (slice_get groups index)) from → ReachesMembers t (members_in (slice_get groups index)) (entries_at tables index) from
    reaches_at index from member =
        subst (λ (ns : List ℕ). Contains ns from → ReachesMembers t ns (entries_at tables index) from) (members_there index) (reaches_by index from (slice_get tables index) refl) member

-- ---- mcast

pub mcast_keeps : (t : Topology) (groups : List Group) (a : Answer) → IsFabric t → AreKnown t groups → IsMcastAnswer t groups a → PlantsTruly t groups a
mcast_keeps t groups a fabric known is = record {
  done = ap (λ (b : Answer). b.status) is.2;
  tables = is.0;
  of_groups = of_groups t (members_by_group groups) is.0 is.1;
  reach = reaches_from t groups is.0 known is.1 fabric;
  told = ap (λ (b : Answer). b.out) is.2;
}

one_mcast : (t : Topology) (groups : List Group) (a b : Answer) → IsFabric t → IsMcastAnswer t groups a → IsMcastAnswer t groups b → a ≡ b
one_mcast t groups a b fabric x y = x.2 ∙ ap (λ (tables : List Planted). done (groups_text t groups tables)) (one_planting t (members_by_group groups) x.0 y.0 fabric x.1 y.1) ∙ sym y.2

mcast_exists : (t : Topology) (groups : List Group) → IsFabric t → HasRightAnswer (IsMcastAnswer t groups)
mcast_exists t groups fabric =
    let planting : (x : List Planted) × ArePlanted t (members_by_group groups) x = planting_exists t (members_by_group groups) fabric in
    (done (groups_text t groups planting.0), (planting.0, planting.1, refl))

pub mcast_found : (t : Topology) (groups : List Group) (tables : List Planted) (text : List ℕ) (outcome : Outcome) → IsFabric t → AreKnown t groups → ArePlanted t (members_by_group groups) tables →
    text ≡ groups_text t groups tables → answer_of outcome ≡ done text → CanBePut outcome → IsRightOutcome (IsMcastAnswer t groups) (PlantsTruly t groups) outcome
mcast_found t groups tables text outcome fabric known are is answer put =
    let right : IsMcastAnswer t groups (answer_of outcome) = (tables, are, answer ∙ ap done is) in
    record {
      is = right;
      headline = mcast_keeps t groups (answer_of outcome) fabric known right;
      status = found_at_most_1 (answer_of outcome).status (done_is_small text (answer_of outcome) answer);
      can_be_put = put;
    }

-- ---- what is reached

-- the members that are connected to this one and differ from it
pub spread_is_of_members : (t : Topology) (members : List ℕ) (entries : List (List ℕ)) (from : ℕ) (found : List ℕ) → ReachesMembers t members entries from → IsSpread t entries from found →
    (n : ℕ) → Contains found n ↔ IsOtherMember t members from n
spread_is_of_members t members entries from found reaches is n =
    let row : is.row ≡ reaches.row = same_Some is.row reaches.row (sym is.is_row ∙ reaches.is_row) in
    let all : is.all ≡ reaches.all = one_list t entries reaches.row is.all reaches.all (subst (λ (r : TerminalRow). AreCopies t entries r is.all) row is.copies) reaches.copies in
    let there : Contains (reached t entries is.all) n ↔ IsOtherMember t members from n = subst (λ (cs : List Copy). Contains (reached t entries cs) n ↔ IsOtherMember t members from n) (sym all) (reaches.members_alone n) in
    (λ at. there.0 ((is.each n).0 at), λ other. (is.each n).1 (there.1 other))

-- they are terminals
pub found_low : (t : Topology) (members : List ℕ) (entries : List (List ℕ)) (from : ℕ) (ids : List TerminalId) → ReachesMembers t members entries from → IsSpread t entries from (map (λ (id : TerminalId). id.0) ids) →
    All (λ (id : TerminalId). id.0 < length t.terminals) ids
found_low t members entries from ids reaches is = All_from_in (λ (id : TerminalId). id.0 < length t.terminals) ids low
  where
    low : (id : TerminalId) → In id ids → id.0 < length t.terminals
    low id at =
        let found : List ℕ = map (λ (i : TerminalId). i.0) ids in
        let other : IsOtherMember t members from id.0 = (spread_is_of_members t members entries from found reaches is id.0).0 (Contains_from_in found id.0 (in_map (λ (i : TerminalId). i.0) ids id at)) in
        slice_get_within t.terminals id.0 other.other_row other.to_row

-- the numbers that are reached, in ascending order
module _ (t : Topology) (members : List ℕ) (entries : List (List ℕ)) (from : ℕ) (reaches : ReachesMembers t members entries from) where
  abbrev numbers : List ℕ
  numbers = range_with_len 0 (length t.terminals)

  abbrev hits : List ℕ
  hits = reached t entries reaches.all

  abbrev is_hit : ℕ → Bool
  is_hit n = list_any (λ m. m == n) hits

  abbrev ascending_hits : List ℕ
  ascending_hits = filter is_hit numbers

  from_ascending : (n : ℕ) → Contains ascending_hits n → Contains hits n
  from_ascending n at =
      let kept : In n numbers × (is_hit n ≡ true) = from_filter is_hit numbers n (in_from_Contains ascending_hits n at) in
      let hit : (m : ℕ) × In m hits × ((m == n) ≡ true) = from_list_any (λ m. m == n) hits kept.1 in
      subst (λ k. Contains hits k) (eqb-true hit.0 n hit.2) (Contains_from_in hits hit.0 hit.1)

  to_ascending : (n : ℕ) → Contains hits n → Contains ascending_hits n
  to_ascending n at =
      let other : IsOtherMember t members from n = (reaches.members_alone n).0 at in
      let low : n < length t.terminals = slice_get_within t.terminals n other.other_row other.to_row in
      let hit : is_hit n ≡ true = list_any_from_in (λ m. m == n) hits n (in_from_Contains hits n at) (eq-eqb n n refl) in
      Contains_from_in ascending_hits n (in_filter is_hit numbers n (in_range 0 (length t.terminals) n (omega arith) (omega (arith, low))) hit)

  pub spread_exists : (found : List ℕ) × IsSpread t entries from found
  spread_exists = (
    ascending_hits,
    record {
      row = reaches.row;
      is_row = reaches.is_row;
      all = reaches.all;
      copies = reaches.copies;
      ascending = IsStrictlyIncreasing-filter is_hit numbers (increasing numbers (range_rises 0 (length t.terminals)));
      each = λ n. (from_ascending n, to_ascending n);
    },
  )

-- ---- from one member

pub from_keeps : (t : Topology) (groups : List Group) (index from : ℕ) (a : Answer) → IsFabric t → AreKnown t groups → Contains (members_in (slice_get groups index)) from → IsSpreadFrom t groups index from a →
    SpreadsTruly t groups index from a
from_keeps t groups index from a fabric known member is =
    let members : List ℕ = members_in (slice_get groups index) in
    let reaches : ReachesMembers t members (entries_at is.0 index) from = reaches_at t groups is.0 known is.2 fabric index from member in
    record {
      done = ap (λ (b : Answer). b.status) is.4;
      found = is.1;
      ascending = is.3.ascending;
      members = spread_is_of_members t members (entries_at is.0 index) from is.1 reaches is.3;
      once = (entries_at is.0 index, is.3, reaches);
      told = ap (λ (b : Answer). b.out) is.4;
    }

one_from : (t : Topology) (groups : List Group) (index from : ℕ) (a b : Answer) → IsFabric t → IsSpreadFrom t groups index from a → IsSpreadFrom t groups index from b → a ≡ b
one_from t groups index from a b fabric x y =
    let tables : y.0 ≡ x.0 = one_planting t (members_by_group groups) y.0 x.0 fabric y.2 x.2 in
    let second : IsSpread t (entries_at x.0 index) from y.1 = subst (λ (gs : List Planted). IsSpread t (entries_at gs index) from y.1) tables y.3 in
    x.4 ∙ ap (λ (found : List ℕ). done (spread_text t found)) (one_spread t (entries_at x.0 index) from x.1 y.1 x.3 second) ∙ sym y.4

from_exists : (t : Topology) (groups : List Group) (index from : ℕ) → IsFabric t → AreKnown t groups → Contains (members_in (slice_get groups index)) from → HasRightAnswer (IsSpreadFrom t groups index from)
from_exists t groups index from fabric known member =
    let planting : (x : List Planted) × ArePlanted t (members_by_group groups) x = planting_exists t (members_by_group groups) fabric in
    let spread : (found : List ℕ) × IsSpread t (entries_at planting.0 index) from found =
    spread_exists t (members_in (slice_get groups index)) (entries_at planting.0 index) from (reaches_at t groups planting.0 known planting.1 fabric index from member) in
    (done (spread_text t spread.0), (planting.0, spread.0, planting.1, spread.1, refl))

from_small : (t : Topology) (groups : List Group) (index from : ℕ) (a : Answer) → IsSpreadFrom t groups index from a → a.status ≤ 3
from_small t groups index from a is = omega (arith, done_is_small (spread_text t is.1) a is.4)

-- the lines of terminals are those of their numbers
of_numbers : (t : Topology) (ids : List TerminalId) → flat_map (λ (id : TerminalId). lid_row t id.0) ids ≡ spread_text t (map (λ (id : TerminalId). id.0) ids)
of_numbers t [] = refl
of_numbers t (id ∷ ids) = ap (λ (xs : List ℕ). lid_row t id.0 ++ xs) (of_numbers t ids)

pub from_found : (t : Topology) (groups : List Group) (index from : ℕ) (tables : List Planted) (ids : List TerminalId) (text : List ℕ) (outcome : Outcome) → IsFabric t → AreKnown t groups →
    Contains (members_in (slice_get groups index)) from → ArePlanted t (members_by_group groups) tables → IsSpread t (entries_at tables index) from (map (λ (id : TerminalId). id.0) ids) →
    text ≡ flat_map (λ (id : TerminalId). lid_row t id.0) ids → answer_of outcome ≡ done text → CanBePut outcome → IsRightOutcome (IsSpreadFrom t groups index from) (SpreadsTruly t groups index from) outcome
from_found t groups index from tables ids text outcome fabric known member are spread is answer put =
    let right : IsSpreadFrom t groups index from (answer_of outcome) = (tables, map (λ (id : TerminalId). id.0) ids, are, spread, answer ∙ ap done (is ∙ of_numbers t ids)) in
    record {
      is = right;
      headline = from_keeps t groups index from (answer_of outcome) fabric known member right;
      status = found_at_most_1 (answer_of outcome).status (done_is_small text (answer_of outcome) answer);
      can_be_put = put;
    }

-- ---- what is named

member_by : (t : Topology) (members : List ℕ) (lid from : ℕ) (o : Option ℕ) → find (λ n. has_lid lid (slice_get t.terminals n)) members ≡ o → ok_or o (no_member_text lid) ≡ Ok from → Contains members from
member_by t members lid from None e is = cc
member_by t members lid from (Some n) e is =
    let same : n ≡ from = cc in
    subst (λ k. Contains members k) same (Contains_from_in members n (from_find (λ n. has_lid lid (slice_get t.terminals n)) members n e).0)

-- a named member is one
pub is_member : (t : Topology) (members : List ℕ) (lid from : ℕ) → known_member t members lid ≡ Ok from → Contains members from
is_member t members lid from is = member_by t members lid from (find (λ n. has_lid lid (slice_get t.terminals n)) members) refl is

members_by : (o : Option Group) (members : List ℕ) → option_map (λ (g : Group). g.members) o ≡ Some members → members_in o ≡ members
members_by None members is = absurd (none-some members is)
members_by (Some g) members is = same_Some g.members members is

-- the members at a place, as they are looked at
pub members_are : (groups : List Group) (index : ℕ) (members : List ℕ) → members_of groups index ≡ Some members → members_in (slice_get groups index) ≡ members
members_are groups index members is = members_by (slice_get groups index) members is

pub member_there : (groups : List Group) (index from : ℕ) (members : List ℕ) → members_of groups index ≡ Some members → Contains members from → Contains (members_in (slice_get groups index)) from
member_there groups index from members is at = subst (λ (ns : List ℕ). Contains ns from) (sym (members_are groups index members is)) at

low_by : (t : Topology) (groups : List Group) (index : ℕ) (members : List ℕ) (o : Option Group) → AreKnown t groups → slice_get groups index ≡ o → option_map (λ (g : Group). g.members) o ≡ Some members →
    All (λ n. n < length t.terminals) members
low_by t groups index members None known at is = absurd (none-some members is)
low_by t groups index members (Some g) known at is =
    subst (λ (ns : List ℕ). All (λ n. n < length t.terminals) ns) (same_Some g.members members is)
    (in_all (λ (x : Group). All (λ n. n < length t.terminals) x.members) groups known g (slice_get_in groups index g at))

pub members_low : (t : Topology) (groups : List Group) (index : ℕ) (members : List ℕ) → AreKnown t groups → members_of groups index ≡ Some members → All (λ n. n < length t.terminals) members
members_low t groups index members known is = low_by t groups index members (slice_get groups index) known refl is

module _ (t : Topology) (groups : List Group) (group lid : ℕ) where
  abbrev Reached : ℕ → Answer → Type 0
  Reached index answer = After (known_member t (members_in (slice_get groups index)) lid) (IsSpreadFrom t groups index) answer

  abbrev Kept : ℕ → Answer → Type 0
  Kept index answer = After (known_member t (members_in (slice_get groups index)) lid) (SpreadsTruly t groups index) answer

  pub group_stops : (stop : Stop) (result : Result Outcome Stop) → IsTaken {X = ℕ} (Err stop) (known_group groups group) → IsErrAnd result (λ handed. handed ≡ stop) →
      FindsRightly (IsSpreadAnswer group lid t groups) (AfterMember group lid t groups (SpreadsTruly t groups)) result
  group_stops stop result taken hands = name_stops (known_group groups group) Reached Kept stop result taken hands

  pub member_stops : (index : ℕ) (members : List ℕ) (stop : Stop) (result : Result Outcome Stop) → known_group groups group ≡ Ok index → members_of groups index ≡ Some members →
      IsTaken {X = ℕ} (Err stop) (known_member t members lid) → IsErrAnd result (λ handed. handed ≡ stop) →
      FindsRightly (IsSpreadAnswer group lid t groups) (AfterMember group lid t groups (SpreadsTruly t groups)) result
  member_stops index members stop result first are taken hands =
      let there : IsTaken {X = ℕ} (Err stop) (known_member t (members_in (slice_get groups index)) lid) =
      subst (λ (ns : List ℕ). IsTaken {X = ℕ} (Err stop) (known_member t ns lid)) (sym (members_are groups index members are)) taken in
      name_taken (known_group groups group) Reached Kept index result first
      (name_stops (known_member t (members_in (slice_get groups index)) lid) (IsSpreadFrom t groups index) (SpreadsTruly t groups index) stop result there hands)

  pub member_found : (index from : ℕ) (members : List ℕ) (result : Result Outcome Stop) → known_group groups group ≡ Ok index → members_of groups index ≡ Some members → known_member t members lid ≡ Ok from →
      FindsRightly (IsSpreadFrom t groups index from) (SpreadsTruly t groups index from) result →
      FindsRightly (IsSpreadAnswer group lid t groups) (AfterMember group lid t groups (SpreadsTruly t groups)) result
  member_found index from members result first are second finds =
      let there : known_member t (members_in (slice_get groups index)) lid ≡ Ok from = ap (λ (ns : List ℕ). known_member t ns lid) (members_are groups index members are) ∙ second in
      name_taken (known_group groups group) Reached Kept index result first
      (name_taken (known_member t (members_in (slice_get groups index)) lid) (IsSpreadFrom t groups index) (SpreadsTruly t groups index) from result there finds)

  spread_keeps : (a : Answer) → IsFabric t → AreKnown t groups → IsSpreadAnswer group lid t groups a → AfterMember group lid t groups (SpreadsTruly t groups) a
  spread_keeps a fabric known is =
      after_weaker (known_group groups group) Reached Kept a
      (λ index there. after_weaker (known_member t (members_in (slice_get groups index)) lid) (IsSpreadFrom t groups index) (SpreadsTruly t groups index) a
      (λ from member x. from_keeps t groups index from a fabric known (is_member t (members_in (slice_get groups index)) lid from member) x)) is

  one_named : (a b : Answer) → IsFabric t → IsSpreadAnswer group lid t groups a → IsSpreadAnswer group lid t groups b → a ≡ b
  one_named a b fabric first second =
      after_one (known_group groups group) Reached a b
      (λ index there. after_one (known_member t (members_in (slice_get groups index)) lid) (IsSpreadFrom t groups index) a b (λ from member x y. one_from t groups index from a b fabric x y)) first second

  named_small : (a : Answer) → IsSpreadAnswer group lid t groups a → a.status ≤ 3
  named_small a is =
      after_small (known_group groups group) Reached a
      (λ index. after_small (known_member t (members_in (slice_get groups index)) lid) (IsSpreadFrom t groups index) a (λ from. from_small t groups index from a)) is

  named_exists : IsFabric t → AreKnown t groups → HasRightAnswer (IsSpreadAnswer group lid t groups)
  named_exists fabric known =
      after_exists (known_group groups group) Reached
      (λ index there. after_exists (known_member t (members_in (slice_get groups index)) lid) (IsSpreadFrom t groups index)
      (λ from member. from_exists t groups index from fabric known (is_member t (members_in (slice_get groups index)) lid from member)))

-- ---- by files

module _ (w : Seen) (fabric groups : ℕ) where
  abbrev pub IsMcastTo : Answer → Type 0
  IsMcastTo a = WithFabric w fabric (λ t. WithGroups w t groups (IsMcastAnswer t)) a

  pub mcast_kept : (a : Answer) → IsMcastTo a → WithFabric w fabric (λ t. WithGroups w t groups (PlantsTruly t)) a
  mcast_kept a is =
      fabric_weaker w fabric (λ t. WithGroups w t groups (IsMcastAnswer t)) (λ t. WithGroups w t groups (PlantsTruly t)) a
      (λ t made. groups_weaker w t groups (IsMcastAnswer t) (PlantsTruly t) a made (λ list known. mcast_keeps t list a made known)) is

  module _ (told : IsTold (w.content fabric)) (listed : IsTold (w.content groups)) where
    pub one_mcast_to : (a b : Answer) → IsMcastTo a → IsMcastTo b → a ≡ b
    one_mcast_to a b first second =
        fabric_one w fabric (λ t. WithGroups w t groups (IsMcastAnswer t)) a b told
        (λ t made. groups_one w t groups (IsMcastAnswer t) a b made listed (λ list known. one_mcast t list a b made)) first second

    pub mcast_is_small : (a : Answer) → IsMcastTo a → a.status ≤ 3
    mcast_is_small a is =
        fabric_small w fabric (λ t. WithGroups w t groups (IsMcastAnswer t)) a told
        (λ t. groups_small w t groups (IsMcastAnswer t) a listed (λ list x. omega (arith, done_is_small (groups_text t list x.0) a x.2))) is

    pub mcast_to_exists : HasRightAnswer IsMcastTo
    mcast_to_exists =
        fabric_exists w fabric (λ t. WithGroups w t groups (IsMcastAnswer t)) told
        (λ t made. groups_exist w t groups (IsMcastAnswer t) made listed (λ list known. mcast_exists t list made))

module _ (w : Seen) (fabric groups group lid : ℕ) where
  abbrev pub IsSpreadTo : Answer → Type 0
  IsSpreadTo a = WithFabric w fabric (λ t. WithGroups w t groups (IsSpreadAnswer group lid t)) a

  abbrev KeptSpread : Topology → List Group → Answer → Type 0
  KeptSpread t list a = AfterMember group lid t list (SpreadsTruly t list) a

  pub spread_kept : (a : Answer) → IsSpreadTo a → WithFabric w fabric (λ t. WithGroups w t groups (KeptSpread t)) a
  spread_kept a is =
      fabric_weaker w fabric (λ t. WithGroups w t groups (IsSpreadAnswer group lid t)) (λ t. WithGroups w t groups (KeptSpread t)) a
      (λ t made. groups_weaker w t groups (IsSpreadAnswer group lid t) (KeptSpread t) a made (λ list known. spread_keeps t list group lid a made known)) is

  module _ (told : IsTold (w.content fabric)) (listed : IsTold (w.content groups)) where
    pub one_spread_to : (a b : Answer) → IsSpreadTo a → IsSpreadTo b → a ≡ b
    one_spread_to a b first second =
        fabric_one w fabric (λ t. WithGroups w t groups (IsSpreadAnswer group lid t)) a b told
        (λ t made. groups_one w t groups (IsSpreadAnswer group lid t) a b made listed (λ list known. one_named t list group lid a b made)) first second

    pub spread_is_small : (a : Answer) → IsSpreadTo a → a.status ≤ 3
    spread_is_small a is =
        fabric_small w fabric (λ t. WithGroups w t groups (IsSpreadAnswer group lid t)) a told
        (λ t. groups_small w t groups (IsSpreadAnswer group lid t) a listed (λ list. named_small t list group lid a)) is

    pub spread_to_exists : HasRightAnswer IsSpreadTo
    spread_to_exists =
        fabric_exists w fabric (λ t. WithGroups w t groups (IsSpreadAnswer group lid t)) told
        (λ t made. groups_exist w t groups (IsSpreadAnswer group lid t) made listed (λ list known. named_exists t list group lid made known))
