-- What the tables of groups keep of the groups: their members, in the order of the groups.
use Rattle.std.proofs.Common.{◌≡◌, ℕ, ◌<◌, List, [], ◌∷◌, length, map, Option, Some, None, All, refl, sym, ◌∙◌, ap, subst}
use Rattle.std.specs.Prelude.{slice_get, option_map}
use Rattle.std.proofs.lemmas.List.{length-map}
use Rattle.std.proofs.lemmas.Option.{slice_get-map}
use Rattle.fab_model.specs.Topology.{Topology}
use Rattle.fab_model.proofs.Lists.Members.{In, All_from_in, in_all, from_map}
use Rattle.fab_model.proofs.Lists.Found.{slice_get_some}
use Rattle.fab_model.proofs.Faultless.Facts.{slice_get_in}
use Rattle.fab_escape.specs.Forest.{Forest}
use Rattle.fab_mcast.specs.GroupList.{Group, members_of}
use Rattle.fab_mcast.specs.GroupTrees.{Planted, planted, ArePlanted, entries_in, entries_at, members_in, members_at}

members_kept : (t : Topology) (f : Forest) (groups : List (List ℕ)) → map (λ (g : Planted). g.members) (map (planted t f) groups) ≡ groups
members_kept t f [] = refl
members_kept t f (group ∷ groups) = ap (λ (rest : List (List ℕ)). group ∷ rest) (members_kept t f groups)

pub own_members : (t : Topology) (groups : List (List ℕ)) (tables : List Planted) → ArePlanted t groups tables → map (λ (g : Planted). g.members) tables ≡ groups
own_members t groups tables are = ap (λ (all : List Planted). map (λ (g : Planted). g.members) all) are.2 ∙ members_kept t are.0 groups

-- they are the tables of their own members
pub planted_by_own : (t : Topology) (groups : List (List ℕ)) (tables : List Planted) → ArePlanted t groups tables → ArePlanted t (map (λ (g : Planted). g.members) tables) tables
planted_by_own t groups tables are = subst (λ (all : List (List ℕ)). ArePlanted t all tables) (sym (own_members t groups tables are)) are

-- a table has the members of the group at its place
pub members_there : (t : Topology) (groups : List (List ℕ)) (tables : List Planted) (index : ℕ) (members : List ℕ) → ArePlanted t groups tables → slice_get groups index ≡ Some members → members_at tables index ≡ members
members_there t groups tables index members are at =
    ap (λ (all : List Planted). members_at all index) are.2 ∙ ap (λ o. members_in o) (slice_get-map (planted t are.0) groups index ∙ ap (λ o. option_map (planted t are.0) o) at)

-- and where all groups have known members, all tables have
pub known_there : (t : Topology) (groups : List (List ℕ)) (tables : List Planted) → ArePlanted t groups tables → All (λ members. All (λ n. n < length t.terminals) members) groups →
    All (λ (g : Planted). All (λ n. n < length t.terminals) g.members) tables
known_there t groups tables are known = All_from_in (λ (g : Planted). All (λ n. n < length t.terminals) g.members) tables (λ g at.
    let of : (members : List ℕ) × In members groups × (planted t are.0 members ≡ g) = from_map (planted t are.0) groups g (subst (λ (all : List Planted). In g all) are.2 at) in
    subst (λ (x : Planted). All (λ n. n < length t.terminals) x.members) of.2 (in_all (λ members. All (λ n. n < length t.terminals) members) groups known of.0 of.1))

pub count_same : (t : Topology) (groups : List (List ℕ)) (tables : List Planted) → ArePlanted t groups tables → length tables ≡ length groups
count_same t groups tables are = ap (λ (all : List Planted). length all) are.2 ∙ length-map groups (planted t are.0)

-- where each table has so many entries, the one at a place has
pub entry_count : (tables : List Planted) (index count : ℕ) → All (λ (g : Planted). length g.ports ≡ count) tables → index < length tables → length (entries_at tables index) ≡ count
entry_count tables index count each low = of (slice_get_some tables index low)
  where
    of : (group : Planted) × (slice_get tables index ≡ Some group) → length (entries_at tables index) ≡ count
    of x = ap (λ o. length (entries_in o)) x.1 ∙ in_all (λ (g : Planted). length g.ports ≡ count) tables each x.0 (slice_get_in tables index x.0 x.1)

-- ---- the groups of a list

abbrev pub members_by : List Group → List (List ℕ)
members_by groups = map (λ (g : Group). g.members) groups

pub known_by : (count : ℕ) (groups : List Group) → All (λ (g : Group). All (λ n. n < count) g.members) groups → All (λ members. All (λ n. n < count) members) (members_by groups)
known_by count groups known = All_from_in (λ members. All (λ n. n < count) members) (members_by groups) (λ members at.
    let of : (g : Group) × In g groups × (g.members ≡ members) = from_map (λ (g : Group). g.members) groups members at in
    subst (λ ms. All (λ n. n < count) ms) of.2 (in_all (λ (g : Group). All (λ n. n < count) g.members) groups known of.0 of.1))

pub listed_members : (t : Topology) (groups : List Group) (tables : List Planted) (index : ℕ) (members : List ℕ) → ArePlanted t (members_by groups) tables → members_of groups index ≡ Some members → members_at tables index ≡ members
listed_members t groups tables index members are at = members_there t (members_by groups) tables index members are (slice_get-map (λ (g : Group). g.members) groups index ∙ at)
