-- Tables as they are kept: switch after switch and group after group; and what is known of the table of a group.
use Rattle.std.proofs.Common.{◌≡◌, ℕ, ◌+◌, ◌<◌, ◌≤◌, List, [], ◌∷◌, ◌++◌, length, map, take, get_or, Vec, Global, Some, All, Contains, replicate, inl, inr, refl, sym, ◌∙◌, ap, subst, arith}
use Rattle.std.specs.Prelude.{slice_get, slice_index_or}
use Rattle.std.specs.List.{range_with_len}
use Rattle.std.specs.List.Sorted.{IsStrictlyIncreasing}
use Rattle.std.proofs.lemmas.Bool.{cases_lt}
use Rattle.std.proofs.lemmas.List.{take_more, take_all, map-append, get_or-map, length-map, get_or-replicate, get_or_past, length-replicate}
use Rattle.std.proofs.lemmas.List.FromFn.{length-range_with_len, map-range_with_len_more}
use Rattle.std.proofs.lemmas.Option.{slice_get-get_or, get_or_from_slice_get, slice_get_within}
use Rattle.fab_model.specs.declared.rows.TerminalId.{TerminalId}
use Rattle.fab_model.specs.declared.rows.TerminalRow.{TerminalRow}
use Rattle.fab_model.specs.Topology.{Topology}
use Rattle.fab_model.specs.WellFormed.{IsFabric, IsWellFormed}
use Rattle.fab_model.proofs.Faultless.Facts.{from_option_map, slice_get_in}
use Rattle.fab_model.proofs.Lists.Found.{slice_get_some}
use Rattle.fab_model.proofs.Lists.Members.{In, in_all, All_from_in, in_from_Contains, from_map}
use Rattle.fab_escape.specs.Forest.{Forest}
use Rattle.fab_escape.specs.Trees.{IsEscapeForest}
use Rattle.fab_mcast.specs.declared.group_tables.Planted.{Planted as Kept}
use Rattle.fab_mcast.specs.GroupList.{Group, members_of, IsGroup, AreGroups}
use Rattle.fab_mcast.specs.GroupTrees.{Planted, planted, ArePlanted, group_ports, members_in, members_at, entries_in, entries_at}
use Rattle.fab_mcast.specs.Spreads.{first_copy, ReachesMembers}
use Rattle.fab_mcast.specs.Tables.{seen_planted}
use Rattle.fab_mcast.proofs.Planting.{planted_reaches, planted_ends}
use Rattle.fab_mcast.proofs.Spreading.{IsWhole}

-- one more of two lists that are seen alike
pub one_more : {X Y Z : Type 0} (f : X → Z) (g : Y → Z) (xs : List X) (x : X) (ys : List Y) (i : ℕ) (y : Y) → slice_get ys i ≡ Some y → map f xs ≡ map g (take i ys) → f x ≡ g y → map f (xs ++ x ∷ []) ≡ map g (take (i + 1) ys)
one_more {X} {Y} {Z} f g xs x ys i y at so_far same =
    let last : take (i + 1) ys ≡ take i ys ++ y ∷ [] = take_more ys i y (slice_get_within ys i y at) ∙ ap (λ (z : Y). take i ys ++ z ∷ []) (get_or_from_slice_get ys i y y at) in
    map-append f xs (x ∷ []) ∙ ap (λ (zs : List Z). zs ++ f x ∷ []) so_far ∙ ap (λ (z : Z). map g (take i ys) ++ z ∷ []) same
    ∙ sym (ap (λ (zs : List Y). map g zs) last ∙ map-append g (take i ys) (y ∷ []))

map_twice : {X Y Z : Type 0} (f : Y → Z) (g : X → Y) (xs : List X) → map (λ x. f (g x)) xs ≡ map f (map g xs)
map_twice f g [] = refl
map_twice {X} {Y} {Z} f g (x ∷ xs) = ap (λ (zs : List Z). f (g x) ∷ zs) (map_twice f g xs)

-- what stands at a place of a list, seen
pub seen_at : {X Y : Type 0} (f : X → Y) (xs : List X) (i : ℕ) (x : X) → i < length xs → x ≡ get_or xs i x → slice_get (map f xs) i ≡ Some (f x)
seen_at {X} {Y} f xs i x low e =
    slice_get-get_or (map f xs) i (f x) (omega (arith, low, length-map xs f)) ∙ ap (λ (y : Y). Some y) (get_or-map f xs i x (f x) low ∙ ap f (sym e))

-- a list of one value
pub all_alike : {X : Type 0} (n i : ℕ) (x : X) → slice_index_or (replicate n x) i x ≡ x
all_alike n i x = elim (cases_lt i n) [ inl low ↦ get_or-replicate n i x x low | inr past ↦ get_or_past (replicate n x) i x (omega (arith, length-replicate n x, past)) ]

-- ---- one group

-- one switch more
pub one_entry_more : (f : ℕ → List ℕ) (kept : List (Vec ℕ Global)) (ports : Vec ℕ Global) (s : ℕ) → map (λ (ports : Vec ℕ Global). ports.items) kept ≡ map f (range_with_len 0 s) → ports.items ≡ f s →
    map (λ (ports : Vec ℕ Global). ports.items) (kept ++ ports ∷ []) ≡ map f (range_with_len 0 (s + 1))
one_entry_more f kept ports s so_far same =
    map-append (λ (ports : Vec ℕ Global). ports.items) kept (ports ∷ []) ∙ ap (λ (ps : List (List ℕ)). ps ++ ports.items ∷ []) so_far ∙ ap (λ (ps : List ℕ). map f (range_with_len 0 s) ++ ps ∷ []) same
    ∙ sym (map-range_with_len_more f 0 s s (omega arith))

abbrev table : List ℕ → List (List ℕ) → Planted
table members ports = record { members = members; ports = ports }

pub table_is : (t : Topology) (f : Forest) (ids : List TerminalId) (kept : Kept) (count : ℕ) → kept.members.items ≡ ids → count ≡ length t.switches →
    map (λ (ports : Vec ℕ Global). ports.items) kept.ports.items ≡ map (group_ports t f (map (λ (id : TerminalId). id.0) ids)) (range_with_len 0 count) → seen_planted kept ≡ planted t f (map (λ (id : TerminalId). id.0) ids)
table_is t f ids kept count same whole entries =
    ap (λ (ms : List TerminalId). table (map (λ (id : TerminalId). id.0) ms) (map (λ (ports : Vec ℕ Global). ports.items) kept.ports.items)) same
    ∙ ap (λ (ps : List (List ℕ)). table (map (λ (id : TerminalId). id.0) ids) ps) (entries ∙ ap (λ n. map (group_ports t f (map (λ (id : TerminalId). id.0) ids)) (range_with_len 0 n)) whole)

-- ---- all groups

-- the group at a place
pub group_at : (groups : List Group) (i : ℕ) (members : List ℕ) → members_of groups i ≡ Some members → (g : Group) × (slice_get groups i ≡ Some g) × (g.members ≡ members)
group_at groups i members e = from_option_map (λ (g : Group). g.members) (slice_get groups i) members e

pub known_at : (n : ℕ) (groups : List Group) (i : ℕ) (members : List ℕ) → All (λ (g : Group). All (λ m. m < n) g.members) groups → members_of groups i ≡ Some members → All (λ m. m < n) members
known_at n groups i members known e =
    let g : (g : Group) × (slice_get groups i ≡ Some g) × (g.members ≡ members) = group_at groups i members e in
    subst (λ ms. All (λ m. m < n) ms) g.2 (in_all (λ (g : Group). All (λ m. m < n) g.members) groups known g.0 (slice_get_in groups i g.0 g.1))

pub ascending_at : (groups : List Group) (i : ℕ) (members : List ℕ) → AreGroups groups → members_of groups i ≡ Some members → IsStrictlyIncreasing members
ascending_at groups i members are e =
    let g : (g : Group) × (slice_get groups i ≡ Some g) × (g.members ≡ members) = group_at groups i members e in
    let is : IsGroup g.0 = in_all IsGroup groups are.each g.0 (slice_get_in groups i g.0 g.1) in
    subst (λ ms. IsStrictlyIncreasing ms) g.2 is.ascending

-- one group more
pub one_table_more : (t : Topology) (f : Forest) (groups : List Group) (i : ℕ) (members : List ℕ) (list : List Kept) (kept : Kept) → members_of groups i ≡ Some members →
    map seen_planted list ≡ map (λ (g : Group). planted t f g.members) (take i groups) → seen_planted kept ≡ planted t f members →
    map seen_planted (list ++ kept ∷ []) ≡ map (λ (g : Group). planted t f g.members) (take (i + 1) groups)
one_table_more t f groups i members list kept e so_far same =
    let g : (g : Group) × (slice_get groups i ≡ Some g) × (g.members ≡ members) = group_at groups i members e in
    one_more seen_planted (λ (g : Group). planted t f g.members) list kept groups i g.0 g.1 so_far (same ∙ ap (λ ms. planted t f ms) (sym g.2))

-- all groups have their tables
pub all_planted : (t : Topology) (f : Forest) → IsEscapeForest t 0 f → (groups : List Group) (n : ℕ) (tables : List Planted) → length groups ≤ n → tables ≡ map (λ (g : Group). planted t f g.members) (take n groups) →
    ArePlanted t (map (λ (g : Group). g.members) groups) tables
all_planted t f forest groups n tables past e =
    (f, forest, e ∙ ap (λ (gs : List Group). map (λ (g : Group). planted t f g.members) gs) (take_all n groups past) ∙ map_twice (planted t f) (λ (g : Group). g.members) groups)

each_entry : (t : Topology) (f : Forest) (members : List ℕ) → length (planted t f members).ports ≡ length t.switches
each_entry t f members = length-map (range_with_len 0 (length t.switches)) (group_ports t f members) ∙ length-range_with_len 0 (length t.switches)

-- each switch has an entry in a planted group's table
pub entries_each : (t : Topology) (groups : List (List ℕ)) (tables : List Planted) → ArePlanted t groups tables → (g : Planted) → In g tables → length g.ports ≡ length t.switches
entries_each t groups tables are g at =
    let of : (members : List ℕ) × In members groups × (planted t are.0 members ≡ g) = from_map (planted t are.0) groups g (subst (λ xs. In g xs) are.2 at) in
    subst (λ (g : Planted). length g.ports ≡ length t.switches) of.2 (each_entry t are.0 of.0)

pub all_entries : (t : Topology) (groups : List (List ℕ)) (tables : List Planted) → ArePlanted t groups tables → All (λ (g : Planted). length g.ports ≡ length t.switches) tables
all_entries t groups tables are = All_from_in (λ (g : Planted). length g.ports ≡ length t.switches) tables (entries_each t groups tables are)

-- ---- an entry is read

pub entries_told : (list : List Kept) (i : ℕ) (kept : Kept) → i < length list → kept ≡ get_or list i kept → entries_at (map seen_planted list) i ≡ map (λ (ports : Vec ℕ Global). ports.items) kept.ports.items
entries_told list i kept low e = ap entries_in (seen_at seen_planted list i kept low e)

pub entry_told : (list : List Kept) (i s : ℕ) (kept : Kept) (ports : Vec ℕ Global) → i < length list → kept ≡ get_or list i kept → s < length kept.ports.items → ports ≡ get_or kept.ports.items s ports →
    slice_get (entries_at (map seen_planted list) i) s ≡ Some ports.items
entry_told list i s kept ports low e low_s e_s = ap (λ (es : List (List ℕ)). slice_get es s) (entries_told list i kept low e) ∙ seen_at (λ (ports : Vec ℕ Global). ports.items) kept.ports.items s ports low_s e_s

-- ---- a group of the tables

module _ (t : Topology) (tables : List Planted) (are : ArePlanted t (map (λ (g : Planted). g.members) tables) tables) (index : ℕ) (low : index < length tables) where
  group : (g : Planted) × (slice_get tables index ≡ Some g)
  group = slice_get_some tables index low

  members_are : group.0.members ≡ members_at tables index
  members_are = ap members_in (sym group.1)

  entries_are : group.0.ports ≡ entries_at tables index
  entries_are = ap entries_in (sym group.1)

  pub group_entries : length (entries_at tables index) ≡ length t.switches
  group_entries = ap (λ (ps : List (List ℕ)). length ps) (sym entries_are) ∙ entries_each t (map (λ (g : Planted). g.members) tables) tables are group.0 (slice_get_in tables index group.0 group.1)

  module _ (known : All (λ (g : Planted). All (λ n. n < length t.terminals) g.members) tables) (from : ℕ) (has : Contains (members_at tables index) from) where
    inside : Contains group.0.members from
    inside = subst (λ ms. Contains ms from) (sym members_are) has

    small : All (λ n. n < length t.terminals) group.0.members
    small = in_all (λ (g : Planted). All (λ n. n < length t.terminals) g.members) tables known group.0 (slice_get_in tables index group.0 group.1)

    pub member_low : from < length t.terminals
    member_low = in_all (λ n. n < length t.terminals) group.0.members small from (in_from_Contains group.0.members from inside)

    pub group_reaches : IsFabric t → ReachesMembers t (members_at tables index) (entries_at tables index) from
    group_reaches is =
        subst (λ ms. ReachesMembers t ms (entries_at tables index) from) members_are (subst (λ ps. ReachesMembers t group.0.members ps from) entries_are
        (planted_reaches t (map (λ (g : Planted). g.members) tables) tables index group.0 from is are group.1 small inside))

    -- all copies of its first copy come in so many steps as there are switches
    pub group_whole : IsFabric t → (good : IsWellFormed t) (row : TerminalRow) → slice_get t.terminals from ≡ Some row → IsWhole t good (entries_at tables index) (first_copy row)
    group_whole is good row at = subst (λ ps. IsWhole t good ps (first_copy row)) entries_are (planted_ends t (map (λ (g : Planted). g.members) tables) tables index group.0 from row is are group.1 inside at)
