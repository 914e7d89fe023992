-- The ways that are marked in a group's tree: from members to the first member of their component.
use Rattle.std.specs.Prelude.{◌≡◌, ℕ, true, false, ◌<◌, ◌⊎◌, ◌&&◌, ◌==◌, Bool, List, length, Option, Some, None, Contains, slice_index_or}
use Rattle.fab_model.specs.declared.rows.TerminalRow.{TerminalRow}
use Rattle.fab_model.specs.Topology.{Topology}
use Rattle.fab_tables.specs.Route.{tip}
use Rattle.fab_escape.specs.Forest.{Forest, root_of, escape_next}
use Rattle.fab_mcast.specs.GroupTrees.{escape_route, member_rows}

-- whether a switch is marked
abbrev pub is_passed : List Bool → ℕ → Bool
is_passed passed s = slice_index_or passed s false

-- the switch of the first member in a switch's component
abbrev pub home_of : Forest → List (Option ℕ) → ℕ → Option ℕ
home_of f homes s = slice_index_or homes (root_of f s) None

-- The way from a switch home is marked, beside what was marked before.
pub record HasMarkedWay (t : Topology) (f : Forest) (from home : ℕ) (old new : List Bool) : Type 0 where
  pub each : length new ≡ length old
  pub kept : (s : ℕ) → is_passed old s ≡ true → is_passed new s ≡ true
  pub start : is_passed new from ≡ true
  pub closed : (s c : ℕ) → is_passed old s ≡ false → is_passed new s ≡ true → escape_next f s home ≡ Some c → is_passed new (tip t c) ≡ true
  pub on_way : (s : ℕ) → is_passed new s ≡ true → (is_passed old s ≡ true) ⊎ ((root_of f s ≡ root_of f home) × ((c : ℕ) → escape_next f s home ≡ Some c → Contains (escape_route t f from home) c))

-- where the way of a marked switch leads, and a member whose way it is on
pub record IsOnWay (t : Topology) (f : Forest) (members : List ℕ) (homes : List (Option ℕ)) (s : ℕ) : Type 0 where
  pub member : TerminalRow
  pub home : ℕ
  pub is_member : Contains (member_rows t members) member
  pub same : root_of f s ≡ root_of f member.switch.0
  pub is_home : home_of f homes s ≡ Some home
  pub goes : (c : ℕ) → escape_next f s home ≡ Some c → Contains (escape_route t f member.switch.0 home) c

-- a member's component has a home, and the member's switch is marked
pub record IsHoused (f : Forest) (homes : List (Option ℕ)) (passed : List Bool) (member : TerminalRow) : Type 0 where
  pub home : ℕ
  pub is_home : home_of f homes member.switch.0 ≡ Some home
  pub marked : is_passed passed member.switch.0 ≡ true

-- the home of a component is a member's switch there
pub record IsHome (t : Topology) (f : Forest) (members : List ℕ) (root home : ℕ) : Type 0 where
  pub member : TerminalRow
  pub is_member : Contains (member_rows t members) member
  pub there : member.switch.0 ≡ home
  pub same : root_of f home ≡ root

-- the ways from all members to the first one of their component are marked, and nothing else is
pub record IsMarkedTree (t : Topology) (f : Forest) (members : List ℕ) (homes : List (Option ℕ)) (passed : List Bool) : Type 0 where
  pub each_home : length homes ≡ length t.switches
  pub each_passed : length passed ≡ length t.switches
  pub homes_are : (root home : ℕ) → slice_index_or homes root None ≡ Some home → IsHome t f members root home
  pub housed : (member : TerminalRow) → Contains (member_rows t members) member → IsHoused f homes passed member
  pub closed : (s home c : ℕ) → is_passed passed s ≡ true → home_of f homes s ≡ Some home → escape_next f s home ≡ Some c → is_passed passed (tip t c) ≡ true
  pub on_way : (s : ℕ) → is_passed passed s ≡ true → IsOnWay t f members homes s

-- the channel is this one
abbrev pub goes_by : Option ℕ → ℕ → Bool
goes_by None c = false
goes_by (Some d) c = d == c

-- the way home from a switch goes on by the channel
abbrev pub leads_home : Forest → ℕ → ℕ → Option ℕ → Bool
leads_home f s c None = false
leads_home f s c (Some home) = goes_by (escape_next f s home) c

-- the same, and the switch is marked
abbrev pub leads_by : Forest → List (Option ℕ) → List Bool → ℕ → ℕ → Bool
leads_by f homes passed s c = is_passed passed s && leads_home f s c (home_of f homes s)

-- homes are found for each switch, and they are switches; each switch is marked or isn't
pub record FitsForest (f : Forest) (homes : List (Option ℕ)) (passed : List Bool) : Type 0 where
  pub roots : (s : ℕ) → s < length f.roots → root_of f s < length homes
  pub homes_low : (root home : ℕ) → slice_index_or homes root None ≡ Some home → home < length f.roots
  pub each : length passed ≡ length f.roots
