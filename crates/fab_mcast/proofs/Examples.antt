-- Groups of RING5: their lists, the ports of their trees, and the copies of a packet. The expected values are those of an independent program.
use Rattle.std.proofs.Common.{◌≡◌, ℕ, List, [], ◌∷◌, codes, refl}
use Rattle.std.specs.Prelude.{Some, None, Ok, Err}
use Rattle.fab_tables.proofs.Examples.MoreFabrics.{ring5}
use Rattle.fab_tables.proofs.Examples.Fabrics.{terminal}
use Rattle.fab_escape.specs.declared.links.Link.{Link}
use Rattle.fab_escape.specs.Forest.{Forest}
use Rattle.fab_mcast.specs.declared.fault.GroupFault.TheVariants.{BadLine, TwiceGroup, UnknownMember}
use Rattle.fab_mcast.specs.GroupList.{Group, groups_in}
use Rattle.fab_mcast.specs.GroupTrees.{planted}
use Rattle.fab_mcast.specs.Copies.{Copy}
use Rattle.fab_mcast.specs.Spreads.{AreCopies, reached}

abbrev link : ℕ → ℕ → ℕ → Link
link up down parent = record { channel = up; reverse = down; parent = parent }

-- the escape tree of lane 0: switches 1 and 4 are linked to the root 0, 2 to 1, and 3 to 4
abbrev forest : Forest
forest = record {
  roots = 0 ∷ 0 ∷ 0 ∷ 0 ∷ 0 ∷ [];
  links = None ∷ Some (link 3 0 0) ∷ Some (link 5 2 1) ∷ Some (link 6 9 4) ∷ Some (link 8 1 0) ∷ [];
}

-- the terminals of LIDs 6, 8 and 9
abbrev members : List ℕ
members = 0 ∷ 2 ∷ 3 ∷ []

abbrev ports : List (List ℕ)
ports = (1 ∷ 2 ∷ 3 ∷ []) ∷ (1 ∷ 2 ∷ []) ∷ (2 ∷ 3 ∷ []) ∷ (1 ∷ 3 ∷ []) ∷ (1 ∷ 2 ∷ []) ∷ []

ports_of_tree : (planted ring5 forest members).ports ≡ ports
ports_of_tree = refl

-- one member alone has no cable
alone : (planted ring5 forest (2 ∷ [])).ports ≡ [] ∷ [] ∷ (3 ∷ []) ∷ [] ∷ [] ∷ []
alone = refl

abbrev copy : ℕ → ℕ → Copy
copy at from = record { at = at; from = from }

-- from LID 8: to switch 1, to the root, to switch 4, to switch 3, and there is no more
abbrev all_copies : List Copy
all_copies = copy 2 3 ∷ copy 1 1 ∷ copy 0 1 ∷ copy 4 1 ∷ copy 3 1 ∷ []

are_copies : AreCopies ring5 ports (terminal 8 2 3) all_copies
are_copies = record { steps = 5; are = refl; no_more = refl }

-- the terminals of LIDs 6 and 9
reached_from_8 : reached ring5 ports all_copies ≡ 0 ∷ 3 ∷ []
reached_from_8 = refl

-- ---- lists

abbrev group : ℕ → List ℕ → Group
group number members = record { number = number; members = members }

one_group : groups_in ring5 (codes "0xc000 6 8 9") ≡ Ok (group 0xc000 members ∷ [])
one_group = refl

-- in any order, twice, and in hexadecimal digits
in_hexadecimal : groups_in ring5 (codes "0xC000 0x9 6\t\t8  0x0006 08\n") ≡ Ok (group 0xc000 members ∷ [])
in_hexadecimal = refl

passed_over : groups_in ring5 (codes "\n# x\n0xfffe 10\n\n0xc001 7") ≡ Ok (group 0xfffe (4 ∷ []) ∷ group 0xc001 (1 ∷ []) ∷ [])
passed_over = refl

trailing_blank : groups_in ring5 (codes "0xc000 6 ") ≡ Err (BadLine 1)
trailing_blank = refl

leading_blank : groups_in ring5 (codes "\n 0xc000 6") ≡ Err (BadLine 2)
leading_blank = refl

blank_line : groups_in ring5 (codes " \n") ≡ Err (BadLine 1)
blank_line = refl

no_member : groups_in ring5 (codes "0xc000") ≡ Err (BadLine 1)
no_member = refl

below : groups_in ring5 (codes "0xbfff 6") ≡ Err (BadLine 1)
below = refl

above : groups_in ring5 (codes "0xffff 6") ≡ Err (BadLine 1)
above = refl

five_digits : groups_in ring5 (codes "0x0c000 6") ≡ Err (BadLine 1)
five_digits = refl

great_lid : groups_in ring5 (codes "0xc000 65536") ≡ Err (BadLine 1)
great_lid = refl

given_twice : groups_in ring5 (codes "0xc000 6\n0xc000 1") ≡ Err (TwiceGroup 2)
given_twice = refl

-- a switch's LID, LID 0, and one not in use
of_switch : groups_in ring5 (codes "0xc000 6 1") ≡ Err (UnknownMember 1)
of_switch = refl

zero_lid : groups_in ring5 (codes "0xc000 0") ≡ Err (UnknownMember 1)
zero_lid = refl

not_in_use : groups_in ring5 (codes "0xc000 65535") ≡ Err (UnknownMember 1)
not_in_use = refl

-- a bad line comes before the others on it, and an earlier line before a later one
first_line : groups_in ring5 (codes "0xc000 1\n0xc000 x") ≡ Err (UnknownMember 1)
first_line = refl
