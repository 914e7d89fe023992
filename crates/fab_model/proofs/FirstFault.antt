-- The first fault is that of the nodes, of the links or of the LIDs, whichever comes first.
pub mod Ends
pub mod Guids
pub mod Lids
pub mod Lines
pub mod Repeats
pub mod Stated
use Rattle.std.proofs.Common.{◌≡◌, true, false, List, [], ◌∷◌, ◌++◌, Option, Some, None, Result, Ok, Err, refl, sym, ap, ◌∙◌, subst}
use Rattle.std.specs.Option.{option_or}
use Rattle.fab_text.specs.Readings.{Unless, Gives}
use Rattle.fab_model.specs.declared.fault.FabricFault.{FabricFault}
use Rattle.fab_model.specs.Records.{Records}
use Rattle.fab_model.specs.Faults.{first_of, first_fault}
use Rattle.fab_model.specs.Built.{wants_memory, topology_of, unless_faulty, built}
use Rattle.fab_model.specs.FirstFault.{FindsFault, node_rows, link_rows, lid_rows}

option_or-assoc : {X : Type 0} (a b c : Option X) → option_or (option_or a b) c ≡ option_or a (option_or b c)
option_or-assoc None b c = refl
option_or-assoc (Some x) b c = refl

first_of-append : {X : Type 0} (xs ys : List (Option X)) → first_of (xs ++ ys) ≡ option_or (first_of xs) (first_of ys)
first_of-append [] ys = refl
first_of-append (x ∷ xs) ys = ap (option_or x) (first_of-append xs ys) ∙ sym (option_or-assoc x (first_of xs) (first_of ys))

pub first_fault_parts : (records : Records) → first_fault records ≡ option_or (first_of (node_rows records)) (option_or (first_of (link_rows records)) (first_of (lid_rows records)))
unfolding first_fault
first_fault_parts records = first_of-append (node_rows records) (link_rows records ++ lid_rows records) ∙ ap (option_or (first_of (node_rows records))) (first_of-append (link_rows records) (lid_rows records))

-- what is found first, and what is found where there is nothing before
pub found_first : (e : FabricFault) (first rest : Option FabricFault) → FindsFault {X = Unit {0}} (Err e) first → FindsFault {X = Unit {0}} (Err e) (option_or first rest)
found_first e first rest = elim (wants_memory e) as (λ free. Unless free (first ≡ Some e) → Unless free (option_or first rest ≡ Some e)) [
  | true ↦ λ told. tt
  | false ↦ λ told. ap (λ found. option_or found rest) told
]

pub found_rest : (result : Result (Unit {0}) FabricFault) (first rest : Option FabricFault) → first ≡ None → FindsFault result rest → FindsFault result (option_or first rest)
found_rest result first rest none told = subst (λ found. FindsFault result (option_or found rest)) (sym none) told

-- for `Fabric::build`: what the search answers, said of the fabric of the records
pub built_unless_found : (records : Records) (none : Unit {0}) → FindsFault (Ok none) (first_fault records) → built records ≡ Ok (topology_of records)
built_unless_found records none told = ap (λ found. unless_faulty found (topology_of records)) told

pub gives_found : (records : Records) (e : FabricFault) → FindsFault {X = Unit {0}} (Err e) (first_fault records) → Gives wants_memory (Err e) (built records)
gives_found records e = elim (wants_memory e) as (λ free. Unless free (first_fault records ≡ Some e) → Unless free (built records ≡ Err e)) [
  | true ↦ λ told. tt
  | false ↦ λ told. ap (λ found. unless_faulty found (topology_of records)) told
]
