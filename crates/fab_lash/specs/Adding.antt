-- Dependencies that come to a list, each once.
use Rattle.std.specs.Prelude.{◌==◌, ◌≤◌, ◌++◌, ◌∷◌, [], List, if◌then◌else◌}
use Rattle.std.specs.List.{fold}
use Rattle.fab_depgraph.specs.declared.dep.Dep.{Dep}
use Rattle.fab_depgraph.specs.Listed.{times_listed}

-- the list with a dependency, at its end where it stands there not yet
abbrev pub with_dep : List Dep → Dep → List Dep
with_dep listed d = if times_listed listed d == 0 then listed ++ d ∷ [] else listed

-- with several, one after the other
abbrev pub with_deps : List Dep → List Dep → List Dep
with_deps listed deps = fold with_dep listed deps

-- no dependency stands in the list twice
abbrev pub ListsOnce : List Dep → Type 0
ListsOnce listed = (d : Dep) → times_listed listed d ≤ 1
