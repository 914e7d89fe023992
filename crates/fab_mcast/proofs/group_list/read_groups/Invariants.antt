use Rattle.std.proofs.Common.{◌≡◌, ◌==◌, ◌-◌, ◌<◌, ◌≤◌, ℕ, nat_eq, length, map, All}
use Rattle.std.specs.List.{list_any}
use Rattle.std.specs.HashSet.{contains}
use Rattle.fab_mcast.specs.GroupList.{Group, groups_in, AreGroups}
use Rattle.fab_mcast.specs.Reading.{seen_group}
use Rattle.fab_mcast.proofs.ReadingGroups.{groups_left}
use Rattle.fab_mcast.proofs.group_list.read_groups.Given as goal

abbrev pub invariant-loop-found : goal.invariant-loop-found
invariant-loop-found l = record {
  rest : groups_left l.fabric (map seen_group l.list.items) l.line l.text l.from ≡ groups_in l.fabric l.fn.text;
  numbers : (n : ℕ) → contains nat_eq l.numbers n ≡ list_any (λ (g : Group). g.number == n) (map seen_group l.list.items);
  are : AreGroups (map seen_group l.list.items);
  known : All (λ (g : Group). All (λ n. n < length l.fabric.terminals) g.members) (map seen_group l.list.items);
  few : length l.list.items ≤ l.line;
  count : l.line ≤ l.from;
  within : l.from ≤ length l.text;
}

abbrev pub decreases-loop-found : goal.decreases-loop-found
decreases-loop-found l = length l.text - l.from
