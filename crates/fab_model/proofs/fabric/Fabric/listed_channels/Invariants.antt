use Rattle.std.proofs.Common.{◌≡◌, ℕ, ◌<◌, false, map, take, get_or}
use Rattle.fab_model.specs.declared.rows.Cable.{Cable}
use Rattle.fab_model.specs.Without.{is_listed, is_unknown}
use Rattle.fab_model.proofs.fabric.Fabric.listed_channels.Given as goal

abbrev pub invariant-loop-index : goal.invariant-loop-index
invariant-loop-index l = record {
  listed : l.listed.items ≡ map (is_listed l.self (take l.index l.failed)) l.self.channels;
  known : (k : ℕ) (d : Cable) → k < l.index → is_unknown l.self (get_or l.failed k d) ≡ false;
}
