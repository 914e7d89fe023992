use Rattle.std.proofs.Common.{◌≡◌, Bool, not, map, take}
use Rattle.std.specs.Prelude.{filter}
use Rattle.fab_model.specs.declared.rows.ChannelRow.{ChannelRow}
use Rattle.fab_model.proofs.fabric.without.unlisted.Given as goal

abbrev pub invariant-loop-index : goal.invariant-loop-index
invariant-loop-index l =
    (is_listed : ChannelRow → Bool) → l.listed ≡ map is_listed l.rows → l.kept.items ≡ filter (λ row. not (is_listed row)) (take l.index l.rows)
