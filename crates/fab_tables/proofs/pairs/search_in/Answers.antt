use Rattle.std.proofs.Common.{◌∙◌, ap}
use Rattle.std.proofs.lemmas.List.{get_or_default}
use Rattle.fab_tables.specs.LaneTables.{pair_key}
use Rattle.fab_tables.proofs.Rows.PairRows.{goes_there}
use Rattle.fab_tables.proofs.pairs.search_in.Goals as goal

pub returns-in_default-clause-missing : goal.returns-in_default-clause-missing
returns-in_default-clause-missing c =
    let at = c.place_in-place.ensures in
    goes_there c.args.rows.now.items c.requires c.args.key c.place_in-place.result c.in-Some.row.now at.within at.below at.above
    (λ d h e. c.if-key_of_row-key.false (c.key_of_row.ensures ∙ ap pair_key (c.in-Some.ensures.lookup ∙ get_or_default c.args.rows.now.items c.place_in-place.result c.in-Some.row.now d h) ∙ e))
