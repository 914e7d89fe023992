use Rattle.std.proofs.Common.{◌∙◌}
use Rattle.fab_model.proofs.Finds.{number_given}
use Rattle.fab_model.proofs.building.number_by_guid.Goals as goal

pub returns-clause-number : goal.returns-clause-number
returns-clause-number g c = λ key computes rise.
    c.unwrap_or.ensures ∙ number_given key c.args.guid c.args.rows.now c.binary_search_by_key.result rise c.binary_search_by_key.ensures.bound (c.binary_search_by_key.ensures.position key computes)
