-- Plans that fit, and one statement more.
use Rattle.std.proofs.Common.{ℕ, ◌*◌, ◌<◌, length, length-set, Some, None, Option, refl, ◌∙◌, arith}
use Rattle.std.proofs.lemmas.List.{length-replicate}
use Rattle.std.proofs.lemmas.List.Elements.{All-set, All-replicate}
use Rattle.fab_model.specs.Topology.{Topology, lids_of}
use Rattle.fab_model.specs.WellFormed.{IsFabric}
use Rattle.fab_tables.specs.Entries.{Entries, cell, with_port_in_column, no_entries}
use Rattle.fab_tables.specs.Fit.{EntriesFit}
use Rattle.fab_tables.proofs.Joined.Ascending.{lids_are}

pub entries_fit : (t : Topology) (e : Entries) (s port : ℕ) (place : Option ℕ) → port < 256 → EntriesFit t e → EntriesFit t (with_port_in_column e s port place)
entries_fit t e s port None low h = h
entries_fit t e s port (Some i) low h = record {
  whole = record {
    ascending = h.whole.ascending;
    whole = length-set e.ports (cell e.switches i s) port ∙ h.whole.whole;
    low_lids = h.whole.low_lids;
    low_ports = All-set (λ p. p < 256) e.ports (cell e.switches i s) port low h.whole.low_ports;
  };
  switches = h.switches;
  in_use = h.in_use;
}

-- tables of which nothing was said
pub no_entries_fit : (t : Topology) → IsFabric t → EntriesFit t (no_entries (length t.switches) (lids_of t))
no_entries_fit t h = record {
  whole = record {
    ascending = (lids_are t h).ascending;
    whole = length-replicate (length (lids_of t) * length t.switches) 255;
    low_lids = (lids_are t h).fit;
    low_ports = All-replicate (λ p. p < 256) (length (lids_of t) * length t.switches) 255 (omega arith);
  };
  switches = refl;
  in_use = refl;
}
