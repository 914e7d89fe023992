-- Walks of channels go both ways, and one after the other.
use Rattle.std.proofs.Common.{ℕ, zero, suc, refl, sym, subst, Contains}
use Rattle.std.proofs.lemmas.List.Elements.{All-contains}
use Rattle.fab_model.specs.Walks.{Walk}
use Rattle.fab_model.specs.declared.rows.ChannelRow.{ChannelRow}
use Rattle.fab_model.specs.Topology.{Topology, reversed}
use Rattle.fab_model.specs.Connected.{LeadsTo, AreConnected}
use Rattle.fab_model.specs.WellFormed.{IsWellFormed}

walk_on : (t : Topology) (n a b c : ℕ) → Walk (LeadsTo t) n a b → LeadsTo t b c → Walk (LeadsTo t) (suc n) a c
walk_on t zero a b c w leads = (c, subst (λ x. LeadsTo t x c) (sym w) leads, refl)
walk_on t (suc n) a b c w leads = (w.0, w.1, walk_on t n w.0 b c w.2 leads)

pub connected_on : (t : Topology) (a b c : ℕ) → AreConnected t a b → LeadsTo t b c → AreConnected t a c
connected_on t a b c w leads = (suc w.0, walk_on t w.0 a b c w.1 leads)

pub reverse_there : (t : Topology) → IsWellFormed t → (row : ChannelRow) → Contains t.channels row → Contains t.channels (reversed row)
reverse_there t good row has = All-contains (λ r. Contains t.channels (reversed r)) t.channels row good.reverses has

leads_back : (t : Topology) → IsWellFormed t → (a b : ℕ) → LeadsTo t a b → LeadsTo t b a
leads_back t good a b leads = (reversed leads.0, reverse_there t good leads.0 leads.1, leads.3, leads.2)

walk_back : (t : Topology) → IsWellFormed t → (n a b : ℕ) → Walk (LeadsTo t) n a b → AreConnected t b a
walk_back t good zero a b w = (0, sym w)
walk_back t good (suc n) a b w = connected_on t b w.0 a (walk_back t good n w.0 b w.2) (leads_back t good a w.0 w.1)

pub connected_back : (t : Topology) → IsWellFormed t → (a b : ℕ) → AreConnected t a b → AreConnected t b a
connected_back t good a b w = walk_back t good w.0 a b w.1

walk_through : (t : Topology) (n a b c : ℕ) → Walk (LeadsTo t) n a b → AreConnected t b c → AreConnected t a c
walk_through t zero a b c w v = subst (λ x. AreConnected t x c) (sym w) v
walk_through t (suc n) a b c w v = let r : AreConnected t w.0 c = walk_through t n w.0 b c w.2 v in (suc r.0, (w.0, w.1, r.1))

pub connected_through : (t : Topology) (a b c : ℕ) → AreConnected t a b → AreConnected t b c → AreConnected t a c
connected_through t a b c w v = walk_through t w.0 a b c w.1 v
