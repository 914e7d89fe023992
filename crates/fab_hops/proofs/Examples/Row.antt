-- Three switches in a row, and their table of hop counts: it is two hops from the first to the third.
use Rattle.std.proofs.Common.{◌≡◌, ◌≢◌, ℕ, zero, suc, ◌<◌, ◌≤◌, [], ◌∷◌, ◌⊎◌, inl, inr, Some, refl, arith}
use Rattle.std.specs.Prelude.{All, MatchOption}
use Rattle.std.proofs.lemmas.List.Elements.{All-from_recursion, All-contains}
use Rattle.fab_graph.specs.Walks.{Walk}
use Rattle.fab_model.specs.declared.rows.SwitchRow.{SwitchRow}
use Rattle.fab_model.specs.declared.rows.ChannelRow.{ChannelRow}
use Rattle.fab_model.specs.Topology.{Topology}
use Rattle.fab_model.specs.Connected.{LeadsTo, AreConnected}
use Rattle.fab_hops.specs.HopCounts.{IsHopCount, HopTable, AreHops, hop_count}
use Rattle.fab_hops.proofs.HopWalks.{no_hops}

abbrev switch : ℕ → ℕ → SwitchRow
switch guid lid = record { guid = guid; lid = record { 0 = lid }; ports = 4; desc = [] }

abbrev channel : ℕ → ℕ → ℕ → ℕ → ChannelRow
channel a port b tip_port = record { tail = record { 0 = a }; port = port; tip = record { 0 = b }; tip_port = tip_port }

abbrev pub row : Topology
row = record {
  switches = switch 0x10 1 ∷ switch 0x11 2 ∷ switch 0x12 3 ∷ [];
  adapters = [];
  channels = channel 0 1 1 1 ∷ channel 1 1 0 1 ∷ channel 1 2 2 1 ∷ channel 2 1 1 2 ∷ [];
  terminals = [];
}

abbrev pub row_hops : HopTable
row_hops = record { switches = 3; counts = Some 0 ∷ Some 1 ∷ Some 2 ∷ Some 1 ∷ Some 0 ∷ Some 1 ∷ Some 2 ∷ Some 1 ∷ Some 0 ∷ [] }

pub first_to_third : hop_count row_hops 0 2 ≡ Some 2
first_to_third = refl

pub first_to_second : LeadsTo row 0 1
first_to_second = (channel 0 1 1 1, (0, omega arith, refl), refl, refl)

pub second_to_first : LeadsTo row 1 0
second_to_first = (channel 1 1 0 1, (1, omega arith, refl), refl, refl)

pub second_to_third : LeadsTo row 1 2
second_to_third = (channel 1 2 2 1, (2, omega arith, refl), refl, refl)

pub third_to_second : LeadsTo row 2 1
third_to_second = (channel 2 1 1 2, (3, omega arith, refl), refl, refl)

-- each channel leads to a switch of the row that is next to its own
abbrev LeadsNext : ChannelRow → Type 0
LeadsNext c = (c.tip.0 < 3) × ((c.tip.0 ≡ suc c.tail.0) ⊎ (c.tail.0 ≡ suc c.tip.0))

all_lead_next : All LeadsNext row.channels
all_lead_next = All-from_recursion LeadsNext row.channels ((omega arith, inl refl), ((omega arith, inr refl), ((omega arith, inl refl), ((omega arith, inr refl), tt))))

leads_next : (a b : ℕ) → LeadsTo row a b → (b ≡ suc a) ⊎ (a ≡ suc b)
leads_next a b leads = elim (All-contains LeadsNext row.channels leads.0 all_lead_next leads.1).1 [ inl e ↦ inl (omega (arith, e, leads.2, leads.3)) | inr e ↦ inr (omega (arith, e, leads.2, leads.3)) ]

pub walks_within : (m a b : ℕ) → a < 3 → Walk (LeadsTo row) m a b → b < 3
walks_within zero a b low w = omega (arith, low, w)
walks_within (suc m) a b low w = walks_within m w.0 b (omega (arith, (All-contains LeadsNext row.channels w.1.0 all_lead_next w.1.1).0, w.1.3)) w.2

one_hop : (a b : ℕ) → a ≢ b → LeadsTo row a b → IsHopCount row a b 1
one_hop a b ne leads = record { holds = (b, leads, refl); least = least }
  where
    least : (m : ℕ) → Walk (LeadsTo row) m a b → 1 ≤ m
    least zero w = absurd (ne w)
    least (suc m) w = omega arith

two_hops : (a b c : ℕ) → a ≢ c → c ≢ suc a → a ≢ suc c → LeadsTo row a b → LeadsTo row b c → IsHopCount row a c 2
two_hops a b c ne up down first second = record { holds = (b, first, (c, second, refl)); least = least }
  where
    least : (m : ℕ) → Walk (LeadsTo row) m a c → 2 ≤ m
    least zero w = absurd (ne w)
    least (suc zero) w = elim (leads_next a w.0 w.1) [ inl e ↦ absurd (up (omega (arith, e, w.2))) | inr e ↦ absurd (down (omega (arith, e, w.2))) ]
    least (suc (suc m)) w = omega arith

pub third_from_first : IsHopCount row 0 2 2
third_from_first = two_hops 0 1 2 (λ e. omega (arith, e)) (λ e. omega (arith, e)) (λ e. omega (arith, e)) first_to_second second_to_third

counts : (from to : ℕ) → from < 3 → to < 3 → MatchOption (hop_count row_hops from to) (¬ AreConnected row from to) (λ n. IsHopCount row from to n)
counts zero zero low high = no_hops row 0 0 refl
counts zero (suc zero) low high = one_hop 0 1 (λ e. omega (arith, e)) first_to_second
counts zero (suc (suc zero)) low high = third_from_first
counts (suc zero) zero low high = one_hop 1 0 (λ e. omega (arith, e)) second_to_first
counts (suc zero) (suc zero) low high = no_hops row 1 1 refl
counts (suc zero) (suc (suc zero)) low high = one_hop 1 2 (λ e. omega (arith, e)) second_to_third
counts (suc (suc zero)) zero low high = two_hops 2 1 0 (λ e. omega (arith, e)) (λ e. omega (arith, e)) (λ e. omega (arith, e)) third_to_second second_to_first
counts (suc (suc zero)) (suc zero) low high = one_hop 2 1 (λ e. omega (arith, e)) third_to_second
counts (suc (suc zero)) (suc (suc zero)) low high = no_hops row 2 2 refl
counts (suc (suc (suc from))) to low high = absurd (omega (arith, low))
counts from (suc (suc (suc to))) low high = absurd (omega (arith, high))

pub row_are_hops : AreHops row row_hops
row_are_hops = record { switches = refl; each = counts }
