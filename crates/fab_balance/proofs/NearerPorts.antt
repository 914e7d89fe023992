-- The ports that lead nearer to a switch, as the channels of a switch are gone through.
use Rattle.std.proofs.Common.{◌≡◌, ℕ, suc, ◌+◌, ◌<◌, ◌≤◌, ◌⊎◌, inl, inr, List, [], ◌∷◌, ◌++◌, length, refl, sym, ◌∙◌, ap, subst, arith, Option, Some, None, Contains, MatchOption}
use Rattle.std.specs.Prelude.{slice_get, slice_index_or, IsSomeAnd, ◌↔◌}
use Rattle.std.proofs.lemmas.Bool.{cases_lt, cases_order}
use Rattle.std.proofs.lemmas.List.Elements.{Contains-append_left, Contains-push, Contains-push_cases}
use Rattle.std.proofs.lemmas.Option.{same_Some, slice_get_within, get_or_from_slice_get}
use Rattle.fab_model.specs.declared.rows.ChannelRow.{ChannelRow}
use Rattle.fab_model.specs.Topology.{Topology, channel_at, first_channel}
use Rattle.fab_model.specs.Connected.{LeadsTo, AreConnected}
use Rattle.fab_model.specs.WellFormed.{IsWellFormed, GoesBefore}
use Rattle.fab_model.proofs.Channels.{contains_read}
use Rattle.fab_model.proofs.Finds.{channels_are_found}
use Rattle.fab_tables.specs.Route.{tip, tip_of_row}
use Rattle.fab_tables.proofs.Joined.Leaving.{leaves_from, stands_between}
use Rattle.fab_tables.proofs.Joined.Tips.{tip_below}
use Rattle.fab_tables.proofs.Paths.FallingRoutes.{channel_found}
use Rattle.fab_hops.specs.HopCounts.{IsHopCount, HopTable, hop_count, AreHops}
use Rattle.fab_hops.proofs.HopLaws.{one_hop_count}
use Rattle.fab_hops.proofs.HopWalks.{no_channel_skips}
use Rattle.fab_balance.specs.Eligible.{LeadsNearer, AreNearerPorts, HasNoNearerPort, IsLeastNearerPort}

-- ---- what the kept counts say

module _ (t : Topology) (h : HopTable) (are : AreHops t h) (from to : ℕ) (a : from < length t.switches) (b : to < length t.switches) where
  pub counted : (n : ℕ) → hop_count h from to ≡ Some n → IsHopCount t from to n
  counted n e = subst (λ o. MatchOption o (¬ AreConnected t from to) (λ m. IsHopCount t from to m)) e (are.each from to a b)

  not_counted : hop_count h from to ≡ None → ¬ AreConnected t from to
  not_counted e = subst (λ o. MatchOption o (¬ AreConnected t from to) (λ m. IsHopCount t from to m)) e (are.each from to a b)

  pub none_nearer : hop_count h from to ≡ None → HasNoNearerPort t from to
  none_nearer e port x = not_counted e (suc x.hops, x.from_here.holds)

  -- fewer hops than at a switch of which a channel leads here are one less
  fewer : (here n : ℕ) → IsHopCount t from to n → n < here → IsSomeAnd (hop_count h from to) (λ there. there < here)
  fewer here n x less = go (hop_count h from to) refl
    where
      go : (o : Option ℕ) → hop_count h from to ≡ o → IsSomeAnd o (λ there. there < here)
      go None e = not_counted e (n, x.holds)
      go (Some m) e = omega (arith, one_hop_count t from to m n (counted m e) x)

  some_fewer : (here : ℕ) → IsSomeAnd (hop_count h from to) (λ there. there < here) → (n : ℕ) × IsHopCount t from to n × (n < here)
  some_fewer here x = go (hop_count h from to) refl x
    where
      go : (o : Option ℕ) → hop_count h from to ≡ o → IsSomeAnd o (λ there. there < here) → (n : ℕ) × IsHopCount t from to n × (n < here)
      go None e y = absurd y
      go (Some m) e y = (m, counted m e, y)

pub no_ports : (t : Topology) (s to : ℕ) → HasNoNearerPort t s to → AreNearerPorts t s to []
no_ports t s to none port = (λ has. absurd (omega (arith, has.1)), λ x. absurd (none port x))

-- ---- the channels of a switch stand between two numbers

module _ (t : Topology) (good : IsWellFormed t) (s to port : ℕ) (x : LeadsNearer t s to port) where
  row_of : (row : ChannelRow) × (x.channel < length t.channels) × (slice_get t.channels x.channel ≡ Some row) × (row.tail.0 ≡ s) × (row.port ≡ port)
  row_of = channel_found t s port x.channel x.leaves

  between : (first_channel t s ≤ x.channel) × (x.channel < first_channel t (s + 1))
  between = stands_between t good s x.channel row_of.0 row_of.1 (ap (λ (r : ChannelRow). r.tail.0) (get_or_from_slice_get t.channels x.channel row_of.0 row_of.0 row_of.2) ∙ row_of.3)

-- a port that leads nearer by a channel below this number
pub record IsNearerBelow (t : Topology) (s to number port : ℕ) : Type 0 where
  pub nearer : LeadsNearer t s to port
  pub below : nearer.channel < number

-- the listed ports are just those
pub record AreNearerBelow (t : Topology) (s to number : ℕ) (ports : List ℕ) : Type 0 where
  pub all : (port : ℕ) → Contains ports port ↔ IsNearerBelow t s to number port

-- no port leads nearer by a channel below this number
pub record HasNoNearerBelow (t : Topology) (s to number : ℕ) : Type 0 where
  pub none : (port : ℕ) (x : LeadsNearer t s to port) → number ≤ x.channel

pub none_below : (t : Topology) → IsWellFormed t → (s to : ℕ) → HasNoNearerBelow t s to (first_channel t s)
none_below t good s to = record { none = λ port x. (between t good s to port x).0 }

pub none_at_all : (t : Topology) → IsWellFormed t → (s to number : ℕ) → HasNoNearerBelow t s to number → first_channel t (s + 1) ≤ number → HasNoNearerPort t s to
none_at_all t good s to number none end port x = omega (arith, none.none port x, (between t good s to port x).1)

pub none_listed : (t : Topology) → IsWellFormed t → (s to : ℕ) → AreNearerBelow t s to (first_channel t s) []
none_listed t good s to = record { all = λ port. (λ has. absurd (omega (arith, has.1)), λ x. absurd (omega (arith, x.below, (between t good s to port x.nearer).0))) }

pub all_listed : (t : Topology) → IsWellFormed t → (s to number : ℕ) (ports : List ℕ) → AreNearerBelow t s to number ports → first_channel t (s + 1) ≤ number → AreNearerPorts t s to ports
all_listed t good s to number ports are end port = (
  λ has. ((are.all port).0 has).nearer,
  λ x. (are.all port).1 (record { nearer = x; below = omega (arith, end, (between t good s to port x).1) }),
)

-- ---- one channel

module _ (t : Topology) (good : IsWellFormed t) (s to c : ℕ) (row : ChannelRow) (is : slice_get t.channels c ≡ Some row) (from : first_channel t s ≤ c) (past : c < first_channel t (s + 1)) where
  pub within : c < length t.channels
  within = slice_get_within t.channels c row is

  leaves_here : row.tail.0 ≡ s
  leaves_here = ap (λ (r : ChannelRow). r.tail.0) (sym (get_or_from_slice_get t.channels c row row is)) ∙ leaves_from t good s c row within from past

  at_port : channel_at t s row.port ≡ Some c
  at_port = subst (λ x. channel_at t x row.port ≡ Some c) leaves_here (channels_are_found t c row good is)

  pub tip_within : row.tip.0 < length t.switches
  tip_within = tip_below t good row (contains_read t.channels c row is)

  tip_is : tip t c ≡ row.tip.0
  tip_is = ap tip_of_row is

  module _ (h : HopTable) (are : AreHops t h) (b : to < length t.switches) (here : ℕ) (count : IsHopCount t s to here) where
    pub channel_leads_nearer : IsSomeAnd (hop_count h row.tip.0 to) (λ there. there < here) → LeadsNearer t s to row.port
    channel_leads_nearer fewer_there =
        let f : (n : ℕ) × IsHopCount t row.tip.0 to n × (n < here) = some_fewer t h are row.tip.0 to tip_within b here fewer_there in
        let leads : LeadsTo t s row.tip.0 = (row, contains_read t.channels c row is, leaves_here, refl) in
        let one_less : here ≡ suc f.0 = omega (arith, f.2, no_channel_skips t s row.tip.0 to here f.0 leads count f.1) in
        record {
          channel = c;
          hops = f.0;
          leaves = at_port;
          from_here = subst (λ n. IsHopCount t s to n) one_less count;
          from_tip = subst (λ x. IsHopCount t x to f.0) (sym tip_is) f.1;
        }

    pub has_fewer : LeadsNearer t s to row.port → IsSomeAnd (hop_count h row.tip.0 to) (λ there. there < here)
    has_fewer x =
        let same : x.channel ≡ c = same_Some x.channel c (sym x.leaves ∙ at_port) in
        let count_there : IsHopCount t row.tip.0 to x.hops = subst (λ y. IsHopCount t y to x.hops) (ap (tip t) same ∙ tip_is) x.from_tip in
        fewer t h are row.tip.0 to tip_within b here x.hops count_there (omega (arith, one_hop_count t s to here (suc x.hops) count x.from_here))

  -- a port that leads nearer by this channel is the channel's
  port_is : (port : ℕ) (x : LeadsNearer t s to port) → x.channel ≡ c → port ≡ row.port
  port_is port x same =
      let found : (r : ChannelRow) × (x.channel < length t.channels) × (slice_get t.channels x.channel ≡ Some r) × (r.tail.0 ≡ s) × (r.port ≡ port) = row_of t good s to port x in
      sym found.4 ∙ ap (λ (r : ChannelRow). r.port) (same_Some found.0 row (sym found.2 ∙ ap (slice_get t.channels) same ∙ is))

  here_or_before : (number : ℕ) → number < c + 1 → (number < c) ⊎ (number ≡ c)
  here_or_before number low = elim (cases_lt number c) [ inl less ↦ inl less | inr more ↦ inr (omega (arith, more, low)) ]

  pub one_listed : (ports : List ℕ) → AreNearerBelow t s to c ports → LeadsNearer t s to row.port → AreNearerBelow t s to (c + 1) (ports ++ row.port ∷ [])
  one_listed ports before nearer = record { all = λ port. (λ has. from_list port (Contains-push_cases ports row.port port has), λ x. to_list port x (here_or_before x.nearer.channel x.below)) }
    where
      from_list : (port : ℕ) → Contains ports port ⊎ (row.port ≡ port) → IsNearerBelow t s to (c + 1) port
      from_list port (inl has) = let old : IsNearerBelow t s to c port = (before.all port).0 has in record { nearer = old.nearer; below = omega (arith, old.below) }
      from_list port (inr same) =
          let P : ℕ → Type 0 = λ p. IsNearerBelow t s to (c + 1) p in
          subst P same (record { nearer = nearer; below = omega (arith, same_Some nearer.channel c (sym nearer.leaves ∙ at_port)) })

      to_list : (port : ℕ) (x : IsNearerBelow t s to (c + 1) port) → (x.nearer.channel < c) ⊎ (x.nearer.channel ≡ c) → Contains (ports ++ row.port ∷ []) port
      to_list port x (inl less) = Contains-append_left ports (row.port ∷ []) port ((before.all port).1 (record { nearer = x.nearer; below = less }))
      to_list port x (inr same) = subst (λ p. Contains (ports ++ row.port ∷ []) p) (sym (port_is port x.nearer same)) (Contains-push ports row.port)

  pub none_more : HasNoNearerBelow t s to c → ¬ LeadsNearer t s to row.port → HasNoNearerBelow t s to (c + 1)
  none_more none other = record { none = λ port x. later port x (cases_order x.channel c) }
    where
      later : (port : ℕ) (x : LeadsNearer t s to port) → (x.channel ≡ c) ⊎ ((x.channel < c) ⊎ (c < x.channel)) → c + 1 ≤ x.channel
      later port x (inl same) = absurd (other (subst (λ p. LeadsNearer t s to p) (port_is port x same) x))
      later port x (inr (inl less)) = absurd (omega (arith, none.none port x, less))
      later port x (inr (inr more)) = omega (arith, more)

  pub passed_over : (ports : List ℕ) → AreNearerBelow t s to c ports → ¬ LeadsNearer t s to row.port → AreNearerBelow t s to (c + 1) ports
  passed_over ports before other = record {
    all = λ port. (
      λ has. let old : IsNearerBelow t s to c port = (before.all port).0 has in record { nearer = old.nearer; below = omega (arith, old.below) },
      λ x. still port x (here_or_before x.nearer.channel x.below),
    );
  }
    where
      still : (port : ℕ) (x : IsNearerBelow t s to (c + 1) port) → (x.nearer.channel < c) ⊎ (x.nearer.channel ≡ c) → Contains ports port
      still port x (inl less) = (before.all port).1 (record { nearer = x.nearer; below = less })
      still port x (inr same) = absurd (other (subst (λ p. LeadsNearer t s to p) (port_is port x.nearer same) x.nearer))

  -- channels stand by port, so the first one that leads nearer has the least port
  pub least_found : HasNoNearerBelow t s to c → LeadsNearer t s to row.port → IsLeastNearerPort t s to row.port
  least_found none nearer = record { holds = nearer; least = λ port x. at port x (cases_order x.channel c) }
    where
      rises : (r : ChannelRow) → r.tail.0 ≡ s → GoesBefore row r → row.port ≤ r.port
      rises r same (inl less) = absurd (omega (arith, less, same, leaves_here))
      rises r same (inr both) = omega (arith, both.1)

      at : (port : ℕ) (x : LeadsNearer t s to port) → (x.channel ≡ c) ⊎ ((x.channel < c) ⊎ (c < x.channel)) → row.port ≤ port
      at port x (inl same) = omega (arith, port_is port x same)
      at port x (inr (inl less)) = absurd (omega (arith, none.none port x, less))
      at port x (inr (inr more)) =
          let found : (r : ChannelRow) × (x.channel < length t.channels) × (slice_get t.channels x.channel ≡ Some r) × (r.tail.0 ≡ s) × (r.port ≡ port) = row_of t good s to port x in
          let before : GoesBefore (slice_index_or t.channels c row) (slice_index_or t.channels x.channel row) = good.channels_rise c x.channel row more found.1 in
          let P : ChannelRow → Type 0 = λ r. GoesBefore r (slice_index_or t.channels x.channel row) in
          let first_is : GoesBefore row (slice_index_or t.channels x.channel row) = subst P (get_or_from_slice_get t.channels c row row is) before in
          let both : GoesBefore row found.0 = subst (λ (r : ChannelRow). GoesBefore row r) (get_or_from_slice_get t.channels x.channel found.0 row found.2) first_is in
          omega (arith, rises found.0 found.3 both, found.4)
