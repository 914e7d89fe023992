-- The ports of a switch whose channels meet a rule, as its channels are gone through.
use Rattle.std.proofs.Common.{◌≡◌, ℕ, ◌+◌, ◌<◌, ◌≤◌, ◌⊎◌, inl, inr, List, [], ◌∷◌, ◌++◌, length, sym, ◌∙◌, ap, subst, arith, Contains, Some}
use Rattle.std.specs.Prelude.{slice_get, ◌↔◌}
use Rattle.std.proofs.lemmas.Bool.{cases_lt}
use Rattle.std.proofs.lemmas.List.Elements.{Contains-append_left, Contains-push, Contains-push_cases}
use Rattle.std.proofs.lemmas.Option.{same_Some, slice_get_within, get_or_from_slice_get}
use Rattle.fab_model.specs.declared.rows.ChannelRow.{ChannelRow}
use Rattle.fab_model.specs.Topology.{Topology, channel_at, first_channel}
use Rattle.fab_model.specs.WellFormed.{IsWellFormed}
use Rattle.fab_model.proofs.Channels.{contains_read}
use Rattle.fab_model.proofs.Finds.{channels_are_found}
use Rattle.fab_tables.proofs.Joined.Leaving.{leaves_from, stands_between}
use Rattle.fab_tables.proofs.Joined.Tips.{tip_below}
use Rattle.fab_tables.proofs.Paths.FallingRoutes.{channel_found}
use Rattle.fab_updn.specs.UpDown.{IsAt}

-- a port whose channel is below a number and meets the rule
pub record IsPortBefore (t : Topology) (Rule : ChannelRow → Type 0) (s number port : ℕ) : Type 0 where
  pub row : ChannelRow
  pub at : IsAt t s port row
  pub before : at.0 < number
  pub meets : Rule row

-- the listed ports are just those
pub record AreListed (t : Topology) (Rule : ChannelRow → Type 0) (s number : ℕ) (ports : List ℕ) : Type 0 where
  pub all : (port : ℕ) → Contains ports port ↔ IsPortBefore t Rule s number port

module _ (t : Topology) (good : IsWellFormed t) (Rule : ChannelRow → Type 0) (s : ℕ) where
  between : (port : ℕ) (row : ChannelRow) → (at : IsAt t s port row) → (first_channel t s ≤ at.0) × (at.0 < first_channel t (s + 1))
  between port row at =
      let found : (r : ChannelRow) × (at.0 < length t.channels) × (slice_get t.channels at.0 ≡ Some r) × (r.tail.0 ≡ s) × (r.port ≡ port) = channel_found t s port at.0 at.1 in
      stands_between t good s at.0 found.0 found.1 (ap (λ (r : ChannelRow). r.tail.0) (get_or_from_slice_get t.channels at.0 found.0 found.0 found.2) ∙ found.3)

  pub none_listed : AreListed t Rule s (first_channel t s) []
  none_listed = record { all = λ port. (λ has. absurd (omega (arith, has.1)), λ x. absurd (omega (arith, x.before, (between port x.row x.at).0))) }

  pub all_listed : (number : ℕ) (ports : List ℕ) → AreListed t Rule s number ports → first_channel t (s + 1) ≤ number → (port : ℕ) → Contains ports port ↔ ((row : ChannelRow) × IsAt t s port row × Rule row)
  all_listed number ports are end port = (
    λ has. let x : IsPortBefore t Rule s number port = (are.all port).0 has in (x.row, x.at, x.meets),
    λ x. (are.all port).1 (record { row = x.0; at = x.1; before = omega (arith, end, (between port x.0 x.1).1); meets = x.2 }),
  )

  module _ (c : ℕ) (row : ChannelRow) (is : slice_get t.channels c ≡ Some row) (from : first_channel t s ≤ c) (past : c < first_channel t (s + 1)) where
    pub leaves_here : row.tail.0 ≡ s
    leaves_here = ap (λ (r : ChannelRow). r.tail.0) (sym (get_or_from_slice_get t.channels c row row is)) ∙ leaves_from t good s c row (slice_get_within t.channels c row is) from past

    pub tip_within : row.tip.0 < length t.switches
    tip_within = tip_below t good row (contains_read t.channels c row is)

    abbrev is_at : IsAt t s row.port row
    is_at = (c, subst (λ x. channel_at t x row.port ≡ Some c) leaves_here (channels_are_found t c row good is), is)

    earlier_or_here : (port : ℕ) → IsPortBefore t Rule s (c + 1) port → IsPortBefore t Rule s c port ⊎ ((port ≡ row.port) × Rule row)
    earlier_or_here port x = elim (cases_lt x.at.0 c) [
      | inl less ↦ inl (record { row = x.row; at = x.at; before = less; meets = x.meets })
      | inr last ↦
          (let same : x.at.0 ≡ c = omega (arith, last, x.before) in
          let rows : x.row ≡ row = same_Some x.row row (sym x.at.2 ∙ ap (λ k. slice_get t.channels k) same ∙ is) in
          let found : (r : ChannelRow) × (x.at.0 < length t.channels) × (slice_get t.channels x.at.0 ≡ Some r) × (r.tail.0 ≡ s) × (r.port ≡ port) = channel_found t s port x.at.0 x.at.1 in
          inr (sym found.4 ∙ ap (λ (r : ChannelRow). r.port) (same_Some found.0 row (sym found.2 ∙ ap (λ k. slice_get t.channels k) same ∙ is)), subst (λ r. Rule r) rows x.meets))
    ]

    later : (port : ℕ) → IsPortBefore t Rule s c port → IsPortBefore t Rule s (c + 1) port
    later port x = record { row = x.row; at = x.at; before = omega (arith, x.before); meets = x.meets }

    pub one_listed : (ports : List ℕ) → AreListed t Rule s c ports → Rule row → AreListed t Rule s (c + 1) (ports ++ row.port ∷ [])
    one_listed ports before meets = record {
      all = λ port. (
        λ has. elim (Contains-push_cases ports row.port port has) [
          | inl old ↦ later port ((before.all port).0 old)
          | inr e ↦ subst (λ p. IsPortBefore t Rule s (c + 1) p) e (record { row = row; at = is_at; before = omega arith; meets = meets })
        ],
        λ x. elim (earlier_or_here port x) [
          | inl old ↦ Contains-append_left ports (row.port ∷ []) port ((before.all port).1 old)
          | inr here ↦ subst (λ p. Contains (ports ++ row.port ∷ []) p) (sym here.0) (Contains-push ports row.port)
        ],
      );
    }

    pub passed_over : (ports : List ℕ) → AreListed t Rule s c ports → ¬ Rule row → AreListed t Rule s (c + 1) ports
    passed_over ports before not = record {
      all = λ port. (
        λ has. later port ((before.all port).0 has),
        λ x. elim (earlier_or_here port x) [ inl old ↦ (before.all port).1 old | inr here ↦ absurd (not here.1) ],
      );
    }
