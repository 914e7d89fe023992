-- The channels of a switch, one after the other, until one leads up.
use Rattle.std.proofs.Common.{◌≡◌, ℕ, suc, ◌+◌, ◌-◌, ◌<◌, ◌≤◌, true, length, refl, sym, ◌∙◌, ap, subst, inl, inr, arith, Some, None, Option, eqb}
use Rattle.std.specs.Prelude.{slice_get, option_map}
use Rattle.std.specs.Option.{SomeIff, option_eq}
use Rattle.std.proofs.lemmas.Bool.{cases_lt, eqb-true, eq-eqb, false≢true}
use Rattle.std.proofs.lemmas.Option.{none-some, same_Some, slice_get_within, get_or_from_slice_get, slice_get-get_or}
use Rattle.fab_model.specs.declared.rows.SwitchId.{SwitchId}
use Rattle.fab_model.specs.declared.rows.ChannelRow.{ChannelRow}
use Rattle.fab_model.specs.Topology.{Topology, first_channel, IsReverse}
use Rattle.fab_model.specs.Connected.{LeadsTo}
use Rattle.fab_model.specs.WellFormed.{IsWellFormed}
use Rattle.fab_model.proofs.Channels.{contains_read}
use Rattle.fab_tables.specs.Route.{tip_of_row}
use Rattle.fab_hops.specs.HopCounts.{IsHopCount}
use Rattle.fab_hops.proofs.HopLaws.{one_hop_count}
use Rattle.fab_hops.proofs.HopWalks.{leads_nearer, leads_below, no_hops}
use Rattle.fab_hops.proofs.Leaving.{leaves_from, stands_between}
use Rattle.fab_escape.specs.Trees.{LeadsUp, IsLink}

pub one_more : (o : Option ℕ) (f n : ℕ) → SomeIff o (1 ≤ f) (f - 1) → o ≡ Some n → f ≡ suc n
one_more o f n is e =
    let it : SomeIff (Some n) (1 ≤ f) (f - 1) = subst (λ p. SomeIff p (1 ≤ f) (f - 1)) e is in
    omega (arith, it.0, it.1)

pub eq_some : (o : Option ℕ) (n : ℕ) → option_eq eqb o (Some n) ≡ true → o ≡ Some n
eq_some None n h = absurd (false≢true h)
eq_some (Some m) n h = ap Some (eqb-true m n h)

pub some_eq : (o : Option ℕ) (n : ℕ) → o ≡ Some n → option_eq eqb o (Some n) ≡ true
some_eq o n e = ap (λ p. option_eq eqb p (Some n)) e ∙ eq-eqb n n refl

-- the row of a channel whose tip is known
pub row_there : (t : Topology) (c : ℕ) (to : SwitchId) → option_map (λ (row : ChannelRow). row.tip) (slice_get t.channels c) ≡ Some to → (row : ChannelRow) × (slice_get t.channels c ≡ Some row) × (row.tip ≡ to)
row_there t c to e = go (slice_get t.channels c) refl e
  where
    go : (o : Option ChannelRow) → slice_get t.channels c ≡ o → option_map (λ (row : ChannelRow). row.tip) o ≡ Some to → (row : ChannelRow) × (slice_get t.channels c ≡ Some row) × (row.tip ≡ to)
    go None p h = absurd (none-some to h)
    go (Some row) p h = (row, p, same_Some row.tip to h)

abbrev pub NoneLeadsUp : Topology → ℕ → ℕ → ℕ → Type 0
NoneLeadsUp t root s past = (d : ℕ) → first_channel t s ≤ d → d < past → ¬ LeadsUp t root s d

module _ (t : Topology) (good : IsWellFormed t) (s root n : ℕ) (far : IsHopCount t s root (suc n)) where
  -- a channel that leads up stands among those of the switch
  stands : (c : ℕ) → LeadsUp t root s c → (first_channel t s ≤ c) × (c < first_channel t (s + 1))
  stands c up = stands_between t good s c up.0 (slice_get_within t.channels c up.0 up.2) (ap (λ (r : ChannelRow). r.tail.0) (get_or_from_slice_get t.channels c up.0 up.0 up.2) ∙ up.3)

  module _ (c : ℕ) (to : SwitchId) (first : first_channel t s ≤ c) (past : c < first_channel t (s + 1)) (tip_is : option_map (λ (row : ChannelRow). row.tip) (slice_get t.channels c) ≡ Some to) where
    row : ChannelRow
    row = (row_there t c to tip_is).0

    there : slice_get t.channels c ≡ Some row
    unfolding row row_there
    there = (row_there t c to tip_is).1

    comes : row.tip.0 ≡ to.0
    unfolding row row_there
    comes = ap (λ (x : SwitchId). x.0) (row_there t c to tip_is).2

    leaves : row.tail.0 ≡ s
    leaves =
        sym (ap (λ (r : ChannelRow). r.tail.0) (get_or_from_slice_get t.channels c row row there))
        ∙ leaves_from t good s c row (slice_get_within t.channels c row there) first past

    pub leads : LeadsTo t s to.0
    leads = (row, contains_read t.channels c row there, leaves, comes)

    pub tip_low : to.0 < length t.switches
    tip_low = leads_below t good s to.0 leads

    pub is_link : (reverse : ℕ) → IsReverse t c reverse → IsHopCount t to.0 root n → NoneLeadsUp t root s c → IsLink t root s (record { channel = c; reverse = reverse; parent = to.0 })
    is_link reverse back near none = record {
      below = λ same. omega (arith, one_hop_count t s root 0 (suc n) (no_hops t s root same) far);
      upward = record {
        holds = (row, n, there, leaves, far, subst (λ x. IsHopCount t x root n) (sym comes) near);
        least = λ d up. elim (cases_lt d c) [ inl less ↦ absurd (none d (stands d up).0 less up) | inr more ↦ more ];
      };
      leads = ap tip_of_row there ∙ comes;
      downward = back;
    }

    pub none_further : NoneLeadsUp t root s c → ¬ IsHopCount t to.0 root n → NoneLeadsUp t root s (c + 1)
    none_further none not_near d from less up = elim (cases_lt d c) [
      | inl before ↦ none d from before up
      | inr last ↦
          (let same : d ≡ c = omega (arith, last, less) in
          let one : row ≡ up.0 = same_Some row up.0 (sym there ∙ ap (λ k. slice_get t.channels k) (sym same) ∙ up.2) in
          let hops : suc up.1 ≡ suc n = one_hop_count t s root (suc up.1) (suc n) up.4 far in
          let near : IsHopCount t up.0.tip.0 root n = subst (λ k. IsHopCount t up.0.tip.0 root k) (omega (arith, hops)) up.5 in
          not_near (subst (λ x. IsHopCount t x root n) comes (subst (λ (r : ChannelRow). IsHopCount t r.tip.0 root n) (sym one) near)))
    ]

  -- one does
  pub some_leads_up : NoneLeadsUp t root s (first_channel t (s + 1)) → ⊥
  some_leads_up none =
      let nearer : (next : ℕ) × LeadsTo t s next × IsHopCount t next root n = leads_nearer t s root n far in
      let row : ChannelRow = nearer.1.0 in
      let at : ℕ = nearer.1.1.0 in
      let there : slice_get t.channels at ≡ Some row = slice_get-get_or t.channels at row nearer.1.1.1 ∙ ap Some nearer.1.1.2 in
      let up : LeadsUp t root s at = (row, n, there, nearer.1.2, far, subst (λ x. IsHopCount t x root n) (sym nearer.1.3) nearer.2) in
      none at (stands at up).0 (stands at up).1 up
