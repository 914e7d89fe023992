-- One step of an iterator over a route.
use Rattle.std.proofs.Common.{◌≡◌, ℕ, suc, ◌-◌, ◌<◌, true, false, [], ◌∷◌, length, Option, Some, None, refl, sym, ◌∙◌, ap, subst, arith}
use Rattle.std.specs.Prelude.{slice_get, option_map, is_some, Contains}
use Rattle.std.proofs.lemmas.Option.{slice_get_within, get_or_from_slice_get}
use Rattle.std.proofs.lemmas.List.Elements.{All-contains}
use Rattle.fab_model.specs.declared.rows.ChannelId.{ChannelId}
use Rattle.fab_model.specs.declared.rows.ChannelRow.{ChannelRow}
use Rattle.fab_model.specs.declared.rows.SwitchId.{SwitchId}
use Rattle.fab_model.specs.Topology.{Topology, reversed}
use Rattle.fab_model.specs.WellFormed.{IsFabric}
use Rattle.fab_tables.specs.declared.end.End.{End}
use Rattle.fab_tables.specs.Entries.{Entries, entry}
use Rattle.fab_tables.specs.Route.{Route, hop_by, tip, tip_of_row, after_hop, route_within}
use Rattle.fab_tables.specs.Route.Hop.{Along, Stop}
use Rattle.fab_tables.specs.Ahead.{Ahead, ahead, StepsTo}
use Rattle.fab_tables.proofs.Rows.Cells.{none_some}

unsome_switch : (a b : SwitchId) → Some a ≡ Some b → a ≡ b
unsome_switch a b e = cc

module _ (t : Topology) (is : IsFabric t) where
  pub row_within : (row : ChannelRow) → Contains t.channels row → row.tip.0 < length t.switches
  row_within row there =
      let back : Contains t.channels (reversed row) = All-contains (λ r. Contains t.channels (reversed r)) t.channels row is.rows.reverses there in
      All-contains (λ r. r.tail.0 < length t.switches) t.channels (reversed row) is.rows.channel_tails back

  -- a channel leads to a switch
  pub tip_within : (c : ℕ) (to : SwitchId) → option_map (λ (row : ChannelRow). row.tip) (slice_get t.channels c) ≡ Some to → to.0 < length t.switches
  tip_within c to e = go (slice_get t.channels c) refl e
    where
      go : (o : Option ChannelRow) → slice_get t.channels c ≡ o → option_map (λ (row : ChannelRow). row.tip) o ≡ Some to → to.0 < length t.switches
      go None x e = absurd (none_some to e)
      go (Some row) x e =
          let there : Contains t.channels row = (c, slice_get_within t.channels c row x, get_or_from_slice_get t.channels c row row x) in
          let low : row.tip.0 < length t.switches = row_within row there in
          subst (λ (s : SwitchId). s.0 < length t.switches) (unsome_switch row.tip to e) low

tip_is : (o : Option ChannelRow) (to : SwitchId) → option_map (λ (row : ChannelRow). row.tip) o ≡ Some to → tip_of_row o ≡ to.0
tip_is None to e = absurd (none_some to e)
tip_is (Some row) to e = ap (λ (s : SwitchId). s.0) (unsome_switch row.tip to e)

module _ (t : Topology) (e : Entries) (lid s left : ℕ) (now : Ahead) where
  went : (n : ℕ) (c : ChannelId) (to : SwitchId) → left ≡ suc n → ahead t e lid s left None ≡ now → hop_by t lid s (entry e s lid) ≡ Along c.0 →
      tip t c.0 ≡ to.0 → StepsTo now (Some c) (ahead t e lid to.0 n None)
  went n c to l is hop at =
      let over : route_within t e lid left s ≡ after_hop t (λ next. route_within t e lid n next) (Along c.0)
      = ap (λ k. route_within t e lid k s) l ∙ ap (λ h. after_hop t (λ next. route_within t e lid n next) h) hop in
      let there : (route_within t e lid n (tip t c.0)) ≡ route_within t e lid n to.0 = ap (λ next. route_within t e lid n next) at in (
        sym (ap (λ (a : Ahead). a.channels) is) ∙ ap (λ (r : Route). r.channels) over ∙ ap (λ (r : Route). c.0 ∷ r.channels) there,
        sym (ap (λ (r : Route). r.end) over ∙ ap (λ (r : Route). r.end) there) ∙ ap (λ (a : Ahead). a.end) is,
        ap (λ (a : Ahead). a.over) is,
      )

  pub stepped : (c : ChannelId) (to : SwitchId) (o : Option End) → (left ≡ 0 → ⊥) → is_some o ≡ false → ahead t e lid s left o ≡ now → hop_by t lid s (entry e s lid) ≡ Along c.0 →
      option_map (λ (row : ChannelRow). row.tip) (slice_get t.channels c.0) ≡ Some to → StepsTo now (Some c) (ahead t e lid to.0 (left - 1) o)
  stepped c to None some none is hop tip = went (left - 1) c to (omega arith) is hop (tip_is (slice_get t.channels c.0) to tip)
  stepped c to (Some end) some none is hop tip = cc

  pub stopped : (end : End) (o : Option End) → (left ≡ 0 → ⊥) → is_some o ≡ false → ahead t e lid s left o ≡ now → hop_by t lid s (entry e s lid) ≡ Stop end →
      StepsTo now None (record { channels = []; end = end; over = true })
  stopped end None some none is hop =
      let over : route_within t e lid left s ≡ after_hop t (λ next. route_within t e lid (left - 1) next) (Stop end)
      = ap (λ k. route_within t e lid k s) (more left some) ∙ ap (λ h. after_hop t (λ next. route_within t e lid (left - 1) next) h) hop in
      let nothing : [] ≡ now.channels = sym (ap (λ (r : Route). r.channels) over) ∙ ap (λ (a : Ahead). a.channels) is in
      let told : end ≡ now.end = sym (ap (λ (r : Route). r.end) over) ∙ ap (λ (a : Ahead). a.end) is in
      (sym nothing, ap (λ xs. record { channels = xs; end = end; over = true }) nothing ∙ ap (λ x. record { channels = now.channels; end = x; over = true }) told)
    where
      more : (n : ℕ) → (n ≡ 0 → ⊥) → n ≡ suc (n - 1)
      more n h = omega arith
  stopped end (Some other) some none is hop = cc
