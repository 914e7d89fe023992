-- An iterator on its way along a route.
use Rattle.std.proofs.Common.{◌≡◌, ℕ, zero, suc, ◌<◌, List, [], ◌∷◌, length, drop, refl, sym, ◌∙◌, ap, subst, Some, None, Option, option_map, slice_get}
use Rattle.std.proofs.lemmas.Option.{same_Some, none-some, get_or_from_slice_get}
use Rattle.fab_model.specs.declared.rows.ChannelId.{ChannelId}
use Rattle.fab_model.specs.declared.rows.ChannelRow.{ChannelRow}
use Rattle.fab_model.specs.declared.rows.SwitchId.{SwitchId}
use Rattle.fab_model.specs.Topology.{Topology}
use Rattle.fab_tables.specs.declared.end.End.TheVariants.{Delivered}
use Rattle.fab_tables.specs.Entries.{Entries}
use Rattle.fab_tables.specs.Route.{tip, tip_of_row, route}
use Rattle.fab_tables.specs.Ahead.{Ahead, StepsTo}
use Rattle.fab_tables.specs.Reaching.{IsToward}
use Rattle.fab_tables.proofs.Joined.Tips.{tip_below}
use Rattle.fab_tables.proofs.Paths.Routes.{channel_there, delivered_before, delivered_behind}

-- so many channels of the route are behind the iterator
pub record IsOnWay (t : Topology) (e : Entries) (s lid : ℕ) (ahead : Ahead) : Type 0 where
  pub passed : ℕ
  pub rest : ahead.channels ≡ drop passed (route t e s lid).channels
  pub end : ahead.end ≡ (route t e s lid).end

pub drop_step : {A : Type 0} (xs ys : List A) (n : ℕ) (x : A) → x ∷ ys ≡ drop n xs → (slice_get xs n ≡ Some x) × (ys ≡ drop (suc n) xs)
drop_step [] ys zero x e = cc
drop_step [] ys (suc n) x e = cc
drop_step (y ∷ xs) ys zero x e = (cc, cc)
drop_step (y ∷ xs) ys (suc n) x e = drop_step xs ys n x e

tip_is : (o : Option ChannelRow) (to : SwitchId) → option_map (λ (row : ChannelRow). row.tip) o ≡ Some to → tip_of_row o ≡ to.0
tip_is None to e = cc
tip_is (Some row) to e = ap (λ (s : SwitchId). s.0) (same_Some row.tip to e)

module _ (t : Topology) (e : Entries) (lid : ℕ) (toward : IsToward t e lid) (s : ℕ) (old new : Ahead) (c : ChannelId) (way : IsOnWay t e s lid old) (steps : StepsTo old (Some c) new) where
  pub stepped : (slice_get (route t e s lid).channels way.passed ≡ Some c.0) × (new.channels ≡ drop (suc way.passed) (route t e s lid).channels)
  stepped = drop_step (route t e s lid).channels new.channels way.passed c.0 (sym steps.0 ∙ way.rest)

  abbrev pub goes_on : IsOnWay t e s lid new
  goes_on = record { passed = suc way.passed; rest = stepped.1; end = steps.1 ∙ way.end }

  pub channel_low : c.0 < length t.channels
  channel_low = channel_there t e lid toward.fabric.rows way.passed s c.0 stepped.0

  module _ (to : SwitchId) (comes : option_map (λ (row : ChannelRow). row.tip) (slice_get t.channels c.0) ≡ Some to) where
    pub to_tip : tip t c.0 ≡ to.0
    to_tip = tip_is (slice_get t.channels c.0) to comes

    pub tip_low : to.0 < length t.switches
    tip_low = row_low (slice_get t.channels c.0) refl comes
      where
        row_low : (o : Option ChannelRow) → slice_get t.channels c.0 ≡ o → option_map (λ (row : ChannelRow). row.tip) o ≡ Some to → to.0 < length t.switches
        row_low None is some = absurd (none-some to some)
        row_low (Some row) is some =
            subst (λ (x : SwitchId). x.0 < length t.switches) (same_Some row.tip to some) (tip_below t toward.fabric.rows row (c.0, channel_low, get_or_from_slice_get t.channels c.0 row row is))

    pub delivered_by : s < length t.switches → (route t e to.0 lid).end ≡ Delivered → (route t e s lid).end ≡ Delivered
    delivered_by low d = delivered_before t e lid toward.fabric.rows s way.passed c.0 low stepped.0 (ap (λ x. (route t e x lid).end) to_tip ∙ d)

    pub delivered_on : (route t e s lid).end ≡ Delivered → (route t e to.0 lid).end ≡ Delivered
    delivered_on d = ap (λ x. (route t e x lid).end) (sym to_tip) ∙ delivered_behind t e lid toward.fabric.rows s way.passed c.0 stepped.0 d
