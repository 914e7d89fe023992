-- One walk along a route: from a switch that no walk has seen to one that a walk has seen, or to the route's end.
use Rattle.std.proofs.Common.{◌≡◌, ◌≢◌, ℕ, ◌<◌, inl, inr, List, [], ◌∷◌, ◌++◌, length, set, refl, sym, ◌∙◌, ap, subst, arith, Some, None, Option, option_map, true, slice_get, length-append, length-set, append_assoc}
use Rattle.std.specs.Prelude.{Contains}
use Rattle.std.proofs.lemmas.Option.{same_Some, none-some}
use Rattle.std.proofs.lemmas.List.{map-append}
use Rattle.fab_model.specs.declared.rows.ChannelId.{ChannelId}
use Rattle.fab_model.specs.declared.rows.ChannelRow.{ChannelRow}
use Rattle.fab_model.specs.declared.rows.SwitchId.{SwitchId}
use Rattle.fab_model.specs.Topology.{Topology}
use Rattle.fab_model.proofs.Lists.Members.{in_from_Contains}
use Rattle.fab_tables.specs.declared.end.End.{End}
use Rattle.fab_tables.specs.declared.end.End.TheVariants.{Delivered}
use Rattle.fab_tables.specs.Ahead.{Ahead, StepsTo, end_told}
use Rattle.fab_tables.specs.Entries.{Entries}
use Rattle.fab_tables.specs.Reaching.{IsToward}
use Rattle.fab_tables.specs.Route.{tip_of_row, route}
use Rattle.fab_tables.proofs.Paths.Routes.{channel_there}
use Rattle.fab_tables.proofs.Paths.Steps.{tip_within}
use Rattle.fab_report.specs.declared.order.Mark.{Mark}
use Rattle.fab_report.specs.declared.order.Mark.TheVariants.{Unseen, Lost, Laid}
use Rattle.fab_report.specs.Order.{tail, tails, IsLaid, mark_of, Means, AreMarks, SeesMore, after, numbers, IsWalked}
use Rattle.fab_report.proofs.Carrying.WalkedRoutes.{after_push, tail_after, WasAt, was_at, goes_after, delivered_from}
use Rattle.fab_report.proofs.Carrying.RouteWays.{way_delivered}
use Rattle.fab_report.proofs.Carrying.Marks.{to_tails, first_or_rest, at_first, behind_first, still_marks, marked, seen_on, sees_first}

-- the walk is at a switch, behind the channels walked; that switch and their tails are still unsure
pub record IsWalking (t : Topology) (e : Entries) (lid from : ℕ) (channels : List ChannelId) (initial : List Mark) (walked : List ChannelId) (ahead : Ahead) (at : ℕ) (marks : List Mark) : Type 0 where
  pub along : (route t e from lid).channels ≡ numbers walked ++ ahead.channels
  pub end : ahead.end ≡ (route t e from lid).end
  pub place : at ≡ after t from (numbers walked)
  pub low : at < length t.switches
  pub room : length marks ≡ length t.switches
  pub marked : AreMarks t e lid channels (at ∷ tails t walked) marks
  pub seen : SeesMore initial from marks

pub numbers_push : (walked : List ChannelId) (c : ChannelId) (rest : List ℕ) → numbers (walked ++ c ∷ []) ++ rest ≡ numbers walked ++ c.0 ∷ rest
numbers_push walked c rest =
    ap (λ (xs : List ℕ). xs ++ rest) (map-append (λ (x : ChannelId). x.0) walked (c ∷ [])) ∙ append_assoc (numbers walked) (c.0 ∷ []) rest

pub at_length : (ws : List ℕ) (c : ℕ) (rest : List ℕ) → slice_get (ws ++ c ∷ rest) (length ws) ≡ Some c
at_length [] c rest = refl
at_length (w ∷ ws) c rest = at_length ws c rest

tip_is : (o : Option ChannelRow) (to : SwitchId) → option_map (λ (row : ChannelRow). row.tip) o ≡ Some to → tip_of_row o ≡ to.0
tip_is None to e = absurd (none-some to e)
tip_is (Some row) to e = ap (λ (s : SwitchId). s.0) (same_Some row.tip to e)

-- how a route ended, once its iterator has told it
pub told_end : (old new : Ahead) (told : Option End) (end : End) → new ≡ record old { over = true } → told ≡ end_told new → told ≡ Some end → old.end ≡ end
told_end old new told end over tells some =
    let same : Some old.end ≡ Some end = sym (ap end_told over) ∙ sym tells ∙ some in cc

pub unseen_lost : Lost ≢ Unseen
unseen_lost e = cc

pub unseen_laid : Laid ≢ Unseen
unseen_laid e = cc

module _ (t : Topology) (e : Entries) (lid : ℕ) (toward : IsToward t e lid) (from : ℕ) (from_low : from < length t.switches) (channels : List ChannelId) (initial : List Mark) where
  pub walk_starts : (walked : List ChannelId) (ahead : Ahead) → walked ≡ [] → ahead.channels ≡ (route t e from lid).channels → ahead.end ≡ (route t e from lid).end → length initial ≡ length t.switches →
      AreMarks t e lid channels [] initial → IsWalking t e lid from channels initial walked ahead from (set initial from Lost)
  walk_starts walked ahead none all end room are = record {
    along = sym all ∙ ap (λ (ws : List ChannelId). numbers ws ++ ahead.channels) (sym none);
    end = end;
    place = ap (λ (ws : List ChannelId). after t from (numbers ws)) (sym none);
    low = from_low;
    room = length-set initial from Lost ∙ room;
    marked = marked t e lid channels channels [] (from ∷ tails t walked) initial from Lost (omega (arith, from_low, room)) (λ d. at_first (tails t walked) from)
        (λ x other. (λ there. absurd (in_from_Contains [] x there), λ laid. laid)) are;
    seen = sees_first initial from Lost (omega (arith, from_low, room)) unseen_lost;
  }

  module _ (walked : List ChannelId) (old : Ahead) (at : ℕ) (marks : List Mark) (walking : IsWalking t e lid from channels initial walked old at marks) where
    regrouped : (vs us rest ws : List ℕ) (cs : List ℕ) → cs ≡ ws ++ rest → ws ≡ vs ++ us → cs ≡ vs ++ (us ++ rest)
    regrouped vs us rest ws cs all parts = all ∙ ap (λ (xs : List ℕ). xs ++ rest) parts ∙ append_assoc vs us rest

    -- a delivered route from an unsure switch makes the walk's delivered
    from_unsure : (x : ℕ) → (route t e x lid).end ≡ Delivered → Contains (at ∷ tails t walked) x → (route t e from lid).end ≡ Delivered
    from_unsure x d there = elim (first_or_rest (tails t walked) at x there) [
      | inl same ↦ delivered_from t e lid toward.fabric.rows from (numbers walked) old.channels from_low walking.along (ap (λ (y : ℕ). (route t e y lid).end) (sym walking.place ∙ same) ∙ d)
      | inr before ↦
          (let was : WasAt t e lid from (numbers walked) x = was_at t e lid from x walked old.channels walking.along (in_from_Contains (tails t walked) x before) in
          delivered_from t e lid toward.fabric.rows from was.0 (was.1 ++ old.channels) from_low (regrouped was.0 was.1 old.channels (numbers walked) (route t e from lid).channels walking.along was.2)
          (ap (λ (y : ℕ). (route t e y lid).end) (sym was.4) ∙ d))
    ]

    -- a walk whose route isn't delivered: its switches are lost
    pub all_lost : (route t e from lid).end ≢ Delivered → AreMarks t e lid channels [] marks
    all_lost lost x = go (mark_of marks x) (walking.marked x)
      where
        go : (m : Mark) → Means t e lid channels (at ∷ tails t walked) m x → Means t e lid channels [] m x
        go Unseen means = tt
        go Lost means = λ d. absurd (lost (from_unsure x d (means d)))
        go Laid means = means

    -- a route that ends in delivery
    pub walk_ends : old.channels ≡ [] → old.end ≡ Delivered → IsWalked t e lid from channels walked (set marks at Laid)
    walk_ends none ends =
        let d : (route t e from lid).end ≡ Delivered = sym walking.end ∙ ends in
        let on : ((route t e (after t from (numbers walked)) lid).end ≡ Delivered) × ((route t e (after t from (numbers walked)) lid).channels ≡ old.channels) =
        goes_after t e lid toward.fabric.rows from (numbers walked) old.channels d walking.along in
        let here : IsLaid t e lid channels (after t from (numbers walked)) = inl (way_delivered t e lid (after t from (numbers walked)) on.0 ∙ on.1 ∙ none) in
        record {
          delivered = d;
          rest = [];
          along = walking.along ∙ ap (λ (xs : List ℕ). numbers walked ++ xs) none;
          laid = here;
          marked = marked t e lid channels channels (at ∷ tails t walked) (tails t walked) marks at Laid (omega (arith, walking.low, walking.room))
              (ap (λ (y : ℕ). (route t e y lid).end) walking.place ∙ on.0, subst (λ (y : ℕ). IsLaid t e lid channels y) (sym walking.place) here)
              (λ x other. (λ there. elim (first_or_rest (tails t walked) at x there) [ inl same ↦ absurd (other (sym same)) | inr before ↦ before ], λ laid. laid)) walking.marked;
        }

    module _ (new : Ahead) (c : ChannelId) (steps : StepsTo old (Some c) new) where
      before : (route t e from lid).channels ≡ numbers walked ++ c.0 ∷ new.channels
      before = walking.along ∙ ap (λ (xs : List ℕ). numbers walked ++ xs) steps.0

      pub channel_within : c.0 < length t.channels
      channel_within = channel_there t e lid toward.fabric.rows (length (numbers walked)) from c.0 (ap (λ (xs : List ℕ). slice_get xs (length (numbers walked))) before ∙ at_length (numbers walked) c.0 new.channels)

      tail_here : tail t c ≡ at
      tail_here = tail_after t e lid from c.0 (numbers walked) new.channels before ∙ sym walking.place

      module _ (to : SwitchId) (comes : option_map (λ (row : ChannelRow). row.tip) (slice_get t.channels c.0) ≡ Some to) (grown : List ChannelId) (grows : grown ≡ walked ++ c ∷ []) where
        pub to_low : to.0 < length t.switches
        to_low = tip_within t toward.fabric c.0 to comes

        grown_along : (route t e from lid).channels ≡ numbers grown ++ new.channels
        grown_along = before ∙ sym (numbers_push walked c new.channels) ∙ ap (λ (ws : List ChannelId). numbers ws ++ new.channels) (sym grows)

        grown_place : to.0 ≡ after t from (numbers grown)
        grown_place =
            sym (tip_is (slice_get t.channels c.0) to comes) ∙ sym (after_push t from (numbers walked) c.0)
            ∙ ap (λ (ws : List ℕ). after t from ws) (sym (map-append (λ (x : ChannelId). x.0) walked (c ∷ []))) ∙ ap (λ (ws : List ChannelId). after t from (numbers ws)) (sym grows)

        grown_unsure : (x : ℕ) → Contains (at ∷ tails t walked) x → Contains (tails t grown) x
        grown_unsure x there = subst (λ (ws : List ChannelId). Contains (tails t ws) x) (sym grows)
            (to_tails t walked c x (elim (first_or_rest (tails t walked) at x there) [ inl same ↦ inl (tail_here ∙ same) | inr rest ↦ inr rest ]))

        -- to a switch that no walk has seen
        pub walk_goes_on : IsWalking t e lid from channels initial grown new to.0 (set marks to.0 Lost)
        walk_goes_on = record {
          along = grown_along;
          end = steps.1 ∙ walking.end;
          place = grown_place;
          low = to_low;
          room = length-set marks to.0 Lost ∙ walking.room;
          marked = marked t e lid channels channels (at ∷ tails t walked) (to.0 ∷ tails t grown) marks to.0 Lost (omega (arith, to_low, walking.room)) (λ d. at_first (tails t grown) to.0)
              (λ x other. (λ there. behind x (grown_unsure x there), λ laid. laid)) walking.marked;
          seen = seen_on initial marks from to.0 Lost (omega (arith, to_low, walking.room)) unseen_lost walking.seen;
        }
          where
            behind : (x : ℕ) → Contains (tails t grown) x → Contains (to.0 ∷ tails t grown) x
            behind x there = behind_first (tails t grown) to.0 x there

        -- to one whose route is laid
        pub walk_reaches : mark_of marks to.0 ≡ Laid → IsWalked t e lid from channels grown marks
        walk_reaches is =
            let means : ((route t e to.0 lid).end ≡ Delivered) × IsLaid t e lid channels to.0 = subst (λ (m : Mark). Means t e lid channels (at ∷ tails t walked) m to.0) is (walking.marked to.0) in
            record {
              delivered = delivered_from t e lid toward.fabric.rows from (numbers grown) new.channels from_low grown_along (ap (λ (y : ℕ). (route t e y lid).end) (sym grown_place) ∙ means.0);
              rest = new.channels;
              along = grown_along;
              laid = subst (λ (y : ℕ). IsLaid t e lid channels y) grown_place means.1;
              marked = still_marks t e lid channels channels (at ∷ tails t walked) (tails t grown) marks (λ x. (grown_unsure x, λ laid. laid)) walking.marked;
            }

        -- to one that is lost, or is its own
        pub walk_is_lost : mark_of marks to.0 ≡ Lost → (route t e from lid).end ≢ Delivered
        walk_is_lost is d =
            let on : ((route t e (after t from (numbers grown)) lid).end ≡ Delivered) × ((route t e (after t from (numbers grown)) lid).channels ≡ new.channels) =
            goes_after t e lid toward.fabric.rows from (numbers grown) new.channels d grown_along in
            let means : (route t e to.0 lid).end ≡ Delivered → Contains (at ∷ tails t walked) to.0 = subst (λ (m : Mark). Means t e lid channels (at ∷ tails t walked) m to.0) is (walking.marked to.0) in
            let there : Contains (tails t grown) to.0 = grown_unsure to.0 (means (ap (λ (y : ℕ). (route t e y lid).end) grown_place ∙ on.0)) in
            let was : WasAt t e lid from (numbers grown) to.0 = was_at t e lid from to.0 grown new.channels grown_along (in_from_Contains (tails t grown) to.0 there) in
            let back : ((route t e (after t from was.0) lid).end ≡ Delivered) × ((route t e (after t from was.0) lid).channels ≡ was.1 ++ new.channels) =
            goes_after t e lid toward.fabric.rows from was.0 (was.1 ++ new.channels) d (regrouped was.0 was.1 new.channels (numbers grown) (route t e from lid).channels grown_along was.2) in
            let same : was.1 ++ new.channels ≡ new.channels = sym back.1 ∙ ap (λ (y : ℕ). (route t e y lid).channels) (sym was.4 ∙ grown_place) ∙ on.1 in
            omega (arith, was.3, ap (λ (xs : List ℕ). length xs) same, length-append was.1 new.channels)
