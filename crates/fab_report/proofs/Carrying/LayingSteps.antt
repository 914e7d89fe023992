-- The channels of a delivered walk are laid from the last to the first.
use Rattle.std.proofs.Common.{◌≡◌, ◌≢◌, ℕ, ◌<◌, inl, inr, List, [], ◌∷◌, ◌++◌, length, set, refl, sym, ◌∙◌, ap, subst, arith, Some, slice_get}
use Rattle.std.specs.Prelude.{Contains}
use Rattle.std.proofs.lemmas.List.{map-append}
use Rattle.std.proofs.lemmas.List.Elements.{All-contains}
use Rattle.std.proofs.lemmas.Option.{slice_get_within, get_or_from_slice_get}
use Rattle.fab_model.specs.declared.rows.ChannelId.{ChannelId}
use Rattle.fab_model.specs.declared.rows.ChannelRow.{ChannelRow}
use Rattle.fab_model.specs.Topology.{Topology}
use Rattle.fab_model.proofs.Lists.Members.{in_from_Contains}
use Rattle.fab_tables.specs.declared.end.End.TheVariants.{Delivered}
use Rattle.fab_tables.specs.Entries.{Entries}
use Rattle.fab_tables.specs.Reaching.{IsToward}
use Rattle.fab_tables.specs.Route.{tip, route}
use Rattle.fab_tables.proofs.Paths.Routes.{channel_there}
use Rattle.fab_report.specs.declared.order.Mark.{Mark}
use Rattle.fab_report.specs.declared.order.Mark.TheVariants.{Unseen, Lost, Laid}
use Rattle.fab_report.specs.Order.{tail, tail_of_row, tails, IsLaid, AreInOrder, mark_of, Means, AreMarks, after, numbers, IsWalked}
use Rattle.fab_report.proofs.Carrying.WalkedRoutes.{after_push, tail_after, goes_after}
use Rattle.fab_report.proofs.Carrying.RouteWays.{way_lost, way_goes}
use Rattle.fab_report.proofs.Carrying.Marks.{tail_last, at_first, behind_first, marked}
use Rattle.fab_report.proofs.Carrying.WalkSteps.{numbers_push, at_length}

module _ (t : Topology) (e : Entries) (lid : ℕ) (toward : IsToward t e lid) (from : ℕ) (laid walked left : List ChannelId) (c : ChannelId) (marks : List Mark)
    (is : walked ≡ left ++ c ∷ []) (now : IsWalked t e lid from laid walked marks) where
  along : (route t e from lid).channels ≡ numbers left ++ c.0 ∷ now.rest
  along = now.along ∙ ap (λ (ws : List ChannelId). numbers ws ++ now.rest) is ∙ numbers_push left c now.rest

  pub last_low : c.0 < length t.channels
  last_low = channel_there t e lid toward.fabric.rows (length (numbers left)) from c.0 (ap (λ (xs : List ℕ). slice_get xs (length (numbers left))) along ∙ at_length (numbers left) c.0 now.rest)

  tail_there : tail t c ≡ after t from (numbers left)
  tail_there = tail_after t e lid from c.0 (numbers left) now.rest along

  on : ((route t e (tail t c) lid).end ≡ Delivered) × ((route t e (tail t c) lid).channels ≡ c.0 ∷ now.rest)
  on = subst (λ (s : ℕ). ((route t e s lid).end ≡ Delivered) × ((route t e s lid).channels ≡ c.0 ∷ now.rest)) (sym tail_there) (goes_after t e lid toward.fabric.rows from (numbers left) (c.0 ∷ now.rest) now.delivered along)

  tip_laid : IsLaid t e lid laid (tip t c.0)
  tip_laid =
      let there : after t from (numbers walked) ≡ tip t c.0 =
      ap (λ (ws : List ChannelId). after t from (numbers ws)) is ∙ ap (λ (ws : List ℕ). after t from ws) (map-append (λ (x : ChannelId). x.0) left (c ∷ [])) ∙ after_push t from (numbers left) c.0 in
      subst (λ (s : ℕ). IsLaid t e lid laid s) there now.laid

  pub order_grows : AreInOrder t e lid laid → AreInOrder t e lid (c ∷ laid)
  order_grows order = (last_low, way_goes t e lid toward.fabric.rows (tail t c) c.0 now.rest on.0 on.1, tip_laid, order)

  module _ (row : ChannelRow) (found : slice_get t.channels c.0 ≡ Some row) (room : length marks ≡ length t.switches) where
    row_tail : tail t c ≡ row.tail.0
    row_tail = ap tail_of_row found

    pub tail_low : row.tail.0 < length t.switches
    tail_low = All-contains (λ (r : ChannelRow). r.tail.0 < length t.switches) t.channels row toward.fabric.rows.channel_tails (c.0, slice_get_within t.channels c.0 row found, get_or_from_slice_get t.channels c.0 row row found)

    here : IsLaid t e lid (c ∷ laid) (tail t c)
    here = inr (at_first (tails t laid) (tail t c))

    pub one_laid : IsWalked t e lid from (c ∷ laid) left (set marks row.tail.0 Laid)
    one_laid = record {
      delivered = now.delivered;
      rest = c.0 ∷ now.rest;
      along = along;
      laid = subst (λ (s : ℕ). IsLaid t e lid (c ∷ laid) s) tail_there here;
      marked = marked t e lid laid (c ∷ laid) (tails t walked) (tails t left) marks row.tail.0 Laid (omega (arith, tail_low, room))
          (subst (λ (s : ℕ). ((route t e s lid).end ≡ Delivered) × IsLaid t e lid (c ∷ laid) s) row_tail (on.0, here))
          (λ x other. (λ there. elim (tail_last t left c x (subst (λ (ws : List ChannelId). Contains (tails t ws) x) is there)) [ inl same ↦ absurd (other (sym same ∙ row_tail)) | inr before ↦ before ], laid_still x)) now.marked;
    }
      where
        laid_still : (x : ℕ) → IsLaid t e lid laid x → IsLaid t e lid (c ∷ laid) x
        laid_still x (inl none) = inl none
        laid_still x (inr there) = inr (behind_first (tails t laid) (tail t c) x there)

-- a switch that is seen when no walk is under way has its way laid
pub seen_laid : (t : Topology) (e : Entries) (lid : ℕ) (laid : List ChannelId) (marks : List Mark) (s : ℕ) → AreMarks t e lid laid [] marks → mark_of marks s ≢ Unseen → IsLaid t e lid laid s
seen_laid t e lid laid marks s are seen = go (mark_of marks s) refl (are s)
  where
    go : (m : Mark) → mark_of marks s ≡ m → Means t e lid laid [] m s → IsLaid t e lid laid s
    go Unseen is means = absurd (seen is)
    go Lost is means = inl (way_lost t e lid s (λ d. absurd (in_from_Contains [] s (means d))))
    go Laid is means = means.1
