-- Lists of cables, and their channels.
use Rattle.std.proofs.Common.{◌≡◌, ◌≢◌, ℕ, ◌*◌, ◌<◌, ◌≤◌, inl, inr, List, [], ◌∷◌, length, refl, sym, ap, subst, arith}
use Rattle.std.specs.Prelude.{flat_map}
use Rattle.fab_model.specs.declared.rows.ChannelRow.{ChannelRow}
use Rattle.fab_model.specs.Topology.{reversed}
use Rattle.fab_model.specs.WellFormed.{GoesBefore, IsPort}
use Rattle.fab_model.specs.Built.{by_tail}
use Rattle.fab_model.proofs.Lists.Members.{In, Pairs, pairs_weaker}
use Rattle.fab_model.proofs.Faultless.Channels.{goes_from_test, by_tail_along, channels_apart}
use Rattle.fab_model.proofs.Lists.InOrder.{from_in_order, in_in_order, rise_in_order, Goes, AreApart}
use Rattle.fab_model.proofs.Order.{length-in_order}
use Rattle.fab_report.specs.declared.recipe.Kind.{Kind}
use Rattle.fab_report.specs.Recipes.{switch_count, port_count, terminal_ports, channels_of}
use Rattle.fab_model.proofs.Lists.FlatMaps.{from_flat_map, in_flat_map, pairs_flat_map}

-- ---- cables

-- both ends are ports of switches, on which no terminal is, and not of one switch
pub record IsCable (k : Kind) (a b : ℕ) (row : ChannelRow) : Type 0 where
  pub tail : row.tail.0 < switch_count k a b
  pub tip : row.tip.0 < switch_count k a b
  pub tail_port : IsPort (port_count k a b row.tail.0) row.port
  pub tip_port : IsPort (port_count k a b row.tip.0) row.tip_port
  pub tail_free : (port : ℕ) → In port (terminal_ports k a b row.tail.0) → port ≢ row.port
  pub tip_free : (port : ℕ) → In port (terminal_ports k a b row.tip.0) → port ≢ row.tip_port
  pub other : row.tail.0 ≢ row.tip.0

-- no end of the one is an end of the other
pub record HaveOwnEnds (x y : ChannelRow) : Type 0 where
  pub tails : x.tail.0 ≡ y.tail.0 → x.port ≢ y.port
  pub tail_tip : x.tail.0 ≡ y.tip.0 → x.port ≢ y.tip_port
  pub tip_tail : x.tip.0 ≡ y.tail.0 → x.tip_port ≢ y.port
  pub tips : x.tip.0 ≡ y.tip.0 → x.tip_port ≢ y.tip_port

pub record AreCables (k : Kind) (a b : ℕ) (rows : List ChannelRow) : Type 0 where
  pub each : (row : ChannelRow) → In row rows → IsCable k a b row
  pub apart : Pairs HaveOwnEnds rows
  pub few : length rows ≤ 250000

-- ---- their channels

abbrev pub both_ways : List ChannelRow → List ChannelRow
both_ways rows = flat_map (λ (row : ChannelRow). row ∷ reversed row ∷ []) rows

module _ (k : Kind) (a b : ℕ) (rows : List ChannelRow) (are : AreCables k a b rows) where
  other_way : (row : ChannelRow) → IsCable k a b row → IsCable k a b (reversed row)
  other_way row is = record {
    tail = is.tip;
    tip = is.tail;
    tail_port = is.tip_port;
    tip_port = is.tail_port;
    tail_free = is.tip_free;
    tip_free = is.tail_free;
    other = λ same. is.other (sym same);
  }

  of_both : (row x : ChannelRow) → IsCable k a b row → In x (row ∷ reversed row ∷ []) → IsCable k a b x
  of_both row x is (inl e) = subst (λ z. IsCable k a b z) e is
  of_both row x is (inr (inl e)) = subst (λ z. IsCable k a b z) e (other_way row is)
  of_both row x is (inr (inr none)) = absurd none

  pub channel_is : (row : ChannelRow) → In row (channels_of rows) → IsCable k a b row
  channel_is row within =
      let from : (x : ChannelRow) × In x rows × In row (x ∷ reversed x ∷ []) = from_flat_map (λ (x : ChannelRow). x ∷ reversed x ∷ []) rows row (from_in_order by_tail (both_ways rows) row within) in
      of_both from.0 row (are.each from.0 from.1) from.2

  turned : (row x : ChannelRow) → In x (row ∷ reversed row ∷ []) → In (reversed x) (row ∷ reversed row ∷ [])
  turned row x (inl e) = inr (inl (ap reversed e))
  turned row x (inr (inl e)) = inl (ap reversed e)
  turned row x (inr (inr none)) = absurd none

  pub channel_back : (row : ChannelRow) → In row (channels_of rows) → In (reversed row) (channels_of rows)
  channel_back row within =
      let from : (x : ChannelRow) × In x rows × In row (x ∷ reversed x ∷ []) = from_flat_map (λ (x : ChannelRow). x ∷ reversed x ∷ []) rows row (from_in_order by_tail (both_ways rows) row within) in
      in_in_order by_tail (both_ways rows) (reversed row) (in_flat_map (λ (x : ChannelRow). x ∷ reversed x ∷ []) rows from.0 (reversed row) from.1 (turned from.0 row from.2))

  -- the two channels of a cable, and those of two cables, leave by other ports
  apart_in : (row : ChannelRow) → IsCable k a b row → Pairs (AreApart by_tail) (row ∷ reversed row ∷ [])
  apart_in row is = (
    λ y within. first y within,
    (λ y none. absurd none, tt),
  )
    where
      first : (y : ChannelRow) → In y (reversed row ∷ []) → AreApart by_tail row y
      first y (inl e) = subst (λ z. AreApart by_tail row z) e (channels_apart row (reversed row) (λ same. absurd (is.other same)))
      first y (inr none) = absurd none

  apart_across : (x y u v : ChannelRow) → HaveOwnEnds x y → In u (x ∷ reversed x ∷ []) → In v (y ∷ reversed y ∷ []) → AreApart by_tail u v
  apart_across x y u v own (inl e) (inl f) = subst (λ z. AreApart by_tail z v) e (subst (λ z. AreApart by_tail x z) f (channels_apart x y own.tails))
  apart_across x y u v own (inl e) (inr (inl f)) = subst (λ z. AreApart by_tail z v) e (subst (λ z. AreApart by_tail x z) f (channels_apart x (reversed y) own.tail_tip))
  apart_across x y u v own (inl e) (inr (inr none)) = absurd none
  apart_across x y u v own (inr (inl e)) (inl f) = subst (λ z. AreApart by_tail z v) e (subst (λ z. AreApart by_tail (reversed x) z) f (channels_apart (reversed x) y own.tip_tail))
  apart_across x y u v own (inr (inl e)) (inr (inl f)) = subst (λ z. AreApart by_tail z v) e (subst (λ z. AreApart by_tail (reversed x) z) f (channels_apart (reversed x) (reversed y) own.tips))
  apart_across x y u v own (inr (inl e)) (inr (inr none)) = absurd none
  apart_across x y u v own (inr (inr none)) g = absurd none

  pub channels_rise : Pairs GoesBefore (channels_of rows)
  channels_rise =
      pairs_weaker (Goes by_tail) GoesBefore (channels_of rows) (λ x y in_x in_y goes. goes_from_test x y goes)
      (rise_in_order by_tail by_tail_along (both_ways rows)
      (pairs_flat_map (AreApart by_tail) HaveOwnEnds (λ (x : ChannelRow). x ∷ reversed x ∷ []) rows (λ x at. apart_in x (are.each x at)) (λ x z at there own u v in_u in_v. apart_across x z u v own in_u in_v) are.apart))

  twice : (xs : List ChannelRow) → length (both_ways xs) ≡ 2 * length xs
  twice [] = refl
  twice (x ∷ xs) = omega (arith, twice xs)

  pub channels_few : length (channels_of rows) ≤ 500000
  channels_few = omega (arith, length-in_order by_tail (both_ways rows), twice rows, are.few)
