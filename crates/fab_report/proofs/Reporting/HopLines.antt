-- The lines of a route: text and what is still to come, and the lanes of hops.
use Rattle.std.proofs.Common.{◌≡◌, ℕ, ◌<◌, List, [], ◌∷◌, ◌++◌, length, refl, sym, ◌∙◌, ap, subst, inl, inr, arith, Option, Some, None, find, slice_get, append_assoc, append-nil}
use Rattle.std.specs.Prelude.{All, flat_map, option_map, unwrap_or, codes}
use Rattle.std.proofs.lemmas.Bool.{cases_lt}
use Rattle.std.proofs.lemmas.List.{get_or_past}
use Rattle.std.proofs.lemmas.List.Elements.{All-nil, All-cons, All-head, All-tail, All-get_or}
use Rattle.fab_text.specs.Digits.{last_digits}
use Rattle.fab_model.specs.declared.rows.ChannelRow.{ChannelRow}
use Rattle.fab_model.specs.declared.rows.SwitchRow.{SwitchRow}
use Rattle.fab_model.specs.Topology.{Topology}
use Rattle.fab_model.proofs.Lists.Members.{in_all}
use Rattle.fab_model.proofs.Lists.Found.{from_find}
use Rattle.fab_tables.specs.declared.lanes.PairRow.{PairRow}
use Rattle.fab_tables.specs.declared.verdict.VirtualChannel.{VirtualChannel}
use Rattle.fab_tables.specs.Entries.{cell}
use Rattle.fab_tables.specs.LaneTables.{LaneTables, AreLaneTables, IsPairRow, lane, lane_at, lane_of_pair, is_pair}
use Rattle.fab_tables.specs.VirtualChannels.{hop_lane, arrival, virtual_channel, on_channels}
use Rattle.fab_tables.proofs.Paths.HopsTaken.{AreLow, first_low, rest_low}
use Rattle.fab_report.specs.Shown.{channel_text}

-- ---- text

pub text_goes : {X : Type 0} (f : X → List ℕ) (x : X) (xs old : List X) (text now all : List ℕ) → old ≡ x ∷ xs → text ++ flat_map f old ≡ all → now ≡ text ++ f x → now ++ flat_map f xs ≡ all
text_goes f x xs old text now all is so_far more =
    ap (λ (bytes : List ℕ). bytes ++ flat_map f xs) more ∙ append_assoc text (f x) (flat_map f xs) ∙ sym (ap (λ zs. text ++ flat_map f zs) is) ∙ so_far

pub text_ends : {X : Type 0} (f : X → List ℕ) (old : List X) (text all : List ℕ) → old ≡ [] → text ++ flat_map f old ≡ all → text ≡ all
text_ends f old text all is so_far = sym (append-nil text) ∙ sym (ap (λ zs. text ++ flat_map f zs) is) ∙ so_far

pub two_parts : (before a b old now : List ℕ) → old ≡ before ++ a → now ≡ old ++ b → now ≡ before ++ (a ++ b)
two_parts before a b old now e f = f ∙ ap (λ (bytes : List ℕ). bytes ++ b) e ∙ append_assoc before a b

pub channel_text_is : (t : Topology) (channel : ℕ) (row : ChannelRow) (switch : SwitchRow) → slice_get t.channels channel ≡ Some row → slice_get t.switches row.tail.0 ≡ Some switch →
    codes "0x" ++ last_digits 16 16 switch.guid ++ codes " " ++ last_digits 10 3 row.port ≡ channel_text t (slice_get t.channels channel)
channel_text_is t channel row switch is at =
    sym (ap (λ (o : Option ChannelRow). channel_text t o) is
    ∙ ap (λ (o : Option SwitchRow). codes "0x" ++ last_digits 16 16 (unwrap_or (option_map (λ (r : SwitchRow). r.guid) o) 0) ++ codes " " ++ last_digits 10 3 row.port) at)

-- ---- lanes of hops

lane_below : (l : LaneTables) (s of_level : ℕ) → AreLaneTables l → lane l s of_level < 16
lane_below l s of_level are = elim (cases_lt (cell 16 s of_level) (length l.general)) [
  | inl h ↦ All-get_or (λ (n : ℕ). n < 16) l.general (cell 16 s of_level) 15 h are.lanes
  | inr h ↦ omega (arith, get_or_past l.general (cell 16 s of_level) 15 h)
]

lane_at_below : (l : LaneTables) (s from to of_level : ℕ) → AreLaneTables l → of_level < 16 → lane_at l s from to of_level < 16
lane_at_below l s from to of_level are low = go (find (is_pair s from to) l.pairs) refl
  where
    go : (o : Option PairRow) → find (is_pair s from to) l.pairs ≡ o → lane_of_pair o of_level (lane l s of_level) < 16
    go None e = lane_below l s of_level are
    go (Some p) e =
        let row : IsPairRow l.switches p = in_all (IsPairRow l.switches) l.pairs are.pairs p (from_find (is_pair s from to) l.pairs p e).0 in
        All-get_or (λ (n : ℕ). n < 16) p.map of_level 15 (omega (arith, low, row.levels)) row.lanes

hop_lane_below : (l : LaneTables) (of_level from : ℕ) (o : Option ChannelRow) → AreLaneTables l → of_level < 16 → hop_lane l of_level from o < 16
hop_lane_below l of_level from None are low = omega arith
hop_lane_below l of_level from (Some row) are low = lane_at_below l row.tail.0 from row.port of_level are low

-- a channel of the fabric, and a lane
pub record IsHop (t : Topology) (v : VirtualChannel) : Type 0 where
  pub channel : v.channel.0 < length t.channels
  pub lane : v.lane < 16

pub are_hops : (t : Topology) (l : LaneTables) (of_level from : ℕ) (cs : List ℕ) → AreLaneTables l → of_level < 16 → AreLow t cs → All (IsHop t) (on_channels t l of_level from cs)
are_hops t l of_level from [] are low all = All-nil (IsHop t)
are_hops t l of_level from (c ∷ cs) are low all =
    All-cons (IsHop t) (virtual_channel c (hop_lane l of_level from (slice_get t.channels c))) (on_channels t l of_level (arrival (slice_get t.channels c)) cs)
    (record { channel = first_low t (c ∷ cs) cs c refl all; lane = hop_lane_below l of_level from (slice_get t.channels c) are low })
    (are_hops t l of_level (arrival (slice_get t.channels c)) cs are low (rest_low t (c ∷ cs) cs c refl all))

module _ (t : Topology) (old : List VirtualChannel) (v : VirtualChannel) (vs : List VirtualChannel) (is : old ≡ v ∷ vs) (all : All (IsHop t) old) where
  pub first_hop : IsHop t v
  first_hop = All-head (IsHop t) v vs (subst (λ (xs : List VirtualChannel). All (IsHop t) xs) is all)

  pub hops_left : All (IsHop t) vs
  hops_left = All-tail (IsHop t) v vs (subst (λ (xs : List VirtualChannel). All (IsHop t) xs) is all)
