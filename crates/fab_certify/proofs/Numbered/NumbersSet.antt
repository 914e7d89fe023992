-- One number more is set.
use Rattle.std.proofs.Common.{◌≡◌, ℕ, ◌+◌, ◌*◌, ◌<◌, ◌≤◌, ◌^◌, false, List, refl, sym, ◌∙◌, ap, subst, inl, inr, ◌⊎◌, arith, length-set}
use Rattle.std.specs.Prelude.{◌==◌, ◌&&◌, if◌then◌else◌}
use Rattle.std.proofs.lemmas.Bool.{cases_lt, cases_eq, eq-eqb, ne_eqb, and_from, and_left, and_right, cond-true, cond-false}
use Rattle.std.proofs.lemmas.List.Elements.{All-set}
use Rattle.fab_model.specs.declared.rows.ChannelId.{ChannelId}
use Rattle.fab_tables.specs.declared.verdict.VirtualChannel.{VirtualChannel}
use Rattle.fab_tables.specs.LaneTables.{LaneTables, AreLaneTables, with_number}
use Rattle.fab_tables.specs.Certified.{number_of}
use Rattle.fab_tables.proofs.Rows.Cells.{one_number_changes}
use Rattle.fab_certify.specs.Collected.{Collected}
use Rattle.fab_certify.specs.Numbers.{number_given, IsNumbering, HasNumbers}

pub number_kept : (l : LaneTables) (c lane n : ℕ) → AreLaneTables l → n < 2 ^ 32 → AreLaneTables (with_number l c lane n)
number_kept l c lane n are low = record {
  count = are.count;
  ascending = are.ascending;
  all_levels = are.all_levels;
  low_levels = are.low_levels;
  all_general = are.all_general;
  lanes = are.lanes;
  in_order = are.in_order;
  few_pairs = are.few_pairs;
  pairs = are.pairs;
  all_numbers = length-set l.numbers (c * 15 + lane) n ∙ are.all_numbers;
  low_numbers = All-set (λ m. m < 2 ^ 32) l.numbers (c * 15 + lane) n low are.low_numbers;
}

pub numbering_begins : (c : Collected) (levels : List ℕ) (l : LaneTables) → AreLaneTables l → IsNumbering c levels l l 0 0
numbering_begins c levels l are = record { whole = are; same = refl; numbers = none }
  where
    none : (v : VirtualChannel) → (v.channel.0 < 0) ⊎ ((v.channel.0 ≡ 0) × (v.lane < 0)) → v.lane < 15 → number_of l v ≡ number_given l.count c levels v
    none v (inl h) low = absurd (omega arith)
    none v (inr h) low = absurd (omega (arith, h.1))

module _ (c : Collected) (levels : List ℕ) (old now : LaneTables) (channel : ChannelId) (lane : ℕ) (so_far : IsNumbering c levels old now channel.0 lane) where
  abbrev hop : VirtualChannel
  hop = record { channel = channel; lane = lane }

  pub one_more_number : channel.0 < old.channels → lane < 15 → (n : ℕ) → n < 2 ^ 32 → n ≡ number_given old.count c levels hop → IsNumbering c levels old (with_number now channel.0 lane n) channel.0 (lane + 1)
  one_more_number there low n few given = record {
    whole = number_kept now channel.0 lane n so_far.whole few;
    same = ap (λ (m : LaneTables). with_number m channel.0 lane n) so_far.same;
    numbers = numbers;
  }
    where
      in_now : channel.0 < now.channels
      in_now = subst (λ (m : LaneTables). channel.0 < m.channels) (sym so_far.same) there

      changed : (v : VirtualChannel) → number_of (with_number now channel.0 lane n) v ≡ (if (v.channel.0 == channel.0) && (v.lane == lane) then n else number_of now v)
      changed v = one_number_changes now channel.0 lane n v.channel.0 v.lane so_far.whole in_now low

      here : (v : VirtualChannel) → v.channel.0 ≡ channel.0 → v.lane ≡ lane → number_of (with_number now channel.0 lane n) v ≡ number_given old.count c levels v
      here v a b =
          let same : hop ≡ v = ap (λ k. record { channel = record { 0 = k }; lane = lane }) (sym a) ∙ ap (λ k. record { channel = v.channel; lane = k }) (sym b) in
          changed v ∙ cond-true ((v.channel.0 == channel.0) && (v.lane == lane)) n (number_of now v) (and_from (v.channel.0 == channel.0) (v.lane == lane) (eq-eqb v.channel.0 channel.0 a) (eq-eqb v.lane lane b))
          ∙ given ∙ ap (number_given old.count c levels) same

      other : (v : VirtualChannel) → ((v.channel.0 == channel.0) && (v.lane == lane)) ≡ false → (v.channel.0 < channel.0) ⊎ ((v.channel.0 ≡ channel.0) × (v.lane < lane)) → v.lane < 15 →
          number_of (with_number now channel.0 lane n) v ≡ number_given old.count c levels v
      other v differs before low_v = changed v ∙ cond-false ((v.channel.0 == channel.0) && (v.lane == lane)) n (number_of now v) differs ∙ so_far.numbers v before low_v

      numbers : (v : VirtualChannel) → (v.channel.0 < channel.0) ⊎ ((v.channel.0 ≡ channel.0) × (v.lane < lane + 1)) → v.lane < 15 → number_of (with_number now channel.0 lane n) v ≡ number_given old.count c levels v
      numbers v (inl less) low_v = other v (and_left (v.channel.0 == channel.0) (v.lane == lane) (ne_eqb v.channel.0 channel.0 (λ e. absurd (omega arith)))) (inl less) low_v
      numbers v (inr same) low_v = elim (cases_eq v.lane lane) [
        | inl at ↦ here v same.0 at
        | inr off ↦ other v (and_right (v.channel.0 == channel.0) (v.lane == lane) (ne_eqb v.lane lane off)) (inr (same.0, omega (arith, same.1, off))) low_v
      ]

-- the lanes of one channel are done
pub next_channel : (c : Collected) (levels : List ℕ) (old now : LaneTables) (channel lane : ℕ) → IsNumbering c levels old now channel lane → 15 ≤ lane → IsNumbering c levels old now (channel + 1) 0
next_channel c levels old now channel lane so_far all = record { whole = so_far.whole; same = so_far.same; numbers = numbers }
  where
    numbers : (v : VirtualChannel) → (v.channel.0 < channel + 1) ⊎ ((v.channel.0 ≡ channel + 1) × (v.lane < 0)) → v.lane < 15 → number_of now v ≡ number_given old.count c levels v
    numbers v (inl less) low = elim (cases_lt v.channel.0 channel) [
      | inl before ↦ so_far.numbers v (inl before) low
      | inr here ↦ so_far.numbers v (inr (omega arith, omega (arith, low, all))) low
    ]
    numbers v (inr none) low = absurd (omega (arith, none.1))

pub all_numbered : (c : Collected) (levels : List ℕ) (old now : LaneTables) (channel : ℕ) → IsNumbering c levels old now channel 0 → old.channels ≤ channel → HasNumbers c levels old now
all_numbered c levels old now channel so_far all = record {
  whole = so_far.whole;
  same = so_far.same;
  numbers = λ v there low. so_far.numbers v (inl (omega (arith, there, all))) low;
}
