-- The numbers of a certificate are set.
use Rattle.std.proofs.Common.{◌≡◌, ℕ, zero, suc, ◌+◌, ◌<◌, ◌≤◌, ◌^◌, List, refl, sym, subst, arith}
use Rattle.fab_model.specs.declared.rows.ChannelId.{ChannelId}
use Rattle.fab_tables.specs.declared.verdict.VirtualChannel.{VirtualChannel}
use Rattle.fab_tables.specs.LaneTables.{LaneTables, AreLaneTables, with_number}
use Rattle.fab_certify.specs.Collected.{Collected}
use Rattle.fab_certify.specs.Numbers.{number_given, IsNumbering, HasNumbers}
use Rattle.fab_certify.proofs.Numbered.NumbersSet.{numbering_begins, one_more_number, next_channel, all_numbered}

module _ (c : Collected) (levels : List ℕ) (old : LaneTables) (whole : AreLaneTables old) (low : (v : VirtualChannel) → number_given old.count c levels v < 2 ^ 32) where
  -- the lanes so far have their numbers
  abbrev SoFar : ℕ → ℕ → Type 0
  SoFar channel lane = (now : LaneTables) × IsNumbering c levels old now channel lane

  on_lanes : (channel : ℕ) → channel < old.channels → SoFar channel 0 → (lane : ℕ) → lane ≤ 15 → SoFar channel lane
  on_lanes channel there begins zero few = begins
  on_lanes channel there begins (suc lane) few =
      let before : SoFar channel lane = on_lanes channel there begins lane (omega (arith, few)) in
      let id : ChannelId = record { 0 = channel } in
      let hop : VirtualChannel = record { channel = id; lane = lane } in
      let next : suc lane ≡ lane + 1 = omega arith in
      let new : LaneTables = with_number before.0 channel lane (number_given old.count c levels hop) in (
        new,
        subst (λ k. IsNumbering c levels old new channel k) (sym next)
            (one_more_number c levels old before.0 id lane before.1 there (omega (arith, few)) (number_given old.count c levels hop) (low hop) refl),
      )

  on_channels : (channel : ℕ) → channel ≤ old.channels → SoFar channel 0
  on_channels zero few = (old, numbering_begins c levels old whole)
  on_channels (suc channel) few =
      let all : SoFar channel 15 = on_lanes channel (omega (arith, few)) (on_channels channel (omega (arith, few))) 15 (omega arith) in
      let next : suc channel ≡ channel + 1 = omega arith in
      (all.0, subst (λ k. IsNumbering c levels old all.0 k 0) (sym next) (next_channel c levels old all.0 channel 15 all.1 (omega arith)))

  pub numbers_exist : (new : LaneTables) × HasNumbers c levels old new
  numbers_exist = let all : SoFar old.channels 0 = on_channels old.channels (omega arith) in (all.0, all_numbered c levels old all.0 old.channels all.1 (omega arith))
