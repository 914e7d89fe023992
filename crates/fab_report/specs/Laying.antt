-- What laying cables at random keeps.
use Rattle.std.specs.Prelude.{◌≡◌, ℕ, ◌<◌, ◌≤◌, List, length, nat_le, slice_index}
use Rattle.fab_model.specs.declared.rows.ChannelRow.{ChannelRow}
use Rattle.fab_report.specs.Cabling.{is_free}

pub record LaidCables : Type 0 where
  pub switches : ℕ  -- how many there are
  pub cables : List ChannelRow

-- the ports of a switch from this one on are free, and no smaller one behind the terminal's is
pub record IsLeastFree (cables : List ChannelRow) (s port : ℕ) : Type 0 where
  pub low : 2 ≤ port
  pub high : port ≤ 255
  pub free : (n : ℕ) → 2 ≤ n → n ≤ 254 → is_free cables s n ≡ nat_le port n

-- by switch its least free port, 255 where it has none
abbrev pub AreLeastFree : List ChannelRow → List ℕ → Type 0
AreLeastFree cables ports = (s : ℕ) → s < length ports → IsLeastFree cables s (slice_index ports s)
