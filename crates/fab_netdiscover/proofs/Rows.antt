-- Rows that are found, and what they lead to.
use Rattle.std.proofs.Common.{◌≡◌, ◌<◌, ℕ, Bool, true, false, cond, List, Some, None, length, refl, sym, subst, ap, ◌∙◌, arith, nat_lt}
use Rattle.std.specs.Prelude.{slice_get, find, position, All, Contains}
use Rattle.std.specs.List.{position_or_len}
use Rattle.std.proofs.lemmas.List.Folds.{find_at}
use Rattle.std.proofs.lemmas.List.Elements.{All-contains, All-get_or}
use Rattle.std.proofs.lemmas.Option.{slice_get_within, get_or_from_slice_get, slice_get_past}
use Rattle.fab_model.specs.declared.rows.ChannelRow.{ChannelRow}
use Rattle.fab_model.specs.declared.rows.TerminalRow.{TerminalRow}
use Rattle.fab_model.specs.Topology.{Topology, reversed}
use Rattle.fab_model.specs.WellFormed.{IsFabric}

found_step : {X : Type 0} (xs : List X) (place : ℕ) (test : Bool) (i : ℕ) → cond test (Some place) None ≡ Some i → slice_get xs place ≡ slice_get xs i
found_step xs place true i e = ap (slice_get xs) cc
found_step xs place false i e = cc

pub found : {X : Type 0} (p : X → Bool) (xs : List X) (i : ℕ) (x : X) → position p xs ≡ Some i → slice_get xs i ≡ Some x → find p xs ≡ Some x
found p xs i x e h = find_at p xs ∙ found_step xs (position_or_len p xs) (nat_lt (position_or_len p xs) (length xs)) i e ∙ h

none_step : {X : Type 0} (xs : List X) (place : ℕ) (test : Bool) → nat_lt place (length xs) ≡ test → cond test (Some place) None ≡ None → slice_get xs place ≡ None
none_step xs place true e h = cc
none_step xs place false e h = slice_get_past xs place (grind (arith, e))

pub none_found : {X : Type 0} (p : X → Bool) (xs : List X) → position p xs ≡ None → find p xs ≡ None
none_found p xs e = find_at p xs ∙ none_step xs (position_or_len p xs) (nat_lt (position_or_len p xs) (length xs)) refl e

pub holds : {X : Type 0} (P : X → Type 0) (xs : List X) (i : ℕ) (x : X) → All P xs → slice_get xs i ≡ Some x → P x
holds P xs i x h e = subst P (get_or_from_slice_get xs i x x e) (All-get_or P xs i x (slice_get_within xs i x e) h)

pub tip_is_switch : (fabric : Topology) (i : ℕ) (row : ChannelRow) → IsFabric fabric → slice_get fabric.channels i ≡ Some row → row.tip.0 < length fabric.switches
tip_is_switch fabric i row h e =
    let back = holds (λ row. Contains fabric.channels (reversed row)) fabric.channels i row h.rows.reverses e in
    All-contains (λ (row : ChannelRow). row.tail.0 < length fabric.switches) fabric.channels (reversed row) h.rows.channel_tails back

pub terminal_has_adapter : (fabric : Topology) (i : ℕ) (row : TerminalRow) → IsFabric fabric → slice_get fabric.terminals i ≡ Some row → row.adapter < length fabric.adapters
terminal_has_adapter fabric i row h e = holds (λ (row : TerminalRow). row.adapter < length fabric.adapters) fabric.terminals i row h.rows.terminal_adapters e

pub terminal_has_switch : (fabric : Topology) (i : ℕ) (row : TerminalRow) → IsFabric fabric → slice_get fabric.terminals i ≡ Some row → row.switch.0 < length fabric.switches
terminal_has_switch fabric i row h e = holds (λ (row : TerminalRow). row.switch.0 < length fabric.switches) fabric.terminals i row h.rows.terminal_switches e

pub found_has_switch : (fabric : Topology) (p : TerminalRow → Bool) (row : TerminalRow) → IsFabric fabric → find p fabric.terminals ≡ Some row → row.switch.0 < length fabric.switches
found_has_switch fabric p row h e = terminal_has_switch fabric (position_or_len p fabric.terminals) row h (sym (find_at p fabric.terminals) ∙ e)
