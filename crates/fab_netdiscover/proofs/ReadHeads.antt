-- Written heads, read again.
use Rattle.std.proofs.Common.{◌≡◌, ◌<◌, ◌≤◌, ◌+◌, ◌^◌, ℕ, Bool, false, cond, List, [], ◌∷◌, ◌++◌, length, drop, refl, ap, ◌∙◌, arith, codes}
use Rattle.std.specs.Prelude.{Ok, decimal}
use Rattle.std.specs.List.{concat, prefix_len, list_any}
use Rattle.std.proofs.lemmas.Bool.{or_from}
use Rattle.std.proofs.lemmas.List.Elements.{All-head, All-tail}
use Rattle.std.proofs.lemmas.List.{append_assoc}
use Rattle.std.proofs.lemmas.List.Folds.{list_any-append}
use Rattle.fab_text.specs.Bytes.{is_blank, is_quote}
use Rattle.fab_text.proofs.Spelled.{Spells, IsHigh, decimal_spells, spelled_high}
use Rattle.fab_text.proofs.Words.{high_byte}
use Rattle.fab_model.specs.declared.raw.NodeKind.{NodeKind}
use Rattle.fab_model.specs.declared.raw.NodeKind.TheVariants.{Switch, Adapter}
use Rattle.fab_model.specs.declared.raw.RawNode.{RawNode}
use Rattle.fab_model.specs.declared.rows.SwitchRow.{SwitchRow}
use Rattle.fab_model.specs.declared.rows.AdapterRow.{AdapterRow}
use Rattle.fab_netdiscover.specs.declared.fault.BadKind.TheVariants as kinds
use Rattle.fab_netdiscover.specs.Fronts.{past_blanks}
use Rattle.fab_netdiscover.specs.Lines.{node_front, switch_head, adapter_head}
use Rattle.fab_netdiscover.specs.Writing.{name_text, in_quotes, address_text}
use Rattle.fab_netdiscover.proofs.ReadNumbers.{number_read}
use Rattle.fab_netdiscover.proofs.ReadParts.{own_name_read}
use Rattle.fab_netdiscover.proofs.ReadTails.{description_read, switch_address}

-- the pieces of a text, and what stands behind them
abbrev pub onto : List (List ℕ) → List ℕ → List ℕ
onto [] rest = rest
onto (piece ∷ pieces) rest = piece ++ onto pieces rest

pub concat-onto : (pieces : List (List ℕ)) (rest : List ℕ) → concat pieces ++ rest ≡ onto pieces rest
concat-onto [] rest = refl
concat-onto (piece ∷ pieces) rest = append_assoc piece (concat pieces) rest ∙ ap (λ (behind : List ℕ). piece ++ behind) (concat-onto pieces rest)

no_quote : (byte : ℕ) → 48 ≤ byte → is_quote byte ≡ false
no_quote byte h = grind arith

-- no blank stands before a number
first_digit : (written rest : List ℕ) → 0 < length written → IsHigh written → prefix_len is_blank (written ++ rest) ≡ 0
first_digit [] rest some h = absurd (omega (arith, some))
first_digit (digit ∷ written) rest some h =
    let low : 48 ≤ digit = All-head (λ byte. 48 ≤ byte) digit written h in
    ap (λ (blank : Bool). cond blank (1 + prefix_len is_blank (written ++ rest)) 0) (high_byte digit (omega arith))

number_stands : (number : ℕ) (rest : List ℕ) → number < 2 ^ 64 → past_blanks (9 ∷ (decimal number ++ rest)) ≡ decimal number ++ rest
number_stands number rest h =
    let s : Spells 10 number (decimal number) = decimal_spells number h in
    ap (λ (count : ℕ). drop (1 + count) (9 ∷ (decimal number ++ rest))) (first_digit (decimal number) rest s.some (spelled_high 10 number (decimal number) (omega arith) s))

name_stands : (kind : NodeKind) (guid : ℕ) (rest : List ℕ) → past_blanks (32 ∷ (name_text kind guid ++ rest)) ≡ name_text kind guid ++ rest
unfolding name_text
name_stands Switch guid rest = refl
name_stands Adapter guid rest = refl

-- behind the word of a head, a tab
abbrev pub front_text : NodeKind → ℕ → ℕ → List ℕ → List ℕ
front_text kind ports guid rest = 9 ∷ (decimal ports ++ (32 ∷ (name_text kind guid ++ rest)))

front_read : (kind : NodeKind) (ports guid : ℕ) (rest : List ℕ) → ports < 2 ^ 32 → guid < 2 ^ 64 → node_front kind (front_text kind ports guid rest) ≡ Ok (record { ports = ports; guid = guid }, rest)
front_read kind ports guid rest h k =
    rw (number_stands ports (32 ∷ (name_text kind guid ++ rest)) (omega (arith, h)))
    (rw (number_read kinds.Ports ports (decimal ports) (32 ∷ (name_text kind guid ++ rest)) (decimal_spells ports (omega (arith, h))) h refl)
    (rw (name_stands kind guid rest)
    (rw (own_name_read kind guid rest k))))

abbrev pub switch_node : ℕ → SwitchRow → RawNode
switch_node line row = record { line = line; kind = Switch; guid = row.guid; ports = row.ports; lid = row.lid.0; lmc = 0; desc = row.desc }

abbrev pub adapter_node : ℕ → AdapterRow → RawNode
adapter_node line row = record { line = line; kind = Adapter; guid = row.guid; ports = row.ports; lid = 0; lmc = 0; desc = row.desc }

-- behind the word of a switch's head
abbrev pub switch_rest : SwitchRow → List ℕ
switch_rest row = front_text Switch row.ports row.guid (codes "\t\t# " ++ (in_quotes row.desc ++ (codes " base port 0 " ++ address_text row.lid.0)))

no_quote_in_digits : (written : List ℕ) → IsHigh written → list_any is_quote written ≡ false
no_quote_in_digits [] h = refl
no_quote_in_digits (digit ∷ written) h =
    or_from (is_quote digit) (list_any is_quote written) (no_quote digit (All-head (λ byte. 48 ≤ byte) digit written h)) (no_quote_in_digits written (All-tail (λ byte. 48 ≤ byte) digit written h))

no_quote_in_address : (lid : ℕ) → lid < 2 ^ 64 → list_any is_quote (codes " base port 0 " ++ address_text lid) ≡ false
unfolding address_text
no_quote_in_address lid h =
    let s : Spells 10 lid (decimal lid) = decimal_spells lid h in
    list_any-append is_quote (decimal lid) (codes " lmc 0") ∙ or_from (list_any is_quote (decimal lid)) false (no_quote_in_digits (decimal lid) (spelled_high 10 lid (decimal lid) (omega arith) s)) refl

pub switch_rest_read : (line : ℕ) (row : SwitchRow) → row.ports < 2 ^ 32 → row.guid < 2 ^ 64 → row.lid.0 < 2 ^ 32 → length row.desc ≤ 64 → switch_head line (switch_rest row) ≡ Ok (switch_node line row)
unfolding switch_head
switch_rest_read line row a b c d =
    rw (front_read Switch row.ports row.guid (codes "\t\t# " ++ (in_quotes row.desc ++ (codes " base port 0 " ++ address_text row.lid.0))) a b)
    (rw (description_read row.desc (codes " base port 0 " ++ address_text row.lid.0) d (no_quote_in_address row.lid.0 (omega (arith, c))))
    (rw (switch_address row.lid.0 c)))

abbrev pub adapter_rest : AdapterRow → List ℕ
adapter_rest row = front_text Adapter row.ports row.guid (codes "\t\t# " ++ (in_quotes row.desc ++ []))

pub adapter_rest_read : (line : ℕ) (row : AdapterRow) → row.ports < 2 ^ 32 → row.guid < 2 ^ 64 → length row.desc ≤ 64 → adapter_head line (adapter_rest row) ≡ Ok (adapter_node line row)
unfolding adapter_head
adapter_rest_read line row a b d =
    rw (front_read Adapter row.ports row.guid (codes "\t\t# " ++ (in_quotes row.desc ++ [])) a b) (rw (description_read row.desc [] d refl))
