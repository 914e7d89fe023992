-- Parts of written lines, read again.
use Rattle.std.proofs.Common.{◌≡◌, ◌<◌, ◌^◌, ℕ, Bool, true, false, cond, List, [], ◌∷◌, ◌++◌, refl, sym, ap, ◌∙◌, arith, codes}
use Rattle.std.specs.Prelude.{Ok, decimal, ◌==◌}
use Rattle.std.proofs.lemmas.List.{append_assoc}
use Rattle.fab_text.proofs.Spelled.{decimal_spells, radix_spells}
use Rattle.fab_model.specs.declared.raw.NodeKind.{NodeKind}
use Rattle.fab_model.specs.declared.raw.NodeKind.TheVariants.{Switch, Adapter}
use Rattle.fab_netdiscover.specs.declared.fault.BadKind.TheVariants as kinds
use Rattle.fab_netdiscover.specs.declared.fronts.NameKind.{NameKind}
use Rattle.fab_netdiscover.specs.declared.fronts.NameKind.TheVariants as named
use Rattle.std.specs.List.{concat}
use Rattle.std.specs.Fmt.{radix_digits}
use Rattle.fab_netdiscover.specs.Fronts.{past_blanks, port_at, name_at, name_of}
use Rattle.fab_netdiscover.specs.Lines.{optional_parts, far_kind_of, cabled_at}
use Rattle.fab_netdiscover.specs.Writing.{port_text, name_text, guid16, port_guid_text}
use Rattle.fab_netdiscover.proofs.ReadNumbers.{number_read, guid_read, guid16_spells, length-guid16}

pub port_read : (port : ℕ) (rest : List ℕ) → port < 2 ^ 32 → port_at (port_text port ++ rest) ≡ Ok (port, rest)
unfolding port_at port_text
port_read port rest h =
    rw append_assoc (rw (number_read kinds.Port port (decimal port) (93 ∷ rest) (decimal_spells port (omega (arith, h))) h refl))

abbrev named_kind : NodeKind → NameKind
named_kind Switch = named.Switch
named_kind Adapter = named.Adapter

pub name_read : (kind : NodeKind) (guid : ℕ) (rest : List ℕ) → guid < 2 ^ 64 → name_at (name_text kind guid ++ rest) ≡ Ok (record { kind = named_kind kind; guid = guid }, rest)
unfolding name_at name_text
name_read Switch guid rest h = rw append_assoc (rw (guid_read kinds.Name guid (guid16 guid) (34 ∷ rest) (guid16_spells guid h) (length-guid16 guid) refl))
name_read Adapter guid rest h = rw append_assoc (rw (guid_read kinds.Name guid (guid16 guid) (34 ∷ rest) (guid16_spells guid h) (length-guid16 guid) refl))

pub own_name_read : (kind : NodeKind) (guid : ℕ) (rest : List ℕ) → guid < 2 ^ 64 → name_of kind (name_text kind guid ++ rest) ≡ Ok (record { kind = named_kind kind; guid = guid }, rest)
unfolding name_of
own_name_read Switch guid rest h = rw (name_read Switch guid rest h)
own_name_read Adapter guid rest h = rw (name_read Adapter guid rest h)

-- ---- a port line up to the far port

no_guid_read : (kind : NodeKind) (guid : ℕ) (rest : List ℕ) → optional_parts (9 ∷ (name_text kind guid ++ rest)) ≡ Ok (0, 9 ∷ (name_text kind guid ++ rest))
unfolding optional_parts name_text
no_guid_read Switch guid rest = refl
no_guid_read Adapter guid rest = refl

guid_in_parentheses : (number : ℕ) (kind : NodeKind) (guid : ℕ) (rest : List ℕ) → number < 2 ^ 64
    → optional_parts (40 ∷ (radix_digits 16 false number ++ (41 ∷ 9 ∷ (name_text kind guid ++ rest)))) ≡ Ok (number, 9 ∷ (name_text kind guid ++ rest))
unfolding optional_parts name_text
guid_in_parentheses number Switch guid rest h =
    let s = radix_spells number h in
    rw (guid_read kinds.Port number (radix_digits 16 false number) (41 ∷ 9 ∷ (name_text Switch guid ++ rest)) s.spells s.short refl)
guid_in_parentheses number Adapter guid rest h =
    let s = radix_spells number h in
    rw (guid_read kinds.Port number (radix_digits 16 false number) (41 ∷ 9 ∷ (name_text Adapter guid ++ rest)) s.spells s.short refl)

parts_by : (none : Bool) (number : ℕ) (kind : NodeKind) (guid : ℕ) (rest : List ℕ) → (number == 0) ≡ none → number < 2 ^ 64
    → optional_parts (cond none [] (concat (codes "(" ∷ radix_digits 16 false number ∷ codes ")" ∷ [])) ++ (9 ∷ (name_text kind guid ++ rest))) ≡ Ok (number, 9 ∷ (name_text kind guid ++ rest))
parts_by true number kind guid rest e h =
    let zero : number ≡ 0 = grind (arith, e) in
    no_guid_read kind guid rest ∙ ap (λ (n : ℕ). Ok (n, 9 ∷ (name_text kind guid ++ rest))) (sym zero)
parts_by false number kind guid rest e h =
    ap (λ (digits : List ℕ). optional_parts (40 ∷ digits)) (append_assoc (radix_digits 16 false number) (41 ∷ []) (9 ∷ (name_text kind guid ++ rest)))
    ∙ guid_in_parentheses number kind guid rest h

parts_read : (number : ℕ) (kind : NodeKind) (guid : ℕ) (rest : List ℕ) → number < 2 ^ 64 → optional_parts (port_guid_text number ++ (9 ∷ (name_text kind guid ++ rest))) ≡ Ok (number, 9 ∷ (name_text kind guid ++ rest))
unfolding port_guid_text
parts_read number kind guid rest h = parts_by (number == 0) number kind guid rest refl h

blank_passed : (kind : NodeKind) (guid : ℕ) (rest : List ℕ) → past_blanks (9 ∷ (name_text kind guid ++ rest)) ≡ name_text kind guid ++ rest
unfolding name_text
blank_passed Switch guid rest = refl
blank_passed Adapter guid rest = refl

far_kind_is : (kind : NodeKind) → far_kind_of (named_kind kind) ≡ Ok kind
far_kind_is Switch = refl
far_kind_is Adapter = refl

port_stands : (port : ℕ) (rest : List ℕ) → past_blanks (port_text port ++ rest) ≡ port_text port ++ rest
unfolding port_text
port_stands port rest = refl

pub cabled_read : (port port_guid : ℕ) (kind : NodeKind) (guid far_port : ℕ) (rest : List ℕ) → port < 2 ^ 32 → port_guid < 2 ^ 64 → guid < 2 ^ 64 → far_port < 2 ^ 32
    → cabled_at (port_text port ++ (port_guid_text port_guid ++ (9 ∷ (name_text kind guid ++ (port_text far_port ++ rest)))))
    ≡ Ok (record { port = port; port_guid = port_guid; far_kind = kind; far_guid = guid; far_port = far_port }, rest)
unfolding cabled_at
cabled_read port port_guid kind guid far_port rest a b c d =
    rw (port_read port (port_guid_text port_guid ++ (9 ∷ (name_text kind guid ++ (port_text far_port ++ rest)))) a)
    (rw (parts_read port_guid kind guid (port_text far_port ++ rest) b)
    (rw (blank_passed kind guid (port_text far_port ++ rest))
    (rw (name_read kind guid (port_text far_port ++ rest) c)
    (rw (far_kind_is kind)
    (rw (port_stands far_port rest)
    (rw (port_read far_port rest d)))))))
