-- Written port lines, and the links that they are read as.
use Rattle.std.proofs.Common.{◌≡◌, ◌≢◌, ◌<◌, ◌^◌, ℕ, Bool, true, false, cond, List, [], ◌∷◌, ◌++◌, Some, None, length, refl, sym, ap, ◌∙◌, arith, codes}
use Rattle.std.specs.Prelude.{Ok, decimal, ◌==◌}
use Rattle.std.specs.List.{concat}
use Rattle.std.proofs.lemmas.List.{append_assoc, length-append}
use Rattle.fab_model.specs.declared.raw.NodeKind.{NodeKind}
use Rattle.fab_model.specs.declared.raw.NodeKind.TheVariants.{Switch, Adapter}
use Rattle.fab_model.specs.declared.raw.RawNode.{RawNode}
use Rattle.fab_model.specs.declared.raw.RawLink.{RawLink}
use Rattle.fab_model.specs.Description.{HasNoLineFeed}
use Rattle.fab_netdiscover.specs.declared.lines.Cabled.{Cabled}
use Rattle.fab_netdiscover.specs.declared.words.Address.{Address}
use Rattle.fab_netdiscover.specs.Lines.{PortLine, line_kind, cabled_at, link_of, link_under, is_own, port_line}
use Rattle.fab_netdiscover.specs.Writing.{name_text, port_text, far_end, port_guid_text, port_with_guid, in_quotes, address_text, described}
use Rattle.fab_text.specs.Readings.{◌>>=◌}
use Rattle.fab_netdiscover.specs.Fronts.{Read}
use Rattle.fab_text.proofs.Spelled.{decimal_spells}
use Rattle.fab_netdiscover.proofs.ReadParts.{cabled_read}
use Rattle.fab_netdiscover.proofs.ReadTails.{marked_address}
use Rattle.fab_netdiscover.proofs.ReadHeads.{onto, concat-onto}
use Rattle.fab_netdiscover.proofs.WrittenLines.{IsLine, behind_line, literal, decimal_line, port_feedless, name_feedless, guid_text_feedless, quotes_feedless, address_feedless}

-- ---- bodies

-- a description and a LID, up to the line feed
abbrev ending : List ℕ → ℕ → List ℕ
ending desc lid = in_quotes desc ++ (codes " lid " ++ decimal lid)

described_text : (desc : List ℕ) (lid : ℕ) (rest : List ℕ) → described desc lid ++ rest ≡ ending desc lid ++ 10 ∷ rest
unfolding described
described_text desc lid rest =
    concat-onto (in_quotes desc ∷ codes " lid " ∷ decimal lid ∷ codes "\n" ∷ []) rest
    ∙ sym (append_assoc (in_quotes desc) (codes " lid " ++ decimal lid) (10 ∷ rest))

-- under a switch, up to the far port, and what follows there
abbrev pub switch_body : NodeKind → ℕ → ℕ → ℕ → List ℕ → List ℕ
switch_body kind port guid far_port behind = onto (port_text port ∷ codes "\t" ∷ name_text kind guid ∷ port_text far_port ∷ []) behind

-- under an adapter
abbrev pub adapter_body : ℕ → ℕ → ℕ → ℕ → ℕ → List ℕ → ℕ → List ℕ
adapter_body port port_guid guid far_port lid desc switch_lid =
    onto (port_text port ∷ port_guid_text port_guid ∷ codes "\t" ∷ name_text Switch guid ∷ port_text far_port ∷ codes "\t\t# " ∷ address_text lid ∷ codes " " ∷ []) (ending desc switch_lid)

-- ---- what they are read as

no_port_guid : port_guid_text 0 ≡ []
unfolding port_guid_text
no_port_guid = refl

switch_body_read : (kind : NodeKind) (port guid far_port : ℕ) (behind : List ℕ) → port < 2 ^ 32 → guid < 2 ^ 64 → far_port < 2 ^ 32
    → cabled_at (switch_body kind port guid far_port behind) ≡ Ok (record { port = port; port_guid = 0; far_kind = kind; far_guid = guid; far_port = far_port }, behind)
switch_body_read kind port guid far_port behind a b c =
    ap (λ (none : List ℕ). cabled_at (port_text port ++ (none ++ (9 ∷ (name_text kind guid ++ (port_text far_port ++ behind)))))) (sym no_port_guid)
    ∙ cabled_read port 0 kind guid far_port behind a (omega arith) b c

abbrev pub far_link : NodeKind → ℕ → ℕ → ℕ → RawLink
far_link kind port guid far_port = record {
  line = 0;
  node = 0;
  port = port;
  far_kind = kind;
  far_guid = guid;
  far_port = far_port;
  port_guid = 0;
  lid = 0;
  lmc = 0;
}

abbrev pub near_link : ℕ → ℕ → ℕ → ℕ → ℕ → RawLink
near_link port port_guid guid far_port lid = record (far_link Switch port guid far_port) { port_guid = port_guid; lid = lid }

-- a text that is the line of a link under a head of a kind and a GUID
pub record LinkText (kind : NodeKind) (guid : ℕ) (text : List ℕ) (link : RawLink) : Type 0 where
  pub body : List ℕ
  pub is_line : IsLine body
  pub ends : (rest : List ℕ) → text ++ rest ≡ body ++ 10 ∷ rest
  pub kind_is : line_kind body ≡ PortLine body
  pub read : (head : RawNode) (line node : ℕ) → head.kind ≡ kind → head.guid ≡ guid → port_line head line node body ≡ Ok (Some (record link { line = line; node = node }))

port_line_kind : (port : ℕ) (rest : List ℕ) → line_kind (port_text port ++ rest) ≡ PortLine (port_text port ++ rest)
unfolding line_kind port_text
port_line_kind port rest = refl

-- ---- bodies are lines

abbrev pub AllFeedless : List (List ℕ) → Type 0
AllFeedless [] = Unit {0}
AllFeedless (piece ∷ pieces) = HasNoLineFeed piece × AllFeedless pieces

pub record EndsLine (body : List ℕ) : Type 0 where
  pub line : IsLine body
  pub some : 0 < length body

pub onto_line : (pieces : List (List ℕ)) (behind : List ℕ) → AllFeedless pieces → EndsLine behind → EndsLine (onto pieces behind)
onto_line [] behind h l = l
onto_line (piece ∷ pieces) behind h l =
    let later : EndsLine (onto pieces behind) = onto_line pieces behind h.1 l in
    record { line = behind_line piece (onto pieces behind) h.0 later.some later.line; some = omega (arith, length-append piece (onto pieces behind), later.some) }

pub onto-append : (pieces : List (List ℕ)) (behind rest : List ℕ) → onto pieces behind ++ rest ≡ onto pieces (behind ++ rest)
onto-append [] behind rest = refl
onto-append (piece ∷ pieces) behind rest = append_assoc piece (onto pieces behind) rest ∙ ap (λ (later : List ℕ). piece ++ later) (onto-append pieces behind rest)

ending_line : (desc : List ℕ) (lid : ℕ) → HasNoLineFeed desc → lid < 2 ^ 64 → EndsLine (ending desc lid)
ending_line desc lid h k =
    onto_line (in_quotes desc ∷ codes " lid " ∷ []) (decimal lid) (quotes_feedless desc h, (literal (codes " lid ") refl, tt)) (record { line = decimal_line lid k; some = (decimal_spells lid k).some })

-- ---- under a switch

far_end_text : (kind : NodeKind) (guid port : ℕ) (rest : List ℕ) → far_end kind guid port ++ rest ≡ name_text kind guid ++ (port_text port ++ rest)
unfolding far_end
far_end_text kind guid port rest = append_assoc (name_text kind guid) (port_text port) rest

-- the numbers of a port line fit
pub record Fit (port guid far_port : ℕ) : Type 0 where
  pub port_fits : port < 2 ^ 32
  pub guid_fits : guid < 2 ^ 64
  pub far_port_fits : far_port < 2 ^ 32

abbrev cabled_of : NodeKind → ℕ → ℕ → ℕ → Cabled
cabled_of kind port guid far_port = record { port = port; port_guid = 0; far_kind = kind; far_guid = guid; far_port = far_port }

link_given : (own port guid far_port line node : ℕ) (kind : NodeKind) (behind : List ℕ) (head : RawNode) → head.kind ≡ Switch → head.guid ≡ own → is_own own (cabled_of kind port guid far_port) ≡ false
    → link_under head.kind head.guid line node (cabled_of kind port guid far_port, behind) ≡ Ok (Some (record (far_link kind port guid far_port) { line = line; node = node }))
link_given own port guid far_port line node kind behind head e h other =
    ap (λ (near : NodeKind). link_under near head.guid line node (cabled_of kind port guid far_port, behind)) e
    ∙ ap (λ (near : ℕ). link_under Switch near line node (cabled_of kind port guid far_port, behind)) h
    ∙ ap (λ (test : Bool). Ok (cond test None (Some (record (far_link kind port guid far_port) { line = line; node = node })))) other

given : (kind : NodeKind) (own port guid far_port : ℕ) (behind : List ℕ) → Fit port guid far_port → is_own own (cabled_of kind port guid far_port) ≡ false
    → (head : RawNode) (line node : ℕ) → head.kind ≡ Switch → head.guid ≡ own → port_line head line node (switch_body kind port guid far_port behind) ≡ Ok (Some (record (far_link kind port guid far_port) { line = line; node = node }))
unfolding port_line
given kind own port guid far_port behind fit other head line node e h =
    ap (λ (read : Read Cabled). read >>= link_under head.kind head.guid line node) (switch_body_read kind port guid far_port behind fit.port_fits fit.guid_fits fit.far_port_fits)
    ∙ link_given own port guid far_port line node kind behind head e h other

other_by : (test : Bool) (guid own : ℕ) → (guid == own) ≡ test → guid ≢ own → test ≡ false
other_by true guid own e h = absurd (h (grind (arith, e)))
other_by false guid own e h = refl

other_guid : (guid own : ℕ) → guid ≢ own → (guid == own) ≡ false
other_guid guid own h = other_by (guid == own) guid own refl h

under_switch : (kind : NodeKind) (own port guid far_port : ℕ) (text behind : List ℕ) → Fit port guid far_port → EndsLine behind → is_own own (cabled_of kind port guid far_port) ≡ false
    → ((rest : List ℕ) → text ++ rest ≡ switch_body kind port guid far_port behind ++ 10 ∷ rest) → LinkText Switch own text (far_link kind port guid far_port)
under_switch kind own port guid far_port text behind fit l other e = record {
  body = switch_body kind port guid far_port behind;
  is_line = (onto_line (port_text port ∷ codes "\t" ∷ name_text kind guid ∷ port_text far_port ∷ []) behind
      (port_feedless port (omega (arith, fit.port_fits)), (literal (codes "\t") refl, (name_feedless kind guid fit.guid_fits, (port_feedless far_port (omega (arith, fit.far_port_fits)), tt)))) l).line;
  ends = e;
  kind_is = port_line_kind port (9 ∷ (name_text kind guid ++ (port_text far_port ++ behind)));
  read = λ head line node h k. given kind own port guid far_port behind fit other head line node h k;
}

pub channel_line : (own port guid far_port : ℕ) (desc : List ℕ) (lid : ℕ) → Fit port guid far_port → guid ≢ own → HasNoLineFeed desc → lid < 2 ^ 64
    → LinkText Switch own (concat (port_text port ∷ codes "\t" ∷ far_end Switch guid far_port ∷ codes "\t\t# " ∷ described desc lid ∷ [])) (far_link Switch port guid far_port)
channel_line own port guid far_port desc lid fit apart h k =
    under_switch Switch own port guid far_port _ (codes "\t\t# " ++ ending desc lid) fit (onto_line (codes "\t\t# " ∷ []) (ending desc lid) (literal (codes "\t\t# ") refl, tt) (ending_line desc lid h k)) (other_guid guid own apart) (λ rest.
    concat-onto (port_text port ∷ codes "\t" ∷ far_end Switch guid far_port ∷ codes "\t\t# " ∷ described desc lid ∷ []) rest
    ∙ ap (λ (far : List ℕ). port_text port ++ (9 ∷ far)) (far_end_text Switch guid far_port (codes "\t\t# " ++ (described desc lid ++ rest)))
    ∙ ap (λ (last : List ℕ). port_text port ++ (9 ∷ (name_text Switch guid ++ (port_text far_port ++ (codes "\t\t# " ++ last))))) (described_text desc lid rest)
    ∙ sym (onto-append (port_text port ∷ codes "\t" ∷ name_text Switch guid ∷ port_text far_port ∷ []) (codes "\t\t# " ++ ending desc lid) (10 ∷ rest)))

pub terminal_line : (own port guid far_port port_guid : ℕ) (desc : List ℕ) (lid : ℕ) → Fit port guid far_port → port_guid < 2 ^ 64 → HasNoLineFeed desc → lid < 2 ^ 64
    → LinkText Switch own (concat (port_text port ∷ codes "\t" ∷ far_end Adapter guid far_port ∷ port_guid_text port_guid ∷ codes "\t\t# " ∷ described desc lid ∷ [])) (far_link Adapter port guid far_port)
terminal_line own port guid far_port port_guid desc lid fit fits h k =
    under_switch Adapter own port guid far_port _ (port_guid_text port_guid ++ (codes "\t\t# " ++ ending desc lid)) fit
    (onto_line (port_guid_text port_guid ∷ codes "\t\t# " ∷ []) (ending desc lid) (guid_text_feedless port_guid fits, (literal (codes "\t\t# ") refl, tt)) (ending_line desc lid h k)) refl (λ rest.
    concat-onto (port_text port ∷ codes "\t" ∷ far_end Adapter guid far_port ∷ port_guid_text port_guid ∷ codes "\t\t# " ∷ described desc lid ∷ []) rest
    ∙ ap (λ (far : List ℕ). port_text port ++ (9 ∷ far)) (far_end_text Adapter guid far_port (port_guid_text port_guid ++ (codes "\t\t# " ++ (described desc lid ++ rest))))
    ∙ ap (λ (last : List ℕ). port_text port ++ (9 ∷ (name_text Adapter guid ++ (port_text far_port ++ (port_guid_text port_guid ++ (codes "\t\t# " ++ last)))))) (described_text desc lid rest)
    ∙ sym (onto-append (port_text port ∷ codes "\t" ∷ name_text Adapter guid ∷ port_text far_port ∷ port_guid_text port_guid ∷ []) (codes "\t\t# " ++ ending desc lid) (10 ∷ rest)))

-- ---- under an adapter

port_with_guid_text : (port guid : ℕ) (rest : List ℕ) → port_with_guid port guid ++ rest ≡ port_text port ++ (port_guid_text guid ++ rest)
unfolding port_with_guid
port_with_guid_text port guid rest = append_assoc (port_text port) (port_guid_text guid) rest

address_given : (port port_guid guid far_port lid line node : ℕ) (behind : List ℕ) (head : RawNode) → head.kind ≡ Adapter → lid < 2 ^ 32
    → link_under head.kind head.guid line node (record { port = port; port_guid = port_guid; far_kind = Switch; far_guid = guid; far_port = far_port }, codes "\t\t# " ++ (address_text lid ++ (32 ∷ behind)))
    ≡ Ok (Some (record (near_link port port_guid guid far_port lid) { line = line; node = node }))
address_given port port_guid guid far_port lid line node behind head e h =
    let cabled : Cabled = record { port = port; port_guid = port_guid; far_kind = Switch; far_guid = guid; far_port = far_port } in
    ap (λ (near : NodeKind). link_under near head.guid line node (cabled, codes "\t\t# " ++ (address_text lid ++ (32 ∷ behind)))) e
    ∙ ap (λ read. read >>= λ (address : Address). Ok (Some (link_of line node cabled address))) (marked_address lid behind h)

near_given : (port port_guid guid far_port lid : ℕ) (behind : List ℕ) → Fit port guid far_port → port_guid < 2 ^ 64 → lid < 2 ^ 32 → (head : RawNode) (line node : ℕ) → head.kind ≡ Adapter
    → port_line head line node (port_text port ++ (port_guid_text port_guid ++ (9 ∷ (name_text Switch guid ++ (port_text far_port ++ (codes "\t\t# " ++ (address_text lid ++ (32 ∷ behind))))))))
    ≡ Ok (Some (record (near_link port port_guid guid far_port lid) { line = line; node = node }))
unfolding port_line
near_given port port_guid guid far_port lid behind fit a b head line node e =
    ap (λ (read : Read Cabled). read >>= link_under head.kind head.guid line node) (cabled_read port port_guid Switch guid far_port (codes "\t\t# " ++ (address_text lid ++ (32 ∷ behind))) fit.port_fits a fit.guid_fits fit.far_port_fits)
    ∙ address_given port port_guid guid far_port lid line node behind head e b

pub adapter_line : (own port port_guid guid far_port lid : ℕ) (desc : List ℕ) (switch_lid : ℕ) → Fit port guid far_port → port_guid < 2 ^ 64 → lid < 2 ^ 32 → HasNoLineFeed desc → switch_lid < 2 ^ 64
    → LinkText Adapter own (concat (port_with_guid port port_guid ∷ codes "\t" ∷ far_end Switch guid far_port ∷ codes "\t\t# " ∷ address_text lid ∷ codes " " ∷ described desc switch_lid ∷ [])) (near_link port port_guid guid far_port lid)
adapter_line own port port_guid guid far_port lid desc switch_lid fit a b h k = record {
  body = adapter_body port port_guid guid far_port lid desc switch_lid;
  is_line = (onto_line (port_text port ∷ port_guid_text port_guid ∷ codes "\t" ∷ name_text Switch guid ∷ port_text far_port ∷ codes "\t\t# " ∷ address_text lid ∷ codes " " ∷ []) (ending desc switch_lid)
      (port_feedless port (omega (arith, fit.port_fits)), (guid_text_feedless port_guid a, (literal (codes "\t") refl, (name_feedless Switch guid fit.guid_fits, (port_feedless far_port (omega (arith, fit.far_port_fits)), (literal (codes "\t\t# ") refl, (address_feedless lid (omega (arith, b)), (literal (codes " ") refl, tt))))))))
      (ending_line desc switch_lid h k)).line;
  ends = λ rest.
      concat-onto (port_with_guid port port_guid ∷ codes "\t" ∷ far_end Switch guid far_port ∷ codes "\t\t# " ∷ address_text lid ∷ codes " " ∷ described desc switch_lid ∷ []) rest
      ∙ port_with_guid_text port port_guid (9 ∷ (far_end Switch guid far_port ++ (codes "\t\t# " ++ (address_text lid ++ (32 ∷ (described desc switch_lid ++ rest))))))
      ∙ ap (λ (far : List ℕ). port_text port ++ (port_guid_text port_guid ++ (9 ∷ far))) (far_end_text Switch guid far_port (codes "\t\t# " ++ (address_text lid ++ (32 ∷ (described desc switch_lid ++ rest)))))
      ∙ ap (λ (last : List ℕ). port_text port ++ (port_guid_text port_guid ++ (9 ∷ (name_text Switch guid ++ (port_text far_port ++ (codes "\t\t# " ++ (address_text lid ++ (32 ∷ last)))))))) (described_text desc switch_lid rest)
      ∙ sym (onto-append (port_text port ∷ port_guid_text port_guid ∷ codes "\t" ∷ name_text Switch guid ∷ port_text far_port ∷ codes "\t\t# " ∷ address_text lid ∷ codes " " ∷ []) (ending desc switch_lid) (10 ∷ rest));
  kind_is = port_line_kind port (port_guid_text port_guid ++ (9 ∷ (name_text Switch guid ++ (port_text far_port ++ (codes "\t\t# " ++ (address_text lid ++ (32 ∷ ending desc switch_lid)))))));
  read = λ head line node e same. near_given port port_guid guid far_port lid (ending desc switch_lid) fit a b head line node e;
}
