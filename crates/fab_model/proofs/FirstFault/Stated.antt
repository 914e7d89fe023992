-- The links of records, each with its node, one after the other.
use Rattle.std.proofs.Common.{◌≡◌, ℕ, ◌+◌, ◌<◌, List, [], ◌∷◌, ◌++◌, length, take, get_or, Option, Some, Bool, true, false, ◌||◌, refl, ap, ◌∙◌}
use Rattle.std.specs.Prelude.{filter_map, option_map, slice_get}
use Rattle.std.specs.List.{cons_option, list_any}
use Rattle.std.proofs.lemmas.List.{take_more}
use Rattle.std.proofs.lemmas.List.Elements.{filter_map-append}
use Rattle.std.proofs.lemmas.List.Folds.{list_any-append}
use Rattle.std.proofs.lemmas.Option.{slice_get_read}
use Rattle.fab_model.specs.declared.raw.RawNode.{RawNode}
use Rattle.fab_model.specs.declared.raw.RawLink.{RawLink}
use Rattle.fab_model.specs.declared.raw.NodeKind.TheVariants.{Switch}
use Rattle.fab_model.specs.Records.{Stated, stated}

-- what a proof reads past the end of the links
abbrev pub no_link : RawLink
no_link = record { line = 0; node = 0; port = 0; far_kind = Switch; far_guid = 0; far_port = 0; port_guid = 0; lid = 0; lmc = 0 }

pub stated_more : (nodes : List RawNode) (links : List RawLink) (i : ℕ) (node : RawNode) → i < length links →
    let link = get_or links i no_link in
    link.node < length nodes → node ≡ get_or nodes link.node node →
    stated (record { nodes = nodes; links = take (i + 1) links }) ≡ stated (record { nodes = nodes; links = take i links }) ++ record { node = node; link = link } ∷ []
stated_more nodes links i node within under is =
    let link = get_or links i no_link in
    let found : RawLink → Option Stated = λ one. option_map (λ of. record { node = of; link = one }) (slice_get nodes one.node) in
    let read : slice_get nodes link.node ≡ Some node = slice_get_read nodes (length nodes) link.node node refl under is in
    ap (filter_map found) (take_more links i no_link within)
    ∙ filter_map-append found (take i links) (link ∷ [])
    ∙ ap (λ one. stated (record { nodes = nodes; links = take i links }) ++ cons_option (option_map (λ of. record { node = of; link = link }) one) []) read

pub or-false : (b : Bool) → (b || false) ≡ b
or-false true = refl
or-false false = refl

pub any_stated_more : (test : Stated → Bool) (nodes : List RawNode) (links : List RawLink) (i : ℕ) (node : RawNode) → i < length links →
    let link = get_or links i no_link in
    link.node < length nodes → node ≡ get_or nodes link.node node →
    list_any test (stated (record { nodes = nodes; links = take (i + 1) links })) ≡ (list_any test (stated (record { nodes = nodes; links = take i links })) || test (record { node = node; link = link }))
any_stated_more test nodes links i node within under is =
    let one : Stated = record { node = node; link = get_or links i no_link } in
    let front = stated (record { nodes = nodes; links = take i links }) in
    ap (list_any test) (stated_more nodes links i node within under is)
    ∙ list_any-append test front (one ∷ [])
    ∙ ap (λ b. list_any test front || b) (or-false (test one))
