use Rattle.std.proofs.Common.{◌≡◌, ◌∙◌, ◌++◌, ℕ, List, append_assoc, ap, sym, codes, decimal, ◌+◌}
use Rattle.fab_top.specs.FaultTexts.{in_file, unknown_cable_text}
use Rattle.fab_top.proofs.Appends.{appended_three}
use Rattle.fab_top.proofs.fault_texts.unknown_cable_text.Goals as goal

in_parts : (name digits : List ℕ) → name ++ (codes ": cable " ++ digits ++ codes ": not in the fabric\n") ≡ in_file name (codes "cable " ++ digits ++ codes ": not in the fabric")
in_parts name digits =
    let what : List ℕ = codes "cable " ++ digits ++ codes ": not in the fabric" in
    ap (λ (xs : List ℕ). name ++ (codes ": cable " ++ xs)) (sym (append_assoc digits (codes ": not in the fabric") (codes "\n")))
    ∙ sym (append_assoc name (codes ": ") (what ++ codes "\n")) ∙ sym (append_assoc (name ++ codes ": ") what (codes "\n"))

pub returns : goal.returns
returns c =
    appended_three _ _ _ _ (codes ": cable ") (decimal (c.from.result + 1)) (codes ": not in the fabric\n")
    c.in_ok-extend_from_slice-2.ensures.items c.in_ok-push_dec.ensures.ok c.in_ok-extend_from_slice-3.ensures.items
    ∙ ap (λ (name : List ℕ). name ++ (codes ": cable " ++ decimal (c.from.result + 1) ++ codes ": not in the fabric\n"))
    (c.in_ok-extend_from_slice.ensures.items ∙ ap (λ (xs : List ℕ). xs ++ c.as_bytes.result.now) c.new-text.ensures.items ∙ c.as_bytes.ensures.value)
    ∙ in_parts c.args.name.now (decimal (c.from.result + 1)) ∙ ap (unknown_cable_text c.args.name.now) c.from.ensures
