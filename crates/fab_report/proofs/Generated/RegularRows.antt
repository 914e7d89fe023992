-- The cables of rings and of leaf switches, one after the other.
use Rattle.std.proofs.Common.{◌≡◌, ℕ, ◌+◌, ◌-◌, List, [], ◌∷◌, ◌++◌, map, sym, ◌∙◌, ap, arith, append_assoc}
use Rattle.std.specs.Prelude.{◌%◌}
use Rattle.std.specs.List.{range_with_len}
use Rattle.std.proofs.lemmas.List.FromFn.{map-range_with_len_more}
use Rattle.fab_model.specs.declared.rows.ChannelRow.{ChannelRow}
use Rattle.fab_report.specs.Cabling.{cable}

-- an element more of those that numbers give
pub mapped_more : {A : Type 0} (f : ℕ → A) (from n : ℕ) (before old new : List A) → old ≡ before ++ map f (range_with_len from n) → new ≡ old ++ f (from + n) ∷ [] → new ≡ before ++ map f (range_with_len from (n + 1))
mapped_more f from n before old new e g =
    g ∙ ap (λ xs. xs ++ f (from + n) ∷ []) e ∙ append_assoc before (map f (range_with_len from n)) (f (from + n) ∷ []) ∙ ap (λ xs. before ++ xs) (sym (map-range_with_len_more f from n (from + n) (omega arith)))

pub ring_cable_more : (a s : ℕ) (old new : List ChannelRow) (row : ChannelRow) → old ≡ map (λ s. cable s 1 ((s + 1) % a) 2) (range_with_len 0 s) → new ≡ old ++ row ∷ [] → row ≡ cable s 1 ((s + 1) % a) 2 →
    new ≡ map (λ s. cable s 1 ((s + 1) % a) 2) (range_with_len 0 (s + 1))
ring_cable_more a s old new row e g is =
    mapped_more (λ s. cable s 1 ((s + 1) % a) 2) 0 s [] old new e (g ∙ ap (λ (r : ChannelRow). old ++ r ∷ []) (is ∙ ap (λ n. cable n 1 ((n + 1) % a) 2) (nothing s)))
  where
    nothing : (n : ℕ) → n ≡ 0 + n
    nothing n = omega arith

pub leaf_cable_more : (leaf a top : ℕ) (before old new : List ChannelRow) (row : ChannelRow) → old ≡ before ++ map (λ port. cable leaf port (a + port - 1) (leaf + 1)) (range_with_len 1 top) → new ≡ old ++ row ∷ [] →
    row ≡ cable leaf (top + 1) (a + top) (leaf + 1) → new ≡ before ++ map (λ port. cable leaf port (a + port - 1) (leaf + 1)) (range_with_len 1 (top + 1))
leaf_cable_more leaf a top before old new row e g is =
    mapped_more (λ port. cable leaf port (a + port - 1) (leaf + 1)) 1 top before old new e
    (g ∙ ap (λ (r : ChannelRow). old ++ r ∷ []) (is ∙ ap (λ n. cable leaf n (a + top) (leaf + 1)) port ∙ ap (λ n. cable leaf (1 + top) n (leaf + 1)) tip))
  where
    port : top + 1 ≡ 1 + top
    port = omega arith

    tip : a + top ≡ a + (1 + top) - 1
    tip = omega arith
