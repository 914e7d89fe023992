-- The terminals of a recipe's fabric, one after the other.
use Rattle.std.proofs.Common.{◌≡◌, ◌<◌, ◌+◌, ℕ, List, [], ◌∷◌, ◌++◌, length, map, sym, ap, ◌∙◌, arith, append_assoc, length-append}
use Rattle.std.specs.Prelude.{flat_map, IsTrue}
use Rattle.std.specs.List.{enumerate_from, range_with_len}
use Rattle.std.proofs.lemmas.List.{append-nil, length-map}
use Rattle.std.proofs.lemmas.List.FromFn.{map-range_with_len_more, length-enumerate_from, length-range_with_len}
use Rattle.fab_model.specs.declared.rows.TerminalRow.{TerminalRow}
use Rattle.fab_report.specs.declared.recipe.Recipe.{Recipe}
use Rattle.fab_report.specs.Recipes.{fits, switch_count, terminal_ports, terminal_at}
use Rattle.fab_report.proofs.Cabling.Growing.{flat_range_more, flat_range_le, numbered_push}
use Rattle.fab_report.proofs.Generated.Places.{place_at, ArePlaces, are_places}

-- the places at a switch, and at those of smaller numbers
abbrev pub places_on : Recipe → ℕ → List (ℕ × ℕ)
places_on r s = map (λ port. place_at s port) (terminal_ports r.kind r.a r.b s)

abbrev pub places_below : Recipe → ℕ → List (ℕ × ℕ)
places_below r s = flat_map (places_on r) (range_with_len 0 s)

-- and on so many ports of the next switch
abbrev pub places_so_far : Recipe → ℕ → ℕ → ℕ → List (ℕ × ℕ)
places_so_far r s first n = places_below r s ++ map (λ port. place_at s port) (range_with_len first n)

abbrev pub rows_of : Recipe → List (ℕ × ℕ) → List TerminalRow
rows_of r places = map (terminal_at (switch_count r.kind r.a r.b)) (enumerate_from 0 places)

pub length-rows_of : (r : Recipe) (places : List (ℕ × ℕ)) → length (rows_of r places) ≡ length places
length-rows_of r places = length-map (enumerate_from 0 places) (terminal_at (switch_count r.kind r.a r.b)) ∙ length-enumerate_from 0 places

pub none_so_far : (r : Recipe) (s first : ℕ) → rows_of r (places_below r s) ≡ rows_of r (places_so_far r s first 0)
none_so_far r s first = ap (λ (places : List (ℕ × ℕ)). rows_of r places) (sym (append-nil (places_below r s)))

pub one_port_more : (r : Recipe) (s first n : ℕ) (old new : List TerminalRow) (number port : ℕ) → old ≡ rows_of r (places_so_far r s first n) → number ≡ length old → port ≡ first + n →
    new ≡ old ++ terminal_at (switch_count r.kind r.a r.b) (number, place_at s port) ∷ [] → new ≡ rows_of r (places_so_far r s first (n + 1))
one_port_more r s first n old new number port is count at more =
    more
    ∙ ap (λ k. old ++ terminal_at (switch_count r.kind r.a r.b) (k, place_at s port) ∷ []) (count ∙ ap (λ (rows : List TerminalRow). length rows) is ∙ length-rows_of r (places_so_far r s first n))
    ∙ ap (λ (rows : List TerminalRow). rows ++ terminal_at (switch_count r.kind r.a r.b) (length (places_so_far r s first n), place_at s port) ∷ []) is
    ∙ sym (numbered_push (terminal_at (switch_count r.kind r.a r.b)) (places_so_far r s first n) (place_at s port))
    ∙ ap (λ (places : List (ℕ × ℕ)). rows_of r places) longer
  where
    longer : places_so_far r s first n ++ place_at s port ∷ [] ≡ places_so_far r s first (n + 1)
    longer =
        append_assoc (places_below r s) (map (λ p. place_at s p) (range_with_len first n)) (place_at s port ∷ [])
        ∙ ap (λ (places : List (ℕ × ℕ)). places_below r s ++ places) (sym (map-range_with_len_more (λ p. place_at s p) first n port (sym at)))

module _ (r : Recipe) (s first n : ℕ) (ports : range_with_len first n ≡ terminal_ports r.kind r.a r.b s) where
  all_ports : places_so_far r s first n ≡ places_below r (s + 1)
  all_ports = ap (λ (ps : List ℕ). places_below r s ++ map (λ p. place_at s p) ps) ports ∙ sym (flat_range_more (places_on r) s)

  pub switch_done : (rows : List TerminalRow) → rows ≡ rows_of r (places_so_far r s first n) → rows ≡ rows_of r (places_below r (s + 1))
  switch_done rows is = is ∙ ap (λ (places : List (ℕ × ℕ)). rows_of r places) all_ports

  -- there is room for the number of the next terminal
  pub number_small : (k : ℕ) (rows : List TerminalRow) → IsTrue (fits r) → k < n → s < switch_count r.kind r.a r.b → rows ≡ rows_of r (places_so_far r s first k) → length rows + switch_count r.kind r.a r.b < 4096
  number_small k rows fit h low is =
      let are : ArePlaces r.kind r.a r.b = are_places r.kind r.a r.b fit in
      let ps : ℕ → List (ℕ × ℕ) = λ m. map (λ p. place_at s p) (range_with_len first m) in
      omega (
        arith,
        are.lids,
        flat_range_le (places_on r) (s + 1) (switch_count r.kind r.a r.b) (omega (arith, low)),
        ap (λ (places : List (ℕ × ℕ)). length places) all_ports,
        length-append (places_below r s) (ps n),
        length-append (places_below r s) (ps k),
        length-map (range_with_len first n) (λ p. place_at s p),
        length-map (range_with_len first k) (λ p. place_at s p),
        length-range_with_len first n,
        length-range_with_len first k,
        ap (λ (xs : List TerminalRow). length xs) is,
        length-rows_of r (places_so_far r s first k),
        h,
      )
