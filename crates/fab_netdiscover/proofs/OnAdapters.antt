-- Terminals found by adapter and port, one terminal after another.
use Rattle.std.proofs.Common.{◌≡◌, ◌+◌, ℕ, zero, suc, Bool, true, false, cond, List, [], ◌∷◌, ◌++◌, Option, Some, None, take, refl, sym, ap, ◌∙◌, arith, add-one}
use Rattle.std.specs.Prelude.{slice_get, find, is_some, ◌==◌}
use Rattle.std.specs.Option.{option_or}
use Rattle.std.specs.HashMap.{HashMap, get}
use Rattle.std.proofs.lemmas.Bool.{and_parts}
use Rattle.std.proofs.lemmas.List.Folds.{find-append}
use Rattle.fab_model.specs.declared.rows.TerminalRow.{TerminalRow}
use Rattle.fab_model.specs.Written.{is_on_adapter}
use Rattle.fab_netdiscover.specs.AdapterPorts.{same_port, FindsAmong}

pub take_one_more : {X : Type 0} (xs : List X) (n : ℕ) (x : X) → slice_get xs n ≡ Some x → take (suc n) xs ≡ take n xs ++ x ∷ []
take_one_more [] n x e = cc
take_one_more (y ∷ xs) zero x e = cc
take_one_more (y ∷ xs) (suc n) x e = ap (λ (front : List _). y ∷ front) (take_one_more xs n x e)

or_none : {X : Type 0} (found : Option X) → found ≡ option_or found None
or_none None = refl
or_none (Some x) = refl

or_kept : {X : Type 0} (found other : Option X) → is_some found ≡ true → found ≡ option_or found other
or_kept None other e = cc
or_kept (Some x) other e = refl

nothing : {X : Type 0} (found : Option X) {x : X} → is_some found ≡ false → Some x ≡ option_or found (Some x)
nothing None e = refl
nothing (Some y) e = cc

-- the key of a terminal that is at a port of an adapter
same_key : (row : TerminalRow) (adapter port : ℕ) → is_on_adapter adapter port row ≡ true → (adapter ≡ row.adapter) × (port ≡ row.adapter_port)
same_key row adapter port e =
    let parts : (row.adapter == adapter ≡ true) × (row.adapter_port == port ≡ true) = and_parts (row.adapter == adapter) (row.adapter_port == port) e in
    (grind (arith, parts.0), grind (arith, parts.1))

-- a port that was found before
kept_at : {S : Type 0} (rows : List TerminalRow) (row : TerminalRow) (map : HashMap (ℕ × ℕ) TerminalRow S) (adapter port : ℕ) (test : Bool) → is_on_adapter adapter port row ≡ test
    → FindsAmong rows map → is_some (get same_port map (row.adapter, row.adapter_port)) ≡ true
    → find (is_on_adapter adapter port) rows ≡ option_or (find (is_on_adapter adapter port) rows) (cond test (Some row) None)
kept_at rows row map adapter port false e h k = or_none _
kept_at rows row map adapter port true e h k =
    let same : (adapter ≡ row.adapter) × (port ≡ row.adapter_port) = same_key row adapter port e in
    let found : find (is_on_adapter adapter port) rows ≡ get same_port map (row.adapter, row.adapter_port) =
    ap (λ (one : ℕ). find (is_on_adapter one port) rows) same.0 ∙ ap (λ (one : ℕ). find (is_on_adapter row.adapter one) rows) same.1 ∙ sym (h row.adapter row.adapter_port) in
    or_kept _ _ (ap is_some found ∙ k)

-- and one that wasn't
added_at : {S : Type 0} (rows : List TerminalRow) (row : TerminalRow) (map : HashMap (ℕ × ℕ) TerminalRow S) (adapter port : ℕ) (test : Bool) → is_on_adapter adapter port row ≡ test
    → FindsAmong rows map → is_some (get same_port map (row.adapter, row.adapter_port)) ≡ false
    → cond test (Some row) (find (is_on_adapter adapter port) rows) ≡ option_or (find (is_on_adapter adapter port) rows) (cond test (Some row) None)
added_at rows row map adapter port false e h k = or_none _
added_at rows row map adapter port true e h k =
    let same : (adapter ≡ row.adapter) × (port ≡ row.adapter_port) = same_key row adapter port e in
    let found : find (is_on_adapter adapter port) rows ≡ get same_port map (row.adapter, row.adapter_port) =
    ap (λ (one : ℕ). find (is_on_adapter one port) rows) same.0 ∙ ap (λ (one : ℕ). find (is_on_adapter row.adapter one) rows) same.1 ∙ sym (h row.adapter row.adapter_port) in
    nothing _ (ap is_some found ∙ k)

pub kept : {S : Type 0} (rows : List TerminalRow) (n : ℕ) (row : TerminalRow) (map : HashMap (ℕ × ℕ) TerminalRow S) → slice_get rows n ≡ Some row
    → FindsAmong (take n rows) map → is_some (get same_port map (row.adapter, row.adapter_port)) ≡ true → FindsAmong (take (n + 1) rows) map
kept rows n row map e h k adapter port =
    let more : take (n + 1) rows ≡ take n rows ++ row ∷ [] = ap (λ (m : ℕ). take m rows) (add-one n) ∙ take_one_more rows n row e in
    h adapter port ∙ kept_at (take n rows) row map adapter port (is_on_adapter adapter port row) refl h k
    ∙ sym (find-append (is_on_adapter adapter port) (take n rows) (row ∷ [])) ∙ ap (find (is_on_adapter adapter port)) (sym more)

pub added : {S : Type 0} (rows : List TerminalRow) (n : ℕ) (row : TerminalRow) (map next : HashMap (ℕ × ℕ) TerminalRow S) → slice_get rows n ≡ Some row
    → FindsAmong (take n rows) map → is_some (get same_port map (row.adapter, row.adapter_port)) ≡ false
    → ((key : ℕ × ℕ) → get same_port next key ≡ cond (same_port (row.adapter, row.adapter_port) key) (Some row) (get same_port map key)) → FindsAmong (take (n + 1) rows) next
added rows n row map next e h k u adapter port =
    let more : take (n + 1) rows ≡ take n rows ++ row ∷ [] = ap (λ (m : ℕ). take m rows) (add-one n) ∙ take_one_more rows n row e in
    u (adapter, port) ∙ ap (cond (is_on_adapter adapter port row) (Some row)) (h adapter port) ∙ added_at (take n rows) row map adapter port (is_on_adapter adapter port row) refl h k
    ∙ sym (find-append (is_on_adapter adapter port) (take n rows) (row ∷ [])) ∙ ap (find (is_on_adapter adapter port)) (sym more)
