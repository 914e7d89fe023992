-- A text port by port.
use Rattle.std.proofs.Common.{◌≡◌, ◌<◌, ◌≤◌, ◌+◌, ◌-◌, ℕ, zero, suc, List, [], ◌∷◌, ◌++◌, refl, sym, ap, ◌∙◌, arith}
use Rattle.std.specs.List.{flat_map, range_with_len}
use Rattle.std.proofs.lemmas.List.{flat_map_more}

range_more : (from count : ℕ) → range_with_len from (suc count) ≡ range_with_len from count ++ (from + count) ∷ []
range_more from zero = ap (λ (n : ℕ). n ∷ []) (omega arith)
range_more from (suc count) = ap (λ (others : List ℕ). from ∷ others) (range_more (from + 1) count ∙ ap (λ (n : ℕ). range_with_len (from + 1) count ++ n ∷ []) (omega arith))

-- one port more
next_port : (piece : ℕ → List ℕ) (before old now : List ℕ) (port : ℕ) → 1 ≤ port → old ≡ before ++ flat_map piece (range_with_len 1 (port - 1)) → now ≡ old ++ piece port → now ≡ before ++ flat_map piece (range_with_len 1 port)
next_port piece before old now port h e k =
    let here : 1 + (port - 1) ≡ port = omega (arith, h) in
    let count : suc (port - 1) ≡ port = omega (arith, h) in
    k ∙ ap (λ (front : List ℕ). front ++ piece port) e ∙ flat_map_more piece before (range_with_len 1 (port - 1)) port
    ∙ ap (λ (ports : List ℕ). before ++ flat_map piece ports) (ap (λ (n : ℕ). range_with_len 1 (port - 1) ++ n ∷ []) (sym here) ∙ sym (range_more 1 (port - 1)) ∙ ap (range_with_len 1) count)

pub port_added : (piece : ℕ → List ℕ) (before old now : List ℕ) (port : ℕ) → 1 ≤ port → old ≡ before ++ flat_map piece (range_with_len 1 (port - 1)) → now ≡ old ++ piece port
    → now ≡ before ++ flat_map piece (range_with_len 1 (port + 1 - 1))
port_added piece before old now port h e k = next_port piece before old now port h e k ∙ ap (λ (n : ℕ). before ++ flat_map piece (range_with_len 1 n)) (omega arith)

pub last_port : (piece : ℕ → List ℕ) (before old now : List ℕ) (port ports : ℕ) → 1 ≤ port → port ≡ ports → old ≡ before ++ flat_map piece (range_with_len 1 (port - 1)) → now ≡ old ++ piece port
    → now ≡ before ++ flat_map piece (range_with_len 1 ports)
last_port piece before old now port ports h same e k = next_port piece before old now port h e k ∙ ap (λ (n : ℕ). before ++ flat_map piece (range_with_len 1 n)) same

pub all_ports : (piece : ℕ → List ℕ) (before now : List ℕ) (port ports : ℕ) → port - 1 ≡ ports → now ≡ before ++ flat_map piece (range_with_len 1 (port - 1)) → now ≡ before ++ flat_map piece (range_with_len 1 ports)
all_ports piece before now port ports same e = e ∙ ap (λ (n : ℕ). before ++ flat_map piece (range_with_len 1 n)) same

-- a loop over ports that ends before the first
pub no_ports : (port ports : ℕ) → ports < port → (1 ≤ ports → port ≤ ports) → ports ≡ 0
no_ports port zero h k = refl
no_ports port (suc ports) h k = let later : port ≤ suc ports = k (omega arith) in absurd (omega (arith, h, later))
