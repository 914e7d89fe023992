-- Reads and writes, one after another.
use Rattle.std.proofs.Common.{◌≡◌, ℕ, ◌<◌, List, [], ◌++◌, length, take, drop, Option, Some, None, IfSome, refl, sym, ap, subst, ◌∙◌, arith}
use Rattle.std.specs.Io.KnownBytes.{Appends, Consumes, Keeps, IsAtEnd}
use Rattle.std.proofs.lemmas.List.{append_assoc, append-nil, length-append, take-append-drop}
use Rattle.std.proofs.Math.Seq.{take-append_seam}

pub appends_none : (known : Option (List ℕ)) → Appends known known []
appends_none None = tt
appends_none (Some xs) = sym (append-nil xs)

pub appends_more : (a b c : Option (List ℕ)) (xs ys : List ℕ) → Appends a b xs → Appends b c ys → Appends a c (xs ++ ys)
appends_more None b c xs ys h k = tt
appends_more (Some p) None c xs ys h k = absurd h
appends_more (Some p) (Some q) None xs ys h k = absurd k
appends_more (Some p) (Some q) (Some r) xs ys h k = k ∙ ap (λ (zs : List ℕ). zs ++ ys) h ∙ append_assoc p xs ys

pub appends_kept : (a b c : Option (List ℕ)) (xs : List ℕ) → Appends a b xs → Keeps b c → Appends a c xs
appends_kept None b c xs h k = tt
appends_kept (Some p) None c xs h k = absurd h
appends_kept (Some p) (Some q) None xs h k = absurd k
appends_kept (Some p) (Some q) (Some r) xs h k = k ∙ h

pub consumes_none : (known : Option (List ℕ)) → Consumes known known []
consumes_none None = tt
consumes_none (Some xs) = refl

pub consumes_more : (a b c : Option (List ℕ)) (xs ys : List ℕ) → Consumes a b xs → Consumes b c ys → Consumes a c (xs ++ ys)
consumes_more None b c xs ys h k = tt
consumes_more (Some p) None c xs ys h k = absurd h
consumes_more (Some p) (Some q) None xs ys h k = absurd k
consumes_more (Some p) (Some q) (Some r) xs ys h k = h ∙ ap (λ (zs : List ℕ). xs ++ zs) k ∙ sym (append_assoc xs ys r)

-- all that was left came
pub consumed_all : (a b : Option (List ℕ)) (xs : List ℕ) → Consumes a b xs → IsAtEnd b → IfSome a (λ bytes. xs ≡ bytes)
consumed_all None b xs h e = tt
consumed_all (Some p) None xs h e = absurd h
consumed_all (Some p) (Some q) xs h e = sym (append-nil xs) ∙ ap (λ (zs : List ℕ). xs ++ zs) (sym e) ∙ sym h

-- more was left than came at least
pub consumed_some : (a b : Option (List ℕ)) (xs : List ℕ) (limit : ℕ) → Consumes a b xs → limit < length xs → IfSome a (λ bytes. limit < length bytes)
consumed_some None b xs limit h l = tt
consumed_some (Some p) None xs limit h l = absurd h
consumed_some (Some p) (Some q) xs limit h l = omega (arith, ap length h, length-append xs q, l)

-- what was written of a piece is a prefix of it
pub appends_prefix : (a b : Option (List ℕ)) (piece written rest : List ℕ) → piece ≡ written ++ rest → Appends a b written → (count : ℕ) × Appends a b (take count piece)
appends_prefix a b piece written rest e h =
    let front : written ≡ take (length written) piece = sym (take-append_seam written rest) ∙ ap (λ (xs : List ℕ). take (length written) xs) (sym e) in
    (length written, subst (λ (xs : List ℕ). Appends a b xs) front h)

pub written_more : (piece written rest : List ℕ) (count : ℕ) → piece ≡ written ++ rest → piece ≡ written ++ take count rest ++ drop count rest
written_more piece written rest count e =
    e ∙ ap (λ (xs : List ℕ). written ++ xs) (sym (take-append-drop count rest)) ∙ sym (append_assoc written (take count rest) (drop count rest))
