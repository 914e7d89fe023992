-- Levels kept in bytes.
use Rattle.std.proofs.Common.{◌≡◌, ℕ, zero, suc, ◌<◌, Bool, true, false, List, ◌∷◌, map, replicate, cond, Option, Some, None, refl, ap}
use Rattle.std.specs.Prelude.{All, IfSome, nat_lt}
use Rattle.std.proofs.lemmas.Bool.{ltb-true}
use Rattle.std.proofs.lemmas.List.Elements.{All-map}
use Rattle.fab_tables.specs.LevelBytes.{level_of_byte}

level_small : (byte : ℕ) → IfSome (level_of_byte byte) (λ n. n < 16)
level_small byte = go (nat_lt byte 16) refl
  where
    go : (b : Bool) → nat_lt byte 16 ≡ b → IfSome (cond b (Some byte) None) (λ n. n < 16)
    go true e = ltb-true byte 16 e
    go false e = tt

pub levels_small : (bytes : List ℕ) → All (λ (level : Option ℕ). IfSome level (λ n. n < 16)) (map level_of_byte bytes)
levels_small bytes = All-map (λ (level : Option ℕ). IfSome level (λ n. n < 16)) level_of_byte bytes (λ k d h. level_small _)

pub no_levels : (n : ℕ) → map level_of_byte (replicate n 255) ≡ replicate n None
no_levels zero = refl
no_levels (suc n) = ap (λ xs. None ∷ xs) (no_levels n)
