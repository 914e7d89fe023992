-- The way up falls in depth by one with each link, so it is told by the number of its links.
use Rattle.std.proofs.Common.{◌≡◌, ℕ, zero, suc, ◌+◌, ◌-◌, ◌<◌, ◌≤◌, List, [], ◌∷◌, ◌++◌, length, refl, sym, ◌∙◌, ap, subst, inl, inr, arith, Some, None, Option, All}
use Rattle.std.specs.Prelude.{slice_index_or}
use Rattle.std.proofs.lemmas.Bool.{cases_lt}
use Rattle.std.proofs.lemmas.List.{get_or_past, length_push}
use Rattle.std.proofs.lemmas.List.Elements.{All-push}
use Rattle.std.proofs.lemmas.Option.{none-some, same_Some}
use Rattle.fab_escape.specs.declared.links.Link.{Link}
use Rattle.fab_escape.specs.Forest.{Forest, link_of, parent_or, climbed}
use Rattle.fab_escape.specs.Climbing.{Climbs, depth_at, AreDepths, AreJumps}
use Rattle.fab_escape.proofs.Making.{each_pushed}

pub climbs_once : (f : Forest) (n s x y : ℕ) → Climbs f n s x → Climbs f n s y → x ≡ y
climbs_once f zero s x y w v = sym w ∙ v
climbs_once f (suc n) s x y w v =
    let same : v.0 ≡ w.0 = same_Some v.0 w.0 (sym v.1 ∙ w.1) in
    climbs_once f n w.0.parent x y w.2 (subst (λ (link : Link). Climbs f n link.parent y) same v.2)

pub climbs_on : (f : Forest) (n s x : ℕ) (link : Link) → Climbs f n s x → link_of f x ≡ Some link → Climbs f (suc n) s link.parent
climbs_on f zero s x link w has = (link, ap (λ y. link_of f y) w ∙ has, refl)
climbs_on f (suc n) s x link w has = (w.0, w.1, climbs_on f n w.0.parent x link w.2 has)

pub climbs_through : (f : Forest) (m n s x y : ℕ) → Climbs f m s x → Climbs f n x y → Climbs f (m + n) s y
climbs_through f zero n s x y w v =
    let same : n ≡ 0 + n = omega arith in
    subst (λ k. Climbs f k s y) same (subst (λ z. Climbs f n z y) (sym w) v)
climbs_through f (suc m) n s x y w v =
    let rest : Climbs f (suc (m + n)) s y = (w.0, w.1, climbs_through f m n w.0.parent x y w.2 v) in
    let same : suc (m + n) ≡ suc m + n = omega arith in
    subst (λ k. Climbs f k s y) same rest

module _ (f : Forest) (depths : List ℕ) (are : AreDepths f depths) where
  -- what is reached is of the forest, and so many links higher
  pub climbs_depth : (n s x : ℕ) → s < length f.links → Climbs f n s x → (depth_at depths s ≡ n + depth_at depths x) × (x < length f.links)
  climbs_depth zero s x low w = (ap (λ y. depth_at depths y) w ∙ omega arith, omega (arith, w, low))
  climbs_depth (suc n) s x low w =
      let other : (w.0.parent < length f.links) × (depth_at depths s ≡ suc (depth_at depths w.0.parent)) = are.others s w.0 low w.1 in
      let rest : (depth_at depths w.0.parent ≡ n + depth_at depths x) × (x < length f.links) = climbs_depth n w.0.parent x other.0 w.2 in
      (omega (arith, other.1, rest.0), rest.1)

  -- one can climb as far as the depth
  pub climbs_up : (n s : ℕ) → s < length f.links → n ≤ depth_at depths s → Climbs f n s (climbed f.links n s)
  climbs_up zero s low enough = refl
  climbs_up (suc n) s low enough = one_more n s enough (climbs_up n s low (omega (arith, enough))) low
    where
      one_more : (n s : ℕ) → suc n ≤ depth_at depths s → Climbs f n s (climbed f.links n s) → s < length f.links → Climbs f (suc n) s (climbed f.links (suc n) s)
      one_more n s enough w low = go (link_of f (climbed f.links n s)) refl
        where
          at : (depth_at depths s ≡ n + depth_at depths (climbed f.links n s)) × (climbed f.links n s < length f.links)
          at = climbs_depth n s (climbed f.links n s) low w

          go : (own : Option Link) → link_of f (climbed f.links n s) ≡ own → Climbs f (suc n) s (parent_or (climbed f.links n s) (link_of f (climbed f.links n s)))
          go None none = absurd (omega (arith, enough, at.0, are.roots (climbed f.links n s) at.1 none))
          go (Some link) has = subst (λ own. Climbs f (suc n) s (parent_or (climbed f.links n s) own)) (sym has) (climbs_on f n s (climbed f.links n s) link w has)

-- the jumps of the first switches
pub record AreJumpsBelow (f : Forest) (count : ℕ) (jumps : List ℕ) : Type 0 where
  pub each : length jumps ≡ count
  pub within : All (λ jump. jump < length f.links) jumps
  pub above : (s : ℕ) (link : Link) → s < count → link_of f s ≡ Some link → (n : ℕ) × Climbs f (suc n) s (slice_index_or jumps s 0)

pub are_jumps : (f : Forest) (jumps : List ℕ) → AreJumpsBelow f (length f.links) jumps → AreJumps f jumps
are_jumps f jumps are = record { each = are.each; within = are.within; above = are.above }

module _ (f : Forest) (depths : List ℕ) (are : AreDepths f depths) where
  pub parents_within : (s : ℕ) (link : Link) → link_of f s ≡ Some link → link.parent < length f.links
  parents_within s link has = elim (cases_lt s (length f.links)) [
    | inl low ↦ (are.others s link low has).0
    | inr past ↦ absurd (none-some link (sym (get_or_past f.links s None past) ∙ has))
  ]

  pub jump_pushed : (s landing jump : ℕ) (jumps : List ℕ) → s < length f.links → landing ≤ depth_at depths s - 1 → jump ≡ climbed f.links (depth_at depths s - landing) s →
      AreJumpsBelow f s jumps → AreJumpsBelow f (s + 1) (jumps ++ jump ∷ [])
  jump_pushed s landing jump jumps low land is before = record {
    each = omega (arith, before.each, length_push jumps jump);
    within = All-push (λ j. j < length f.links) jumps jump before.within (climbs_depth f depths are (depth_at depths s - landing) s jump low way).1;
    above = λ k link less has. each_pushed (λ x j. (own : Link) → link_of f x ≡ Some own → (n : ℕ) × Climbs f (suc n) x j) (λ x. 0) jumps jump s before.each (λ x below own o. before.above x own below o) here k less link has;
  }
    where
      way : Climbs f (depth_at depths s - landing) s jump
      way = subst (λ x. Climbs f (depth_at depths s - landing) s x) (sym is) (climbs_up f depths are (depth_at depths s - landing) s low (omega arith))

      here : (own : Link) → link_of f s ≡ Some own → (n : ℕ) × Climbs f (suc n) s jump
      here own has =
          let deep : depth_at depths s ≡ suc (depth_at depths own.parent) = (are.others s own low has).1 in
          let many : depth_at depths s - landing ≡ suc (depth_at depths s - landing - 1) = omega (arith, deep, land) in
          (depth_at depths s - landing - 1, subst (λ n. Climbs f n s jump) many way)
