-- The link by which the way up from one switch comes to another, found by depths.
use Rattle.std.proofs.Common.{◌≡◌, ◌≢◌, ℕ, suc, ◌+◌, ◌<◌, ◌≤◌, List, length, refl, sym, ◌∙◌, ap, subst, inl, inr, ◌⊎◌, arith, Some, None, Option, get_or}
use Rattle.std.specs.Prelude.{slice_index_or}
use Rattle.std.proofs.lemmas.Grind.{get_or_default_zero}
use Rattle.std.proofs.lemmas.List.{get_or_default}
use Rattle.std.proofs.lemmas.Option.{same_Some}
use Rattle.fab_escape.specs.declared.links.Link.{Link}
use Rattle.fab_escape.specs.Forest.{Forest, link_of, link_into}
use Rattle.fab_escape.specs.Climbing.{Climbs, depth_at, AreDepths, AreJumps}
use Rattle.fab_escape.proofs.Climbing.{ComesBy, found, climbed}
use Rattle.fab_escape.proofs.Climbed.{climbs_once, climbs_on, climbs_through, climbs_depth}

-- what is read of the lists
pub depth_read : (depths : List ℕ) (s depth : ℕ) → s < length depths → depth ≡ get_or depths s depth → depth ≡ depth_at depths s
depth_read depths s depth low e = e ∙ get_or_default_zero depths s depth low

pub link_read : (f : Forest) (s : ℕ) (x : Option Link) (link : Link) → s < length f.links → x ≡ get_or f.links s x → x ≡ Some link → link_of f s ≡ Some link
link_read f s x link low e is = get_or_default f.links s None x low ∙ sym e ∙ is

pub none_read : (f : Forest) (s : ℕ) (x : Option Link) → s < length f.links → x ≡ get_or f.links s x → x ≡ None → link_of f s ≡ None
none_read f s x low e is = get_or_default f.links s None x low ∙ sym e ∙ is

-- a jump leads up
pub record IsHigher (f : Forest) (depths : List ℕ) (s jump : ℕ) : Type 0 where
  pub links : ℕ
  pub climbs : Climbs f links s jump
  pub less : depth_at depths jump < depth_at depths s
  pub low : jump < length f.links

pub jump_higher : (f : Forest) (depths jumps : List ℕ) → AreDepths f depths → AreJumps f jumps → (s jump : ℕ) (link : Link) → s < length f.links → link_of f s ≡ Some link → jump ≡ get_or jumps s jump → IsHigher f depths s jump
jump_higher f depths jumps are js s jump link low has e =
    let above : (n : ℕ) × Climbs f (suc n) s (slice_index_or jumps s 0) = js.above s link low has in
    let same : jump ≡ slice_index_or jumps s 0 = e ∙ get_or_default_zero jumps s jump (omega (arith, js.each, low)) in
    let w : Climbs f (suc above.0) s jump = subst (λ x. Climbs f (suc above.0) s x) (sym same) above.1 in
    let at : (depth_at depths s ≡ suc above.0 + depth_at depths jump) × (jump < length f.links) = climbs_depth f depths are (suc above.0) s jump low w in
    record { links = suc above.0; climbs = w; less = omega (arith, at.0); low = at.1 }

-- it stands on the way up from `to`, at its beginning or deeper than `from`
pub record StandsBelow (f : Forest) (depths : List ℕ) (from to at : ℕ) : Type 0 where
  pub links : ℕ
  pub climbs : Climbs f links to at
  pub deep : (at ≡ to) ⊎ (depth_at depths from < depth_at depths at)

pub stands_first : (f : Forest) (depths : List ℕ) (from to : ℕ) → StandsBelow f depths from to to
stands_first f depths from to = record { links = 0; climbs = refl; deep = inl refl }

pub stands_on : (f : Forest) (depths : List ℕ) (from to at n next : ℕ) → StandsBelow f depths from to at → Climbs f n at next → depth_at depths from < depth_at depths next → StandsBelow f depths from to next
stands_on f depths from to at n next is w deep = record { links = is.links + n; climbs = climbs_through f is.links n to at next is.climbs w; deep = inr deep }

module _ (f : Forest) (depths : List ℕ) (are : AreDepths f depths) (from to at : ℕ) (low : to < length f.links) (is : StandsBelow f depths from to at) where
  here : (depth_at depths to ≡ is.links + depth_at depths at) × (at < length f.links)
  here = climbs_depth f depths are is.links to at low is.climbs

  -- what comes to `from` on the way up stands one deeper
  comes_deep : (link : Link) (by : ComesBy f to from link) → (depth_at depths to ≡ by.links + depth_at depths by.below) × (depth_at depths by.below ≡ suc (depth_at depths from))
  comes_deep link by =
      let there : (depth_at depths to ≡ by.links + depth_at depths by.below) × (by.below < length f.links) = climbs_depth f depths are by.links to by.below low by.climbs in
      (there.0, (are.others by.below link there.1 by.own).1 ∙ ap (λ s. suc (depth_at depths s)) by.leads)

  reaches : (link : Link) → ComesBy f to from link → suc (depth_at depths from) ≤ depth_at depths at
  reaches link by = elim is.deep [
    | inl same ↦ omega (arith, (comes_deep link by).0, (comes_deep link by).1, ap (λ s. depth_at depths s) same)
    | inr deep ↦ omega (arith, deep)
  ]

  -- and so it is the link of this switch, where that leads high enough
  only : (own link : Link) → link_of f at ≡ Some own → depth_at depths own.parent ≤ depth_at depths from → ComesBy f to from link → link ≡ own
  only own link has high by =
      let fall : depth_at depths at ≡ suc (depth_at depths own.parent) = (are.others at own here.1 has).1 in
      let same : by.links ≡ is.links = omega (arith, reaches link by, comes_deep link by, fall, high, here.0) in
      let one : by.below ≡ at = climbs_once f is.links to by.below at (subst (λ n. Climbs f n to by.below) same by.climbs) is.climbs in
      same_Some link own (sym by.own ∙ ap (λ s. link_of f s) one ∙ has)

  pub no_link_at_root : link_of f at ≡ None → None ≡ link_into f from to
  no_link_at_root none = go (link_into f from to) refl
    where
      go : (into : Option Link) → link_into f from to ≡ into → None ≡ link_into f from to
      go None e = sym e
      go (Some link) e =
          let by : ComesBy f to from link = found f (length f.links) to from link e in
          absurd (omega (arith, reaches link by, are.roots at here.1 none))

  pub no_link_past : (own : Link) → link_of f at ≡ Some own → depth_at depths own.parent ≤ depth_at depths from → own.parent ≢ from → None ≡ link_into f from to
  no_link_past own has high other = go (link_into f from to) refl
    where
      go : (into : Option Link) → link_into f from to ≡ into → None ≡ link_into f from to
      go None e = sym e
      go (Some link) e =
          let by : ComesBy f to from link = found f (length f.links) to from link e in
          absurd (other (ap (λ (l : Link). l.parent) (sym (only own link has high by)) ∙ by.leads))

  pub link_found : (own : Link) → link_of f at ≡ Some own → depth_at depths own.parent ≤ depth_at depths from → own.parent ≡ from → Some own ≡ link_into f from to
  link_found own has high leads = sym (some.1 ∙ ap Some (only own some.0 has high (found f (length f.links) to from some.0 some.1)))
    where
      w : Climbs f (suc is.links) to from
      w = subst (λ s. Climbs f (suc is.links) to s) leads (climbs_on f is.links to at own is.climbs has)

      few : suc is.links ≤ length f.links
      few = omega (arith, here.0, (are.others at own here.1 has).1, are.small to low)

      some : (link : Link) × (link_into f from to ≡ Some link)
      some = climbed f (length f.links) is.links to from few w
