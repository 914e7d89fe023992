-- The channels of an escape route are those of the links that part its two ends: of which one end lies below the link, and the other doesn't.
use Rattle.std.proofs.Common.{◌≡◌, ◌≢◌, ℕ, zero, suc, ◌<◌, ◌≤◌, ◌⊎◌, inl, inr, List, [], ◌∷◌, length, refl, sym, ◌∙◌, ap, subst, arith, Option, Some, None}
use Rattle.std.proofs.lemmas.Bool.{cases_eq}
use Rattle.std.proofs.lemmas.Option.{same_Some, none-some}
use Rattle.fab_model.specs.Topology.{Topology}
use Rattle.fab_model.specs.Connected.{LeadsAlong}
use Rattle.fab_model.specs.WellFormed.{IsWellFormed}
use Rattle.fab_model.proofs.Lists.Members.{In}
use Rattle.fab_tables.specs.Route.{tip_of_row, tip}
use Rattle.fab_tables.specs.Trees.{next}
use Rattle.fab_tables.specs.TreeWalks.{GoesAlong}
use Rattle.fab_escape.specs.declared.links.Link.{Link}
use Rattle.fab_escape.specs.Forest.{Forest, link_of, link_into, escape_tree}
use Rattle.fab_escape.specs.Trees.{IsEscapeForest}
use Rattle.fab_escape.specs.EscapeSet.{depth_of}
use Rattle.fab_escape.specs.Climbing.{Climbs}
use Rattle.fab_escape.proofs.Climbed.{climbs_on}
use Rattle.fab_escape.proofs.Climbing.{ComesBy, found, climbed}
use Rattle.fab_escape.proofs.Depths.{ascends, depth_small, depth_below, climbs_depth}
use Rattle.fab_escape.proofs.NextChannels.{IsUp, IsDown, IsNext, next_cases}
use Rattle.fab_escape.proofs.WholeTree.{of_tree}

-- the second switch stands on the way up from the first
abbrev pub Below : Forest → ℕ → ℕ → Type 0
Below f s x = (k : ℕ) × Climbs f k x s

-- up by its own link
pub below_up : (f : Forest) (s u : ℕ) (own : Link) → link_of f u ≡ Some own → Below f s own.parent → Below f s u
below_up f s u own has w = (suc w.0, (own, has, w.1))

-- what is below and not there itself has its parent below
pub below_parent : (f : Forest) (s u : ℕ) (own : Link) → link_of f u ≡ Some own → Below f s u → (u ≡ s) ⊎ Below f s own.parent
below_parent f s u own has w = go w.0 w.1
  where
    go : (k : ℕ) → Climbs f k u s → (u ≡ s) ⊎ Below f s own.parent
    go zero e = inl e
    go (suc k) c = inr (k, subst (λ (l : Link). Climbs f k l.parent s) (same_Some c.0 own (sym c.1 ∙ has)) c.2)

-- a link that parts two switches, with its channel on the way from the first
pub record Parts (t : Topology) (f : Forest) (u to c : ℕ) : Type 0 where
  pub s : ℕ
  pub link : Link
  pub low : s < length t.switches
  pub own : link_of f s ≡ Some link
  pub way : ((link.channel ≡ c) × Below f s u × ¬ Below f s to) ⊎ ((link.reverse ≡ c) × Below f s to × ¬ Below f s u)

module _ (t : Topology) (good : IsWellFormed t) (lane : ℕ) (f : Forest) (forest : IsEscapeForest t lane f) where
  not_below : (s x : ℕ) → x < length t.switches → x ≢ s → link_into f s x ≡ None → ¬ Below f s x
  not_below s x low other none w = go w.0 w.1
    where
      go : (k : ℕ) → Climbs f k x s → ⊥
      go zero e = other e
      go (suc k) c =
          let enough : suc k ≤ length f.links = omega (arith, climbs_depth t good lane f forest (suc k) x s c low, depth_small t good lane f forest x low, forest.each_link) in
          let there : (link : Link) × (link_into f s x ≡ Some link) = climbed f (length f.links) k x s enough c in
          none-some there.0 (sym none ∙ there.1)

  pub below_decided : (s x : ℕ) → x < length t.switches → Below f s x ⊎ (¬ Below f s x)
  below_decided s x low = elim (cases_eq x s) [
    | inl same ↦ inl (0, same)
    | inr other ↦ go other (link_into f s x) refl
  ]
    where
      go : x ≢ s → (o : Option Link) → link_into f s x ≡ o → Below f s x ⊎ (¬ Below f s x)
      go other None e = inr (not_below s x low other e)
      go other (Some link) e =
          let by : ComesBy f x s link = found f (length f.links) x s link e in
          inl (suc by.links, subst (λ y. Climbs f (suc by.links) x y) by.leads (climbs_on f by.links x by.below link by.climbs by.own))

  -- a switch is not below its child
  not_own_child : (u child : ℕ) (link : Link) → u < length t.switches → child < length t.switches → link_of f child ≡ Some link → link.parent ≡ u → ¬ Below f child u
  not_own_child u child link low also own leads w =
      omega (arith, climbs_depth t good lane f forest w.0 u child w.1 low, depth_below t good lane f forest child link also own, ap (λ y. depth_of f y) leads)

  module _ (to : ℕ) where
    abbrev tree : List (Option ℕ)
    tree = escape_tree f to

    next_is : (u c : ℕ) → next tree u ≡ Some c → IsNext t f u to c
    next_is u c h = next_cases t good lane f forest u to c (of_tree f u to c h)

    up_not_below : (u c : ℕ) → IsNext t f u to c → IsUp t f u to c → ¬ Below f u to
    up_not_below u c is up = not_below u to is.end (λ same. is.other (sym same)) up.none

    tip_low : (u c : ℕ) → IsNext t f u to c → tip t c < length t.switches
    tip_low u c is = elim is.way [
      | inl up ↦ omega (arith, up.comes, (ascends t good lane f forest u up.own is.start up.has).below)
      | inr down ↦ omega (arith, down.comes, down.low)
    ]

    -- each channel of the route is that of such a link
    pub parts : (cs : List ℕ) (u : ℕ) → GoesAlong t tree u cs → (c : ℕ) → In c cs → Parts t f u to c
    parts [] u goes c at = absurd at
    parts (d ∷ ds) u goes c (inl e) = go (next_is u d goes.0)
      where
        go : IsNext t f u to d → Parts t f u to c
        go is = elim is.way [
          | inl up ↦ record { s = u; link = up.own; low = is.start; own = up.has; way = inl (up.is ∙ e, (0, refl), up_not_below u d is up) }
          | inr down ↦ record { s = down.child; link = down.below; low = down.low; own = down.has; way = inr (down.is ∙ e, (down.links, down.climbs), not_own_child u down.child down.below is.start down.low down.has down.leads) }
        ]
    parts (d ∷ ds) u goes c (inr at) = go (next_is u d goes.0) (parts ds (tip t d) goes.1 c at)
      where
        go_up : (is : IsNext t f u to d) → (up : IsUp t f u to d) → (p : Parts t f (tip t d) to c) → ((p.link.channel ≡ c) × Below f p.s (tip t d) × ¬ Below f p.s to) ⊎ ((p.link.reverse ≡ c) × Below f p.s to × ¬ Below f p.s (tip t d)) → Parts t f u to c
        go_up is up p (inl w) = record { s = p.s; link = p.link; low = p.low; own = p.own; way = inl (w.0, below_up f p.s u up.own up.has (subst (λ x. Below f p.s x) up.comes w.1), w.2) }
        go_up is up p (inr w) = record {
          s = p.s;
          link = p.link;
          low = p.low;
          own = p.own;
          way = inr (
            w.0,
            w.1,
            λ b. elim (below_parent f p.s u up.own up.has b) [
              | inl same ↦ up_not_below u d is up (subst (λ x. Below f x to) (sym same) w.1)
              | inr above ↦ w.2 (subst (λ x. Below f p.s x) (sym up.comes) above)
            ],
          );
        }

        go_down : (is : IsNext t f u to d) → (down : IsDown t f u to d) → (p : Parts t f (tip t d) to c) → ((p.link.channel ≡ c) × Below f p.s (tip t d) × ¬ Below f p.s to) ⊎ ((p.link.reverse ≡ c) × Below f p.s to × ¬ Below f p.s (tip t d)) → Parts t f u to c
        go_down is down p (inl w) = record {
          s = p.s;
          link = p.link;
          low = p.low;
          own = p.own;
          way = inl (
            w.0,
            elim (below_parent f p.s down.child down.below down.has (subst (λ x. Below f p.s x) down.comes w.1)) [
              | inl same ↦ absurd (w.2 (subst (λ x. Below f x to) same (down.links, down.climbs)))
              | inr above ↦ subst (λ x. Below f p.s x) down.leads above
            ],
            w.2,
          );
        }
        go_down is down p (inr w) = record {
          s = p.s;
          link = p.link;
          low = p.low;
          own = p.own;
          way = inr (w.0, w.1, λ b. w.2 (subst (λ x. Below f p.s x) (sym down.comes) (below_up f p.s down.child down.below down.has (subst (λ x. Below f p.s x) (sym down.leads) b))));
        }

        go : IsNext t f u to d → Parts t f (tip t d) to c → Parts t f u to c
        go is p = elim is.way [ inl up ↦ go_up is up p p.way | inr down ↦ go_down is down p p.way ]

    -- and each such link has its channel on the route
    rest_leads : (u c : ℕ) (cs : List ℕ) → LeadsAlong t u (c ∷ cs) to → LeadsAlong t (tip t c) cs to
    rest_leads u c cs leads = subst (λ x. LeadsAlong t x cs to) (sym (ap tip_of_row leads.1)) leads.3

    pub up_in : (cs : List ℕ) (u s : ℕ) (link : Link) → GoesAlong t tree u cs → LeadsAlong t u cs to → link_of f s ≡ Some link → Below f s u → ¬ Below f s to → In link.channel cs
    up_in [] u s link goes leads own b none = absurd (none (subst (λ x. Below f s x) leads b))
    up_in (d ∷ ds) u s link goes leads own b none = go (next_is u d goes.0) (λ w. up_in ds (tip t d) s link goes.1 (rest_leads u d ds leads) own w none)
      where
        go : IsNext t f u to d → (Below f s (tip t d) → In link.channel ds) → (d ≡ link.channel) ⊎ In link.channel ds
        go is more = elim (below_decided s (tip t d) (tip_low u d is)) [
          | inl w ↦ inr (more w)
          | inr apart ↦ elim is.way [
            | inl up ↦ elim (below_parent f s u up.own up.has b) [
              | inl same ↦ inl (sym up.is ∙ ap (λ (l : Link). l.channel) (same_Some up.own link (sym up.has ∙ ap (λ x. link_of f x) same ∙ own)))
              | inr above ↦ absurd (apart (subst (λ x. Below f s x) (sym up.comes) above))
            ]
            | inr down ↦ absurd (apart (subst (λ x. Below f s x) (sym down.comes) (below_up f s down.child down.below down.has (subst (λ x. Below f s x) (sym down.leads) b))))
          ]
        ]

    pub down_in : (cs : List ℕ) (u s : ℕ) (link : Link) → GoesAlong t tree u cs → LeadsAlong t u cs to → link_of f s ≡ Some link → ¬ Below f s u → Below f s to → In link.reverse cs
    down_in [] u s link goes leads own none b = absurd (none (subst (λ x. Below f s x) (sym leads) b))
    down_in (d ∷ ds) u s link goes leads own none b = go (next_is u d goes.0) (λ w. down_in ds (tip t d) s link goes.1 (rest_leads u d ds leads) own w b)
      where
        go : IsNext t f u to d → (¬ Below f s (tip t d) → In link.reverse ds) → (d ≡ link.reverse) ⊎ In link.reverse ds
        go is more = elim (below_decided s (tip t d) (tip_low u d is)) [
          | inr apart ↦ inr (more apart)
          | inl w ↦ elim is.way [
            | inl up ↦ absurd (none (below_up f s u up.own up.has (subst (λ x. Below f s x) up.comes w)))
            | inr down ↦ elim (below_parent f s down.child down.below down.has (subst (λ x. Below f s x) down.comes w)) [
              | inl same ↦ inl (sym down.is ∙ ap (λ (l : Link). l.reverse) (same_Some down.below link (sym down.has ∙ ap (λ x. link_of f x) same ∙ own)))
              | inr above ↦ absurd (none (subst (λ x. Below f s x) down.leads above))
            ]
          ]
        ]
