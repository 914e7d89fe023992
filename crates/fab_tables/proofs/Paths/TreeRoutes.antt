-- Where a tree has the channels that the entries for a LID go along, its walks are the routes.
use Rattle.std.proofs.Common.{◌≡◌, ℕ, zero, suc, List, ◌∷◌, length, Option, Some, None, refl, ◌∙◌, ap}
use Rattle.fab_model.specs.Topology.{Topology}
use Rattle.fab_tables.specs.Entries.{Entries, entry}
use Rattle.fab_tables.specs.Route.{Hop, hop_by, tip, after_hop, route_within, route}
use Rattle.fab_tables.specs.Route.Hop.{Along, Stop}
use Rattle.fab_tables.specs.Trees.{next}
use Rattle.fab_tables.specs.TreeWalks.{after_channel, walk_within, walk_of}

-- the channel that an entry goes along, if it does
abbrev pub channel_along : Hop → Option ℕ
channel_along (Along c) = Some c
channel_along (Stop end) = None

-- each switch's channel in the tree is that of its entry
abbrev pub IsTreeOf : Topology → Entries → ℕ → List (Option ℕ) → Type 0
IsTreeOf t e lid tree = (s : ℕ) → next tree s ≡ channel_along (hop_by t lid s (entry e s lid))

module _ (t : Topology) (e : Entries) (lid : ℕ) (tree : List (Option ℕ)) (is : IsTreeOf t e lid tree) where
  walk_within_route : (n s : ℕ) → walk_within t tree n s ≡ (route_within t e lid n s).channels
  walk_within_route zero s = refl
  walk_within_route (suc n) s = ap (λ o. after_channel t (λ to. walk_within t tree n to) o) (is s) ∙ go (hop_by t lid s (entry e s lid)) (λ to. walk_within_route n to)
    where
      go : (hop : Hop) → ((to : ℕ) → walk_within t tree n to ≡ (route_within t e lid n to).channels) →
          after_channel t (λ to. walk_within t tree n to) (channel_along hop) ≡ (after_hop t (λ to. route_within t e lid n to) hop).channels
      go (Along c) rest = ap (λ cs. c ∷ cs) (rest (tip t c))
      go (Stop end) rest = refl

  pub walk_of_route : (s : ℕ) → walk_of t tree s ≡ (route t e s lid).channels
  walk_of_route s = walk_within_route (length t.switches) s
