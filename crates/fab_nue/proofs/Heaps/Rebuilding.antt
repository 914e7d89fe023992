-- A heap that is filled anew with the channels from unsettled switches to settled ones, by ascending number.
use Rattle.std.proofs.Common.{◌≡◌, ◌≢◌, ℕ, ◌+◌, ◌<◌, ◌⊎◌, inl, inr, List, [], length, Option, refl, sym, subst, arith}
use Rattle.std.specs.Prelude.{Contains}
use Rattle.std.proofs.lemmas.Bool.{cases_lt}
use Rattle.fab_model.specs.Topology.{Topology}
use Rattle.fab_tables.specs.Route.{tip}
use Rattle.fab_nue.specs.declared.choices.Choice.{Choice}
use Rattle.fab_nue.specs.Choices.{Held, GainsChoice}
use Rattle.fab_nue.specs.Search.{tail, IsSettled, way_weight}
use Rattle.fab_nue.specs.Offers.{Offers}
use Rattle.fab_nue.specs.UnderWay.{choice_of, IsWeighed, HoldsCandidates}
use Rattle.fab_nue.specs.Turns.{Crosses}
use Rattle.fab_nue.proofs.Searching.SearchTrees.{settled_or_not}
use Rattle.fab_nue.proofs.Heaps.Beginning.{nothing_held_once}
use Rattle.fab_nue.proofs.Heaps.Heaping.{pushed_holds}
use Rattle.fab_nue.proofs.Heaps.Offering.{room_left, offers_none, offers_same, offers_skip, offers_push}

module _ (t : Topology) (weight : ℕ → ℕ) (to : ℕ) (tree : List (Option ℕ)) where
  -- a channel of a smaller number that leads to a settled switch
  abbrev pub LeadsIn : ℕ → ℕ → Type 0
  LeadsIn n c = (c < n) × IsSettled to tree (tip t c)

  -- those with smaller numbers stand in the heap
  abbrev pub HoldsBefore : ℕ → List Choice → Type 0
  HoldsBefore n entries = Offers t to tree (λ c. way_weight t weight tree c) (LeadsIn n) [] entries

  pub holds_none : (entries : List Choice) → entries ≡ [] → HoldsBefore 0 entries
  holds_none entries empty =
      subst (HoldsBefore 0) (sym empty) (offers_none t to tree (λ c. way_weight t weight tree c) (LeadsIn 0) [] (nothing_held_once t [] refl) (λ c some. omega (arith, some.0)))

  on : (n d : ℕ) → LeadsIn n d → LeadsIn (n + 1) d
  on n d x = (omega (arith, x.0), x.1)

  back : (n d : ℕ) → LeadsIn (n + 1) d → LeadsIn n d ⊎ (d ≡ n)
  back n d x = elim (cases_lt d n) [ inl less ↦ inl (less, x.1) | inr more ↦ inr (omega (arith, more, x.0)) ]

  -- the next one doesn't lead from an unsettled switch to a settled one
  pub holds_skip : (n : ℕ) (entries : List Choice) → ¬ Crosses t to tree n → HoldsBefore n entries → HoldsBefore (n + 1) entries
  holds_skip n entries not x = elim (settled_or_not to tree (tail t n)) [
    | inl settled ↦ offers_skip t to tree (λ c. way_weight t weight tree c) (LeadsIn n) (LeadsIn (n + 1)) [] entries n (on n) (back n) settled x
    | inr unsettled ↦ offers_same t to tree (λ c. way_weight t weight tree c) (LeadsIn n) (LeadsIn (n + 1)) [] entries (on n) (before unsettled) x
  ]
    where
      before : ¬ IsSettled to tree (tail t n) → (d : ℕ) → LeadsIn (n + 1) d → LeadsIn n d
      before unsettled d some = elim (back n d some) [ inl less ↦ less | inr e ↦ absurd (not (unsettled, subst (λ k. IsSettled to tree (tip t k)) e some.1)) ]

  -- no choice so far has its channel
  fresh : (n : ℕ) (entries : List Choice) → HoldsBefore n entries → (e : Choice) → Contains entries e → e.channel.0 ≢ n
  fresh n entries x e has = elim (x.only e has) [ inl none ↦ absurd (omega (arith, none.1)) | inr is ↦ (λ same. omega (arith, is.0.0, same)) ]

  pub holds_room : (n : ℕ) (entries : List Choice) → n < length t.channels → HoldsBefore n entries → length entries < length t.channels
  holds_room n entries low x = room_left t entries n x.holds low (fresh n entries x)

  -- it does, and is put in
  pub holds_next : (n : ℕ) (now new : Held) (m : Choice) → m.channel.0 ≡ n → n < length t.channels → IsSettled to tree (tip t n) → m.weight ≡ way_weight t weight tree n → GainsChoice now new m →
      HoldsBefore n now.entries → HoldsBefore (n + 1) new.entries
  holds_next n now new m is low settled weighs gains x =
      let own : IsSettled to tree (tip t m.channel.0) = subst (λ k. IsSettled to tree (tip t k)) (sym is) settled in
      let weighs_own : m.weight ≡ way_weight t weight tree m.channel.0 = subst (λ k. m.weight ≡ way_weight t weight tree k) (sym is) weighs in
      offers_push t to tree (λ c. way_weight t weight tree c) (LeadsIn n) (LeadsIn (n + 1)) [] now new m (on n) (λ d some. subst (λ k. LeadsIn n d ⊎ (d ≡ k)) (sym is) (back n d some))
      (omega (arith, is), own) (omega (arith, is, low)) weighs_own (λ e has same. fresh n now.entries x e has (omega (arith, same, is))) gains x

  -- in the end every candidate stands there
  pub holds_all : (used : ℕ → ℕ → Type 0) (n : ℕ) (entries : List Choice) → n ≡ length t.channels → HoldsBefore n entries → HoldsCandidates t weight used to tree entries
  holds_all used n entries e x = pushed_holds t weight used to tree entries pushed weighed
    where
      pushed : (c : ℕ) → c < length t.channels → ¬ IsSettled to tree (tail t c) → IsSettled to tree (tip t c) → Contains entries (choice_of t weight tree c)
      pushed c low from into = x.offered c (omega (arith, low, e), into) from

      weighed : (m : Choice) → Contains entries m → IsWeighed t weight to tree m
      weighed m has = elim (x.only m has) [ inl none ↦ absurd (omega (arith, none.1)) | inr is ↦ (is.0.1, is.1) ]
