-- A plan has one certificate.
use Rattle.std.proofs.Common.{◌≡◌, ℕ, List, refl, sym, ◌∙◌, ap, subst, Some}
use Rattle.std.specs.Prelude.{slice_get}
use Rattle.std.proofs.lemmas.Option.{same_Some}
use Rattle.fab_graph.proofs.Graphs
use Rattle.fab_graph.proofs.Same
use Rattle.fab_model.specs.Topology.{Topology}
use Rattle.fab_tables.specs.declared.plan.Plan.{Plan}
use Rattle.fab_tables.specs.declared.verdict.VirtualChannel.{VirtualChannel}
use Rattle.fab_tables.specs.declared.verdict.Verdict.{Verdict}
use Rattle.fab_tables.specs.declared.verdict.Verdict.TheVariants.{Routes, Lanes, Unreached, NoLevel, BadLane, NoNumber, NotRising}
use Rattle.fab_tables.specs.Entries.{Entries}
use Rattle.fab_tables.specs.LaneTables.{LaneTables}
use Rattle.fab_tables.specs.Dependencies.{IsUsed, Depends, DependsByNode, node_of}
use Rattle.fab_tables.specs.Verdicts.{IsHop, IsLaneFaultAt, IsFaultAt, IsStructural, IsRefusal}
use Rattle.fab_tables.proofs.Verdicts.OneVerdict.{one_refusal}
use Rattle.fab_certify.specs.declared.certified.Certified.{Certified}
use Rattle.fab_certify.specs.declared.certified.Certified.TheVariants.{Numbers, Refused, RingUsed}
use Rattle.fab_certify.specs.Numbered.{IsNumberedBy, IsNumberedPlan}
use Rattle.fab_certify.specs.Certificate.{IsCertificateBy}
use Rattle.fab_certify.specs.Laws.{OneCertificate}
use Rattle.fab_certify.proofs.Numbered.Numbering.{numbers_aside}
use Rattle.fab_certify.proofs.Plainly.{refusal_is_unsound}
use Rattle.fab_certify.proofs.SameLanes.{same_lanes, same_numbers}
use Rattle.fab_certify.proofs.ReadAlike.{renumbered, used_aside, used_back, same_depends, sound_aside, numbered_is_acyclic, ring_is_cyclic}

module _ (t : Topology) (e : Entries) (l : LaneTables) where
  abbrev IsNumbered : LaneTables → Type 0
  IsNumbered m = IsNumberedBy (IsUsed t e l) (Depends t e l) l m

  -- the numbers are levels, and 0 elsewhere
  module _ (m n : LaneTables) (x : IsNumbered m) (y : IsNumbered n) where
    one_numbering : m ≡ n
    one_numbering = x.same ∙ ap (λ ns. renumbered l ns) numbers ∙ sym y.same
      where
        numbers : m.numbers ≡ n.numbers
        numbers = same_numbers (IsUsed t e l) (Depends t e l) l l m n (ap (λ (k : LaneTables). k.channels) x.same ∙ sym (ap (λ (k : LaneTables). k.channels) y.same)) x y

  abbrev IsPlan : Plan → Type 0
  IsPlan new = IsNumberedPlan (IsUsed t e l) (Depends t e l) e l new

  one_plan : (m n : Plan) → IsPlan m → IsPlan n → m ≡ n
  one_plan m n x y =
      let tables : m.tables ≡ n.tables = x.tables ∙ sym y.tables in
      let lanes : m.lanes ≡ n.lanes = x.has_lanes ∙ ap (λ k. Some k) (one_numbering x.lanes y.lanes x.numbered y.numbered) ∙ sym y.has_lanes in
      ap (λ k. record { tables = k; lanes = m.lanes }) tables ∙ ap (λ k. record { tables = n.tables; lanes = k }) lanes

  -- by the same lanes two certificates are one
  one_by : (a b : Certified) → IsCertificateBy t e l a → IsCertificateBy t e l b → a ≡ b
  one_by (Refused f) (Refused g) x y = ap (λ v. Refused v) (one_refusal t e l f g x y)
  one_by (Refused f) (RingUsed ring) x y = absurd (refusal_is_unsound t e l f x y.0)
  one_by (Refused f) (Numbers new) x y = absurd (refusal_is_unsound t e l f x y.0)
  one_by (RingUsed ring) (Refused f) x y = absurd (refusal_is_unsound t e l f y x.0)
  one_by (RingUsed ring) (RingUsed other) x y = ap (λ r. RingUsed r) (Graphs.one_first_ring (DependsByNode t e l) ring other x.1 y.1)
  one_by (RingUsed ring) (Numbers new) x y = absurd (ring_is_cyclic t e l ring x.1 x.0 (numbered_is_acyclic t e l new y.1))
  one_by (Numbers new) (Refused f) x y = absurd (refusal_is_unsound t e l f y x.0)
  one_by (Numbers new) (RingUsed ring) x y = absurd (ring_is_cyclic t e l ring y.1 y.0 (numbered_is_acyclic t e l new x.1))
  one_by (Numbers new) (Numbers other) x y = ap (λ p. Numbers p) (one_plan new other x.1 y.1)

-- a certificate by lanes is one by the same lanes with other numbers
module _ (t : Topology) (e : Entries) (l : LaneTables) (numbers : List ℕ) where
  refused_aside : (place : List ℕ) (fault : Verdict) → IsStructural fault × IsFaultAt t e (Some l) place fault → IsStructural fault × IsFaultAt t e (Some (renumbered l numbers)) place fault
  refused_aside place Routes f = absurd f.1.2
  refused_aside place Lanes f = absurd f.1.2
  refused_aside place (Unreached a b c) f = f
  refused_aside place (NoNumber a b c) f = absurd f.0
  refused_aside place (NotRising a b c d m n) f = absurd f.0
  refused_aside place (NoLevel a b) f =
      let g : IsLaneFaultAt t e l place (NoLevel a b) = subst (λ k. IsLaneFaultAt t e k place (NoLevel a b)) (sym (same_Some l f.1.0 f.1.1)) f.1.2 in
      (tt, (renumbered l numbers, refl, g))
  refused_aside place (BadLane a b c) f =
      let g : IsLaneFaultAt t e l place (BadLane a b c) = subst (λ k. IsLaneFaultAt t e k place (BadLane a b c)) (sym (same_Some l f.1.0 f.1.1)) f.1.2 in
      (tt, (renumbered l numbers, refl, (g.0, g.1, g.2, g.3, hop a.0 b.0 g.0 g.1 g.2 g.4, g.5, g.6)))
    where
      hop : (lid source port k : ℕ) (v : VirtualChannel) → IsHop t e l lid source port k v → IsHop t e (renumbered l numbers) lid source port k v
      hop lid source port k v h = record {
        terminal = h.terminal;
        path = h.path;
        of_source = h.of_source;
        at_port = h.at_port;
        at_hop = ap (λ vs. slice_get vs k) (numbers_aside t e l numbers h.terminal lid) ∙ h.at_hop;
      }

module _ (t : Topology) (e : Entries) (l : LaneTables) (numbers : List ℕ) where
  refusal_aside : (fault : Verdict) → IsRefusal t e l fault → IsRefusal t e (renumbered l numbers) fault
  refusal_aside fault x = (x.0, refused_aside t e l numbers x.0 fault x.1, λ earlier other before f. x.2 earlier other before (refused_aside t e (renumbered l numbers) l.numbers earlier other f))

  abbrev uses : VirtualChannel → Type 0
  uses = IsUsed t e (renumbered l numbers)

  abbrev depends : VirtualChannel → VirtualChannel → Type 0
  depends = Depends t e (renumbered l numbers)

  numbered_aside : (new : LaneTables) → IsNumberedBy (IsUsed t e l) (Depends t e l) l new → IsNumberedBy uses depends (renumbered l numbers) new
  numbered_aside new x = record {
    whole = x.whole;
    same = x.same;
    level = x.level;
    levels = Same.same_levels (Depends t e l) depends (same_depends t e l numbers) x.level x.levels;
    numbers = λ v u. x.numbers v (used_back t e l numbers v u);
    others = λ v unused. x.others v (λ u. unused (used_aside t e l numbers v u));
  }

  certificate_aside : (answer : Certified) → IsCertificateBy t e l answer → IsCertificateBy t e (renumbered l numbers) answer
  certificate_aside (Refused fault) x = refusal_aside fault x
  certificate_aside (RingUsed ring) x = (
    sound_aside t e l numbers x.0,
    Same.same_first_ring (DependsByNode t e l) (DependsByNode t e (renumbered l numbers)) (Same.same_image (node_of l.count) (Depends t e l) depends (same_depends t e l numbers)) ring x.1,
  )
  certificate_aside (Numbers new) x =
      (sound_aside t e l numbers x.0, record { tables = x.1.tables; lanes = x.1.lanes; has_lanes = x.1.has_lanes; numbered = numbered_aside x.1.lanes x.1.numbered })

pub one_certificate : OneCertificate
one_certificate t p a b fits x y =
    let same : y.0 ≡ renumbered x.0 y.0.numbers = same_lanes t p.lanes x.0 y.0 x.1 y.1 in
    let by : IsCertificateBy t p.tables (renumbered x.0 y.0.numbers) b = subst (λ l. IsCertificateBy t p.tables l b) same y.2 in
    one_by t p.tables x.0 a b x.2 (certificate_aside t p.tables (renumbered x.0 y.0.numbers) x.0.numbers b by)
