-- A ring of the joint dependencies is a deadlock: for each edge a packet or a reply holds the virtual channel that the edge leaves, and waits for the next.
use Rattle.std.proofs.Common.{◌≡◌, ℕ, suc, ◌<◌, ◌⊎◌, inl, inr, List, [], ◌∷◌, length, refl, sym, ◌∙◌, ap, subst, arith, Result, Ok, Err}
use Rattle.std.specs.Prelude.{Contains, IfOk, slice_get}
use Rattle.std.proofs.lemmas.Option.{same_Some, slice_get_within}
use Rattle.fab_graph.specs.Rings.{ReturnsByLeast, IsFirstRing, GoesAround}
use Rattle.fab_graph.proofs.Members.{first, later, first_or_later}
use Rattle.fab_model.specs.Topology.{Topology}
use Rattle.fab_tables.specs.declared.plan.Plan.{Plan}
use Rattle.fab_tables.specs.declared.verdict.VirtualChannel.{VirtualChannel}
use Rattle.fab_tables.specs.Dependencies.{node_of}
use Rattle.fab_tables.specs.Entries.{Entries}
use Rattle.fab_tables.specs.LaneTables.{LaneTables}
use Rattle.fab_tables.proofs.Verdicts.CertifiedLaws.{contains_of}
use Rattle.fab_certify.specs.Numbered.{IsSound}
use Rattle.fab_certify.proofs.Numbered.NumberedPlan.{one_node}
use Rattle.fab_replies.specs.declared.replied.Replied.{Replied}
use Rattle.fab_replies.specs.declared.replied.Replied.TheVariants.{RingReplies}
use Rattle.fab_replies.specs.Replies.{IsUsedJointly, DependsJointlyByNode}
use Rattle.fab_replies.specs.Answers.{HasGoodReplies, IsAnswerTo}
use Rattle.fab_replies.specs.Waiting.{Message, Holds, Awaits, IsWaiting, IsDeadlocked}
use Rattle.fab_replies.specs.Ringed.{WaitsBetween, WaitAround, WaitInRing, IsDeadlockedRing}
use Rattle.fab_replies.specs.Laws.{RingIsDeadlocked}
use Rattle.fab_replies.proofs.SentHops.{lane_sent}

-- a ring goes around
around : (R : ℕ → ℕ → Type 0) (f a : ℕ) (xs : List ℕ) → ReturnsByLeast R f (a ∷ xs) → GoesAround R f (a ∷ xs)
around R f a [] x = subst (λ y. R a y) x.holds.1.2 x.holds.1.1
around R f a (b ∷ xs) x = (x.3.holds.0, around R f b xs x.4)

module _ (t : Topology) (e : Entries) (l : LaneTables) where
  abbrev Edge : ℕ → ℕ → Type 0
  Edge a b = DependsJointlyByNode t e l a b

  abbrev message : (a b : ℕ) → Edge a b → Message
  message a b d = record { hops = d.2.0; first = d.2.2.0; last = d.2.2.0 }

  waits : (a b : ℕ) (d : Edge a b) → WaitsBetween t e l (message a b d) a b
  waits a b d = record {
    waiting = record { sent = d.2.1; ordered = omega arith; next = slice_get_within d.2.0 (suc d.2.2.0) d.1 d.2.2.2 };
    alone = refl;
    held = d.0;
    holds = d.2.2.1;
    is_here = d.3;
    awaited = d.1;
    awaits = d.2.2.2;
    is_next = d.4;
  }

  messages_around : (f a : ℕ) (xs : List ℕ) → GoesAround Edge f (a ∷ xs) → (messages : List Message) × WaitAround t e l f (a ∷ xs) messages
  messages_around f a [] g = (message a f g ∷ [], waits a f g)
  messages_around f a (b ∷ xs) g =
      let rest : (messages : List Message) × WaitAround t e l f (b ∷ xs) messages = messages_around f b xs g.1 in
      (message a b g.0 ∷ rest.0, (waits a b g.0, rest.1))

  -- ---- they wait for each other

  -- one of them holds the virtual channel of the number
  abbrev IsHeldIn : List Message → ℕ → Type 0
  IsHeldIn messages n = (m : Message) × Contains messages m × ((v : VirtualChannel) × Holds m v × IsUsedJointly t e l v × (node_of l.count v ≡ n))

  held_later : (x : Message) (xs : List Message) (n : ℕ) → IsHeldIn xs n → IsHeldIn (x ∷ xs) n
  held_later x xs n h = (h.0, later x xs h.0 h.1, h.2)

  held_by : (x : Message) (xs : List Message) (a b : ℕ) → WaitsBetween t e l x a b → IsHeldIn (x ∷ xs) a
  held_by x xs a b w = (x, first x xs, (w.held, (x.first, omega arith, omega (arith, w.alone), w.holds), (x.hops, w.waiting.sent, contains_of x.hops x.first w.held w.holds), w.is_here))

  first_held : (f a : ℕ) (xs : List ℕ) (messages : List Message) → WaitAround t e l f (a ∷ xs) messages → IsHeldIn messages a
  first_held f a [] [] w = absurd w
  first_held f a [] (m ∷ []) w = held_by m [] a f w
  first_held f a [] (m ∷ n ∷ more) w = absurd w
  first_held f a (b ∷ xs) [] w = absurd w
  first_held f a (b ∷ xs) (m ∷ more) w = held_by m more a b w.0

  all_waiting : (f a : ℕ) (xs : List ℕ) (messages : List Message) → WaitAround t e l f (a ∷ xs) messages → (m : Message) → Contains messages m → IsWaiting t e l m
  all_waiting f a [] [] w m has = absurd w
  all_waiting f a [] (x ∷ []) w m has = elim (first_or_later x [] m has) [
    | inl same ↦ subst (λ y. IsWaiting t e l y) same w.waiting
    | inr none ↦ absurd (omega (arith, none.1))
  ]
  all_waiting f a [] (x ∷ n ∷ more) w m has = absurd w
  all_waiting f a (b ∷ xs) [] w m has = absurd w
  all_waiting f a (b ∷ xs) (x ∷ more) w m has = elim (first_or_later x more m has) [
    | inl same ↦ subst (λ y. IsWaiting t e l y) same w.0.waiting
    | inr other ↦ all_waiting f b xs more w.1 m other
  ]

  -- a message waits for the number that it was given
  awaits_next : (x m : Message) (a b : ℕ) (v : VirtualChannel) → WaitsBetween t e l x a b → x ≡ m → Awaits m v → node_of l.count v ≡ b
  awaits_next x m a b v w same at =
      let is : w.awaited ≡ v = same_Some w.awaited v (sym w.awaits ∙ ap (λ (y : Message). slice_get y.hops (suc y.last)) same ∙ at) in
      ap (λ (u : VirtualChannel). node_of l.count u) (sym is) ∙ w.is_next

  -- what one awaits is the first of the ring, or some other holds it
  first_or_held : (f a : ℕ) (xs : List ℕ) (messages : List Message) → WaitAround t e l f (a ∷ xs) messages → (m : Message) (v : VirtualChannel) → Contains messages m → Awaits m v →
      (node_of l.count v ≡ f) ⊎ IsHeldIn messages (node_of l.count v)
  first_or_held f a [] [] w m v has at = absurd w
  first_or_held f a [] (x ∷ []) w m v has at = elim (first_or_later x [] m has) [
    | inl same ↦ inl (awaits_next x m a f v w same at)
    | inr none ↦ absurd (omega (arith, none.1))
  ]
  first_or_held f a [] (x ∷ n ∷ more) w m v has at = absurd w
  first_or_held f a (b ∷ xs) [] w m v has at = absurd w
  first_or_held f a (b ∷ xs) (x ∷ more) w m v has at = elim (first_or_later x more m has) [
    | inl same ↦ inr (held_later x more (node_of l.count v) (subst (λ n. IsHeldIn more n) (sym (awaits_next x m a b v w.0 same at)) (first_held f b xs more w.1)))
    | inr other ↦ elim (first_or_held f b xs more w.1 m v other at) [ inl is ↦ inl is | inr held ↦ inr (held_later x more (node_of l.count v) held) ]
  ]

  some_message : (f a : ℕ) (xs : List ℕ) (messages : List Message) → WaitAround t e l f (a ∷ xs) messages → 0 < length messages
  some_message f a [] [] w = absurd w
  some_message f a (b ∷ xs) [] w = absurd w
  some_message f a xs (m ∷ more) w = omega arith

  module _ (sound : IsSound t e l) (good : HasGoodReplies t e l) where
    deadlocked : (f : ℕ) (rest : List ℕ) (messages : List Message) → WaitAround t e l f (f ∷ rest) messages → IsDeadlocked t e l messages
    deadlocked f rest messages w = record { some = some_message f f rest messages w; waiting = all_waiting f f rest messages w; held = held }
      where
        to_holder : (m : Message) (v : VirtualChannel) → Contains messages m → Awaits m v → IsHeldIn messages (node_of l.count v) → (n : Message) × Contains messages n × Holds n v
        to_holder m v has at h =
            let used : IsUsedJointly t e l v = (m.hops, (all_waiting f f rest messages w m has).sent, contains_of m.hops (suc m.last) v at) in
            let same : h.2.0 ≡ v = one_node l.count h.2.0 v (lane_sent t e l sound good h.2.0 h.2.2) (lane_sent t e l sound good v used) h.2.3 in
            (h.0, h.1, subst (λ u. Holds h.0 u) same h.2.1)

        held : (m : Message) (v : VirtualChannel) → Contains messages m → Awaits m v → (n : Message) × Contains messages n × Holds n v
        held m v has at = elim (first_or_held f f rest messages w m v has at) [
          | inl is ↦ to_holder m v has at (subst (λ n. IsHeldIn messages n) (sym is) (first_held f f rest messages w))
          | inr h ↦ to_holder m v has at h
        ]

    ring_waits : (ring : List ℕ) → IsFirstRing (DependsJointlyByNode t e l) ring → (messages : List Message) × IsDeadlocked t e l messages × WaitInRing t e l ring messages
    ring_waits [] x = absurd x
    ring_waits (f ∷ rest) x =
        let found : (messages : List Message) × WaitAround t e l f (f ∷ rest) messages = messages_around f f rest (around (DependsJointlyByNode t e l) f f rest x.1) in
        (found.0, deadlocked f rest found.0 found.1, found.1)

pub ring_is_deadlocked : RingIsDeadlocked
ring_is_deadlocked t p ring answer =
    let found = ring_waits t p.tables answer.0 answer.2.0 answer.2.1 ring answer.2.2 in
    (answer.0, answer.1, found.0, found.1, found.2)

-- an answer that is a ring is a deadlock
pub deadlocked_by : (t : Topology) (p : Plan) (x : Replied) → IsAnswerTo t p x → (ring : List ℕ) → x ≡ RingReplies ring → IsDeadlockedRing t p ring
deadlocked_by t p x answer ring is = ring_is_deadlocked t p ring (subst (IsAnswerTo t p) is answer)

-- so is an answer
pub deadlocked_answer : {E : Type 0} (t : Topology) (p : Plan) (r : Result Replied E) → IfOk r (IsAnswerTo t p) → IfOk r (λ answer. (ring : List ℕ) → answer ≡ RingReplies ring → IsDeadlockedRing t p ring)
deadlocked_answer t p (Ok x) answer = deadlocked_by t p x answer
deadlocked_answer t p (Err e) answer = tt
