-- Without pairs, the verdict and the refusal say the same of terminals and of sources. A fault of a terminal is one of its source.
-- A fault of a source is one of each of its terminals, and stands first at the terminal of the least port.
use Rattle.std.proofs.Common.{◌≡◌, ℕ, zero, suc, ◌<◌, ◌≤◌, List, [], ◌∷◌, refl, sym, ◌∙◌, ap, subst, arith, Some, ◌⊎◌, inl, inr}
use Rattle.std.proofs.lemmas.Bool.{cases_order}
use Rattle.std.specs.Prelude.{Contains, slice_get}
use Rattle.fab_model.specs.declared.rows.TerminalRow.{TerminalRow}
use Rattle.fab_model.specs.Topology.{Topology}
use Rattle.fab_model.specs.Connected.{IsConnectedTo}
use Rattle.fab_tables.specs.declared.verdict.VirtualChannel.{VirtualChannel}
use Rattle.fab_tables.specs.declared.verdict.Verdict.{Verdict}
use Rattle.fab_tables.specs.declared.verdict.Verdict.TheVariants.{Routes, Lanes, Unreached, NoLevel, BadLane, NoNumber, NotRising}
use Rattle.fab_tables.specs.Entries.{Entries}
use Rattle.fab_tables.specs.LaneTables.{LaneTables}
use Rattle.fab_tables.specs.Fit.{IsSource}
use Rattle.fab_tables.specs.First.{IsBefore, IsFirst}
use Rattle.fab_tables.specs.Verdicts.{IsHop, IsLaneFaultAt, IsFaultAt, IsStructural, IsVerdict}
use Rattle.fab_tables.specs.Plain.{plain_channels}
use Rattle.fab_tables.specs.PlainVerdicts.{IsPlainHop, IsPlainLaneFaultAt, IsPlainFaultAt, IsPlainVerdict}
use Rattle.fab_tables.specs.Laws.{PlainVerdictAgrees}
use Rattle.fab_tables.proofs.Verdicts.PlainLaws.{same_channels, source_of, terminal_of}
use Rattle.fab_tables.proofs.Verdicts.CertifiedLaws.{unsome}

-- what is earlier there is earlier here
abbrev IsEarlierToo : (List ℕ → Verdict → Type 0) → (List ℕ → Verdict → Type 0) → List ℕ → List ℕ → Type 0
IsEarlierToo P Q p q = (r : List ℕ) (w : Verdict) → IsBefore r q → Q r w → (s : List ℕ) × IsBefore s p × P s w

-- and each fault here is one there
abbrev Keeps : (List ℕ → Verdict → Type 0) → (List ℕ → Verdict → Type 0) → Type 0
Keeps P Q = (p : List ℕ) (v : Verdict) → P p v → (q : List ℕ) × Q q v × IsEarlierToo P Q p q

module _ (P Q : List ℕ → Verdict → Type 0) (keeps : Keeps P Q) where
  first_kept : (v : Verdict) → IsFirst P v → IsFirst Q v
  first_kept v x =
      let k : (q : List ℕ) × Q q v × IsEarlierToo P Q x.0 q = keeps x.0 v x.1 in
      (k.0, k.1, λ r w before y. let z : (s : List ℕ) × IsBefore s x.0 × P s w = k.2 r w before y in x.2 z.0 w z.1 z.2)

  none_kept : ((q : List ℕ) (v : Verdict) → ¬ Q q v) → (p : List ℕ) (v : Verdict) → ¬ P p v
  none_kept none p v x = let k : (q : List ℕ) × Q q v × IsEarlierToo P Q p q = keeps p v x in none k.0 v k.1

  structural_kept : Keeps (λ p v. IsStructural v × P p v) (λ q v. IsStructural v × Q q v)
  structural_kept p v x =
      let k : (q : List ℕ) × Q q v × IsEarlierToo P Q p q = keeps p v x.1 in
      (k.0, (x.0, k.1), λ r w before y. let z : (s : List ℕ) × IsBefore s p × P s w = k.2 r w before y.1 in (z.0, z.1, (y.0, z.2)))

-- a place's numbers after the source, with a terminal's port before them where there are any
abbrev with_port : ℕ → List ℕ → List ℕ
with_port port [] = []
with_port port (n ∷ ns) = port ∷ n ∷ ns

-- a terminal of the switch is at the port
abbrev HasPort : List TerminalRow → ℕ → ℕ → Type 0
HasPort ps s port = (p : TerminalRow) × Contains ps p × (p.switch.0 ≡ s) × (p.port ≡ port)

-- the port is one of the switch's, if the place names one
abbrev NamesPort : List TerminalRow → ℕ → List ℕ → ℕ → Type 0
NamesPort ps s [] port = Unit {0}
NamesPort ps s (n ∷ ns) port = HasPort ps s port

-- where the fronts are equal, the order is that of what comes after
beneath : (a b c a' b' c' : ℕ) (xs xs' ys ys' : List ℕ) → (a ≡ a' → b ≡ b' → c ≡ c' → IsBefore xs xs' → IsBefore ys ys') →
    IsBefore (a ∷ b ∷ c ∷ xs) (a' ∷ b' ∷ c' ∷ xs') → IsBefore (a ∷ b ∷ c ∷ ys) (a' ∷ b' ∷ c' ∷ ys')
beneath a b c a' b' c' xs xs' ys ys' f (inl x) = inl x
beneath a b c a' b' c' xs xs' ys ys' f (inr (x, inl y)) = inr (x, inl y)
beneath a b c a' b' c' xs xs' ys ys' f (inr (x, inr (y, inl z))) = inr (x, inr (y, inl z))
beneath a b c a' b' c' xs xs' ys ys' f (inr (x, inr (y, inr (z, h)))) = inr (x, inr (y, inr (z, f x y z h)))

-- the least port of a switch's terminals, if the place names one
abbrev IsLeastPort : List TerminalRow → ℕ → List ℕ → ℕ → Type 0
IsLeastPort ps s xs port = NamesPort ps s xs port × ((other : ℕ) → NamesPort ps s xs other → port ≤ other)

-- a least port before the numbers keeps the order, and gives it back
ported : (ps : List TerminalRow) (s s' : ℕ) (xs ys : List ℕ) (port other : ℕ) → s ≡ s' → IsLeastPort ps s xs port → NamesPort ps s' ys other →
    IsBefore xs ys → IsBefore (with_port port xs) (with_port other ys)
ported ps s s' [] [] port other e least names b = b
ported ps s s' [] (n ∷ ns) port other e least names b = tt
ported ps s s' (m ∷ ms) [] port other e least names b = b
ported ps s s' (m ∷ ms) (n ∷ ns) port other e least names b =
    elim (cases_order port other) [ inl x ↦ inr (x, b) | inr (inl x) ↦ inl x | inr (inr x) ↦ absurd (omega (arith, x, least.1 other (subst (λ z. HasPort ps z other) (sym e) names))) ]

unported : (ps : List TerminalRow) (s s' : ℕ) (xs ys : List ℕ) (port other : ℕ) → s ≡ s' → NamesPort ps s xs port → IsLeastPort ps s' ys other →
    IsBefore (with_port port xs) (with_port other ys) → IsBefore xs ys
unported ps s s' [] [] port other e names least b = b
unported ps s s' [] (n ∷ ns) port other e names least b = tt
unported ps s s' (m ∷ ms) [] port other e names least b = b
unported ps s s' (m ∷ ms) (n ∷ ns) port other e names least (inl x) = absurd (omega (arith, x, least.1 port (subst (λ z. HasPort ps z port) e names)))
unported ps s s' (m ∷ ms) (n ∷ ns) port other e names least (inr x) = x.1

-- the first of the terminals, or a later one
first_or_later : (q : TerminalRow) (ps : List TerminalRow) (s port : ℕ) → HasPort (q ∷ ps) s port → ((q.switch.0 ≡ s) × (q.port ≡ port)) ⊎ HasPort ps s port
first_or_later q ps s port (p, (zero, h, is), at, by) = inl (ap (λ (r : TerminalRow). r.switch.0) is ∙ at, ap (λ (r : TerminalRow). r.port) is ∙ by)
first_or_later q ps s port (p, (suc k, h, is), at, by) = inr (p, (k, omega (arith, h), is), at, by)

later : (q : TerminalRow) (ps : List TerminalRow) (s port : ℕ) → HasPort ps s port → HasPort (q ∷ ps) s port
later q ps s port x = (x.0, (suc x.1.0, omega (arith, x.1.1), x.1.2), x.2, x.3)

abbrev LeastPort : List TerminalRow → ℕ → Type 0
LeastPort ps s = (port : ℕ) × HasPort ps s port × ((other : ℕ) → HasPort ps s other → port ≤ other)

abbrev LeastOrNone : List TerminalRow → ℕ → Type 0
LeastOrNone ps s = ((port : ℕ) → ¬ HasPort ps s port) ⊎ LeastPort ps s

least_or_none : (ps : List TerminalRow) (s : ℕ) → LeastOrNone ps s
least_or_none [] s = inl (λ port x. absurd (omega (arith, x.1.1)))
least_or_none (q ∷ ps) s = elim (cases_order q.switch.0 s) [ inl at ↦ inr (here at (least_or_none ps s)) | inr ne ↦ there (λ at. elim ne [ inl x ↦ omega (arith, x, at) | inr x ↦ omega (arith, x, at) ]) (least_or_none ps s) ]
  where
    lesser : q.switch.0 ≡ s → (least : LeastPort ps s) → (q.port ≡ least.0) ⊎ ((q.port < least.0) ⊎ (least.0 < q.port)) → LeastPort (q ∷ ps) s
    lesser at (port, x, least) (inr (inl h)) =
        (q.port, (q, (0, omega arith, refl), at, refl), λ other y. elim (first_or_later q ps s other y) [ inl z ↦ omega (arith, z.1) | inr z ↦ omega (arith, h, least other z) ])
    lesser at (port, x, least) (inl h) =
        (port, later q ps s port x, λ other y. elim (first_or_later q ps s other y) [ inl z ↦ omega (arith, z.1, h) | inr z ↦ least other z ])
    lesser at (port, x, least) (inr (inr h)) =
        (port, later q ps s port x, λ other y. elim (first_or_later q ps s other y) [ inl z ↦ omega (arith, z.1, h) | inr z ↦ least other z ])

    here : q.switch.0 ≡ s → LeastOrNone ps s → LeastPort (q ∷ ps) s
    here at (inl f) = (q.port, (q, (0, omega arith, refl), at, refl), λ other y. elim (first_or_later q ps s other y) [ inl z ↦ omega (arith, z.1) | inr z ↦ absurd (f other z) ])
    here at (inr least) = lesser at least (cases_order q.port least.0)

    there : ¬ (q.switch.0 ≡ s) → LeastOrNone ps s → LeastOrNone (q ∷ ps) s
    there ne (inl f) = inl (λ port y. elim (first_or_later q ps s port y) [ inl z ↦ ne z.0 | inr z ↦ f port z ])
    there ne (inr least) = inr (least.0, later q ps s least.0 least.1, λ other y. elim (first_or_later q ps s other y) [ inl z ↦ absurd (ne z.0) | inr z ↦ least.2 other z ])

abbrev NamesLeast : List TerminalRow → ℕ → List ℕ → Type 0
NamesLeast ps s xs = (port : ℕ) × IsLeastPort ps s xs port

least_port : (ps : List TerminalRow) (s n port : ℕ) (ns : List ℕ) → HasPort ps s port → NamesLeast ps s (n ∷ ns)
least_port ps s n port ns x = elim (least_or_none ps s) [ inl f ↦ absurd (f port x) | inr z ↦ (z.0, (z.1, z.2)) ]

-- a terminal's fault, as one of its source
record IsPorted (t : Topology) (e : Entries) (l : LaneTables) (p : List ℕ) (v : Verdict) : Type 0 where
  a : ℕ
  b : ℕ
  c : ℕ
  rest : List ℕ
  port : ℕ
  place : p ≡ a ∷ b ∷ c ∷ with_port port rest
  names : NamesPort t.terminals c rest port
  plain : IsPlainFaultAt t e (Some l) (a ∷ b ∷ c ∷ rest) v

-- a source's fault, as one of each of its terminals
record IsPortless (t : Topology) (e : Entries) (l : LaneTables) (q : List ℕ) (v : Verdict) : Type 0 where
  a : ℕ
  b : ℕ
  c : ℕ
  rest : List ℕ
  place : q ≡ a ∷ b ∷ c ∷ rest
  least : NamesLeast t.terminals c rest
  fault : (port : ℕ) → NamesPort t.terminals c rest port → IsFaultAt t e (Some l) (a ∷ b ∷ c ∷ with_port port rest) v

module _ (t : Topology) (e : Entries) (l : LaneTables) (none : l.pairs ≡ []) where
  plain_hop : (lid source port hop : ℕ) (v : VirtualChannel) → IsHop t e l lid source port hop v → IsPlainHop t e l lid source hop v
  plain_hop lid source port hop v x = record {
    of_source = subst (IsSource t) x.of_source (source_of t.terminals x.terminal x.path.terminal.0 x.path.terminal.1 x.path.terminal.2);
    connected = subst (λ s. IsConnectedTo t s lid) x.of_source x.path.connected;
    at_hop = subst (λ s. slice_get (plain_channels t e l s lid) hop ≡ Some v) x.of_source
        (subst (λ vs. slice_get vs hop ≡ Some v) (same_channels t e l none x.terminal lid) x.at_hop);
  }

  port_of : (lid source port hop : ℕ) (v : VirtualChannel) → IsHop t e l lid source port hop v → HasPort t.terminals source port
  port_of lid source port hop v x = (x.terminal, x.path.terminal, x.of_source, x.at_port)

  hop_of : (lid source port hop : ℕ) (v : VirtualChannel) → IsPlainHop t e l lid source hop v → HasPort t.terminals source port → IsHop t e l lid source port hop v
  hop_of lid source port hop v x q = record {
    terminal = q.0;
    path = record { terminal = q.1; connected = subst (λ s. IsConnectedTo t s lid) (sym q.2) x.connected };
    of_source = q.2;
    at_port = q.3;
    at_hop = subst (λ vs. slice_get vs hop ≡ Some v) (sym (same_channels t e l none q.0 lid))
        (subst (λ s. slice_get (plain_channels t e l s lid) hop ≡ Some v) (sym q.2) x.at_hop);
  }

  least_of : (lid source hop n : ℕ) (ns : List ℕ) (v : VirtualChannel) → IsPlainHop t e l lid source hop v → NamesLeast t.terminals source (n ∷ ns)
  least_of lid source hop n ns v x =
      let q : (p : TerminalRow) × Contains t.terminals p × (p.switch.0 ≡ source) = terminal_of t.terminals source x.of_source in
      least_port t.terminals source n q.0.port ns (q.0, q.1, q.2, refl)

  is_ported_lane : (p : List ℕ) (v : Verdict) → IsLaneFaultAt t e l p v → IsPorted t e l p v
  is_ported_lane p Routes f = absurd f
  is_ported_lane p Lanes f = absurd f
  is_ported_lane p (Unreached lid s end) f = absurd f
  is_ported_lane p (NoLevel lid source) f =
      record { a = 1; b = lid.0; c = source.0; rest = []; port = 0; place = f.0; names = tt; plain = (l, refl, (refl, f.1, f.2, f.3)) }
  is_ported_lane p (BadLane lid source at) (port, hop, v, place, x, y, z) = record {
    a = 1;
    b = lid.0;
    c = source.0;
    rest = hop ∷ 0 ∷ [];
    port = port;
    place = place;
    names = port_of lid.0 source.0 port hop v x;
    plain = (l, refl, (hop, v, refl, plain_hop lid.0 source.0 port hop v x, y, z));
  }
  is_ported_lane p (NoNumber lid source v) (port, hop, place, x, y) = record {
    a = 1;
    b = lid.0;
    c = source.0;
    rest = hop ∷ 1 ∷ [];
    port = port;
    place = place;
    names = port_of lid.0 source.0 port hop v x;
    plain = (l, refl, (hop, refl, plain_hop lid.0 source.0 port hop v x, y));
  }
  is_ported_lane p (NotRising lid source v w m n) (port, hop, place, x, y, i, j, k) = record {
    a = 1;
    b = lid.0;
    c = source.0;
    rest = suc hop ∷ 2 ∷ [];
    port = port;
    place = place;
    names = port_of lid.0 source.0 port hop v x;
    plain = (l, refl, (hop, refl, plain_hop lid.0 source.0 port hop v x, plain_hop lid.0 source.0 port (suc hop) w y, i, j, k));
  }

  is_ported : (p : List ℕ) (v : Verdict) → IsFaultAt t e (Some l) p v → IsPorted t e l p v
  is_ported p Routes f = absurd f.2
  is_ported p Lanes f = absurd f.2
  is_ported p (Unreached lid s end) f =
      record { a = 0; b = lid.0; c = s.0; rest = []; port = 0; place = f.0; names = tt; plain = (refl, f.1, f.2, f.3) }
  is_ported p (NoLevel lid source) f = is_ported_lane p (NoLevel lid source) (subst (λ m. IsLaneFaultAt t e m p (NoLevel lid source)) (sym (unsome l f.0 f.1)) f.2)
  is_ported p (BadLane lid source at) f = is_ported_lane p (BadLane lid source at) (subst (λ m. IsLaneFaultAt t e m p (BadLane lid source at)) (sym (unsome l f.0 f.1)) f.2)
  is_ported p (NoNumber lid source at) f = is_ported_lane p (NoNumber lid source at) (subst (λ m. IsLaneFaultAt t e m p (NoNumber lid source at)) (sym (unsome l f.0 f.1)) f.2)
  is_ported p (NotRising lid source v w m n) f =
      is_ported_lane p (NotRising lid source v w m n) (subst (λ k. IsLaneFaultAt t e k p (NotRising lid source v w m n)) (sym (unsome l f.0 f.1)) f.2)

  is_portless_lane : (q : List ℕ) (v : Verdict) → IsPlainLaneFaultAt t e l q v → IsPortless t e l q v
  is_portless_lane q Routes f = absurd f
  is_portless_lane q Lanes f = absurd f
  is_portless_lane q (Unreached lid s end) f = absurd f
  is_portless_lane q (NoLevel lid source) f = record {
    a = 1;
    b = lid.0;
    c = source.0;
    rest = [];
    place = f.0;
    least = (0, (tt, λ other x. omega arith));
    fault = λ port x. (l, refl, (refl, f.1, f.2, f.3));
  }
  is_portless_lane q (BadLane lid source at) (hop, v, place, x, y, z) = record {
    a = 1;
    b = lid.0;
    c = source.0;
    rest = hop ∷ 0 ∷ [];
    place = place;
    least = least_of lid.0 source.0 hop hop (0 ∷ []) v x;
    fault = λ port names. (l, refl, (port, hop, v, refl, hop_of lid.0 source.0 port hop v x names, y, z));
  }
  is_portless_lane q (NoNumber lid source v) (hop, place, x, y) = record {
    a = 1;
    b = lid.0;
    c = source.0;
    rest = hop ∷ 1 ∷ [];
    place = place;
    least = least_of lid.0 source.0 hop hop (1 ∷ []) v x;
    fault = λ port names. (l, refl, (port, hop, refl, hop_of lid.0 source.0 port hop v x names, y));
  }
  is_portless_lane q (NotRising lid source v w m n) (hop, place, x, y, i, j, k) = record {
    a = 1;
    b = lid.0;
    c = source.0;
    rest = suc hop ∷ 2 ∷ [];
    place = place;
    least = least_of lid.0 source.0 hop (suc hop) (2 ∷ []) v x;
    fault = λ port names. (l, refl, (port, hop, refl, hop_of lid.0 source.0 port hop v x names, hop_of lid.0 source.0 port (suc hop) w y names, i, j, k));
  }

  is_portless : (q : List ℕ) (v : Verdict) → IsPlainFaultAt t e (Some l) q v → IsPortless t e l q v
  is_portless q Routes f = absurd f.2
  is_portless q Lanes f = absurd f.2
  is_portless q (Unreached lid s end) f = record {
    a = 0;
    b = lid.0;
    c = s.0;
    rest = [];
    place = f.0;
    least = (0, (tt, λ other x. omega arith));
    fault = λ port x. (refl, f.1, f.2, f.3);
  }
  is_portless q (NoLevel lid source) f = is_portless_lane q (NoLevel lid source) (subst (λ m. IsPlainLaneFaultAt t e m q (NoLevel lid source)) (sym (unsome l f.0 f.1)) f.2)
  is_portless q (BadLane lid source at) f = is_portless_lane q (BadLane lid source at) (subst (λ m. IsPlainLaneFaultAt t e m q (BadLane lid source at)) (sym (unsome l f.0 f.1)) f.2)
  is_portless q (NoNumber lid source at) f = is_portless_lane q (NoNumber lid source at) (subst (λ m. IsPlainLaneFaultAt t e m q (NoNumber lid source at)) (sym (unsome l f.0 f.1)) f.2)
  is_portless q (NotRising lid source v w m n) f =
      is_portless_lane q (NotRising lid source v w m n) (subst (λ k. IsPlainLaneFaultAt t e k q (NotRising lid source v w m n)) (sym (unsome l f.0 f.1)) f.2)

  to_plain : Keeps (IsFaultAt t e (Some l)) (IsPlainFaultAt t e (Some l))
  to_plain p v f = let x : IsPorted t e l p v = is_ported p v f in (x.a ∷ x.b ∷ x.c ∷ x.rest, x.plain, λ r w before g. earlier x r w before (is_portless r w g))
    where
      earlier : (x : IsPorted t e l p v) (r : List ℕ) (w : Verdict) → IsBefore r (x.a ∷ x.b ∷ x.c ∷ x.rest) → IsPortless t e l r w → (s : List ℕ) × IsBefore s p × IsFaultAt t e (Some l) s w
      earlier x r w before y = (
        y.a ∷ y.b ∷ y.c ∷ with_port y.least.0 y.rest,
        subst (IsBefore (y.a ∷ y.b ∷ y.c ∷ with_port y.least.0 y.rest)) (sym x.place)
            (beneath y.a y.b y.c x.a x.b x.c y.rest x.rest (with_port y.least.0 y.rest) (with_port x.port x.rest)
            (λ i j k b. ported t.terminals y.c x.c y.rest x.rest y.least.0 x.port k y.least.1 x.names b)
            (subst (λ z. IsBefore z (x.a ∷ x.b ∷ x.c ∷ x.rest)) y.place before)),
        y.fault y.least.0 y.least.1.0,
      )

  from_plain : Keeps (IsPlainFaultAt t e (Some l)) (IsFaultAt t e (Some l))
  from_plain q v f =
      let x : IsPortless t e l q v = is_portless q v f in
      (x.a ∷ x.b ∷ x.c ∷ with_port x.least.0 x.rest, x.fault x.least.0 x.least.1.0, λ r w before g. earlier x r w before (is_ported r w g))
    where
      earlier : (x : IsPortless t e l q v) (r : List ℕ) (w : Verdict) → IsBefore r (x.a ∷ x.b ∷ x.c ∷ with_port x.least.0 x.rest) → IsPorted t e l r w →
          (s : List ℕ) × IsBefore s q × IsPlainFaultAt t e (Some l) s w
      earlier x r w before y = (
        y.a ∷ y.b ∷ y.c ∷ y.rest,
        subst (IsBefore (y.a ∷ y.b ∷ y.c ∷ y.rest)) (sym x.place)
            (beneath y.a y.b y.c x.a x.b x.c (with_port y.port y.rest) (with_port x.least.0 x.rest) y.rest x.rest
            (λ i j k b. unported t.terminals y.c x.c y.rest x.rest y.port x.least.0 k y.names x.least.1 b)
            (subst (λ z. IsBefore z (x.a ∷ x.b ∷ x.c ∷ with_port x.least.0 x.rest)) y.place before)),
        y.plain,
      )

  plain_verdict : (v : Verdict) → IsVerdict t e (Some l) v → IsPlainVerdict t e (Some l) v
  plain_verdict Routes x = (x.0, none_kept (IsPlainFaultAt t e (Some l)) (IsFaultAt t e (Some l)) from_plain x.1)
  plain_verdict Lanes x = (x.0, none_kept (IsPlainFaultAt t e (Some l)) (IsFaultAt t e (Some l)) from_plain x.1)
  plain_verdict (Unreached a b c) x = first_kept (IsFaultAt t e (Some l)) (IsPlainFaultAt t e (Some l)) to_plain (Unreached a b c) x
  plain_verdict (NoLevel a b) x = first_kept (IsFaultAt t e (Some l)) (IsPlainFaultAt t e (Some l)) to_plain (NoLevel a b) x
  plain_verdict (BadLane a b c) x = first_kept (IsFaultAt t e (Some l)) (IsPlainFaultAt t e (Some l)) to_plain (BadLane a b c) x
  plain_verdict (NoNumber a b c) x = first_kept (IsFaultAt t e (Some l)) (IsPlainFaultAt t e (Some l)) to_plain (NoNumber a b c) x
  plain_verdict (NotRising a b c d m n) x = first_kept (IsFaultAt t e (Some l)) (IsPlainFaultAt t e (Some l)) to_plain (NotRising a b c d m n) x

  verdict_of_plain : (v : Verdict) → IsPlainVerdict t e (Some l) v → IsVerdict t e (Some l) v
  verdict_of_plain Routes x = (x.0, none_kept (IsFaultAt t e (Some l)) (IsPlainFaultAt t e (Some l)) to_plain x.1)
  verdict_of_plain Lanes x = (x.0, none_kept (IsFaultAt t e (Some l)) (IsPlainFaultAt t e (Some l)) to_plain x.1)
  verdict_of_plain (Unreached a b c) x = first_kept (IsPlainFaultAt t e (Some l)) (IsFaultAt t e (Some l)) from_plain (Unreached a b c) x
  verdict_of_plain (NoLevel a b) x = first_kept (IsPlainFaultAt t e (Some l)) (IsFaultAt t e (Some l)) from_plain (NoLevel a b) x
  verdict_of_plain (BadLane a b c) x = first_kept (IsPlainFaultAt t e (Some l)) (IsFaultAt t e (Some l)) from_plain (BadLane a b c) x
  verdict_of_plain (NoNumber a b c) x = first_kept (IsPlainFaultAt t e (Some l)) (IsFaultAt t e (Some l)) from_plain (NoNumber a b c) x
  verdict_of_plain (NotRising a b c d m n) x = first_kept (IsPlainFaultAt t e (Some l)) (IsFaultAt t e (Some l)) from_plain (NotRising a b c d m n) x

pub plain_verdict_agrees : PlainVerdictAgrees
plain_verdict_agrees t e l v none = (
  (plain_verdict t e l none v, verdict_of_plain t e l none v),
  (
    first_kept _ _ (structural_kept (IsFaultAt t e (Some l)) (IsPlainFaultAt t e (Some l)) (to_plain t e l none)) v,
    first_kept _ _ (structural_kept (IsPlainFaultAt t e (Some l)) (IsFaultAt t e (Some l)) (from_plain t e l none)) v,
  ),
)
