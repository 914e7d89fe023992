-- A plan has one verdict, and one refusal.
use Rattle.std.proofs.Common.{◌≡◌, ℕ, suc, List, length, refl, sym, ◌∙◌, ap, subst, arith, Some, None, Option, ◌⊎◌, inl, inr}
use Rattle.std.specs.Prelude.{slice_get, slice_index, IsSome}
use Rattle.fab_model.specs.declared.rows.SwitchId.{SwitchId}
use Rattle.fab_model.specs.declared.rows.Lid.{Lid}
use Rattle.fab_model.specs.declared.rows.ChannelRow.{ChannelRow}
use Rattle.fab_model.specs.Topology.{Topology}
use Rattle.fab_tables.specs.declared.end.End.{End}
use Rattle.fab_tables.specs.declared.verdict.VirtualChannel.{VirtualChannel}
use Rattle.fab_tables.specs.declared.verdict.Verdict.{Verdict}
use Rattle.fab_tables.specs.declared.verdict.Verdict.TheVariants.{Routes, Lanes, Unreached, NoLevel, BadLane, NoNumber, NotRising}
use Rattle.fab_tables.specs.Entries.{Entries}
use Rattle.fab_tables.specs.LaneTables.{LaneTables, level}
use Rattle.fab_tables.specs.Route.{route}
use Rattle.fab_tables.specs.VirtualChannels.{at_level}
use Rattle.fab_tables.specs.Certified.{number_of}
use Rattle.fab_tables.specs.First.{IsFirst}
use Rattle.fab_tables.specs.Verdicts.{IsLaneFaultAt, IsFaultAt, IsHop, IsVerdict, IsStructural, Leaves}
use Rattle.fab_tables.specs.Laws.{OneVerdict, OneRefusal}
use Rattle.fab_tables.proofs.Faults.Firsts.{one_first}

unsome : {A : Type 0} (a b : A) → Some a ≡ Some b → a ≡ b
unsome a b e = cc

none_some : {A : Type 0} (o : Option A) → o ≡ None → IsSome o → ⊥
none_some None a b = cc
none_some (Some x) a b = cc

abbrev lid_at : ℕ → Lid
lid_at n = record { 0 = n }

abbrev switch_at : ℕ → SwitchId
switch_at n = record { 0 = n }

-- the numbers of a place
at : (k : ℕ) (p q : List ℕ) → p ≡ q → slice_index p k ≡ slice_index q k
at k p q e = ap (λ xs. slice_index xs k) e

-- the hops at one place are one
one_hop : (t : Topology) (e : Entries) (l : LaneTables) (lid source port hop lid' source' port' hop' : ℕ) (v w : VirtualChannel) → lid ≡ lid' → source ≡ source' → port ≡ port' → hop ≡ hop' →
    IsHop t e l lid source port hop v → IsHop t e l lid' source' port' hop' w → v ≡ w
one_hop t e l lid source port hop lid' source' port' hop' v w a b c d x y = unsome v w (sym x.at_hop ∙ same ∙ y.at_hop)
  where
    hops : ℕ → ℕ → ℕ → List VirtualChannel
    hops p s i = at_level t l p ((route t e s i).channels) (level l s i)

    same : slice_get (at_level t l x.terminal.port ((route t e x.terminal.switch.0 lid).channels) (level l x.terminal.switch.0 lid)) hop
        ≡ slice_get (at_level t l y.terminal.port ((route t e y.terminal.switch.0 lid').channels) (level l y.terminal.switch.0 lid')) hop'
    same = ap (λ k. slice_get (at_level t l x.terminal.port ((route t e x.terminal.switch.0 lid).channels) (level l x.terminal.switch.0 lid)) k) d
        ∙ ap (λ i. slice_get (at_level t l x.terminal.port ((route t e x.terminal.switch.0 i).channels) (level l x.terminal.switch.0 i)) hop') a
        ∙ ap (λ s. slice_get (at_level t l x.terminal.port ((route t e s lid').channels) (level l s lid')) hop') (x.of_source ∙ b ∙ sym y.of_source)
        ∙ ap (λ p. slice_get (at_level t l p ((route t e y.terminal.switch.0 lid').channels) (level l y.terminal.switch.0 lid')) hop') (x.at_port ∙ c ∙ sym y.at_port)

one_lid : (a b : Lid) → a.0 ≡ b.0 → a ≡ b
one_lid a b e = ap lid_at e

one_switch : (a b : SwitchId) → a.0 ≡ b.0 → a ≡ b
one_switch a b e = ap switch_at e

one_tail : (t : Topology) (v w : VirtualChannel) (a b : SwitchId) → v ≡ w → Leaves t v a → Leaves t w b → a ≡ b
one_tail t v w a b e x y = sym x.2 ∙ ap (λ (c : ChannelRow). c.tail) (unsome x.0 y.0 (sym x.1 ∙ ap (λ (u : VirtualChannel). slice_get t.channels u.channel.0) e ∙ y.1)) ∙ y.2

-- two faults of the lanes at one place are one
module _ (t : Topology) (e : Entries) (l : LaneTables) (place : List ℕ) where
  same_lane_fault : (v w : Verdict) → IsLaneFaultAt t e l place v → IsLaneFaultAt t e l place w → v ≡ w
  same_lane_fault Routes w f g = absurd f
  same_lane_fault Lanes w f g = absurd f
  same_lane_fault (Unreached a b c) w f g = absurd f
  same_lane_fault (NoLevel a b) Routes f g = absurd g
  same_lane_fault (NoLevel a b) Lanes f g = absurd g
  same_lane_fault (NoLevel a b) (Unreached a' b' c') f g = absurd g
  same_lane_fault (NoLevel a b) (NoLevel a' b') f g = ap (λ x. NoLevel x b) (one_lid a a' (at 1 _ _ (sym f.0 ∙ g.0))) ∙ ap (λ x. NoLevel a' x) (one_switch b b' (at 2 _ _ (sym f.0 ∙ g.0)))
  same_lane_fault (NoLevel a b) (BadLane a' b' c') f g = absurd (omega (arith, ap (λ (xs : List ℕ). length xs) (sym f.0 ∙ g.3)))
  same_lane_fault (NoLevel a b) (NoNumber a' b' c') f g = absurd (omega (arith, ap (λ (xs : List ℕ). length xs) (sym f.0 ∙ g.2)))
  same_lane_fault (NoLevel a b) (NotRising a' b' c' d' m' n') f g = absurd (omega (arith, ap (λ (xs : List ℕ). length xs) (sym f.0 ∙ g.2)))
  same_lane_fault (BadLane a b c) Routes f g = absurd g
  same_lane_fault (BadLane a b c) Lanes f g = absurd g
  same_lane_fault (BadLane a b c) (Unreached a' b' c') f g = absurd g
  same_lane_fault (BadLane a b c) (NoLevel a' b') f g = absurd (omega (arith, ap (λ (xs : List ℕ). length xs) (sym f.3 ∙ g.0)))
  same_lane_fault (BadLane a b c) (BadLane a' b' c') f g =
      let hop : f.2 ≡ g.2 = one_hop t e l a.0 b.0 f.0 f.1 a'.0 b'.0 g.0 g.1 f.2 g.2 (at 1 _ _ (sym f.3 ∙ g.3)) (at 2 _ _ (sym f.3 ∙ g.3)) (at 3 _ _ (sym f.3 ∙ g.3)) (at 4 _ _ (sym f.3 ∙ g.3)) f.4 g.4 in
      ap (λ x. BadLane x b c) (one_lid a a' (at 1 _ _ (sym f.3 ∙ g.3))) ∙ ap (λ x. BadLane a' x c) (one_switch b b' (at 2 _ _ (sym f.3 ∙ g.3))) ∙ ap (λ x. BadLane a' b' x) (one_tail t f.2 g.2 c c' hop f.5 g.5)
  same_lane_fault (BadLane a b c) (NoNumber a' b' c') f g = absurd (omega (arith, at 5 _ _ (sym f.3 ∙ g.2)))
  same_lane_fault (BadLane a b c) (NotRising a' b' c' d' m' n') f g = absurd (omega (arith, at 5 _ _ (sym f.3 ∙ g.2)))
  same_lane_fault (NoNumber a b c) Routes f g = absurd g
  same_lane_fault (NoNumber a b c) Lanes f g = absurd g
  same_lane_fault (NoNumber a b c) (Unreached a' b' c') f g = absurd g
  same_lane_fault (NoNumber a b c) (NoLevel a' b') f g = absurd (omega (arith, ap (λ (xs : List ℕ). length xs) (sym f.2 ∙ g.0)))
  same_lane_fault (NoNumber a b c) (BadLane a' b' c') f g = absurd (omega (arith, at 5 _ _ (sym f.2 ∙ g.3)))
  same_lane_fault (NoNumber a b c) (NoNumber a' b' c') f g =
      ap (λ x. NoNumber x b c) (one_lid a a' (at 1 _ _ (sym f.2 ∙ g.2))) ∙ ap (λ x. NoNumber a' x c) (one_switch b b' (at 2 _ _ (sym f.2 ∙ g.2)))
      ∙ ap (λ x. NoNumber a' b' x) (one_hop t e l a.0 b.0 f.0 f.1 a'.0 b'.0 g.0 g.1 c c' (at 1 _ _ (sym f.2 ∙ g.2)) (at 2 _ _ (sym f.2 ∙ g.2)) (at 3 _ _ (sym f.2 ∙ g.2)) (at 4 _ _ (sym f.2 ∙ g.2)) f.3 g.3)
  same_lane_fault (NoNumber a b c) (NotRising a' b' c' d' m' n') f g = absurd (omega (arith, at 5 _ _ (sym f.2 ∙ g.2)))
  same_lane_fault (NotRising a b c d m n) Routes f g = absurd g
  same_lane_fault (NotRising a b c d m n) Lanes f g = absurd g
  same_lane_fault (NotRising a b c d m n) (Unreached a' b' c') f g = absurd g
  same_lane_fault (NotRising a b c d m n) (NoLevel a' b') f g = absurd (omega (arith, ap (λ (xs : List ℕ). length xs) (sym f.2 ∙ g.0)))
  same_lane_fault (NotRising a b c d m n) (BadLane a' b' c') f g = absurd (omega (arith, at 5 _ _ (sym f.2 ∙ g.3)))
  same_lane_fault (NotRising a b c d m n) (NoNumber a' b' c') f g = absurd (omega (arith, at 5 _ _ (sym f.2 ∙ g.2)))
  same_lane_fault (NotRising a b c d m n) (NotRising a' b' c' d' m' n') f g =
      let hop : f.1 ≡ g.1 = omega (arith, at 4 _ _ (sym f.2 ∙ g.2)) in
      let first : c ≡ c' = one_hop t e l a.0 b.0 f.0 f.1 a'.0 b'.0 g.0 g.1 c c' (at 1 _ _ (sym f.2 ∙ g.2)) (at 2 _ _ (sym f.2 ∙ g.2)) (at 3 _ _ (sym f.2 ∙ g.2)) hop f.3 g.3 in
      let second : d ≡ d' = one_hop t e l a.0 b.0 f.0 (suc f.1) a'.0 b'.0 g.0 (suc g.1) d d' (at 1 _ _ (sym f.2 ∙ g.2)) (at 2 _ _ (sym f.2 ∙ g.2)) (at 3 _ _ (sym f.2 ∙ g.2)) (at 4 _ _ (sym f.2 ∙ g.2)) f.4 g.4 in
      ap (λ x. NotRising x b c d m n) (one_lid a a' (at 1 _ _ (sym f.2 ∙ g.2))) ∙ ap (λ x. NotRising a' x c d m n) (one_switch b b' (at 2 _ _ (sym f.2 ∙ g.2))) ∙ ap (λ x. NotRising a' b' x d m n) first ∙ ap (λ x. NotRising a' b' c' x m n) second
      ∙ ap (λ x. NotRising a' b' c' d' x n) (f.5 ∙ ap (number_of l) first ∙ sym g.5) ∙ ap (λ x. NotRising a' b' c' d' m' x) (f.6 ∙ ap (number_of l) second ∙ sym g.6)

-- two faults at one place are one
module _ (t : Topology) (e : Entries) (lanes : Option LaneTables) (place : List ℕ) where
  -- a fault of the lanes stands at a place that begins with 1
  begins_with_1 : (l : LaneTables) (v : Verdict) → IsLaneFaultAt t e l place v → slice_index place 0 ≡ 1
  begins_with_1 l Routes f = absurd f
  begins_with_1 l Lanes f = absurd f
  begins_with_1 l (Unreached a b c) f = absurd f
  begins_with_1 l (NoLevel a b) f = ap (λ xs. slice_index xs 0) f.0
  begins_with_1 l (BadLane a b c) f = ap (λ xs. slice_index xs 0) f.3
  begins_with_1 l (NoNumber a b c) f = ap (λ xs. slice_index xs 0) f.2
  begins_with_1 l (NotRising a b c d m n) f = ap (λ xs. slice_index xs 0) f.2

  -- a fault of a route, or of the lanes
  abbrev IsOfRoute : Verdict → Type 0
  IsOfRoute v = (lid : Lid) × (s : SwitchId) × (end : End) × (v ≡ Unreached lid s end) × IsFaultAt t e lanes place (Unreached lid s end)

  abbrev IsOfLanes : Verdict → Type 0
  IsOfLanes v = (l : LaneTables) × (lanes ≡ Some l) × IsLaneFaultAt t e l place v

  parted : (v : Verdict) → IsFaultAt t e lanes place v → IsOfRoute v ⊎ IsOfLanes v
  parted (Unreached a b c) f = inl (a, b, c, refl, f)
  parted Routes f = inr f
  parted Lanes f = inr f
  parted (NoLevel a b) f = inr f
  parted (BadLane a b c) f = inr f
  parted (NoNumber a b c) f = inr f
  parted (NotRising a b c d m n) f = inr f

  same_route_fault : (a a' : Lid) (b b' : SwitchId) (c c' : End) → IsFaultAt t e lanes place (Unreached a b c) → IsFaultAt t e lanes place (Unreached a' b' c') → Unreached a b c ≡ Unreached a' b' c'
  same_route_fault a a' b b' c c' f g =
      let lid : a ≡ a' = one_lid a a' (at 1 _ _ (sym f.0 ∙ g.0)) in
      let switch : b ≡ b' = one_switch b b' (at 2 _ _ (sym f.0 ∙ g.0)) in
      let end : c ≡ c' = sym f.2 ∙ ap (λ (i : Lid). (route t e b.0 i.0).end) lid ∙ ap (λ (s : SwitchId). (route t e s.0 a'.0).end) switch ∙ g.2 in
      ap (λ x. Unreached x b c) lid ∙ ap (λ x. Unreached a' x c) switch ∙ ap (λ x. Unreached a' b' x) end

  apart : (v w : Verdict) → IsOfRoute v → IsOfLanes w → ⊥
  apart v w x y = omega (arith, at 0 _ _ x.4.0, begins_with_1 y.0 w y.2)

  pub same_fault : (v w : Verdict) → IsFaultAt t e lanes place v → IsFaultAt t e lanes place w → v ≡ w
  same_fault v w f g = join (parted v f) (parted w g)
    where
      join : IsOfRoute v ⊎ IsOfLanes v → IsOfRoute w ⊎ IsOfLanes w → v ≡ w
      join (inl x) (inl y) = x.3 ∙ same_route_fault x.0 y.0 x.1 y.1 x.2 y.2 x.4 y.4 ∙ sym y.3
      join (inl x) (inr y) = absurd (apart v w x y)
      join (inr x) (inl y) = absurd (apart w v y x)
      join (inr x) (inr y) = same_lane_fault t e x.0 place v w x.2 (subst (λ l. IsLaneFaultAt t e l place w) (unsome y.0 x.0 (sym y.1 ∙ x.1)) y.2)

-- so a plan has one refusal
pub one_refusal : OneRefusal
one_refusal t e l v w x y = one_first (λ place f. IsStructural f × IsFaultAt t e (Some l) place f) (λ place f g a b. same_fault t e (Some l) place f g a.1 b.1) v w x y

-- what kind of verdict it is
abbrev NoFault : Topology → Entries → Option LaneTables → Type 0
NoFault t e lanes = (place : List ℕ) (fault : Verdict) → ¬ IsFaultAt t e lanes place fault

abbrev Kinds : Topology → Entries → Option LaneTables → Verdict → Type 0
Kinds t e lanes v = ((v ≡ Routes) × (lanes ≡ None) × NoFault t e lanes) ⊎ (((v ≡ Lanes) × IsSome lanes × NoFault t e lanes) ⊎ IsFirst (IsFaultAt t e lanes) v)

kind : (t : Topology) (e : Entries) (lanes : Option LaneTables) (v : Verdict) → IsVerdict t e lanes v → Kinds t e lanes v
kind t e lanes Routes x = inl (refl, x.0, x.1)
kind t e lanes Lanes x = inr (inl (refl, x.0, x.1))
kind t e lanes (Unreached a b c) x = inr (inr x)
kind t e lanes (NoLevel a b) x = inr (inr x)
kind t e lanes (BadLane a b c) x = inr (inr x)
kind t e lanes (NoNumber a b c) x = inr (inr x)
kind t e lanes (NotRising a b c d m n) x = inr (inr x)

join : (t : Topology) (e : Entries) (lanes : Option LaneTables) (v w : Verdict) → Kinds t e lanes v → Kinds t e lanes w → v ≡ w
join t e lanes v w (inl a) (inl b) = a.0 ∙ sym b.0
join t e lanes v w (inl a) (inr (inl b)) = absurd (none_some lanes a.1 b.1)
join t e lanes v w (inl a) (inr (inr b)) = absurd (a.2 b.0 w b.1)
join t e lanes v w (inr (inl a)) (inl b) = absurd (none_some lanes b.1 a.1)
join t e lanes v w (inr (inl a)) (inr (inl b)) = a.0 ∙ sym b.0
join t e lanes v w (inr (inl a)) (inr (inr b)) = absurd (a.2 b.0 w b.1)
join t e lanes v w (inr (inr a)) (inl b) = absurd (b.2 a.0 v a.1)
join t e lanes v w (inr (inr a)) (inr (inl b)) = absurd (b.2 a.0 v a.1)
join t e lanes v w (inr (inr a)) (inr (inr b)) = one_first (IsFaultAt t e lanes) (same_fault t e lanes) v w a b

pub one_verdict : OneVerdict
one_verdict t e lanes v w x y = join t e lanes v w (kind t e lanes v x) (kind t e lanes w y)
