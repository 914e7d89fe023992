-- What a packet may do is looked at part by part.
use Rattle.std.proofs.Common.{◌≡◌, ℕ, refl, sym, ◌∙◌, ap, subst, inl, inr, ◌⊎◌, arith, Contains, Some, Option}
use Rattle.std.specs.Prelude.{IfSome}
use Rattle.fab_tables.specs.declared.verdict.VirtualChannel.{VirtualChannel}
use Rattle.fab_tables.specs.Dependencies.{node_of}
use Rattle.fab_certify.specs.Collected.{Collected, IsMarked, AddsHop}
use Rattle.fab_transit.specs.declared.faults.Fault.{Fault}
use Rattle.fab_transit.specs.declared.found.Taken.{Taken}
use Rattle.fab_transit.specs.declared.walks.Walks.{Walks}
use Rattle.fab_transit.specs.MixedWalks.{Change, bound}
use Rattle.fab_transit.specs.Faults.{IsNoted, Notes}
use Rattle.fab_transit.specs.Changing.{Changing}
use Rattle.fab_transit.specs.Finding.{Findings, FindsMore, FindsOneMore}
use Rattle.fab_transit.specs.Walking.{HaveRoom, Keeps, Advances, LooksAt}
use Rattle.fab_certify.proofs.Collected.CollectingHops.{grows_none, grows_on}

pub finds_none : (f : Findings) → FindsMore f f
finds_none f = record { channels = refl; bound = refl; longer = omega arith; kept = λ k low. refl; has = λ x h. h }

pub finds_on : (a b c : Findings) → FindsMore a b → FindsMore b c → FindsMore a c
finds_on a b c x y = record {
  channels = y.channels ∙ x.channels;
  bound = y.bound ∙ x.bound;
  longer = omega (arith, x.longer, y.longer);
  kept = λ k low. y.kept k (omega (arith, low, x.longer)) ∙ x.kept k low;
  has = λ z h. y.has z (x.has z h);
}

pub keeps_none : (w : Walks) → Keeps w w
keeps_none w = record { grows = grows_none w.dependencies; noted = λ x h. h }

pub keeps_on : (a b c : Walks) → Keeps a b → Keeps b c → Keeps a c
keeps_on a b c x y = record { grows = grows_on a.dependencies b.dependencies c.dependencies x.grows y.grows; noted = λ z h. y.noted z (x.noted z h) }

pub advances_none : (f : Findings) (w : Walks) → Advances f f w w
advances_none f w = record { found = finds_none f; keeps = keeps_none w }

pub advances_on : (f g h : Findings) (w x y : Walks) → Advances f g w x → Advances g h x y → Advances f h w y
advances_on f g h w x y a b = record { found = finds_on f g h a.found b.found; keeps = keeps_on w x y a.keeps b.keeps }

-- room stays
pub room_still : (c : Changing) (f g : Findings) (w x : Walks) → Advances f g w x → HaveRoom c f w.dependencies → HaveRoom c g x.dependencies
room_still c f g w x a room = record {
  rooms = record { channels = a.found.channels ∙ room.rooms.channels; bound = a.found.bound ∙ room.rooms.bound };
  each = a.keeps.grows.each ∙ room.each;
}

module _ (S : VirtualChannel → Type 0) (F : Fault → Type 0) (m : Change) (of_level : ℕ) (held : Option ℕ) where
  -- there is nothing to look at
  pub nothing : ((v : VirtualChannel) → ¬ S v) → ((x : Fault) → ¬ F x) → (f : Findings) (w : Walks) → LooksAt S F m of_level held f f w w
  nothing no_step no_fault f w = record {
    advances = advances_none f w;
    taken = λ v s. absurd (no_step v s);
    used = λ v s. absurd (no_step v s);
    pairs = λ v n s h. absurd (no_step v s);
    faults = λ x h. absurd (no_fault x h);
    taken_only = λ x has. inl has;
    used_only = λ n is. inl is;
    pairs_only = λ x has. inl has;
    fault_only = λ x is. inl is;
  }

  -- one fault is noted
  pub one_fault : (x : Fault) → ((v : VirtualChannel) → ¬ S v) → F x → ((y : Fault) → F y → y ≡ x) → (f : Findings) (w : Walks) (new : Option Fault) → Notes w.fault x new →
      LooksAt S F m of_level held f f w (record { dependencies = w.dependencies; fault = new })
  one_fault x no_step is only f w new notes = record {
    advances = record { found = finds_none f; keeps = record { grows = grows_none w.dependencies; noted = notes.kept } };
    taken = λ v s. absurd (no_step v s);
    used = λ v s. absurd (no_step v s);
    pairs = λ v n s h. absurd (no_step v s);
    faults = λ y h. subst (λ z. IsNoted new z) (sym (only y h)) notes.noted;
    taken_only = λ y has. inl has;
    used_only = λ n h. inl h;
    pairs_only = λ y has. inl has;
    fault_only = λ y h. elim (notes.only y h) [ inl was ↦ inl was | inr same ↦ inr (subst F (sym same) is) ];
  }

  -- one step is taken
  pub one_step : (hop : VirtualChannel) → S hop → ((v : VirtualChannel) → S v → v ≡ hop) → ((x : Fault) → ¬ F x) → (f new_f : Findings) (w : Walks) (new : Collected) →
      AddsHop held (node_of (bound m) hop) w.dependencies new → FindsOneMore f (record { hop = hop; level = of_level }) new_f →
      LooksAt S F m of_level held f new_f w (record { dependencies = new; fault = w.fault })
  one_step hop is only no_fault f new_f w new adds finds = record {
    advances = record { found = finds.more; keeps = record { grows = adds.grows; noted = λ x h. h } };
    taken = λ v s. subst (λ (u : VirtualChannel). Contains new_f.taken (record { hop = u; level = of_level })) (sym (only v s)) finds.there;
    used = λ v s. subst (λ (u : VirtualChannel). IsMarked new (node_of (bound m) u)) (sym (only v s)) adds.marked;
    pairs = λ v n s h. subst (λ (u : VirtualChannel). Contains new.pairs (n, node_of (bound m) u)) (sym (only v s)) (paired n h);
    faults = λ x h. absurd (no_fault x h);
    taken_only = λ x has. elim (finds.only x has) [
      | inl was ↦ inl was
      | inr same ↦ inr (subst S (sym (ap (λ (y : Taken). y.hop) same)) is, ap (λ (y : Taken). y.level) same)
    ];
    used_only = λ n h. elim (adds.marked_only n h) [ inl was ↦ inl was | inr same ↦ inr (hop, is, sym same) ];
    pairs_only = λ x has. elim (adds.paired_only x has) [ inl was ↦ inl was | inr new ↦ inr (hop, is, new.0, sym new.1) ];
    fault_only = λ x h. inl h;
  }
    where
      paired : (n : ℕ) → held ≡ Some n → Contains new.pairs (n, node_of (bound m) hop)
      paired n h = subst (λ o. IfSome o (λ first. Contains new.pairs (first, node_of (bound m) hop))) h adds.paired

-- two parts, one after the other
pub in_turn : (S A B : VirtualChannel → Type 0) (F G H : Fault → Type 0) (m : Change) (of_level : ℕ) (held : Option ℕ) (f0 f1 f2 : Findings) (w0 w1 w2 : Walks) →
    ((v : VirtualChannel) → S v → A v ⊎ B v) → ((v : VirtualChannel) → A v → S v) → ((v : VirtualChannel) → B v → S v) →
    ((x : Fault) → F x → G x ⊎ H x) → ((x : Fault) → G x → F x) → ((x : Fault) → H x → F x) →
    LooksAt A G m of_level held f0 f1 w0 w1 → LooksAt B H m of_level held f1 f2 w1 w2 → LooksAt S F m of_level held f0 f2 w0 w2
in_turn S A B F G H m of_level held f0 f1 f2 w0 w1 w2 parts first second fault_parts fault_first fault_second x y = record {
  advances = advances_on f0 f1 f2 w0 w1 w2 x.advances y.advances;
  taken = λ v s. elim (parts v s) [ inl a ↦ y.advances.found.has _ (x.taken v a) | inr b ↦ y.taken v b ];
  used = λ v s. elim (parts v s) [ inl a ↦ y.advances.keeps.grows.used _ (x.used v a) | inr b ↦ y.used v b ];
  pairs = λ v n s h. elim (parts v s) [ inl a ↦ y.advances.keeps.grows.pairs _ (x.pairs v n a h) | inr b ↦ y.pairs v n b h ];
  faults = λ z h. elim (fault_parts z h) [ inl a ↦ y.advances.keeps.noted z (x.faults z a) | inr b ↦ y.faults z b ];
  taken_only = λ z has. elim (y.taken_only z has) [
    | inl was ↦ elim (x.taken_only z was) [ inl before ↦ inl before | inr a ↦ inr (first z.hop a.0, a.1) ]
    | inr b ↦ inr (second z.hop b.0, b.1)
  ];
  used_only = λ n is. elim (y.used_only n is) [
    | inl was ↦ elim (x.used_only n was) [ inl before ↦ inl before | inr a ↦ inr (a.0, first a.0 a.1, a.2) ]
    | inr b ↦ inr (b.0, second b.0 b.1, b.2)
  ];
  pairs_only = λ z has. elim (y.pairs_only z has) [
    | inl was ↦ elim (x.pairs_only z was) [ inl before ↦ inl before | inr a ↦ inr (a.0, first a.0 a.1, a.2, a.3) ]
    | inr b ↦ inr (b.0, second b.0 b.1, b.2, b.3)
  ];
  fault_only = λ z is. elim (y.fault_only z is) [
    | inl was ↦ elim (x.fault_only z was) [ inl before ↦ inl before | inr a ↦ inr (fault_first z a) ]
    | inr b ↦ inr (fault_second z b)
  ];
}
