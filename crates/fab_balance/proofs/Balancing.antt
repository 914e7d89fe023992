-- Loads, as the LIDs are gone through at one switch.
use Rattle.std.proofs.Common.{◌≡◌, ◌≢◌, ℕ, ◌+◌, ◌<◌, ◌≤◌, ◌^◌, ◌⊎◌, inl, inr, false, List, [], length, Some, refl, sym, ◌∙◌, ap, subst, arith, Contains, cond, set, get_or-set_same, get_or-set_other, length-set}
use Rattle.std.specs.Prelude.{slice_index, slice_index_or, ◌==◌, ◌&&◌, ◌↔◌, replicate}
use Rattle.std.proofs.lemmas.Bool.{cases_lt, cases_eq, cases_order, eq-eqb, ne_eqb, lt-ltb, le-ltb}
use Rattle.std.proofs.lemmas.List.{get_or_default, length-replicate}
use Rattle.std.proofs.lemmas.List.Elements.{Contains-get_or, All-contains}
use Rattle.std.proofs.lemmas.List.Kept.{AllPairs-from_increasing}
use Rattle.std.proofs.lemmas.List.Sums.{count_by-le-length}
use Rattle.fab_graph.specs.Least.{IsNotAfter}
use Rattle.fab_model.specs.declared.rows.Place.{Place}
use Rattle.fab_model.specs.declared.rows.TerminalRow.{TerminalRow}
use Rattle.fab_model.specs.Topology.{Topology, place_of, lids_of}
use Rattle.fab_model.specs.WellFormed.{IsFabric, IsWellFormed}
use Rattle.fab_tables.specs.Entries.{Entries, entry, with_entry}
use Rattle.fab_tables.specs.FixedEntries.{HasFixedEntries}
use Rattle.fab_tables.proofs.Joined.Ascending.{lids_ascend}
use Rattle.fab_tables.proofs.Joined.Lids.{lid_in_use}
use Rattle.fab_tables.proofs.Paths.FallingRoutes.{channel_port_small}
use Rattle.fab_balance.specs.Eligible.{LeadsNearer, AreNearerPorts}
use Rattle.fab_balance.specs.MinHop.{IsMinHopChoice}
use Rattle.fab_balance.specs.Loads.{port_load, IsBalancedChoice, IsPicked}
use Rattle.fab_balance.proofs.LidPlaces.{IsOfTerminal, terminal_there, terminal_in_use, some_port}
use Rattle.fab_balance.proofs.LoadCounts.{is_sent, same_count, none_counted, one_counted, loads_same, balanced_kept}
use Rattle.fab_tables.proofs.Rows.EntriesSet.{entry_kept}
use Rattle.fab_balance.proofs.Placing.{all_alike}
use Rattle.fab_balance.proofs.Choosing.{IsChoosing, none_chosen, one_passed, one_chosen, nearer_is_chosen, none_is_chosen}

-- of the LIDs in use just the first so many are smaller than this number
pub record IsNextTo (t : Topology) (count n : ℕ) : Type 0 where
  pub before : (j : ℕ) → j < count → j < length (lids_of t) → slice_index (lids_of t) j < n
  pub after : (j : ℕ) → count ≤ j → j < length (lids_of t) → n ≤ slice_index (lids_of t) j

-- the counters of a switch hold the loads after the first so many LIDs
pub record HasLoads (t : Topology) (e : Entries) (s count : ℕ) (loads : List ℕ) : Type 0 where
  pub whole : length loads ≡ 256
  pub sent : (port n : ℕ) → port < 256 → IsNextTo t count n → slice_index loads port ≡ port_load t e s n port

-- no load counts more than all terminals
pub load_small : (t : Topology) → IsWellFormed t → (e : Entries) (s n port : ℕ) → port_load t e s n port < 2 ^ 16
load_small t good e s n port = omega (arith, good.lid_count, count_by-le-length (is_sent e s n port) t.terminals)

module _ (t : Topology) (good : IsFabric t) where
  rises : (i j : ℕ) → i < j → j < length (lids_of t) → slice_index (lids_of t) i < slice_index (lids_of t) j
  rises i j less low = AllPairs-from_increasing (lids_of t) (lids_ascend t good) i j 0 less low

  pub next_here : (count lid : ℕ) → count < length (lids_of t) → slice_index (lids_of t) count ≡ lid → IsNextTo t count lid
  next_here count lid low here = record {
    before = λ j less within. omega (arith, here, rises j count less low);
    after = λ j more within. elim (cases_lt count j) [ inl less ↦ omega (arith, here, rises count j less within) | inr end ↦ (let same : j ≡ count = omega arith in omega (arith, here, ap (λ k. slice_index (lids_of t) k) same)) ];
  }

  pub none_sent : (e : Entries) (s : ℕ) (loads : List ℕ) → length loads ≡ 256 → ((port : ℕ) → slice_index loads port ≡ 0) → HasLoads t e s 0 loads
  none_sent e s loads whole zeros = record { whole = whole; sent = λ port n low next. zeros port ∙ sym (none port n next) }
    where
      none : (port n : ℕ) → IsNextTo t 0 n → port_load t e s n port ≡ 0
      none port n next = none_counted (is_sent e s n port) t.terminals (λ k d low. at (slice_index_or t.terminals k d) (Contains-get_or t.terminals k d low))
        where
          at : (row : TerminalRow) → Contains t.terminals row → is_sent e s n port row ≡ false
          at row has =
              let in_use : Contains (lids_of t) row.lid.0 = terminal_in_use t good.rows row has in
              let high : n ≤ row.lid.0 = omega (arith, in_use.2, get_or_default (lids_of t) in_use.0 0 row.lid.0 in_use.1, next.after in_use.0 (omega arith) in_use.1) in
              ap (λ b. b && (entry e s row.lid.0 == port)) (le-ltb row.lid.0 n high)

-- One LID more: only its entry may change, and a terminal's LID is counted at the port that it then has.
module _ (t : Topology) (good : IsFabric t) (e f : Entries) (s count lid : ℕ) (place : Place) (at : place_of t lid ≡ Some place) (low : count < length (lids_of t)) (here : slice_index (lids_of t) count ≡ lid)
    (same : (n : ℕ) → n ≢ lid → entry e s n ≡ entry f s n) where
  -- the terminals with other LIDs are counted as before
  other_row : (n port : ℕ) → IsNextTo t (count + 1) n → (row : TerminalRow) → Contains t.terminals row → row.lid.0 ≢ lid → is_sent e s lid port row ≡ is_sent f s n port row
  other_row n port next row has other = elim (cases_order row.lid.0 lid) [
    | inl equal ↦ absurd (other equal)
    | inr (inl less) ↦
        (ap (λ b. b && (entry e s row.lid.0 == port)) (lt-ltb row.lid.0 lid less) ∙ ap (λ z. z == port) (same row.lid.0 other)
        ∙ sym (ap (λ b. b && (entry f s row.lid.0 == port)) (lt-ltb row.lid.0 n (smaller less (cases_lt in_use.0 count)))))
    | inr (inr more) ↦
        (ap (λ b. b && (entry e s row.lid.0 == port)) (le-ltb row.lid.0 lid (omega (arith, more))) ∙ sym (ap (λ b. b && (entry f s row.lid.0 == port)) (le-ltb row.lid.0 n (greater more (cases_lt count in_use.0)))))
  ]
    where
      in_use : Contains (lids_of t) row.lid.0
      in_use = terminal_in_use t good.rows row has

      there : slice_index (lids_of t) in_use.0 ≡ row.lid.0
      there = get_or_default (lids_of t) in_use.0 0 row.lid.0 in_use.1 ∙ in_use.2

      first_ones : (j : ℕ) → j ≤ count → slice_index (lids_of t) j ≤ lid
      first_ones j below = elim (cases_lt j count) [
        | inl less ↦ omega (arith, here, rises t good j count less low)
        | inr end ↦ (let equal : j ≡ count = omega (arith, below, end) in omega (arith, here, ap (λ k. slice_index (lids_of t) k) equal))
      ]

      last_ones : (j : ℕ) → count ≤ j → j < length (lids_of t) → lid ≤ slice_index (lids_of t) j
      last_ones j above within = (next_here t good count lid low here).after j above within

      smaller : row.lid.0 < lid → (in_use.0 < count) ⊎ (count ≤ in_use.0) → row.lid.0 < n
      smaller less (inl first) = omega (arith, there, next.before in_use.0 (omega (arith, first)) in_use.1)
      smaller less (inr later) = absurd (omega (arith, less, there, last_ones in_use.0 later in_use.1))

      greater : lid < row.lid.0 → (count < in_use.0) ⊎ (in_use.0 ≤ count) → n ≤ row.lid.0
      greater more (inl later) = omega (arith, there, next.after in_use.0 (omega (arith, later)) in_use.1)
      greater more (inr first) = absurd (omega (arith, more, there, first_ones in_use.0 first))

  module _ (loads : List ℕ) (before : HasLoads t e s count loads) where
    -- a switch's LID is not counted
    pub none_more_sent : place.port ≤ 0 → HasLoads t f s (count + 1) loads
    none_more_sent none = record {
      whole = before.whole;
      sent = λ port n small next. before.sent port lid small (next_here t good count lid low here)
          ∙ same_count (is_sent e s lid port) (is_sent f s n port) t.terminals
          (λ k d within. other_row n port next (slice_index_or t.terminals k d) (Contains-get_or t.terminals k d within) (no_terminal (slice_index_or t.terminals k d) (Contains-get_or t.terminals k d within)));
    }
      where
        no_terminal : (row : TerminalRow) → Contains t.terminals row → row.lid.0 ≢ lid
        no_terminal row has equal = omega (arith, none, some_port t good.rows row has place (ap (λ m. place_of t m) equal ∙ at))

    -- a terminal's is
    pub one_more_sent : 0 < place.port → HasLoads t f s (count + 1) (set loads (entry f s lid) (slice_index loads (entry f s lid) + 1))
    one_more_sent some = record {
      whole = length-set loads (entry f s lid) (slice_index loads (entry f s lid) + 1) ∙ before.whole;
      sent = λ port n small next. at_port port (cases_eq port (entry f s lid)) small ∙ sym (counted port n small next);
    }
      where
        its : IsOfTerminal t lid
        its = terminal_there t lid place at some

        row : TerminalRow
        row = its.row

        i : ℕ
        i = its.listed.0

        at_row : slice_index_or t.terminals i row ≡ row
        at_row = its.listed.2

        not_yet : (port : ℕ) → is_sent e s lid port row ≡ false
        not_yet port = ap (λ b. b && (entry e s row.lid.0 == port)) (le-ltb row.lid.0 lid (omega (arith, its.has_lid)))

        now_sent : (port n : ℕ) → IsNextTo t (count + 1) n → is_sent f s n port row ≡ (entry f s lid == port)
        now_sent port n next =
            ap (λ b. b && (entry f s row.lid.0 == port)) (lt-ltb row.lid.0 n (omega (arith, its.has_lid, here, next.before count (omega arith) low)))
            ∙ ap (λ m. entry f s m == port) its.has_lid

        differs : (k : ℕ) (d : TerminalRow) → k < length t.terminals → k ≢ i → (slice_index_or t.terminals k d).lid.0 ≢ lid
        differs k d within other equal = elim (cases_order k i) [
          | inl one ↦ other one
          | inr (inl less) ↦ omega (arith, equal, its.has_lid, good.rows.terminal_lids_rise k i d less its.listed.1, ap (λ (r : TerminalRow). r.lid.0) (get_or_default t.terminals i d row its.listed.1 ∙ at_row))
          | inr (inr more) ↦ omega (arith, equal, its.has_lid, good.rows.terminal_lids_rise i k d more within, ap (λ (r : TerminalRow). r.lid.0) (get_or_default t.terminals i d row its.listed.1 ∙ at_row))
        ]

        counted : (port n : ℕ) → port < 256 → IsNextTo t (count + 1) n → port_load t f s n port ≡ slice_index loads port + cond (entry f s lid == port) 1 0
        counted port n small next =
            one_counted (is_sent e s lid port) (is_sent f s n port) t.terminals i row its.listed.1 at_row (not_yet port)
            (λ k d within other. other_row n port next (slice_index_or t.terminals k d) (Contains-get_or t.terminals k d within) (differs k d within other))
            ∙ ap (λ b. port_load t e s lid port + cond b 1 0) (now_sent port n next)
            ∙ ap (λ m. m + cond (entry f s lid == port) 1 0) (sym (before.sent port lid small (next_here t good count lid low here)))

        at_port : (port : ℕ) → (port ≡ entry f s lid) ⊎ (port ≢ entry f s lid) → port < 256 →
            slice_index (set loads (entry f s lid) (slice_index loads (entry f s lid) + 1)) port ≡ slice_index loads port + cond (entry f s lid == port) 1 0
        at_port port (inl equal) small =
            ap (λ p. slice_index (set loads (entry f s lid) (slice_index loads (entry f s lid) + 1)) p) equal
            ∙ get_or-set_same loads (entry f s lid) (slice_index loads (entry f s lid) + 1) 0 (omega (arith, small, equal, before.whole))
            ∙ ap (λ p. slice_index loads p + 1) (sym equal) ∙ ap (λ b. slice_index loads port + cond b 1 0) (sym (eq-eqb (entry f s lid) port (sym equal)))
        at_port port (inr other) small =
            get_or-set_other loads (entry f s lid) port (slice_index loads (entry f s lid) + 1) 0 other
            ∙ omega (arith, ap {B = ℕ} (λ b. cond b 1 0) (ne_eqb (entry f s lid) port (λ equal. other (sym equal))))

    -- what is picked by the counters is the balanced choice
    pub picked_is_balanced : (Eligible : ℕ → Type 0) (ports : List ℕ) (port : ℕ) → ((p : ℕ) → Contains ports p ↔ Eligible p) → ((p : ℕ) → Eligible p → p < 256) → IsPicked loads ports port →
        IsBalancedChoice t f s lid Eligible port
    picked_is_balanced Eligible ports port are small picked = record {
      eligible = (are port).0 picked.listed;
      least = λ other is. as_loads port other (small port ((are port).0 picked.listed)) (small other is)
          (All-contains (λ p. IsNotAfter (λ q. slice_index loads q) port p) ports other picked.least ((are other).1 is));
    }
      where
        load_is : (p : ℕ) → p < 256 → slice_index loads p ≡ port_load t f s lid p
        load_is p low_port = before.sent p lid low_port (next_here t good count lid low here) ∙ loads_same t e f s lid (λ other less. same other (λ equal. omega (arith, less, equal))) p

        as_loads : (m n : ℕ) → m < 256 → n < 256 → IsNotAfter (λ q. slice_index loads q) m n → IsNotAfter (λ q. port_load t f s lid q) m n
        as_loads m n a b (inl less) = inl (omega (arith, less, load_is m a, load_is n b))
        as_loads m n a b (inr both) = inr (sym (load_is m a) ∙ both.0 ∙ load_is n b, both.1)

-- a counter has room for one more
pub counter_small : (t : Topology) → IsFabric t → (e : Entries) (s count lid port : ℕ) (loads : List ℕ) → HasLoads t e s count loads → count < length (lids_of t) → slice_index (lids_of t) count ≡ lid → port < 256 →
    slice_index loads port < 2 ^ 16
counter_small t good e s count lid port loads before low here small = omega (arith, before.sent port lid small (next_here t good count lid low here), load_small t good.rows e s lid port)

-- ---- both together

-- For the first so many LIDs the switch has its entries, and the counters hold the loads.
pub record IsBalancing (t : Topology) (s : ℕ) (begun e : Entries) (count : ℕ) (loads : List ℕ) : Type 0 where
  pub choosing : IsChoosing t (λ x. IsMinHopChoice t x) s begun e count
  pub counters : HasLoads t e s count loads

-- the entry of one LID more is chosen, and no other one of the switch changed
pub record IsOneMore (t : Topology) (s : ℕ) (begun e f : Entries) (count lid : ℕ) : Type 0 where
  pub choosing : IsChoosing t (λ x. IsMinHopChoice t x) s begun f (count + 1)
  pub same : (n : ℕ) → n ≢ lid → entry e s n ≡ entry f s n

module _ (t : Topology) (good : IsFabric t) (s : ℕ) (begun e : Entries) (count lid : ℕ) (place : Place) (loads : List ℕ) (at : place_of t lid ≡ Some place) (low : count < length (lids_of t))
    (here : slice_index (lids_of t) count ≡ lid) (switch : s < length t.switches) (before : IsBalancing t s begun e count loads) (ports : List ℕ) (are : AreNearerPorts t s place.switch.0 ports) where
  pub none_picked : ports ≡ [] → IsOneMore t s begun e e count lid
  none_picked none = record {
    choosing = one_passed t good (λ x. IsMinHopChoice t x) s begun e count lid before.choosing low here
        (none_is_chosen t good.rows s lid place at (λ port x. no_port (subst (λ xs. Contains xs port) none ((are port).1 x))));
    same = λ n other. refl;
  }
    where
      no_port : {port : ℕ} → Contains [] port → ⊥
      no_port has = omega (arith, has.1)

  pub one_picked : (port : ℕ) → port < 256 → IsPicked loads ports port → IsOneMore t s begun e (with_entry e s lid port) count lid
  one_picked port small picked = record {
    choosing = one_chosen t good (λ x. IsMinHopChoice t x) s begun e count lid before.choosing low here port place at (nearer_is_chosen t s lid port place at ((are port).0 picked.listed)) small switch
        (λ n to p less meets. balanced_kept t e (with_entry e s lid port) s n (λ m below. same m (λ equal. omega (arith, less, below, equal))) (λ q. LeadsNearer t s to q) p meets)
        (picked_is_balanced t good e (with_entry e s lid port) s count lid place at low here same loads before.counters (λ q. LeadsNearer t s place.switch.0 q) ports port are small_port picked);
    same = same;
  }
    where
      in_use : Contains (lids_of t) lid
      in_use = lid_in_use t lid place at

      same : (n : ℕ) → n ≢ lid → entry e s n ≡ entry (with_entry e s lid port) s n
      same n other = sym (entry_kept t e s lid port before.choosing.fixed.fits switch in_use s n (λ a b. other b))

      small_port : (p : ℕ) → LeadsNearer t s place.switch.0 p → p < 256
      small_port p x = omega (arith, channel_port_small t good.rows s p x.channel x.leaves)

-- then the LID is counted, if it is a terminal's
module _ (t : Topology) (good : IsFabric t) (s : ℕ) (begun e f : Entries) (count lid : ℕ) (place : Place) (loads : List ℕ) (at : place_of t lid ≡ Some place) (low : count < length (lids_of t))
    (here : slice_index (lids_of t) count ≡ lid) (before : HasLoads t e s count loads) (more : IsOneMore t s begun e f count lid) where
  pub not_counted : place.port ≤ 0 → IsBalancing t s begun f (count + 1) loads
  not_counted none = record { choosing = more.choosing; counters = none_more_sent t good e f s count lid place at low here more.same loads before none }

  pub counted : 0 < place.port → IsBalancing t s begun f (count + 1) (set loads (entry f s lid) (slice_index loads (entry f s lid) + 1))
  counted some = record { choosing = more.choosing; counters = one_more_sent t good e f s count lid place at low here more.same loads before some }

pub none_balanced : (t : Topology) → IsFabric t → (s : ℕ) (e : Entries) → HasFixedEntries t e → IsBalancing t s e e 0 (replicate 256 0)
none_balanced t good s e fixed = record {
  choosing = none_chosen t (λ x. IsMinHopChoice t x) s e fixed;
  counters = none_sent t good e s (replicate 256 0) (length-replicate {A = ℕ} 256 0) (λ port. all_alike 256 0 port);
}
