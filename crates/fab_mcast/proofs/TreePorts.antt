-- The ports of a group's tree, told by the marked ways.
use Rattle.std.proofs.Common.{◌≡◌, ℕ, ◌<◌, ◌⊎◌, inl, inr, Bool, true, false, List, [], ◌∷◌, length, refl, sym, ◌∙◌, ap, subst, Option, Some, None, Contains, slice_index_or}
use Rattle.std.specs.Prelude.{◌==◌, ◌||◌, slice_get, filter, option_map, IfSome, if◌then◌else◌}
use Rattle.std.specs.List.{list_any, range_with_len}
use Rattle.std.proofs.lemmas.Bool.{eqb-true, eq-eqb, and_parts, and_from, or_cases, or_left, or_right}
use Rattle.std.proofs.lemmas.Option.{same_Some, none-some}
use Rattle.fab_model.specs.declared.rows.SwitchId.{SwitchId}
use Rattle.fab_model.specs.declared.rows.ChannelId.{ChannelId}
use Rattle.fab_model.specs.declared.rows.ChannelRow.{ChannelRow}
use Rattle.fab_model.specs.declared.rows.TerminalRow.{TerminalRow}
use Rattle.fab_model.specs.Topology.{Topology, channel_id, leaves_by, channel_at, is_cabled_at, reversed, IsReverse}
use Rattle.fab_model.specs.Connected.{AreConnected}
use Rattle.fab_model.specs.WellFormed.{IsWellFormed}
use Rattle.fab_model.proofs.Lists.Members.{In, in_from_Contains, Contains_from_in, from_filter_map, list_any_from_in, from_list_any}
use Rattle.fab_model.proofs.Lists.Found.{place_of_in}
use Rattle.fab_model.proofs.Faultless.Facts.{slice_get_in}
use Rattle.fab_model.proofs.Finds.{channels_are_found}
use Rattle.fab_tables.specs.Route.{tip_of_row, tip}
use Rattle.fab_tables.specs.Trees.{next}
use Rattle.fab_tables.specs.TreeWalks.{GoesAlong, walk_of}
use Rattle.fab_tables.proofs.Paths.FallingRoutes.{channel_found}
use Rattle.fab_tables.proofs.Paths.TreeWalks.{walk_goes}
use Rattle.fab_escape.specs.Forest.{Forest, root_of, escape_next, escape_tree}
use Rattle.fab_escape.specs.Trees.{IsEscapeForest}
use Rattle.fab_escape.proofs.EscapeTrees.{escape_tree_is_tree}
use Rattle.fab_escape.proofs.OneRoot.{joined_by_root, one_root}
use Rattle.fab_escape.proofs.WholeTree.{of_tree}
use Rattle.fab_mcast.specs.GroupTrees.{escape_route, has_end_at, is_on_route, member_rows, is_member_port, is_tree_port, group_ports}
use Rattle.fab_mcast.specs.Ways.{is_passed, home_of, IsOnWay, IsHoused, IsHome, IsMarkedTree, goes_by, leads_home, leads_by}
use Rattle.fab_mcast.proofs.PlantedTrees.{terminal_low, OnWay}
use Rattle.fab_mcast.proofs.Planting.{CableAt, cable_at}
use Rattle.fab_mcast.proofs.MarkedWays.{IsStep, step_is}

pub same_bool : (a b : Bool) → (a ≡ true → b ≡ true) → (b ≡ true → a ≡ true) → a ≡ b
same_bool true b to from = sym (to refl)
same_bool false true to from = from refl
same_bool false false to from = refl

pub false_from : (a : Bool) → (a ≡ true → ⊥) → a ≡ false
false_from true never = absurd (never refl)
false_from false never = refl

pub filter_none : {X : Type 0} (p : X → Bool) (xs : List X) → ((x : X) → In x xs → p x ≡ false) → filter p xs ≡ []
filter_none p [] none = refl
filter_none p (x ∷ xs) none = step (p x) (none x (inl refl)) (filter_none p xs (λ y at. none y (inr at)))
  where
    step : (b : Bool) → b ≡ false → filter p xs ≡ [] → (if b then x ∷ filter p xs else filter p xs) ≡ []
    step true e rest = absurd (cc)
    step false e rest = rest

-- the switch to which a channel leads, as it is told
pub tip_told : (o : Option ChannelRow) (tip : SwitchId) → option_map (λ (row : ChannelRow). row.tip) o ≡ Some tip → tip_of_row o ≡ tip.0
tip_told None tip e = absurd (cc)
tip_told (Some row) tip e = ap (λ (s : SwitchId). s.0) (same_Some row.tip tip e)

-- a channel's number is seen again
pub seen_channel : (o : Option ℕ) → option_map (λ (id : ChannelId). id.0) (option_map channel_id o) ≡ o
seen_channel None = refl
seen_channel (Some n) = refl

-- what a call for a channel tells
pub channel_told : (o : Option ℕ) (r : Option ChannelId) (c : ChannelId) → r ≡ option_map channel_id o → r ≡ Some c → o ≡ Some c.0
channel_told o r c e is = sym (seen_channel o) ∙ ap (λ q. option_map (λ (id : ChannelId). id.0) q) (sym e ∙ is)

pub no_channel_told : (o : Option ℕ) (r : Option ChannelId) → r ≡ option_map channel_id o → r ≡ None → o ≡ None
no_channel_told o r e is = sym (seen_channel o) ∙ ap (λ q. option_map (λ (id : ChannelId). id.0) q) (sym e ∙ is)

module _ (t : Topology) (good : IsWellFormed t) (f : Forest) (forest : IsEscapeForest t 0 f) (members : List ℕ) (homes : List (Option ℕ)) (passed : List Bool) (is : IsMarkedTree t f members homes passed) where
  -- the way of a marked switch goes on by the channel
  record LeadsBy (s c : ℕ) : Type 0 where
    home : ℕ
    is_home : home_of f homes s ≡ Some home
    marked : is_passed passed s ≡ true
    goes : escape_next f s home ≡ Some c

  leads_from : (s c : ℕ) → LeadsBy s c → leads_by f homes passed s c ≡ true
  leads_from s c by =
      and_from (is_passed passed s) (leads_home f s c (home_of f homes s)) by.marked
      (ap (λ o. leads_home f s c o) by.is_home ∙ ap (λ o. goes_by o c) by.goes ∙ eq-eqb c c refl)

  from_leads : (s c : ℕ) → leads_by f homes passed s c ≡ true → LeadsBy s c
  from_leads s c e =
      let both : (is_passed passed s ≡ true) × (leads_home f s c (home_of f homes s) ≡ true) = and_parts (is_passed passed s) (leads_home f s c (home_of f homes s)) e in
      at_home (home_of f homes s) refl both.0 both.1
    where
      at_next : (home : ℕ) → home_of f homes s ≡ Some home → is_passed passed s ≡ true → (o : Option ℕ) → escape_next f s home ≡ o → goes_by o c ≡ true → LeadsBy s c
      at_next home there marked None goes h = absurd (cc)
      at_next home there marked (Some d) goes h = record { home = home; is_home = there; marked = marked; goes = goes ∙ ap (λ x. Some x) (eqb-true d c h) }

      at_home : (o : Option ℕ) → home_of f homes s ≡ o → is_passed passed s ≡ true → leads_home f s c o ≡ true → LeadsBy s c
      at_home None there marked h = absurd (cc)
      at_home (Some home) there marked h = at_next home there marked (escape_next f s home) refl h

  member_in : (m : TerminalRow) → Contains (member_rows t members) m → (k : ℕ) × In k members × (slice_get t.terminals k ≡ Some m)
  member_in m h = from_filter_map (λ k. slice_get t.terminals k) members m (in_from_Contains (member_rows t members) m h)

  low_of : (m : TerminalRow) → Contains (member_rows t members) m → m.switch.0 < length t.switches
  low_of m h = let k : (k : ℕ) × In k members × (slice_get t.terminals k ≡ Some m) = member_in m h in terminal_low t good m (slice_get_in t.terminals k.0 m k.2)

  home_low : (s home : ℕ) → home_of f homes s ≡ Some home → home < length t.switches
  home_low s home e = let at : IsHome t f members (root_of f s) home = is.homes_are (root_of f s) home e in subst (λ x. x < length t.switches) at.there (low_of at.member at.is_member)

  -- ---- each channel on a marked way is one between two members

  port_on : (s c : ℕ) (row : ChannelRow) (x port : ℕ) → LeadsBy s c → slice_get t.channels c ≡ Some row → has_end_at x port (Some row) ≡ true → is_tree_port t f members x port ≡ true
  port_on s c row x port by at end =
      let on : IsOnWay t f members homes s = is.on_way s by.marked in
      let home_at : IsHome t f members (root_of f s) on.home = is.homes_are (root_of f s) on.home on.is_home in
      let same : by.home ≡ on.home = same_Some by.home on.home (sym by.is_home ∙ on.is_home) in
      let there : Contains (escape_route t f on.member.switch.0 on.home) c = on.goes c (ap (λ y. escape_next f s y) (sym same) ∙ by.goes) in
      let between : In c (escape_route t f on.member.switch.0 home_at.member.switch.0) = subst (λ y. In c (escape_route t f on.member.switch.0 y)) (sym home_at.there) (in_from_Contains (escape_route t f on.member.switch.0 on.home) c there) in
      list_any_from_in (λ (a : TerminalRow). list_any (λ (b : TerminalRow). is_on_route t (escape_route t f a.switch.0 b.switch.0) x port) (member_rows t members)) (member_rows t members) on.member
      (in_from_Contains (member_rows t members) on.member on.is_member)
      (list_any_from_in (λ (b : TerminalRow). is_on_route t (escape_route t f on.member.switch.0 b.switch.0) x port) (member_rows t members) home_at.member
      (in_from_Contains (member_rows t members) home_at.member home_at.is_member)
      (list_any_from_in (λ d. has_end_at x port (slice_get t.channels d)) (escape_route t f on.member.switch.0 home_at.member.switch.0) c between
      (ap (λ o. has_end_at x port o) at ∙ end)))

  leaves_at : (row : ChannelRow) (x port : ℕ) → row.tail.0 ≡ x → row.port ≡ port → leaves_by x port row ≡ true
  leaves_at row x port tail at_port = and_from (row.tail.0 == x) (row.port == port) (eq-eqb row.tail.0 x tail) (eq-eqb row.port port at_port)

  -- ---- and each one between two members is on a marked way

  record IsWalked (home d : ℕ) : Type 0 where
    v : ℕ
    by : LeadsBy v d
    row : ChannelRow
    at : slice_get t.channels d ≡ Some row
    tail : row.tail.0 ≡ v
    tip_marked : is_passed passed (tip t d) ≡ true

  walked : (home : ℕ) → home < length t.switches → (cs : List ℕ) (u : ℕ) → u < length t.switches → GoesAlong t (escape_tree f home) u cs → is_passed passed u ≡ true → home_of f homes u ≡ Some home → (d : ℕ) → In d cs → IsWalked home d
  walked home also [] u low goes marked there d at = absurd at
  walked home also (c ∷ cs) u low goes marked there d at = by at (λ more. walked home also cs (tip t c) step.low goes.1 later (ap (λ r. slice_index_or homes r None) (step.root ∙ sym step.own) ∙ there) d more)
    where
      e : escape_next f u home ≡ Some c
      e = of_tree f u home c goes.0

      step : IsStep t good f forest u home c
      step = step_is t good f forest u home c low also e

      later : is_passed passed (tip t c) ≡ true
      later = is.closed u home c marked there e

      by : (c ≡ d) ⊎ In d cs → (In d cs → IsWalked home d) → IsWalked home d
      by (inl same) on =
          subst (λ x. IsWalked home x) same (record {
            v = u;
            by = record { home = home; is_home = there; marked = marked; goes = e };
            row = step.row;
            at = step.at;
            tail = step.tail;
            tip_marked = later;
          })
      by (inr more) on = on more

  -- what a port of the tree tells
  record IsReachedBy (s port : ℕ) : Type 0 where
    c : ℕ
    found : channel_at t s port ≡ Some c
    marked : is_passed passed s ≡ true
    by : LeadsBy s c ⊎ ((d : ℕ) × IsReverse t c d × LeadsBy (tip t c) d)

  end_of : (s port : ℕ) (o : Option ChannelRow) → has_end_at s port o ≡ true → (row : ChannelRow) × (o ≡ Some row) × ((row.tail.0 ≡ s) ⊎ (row.tip.0 ≡ s))
  end_of s port None h = absurd (cc)
  end_of s port (Some row) h = elim (or_cases (leaves_by s port row) (leaves_by s port (reversed row)) h) [
    | inl y ↦ (row, refl, inl (eqb-true row.tail.0 s (and_parts (row.tail.0 == s) (row.port == port) y).0))
    | inr y ↦ (row, refl, inr (eqb-true row.tip.0 s (and_parts (row.tip.0 == s) (row.tip_port == port) y).0))
  ]

  -- a port of the tree lies in a component that has a home
  record HasHome (s : ℕ) : Type 0 where
    home : ℕ
    is_home : home_of f homes s ≡ Some home
    low : home < length t.switches
    same : root_of f home ≡ root_of f s

  has_home : (s port : ℕ) → s < length t.switches → is_tree_port t f members s port ≡ true → HasHome s
  has_home s port low e = at_root (elim end.2 [ inl tail ↦ ap (λ x. root_of f x) (sym tail) ∙ ap (λ x. root_of f x) tail_is ∙ step.own | inr tip_is ↦ ap (λ x. root_of f x) (sym tip_is ∙ sym (ap tip_of_row end.1)) ∙ step.root ])
    where
      a : (a : TerminalRow) × In a (member_rows t members) × (list_any (λ (b : TerminalRow). is_on_route t (escape_route t f a.switch.0 b.switch.0) s port) (member_rows t members) ≡ true)
      a = from_list_any (λ (a : TerminalRow). list_any (λ (b : TerminalRow). is_on_route t (escape_route t f a.switch.0 b.switch.0) s port) (member_rows t members)) (member_rows t members) e

      b : (b : TerminalRow) × In b (member_rows t members) × (is_on_route t (escape_route t f a.0.switch.0 b.switch.0) s port ≡ true)
      b = from_list_any (λ (b : TerminalRow). is_on_route t (escape_route t f a.0.switch.0 b.switch.0) s port) (member_rows t members) a.2

      c : (c : ℕ) × In c (escape_route t f a.0.switch.0 b.0.switch.0) × (has_end_at s port (slice_get t.channels c) ≡ true)
      c = from_list_any (λ c. has_end_at s port (slice_get t.channels c)) (escape_route t f a.0.switch.0 b.0.switch.0) b.2

      to : ℕ
      to = b.0.switch.0

      to_member : Contains (member_rows t members) b.0
      to_member = Contains_from_in (member_rows t members) b.0 b.1

      end : (row : ChannelRow) × (slice_get t.channels c.0 ≡ Some row) × ((row.tail.0 ≡ s) ⊎ (row.tip.0 ≡ s))
      end = end_of s port (slice_get t.channels c.0) c.2

      v : (v : ℕ) × (next (escape_tree f to) v ≡ Some c.0) × (v < length t.switches)
      v = on_walk (walk_of t (escape_tree f to) a.0.switch.0) a.0.switch.0 (low_of a.0 (Contains_from_in (member_rows t members) a.0 a.1))
          (walk_goes t (escape_tree f to) a.0.switch.0 (escape_tree_is_tree t 0 f to good forest (low_of b.0 to_member))) c.1
        where
          on_walk : (cs : List ℕ) (u : ℕ) → u < length t.switches → GoesAlong t (escape_tree f to) u cs → In c.0 cs → (v : ℕ) × (next (escape_tree f to) v ≡ Some c.0) × (v < length t.switches)
          on_walk [] u small goes at = absurd at
          on_walk (d ∷ ds) u small goes (inl same) = (u, goes.0 ∙ ap (λ x. Some x) same, small)
          on_walk (d ∷ ds) u small goes (inr more) = on_walk ds (tip t d) (step_is t good f forest u to d small (low_of b.0 to_member) (of_tree f u to d goes.0)).low goes.1 more

      step : IsStep t good f forest v.0 to c.0
      step = step_is t good f forest v.0 to c.0 v.2 (low_of b.0 to_member) (of_tree f v.0 to c.0 v.1)

      tail_is : end.0.tail.0 ≡ v.0
      tail_is = ap (λ (r : ChannelRow). r.tail.0) (same_Some end.0 step.row (sym end.1 ∙ step.at)) ∙ step.tail

      at_root : root_of f s ≡ root_of f to → HasHome s
      at_root root =
          let house : IsHoused f homes passed b.0 = is.housed b.0 to_member in
          let home_at : IsHome t f members (root_of f to) house.home = is.homes_are (root_of f to) house.home house.is_home in
          record {
            home = house.home;
            is_home = ap (λ r. slice_index_or homes r None) root ∙ house.is_home;
            low = home_low to house.home house.is_home;
            same = home_at.same ∙ sym root;
          }

  reached_by : (s port : ℕ) → s < length t.switches → is_tree_port t f members s port ≡ true → IsReachedBy s port
  reached_by s port low e = by on.same
    where
      home : HasHome s
      home = has_home s port low e

      home_at : IsHome t f members (root_of f s) home.home
      home_at = is.homes_are (root_of f s) home.home home.is_home

      first : (k : ℕ) × In k members × (slice_get t.terminals k ≡ Some home_at.member)
      first = member_in home_at.member home_at.is_member

      joined : AreConnected t home_at.member.switch.0 s
      joined = subst (λ x. AreConnected t x s) (sym home_at.there) (joined_by_root t good 0 f forest home.home s home.low low home.same)

      cable : CableAt t good 0 f forest members first.0 (Contains_from_in members first.0 first.1) home_at.member first.2 s port
      cable = cable_at t good 0 f forest members first.0 (Contains_from_in members first.0 first.1) home_at.member first.2 s port low joined e

      on : OnWay t f members home.home cable.q
      on = subst (λ x. OnWay t f members x cable.q) home_at.there cable.on

      house : IsHoused f homes passed on.m
      house = is.housed on.m (Contains_from_in (member_rows t members) on.m on.is_member)

      m_low : on.m.switch.0 < length t.switches
      m_low = low_of on.m (Contains_from_in (member_rows t members) on.m on.is_member)

      one_home : home_of f homes on.m.switch.0 ≡ Some home.home
      one_home = ap (λ r. slice_index_or homes r None) (one_root t good 0 f forest on.m.switch.0 home.home m_low home.low on.joined ∙ home.same) ∙ home.is_home

      walk : IsWalked home.home on.d
      walk = walked home.home home.low (walk_of t (escape_tree f home.home) on.m.switch.0) on.m.switch.0 m_low
          (walk_goes t (escape_tree f home.home) on.m.switch.0 (escape_tree_is_tree t 0 f home.home good forest home.low)) house.marked one_home on.d on.there

      row_is : walk.row ≡ on.row
      row_is = same_Some walk.row on.row (sym walk.at ∙ on.at)

      by : (on.row ≡ cable.q) ⊎ (on.row ≡ reversed cable.q) → IsReachedBy s port
      by (inl same) =
          let here : walk.v ≡ s = sym walk.tail ∙ ap (λ (r : ChannelRow). r.tail.0) (row_is ∙ same) ∙ cable.tail in
          let at : slice_get t.channels on.d ≡ Some cable.q = on.at ∙ ap (λ r. Some r) same in
          let leads : LeadsBy s on.d = subst (λ x. LeadsBy x on.d) here walk.by in
          record {
            c = on.d;
            found = ap (λ x. channel_at t x port) (sym cable.tail) ∙ ap (λ p. channel_at t cable.q.tail.0 p) (sym cable.at_port) ∙ channels_are_found t on.d cable.q good at;
            marked = leads.marked;
            by = inl leads;
          }
      by (inr same) =
          let i : (i : ℕ) × (slice_get t.channels i ≡ Some cable.q) = place_of_in t.channels cable.q cable.inside in
          let at : slice_get t.channels on.d ≡ Some (reversed cable.q) = on.at ∙ ap (λ r. Some r) same in
          let to_tip : walk.v ≡ tip t i.0 = sym walk.tail ∙ ap (λ (r : ChannelRow). r.tail.0) (row_is ∙ same) ∙ sym (ap tip_of_row i.1) in
          let back : IsReverse t i.0 on.d = is_reverse (slice_get t.channels i.0) i.1 at in
          record {
            c = i.0;
            found = ap (λ x. channel_at t x port) (sym cable.tail) ∙ ap (λ p. channel_at t cable.q.tail.0 p) (sym cable.at_port) ∙ channels_are_found t i.0 cable.q good i.1;
            marked = subst (λ x. is_passed passed x ≡ true) (ap tip_of_row at ∙ cable.tail) walk.tip_marked;
            by = inr (on.d, back, subst (λ x. LeadsBy x on.d) to_tip walk.by);
          }
        where
          is_reverse : (o : Option ChannelRow) → o ≡ Some cable.q → slice_get t.channels on.d ≡ Some (reversed cable.q) → IfSome o (λ row. slice_get t.channels on.d ≡ Some (reversed row))
          is_reverse None none at = absurd (cc)
          is_reverse (Some r) some at = at ∙ ap (λ x. Some (reversed x)) (sym (same_Some r cable.q some))

  -- ---- what the code asks

  pub tree_port_channel : (s port : ℕ) → s < length t.switches → is_tree_port t f members s port ≡ true → (c : ℕ) × (channel_at t s port ≡ Some c)
  tree_port_channel s port low e = let r : IsReachedBy s port = reached_by s port low e in (r.c, r.found)

  pub tree_port_own : (s port c : ℕ) → channel_at t s port ≡ Some c → leads_by f homes passed s c ≡ true → is_tree_port t f members s port ≡ true
  tree_port_own s port c found here =
      let there : (row : ChannelRow) × (c < length t.channels) × (slice_get t.channels c ≡ Some row) × (row.tail.0 ≡ s) × (row.port ≡ port) = channel_found t s port c found in
      port_on s c there.0 s port (from_leads s c here) there.2 (or_left (leaves_by s port there.0) (leaves_by s port (reversed there.0)) (leaves_at there.0 s port there.3 there.4))

  pub tree_port_missing : (s port : ℕ) → s < length t.switches → channel_at t s port ≡ None → is_tree_port t f members s port ≡ false
  tree_port_missing s port low none = false_from (is_tree_port t f members s port) (λ e. let r : IsReachedBy s port = reached_by s port low e in none-some r.c (sym none ∙ r.found))

  pub tree_port_told : (s port c d : ℕ) → s < length t.switches → channel_at t s port ≡ Some c → IsReverse t c d → is_tree_port t f members s port ≡ (leads_by f homes passed s c || leads_by f homes passed (tip t c) d)
  tree_port_told s port c d low found back = same_bool (is_tree_port t f members s port) (leads_by f homes passed s c || leads_by f homes passed (tip t c) d) to from
    where
      there : (row : ChannelRow) × (c < length t.channels) × (slice_get t.channels c ≡ Some row) × (row.tail.0 ≡ s) × (row.port ≡ port)
      there = channel_found t s port c found

      back_row : slice_get t.channels d ≡ Some (reversed there.0)
      back_row = subst (λ o. IfSome o (λ (row : ChannelRow). slice_get t.channels d ≡ Some (reversed row))) there.2 back

      one_channel : (x y : ℕ) (row : ChannelRow) → slice_get t.channels x ≡ Some row → slice_get t.channels y ≡ Some row → x ≡ y
      one_channel x y row p q = same_Some x y (sym (channels_are_found t x row good p) ∙ channels_are_found t y row good q)

      to : is_tree_port t f members s port ≡ true → (leads_by f homes passed s c || leads_by f homes passed (tip t c) d) ≡ true
      to e =
          let r : IsReachedBy s port = reached_by s port low e in
          let same : r.c ≡ c = same_Some r.c c (sym r.found ∙ found) in
          elim r.by [
            | inl by ↦ or_left (leads_by f homes passed s c) (leads_by f homes passed (tip t c) d) (leads_from s c (subst (λ x. LeadsBy s x) same by))
            | inr by ↦
                (let again : slice_get t.channels by.0 ≡ Some (reversed there.0) = subst (λ o. IfSome o (λ (row : ChannelRow). slice_get t.channels by.0 ≡ Some (reversed row))) (ap (λ x. slice_get t.channels x) same ∙ there.2) by.1 in
                let one : by.0 ≡ d = one_channel by.0 d (reversed there.0) again back_row in
                or_right (leads_by f homes passed s c) (leads_by f homes passed (tip t c) d) (leads_from (tip t c) d (subst (λ x. LeadsBy (tip t x) d) same (subst (λ y. LeadsBy (tip t r.c) y) one by.2))))
          ]

      from : (leads_by f homes passed s c || leads_by f homes passed (tip t c) d) ≡ true → is_tree_port t f members s port ≡ true
      from e = elim (or_cases (leads_by f homes passed s c) (leads_by f homes passed (tip t c) d) e) [
        | inl here ↦ port_on s c there.0 s port (from_leads s c here) there.2 (or_left (leaves_by s port there.0) (leaves_by s port (reversed there.0)) (leaves_at there.0 s port there.3 there.4))
        | inr far ↦ port_on (tip t c) d (reversed there.0) s port (from_leads (tip t c) d far) back_row (or_right (leaves_by s port (reversed there.0)) (leaves_by s port there.0) (leaves_at there.0 s port there.3 there.4))
      ]

  -- a switch that isn't marked has no port in the tree
  pub unmarked_has_none : (s : ℕ) → s < length t.switches → is_passed passed s ≡ false → group_ports t f members s ≡ []
  unmarked_has_none s low unmarked =
      filter_none (λ port. is_member_port t members s port || is_tree_port t f members s port) (range_with_len 1 254)
      (λ port at. false_from (is_member_port t members s port || is_tree_port t f members s port) (λ e. elim (or_cases (is_member_port t members s port) (is_tree_port t f members s port) e) [
        | inl member ↦ of_member port member
        | inr cable ↦ both unmarked (reached_by s port low cable).marked
      ]))
    where
      both : {b : Bool} → b ≡ false → b ≡ true → ⊥
      both p q = cc

      of_member : (port : ℕ) → is_member_port t members s port ≡ true → ⊥
      of_member port e =
          let m : (m : TerminalRow) × In m (member_rows t members) × (is_cabled_at s port m ≡ true) = from_list_any (is_cabled_at s port) (member_rows t members) e in
          let at : m.0.switch.0 ≡ s = eqb-true m.0.switch.0 s (and_parts (m.0.switch.0 == s) (m.0.port == port) m.2).0 in
          both unmarked (subst (λ x. is_passed passed x ≡ true) at (is.housed m.0 (Contains_from_in (member_rows t members) m.0 m.1)).marked)
