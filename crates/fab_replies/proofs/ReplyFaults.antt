-- The first reply that has a bad lane, found LID by LID.
use Rattle.std.proofs.Common.{◌≡◌, ℕ, ◌<◌, ◌≤◌, Bool, List, [], ◌∷◌, length, refl, sym, ◌∙◌, ap, subst, inl, inr, arith, Contains, Some, None, slice_get}
use Rattle.std.proofs.lemmas.Option.{slice_get_within, get_or_from_slice_get}
use Rattle.fab_model.specs.declared.rows.Lid.{Lid}
use Rattle.fab_model.specs.declared.rows.Place.{Place}
use Rattle.fab_model.specs.declared.rows.SwitchId.{SwitchId}
use Rattle.fab_model.specs.declared.rows.TerminalRow.{TerminalRow}
use Rattle.fab_model.specs.Topology.{Topology, lids_of, lid_id}
use Rattle.fab_model.specs.WellFormed.{IsFabric}
use Rattle.fab_tables.specs.declared.verdict.VirtualChannel.{VirtualChannel}
use Rattle.fab_tables.specs.Entries.{Entries}
use Rattle.fab_tables.specs.First.{IsBefore, IsFirst, FindsFirst, Beneath}
use Rattle.fab_tables.specs.LaneTables.{LaneTables}
use Rattle.fab_tables.proofs.Faults.Firsts.{first_beneath}
use Rattle.fab_tables.proofs.Joined.Ascending.{lids_are}
use Rattle.fab_tables.proofs.Joined.Lids.{connected_in_use, lesser_first}
use Rattle.fab_tables.proofs.Verdicts.CertifiedLaws.{get_of}
use Rattle.fab_certify.specs.Collected.{Collected}
use Rattle.fab_replies.specs.declared.replied.Replied.{Replied}
use Rattle.fab_replies.specs.declared.replied.Replied.TheVariants.{Numbers, Refused, BadLane, RingReplies}
use Rattle.fab_replies.specs.Replies.{IsReply, reply_hops}
use Rattle.fab_replies.specs.Answers.{IsFaultAt}
use Rattle.fab_replies.specs.Jointly.{IsFirstBad}
use Rattle.fab_replies.specs.ReplyTo.{HasReply, IsBadReply, HasReplies}
use Rattle.fab_replies.proofs.Sending.{AreRepliesFrom, AreCollectedTo, one_reply, terminal_in_use}

-- what a fault says
record IsBad (t : Topology) (e : Entries) (l : LaneTables) (place : List ℕ) : Type 0 where
  terminal : TerminalRow
  from : ℕ
  source : Place
  hop : ℕ
  taken : VirtualChannel
  is_place : place ≡ terminal.lid.0 ∷ from ∷ hop ∷ []
  reply : IsReply t terminal from source
  at_hop : slice_get (reply_hops t e l terminal from source) hop ≡ Some taken
  bad : l.count ≤ taken.lane

told : (t : Topology) (e : Entries) (l : LaneTables) (place : List ℕ) (fault : Replied) → IsFaultAt t e l place fault → IsBad t e l place
told t e l place (Numbers n) f = absurd f
told t e l place (Refused n) f = absurd f
told t e l place (RingReplies n) f = absurd f
told t e l place (BadLane lid from at) f = record {
  terminal = f.terminal;
  from = from.0;
  source = f.source;
  hop = f.hop;
  taken = f.taken;
  is_place = f.is_place ∙ ap (λ (k : Lid). k.0 ∷ from.0 ∷ f.hop ∷ []) (sym f.to_lid);
  reply = f.reply;
  at_hop = f.at_hop;
  bad = f.bad;
}

heads : (m n : ℕ) (ms ns : List ℕ) → m ∷ ms ≡ n ∷ ns → (m ≡ n) × (ms ≡ ns)
heads m n ms ns same = (cc, cc)

module _ (t : Topology) (e : Entries) (l : LaneTables) (fabric : IsFabric t) where
  abbrev P : List ℕ → Replied → Type 0
  P = IsFaultAt t e l

  -- a reply that is collected has no fault
  none_in : (lid from : ℕ) (c : Collected) (place : List ℕ) (bad : IsBad t e l place) → bad.terminal.lid.0 ≡ lid → bad.from ≡ from → ¬ HasReply t e l lid from c
  none_in lid from c place bad is_lid is_from has =
      let reply : IsReply t bad.terminal from bad.source = subst (λ n. IsReply t bad.terminal n bad.source) is_from bad.reply in
      let at : slice_get (reply_hops t e l bad.terminal from bad.source) bad.hop ≡ Some bad.taken = subst (λ n. slice_get (reply_hops t e l bad.terminal n bad.source) bad.hop ≡ Some bad.taken) is_from bad.at_hop in
      omega (arith, bad.bad, (has bad.terminal bad.source is_lid reply).good bad.hop bad.taken at)

  -- where all replies to a LID are collected, none has a fault
  pub none_to_lid : (lid : ℕ) (c : Collected) → HasReplies t e l lid c → FindsFirst (Beneath (lid ∷ []) P) None
  none_to_lid lid c has place fault f =
      let bad : IsBad t e l (lid ∷ place) = told t e l (lid ∷ place) fault f in
      let same : (lid ≡ bad.terminal.lid.0) × (place ≡ bad.from ∷ bad.hop ∷ []) = heads lid bad.terminal.lid.0 place (bad.from ∷ bad.hop ∷ []) bad.is_place in
      none_in lid bad.from c (lid ∷ place) bad (sym same.0) refl (has bad.from)

  -- LIDs ascend
  index_below : (index lid k other : ℕ) → slice_get (lids_of t) index ≡ Some lid → (has : Contains (lids_of t) other) → has.0 ≡ k → other < lid → k < index
  index_below index lid k other at has is less =
      omega (arith, is, lesser_first (lids_of t) index other (lids_are t fabric).ascending has (slice_get_within (lids_of t) index lid at) (omega (arith, less, get_or_from_slice_get (lids_of t) index lid other at)))

  -- the first bad hop of the first bad reply to a LID is the first fault there
  module _ (lid from : Lid) (index : ℕ) (at_index : slice_get (lids_of t) index ≡ Some from.0) (old now : Collected) (so_far : AreRepliesFrom t e l lid.0 old now index) (at : SwitchId)
      (reply : IsBadReply t e l lid.0 from.0 at) where
    first_bad : IsFirstBad t l (reply_hops t e l reply.0 from.0 reply.1) at
    first_bad = reply.4

    here : P (lid.0 ∷ from.0 ∷ first_bad.hop ∷ []) (BadLane lid from at)
    here = record {
      terminal = reply.0;
      source = reply.1;
      hop = first_bad.hop;
      taken = first_bad.taken;
      is_place = refl;
      reply = reply.3;
      to_lid = ap lid_id reply.2;
      at_hop = first_bad.at_hop;
      leaves = first_bad.leaves;
      bad = first_bad.bad;
    }

    -- from LIDs below, all replies are good
    from_below : (earlier : List ℕ) (bad : IsBad t e l (lid.0 ∷ earlier)) → lid.0 ≡ bad.terminal.lid.0 → bad.from < from.0 → ⊥
    from_below earlier bad is_lid less =
        let in_use : Contains (lids_of t) bad.from = connected_in_use t bad.terminal.switch.0 bad.from bad.reply.path.connected in
        none_in lid.0 bad.from now (lid.0 ∷ earlier) bad (sym is_lid) refl
        (so_far.has in_use.0 bad.from (index_below index from.0 in_use.0 bad.from at_index in_use refl less) (get_of (lids_of t) in_use.0 bad.from in_use.1 in_use.2))

    -- and so are the hops before
    hop_before : (earlier : List ℕ) (bad : IsBad t e l (lid.0 ∷ earlier)) → lid.0 ≡ bad.terminal.lid.0 → bad.from ≡ from.0 → bad.hop < first_bad.hop → ⊥
    hop_before earlier bad is_lid is_from less =
        let other : IsReply t bad.terminal from.0 bad.source = subst (λ n. IsReply t bad.terminal n bad.source) is_from bad.reply in
        let one : (bad.terminal ≡ reply.0) × (bad.source ≡ reply.1) = one_reply t fabric lid.0 from.0 bad.terminal reply.0 bad.source reply.1 (sym is_lid) reply.2 other reply.3 in
        let by_from : slice_get (reply_hops t e l bad.terminal from.0 bad.source) bad.hop ≡ Some bad.taken =
        subst (λ n. slice_get (reply_hops t e l bad.terminal n bad.source) bad.hop ≡ Some bad.taken) is_from bad.at_hop in
        let by_terminal : slice_get (reply_hops t e l reply.0 from.0 bad.source) bad.hop ≡ Some bad.taken =
        subst (λ (q : TerminalRow). slice_get (reply_hops t e l q from.0 bad.source) bad.hop ≡ Some bad.taken) one.0 by_from in
        let by_source : slice_get (reply_hops t e l reply.0 from.0 reply.1) bad.hop ≡ Some bad.taken =
        subst (λ (f : Place). slice_get (reply_hops t e l reply.0 from.0 f) bad.hop ≡ Some bad.taken) one.1 by_terminal in
        omega (arith, bad.bad, first_bad.none_before bad.hop bad.taken less by_source)

    none_before : (earlier : List ℕ) (other : Replied) → IsBefore earlier (from.0 ∷ first_bad.hop ∷ []) → ¬ P (lid.0 ∷ earlier) other
    none_before earlier other before f =
        let bad : IsBad t e l (lid.0 ∷ earlier) = told t e l (lid.0 ∷ earlier) other f in
        let same : (lid.0 ≡ bad.terminal.lid.0) × (earlier ≡ bad.from ∷ bad.hop ∷ []) = heads lid.0 bad.terminal.lid.0 earlier (bad.from ∷ bad.hop ∷ []) bad.is_place in
        by bad same.0 (subst (λ ms. IsBefore ms (from.0 ∷ first_bad.hop ∷ [])) same.1 before)
      where
        by_hop : (bad : IsBad t e l (lid.0 ∷ earlier)) → lid.0 ≡ bad.terminal.lid.0 → bad.from ≡ from.0 → IsBefore (bad.hop ∷ []) (first_bad.hop ∷ []) → ⊥
        by_hop bad is_lid is_from (inl less) = hop_before earlier bad is_lid is_from less
        by_hop bad is_lid is_from (inr x) = x.1

        by : (bad : IsBad t e l (lid.0 ∷ earlier)) → lid.0 ≡ bad.terminal.lid.0 → IsBefore (bad.from ∷ bad.hop ∷ []) (from.0 ∷ first_bad.hop ∷ []) → ⊥
        by bad is_lid (inl less) = from_below earlier bad is_lid less
        by bad is_lid (inr x) = by_hop bad is_lid x.0 x.1

    pub first_to_lid : IsFirst (Beneath (lid.0 ∷ []) P) (BadLane lid from at)
    first_to_lid = (from.0 ∷ first_bad.hop ∷ [], here, none_before)

  -- a fault stands at a LID, a LID and a hop
  none_empty : (fault : Replied) → ¬ P [] fault
  none_empty fault f = let bad : IsBad t e l [] = told t e l [] fault f in absurd (omega (arith, ap (λ (xs : List ℕ). length xs) bad.is_place))

  -- what is first for a LID is first of all, where the replies to all LIDs below are collected
  pub first_of_all : (marks : List Bool) (c : Collected) (index lid : ℕ) → slice_get (lids_of t) index ≡ Some lid → AreCollectedTo t e l marks c index → (fault : Replied) →
      IsFirst (Beneath (lid ∷ []) P) fault → IsFirst P fault
  first_of_all marks c index lid at so_far fault first = first_beneath P none_empty lid fault first none
    where
      none : (m : ℕ) → m < lid → FindsFirst (Beneath (m ∷ []) P) None
      none m less place other f =
          let bad : IsBad t e l (m ∷ place) = told t e l (m ∷ place) other f in
          let same : (m ≡ bad.terminal.lid.0) × (place ≡ bad.from ∷ bad.hop ∷ []) = heads m bad.terminal.lid.0 place (bad.from ∷ bad.hop ∷ []) bad.is_place in
          let in_use : Contains (lids_of t) bad.terminal.lid.0 = terminal_in_use t fabric bad.terminal bad.reply.path.terminal in
          let low : in_use.0 < index = index_below index lid in_use.0 bad.terminal.lid.0 at in_use refl (omega (arith, less, same.0)) in
          none_in bad.terminal.lid.0 bad.from c (m ∷ place) bad refl refl (so_far.replies in_use.0 bad.terminal.lid.0 low (get_of (lids_of t) in_use.0 bad.terminal.lid.0 in_use.1 in_use.2) bad.from)
