-- A search from channel to channel.
use Rattle.std.proofs.Common.{◌≡◌, ◌≢◌, ℕ, zero, suc, ◌+◌, ◌<◌, ◌≤◌, true, false, List, [], ◌∷◌, ◌++◌, length, take, All, Contains, slice_get, slice_index, slice_index_or, Some, refl, sym, ◌∙◌, ap, subst, inl, inr, arith, replicate, length-append, length-set}
use Rattle.std.specs.List.{sum_by}
use Rattle.std.proofs.lemmas.Bool.{cases_lt}
use Rattle.std.proofs.lemmas.List.{length-map, get_or_append_left, get_or_default, get_or-replicate, length-replicate, take-append-le, take_more}
use Rattle.std.proofs.lemmas.List.Elements.{All-append}
use Rattle.std.proofs.lemmas.List.Sums.{sum_by_push, sum_by-take-le}
use Rattle.std.proofs.lemmas.Option.{slice_get_within, get_or_from_slice_get}
use Rattle.fab_model.specs.declared.rows.ChannelId.{ChannelId}
use Rattle.fab_model.specs.Topology.{channel_id}
use Rattle.fab_graph.specs.Walks.{Walk}
use Rattle.fab_graph.proofs.Walks.{walk_through}
use Rattle.fab_depgraph.specs.Edges.{Row, row_at, channels_of}
use Rattle.fab_depgraph.specs.Order.{is_reached}
use Rattle.fab_depgraph.specs.Search.{Search, IsSearch, no_search, with_found, Precedes, FindsMore, AreFound, edges_from, AreRising, IsClosed, IsShort}
use Rattle.fab_depgraph.proofs.Searching.Along.{found_now}

-- an element that stands in a list is met by what holds of all
pub known_of : {X : Type 0} (P : X → Type 0) (xs : List X) (x : X) → All P xs → Contains xs x → P x
known_of P xs x each here = subst P here.2 (each here.0 x here.1)

pub marked_still : (s t : Search) → IsSearch s → IsSearch t → (added : List ChannelId) → t.found ≡ s.found ++ added → (c : ℕ) → is_reached s.marks c ≡ true → is_reached t.marks c ≡ true
marked_still s t search later added grown c was =
    let here = search.marked c was in
    let at : slice_index_or t.found here.0 (channel_id c) ≡ channel_id c = ap (λ (xs : List ChannelId). slice_index_or xs here.0 (channel_id c)) grown ∙ (get_or_append_left s.found added (channel_id c) here.0 here.1 ∙ here.2) in
    known_of (λ channel. is_reached t.marks channel.0 ≡ true) t.found (channel_id c) later.known (here.0, omega (arith, here.1, ap (length {A = ChannelId}) grown, length-append s.found added), at)

All-one : {X : Type 0} (P : X → Type 0) (x : X) → P x → All P (x ∷ [])
All-one P x one zero d k_in = one
All-one P x one (suc k) d k_in = absurd (omega arith)

module _ (rows : List Row) (numbers : List ℕ) (from last : ℕ) where
  abbrev pub LiesBetween : ChannelId → Type 0
  LiesBetween channel = (channel.0 < length numbers) × (slice_index numbers from ≤ slice_index numbers channel.0) × (slice_index numbers channel.0 < slice_index numbers last)

  abbrev pub IsWalkedTo : ChannelId → Type 0
  IsWalkedTo channel = (n : ℕ) × Walk (Precedes rows) n from channel.0

  -- a search that looked along the edges of so many found channels, with so many steps
  pub record IsGoing (s : Search) (next taken : ℕ) : Type 0 where
    pub kept : IsSearch s
    pub each : length s.marks ≡ length numbers
    pub begins : is_reached s.marks from ≡ true
    pub walks : All IsWalkedTo s.found
    pub between : All LiesBetween s.found
    pub done : (k : ℕ) (d : ChannelId) → k < next → AreFound s (channels_of (row_at rows (slice_index_or s.found k d).0)) numbers last (slice_index numbers last)
    pub behind : next ≤ length s.found
    pub few : taken ≤ edges_from rows (take next s.found)

  pub going_first : (s : Search) (channel : ChannelId) → channel.0 ≡ from → from < length numbers → slice_index numbers from < slice_index numbers last → IsSearch s → s ≡ with_found (no_search (length numbers)) channel → IsGoing s 0 0
  going_first s channel same within below search is =
      let new : is_reached (no_search (length numbers)).marks channel.0 ≡ false = get_or-replicate (length numbers) channel.0 false false (omega (arith, same, within)) in
      let found : s.found ≡ channel ∷ [] = ap (λ (s : Search). s.found) is ∙ rw new refl in
      let each : length s.marks ≡ length numbers = ap (λ (s : Search). length s.marks) is ∙ rw new (length-set (replicate (length numbers) false) channel.0 true ∙ length-replicate (length numbers) false) in
      let now : is_reached s.marks channel.0 ≡ true = ap (λ (s : Search). is_reached s.marks channel.0) is ∙ found_now (no_search (length numbers)) channel (omega (arith, same, within, length-replicate (length numbers) false)) in
      record {
        kept = search;
        each = each;
        begins = ap (is_reached s.marks) (sym same) ∙ now;
        walks = subst (All IsWalkedTo) (sym found) (All-one IsWalkedTo channel (0, sym same));
        between = subst (All LiesBetween) (sym found) (All-one LiesBetween channel (subst (λ c. (c < length numbers) × (slice_index numbers from ≤ slice_index numbers c) × (slice_index numbers c < slice_index numbers last)) (sym same) (within, omega arith, below)));
        done = λ k d k_in. absurd (omega arith);
        behind = omega arith;
        few = omega arith;
      }

  module _ (rising : AreRising rows numbers) (s : Search) (next taken : ℕ) (going : IsGoing s next taken) (channel : ChannelId) (here : slice_get s.found next ≡ Some channel) where
    abbrev bound : ℕ
    bound = slice_index numbers last

    abbrev row : List ChannelId
    row = channels_of (row_at rows channel.0)

    within : next < length s.found
    within = slice_get_within s.found next channel here

    at_next : (d : ChannelId) → slice_index_or s.found next d ≡ channel
    at_next d = get_or_from_slice_get s.found next channel d here

    walked : IsWalkedTo channel
    walked = subst IsWalkedTo (at_next channel) (going.walks next channel within)

    lies : LiesBetween channel
    lies = subst LiesBetween (at_next channel) (going.between next channel within)

    pub row_known : All (λ c. c.0 < length numbers) row
    row_known k d k_in = rising.within channel.0 (slice_index_or row k d).0 (k, k_in, get_or_default row k (slice_index_or row k d) d k_in)

    step_to : (c : ChannelId) → Contains row c → IsWalkedTo c
    step_to c there = (walked.0 + 1, walk_through (Precedes rows) walked.0 1 from channel.0 c.0 walked.1 (c.0, there, refl))

    pub comes_to : (c : ChannelId) → c.0 ≡ last → Contains row c → (n : ℕ) × Walk (Precedes rows) n from last
    comes_to c same there = subst (λ c. (n : ℕ) × Walk (Precedes rows) n from c) same (step_to c there)

    module _ (t : Search) (finds : FindsMore s t row numbers bound) (later : IsSearch t) where
      grown : length t.found ≡ length s.found + length finds.added
      grown = ap (length {A = ChannelId}) finds.found ∙ length-append s.found finds.added

      between_now : All LiesBetween t.found
      between_now = subst (All LiesBetween) (sym finds.found) (All-append LiesBetween s.found finds.added going.between (λ k d k_in.
          let was = finds.among k d k_in in
          let c = (slice_index_or finds.added k d).0 in
          (rising.within channel.0 c was.0, omega (arith, lies.1, rising.rise channel.0 c was.0), was.1)))

      walks_now : All IsWalkedTo t.found
      walks_now = subst (All IsWalkedTo) (sym finds.found) (All-append IsWalkedTo s.found finds.added going.walks (λ k d k_in. step_to (slice_index_or finds.added k d) (finds.among k d k_in).0))

      front : take (next + 1) t.found ≡ take next s.found ++ channel ∷ []
      front =
          let longer : next + 1 ≤ length s.found = omega (arith, within) in
          ap (take (next + 1)) finds.found ∙ (take-append-le (next + 1) s.found finds.added longer ∙ (take_more s.found next channel within ∙ ap (λ (c : ChannelId). take next s.found ++ c ∷ []) (at_next channel)))

      few_now : (more : ℕ) → more ≤ length row → taken + more ≤ edges_from rows (take (next + 1) t.found)
      few_now more short =
          let count : ChannelId → ℕ = λ c. length (row_at rows c.0) in
          let long : length row ≡ length (row_at rows channel.0) = length-map (row_at rows channel.0) (λ edge. channel_id edge.0) in
          omega (arith, going.few, short, long, ap (sum_by count) front, sum_by_push count (take next s.found) channel)

      pub short_now : (more : ℕ) → more ≤ length row → IsShort rows numbers from last t (taken + more)
      short_now more short = record {
        between = between_now;
        differ = later.differ;
        few = omega (arith, few_now more short, sum_by-take-le (λ (c : ChannelId). length (row_at rows c.0)) t.found (next + 1));
      }

      found_before : (k : ℕ) (d : ChannelId) → k < length s.found → slice_index_or t.found k d ≡ slice_index_or s.found k d
      found_before k d k_in = ap (λ (xs : List ChannelId). slice_index_or xs k d) finds.found ∙ get_or_append_left s.found finds.added d k k_in

      pub going_on : (more : ℕ) → more ≤ length row → AreFound t row numbers last bound → IsGoing t (next + 1) (taken + more)
      going_on more short passes = record {
        kept = later;
        each = finds.each ∙ going.each;
        begins = marked_still s t going.kept later finds.added finds.found from going.begins;
        walks = walks_now;
        between = between_now;
        done = λ k d k_in. elim (cases_lt k next) [
          | inl before ↦
              subst (λ (c : ChannelId). AreFound t (channels_of (row_at rows c.0)) numbers last bound) (sym (found_before k d (omega (arith, before, within))))
              (λ j e j_in. (let was = going.done k d before j e j_in in (was.0, λ below. marked_still s t going.kept later finds.added finds.found (slice_index_or (channels_of (row_at rows (slice_index_or s.found k d).0)) j e).0 (was.1 below))))
          | inr after ↦
              let same : k ≡ next = omega arith in
              let at : slice_index_or t.found k d ≡ channel = ap (λ j. slice_index_or t.found j d) same ∙ (found_before next d within ∙ at_next d) in
              subst (λ (c : ChannelId). AreFound t (channels_of (row_at rows c.0)) numbers last bound) (sym at) passes
        ];
        behind = omega (arith, within, grown);
        few = few_now more short;
      }

  module _ (s : Search) (next taken : ℕ) (going : IsGoing s next taken) (over : length s.found ≤ next) where
    pub going_closed : IsClosed rows numbers from last s
    going_closed =
        let passes : (a b : ℕ) → is_reached s.marks a ≡ true → Precedes rows a b → (b ≢ last) × (slice_index numbers b < slice_index numbers last → is_reached s.marks b ≡ true) = λ a b marked edge.
        let here = going.kept.marked a marked in
        let found : AreFound s (channels_of (row_at rows a)) numbers last (slice_index numbers last) = subst (λ (c : ChannelId). AreFound s (channels_of (row_at rows c.0)) numbers last (slice_index numbers last)) here.2 (going.done here.0 (channel_id a) (omega (arith, here.1, over))) in
        known_of (λ channel. (channel.0 ≢ last) × (slice_index numbers channel.0 < slice_index numbers last → is_reached s.marks channel.0 ≡ true)) (channels_of (row_at rows a)) (channel_id b) found edge in
        record {
          begins = going.begins;
          between = λ c marked. (let lies = known_of LiesBetween s.found (channel_id c) going.between (going.kept.marked c marked) in (lies.1, lies.2));
          goes_on = λ a b marked edge below. (passes a b marked edge).1 below;
          misses = λ a b marked edge. (passes a b marked edge).0;
        }

    pub going_short : IsShort rows numbers from last s taken
    going_short = record {
      between = going.between;
      differ = going.kept.differ;
      few = omega (arith, going.few, sum_by-take-le (λ (c : ChannelId). length (row_at rows c.0)) s.found next);
    }
