-- The rows that a loop over the links makes.
use Rattle.std.proofs.Common.{◌≡◌, ℕ, ◌+◌, ◌<◌, ◌≤◌, Bool, true, false, cond, List, [], ◌∷◌, ◌++◌, length, get_or, take, map, filter, Some, refl, sym, ap, ◌∙◌, subst, arith}
use Rattle.std.specs.Prelude.{All, filter_map, slice_get, option_map, ◌&&◌, ◌||◌, ◌==◌, nat_lt}
use Rattle.std.specs.Ordering.{is_lt, nat_cmp, ordering_then}
use Rattle.std.proofs.lemmas.Bool.Decides.{nat_tests}
use Rattle.std.specs.List.{cons_option}
use Rattle.std.proofs.lemmas.List.{take_more, take_all, map-append}
use Rattle.std.proofs.lemmas.List.Elements.{filter_map-append, filter-append}
use Rattle.std.proofs.lemmas.Option.{slice_get_read}
use Rattle.fab_model.specs.declared.raw.NodeKind.TheVariants.{Switch}
use Rattle.fab_model.specs.declared.raw.RawNode.{RawNode}
use Rattle.fab_model.specs.declared.raw.RawLink.{RawLink}
use Rattle.fab_model.specs.declared.rows.SwitchRow.{SwitchRow}
use Rattle.fab_model.specs.declared.rows.TerminalRow.{TerminalRow}
use Rattle.fab_model.specs.declared.rows.AdapterRow.{AdapterRow}
use Rattle.fab_model.specs.declared.rows.ChannelRow.{ChannelRow}
use Rattle.fab_model.specs.Records.{Records, AreRecords, Stated, stated, is_switch, is_adapter}
use Rattle.fab_model.specs.InOrder.{in_order}
use Rattle.fab_model.specs.Topology.{Topology}
use Rattle.fab_model.specs.Built.{topology_of}
use Rattle.fab_model.specs.Built as build
use Rattle.fab_model.proofs.Made.Bounds.{stated_link, stated_all}

abbrev pub joins_switches : Stated → Bool
joins_switches one = is_switch one.node.kind && is_switch one.link.far_kind

abbrev pub is_under_adapter : Stated → Bool
is_under_adapter one = is_adapter one.node.kind

-- the rows of some of the links that a test passes
abbrev pub rows_of : {R : Type 0} → (Stated → R) → (Stated → Bool) → Records → List RawLink → List R
rows_of row test records links = map row (filter test (filter_map (stated_link records) links))

-- what stands for a link past the last
abbrev pub no_link : RawLink
no_link = record { line = 0; node = 0; port = 0; far_kind = Switch; far_guid = 0; far_port = 0; port_guid = 0; lid = 0; lmc = 0 }

one_more : {R : Type 0} (row : Stated → R) (test : Stated → Bool) (one : Stated) (b : Bool) → test one ≡ b → map row (filter test (one ∷ [])) ≡ cond b (row one ∷ []) []
one_more row test one true h = ap (λ b. map row (cond b (one ∷ []) [])) h
one_more row test one false h = ap (λ b. map row (cond b (one ∷ []) [])) h

-- The link at a place, as a loop reads it, and its node.
module _ (records : Records) (are : AreRecords records) (nodes : List RawNode) (links : List RawLink) (same_nodes : nodes ≡ records.nodes) (same_links : links ≡ records.links) where
  abbrev pub one_at : ℕ → RawLink → RawNode → Stated
  one_at k d node = record { node = node; link = get_or links k d }

  pub has_node : (k : ℕ) (d : RawLink) → k < length links → (get_or links k d).node < length nodes
  has_node k d below =
      subst (λ ns. (get_or links k d).node < length ns) (sym same_nodes)
      (subst (All (λ link. link.node < length records.nodes)) (sym same_links) are.under k d below)

  pub is_stated : (k : ℕ) (d : RawLink) (node : RawNode) → k < length links → node ≡ get_or nodes (get_or links k d).node node
      → stated_link records (get_or links k d) ≡ Some (one_at k d node)
  is_stated k d node below is =
      let link = get_or links k d in
      ap (λ ns. option_map (λ (n : RawNode). let one : Stated = record { node = n; link = link } in one) (slice_get ns link.node)) (sym same_nodes)
      ∙ ap (option_map (λ (n : RawNode). let one : Stated = record { node = n; link = link } in one)) (slice_get_read nodes (length nodes) link.node node refl (has_node k d below) is)

  -- what holds of each link that is stated
  pub holds_at : (P : Stated → Type 0) → All P (stated records) → (k : ℕ) (d : RawLink) (node : RawNode) → k < length links → node ≡ get_or nodes (get_or links k d).node node → P (one_at k d node)
  holds_at P all k d node below is =
      stated_all P (stated_link records) links k d (one_at k d node) (subst (λ l. All P (filter_map (stated_link records) l)) (sym same_links) all) below (is_stated k d node below is)

  -- one more link
  rows_of-more : {R : Type 0} (row : Stated → R) (test : Stated → Bool) (k : ℕ) (d : RawLink) (node : RawNode) (b : Bool) → k < length links → node ≡ get_or nodes (get_or links k d).node node
      → test (one_at k d node) ≡ b
      → rows_of row test records (take (k + 1) links) ≡ rows_of row test records (take k links) ++ cond b (row (one_at k d node) ∷ []) []
  rows_of-more row test k d node b below is passes =
      let f = stated_link records in
      let one = one_at k d node in
      ap (rows_of row test records) (take_more links k d below)
      ∙ ap (λ l. map row (filter test l)) (filter_map-append f (take k links) (get_or links k d ∷ []))
      ∙ ap (λ o. map row (filter test (filter_map f (take k links) ++ cons_option o []))) (is_stated k d node below is)
      ∙ ap (map row) (filter-append test (filter_map f (take k links)) (one ∷ []))
      ∙ map-append row (filter test (filter_map f (take k links))) (filter test (one ∷ []))
      ∙ ap (λ l. rows_of row test records (take k links) ++ l) (one_more row test one b passes)

  -- the step of a loop that pushes the row of a link that passes
  pub rows_of-step : {R : Type 0} (row : Stated → R) (test : Stated → Bool) (k : ℕ) (d : RawLink) (node : RawNode) (b : Bool) (made rows : List R) → k < length links
      → node ≡ get_or nodes (get_or links k d).node node → test (one_at k d node) ≡ b
      → made ≡ rows_of row test records (take k records.links) → rows ≡ made ++ cond b (row (one_at k d node) ∷ []) []
      → rows ≡ rows_of row test records (take (k + 1) records.links)
  rows_of-step row test k d node b made rows below is passes before after =
      after ∙ ap (λ l. l ++ cond b (row (one_at k d node) ∷ []) []) (before ∙ ap (λ l. rows_of row test records (take k l)) (sym same_links))
      ∙ sym (rows_of-more row test k d node b below is passes)
      ∙ ap (λ l. rows_of row test records (take (k + 1) l)) same_links

-- the channels that a loop over the links made, once they are sorted
pub channel_rows-sorted : (records : Records) (switches : List SwitchRow) (made rows : List ChannelRow) (n : ℕ) → length records.links ≤ n → made ≡ rows_of (build.channel_row switches) joins_switches records (take n records.links)
    → rows ≡ in_order build.by_tail made → rows ≡ build.channel_rows switches records
channel_rows-sorted records switches made rows n all is sorted =
    sorted ∙ ap (in_order build.by_tail) (is ∙ ap (rows_of (build.channel_row switches) joins_switches records) (take_all n records.links all))

-- tails by number, and ports
pub by_tail-compared : (a b : ChannelRow) → is_lt (ordering_then (nat_cmp a.tail.0 b.tail.0) (nat_cmp a.port b.port)) ≡ build.by_tail a b
by_tail-compared a b = less a.tail.0 b.tail.0 a.port b.port
  where
    less : (m n p q : ℕ) → is_lt (ordering_then (nat_cmp m n) (nat_cmp p q)) ≡ (nat_lt m n || (m == n && nat_lt p q))
    less m n p q = grind (arith, nat_tests)

-- the terminals that a loop over the links made, once they are sorted
pub terminal_rows-sorted : (records : Records) (switches : List SwitchRow) (adapters : List AdapterRow) (made rows : List TerminalRow) (n : ℕ) → length records.links ≤ n
    → made ≡ rows_of (build.terminal_row switches adapters) is_under_adapter records (take n records.links)
    → rows ≡ in_order build.by_lid made → rows ≡ build.terminal_rows switches adapters records
terminal_rows-sorted records switches adapters made rows n all is sorted =
    sorted ∙ ap (in_order build.by_lid) (is ∙ ap (rows_of (build.terminal_row switches adapters) is_under_adapter records) (take_all n records.links all))

-- the four lists together
pub made_topology : (records : Records) (switches : List SwitchRow) (adapters : List AdapterRow) (channels : List ChannelRow) (terminals : List TerminalRow)
    → switches ≡ build.switch_rows records → adapters ≡ build.adapter_rows records → channels ≡ build.channel_rows switches records → terminals ≡ build.terminal_rows switches adapters records
    → (let fabric : Topology = record { switches = switches; adapters = adapters; channels = channels; terminals = terminals } in fabric) ≡ topology_of records
unfolding topology_of
made_topology records switches adapters channels terminals s a c t =
    λ i. record {
      switches = s i;
      adapters = a i;
      channels = (c ∙ ap (λ rows. build.channel_rows rows records) s) i;
      terminals = (t ∙ ap (λ rows. build.terminal_rows rows adapters records) s ∙ ap (λ rows. build.terminal_rows (build.switch_rows records) rows records) a) i;
    }
