-- Tables with the same entries where switch and LID are connected have the same text.
use Rattle.std.proofs.Common.{◌≡◌, ℕ, zero, suc, Bool, true, false, List, [], ◌∷◌, ◌++◌, length, refl, sym, ◌∙◌, ap, inl, inr, map}
use Rattle.std.specs.Prelude.{filter, flat_map, codes, if◌then◌else◌}
use Rattle.std.specs.List.{enumerate_from}
use Rattle.fab_model.specs.declared.rows.SwitchRow.{SwitchRow}
use Rattle.fab_model.specs.Topology.{Topology, lids_of}
use Rattle.fab_model.specs.WellFormed.{IsWellFormed}
use Rattle.fab_model.specs.Connected.{AreConnected, IsConnectedTo}
use Rattle.fab_model.proofs.Lists.Members.{In, from_filter}
use Rattle.fab_tables.specs.Certified.{Reaches}
use Rattle.fab_tables.specs.Entries.{Entries, entry}
use Rattle.fab_tables.specs.Route.{Hop, Route, hop_by, tip, after_hop, route_within}
use Rattle.fab_tables.specs.Route.Hop.{Along, Stop}
use Rattle.fab_tables.proofs.Joined.Walks.{connected_back, connected_through}
use Rattle.fab_dump.specs.Writing.{lines_text, table_head_text}
use Rattle.fab_export.specs.Reached.{is_delivered, is_reached}
use Rattle.fab_export.specs.TablesText.{TableRow, table_row, table_rows, table_row_text, exported_block}
use Rattle.fab_export.specs.Laws.{SameTables, SaidReaches}
use Rattle.fab_export.specs.SaidPlan.{entries_said}
use Rattle.fab_export.proofs.SaidEntries.{entries_are_said}
use Rattle.fab_export.proofs.Reaching.{along_leads, delivered_is, delivered_connected, reached_is_connected}

-- lists made alike
map-same : {X Y : Type 0} (f g : X → Y) (xs : List X) → ((x : X) → In x xs → f x ≡ g x) → map f xs ≡ map g xs
map-same f g [] same = refl
map-same f g (x ∷ xs) same = ap (λ y. y ∷ map f xs) (same x (inl refl)) ∙ ap (λ ys. g x ∷ ys) (map-same f g xs (λ y within. same y (inr within)))

filter-same : {X : Type 0} (p q : X → Bool) (xs : List X) → ((x : X) → p x ≡ q x) → filter p xs ≡ filter q xs
filter-same p q [] same = refl
filter-same p q (x ∷ xs) same = ap (λ b. if b then x ∷ filter p xs else filter p xs) (same x) ∙ ap (λ ys. if q x then x ∷ ys else ys) (filter-same p q xs same)

flat_map-same : {X Y : Type 0} (f g : X → List Y) (xs : List X) → ((x : X) → f x ≡ g x) → flat_map f xs ≡ flat_map g xs
flat_map-same f g [] same = refl
flat_map-same f g (x ∷ xs) same = ap (λ ys. ys ++ flat_map f xs) (same x) ∙ ap (λ zs. g x ++ zs) (flat_map-same f g xs same)

module _ (t : Topology) (e f : Entries) (lid : ℕ) (good : IsWellFormed t) (same : (s : ℕ) → IsConnectedTo t s lid → entry f s lid ≡ entry e s lid) where
  -- a connected switch's channel leads to a connected switch
  still_connected : (s c : ℕ) → IsConnectedTo t s lid → hop_by t lid s (entry e s lid) ≡ Along c → IsConnectedTo t (tip t c) lid
  still_connected s c connected is =
      let back : AreConnected t (tip t c) s = connected_back t good s (tip t c) (1, (tip t c, along_leads t lid s (entry e s lid) c is, refl)) in
      (connected.0, connected.1, connected_through t (tip t c) s connected.0.switch.0 back connected.2)

  -- so its route is one
  pub route_same : (n s : ℕ) → IsConnectedTo t s lid → route_within t f lid n s ≡ route_within t e lid n s
  route_same zero s connected = refl
  route_same (suc n) s connected =
      ap (λ port. after_hop t (λ next. route_within t f lid n next) (hop_by t lid s port)) (same s connected)
      ∙ go (hop_by t lid s (entry e s lid)) refl (λ c is. route_same n (tip t c) (still_connected s c connected is))
    where
      go : (hop : Hop) → hop_by t lid s (entry e s lid) ≡ hop →
          ((c : ℕ) → hop_by t lid s (entry e s lid) ≡ Along c → route_within t f lid n (tip t c) ≡ route_within t e lid n (tip t c)) →
          after_hop t (λ next. route_within t f lid n next) hop ≡ after_hop t (λ next. route_within t e lid n next) hop
      go (Stop end) is rest = refl
      go (Along c) is rest = ap (λ (r : Route). record { channels = c ∷ r.channels; end = r.end }) (rest c is)

  pub reached_same : Reaches t e → (s : ℕ) → is_reached t f s lid ≡ is_reached t e s lid
  reached_same reaches s = go (is_reached t f s lid) (is_reached t e s lid) refl refl
    where
      of_connected : IsConnectedTo t s lid → is_reached t f s lid ≡ is_reached t e s lid
      of_connected connected = ap (λ (r : Route). is_delivered r.end) (route_same (length t.switches) s connected)

      go : (a b : Bool) → is_reached t f s lid ≡ a → is_reached t e s lid ≡ b → is_reached t f s lid ≡ is_reached t e s lid
      go true b x y = of_connected (delivered_connected t f lid (length t.switches) s (delivered_is _ x))
      go false true x y = of_connected (delivered_connected t e lid (length t.switches) s (delivered_is _ y))
      go false false x y = x ∙ sym y

pub same_tables : SameTables
same_tables t e f kept fits fits' reaches same =
    ap (λ blocks. lines_text (codes "# fabroute tables" ∷ blocks)) (flat_map-same (exported_block t f) (exported_block t e) (enumerate_from 0 t.switches) block)
  where
    reached : (s lid : ℕ) → is_reached t f s lid ≡ is_reached t e s lid
    reached s lid = reached_same t e f lid kept.rows (λ x c. same x lid c) reaches s

    row : (s lid : ℕ) → In lid (filter (is_reached t e s) (lids_of t)) → table_row t f s lid ≡ table_row t e s lid
    row s lid within =
        let is : is_reached t e s lid ≡ true = (from_filter (is_reached t e s) (lids_of t) lid within).1 in
        ap (λ port. record (table_row t e s lid) { port = port }) (same s lid ((reached_is_connected t e s lid reaches).0 is))

    rows : (s : ℕ) → table_rows t f s ≡ table_rows t e s
    rows s = ap (map (table_row t f s)) (filter-same (is_reached t f s) (is_reached t e s) (lids_of t) (reached s))
        ∙ map-same (table_row t f s) (table_row t e s) (filter (is_reached t e s) (lids_of t)) (row s)

    block : (x : ℕ × SwitchRow) → exported_block t f x ≡ exported_block t e x
    block x = ap (λ (some : List TableRow). table_head_text (lids_of t) x.1 ∷ map table_row_text some) (rows x.0)

pub said_reaches : SaidReaches
said_reaches t e kept fits reaches s lid connected =
    ap (λ (r : Route). r.end) (route_same t e (entries_said t e) lid kept.rows (λ x c. (entries_are_said t e kept fits reaches).there x lid c) (length t.switches) s connected) ∙ reaches s lid connected
