-- What is said one after the other, as writes to the lists of tables and lanes.
use Rattle.std.proofs.Common.{◌≡◌, ℕ, ◌+◌, List, [], ◌∷◌, refl, sym, ◌∙◌, ap, Option, Some, None}
use Rattle.std.specs.Prelude.{fold, flat_map}
use Rattle.std.proofs.lemmas.List.Sums.{fold-append}
use Rattle.fab_tables.specs.declared.lanes.PairRow.{PairRow}
use Rattle.fab_tables.specs.Entries.{Entries, index_of, cell, with_port_in_column}
use Rattle.fab_tables.specs.LaneTables.{LaneTables, with_level_in_column, with_lane, with_pair_row}
use Rattle.fab_dump.specs.Given.{Given, plan_with, lanes_with, tables_with, with_lanes}
use Rattle.fab_dump.specs.Given.Given.{TableBlock, Port, LevelBlock, Level, MapBlock, Map, PairMap, Certificate, Number}
use Rattle.fab_dump.proofs.Round.Writes.{write_all, write_all-append}

-- a write of a switch's cell, in the column of a LID
abbrev pub column_write : {X : Type 0} → ℕ → ℕ → X → Option ℕ → List (ℕ × X)
column_write switches s new None = []
column_write switches s new (Some i) = (cell switches i s, new) ∷ []

abbrev pub port_write : ℕ → List ℕ → Given → List (ℕ × ℕ)
port_write switches in_use (Port s lid port) = column_write switches s port (index_of lid in_use)
port_write switches in_use _ = []

abbrev pub level_write : ℕ → List ℕ → Given → List (ℕ × Option ℕ)
level_write switches in_use (Level s lid level) = column_write switches s level (index_of lid in_use)
level_write switches in_use _ = []

abbrev pub lane_writes : ℕ → ℕ → List ℕ → List (ℕ × ℕ)
lane_writes s level [] = []
lane_writes s level (lane ∷ lanes) = (cell 16 s level, lane) ∷ lane_writes s (level + 1) lanes

abbrev pub map_write : Given → List (ℕ × ℕ)
map_write (Map s lanes) = lane_writes s 0 lanes
map_write _ = []

abbrev pub pair_of : Given → List PairRow
pair_of (PairMap row) = row ∷ []
pair_of _ = []

abbrev pub number_write : Given → List (ℕ × ℕ)
number_write (Number channel lane number) = (cell 15 channel lane, number) ∷ []
number_write _ = []

-- ---- tables

table_step : (e : Entries) (new : Given) → tables_with e new ≡ record e { ports = write_all e.ports (port_write e.switches e.in_use new) }
table_step e (TableBlock s) = refl
table_step e (Port s lid port) = go (index_of lid e.in_use)
  where
    go : (place : Option ℕ) → with_port_in_column e s port place ≡ record e { ports = write_all e.ports (column_write e.switches s port place) }
    go None = refl
    go (Some i) = refl
table_step e (LevelBlock s) = refl
table_step e (Level s lid level) = refl
table_step e (MapBlock s) = refl
table_step e (Map s lanes) = refl
table_step e (PairMap row) = refl
table_step e Certificate = refl
table_step e (Number channel lane number) = refl

pub tables_fold : (e : Entries) (given : List Given) → fold tables_with e given ≡ record e { ports = write_all e.ports (flat_map (port_write e.switches e.in_use) given) }
tables_fold e [] = refl
tables_fold e (new ∷ given) =
    tables_fold (tables_with e new) given
    ∙ ap (λ (x : Entries). record x { ports = write_all x.ports (flat_map (port_write x.switches x.in_use) given) }) (table_step e new)
    ∙ ap (λ (ports : List ℕ). record e { ports = ports }) (sym (write_all-append e.ports (port_write e.switches e.in_use new) (flat_map (port_write e.switches e.in_use) given)))

-- ---- lanes

-- the lanes with other lists
abbrev pub relisted : LaneTables → List (Option ℕ) → List ℕ → List PairRow → List ℕ → LaneTables
relisted l levels general pairs numbers = record l { levels = levels; general = general; pairs = pairs; numbers = numbers }

abbrev pub lanes_written : LaneTables → List Given → LaneTables
lanes_written l given = relisted l (write_all l.levels (flat_map (level_write l.switches l.in_use) given)) (write_all l.general (flat_map map_write given))
    (fold with_pair_row l.pairs (flat_map pair_of given)) (write_all l.numbers (flat_map number_write given))

abbrev lanes_stepped : LaneTables → Given → LaneTables
lanes_stepped l new = relisted l (write_all l.levels (level_write l.switches l.in_use new)) (write_all l.general (map_write new)) (fold with_pair_row l.pairs (pair_of new)) (write_all l.numbers (number_write new))

map_written : (l : LaneTables) (s level : ℕ) (lanes : List ℕ) → with_lanes l s level lanes ≡ relisted l l.levels (write_all l.general (lane_writes s level lanes)) l.pairs l.numbers
map_written l s level [] = refl
map_written l s level (lane ∷ lanes) = map_written (with_lane l s level lane) s (level + 1) lanes

lane_step : (l : LaneTables) (new : Given) → lanes_with l new ≡ lanes_stepped l new
lane_step l (TableBlock s) = refl
lane_step l (Port s lid port) = refl
lane_step l (LevelBlock s) = refl
lane_step l (Level s lid level) = go (index_of lid l.in_use)
  where
    go : (place : Option ℕ) → with_level_in_column l s level place ≡ relisted l (write_all l.levels (column_write l.switches s level place)) l.general l.pairs l.numbers
    go None = refl
    go (Some i) = refl
lane_step l (MapBlock s) = refl
lane_step l (Map s lanes) = map_written l s 0 lanes
lane_step l (PairMap row) = refl
lane_step l Certificate = refl
lane_step l (Number channel lane number) = refl

pub same_lists_of : (l : LaneTables) (a b : List (Option ℕ)) (c d : List ℕ) (g h : List PairRow) (m n : List ℕ) → a ≡ b → c ≡ d → g ≡ h → m ≡ n → relisted l a c g m ≡ relisted l b d h n
same_lists_of l a b c d g h m n i j k q =
    ap (λ (x : List (Option ℕ)). relisted l x c g m) i ∙ ap (λ (x : List ℕ). relisted l b x g m) j ∙ ap (λ (x : List PairRow). relisted l b d x m) k ∙ ap (λ (x : List ℕ). relisted l b d h x) q

pub lanes_fold : (l : LaneTables) (given : List Given) → fold lanes_with l given ≡ lanes_written l given
lanes_fold l [] = refl
lanes_fold l (new ∷ given) =
    lanes_fold (lanes_with l new) given
    ∙ ap (λ (x : LaneTables). lanes_written x given) (lane_step l new)
    ∙ same_lists_of l _ _ _ _ _ _ _ _
    (sym (write_all-append l.levels (level_write l.switches l.in_use new) (flat_map (level_write l.switches l.in_use) given)))
    (sym (write_all-append l.general (map_write new) (flat_map map_write given)))
    (sym (fold-append with_pair_row l.pairs (pair_of new) (flat_map pair_of given)))
    (sym (write_all-append l.numbers (number_write new) (flat_map number_write given)))

-- ---- plans

pub plan_fold_none : (e : Entries) (given : List Given) → fold plan_with (record { tables = e; lanes = None }) given ≡ record { tables = fold tables_with e given; lanes = None }
plan_fold_none e [] = refl
plan_fold_none e (new ∷ given) = plan_fold_none (tables_with e new) given

pub plan_fold_some : (e : Entries) (l : LaneTables) (given : List Given) → fold plan_with (record { tables = e; lanes = Some l }) given ≡ record { tables = fold tables_with e given; lanes = Some (fold lanes_with l given) }
plan_fold_some e l [] = refl
plan_fold_some e l (new ∷ given) = plan_fold_some (tables_with e new) (lanes_with l new) given
