-- What the values of a row are.
use Rattle.std.proofs.Common.{◌≡◌, ◌≢◌, ℕ, zero, suc, ◌%◌, ◌<◌, ◌≤◌, ◌^◌, Bool, true, false, List, [], ◌∷◌, length, take, drop, get_or, Some, None, Option, IfSome, nat_lt, refl, ap, arith}
use Rattle.std.specs.Prelude.{All, Contains, MatchOption, slice_get, position, option_map, option_and_then, unwrap_or, ◌==◌, codes}
use Rattle.std.specs.List.{zip, position_or_len}
use Rattle.std.specs.Str.{bytes_eq}
use Rattle.std.proofs.lemmas.Bool.{cond_both, ltb-true, eqb-false, eqb-true}
use Rattle.std.proofs.lemmas.List.{get_or_default}
use Rattle.std.proofs.lemmas.Option.{get_or_from_slice_get}
use Rattle.std.proofs.lemmas.List.Elements.{All-nil, All-cons, All-take, All-drop, All-head, All-tail}
use Rattle.fab_text.specs.Fields.{dec, dec_up_to, hex, with_first, all_read, without_last}
use Rattle.fab_model.specs.declared.rows.SwitchRow.{SwitchRow}
use Rattle.fab_model.specs.Topology.{Topology, ports_of, switch_of, channel_at, is_source}
use Rattle.fab_model.specs.WellFormed.{IsFabric}
use Rattle.fab_tables.specs.declared.lanes.PairRow.{PairRow}
use Rattle.fab_tables.specs.Entries.{index_of}
use Rattle.fab_tables.specs.LaneTables.{IsPairRow}
use Rattle.fab_tables.specs.Fit.{PairFits}
use Rattle.fab_dump.specs.Given.{Given}
use Rattle.fab_dump.specs.Given.Given.{Number}
use Rattle.fab_dump.specs.Lines.{both, table_row, level_row, level_field, level_or_none, lids_from, lids_at, row_lids, paired, long_row, sixteen, lanes_read, pair_of, pair_row, channel_named, positive, numbered, number_row, a_source}
use Rattle.fab_dump.proofs.Reading.FieldNumbers.{port_is_low, not_too_great}

-- a read value, weakened
weaker : {A : Type 0} (o : Option A) (P Q : A → Type 0) → ((x : A) → P x → Q x) → IfSome o P → IfSome o Q
weaker None P Q f h = tt
weaker (Some x) P Q f h = f x h

pub up_to : (greatest : ℕ) (field : List ℕ) → IfSome (dec_up_to greatest field) (λ n. n ≤ greatest)
up_to greatest field = not_too_great (length field) greatest field

-- levels are below 16
level_low : (dashes : Bool) (o : Option ℕ) → IfSome o (λ n. n ≤ 15) → IfSome (level_or_none dashes o) (λ level. IfSome level (λ n. n < 16))
level_low true o h = tt
level_low false None h = tt
level_low false (Some n) h = omega (arith, h)

pub level_is_low : (field : List ℕ) → IfSome (level_field field) (λ level. IfSome level (λ n. n < 16))
level_is_low field = level_low (bytes_eq field (codes "--")) (dec_up_to 15 field) (up_to 15 field)

-- short rows
second_is : {A : Type 0} (x : Option ℕ) (y : Option A) (P : A → Type 0) → IfSome y P → IfSome (both x y) (λ r. P r.1)
second_is None y P h = tt
second_is (Some x) None P h = tt
second_is (Some x) (Some y) P h = h

pub port_row_is : (parts : List (List ℕ)) → IfSome (table_row parts) (λ r. r.1 < 256)
port_row_is [] = tt
port_row_is (lid ∷ []) = tt
port_row_is (lid ∷ port ∷ others) = second_is (hex 4 lid) (dec 3 255 port) (λ n. n < 256) (port_is_low port)

pub level_row_is : (parts : List (List ℕ)) → IfSome (level_row parts) (λ r. IfSome r.1 (λ n. n < 16))
level_row_is [] = tt
level_row_is (lid ∷ []) = tt
level_row_is (lid ∷ level ∷ []) = second_is (hex 4 lid) (level_field level) (λ o. IfSome o (λ n. n < 16)) (level_is_low level)
level_row_is (lid ∷ level ∷ other ∷ others) = tt

-- long rows
first_and : {A : Type 0} (P : A → Type 0) (x : Option A) (xs : Option (List A)) → IfSome x P → IfSome xs (All P) → IfSome (with_first x xs) (All P)
first_and P None xs a b = tt
first_and P (Some x) None a b = tt
first_and P (Some x) (Some xs) a b = All-cons P x xs a b

all_are : {A : Type 0} (P : A → Type 0) (read : List ℕ → Option A) (fields : List (List ℕ)) → ((field : List ℕ) → IfSome (read field) P) → IfSome (all_read read fields) (All P)
all_are P read [] h = All-nil P
all_are P read (field ∷ others) h = first_and P (read field) (all_read read others) (h field) (all_are P read others h)

zip_all : {A : Type 0} (P : ℕ → Type 0) (Q : A → Type 0) (xs : List ℕ) (ys : List A) → All P xs → All Q ys → All (λ (r : ℕ × A). P r.0 × Q r.1) (zip xs ys)
zip_all P Q [] ys a b = All-nil _
zip_all P Q (x ∷ xs) [] a b = All-nil _
zip_all {A} P Q (x ∷ xs) (y ∷ ys) a b = All-cons (λ (r : ℕ × A). P r.0 × Q r.1) (x, y) (zip xs ys) (All-head P x xs a, All-head Q y ys b) (zip_all P Q xs ys (All-tail P x xs a) (All-tail Q y ys b))

paired_all : {A : Type 0} (P : ℕ → Type 0) (Q : A → Type 0) (lids : List ℕ) (o : Option (List A)) → All P lids → IfSome o (All Q) → IfSome (paired lids o) (All (λ (r : ℕ × A). P r.0 × Q r.1))
paired_all P Q [] o a b = tt
paired_all P Q (l ∷ lids) None a b = tt
paired_all P Q (l ∷ lids) (Some values) a b =
    cond_both (length values == length (l ∷ lids)) (Some (zip (l ∷ lids) values)) None (λ o. IfSome o (All (λ (r : ℕ × _). P r.0 × Q r.1))) (λ e. zip_all P Q (l ∷ lids) values a b) (λ e. tt)

from_lids : (P : ℕ → Type 0) (lids : List ℕ) (place : Option ℕ) → All P lids → All P (lids_from lids place)
from_lids P lids None h = All-nil P
from_lids P lids (Some place) h =
    cond_both (place % 64 == 0) (take 64 (drop place lids)) [] (All P) (λ e. All-take P 64 (drop place lids) (All-drop P place lids h)) (λ e. All-nil P)

at_lids : (P : ℕ → Type 0) (lids : List ℕ) (lid : Option ℕ) → All P lids → All P (lids_at lids lid)
at_lids P lids None h = All-nil P
at_lids P lids (Some lid) h = from_lids P lids (index_of lid lids) h

row_lids_are : (P : ℕ → Type 0) (lids : List ℕ) (fields : List (List ℕ)) → All P lids → All P (row_lids lids fields)
row_lids_are P lids [] h = All-nil P
row_lids_are P lids (lid ∷ values) h = at_lids P lids (hex 4 lid) h

pub long_row_is : {A : Type 0} (Q : A → Type 0) (lids : List ℕ) (read : List ℕ → Option A) (fields : List (List ℕ)) → ((field : List ℕ) → IfSome (read field) Q) →
    IfSome (long_row lids read fields) (All (λ (r : ℕ × A). Contains lids r.0 × Q r.1))
long_row_is Q lids read fields h =
    paired_all (Contains lids) Q (row_lids lids fields) (all_read read (drop 1 fields)) (row_lids_are (Contains lids) lids fields (λ k d low. (k, low, same k d low))) (all_are Q read (drop 1 fields) h)
  where
    same : (k d : ℕ) → k < length lids → get_or lids k (get_or lids k d) ≡ get_or lids k d
    same k d low = get_or_default lids k (get_or lids k d) d low

-- lanes
sixteen_are : (o : Option (List ℕ)) → IfSome o (All (λ n. n < 16)) → IfSome (sixteen o) (λ lanes. (length lanes ≡ 16) × All (λ n. n < 16) lanes)
sixteen_are None h = tt
sixteen_are (Some lanes) h =
    cond_both (length lanes == 16) (Some lanes) None (λ o. IfSome o (λ ls. (length ls ≡ 16) × All (λ n. n < 16) ls)) (λ e. (eqb-true (length lanes) 16 e, h)) (λ e. tt)

lane_is_low : (field : List ℕ) → IfSome (dec_up_to 15 field) (λ n. n < 16)
lane_is_low field = weaker (dec_up_to 15 field) (λ n. n ≤ 15) (λ n. n < 16) (λ n h. omega (arith, h)) (up_to 15 field)

pub lanes_are : (fields : List (List ℕ)) → IfSome (lanes_read fields) (λ lanes. (length lanes ≡ 16) × All (λ n. n < 16) lanes)
lanes_are fields = sixteen_are (all_read (dec_up_to 15) fields) (all_are (λ n. n < 16) (dec_up_to 15) fields lane_is_low)

-- places of switches and channels
position_low : {X : Type 0} (p : X → Bool) (xs : List X) → IfSome (position p xs) (λ i. i < length xs)
position_low p xs =
    cond_both (nat_lt (position_or_len p xs) (length xs)) (Some (position_or_len p xs)) None (λ o. IfSome o (λ i. i < length xs)) (λ e. ltb-true (position_or_len p xs) (length xs) e) (λ e. tt)

pub switch_low : (t : Topology) (guid : ℕ) → IfSome (switch_of t guid) (λ s. s < length t.switches)
switch_low t guid = position_low (λ row. row.guid == guid) t.switches

pub named_low : (t : Topology) (guid : Option ℕ) → IfSome (option_and_then (switch_of t) guid) (λ s. s < length t.switches)
named_low t None = tt
named_low t (Some guid) = switch_low t guid

pub source_low : (t : Topology) (o : Option ℕ) → IfSome o (λ s. s < length t.switches) → IfSome (a_source t o) (λ s. (s < length t.switches) × (is_source t s ≡ true))
source_low t None h = tt
source_low t (Some s) h = cond_both (is_source t s) (Some s) None (λ o. IfSome o (λ k. (k < length t.switches) × (is_source t k ≡ true))) (λ e. (h, e)) (λ e. tt)

channel_low : (t : Topology) (port : ℕ) (o : Option ℕ) → IfSome (option_and_then (λ s. channel_at t s port) o) (λ c. c < length t.channels)
channel_low t port None = tt
channel_low t port (Some s) = position_low _ t.channels

channel_is_low : (t : Topology) (guid port : Option ℕ) → IfSome (channel_named t guid port) (λ c. c < length t.channels)
channel_is_low t None port = tt
channel_is_low t (Some guid) None = tt
channel_is_low t (Some guid) (Some port) = channel_low t port (switch_of t guid)

-- numbers
positive_is : (o : Option ℕ) → IfSome o (λ n. n ≤ 4294967295) → IfSome (positive o) (λ n. (n ≢ 0) × (n < 2 ^ 32))
positive_is None h = tt
positive_is (Some n) h = cond_both (n == 0) None (Some n) (λ o. IfSome o (λ m. (m ≢ 0) × (m < 2 ^ 32))) (λ e. tt) (λ e. (eqb-false n 0 e, omega (arith, h)))

-- what a number row says is about a channel of the fabric
abbrev pub NumberFits : Topology → Given → Type 0
NumberFits t (Number channel lane number) = (channel < length t.channels) × (lane < 15) × (number ≢ 0) × (number < 2 ^ 32)
NumberFits t _ = ⊥

numbered_is : (t : Topology) (channel lane number : Option ℕ) → IfSome channel (λ c. c < length t.channels) → IfSome lane (λ n. n ≤ 14) → IfSome number (λ n. (n ≢ 0) × (n < 2 ^ 32)) →
    IfSome (numbered channel lane number) (NumberFits t)
numbered_is t None lane number a b c = tt
numbered_is t (Some channel) None number a b c = tt
numbered_is t (Some channel) (Some lane) None a b c = tt
numbered_is t (Some channel) (Some lane) (Some number) a b c = (a, omega (arith, b), c.0, c.1)

pub number_row_is : (t : Topology) (fields : List (List ℕ)) → IfSome (number_row t fields) (NumberFits t)
number_row_is t [] = tt
number_row_is t (a ∷ []) = tt
number_row_is t (a ∷ b ∷ []) = tt
number_row_is t (a ∷ b ∷ c ∷ []) = tt
number_row_is t (guid ∷ port ∷ lane ∷ number ∷ []) =
    numbered_is t (channel_named t (hex 16 guid) (dec_up_to 254 port)) (dec_up_to 14 lane) (positive (dec_up_to 4294967295 number)) (channel_is_low t (hex 16 guid) (dec_up_to 254 port)) (up_to 14 lane)
    (positive_is (dec_up_to 4294967295 number) (up_to 4294967295 number))
number_row_is t (a ∷ b ∷ c ∷ d ∷ e ∷ others) = tt

-- maps of pairs
abbrev pub PairRowFits : Topology → PairRow → Type 0
PairRowFits t row = IsPairRow (length t.switches) row × PairFits t row

there : {X : Type 0} (xs : List X) (i : ℕ) → i < length xs → slice_get xs i ≡ None → ⊥
there [] i h e = omega arith
there (x ∷ xs) zero h e = cc
there (x ∷ xs) (suc i) h e = there xs i (omega arith) e

ports_there : (t : Topology) (s from to : ℕ) (o : Option SwitchRow) → from ≤ unwrap_or (option_map (λ row. row.ports) o) 0 → to ≤ unwrap_or (option_map (λ row. row.ports) o) 0 → (o ≡ None → ⊥) →
    MatchOption o ⊥ (λ (row : SwitchRow). (from ≤ row.ports) × (to ≤ row.ports))
ports_there t s from to None a b some = some refl
ports_there t s from to (Some row) a b some = (a, b)

few_ports : (t : Topology) (s : ℕ) → IsFabric t → s < length t.switches → ports_of t s ≤ 254
few_ports t s fabric low = go (slice_get t.switches s) refl
  where
    go : (o : Option SwitchRow) → slice_get t.switches s ≡ o → unwrap_or (option_map (λ row. row.ports) o) 0 ≤ 254
    go None e = omega arith
    go (Some row) e =
        let at : get_or t.switches s row ≡ row = get_or_from_slice_get t.switches s row row e in
        let few : (get_or t.switches s row).ports ≤ 254 = fabric.rows.switch_ports s row low in
        omega (arith, few, ap (λ (x : SwitchRow). x.ports) at)

pair_is : (t : Topology) (s : ℕ) → IsFabric t → s < length t.switches → (from to : Option ℕ) (lanes : Option (List ℕ)) → IfSome from (λ n. n ≤ ports_of t s) → IfSome to (λ n. n ≤ ports_of t s) →
    IfSome lanes (λ ls. (length ls ≡ 16) × All (λ n. n < 16) ls) → IfSome (pair_of s from to lanes) (λ row. (row.switch.0 ≡ s) × PairRowFits t row)
pair_is t s fabric low None to lanes a b c = tt
pair_is t s fabric low (Some from) None lanes a b c = tt
pair_is t s fabric low (Some from) (Some to) None a b c = tt
pair_is t s fabric low (Some from) (Some to) (Some lanes) a b c =
    let few : ports_of t s ≤ 254 = few_ports t s fabric low in (
      refl,
      (
        record { switch = low; from_port = omega (arith, few, a); to_port = omega (arith, few, b); levels = c.0; lanes = c.1 },
        ports_there t s from to (slice_get t.switches s) a b (there t.switches s low),
      ),
    )

pub pair_row_is : (t : Topology) (s : ℕ) → IsFabric t → s < length t.switches → (fields : List (List ℕ)) → IfSome (pair_row t s fields) (λ row. (row.switch.0 ≡ s) × PairRowFits t row)
pair_row_is t s fabric low [] = tt
pair_row_is t s fabric low (from ∷ []) = tt
pair_row_is t s fabric low (from ∷ to ∷ lanes) =
    pair_is t s fabric low (dec_up_to (ports_of t s) (drop 1 from)) (dec_up_to (ports_of t s) (without_last 93 to)) (lanes_read lanes) (up_to (ports_of t s) (drop 1 from)) (up_to (ports_of t s) (without_last 93 to)) (lanes_are lanes)
