-- The reader after a head.
use Rattle.std.proofs.Common.{◌≡◌, ℕ, ◌<◌, Bool, true, false, List, [], ◌∷◌, ◌++◌, length, length-set, replicate, get_or, nat_eq, Some, None, Option, Result, refl, sym, ◌∙◌, ap, subst, arith}
use Rattle.std.specs.Prelude.{Vec, if◌then◌else◌, option_map, is_some, fold}
use Rattle.std.specs.declared.alloc.Global.{Global}
use Rattle.std.specs.Str.{bytes_eq}
use Rattle.std.specs.Vec.{with_item}
use Rattle.std.proofs.lemmas.Iterator.Adapters.{option_map_id}
use Rattle.std.proofs.lemmas.List.{length-replicate, get_or-replicate}
use Rattle.fab_model.specs.declared.rows.SwitchId.{SwitchId}
use Rattle.fab_model.specs.Topology.{Topology, lids_of, switch_id, switch_of, is_source}
use Rattle.fab_tables.specs.declared.plan.Plan.{Plan}
use Rattle.fab_tables.proofs.Rows.Cells.{index_found}
use Rattle.fab_dump.specs.declared.fault.PlanFault.{PlanFault}
use Rattle.fab_dump.specs.declared.form.Block.{Block}
use Rattle.fab_dump.specs.declared.form.Block.TheVariants.{Table, Levels, MapRow, Numbers}
use Rattle.fab_dump.specs.declared.reader.PlanReader.{PlanReader}
use Rattle.fab_dump.specs.Given.{Given, subject, was_given, lanes_with, plan_with, plan_given}
use Rattle.fab_dump.specs.Given.Given.{TableBlock, Port, LevelBlock, Level, MapBlock, Certificate}
use Rattle.fab_dump.specs.Lines.{Form, State, Next, a_source, adds, goes, table_of, table_head}
use Rattle.fab_dump.specs.Lines.Next.{Goes, Fails}
use Rattle.fab_dump.specs.Orderly.{IsOrderly}
use Rattle.fab_dump.specs.Standing.{Stands, AreMarks, AreRowMarks, Says}
use Rattle.fab_dump.proofs.Reading.After.{MarksOf, tables_kept, levels_kept, maps_kept, certificate_kept, after}
use Rattle.fab_dump.proofs.Reading.Marks.{mark_set, not_of, now_of, same_switch}

-- a head says nothing of the plan
silent : (p : Plan) → p ≡ record { tables = p.tables; lanes = option_map (λ l. l) p.lanes }
silent p = ap (λ l. record { tables = p.tables; lanes = l }) (sym (option_map_id p.lanes))

no_marks : (lids : List ℕ) (statement : ℕ → Given) (given : List Given) (marks : List Bool) → marks ≡ replicate (length lids) false →
    ((lid : ℕ) → was_given given (statement lid) ≡ false) → AreRowMarks lids statement given marks
no_marks lids statement given marks none h = λ lid place found.
    ap (λ ms. get_or ms place false) none ∙ get_or-replicate (length lids) place false false (index_found lid lids place found).0 ∙ sym (h lid)

module _ (f : Form) (s : State) (r : PlanReader) (stands : Stands r.fabric.now f s r) where
  abbrev switches : ℕ
  switches = length r.fabric.now.switches

  abbrev lids : List ℕ
  lids = lids_of r.fabric.now

  -- the mark of the switch whose block was opened
  marked : (statement : ℕ → Given) (marks : Vec Bool Global) (switch : ℕ) → ((other : ℕ) → bytes_eq (subject (statement switch)) (subject (statement other)) ≡ nat_eq switch other) → switch < switches →
      length marks.items ≡ switches → AreMarks switches statement s.given marks.items → MarksOf r (s.given ++ statement switch ∷ []) statement (with_item marks switch true).items
  marked statement marks switch same low size are = (length-set marks.items switch true ∙ size, mark_set switches statement s.given marks.items switch same (omega (arith, low, size)) are)

  all_unread : (read : Vec Bool Global) → read.items ≡ replicate (length r.lids_read.items) false → read.items ≡ replicate (length lids) false
  all_unread read none = none ∙ ap (λ n. replicate n false) stands.fits.row_marks

  pub after_table_head : (switch : SwitchId) (read : Vec Bool Global) → IsOrderly r.fabric.now f s → was_given s.given (TableBlock switch.0) ≡ false → switch.0 < switches →
      read.items ≡ replicate (length r.lids_read.items) false →
      Stands r.fabric.now f (record { open_block = Table (Some (switch_id switch.0)); given = s.given ++ TableBlock switch.0 ∷ [] })
      (record r { block = Table (Some switch); table_blocks = with_item r.table_blocks switch.0 true; lids_read = read })
  after_table_head switch read orderly new low none =
      after f s r stands (TableBlock switch.0) r.plan (Table (Some switch)) (with_item r.table_blocks switch.0 true) r.level_blocks r.map_blocks r.certificate read (silent r.plan) low
      (marked TableBlock r.table_blocks switch.0 (λ other. same_switch switch.0 other) low stands.fits.table_marks stands.tables)
      (levels_kept f s r stands (TableBlock switch.0) (λ k. refl)) (maps_kept f s r stands (TableBlock switch.0) (λ k. refl)) (certificate_kept f s r stands (TableBlock switch.0) refl)
      (ap length (all_unread read none) ∙ length-replicate (length lids) false)
      (no_marks lids (λ lid. Port switch.0 lid 0) (s.given ++ TableBlock switch.0 ∷ []) read.items (all_unread read none)
      (λ lid. not_of s.given (TableBlock switch.0) (Port switch.0 lid 0) refl ∙ orderly.tables switch.0 lid new))

  pub after_levels_head : (switch : SwitchId) (read : Vec Bool Global) → IsOrderly r.fabric.now f s → was_given s.given (LevelBlock switch.0) ≡ false → switch.0 < switches →
      read.items ≡ replicate (length r.lids_read.items) false →
      Stands r.fabric.now f (record { open_block = Levels (switch_id switch.0); given = s.given ++ LevelBlock switch.0 ∷ [] })
      (record r { block = Levels switch; level_blocks = with_item r.level_blocks switch.0 true; lids_read = read })
  after_levels_head switch read orderly new low none =
      after f s r stands (LevelBlock switch.0) r.plan (Levels switch) r.table_blocks (with_item r.level_blocks switch.0 true) r.map_blocks r.certificate read (silent r.plan) low
      (tables_kept f s r stands (LevelBlock switch.0) (λ k. refl))
      (marked LevelBlock r.level_blocks switch.0 (λ other. same_switch switch.0 other) low stands.fits.level_marks stands.levels)
      (maps_kept f s r stands (LevelBlock switch.0) (λ k. refl)) (certificate_kept f s r stands (LevelBlock switch.0) refl)
      (ap length (all_unread read none) ∙ length-replicate (length lids) false)
      (no_marks lids (λ lid. Level switch.0 lid None) (s.given ++ LevelBlock switch.0 ∷ []) read.items (all_unread read none)
      (λ lid. not_of s.given (LevelBlock switch.0) (Level switch.0 lid None) refl ∙ orderly.levels switch.0 lid new))

  pub after_map_head : (switch : SwitchId) → switch.0 < switches →
      Stands r.fabric.now f (record { open_block = MapRow (switch_id switch.0); given = s.given ++ MapBlock switch.0 ∷ [] }) (record r { block = MapRow switch; map_blocks = with_item r.map_blocks switch.0 true })
  after_map_head switch low =
      after f s r stands (MapBlock switch.0) r.plan (MapRow switch) r.table_blocks r.level_blocks (with_item r.map_blocks switch.0 true) r.certificate r.lids_read (silent r.plan) low
      (tables_kept f s r stands (MapBlock switch.0) (λ k. refl)) (levels_kept f s r stands (MapBlock switch.0) (λ k. refl))
      (marked MapBlock r.map_blocks switch.0 (λ other. same_switch switch.0 other) low stands.fits.map_marks stands.maps)
      (certificate_kept f s r stands (MapBlock switch.0) refl) stands.fits.row_marks tt

  pub after_certificate : Stands r.fabric.now f (record { open_block = Numbers; given = s.given ++ Certificate ∷ [] }) (record r { block = Numbers; certificate = true })
  after_certificate =
      after f s r stands Certificate r.plan Numbers r.table_blocks r.level_blocks r.map_blocks true r.lids_read (silent r.plan) tt
      (tables_kept f s r stands Certificate (λ k. refl)) (levels_kept f s r stands Certificate (λ k. refl)) (maps_kept f s r stands Certificate (λ k. refl))
      (sym (now_of s.given Certificate Certificate refl)) stands.fits.row_marks tt

-- a head of something new goes on
pub new_added : (twice : PlanFault) (s : State) (now_open : Block) (new : Given) → was_given s.given new ≡ false →
    adds twice s now_open (new ∷ []) ≡ Goes (record { open_block = now_open; given = s.given ++ new ∷ [] })
new_added twice s now_open new h = ap (λ b. if b then Fails twice else goes s now_open (new ∷ [])) h

pub old_refused : (twice : PlanFault) (s : State) (now_open : Block) (new : Given) (more : List Given) → was_given s.given new ≡ true → adds twice s now_open (new ∷ more) ≡ Fails twice
old_refused twice s now_open new more h = ap (λ b. if b then Fails twice else goes s now_open (new ∷ more)) h

-- the plan has lanes where its form says so
pub has_lanes : (t : Topology) (count : Option ℕ) (given : List Given) (p : Plan) → p ≡ plan_given t count given → is_some p.lanes ≡ is_some count
has_lanes t count given p e = ap (λ (q : Plan). is_some q.lanes) e ∙ stays given (plan_given t count []) ∙ start count
  where
    mapped : {A B : Type 0} (g : A → B) (o : Option A) → is_some (option_map g o) ≡ is_some o
    mapped g None = refl
    mapped g (Some x) = refl

    stays : (given : List Given) (p : Plan) → is_some ((fold plan_with p given).lanes) ≡ is_some p.lanes
    stays [] p = refl
    stays (new ∷ given) p = stays given (plan_with p new) ∙ mapped (λ l. lanes_with l new) p.lanes

    start : (count : Option ℕ) → is_some ((plan_given t count []).lanes) ≡ is_some count
    start None = refl
    start (Some n) = refl

-- the heads of lanes, by whether the plan has any
pub lanes_head : (t : Topology) (f : Form) (s : State) (r : PlanReader) (has : Bool) (x y : Next) → Stands t f s r → has ≡ is_some r.plan.lanes → (if is_some f.count then x else y) ≡ (if has then x else y)
lanes_head t f s r has x y stands e = ap (λ b. if b then x else y) (sym (e ∙ has_lanes t f.count s.given r.plan stands.plan))

pub chosen_next : (has : Bool) (x y : Next) → has ≡ true → (if has then x else y) ≡ x
chosen_next has x y e = ap (λ b. if b then x else y) e

pub passed_next : (has : Bool) (x y : Next) → has ≡ false → (if has then x else y) ≡ y
passed_next has x y e = ap (λ b. if b then x else y) e

-- the switch that a head names
pub named : (o : Option ℕ) (switch : SwitchId) → Some switch ≡ option_map switch_id o → o ≡ Some switch.0
named None switch h = cc
named (Some i) switch h = ap (λ (x : Option SwitchId). option_map (λ (s : SwitchId). s.0) x) (sym h)

pub not_named : (o : Option ℕ) → None ≡ option_map switch_id o → o ≡ None
not_named None h = refl
not_named (Some i) h = cc

pub source_named : (t : Topology) (switch : ℕ) (source : Bool) → source ≡ is_source t switch → a_source t (Some switch) ≡ (if source then Some switch else None)
source_named t switch source e = ap (λ b. if b then Some switch else None) (sym e)

pub says_same : (t : Topology) (f : Form) (r : PlanReader) (answer : Result (Unit {0}) PlanFault) (x y : Next) → y ≡ x → Says t f r answer x → Says t f r answer y
says_same t f r answer x y e h = subst (λ (n : Next). Says t f r answer n) (sym e) h

-- a table head of a switch that isn't in the fabric
pub strange_head : (t : Topology) (f : Form) (n : ℕ) (s : State) (guid : Option ℕ) (g : ℕ) → Some g ≡ guid → switch_of t g ≡ None → table_head t f n s guid ≡ table_of f n s None
strange_head t f n s guid g e h = ap (table_head t f n s) (sym e) ∙ ap (table_of f n s) h

pub after_strange_head : (f : Form) (s : State) (r : PlanReader) → Stands r.fabric.now f s r → Stands r.fabric.now f (record { open_block = Table None; given = s.given }) (record r { block = Table None })
after_strange_head f s r stands = record {
  fits = record {
    fabric = stands.fits.fabric;
    block = tt;
    plan = stands.fits.plan;
    lids = stands.fits.lids;
    table_marks = stands.fits.table_marks;
    level_marks = stands.fits.level_marks;
    map_marks = stands.fits.map_marks;
    row_marks = stands.fits.row_marks;
  };
  same = refl;
  version = stands.version;
  block = refl;
  plan = stands.plan;
  tables = stands.tables;
  levels = stands.levels;
  maps = stands.maps;
  certificate = stands.certificate;
  rows = tt;
}
