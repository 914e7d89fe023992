-- The answer after one file, a fabric, a plan of it, a list of failed cables, or a list of groups: what is said of what is read is said after the file.
--     weaker     a weaker fact of the answer
--     one        one answer
--     small      a small status
--     exists     an answer
use Rattle.std.proofs.Common.{◌≡◌, ℕ, ◌≤◌, List, Result, Ok, Err, refl, sym, subst, ◌∙◌, arith}
use Rattle.fab_model.specs.declared.rows.Cable.{Cable}
use Rattle.fab_model.specs.Topology.{Topology, HasNoOwnCable}
use Rattle.fab_model.specs.WellFormed.{IsFabric}
use Rattle.fab_tables.specs.declared.plan.Plan.{Plan}
use Rattle.fab_tables.specs.Fit.{PlanFits, IsTidy}
use Rattle.fab_mcast.specs.GroupList.{Group}
use Rattle.fab_top.specs.Answer.{Answer, refused, unread}
use Rattle.fab_top.specs.Files.{fabric_in, plan_in, failed_in, groups_in, AreKnown, without_failed}
use Rattle.fab_top.specs.Seen.{Seen, Content, After, AfterFile, WithFabric, WithPlan, WithoutFailed, WithGroups, word_at}
use Rattle.fab_top.proofs.ReadFits.{fabric_fits, fabric_has_no_own_cable, left_fits, left_has_no_own_cable, plan_fits, groups_known}

-- the content is told
abbrev pub IsTold : Content → Type 0
IsTold content = (bytes : List ℕ) × (content ≡ Content.Holds bytes)

-- some answer is right
abbrev pub HasRightAnswer : (Answer → Type 0) → Type 0
HasRightAnswer IsRight = (a : Answer) × IsRight a

-- ---- any file

pub after_weaker : {X : Type 0} (read : Result X (List ℕ)) (rest other : X → Answer → Type 0) (a : Answer) → ((x : X) → read ≡ Ok x → rest x a → other x a) → After read rest a → After read other a
after_weaker (Ok x) rest other a weaker is = weaker x refl is
after_weaker (Err text) rest other a weaker is = is

file_weaker : {X : Type 0} (name : List ℕ) (content : Content) (read : List ℕ → List ℕ → Result X (List ℕ)) (rest other : X → Answer → Type 0) (a : Answer) →
    ((bytes : List ℕ) (x : X) → read name bytes ≡ Ok x → rest x a → other x a) → AfterFile name content read rest a → AfterFile name content read other a
file_weaker name (Content.Holds bytes) read rest other a weaker is = after_weaker (read name bytes) rest other a (weaker bytes) is
file_weaker name Content.Untold read rest other a weaker is = tt
file_weaker name Content.Fails read rest other a weaker is = is

pub after_one : {X : Type 0} (read : Result X (List ℕ)) (rest : X → Answer → Type 0) (a b : Answer) → ((x : X) → read ≡ Ok x → rest x a → rest x b → a ≡ b) → After read rest a → After read rest b → a ≡ b
after_one (Ok x) rest a b one first second = one x refl first second
after_one (Err text) rest a b one first second = first ∙ sym second

file_one : {X : Type 0} (name : List ℕ) (content : Content) (read : List ℕ → List ℕ → Result X (List ℕ)) (rest : X → Answer → Type 0) (a b : Answer) →
    IsTold content → ((bytes : List ℕ) (x : X) → read name bytes ≡ Ok x → rest x a → rest x b → a ≡ b) → AfterFile name content read rest a → AfterFile name content read rest b → a ≡ b
file_one name (Content.Holds bytes) read rest a b told one first second = after_one (read name bytes) rest a b (one bytes) first second
file_one name Content.Untold read rest a b told one first second = cc
file_one name Content.Fails read rest a b told one first second = first ∙ sym second

small_refusal : (text : List ℕ) (a : Answer) → a ≡ refused text → a.status ≤ 3
small_refusal text a is = let P : Answer → Type 0 = λ b. b.status ≤ 3 in subst P (sym is) (omega arith)

pub after_small : {X : Type 0} (read : Result X (List ℕ)) (rest : X → Answer → Type 0) (a : Answer) → ((x : X) → rest x a → a.status ≤ 3) → After read rest a → a.status ≤ 3
after_small (Ok x) rest a small is = small x is
after_small (Err text) rest a small is = small_refusal text a is

file_small : {X : Type 0} (name : List ℕ) (content : Content) (read : List ℕ → List ℕ → Result X (List ℕ)) (rest : X → Answer → Type 0) (a : Answer) →
    IsTold content → ((x : X) → rest x a → a.status ≤ 3) → AfterFile name content read rest a → a.status ≤ 3
file_small name (Content.Holds bytes) read rest a told small is = after_small (read name bytes) rest a small is
file_small name Content.Untold read rest a told small is = cc
file_small name Content.Fails read rest a told small is = cc

pub after_exists : {X : Type 0} (read : Result X (List ℕ)) (rest : X → Answer → Type 0) → ((x : X) → read ≡ Ok x → HasRightAnswer (rest x)) → HasRightAnswer (After read rest)
after_exists (Ok x) rest exists = exists x refl
after_exists (Err text) rest exists = (refused text, refl)

file_exists : {X : Type 0} (name : List ℕ) (content : Content) (read : List ℕ → List ℕ → Result X (List ℕ)) (rest : X → Answer → Type 0) →
    IsTold content → ((bytes : List ℕ) (x : X) → read name bytes ≡ Ok x → HasRightAnswer (rest x)) → HasRightAnswer (AfterFile name content read rest)
file_exists name (Content.Holds bytes) read rest told exists = after_exists (read name bytes) rest (exists bytes)
file_exists name Content.Untold read rest told exists = cc
file_exists name Content.Fails read rest told exists = (unread name, refl)

-- ---- a fabric

pub fabric_weaker : (w : Seen) (place : ℕ) (rest other : Topology → Answer → Type 0) (a : Answer) → ((t : Topology) → IsFabric t → rest t a → other t a) → WithFabric w place rest a → WithFabric w place other a
fabric_weaker w place rest other a weaker is =
    file_weaker (word_at w.words place) (w.content place) fabric_in rest other a (λ bytes t read. weaker t (fabric_fits (word_at w.words place) bytes t read)) is

pub fabric_one : (w : Seen) (place : ℕ) (rest : Topology → Answer → Type 0) (a b : Answer) → IsTold (w.content place) → ((t : Topology) → IsFabric t → rest t a → rest t b → a ≡ b) →
    WithFabric w place rest a → WithFabric w place rest b → a ≡ b
fabric_one w place rest a b told one first second =
    file_one (word_at w.words place) (w.content place) fabric_in rest a b told (λ bytes t read. one t (fabric_fits (word_at w.words place) bytes t read)) first second

pub fabric_small : (w : Seen) (place : ℕ) (rest : Topology → Answer → Type 0) (a : Answer) → IsTold (w.content place) → ((t : Topology) → rest t a → a.status ≤ 3) → WithFabric w place rest a → a.status ≤ 3
fabric_small w place rest a told small is = file_small (word_at w.words place) (w.content place) fabric_in rest a told small is

pub fabric_exists : (w : Seen) (place : ℕ) (rest : Topology → Answer → Type 0) → IsTold (w.content place) → ((t : Topology) → IsFabric t → HasRightAnswer (rest t)) → HasRightAnswer (WithFabric w place rest)
fabric_exists w place rest told exists =
    file_exists (word_at w.words place) (w.content place) fabric_in rest told (λ bytes t read. exists t (fabric_fits (word_at w.words place) bytes t read))

-- ---- a fabric without failed cables

-- what is known of a fabric that was read, and of what failed cables leave of one
pub record IsReadFabric (t : Topology) : Type 0 where
  pub fabric : IsFabric t
  pub no_own_cable : HasNoOwnCable t

pub read_weaker : (w : Seen) (place : ℕ) (rest other : Topology → Answer → Type 0) (a : Answer) → ((t : Topology) → IsReadFabric t → rest t a → other t a) → WithFabric w place rest a → WithFabric w place other a
read_weaker w place rest other a weaker is =
    let name : List ℕ = word_at w.words place in
    file_weaker name (w.content place) fabric_in rest other a
    (λ bytes t read. weaker t (record { fabric = fabric_fits name bytes t read; no_own_cable = fabric_has_no_own_cable name bytes t read })) is

pub without_known : (w : Seen) (t : Topology) (place : ℕ) (rest other : Topology → Answer → Type 0) (a : Answer) →
    ((cables : List Cable) (left : Topology) → without_failed (word_at w.words place) t cables ≡ Ok left → rest left a → other left a) → WithoutFailed w t place rest a → WithoutFailed w t place other a
without_known w t place rest other a weaker is =
    let name : List ℕ = word_at w.words place in
    file_weaker name (w.content place) failed_in (λ cables. After (without_failed name t cables) rest) (λ cables. After (without_failed name t cables) other) a
    (λ bytes cables read. after_weaker (without_failed name t cables) rest other a (λ left known. weaker cables left known)) is

pub without_weaker : (w : Seen) (t : Topology) (place : ℕ) (rest other : Topology → Answer → Type 0) (a : Answer) → IsReadFabric t → ((left : Topology) → IsReadFabric left → rest left a → other left a) →
    WithoutFailed w t place rest a → WithoutFailed w t place other a
without_weaker w t place rest other a of weaker is =
    let name : List ℕ = word_at w.words place in
    without_known w t place rest other a
    (λ cables left known. weaker left (record { fabric = left_fits name t left cables of.fabric known; no_own_cable = left_has_no_own_cable name t left cables of.no_own_cable known })) is

pub without_one : (w : Seen) (t : Topology) (place : ℕ) (rest : Topology → Answer → Type 0) (a b : Answer) → IsFabric t → IsTold (w.content place) → ((left : Topology) → IsFabric left → rest left a → rest left b → a ≡ b) →
    WithoutFailed w t place rest a → WithoutFailed w t place rest b → a ≡ b
without_one w t place rest a b fabric told one first second =
    let name : List ℕ = word_at w.words place in
    file_one name (w.content place) failed_in (λ cables. After (without_failed name t cables) rest) a b told
    (λ bytes cables read. after_one (without_failed name t cables) rest a b (λ left known. one left (left_fits name t left cables fabric known))) first second

pub without_small : (w : Seen) (t : Topology) (place : ℕ) (rest : Topology → Answer → Type 0) (a : Answer) → IsTold (w.content place) → ((left : Topology) → rest left a → a.status ≤ 3) →
    WithoutFailed w t place rest a → a.status ≤ 3
without_small w t place rest a told small is =
    let name : List ℕ = word_at w.words place in
    file_small name (w.content place) failed_in (λ cables. After (without_failed name t cables) rest) a told (λ cables. after_small (without_failed name t cables) rest a small) is

pub without_leaves : (w : Seen) (t : Topology) (place : ℕ) (rest : Topology → Answer → Type 0) → IsTold (w.content place) →
    ((cables : List Cable) (left : Topology) → without_failed (word_at w.words place) t cables ≡ Ok left → HasRightAnswer (rest left)) → HasRightAnswer (WithoutFailed w t place rest)
without_leaves w t place rest told exists =
    let name : List ℕ = word_at w.words place in
    file_exists name (w.content place) failed_in (λ cables. After (without_failed name t cables) rest) told
    (λ bytes cables read. after_exists (without_failed name t cables) rest (λ left known. exists cables left known))

pub without_exists : (w : Seen) (t : Topology) (place : ℕ) (rest : Topology → Answer → Type 0) → IsFabric t → IsTold (w.content place) → ((left : Topology) → IsFabric left → HasRightAnswer (rest left)) →
    HasRightAnswer (WithoutFailed w t place rest)
without_exists w t place rest fabric told exists =
    without_leaves w t place rest told (λ cables left known. exists left (left_fits (word_at w.words place) t left cables fabric known))

-- ---- a plan of a fabric

-- what is known of a plan that was read
pub record IsReadPlan (t : Topology) (p : Plan) : Type 0 where
  pub fabric : IsFabric t
  pub fits : PlanFits t p
  pub tidy : IsTidy t p

is_read_plan : (t : Topology) (name bytes : List ℕ) (p : Plan) → IsFabric t → plan_in t name bytes ≡ Ok p → IsReadPlan t p
is_read_plan t name bytes p fabric read =
    let facts : PlanFits t p × IsTidy t p = plan_fits t name bytes p fabric read in
    record { fabric = fabric; fits = facts.0; tidy = facts.1 }

pub plan_weaker : (w : Seen) (t : Topology) (place : ℕ) (rest other : Plan → Answer → Type 0) (a : Answer) → IsFabric t → ((p : Plan) → IsReadPlan t p → rest p a → other p a) →
    WithPlan w t place rest a → WithPlan w t place other a
plan_weaker w t place rest other a fabric weaker is =
    file_weaker (word_at w.words place) (w.content place) (plan_in t) rest other a (λ bytes p read. weaker p (is_read_plan t (word_at w.words place) bytes p fabric read)) is

pub plan_one : (w : Seen) (t : Topology) (place : ℕ) (rest : Plan → Answer → Type 0) (a b : Answer) → IsFabric t → IsTold (w.content place) → ((p : Plan) → IsReadPlan t p → rest p a → rest p b → a ≡ b) →
    WithPlan w t place rest a → WithPlan w t place rest b → a ≡ b
plan_one w t place rest a b fabric told one first second =
    file_one (word_at w.words place) (w.content place) (plan_in t) rest a b told (λ bytes p read. one p (is_read_plan t (word_at w.words place) bytes p fabric read)) first second

pub plan_small : (w : Seen) (t : Topology) (place : ℕ) (rest : Plan → Answer → Type 0) (a : Answer) → IsTold (w.content place) → ((p : Plan) → rest p a → a.status ≤ 3) → WithPlan w t place rest a → a.status ≤ 3
plan_small w t place rest a told small is = file_small (word_at w.words place) (w.content place) (plan_in t) rest a told small is

pub plan_exists : (w : Seen) (t : Topology) (place : ℕ) (rest : Plan → Answer → Type 0) → IsFabric t → IsTold (w.content place) → ((p : Plan) → IsReadPlan t p → HasRightAnswer (rest p)) → HasRightAnswer (WithPlan w t place rest)
plan_exists w t place rest fabric told exists =
    file_exists (word_at w.words place) (w.content place) (plan_in t) rest told (λ bytes p read. exists p (is_read_plan t (word_at w.words place) bytes p fabric read))

-- ---- groups of a fabric

pub groups_weaker : (w : Seen) (t : Topology) (place : ℕ) (rest other : List Group → Answer → Type 0) (a : Answer) → IsFabric t → ((groups : List Group) → AreKnown t groups → rest groups a → other groups a) →
    WithGroups w t place rest a → WithGroups w t place other a
groups_weaker w t place rest other a fabric weaker is =
    file_weaker (word_at w.words place) (w.content place) (groups_in t) rest other a (λ bytes groups read. weaker groups (groups_known t (word_at w.words place) bytes groups fabric read)) is

pub groups_one : (w : Seen) (t : Topology) (place : ℕ) (rest : List Group → Answer → Type 0) (a b : Answer) → IsFabric t → IsTold (w.content place) →
    ((groups : List Group) → AreKnown t groups → rest groups a → rest groups b → a ≡ b) → WithGroups w t place rest a → WithGroups w t place rest b → a ≡ b
groups_one w t place rest a b fabric told one first second =
    file_one (word_at w.words place) (w.content place) (groups_in t) rest a b told (λ bytes groups read. one groups (groups_known t (word_at w.words place) bytes groups fabric read)) first second

pub groups_small : (w : Seen) (t : Topology) (place : ℕ) (rest : List Group → Answer → Type 0) (a : Answer) → IsTold (w.content place) → ((groups : List Group) → rest groups a → a.status ≤ 3) →
    WithGroups w t place rest a → a.status ≤ 3
groups_small w t place rest a told small is = file_small (word_at w.words place) (w.content place) (groups_in t) rest a told small is

pub groups_exist : (w : Seen) (t : Topology) (place : ℕ) (rest : List Group → Answer → Type 0) → IsFabric t → IsTold (w.content place) → ((groups : List Group) → AreKnown t groups → HasRightAnswer (rest groups)) →
    HasRightAnswer (WithGroups w t place rest)
groups_exist w t place rest fabric told exists =
    file_exists (word_at w.words place) (w.content place) (groups_in t) rest told (λ bytes groups read. exists groups (groups_known t (word_at w.words place) bytes groups fabric read))
