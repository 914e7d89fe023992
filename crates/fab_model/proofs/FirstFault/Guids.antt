-- The nodes by GUID, as they are put in one after the other.
use Rattle.std.proofs.Common.{◌≡◌, ℕ, ◌+◌, ◌<◌, Bool, true, false, cond, nat_eq, List, length, take, get_or, Option, Some, None, is_some, Result, Ok, Err, IfOk, MatchResult, inl, inr, refl, sym, ap, subst, ◌∙◌}
use Rattle.std.specs.Prelude.{◌&&◌, ◌||◌, OnOk}
use Rattle.std.specs.Result.{IsErrAnd}
use Rattle.std.specs.List.{list_any}
use Rattle.std.proofs.lemmas.Bool.{cases_Bool, eqb-true}
use Rattle.std.proofs.lemmas.List.Folds.{list_any_more}
use denote.Ref.{Bor}
use denote.Enum.Bare.{sameb}
use Rattle.indexmap.specs.IndexMap.{IndexMap, get}
use Rattle.fab_model.specs.contracts.raw.NodeKind.{the_type}
use Rattle.fab_model.specs.declared.raw.NodeKind.{NodeKind}
use Rattle.fab_model.specs.declared.raw.NodeKind.TheVariants.{Switch, Adapter}
use Rattle.fab_model.specs.declared.raw.RawNode.{RawNode}
use Rattle.fab_model.specs.Records.{same_kind}
use Rattle.fab_model.specs.FirstFault.{AreByGuid, is_of_kind}

-- a node of a new GUID is put in
module _ {S : Type 0} (nodes : List RawNode) (i : ℕ) (node : Bor RawNode) (within : i < length nodes) (is : node.now ≡ get_or nodes i node.now)
    (before after : IndexMap ℕ (Bor RawNode) S) (put : (guid : ℕ) → get nat_eq after guid ≡ cond (nat_eq node.now.guid guid) (Some node) (get nat_eq before guid))
    (new : get nat_eq before node.now.guid ≡ None) (are : AreByGuid (take i nodes) before) where
  more : (test : RawNode → Bool) → list_any test (take (i + 1) nodes) ≡ (list_any test (take i nodes) || test node.now)
  more test = list_any_more test nodes i node.now within ∙ ap (λ one. list_any test (take i nodes) || test one) (sym is)

  or_true : (b : Bool) → true ≡ (b || true)
  or_true true = refl
  or_true false = refl

  or_false : (b : Bool) → b ≡ (b || false)
  or_false true = refl
  or_false false = refl

  and_true : (b : Bool) → b ≡ (b && true)
  and_true true = refl
  and_true false = refl

  and_false : (b : Bool) → false ≡ (b && false)
  and_false true = refl
  and_false false = refl

  some_more : (guid : ℕ) → is_some (get nat_eq after guid) ≡ list_any (λ one. nat_eq one.guid guid) (take (i + 1) nodes)
  some_more guid =
      let front = list_any (λ one. nat_eq one.guid guid) (take i nodes) in
      ap is_some (put guid) ∙ elim (cases_Bool (nat_eq node.now.guid guid)) [
        | inl same ↦ ap (λ b. is_some (cond b (Some node) (get nat_eq before guid))) same ∙ or_true front ∙ ap (λ b. front || b) (sym same)
        | inr other ↦ ap (λ b. is_some (cond b (Some node) (get nat_eq before guid))) other ∙ are.some guid ∙ or_false front ∙ ap (λ b. front || b) (sym other)
      ] ∙ sym (more (λ one. nat_eq one.guid guid))

  kinds_more : (kind : NodeKind) (guid : ℕ) → is_of_kind kind (get nat_eq after guid) ≡ list_any (λ one. same_kind one.kind kind && nat_eq one.guid guid) (take (i + 1) nodes)
  kinds_more kind guid =
      let test : RawNode → Bool = λ one. same_kind one.kind kind && nat_eq one.guid guid in
      let front = list_any test (take i nodes) in
      let of = λ (b : Bool). is_of_kind kind (cond b (Some node) (get nat_eq before guid)) in
      let here = same_kind node.now.kind kind in
      ap (is_of_kind kind) (put guid) ∙ elim (cases_Bool (nat_eq node.now.guid guid)) [
        | inl same ↦
            let none : front ≡ false = sym (are.kinds kind guid) ∙ ap (λ n. is_of_kind kind (get nat_eq before n)) (sym (eqb-true node.now.guid guid same)) ∙ ap (is_of_kind kind) new in
            ap of same ∙ and_true here ∙ ap (λ b. here && b) (sym same) ∙ ap (λ b. b || test node.now) (sym none)
        | inr other ↦ ap of other ∙ are.kinds kind guid ∙ or_false front ∙ ap (λ b. front || b) (and_false here ∙ ap (λ b. here && b) (sym other))
      ] ∙ sym (more test)

  pub by_guid_more : AreByGuid (take (i + 1) nodes) after
  by_guid_more = record { some = some_more; kinds = kinds_more }

-- what an insert says where it did not fail, though its error was changed
pub mapped_ok : {T E D : Type 0} (Q : E → D → Type 0) (P : T → Type 0) (U : Type 0) (r : Result T E) (m : Result T D) (x : T) → MatchResult r (λ y. m ≡ Ok y) (λ e. IsErrAnd m (Q e)) → m ≡ Ok x → IfOk r P → OnOk r U → P x × U
mapped_ok Q P U (Ok y) m x told is p u = let same : y ≡ x = cc in (subst P same p, u)
mapped_ok Q P U (Err e) m x told is p u = absurd (subst (λ o. IsErrAnd o (Q e)) is told)

pub none_there : {X : Type 0} (o : Option X) → is_some o ≡ false → o ≡ None
none_there None e = refl
none_there (Some x) e = cc

-- kinds are compared
pub kinds-same : (first second : NodeKind) → sameb the_type first second ≡ same_kind first second
kinds-same Switch Switch = refl
kinds-same Switch Adapter = refl
kinds-same Adapter Switch = refl
kinds-same Adapter Adapter = refl
