-- Taking the channels of all switches away, one after the other.
use Rattle.std.proofs.Common.{◌≡◌, ℕ, ◌+◌, ◌<◌, inl, inr, List, length, None, Option, sym, ◌∙◌, subst, arith, get_or}
use Rattle.std.specs.Prelude.{slice_set}
use Rattle.std.proofs.lemmas.List.{same_lists, get_or_default, length-replicate}
use Rattle.fab_model.specs.Topology.{Topology}
use Rattle.fab_tables.specs.Trees.{next}
use Rattle.fab_nue.specs.Search.{empty_tree}
use Rattle.fab_nue.proofs.Searching.Growing.{read_same, read_other, same_or_other}
use Rattle.fab_nue.proofs.Searching.SearchTrees.{empty_next}

pub none_more : (tree : List (Option ℕ)) (n : ℕ) → n < length tree → ((i : ℕ) → i < n → next tree i ≡ None) → (i : ℕ) → i < n + 1 → next (slice_set tree n None) i ≡ None
none_more tree n low none i h = elim (same_or_other i n) [
  | inl e ↦ subst (λ k. next (slice_set tree n None) k ≡ None) (sym e) (read_same tree n None low)
  | inr other ↦ read_other tree n i None other ∙ none i (omega (arith, h, other))
]

pub none_left : (t : Topology) (tree : List (Option ℕ)) → length tree ≡ length t.switches → ((i : ℕ) → i < length t.switches → next tree i ≡ None) → tree ≡ empty_tree t
none_left t tree whole none = same_lists tree (empty_tree t) (whole ∙ sym (length-replicate (length t.switches) None)) each
  where
    each : (k : ℕ) (d : Option ℕ) → k < length tree → get_or tree k d ≡ get_or (empty_tree t) k d
    each k d low =
        get_or_default tree k d None low ∙ none k (omega (arith, low, whole)) ∙ sym (empty_next t k)
        ∙ sym (get_or_default (empty_tree t) k d None (omega (arith, low, whole, length-replicate {A = Option ℕ} (length t.switches) None)))
