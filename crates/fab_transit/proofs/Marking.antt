-- Virtual channels and levels are marked as they are found.
use Rattle.std.proofs.Common.{◌≡◌, ℕ, ◌+◌, ◌*◌, ◌/◌, ◌%◌, ◌^◌, ◌<◌, ◌≤◌, Bool, true, false, not, cond, List, [], ◌∷◌, ◌++◌, length, replicate, refl, subst, sym, ◌∙◌, ap, inl, inr, zero, suc, arith, Contains, Some, get_or-set_other}
use Rattle.std.specs.Prelude.{slice_get, slice_index_or, slice_set, ◌==◌, All, Option, SomeIff}
use Rattle.std.proofs.lemmas.Bool.{cases_eq, false≢true, ne_eqb, eq-eqb}
use Rattle.std.proofs.lemmas.List.{length-set, length_push, length-replicate, length-map, map-set, get_or-map, get_or-replicate, ext_get_or, get_or_append_left}
use Rattle.std.proofs.lemmas.List.Elements.{All-replicate, Contains-append_left, Contains-append_right, Contains-append_cases}
use Rattle.std.proofs.lemmas.List.Folds.{sum_by-replicate}
use Rattle.std.proofs.lemmas.List.Sums.{sum_by-set}
use Rattle.std.proofs.lemmas.Nat.{div-mul-add, mod-mul-add, mul-add-lt}
use Rattle.std.proofs.lemmas.Option.{slice_get-get_or}
use Rattle.fab_tables.specs.declared.verdict.VirtualChannel.{VirtualChannel}
use Rattle.fab_tables.specs.Dependencies.{node_of}
use Rattle.fab_certify.proofs.Collected.CollectingHops.{node_low}
use Rattle.fab_certify.proofs.Engines.Mapping.{all_alike}
use Rattle.fab_certify.proofs.Numbered.NumberedPlan.{one_node}
use Rattle.fab_transit.specs.declared.found.Taken.{Taken}
use Rattle.fab_transit.specs.Finding.{Findings, IsTakenIn, mark_of, AreFindings, FindsOneMore}
use Rattle.fab_transit.specs.Marks.{standing_marks}

only_one : {A : Type 0} (x y : A) → Contains (x ∷ []) y → y ≡ x
only_one x y (zero, low, is) = sym is
only_one x y (suc k, low, is) = absurd (omega (arith, low))

-- two that have one mark are one
one_mark : (channels bound : ℕ) (x y : Taken) → IsTakenIn channels bound x → IsTakenIn channels bound y → mark_of bound x ≡ mark_of bound y → x ≡ y
one_mark channels bound x y a b same =
    let nodes : node_of bound x.hop ≡ node_of bound y.hop
    = sym (div-mul-add (node_of bound x.hop) 16 x.level a.level) ∙ ap (λ n. n / 16) same ∙ div-mul-add (node_of bound y.hop) 16 y.level b.level in
    let levels : x.level ≡ y.level = sym (mod-mul-add (node_of bound x.hop) 16 x.level a.level) ∙ ap (λ n. n % 16) same ∙ mod-mul-add (node_of bound y.hop) 16 y.level b.level in
    let hops : x.hop ≡ y.hop = one_node bound x.hop y.hop a.lane b.lane nodes in
    ap (λ (h : VirtualChannel). record { hop = h; level = x.level }) hops ∙ ap (λ (n : ℕ). record { hop = y.hop; level = n }) levels

-- nothing is found at first
pub none_found : (channels bound : ℕ) → channels * bound < 2 ^ 28 → AreFindings channels bound (replicate (channels * bound * 16) false) []
none_found channels bound small = record {
  room = length-replicate (channels * bound * 16) false;
  small = small;
  marked = λ x low is. absurd (false≢true (sym (all_alike (channels * bound * 16) (mark_of bound x) false) ∙ is));
  counted = omega (arith, sum_by-replicate (λ b. cond {A = ℕ} (not b) 1 0) (channels * bound * 16) false, length-replicate (channels * bound * 16) false);
}

-- where all marks are below the stamp, none stands
fallen : (stamp : ℕ) (marks : List ℕ) → All (λ mark. mark < stamp) marks → standing_marks stamp marks ≡ replicate (length marks) false
fallen stamp marks low = ext_get_or false (standing_marks stamp marks) (replicate (length marks) false) (length-map marks (λ mark. mark == stamp) ∙ sym (length-replicate (length marks) false)) each
  where
    each : (k : ℕ) → k < length (standing_marks stamp marks) → slice_index_or (standing_marks stamp marks) k false ≡ slice_index_or (replicate (length marks) false) k false
    each k within =
        let there : k < length marks = omega (arith, within, length-map marks (λ mark. mark == stamp)) in
        get_or-map (λ mark. mark == stamp) marks k 0 false there ∙ ne_eqb (slice_index_or marks k 0) stamp (λ same. omega (arith, same, low k 0 there)) ∙ sym (get_or-replicate (length marks) k false false there)

-- and nothing is found
pub none_stands : (channels bound stamp : ℕ) (marks : List ℕ) (taken : List Taken) → length marks ≡ channels * bound * 16 → channels * bound < 2 ^ 28 → All (λ mark. mark < stamp) marks → taken ≡ [] →
    AreFindings channels bound (standing_marks stamp marks) taken × All (λ mark. mark ≤ stamp) marks
none_stands channels bound stamp marks taken room small low none = (
  subst (λ xs. AreFindings channels bound (standing_marks stamp marks) xs) (sym none)
      (subst (λ bs. AreFindings channels bound bs []) (sym (fallen stamp marks low ∙ ap (λ n. replicate n false) room)) (none_found channels bound small)),
  λ k d within. omega (arith, low k d within),
)

-- so where the stamp is the next
pub next_stamp : (channels bound stamp : ℕ) (marks : List ℕ) (taken none : List Taken) → AreFindings channels bound (standing_marks stamp marks) taken × All (λ mark. mark ≤ stamp) marks →
    (result : Option ℕ) (next : ℕ) → SomeIff result (stamp + 1 < 2 ^ 16) (stamp + 1) → result ≡ Some next → none ≡ [] → AreFindings channels bound (standing_marks next marks) none × All (λ mark. mark ≤ next) marks
next_stamp channels bound stamp marks taken none are result next some is =
    let above : next ≡ stamp + 1 = (subst (λ r. SomeIff r (stamp + 1 < 2 ^ 16) (stamp + 1)) is some).1 in
    none_stands channels bound next marks none (sym (length-map marks (λ mark. mark == stamp)) ∙ are.0.room) are.0.small (λ k d within. omega (arith, above, are.1 k d within))

-- and where all marks are written anew
pub first_stamp : (channels bound : ℕ) (marks : List ℕ) (taken : List Taken) → marks ≡ replicate (channels * bound * 16) 0 → channels * bound < 2 ^ 28 → taken ≡ [] →
    AreFindings channels bound (standing_marks 1 marks) taken × All (λ mark. mark ≤ 1) marks
first_stamp channels bound marks taken is small =
    none_stands channels bound 1 marks taken (ap (λ (xs : List ℕ). length xs) is ∙ length-replicate (channels * bound * 16) 0) small
    (subst (λ xs. All (λ mark. mark < 1) xs) (sym is) (All-replicate (λ mark. mark < 1) (channels * bound * 16) 0 (omega arith)))

-- what is read of a mark says whether it stands
pub stands_as : (stamp : ℕ) (marks : List ℕ) (k mark : ℕ) (stands : Bool) → k < length marks → mark ≡ slice_index_or marks k 0 → (mark == stamp) ≡ stands → slice_index_or (standing_marks stamp marks) k false ≡ stands
stands_as stamp marks k mark stands within read is = get_or-map (λ x. x == stamp) marks k 0 false within ∙ ap (λ x. x == stamp) (sym read) ∙ is

-- a mark that is stamped stands
pub stands_more : (stamp : ℕ) (marks : List ℕ) (k : ℕ) → standing_marks stamp (slice_set marks k stamp) ≡ slice_set (standing_marks stamp marks) k true
stands_more stamp marks k = map-set (λ mark. mark == stamp) marks k stamp ∙ ap (λ b. slice_set (standing_marks stamp marks) k b) (eq-eqb stamp stamp refl)

module _ (channels bound : ℕ) (marks : List Bool) (taken : List Taken) (are : AreFindings channels bound marks taken) where
  pub few : length taken ≤ channels * bound * 16
  few = omega (arith, are.counted, are.room)

  module _ (x : Taken) (low : IsTakenIn channels bound x) where
    pub mark_low : mark_of bound x < length marks
    mark_low = omega (arith, are.room, mul-add-lt (node_of bound x.hop) 16 x.level (channels * bound) (node_low channels bound x.hop.channel.0 x.hop.lane low.channel low.lane) low.level)

    pub node_small : node_of bound x.hop < 2 ^ 28
    node_small = omega (arith, are.small, node_low channels bound x.hop.channel.0 x.hop.lane low.channel low.lane)

    -- one that isn't marked is found
    marked_more : (y : Taken) → IsTakenIn channels bound y → slice_index_or (slice_set marks (mark_of bound x) true) (mark_of bound y) false ≡ true → Contains (taken ++ x ∷ []) y
    marked_more y in_range is = elim (cases_eq (mark_of bound y) (mark_of bound x)) [
      | inl same ↦ Contains-append_right taken (x ∷ []) y (0, omega arith, one_mark channels bound x y low in_range (sym same))
      | inr other ↦ Contains-append_left taken (x ∷ []) y (are.marked y in_range (sym (get_or-set_other marks (mark_of bound x) (mark_of bound y) true false other) ∙ is))
    ]

    pub found_more : slice_index_or marks (mark_of bound x) false ≡ false → AreFindings channels bound (slice_set marks (mark_of bound x) true) (taken ++ x ∷ [])
    found_more unmarked = record {
      room = length-set marks (mark_of bound x) true ∙ are.room;
      small = are.small;
      marked = marked_more;
      counted = omega (
        arith,
        are.counted,
        sum_by-set (λ b. cond {A = ℕ} (not b) 1 0) marks (mark_of bound x) true false mark_low,
        length_push taken x,
        length-set marks (mark_of bound x) true,
        ap (λ b. cond {A = ℕ} (not b) 1 0) unmarked,
      );
    }

    abbrev findings : List Taken → Findings
    findings xs = record { channels = channels; bound = bound; taken = xs }

    pub one_more : FindsOneMore (findings taken) x (findings (taken ++ x ∷ []))
    one_more = record {
      more = record {
        channels = refl;
        bound = refl;
        longer = omega (arith, length_push taken x);
        kept = kept;
        has = λ y has. Contains-append_left taken (x ∷ []) y has;
      };
      there = Contains-append_right taken (x ∷ []) x (0, omega arith, refl);
      only = λ y has. elim (Contains-append_cases taken (x ∷ []) y has) [ inl was ↦ inl was | inr new ↦ inr (only_one x y new) ];
    }
      where
        kept : (k : ℕ) → k < length taken → slice_get (taken ++ x ∷ []) k ≡ slice_get taken k
        kept k within =
            slice_get-get_or (taken ++ x ∷ []) k x (omega (arith, within, length_push taken x))
            ∙ ap (λ (y : Taken). Some y) (get_or_append_left taken (x ∷ []) x k within) ∙ sym (slice_get-get_or taken k x within)

    -- one that is marked was found before
    pub one_again : slice_index_or marks (mark_of bound x) false ≡ true → FindsOneMore (findings taken) x (findings taken)
    one_again is = record {
      more = record { channels = refl; bound = refl; longer = omega arith; kept = λ k within. refl; has = λ y has. has };
      there = are.marked x low is;
      only = λ y has. inl has;
    }
