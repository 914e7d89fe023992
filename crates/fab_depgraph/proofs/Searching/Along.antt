-- The steps of a search along the edges of one channel.
use Rattle.std.proofs.Common.{sym, ◌≡◌, ◌≢◌, ℕ, ◌<◌, ◌≤◌, Bool, true, false, if◌then◌else◌, List, [], ◌∷◌, ◌++◌, length, set, All, Contains, slice_index, slice_index_or, refl, ◌∙◌, ap, subst, inl, inr, arith, length-append, length-set, append_assoc, get_or-set_same, get_or-set_other}
use Rattle.std.proofs.lemmas.Bool.{cases_eq}
use Rattle.std.proofs.lemmas.List.Elements.{All-push, Contains-append_left, Contains-append_right}
use Rattle.std.proofs.Math.Seq.{get_or-append_seam}
use Rattle.fab_model.specs.declared.rows.ChannelId.{ChannelId}
use Rattle.fab_graph.proofs.Members.{first}
use Rattle.fab_depgraph.specs.Order.{is_reached}
use Rattle.fab_depgraph.specs.Search.{Search, with_found, FindsMore, AreFound}
use Rattle.fab_depgraph.proofs.Searching.Found.{reached_within}

pub still_found : (s : Search) (channel : ChannelId) (c : ℕ) → is_reached s.marks c ≡ true → is_reached (with_found s channel).marks c ≡ true
still_found s channel c was = go (is_reached s.marks channel.0)
  where
    after : is_reached (set s.marks channel.0 true) c ≡ true
    after = elim (cases_eq c channel.0) [
      | inl same ↦ ap (is_reached (set s.marks channel.0 true)) same ∙ get_or-set_same s.marks channel.0 true false (subst (λ k. k < length s.marks) same (reached_within s.marks c was))
      | inr differ ↦ get_or-set_other s.marks channel.0 c true false differ ∙ was
    ]

    go : (b : Bool) → is_reached (if b then s else record { marks = set s.marks channel.0 true; found = s.found ++ channel ∷ [] }).marks c ≡ true
    go true = was
    go false = after

pub found_now : (s : Search) (channel : ChannelId) → channel.0 < length s.marks → is_reached (with_found s channel).marks channel.0 ≡ true
found_now s channel within = go (is_reached s.marks channel.0) refl
  where
    go : (b : Bool) → is_reached s.marks channel.0 ≡ b → is_reached (if b then s else record { marks = set s.marks channel.0 true; found = s.found ++ channel ∷ [] }).marks channel.0 ≡ true
    go true was = was
    go false was = get_or-set_same s.marks channel.0 true false within

pub more_widened : (old s : Search) (channels more : List ChannelId) (numbers : List ℕ) (bound : ℕ) → FindsMore old s channels numbers bound → FindsMore old s (channels ++ more) numbers bound
more_widened old s channels more numbers bound finds = record {
  each = finds.each;
  added = finds.added;
  found = finds.found;
  among = λ k d k_in. (let was = finds.among k d k_in in (Contains-append_left channels more (slice_index_or finds.added k d) was.0, was.1));
}

pub more_found : (old s : Search) (channels : List ChannelId) (channel : ChannelId) (numbers : List ℕ) (bound : ℕ) → slice_index numbers channel.0 < bound → FindsMore old s channels numbers bound → FindsMore old (with_found s channel) (channels ++ channel ∷ []) numbers bound
more_found old s channels channel numbers bound below finds = go (is_reached s.marks channel.0)
  where
    go : (b : Bool) → FindsMore old (if b then s else record { marks = set s.marks channel.0 true; found = s.found ++ channel ∷ [] }) (channels ++ channel ∷ []) numbers bound
    go true = more_widened old s channels (channel ∷ []) numbers bound finds
    go false = record {
      each = length-set s.marks channel.0 true ∙ finds.each;
      added = finds.added ++ channel ∷ [];
      found = ap (λ (found : List ChannelId). found ++ channel ∷ []) finds.found ∙ append_assoc old.found finds.added (channel ∷ []);
      among = All-push (λ c. Contains (channels ++ channel ∷ []) c × (slice_index numbers c.0 < bound)) finds.added channel (λ k d k_in. (let was = finds.among k d k_in in (Contains-append_left channels (channel ∷ []) (slice_index_or finds.added k d) was.0, was.1))) (Contains-append_right channels (channel ∷ []) channel (first channel []), below);
    }

-- the next one belongs to those that were passed
pub passed_next : {X : Type 0} (all ys rest : List X) (x : X) → all ≡ ys ++ (x ∷ rest) → all ≡ ys ++ x ∷ [] ++ rest
passed_next all ys rest x whole = whole ∙ sym (append_assoc ys (x ∷ []) rest)

-- what holds of all holds of the next one
pub next_known : {X : Type 0} (P : X → Type 0) (all ys rest : List X) (x : X) → all ≡ ys ++ (x ∷ rest) → All P all → P x
next_known P all ys rest x whole each =
    let at : slice_index_or all (length ys) x ≡ x = ap (λ xs. slice_index_or xs (length ys) x) whole ∙ get_or-append_seam ys x rest x in
    subst P at (each (length ys) x (omega (arith, ap length whole, length-append ys (x ∷ rest))))

pub passes_found : (s : Search) (channels : List ChannelId) (channel : ChannelId) (numbers : List ℕ) (last bound : ℕ) → channel.0 < length s.marks → channel.0 ≢ last → AreFound s channels numbers last bound → AreFound (with_found s channel) (channels ++ channel ∷ []) numbers last bound
passes_found s channels channel numbers last bound within differs passes =
    All-push (λ c. (c.0 ≢ last) × (slice_index numbers c.0 < bound → is_reached (with_found s channel).marks c.0 ≡ true)) channels channel
    (λ k d k_in. (let was = passes k d k_in in (was.0, λ below. still_found s channel (slice_index_or channels k d).0 (was.1 below))))
    (differs, λ below. found_now s channel within)

pub passes_over : (s : Search) (channels : List ChannelId) (channel : ChannelId) (numbers : List ℕ) (last bound : ℕ) → bound ≤ slice_index numbers channel.0 → channel.0 ≢ last → AreFound s channels numbers last bound → AreFound s (channels ++ channel ∷ []) numbers last bound
passes_over s channels channel numbers last bound above differs passes =
    All-push (λ c. (c.0 ≢ last) × (slice_index numbers c.0 < bound → is_reached s.marks c.0 ≡ true)) channels channel passes (differs, λ below. absurd (omega (arith, above, below)))
