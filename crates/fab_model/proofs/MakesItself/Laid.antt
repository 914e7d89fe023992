-- The nodes and the links of blocks that are laid out.
use Rattle.std.proofs.Common.{◌≡◌, ◌≢◌, ℕ, ◌+◌, ◌<◌, inl, inr, List, [], ◌∷◌, ◌++◌, length, Option, Some, refl, sym, ◌∙◌, ap, subst, arith, append_assoc, length-append}
use Rattle.std.specs.Prelude.{map, filter_map, option_map, slice_get}
use Rattle.std.specs.List.{cons_option}
use Rattle.std.proofs.lemmas.List.Elements.{filter_map-append}
use Rattle.fab_model.specs.declared.raw.RawNode.{RawNode}
use Rattle.fab_model.specs.declared.raw.RawLink.{RawLink}
use Rattle.fab_model.specs.Records.{Stated, stated}
use Rattle.fab_model.specs.Written.{Block, laid_links, laid_out}
use Rattle.fab_model.proofs.Lists.Members.{In, Pairs, in_map, from_map, in_left, in_right, from_append, pairs_join, pairs_map, pairs_weaker}
use Rattle.fab_model.proofs.Faultless.Facts.{UseOthers}

abbrev pub head_on : ℕ → Block → RawNode
head_on line block = record block.head { line = line }

abbrev pub pair_of : RawNode → RawLink → Stated
pair_of node link = record { node = node; link = link }

-- the links of blocks, each with its head
abbrev pub stated_of : ℕ → ℕ → List Block → List Stated
stated_of line node [] = []
stated_of line node (block ∷ others) =
    map (pair_of (head_on line block)) (laid_links (line + 1) node block.links)
    ++ stated_of (line + length block.links + 2) (node + 1) others

abbrev stand_among : List RawNode → RawLink → Option Stated
stand_among nodes link = option_map (λ node. record { node = node; link = link }) (slice_get nodes link.node)

slice_get_middle : {X : Type 0} (xs : List X) (x : X) (ys : List X) → slice_get (xs ++ x ∷ ys) (length xs) ≡ Some x
slice_get_middle [] x ys = refl
slice_get_middle (y ∷ xs) x ys = slice_get_middle xs x ys

one_block : (nodes : List RawNode) (head : RawNode) (line node : ℕ) (links : List RawLink) → slice_get nodes node ≡ Some head → filter_map (stand_among nodes) (laid_links line node links) ≡ map (pair_of head) (laid_links line node links)
one_block nodes head line node [] at = refl
one_block nodes head line node (link ∷ links) at =
    let placed : RawLink = record link { line = line; node = node } in
    ap (λ (o : Option RawNode). cons_option (option_map (λ n. pair_of n placed) o) (filter_map (stand_among nodes) (laid_links (line + 1) node links))) at
    ∙ ap (λ (l : List Stated). pair_of head placed ∷ l) (one_block nodes head (line + 1) node links at)

stated_laid_after : (blocks : List Block) (line node : ℕ) (before all : List RawNode) → length before ≡ node → all ≡ before ++ (laid_out line node blocks).nodes → filter_map (stand_among all) (laid_out line node blocks).links ≡ stated_of line node blocks
stated_laid_after [] line node before all counted is = refl
stated_laid_after (block ∷ others) line node before all counted is =
    let head = head_on line block in
    let after = laid_out (line + length block.links + 2) (node + 1) others in
    let at : slice_get all node ≡ Some head =
    ap (λ (l : List RawNode). slice_get l node) is
    ∙ subst (λ (n : ℕ). slice_get (before ++ head ∷ after.nodes) n ≡ Some head) counted (slice_get_middle before head after.nodes) in
    filter_map-append (stand_among all) (laid_links (line + 1) node block.links) after.links
    ∙ ap (λ (l : List Stated). l ++ filter_map (stand_among all) after.links) (one_block all head (line + 1) node block.links at)
    ∙ ap (λ (l : List Stated). map (pair_of head) (laid_links (line + 1) node block.links) ++ l)
    (stated_laid_after others (line + length block.links + 2) (node + 1) (before ++ head ∷ []) all
    (omega (arith, length-append before (head ∷ []), counted))
    (is ∙ sym (append_assoc before (head ∷ []) after.nodes)))

pub stated_laid : (blocks : List Block) → stated (laid_out 1 0 blocks) ≡ stated_of 1 0 blocks
stated_laid blocks = stated_laid_after blocks 1 0 [] (laid_out 1 0 blocks).nodes refl refl

-- ---- nodes

pub from_laid_nodes : (blocks : List Block) (line node : ℕ) (n : RawNode) → In n (laid_out line node blocks).nodes → (block : Block) × In block blocks × (l : ℕ) × (n ≡ head_on l block)
from_laid_nodes [] line node n within = absurd within
from_laid_nodes (block ∷ others) line node n (inl e) = (block, inl refl, line, sym e)
from_laid_nodes (block ∷ others) line node n (inr within) =
    let there = from_laid_nodes others (line + length block.links + 2) (node + 1) n within in
    (there.0, inr there.1, there.2, there.3)

pub in_laid_nodes : (blocks : List Block) (line node : ℕ) (block : Block) → In block blocks → (n : RawNode) × In n (laid_out line node blocks).nodes × (l : ℕ) × (n ≡ head_on l block)
in_laid_nodes [] line node block within = absurd within
in_laid_nodes (first ∷ others) line node block (inl e) = (head_on line first, inl refl, line, ap (head_on line) e)
in_laid_nodes (first ∷ others) line node block (inr within) =
    let there = in_laid_nodes others (line + length first.links + 2) (node + 1) block within in
    (there.0, inr there.1, there.2, there.3)

abbrev pub OtherHeads : Block → Block → Type 0
OtherHeads one other = one.head.guid ≢ other.head.guid

pub guids_laid : (blocks : List Block) (line node : ℕ) → Pairs OtherHeads blocks → Pairs (λ one other. one.guid ≢ other.guid) (laid_out line node blocks).nodes
guids_laid [] line node pairs = tt
guids_laid (block ∷ others) line node pairs = (
  λ n within.
      let there = from_laid_nodes others (line + length block.links + 2) (node + 1) n within in
      subst (λ (m : RawNode). block.head.guid ≢ m.guid) (sym there.3) (pairs.0 there.0 there.1),
  guids_laid others (line + length block.links + 2) (node + 1) pairs.1,
)

-- ---- links

-- a link and its head, but for their lines and the link's node
pub record IsLaid (block : Block) (link : RawLink) (one : Stated) : Type 0 where
  pub line : ℕ
  pub place : ℕ
  pub index : ℕ
  pub stands : one.node ≡ record block.head { line = line }
  pub states : one.link ≡ record link { line = place; node = index }

from_laid_links : (links : List RawLink) (line node : ℕ) (l : RawLink) → In l (laid_links line node links) → (link : RawLink) × In link links × (place : ℕ) × (l ≡ record link { line = place; node = node })
from_laid_links [] line node l within = absurd within
from_laid_links (link ∷ links) line node l (inl e) = (link, inl refl, line, sym e)
from_laid_links (link ∷ links) line node l (inr within) =
    let there = from_laid_links links (line + 1) node l within in (there.0, inr there.1, there.2, there.3)

in_laid_links : (links : List RawLink) (line node : ℕ) (link : RawLink) → In link links → (l : RawLink) × In l (laid_links line node links) × (place : ℕ) × (l ≡ record link { line = place; node = node })
in_laid_links [] line node link within = absurd within
in_laid_links (first ∷ links) line node link (inl e) =
    (record first { line = line; node = node }, inl refl, line, ap (λ (l : RawLink). record l { line = line; node = node }) e)
in_laid_links (first ∷ links) line node link (inr within) =
    let there = in_laid_links links (line + 1) node link within in (there.0, inr there.1, there.2, there.3)

pub from_stated_of : (blocks : List Block) (line node : ℕ) (one : Stated) → In one (stated_of line node blocks) → (block : Block) × In block blocks × (link : RawLink) × In link block.links × IsLaid block link one
from_stated_of [] line node one within = absurd within
from_stated_of (block ∷ others) line node one within =
    elim (from_append (map (pair_of (head_on line block)) (laid_links (line + 1) node block.links)) (stated_of (line + length block.links + 2) (node + 1) others) one within) [
      | inl here ↦
          let pair = from_map (pair_of (head_on line block)) (laid_links (line + 1) node block.links) one here in
          let link = from_laid_links block.links (line + 1) node pair.0 pair.1 in (
            block,
            inl refl,
            link.0,
            link.1,
            record {
              line = line;
              place = link.2;
              index = node;
              stands = sym (ap (λ (s : Stated). s.node) pair.2);
              states = sym (ap (λ (s : Stated). s.link) pair.2) ∙ link.3;
            },
          )
      | inr later ↦
          let there = from_stated_of others (line + length block.links + 2) (node + 1) one later in
          (there.0, inr there.1, there.2, there.3, there.4)
    ]

pub in_stated_of : (blocks : List Block) (line node : ℕ) (block : Block) (link : RawLink) → In block blocks → In link block.links → (one : Stated) × In one (stated_of line node blocks) × IsLaid block link one
in_stated_of [] line node block link within under = absurd within
in_stated_of (first ∷ others) line node block link (inl e) under =
    let there = in_laid_links first.links (line + 1) node link (subst (λ (b : Block). In link b.links) (sym e) under) in (
      pair_of (head_on line first) there.0,
      in_left (map (pair_of (head_on line first)) (laid_links (line + 1) node first.links)) (stated_of (line + length first.links + 2) (node + 1) others) (pair_of (head_on line first) there.0)
          (in_map (pair_of (head_on line first)) (laid_links (line + 1) node first.links) there.0 there.1),
      record { line = line; place = there.2; index = node; stands = ap (head_on line) e; states = there.3 },
    )
in_stated_of (first ∷ others) line node block link (inr within) under =
    let there = in_stated_of others (line + length first.links + 2) (node + 1) block link within under in (
      there.0,
      in_right (map (pair_of (head_on line first)) (laid_links (line + 1) node first.links)) (stated_of (line + length first.links + 2) (node + 1) others) there.0 there.1,
      there.2,
    )

-- each link stands under a node
pub link_is_stated : (blocks : List Block) (line node : ℕ) (link : RawLink) → In link (laid_out line node blocks).links → (one : Stated) × In one (stated_of line node blocks) × (one.link ≡ link)
link_is_stated [] line node link within = absurd within
link_is_stated (block ∷ others) line node link within =
    let after = stated_of (line + length block.links + 2) (node + 1) others in
    elim (from_append (laid_links (line + 1) node block.links) (laid_out (line + length block.links + 2) (node + 1) others).links link within) [
      | inl here ↦ (
        pair_of (head_on line block) link,
        in_left (map (pair_of (head_on line block)) (laid_links (line + 1) node block.links)) after (pair_of (head_on line block) link)
            (in_map (pair_of (head_on line block)) (laid_links (line + 1) node block.links) link here),
        refl,
      )
      | inr later ↦
          let there = link_is_stated others (line + length block.links + 2) (node + 1) link later in
          (there.0, in_right (map (pair_of (head_on line block)) (laid_links (line + 1) node block.links)) after there.0 there.1, there.2)
    ]

ports_laid : (links : List RawLink) (line node : ℕ) → Pairs (λ one other. one.port < other.port) links → Pairs (λ one other. one.port ≢ other.port) (laid_links line node links)
ports_laid [] line node pairs = tt
ports_laid (link ∷ links) line node pairs = (
  λ l within.
      let there = from_laid_links links (line + 1) node l within in
      let less = pairs.0 there.0 there.1 in
      subst (λ (m : RawLink). link.port ≢ m.port) (sym there.3) (λ same. omega (arith, less)),
  ports_laid links (line + 1) node pairs.1,
)

pub use_others_laid : (blocks : List Block) (line node : ℕ) → Pairs OtherHeads blocks → ((block : Block) → In block blocks → Pairs (λ one other. one.port < other.port) block.links) → Pairs UseOthers (stated_of line node blocks)
use_others_laid [] line node pairs rise = tt
use_others_laid (block ∷ others) line node pairs rise =
    pairs_join UseOthers (map (pair_of (head_on line block)) (laid_links (line + 1) node block.links)) (stated_of (line + length block.links + 2) (node + 1) others)
    (pairs_map UseOthers (pair_of (head_on line block)) (laid_links (line + 1) node block.links)
    (pairs_weaker (λ (one other : RawLink). one.port ≢ other.port) (λ (one other : RawLink). UseOthers (pair_of (head_on line block) one) (pair_of (head_on line block) other))
    (laid_links (line + 1) node block.links) (λ one other in_one in_other apart guid. apart)
    (ports_laid block.links (line + 1) node (rise block (inl refl)))))
    (use_others_laid others (line + length block.links + 2) (node + 1) pairs.1 (λ other within. rise other (inr within)))
    (λ one other in_one in_other guid.
    let here = from_map (pair_of (head_on line block)) (laid_links (line + 1) node block.links) one in_one in
    let there = from_stated_of others (line + length block.links + 2) (node + 1) other in_other in
    absurd (pairs.0 there.0 there.1
    (ap (λ (s : Stated). s.node.guid) here.2 ∙ guid ∙ ap (λ (n : RawNode). n.guid) there.4.stands)))
