-- The lines of blocks that are laid out.
use Rattle.std.proofs.Common.{◌≢◌, ℕ, ◌+◌, ◌<◌, ◌≤◌, inl, inr, List, [], ◌∷◌, length, ap, arith}
use Rattle.std.specs.Prelude.{All}
use Rattle.fab_model.specs.declared.raw.RawNode.{RawNode}
use Rattle.fab_model.specs.declared.raw.RawLink.{RawLink}
use Rattle.fab_model.specs.Topology.{Topology}
use Rattle.fab_model.specs.Written.{Block, blocks, laid_links, laid_out, records_of}
use Rattle.fab_model.proofs.Lists.Members.{In, Pairs, All_from_in, AllPairs_from_pairs, from_append, pairs_join}
use Rattle.fab_model.proofs.Faultless.Facts.{HaveLines}

links_between : (links : List RawLink) (line node : ℕ) (l : RawLink) → In l (laid_links line node links) → (line ≤ l.line) × (l.line < line + length links)
links_between [] line node l within = absurd within
links_between (link ∷ links) line node l (inl e) =
    let same = ap (λ (l : RawLink). l.line) e in (omega (arith, same), omega (arith, same))
links_between (link ∷ links) line node l (inr within) =
    let there = links_between links (line + 1) node l within in (omega (arith, there.0), omega (arith, there.1))

links_rise : (links : List RawLink) (line node : ℕ) → Pairs (λ first second. first.line < second.line) (laid_links line node links)
links_rise [] line node = tt
links_rise (link ∷ links) line node =
    (λ l within. let there = links_between links (line + 1) node l within in omega (arith, there.0), links_rise links (line + 1) node)

nodes_from : (bs : List Block) (line node : ℕ) (n : RawNode) → In n (laid_out line node bs).nodes → line ≤ n.line
nodes_from [] line node n within = absurd within
nodes_from (block ∷ others) line node n (inl e) = let same = ap (λ (n : RawNode). n.line) e in omega (arith, same)
nodes_from (block ∷ others) line node n (inr within) =
    let there = nodes_from others (line + length block.links + 2) (node + 1) n within in omega (arith, there)

links_from : (bs : List Block) (line node : ℕ) (l : RawLink) → In l (laid_out line node bs).links → line < l.line
links_from [] line node l within = absurd within
links_from (block ∷ others) line node l within =
    elim (from_append (laid_links (line + 1) node block.links) (laid_out (line + length block.links + 2) (node + 1) others).links l within) [
      | inl here ↦ let there = links_between block.links (line + 1) node l here in omega (arith, there.0)
      | inr later ↦ let there = links_from others (line + length block.links + 2) (node + 1) l later in omega (arith, there)
    ]

laid_nodes_rise : (bs : List Block) (line node : ℕ) → Pairs (λ first second. first.line < second.line) (laid_out line node bs).nodes
laid_nodes_rise [] line node = tt
laid_nodes_rise (block ∷ others) line node = (
  λ n within. let there = nodes_from others (line + length block.links + 2) (node + 1) n within in omega (arith, there),
  laid_nodes_rise others (line + length block.links + 2) (node + 1),
)

laid_links_rise : (bs : List Block) (line node : ℕ) → Pairs (λ first second. first.line < second.line) (laid_out line node bs).links
laid_links_rise [] line node = tt
laid_links_rise (block ∷ others) line node =
    pairs_join (λ (first second : RawLink). first.line < second.line) (laid_links (line + 1) node block.links) (laid_out (line + length block.links + 2) (node + 1) others).links
    (links_rise block.links (line + 1) node)
    (laid_links_rise others (line + length block.links + 2) (node + 1))
    (λ one other in_one in_other.
    let here = links_between block.links (line + 1) node one in_one in
    let there = links_from others (line + length block.links + 2) (node + 1) other in_other in
    omega (arith, here.1, there))

lines_apart : (bs : List Block) (line node : ℕ) (n : RawNode) (l : RawLink) → In n (laid_out line node bs).nodes → In l (laid_out line node bs).links → n.line ≢ l.line
lines_apart [] line node n l in_n in_l = absurd in_n
lines_apart (block ∷ others) line node n l (inl e) in_l =
    let same = ap (λ (n : RawNode). n.line) e in
    let there = links_from (block ∷ others) line node l in_l in
    λ equal. omega (arith, same, there, equal)
lines_apart (block ∷ others) line node n l (inr in_n) in_l =
    elim (from_append (laid_links (line + 1) node block.links) (laid_out (line + length block.links + 2) (node + 1) others).links l in_l) [
      | inl here ↦
          let under = links_between block.links (line + 1) node l here in
          let above = nodes_from others (line + length block.links + 2) (node + 1) n in_n in
          λ equal. omega (arith, under.1, above, equal)
      | inr later ↦ lines_apart others (line + length block.links + 2) (node + 1) n l in_n later
    ]

pub own_lines : (fabric : Topology) → HaveLines (records_of fabric)
unfolding records_of
own_lines fabric = record {
  nodes_rise = AllPairs_from_pairs (λ (first second : RawNode). first.line < second.line) (laid_out 1 0 (blocks fabric)).nodes (laid_nodes_rise (blocks fabric) 1 0);
  links_rise = AllPairs_from_pairs (λ (first second : RawLink). first.line < second.line) (laid_out 1 0 (blocks fabric)).links (laid_links_rise (blocks fabric) 1 0);
  lines_differ =
      All_from_in (λ (node : RawNode). All (λ link. node.line ≢ link.line) (laid_out 1 0 (blocks fabric)).links) (laid_out 1 0 (blocks fabric)).nodes (λ n in_n.
      All_from_in (λ (link : RawLink). n.line ≢ link.line) (laid_out 1 0 (blocks fabric)).links (λ l in_l.
      lines_apart (blocks fabric) 1 0 n l in_n in_l));
}
