-- The edges of a path are counted, channel after channel.
use Rattle.std.proofs.Common.{◌≡◌, ℕ, ◌+◌, List, [], ◌∷◌, ◌∙◌, ap, Some, None, Option}
use Rattle.fab_model.specs.declared.rows.ChannelId.{ChannelId}
use Rattle.fab_dfsssp.specs.CountedEdges.{one_at}
use Rattle.fab_dfsssp.specs.LaneCounts.{times_along}

-- how often an edge stands along the channels that are left, where a channel came before
abbrev pub times_after : ℕ × ℕ → Option ChannelId → List ℕ → ℕ
times_after edge None rest = times_along edge rest
times_after edge (Some before) rest = times_along edge (before.0 ∷ rest)

pub first_channel : (edge : ℕ × ℕ) (last : Option ChannelId) (c : ChannelId) (cs rest : List ℕ) → last ≡ None → cs ≡ c.0 ∷ rest → times_after edge last cs ≡ times_after edge (Some c) rest
first_channel edge last c cs rest none at = ap (λ o. times_after edge o cs) none ∙ ap (times_along edge) at

pub next_channel : (edge : ℕ × ℕ) (last : Option ChannelId) (before c : ChannelId) (cs rest : List ℕ) → last ≡ Some before → cs ≡ c.0 ∷ rest → times_after edge last cs ≡ one_at (before.0, c.0) edge + times_after edge (Some c) rest
next_channel edge last before c cs rest some at = ap (λ o. times_after edge o cs) some ∙ ap (λ xs. times_along edge (before.0 ∷ xs)) at

pub none_after : (edge : ℕ × ℕ) (last : Option ChannelId) (cs : List ℕ) → cs ≡ [] → times_after edge last cs ≡ 0
none_after edge None cs is = ap (times_along edge) is
none_after edge (Some before) cs is = ap (λ xs. times_along edge (before.0 ∷ xs)) is
