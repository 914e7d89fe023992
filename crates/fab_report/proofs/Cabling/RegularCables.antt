-- The cables of rings, tori and trees.
use Rattle.std.proofs.Common.{◌≡◌, ◌≢◌, ℕ, ◌+◌, ◌-◌, ◌*◌, ◌<◌, ◌≤◌, inl, inr, List, [], ◌∷◌, length, map, sym, ◌∙◌, ap, subst, arith}
use Rattle.std.specs.Prelude.{◌/◌, ◌%◌, slice_index_or, nat_lt, IsTrue}
use Rattle.std.specs.List.{range_with_len}
use Rattle.std.proofs.lemmas.Bool.{cond-true, cond-false, lt-ltb, le-ltb}
use Rattle.std.proofs.lemmas.List.{length-map}
use Rattle.std.proofs.lemmas.List.Concat.{length-flat_map}
use Rattle.std.proofs.lemmas.List.FromFn.{length-range_with_len}
use Rattle.std.proofs.lemmas.List.Sums.{sum_by-le}
use Rattle.std.proofs.lemmas.Nat.{mul-le, mul-add-lt, same_from_place, div_below, mod_below, div-add-mod'}
use Rattle.fab_model.specs.declared.rows.ChannelRow.{ChannelRow}
use Rattle.fab_model.proofs.Lists.Members.{In, Pairs, from_map, pairs_map, pairs_weaker}
use Rattle.fab_model.proofs.Lists.Found.{from_range, range_rises}
use Rattle.fab_report.specs.declared.recipe.Kind.TheVariants.{Ring, Torus, Tree}
use Rattle.fab_report.specs.Cabling.{cable}
use Rattle.fab_report.specs.Recipes.{fits_kind, port_count, at_grid, torus_cables_of, cables}
use Rattle.fab_model.proofs.Lists.FlatMaps.{from_flat_map, pairs_flat_map}
use Rattle.fab_report.proofs.Cabling.CableLists.{IsCable, HaveOwnEnds, AreCables}
use Rattle.fab_report.proofs.Generated.Ranges.{FitsRing, FitsTorus, FitsTree, ring_fits, torus_fits, tree_fits, next_below, next_differs, next_one}

-- cables of other ports
by_ports : (x y : ChannelRow) → x.port ≢ y.port → x.port ≢ y.tip_port → x.tip_port ≢ y.port → x.tip_port ≢ y.tip_port → HaveOwnEnds x y
by_ports x y a b c d = record { tails = λ e. a; tail_tip = λ e. b; tip_tail = λ e. c; tips = λ e. d }

differ : (m n : ℕ) → m < n → m ≢ n
differ m n h e = omega (arith, h, e)

differ_back : (m n : ℕ) → n < m → m ≢ n
differ_back m n h e = omega (arith, h, e)

-- ---- a ring

module _ (a b : ℕ) (fit : FitsRing a b) where
  ring_cable : (s : ℕ) → s < a → IsCable Ring a b (cable s 1 ((s + 1) % a) 2)
  ring_cable s h = record {
    tail = h;
    tip = next_below a s h;
    tail_port = (omega arith, omega arith);
    tip_port = (omega arith, omega arith);
    tail_free = λ port within. differ_back port 1 (omega (arith, (from_range 3 b port within).0));
    tip_free = λ port within. differ_back port 2 (omega (arith, (from_range 3 b port within).0));
    other = next_differs a s (omega (arith, fit.least)) h;
  }

  ring_apart : (s u : ℕ) → s < a → u < a → s < u → HaveOwnEnds (cable s 1 ((s + 1) % a) 2) (cable u 1 ((u + 1) % a) 2)
  ring_apart s u h k less = record {
    tails = λ same. absurd (omega (arith, less, same));
    tail_tip = λ same. differ 1 2 (omega arith);
    tip_tail = λ same. differ_back 2 1 (omega arith);
    tips = λ same. absurd (omega (arith, less, next_one a s u h k same));
  }

  ring_cables_of : (seed : ℕ) → AreCables Ring a b (cables Ring a b seed)
  ring_cables_of seed = record {
    each = λ row within.
        let from : (s : ℕ) × In s (range_with_len 0 a) × (cable s 1 ((s + 1) % a) 2 ≡ row) = from_map (λ s. cable s 1 ((s + 1) % a) 2) (range_with_len 0 a) row within in
        subst (IsCable Ring a b) from.2 (ring_cable from.0 (omega (arith, (from_range 0 a from.0 from.1).1)));
    apart = pairs_map HaveOwnEnds (λ s. cable s 1 ((s + 1) % a) 2) (range_with_len 0 a)
        (pairs_weaker (λ s u. s < u) (λ s u. HaveOwnEnds (cable s 1 ((s + 1) % a) 2) (cable u 1 ((u + 1) % a) 2)) (range_with_len 0 a)
        (λ s u in_s in_u less. ring_apart s u (omega (arith, (from_range 0 a s in_s).1)) (omega (arith, (from_range 0 a u in_u).1)) less) (range_rises 0 a));
    few = omega (arith, length-map (range_with_len 0 a) (λ s. cable s 1 ((s + 1) % a) 2), length-range_with_len 0 a, fit.greatest);
  }

pub ring_cables : (a b seed : ℕ) → IsTrue (fits_kind Ring a b) → AreCables Ring a b (cables Ring a b seed)
ring_cables a b seed e = ring_cables_of a b (ring_fits a b e) seed

-- ---- a torus

module _ (a b : ℕ) (fit : FitsTorus a b) where
  abbrev column : ℕ → ℕ
  column s = s % a

  abbrev row_of : ℕ → ℕ
  row_of s = s / a

  abbrev to_right : ℕ → ℕ
  to_right s = at_grid a ((column s + 1) % a) (row_of s)

  abbrev to_below : ℕ → ℕ
  to_below s = at_grid a (column s) ((row_of s + 1) % b)

  column_below : (s : ℕ) → column s < a
  column_below s = mod_below s a (omega (arith, fit.columns))

  row_below : (s : ℕ) → s < a * b → row_of s < b
  row_below s h = div_below s a b (omega (arith, fit.columns)) (omega (arith, h))

  there : (s : ℕ) → at_grid a (column s) (row_of s) ≡ s
  there s = div-add-mod' s a

  right_below : (s : ℕ) → s < a * b → to_right s < a * b
  right_below s h = mul-add-lt (row_of s) a ((column s + 1) % a) b (row_below s h) (next_below a (column s) (column_below s))

  below_below : (s : ℕ) → s < a * b → to_below s < a * b
  below_below s h = mul-add-lt ((row_of s + 1) % b) a (column s) b (next_below b (row_of s) (row_below s h)) (column_below s)

  one_place : (s u : ℕ) → column s ≡ column u → row_of s ≡ row_of u → s ≡ u
  one_place s u c r = sym (there s) ∙ ap (λ x. at_grid a x (row_of s)) c ∙ ap (λ y. at_grid a (column u) y) r ∙ there u

  right_differs : (s : ℕ) → s ≢ to_right s
  right_differs s same =
      next_differs a (column s) (omega (arith, fit.columns)) (column_below s)
      (same_from_place (row_of s) (column s) (row_of s) ((column s + 1) % a) a (column_below s) (next_below a (column s) (column_below s)) (there s ∙ same)).1

  below_differs : (s : ℕ) → s < a * b → s ≢ to_below s
  below_differs s h same =
      next_differs b (row_of s) (omega (arith, fit.rows)) (row_below s h)
      (same_from_place (row_of s) (column s) ((row_of s + 1) % b) (column s) a (column_below s) (column_below s) (there s ∙ same)).0

  right_one : (s u : ℕ) → to_right s ≡ to_right u → s ≡ u
  right_one s u same =
      let parts : (row_of s ≡ row_of u) × ((column s + 1) % a ≡ (column u + 1) % a) =
      same_from_place (row_of s) ((column s + 1) % a) (row_of u) ((column u + 1) % a) a (next_below a (column s) (column_below s)) (next_below a (column u) (column_below u)) same in
      one_place s u (next_one a (column s) (column u) (column_below s) (column_below u) parts.1) parts.0

  below_one : (s u : ℕ) → s < a * b → u < a * b → to_below s ≡ to_below u → s ≡ u
  below_one s u h k same =
      let parts : ((row_of s + 1) % b ≡ (row_of u + 1) % b) × (column s ≡ column u) =
      same_from_place ((row_of s + 1) % b) (column s) ((row_of u + 1) % b) (column u) a (column_below s) (column_below u) same in
      one_place s u parts.1 (next_one b (row_of s) (row_of u) (row_below s h) (row_below u k) parts.0)

  abbrev right_cable : ℕ → ChannelRow
  right_cable s = cable s 1 (to_right s) 2

  abbrev below_cable : ℕ → ChannelRow
  below_cable s = cable s 3 (to_below s) 4

  no_terminal : (port n : ℕ) → n < 5 → In port (5 ∷ []) → port ≢ n
  no_terminal port n h (inl e) same = omega (arith, h, e, same)
  no_terminal port n h (inr none) same = none

  torus_cable : (s : ℕ) (row : ChannelRow) → s < a * b → In row (torus_cables_of a b s) → IsCable Torus a b row
  torus_cable s row h (inl e) = subst (IsCable Torus a b) e (record {
    tail = h;
    tip = right_below s h;
    tail_port = (omega arith, omega arith);
    tip_port = (omega arith, omega arith);
    tail_free = λ port within. no_terminal port 1 (omega arith) within;
    tip_free = λ port within. no_terminal port 2 (omega arith) within;
    other = right_differs s;
  })
  torus_cable s row h (inr (inl e)) = subst (IsCable Torus a b) e (record {
    tail = h;
    tip = below_below s h;
    tail_port = (omega arith, omega arith);
    tip_port = (omega arith, omega arith);
    tail_free = λ port within. no_terminal port 3 (omega arith) within;
    tip_free = λ port within. no_terminal port 4 (omega arith) within;
    other = below_differs s h;
  })
  torus_cable s row h (inr (inr none)) = absurd none

  right_then_below : (s u : ℕ) → HaveOwnEnds (right_cable s) (below_cable u)
  right_then_below s u = by_ports (right_cable s) (below_cable u) (differ 1 3 (omega arith)) (differ 1 4 (omega arith)) (differ 2 3 (omega arith)) (differ 2 4 (omega arith))

  below_then_right : (s u : ℕ) → HaveOwnEnds (below_cable s) (right_cable u)
  below_then_right s u = by_ports (below_cable s) (right_cable u) (differ_back 3 1 (omega arith)) (differ_back 3 2 (omega arith)) (differ_back 4 1 (omega arith)) (differ_back 4 2 (omega arith))

  two_right : (s u : ℕ) → s < u → HaveOwnEnds (right_cable s) (right_cable u)
  two_right s u less = record {
    tails = λ same. absurd (omega (arith, less, same));
    tail_tip = λ same. differ 1 2 (omega arith);
    tip_tail = λ same. differ_back 2 1 (omega arith);
    tips = λ same. absurd (omega (arith, less, right_one s u same));
  }

  two_below : (s u : ℕ) → s < a * b → u < a * b → s < u → HaveOwnEnds (below_cable s) (below_cable u)
  two_below s u h k less = record {
    tails = λ same. absurd (omega (arith, less, same));
    tail_tip = λ same. differ 3 4 (omega arith);
    tip_tail = λ same. differ_back 4 3 (omega arith);
    tips = λ same. absurd (omega (arith, less, below_one s u h k same));
  }

  across : (s u : ℕ) (x y : ChannelRow) → s < a * b → u < a * b → s < u → In x (torus_cables_of a b s) → In y (torus_cables_of a b u) → HaveOwnEnds x y
  across s u x y h k less (inl e) (inl f) = subst (λ z. HaveOwnEnds z y) e (subst (λ z. HaveOwnEnds (right_cable s) z) f (two_right s u less))
  across s u x y h k less (inl e) (inr (inl f)) = subst (λ z. HaveOwnEnds z y) e (subst (λ z. HaveOwnEnds (right_cable s) z) f (right_then_below s u))
  across s u x y h k less (inl e) (inr (inr none)) = absurd none
  across s u x y h k less (inr (inl e)) (inl f) = subst (λ z. HaveOwnEnds z y) e (subst (λ z. HaveOwnEnds (below_cable s) z) f (below_then_right s u))
  across s u x y h k less (inr (inl e)) (inr (inl f)) = subst (λ z. HaveOwnEnds z y) e (subst (λ z. HaveOwnEnds (below_cable s) z) f (two_below s u h k less))
  across s u x y h k less (inr (inl e)) (inr (inr none)) = absurd none
  across s u x y h k less (inr (inr none)) g = absurd none

  of_one : (s : ℕ) → Pairs HaveOwnEnds (torus_cables_of a b s)
  of_one s = (first, (λ y none. absurd none, tt))
    where
      first : (y : ChannelRow) → In y (below_cable s ∷ []) → HaveOwnEnds (right_cable s) y
      first y (inl e) = subst (λ z. HaveOwnEnds (right_cable s) z) e (right_then_below s s)
      first y (inr none) = absurd none

  torus_cables_are : (seed : ℕ) → AreCables Torus a b (cables Torus a b seed)
  torus_cables_are seed = record {
    each = λ row within.
        let from : (s : ℕ) × In s (range_with_len 0 (a * b)) × In row (torus_cables_of a b s) = from_flat_map (torus_cables_of a b) (range_with_len 0 (a * b)) row within in
        torus_cable from.0 row (omega (arith, (from_range 0 (a * b) from.0 from.1).1)) from.2;
    apart = pairs_flat_map HaveOwnEnds (λ s u. s < u) (torus_cables_of a b) (range_with_len 0 (a * b)) (λ s at. of_one s)
        (λ s u at there less x y in_x in_y. across s u x y (omega (arith, (from_range 0 (a * b) s at).1)) (omega (arith, (from_range 0 (a * b) u there).1)) less in_x in_y) (range_rises 0 (a * b));
    few = omega (arith, length-flat_map (torus_cables_of a b) (range_with_len 0 (a * b)), sum_by-le (λ s. length (torus_cables_of a b s)) 2 (range_with_len 0 (a * b)) (λ k d h. omega arith), length-range_with_len 0 (a * b), fit.switches);
  }

pub torus_cables : (a b seed : ℕ) → IsTrue (fits_kind Torus a b) → AreCables Torus a b (cables Torus a b seed)
torus_cables a b seed e = torus_cables_are a b (torus_fits a b e) seed

-- ---- a tree

module _ (a b : ℕ) (fit : FitsTree a b) where
  abbrev tree_cable : ℕ → ℕ → ChannelRow
  tree_cable leaf port = cable leaf port (a + port - 1) (leaf + 1)

  abbrev leaf_cables : ℕ → List ChannelRow
  leaf_cables leaf = map (λ port. tree_cable leaf port) (range_with_len 1 b)

  leaf_ports : (leaf : ℕ) → leaf < a → port_count Tree a b leaf ≡ 2 * b
  leaf_ports leaf h = cond-true (nat_lt leaf a) (2 * b) a (lt-ltb leaf a h)

  top_ports : (top : ℕ) → a ≤ top → port_count Tree a b top ≡ a
  top_ports top h = cond-false (nat_lt top a) (2 * b) a (le-ltb top a h)

  tree_cable_is : (leaf port : ℕ) → leaf < a → 1 ≤ port → port ≤ b → IsCable Tree a b (tree_cable leaf port)
  tree_cable_is leaf port h low high = record {
    tail = omega (arith, h);
    tip = omega (arith, low, high);
    tail_port = (omega (arith, low), omega (arith, high, leaf_ports leaf h));
    tip_port = (omega arith, omega (arith, h, top_ports (a + port - 1) (omega (arith, low))));
    tail_free = λ other within.
        let above : In other (range_with_len (b + 1) b) = subst (λ ports. In other ports) (cond-true (nat_lt leaf a) (range_with_len (b + 1) b) [] (lt-ltb leaf a h)) within in
        differ_back other port (omega (arith, high, (from_range (b + 1) b other above).0));
    tip_free = λ other within. absurd (subst (λ ports. In other ports) (cond-false (nat_lt (a + port - 1) a) (range_with_len (b + 1) b) [] (le-ltb (a + port - 1) a (omega (arith, low)))) within);
    other = differ leaf (a + port - 1) (omega (arith, h, low));
  }

  -- two cables of one leaf, and of two
  tree_apart : (leaf other port port' : ℕ) → leaf < a → other < a → 1 ≤ port → 1 ≤ port' → (leaf ≡ other → port ≢ port') → HaveOwnEnds (tree_cable leaf port) (tree_cable other port')
  tree_apart leaf other port port' h k low low' apart = record {
    tails = apart;
    tail_tip = λ same. absurd (omega (arith, same, h, low'));
    tip_tail = λ same. absurd (omega (arith, same, k, low));
    tips = λ same. λ ports. apart (omega (arith, ports)) (omega (arith, same, low, low'));
  }

  tree_cables_are : (seed : ℕ) → AreCables Tree a b (cables Tree a b seed)
  tree_cables_are seed = record {
    each = λ row within.
        let from : (leaf : ℕ) × In leaf (range_with_len 0 a) × In row (leaf_cables leaf) = from_flat_map leaf_cables (range_with_len 0 a) row within in
        let at : (port : ℕ) × In port (range_with_len 1 b) × (tree_cable from.0 port ≡ row) = from_map (λ port. tree_cable from.0 port) (range_with_len 1 b) row from.2 in
        let range : (1 ≤ at.0) × (at.0 < 1 + b) = from_range 1 b at.0 at.1 in
        subst (IsCable Tree a b) at.2 (tree_cable_is from.0 at.0 (omega (arith, (from_range 0 a from.0 from.1).1)) range.0 (omega (arith, range.1)));
    apart = pairs_flat_map HaveOwnEnds (λ leaf other. leaf < other) leaf_cables (range_with_len 0 a) of_leaf of_two (range_rises 0 a);
    few = omega (arith, length-flat_map leaf_cables (range_with_len 0 a), sum_by-le (λ leaf. length (leaf_cables leaf)) b (range_with_len 0 a) (λ k d h. short (slice_index_or (range_with_len 0 a) k d)), ap (λ n. n * b) (length-range_with_len 0 a), mul-le a b 254 127 fit.few_leaves fit.few_tops);
  }
    where
      short : (leaf : ℕ) → length (leaf_cables leaf) ≤ b
      short leaf = omega (arith, length-map (range_with_len 1 b) (λ port. tree_cable leaf port), length-range_with_len 1 b)

      of_leaf : (leaf : ℕ) → In leaf (range_with_len 0 a) → Pairs HaveOwnEnds (leaf_cables leaf)
      of_leaf leaf at =
          let h : leaf < a = omega (arith, (from_range 0 a leaf at).1) in
          pairs_map HaveOwnEnds (λ port. tree_cable leaf port) (range_with_len 1 b)
          (pairs_weaker (λ m n. m < n) (λ m n. HaveOwnEnds (tree_cable leaf m) (tree_cable leaf n)) (range_with_len 1 b)
          (λ m n in_m in_n less. tree_apart leaf leaf m n h h (from_range 1 b m in_m).0 (from_range 1 b n in_n).0 (λ same. differ m n less)) (range_rises 1 b))

      of_two : (leaf other : ℕ) → In leaf (range_with_len 0 a) → In other (range_with_len 0 a) → leaf < other → (x y : ChannelRow) → In x (leaf_cables leaf) → In y (leaf_cables other) → HaveOwnEnds x y
      of_two leaf other at there less x y in_x in_y =
          let m : (port : ℕ) × In port (range_with_len 1 b) × (tree_cable leaf port ≡ x) = from_map (λ port. tree_cable leaf port) (range_with_len 1 b) x in_x in
          let n : (port : ℕ) × In port (range_with_len 1 b) × (tree_cable other port ≡ y) = from_map (λ port. tree_cable other port) (range_with_len 1 b) y in_y in
          subst (λ z. HaveOwnEnds z y) m.2 (subst (λ z. HaveOwnEnds (tree_cable leaf m.0) z) n.2
          (tree_apart leaf other m.0 n.0 (omega (arith, (from_range 0 a leaf at).1)) (omega (arith, (from_range 0 a other there).1)) (from_range 1 b m.0 m.1).0 (from_range 1 b n.0 n.1).0 (λ same. absurd (omega (arith, less, same)))))

pub tree_cables : (a b seed : ℕ) → IsTrue (fits_kind Tree a b) → AreCables Tree a b (cables Tree a b seed)
tree_cables a b seed e = tree_cables_are a b (tree_fits a b e) seed
