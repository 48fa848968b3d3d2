-- Blocks of sixteen edges: one edge more, other edges behind them, and what holds of each edge of a block.
use Rattle.std.proofs.Common.{◌≡◌, ◌≢◌, inl, inr, ℕ, ◌<◌, ◌≤◌, ◌+◌, ◌*◌, ℤ, ◌≤ℤ◌, List, [], ◌∷◌, ◌++◌, length, drop, set, get_or, sym, ap, subst, ◌∙◌, arith, length-append}
use Rattle.std.specs.List.{All}
use Rattle.std.proofs.lemmas.Bool.Decides.{eqb_tells}
use Rattle.std.proofs.lemmas.List.{get_or-set_other, get_or_append_left, get_or_default, get_or-take, get_or-drop, length-set, length-take, length-drop}
use Rattle.std.proofs.lemmas.List.Elements.{All-append, All-cons, All-nil, All-set}
use Rattle.std.proofs.lemmas.Grind.{get_or-set_at}
use Rattle.std.proofs.Math.Seq.{get_or-append_seam}
use borrow.Author.Differences.{ints}
use Rattle.poly_area.specs.declared.edges.Edge.{Edge}
use Rattle.poly_area.specs.declared.blocks.Block.{Block}
use Rattle.poly_area.specs.Blocks.{IsWithin, IsBlock, block_edges, AreBlocks}

-- no blocks, of no edges
pub no_blocks : (es : List Edge) → AreBlocks [] es 0
no_blocks es = record {
  enough = omega arith;
  few = omega arith;
  bounds = All-nil IsBlock;
  within = λ k m b e h i l. absurd (omega arith);
}

-- what stands within a block stands within one round it
pub wider : (b c : Block) (e : Edge) → c.low ≤ℤ b.low → b.high ≤ℤ c.high → IsWithin b e → IsWithin c e
wider b c e low high w = record {
  from_low = up _ _ _ low w.from_low;
  from_high = up _ _ _ w.from_high high;
  to_low = up _ _ _ low w.to_low;
  to_high = up _ _ _ w.to_high high;
}
  where
    up : (x y z : ℤ) → x ≤ℤ y → y ≤ℤ z → x ≤ℤ z
    up x y z h k = omega (arith, ints)

-- the edge after n is one of the first n or the last of n + 1
by_last : {P : Type 0} (m n : ℕ) → m < n + 1 → (m < n → P) → (m ≡ n → P) → P
by_last m n l f g = elim (eqb_tells m n) [ inl t ↦ g t.1 | inr t ↦ f (below m n l t.1) ]
  where
    below : (m n : ℕ) → m < n + 1 → m ≢ n → m < n
    below m n h k = omega arith

-- what is known of an edge at one default
at_any : (b : Block) (es : List Edge) (m n : ℕ) (e d : Edge) → m ≡ n → n < length es → IsWithin b (get_or es n e) → IsWithin b (get_or es m d)
at_any b es m n e d s l w = subst (IsWithin b) (get_or_default es n e d l ∙ ap (λ (z : ℕ). get_or es z d) (sym s)) w

-- an edge that begins a block
pub one_block : (bs : List Block) (es : List Edge) (n : ℕ) (b : Block) (e : Edge) → AreBlocks bs es n → 16 * length bs ≡ n → n < length es → IsBlock b → IsWithin b (get_or es n e) → AreBlocks (bs ++ b ∷ []) es (n + 1)
one_block bs es n b e a full l block w = record {
  enough = omega (arith, length-append bs (b ∷ []), full);
  few = omega (arith, length-append bs (b ∷ []), full);
  bounds = All-append IsBlock bs (b ∷ []) a.bounds (All-cons IsBlock b [] block (All-nil IsBlock));
  within = λ k m c d h i j. by_last m n j
      (λ j. subst (λ (x : Block). IsWithin x (get_or es m d)) (sym (get_or_append_left bs (b ∷ []) c k (before k m n (length bs) h j full))) (a.within k m c d h i j))
      (λ s. subst (λ (x : Block). IsWithin x (get_or es m d)) (sym (ap (λ (z : ℕ). get_or (bs ++ b ∷ []) z c) (last k m n (length bs) h i s full) ∙ get_or-append_seam bs b [] c)) (at_any b es m n e d s l w));
}
  where
    before : (k m n t : ℕ) → 16 * k ≤ m → m < n → 16 * t ≡ n → k < t
    before k m n t h j f = omega arith

    last : (k m n t : ℕ) → 16 * k ≤ m → m < 16 * k + 16 → m ≡ n → 16 * t ≡ n → k ≡ t
    last k m n t h i s f = omega arith

-- an edge that goes into the last block
pub more_in_block : (bs : List Block) (es : List Edge) (n t : ℕ) (b c : Block) (e : Edge) → AreBlocks bs es n → t + 1 ≡ length bs → n < 16 * length bs → n < length es → IsBlock b
    → b.low ≤ℤ (get_or bs t c).low → (get_or bs t c).high ≤ℤ b.high → IsWithin b (get_or es n e) → AreBlocks (set bs t b) es (n + 1)
more_in_block bs es n t b c e a end room l block low high w = record {
  enough = omega (arith, length-set bs t b, room);
  few = omega (arith, length-set bs t b, a.few);
  bounds = All-set IsBlock bs t b block a.bounds;
  within = λ k m x d h i j. elim (eqb_tells k t) [
    | inl s ↦ subst (λ (y : Block). IsWithin y (get_or es m d)) (sym (get_or-set_at bs t k b x s.1 (omega (arith, end)))) (by_last m n j
        (λ j. wider (get_or bs t c) b (get_or es m d) low high (a.within t m c d (low_end k t m s.1 h) (high_end k t m s.1 i) j))
        (λ r. at_any b es m n e d r l w))
    | inr s ↦ subst (λ (y : Block). IsWithin y (get_or es m d)) (sym (get_or-set_other bs t k b x s.1)) (a.within k m x d h i (other k m n t (length bs) s.1 h i j end a.few room))
  ];
}
  where
    low_end : (k t m : ℕ) → k ≡ t → 16 * k ≤ m → 16 * t ≤ m
    low_end k t m s h = omega arith

    high_end : (k t m : ℕ) → k ≡ t → m < 16 * k + 16 → m < 16 * t + 16
    high_end k t m s h = omega arith

    other : (k m n t z : ℕ) → k ≢ t → 16 * k ≤ m → m < 16 * k + 16 → m < n + 1 → t + 1 ≡ z → 16 * z < n + 16 → n < 16 * z → m < n
    other k m n t z s h i j e f r = by_last m n j (λ j. j) (λ q. absurd (s (one k m n t z h i q e f r)))
      where
        one : (k m n t z : ℕ) → 16 * k ≤ m → m < 16 * k + 16 → m ≡ n → t + 1 ≡ z → 16 * z < n + 16 → n < 16 * z → k ≡ t
        one k m n t z h i q e f r = omega arith

-- the blocks stay where other edges come behind theirs
pub blocks_kept : (bs : List Block) (es fs : List Edge) → AreBlocks bs es (length es) → AreBlocks bs (es ++ fs) (length es)
blocks_kept bs es fs a = record {
  enough = a.enough;
  few = a.few;
  bounds = a.bounds;
  within = λ k m b e h i l. subst (IsWithin (get_or bs k b)) (sym (get_or_append_left es fs e m l)) (a.within k m b e h i l);
}

-- each edge of a block stands within it
pub block_within : (bs : List Block) (es : List Edge) (k : ℕ) (b : Block) → AreBlocks bs es (length es) → All (IsWithin (get_or bs k b)) (block_edges es k)
block_within bs es k b a j e l =
    let short : j < 16 = omega (arith, l, length-take 16 (drop (16 * k) es)) in
    let inside : 16 * k + j < length es = omega (arith, l, length-take 16 (drop (16 * k) es), length-drop (16 * k) es) in
    subst (IsWithin (get_or bs k b)) (sym (get_or-take 16 (drop (16 * k) es) j e short ∙ get_or-drop (16 * k) es j e)) (a.within k (16 * k + j) b e (omega arith) (omega arith) inside)
