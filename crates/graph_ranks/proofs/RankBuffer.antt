-- The buffer in which ranks are kept once they are found.
use Prim.Native.Nat.{ℕ, suc, ◌+◌, ◌-◌, ◌≤◌, ◌<◌, max}
use native.Mathlib.Omega.{arith}
use mathlib.Core.Path.{◌≡◌, refl, ◌∙◌, sym, ap}
use mathlib.Core.List.{List, ◌++◌}
use mathlib.Core.Logic.{inl, inr, ⊎_elim}
use borrow.Author.Count.{below_more}
use lib.ListN.{length, get_or, drop, set}
use lib.Seq.{get_or-set_same, get_or-set_other, drop-set-lt}
use Rattle.base.specs.Bits.{bits}
use Rattle.base.specs.BitWalk.{from_bit, LowestBit, BitWalk}
use Rattle.base.specs.Tab.{tab}
use Rattle.base.specs.Seek.{highest}
use Rattle.base.proofs.BitWalk.{walk_start, walk-set, walk-within, walk-visit, walk_more, walk-done}
use Rattle.base.proofs.Tab.{tab-front, drop-written, get_or-written}
use Rattle.base.proofs.Seek.{highest-none, highest-suc, highest-more}
use Rattle.base.proofs.Numbers.{eq-or-ne}
use Rattle.graph_groups.specs.Closure.{Relation, Within, Acyclic}
use Rattle.graph_ranks.specs.Rank.{rank_above, rank_over, entry, rank, highest_rank}
use Rattle.graph_ranks.specs.Search.{Known, RankAsked, Filled, RankFound}
use Rattle.graph_ranks.proofs.RankRule.{rank-above, reached-falls, reached-few, rank-rule, rank_below}

module _ (R : Relation) (n : ℕ) where
  filled-same : (l : List ℕ) → Filled R n l l
  filled-same l = record { each = λ v h. inl refl; rest = refl }

  filled_trans : (k l m : List ℕ) → Filled R n k l → Filled R n l m → Filled R n k m
  filled_trans k l m a b = record {
    each = λ v h.
        ⊎_elim
        (λ (e : entry m v ≡ entry l v).
        ⊎_elim (λ (d : entry l v ≡ entry k v). inl (e ∙ d)) (λ (d : entry l v ≡ rank R n v). inr (e ∙ d)) (a.each v h))
        (λ (e : entry m v ≡ rank R n v). inr e)
        (b.each v h);
    rest = b.rest ∙ a.rest;
  }

  filled-known : (l m : List ℕ) → Known R n l → Filled R n l m → Known R n m
  filled-known l m a b v h =
      ⊎_elim
      (λ (e : entry m v ≡ entry l v).
      ⊎_elim (λ (d : entry l v ≡ 255). inl (e ∙ d)) (λ (d : entry l v ≡ rank R n v). inr (e ∙ d)) (a v h))
      (λ (e : entry m v ≡ rank R n v). inr e)
      (b.each v h)

  -- what was found stays
  filled_keeps : (l m : List ℕ) → Filled R n l m → (v : ℕ) → v < n → entry l v ≡ rank R n v → entry m v ≡ rank R n v
  filled_keeps l m a v h e =
      ⊎_elim (λ (d : entry m v ≡ entry l v). d ∙ e) (λ (d : entry m v ≡ rank R n v). d) (a.each v h)

  filled-set : (k l : List ℕ) (w x : ℕ) → w < n → n ≤ length l → x ≡ rank R n w → Filled R n k l → Filled R n k (set l w x)
  filled-set k l w x h g e a = record {
    each = λ v o.
        ⊎_elim
        (λ (d : v ≡ w). inr (ap (λ u. entry (set l w x) u) d ∙ get_or-set_same l w x 0 (omega arith) ∙ e ∙ ap (rank R n) (sym d)))
        (λ (d : v ≡ w → ⊥).
        let same : entry (set l w x) v ≡ entry l v = get_or-set_other l w v x 0 d in
        ⊎_elim (λ (f : entry l v ≡ entry k v). inl (same ∙ f)) (λ (f : entry l v ≡ rank R n v). inr (same ∙ f)) (a.each v o))
        (eq-or-ne v w);
    rest = drop-set-lt n l w x h ∙ a.rest;
  }

  -- a rank that is known
  pub hit : (w left : ℕ) (l : List ℕ) (r : ℕ) → RankAsked R n w left l → (entry l w ≡ 255 → ⊥) → r ≡ entry l w → RankFound R n w l l r
  hit w left l r a h q =
      let e : entry l w ≡ rank R n w
      = ⊎_elim (λ (d : entry l w ≡ 255). absurd (h d)) (λ (d : entry l w ≡ rank R n w). d) (a.known w a.below) in
      record { is = q ∙ e; low = omega (arith, rank_below R n a.acyclic w a.below); stored = e; filled = filled-same l }

-- What the routers below k give w.
abbrev given : List ℕ → ℕ → ℕ → ℕ → ℕ
given rows n w = highest (λ u. rank_above (bits rows w u) (rank (bits rows) n u))

-- One pass over the routers that w is related to, lowest first: `high` is the rank that those visited give w, and m holds the others.
pub record Gathered (rows : List ℕ) (n w left : ℕ) (l₀ l : List ℕ) (high m : ℕ) : Type 0 where
  pub asked : RankAsked (bits rows) n w left l₀
  pub len : length l ≡ length l₀
  pub filled : Filled (bits rows) n l₀ l
  pub walk : BitWalk (λ k. high ≡ given rows n w k) (get_or rows w 0) n m

module _ (rows : List ℕ) (n w left : ℕ) where
  pub gathered-start : (l : List ℕ) → RankAsked (bits rows) n w left l → Gathered rows n w left l l 0 (get_or rows w 0)
  gathered-start l a =
      record { asked = a; len = refl; filled = filled-same (bits rows) n l; walk = walk_start _ _ _ (sym (highest-none _)) }

  module _ (l₀ l : List ℕ) (high m : ℕ) (g : Gathered rows n w left l₀ l high m) where
    abbrev Given : ℕ → Type 0
    Given k = high ≡ given rows n w k

    pass : (u : ℕ) → u < n → bits rows w u ≡ 0 → Given u → Given (suc u)
    pass u b unset e =
        let z : rank_above (bits rows w u) (rank (bits rows) n u) ≡ 0 = rw unset in
        omega (arith, highest-suc (λ u. rank_above (bits rows w u) (rank (bits rows) n u)) u)

    within : (u : ℕ) → bits rows w u ≡ 1 → u < n
    within u set = g.asked.within w u g.asked.below (omega arith)

    -- router v is the next
    module _ (v : ℕ) (low : LowestBit m v) where
      below : v < n
      below = walk-within Given _ _ m v within g.walk low

      near : bits rows w v ≡ 1
      near = walk-set Given _ _ m v within g.walk low

      -- the call along the relation
      pub gathered-asks : RankAsked (bits rows) n v (left - 1) l
      gathered-asks = record {
        small = g.asked.small;
        long = omega (arith, g.len, g.asked.long);
        below = below;
        acyclic = g.asked.acyclic;
        within = g.asked.within;
        few = omega (arith, reached-falls (bits rows) n g.asked.acyclic w v g.asked.below below (omega (arith, near)), g.asked.few);
        known = filled-known (bits rows) n l₀ l g.asked.known g.filled;
      }

      pub gathered-more : (k : List ℕ) (r next m' : ℕ) → length k ≡ length l → RankFound (bits rows) n v l k r → next ≡ max high (r + 1)
          → m' ≡ from_bit m (suc v) → Gathered rows n w left l₀ k next m'
      gathered-more k r next m' e f q step = record {
        asked = g.asked;
        len = e ∙ g.len;
        filled = filled_trans (bits rows) n l₀ l k g.filled f.filled;
        walk =
            walk_more Given _ _ m v within g.walk low _ m' step
            (omega (
              arith,
              highest-suc (λ u. rank_above (bits rows w u) (rank (bits rows) n u)) v,
              rank-above (bits rows w v) (rank (bits rows) n v) (omega (arith, near)),
              walk-visit Given _ _ pass m v within g.walk low,
              f.is,
            ));
      }

    -- none is left
    module _ (done : m ≡ 0) where
      is-rank : high ≡ rank (bits rows) n w
      unfolding rank_over
      is-rank = walk-done Given _ _ pass m g.walk done ∙ sym (rank-rule (bits rows) n g.asked.acyclic w g.asked.below)

      pub gathered-low : high < 64
      gathered-low = omega (arith, is-rank, rank_below (bits rows) n g.asked.acyclic w g.asked.below, g.asked.small)

      pub gathered-found : (x : ℕ) → x ≡ high → RankFound (bits rows) n w l₀ (set l w x) high
      gathered-found x q =
          record {
            is = is-rank;
            low = omega (arith, is-rank, rank_below (bits rows) n g.asked.acyclic w g.asked.below);
            stored = get_or-set_same l w x 0 (omega (arith, g.len, g.asked.long, g.asked.below)) ∙ q ∙ is-rank;
            filled =
                filled-set (bits rows) n l₀ l w x g.asked.below (omega (arith, g.len, g.asked.long)) (q ∙ is-rank) g.filled;
          }

-- the ranks of the routers below w are found, and `high` is the highest of them; d is the buffer with none of them
pub record Ranks (R : Relation) (n : ℕ) (d l : List ℕ) (high w : ℕ) : Type 0 where
  pub small : n ≤ 64
  pub long : n ≤ length d
  pub acyclic : Acyclic R n
  pub within : Within R n
  pub upto : w ≤ n
  pub len : length l ≡ length d
  pub rest : drop n l ≡ drop n d
  pub known : Known R n l
  pub done : (v : ℕ) → v < w → entry l v ≡ rank R n v
  pub high_is : high ≡ highest (rank R n) w

module _ (R : Relation) (n : ℕ) (d : List ℕ) where
  pub ranks-start : (l : List ℕ) → (n ≤ 64) × (n ≤ length d) × Acyclic R n × Within R n → length l ≡ length d → l ≡ tab (λ v. 255) n ++ drop n d → Ranks R n l l 0 0
  ranks-start l a e h = record {
    small = a.0;
    long = omega (arith, a.1);
    acyclic = a.2;
    within = a.3;
    upto = omega arith;
    len = refl;
    rest = refl;
    known = λ v o. inl (get_or-written (λ v. 255) n 0 d l h v o);
    done = λ v o. absurd (omega arith);
    high_is = sym (highest-none _);
  }

  pub ranks-asks : (l : List ℕ) (high w : ℕ) → Ranks R n d l high w → w < n → RankAsked R n w n l
  ranks-asks l high w g h = record {
    small = g.small;
    long = omega (arith, g.long, g.len);
    below = h;
    acyclic = g.acyclic;
    within = g.within;
    few = reached-few R n g.acyclic w h;
    known = g.known;
  }

  pub ranks-more : (l m : List ℕ) (high w r next : ℕ) → Ranks R n d l high w → w < n → length m ≡ length l → RankFound R n w l m r → next ≡ max high r
      → Ranks R n d m next (w + 1)
  ranks-more l m high w r next g h e f q = record {
    small = g.small;
    long = g.long;
    acyclic = g.acyclic;
    within = g.within;
    upto = omega arith;
    len = e ∙ g.len;
    rest = f.filled.rest ∙ g.rest;
    known = filled-known R n l m g.known f.filled;
    done = below_more _ w (λ v o. filled_keeps R n l m f.filled v (omega (arith, g.upto)) (g.done v o)) f.stored;
    high_is = omega (arith, highest-more (rank R n) w, g.high_is, f.is);
  }

  pub ranks-done : (k l : List ℕ) (high w : ℕ) → k ≡ tab (λ v. 255) n ++ drop n d → Ranks R n k l high w → n ≤ w
      → (high ≡ highest_rank R n) × (l ≡ tab (rank R n) n ++ drop n d)
  ranks-done k l high w q g h =
      let e : w ≡ n = omega (arith, g.upto) in (
        g.high_is ∙ ap (highest (rank R n)) e,
        tab-front (rank R n) n 0 l (omega (arith, g.long, g.len)) (λ v o. g.done v (omega arith))
            ∙ ap (λ t. tab (rank R n) n ++ t) (g.rest ∙ drop-written (λ v. 255) n d k q),
      )
