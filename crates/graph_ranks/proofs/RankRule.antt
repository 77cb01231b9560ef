-- Ranks of a relation in which no router reaches itself: the rule, that it has one solution, and that ranks fall along the relation.
use Prim.Native.Nat.{ℕ, zero, suc, ◌≤◌, ◌<◌}
use native.Mathlib.Omega.{arith}
use mathlib.Core.Path.{◌≡◌, refl, ◌∙◌, sym, ap}
use Rattle.base.specs.Tab.{tab}
use Rattle.base.specs.Seek.{highest}
use Rattle.base.proofs.Tab.{get_or-tab, tab-cong}
use Rattle.base.proofs.Seek.{highest-cong, highest-over, highest-under, Top, highest-top, count_less, count-few}
use Rattle.base.specs.Elimination.{Agree}
use Rattle.graph_groups.specs.Closure.{Relation, closure, Acyclic}
use Rattle.graph_ranks.specs.Rank.{rank_above, rank_over, entry, ranks_by_chains, rank, OneMore, RankMeans, highest_rank}
use Rattle.graph_ranks.specs.Search.{reached}
use Rattle.graph_groups.proofs.Reaching.{closure-related, closure-trans}

-- a router that is related counts one more than its rank; one that is not counts nothing
pub rank-above : (x r : ℕ) → 1 ≤ x → rank_above x r ≡ suc r
rank-above zero r h = absurd (omega arith)
rank-above (suc x) r h = refl

rank-above-yes : (x r : ℕ) → 1 ≤ rank_above x r → 1 ≤ x
rank-above-yes zero r h = h
rank-above-yes (suc x) r h = omega arith

rank-above-cong : (x a b : ℕ) → (1 ≤ x → a ≡ b) → rank_above x a ≡ rank_above x b
rank-above-cong zero a b h = refl
rank-above-cong (suc x) a b h = ap suc (h (omega arith))

rank-above-under : (x r b : ℕ) → (1 ≤ x → suc r ≤ b) → rank_above x r ≤ b
rank-above-under zero r b h = omega arith
rank-above-under (suc x) r b h = h (omega arith)

-- rk gives each router below n what the rule says
Rule : Relation → ℕ → (ℕ → ℕ) → Type 0
Rule R n rk = (w : ℕ) → w < n → rk w ≡ rank_over R n rk w

chains-more : (R : Relation) (n k w : ℕ) → w < n → entry (ranks_by_chains R n (suc k)) w ≡ rank_over R n (entry (ranks_by_chains R n k)) w
unfolding ranks_by_chains
chains-more R n k w l = get_or-tab (rank_over R n (entry (ranks_by_chains R n k))) n 0 w l

rank-over-cong : (R : Relation) (n : ℕ) (f g : ℕ → ℕ) (w : ℕ) → ((v : ℕ) → v < n → 1 ≤ R w v → f v ≡ g v)
    → rank_over R n f w ≡ rank_over R n g w
unfolding rank_over
rank-over-cong R n f g w h = highest-cong _ _ n (λ v l. rank-above-cong (R w v) (f v) (g v) (h v l))

rank-over-under : (R : Relation) (n : ℕ) (f : ℕ → ℕ) (w b : ℕ) → ((v : ℕ) → v < n → 1 ≤ R w v → f v < b) → rank_over R n f w ≤ b
unfolding rank_over
rank-over-under R n f w b h = highest-under _ n b (λ v l. rank-above-under (R w v) (f v) b (h v l))

module _ (R : Relation) (n : ℕ) (q : Acyclic R n) where
  -- the routers reached fall along the relation, and are never all
  pub reached-falls : (w v : ℕ) → w < n → v < n → 1 ≤ R w v → reached R n v < reached R n w
  unfolding reached
  reached-falls w v l m h =
      let r : 1 ≤ closure R n w v = closure-related R n w v l m h in
      count_less (closure R n v) (closure R n w) n v m (q v m) r (λ u o. closure-trans R n w v u l m o r)

  pub reached-few : (w : ℕ) → w < n → reached R n w < n
  unfolding reached
  reached-few w l = count-few (closure R n w) n w l (q w l)

  chains-still : (k w : ℕ) → w < n → reached R n w < k → entry (ranks_by_chains R n (suc k)) w ≡ entry (ranks_by_chains R n k) w
  chains-still zero w l h = absurd (omega arith)
  chains-still (suc k) w l h =
      chains-more R n (suc k) w l
      ∙ rank-over-cong R n _ _ w (λ v m r. chains-still k v m (omega (arith, reached-falls w v l m r)))
      ∙ sym (chains-more R n k w l)

  -- "A router's rank is 0 if it relies on none, else one more than the highest rank it relies on."
  pub rank-rule : (w : ℕ) → w < n → rank R n w ≡ rank_over R n (rank R n) w
  unfolding rank
  rank-rule w l = sym (chains-still n w l (reached-few w l)) ∙ chains-more R n n w l

  pub rank_falls : (w v : ℕ) → w < n → v < n → 1 ≤ R w v → rank R n v < rank R n w
  unfolding rank_over
  rank_falls w v l m h =
      omega (arith, rank-rule w l, rank-above (R w v) (rank R n v) h, highest-over (λ u. rank_above (R w u) (rank R n u)) n v m)

  one-more : (w : ℕ) → w < n → 1 ≤ rank R n w → OneMore R n (rank R n) w
  unfolding rank_over
  one-more w l h =
      let t : Top (λ u. rank_above (R w u) (rank R n u)) n = highest-top _ n (omega (arith, rank-rule w l)) in
      let e : rank_above (R w t.at) (rank R n t.at) ≡ rank R n w = t.is ∙ sym (rank-rule w l) in
      let r : 1 ≤ R w t.at = rank-above-yes (R w t.at) (rank R n t.at) (omega arith) in
      let s : rank R n w ≡ suc (rank R n t.at) = sym e ∙ rank-above _ _ r in
      record { at = t.at; below = t.below; related = r; is = s; highest = λ v m o. omega (arith, s, rank_falls w v l m o) }

  -- the same in plain words
  pub rank-means : RankMeans R n (rank R n)
  rank-means =
      record {
        on_none = λ w l h.
            let g : rank_over R n (rank R n) w ≤ 0 = rank-over-under R n (rank R n) w 0 (λ v m o. absurd (omega (arith, h v m))) in
            omega (arith, rank-rule w l);
        on_some = λ w v l m h. one-more w l (omega (arith, rank_falls w v l m h));
      }

  rule-same : (f g : ℕ → ℕ) → Rule R n f → Rule R n g → (k w : ℕ) → w < n → reached R n w < k → f w ≡ g w
  unfolding Rule
  rule-same f g p r zero w l h = absurd (omega arith)
  rule-same f g p r (suc k) w l h =
      p w l
      ∙ rank-over-cong R n f g w (λ v m o. rule-same f g p r k v m (omega (arith, reached-falls w v l m o)))
      ∙ sym (r w l)

  -- numbers that the plain words hold of obey the rule
  module _ (f : ℕ → ℕ) (means : RankMeans R n f) where
    at-most : (w : ℕ) → w < n → rank_over R n f w ≤ f w
    at-most w l =
        rank-over-under R n f w (f w)
        (λ v m h. let o : OneMore R n f w = means.on_some w v l m h in omega (arith, o.is, o.highest v m h))

    unrelated : (w v : ℕ) → v < n → rank_over R n f w ≡ 0 → R w v ≡ 0
    unfolding rank_over
    unrelated w v m e = go (R w v) refl
      where
        go : (x : ℕ) → R w v ≡ x → R w v ≡ 0
        go zero p = p
        go (suc x) p =
            absurd (omega (arith, e, rank-above (R w v) (f v) (omega (arith, p)), highest-over (λ u. rank_above (R w u) (f u)) n v m))

    at_least : (w : ℕ) → w < n → f w ≤ rank_over R n f w
    unfolding rank_over
    at_least w l = go (rank_over R n f w) refl
      where
        go : (r : ℕ) → rank_over R n f w ≡ r → f w ≤ rank_over R n f w
        go zero e = omega (arith, means.on_none w l (λ v m. unrelated w v m e))
        go (suc r) e =
            let t : Top (λ u. rank_above (R w u) (f u)) n = highest-top _ n (omega (arith, e)) in
            let o : OneMore R n f w
            = means.on_some w t.at l t.below (rank-above-yes (R w t.at) (f t.at) (omega (arith, t.is, e))) in
            omega (arith, o.is, rank-above (R w o.at) (f o.at) o.related, highest-over (λ u. rank_above (R w u) (f u)) n o.at o.below)

    -- no other numbers do
    pub rank-unique : (w : ℕ) → w < n → f w ≡ rank R n w
    unfolding Rule
    rank-unique w l = rule-same f (rank R n) (λ v m. omega (arith, at-most v m, at_least v m)) rank-rule n w l (reached-few w l)

  rank-reached : (k w : ℕ) → w < n → reached R n w < k → rank R n w ≤ reached R n w
  rank-reached zero w l h = absurd (omega arith)
  rank-reached (suc k) w l h =
      let g : rank_over R n (rank R n) w ≤ reached R n w
      = rank-over-under R n (rank R n) w (reached R n w) (λ v m o.
      omega (arith, reached-falls w v l m o, rank-reached k v m (omega (arith, reached-falls w v l m o)))) in
      omega (arith, rank-rule w l)

  pub rank_below : (w : ℕ) → w < n → rank R n w < n
  rank_below w l = omega (arith, reached-few w l, rank-reached n w l (reached-few w l))

module _ (R S : Relation) (n : ℕ) (h : Agree R S n) where
  chains-cong : (k : ℕ) → ranks_by_chains R n k ≡ ranks_by_chains S n k
  unfolding ranks_by_chains rank_over
  chains-cong zero = refl
  chains-cong (suc k) =
      tab-cong _ _ n (λ w l.
      highest-cong _ _ n (λ v m. ap (λ x. rank_above x (entry (ranks_by_chains R n k) v)) (h w v l m)))
      ∙ ap (λ t. tab (rank_over S n (entry t)) n) (chains-cong k)

  pub rank-cong : rank R n ≡ rank S n
  unfolding rank
  rank-cong = ap entry (chains-cong n)

  pub highest-rank-cong : highest_rank R n ≡ highest_rank S n
  highest-rank-cong = ap (λ f. highest f n) rank-cong
