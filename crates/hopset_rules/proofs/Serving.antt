-- When a set of routers serves: exactly if no cycle avoids it, which is asked of the routers in groups of two or more alone.
use Prim.Native.Nat.{ℕ, zero, suc, ◌≤◌, ◌<◌}
use native.Mathlib.Omega.{arith}
use mathlib.Core.Path.{◌≡◌, refl, ◌∙◌, sym, ap}
use mathlib.Core.Bool.{Bool, true, false, not, ◌&&◌, ◌||◌, and-true, and-false, or-true, or-false}
use mathlib.Core.Logic.{◌⊎◌, inl, inr, ⊎_elim}
use lib.Dec.{ltb, eqb}
use borrow.Author.Tests.{lt-ltb, ne_eqb}
use Rattle.base.specs.Seek.{flag}
use Rattle.base.proofs.Numbers.{both_left, not-both, true-or-false}
use Rattle.base.proofs.Seek.{flag-yes}
use Rattle.graph_groups.specs.Closure.{closure, Irreflexive}
use Rattle.graph_groups.specs.Groups.{stable}
use Rattle.graph_groups.proofs.Reaching.{closure-cong}
use Rattle.graph_groups.proofs.Sharing.{stable-acyclic}
use Rattle.graph_ranks.specs.Rank.{rank}
use Rattle.graph_ranks.proofs.RankRule.{rank_falls}
use Rattle.route_rules.specs.Instance.{Instance}
use Rattle.route_rules.specs.Preference.{has_step}
use Rattle.route_rules.specs.Reliance.{relies, reliance}
use Rattle.route_rules.proofs.Reliance.{relies-other}
use Rattle.route_theorems.specs.HopStep.{OnlyTheStep}
use Rattle.route_theorems.proofs.HopStep.{only-the-step, step-breaks}
use Rattle.steady_rules.specs.Steady.{grouped_in, GroupedRouter}
use Rattle.steady_rules.proofs.Members.{reliance-apart, loops-grouped, grouped-router}
use Rattle.steady_rules.proofs.Solutions.{same_test}
use Rattle.hopset_rules.specs.HopSet.{with_step, serves, left}
use Rattle.hopset_rules.proofs.Cycles.{InCycle, acyclic-stable, stable-no-cycle, cycle-next, cycles-kept}

-- the routers in cycles are those in groups of two or more
cycle-grouped : (I : Instance) (w : ℕ) → w < I.n → InCycle (reliance I) I.n w → 1 ≤ grouped_in I w
cycle-grouped I w l c = (loops-grouped I (closure (reliance I) I.n) (λ i j a b. refl) w l).0 c

module _ (I : Instance) (set : ℕ → Bool) where
  only : OnlyTheStep I (λ w. I.hop w || set w)
  only = only-the-step I (λ w. I.hop w || set w)

  -- a router outside the set relies on whom it did; and whoever it is, on the listed routers that it did
  pub outside-relies : (w v : ℕ) → set w ≡ false → relies (with_step I set) w v ≡ relies I w v
  outside-relies w v e = only.own_step w v (rw e (or-false (I.hop w)))

  on-listed : (w v : ℕ) → I.listed v ≡ true → relies (with_step I set) w v ≡ relies I w v
  on-listed w v e = only.on_listed w v e

  left-outside : (w v : ℕ) → set w ≡ false → left I set w v ≡ flag (relies I w v)
  unfolding left
  left-outside w v e = rw (e, and-true (relies I w v))

  left-listed : (w v : ℕ) → I.listed v ≡ true → left I set w v ≡ flag (relies I w v)
  unfolding left
  left-listed w v e = rw (e, or-true (not (set w)), and-true (relies I w v))

  left-inside : (w v : ℕ) → set w ≡ true → I.listed v ≡ false → left I set w v ≡ 0
  unfolding left
  left-inside w v e p = rw (e, p, and-false (relies I w v))

  left-relies : (w v : ℕ) → 1 ≤ left I set w v → 1 ≤ reliance I w v
  unfolding left
  left-relies w v h = rw (both_left (relies I w v) _ (flag-yes _ h)) (omega arith)

  left-apart : Irreflexive (left I set) I.n
  unfolding left
  left-apart w l = rw (relies-other I w)

  -- who is in a cycle once the set has the step is not in the set
  outside : (w : ℕ) → w < I.n → InCycle (reliance (with_step I set)) I.n w → set w ≡ false
  unfolding has_step
  outside w l c = go (true-or-false (set w))
    where
      k : GroupedRouter (with_step I set) w
      k = grouped-router (with_step I set) w l (cycle-grouped (with_step I set) w l c)

      go : (set w ≡ true) ⊎ (set w ≡ false) → set w ≡ false
      go (inl e) = not-both (has_step (with_step I set) w) (cc (k.reflector, or-true (I.hop w))) k.without_step
      go (inr e) = e

  -- so the cycles are those that avoid the set
  cycle-left : (w : ℕ) → w < I.n → InCycle (reliance (with_step I set)) I.n w → InCycle (left I set) I.n w
  cycle-left =
      cycles-kept (reliance (with_step I set)) (left I set) I.n
      (λ w v l m c d h.
      let e : set w ≡ false = outside w l c in
      omega (arith, left-outside w v e, ap flag (outside-relies w v e)))

  left-cycle : (w : ℕ) → w < I.n → InCycle (left I set) I.n w → InCycle (reliance (with_step I set)) I.n w
  left-cycle = cycles-kept (left I set) (reliance (with_step I set)) I.n (λ w v l m c d h. go w v h (true-or-false (set w)) (true-or-false (I.listed v)))
    where
      go : (w v : ℕ) → 1 ≤ left I set w v → (set w ≡ true) ⊎ (set w ≡ false) → (I.listed v ≡ true) ⊎ (I.listed v ≡ false)
          → 1 ≤ reliance (with_step I set) w v
      go w v h (inr e) p = omega (arith, left-outside w v e, ap flag (outside-relies w v e))
      go w v h (inl e) (inl p) = omega (arith, left-listed w v p, ap flag (on-listed w v p))
      go w v h (inl e) (inr p) = absurd (omega (arith, left-inside w v e p))

  pub serves-no-cycle : serves I set ≡ true → (w : ℕ) → w < I.n → InCycle (left I set) I.n w → ⊥
  unfolding serves
  serves-no-cycle s w l c =
      stable-no-cycle (reliance (with_step I set)) I.n (reliance-apart (with_step I set)) s w l (left-cycle w l c)

  pub no-cycle-serves : ((w : ℕ) → w < I.n → InCycle (left I set) I.n w → ⊥) → serves I set ≡ true
  unfolding serves
  no-cycle-serves h =
      acyclic-stable (reliance (with_step I set)) I.n (reliance-apart (with_step I set)) (λ w l c. h w l (cycle-left w l c))

  pub serves-left : serves I set ≡ stable (closure (left I set) I.n) I.n
  serves-left =
      same_test (serves I set) (stable (closure (left I set) I.n) I.n) (
        λ s. acyclic-stable (left I set) I.n left-apart (serves-no-cycle s),
        λ s. no-cycle-serves (stable-no-cycle (left I set) I.n left-apart s),
      )

  -- who is in a cycle that avoids the set: a router in a group of two or more, outside the set
  pub avoids : (w : ℕ) → w < I.n → InCycle (left I set) I.n w → (1 ≤ grouped_in I w) × (set w ≡ false)
  avoids w l c = (
    cycle-grouped I w l (cycles-kept (left I set) (reliance I) I.n (λ w v l m c d h. left-relies w v h) w l c),
    outside w l (left-cycle w l c),
  )

  -- a set serves if it has all routers in groups of two or more
  pub all-serve : ((w : ℕ) → w < I.n → 1 ≤ grouped_in I w → set w ≡ true) → serves I set ≡ true
  all-serve h = no-cycle-serves (λ w l c. let k = avoids w l c in not-both (set w) (h w l k.0) k.1)

  -- it does not where each of these routers outside it relies on another such, and there is one
  module _ (next : (w : ℕ) → w < I.n → 1 ≤ grouped_in I w → set w ≡ false
      → (v : ℕ) × (v < I.n) × (1 ≤ grouped_in I v) × (set v ≡ false) × (relies I w v ≡ true)) where
    falling : stable (closure (left I set) I.n) I.n ≡ true → (k w : ℕ) → w < I.n → 1 ≤ grouped_in I w → set w ≡ false
        → rank (left I set) I.n w < k → ⊥
    falling s zero w l g e h = omega arith
    falling s (suc k) w l g e h =
        let (v, m, g', e', r) = next w l g e in
        falling s k v m g' e'
        (omega (
          arith,
          rank_falls (left I set) I.n (stable-acyclic (left I set) I.n left-apart s) w v l m
              (omega (arith, left-outside w v e, ap flag r)),
        ))

    pub none_free : (w : ℕ) → w < I.n → 1 ≤ grouped_in I w → set w ≡ false → serves I set ≡ false
    none_free w l g e =
        ⊎_elim (λ (s : serves I set ≡ true).
        absurd (falling (sym serves-left ∙ s) (suc (rank (left I set) I.n w)) w l g e (omega arith)))
        (λ s. s)
        (true-or-false (serves I set))

-- a set that lacks no router of a cycle but those that another lacks serves if the other does
pub serves_more : (I : Instance) (a b : ℕ → Bool)
    → ((w : ℕ) → w < I.n → 1 ≤ grouped_in I w → InCycle (left I a) I.n w → a w ≡ false → b w ≡ false)
    → serves I b ≡ true → serves I a ≡ true
serves_more I a b h s = no-cycle-serves I a (λ w l c. serves-no-cycle I b s w l (kept w l c))
  where
    kept : (w : ℕ) → w < I.n → InCycle (left I a) I.n w → InCycle (left I b) I.n w
    kept =
        cycles-kept (left I a) (left I b) I.n
        (λ w v l m c d r.
        let k = avoids I a w l c in
        omega (arith, left-outside I b w v (h w l k.0 c k.1), left-outside I a w v k.1))

-- a set that has one router more, which relies on no router of the groups outside the set, serves exactly if the set does
pub free-serves : (I : Instance) (a b : ℕ → Bool) (w : ℕ) → w < I.n
    → ((v : ℕ) → v < I.n → 1 ≤ grouped_in I v → a v ≡ false → relies I w v ≡ false)
    → ((v : ℕ) → v < I.n → 1 ≤ grouped_in I v → b v ≡ (a v || eqb w v))
    → serves I a ≡ serves I b
free-serves I a b w l free more =
    same_test (serves I a) (serves I b) (
      serves_more I b a (λ v m g c p. fewer v m g p),
      serves_more I a b (λ v m g c p. more v m g ∙ rw (p, ne_eqb w v (apart v c))),
    )
  where
    fewer : (v : ℕ) → v < I.n → 1 ≤ grouped_in I v → b v ≡ false → a v ≡ false
    fewer v m g p =
        ⊎_elim (λ (e : a v ≡ true). not-both (b v) (more v m g ∙ rw e) p) (λ (e : a v ≡ false). e) (true-or-false (a v))

    apart : (v : ℕ) → InCycle (left I a) I.n v → w ≡ v → ⊥
    apart v c e =
        let s = cycle-next (left I a) I.n w l (rw e c) in
        let k = avoids I a s.at s.below s.onward in
        omega (arith, left-relies I a w s.at s.related, ap flag (free s.at s.below k.0 k.1))

-- sets that agree on the routers in groups of two or more serve alike
pub serves-alike : (I : Instance) (a b : ℕ → Bool) → ((w : ℕ) → w < I.n → 1 ≤ grouped_in I w → a w ≡ b w) → serves I a ≡ serves I b
serves-alike I a b e =
    same_test (serves I a) (serves I b) (
      serves_more I b a (λ w l g c p. e w l g ∙ p),
      serves_more I a b (λ w l g c p. sym (e w l g) ∙ p),
    )

pub within-groups : (I : Instance) (set : ℕ → Bool) → serves I set ≡ serves I (λ w. ltb 0 (grouped_in I w) && set w)
within-groups I set =
    serves-alike I set (λ w. ltb 0 (grouped_in I w) && set w) (λ w l g. sym (ap (λ b. b && set w) (lt-ltb 0 (grouped_in I w) g)))

-- a set without such routers serves exactly if the list is stable
pub none-serves : (I : Instance) (set : ℕ → Bool) → ((w : ℕ) → set w ≡ false)
    → serves I set ≡ stable (closure (reliance I) I.n) I.n
unfolding serves
none-serves I set e =
    ap (λ C. stable C I.n)
    (closure-cong (reliance (with_step I set)) (reliance I) I.n (λ w v l m. ap flag (outside-relies I set w v (e w))))

-- what is left is what the routers then rely on, where those of the set have a best client
pub left_is : (I : Instance) (set : ℕ → Bool) (w v : ℕ) → (set w ≡ true → GroupedRouter I w)
    → reliance (with_step I set) w v ≡ left I set w v
unfolding has_step
left_is I set w v known = go (true-or-false (set w)) (true-or-false (I.listed v))
  where
    -- with the step no unlisted router is relied on
    none : set w ≡ true → I.listed v ≡ false → relies (with_step I set) w v ≡ false
    none e p = ⊎_elim on (λ r. r) (true-or-false (relies (with_step I set) w v))
      where
        k : GroupedRouter I w
        k = known e

        on : relies (with_step I set) w v ≡ true → relies (with_step I set) w v ≡ false
        on r =
            not-both (I.listed v)
            ((step-breaks (with_step I set) w (cc (k.reflector, or-true (I.hop w)))).own_client k.client v
            ((only I set).client w ∙ k.best) r)
            p

    go : (set w ≡ true) ⊎ (set w ≡ false) → (I.listed v ≡ true) ⊎ (I.listed v ≡ false)
        → reliance (with_step I set) w v ≡ left I set w v
    go (inr e) p = ap flag (outside-relies I set w v e) ∙ sym (left-outside I set w v e)
    go (inl e) (inl p) = ap flag (on-listed I set w v p) ∙ sym (left-listed I set w v p)
    go (inl e) (inr p) = ap flag (none e p) ∙ sym (left-inside I set w v e p)
