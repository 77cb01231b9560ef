-- The counts from no sessions to all, and what they tell of row 13.
use Prim.Native.Nat.{ℕ, suc, ◌+◌, ◌≤◌, ◌<◌}
use native.Mathlib.Numerals.{add-one}
use native.Mathlib.Omega.{arith}
use mathlib.Core.Path.{◌≡◌, ◌∙◌, sym, ap, ap₂, subst}
use mathlib.Core.Bool.{Bool, true, false, not, ◌&&◌, ◌||◌, and-true, and-false, or-true, or-false}
use mathlib.Core.List.{List}
use mathlib.Core.Logic.{⊎_elim}
use borrow.Author.Tests.{lt-ltb, le-leb, lt-leb, eq-eqb, ne_eqb}
use lib.Dec.{leb, eqb}
use lib.ListN.{get_or, replicate, length-set, length-replicate, get_or-replicate}
use lib.Seq.{get_or-set_same, get_or-set_other}
use Rattle.base.specs.Below.{all_below, any_below}
use Rattle.base.specs.Seek.{flag, highest, count}
use Rattle.base.proofs.Below.{all-intro, all-cong, all-upto, any_none, Witness, any_at}
use Rattle.base.proofs.Numbers.{both_right, eq-or-ne, lt-or-le}
use Rattle.base.proofs.Seek.{flag-yes, highest-over, count-cong, count_no, count-within}
use Rattle.plan_rules.specs.Routers.{role, reflector_in}
use Rattle.plan_rules.specs.Sessions.{session_count, session_first, session_second, session_ok, pairs, in_session}
use Rattle.plan_rules.specs.Parents.{parent_count, few_parents, parents_ok}
use Rattle.plan_rules.proofs.Neighbours.{pairs-are}
use Rattle.plan_rules.proofs.Parents.{client-is}
use Rattle.plan_parents.specs.Counts.{counts_for, counted, Counted, forgotten, noted, few_counted}
use Rattle.plan_parents.proofs.OneMore.{counted-le, order, counted-more}

of-role : (routers : List ℕ) (n u : ℕ) → u < n → reflector_in routers n u ≡ not (eqb (role routers u) 2)
of-role routers n u l = ap (λ b. b && not (eqb (role routers u) 2)) (lt-ltb u n l)

module _ (routers s : List ℕ) (n : ℕ) where
  -- nothing is counted in no sessions
  pub counted_start : Counted routers s n 0 0 (replicate 64 0)
  unfolding counted
  counted_start =
      record {
        size = length-replicate {A = ℕ} 64 0;
        is = λ u l.
            get_or-replicate 64 u 0 0 l
            ∙ sym (count_no _ n (λ p q. ap flag (ap (◌&&◌ (counts_for routers n 0 u p)) (any_none (pairs s u p)) ∙ and-false (counts_for routers n 0 u p))));
      }

  -- on to v's own sessions
  module _ (v j : ℕ) (counts : List ℕ) (w : Counted routers s n v j counts) where
    -- a client keeps what is counted for it, so does every router but v, and a reflector v has nothing
    client-keeps : reflector_in routers n v ≡ false → counted routers s n v j v ≡ counted routers s n (suc v) j v
    unfolding counted
    client-keeps e =
        ap (λ t. count (λ p. flag (reflector_in routers n p && (not t || leb v v) && any_below (pairs s v p) j)) n) e
        ∙ sym (ap (λ t. count (λ p. flag (reflector_in routers n p && (not t || leb (suc v) v) && any_below (pairs s v p) j)) n) e)

    other-keeps : (u : ℕ) → (v ≡ u → ⊥) → counted routers s n v j u ≡ counted routers s n (suc v) j u
    unfolding counted
    other-keeps u d =
        ap (λ t. count (λ p. flag (reflector_in routers n p && (not (reflector_in routers n u) || t) && any_below (pairs s u p) j)) n)
        (⊎_elim (λ (l : v < u). le-leb v u (omega arith) ∙ sym (le-leb (suc v) u l))
        (λ (l : u ≤ v). lt-leb v u (omega arith) ∙ sym (lt-leb (suc v) u (omega arith)))
        (lt-or-le v u))

    reflector-forgets : reflector_in routers n v ≡ true → counted routers s n (suc v) j v ≡ 0
    unfolding counted
    reflector-forgets e =
        count_no _ n
        (λ p l.
        ap₂ (λ x y. flag (reflector_in routers n p && (not x || y) && any_below (pairs s v p) j)) e (lt-leb (suc v) v (omega arith))
        ∙ ap (λ t. flag (t && any_below (pairs s v p) j)) (and-false (reflector_in routers n p)))

    visit : (reflector : Bool) → v < 64 → reflector_in routers n v ≡ reflector → Counted routers s n (suc v) j (forgotten reflector v counts)
    visit true few e =
        record {
          size = length-set counts v 0 ∙ w.size;
          is = λ u l.
              ⊎_elim (λ (o : v ≡ u). rw (← o) (get_or-set_same counts v 0 0 (omega (arith, w.size)) ∙ sym (reflector-forgets e)))
              (λ (d : v ≡ u → ⊥). get_or-set_other counts v u 0 0 (λ o. d (sym o)) ∙ w.is u l ∙ other-keeps u d)
              (eq-or-ne v u);
        }
    visit false few e =
        record {
          size = w.size;
          is = λ u l.
              w.is u l
              ∙ ⊎_elim (λ (o : v ≡ u). rw (← o) (client-keeps e)) (other-keeps u) (eq-or-ne v u);
        }

    pub counted-visit : (reflector : Bool) → v < n → n ≤ 64 → reflector ≡ not (eqb (role routers v) 2) → Counted routers s n (v + 1) j (forgotten reflector v counts)
    counted-visit reflector l few t = rw add-one (visit reflector (omega arith) (of-role routers n v l ∙ sym t))

  -- one of v's own sessions, with w, by what their roles say
  pub counted_next : (j v w : ℕ) (counts : List ℕ) (reflector : Bool) → n ≤ 64 → all_below (session_ok s n) (j + 1) ≡ true
      → session_first s j ≡ v → session_second s j ≡ w → reflector ≡ not (eqb (role routers v) 2) → Counted routers s n (v + 1) j counts
      → Counted routers s n (v + 1) (j + 1) (noted reflector (not (eqb (role routers w) 2)) v w counts)
  counted_next j v w counts reflector few held p q t so_far =
      let h : all_below (session_ok s n) (suc j) ≡ true = rw add-one at held in
      let o = (order routers s n (v + 1) j h j (omega arith)).0 in
      let role-of : (u : ℕ) → u < n → reflector_in routers n u ≡ not (eqb (role routers u) 2) = of-role routers n in
      let own : v + 1 ≡ suc (session_first s j) = omega arith in
      rw (add-one j)
      (subst (λ x. Counted routers s n (v + 1) (suc j) (noted reflector (not (eqb (role routers w) 2)) x w counts)) p
      (subst (λ x. Counted routers s n (v + 1) (suc j) (noted reflector (not (eqb (role routers x) 2)) (session_first s j) x counts)) q
      (counted-more routers s n (v + 1) j h own counts few so_far _ _
      (role-of (session_first s j) (omega arith) ∙ ap (λ x. not (eqb (role routers x) 2)) p ∙ sym t)
      (role-of (session_second s j) (omega arith)))))

  -- in all sessions, for a client, its parents
  parents-counted : (x v : ℕ) → reflector_in routers n v ≡ false → counted routers s n x (session_count s) v ≡ parent_count routers s n v
  unfolding counted parent_count in_session
  parents-counted x v e =
      count-cong _ _ n
      (λ p l.
      ap (λ t. flag (reflector_in routers n p && (not t || leb x v) && any_below (pairs s v p) (session_count s))) e
      ∙ ap (λ t. flag (t && any_below (pairs s v p) (session_count s))) (and-true (reflector_in routers n p)))

  module _ (past : ℕ) (counts : List ℕ) (few : n ≤ 64) (w : Counted routers s n past (session_count s) counts) where
    few-same : (v : ℕ) → v < n → few_counted routers counts v ≡ few_parents routers s n v
    unfolding few_parents
    few-same v l =
        ⊎_elim
        (λ (e : role routers v ≡ 2).
        rw (lt-ltb v n l, eq-eqb _ 2 e)
        (or-false (leb (get_or counts v 0) 4) ∙ ap (λ k. leb k 4) (w.is v (omega arith) ∙ parents-counted past v (client-is routers n v e))))
        (λ (d : role routers v ≡ 2 → ⊥). rw (lt-ltb v n l, ne_eqb _ 2 d) (or-true (leb (get_or counts v 0) 4)))
        (eq-or-ne (role routers v) 2)

    -- what the code looks at: every router; none, where there are four or no count is above four
    pub few-all : all_below (few_counted routers counts) n ≡ parents_ok routers s n
    unfolding parents_ok
    few-all = all-cong _ _ n few-same

    few-leb : (v : ℕ) → get_or counts v 0 ≤ 4 → few_counted routers counts v ≡ true
    few-leb v l = ap (λ t. t || not (eqb (role routers v) 2)) (le-leb (get_or counts v 0) 4 l)

    pub few-small : n ≤ 4 → parents_ok routers s n ≡ true
    few-small small =
        sym few-all
        ∙ all-intro _ n (λ v l. few-leb v (omega (arith, w.is v (omega arith), counted-le routers s n past (session_count s) v)))

    pub few-none : highest (λ u. get_or counts u 0) 64 ≤ 4 → parents_ok routers s n ≡ true
    few-none h = sym few-all ∙ all-intro _ n (λ v l. few-leb v (omega (arith, highest-over (λ u. get_or counts u 0) 64 v (omega arith))))

    -- .. or those before `past`: of a router from there on, no more are counted than there are before it
    module _ (firsts : (j : ℕ) → j < session_count s → session_first s j < past) where
      before-it : (u p : ℕ) → past ≤ u → (counts_for routers n past u p && any_below (pairs s u p) (session_count s)) ≡ true → p < past
      before-it u p l h =
          let seen : Witness (pairs s u p) (session_count s) = any_at _ _ (both_right (counts_for routers n past u p) _ h) in
          let first = firsts seen.at seen.below in
          ⊎_elim (λ (e : (session_first s seen.at ≡ u) × (session_second s seen.at ≡ p)). absurd (omega arith))
          (λ (e : (session_second s seen.at ≡ u) × (session_first s seen.at ≡ p)). omega arith)
          (pairs-are s u p seen.at seen.holds)

      counted-before : (u : ℕ) → past ≤ u → counted routers s n past (session_count s) u ≤ past
      unfolding counted
      counted-before u l = count-within _ past n (λ p q h. before-it u p l (flag-yes _ h))

      pub few_past : past ≤ n → past ≤ 4 → all_below (few_counted routers counts) past ≡ parents_ok routers s n
      few_past l small =
          sym (all-upto (few_counted routers counts) past n l
          (λ v a b. few-leb v (omega (arith, w.is v (omega arith), counted-before v a))))
          ∙ few-all
