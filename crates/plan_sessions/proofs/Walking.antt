-- The walk over the sessions, router by router: it gets past every session exactly if all are in order.
use Prim.Native.Nat.{ℕ, suc, ◌+◌, ◌≤◌, ◌<◌}
use native.Mathlib.Omega.{arith}
use mathlib.Core.Path.{◌≡◌, refl, ◌∙◌, sym, ap}
use mathlib.Core.Bool.{Bool, true, false, ◌&&◌}
use mathlib.Core.List.{List}
use mathlib.Core.Logic.{◌⊎◌, inl, inr, ⊎_elim}
use borrow.Author.Tests.{lt-ltb, eq-eqb}
use lib.Dec.{ltb, eqb}
use Rattle.base.specs.Below.{all_below}
use Rattle.base.proofs.Below.{all_none, all_more, all-fail, all_done}
use Rattle.base.proofs.Numbers.{facts, both, eq-or-ne, not-both, true-or-false}
use Rattle.plan_rules.specs.Rising.{PairBefore}
use Rattle.plan_rules.specs.Sessions.{session_count, session_first, session_second, session_ok, sessions_ok}
use Rattle.plan_rules.proofs.Facts.{SessionAt, session-iff}
use Rattle.plan_rules.proofs.Rising.{rises-after, after-before}
use Rattle.plan_sessions.specs.Walk.{Reached, goes_on}

-- the session before j is v's with router `last`
pub record Gone (s : List ℕ) (v last j : ℕ) : Type 0 where
  pub at : ℕ
  pub is : suc at ≡ j
  pub first : session_first s at ≡ v
  pub second : session_second s at ≡ last

-- among v's sessions: none of them is read and `last` is v, or that with `last` was the one before
pub record Among (s : List ℕ) (n v last j : ℕ) : Type 0 where
  pub upto : j ≤ session_count s
  pub held : all_below (session_ok s n) j ≡ true
  pub before : (i : ℕ) → i < j → session_first s i ≤ v
  pub next : j < session_count s → session_ok s n j ≡ true → v ≤ session_first s j
  pub above : v ≤ last
  pub after : ((last ≡ v) × ((i : ℕ) → i < j → session_first s i < v)) ⊎ Gone s v last j

module _ (s : List ℕ) (n : ℕ) where
  abbrev f : ℕ → ℕ
  f = session_first s

  abbrev g : ℕ → ℕ
  g = session_second s

  module _ (v : ℕ) where
    pub among-start : (j : ℕ) → Reached s n v j → Among s n v v j
    among-start j w =
        record {
          upto = w.upto;
          held = w.held;
          before = λ i l. omega (arith, w.before i l);
          next = w.next;
          above = omega arith;
          after = inl (refl, w.before);
        }

    -- in order after the session before it, by either case
    stands_after : (last j : ℕ) → Among s n v last j → f j ≡ v → last < g j → (i : ℕ) → suc i ≡ j → PairBefore f g i j
    stands_after last j w e l i is = go w.after
      where
        go : ((last ≡ v) × ((i : ℕ) → i < j → f i < v)) ⊎ Gone s v last j → PairBefore f g i j
        go (inl h) = inl (omega (arith, h.1 i (omega arith)))
        go (inr h) =
            let same : h.at ≡ i = omega (arith, h.is) in
            inr (omega (arith, ap f same, h.first), omega (arith, ap g same, h.second))

    goes-ok : (last j : ℕ) → Among s n v last j → goes_on s n v last j ≡ true → session_ok s n j ≡ true
    goes-ok last j w h =
        let q : ((f j ≡ v) × (last < g j)) × (g j < n) = simp facts at h in
        (session-iff s n j).1 (
          (q.1, omega (arith, w.above)),
          rises-after f g j (stands_after last j w q.0.0 q.0.1),
        )

    pub among-held : (last j : ℕ) → Among s n v last j → goes_on s n v last j ≡ true → all_below (session_ok s n) (j + 1) ≡ true
    among-held last j w h = all_more _ j w.held (goes-ok last j w h)

    pub among-more : (last j : ℕ) → j < session_count s → Among s n v last j → goes_on s n v last j ≡ true → Among s n v (g j) (j + 1)
    among-more last j l w h =
        let q : ((f j ≡ v) × (last < g j)) × (g j < n) = simp facts at h in
        record {
          upto = omega arith;
          held = among-held last j w h;
          before = λ i b.
              ⊎_elim (λ (e : i ≡ j). omega (arith, ap f e)) (λ (e : i ≡ j → ⊥). w.before i (omega arith)) (eq-or-ne i j);
          next = λ b ok.
              ⊎_elim (λ (p : f j < f (j + 1)). omega arith) (λ (p : (f j ≡ f (j + 1)) × (g j < g (j + 1))). omega arith)
              (after-before f g j (j + 1) (omega arith) ((session-iff s n (j + 1)).0 ok).1);
          above = omega (arith, w.above);
          after = inr (record { at = j; is = omega arith; first = q.0.0; second = refl });
        }

    -- a session in order that does not go on is of a later router
    pub among-stop : (last j : ℕ) → Among s n v last j → goes_on s n v last j ≡ false → Reached s n (v + 1) j
    among-stop last j w stops =
        record {
          upto = w.upto;
          held = w.held;
          before = λ i l. omega (arith, w.before i l);
          next = λ l ok.
              ⊎_elim (λ (e : f j ≡ v). not-both (goes_on s n v last j) (goes e ((session-iff s n j).0 ok) w.after) stops)
              (λ (d : f j ≡ v → ⊥). omega (arith, w.next l ok))
              (eq-or-ne (f j) v);
        }
      where
        beyond : f j ≡ v → SessionAt s n j → ((last ≡ v) × ((i : ℕ) → i < j → f i < v)) ⊎ Gone s v last j → last < g j
        beyond e at (inl h) = omega (arith, h.0, at.0.1)
        beyond e at (inr h) =
            ⊎_elim (λ (p : f h.at < f j). absurd (omega (arith, h.first)))
            (λ (p : (f h.at ≡ f j) × (g h.at < g j)). omega (arith, h.second))
            (after-before f g h.at j h.is at.1)

        goes : f j ≡ v → SessionAt s n j → ((last ≡ v) × ((i : ℕ) → i < j → f i < v)) ⊎ Gone s v last j → goes_on s n v last j ≡ true
        goes e at after = simp facts ((e, beyond e at after), at.0.0)

    pub among-end : (last j : ℕ) → Among s n v last j → session_count s ≤ j → Reached s n (v + 1) j
    among-end last j w l =
        record {
          upto = w.upto;
          held = w.held;
          before = λ i b. omega (arith, w.before i b);
          next = λ b ok. absurd (omega arith);
        }

  pub reached-start : Reached s n 0 0
  reached-start =
      record { upto = omega arith; held = all_none _; before = λ i l. absurd (omega arith); next = λ l ok. omega arith }

  -- past the last router, a session that is left is not in order
  pub reached-fail : (v j : ℕ) → Reached s n v j → j < session_count s → n ≤ v → sessions_ok s n ≡ false
  unfolding sessions_ok
  reached-fail v j w l h =
      ⊎_elim
      (λ (ok : session_ok s n j ≡ true). absurd (omega (arith, w.next l ok, (session-iff s n j).0 ok)))
      (all-fail _ _ j l)
      (true-or-false (session_ok s n j))

  pub reached-done : (v j : ℕ) → Reached s n v j → session_count s ≤ j → sessions_ok s n ≡ true
  unfolding sessions_ok
  reached-done v j w h = all_done _ _ j w.upto h w.held
