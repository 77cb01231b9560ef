-- Row 13: its check passes exactly if its plain facts hold, and fails exactly if some client has five different parents.
use Prim.Native.Nat.{ℕ, zero, suc, ◌≤◌, ◌<◌}
use native.Mathlib.Omega.{arith}
use mathlib.Core.Path.{◌≡◌, refl, ◌∙◌, sym, ap, ap₂}
use mathlib.Core.Bool.{Bool, true, false, not, ◌&&◌, ◌||◌, and-false, or-true}
use mathlib.Core.List.{List}
use mathlib.Core.Logic.{⊎_elim, ◌↔◌}
use borrow.Author.Tests.{lt-ltb, eq-eqb, ne_eqb, eqb-false, leb-true, leb-false, le-leb, lt-leb, not-true}
use lib.Dec.{leb, ltb, eqb}
use Rattle.base.specs.Below.{all_below}
use Rattle.base.specs.Seek.{flag, count}
use Rattle.base.proofs.Below.{all-at, all-intro, all-fail, Witness, all-broken}
use Rattle.base.proofs.Numbers.{both, both_left, both_right, eq-or-ne, lt-or-le, not-both}
use Rattle.base.proofs.Seek.{flag-yes, count-suc, count-upto, Nth, nth}
use Rattle.plan_rules.specs.Routers.{role, reflector_in}
use Rattle.plan_rules.specs.Sessions.{in_session}
use Rattle.plan_rules.specs.Parents.{parent_in, parent_count, few_parents, parents_ok}
use Rattle.plan_rules.specs.BodyFacts.{Parents, FiveParents}

-- who is a reflector
module _ (routers : List ℕ) (n v : ℕ) where
  pub client-is : role routers v ≡ 2 → reflector_in routers n v ≡ false
  client-is e = ap (λ b. ltb v n && not b) (eq-eqb _ 2 e) ∙ and-false (ltb v n)

  pub reflector-is : v < n → (role routers v ≡ 2 → ⊥) → reflector_in routers n v ≡ true
  reflector-is l d = ap₂ (λ a b. a && not b) (lt-ltb v n l) (ne_eqb _ 2 d)

  no-client : reflector_in routers n v ≡ true → role routers v ≡ 2 → ⊥
  no-client h e = not-both (reflector_in routers n v) h (client-is e)

module _ (routers sessions : List ℕ) (n : ℕ) where
  -- the same two tests of one router, and what they say
  few-client : (v : ℕ) → role routers v ≡ 2 → few_parents routers sessions n v ≡ leb (parent_count routers sessions n v) 4
  unfolding few_parents
  few-client v e = ap (λ b. b || leb (parent_count routers sessions n v) 4) (client-is routers n v e)

  few-reflector : (v : ℕ) → v < n → (role routers v ≡ 2 → ⊥) → few_parents routers sessions n v ≡ true
  unfolding few_parents
  few-reflector v l d = ap (λ b. b || leb (parent_count routers sessions n v) 4) (reflector-is routers n v l d)

  pub parents-facts : parents_ok routers sessions n ≡ true → Parents routers sessions n
  unfolding parents_ok
  parents-facts h = record { few = λ v l e. leb-true _ 4 (sym (few-client v e) ∙ all-at _ n h v l) }

  pub parents-holds : Parents routers sessions n → parents_ok routers sessions n ≡ true
  unfolding parents_ok
  parents-holds f =
      all-intro _ n
      (λ v l.
      ⊎_elim (λ (e : role routers v ≡ 2). few-client v e ∙ le-leb _ 4 (f.few v l e)) (few-reflector v l)
      (eq-or-ne (role routers v) 2))

  -- what is counted
  abbrev is_parent : ℕ → ℕ → ℕ
  is_parent v p = flag (parent_in routers sessions n v p)

  five-found : (v : ℕ) → v < n → role routers v ≡ 2 → 4 < count (is_parent v) n → FiveParents routers sessions n
  five-found v l e many =
      record {
        client = v;
        below = l;
        is_client = e;
        parent = λ k h. (found k h).at;
        parent_below = λ k h. (found k h).below;
        different = λ i j p q h.
            ⊎_elim (λ g. g)
            (λ (g : (found j q).at ≤ (found i p).at).
            absurd (omega (arith, count-upto (is_parent v) _ _ g, (found i p).before, (found j q).before)))
            (lt-or-le (found i p).at (found j q).at);
        no_client = λ k h. no-client routers n _ (both_left _ (in_session sessions v _) (flag-yes _ (found k h).yes));
        neighbour = λ k h. both_right (reflector_in routers n _) _ (flag-yes _ (found k h).yes);
      }
    where
      found : (k : ℕ) → k < 5 → Nth (is_parent v) n k
      found k h = nth (is_parent v) n k (omega arith)

  -- up to the k-th, and with it, k + 1 are counted
  module _ (w : FiveParents routers sessions n) where
    counted : (k : ℕ) (l : k < 5) → is_parent w.client (w.parent k l) ≡ 1
    counted k l =
        ap flag (both _ _ (reflector-is routers n _ (w.parent_below k l) (w.no_client k l)) (w.neighbour k l))

    so-many : (k : ℕ) (l : k < 5) → k < count (is_parent w.client) (suc (w.parent k l))
    so-many zero l = omega (arith, count-suc (is_parent w.client) (w.parent 0 l), counted 0 l)
    so-many (suc k) l =
        let h : k < 5 = omega arith in
        let before = count-upto (is_parent w.client) _ _ (w.different k (suc k) h l (omega arith)) in
        omega (arith, so-many k h, before, count-suc (is_parent w.client) (w.parent (suc k) l), counted (suc k) l)

    five-counted : 4 < count (is_parent w.client) n
    five-counted =
        let l : 4 < 5 = omega arith in
        omega (arith, so-many 4 l, count-upto (is_parent w.client) _ _ (w.parent_below 4 l))

  pub five-parents : (parents_ok routers sessions n ≡ false) ↔ FiveParents routers sessions n
  unfolding parents_ok parent_count
  five-parents = (fails, broken)
    where
      fails : all_below (few_parents routers sessions n) n ≡ false → FiveParents routers sessions n
      fails h =
          let w : Witness (λ v. not (few_parents routers sessions n v)) n = all-broken _ n h in
          let v = w.at in
          ⊎_elim
          (λ (e : role routers v ≡ 2).
          five-found v w.below e (leb-false _ 4 (sym (few-client v e) ∙ not-true _ w.holds)))
          (λ (d : role routers v ≡ 2 → ⊥). not-both (few_parents routers sessions n v) (few-reflector v w.below d) (not-true _ w.holds))
          (eq-or-ne (role routers v) 2)

      broken : FiveParents routers sessions n → all_below (few_parents routers sessions n) n ≡ false
      broken w = all-fail _ n w.client w.below (few-client w.client w.is_client ∙ lt-leb _ 4 (five-counted w))
