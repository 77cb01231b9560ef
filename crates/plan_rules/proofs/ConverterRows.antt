-- The converter's refusals: each number is given exactly if its check is the first that fails.
use Prim.Native.Nat.{ℕ, ◌≤◌, ◌<◌}
use native.Mathlib.Omega.{arith}
use mathlib.Core.Path.{◌≡◌, refl, ◌∙◌, sym}
use mathlib.Core.Bool.{Bool, true, false}
use mathlib.Core.List.{List}
use mathlib.Core.Logic.{◌⊎◌, inl, inr, ⊎_elim}
use borrow.Author.Tests.{eq-eqb, ne_eqb, leb-true, le-leb, leb-false, not-true, lt-leb, lt-ltb}
use lib.Dec.{eqb, leb, lit<, lit≤}
use lib.ListN.{length}
use Rattle.base.proofs.Below.{all-at, all-intro, all-broken}
use Rattle.base.proofs.Numbers.{eq-or-ne, lt-or-le, true-or-false, not-both}
use Rattle.plan_contents.specs.Header.{mark, width, router_count}
use Rattle.plan_contents.specs.Contents.{distances_body}
use Rattle.plan_contents.specs.HeaderFacts.{Header}
use Rattle.plan_rules.specs.Distances.{no_way, distance_in, is_way}
use Rattle.plan_rules.specs.Refusal.{refuse, plan_checks, plan_refusal}
use Rattle.plan_rules.specs.Passed.{row_number}
use Rattle.plan_rules.specs.Converted.{mark_of, converted, distance_fits, distances_fit, widen_refusal, narrow_refusal}
use Rattle.plan_rules.specs.ConverterRows.{TooFar, NoneTooFar, WidenExactly, NarrowExactly}
use Rattle.plan_rules.proofs.Cascade.{plan-passes, plan-refused}
use Rattle.plan_rules.proofs.DistanceNumbers.{fits-cases}
use Rattle.plan_rules.proofs.ConvertedParts.{widened-length, narrowed-length}
use Rattle.plan_rules.proofs.Passed.{passed, accepted, row-exactly, later-row, refusal-numbers}

module _ (from : ℕ) (plan : List ℕ) (near long : Bool) where
  abbrev number : ℕ
  number = refuse (eqb (mark plan) (mark_of from)) 1 (plan_checks plan (refuse near 14 (refuse long 9 0)))

  wrong-mark : (mark plan ≡ mark_of from → ⊥) → number ≡ 1
  unfolding refuse
  wrong-mark h = rw (ne_eqb _ _ h)

  module _ (m : mark plan ≡ mark_of from) where
    after-mark : number ≡ plan_checks plan (refuse near 14 (refuse long 9 0))
    unfolding refuse
    after-mark = rw (eq-eqb _ _ m)

    by-plan : (plan_refusal plan ≡ 0 → ⊥) → number ≡ plan_refusal plan
    by-plan h = after-mark ∙ plan-refused plan _ h

    module _ (ok : plan_refusal plan ≡ 0) where
      by-distance : near ≡ false → number ≡ 14
      unfolding refuse
      by-distance h = after-mark ∙ plan-passes plan _ ok ∙ rw h

      by-room : near ≡ true → long ≡ false → number ≡ 9
      unfolding refuse
      by-room h l = after-mark ∙ plan-passes plan _ ok ∙ rw (h, l)

      by-none : near ≡ true → long ≡ true → number ≡ 0
      unfolding refuse
      by-none h l = after-mark ∙ plan-passes plan _ ok ∙ rw (h, l)

  -- what decided: the mark, the plan, a distance, the buffer's length, or nothing
  by_cases :
      {A : Type 0} → ((mark plan ≡ mark_of from → ⊥) → number ≡ 1 → A) →
      (mark plan ≡ mark_of from → (plan_refusal plan ≡ 0 → ⊥) → number ≡ plan_refusal plan → A) →
      (mark plan ≡ mark_of from → plan_refusal plan ≡ 0 → near ≡ false → number ≡ 14 → A) →
      (mark plan ≡ mark_of from → plan_refusal plan ≡ 0 → near ≡ true → long ≡ false → number ≡ 9 → A) →
      (mark plan ≡ mark_of from → plan_refusal plan ≡ 0 → near ≡ true → long ≡ true → number ≡ 0 → A) →
      A
  by_cases mark-row plan-row row-14 row-9 none =
      ⊎_elim
      (λ (m : mark plan ≡ mark_of from).
      ⊎_elim
      (λ (p : plan_refusal plan ≡ 0).
      ⊎_elim
      (λ (a : near ≡ true).
      ⊎_elim (λ (b : long ≡ true). none m p a b (by-none m p a b)) (λ (b : long ≡ false). row-9 m p a b (by-room m p a b))
      (true-or-false long))
      (λ (a : near ≡ false). row-14 m p a (by-distance m p a))
      (true-or-false near))
      (λ (h : plan_refusal plan ≡ 0 → ⊥). plan-row m h (by-plan m h))
      (eq-or-ne (plan_refusal plan) 0))
      (λ (h : mark plan ≡ mark_of from → ⊥). mark-row h (wrong-mark h))
      (eq-or-ne (mark plan) (mark_of from))

  abbrev Unheaded : Type 0
  Unheaded = (mark plan ≡ mark_of from → ⊥) ⊎ (Header plan → ⊥)

  one-shown : number ≡ 1 → Unheaded
  one-shown e =
      by_cases (λ h _. inl h) (λ m h q. inr ((row-exactly plan 0 (lit< tt)).fails (sym q ∙ e))) (λ m p a q. absurd (omega arith))
      (λ m p a b q. absurd (omega arith)) (λ m p a b q. absurd (omega arith))

  one-given : Unheaded → number ≡ 1
  one-given (inl h) = wrong-mark h
  one-given (inr h) =
      let first : plan_refusal plan ≡ 1 = (row-exactly plan 0 (lit< tt)).given (λ j l. absurd (omega arith)) h in
      by_cases (λ _ q. q) (λ m h q. q ∙ first) (λ m p a q. absurd (omega arith)) (λ m p a b q. absurd (omega arith))
      (λ m p a b q. absurd (omega arith))

  -- a later row of the plan
  module _ (place : ℕ) (some : 1 ≤ place) (below : place < 8) where
    no_row : (x : ℕ) → row_number place ≡ x → (2 ≤ x → x ≤ 7 → ⊥) → (x ≡ 13 → ⊥) → ⊥
    no_row x e few other =
        ⊎_elim (λ (h : (2 ≤ row_number place) × (row_number place ≤ 7)). few (omega arith) (omega arith))
        (λ (h : row_number place ≡ 13). other (omega arith))
        (later-row place some below)

    row-shown : number ≡ row_number place → (mark plan ≡ mark_of from) × (plan_refusal plan ≡ row_number place)
    row-shown e =
        by_cases (λ h q. absurd (no_row 1 (sym e ∙ q) (λ a b. omega arith) (λ c. omega arith))) (λ m h q. (m, sym q ∙ e))
        (λ m p a q. absurd (no_row 14 (sym e ∙ q) (λ b c. omega arith) (λ c. omega arith)))
        (λ m p a b q. absurd (no_row 9 (sym e ∙ q) (λ c d. omega arith) (λ c. omega arith)))
        (λ m p a b q. absurd (no_row 0 (sym e ∙ q) (λ c d. omega arith) (λ c. omega arith)))

    row-given : (mark plan ≡ mark_of from) × (plan_refusal plan ≡ row_number place) → number ≡ row_number place
    row-given h =
        by-plan h.0 (λ z. no_row 0 (sym h.1 ∙ z) (λ a b. omega arith) (λ c. omega arith)) ∙ h.1

  -- a row of the call's own
  no-plan-row : (x : ℕ) → plan_refusal plan ≡ x → 8 ≤ x → (x ≡ 13 → ⊥) → ⊥
  no-plan-row x e l other =
      ⊎_elim (λ (h : plan_refusal plan ≤ 7). omega arith) (λ (h : plan_refusal plan ≡ 13). other (omega arith)) (refusal-numbers plan)

  fourteen-shown : number ≡ 14 → (mark plan ≡ mark_of from) × (plan_refusal plan ≡ 0) × (near ≡ false)
  fourteen-shown e =
      by_cases (λ h q. absurd (omega arith)) (λ m h q. absurd (no-plan-row 14 (sym q ∙ e) (lit≤ tt) (λ c. omega arith)))
      (λ m p a q. (m, p, a)) (λ m p a b q. absurd (omega arith)) (λ m p a b q. absurd (omega arith))

  nine-shown : number ≡ 9 → (mark plan ≡ mark_of from) × (plan_refusal plan ≡ 0) × (near ≡ true) × (long ≡ false)
  nine-shown e =
      by_cases (λ h q. absurd (omega arith)) (λ m h q. absurd (no-plan-row 9 (sym q ∙ e) (lit≤ tt) (λ c. omega arith)))
      (λ m p a q. absurd (omega arith)) (λ m p a b q. (m, p, a, b)) (λ m p a b q. absurd (omega arith))

  none-shown : number ≡ 0 → (mark plan ≡ mark_of from) × (plan_refusal plan ≡ 0) × (near ≡ true) × (long ≡ true)
  none-shown e =
      by_cases (λ h q. absurd (omega arith)) (λ m h q. absurd (h (sym q ∙ e))) (λ m p a q. absurd (omega arith))
      (λ m p a b q. absurd (omega arith)) (λ m p a b q. (m, p, a, b))

-- row 14 in plain facts: of one distance, and of a plan
near-way : (d : ℕ) → distance_fits 2 d ≡ true → is_way d ≡ true → d ≤ 65534
near-way d h w =
    ⊎_elim (λ (e : d ≡ no_way). not-both (is_way d) w (rw e)) (λ (l : d < 65535). omega arith) (fits-cases 2 d h)

near_fits : (d : ℕ) → (is_way d ≡ true → d ≤ 65534) → distance_fits 2 d ≡ true
near_fits d h =
    ⊎_elim (λ (w : is_way d ≡ true). rw (w, lt-ltb d 65535 (omega (arith, h w)))) (λ (w : is_way d ≡ false). rw w)
    (true-or-false (is_way d))

far-way : (d : ℕ) → distance_fits 2 d ≡ false → (is_way d ≡ true) × (65534 < d)
far-way d h = (
  ⊎_elim (λ w. w) (λ (w : is_way d ≡ false). not-both (distance_fits 2 d) (rw w) h) (true-or-false (is_way d)),
  ⊎_elim (λ (l : d < 65535). not-both (distance_fits 2 d) (near_fits d (λ w. omega arith)) h) (λ (l : 65535 ≤ d). omega arith)
      (lt-or-le d 65535),
)

module _ (plan : List ℕ) where
  pub near-shown : distances_fit 2 plan ≡ true → NoneTooFar plan
  unfolding distances_fit
  near-shown h u e l m =
      near-way (distance_in (width plan) (distances_body plan) (router_count plan) u e) (all-at _ _ (all-at _ (router_count plan) h u l) e m)

  pub near-holds : NoneTooFar plan → distances_fit 2 plan ≡ true
  unfolding distances_fit
  near-holds h =
      all-intro _ _
      (λ u l. all-intro _ _ (λ e m. near_fits (distance_in (width plan) (distances_body plan) (router_count plan) u e) (h u e l m)))

  far-shown : distances_fit 2 plan ≡ false → TooFar plan
  unfolding distances_fit
  far-shown h =
      let row = all-broken _ (router_count plan) h in
      let pair = all-broken _ (router_count plan) (not-true _ row.holds) in
      let far = far-way (distance_in (width plan) (distances_body plan) (router_count plan) row.at pair.at) (not-true _ pair.holds) in
      record { router = row.at; egress = pair.at; router_below = row.below; egress_below = pair.below; way = far.0; above = far.1 }

  far-holds : TooFar plan → distances_fit 2 plan ≡ false
  far-holds f =
      ⊎_elim
      (λ (h : distances_fit 2 plan ≡ true).
      let most = near-shown h f.router f.egress f.router_below f.egress_below f.way in absurd (omega (arith, f.above)))
      (λ h. h)
      (true-or-false (distances_fit 2 plan))

pub widen-exactly : (plan : List ℕ) (room : ℕ) → WidenExactly plan room (widen_refusal plan room)
unfolding widen_refusal refuse
widen-exactly plan room =
    let size = length (converted 4 plan) in
    let long = leb size room in
    record {
      one = (one-shown 2 plan true long, one-given 2 plan true long);
      plan_rows = λ place some below. (row-shown 2 plan true long place some below, row-given 2 plan true long place some below);
      nine = (
        λ e.
            let h = nine-shown 2 plan true long e in
            let p = passed plan h.1 in
            (h.0, p, omega (arith, widened-length plan p h.0, leb-false size room h.3)),
        λ h.
            let short : room < size = omega (arith, widened-length plan h.1 h.0, h.2) in
            by-room 2 plan true long h.0 (accepted plan h.1) refl (lt-leb size room short),
      );
      none = (
        λ e.
            let h = none-shown 2 plan true long e in
            let p = passed plan h.1 in
            (h.0, p, omega (arith, widened-length plan p h.0, leb-true size room h.3)),
        λ h.
            let enough : size ≤ room = omega (arith, widened-length plan h.1 h.0, h.2) in
            by-none 2 plan true long h.0 (accepted plan h.1) refl (le-leb size room enough),
      );
    }

pub narrow-exactly : (plan : List ℕ) (room : ℕ) → NarrowExactly plan room (narrow_refusal plan room)
unfolding narrow_refusal
narrow-exactly plan room =
    let size = length (converted 2 plan) in
    let long = leb size room in
    let near = distances_fit 2 plan in
    record {
      one = (one-shown 4 plan near long, one-given 4 plan near long);
      plan_rows = λ place some below. (row-shown 4 plan near long place some below, row-given 4 plan near long place some below);
      fourteen = (
        λ e. let h = fourteen-shown 4 plan near long e in (h.0, passed plan h.1, far-shown plan h.2),
        λ h. by-distance 4 plan near long h.0 (accepted plan h.1) (far-holds plan h.2),
      );
      nine = (
        λ e.
            let h = nine-shown 4 plan near long e in
            let p = passed plan h.1 in
            (h.0, p, near-shown plan h.2, omega (arith, narrowed-length plan p h.0, leb-false size room h.3)),
        λ h.
            let short : room < size = omega (arith, narrowed-length plan h.1 h.0, h.3) in
            by-room 4 plan near long h.0 (accepted plan h.1) (near-holds plan h.2) (lt-leb size room short),
      );
      none = (
        λ e.
            let h = none-shown 4 plan near long e in
            let p = passed plan h.1 in
            (h.0, p, near-shown plan h.2, omega (arith, narrowed-length plan p h.0, leb-true size room h.3)),
        λ h.
            let enough : size ≤ room = omega (arith, narrowed-length plan h.1 h.0, h.3) in
            by-none 4 plan near long h.0 (accepted plan h.1) (near-holds plan h.2) (le-leb size room enough),
      );
    }
