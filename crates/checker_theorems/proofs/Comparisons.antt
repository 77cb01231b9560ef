-- What the margin and the ways in an answer say, what who told the routes plays no part in, and that best client, offer, choice and reliance
-- agree with the answer.
use Prim.Native.Nat.{ℕ, ◌<◌}
use native.Mathlib.Omega.{arith}
use mathlib.Core.Path.{◌≡◌, refl, ◌∙◌, sym, ap, subst}
use mathlib.Core.Bool.{Bool, true, false, not, cond, ◌&&◌, ◌||◌, and-true, and-false}
use mathlib.Core.Option.{Option, none, some, get_or}
use mathlib.Core.List.{List}
use mathlib.Core.Logic.{inl, ⊎_elim}
use lib.Dec.{ltb, eqb}
use lib.IntN.{ℤ, pos}
use lib.Signed.{◌<ℤ◌, <ℤ_irrefl}
use Rattle.base.proofs.Numbers.{eq-or-ne, not-both}
use Rattle.plan_contents.specs.Header.{router_count}
use Rattle.route_rules.specs.Instance.{Instance}
use Rattle.route_rules.specs.Preference.{nearer, has_step, hops, prefers, better, margin_of}
use Rattle.route_rules.specs.OneComparison.{OneComparison}
use Rattle.route_rules.proofs.Preference.{hops-direct, hops-passed, hops-without, prefers-without, better-one-way, better-without, better-tie, better-one, comparing}
use Rattle.route_rules.proofs.Margins.{margin-both, known, margins}
use Rattle.route_rules.proofs.OneComparison.{one-comparison}
use Rattle.net_rules.specs.FromPlan.{instance_of}
use Rattle.call_rules.specs.Refusals.{compare_refusal}
use Rattle.call_rules.proofs.Granted.{compare-asked}
use Rattle.call_compare.specs.declared.compare.CompareAnswer.{CompareAnswer}
use Rattle.call_compare.specs.Compare.{which_better, has_margin, margin_number, preferred_of, compared, compare_better, compare_has_margin, compare_margin, Compares}
use Rattle.call_compare.proofs.Preferring.{step_of}
use Rattle.plan_rules.proofs.Refused.{when-refused, when-given}
use Rattle.checker_theorems.specs.Comparisons.{step_role, step_decides, MarginSays, EveryMarginSays, EveryWaySays, EveryToldOtherwise, EveryComparisonAgrees}

-- 1 is answered exactly where the first is better, whatever the list: a comparison reads no list
first-is : (plan : List ℕ) (k w e : ℕ) (d : Bool) (f : ℕ) (d' : Bool)
    → better (instance_of plan k) w e d f d' ≡ eqb (which_better plan w e d f d') 1
unfolding which_better better prefers nearer hops has_step
first-is plan k w e d f d' = go (better (instance_of plan k) w e d f d') (better (instance_of plan k) w f d' e d)
  where
    go : (a b : Bool) → a ≡ eqb (cond a 1 (cond b 2 0)) 1
    go true b = refl
    go false true = refl
    go false false = refl

pub every-comparison-agrees : EveryComparisonAgrees
every-comparison-agrees plan k w e d f d' r call z =
    let given : compare_refusal plan w e f ≡ 0 = sym call.number ∙ z in
    let is : better (instance_of plan k) w e d f d' ≡ eqb (compare_better r) 1
    = first-is plan k w e d f d' ∙ ap (λ x. eqb x 1) (sym (call.value ∙ when-given _ _ _ given)) in
    subst (OneComparison (instance_of plan k) w e d f d') is
    (one-comparison (instance_of plan k) w e d f d' (compare-asked _ _ _ _ given).second)

-- which of the two is answered
module _ (plan : List ℕ) (w e : ℕ) (d : Bool) (f : ℕ) (d' : Bool) where
  abbrev I : Instance
  I = instance_of plan 0

  which-first : better I w e d f d' ≡ true → which_better plan w e d f d' ≡ 1
  unfolding which_better
  which-first h = cc

  which-second : better I w e d f d' ≡ false → better I w f d' e d ≡ true → which_better plan w e d f d' ≡ 2
  unfolding which_better
  which-second h k = cc

  which-neither : better I w e d f d' ≡ false → better I w f d' e d ≡ false → which_better plan w e d f d' ≡ 0
  unfolding which_better
  which-neither h k = cc

  which-tie : better I w e d f d' ≡ ltb e f → better I w f d' e d ≡ ltb f e
      → which_better plan w e d f d' ≡ cond (ltb e f) 1 (cond (ltb f e) 2 0)
  unfolding which_better
  which-tie h k = rw (h, k)

  one-route : e ≡ f → which_better plan w e d f d' ≡ 0
  one-route q = let no = (comparing I w e d f d').neither.1 (inl q) in which-neither no.0 no.1

module _ (plan : List ℕ) (w e f : ℕ) where
  number_of : {m : Option ℤ} → margin_of (instance_of plan 0) w e f ≡ m → margin_number plan w e f ≡ get_or m (pos 0)
  unfolding margin_number
  number_of h = ap (λ o. get_or o (pos 0)) h

  none-present : margin_of (instance_of plan 0) w e f ≡ none → has_margin plan w e f ≡ false
  unfolding has_margin
  none-present h =
      let I = instance_of plan 0 in
      ⊎_elim (λ (p : I.way w e ≡ false). cc) (λ (q : I.way w f ≡ false). ap (λ b. I.way w e && b) q ∙ and-false (I.way w e))
      ((margins I w e f true true).absent.0 h)

-- where the step does not decide the hops are as many, and where it does the route told has fewer
module _ (plan : List ℕ) (w : ℕ) (l : w < router_count plan) where
  has-step : {b : Bool} → step_role plan w ≡ b → has_step (instance_of plan 0) w ≡ b
  has-step h = step_of plan w l refl ∙ h

  no_step : (d d' : Bool) → step_role plan w ≡ false → hops (instance_of plan 0) w d ≡ hops (instance_of plan 0) w d'
  no_step d d' h = hops-without (instance_of plan 0) w (has-step h) d ∙ sym (hops-without (instance_of plan 0) w (has-step h) d')

  even-hops : (d d' : Bool) → step_decides plan w d d' ≡ false → hops (instance_of plan 0) w d ≡ hops (instance_of plan 0) w d'
  unfolding step_decides
  even-hops true true h = refl
  even-hops true false h = no_step true false (sym (and-true (step_role plan w)) ∙ h)
  even-hops false true h = no_step false true (sym (and-true (step_role plan w)) ∙ h)
  even-hops false false h = refl

  fewer-hops : step_role plan w ≡ true → hops (instance_of plan 0) w true < hops (instance_of plan 0) w false
  fewer-hops h = omega (arith, hops-direct (instance_of plan 0) w, hops-passed (instance_of plan 0) w (has-step h))

  -- the route told is answered
  told_is : (e : ℕ) (d : Bool) (f : ℕ) (d' : Bool) (m : ℤ) → margin_of (instance_of plan 0) w e f ≡ some m
      → step_decides plan w d d' ≡ true → (e ≡ f → ⊥) → which_better plan w e d f d' ≡ cond d 1 2
  unfolding step_decides
  told_is e true f true m h s apart = not-both (step_role plan w && false) s (and-false (step_role plan w))
  told_is e true f false m h s apart =
      which-first plan w e true f false
      ((margins (instance_of plan 0) w e f true false).step_first m h apart (fewer-hops (sym (and-true (step_role plan w)) ∙ s)))
  told_is e false f true m h s apart =
      let k = known (instance_of plan 0) w e f m h in
      let second = (margins (instance_of plan 0) w e f false true).step_second m h apart (fewer-hops (sym (and-true (step_role plan w)) ∙ s)) in
      which-second plan w e false f true (better-one (instance_of plan 0) w e false f true k.to_first k.to_second second) second
  told_is e false f false m h s apart = not-both (step_role plan w && false) s (and-false (step_role plan w))

module _ (plan : List ℕ) (w e : ℕ) (d : Bool) (f : ℕ) (d' : Bool) (r : CompareAnswer) (call : Compares plan w e d f d' r) where
  same_route : e ≡ f → compare_better r ≡ 0
  same_route q =
      ⊎_elim (λ (given : compare_refusal plan w e f ≡ 0). call.value ∙ when-given _ _ _ given ∙ one-route plan w e d f d' q)
      (λ (ne : compare_refusal plan w e f ≡ 0 → ⊥). call.value ∙ when-refused _ _ _ ne)
      (eq-or-ne (compare_refusal plan w e f) 0)

  -- where there is no margin it is given as zero, and says nothing
  without : compare_margin r ≡ pos 0 → compare_has_margin r ≡ false → MarginSays plan w e d f d' r
  without m h =
      record {
        negative = λ _ l. absurd (<ℤ_irrefl (rw m at l));
        positive = λ _ l. absurd (<ℤ_irrefl (rw m at l));
        zero = λ _ there _. not-both (compare_has_margin r) there h;
        step = λ _ there _. not-both (compare_has_margin r) there h;
        same = same_route;
        range = call.range;
      }

  -- the margin m of two routes with a way
  with-margin : w < router_count plan → (m : ℤ) → compare_margin r ≡ m → compare_better r ≡ which_better plan w e d f d'
      → margin_of (instance_of plan 0) w e f ≡ some m → MarginSays plan w e d f d' r
  with-margin l m is value h =
      let says = margins (instance_of plan 0) w e f d d' in
      let k = known (instance_of plan 0) w e f m h in
      let even = even-hops plan w l d d' in
      record {
        negative = λ s l. value ∙ which-first plan w e d f d' ((says.first m h (even s)).1 (inl (rw is at l)));
        positive = λ s l.
            let p = (says.second m h (even s)).1 (inl (rw is at l)) in
            value ∙ which-second plan w e d f d' (better-one (instance_of plan 0) w e d f d' k.to_first k.to_second p) p;
        zero = λ s _ q.
            let level = (says.zero.0 (h ∙ ap some (sym is ∙ q))).2 in
            value
            ∙ which-tie plan w e d f d' (better-tie (instance_of plan 0) w e d f d' k.to_first k.to_second (even s) level)
            (better-tie (instance_of plan 0) w f d' e d k.to_second k.to_first (sym (even s)) (sym level));
        step = λ s _ apart. value ∙ told_is plan w l e d f d' m h s apart;
        same = same_route;
        range = call.range;
      }

  -- the call is not refused
  given-says : compare_refusal plan w e f ≡ 0 → MarginSays plan w e d f d' r
  given-says given = go (margin_of (instance_of plan 0) w e f) refl
    where
      go : (m : Option ℤ) → margin_of (instance_of plan 0) w e f ≡ m → MarginSays plan w e d f d' r
      go none h =
          without (call.margin ∙ when-given _ _ _ given ∙ number_of plan w e f h)
          (call.present ∙ when-given _ _ _ given ∙ none-present plan w e f h)
      go (some m) h =
          with-margin (compare-asked _ _ _ _ given).router m (call.margin ∙ when-given _ _ _ given ∙ number_of plan w e f h)
          (call.value ∙ when-given _ _ _ given) h

  says : MarginSays plan w e d f d' r
  says = ⊎_elim given-says
      (λ (ne : compare_refusal plan w e f ≡ 0 → ⊥). without (call.margin ∙ when-refused _ _ _ ne) (call.present ∙ when-refused _ _ _ ne))
      (eq-or-ne (compare_refusal plan w e f) 0)

pub every-margin-says : EveryMarginSays
every-margin-says = says

pub every-way-says : EveryWaySays
unfolding has_margin
every-way-says plan w e d f d' r call z =
    let given : compare_refusal plan w e f ≡ 0 = sym call.number ∙ z in
    let I = instance_of plan 0 in
    let value = call.value ∙ when-given _ _ _ given in
    record {
      first = λ p q. value ∙ which-first plan w e d f d' (better-one-way I w e d f d' p q);
      second = λ p q. value ∙ which-second plan w e d f d' (better-without I w e d f d' p) (better-one-way I w f d' e d q p);
      neither = λ p q. value ∙ which-neither plan w e d f d' (better-without I w e d f d' p) (better-without I w f d' e d q);
      present = call.present ∙ when-given _ _ _ given;
      margin = λ p q. call.margin ∙ when-given _ _ _ given ∙ number_of plan w e f (margin-both I w e f p q);
    }

-- without the step two routes compare alike whoever told them
told-alike : (I : Instance) (w : ℕ) → has_step I w ≡ false → (e f : ℕ) (d d' x x' : Bool) → better I w e d f d' ≡ better I w e x f x'
unfolding better
told-alike I w h e f d d' x x' =
    ap (λ b. I.way w e && (not (I.way w f) || b)) (prefers-without I w h e d f d' ∙ sym (prefers-without I w h e x f x'))

compared-alike : (plan : List ℕ) (w : ℕ) → has_step (instance_of plan 0) w ≡ false → (e f : ℕ) (d d' x x' : Bool)
    → compared plan w e d f d' ≡ compared plan w e x f x'
unfolding compared preferred_of
compared-alike plan w h e f d d' x x' =
    rw (told-alike (instance_of plan 0) w h e f d d' x x', told-alike (instance_of plan 0) w h f e d' d x' x)

pub every-told-otherwise : EveryToldOtherwise
every-told-otherwise plan w e d f d' x x' r s call other =
    record {
      number = other.number ∙ sym call.number;
      present = other.present ∙ sym call.present;
      margin = other.margin ∙ sym call.margin;
      elsewhere = λ h.
          ⊎_elim
          (λ (given : compare_refusal plan w e f ≡ 0).
          other.answer
          ∙ when-given _ _ _ given
          ∙ compared-alike plan w (has-step plan w (compare-asked _ _ _ _ given).router h) e f x x' d d'
          ∙ sym (call.answer ∙ when-given _ _ _ given))
          (λ (ne : compare_refusal plan w e f ≡ 0 → ⊥). other.answer ∙ when-refused _ _ _ ne ∙ sym (call.answer ∙ when-refused _ _ _ ne))
          (eq-or-ne (compare_refusal plan w e f) 0);
    }
