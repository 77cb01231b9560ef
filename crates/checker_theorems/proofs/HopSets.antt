-- What the number that the call names means of the plan's bytes.
use Prim.Native.Nat.{ℕ, ◌≤◌, ◌<◌}
use native.Mathlib.Nat.{lt_of_lt_of_le}
use mathlib.Core.Path.{◌≡◌, ◌∙◌, sym, ap}
use mathlib.Core.Bool.{Bool, true, ◌&&◌, and-true}
use mathlib.Core.List.{List}
use mathlib.Core.Logic.{⊎_elim}
use lib.Pow.{pow_mono}
use Rattle.base.specs.Lent.{Lent}
use Rattle.base.proofs.Numbers.{eq-or-ne, not-both}
use Rattle.plan_contents.specs.Header.{router_count}
use Rattle.plan_rules.specs.Passed.{Passed}
use Rattle.plan_rules.proofs.Passed.{passed, accepted}
use Rattle.plan_rules.proofs.Refused.{when-refused, when-given}
use Rattle.route_rules.specs.Instance.{Instance}
use Rattle.steady_rules.specs.Steady.{grouped_routers, SharesLabel}
use Rattle.hopset_rules.specs.HopSet.{serves, set_of, hop_set, HopSet}
use Rattle.hopset_rules.proofs.Serving.{serves-alike}
use Rattle.hopset_rules.proofs.HopSet.{hop-set}
use Rattle.steady_rules.proofs.Members.{grouped-router, shares-label}
use Rattle.net_rules.specs.FromPlan.{instance_of}
use Rattle.net_verdict.specs.Assessed.{is_stable}
use Rattle.call_rules.proofs.Granted.{hop-set-asked}
use Rattle.call_rules.specs.Refusals.{hop_set_refusal}
use Rattle.call_verdict.specs.declared.verdict.VerdictAnswer.{VerdictAnswer}
use Rattle.call_verdict.specs.Verdict.{verdict_number, verdict_is_stable, VerdictCall}
use Rattle.checker_theorems.specs.HopStep.{HasList, MayCycle}
use Rattle.checker_theorems.specs.HopSets.{stepped, every_grouped, EverySteppedPlan, HopSetMeans, EveryHopSetMeans, EveryListServed}
use Rattle.checker_theorems.proofs.HopStep.{same-label}
use Rattle.checker_theorems.proofs.SteppedPlans.{stepped-other, long-is, lists-count, role-is, stepped-passed, stepped-network}

-- what the verdict call says of the list
module _ (plan : List ℕ) (k : ℕ) (r : VerdictAnswer) (labels ranks table shown : Lent (List ℕ))
    (call : VerdictCall plan k r labels ranks table shown) where
  pub says : verdict_number r ≡ 0 → verdict_is_stable r ≡ is_stable (instance_of plan k)
  says z = call.stable ∙ when-given _ _ _ (sym call.numbered ∙ z)

  -- it says stable of none that it refuses
  pub not-refused : verdict_is_stable r ≡ true → verdict_number r ≡ 0
  not-refused s =
      ⊎_elim (λ e. e)
      (λ (d : verdict_number r ≡ 0 → ⊥). not-both (verdict_is_stable r) s (call.stable ∙ when-refused _ _ _ (λ z. d (call.numbered ∙ z))))
      (eq-or-ne (verdict_number r) 0)

-- the reflectors of a set serve as the set does
reflectors-serve : (I : Instance) (chosen : ℕ → Bool) → serves I (λ w. chosen w && I.reflector w) ≡ serves I chosen
reflectors-serve I chosen =
    serves-alike I (λ w. chosen w && I.reflector w) chosen
    (λ w l g. ap (◌&&◌ (chosen w)) (grouped-router I w l g).reflector ∙ and-true (chosen w))

pub every-stepped-plan : EverySteppedPlan
unfolding is_stable serves
every-stepped-plan plan k h chosen =
    record {
      roles = role-is plan chosen p;
      others = stepped-other plan chosen (router_count plan);
      long = long-is plan chosen p;
      has = record { plan_ok = accepted (stepped plan chosen) (stepped-passed plan chosen p); list_ok = rw (lists-count plan chosen p) h.list_ok };
      network = stepped-network plan chosen p k;
      verdict = λ r labels ranks table shown call z.
          says (stepped plan chosen) k r labels ranks table shown call z
          ∙ ap is_stable (stepped-network plan chosen p k)
          ∙ reflectors-serve (instance_of plan k) chosen;
    }
  where
    p : Passed plan
    p = passed plan h.plan_ok

module _ (plan : List ℕ) (k : ℕ) (h : HasList plan k) (few : grouped_routers (instance_of plan k) ≤ 12) where
  abbrev I : Instance
  I = instance_of plan k

  found : HopSet I
  found = hop-set I

  drawn : (x w : ℕ) → w < router_count plan → set_of I x w ≡ true → SharesLabel I w × MayCycle plan k w
  drawn x w l e =
      let s = (shares-label I w l).0 (found.drawn x w l e).0 in
      (s, same-label plan k h w s.other l s.below s.differs s.shares)

  -- the chosen routers serve if a verdict call says so
  served : (chosen : ℕ → Bool) (r : VerdictAnswer) (labels ranks table shown : Lent (List ℕ))
      → VerdictCall (stepped plan chosen) k r labels ranks table shown → verdict_is_stable r ≡ true → serves I chosen ≡ true
  served chosen r labels ranks table shown call s =
      sym ((every-stepped-plan plan k h chosen).verdict r labels ranks table shown call (not-refused _ k r labels ranks table shown call s)) ∙ s

  means : HopSetMeans plan k (hop_set I)
  unfolding is_stable
  means =
      record {
        drawn = drawn (hop_set I);
        below = found.smallest.below;
        fits = lt_of_lt_of_le found.smallest.below (pow_mono few);
        passes = (every-stepped-plan plan k h (set_of I (hop_set I))).has;
        stable = λ r labels ranks table shown call z.
            (every-stepped-plan plan k h (set_of I (hop_set I))).verdict r labels ranks table shown call z ∙ found.smallest.serving;
        least = λ chosen r labels ranks table shown call s.
            found.smallest.least chosen (served chosen r labels ranks table shown call s);
        lowest = λ y l r labels ranks table shown call s.
            found.smallest.lowest y l (served (set_of I y) r labels ranks table shown call s);
        stable_list = λ r labels ranks table shown call z.
            let e = says plan k r labels ranks table shown call z in (
              λ none. e ∙ found.stable_list.0 none,
              λ s. found.stable_list.1 (sym e ∙ s),
            );
      }

pub every-hop-set-means : EveryHopSetMeans
every-hop-set-means plan k r call z =
    let given : hop_set_refusal plan k ≡ 0 = sym call.numbered ∙ z in
    let asked = hop-set-asked plan k given in
    rw (call.named ∙ when-given _ _ _ given) (means plan k (record { plan_ok = asked.plan_ok; list_ok = asked.list }) asked.few)

pub every-list-served : EveryListServed
every-list-served plan k h r labels ranks table shown call z =
    (every-stepped-plan plan k h (every_grouped plan k)).verdict r labels ranks table shown call z ∙ (hop-set (instance_of plan k)).always
