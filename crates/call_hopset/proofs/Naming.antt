-- The answer of the call, case by case.
use Prim.Native.Nat.{ℕ, zero, suc, ◌≤◌, ◌<◌}
use mathlib.Core.Path.{◌≡◌, refl, ◌∙◌, sym, ap}
use mathlib.Core.List.{List}
use borrow.Author.Tests.{le-leb, lt-leb}
use Rattle.plan_rules.specs.Refusal.{refuse}
use Rattle.plan_rules.specs.Refused.{field}
use Rattle.plan_rules.proofs.Refused.{when-refused}
use Rattle.route_rules.specs.Instance.{Instance}
use Rattle.steady_rules.specs.Steady.{grouped_routers}
use Rattle.hopset_rules.specs.HopSet.{hop_set}
use Rattle.net_rules.specs.FromPlan.{instance_of}
use Rattle.call_rules.specs.Refusals.{egress_list_refusal, hop_set_refusal}
use Rattle.call_rules.proofs.Granted.{asked-refused, asked-passed}
use Rattle.call_hopset.specs.declared.hop_set.HopSetAnswer.{HopSetAnswer}
use Rattle.call_hopset.specs.declared.hop_set.HopSetAnswer.TheVariants.{Refused, Named}
use Rattle.call_hopset.specs.HopSet.{hop_set_answer, named_for, refusal_of, set_named, HopSetGiven, HopSetCall}

given : (number : ℕ) (I : Instance) (r : HopSetAnswer) → r ≡ hop_set_answer number I → HopSetGiven number I r
unfolding hop_set_answer
given number I r e = record { answer = e; numbered = ap refusal_of e ∙ numbered number; named = ap set_named e ∙ named number }
  where
    numbered : (n : ℕ) → refusal_of (hop_set_answer n I) ≡ n
    numbered zero = refl
    numbered (suc n) = refl

    named : (n : ℕ) → set_named (hop_set_answer n I) ≡ field n (hop_set I)
    named zero = refl
    named (suc n) = refl

-- row 15 decides, or nothing
pub too_many : (I : Instance) → 12 < grouped_routers I → Refused 15 ≡ named_for I
unfolding named_for hop_set_answer refuse
too_many I h = rw (lt-leb (grouped_routers I) 12 h)

pub few-enough : (I : Instance) (x : ℕ) → grouped_routers I ≤ 12 → x ≡ hop_set I → Named x ≡ named_for I
unfolding named_for hop_set_answer refuse
few-enough I x h e = rw (le-leb (grouped_routers I) 12 h) (ap Named e)

module _ (plan : List ℕ) (k : ℕ) where
  pub named-not : (number : ℕ) → number ≡ egress_list_refusal plan k → (number ≡ 0 → ⊥) → HopSetCall plan k (Refused number)
  unfolding egress_list_refusal hop_set_refusal hop_set_answer
  named-not number e ne =
      let same : number ≡ hop_set_refusal plan k = asked-refused plan _ _ number e ne in
      given _ (instance_of plan k) _ (ap Refused same ∙ sym (when-refused _ _ _ (λ z. ne (same ∙ z))))

  pub named-so : egress_list_refusal plan k ≡ 0 → (r : HopSetAnswer) → r ≡ named_for (instance_of plan k) → HopSetCall plan k r
  unfolding egress_list_refusal hop_set_refusal named_for
  named-so z r e =
      given _ (instance_of plan k) r (e ∙ ap (λ n. hop_set_answer n (instance_of plan k)) (asked-passed plan _ _ z))
