-- Every rule and every reason of an explanation occurs, on a plan of the examples.
use Prim.Native.Nat.{ℕ}
use mathlib.Core.Path.{◌≡◌, refl, ◌∙◌, ap}
use mathlib.Core.Bool.{false}
use Rattle.plan_rules.specs.Refusal.{plan_refusal}
use Rattle.plan_rules.specs.Refused.{unless_refused}
use Rattle.net_rules.specs.FromPlan.{instance_of}
use Rattle.route_explain_rules.specs.Explained.{explained}
use Rattle.route_explain_rules.specs.Values.{bare, values_of}
use Rattle.route_explain_rules.specs.declared.explanation.Values.{Values}
use Rattle.route_explain_rules.specs.declared.explanation.Rule.TheVariants.{Parent, PeerClient, OwnBestClient, AnyOffer, BetterOffer}
use Rattle.route_explain_rules.specs.declared.explanation.Reason.TheVariants.{SameRouter, NotNeighbours, FirstListed}
use Rattle.route_explain_rules.specs.declared.explanation.Reason.TheVariants.{SecondUnlistedClient, NotTheBestClient}
use Rattle.route_explain_rules.specs.declared.explanation.Reason.TheVariants.{NoOffer, NoWayToTheOffer, OfferNotBetter}
use Rattle.call_rules.specs.Refusals.{relies_refusal}
use Rattle.checker_examples.specs.ExplainExamples.{plan}
use Rattle.checker_examples.proofs.Questions.{all_rules}
use Rattle.checker_theorems.specs.Explanations.{Occurs, EveryRuleOccurs, EveryReasonOccurs}

-- the values that the contract states
abbrev found : (list router other : ℕ) → Values
found k w v = unless_refused (relies_refusal plan k w v) (bare false 0) (values_of (explained (instance_of plan k) w v))

occurs : (k w v : ℕ) → plan_refusal plan ≡ 0 → relies_refusal plan k w v ≡ 0
    → Occurs (found k w v).relies (found k w v).code (found k w v).compared
occurs k w v passes given =
    record {
      plan = plan;
      list = k;
      router = w;
      other = v;
      passes = passes;
      answers = λ r call. (
        call.number ∙ given,
        ap (λ x. x.relies) call.values,
        ap (λ x. x.code) call.values,
        ap (λ x. x.compared) call.values,
      );
    }

pub every-rule-occurs : EveryRuleOccurs
unfolding all_rules plan
every-rule-occurs Parent = occurs 0 4 0 refl refl
every-rule-occurs PeerClient = occurs 0 4 3 refl refl
every-rule-occurs OwnBestClient = occurs 0 0 3 refl refl
every-rule-occurs (AnyOffer offer) = occurs 0 2 1 refl refl
every-rule-occurs (BetterOffer offer own margin) = occurs 0 0 1 refl refl

pub every-reason-occurs : EveryReasonOccurs
unfolding all_rules plan
every-reason-occurs SameRouter = occurs 0 3 3 refl refl
every-reason-occurs NotNeighbours = occurs 0 3 5 refl refl
every-reason-occurs FirstListed = occurs 0 3 4 refl refl
every-reason-occurs SecondUnlistedClient = occurs 0 0 4 refl refl
every-reason-occurs NotTheBestClient = occurs 1 0 4 refl refl
every-reason-occurs NoOffer = occurs 0 0 2 refl refl
every-reason-occurs NoWayToTheOffer = occurs 0 2 0 refl refl
every-reason-occurs OfferNotBetter = occurs 0 1 0 refl refl
