-- The byte read is the role of the router in the plan's own body of kind 1.
use native.Mathlib.Omega.{arith}
use mathlib.Core.Path.{◌∙◌, sym, ap}
use borrow.Author.Rules.{rules}
use lib.ListN.{length}
use Rattle.plan_rules.proofs.Passed.{passed}
use Rattle.net_rules.proofs.FromPlan.{routers-length}
use Rattle.call_compare.proofs.Preferring.{step_of}
use Rattle.call_compare.proofs.compare.has_step.Statement.{statement}
use Rattle.call_compare.proofs.compare.has_step.Tie as tie

shared-slice-read-has-step : tie.Need-bounds-routers-router
shared-slice-read-has-step c =
    let given = c.requires in
    omega (arith, ap length c.part-routers.ensures.bytes, routers-length _ (passed _ given.0.ok))

-- a role of a plan that is not refused is admitted
has-step-requires : tie.Need-has_step-requires
has-step-requires c κs =
    let part = c in
    let given = part.requires in
    rw part.part-routers.ensures.bytes ((passed _ given.0.ok).routers.role_most _ given.1)

returns : tie.Need-returns
returns c =
    let part = c.before.before in
    let start = part in
    c.has_step.ensures ∙ sym (step_of start.args.plan.now _ start.requires.1 part.part-routers.ensures.bytes)

pub has_step_spec : {M : Type 1} → statement M
has_step_spec =
    tie.close
    (tie.spec (λ c κs. search rules) (λ c. search rules) shared-slice-read-has-step has-step-requires returns)
