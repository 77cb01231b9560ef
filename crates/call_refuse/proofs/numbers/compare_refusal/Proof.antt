use mathlib.Core.Bool.{true, ◌&&◌}
use borrow.Author.Rules.{rules}
use Rattle.plan_rules.specs.Refusal.{refuse, plan_refusal}
use Rattle.call_rules.specs.Refusals.{has_router, compare_refusal}
use Rattle.call_refuse.proofs.numbers.compare_refusal.Statement.{statement}
use Rattle.call_refuse.proofs.numbers.compare_refusal.Tie as tie

-- the three routers one after the other
returns : tie.Need-returns
unfolding compare_refusal plan_refusal refuse
returns c plan read =
    let a = c.args in
    let at = c.and_router-at.ensures plan true read read.number in
    let with_first = c.and_router-with_first.ensures plan (has_router plan a.router) read at in
    c.and_router.ensures plan (has_router plan a.router && has_router plan a.first) read with_first

pub compare_refusal_spec : {M : Type 1} → statement M
compare_refusal_spec =
    tie.close (tie.spec (λ c κs. search rules) (λ c κs. search rules) (λ c κs. search rules) returns)
