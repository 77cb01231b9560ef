use native.Mathlib.Omega.{arith}
use mathlib.Core.Path.{◌∙◌, sym}
use mathlib.Core.Bool.{true, false}
use borrow.Author.Rules.{rules}
use borrow.Author.Tests.{lt-ltb, le-ltb}
use Rattle.plan_contents.specs.Header.{router_count}
use Rattle.plan_rules.specs.Refusal.{refuse}
use Rattle.plan_rules.proofs.Cascade.{plan-of-passed}
use Rattle.call_rules.proofs.Granted.{more-refused, more-passed}
use Rattle.call_refuse.proofs.numbers.and_router.Statement.{statement}
use Rattle.call_refuse.proofs.numbers.and_router.Tie as tie

returns : tie.Need-returns-then-refused-ne0
returns c plan ok read before = more-refused plan ok _ _ before c.if-refused-ne0.true

returns-2 : tie.Need-returns-then-checked-router
unfolding refuse
returns-2 c plan ok read before =
    let d = c in
    let z = sym before ∙ d.if-refused-ne0.false in
    let n = (read.accepted (plan-of-passed _ _ z)).routers in
    more-passed plan ok false (le-ltb d.args.router (router_count plan) (omega arith)) z

returns-3 : tie.Need-returns
unfolding refuse
returns-3 c plan ok read before =
    let d = c in
    let z = sym before ∙ d.if-refused-ne0.false in
    let n = (read.accepted (plan-of-passed _ _ z)).routers in
    more-passed plan ok true (lt-ltb d.args.router (router_count plan) (omega arith)) z

pub and_router_spec : {M : Type 1} → statement M
and_router_spec = tie.close (tie.spec returns (λ c. search rules) returns-2 returns-3)
