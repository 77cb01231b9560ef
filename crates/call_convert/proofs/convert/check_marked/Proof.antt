use native.Mathlib.Omega.{arith}
use mathlib.Core.Path.{◌≡◌}
use borrow.Author.Rules.{rules}
use borrow.Author.Tests.{eq-eqb, ne_eqb}
use lib.ListN.{get_or-eq_default}
use Rattle.plan_contents.specs.Header.{mark}
use Rattle.call_convert.proofs.Returned.{mark-refused, mark-passed}
use Rattle.call_convert.proofs.convert.check_marked.Statement.{statement}
use Rattle.call_convert.proofs.convert.check_marked.Tie as tie

-- what stands past the plan's end is read as 0
none : (c : tie.Then-plan-lt4) → mark c.args.plan.now ≡ 0
none c = get_or-eq_default c.args.plan.now 0 {n = 3} (omega arith)

pub check_marked_spec : {M : Type 1} → statement M
check_marked_spec =
    tie.close
    (tie.spec
    (λ c κs. search rules)
    (λ c.
    let a = c.args in
    mark-refused (ne_eqb (mark a.plan.now) a.letter (λ e. omega (arith, none c.before))) c.refused.ensures)
    (λ c. search rules)
    (λ c κs. search rules)
    (λ c. mark-refused (ne_eqb _ _ c.if-plan-letter.true) c.refused-then-plan-letter.ensures)
    (λ c κs. search rules)
    (λ c. mark-passed (eq-eqb _ _ c.if-plan-letter.false) c.check.ensures))
