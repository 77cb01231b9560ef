use mathlib.Core.Path.{refl, sym}
use mathlib.Core.Bool.{false}
use borrow.Author.Rules.{rules}
use borrow.Author.Tests.{not-false}
use Rattle.base.proofs.Numbers.{not-both, yes, no}
use Rattle.plan_sessions.proofs.answers.Statement.{statement}
use Rattle.plan_sessions.proofs.answers.Tie as tie

returns : tie.Need-returns-then-not-walk
returns c = record { row5 = sym (no _ c.walk_all-walk.ensures.row5 c.if-not-walk.true); row13 = λ e. not-both false e refl }

returns-2 : tie.Need-returns
returns-2 c =
    let d = c in
    let w = d.walk_all-walk.ensures in
    let ordered = not-false _ d.if-not-walk.false in
    record {
      row5 = sym (yes _ w.row5 d.if-not-walk.false);
      row13 = λ e. c.few.ensures _ (w.reached ordered).before (w.counted ordered);
    }

pub answers_spec : {M : Type 1} → statement M
answers_spec = tie.close (tie.spec (λ c κs. search rules) returns (λ c κs. search rules) returns-2)
