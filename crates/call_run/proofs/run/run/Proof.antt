use mathlib.Core.Path.{◌≡◌, refl, ◌∙◌, sym}
use borrow.Author.Rules.{rules}
use lib.Dec.{lit<}
use Rattle.net_rules.proofs.Opened.{opened-over}
use Rattle.call_rules.specs.Refusals.{sequence_refusal, run_refusal}
use Rattle.call_rules.proofs.Granted.{asked-refused, table-number, SequenceAsked, sequence-asked, table-asked}
use Rattle.call_run.proofs.Sequences.{runs-not, runs_so}
use Rattle.call_run.proofs.run.run.Statement.{statement}
use Rattle.call_run.proofs.run.run.Tie as tie

-- where the first guard is, from after the second call
abbrev guard : tie.After-table_refusal-refused → tie.Else-asked-ne0
guard c = c.before.before.before.before

abbrev entry : tie.Else-asked-ne0 → tie.Start
entry c = c.before.before.before.before.before.before

-- the plan, the list and the sequence pass
given : (c : tie.Else-asked-ne0) → let a = (entry c).args in sequence_refusal a.plan.now a.list a.sequence.now ≡ 0
given c = sym (c.sequence_refusal-asked.ensures _ c.check-checked.ensures) ∙ c.if-asked-ne0.false

asked : (c : tie.Else-asked-ne0) → let a = (entry c).args in SequenceAsked a.plan.now a.list a.sequence.now
asked c = let a = (entry c).args in sequence-asked a.plan.now a.list a.sequence.now (given c)

-- the number found is the call's
number_is : (c : tie.After-table_refusal-refused) → let a = (entry (guard c)).args in
    c.table_refusal-refused.result ≡ run_refusal a.plan.now a.list a.sequence.now a.table.now
unfolding run_refusal
number_is c =
    let d = guard c in
    table-number _ (entry d).args.table.now c.open_plan-net.ensures c.table_refusal-refused.ensures (given d)

returns : tie.Need-returns-then-asked-ne0
unfolding run_refusal
returns c =
    let d = c in
    let e = d.sequence_refusal-asked.ensures _ d.check-checked.ensures in
    runs-not _ _ _ _ _ _ _ (asked-refused _ _ _ _ e d.if-asked-ne0.true) d.if-asked-ne0.true c.refused_run.ensures

returns-2 : tie.Need-returns-then-refused-ne0
returns-2 c =
    let d = c.before in
    runs-not _ _ _ _ _ _ _ (number_is d.before) d.if-refused-ne0.true c.refused_run-then-refused-ne0.ensures

apply-requires : tie.Need-apply-done-requires
apply-requires c κs =
    let part = c.part-distances in
    let d = c.before.before.before in
    let o = opened-over d.open_plan-net.ensures part.ensures.bytes in
    let q = asked (guard d.before) in (
      o.formed,
      rw o.count q.some,
      rw o.count q.routers,
      table-asked _ _ (sym (d.table_refusal-refused.ensures part.result.now) ∙ d.if-refused-ne0.false),
    )

returns-3 : tie.Need-returns
returns-3 c =
    let e = c.before.before in
    let d = e.before.before.before.before in
    let o = opened-over d.open_plan-net.ensures e.part-distances.ensures.bytes in
    runs_so _ _ _ _ _ _ (sym (number_is d.before) ∙ d.if-refused-ne0.false) _ e.apply-done.result (rw o.same at e.apply-done.ensures) (refl, refl, refl, refl)

pub run_spec : {M : Type 1} → statement M
run_spec =
    tie.close
    (tie.spec
    (λ c κs. search rules)
    (λ c κs. search rules)
    (λ c κs. search rules)
    returns
    (λ c κs. let d = c.before in let q = asked d in (d.check-checked.ensures.accepted q.plan_ok, q.list, refl))
    (λ c κs. c.open_plan-net.ensures.formed.count)
    (λ c κs. search rules)
    (λ c. search rules)
    returns-2
    (λ c κs. let d = guard c.before in (d.check-checked.ensures.accepted (asked d).plan_ok, lit< tt))
    apply-requires
    (λ c. search rules)
    returns-3)
