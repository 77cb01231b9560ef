use Prim.Native.Nat.{ℕ, ◌<◌}
use native.Mathlib.Omega.{arith}
use mathlib.Core.Path.{◌≡◌, refl, ◌∙◌, sym}
use mathlib.Core.List.{List}
use borrow.Author.Rules.{rules}
use lib.Dec.{lit<}
use Rattle.net_rules.specs.declared.Network.{Network}
use Rattle.net_rules.specs.Decoded.{decoded}
use Rattle.net_rules.specs.Opened.{Opened}
use Rattle.net_rules.proofs.Opened.{opened-over}
use Rattle.net_tables.specs.TableBytes.{TableIn, activate_bytes}
use Rattle.call_rules.specs.Refusals.{router_refusal, activate_refusal}
use Rattle.call_rules.proofs.Granted.{asked-refused, table-number, RouterAsked, router-asked, table-asked}
use Rattle.call_run.specs.Activate.{Activates}
use Rattle.call_run.proofs.OneActivation.{activates-not, activates-so}
use Rattle.call_run.proofs.activate.activate.Statement.{statement}
use Rattle.call_run.proofs.activate.activate.Tie as tie

-- where the first guard is, from after the second call
abbrev guard : tie.After-table_refusal-refused → tie.Else-asked-ne0
guard c = c.before.before.before.before

abbrev entry : tie.Else-asked-ne0 → tie.Start
entry c = c.before.before.before.before.before

-- the plan, the list and the router pass
given : (c : tie.Else-asked-ne0) → let a = (entry c).args in router_refusal a.plan.now a.list a.router ≡ 0
given c = sym (c.router_refusal-asked.ensures _ c.check-checked.ensures) ∙ c.if-asked-ne0.false

asked : (c : tie.Else-asked-ne0) → let a = (entry c).args in RouterAsked a.plan.now a.list a.router
asked c = let a = (entry c).args in router-asked a.plan.now a.list a.router (given c)

-- the number found is the call's
number_is : (c : tie.After-table_refusal-refused) → let a = (entry (guard c)).args in
    c.table_refusal-refused.result ≡ activate_refusal a.plan.now a.list a.router a.table.now
unfolding activate_refusal
number_is c =
    let d = guard c in
    table-number _ (entry d).args.table.now c.open_plan-net.ensures c.table_refusal-refused.ensures (given d)

returns : tie.Need-returns-then-asked-ne0
unfolding activate_refusal
returns c =
    let e = c.router_refusal-asked.ensures _ c.check-checked.ensures in
    activates-not _ _ _ _ _ (asked-refused _ _ _ _ e c.if-asked-ne0.true) c.if-asked-ne0.true

-- the call passes: the network read has the distances of the plan's own part
module _ (c : tie.After-part-distances) where
  abbrev allowed : tie.Else-refused-ne0
  allowed = c.before

  abbrev call : tie.Start
  call = entry (guard allowed.before)

  abbrev opening : tie.After-open_plan-net
  opening = allowed.before.before.before

  abbrev net : Network
  net = opening.open_plan-net.result

  abbrev rows : List ℕ
  rows = opening.open_plan-net.new.rows

  found : Opened call.args.plan.now call.args.list net rows c.part-distances.result.now
  found = opened-over opening.open_plan-net.ensures c.part-distances.ensures.bytes

  below : call.args.router < net.n
  below = omega (arith, found.count, (asked (guard allowed.before)).router)

  obeys : TableIn (decoded net rows c.part-distances.result.now) call.args.table.now
  obeys = table-asked _ _ (sym (allowed.table_refusal-refused.ensures c.part-distances.result.now) ∙ allowed.if-refused-ne0.false)

  done : (after : List ℕ) → after ≡ activate_bytes (decoded net rows c.part-distances.result.now) call.args.router call.args.table.now
      → Activates call.args.plan.now call.args.list call.args.router call.args.table.now 0 after
  done after e = activates-so _ _ _ _ (sym (number_is allowed.before) ∙ allowed.if-refused-ne0.false) after (rw found.same at e)

pub activate_spec : {M : Type 1} → statement M
activate_spec =
    tie.close
    (tie.spec
    (λ c κs. search rules)
    (λ c κs. search rules)
    returns
    (λ c κs. let d = c.before in let q = asked d in (d.check-checked.ensures.accepted q.plan_ok, q.list, refl))
    (λ c κs. c.open_plan-net.ensures.formed.count)
    (λ c. search rules)
    (λ c. activates-not _ _ _ _ _ (number_is c.before) c.if-refused-ne0.true)
    (λ c κs. let d = guard c.before in (d.check-checked.ensures.accepted (asked d).plan_ok, lit< tt))
    (λ c κs. omega (arith, below c, (found c).formed.count))
    (λ c κs. let p = c.before.before.before.before in ((found p).formed, below p, obeys p))
    (λ c. search rules)
    (λ c. let act = c.before.before in done act.before.before.before.before.before _ act.activate.ensures)
    (λ c κs. let s = c.before.before.before in let p = s.before in ((found p).formed, below p, obeys p, sym (s.takes_step.ensures (rows p) p.part-distances.result.now) ∙ c.if-takes_step.false))
    (λ c. search rules)
    (λ c. let act = c.before.before in done act.before.before.before.before.before _ act.activate_in_one_pass.ensures))
