-- `call_figures::figures::figures`: what is counted are the plan's own lists, into counts that were set to 0.
use Prim.Native.Nat.{ℕ}
use native.Mathlib.Omega.{arith}
use mathlib.Core.Path.{◌≡◌, ◌∙◌, sym}
use mathlib.Core.List.{◌++◌}
use borrow.Author.Rules.{rules}
use lib.ListN.{drop}
use Rattle.base.specs.Tab.{tab}
use Rattle.plan_contents.specs.Header.{router_count}
use Rattle.plan_read.specs.Checked.{Accepted}
use Rattle.call_rules.specs.Refusals.{figures_refusal}
use Rattle.call_rules.proofs.Granted.{FiguresAsked, figures-asked}
use Rattle.call_figures.proofs.Reporting.{cleared, figures-refused, figures-given}
use Rattle.call_figures.proofs.figures.figures.Statement.{statement}
use Rattle.call_figures.proofs.figures.figures.Tie as tie

-- where the plan was checked and where the call starts, from the refusal
abbrev read : tie.After-figures_refusal-refused → tie.After-check-checked
read c = c.before

abbrev entry : tie.Else-refused-ne0 → tie.Start
entry c = (read c.before).before.before.before.before

-- nothing is refused
module _ (c : tie.Else-refused-ne0) where
  given : let a = (entry c).args in figures_refusal a.plan.now a.ranks.now a.routers.now ≡ 0
  given = sym (c.figures_refusal-refused.ensures _ (read c.before).check-checked.ensures) ∙ c.if-refused-ne0.false

  asked : let a = (entry c).args in FiguresAsked a.plan.now a.ranks.now a.routers.now
  asked = figures-asked _ _ _ given

  accepted : Accepted (entry c).args.plan.now (read c.before).check-checked.result
  accepted = (read c.before).check-checked.ensures.accepted asked.plan_ok

-- both buffers are set to 0
module _ (c : tie.After-clear-2) where
  abbrev passed : tie.Else-refused-ne0
  passed = c.before.before.before.before.before.before.before

  abbrev first : tie.After-clear
  first = c.before.before.before.before

  abbrev n : ℕ
  n = router_count (entry passed).args.plan.now

  zero-ranks : first.clear.new.counts ≡ tab (λ i. 0) n ++ drop n (entry passed).args.ranks.now
  zero-ranks = rw (sym (accepted passed).routers) first.clear.ensures

  zero-routers : c.clear-2.new.counts ≡ tab (λ i. 0) n ++ drop n (entry passed).args.routers.now
  zero-routers = rw (sym (accepted passed).routers) c.clear-2.ensures

clear-requires : tie.Need-clear-requires
clear-requires c κs = let e = c.before.before in omega (arith, (asked e).ranks_long, (accepted e).routers)

clear-requires-2 : tie.Need-clear-requires-2
clear-requires-2 c κs = let e = c.before.before.before.before.before.before in omega (arith, (asked e).routers_long, (accepted e).routers)

count-lists-requires : tie.Need-count_lists-requires
count-lists-requires c κs =
    let d = c.before.before.before.before in
    let q = asked (passed d) in (
      accepted (passed d),
      cleared _ _ _ q.ranks_long (first d).clear.auto.counts (zero-ranks d),
      cleared _ _ _ q.routers_long d.clear-2.auto.counts (zero-routers d),
    )

returns-2 : tie.Need-returns
returns-2 c =
    let k = c in
    let d = c.before.before.before.before.before.before.before.before.before in
    figures-given _ _ _ _ _ _ (given (passed d)) (zero-ranks d) (zero-routers d) k.count_lists.ensures

pub figures_spec : {M : Type 1} → statement M
figures_spec =
    tie.close
    (tie.spec
    (λ c κs. search rules)
    (λ c κs. search rules)
    (λ c. search rules)
    (λ c. search rules)
    (λ c. figures-refused _ _ _ _ (c.figures_refusal-refused.ensures _ (read c.before).check-checked.ensures) c.if-refused-ne0.true)
    (λ c. search rules)
    clear-requires
    clear-requires-2
    count-lists-requires
    (λ c. search rules)
    (λ c. search rules)
    returns-2)
