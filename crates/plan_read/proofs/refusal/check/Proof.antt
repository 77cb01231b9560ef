use native.Mathlib.Omega.{arith}
use mathlib.Core.Path.{◌≡◌, refl, ◌∙◌, sym, ap}
use borrow.Author.Rules.{rules}
use lib.Dec.{lit<}
use lib.ListN.{length, get_or}
use Rattle.plan_contents.specs.Contents.{body, lists_entry, lists_body}
use Rattle.plan_rules.specs.Refusal.{plan_refusal}
use Rattle.plan_rules.proofs.Passed.{passed, part-within}
use Rattle.plan_read.proofs.refusal.check.Statement.{statement}
use Rattle.plan_read.proofs.refusal.check.Tie as tie

-- nothing is refused
ok : (c : tie.Else-number-ne0) → plan_refusal c.args.plan.now ≡ 0
ok c = sym c.refusal-number.ensures ∙ c.if-number-ne0.false

-- the part read is the plan's lists
lists-are : (c : tie.After-body_of-lists) → c.body_of-lists.result.now ≡ lists_body c.args.plan.now
lists-are c =
    c.body_of-lists.ensures.bytes
    ∙ ap (λ t. body c.args.plan.now (lists_entry t)) c.read_contents-table.ensures

returns : tie.Need-returns-then-number-ne0
returns c =
    let number = c.refusal-number.ensures in
    record { number = c.refused.ensures ∙ number; accepted = λ z. absurd (c.if-number-ne0.true (number ∙ z)) }

returns-2 : tie.Need-returns
returns-2 c =
    let d = c.before.before.before.before in
    let z = ok d.before.before.before in
    record {
      number = sym z;
      accepted =
          λ h. record {
            ok = z;
            routers = refl;
            lists = ap (λ s. get_or s 0 0) (lists-are d);
            bytes = c.width_of.ensures;
            contents = d.read_contents-table.ensures;
          };
    }

pub check_spec : {M : Type 1} → statement M
check_spec =
    tie.close
    (tie.spec
    (λ c κs. search rules)
    (λ c κs. search rules)
    returns
    (λ c κs. (passed _ (ok c)).header.least)
    (λ c. search rules)
    (λ c κs. rw c.read_contents-table.ensures (part-within _ (passed _ (ok c.before.before)) 3 (lit< tt)))
    (λ c. omega (arith, (passed _ (ok c.before.before.before.before)).header.least))
    (λ c. let d = c.before.before in omega (arith, (passed _ (ok d.before.before.before)).lists.held, ap length (lists-are d)))
    (λ c. omega (arith, (passed _ (ok c.before.before.before.before.before.before)).header.least))
    (λ c κs. search rules)
    returns-2)
