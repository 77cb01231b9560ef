use borrow.Author.Rules.{rules}
use Rattle.plan_rules.proofs.Passed.{passed, part-within}
use Rattle.plan_read.proofs.parts.part.Statement.{statement}
use Rattle.plan_read.proofs.parts.part.Tie as tie

pub part_spec : {M : Type 1} → statement M
part_spec =
    tie.close
    (tie.spec
    (λ c. search rules)
    (λ c. search rules)
    (λ c κs. let d = c in rw d.requires.0.contents (part-within _ (passed _ d.requires.0.ok) _ d.requires.1))
    (λ c. rw c.requires.0.contents at c.body_of.ensures))
