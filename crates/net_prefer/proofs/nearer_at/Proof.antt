-- The numbers read stand for the instance's distances.
use borrow.Author.Rules.{rules}
use Rattle.net_prefer.proofs.Measured.{numbers-ordered}
use Rattle.net_prefer.proofs.nearer_at.Statement.{statement}
use Rattle.net_prefer.proofs.nearer_at.Tie as tie

returns : tie.Need-returns
returns c I q =
    let first = c.number-first.ensures in
    let second = c.number-second.ensures in
    c.nearer.ensures I _
    (numbers-ordered q c.requires.3.bytes _ _ _ _ _ first.0 first.1 second.0 second.1)

pub nearer_at_spec : {M : Type 1} → statement M
nearer_at_spec = tie.close (tie.spec (λ c κs. search rules) (λ c κs. search rules) (λ c κs. search rules) returns)
