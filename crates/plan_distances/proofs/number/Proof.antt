use native.Mathlib.Omega.{arith}
use borrow.Author.Rules.{rules}
use Rattle.plan_distances.proofs.Within.{Within, within}
use Rattle.plan_distances.proofs.number.Statement.{statement}
use Rattle.plan_distances.proofs.number.Tie as tie

start : (c : tie.After-shared_slice_known-1) → let a = c.args in Within a.s.now a.width a.n a.u a.e
start c = let p = c.requires in within _ _ _ _ _ p.0 p.1 p.2

pub number_spec : {M : Type 1} → statement M
number_spec =
    tie.close
    (tie.spec
    (λ c. omega (arith, (start c).0))
    (λ c. omega (arith, (start c).0))
    (λ c κs. (c.requires.2.bytes, (start c).1))
    (λ c. search rules))
