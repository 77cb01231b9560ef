use Prim.Native.Nat.{◌+◌, ◌*◌, ◌<◌}
use native.Mathlib.Omega.{arith}
use borrow.Author.Rules.{rules}
use Rattle.base.proofs.Numbers.{square_le}
use Rattle.plan_contents.specs.Contents.{distances_entry}
use Rattle.plan_convert.proofs.contents.result_contents.Statement.{statement}
use Rattle.plan_convert.proofs.contents.result_contents.Tie as tie

-- the place after the distances, by n as it is multiplied
small : (c : tie.After-wide-n) →
    let a = c.args in
    let n = c.wide-n.result in (distances_entry a.checked.table).offset + a.to * (n * n) < 65536
small c = rw c.wide-n.ensures.0 c.requires

pub result_contents_spec : {M : Type 1} → statement M
result_contents_spec =
    tie.close
    (tie.spec
    (λ c κs. search rules)
    (λ c. search rules)
    (λ c. search rules)
    (λ c. omega (arith, square_le c.wide-n.result 255 (omega (arith, c.wide-n.ensures.1))))
    (λ c. omega (arith, small c.before.before))
    (λ c. omega (arith, small c.before.before))
    (λ c. search rules)
    (λ c. search rules)
    (λ c. omega (arith, small c.before.before.before.before))
    (λ c. rw c.wide-n.ensures.0))
