use Prim.Native.Nat.{◌+◌, ◌*◌, ◌≤◌}
use native.Mathlib.Omega.{arith}
use mathlib.Core.Path.{◌≡◌, refl, ◌∙◌}
use borrow.Author.Rules.{rules}
use lib.ListN.{length}
use Rattle.base.proofs.Numbers.{square_le}
use Rattle.plan_contents.specs.Header.{width, router_count}
use Rattle.plan_rules.specs.Converted.{converted}
use Rattle.plan_rules.proofs.Passed.{passed}
use Rattle.plan_convert.proofs.Result.{size-most, longer-by}
use Rattle.plan_convert.proofs.converted_length.Statement.{statement}
use Rattle.plan_convert.proofs.converted_length.Tie as tie

abbrev start : tie.After-wide-n → tie.Start
start c = c.before.before

-- n and the width are the plan's
routers : (c : tie.After-wide-n) → c.wide-n.result ≡ router_count (start c).args.plan.now
routers c = c.wide-n.ensures.0 ∙ (start c).requires.0.routers

bytes : (c : tie.After-wide) → c.wide.result ≡ width (start c.before).args.plan.now
bytes c = c.wide.ensures.0 ∙ (start c.before).requires.0.bytes

small : (c : tie.After-wide-n) → let n = c.wide-n.result in (start c).args.to * (n * n) ≤ 16384
small c = let s = start c in size-most _ s.args.plan.now s.requires.1 (passed _ s.requires.0.ok) refl (routers c)

lengths : (c : tie.After-wide) →
    let a = (start c.before).args in
    let square = c.wide-n.result * c.wide-n.result in
    length (converted a.to a.plan.now) + c.wide.result * square ≡ length a.plan.now + a.to * square
lengths c =
    let s = start c.before in
    longer-by _ s.args.plan.now s.requires.1 (passed _ s.requires.0.ok) (bytes c) (routers c.before)

pub converted_length_spec : {M : Type 1} → statement M
converted_length_spec =
    tie.close
    (tie.spec
    (λ c κs. search rules)
    (λ c. omega (arith, square_le c.wide-n.result 255 (omega (arith, c.wide-n.ensures.1))))
    (λ c. omega (arith, small c))
    (λ c. omega (arith, small c))
    (λ c κs. search rules)
    (λ c. omega (arith, lengths c, small c.before))
    (λ c. omega (arith, lengths c))
    (λ c. omega (arith, lengths c)))
