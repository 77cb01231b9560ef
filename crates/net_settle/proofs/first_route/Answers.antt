-- `net_settle::first_route`: a listed router's own route, and none for any other.
use Rattle.std.proofs.Common.{ℕ, ◌≡◌, ◌∙◌, sym, arith, tests}
use Rattle.route_rules.specs.Instance.{nothing}
use Rattle.net_tables.specs.TableBytes.{read_route}
use Rattle.net_rules.specs.Decoded.{decoded}
use Rattle.net_settle.proofs.ByRank.{first-listed, first-unlisted}
use Rattle.net_settle.proofs.first_route.Goals as goal

-- nothing is twice 255
marks : (e s : ℕ) → read_route e s ≡ nothing → (e ≡ 255) × (s ≡ 255)
unfolding read_route
marks e s h = (grind (arith, tests), grind (arith, tests))

marked : (e s : ℕ) → e ≡ 255 → s ≡ 255 → read_route e s ≡ nothing
unfolding read_route
marked e s h k = rw (h, k)

pub returns-then-has_bit : goal.returns-then-has_bit
returns-then-has_bit c rows distances =
    c.own.ensures ∙ sym (first-listed (decoded c.args.net rows distances) c.args.v (sym c.has_bit.ensures ∙ c.if-has_bit.true))

pub returns : goal.returns
returns c rows distances =
    let m = marks _ _ c.none.ensures in
    marked _ _ (omega (arith, m.0)) (omega (arith, m.1)) ∙ sym (first-unlisted (decoded c.args.net rows distances) c.args.v (sym c.has_bit.ensures ∙ c.if-has_bit.false))
