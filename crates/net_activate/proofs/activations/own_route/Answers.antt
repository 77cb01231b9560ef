-- `net_activate::activations::own_route`: the route, if v is its egress, else none.
use Rattle.std.proofs.Common.{◌∙◌, sym}
use Rattle.net_activate.proofs.TwoPasses.{own_same, own-other}
use Rattle.net_activate.proofs.activations.own_route.Goals as goal

pub returns-then-wide-v : goal.returns-then-wide-v
returns-then-wide-v c = sym (own_same _ _ _ (sym c.wide.ensures.0 ∙ c.if-wide-v.true))

pub returns : goal.returns
returns c = c.none.ensures ∙ sym (own-other _ _ _ (λ h. c.if-wide-v.false (c.wide.ensures.0 ∙ h)))
