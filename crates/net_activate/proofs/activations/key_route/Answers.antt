-- `net_activate::activations::key_route`: nothing, the egress's own route, or one from another sender.
use Rattle.std.proofs.Common.{◌∙◌, sym, arith}
use Rattle.net_activate.proofs.OnePass.{key-none, key-itself, key-other}
use Rattle.net_activate.proofs.activations.key_route.Goals as goal

pub returns-then-none-key : goal.returns-then-none-key
returns-then-none-key c N h = c.none.ensures ∙ sym (key-none N _ (omega (arith, c.if-none-key.true)))

pub returns-then-mark-eq0 : goal.returns-then-mark-eq0
returns-then-mark-eq0 c N h = sym (key-itself N _ (omega arith) c.if-mark-eq0.true)

pub returns : goal.returns
returns c N h = sym (key-other N _ (omega arith) c.if-mark-eq0.false)
