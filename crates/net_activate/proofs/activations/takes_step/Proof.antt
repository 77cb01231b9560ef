use mathlib.Core.Path.{◌∙◌}
use borrow.Author.Rules.{rules}
use Rattle.base.proofs.SetBits.{set-and}
use Rattle.route_rules.specs.Preference.{has_step}
use Rattle.net_activate.proofs.activations.takes_step.Statement.{statement}
use Rattle.net_activate.proofs.activations.takes_step.Tie as tie

returns : tie.Need-returns
unfolding has_step
returns c rows distances =
    let a = c.args in
    c.has_bit.ensures ∙ set-and a.net.reflectors a.net.hop a.w

pub takes_step_spec : {M : Type 1} → statement M
takes_step_spec = tie.close (tie.spec (λ c κs. search rules) returns)
