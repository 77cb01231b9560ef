use mathlib.Core.Bool.{◌&&◌}
use borrow.Author.Rules.{rules}
use Rattle.call_rules.specs.Refusals.{has_list, has_router, relies_refusal}
use Rattle.call_refuse.proofs.numbers.relies_refusal.Statement.{statement}
use Rattle.call_refuse.proofs.numbers.relies_refusal.Tie as tie

returns : tie.Need-returns
unfolding relies_refusal
returns c plan read =
    let a = c.args in
    c.and_router.ensures plan (has_list plan a.list && has_router plan a.router) read (c.router_refusal.ensures plan read)

pub relies_refusal_spec : {M : Type 1} → statement M
relies_refusal_spec = tie.close (tie.spec (λ c κs. search rules) (λ c κs. search rules) returns)
