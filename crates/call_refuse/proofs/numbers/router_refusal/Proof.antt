use borrow.Author.Rules.{rules}
use Rattle.call_rules.specs.Refusals.{has_list, egress_list_refusal}
use Rattle.call_refuse.proofs.numbers.router_refusal.Statement.{statement}
use Rattle.call_refuse.proofs.numbers.router_refusal.Tie as tie

returns : tie.Need-returns
unfolding egress_list_refusal
returns c plan read =
    c.and_router.ensures plan (has_list plan c.args.list) read (c.list_refusal.ensures plan read)

pub router_refusal_spec : {M : Type 1} → statement M
router_refusal_spec = tie.close (tie.spec (λ c κs. search rules) (λ c κs. search rules) returns)
