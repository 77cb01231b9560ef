-- `net_offers::best_clients`: one reflector more has its best client, and at the end all have.
use Rattle.std.proofs.Common.{◌∙◌, ap, arith, get_or-set_same, get_or-set_other, below_more}
use Rattle.std.proofs.Math.ListN.{length-set}
use Rattle.net_rules.specs.RouterBytes.{as_router}
use Rattle.net_offers.proofs.best_clients.Goals as goal

pub loop-v-preserved : goal.loop-v-preserved
loop-v-preserved c =
    let l = c.loop-v in
    record {
      size = length-set l.best _ _ ∙ l.invariant.size;
      below =
          below_more _ l.v
          (λ k h r. ap as_router (get_or-set_other l.best l.v k _ 0 (omega arith)) ∙ l.invariant.below k h r)
          (λ r. ap as_router (get_or-set_same l.best l.v _ 0 (omega (arith, l.invariant.size))) ∙ c.own_client.ensures r);
    }

pub returns : goal.returns
returns c v h = c.loop-v.invariant.below v (omega arith)
