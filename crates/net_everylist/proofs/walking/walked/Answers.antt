-- `net_everylist::walking::walked`: a step more, and at the end as many as were asked for.
use Rattle.std.proofs.Common.{◌+◌, ◌≡◌, ◌∙◌, sym, ap, arith}
use Rattle.everylist_rules.specs.Pairs.{walk}
use Rattle.net_everylist.proofs.Stepping.{walk-next}
use Rattle.net_everylist.proofs.walking.walked.Goals as goal

pub loop-i-init : goal.loop-i-init
loop-i-init c = record {
  small = c.requires.0;
  there = λ I clients k s y e. let z : k + 0 ≡ k = omega arith in e ∙ sym (ap (walk I) z);
}

pub loop-i-preserved : goal.loop-i-preserved
loop-i-preserved c =
    let so_far = c.loop-i.invariant in
    record {
      small = omega (arith, c.wide-w.ensures.0, c.requires.1 c.loop-i.w);
      there = λ I clients k s y e. c.wide-w.ensures.0 ∙ walk-next I clients _ s y _ k c.loop-i._i (so_far.there I clients k s y e);
    }

pub returns : goal.returns
returns c =
    let so_far = c.loop-i.invariant in
    record {
      small = so_far.small;
      there = λ I clients k s y e.
          let z : c.loop-i._i ≡ c.args.count = omega arith in
          so_far.there I clients k s y e ∙ ap (λ x. walk I (k + x)) z;
    }
