-- `net_everylist::walking::named`: a step more names a client more.
use Rattle.std.proofs.Common.{◌+◌, ◌≡◌, ◌∙◌, sym, ap, arith}
use Rattle.base.specs.Below.{any_below}
use Rattle.base.proofs.Below.{any_none}
use Rattle.base.proofs.SetBits.{bit-none}
use Rattle.route_rules.specs.Instance.{is_router}
use Rattle.everylist_rules.specs.Pairs.{nearest_foreign, walk}
use Rattle.net_everylist.proofs.Stepping.{walk-next, named_more}
use Rattle.net_everylist.proofs.walking.named.Goals as goal

pub loop-i-init : goal.loop-i-init
loop-i-init c = record {
  small = c.requires.0;
  named = λ I k s y e.
      let z : k + 0 ≡ k = omega arith in
      record { at = e ∙ sym (ap (walk I) z); clients = λ e. bit-none e ∙ sym (any_none (λ j. is_router e (nearest_foreign I (walk I (k + j))))) };
}

pub with_bit-word-requires : goal.with_bit-word-requires
with_bit-word-requires c = omega (arith, c.wide.ensures.0, c.requires.1 c.loop-i.w)

pub loop-i-preserved : goal.loop-i-preserved
loop-i-preserved c = record {
  small = omega (arith, c.wide-w.ensures.0, c.requires.2 c.loop-i.w);
  named = λ I k s y e.
      let so_far = c.loop-i.invariant.named I k s y e in
      record {
        at = c.wide-w.ensures.0 ∙ walk-next I _ _ s y _ k c.loop-i._i so_far.at;
        clients =
            rw (c.with_bit-word.ensures, c.wide.ensures.0)
            (named_more I _ _ s y _ _ k c.loop-i._i so_far.at so_far.clients);
      };
}

pub returns : goal.returns
returns c I k s y at e =
    let z : c.loop-i._i ≡ c.args.count = omega arith in
    (c.loop-i.invariant.named I k s y at).clients e ∙ ap (any_below (λ j. is_router e (nearest_foreign I (walk I (k + j))))) z
