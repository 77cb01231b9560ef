-- `plan_read::lists::list_place`: each count byte on the way lies within the body.
use Rattle.std.proofs.Common.{arith, ◌≡◌, ◌+◌, ◌<◌, ◌∙◌, sym, ap, length, get_or}
use Rattle.plan_rules.specs.Lists.{list_place}
use Rattle.plan_rules.proofs.ListWalk.{place-start, place-next}
use Rattle.plan_read.proofs.lists.list_place.Goals as goal

pub loop-init : goal.loop-init
loop-init c = (omega arith, sym (place-start _))

pub overflow_add-place : goal.overflow_add-place
overflow_add-place c =
    let within : c.loop.place < length c.args.s.now = rw c.loop.invariant.1 (c.requires c.loop.counter c.loop.invariant.0) in omega arith

pub bounds-s-place : goal.bounds-s-place
bounds-s-place c = rw c.loop.invariant.1 (c.requires c.loop.counter c.loop.invariant.0)

pub overflow_add-place-in-loop : goal.overflow_add-place-in-loop
overflow_add-place-in-loop c =
    let within : c.loop.place < length c.args.s.now = rw c.loop.invariant.1 (c.requires c.loop.counter c.loop.invariant.0) in
    omega (arith, c.wide.ensures)

pub loop-preserved : goal.loop-preserved
loop-preserved c =
    let s = c.args.s.now in (
      omega arith,
      ap (◌+◌ (c.loop.place + 1)) c.wide.ensures.0
          ∙ ap (λ q. q + 1 + get_or s q 0) c.loop.invariant.1
          ∙ sym (place-next s c.loop.counter),
    )

pub returns : goal.returns
returns c = c.loop.invariant.1 ∙ ap (list_place _) (omega arith)
