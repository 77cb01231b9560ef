-- `graph_cycle::follow`: a step more a turn, until the walk is at a router of its path.
use Rattle.std.proofs.Common.{◌∙◌, sym, ap, refl, arith}
use Rattle.graph_cycle.specs.Cycle.{walk, next}
use Rattle.graph_cycle.proofs.Following.{trail-next, follows-start, follows-room, follows-below, follows-more, follows-done}
use Rattle.graph_cycle.proofs.follow.Goals as goal

pub first_grouped-w-requires : goal.first_grouped-w-requires
first_grouped-w-requires c = (c.requires.small, c.requires.loops)

pub loop-met-init : goal.loop-met-init
unfolding walk
loop-met-init c = follows-start _ _ _ _ c.requires.small c.requires.stays c.requires.long c.first_grouped-w.ensures

pub overflow_cast-path : goal.overflow_cast-path
overflow_cast-path c = omega (arith, follows-below _ _ _ _ _ _ c.loop-met.invariant, c.loop-met.invariant.small)

pub bounds-path-k : goal.bounds-path-k
bounds-path-k c = omega (arith, follows-room _ _ _ _ _ _ c.loop-met.invariant refl, c.loop-met.invariant.small)

pub next_router-w-requires : goal.next_router-w-requires
next_router-w-requires c = (c.loop-met.invariant.small, follows-below _ _ _ _ _ _ c.loop-met.invariant, c.requires.within)

pub overflow_add-k : goal.overflow_add-k
overflow_add-k c = omega (arith, follows-room _ _ _ _ _ _ c.loop-met.invariant refl, c.loop-met.invariant.small)

pub place-requires : goal.place-requires
place-requires c = omega (arith, follows-room _ _ _ _ _ _ c.loop-met.invariant refl, c.loop-met.invariant.small)

pub loop-met-smaller : goal.loop-met-smaller
loop-met-smaller c = omega (arith, follows-room _ _ _ _ _ _ c.loop-met.invariant refl)

pub loop-met-preserved : goal.loop-met-preserved
loop-met-preserved c =
    follows-more _ _ _ _ _ _ _ _ c.loop-met.invariant refl
    (c.next_router-w.ensures ∙ ap (next _ _ _) c.loop-met.invariant.here ∙ sym (trail-next _ _ _ _))
    c.in_default.ensures

pub returns-in-Some : goal.returns-in-Some
returns-in-Some c =
    follows-done _ _ _ _ _ _
    (follows-more _ _ _ _ _ _ _ _ c.loop-met.invariant refl
    (c.next_router-w.ensures ∙ ap (next _ _ _) c.loop-met.invariant.here ∙ sym (trail-next _ _ _ _))
    c.in-Some.ensures.1)
    (λ e. omega (arith, c.in-Some.ensures.0))
