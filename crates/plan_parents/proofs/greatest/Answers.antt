-- One count more.
use Rattle.std.proofs.Common.{◌≡◌, ℕ, ◌∙◌, max, get_or, arith, sym, ap}
use Rattle.std.specs.Ordering.{ord_max, nat_cmp}
use Rattle.std.proofs.lemmas.Grind.{common_steps}
use Rattle.base.proofs.Seek.{highest-none, highest-more}
use Rattle.plan_parents.proofs.greatest.Goals as goal

-- what `Ord::max` gives
larger : (a b : ℕ) → ord_max nat_cmp a b ≡ max a b
larger a b = grind (arith, common_steps)

pub loop-count-init : goal.loop-count-init
loop-count-init c = sym (highest-none _)

pub loop-count-preserved : goal.loop-count-preserved
loop-count-preserved c =
    c.max-most.ensures
    ∙ larger _ _
    ∙ ap (λ m. max m (get_or c.args.counts.now c.loop-count.count-index 0)) c.loop-count.invariant
    ∙ sym (highest-more _ _)
