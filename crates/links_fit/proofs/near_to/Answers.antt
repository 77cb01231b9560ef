use Rattle.std.proofs.Common.{refl, sym, ◌∙◌}
use Rattle.base.proofs.Marked.{marked-none, marked_more}
use Rattle.links_fit.specs.Near.{near}
use Rattle.links_fit.proofs.near_to.Goals as goal

pub loop-u-init : goal.loop-u-init
loop-u-init c = sym (marked-none _)

pub loop-u-preserved : goal.loop-u-preserved
loop-u-preserved c =
    c.with_bit_if-found.ensures ∙ marked_more (λ v. near c.args.words.now v c.args.e) c.loop-u.u _ _ refl c.loop-u.invariant
