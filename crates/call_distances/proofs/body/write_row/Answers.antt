use Rattle.std.proofs.Common.{refl, ◌∙◌, arith}
use Rattle.std.proofs.lemmas.Slice.{put_mid-paste}
use Rattle.plan_rules.specs.Distances.{row_of}
use Rattle.base.proofs.Joined.{join-start, join_more, join-done}
use Rattle.call_distances.proofs.body.write_row.Goals as goal

pub loop-e-init : goal.loop-e-init
loop-e-init c = join-start _ 2 (λ e. refl) _ _ _ c.requires.3

pub loop-e-preserved : goal.loop-e-preserved
loop-e-preserved c =
    join_more _ 2 (λ e. refl) _ _ _ _ _ c.loop-e.invariant _ c.loop-e-test.true
    (put_mid-paste _ _ _ _ _ 2 (c.copy_from_slice.ensures.after ∙ c.to_le_bytes.ensures) (omega arith) refl)

pub returns : goal.returns
unfolding row_of
returns c = join-done _ 2 (λ e. refl) _ _ _ _ _ c.loop-e.invariant c.loop-e-test.false
