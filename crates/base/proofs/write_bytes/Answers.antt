-- `base::write_bytes`: the part from `at` on is the bytes.
use Rattle.std.proofs.Common.{◌∙◌, length, refl, arith}
use Rattle.std.proofs.lemmas.Slice.{put_mid-paste}
use lib.Seq.{take-length}
use Rattle.base.specs.Buffer.{written}
use Rattle.base.proofs.write_bytes.Goals as goal

pub returns : goal.returns
unfolding written
returns c =
    put_mid-paste _ _ _ _ c.args.bytes.now (length c.args.bytes.now) c.copy_from_slice.ensures.after (omega arith) refl
    ∙ rw (take-length c.args.bytes.now)
