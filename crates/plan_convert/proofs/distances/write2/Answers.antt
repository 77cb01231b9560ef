-- The low two bytes of a number are those of its rest by 65,536.
use Rattle.std.proofs.Common.{◌≡◌, ℕ, ◌%◌, [], ◌∷◌, ◌∙◌, ap, ap₂, arith}
use Rattle.std.specs.Int.{w16, to_le_bytes}
use Rattle.base.specs.Buffer.{written}
use Rattle.base.specs.Bytes.{bytes_of}
use Rattle.plan_convert.proofs.distances.write2.Goals as goal

low-two : (n x : ℕ) → x ≡ n % 65536 → to_le_bytes w16 x ≡ bytes_of 2 n
low-two n x e = ap₂ (λ a b. a ∷ b ∷ []) (omega arith) (omega arith)

pub returns : goal.returns
returns c = c.write_bytes.ensures ∙ ap (written c.args.out.now c.args.at) (c.to_le_bytes.ensures ∙ low-two c.args.number _ (omega arith))
