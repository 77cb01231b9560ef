-- The low four bytes of a number are those of its rest by 4,294,967,296.
use Rattle.std.proofs.Common.{◌≡◌, ℕ, ◌%◌, [], ◌∷◌, ◌∙◌, ap, ap₂, arith}
use Rattle.std.specs.Int.{w32, to_le_bytes}
use Rattle.base.specs.Buffer.{written}
use Rattle.base.specs.Bytes.{bytes_of}
use Rattle.plan_convert.proofs.distances.write4.Goals as goal

low-four : (n x : ℕ) → x ≡ n % 4294967296 → to_le_bytes w32 x ≡ bytes_of 4 n
low-four n x e =
    ap₂ ◌∷◌ (omega arith) (ap₂ ◌∷◌ (omega arith) (ap₂ (λ a b. a ∷ b ∷ []) (omega arith) (omega arith)))

pub returns : goal.returns
returns c = c.write_bytes.ensures ∙ ap (written c.args.out.now c.args.at) (c.to_le_bytes.ensures ∙ low-four c.args.distance _ (omega arith))
