-- Both numbers and their difference are far below 2 to the power of 63.
use Prim.Native.Nat.{ℕ, ◌^◌, ◌≤◌, ◌<◌}
use native.Mathlib.Omega.{arith}
use mathlib.Core.Path.{◌≡◌, ◌∙◌}
use borrow.Author.Rules.{rules}
use lib.Dec.{lit<}
use lib.IntN.{ℤ, pos, negsuc, nat_abs}
use mir.Syntax.{w64}
use mir.Val.{SFits, to_z, hbits}
use mir.ValLaws.{to_z_pos, to_z-of_z}
use Rattle.base.proofs.Differences.{difference-within}
use Rattle.net_prefer.proofs.difference.Statement.{statement}
use Rattle.net_prefer.proofs.difference.Tie as tie

far-below : 4294967296 < 2 ^ hbits w64
far-below = lit< tt

fits : (z : ℤ) → nat_abs z ≤ 4294967295 → SFits w64 z
fits (pos n) h = record { sfits = omega (arith, far-below) }
fits (negsuc n) h = record { sfits = omega (arith, far-below) }

as-it-is : (x : ℕ) → x < 4294967296 → to_z w64 x ≡ pos x
as-it-is x h = to_z_pos w64 x (omega (arith, far-below))

sub-result : tie.Need-overflow_sub-result
sub-result c =
    let a = c.args in
    rw (as-it-is a.first c.requires.0, as-it-is a.second c.requires.1)
    (fits _ (difference-within 4294967295 a.first a.second (omega (arith, c.requires.0)) (omega (arith, c.requires.1))))

returns : tie.Need-returns
returns c =
    let a = c.args in
    to_z-of_z w64 _ (sub-result c) ∙ rw (as-it-is a.first c.requires.0, as-it-is a.second c.requires.1)

pub difference_spec : {M : Type 1} → statement M
difference_spec = tie.close (tie.spec (λ c. search rules) (λ c. search rules) sub-result returns)
