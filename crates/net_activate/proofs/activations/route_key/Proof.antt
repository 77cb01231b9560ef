use Prim.Native.Nat.{◌+◌, ◌*◌}
use native.Mathlib.Omega.{arith}
use mathlib.Core.Path.{◌∙◌, sym, ap₂}
use borrow.Author.Rules.{rules}
use Rattle.net_activate.proofs.OnePass.{mark-below, key-is}
use Rattle.net_activate.proofs.activations.route_key.Statement.{statement}
use Rattle.net_activate.proofs.activations.route_key.Tie as tie

add-result-2 : tie.Need-overflow_add-result-2
add-result-2 c = let a = c.args in omega (arith, c.sender_mark.ensures, mark-below a.egress a.sender (omega (arith, c.requires)))

returns : tie.Need-returns
returns c =
    let e = c.args.egress in
    ap₂ (λ d m. d * 65536 + e * 256 + m) c.number-number.ensures.0 c.sender_mark.ensures ∙ sym (key-is _ _ _)

pub route_key_spec : {M : Type 1} → statement M
route_key_spec =
    tie.close
    (tie.spec
    (λ c κs. search rules)
    (λ c. search rules)
    (λ c. search rules)
    (λ c. search rules)
    (λ c κs. search rules)
    add-result-2
    returns)
