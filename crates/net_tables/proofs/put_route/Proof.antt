use Prim.Native.Nat.{◌+◌, ◌*◌}
use native.Mathlib.Omega.{arith}
use mathlib.Core.Path.{sym, ap₂}
use borrow.Author.Rules.{rules}
use lib.ListN.{set, length-set}
use Rattle.net_tables.proofs.TableBytes.{read-bytes}
use Rattle.net_tables.proofs.put_route.Statement.{statement}
use Rattle.net_tables.proofs.put_route.Tie as tie

returns : tie.Need-returns
returns c =
    let a = c.args in
    let b = read-bytes a.route.egress a.route.sender in
    sym (ap₂ (λ e s. set (set a.table.now (2 * a.v) e) (2 * a.v + 1) s) b.0 b.1)

pub put_route_spec : {M : Type 1} → statement M
put_route_spec =
    tie.close
    (tie.spec
    (λ c. search rules)
    (λ c. search rules)
    (λ c. search rules)
    (λ c. search rules)
    (λ c. simp length-set (omega arith))
    (λ c. search rules)
    returns)
