use Prim.Native.Nat.{ℕ}
use mathlib.Core.Path.{◌≡◌, ◌∙◌, sym, ap}
use mathlib.Core.Bool.{not, ◌&&◌}
use borrow.Author.Rules.{rules}
use borrow.Author.Tests.{eq-eqb}
use lib.Bits.{bit_and}
use lib.Dec.{eqb}
use lib.ListN.{get_or}
use Rattle.base.specs.Bits.{bit_n, bits}
use Rattle.base.proofs.Numbers.{both_left}
use Rattle.base.proofs.SetBits.{set-and, set-less}
use Rattle.plan_rules.specs.Distances.{way_in}
use Rattle.route_rules.specs.Reliance.{listed_client_of}
use Rattle.net_offers.proofs.listed_clients.Statement.{statement}
use Rattle.net_offers.proofs.listed_clients.Tie as tie

-- the bits of the word
word : (c : tie.After-without) (e : ℕ) → let a = c.args in
    eqb (bit_n c.without.result e) 1
    ≡ (eqb (bits a.rows.now a.v e) 1 && eqb (bit_n a.net.listed e) 1 && not (eqb (bit_n a.net.reflectors e) 1))
word c e =
    let a = c.args in
    let near = get_or a.rows.now a.v 0 in
    set-less (bit_and near a.net.listed) a.net.reflectors e _ (c.without.ensures e)
    ∙ ap (λ b. b && not (eqb (bit_n a.net.reflectors e) 1)) (set-and near a.net.listed e)

returns : tie.Need-returns
unfolding listed_client_of
returns c distances =
    let a = c.args in
    record {
      marks = λ e. ap (λ b. b && way_in a.net.width distances a.net.n a.v e) (sym (word c e));
      near = λ e set. both_left _ _ (both_left _ _ (sym (word c e) ∙ eq-eqb _ 1 set));
    }

pub listed_clients_spec : {M : Type 1} → statement M
listed_clients_spec = tie.close (tie.spec (λ c. search rules) (λ c. search rules) (λ c κs. search rules) returns)
