-- What an act writes is its choice: of a listed router its own route, of any other the route of the key chosen.
use Prim.Native.Nat.{ℕ, ◌<◌}
use mathlib.Core.Path.{◌≡◌, ◌∙◌, sym, ap}
use mathlib.Core.Bool.{true, false}
use mathlib.Core.List.{List}
use borrow.Author.Tests.{eqb-true}
use lib.ListN.{get_or}
use Rattle.net_rules.specs.declared.Network.{Network}
use Rattle.net_rules.specs.Decoded.{decoded}
use Rattle.net_rules.specs.WellFormed.{WellFormed}
use Rattle.route_rules.specs.Instance.{Instance, via}
use Rattle.route_rules.proofs.Routes.{choose-listed}
use Rattle.net_tables.specs.TableBytes.{RoutesIn, TableIn, route_at, put_route, activate_bytes}
use Rattle.net_tables.proofs.TableBytes.{table_below}
use Rattle.net_activate.specs.OnePass.{Numbers, numbers_of, chosen_key, key_route}
use Rattle.net_activate.proofs.Numbers.{numbers-from}
use Rattle.net_activate.proofs.TwoPasses.{chosen-choice}

module _ (net : Network) (rows distances : List ℕ) (w : ℕ) (table : List ℕ) where
  abbrev I : Instance
  I = decoded net rows distances

  abbrev N : Numbers
  N = numbers_of net distances w

  pub own-act : I.listed w ≡ true → put_route table w (via w w) ≡ activate_bytes I w table
  unfolding activate_bytes
  own-act h = ap (put_route table w) (sym (choose-listed I _ _ h))

  module _ (formed : WellFormed net rows distances) (obeys : TableIn I table) where
    -- every entry names routers
    pub entries_below : RoutesIn net.n table
    entries_below = table_below I (λ w v h. formed.neighbours w v (eqb-true _ 1 h)) table obeys

    pub best-act : ((i : ℕ) → get_or distances i 0 < 256) → I.listed w ≡ false
        → put_route table w (key_route N (chosen_key N I w (route_at table))) ≡ activate_bytes I w table
    unfolding activate_bytes
    best-act bytes h =
        ap (put_route table w)
        (chosen-choice N I w (route_at table) formed.count (numbers-from net rows distances w formed.pairs.bytes bytes) entries_below.below h)
