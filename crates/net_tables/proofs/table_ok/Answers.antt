-- `net_tables::table_ok`: the entry read is the table's.
use Rattle.std.proofs.Common.{◌∙◌, sym, ap, refl, rules, arith, tests}
use Rattle.std.proofs.lemmas.Iterator.{YieldsList-from_range}
use Rattle.std.proofs.lemmas.Iterator.Search.{all_from_yields_List}
use Rattle.base.proofs.Below.{all-cong}
use Rattle.base.proofs.Library.{all-range}
use Rattle.route_rules.specs.Activation.{entry_ok, table_ok}
use Rattle.net_rules.specs.Decoded.{decoded}
use Rattle.net_tables.specs.TableBytes.{route_at}
use Rattle.net_tables.proofs.TableBytes.{table-held}
use Rattle.net_tables.proofs.table_ok.Goals as goal

pub returns : goal.returns
unfolding table_ok
returns c distances =
    let I = decoded c.args.net c.args.rows.now distances in
    all_from_yields_List (λ v. entry_ok I v (route_at c.args.table.now v)) _ _ c.all.result c.all.ensures.ran
    (YieldsList-from_range 0 c.args.net.n c.args.net.n refl (omega arith)) (λ x b q k. search (rules, tests))
    ∙ all-range _ c.args.net.n
    ∙ all-cong _ _ c.args.net.n (λ v l. ap (entry_ok I v) (sym (table-held _ _ _ l)))
