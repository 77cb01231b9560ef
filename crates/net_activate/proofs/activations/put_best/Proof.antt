use mathlib.Core.Path.{◌∙◌, ap}
use borrow.Author.Rules.{rules}
use Rattle.net_tables.specs.TableBytes.{put_route}
use Rattle.net_activate.proofs.activations.put_best.Statement.{statement}
use Rattle.net_activate.proofs.activations.put_best.Tie as tie

returns : tie.Need-returns
returns c N none =
    let key = c in
    let a = key.args in
    c.put_route.ensures ∙ ap (put_route a.table.now a.w) (key.key_route-best.ensures N none)

pub put_best_spec : {M : Type 1} → statement M
put_best_spec =
    tie.close
    (tie.spec (λ c κs. search rules) (λ c κs. search rules) (λ c. search rules) returns)
