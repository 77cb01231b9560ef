-- `net_activate::activations::put_own`: by what is written.
use Rattle.std.proofs.Common.{◌∙◌, ap}
use Rattle.net_tables.specs.TableBytes.{put_route}
use Rattle.net_activate.proofs.activations.put_own.Goals as goal

pub returns : goal.returns
returns c = c.put_route.ensures ∙ ap (put_route c.args.table.now c.args.w) c.own.ensures
