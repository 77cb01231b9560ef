-- `net_tables::RouteBytes::none`: 255 255 is no route.
use Rattle.net_tables.proofs.TableBytes.{read-nothing}
use Rattle.net_tables.proofs.RouteBytes.none.Goals as goal

pub returns : goal.returns
returns c = read-nothing
