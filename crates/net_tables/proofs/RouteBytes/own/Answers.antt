-- `net_tables::RouteBytes::own`: a router's number is not 255.
use Rattle.std.proofs.Common.{arith}
use Rattle.net_tables.proofs.TableBytes.{read-via}
use Rattle.net_tables.proofs.RouteBytes.own.Goals as goal

pub returns : goal.returns
returns c = read-via c.args.v c.args.v (omega arith)
