use Rattle.std.proofs.Common.{arith}
use Rattle.links_fit.proofs.NearWords.{within-is}
use Rattle.links_fit.proofs.is_within.Goals as goal

pub returns : goal.returns
returns c = within-is c.args.a c.args.b _ c.without.ensures (omega arith)
