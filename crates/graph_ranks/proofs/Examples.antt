-- The examples, worked out from the rule.
use mathlib.Core.Path.{refl}
use Rattle.base.specs.Seek.{highest}
use Rattle.base.specs.Tab.{tab}
use Rattle.graph_ranks.specs.Rank.{rank_over, ranks_by_chains, rank}
use Rattle.graph_ranks.specs.Examples.{deep, flat, RankExamples}

pub rank-examples : RankExamples
unfolding deep flat rank_over ranks_by_chains rank highest tab
rank-examples = record { ranks = refl; highest_of_all = refl }
