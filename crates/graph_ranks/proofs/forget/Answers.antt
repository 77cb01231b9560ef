-- `graph_ranks::forget`: the bytes that are filled are the front of the buffer.
use Rattle.std.proofs.Common.{◌∙◌, ap, get_or, arith, rules}
use Rattle.std.proofs.lemmas.List.{get_or-replicate, length-take-le}
use Rattle.base.proofs.Library.{front-tab}
use Rattle.graph_ranks.proofs.forget.Goals as goal

pub returns : goal.returns
returns c =
    let long = length-take-le c.args.n c.args.out.now c.requires in
    front-tab (λ v. 255) c.args.n c.fill.new.self _ (c.fill.ensures.len ∙ long)
    (λ i l. ap (λ t. get_or t i 0) (c.fill.ensures.after (search rules)) ∙ get_or-replicate _ i 255 0 (omega arith))
