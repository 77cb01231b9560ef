-- `links_fit::links_within`: `all` asks of every link.
use Rattle.std.proofs.Common.{ℕ, Bool, ◌∙◌, get_or, rules}
use Rattle.std.proofs.lemmas.Iterator.{YieldsList-from_range}
use Rattle.std.proofs.lemmas.Iterator.Search.{all_from_yields_List}
use Rattle.base.proofs.Numbers.{tests}
use Rattle.links_rules.specs.Sheet.{link_count, link_from, link_to}
use Rattle.base.proofs.Library.{all-range}
use Rattle.links_fit.specs.Near.{within, links_within}
use Rattle.links_fit.proofs.links_within.Goals as goal

pub returns : goal.returns
unfolding links_within
returns c =
    let links = c.args.links.now in
    let near = c.args.near.now in
    let n = link_count links in
    let kept : ℕ → Bool = λ k. within (get_or near (link_from links k) 0) (get_or near (link_to links k) 0) in
    all_from_yields_List kept _ _ _ c.all.ensures.ran (YieldsList-from_range 0 n n (search rules) (search rules)) (λ x b q k. search (rules, tests))
    ∙ all-range kept n
