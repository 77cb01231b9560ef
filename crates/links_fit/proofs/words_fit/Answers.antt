-- `links_fit::words_fit`: `all` asks of every row.
use Rattle.std.proofs.Common.{◌∙◌, rules}
use Rattle.std.proofs.lemmas.Iterator.{YieldsList-from_range}
use Rattle.std.proofs.lemmas.Iterator.Search.{all_from_yields_List}
use Rattle.base.proofs.Numbers.{tests}
use Rattle.base.proofs.Library.{all-range}
use Rattle.links_fit.specs.Near.{row_fits, words_fit}
use Rattle.links_fit.proofs.words_fit.Goals as goal

pub returns : goal.returns
unfolding words_fit
returns c =
    let n = c.args.n in
    let fits = row_fits c.args.words.now n in
    all_from_yields_List fits _ _ _ c.all.ensures.ran (YieldsList-from_range 0 n n (search rules) (search rules)) (λ x b q k. search (rules, tests))
    ∙ all-range fits n
