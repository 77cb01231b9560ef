use borrow.Author.Rules.{rules}
use Rattle.base.specs.Bits.{bit_n}
use Rattle.steady_rules.specs.Numbers.{bit_at}
use Rattle.steady_rules.proofs.Numbers.{number-below}
use Rattle.net_hopset.proofs.Placing.{places-are}
use Rattle.net_hopset.proofs.hop_set.Statement.{statement}
use Rattle.net_hopset.proofs.hop_set.Tie as tie

search-requires : tie.Need-search-requires
search-requires c κs =
    let d = c in
    rw (d.number-all.ensures, c.how_many.ensures) (d.requires, number-below (bit_n _) 64 (bit_at _))

returns : tie.Need-returns
returns c = λ I closed small g.
    let d = c in
    rw (d.number-all.ensures, c.how_many.ensures) at c.search.ensures I
    (places-are I _ closed _ small g _ d.place_rows.ensures)

pub hop_set_spec : {M : Type 1} → statement M
hop_set_spec =
    tie.close
    (tie.spec
    (λ c κs. search rules)
    (λ c κs. search rules)
    (λ c κs. search rules)
    search-requires
    returns)
