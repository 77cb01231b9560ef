-- `links_fit::sums_fit`: where some word is 65,535, the links decide.
use Rattle.std.proofs.Common.{sym, ◌∙◌, arith}
use Rattle.links_rules.proofs.Facts.{sheet-facts}
use Rattle.links_fit.proofs.Reached.{links-decide}
use Rattle.links_fit.proofs.Fits.{words-fit}
use Rattle.links_fit.proofs.sums_fit.Goals as goal

pub returns-then-words_fit : goal.returns-then-words_fit
returns-then-words_fit c = sym (words-fit _ _ _ c.requires.2 (sym c.words_fit.ensures ∙ c.if-words_fit.true))

pub links_within-requires : goal.links_within-requires
links_within-requires c =
    let p = c.requires in
    let sheet = sheet-facts _ _ p.1 in
    λ k l. (omega (arith, p.0, sheet.froms k l), omega (arith, p.0, sheet.tos k l))

pub returns : goal.returns
returns c =
    let p = c.requires in
    c.links_within.ensures ∙ links-decide _ _ p.0 (sheet-facts _ _ p.1) _ p.2 _ _ c.near_to_each.ensures
