-- `links_fit::row_fits`: `all` asks of the row's first n words.
use Rattle.std.proofs.Common.{◌+◌, ◌-◌, ◌*◌, ◌∙◌, ap, leb, take, drop, rules, arith}
use Rattle.std.proofs.lemmas.Grind.{common_steps}
use Rattle.std.proofs.lemmas.Iterator.{YieldsList-from_slice}
use Rattle.std.proofs.lemmas.Iterator.Search.{all_from_yields_List}
use Rattle.base.proofs.Numbers.{tests}
use Rattle.base.proofs.Library.{all-items}
use Rattle.links_fit.specs.Near.{near, row_fits}
use Rattle.links_fit.proofs.row_fits.Goals as goal

pub returns : goal.returns
unfolding row_fits
returns c =
    let words = c.args.words.now in
    let n = c.args.n in
    let at = 64 * c.args.u in
    let row = take (at + n - at) (drop at words) in
    all_from_yields_List (λ w. leb w 65534) _ _ _ c.all.ensures.ran (YieldsList-from_slice row cc) (λ x b q k. search (rules, tests))
    ∙ all-items (λ w. leb w 65534) (near words c.args.u) row 0 n (grind (arith, common_steps)) (λ i l. ap (λ w. leb w 65534) (grind (arith, common_steps)))
