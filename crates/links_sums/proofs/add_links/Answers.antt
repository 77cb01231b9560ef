use Rattle.std.proofs.Common.{rules, arith}
use Rattle.links_rules.specs.Sums.{direct}
use Rattle.links_rules.proofs.Facts.{sheet-facts}
use Rattle.links_sums.proofs.Words.{direct-more}
use Rattle.links_sums.proofs.add_links.Goals as goal

pub lower-requires : goal.lower-requires
lower-requires c =
    let sheet = sheet-facts _ _ c.requires.1 in
    let link = c.link_at-link.ensures in
    omega (arith, c.loop-k.invariant.room, link.from, link.to, sheet.froms _ c.loop-k-test.true, sheet.tos _ c.loop-k-test.true)

pub loop-k-init : goal.loop-k-init
unfolding direct
loop-k-init c = c.requires.2

pub loop-k-preserved : goal.loop-k-preserved
loop-k-preserved c =
    direct-more _ c.requires.0 _ (sheet-facts _ _ c.requires.1) _ _ c.loop-k.k _ c.loop-k-test.true c.link_at-link.ensures (search rules)
    c.loop-k.invariant c.lower.ensures
