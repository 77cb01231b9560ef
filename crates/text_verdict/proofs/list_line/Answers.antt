-- What is assessed is the network of the plan's list, and what was found says the list's line.
use Rattle.std.proofs.Common.{rules, arith, ◌≡◌, length}
use Rattle.net_rules.proofs.Opened.{opened-over}
use Rattle.call_rules.proofs.Granted.{few-routers}
use Rattle.text_fields.proofs.Writing.{put_as}
use Rattle.text_verdict_rules.specs.Listing.{list_line}
use Rattle.text_verdict.specs.Found.{found_line, Printable}
use Rattle.text_verdict.proofs.Lines.{found-says}
use Rattle.text_verdict.proofs.list_line.Goals as goal
use Rattle.text_verdict.proofs.list_line.Goals.{After-assess-found}

pub assess-found-requires : goal.assess-found-requires
assess-found-requires c =
    let o = opened-over c.open_plan-net.ensures c.part-distances.ensures.bytes in
    let few = few-routers _ c.requires.1.ok in
    (o.formed, omega (arith, o.count), omega (arith, o.count), omega (arith, o.count), omega (arith, o.count))

says : (c : After-assess-found) →
    let cycle = c.assess-found.new.cycle in
    Printable c.assess-found.result c.args.list cycle
    × (found_line c.assess-found.result c.args.list cycle ≡ list_line c.args.plan.now c.args.list)
says c =
    let cycle = c.assess-found.new.cycle in
    let long : length cycle ≡ 64 = search rules in
    let assessed = rw (opened-over c.open_plan-net.ensures c.part-distances.ensures.bytes).same at c.assess-found.ensures.verdict in
    found-says _ c.requires.1.ok _ c.requires.2 _ cycle assessed.verdict assessed.cycled (omega arith)

pub found_line-requires : goal.found_line-requires
found_line-requires c = (c.requires.0, (says (goal.at.found_line-requires c).After-assess-found).0)

pub returns : goal.returns
returns c = put_as c.found_line.ensures (says (goal.at.returns c).After-assess-found).1 (omega arith)
