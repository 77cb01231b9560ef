-- `net_everylist::every_list`: the rows that are left are the network's, and so is the list that is found.
use Rattle.std.proofs.Common.{◌∙◌, sym, arith}
use Rattle.route_rules.specs.Instance.{Instance}
use Rattle.net_rules.specs.Decoded.{decoded}
use Rattle.net_everylist.proofs.Answering.{first_walk, word_below, answered-yes, answered-undecided, answered-no}
use Rattle.net_everylist.proofs.every_list.Goals as goal

pub returns-in_default : goal.returns-in_default
returns-in_default c =
    let I : Instance = decoded c.args.net c.args.rows.now c.args.distances.now in
    answered-yes I _ c.peel.ensures _ c.in_default.ensures _ (omega arith)

pub found_list-word-requires : goal.found_list-word-requires
found_list-word-requires c =
    let I : Instance = decoded c.args.net c.args.rows.now c.args.distances.now in (
      c.requires.0,
      c.peel.ensures,
      c.in-Some.ensures.0,
      first_walk I _ c.peel.ensures _ c.in-Some.ensures.1,
    )

pub returns-then-stable_with : goal.returns-then-stable_with
returns-then-stable_with c =
    let I : Instance = decoded c.args.net c.args.rows.now c.args.distances.now in
    let first = c.in-Some.ensures in
    answered-undecided I _ c.peel.ensures _ first.1 _ first.0 _ c.found_list-word.ensures (sym c.stable_with.ensures ∙ c.if-stable_with.true)

pub write_list-requires : goal.write_list-requires
write_list-requires c =
    let I : Instance = decoded c.args.net c.args.rows.now c.args.distances.now in
    let first = c.in-Some.ensures in
    (c.requires.0.count, c.requires.1, word_below I _ c.peel.ensures _ first.1 c.args.list.now first.0 _ c.found_list-word.ensures)

pub returns : goal.returns
returns c =
    let I : Instance = decoded c.args.net c.args.rows.now c.args.distances.now in
    let first = c.in-Some.ensures in
    answered-no I _ c.peel.ensures _ first.1 _ first.0 _ c.found_list-word.ensures (sym c.stable_with.ensures ∙ c.if-stable_with.false) _ _
    c.write_list.ensures.count c.write_list.ensures.written
