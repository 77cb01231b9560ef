-- `net_run::apply`: each act is one of a router of the plan, on a table that obeys its rule.
use Rattle.std.proofs.Common.{ℕ, List, ◌≡◌, ◌<◌, ◌+◌, ◌∙◌, sym, ap, refl, min, length, get_or, take, arith, rules}
use mathlib.Core.Path.{subst₂}
use Rattle.std.proofs.lemmas.List.{get_or-take, length-take-le}
use Rattle.route_rules.specs.Rounds.{rounds, tally_act}
use Rattle.net_rules.specs.Decoded.{decoded}
use Rattle.net_tables.specs.TableBytes.{activate_bytes, run_bytes}
use Rattle.net_run.specs.Tallied.{tallied}
use Rattle.net_run.proofs.Running.{Ran, ran-none, ran-more, ran-rounds, take-least}
use Rattle.net_run.proofs.apply.Goals.{then-takes_step, else-takes_step}
use Rattle.net_run.proofs.apply.Goals as goal

-- an act of the part that is applied is an act of the sequence
in-part : (s : List ℕ) (m i limit x n : ℕ) → m ≡ min limit (length s) → i < length (take m s) → x ≡ get_or (take m s) i 0
    → ((k : ℕ) → k < length s → get_or s k 0 < n) → (i < length s) × (x ≡ get_or s i 0) × (x < n)
in-part s m i limit x n e l h below =
    let short : length (take m s) ≡ m = length-take-le m s (omega arith) in
    let left : i < m = omega arith in
    let same : x ≡ get_or s i 0 = h ∙ get_or-take m s i 0 left in
    (omega arith, same, omega (arith, below i (omega arith)))

pub loop-act-init : goal.loop-act-init
loop-act-init c = ran-none _ _ _ c.requires.1 c.requires.3 _ c.new-tally.ensures

pub takes_step-requires : goal.takes_step-requires
takes_step-requires c =
    let p = in-part _ _ _ c.args.limit _ _ (search rules) c.loop-act-test.true c.wide-router.ensures.0 c.requires.2 in
    omega (arith, p.2, c.requires.0.count)

pub activate-requires : goal.activate-requires
activate-requires c =
    let p = in-part _ _ _ c.args.limit _ _ (search rules) c.loop-act-test.true c.wide-router.ensures.0 c.requires.2 in
    (c.requires.0, p.2, c.loop-act.invariant.legal)

pub activate_in_one_pass-requires : goal.activate_in_one_pass-requires
activate_in_one_pass-requires c =
    let p = in-part _ _ _ c.args.limit _ _ (search rules) c.loop-act-test.true c.wide-router.ensures.0 c.requires.2 in
    (c.requires.0, p.2, c.loop-act.invariant.legal, cc (c.takes_step.ensures c.args.rows.now c.args.distances.now))

pub act-tally-requires : goal.act-tally-requires
act-tally-requires c =
    let p = in-part _ _ _ c.args.limit _ _ (search rules) c.loop-act-test.true c.wide-router.ensures.0 c.requires.2 in
    let r = c.loop-act.invariant in
    (c.requires.0.count, p.2, r.waits, omega (arith, r.few, p.0, c.well_formed))

-- with the hop step or without, the act leaves what the rule says
pub loop-act-preserved : goal.loop-act-preserved
loop-act-preserved c =
    let a = c.args in
    let I = decoded a.net a.rows.now a.distances.now in
    let p = in-part _ _ _ a.limit _ _ (search rules) c.loop-act-test.true c.wide-router.ensures.0 c.requires.2 in
    let acted : c.if-takes_step.table ≡ activate_bytes I c.wide-router.result c.loop-act.table =
    elim c.if-takes_step.branch [
      | then-takes_step w ↦ w.table-is ∙ w.activate.ensures
      | else-takes_step w ↦ w.table-is ∙ w.activate_in_one_pass.ensures
    ] in
    subst₂ (Ran I a.sequence.now a.table.now (c.loop-act.act-index + 1))
    (sym (acted ∙ ap (λ x. activate_bytes I x c.loop-act.table) p.1))
    (sym (c.act-tally.ensures ∙ ap (tally_act a.net.n (tallied c.loop-act.tally)) p.1))
    (ran-more _ _ _ _ _ _ c.loop-act.invariant p.0 c.requires.0.count (c.requires.2 _ p.0))

pub returns : goal.returns
returns c =
    let a = c.args in
    let I = decoded a.net a.rows.now a.distances.now in
    let r = c.loop-act.invariant in
    let count : c.min-acts.result ≡ min a.limit (length a.sequence.now) = search rules in
    let all : c.loop-act.act-index ≡ c.min-acts.result =
    omega (arith, length-take-le c.min-acts.result a.sequence.now, c.loop-act.auto.act-index-end, c.loop-act-test.false) in
    let e = take-least I a.sequence.now a.table.now c.loop-act.act-index a.limit (all ∙ count) in
    record {
      count = count;
      whole = ran-rounds _ _ _ _ _ _ r c.requires.2 ∙ ap (rounds a.net.n) e;
      exhausted = refl;
      bytes = r.bytes ∙ ap (run_bytes I a.table.now) e;
    }
