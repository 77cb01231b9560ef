-- `net_verdict::assess`: the rows state the network's reliances, and what is written from them is the network's.
use native.Mathlib.Omega.{arith}
use mathlib.Core.Path.{◌≡◌, refl, ◌∙◌, sym}
use mathlib.Core.Bool.{true}
use borrow.Author.Rules.{rules}
use Rattle.route_rules.specs.Instance.{Instance}
use Rattle.graph_groups.proofs.Sharing.{closure-returns}
use Rattle.net_rules.specs.Decoded.{decoded}
use Rattle.net_verdict.specs.Assessed.{is_stable}
use Rattle.net_verdict.proofs.Relations.{rows-within, rows-acyclic, highest-is, highest-same, ranks-fall, stable-is, cycle-asked, stable-assessed, suspect-assessed}
use Rattle.net_verdict.proofs.assess.Statement.{statement}
use Rattle.net_verdict.proofs.assess.Tie as tie

-- where the call starts
abbrev begun : tie.After-close → tie.Start
begun c = c.before.before.before.before.before.before.before.before.before

-- from the test: where the relation was closed, where its rows were filled, and where the call starts
abbrev closing : tie.After-is_stable → tie.After-close
closing c = c.before.before.before.before.before.before.before

abbrev rows : tie.After-is_stable → tie.After-reliance_rows
rows c = (closing c).before.before

abbrev entry : tie.After-is_stable → tie.Start
entry c = begun (closing c)

abbrev network : tie.After-is_stable → Instance
network c = let a = (entry c).args in decoded a.net a.rows.now a.distances.now

-- the test is the network's
tested : (c : tie.After-is_stable) → c.is_stable.result ≡ is_stable (network c)
tested c =
    c.is_stable.ensures
    ∙ stable-is (network c) _ _ (rows c).reliance_rows.ensures (closing c).close.new.rows (closing c).close.ensures

labels-requires : tie.Need-labels-requires
labels-requires c κs =
    let k = c.before.before in
    let p = (begun k).requires in
    (p.0.count, p.1, closure-returns _ _ _ k.close.ensures)

is-stable-requires : tie.Need-is_stable-requires
is-stable-requires c κs =
    let k = c.before.before.before.before.before.before in
    ((begun k).requires.0.count, closure-returns _ _ _ k.close.ensures)

ranks-requires : tie.Need-ranks-highest-requires
ranks-requires c κs =
    let t = c.before.before.before in
    let p = (entry t).requires in
    let h = (rows t).reliance_rows.ensures in
    (p.0.count, p.2, rows-acyclic (network t) _ _ h (sym (tested t) ∙ c.if-is_stable.true), rows-within (network t) _ _ h)

settle-requires : tie.Need-settle-requires
settle-requires c κs =
    let ranked = c in
    let t = c.before.before.before.before.before.before.before in
    let p = (entry t).requires in
    let h = (rows t).reliance_rows.ensures in
    let s : is_stable (network t) ≡ true = sym (tested t) ∙ ranked.if-is_stable.true in
    let k = ranked.ranks-highest.ensures in (
      record {
        formed = p.0;
        each = omega (arith, p.2, ranked.ranks-highest.auto.out);
        long = p.3;
        falls = ranks-fall (network t) _ _ h s _ _ k.1;
      },
      k.0 ∙ highest-same (network t) _ _ h ∙ sym (highest-is (network t) _ _ h s _ _ k.1),
    )

returns : tie.Need-returns-then-is_stable
returns c =
    let ranked = c in
    let t = c.before.before.before.before.before.before.before.before.before.before in
    let k = ranked.ranks-highest.ensures in
    stable-assessed (network t) _ _ (rows t).reliance_rows.ensures (closing t).close.new.rows (closing t).close.ensures _ _ _ _ _
    t.labels.ensures (sym (tested t) ∙ ranked.if-is_stable.true) k.0 k.1
    c.settle.ensures refl

cycle-requires : tie.Need-cycle-requires
cycle-requires c κs =
    let t = c.before.before.before.before in
    let p = (entry t).requires in
    cycle-asked (network t) _ _ (rows t).reliance_rows.ensures (closing t).close.new.rows (closing t).close.ensures
    (sym (tested t) ∙ c.if-is_stable.false) _ p.0.count (omega (arith, p.2, p.4))

returns-2 : tie.Need-returns
returns-2 c =
    let t = c.before.before.before.before.before.before.before in
    let k = c.cycle.ensures in
    suspect-assessed (network t) _ _ (rows t).reliance_rows.ensures (closing t).close.new.rows (closing t).close.ensures _ _ _ _ _
    t.labels.ensures (sym (tested t) ∙ c.if-is_stable.false)
    k.0 refl refl k.1

pub assess_spec : {M : Type 1} → statement M
assess_spec =
    tie.close
    (tie.spec
    (λ c κs. search rules)
    (λ c κs. search rules)
    labels-requires
    is-stable-requires
    ranks-requires
    settle-requires
    (λ c. search rules)
    (λ c. search rules)
    (λ c. search rules)
    returns
    cycle-requires
    (λ c. search rules)
    (λ c. search rules)
    returns-2)
