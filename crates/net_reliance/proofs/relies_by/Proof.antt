-- Each way is a case of the three rules.
use mathlib.Core.Path.{◌≡◌, ◌∙◌, sym}
use mathlib.Core.Bool.{false}
use borrow.Author.Rules.{rules}
use Rattle.base.proofs.Numbers.{granted, denied}
use Rattle.route_rules.specs.Instance.{Instance}
use Rattle.net_rules.specs.Decoded.{decoded}
use Rattle.route_rules.proofs.Reliance.{relies-listed, client-on-stranger, client-on-reflector, client-on-client}
use Rattle.net_reliance.proofs.relies_by.Statement.{statement}
use Rattle.net_reliance.proofs.relies_by.Tie as tie

module _ (c : tie.Start) where
  abbrev I : Instance
  I = decoded c.args.net c.args.rows.now c.args.distances.now

returns : tie.Need-returns-then-has_bit
returns c = sym (relies-listed (I c.before.before.before) _ _ (sym c.has_bit.ensures ∙ c.if-has_bit.true))

reflector-relies-requires : tie.Need-reflector_relies-requires
reflector-relies-requires c κs =
    let e = c in
    let p = e.requires in
    let reflector = sym c.has_bit-2.ensures ∙ c.if-has_bit-2.true in
    let unlisted = sym e.has_bit.ensures ∙ e.if-has_bit.false in
    (p.0, p.1, p.2, record { unlisted = unlisted; reflector = reflector; client = p.3 reflector }, p.4)

-- where w is an unlisted client
module _ (c : tie.Else-has_bit-2) where
  abbrev start : tie.Start
  start = c.before.before.before.before.before

  unlisted : (I start).listed start.args.w ≡ false
  unlisted = sym c.has_bit.ensures ∙ c.if-has_bit.false

  client : (I start).reflector start.args.w ≡ false
  client = sym c.has_bit-2.ensures ∙ c.if-has_bit-2.false

returns-3 : tie.Need-returns-then-not-has_bit
returns-3 c =
    let e = c.before.before.before in
    sym (client-on-stranger (I (start e.before)) _ _ (unlisted e.before) (client e.before) (denied _ c.has_bit-3.ensures c.if-not-has_bit.true))

returns-4 : tie.Need-returns-then-has_bit-3
returns-4 c =
    let g = c in
    let e = g.before.before.before in
    sym (client-on-reflector (I (start e.before.before.before)) _ _ (unlisted e.before.before.before) (client e.before.before.before) (granted _ g.has_bit-3.ensures g.if-not-has_bit.false) (sym c.has_bit-4.ensures ∙ c.if-has_bit-3.true))

returns-5 : tie.Need-returns
returns-5 c =
    let g = c in
    let e = g.before.before.before in
    c.has_bit-5.ensures
    ∙ sym (client-on-client (I (start e.before.before.before.before)) _ _ (unlisted e.before.before.before.before) (client e.before.before.before.before) (granted _ g.has_bit-3.ensures g.if-not-has_bit.false) (sym c.has_bit-4.ensures ∙ c.if-has_bit-3.false))

pub relies_by_spec : {M : Type 1} → statement M
relies_by_spec =
    tie.close
    (tie.spec
    (λ c κs. search rules)
    returns
    (λ c κs. search rules)
    reflector-relies-requires
    (λ c. c.reflector_relies.ensures)
    (λ c. search rules)
    (λ c. search rules)
    (λ c κs. search rules)
    returns-3
    (λ c κs. search rules)
    returns-4
    (λ c κs. search rules)
    returns-5)
