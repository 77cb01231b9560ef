-- Each way out is a case of the definition.
use native.Mathlib.Omega.{arith}
use mathlib.Core.Path.{◌≡◌, ◌∙◌, sym, ap}
use mathlib.Core.Bool.{true}
use borrow.Author.Rules.{rules}
use borrow.Author.Tests.{eq-eqb, ne_eqb}
use lib.Dec.{eqb}
use Rattle.base.proofs.Numbers.{granted, denied}
use Rattle.route_rules.specs.Instance.{Instance, is_router}
use Rattle.route_rules.specs.Reliance.{best_client}
use Rattle.net_rules.proofs.RouterBytes.{router-is}
use Rattle.net_rules.specs.Decoded.{decoded}
use Rattle.net_explain.proofs.Cases.{on-client-unlisted, on-client-peer, on-client-own, on-client-other}
use Rattle.net_explain.proofs.on_client.Statement.{statement}
use Rattle.net_explain.proofs.on_client.Tie as tie

abbrev I : tie.Start → Instance
I c = decoded c.args.net c.args.rows.now c.args.distances.now

returns : tie.Need-returns-then-not-has_bit
returns c = sym (on-client-unlisted (I c.before.before.before) _ _ (denied _ c.has_bit.ensures c.if-not-has_bit.true))

-- where v is listed
module _ (c : tie.Else-not-has_bit) where
  abbrev start : tie.Start
  start = c.before.before.before

  listed : (I start).listed start.args.v ≡ true
  listed = granted _ c.has_bit.ensures c.if-not-has_bit.false

returns-2 : tie.Need-returns-then-not-has_bit-2
returns-2 c =
    let e = c.before.before in
    sym (on-client-peer (I (start e)) _ _ (listed e) (denied _ c.has_bit-2.ensures c.if-not-has_bit-2.true))

-- .. and w is a reflector
module _ (c : tie.After-wide) where
  abbrev before : tie.Else-not-has_bit
  before = c.before.before.before.before

  reflector : (I (start before)).reflector (start before).args.w ≡ true
  reflector = granted _ c.has_bit-2.ensures c.if-not-has_bit-2.false

  own : is_router (start before).args.v (best_client (I (start before)) (start before).args.w) ≡ eqb c.wide.result (start before).args.v
  own =
      let v = (start before).args.v in
      ap (is_router v) (sym c.best_client-own.ensures) ∙ router-is _ v (omega arith) ∙ ap (λ x. eqb x v) (sym c.wide.ensures.0)

returns-3 : tie.Need-returns-then-wide-v
returns-3 c =
    let d = c.before in
    let e = before d in
    sym (on-client-own (I (start e)) _ _ (listed e) (reflector d) (own d ∙ eq-eqb _ _ c.if-wide-v.true))

returns-4 : tie.Need-returns
returns-4 c =
    let d = c.before in
    let e = before d in
    sym (on-client-other (I (start e)) _ _ (listed e) (reflector d) (own d ∙ ne_eqb _ _ c.if-wide-v.false))

pub on_client_spec : {M : Type 1} → statement M
on_client_spec =
    tie.close
    (tie.spec
    (λ c κs. search rules)
    returns
    (λ c κs. search rules)
    returns-2
    (λ c κs. search rules)
    (λ c κs. search rules)
    returns-3
    returns-4)
