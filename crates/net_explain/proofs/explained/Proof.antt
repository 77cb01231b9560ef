-- Each way out is a case of the definition.
use mathlib.Core.Path.{◌≡◌, ◌∙◌, sym}
use mathlib.Core.Bool.{true, false}
use borrow.Author.Rules.{rules}
use borrow.Author.Tests.{eq-eqb, ne_eqb}
use lib.Dec.{eqb}
use Rattle.base.proofs.Numbers.{granted, denied}
use Rattle.route_rules.specs.Instance.{Instance}
use Rattle.net_rules.specs.Decoded.{decoded}
use Rattle.net_explain.proofs.Cases.{explained-same, explained-stranger, explained-listed, explained-reflector, explained-client}
use Rattle.net_explain.proofs.explained.Statement.{statement}
use Rattle.net_explain.proofs.explained.Tie as tie

abbrev I : tie.Start → Instance
I c = decoded c.args.net c.args.rows.now c.args.distances.now

returns : tie.Need-returns-then-w-v
returns c = sym (explained-same (I c.before.before) _ _ (eq-eqb _ _ c.if-w-v.true))

-- where the two are not the same
module _ (c : tie.Else-w-v) where
  abbrev start : tie.Start
  start = c.before.before

  apart : eqb start.args.w start.args.v ≡ false
  apart = ne_eqb _ _ c.if-w-v.false

-- where both tests are made
abbrev other : tie.After-has_bit-listed → tie.Else-w-v
other c = c.before.before.before.before

returns-2 : tie.Need-returns-then-not-near
returns-2 c =
    let t = c.before in
    let e = other t in
    sym (explained-stranger (I (start e)) _ _ (apart e) (denied _ t.has_bit-near.ensures c.if-not-near.true))

-- .. they are neighbours
near : (c : tie.Else-not-near) → let d = start (other c.before) in (I d).neighbour d.args.w d.args.v ≡ true
near c = granted _ c.has_bit-near.ensures c.if-not-near.false

returns-3 : tie.Need-returns-then-listed
returns-3 c =
    let g = c.before in
    let e = other g.before in
    sym (explained-listed (I (start e)) _ _ (apart e) (near g) (sym g.has_bit-listed.ensures ∙ c.if-listed.true))

-- .. and w is not listed
unlisted : (c : tie.Else-listed) → let d = start (other c.before.before) in (I d).listed d.args.w ≡ false
unlisted c = sym c.has_bit-listed.ensures ∙ c.if-listed.false

returns-4 : tie.Need-returns-then-has_bit
returns-4 c =
    let h = c.before.before.before in
    let g = h.before in
    let e = other g.before in
    c.on_reflector.ensures
    ∙ sym (explained-reflector (I (start e)) _ _ (apart e) (near g) (unlisted h) (sym c.has_bit.ensures ∙ c.if-has_bit.true))

returns-5 : tie.Need-returns
returns-5 c =
    let h = c.before.before.before in
    let g = h.before in
    let e = other g.before in
    c.on_client.ensures
    ∙ sym (explained-client (I (start e)) _ _ (apart e) (near g) (unlisted h) (sym c.has_bit.ensures ∙ c.if-has_bit.false))

pub explained_spec : {M : Type 1} → statement M
explained_spec =
    tie.close
    (tie.spec
    returns
    (λ c. search rules)
    (λ c. search rules)
    (λ c κs. search rules)
    (λ c κs. search rules)
    returns-2
    returns-3
    (λ c κs. search rules)
    (λ c κs. search rules)
    returns-4
    (λ c κs. search rules)
    returns-5)
