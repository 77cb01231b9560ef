-- Each way is a case of the entry's rule.
use Prim.Native.Nat.{ℕ}
use native.Mathlib.Omega.{arith}
use mathlib.Core.Path.{◌≡◌, ◌∙◌, sym, ap, ap₂}
use mathlib.Core.Bool.{Bool, false}
use mathlib.Core.List.{List}
use borrow.Author.Rules.{rules}
use Rattle.route_rules.specs.Instance.{Instance}
use Rattle.route_rules.specs.Activation.{entry_ok}
use Rattle.net_rules.specs.Decoded.{decoded}
use Rattle.net_tables.specs.TableBytes.{read_route, route_of}
use Rattle.net_tables.proofs.TableBytes.{entry_other, entry-itself, entry-none, entry-far, entry-near}
use Rattle.net_tables.proofs.entry_ok.Statement.{statement}
use Rattle.net_tables.proofs.entry_ok.Tie as tie

abbrev entry : tie.After-has_bit → tie.Start
entry c = c.before.before.before

module _ (c : tie.After-has_bit) (distances : List ℕ) where
  abbrev I : Instance
  I = decoded (entry c).args.net (entry c).args.rows.now distances

  abbrev v : ℕ
  v = (entry c).args.v

  abbrev egress : ℕ
  egress = c.wide-egress.result

  abbrev sender : ℕ
  sender = c.wide-sender.result

  -- whether the entry obeys its rule
  abbrev Rule : Bool → Type 0
  Rule b = entry_ok I v (route_of (entry c).args.route) ≡ b

  -- the bytes read are the entry's
  from_bytes : {b : Bool} → entry_ok I v (read_route egress sender) ≡ b → Rule b
  from_bytes h = ap (entry_ok I v) (ap₂ read_route (sym c.wide-egress.ensures.0) (sym c.wide-sender.ensures.0)) ∙ h

  listed : {b : Bool} → c.has_bit.result ≡ b → I.listed v ≡ b
  listed h = sym c.has_bit.ensures ∙ h

returns : tie.Need-returns-then-egress-v
returns c distances =
    let d = c.before.before in
    sym (from_bytes d distances (entry_other (I d distances) _ _ _ (listed d distances c.if-has_bit.true) (omega arith) c.if-egress-v.true))

returns-2 : tie.Need-returns-then-has_bit
returns-2 c distances =
    let d = c.before.before in
    sym (from_bytes d distances (entry-itself (I d distances) _ _ _ (listed d distances c.if-has_bit.true) (omega arith) c.if-egress-v.false))

returns-3 : tie.Need-returns-then-route-eq-NO_ROUTER
returns-3 c distances =
    let u = c.before.before.before in
    sym (entry-none (I u.before distances) _ _ _ (listed u.before distances u.if-has_bit.false) (omega arith) c.if-route-eq-NO_ROUTER.true)

-- an unlisted router's entry names an egress
module _ (c : tie.Else-route-eq-NO_ROUTER) (distances : List ℕ) where
  abbrev read : tie.After-has_bit
  read = c.before.before.before

  unlisted : (I read distances).listed (v read distances) ≡ false
  unlisted = listed read distances c.if-has_bit.false

  named : egress read distances ≡ 255 → ⊥
  named h = c.if-route-eq-NO_ROUTER.false (sym read.wide-egress.ensures.0 ∙ h)

returns-4 : tie.Need-returns-then-net-egress
returns-4 c distances =
    let e = c.before.before in
    let d = read e distances in
    sym (from_bytes d distances (entry-far (I d distances) _ _ _ (unlisted e distances) (named e distances) c.if-net-egress.true))

returns-5 : tie.Need-returns
returns-5 c distances =
    let e = c.before.before.before.before in
    let d = read e.before distances in
    c.in_row.ensures
    ∙ sym (from_bytes d distances (entry-near (I d distances) _ _ _ (unlisted e.before distances) (named e.before distances) c.if-net-egress.false))

pub entry_ok_spec : {M : Type 1} → statement M
entry_ok_spec =
    tie.close
    (tie.spec
    (λ c κs. search rules)
    (λ c κs. search rules)
    (λ c κs. search rules)
    returns
    returns-2
    returns-3
    returns-4
    (λ c. search rules)
    (λ c. search rules)
    (λ c κs. search rules)
    returns-5)
