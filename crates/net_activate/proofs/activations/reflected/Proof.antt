use Prim.Native.Nat.{ℕ, ◌<◌}
use native.Mathlib.Omega.{arith}
use mathlib.Core.Path.{◌≡◌, ◌∙◌, sym, ap, ap₂}
use mathlib.Core.Bool.{cond}
use mathlib.Core.List.{List}
use mathlib.Core.Option.{Option, none, some}
use borrow.Author.Rules.{rules}
use Rattle.route_rules.specs.Instance.{Instance, via}
use Rattle.route_rules.specs.Activation.{reflects}
use Rattle.route_rules.proofs.Routes.{reflects-nothing}
use Rattle.net_rules.specs.Decoded.{decoded}
use Rattle.net_tables.specs.TableBytes.{route_of}
use Rattle.net_activate.specs.OnePass.{numbers_of, told_key}
use Rattle.net_tables.proofs.TableBytes.{read-via}
use Rattle.net_activate.proofs.OnePass.{told-nothing, told-egress, route-none, route-some}
use Rattle.net_activate.proofs.activations.reflected.Statement.{statement}
use Rattle.net_activate.proofs.activations.reflected.Tie as tie

returns : tie.Need-returns-then-route-eq-NO_ROUTER
returns c rows =
    let d = c in
    let a = d.args in
    let I = decoded a.net rows a.distances.now in
    let N = numbers_of a.net a.distances.now a.w in
    d.requires.5
    ∙ sym (ap (λ x. told_key N a.v (reflects I a.v x a.w)) (route-none _ _ _ d.requires.0 d.requires.4 c.if-route-eq-NO_ROUTER.true)
    ∙ ap (told_key N a.v) (reflects-nothing I a.v a.w)
    ∙ told-nothing N a.v)

-- a route is held, of routers
held_below : (c : tie.Else-route-eq-NO_ROUTER) → let a = c.args in
    (a.route.egress < a.net.n) × (a.route.sender < a.net.n)
held_below c = let p = c.requires in route-some _ _ _ p.0 p.4 c.if-route-eq-NO_ROUTER.false

route-key-requires : tie.Need-route_key-key-requires
route-key-requires c κs =
    let p = c.requires in
    (p.1, omega (arith, c.wide.ensures.0, (held_below c.before).0), p.2, p.0, p.3)

passes-on-requires : tie.Need-passes_on-requires
passes-on-requires c κs =
    let p = c.requires in (
      omega (arith, p.0, p.2),
      omega (arith, c.wide-2.ensures.0, (held_below c.before.before.before).1, p.0),
      omega (arith, p.0, p.1),
    )

module _ (c : tie.After-passes_on) (rows : List ℕ) where
  abbrev start : tie.Start
  start = c.before.before.before.before.before.before.before

  abbrev I : Instance
  I = decoded start.args.net rows start.args.distances.now

  abbrev told : Option ℕ → ℕ
  told = told_key (numbers_of start.args.net start.args.distances.now start.args.w) start.args.v

  passed : {t : Option ℕ} → cond c.passes_on.result (some c.wide.result) none ≡ t
      → told (reflects I start.args.v (route_of start.args.route) start.args.w) ≡ told t
  passed h =
      ap (λ x. told (reflects I start.args.v x start.args.w))
      (read-via _ _ c.if-route-eq-NO_ROUTER.false ∙ ap₂ via (sym c.wide.ensures.0) (sym c.wide-2.ensures.0))
      ∙ ap told (c.passes_on.ensures rows start.args.distances.now _ ∙ h)

returns-2 : tie.Need-returns-then-passes_on
returns-2 c rows =
    let d = c.before in
    d.route_key-key.ensures
    ∙ sym (passed d rows (ap (λ b. cond b (some d.wide.result) none) c.if-passes_on.true) ∙ told-egress _ _ _)

returns-3 : tie.Need-returns
returns-3 c rows =
    let d = c.before in
    (start d rows).requires.5
    ∙ sym (passed d rows (ap (λ b. cond b (some d.wide.result) none) c.if-passes_on.false) ∙ told-nothing _ _)

pub reflected_spec : {M : Type 1} → statement M
reflected_spec =
    tie.close
    (tie.spec
    returns
    (λ c κs. search rules)
    route-key-requires
    (λ c κs. search rules)
    passes-on-requires
    returns-2
    returns-3)
