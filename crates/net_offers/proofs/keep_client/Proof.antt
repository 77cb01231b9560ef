-- Each way out is a case of `keep_best`.
use Prim.Native.Nat.{ℕ}
use native.Mathlib.Omega.{arith}
use mathlib.Core.Path.{◌≡◌, ◌∙◌, sym, ap, ap₂}
use mathlib.Core.Bool.{Bool, true}
use mathlib.Core.Option.{Option, some}
use borrow.Author.Rules.{rules}
use Rattle.base.specs.Best.{keep_best}
use Rattle.base.proofs.Best.{keep-none, keep-only, keep-new, keep-old}
use Rattle.route_rules.specs.Instance.{Instance}
use Rattle.route_rules.specs.Preference.{nearer}
use Rattle.net_rules.specs.RouterBytes.{as_router}
use Rattle.net_rules.proofs.RouterBytes.{router-none, router-some, router-below}
use Rattle.net_prefer.specs.Measured.{Measured}
use Rattle.net_prefer.proofs.Measured.{some-way, no_way}
use Rattle.net_offers.proofs.keep_client.Statement.{statement}
use Rattle.net_offers.proofs.keep_client.Tie as tie

returns : tie.Need-returns-then-not-has_way
returns c I q =
    let a = c.args in
    sym (ap (λ b. keep_best (nearer I a.v) b a.e (as_router a.best)) (no_way q _ _ _ c.has_way.ensures c.if-not-has_way.true) ∙ keep-none _ _ _)

abbrev start : tie.Else-not-has_way → tie.Start
start c = c.before.before.before

-- there is a way to e
module _ (c : tie.Else-not-has_way) (I : Instance) (q : Measured I (start c).args.width (start c).args.distances.now (start c).args.n) where
  abbrev keep : Bool → Option ℕ → Option ℕ
  keep b = keep_best (nearer I (start c).args.v) b (start c).args.e

  from-way : {b x : Option ℕ} → as_router (start c).args.best ≡ b → keep true b ≡ x
      → keep (I.way (start c).args.v (start c).args.e) (as_router (start c).args.best) ≡ x
  from-way h k = ap₂ keep (some-way q _ _ _ c.has_way.ensures c.if-not-has_way.false) h ∙ k

returns-2 : tie.Need-returns-then-best-eq-NO_ROUTER
returns-2 c I q = router-some _ (omega arith) ∙ sym (from-way c.before I q (router-none _ c.if-best-eq-NO_ROUTER.true) (keep-only _ _))

nearer-at-requires : tie.Need-nearer_at-requires
nearer-at-requires c κs =
    let p = (start c.before.before).requires in
    (p.0, p.1, omega (arith, c.wide.ensures.0, router-below _ _ c.if-best-eq-NO_ROUTER.false p.4), p.3)

-- there is a best client so far, and it is compared with e
module _ (c : tie.After-nearer_at) (I : Instance) (q : Measured I (start c.before.before.before).args.width (start c.before.before.before).args.distances.now (start c.before.before.before).args.n) where
  from-best : {x : Option ℕ} → keep c.before.before.before I q true (some (start c.before.before.before).args.best) ≡ x
      → let a = (start c.before.before.before).args in keep_best (nearer I a.v) (I.way a.v a.e) a.e (as_router a.best) ≡ x
  from-best = from-way c.before.before.before I q (router-some _ c.if-best-eq-NO_ROUTER.false)

  preferred : {b : Bool} → c.nearer_at.result ≡ b
      → let a = (start c.before.before.before).args in nearer I a.v a.e a.best ≡ b
  preferred h =
      let a = (start c.before.before.before).args in
      ap (nearer I a.v a.e) (sym c.wide.ensures.0) ∙ sym (c.nearer_at.ensures I q) ∙ h

returns-3 : tie.Need-returns-then-nearer_at
returns-3 c I q = router-some _ (omega arith) ∙ sym (from-best c.before I q (keep-new _ _ _ (preferred c.before I q c.if-nearer_at.true)))

returns-4 : tie.Need-returns
returns-4 c I q =
    router-some _ c.if-best-eq-NO_ROUTER.false ∙ sym (from-best c.before I q (keep-old _ _ _ (preferred c.before I q c.if-nearer_at.false)))

pub keep_client_spec : {M : Type 1} → statement M
keep_client_spec =
    tie.close
    (tie.spec
    (λ c κs. search rules)
    returns
    (λ c. search rules)
    returns-2
    (λ c κs. search rules)
    nearer-at-requires
    (λ c. search rules)
    returns-3
    returns-4)
