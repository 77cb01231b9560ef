use Prim.Native.Nat.{ℕ}
use native.Mathlib.Omega.{arith}
use mathlib.Core.Path.{◌∙◌, sym}
use mathlib.Core.Logic.{⊎_elim}
use borrow.Author.Rules.{rules}
use Rattle.route_rules.specs.Instance.{Instance, Route}
use Rattle.net_rules.specs.Decoded.{decoded}
use Rattle.net_tables.specs.TableBytes.{route_at}
use Rattle.net_activate.specs.OnePass.{Numbers, numbers_of}
use Rattle.net_activate.proofs.TwoPasses.{chosen-direct, chosen-passed, chosen-without}
use Rattle.net_activate.proofs.activations.chosen.Statement.{statement}
use Rattle.net_activate.proofs.activations.chosen.Tie as tie

module _ (c : tie.Start) where
  abbrev numbers : Numbers
  numbers = numbers_of c.args.net c.args.distances.now c.args.w

  abbrev instance : Instance
  instance = decoded c.args.net c.args.rows.now c.args.distances.now

  abbrev view : ℕ → Route
  view = route_at c.args.table.now

returns : tie.Need-returns-then-direct-none
returns c =
    let i = c in
    let d = i.before.before.before.before in
    let direct = c.best_direct-direct.ensures in
    direct
    ∙ sym (chosen-direct (numbers d.before.before) (instance d.before.before) d.args.w (view d.before.before)
    (sym (i.takes_step.ensures d.args.rows.now d.args.distances.now) ∙ i.if-takes_step.true) (omega (arith, direct, d.requires.3, c.if-direct-none.true)))

returns-2 : tie.Need-returns
returns-2 c =
    let h = c in
    let d = h.before.before.before in
    let has-step = h.takes_step.ensures d.args.rows.now d.args.distances.now in
    c.best_heard.ensures
    ∙ sym (⊎_elim
    (λ g. chosen-passed (numbers d.before.before) (instance d.before.before) d.args.w (view d.before.before) (sym has-step ∙ g.if-takes_step.true) (omega (arith, g.best_direct-direct.ensures, d.requires.3, g.if-direct-none.false)))
    (λ g. chosen-without (numbers d.before.before) (instance d.before.before) d.args.w (view d.before.before) (sym has-step ∙ g.if-takes_step.false))
    c.if-takes_step.branch-raw)

pub chosen_spec : {M : Type 1} → statement M
chosen_spec =
    tie.close
    (tie.spec
    (λ c κs. search rules)
    (λ c κs. search rules)
    returns
    (λ c κs. search rules)
    returns-2)
