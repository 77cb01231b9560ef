use native.Mathlib.Omega.{arith}
use mathlib.Core.Path.{◌∙◌, sym, ap}
use borrow.Author.Rules.{rules}
use Rattle.route_rules.specs.Instance.{Instance}
use Rattle.net_rules.specs.Decoded.{decoded}
use Rattle.net_tables.specs.TableBytes.{route_at, put_route}
use Rattle.net_activate.specs.OnePass.{Numbers, numbers_of, key_route}
use Rattle.net_activate.proofs.TwoPasses.{chosen-without}
use Rattle.net_activate.proofs.Acts.{own-act, entries_below, best-act}
use Rattle.net_activate.proofs.activations.activate_in_one_pass.Statement.{statement}
use Rattle.net_activate.proofs.activations.activate_in_one_pass.Tie as tie

abbrev instance : tie.Start → Instance
instance c = decoded c.args.net c.args.rows.now c.args.distances.now

abbrev numbers : tie.Start → Numbers
numbers c = numbers_of c.args.net c.args.distances.now c.args.w

returns : tie.Need-returns-then-has_bit
returns c =
    let e = c in
    let a = e.args in
    c.put_own.ensures
    ∙ own-act a.net a.rows.now a.distances.now _ _ (sym e.has_bit.ensures ∙ e.if-has_bit.true)

returns-2 : tie.Need-returns
returns-2 c =
    let k = c in
    let none = k in
    let e = none in
    let s = e in
    let d = s.before in
    let a = d.args in
    c.put_best.ensures (numbers d.before.before.before.before.before.before.before.before.before) none.no_key-none.ensures
    ∙ ap (λ key. put_route a.table.now a.w (key_route (numbers d.before.before.before.before.before.before.before.before.before) key)) (k.best_heard-key.ensures
    ∙ sym (chosen-without (numbers d.before.before.before.before.before.before.before.before.before) (instance d.before.before.before.before.before.before.before.before.before) d.args.w (route_at d.args.table.now) d.requires.3))
    ∙ best-act a.net a.rows.now a.distances.now a.w a.table.now d.requires.0 d.requires.2
    (λ i. omega (arith, s.shared_slice_known-1.given i)) (sym e.has_bit.ensures ∙ e.if-has_bit.false)

pub activate_in_one_pass_spec : {M : Type 1} → statement M
activate_in_one_pass_spec =
    tie.close
    (tie.spec
    (λ c κs. search rules)
    (λ c κs. search rules)
    (λ c. search rules)
    returns
    (λ c κs. c.requires.0.pairs.bytes)
    (λ c κs. let d = c in let p = d.requires in (p.0, p.1, entries_below _ d.args.rows.now _ d.args.w _ p.0 p.2, c.no_key-none.ensures))
    (λ c κs. search rules)
    (λ c. search rules)
    returns-2)
