-- `net_everylist::peeling::foreign_key`: the word has the foreign clients.
use Prim.Native.Nat.{ℕ}
use mathlib.Core.Path.{◌≡◌}
use borrow.Author.Rules.{rules}
use Rattle.net_everylist.specs.Peeling.{WordBelow, pair_in, foreign_among}
use Rattle.net_everylist.proofs.Leading.{least-cong}
use Rattle.net_everylist.proofs.Rows.{near-below, heard-is, heard-below}
use Rattle.net_everylist.proofs.Words.{is_in}
use Rattle.net_rules.specs.Decoded.{decoded}
use Rattle.net_everylist.proofs.peeling.foreign_key.Statement.{statement}
use Rattle.net_everylist.proofs.peeling.foreign_key.Tie as tie

module _ (c : tie.After-without-heard) where
  abbrev start : tie.Start
  start = c.before.before.before.before.before.before

  below : WordBelow c.without-heard.result start.args.net.n
  below =
      let a = start.args in
      heard-below a.net a.rows.now a.distances.now start.requires.0 a.w a.left.now start.requires.2 _ _ c.joined.ensures
      c.without-heard.ensures

  foreign : let a = start.args in
      (e : ℕ) → is_in c.without-heard.result e ≡ foreign_among (decoded a.net a.rows.now a.distances.now) (pair_in a.left.now) a.w e
  foreign =
      let a = start.args in
      heard-is a.net a.rows.now a.distances.now start.requires.0 a.w a.left.now start.requires.2 _ _ c.joined.ensures
      c.without-heard.ensures

returns : tie.Need-returns
returns c =
    let k = c.before in
    rw k.no_key.ensures.0 at (least-cong _ _ _ _ _ _ (foreign k.before) c.least_key.ensures)

pub foreign_key_spec : {M : Type 1} → statement M
foreign_key_spec =
    tie.close
    (tie.spec
    (λ c. search rules)
    (λ c. search rules)
    (λ c κs. let d = c in let a = d.args in (d.requires.0.count, near-below a.net a.rows.now a.distances.now d.requires.0 a.w))
    (λ c κs. search rules)
    (λ c κs. c.requires.0.pairs.bytes)
    (λ c κs. let b = c.before in let p = (start b).requires in (p.1, p.0.count, p.0.pairs, below b))
    returns)
