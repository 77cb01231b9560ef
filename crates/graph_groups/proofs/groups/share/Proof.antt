-- `graph_groups::groups::share`: each answer is what `together` computes to for bits.
use mathlib.Core.Path.{◌∙◌, sym}
use borrow.Author.Rules.{rules}
use Rattle.graph_groups.proofs.RowGroups.{share-self, share-none, share_back}
use Rattle.graph_groups.proofs.groups.share.Statement.{statement}
use Rattle.graph_groups.proofs.groups.share.Tie as tie

returns : tie.Need-returns-then-i-j
returns c = share-self c.before.args.closed.now _ _ c.if-i-j.true

returns-2 : tie.Need-returns-then-bit-eq0
returns-2 c =
    share-none c.before.before.before.before.args.closed.now _ _ c.before.before.before.if-i-j.false
    (sym c.before.bit.ensures ∙ c.if-bit-eq0.true)

returns-3 : tie.Need-returns
returns-3 c =
    let u = c.before.before in
    c.bit-2.ensures
    ∙ share_back u.before.before.before.before.args.closed.now _ _ u.before.before.before.if-i-j.false
    (λ e. u.if-bit-eq0.false (u.before.bit.ensures ∙ e))

pub share_spec : {M : Type 1} → statement M
share_spec =
    tie.close
    (tie.spec
    returns
    (λ c. search rules)
    (λ c. search rules)
    (λ c κs. search rules)
    returns-2
    (λ c. search rules)
    (λ c. search rules)
    (λ c κs. search rules)
    returns-3)
