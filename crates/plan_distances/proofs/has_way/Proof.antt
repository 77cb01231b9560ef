use mathlib.Core.Path.{◌∙◌, sym, ap, ap₂}
use mathlib.Core.Bool.{not}
use borrow.Author.Rules.{rules}
use lib.Dec.{eqb}
use Rattle.plan_rules.specs.Distances.{is_way, as_distance}
use Rattle.plan_rules.proofs.Widths.{way-is}
use Rattle.plan_distances.proofs.has_way.Statement.{statement}
use Rattle.plan_distances.proofs.has_way.Tie as tie

returns : tie.Need-returns
returns c =
    let d = c in
    let a = d.args in
    ap (λ h. not (eqb d.number.result h)) c.highest.ensures.0
    ∙ sym (way-is a.width _ d.requires.2.bytes d.number.ensures.1)
    ∙ ap (λ x. is_way (as_distance a.width x)) d.number.ensures.0

pub has_way_spec : {M : Type 1} → statement M
has_way_spec =
    tie.close (tie.spec (λ c κs. search rules) (λ c κs. c.requires.2.bytes) returns)
