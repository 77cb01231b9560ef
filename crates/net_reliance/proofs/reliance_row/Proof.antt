-- Each way is one of the three rules.
use native.Mathlib.Omega.{arith}
use mathlib.Core.Path.{◌≡◌, ◌∙◌, sym, ap}
use mathlib.Core.Bool.{false, ◌&&◌}
use borrow.Author.Rules.{rules}
use borrow.Author.Tests.{eq-eqb}
use lib.Bits.{bit_and, bit_or}
use lib.Dec.{eqb}
use lib.ListN.{get_or}
use Rattle.base.specs.Bits.{bit_n}
use Rattle.base.proofs.Numbers.{not-both}
use Rattle.base.proofs.BitLaws.{bit-and}
use Rattle.base.proofs.SetBits.{bit-none, set-and, set-or}
use Rattle.route_rules.specs.Instance.{Instance}
use Rattle.route_rules.proofs.Reliance.{relies-listed, relies-client}
use Rattle.net_rules.specs.Decoded.{decoded}
use Rattle.net_reliance.proofs.RelianceRows.{row_is}
use Rattle.net_reliance.proofs.reliance_row.Statement.{statement}
use Rattle.net_reliance.proofs.reliance_row.Tie as tie

abbrev instance : tie.Start → Instance
instance c = decoded c.args.net c.args.rows.now c.args.distances.now

returns : tie.Need-returns-then-has_bit
returns c =
    let d = c.before.before.before in
    row_is (instance d) d.args.w 0
    (λ v. bit-none v ∙ sym (relies-listed (instance d) d.args.w v (sym c.has_bit.ensures ∙ c.if-has_bit.true)))
    (λ v set. not-both (eqb (bit_n 0 v) 1) (eq-eqb _ 1 set) (bit-none v))

-- where w is not listed
unlisted : (c : tie.Else-has_bit) → let d = c.before.before.before in (instance d).listed d.args.w ≡ false
unlisted c = sym c.has_bit.ensures ∙ c.if-has_bit.false

reflector-row-requires : tie.Need-reflector_row-requires
reflector-row-requires c κs =
    let e = c.before.before in
    let p = e.requires in
    let reflector = sym c.has_bit-2.ensures ∙ c.if-has_bit-2.true in
    (p.0, p.1, p.2, record { unlisted = unlisted e; reflector = reflector; client = p.2 _ p.1 reflector })

returns-3 : tie.Need-returns
returns-3 c =
    let f = c in
    let e = f.before.before in
    let d = e.before.before.before in
    let a = d.args in
    let near = get_or a.rows.now a.w 0 in
    let either = bit_or a.net.reflectors a.net.listed in
    row_is (instance d.before.before.before) a.w (bit_and near either)
    (λ v.
    set-and near either v
    ∙ ap (◌&&◌ (eqb (bit_n near v) 1)) (set-or a.net.reflectors a.net.listed v)
    ∙ sym (relies-client (instance d.before.before.before) a.w v (unlisted e.before.before.before) (sym f.has_bit-2.ensures ∙ f.if-has_bit-2.false)))
    (λ v set. d.requires.0.neighbours a.w v (omega (arith, bit-and near either v)))

pub reliance_row_spec : {M : Type 1} → statement M
reliance_row_spec =
    tie.close
    (tie.spec
    (λ c κs. search rules)
    returns
    (λ c κs. search rules)
    reflector-row-requires
    (λ c. search rules)
    (λ c. search rules)
    (λ c. search rules)
    returns-3)
