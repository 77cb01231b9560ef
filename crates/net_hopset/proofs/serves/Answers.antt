-- `net_hopset::serves`: by no place left, by one left that is free, and by none free.
use Rattle.std.proofs.Common.{◌∙◌, refl, sym, ap, arith}
use Rattle.net_steady.specs.Building.{in_set}
use Rattle.net_hopset.proofs.Serving.{left_below, with-place, free-found, free-none, none-left, freed-tried, stuck}
use Rattle.net_hopset.proofs.serves.Goals as goal

pub returns-then-left-eq0 : goal.returns-then-left-eq0
returns-then-left-eq0 c I k p l t = sym (none-left I _ _ _ p _ _ c.without-left.ensures c.if-left-eq0.true)

pub free_place-requires : goal.free_place-requires
free_place-requires c = left_below 12 c.args.all _ _ c.requires.1 c.without-left.ensures

pub returns-in_default : goal.returns-in_default
returns-in_default c I k p l t =
    let none = free-none c.args.rows.now _ 12 c.in_default.ensures refl (left_below 12 c.args.all _ _ c.requires.1 c.without-left.ensures) in
    sym (stuck I _ _ _ p _ _ c.without-left.ensures none (omega arith) c.if-left-eq0.false)

pub with_bit-requires : goal.with_bit-requires
with_bit-requires c = omega (arith, c.in-Some.ensures.0)

pub has_number-requires : goal.has_number-requires
has_number-requires c = rw c.with_bit.ensures (with-place 12 c.args.x _ c.requires.0 c.in-Some.ensures.0)

pub returns : goal.returns
returns c I k p l t =
    let free = free-found c.args.rows.now _ _ c.in-Some.ensures.1 c.in-Some.ensures.0 in
    c.has_number.ensures
    ∙ ap (in_set c.args.served.now) c.with_bit.ensures
    ∙ freed-tried I _ _ _ p _ _ c.without-left.ensures _ free c.args.served.now l t
