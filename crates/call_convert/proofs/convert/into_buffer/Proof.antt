use native.Mathlib.Omega.{arith}
use mathlib.Core.Path.{refl}
use borrow.Author.Rules.{rules}
use Rattle.call_convert.proofs.Returned.{too_short, long-enough}
use Rattle.call_convert.proofs.convert.into_buffer.Statement.{statement}
use Rattle.call_convert.proofs.convert.into_buffer.Tie as tie

pub into_buffer_spec : {M : Type 1} → statement M
into_buffer_spec =
    tie.close
    (tie.spec
    (λ c κs. search rules)
    (λ c κs. search rules)
    (λ c. let t = c.before in too_short _ _ _ _ (omega (arith, t.if-out-length.true, t.converted_length-length.ensures)) c.refused_conversion.ensures)
    (λ c κs.
    let t = c.before in
    let s = t in
    (s.requires.0, s.requires.1, omega (arith, t.if-out-length.false, t.converted_length-length.ensures)))
    (λ c. search rules)
    (λ c.
    let w = c.before.before in
    let t = w in
    let l = t.converted_length-length in
    long-enough _ _ _ _ (omega (arith, t.if-out-length.false, l.ensures)) _ (refl, l.ensures) w.convert.ensures))
