-- `net_hopset::search`: from the highest number down to 0.
use Rattle.std.proofs.Common.{suc, ◌≡◌, ◌-◌, refl, arith}
use Rattle.net_hopset.proofs.Searching.{tried-start, best-start, best-done}
use Rattle.net_hopset.proofs.Serving.{number_small}
use Rattle.net_hopset.proofs.search.Goals as goal

pub loop-x-init : goal.loop-x-init
loop-x-init c = record { size = refl; tried = λ I p. rw c.with_bit-x.ensures (tried-start I _, best-start I _ _ _ p) }

pub try_number-best-requires : goal.try_number-best-requires
try_number-best-requires c =
    let r = c.requires in (
      number_small _ _ r.0 (omega (arith, c.with_bit-x.ensures)),
      number_small _ _ r.0 r.1,
      c.loop-x.invariant.size,
    )

pub loop-x-preserved : goal.loop-x-preserved
loop-x-preserved c =
    let e : suc (c.loop-x.x - 1) ≡ c.loop-x.x = omega arith in
    record {
      size = c.try_number-best.ensures.size;
      tried = λ I p.
          let h = rw (← e) at (c.loop-x.invariant.tried I p) in
          c.try_number-best.ensures.tried I _ p (omega (arith, c.with_bit-x.ensures)) h.0 h.1;
    }

pub returns : goal.returns
returns c I p =
    let e : c.loop-x.x ≡ 0 = omega arith in
    best-done I _ p.counted _ (rw e at (c.loop-x.invariant.tried I p).1)
