-- `net_read::role_words`: each word has a bit for each router below v at which its test holds.
use Rattle.std.proofs.Common.{◌≡◌, not, ◌||◌, eqb}
use Rattle.base.specs.Bits.{marked}
use Rattle.plan_rules.specs.Routers.{role}
use Rattle.net_read.proofs.role_words.Given as goal

abbrev pub invariant-loop-v : goal.invariant-loop-v
invariant-loop-v l = record {
  reflectors : l.words.reflectors ≡ marked (λ u. not (eqb (role l.s u) 2)) l.v;
  skips : l.words.skips ≡ marked (λ u. eqb (role l.s u) 3 || eqb (role l.s u) 5) l.v;
  hop : l.words.hop ≡ marked (λ u. eqb (role l.s u) 4 || eqb (role l.s u) 5) l.v;
}
