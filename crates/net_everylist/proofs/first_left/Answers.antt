-- `net_everylist::first_left`: what `find` finds, in the words of `seek`.
use Rattle.std.specs.Prelude.{Option, Some, None, MatchOption}
use Rattle.std.proofs.Common.{ℕ, ◌≤◌, ◌<◌, ◌≡◌, sym, get_or, rules, arith}
use Rattle.std.proofs.lemmas.Iterator.{first_from_Range}
use borrow.Author.Tests.{tests}
use Rattle.base.specs.Seek.{seek}
use Rattle.base.proofs.Seek.{found-is}
use Rattle.net_everylist.proofs.first_left.Goals as goal

first : (f : ℕ → ℕ) (n : ℕ) (r : Option ℕ)
    → MatchOption r ((k : ℕ) → 0 ≤ k → k < n → f k ≡ 0) (λ w. (0 ≤ w) × (w < n) × (1 ≤ f w) × ((k : ℕ) → 0 ≤ k → k < w → f k ≡ 0))
    → MatchOption r (n ≡ seek f n) (λ w. (w < n) × (w ≡ seek f n))
first f n None h = sym (found-is f n n (record { upto = omega arith; before = λ d l. h d (omega arith) l; hit = λ o. absurd (omega arith) }))
first f n (Some w) h = (h.1, sym (found-is f n w (record { upto = omega (arith, h.1); before = λ d l. h.3 d (omega arith) l; hit = λ o. h.2 })))

pub returns : goal.returns
returns c =
    let row = λ (w : ℕ). get_or c.args.left.now w 0 in
    first row c.args.n c.find.result
    (first_from_Range _ _ _ _ (λ w. 1 ≤ row w) (λ w. row w ≡ 0) c.find.ensures.ran (λ x q k. grind (arith, tests))
    (λ x q k. (search rules, grind (arith, tests))))
