-- `call_figures::figures::clear`: the first n counts are 0, and the others are as they were.
use Rattle.std.proofs.Common.{ℕ, ◌-◌, ◌≡◌, ◌++◌, ◌∙◌, ap, length, replicate, take, drop, arith}
use Rattle.std.proofs.lemmas.List.{append-nil, drop-replicate, get_or-replicate, length-replicate, length-take-le}
use Rattle.base.specs.Tab.{tab}
use Rattle.base.proofs.Tab.{tab-front}
use Rattle.call_figures.proofs.figures.clear.Goals as goal

zeros : (n : ℕ) → replicate {A = ℕ} n 0 ≡ tab {A = ℕ} (λ i. 0) n
zeros n =
    let none : n - n ≡ 0 = omega arith in
    tab-front {A = ℕ} (λ i. 0) n 0 (replicate {A = ℕ} n 0) (omega (arith, length-replicate {A = ℕ} n 0)) (λ i l. get_or-replicate {A = ℕ} n i 0 0 l)
    ∙ ap (◌++◌ (tab {A = ℕ} (λ i. 0) n)) (drop-replicate {X = ℕ} n n 0 ∙ ap (λ k. replicate {A = ℕ} k 0) none)
    ∙ append-nil _

pub returns : goal.returns
returns c =
    let n = c.args.n in
    let counts = c.args.counts.now in
    let size : length (take n counts) ≡ n = length-take-le n counts c.requires in
    ap (λ t. t ++ drop n counts) (c.fill.ensures.after (λ y e. e) ∙ ap (λ k. replicate {A = ℕ} k 0) size ∙ zeros n)
