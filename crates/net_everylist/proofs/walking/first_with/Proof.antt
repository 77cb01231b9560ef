-- `net_everylist::walking::first_with`: none of those seen is left with the client.
use Prim.Native.Nat.{ℕ, ◌<◌}
use native.Mathlib.Omega.{arith}
use mathlib.Core.Path.{◌≡◌, ◌∙◌, sym, ap}
use mathlib.Core.Bool.{◌&&◌}
use mathlib.Core.List.{List}
use borrow.Author.Rules.{rules}
use Rattle.base.specs.Bits.{bit_n}
use Rattle.base.specs.Seek.{flag}
use Rattle.base.proofs.BitSeek.{Seeking, seeking-start, seeking-miss, seeking-below, seeking-set, seeking-hit, seeking-more}
use Rattle.net_everylist.specs.Peeling.{pair_in}
use Rattle.net_everylist.proofs.Words.{is_in, with-off, with-hit, with-miss}
use Rattle.net_everylist.proofs.walking.first_with.Statement.{statement}
use Rattle.net_everylist.proofs.walking.first_with.Tie as tie

-- whether v is one of them, and left with e
abbrev asked : List ℕ → (reflectors e v : ℕ) → ℕ
asked left reflectors e v = flag (is_in reflectors v && pair_in left v e)

abbrev invariant-loop-unseen : tie.invariant-loop-unseen
invariant-loop-unseen left n reflectors e unseen₀ unseen = Seeking (asked left reflectors e) reflectors n unseen

abbrev decreases-loop-unseen : tie.decreases-loop-unseen
decreases-loop-unseen left n reflectors e unseen₀ unseen = unseen

module _ (c : tie.After-lowest_bit-v invariant-loop-unseen decreases-loop-unseen) where
  abbrev start : tie.Start invariant-loop-unseen decreases-loop-unseen
  start = c.before.before.before

  off : let a = start.args in (v : ℕ) → bit_n a.reflectors v ≡ 0 → asked a.left.now a.reflectors a.e v ≡ 0
  off = with-off start.args.left.now start.args.reflectors start.args.e

  below : c.lowest_bit-v.result < start.args.n
  below = seeking-below _ _ _ off _ c.loop-unseen.invariant start.requires.2 _ c.lowest_bit-v.ensures.0

  visited : bit_n start.args.reflectors c.lowest_bit-v.result ≡ 1
  visited = seeking-set _ _ _ off _ c.loop-unseen.invariant start.requires.2 _ c.lowest_bit-v.ensures.0

returns : tie.Need-returns-then-has_bit invariant-loop-unseen decreases-loop-unseen
returns c =
    let v = c.before.before.before in
    seeking-hit _ _ _ (off v.before) _ v.loop-unseen.invariant (start v.before).requires.2 _ v.lowest_bit-v.ensures.0
    (with-hit (start v.before).args.left.now (start v.before).args.reflectors (start v.before).args.e v.lowest_bit-v.result (visited v.before) (sym c.has_bit.ensures ∙ c.if-has_bit.true))

loop-again : tie.Need-loop-unseen-preserved invariant-loop-unseen decreases-loop-unseen
loop-again c =
    let b = c in
    let v = c.before.before.before.before in
    let low = v.lowest_bit-v.ensures.0 in
    seeking-more _ _ _ (off v.before) _ v.loop-unseen.invariant (start v.before).requires.2 _ low _ (c.without_lowest-unseen.ensures.1 _ low)
    (with-miss (start v.before).args.left.now (start v.before).args.reflectors (start v.before).args.e v.lowest_bit-v.result (sym b.has_bit.ensures ∙ c.if-has_bit.false))

pub first_with_spec : {M : Type 1} → statement M
first_with_spec =
    tie.close
    (tie.spec
    invariant-loop-unseen
    decreases-loop-unseen
    (λ c. seeking-start _ _ _)
    (λ c κs. search rules)
    (λ c. omega (arith, below c))
    (λ c. omega (arith, below c.before))
    (λ c κs. search rules)
    returns
    (λ c κs. search rules)
    (λ c. c.without_lowest-unseen.ensures.0)
    loop-again
    (λ c.
    let d = c in
    seeking-miss _ _ _ (with-off d.args.left.now d.args.reflectors d.args.e) _ c.loop-unseen.invariant c.loop-unseen-test.false))
