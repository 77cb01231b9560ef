-- How many routers lie in groups of two or more: as many as the word of them has bits.
use Prim.Native.Nat.{ℕ, zero, suc, ◌+◌, ◌/◌, ◌%◌, ◌^◌, ◌≤◌, ◌<◌, min}
use native.Mathlib.Omega.{arith}
use mathlib.Core.Path.{◌≡◌, refl, ◌∙◌, sym, ap}
use mathlib.Core.List.{List}
use mathlib.Core.Logic.{⊎_elim}
use lib.Count.{ones, ones_step}
use lib.Pow.{shr-shr}
use Rattle.base.specs.Bits.{bit_n}
use Rattle.base.specs.Seek.{count}
use Rattle.base.proofs.Numbers.{eq-or-ne}
use Rattle.base.proofs.Seek.{count_none, count-suc, count-cong}
use Rattle.graph_groups.specs.Closure.{closure}
use Rattle.graph_groups.specs.Groups.{grouped}
use Rattle.route_rules.specs.Instance.{Instance}
use Rattle.route_rules.specs.Reliance.{reliance}
use Rattle.net_groups.specs.GroupRows.{GroupRows}

-- a count from the other end
count-first : (f : ℕ → ℕ) (n : ℕ) → count f (suc n) ≡ min 1 (f 0) + count (λ i. f (suc i)) n
count-first f zero = omega (arith, count-suc f 0, count_none f, count_none (λ i. f (suc i)))
count-first f (suc n) = omega (arith, count-suc f (suc n), count-suc (λ i. f (suc i)) n, count-first f n)

ones_none : ones 0 ≡ 0
unfolding ones
ones_none = refl

pub ones-count : (k x : ℕ) → x < 2 ^ k → ones x ≡ count (bit_n x) k
ones-count zero x l = let e : x ≡ 0 = omega arith in ap ones e ∙ ones_none ∙ sym (count_none (bit_n x))
ones-count (suc k) x l =
    let rest : count (λ i. bit_n x (suc i)) k ≡ count (bit_n (x / 2)) k
    = count-cong _ _ k (λ i m. sym (ap (λ y. y % 2) (shr-shr x 1 i ∙ ap (λ j. x / 2 ^ j) (omega arith)))) in
    omega (arith, ones_step x, count-first (bit_n x) k, ones-count k (x / 2) (omega arith))

-- what says no from n on is counted below n
count_past : (f : ℕ → ℕ) (n m : ℕ) → n ≤ m → ((i : ℕ) → n ≤ i → f i ≡ 0) → count f m ≡ count f n
count_past f n zero l h = ap (count f) (omega arith)
count_past f n (suc m) l h =
    ⊎_elim (λ (e : n ≡ suc m). ap (count f) (sym e))
    (λ (e : n ≡ suc m → ⊥). omega (arith, count-suc f m, h m (omega arith), count_past f n m (omega arith) h))
    (eq-or-ne n (suc m))

module _ (I : Instance) (relied closed : List ℕ) (word : ℕ) (g : GroupRows I relied closed word) where
  -- of the routers below one, and of all
  pub counted-below : (w : ℕ) → w ≤ I.n → count (bit_n word) w ≡ count (grouped (closure (reliance I) I.n) I.n) w
  counted-below w l = count-cong (bit_n word) _ w (λ i m. g.grouped i (omega arith))

  pub counted-all : I.n ≤ 64 → count (bit_n word) 64 ≡ count (grouped (closure (reliance I) I.n) I.n) I.n
  counted-all l = count_past (bit_n word) I.n 64 l g.past ∙ counted-below I.n (omega arith)
