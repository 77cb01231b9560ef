-- The walk over the lists, one after the other.
use Prim.Native.Nat.{ℕ, ◌+◌, ◌≤◌, ◌<◌}
use native.Mathlib.Numerals.{add-one}
use native.Mathlib.Omega.{arith}
use mathlib.Core.Path.{◌≡◌, refl, ◌∙◌, sym, ap}
use mathlib.Core.Bool.{true, false}
use mathlib.Core.List.{List}
use lib.Dec.{eqb}
use lib.ListN.{length, get_or}
use Rattle.base.specs.Below.{all_below}
use Rattle.base.proofs.Below.{all_none, all_more, all-fail}
use Rattle.plan_rules.specs.Lists.{list_place, list_at_ok, list_ok, each_list_ok}
use Rattle.plan_rules.proofs.Facts.{list-facts}

-- k lists are read and in order, and the next one's count byte is at `place`
pub record Walked (s : List ℕ) (n k place : ℕ) : Type 0 where
  pub at : place ≡ list_place s k
  pub held : all_below (list_ok s n) k ≡ true
  pub within : place ≤ length s

pub place-start : (s : List ℕ) → list_place s 0 ≡ 1
unfolding list_place
place-start s = refl

pub place-next : (s : List ℕ) (k : ℕ) → list_place s (k + 1) ≡ list_place s k + 1 + get_or s (list_place s k) 0
unfolding list_place
place-next s k = rw add-one

module _ (s : List ℕ) (n : ℕ) where
  pub walked_start : 1 ≤ length s → Walked s n 0 1
  walked_start h = record { at = sym (place-start s); held = all_none _; within = h }

  pub walked_more : (k place : ℕ) → Walked s n k place → list_at_ok s n place ≡ true → Walked s n (k + 1) (place + 1 + get_or s place 0)
  unfolding list_ok
  walked_more k place w h =
      record {
        at = ap (λ p. p + 1 + get_or s p 0) w.at ∙ sym (place-next s k);
        held = all_more (list_ok s n) k w.held (rw w.at at h);
        within = (list-facts s n place h).within;
      }

  pub each-fail : (m k place : ℕ) → k < m → Walked s n k place → list_at_ok s n place ≡ false → each_list_ok s n m ≡ false
  unfolding each_list_ok list_ok
  each-fail m k place l w h =
      let fails : all_below (list_ok s n) m ≡ false = all-fail (list_ok s n) m k l (rw w.at at h) in
      rw fails

  pub each-done : (m k place : ℕ) → k ≤ m → m ≤ k → Walked s n k place → each_list_ok s n m ≡ eqb place (length s)
  unfolding each_list_ok
  each-done m k place l h w =
      let e : k ≡ m = omega arith in
      rw (← e, w.held, w.at)
