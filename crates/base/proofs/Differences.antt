-- The difference of two numbers as an integer: its sign, and how large it is.
use Prim.Native.Nat.{ℕ, zero, suc, ◌-◌, ◌≤◌, ◌<◌}
use native.Mathlib.Omega.{arith}
use mathlib.Core.Path.{◌≡◌, ap, ◌∙◌, sym}
use mathlib.Core.Logic.{◌⊎◌, ◌↔◌, inl, inr}
use borrow.Author.Tests.{lt-ltb, le-ltb}
use lib.Dec.{lt→ltb, ltb→lt}
use lib.IntN.{pos, negsuc, nat_abs, ◌-ℤ◌, pos-ne-negsuc}
use lib.Signed.{◌<ℤ◌, lt_z_yes}
use Rattle.base.proofs.Numbers.{lt-or-le}

pub difference-less : (a b : ℕ) → a < b → pos a -ℤ pos b ≡ negsuc (b - suc a)
difference-less a zero l = absurd (omega arith)
difference-less a (suc b) l = cc (lt-ltb a (suc b) l)

pub difference-rest : (a b : ℕ) → b ≤ a → pos a -ℤ pos b ≡ pos (a - b)
difference-rest a zero l = ap pos (omega arith)
difference-rest a (suc b) l = cc (le-ltb a (suc b) l)

-- the sign says how the two compare
module _ (a b : ℕ) where
  pub difference-negative : ((pos a -ℤ pos b) <ℤ pos 0) ↔ (a < b)
  difference-negative = (λ h. go h (lt-or-le a b), λ l. rw (difference-less a b l) (lt_z_yes tt))
    where
      go : (pos a -ℤ pos b) <ℤ pos 0 → (a < b) ⊎ (b ≤ a) → a < b
      go h (inl l) = l
      go h (inr l) =
          let n : pos (a - b) <ℤ pos 0 = rw (difference-rest a b l) at h in
          omega (arith, ltb→lt (a - b) 0 n.lt)

  pub difference-positive : (pos 0 <ℤ (pos a -ℤ pos b)) ↔ (b < a)
  difference-positive =
      (λ h. go h (lt-or-le a b), λ l. rw (difference-rest a b (omega arith)) (lt_z_yes (lt→ltb 0 (a - b) (omega arith))))
    where
      go : pos 0 <ℤ (pos a -ℤ pos b) → (a < b) ⊎ (b ≤ a) → b < a
      go h (inl l) = let n : pos 0 <ℤ negsuc (b - suc a) = rw (difference-less a b l) at h in absurd n.lt
      go h (inr l) =
          let n : pos 0 <ℤ pos (a - b) = rw (difference-rest a b l) at h in
          omega (arith, ltb→lt 0 (a - b) n.lt)

  pub difference-zero : ((pos a -ℤ pos b) ≡ pos 0) ↔ (a ≡ b)
  difference-zero = (λ h. go h (lt-or-le a b), λ q. difference-rest a b (omega arith) ∙ ap pos (omega arith))
    where
      go : pos a -ℤ pos b ≡ pos 0 → (a < b) ⊎ (b ≤ a) → a ≡ b
      go h (inl l) = absurd (pos-ne-negsuc 0 (b - suc a) (sym h ∙ difference-less a b l))
      go h (inr l) = let n : a - b ≡ 0 = ap nat_abs (sym (difference-rest a b l) ∙ h) in omega arith

-- of two numbers up to a bound it is within that bound, of either sign
pub difference-within : (most a b : ℕ) → a ≤ most → b ≤ most → nat_abs (pos a -ℤ pos b) ≤ most
difference-within most a b h k = go (lt-or-le a b)
  where
    go : (a < b) ⊎ (b ≤ a) → nat_abs (pos a -ℤ pos b) ≤ most
    go (inl l) = rw (difference-less a b l) (omega arith)
    go (inr l) = rw (difference-rest a b l) (omega arith)
