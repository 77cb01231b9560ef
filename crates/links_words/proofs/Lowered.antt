-- A lowered table: how a loop starts, and goes on by one row.
use Prim.Native.Nat.{ℕ, ◌+◌, ◌*◌, ◌≤◌, ◌<◌, min}
use native.Mathlib.Omega.{arith}
use mathlib.Core.Path.{◌≡◌, refl, ◌∙◌, sym}
use mathlib.Core.List.{List}
use mathlib.Core.Logic.{⊎_elim}
use lib.ListN.{get_or}
use Rattle.base.proofs.Numbers.{eq-or-ne}
use Rattle.links_words.specs.Lowered.{capped, word_at, RowLowered, RowsLowered}

-- every row lowered to what goes through k
module _ (n k : ℕ) (t₀ : List ℕ) where
  pub rows_start : RowsLowered n k t₀ 0 t₀
  rows_start = record { long = refl; rows = λ i j l. absurd (omega arith); others = λ i j l m. refl }

  pub rows_more :
      (m : ℕ) (beyond t after : List ℕ) (i : ℕ) → n ≤ m → m ≤ 64 → k < n → ((j : ℕ) → j < m → get_or beyond j 0 ≡ word_at t₀ k j) →
      RowsLowered n k t₀ i t →
      RowLowered (word_at t i k) beyond t i m after →
      RowsLowered n k t₀ (i + 1) after
  rows_more m beyond t after i enough small u b h r = record {
    long = r.long ∙ h.long;
    rows = λ a j l o. ⊎_elim (here a j o) (there a j l o) (eq-or-ne a i);
    others = λ a j l o. r.later (64 * a + j) (omega arith) ∙ h.others a j (omega arith) o;
  }
    where
      here : (a j : ℕ) → j < n → a ≡ i → word_at after a j ≡ min (word_at t₀ a j) (capped (word_at t₀ a k + word_at t₀ k j))
      here a j o e =
          rw (e, r.row j (omega arith), b j (omega arith), h.others i j (omega arith) o, h.others i k (omega arith) u)

      there : (a j : ℕ) → a < i + 1 → j < n → (a ≡ i → ⊥) → word_at after a j ≡ min (word_at t₀ a j) (capped (word_at t₀ a k + word_at t₀ k j))
      there a j l o e = r.earlier (64 * a + j) (omega arith) ∙ h.rows a j (omega arith) o

  -- nothing goes first to k from a row that has no walk there
  pub rows-skip :
      (t : List ℕ) (i : ℕ) → ((p : ℕ) → get_or t p 0 < 65536) → k < n → RowsLowered n k t₀ i t → word_at t i k ≡ 65535 →
      RowsLowered n k t₀ (i + 1) t
  rows-skip t i words u h e = record {
    long = h.long;
    rows = λ a j b m. ⊎_elim (here a j m) (λ (g : a ≡ i → ⊥). h.rows a j (omega arith) m) (eq-or-ne a i);
    others = λ a j b m. h.others a j (omega arith) m;
  }
    where
      here : (a j : ℕ) → j < n → a ≡ i → word_at t a j ≡ min (word_at t₀ a j) (capped (word_at t₀ a k + word_at t₀ k j))
      here a j m g = rw g (omega (arith, h.others i j (omega arith) m, sym (h.others i k (omega arith) u) ∙ e, words (64 * i + j)))
