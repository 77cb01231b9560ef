-- Laws of writing into a buffer: its length, bytes stored one by one, one write after another, and a loop of writes.
use Prim.Native.Nat.{ℕ, ◌+◌, ◌*◌, ◌≤◌, ◌<◌}
use native.Mathlib.Nat.{zero-add}
use native.Mathlib.Omega.{arith}
use mathlib.Core.Path.{◌≡◌, ◌∙◌, sym, ap, ap₂}
use mathlib.Core.List.{List, ◌++◌, append_assoc}
use lib.ListN.{length, take, drop, length-append, length-drop}
use lib.Seq.{take_at, drop-drop, drop-append-add, length-take-le, sets, sets-eq}
use Rattle.base.specs.Buffer.{written}
use Rattle.base.specs.Tab.{joined}
use Rattle.base.proofs.Joined.{Joining, length-joined, join-start, join-length, join-room, join_more, join-done}

module _ (d : List ℕ) (at : ℕ) (s : List ℕ) (h : at + length s ≤ length d) where
  -- the bytes that are written, after those before them, end at the next place
  length_front : length (take at d ++ s) ≡ at + length s
  length_front = length-append (take at d) s ∙ omega (arith, length-take-le at d (omega arith))

  pub length-written : length (written d at s) ≡ length d
  unfolding written
  length-written =
      length-append (take at d ++ s) (drop (at + length s) d) ∙ omega (arith, length_front, length-drop (at + length s) d)

  pub written_then : (t : List ℕ) → written (written d at s) (at + length s) t ≡ written d at (s ++ t)
  unfolding written
  written_then t =
      let k : ℕ = at + length s in
      let p : List ℕ = take at d ++ s in
      let far : k + length t ≡ at + length (s ++ t) = omega (arith, length-append s t) in
      let after : drop (k + length t) (p ++ drop k d) ≡ drop (at + length (s ++ t)) d =
      ap (λ n. drop (n + length t) (p ++ drop k d)) (sym length_front)
      ∙ drop-append-add p (drop k d) (length t)
      ∙ drop-drop (length t) k d
      ∙ ap (λ n. drop n d) far
      in
      ap₂ (λ x y. x ++ t ++ y) (take_at p (drop k d) k length_front) after
      ∙ ap (λ x. x ++ drop (at + length (s ++ t)) d) (append_assoc (take at d) s t)

  -- bytes that are stored one by one
  pub sets-written : sets d at s ≡ written d at s
  unfolding written
  sets-written = sets-eq s d at h

-- bytes of a known length
written_of : (d : List ℕ) (at : ℕ) (s : List ℕ) (size : ℕ) → length s ≡ size → written d at s ≡ take at d ++ s ++ drop (at + size) d
unfolding written
written_of d at s size e = rw e

-- bytes w written one after the other from `at` on into a buffer that was d
pub record Laid (d : List ℕ) (at : ℕ) (w l : List ℕ) : Type 0 where
  pub within : at + length w ≤ length d
  pub is : l ≡ written d at w

module _ {d w l : List ℕ} {at : ℕ} (f : Laid d at w l) where
  -- the bytes t after them
  pub laid_then : (next : ℕ) (t : List ℕ) {m : List ℕ} → next ≡ at + length w → next + length t ≤ length d → m ≡ written l next t
      → Laid d at (w ++ t) m
  laid_then next t a h e = record {
    within = omega (arith, length-append w t);
    is = e ∙ ap₂ (λ x k. written x k t) f.is a ∙ written_then d at w f.within t;
  }

-- from the front on
pub laid-front : {d w l : List ℕ} → Laid d 0 w l → l ≡ w ++ drop (length w) d
unfolding written
laid-front f = f.is ∙ rw zero-add

-- a loop that writes the pieces f 0, .. , f (n - 1), each of `size` bytes, from `at` on into a buffer that was d, and has written i of them
pub record Pieces (f : ℕ → List ℕ) (size n : ℕ) (d : List ℕ) (at : ℕ) (l : List ℕ) (i : ℕ) : Type 0 where
  pub each : (j : ℕ) → length (f j) ≡ size
  pub joining : Joining f size n d at l i

pub pieces-start : {f : ℕ → List ℕ} {size n at : ℕ} {d : List ℕ} → ((j : ℕ) → length (f j) ≡ size) → at + size * n ≤ length d
    → Pieces f size n d at d 0
pieces-start {f} {size} {n} {at} {d} e h = record { each = e; joining = join-start f size e n d at h }

module _ {f : ℕ → List ℕ} {size n at i : ℕ} {d l : List ℕ} (w : Pieces f size n d at l i) where
  pub pieces-length : length l ≡ length d
  pieces-length = join-length f size w.each n d at l i w.joining

  pub pieces_room : i < n → at + size * i + size ≤ length l
  pieces_room = join-room f size w.each n d at l i w.joining

  pub pieces_more : {m : List ℕ} → i < n → m ≡ written l (at + size * i) (f i) → Pieces f size n d at m (i + 1)
  pieces_more {m} h e = record {
    each = w.each;
    joining =
        join_more f size w.each n d at l i w.joining m h (e ∙ written_of l (at + size * i) (f i) size (w.each i));
  }

  pub pieces-done : n ≤ i → l ≡ written d at (joined f n)
  pieces-done h =
      join-done f size w.each n d at l i w.joining h
      ∙ sym (written_of d at (joined f n) (size * n) (length-joined f size w.each n))
