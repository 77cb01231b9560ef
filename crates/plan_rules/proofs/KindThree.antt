-- The bytes of a kind 3 body: how many they are, and what is read of them.
use Prim.Native.Nat.{ℕ, ◌+◌, ◌*◌, ◌^◌, ◌<◌}
use native.Mathlib.Nat.{zero-add, mul-add, mul_assoc, mul_comm}
use native.Mathlib.Omega.{arith}
use mathlib.Core.Path.{◌≡◌, ◌∙◌, sym, ap}
use mathlib.Core.List.{List}
use lib.ListN.{length, get_or, take, drop}
use lib.Seq.{take_all}
use Rattle.base.specs.Bytes.{Bytes, bytes_of}
use Rattle.base.proofs.Bytes.{length-bytes, little-cong, number-back, bytes_back}
use Rattle.base.proofs.Joined.{length-joined, get_or-joined, joined-cong, joined-parts}
use Rattle.base.proofs.Numbers.{item-within, cell-lt}
use Rattle.plan_rules.specs.Distances.{number_at, row_of, body_of}

module _ (width : ℕ) where
  pub length-row : (number : ℕ → ℕ) (n : ℕ) → length (row_of width number n) ≡ width * n
  unfolding row_of
  length-row number n = length-joined (λ e. bytes_of width (number e)) width (λ e. length-bytes width (number e)) n

  pub length-body : (number : ℕ → ℕ → ℕ) (n : ℕ) → length (body_of width number n) ≡ width * (n * n)
  unfolding body_of
  length-body number n =
      length-joined (λ u. row_of width (number u) n) (width * n) (λ u. length-row (number u) n) n ∙ mul_assoc width n n

  pub body-cong : (f g : ℕ → ℕ → ℕ) (n : ℕ) → ((u e : ℕ) → u < n → e < n → f u e ≡ g u e) → body_of width f n ≡ body_of width g n
  unfolding body_of row_of
  body-cong f g n h = joined-cong _ _ n (λ u l. joined-cong _ _ n (λ e m. ap (bytes_of width) (h u e l m)))

  -- where row u, column e stands: after u rows and e numbers
  cell-place : (n u e : ℕ) → width * (u * n + e) ≡ width * n * u + width * e
  cell-place n u e = omega (arith, mul-add width (u * n) e, mul_assoc width n u, ap (◌*◌ width) (mul_comm u n))

  module _ (number : ℕ → ℕ → ℕ) (n u e : ℕ) (l : u < n) (m : e < n) where
    byte-read : (b : ℕ) → b < width → get_or (body_of width number n) (width * (u * n + e) + b) 0 ≡ get_or (bytes_of width (number u e)) b 0
    unfolding body_of row_of
    byte-read b h =
        let place : width * (u * n + e) + b ≡ width * n * u + (width * e + b) = omega (arith, cell-place n u e) in
        ap (λ k. get_or (body_of width number n) k 0) place
        ∙ get_or-joined (λ v. row_of width (number v) n) (width * n) (λ v. length-row (number v) n) n u (width * e + b) 0 l (omega (arith, item-within width n e m))
        ∙ get_or-joined (λ f. bytes_of width (number u f)) width (λ f. length-bytes width (number u f)) n e b 0 m h

    pub number_read : number u e < 256 ^ width → number_at width (body_of width number n) (u * n + e) ≡ number u e
    number_read small =
        little-cong width (body_of width number n) (bytes_of width (number u e)) (width * (u * n + e)) 0 (λ b h. byte-read b h ∙ rw zero-add)
        ∙ number-back width (number u e) small

  -- the numbers that are read of a body of bytes, written again, are that body
  pub body_back : (s : List ℕ) → Bytes s → (n : ℕ) → length s ≡ width * (n * n)
      → body_of width (λ u e. number_at width s (u * n + e)) n ≡ s
  unfolding body_of row_of
  body_back s bytes n long =
      joined-cong _ (λ u. take (width * n) (drop (0 + width * n * u) s)) n
      (λ u l.
      joined-cong _ (λ e. take width (drop (width * n * u + width * e) s)) n
      (λ e m.
      bytes_back s bytes width (width * (u * n + e)) (omega (arith, item-within width (n * n) (u * n + e) (cell-lt n u e l m)))
      ∙ ap (λ k. take width (drop k s)) (cell-place n u e))
      ∙ joined-parts s width (width * n * u) n
      ∙ ap (λ k. take (width * n) (drop k s)) (sym (zero-add (width * n * u))))
      ∙ joined-parts s (width * n) 0 n
      ∙ take_all (width * n * n) s (omega (arith, mul_assoc width n n))
