-- Sums, and groups counted from labels.
use Rattle.std.specs.Prelude.{ℕ, zero, suc, ◌+◌, cond, leb, eqb}
use Rattle.base.specs.Seek.{flag, count}

-- f 0 + f 1 + .. + f (n - 1)
unfoldable pub total : (ℕ → ℕ) → ℕ → ℕ
total f zero = 0
total f (suc n) = total f n + f n

-- "Two routers share a group" if a verdict gives them one label: how many of the n routers have label g, where `label w` is that of w
unfoldable pub group_size : (label : ℕ → ℕ) → ℕ → ℕ → ℕ
group_size label n g = count (λ w. flag (eqb (label w) g)) n

-- "a group of two or more": its size; any other counts nothing
abbrev pub size_from_two : ℕ → ℕ
size_from_two size = cond (leb 2 size) size 0

-- "the sizes of all such groups", of one list. A label is a router's number.
unfoldable pub group_sizes : (label : ℕ → ℕ) → ℕ → ℕ
group_sizes label n = total (λ g. size_from_two (group_size label n g)) n
