-- Sums as the code holds them: a word each, 64 words a router.
use Rattle.std.specs.Prelude.{ℕ, ◌*◌, ◌≤◌, ◌<◌, min, ◌≡◌, List, length}
use Rattle.std.proofs.Math.Option.{Option, none, some}
use Rattle.links_rules.specs.Sums.{Sums}
use Rattle.links_words.specs.Lowered.{word_at}

-- the word of a sum: one above 65,534 is held as 65,535, and so is no walk
abbrev pub word : Option ℕ → ℕ
word none = 65535
word (some d) = min d 65535

-- t holds the words of the sums D below n
pub record HoldsSums (D : Sums) (n : ℕ) (t : List ℕ) : Type 0 where
  pub room : 64 * n ≤ length t
  pub are : (i j : ℕ) → i < n → j < n → word_at t i j ≡ word (D i j)
