-- Numbers in bytes, and parts of a slice of bytes.
use Rattle.std.specs.Prelude.{ℕ, zero, suc, ◌+◌, ◌*◌, ◌/◌, ◌%◌, ◌<◌, List, [], ◌∷◌, ◌≡◌, get_or, take, drop}
use Rattle.std.specs.Borrow.{Bor}

-- every item is a byte
abbrev pub Bytes : List ℕ → Type 0
Bytes s = (i : ℕ) → get_or s i 0 < 256

-- the number in the `width` bytes from `at` on, low byte first
abbrev pub little_endian : ℕ → List ℕ → ℕ → ℕ
little_endian zero s at = 0
little_endian (suc width) s at = get_or s at 0 + 256 * little_endian width s (at + 1)

-- a number in `width` bytes, low byte first
abbrev pub bytes_of : ℕ → ℕ → List ℕ
bytes_of zero number = []
bytes_of (suc width) number = number % 256 ∷ bytes_of width (number / 256)

-- an address is a block of memory and an offset in it: the one so many bytes on
abbrev pub bytes_on : ℕ × ℕ → ℕ → ℕ × ℕ
bytes_on address count = (address.0, count + address.1)

-- `part` is the `size` bytes of the slice `whole` from `start` on: its bytes, and its address within the slice
pub record PartOf (whole : Bor (List ℕ)) (start size : ℕ) (part : Bor (List ℕ)) : Type 0 where
  pub bytes : part.now ≡ take size (drop start whole.now)
  pub address : part.ref_ptr ≡ bytes_on whole.ref_ptr start
