-- Bytes written into a caller's buffer.
use Rattle.std.specs.Prelude.{ℕ, ◌+◌, ◌≤◌, ◌≡◌, List, ◌++◌, length, drop}
use Rattle.base.specs.Buffer.{written}
use Rattle.text_fields.specs.declared.Text.{Text}

-- bytes were written at a text's end, at most `room` of them, within its buffer, which is the same and as long as before
pub record Put (room : ℕ) (before : Text) (bytes : List ℕ) (after : Text) : Type 0 where
  pub same : after.out.ghost_name ≡ before.out.ghost_name
  pub long : length after.out.now ≡ length before.out.now
  pub within : after.end ≤ length before.out.now
  pub short : after.end ≤ before.end + room
  pub place : after.end ≡ before.end + length bytes
  pub is : after.out.now ≡ written before.out.now before.end bytes

-- a text stands at the buffer's front, the rest is as before, and `size` is the text's length
pub record AtFront (buffer text after : List ℕ) (size : ℕ) : Type 0 where
  pub within : size ≤ length buffer
  pub long : size ≡ length text
  pub is : after ≡ text ++ drop size buffer
