-- What a call is lent, before it and after it.
use Rattle.std.specs.Borrow.{MutBor}
use denote.Triple.Both.{Both}

-- what a buffer or a variable holds before the call and after it
pub record Lent (A : Type 0) : Type 0 where
  pub before : A
  pub after : A

-- .. that a parameter of the call refers to
abbrev pub lent : {A : Type 0} → Both (MutBor A) (MutBor A) → Lent A
lent x = record { before = x.entry.now; after = x.exit.now }
