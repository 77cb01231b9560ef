-- Each check of rows 1 to 3 passes exactly if its plain facts hold: `..-facts` one way, `..-holds` the other.
use Prim.Native.Nat.{ℕ, ◌≤◌}
use native.Mathlib.Omega.{arith}
use mathlib.Core.Path.{◌≡◌}
use mathlib.Core.Bool.{true, ◌&&◌}
use mathlib.Core.List.{List}
use mathlib.Core.Logic.{◌⊎◌, inl, inr, ⊎_elim}
use borrow.Author.Tests.{le-leb}
use lib.Dec.{leb, eqb}
use Rattle.base.proofs.Numbers.{either_true, facts}
use Rattle.plan_contents.specs.declared.entries.Entry.{Entry}
use Rattle.plan_contents.specs.Header.{mark_ok, header_ok, router_count_ok}
use Rattle.plan_contents.specs.Contents.{kinds_ok, places_ok, sizes_ok, contents_ok}
use Rattle.plan_contents.specs.HeaderFacts.{Header, RouterCount, Contents}

-- row 1
marked : (letter plan_length : ℕ) → mark_ok letter plan_length ≡ true
    → ((letter ≡ 49) × (plan_length ≤ 16731)) ⊎ ((letter ≡ 50) × (plan_length ≤ 24923))
unfolding mark_ok
marked letter plan_length h =
    ⊎_elim (λ (k : (eqb letter 49 && leb plan_length 16731) ≡ true). inl (simp facts at k))
    (λ (k : (eqb letter 50 && leb plan_length 24923) ≡ true). inr (simp facts at k)) (either_true _ _ h)

mark-holds : (letter plan_length : ℕ) → ((letter ≡ 49) × (plan_length ≤ 16731)) ⊎ ((letter ≡ 50) × (plan_length ≤ 24923))
    → mark_ok letter plan_length ≡ true
unfolding mark_ok
mark-holds letter plan_length (inl f) = rw (f.0, le-leb plan_length 16731 f.1)
mark-holds letter plan_length (inr f) = rw (f.0, le-leb plan_length 24923 f.1)

pub header-facts : (plan : List ℕ) → header_ok plan ≡ true → Header plan
unfolding header_ok
header-facts plan h =
    let f = simp facts at h in
    record {
      least = f.0.0.0.0.0;
      letter_r = f.0.0.0.0.1;
      letter_r₂ = f.0.0.0.1;
      letter_p = f.0.0.1;
      marked = marked _ _ f.0.1;
      four_entries = f.1;
    }

pub header-holds : (plan : List ℕ) → Header plan → header_ok plan ≡ true
unfolding header_ok
header-holds plan f =
    simp facts
    (((((f.least, f.letter_r), f.letter_r₂), f.letter_p), mark-holds _ _ f.marked), f.four_entries)

-- row 2
pub count-facts : (n : ℕ) → router_count_ok n ≡ true → RouterCount n
unfolding router_count_ok
count-facts n h = omega (arith, simp facts at h)

pub count-holds : (n : ℕ) → RouterCount n → router_count_ok n ≡ true
unfolding router_count_ok
count-holds n f = simp facts (omega arith)

-- row 3
pub contents-facts : (table : List Entry) (width n plan_length : ℕ) → contents_ok table width n plan_length ≡ true
    → Contents table width n plan_length
unfolding contents_ok kinds_ok places_ok sizes_ok
contents-facts table width n plan_length h = omega (arith, simp facts at h)

pub contents-holds : (table : List Entry) (width n plan_length : ℕ) → Contents table width n plan_length
    → contents_ok table width n plan_length ≡ true
unfolding contents_ok kinds_ok places_ok sizes_ok
contents-holds table width n plan_length f = simp facts (omega arith)
