-- A table of checks in order, each with its number: the number given is that of the first that fails.
use Prim.Native.Nat.{ℕ, zero, suc, ◌≤◌, ◌<◌}
use native.Mathlib.Omega.{arith}
use mathlib.Core.Path.{◌≡◌, refl, ◌∙◌, sym, ap}
use mathlib.Core.Bool.{Bool, true, false, not, ◌&&◌, ◌||◌, or-true}
use mathlib.Core.List.{List, [], ◌∷◌}
use mathlib.Core.Logic.{◌⊎◌, inl, inr, ⊎_elim, ◌↔◌}
use borrow.Author.Tests.{eq-eqb, ltb-true}
use lib.Dec.{ltb, eqb}
use lib.ListN.{length, get_or}
use Rattle.base.proofs.Numbers.{both_left, both_right, not-both}
use Rattle.plan_rules.specs.Refusal.{refuse}

-- the number of the first check that fails; 0 for none
unfoldable pub first_failing : List ℕ → List Bool → ℕ
first_failing [] checks = 0
first_failing (number ∷ numbers) [] = 0
first_failing (number ∷ numbers) (ok ∷ checks) = refuse ok number (first_failing numbers checks)

unfoldable pub among : ℕ → List ℕ → Bool
among x [] = false
among x (number ∷ numbers) = eqb x number || among x numbers

-- no number is 0, and none stands there twice
unfoldable pub distinct : List ℕ → Bool
distinct [] = true
distinct (number ∷ numbers) = ltb 0 number && (not (among number numbers) && distinct numbers)

-- row by row, the check passes exactly if its facts hold, where those of the rows before it do
unfoldable pub Decide : List Bool → List (Type 0) → Type 0
Decide [] [] = Unit {0}
Decide [] (fact ∷ facts) = ⊥
Decide (ok ∷ checks) [] = ⊥
Decide (ok ∷ checks) (fact ∷ facts) = ((ok ≡ true) ↔ fact) × (fact → Decide checks facts)

abbrev pub Held : List (Type 0) → ℕ → Type 0
Held facts row = get_or facts row (Unit {0})

-- `number` is given exactly if the facts of row `at` fail and those of every row before it hold
pub record FirstFails (facts : List (Type 0)) (at result number : ℕ) : Type 0 where
  pub before : result ≡ number → (j : ℕ) → j < at → Held facts j
  pub fails : result ≡ number → Held facts at → ⊥
  pub given : ((j : ℕ) → j < at → Held facts j) → (Held facts at → ⊥) → result ≡ number

among-at : (numbers : List ℕ) (at : ℕ) → at < length numbers → among (get_or numbers at 0) numbers ≡ true
unfolding among
among-at [] at l = absurd (omega arith)
among-at (number ∷ numbers) zero l = ap (λ b. b || among number numbers) (eq-eqb number number refl)
among-at (number ∷ numbers) (suc at) l =
    ap (◌||◌ (eqb (get_or numbers at 0) number)) (among-at numbers at (omega arith)) ∙ or-true (eqb (get_or numbers at 0) number)

-- what is given stands in the table
given-among : (numbers : List ℕ) (checks : List Bool) → (first_failing numbers checks ≡ 0) ⊎ (among (first_failing numbers checks) numbers ≡ true)
unfolding first_failing refuse among
given-among [] checks = inl refl
given-among (number ∷ numbers) [] = inl refl
given-among (number ∷ numbers) (true ∷ checks) =
    ⊎_elim inl
    (λ (h : among (first_failing numbers checks) numbers ≡ true).
    inr (ap (◌||◌ (eqb (first_failing numbers checks) number)) h ∙ or-true (eqb (first_failing numbers checks) number)))
    (given-among numbers checks)
given-among (number ∷ numbers) (false ∷ checks) = inr (ap (λ b. b || among number numbers) (eq-eqb number number refl))

-- the first of distinct numbers is neither 0 nor among the others, and those are distinct
module _ (number : ℕ) (numbers : List ℕ) (d : distinct (number ∷ numbers) ≡ true) where
  some : 0 < number
  unfolding distinct
  some = ltb-true 0 number (both_left _ _ d)

  rest-distinct : distinct numbers ≡ true
  unfolding distinct
  rest-distinct = both_right (not (among number numbers)) _ (both_right (ltb 0 number) _ d)

  alone : among number numbers ≡ true → ⊥
  unfolding distinct
  alone h = not-both (not (among number numbers)) (both_left _ _ (both_right (ltb 0 number) _ d)) (ap not h)

  not-later : (checks : List Bool) → first_failing numbers checks ≡ number → ⊥
  not-later checks e =
      ⊎_elim (λ (z : first_failing numbers checks ≡ 0). absurd (omega (arith, some)))
      (λ (h : among (first_failing numbers checks) numbers ≡ true). alone (ap (λ x. among x numbers) (sym e) ∙ h))
      (given-among numbers checks)

-- the facts of the rows before one: none, and one row more
pub held_none : (facts : List (Type 0)) (j : ℕ) → j < 0 → Held facts j
held_none facts j l = absurd (omega arith)

pub held-too : {fact : Type 0} (facts : List (Type 0)) {at : ℕ} → fact → ((j : ℕ) → j < at → Held facts j) → (j : ℕ) → j < suc at → Held (fact ∷ facts) j
held-too facts held rest zero l = held
held-too facts held rest (suc j) l = rest j (omega arith)

pub first-fails : (numbers : List ℕ) (checks : List Bool) (facts : List (Type 0)) → distinct numbers ≡ true → Decide checks facts
    → (at : ℕ) → at < length numbers → at < length checks → FirstFails facts at (first_failing numbers checks) (get_or numbers at 0)
unfolding first_failing Decide refuse
first-fails [] checks facts n d at l m = absurd (omega arith)
first-fails (number ∷ numbers) [] facts n d at l m = absurd (omega arith)
first-fails (number ∷ numbers) (ok ∷ checks) [] n d at l m = absurd d
first-fails (number ∷ numbers) (true ∷ checks) (fact ∷ facts) n d zero l m =
    record {
      before = λ e. absurd (not-later number numbers n checks e);
      fails = λ e. absurd (not-later number numbers n checks e);
      given = λ held fails. absurd (fails (d.0.0 refl));
    }
first-fails (number ∷ numbers) (true ∷ checks) (fact ∷ facts) n d (suc at) l m =
    let rest = first-fails numbers checks facts (rest-distinct number numbers n) (d.1 (d.0.0 refl)) at (omega arith) (omega arith) in
    record {
      before = λ e. held-too facts (d.0.0 refl) (rest.before e);
      fails = rest.fails;
      given = λ held fails. rest.given (λ j h. held (suc j) (omega arith)) fails;
    }
first-fails (number ∷ numbers) (false ∷ checks) (fact ∷ facts) n d zero l m =
    record {
      before = λ e j h. absurd (omega arith);
      fails = λ e held. not-both true refl (sym (d.0.1 held));
      given = λ held fails. refl;
    }
first-fails (number ∷ numbers) (false ∷ checks) (fact ∷ facts) n d (suc at) l m =
    let other : number ≡ get_or numbers at 0 → ⊥ =
    λ e. alone number numbers n (ap (λ x. among x numbers) e ∙ among-at numbers at (omega arith)) in
    record {
      before = λ e. absurd (other e);
      fails = λ e. absurd (other e);
      given = λ held fails. not-both true refl (sym (d.0.1 (held 0 (omega arith))));
    }

-- no number is given exactly if the facts of every row hold
unfoldable pub AllOf : List (Type 0) → Type 0
AllOf [] = Unit {0}
AllOf (fact ∷ facts) = fact × AllOf facts

pub all_held : (numbers : List ℕ) (checks : List Bool) (facts : List (Type 0)) → distinct numbers ≡ true → length numbers ≡ length checks
    → Decide checks facts → first_failing numbers checks ≡ 0 → AllOf facts
unfolding first_failing Decide refuse AllOf
all_held numbers [] [] n l d e = tt
all_held numbers [] (fact ∷ facts) n l d e = absurd d
all_held numbers (ok ∷ checks) [] n l d e = absurd d
all_held [] (ok ∷ checks) (fact ∷ facts) n l d e = absurd (omega arith)
all_held (number ∷ numbers) (true ∷ checks) (fact ∷ facts) n l d e =
    (d.0.0 refl, all_held numbers checks facts (rest-distinct number numbers n) (omega arith) (d.1 (d.0.0 refl)) e)
all_held (number ∷ numbers) (false ∷ checks) (fact ∷ facts) n l d e = absurd (omega (arith, some number numbers n))

pub none-given : (numbers : List ℕ) (checks : List Bool) (facts : List (Type 0)) → Decide checks facts → AllOf facts → first_failing numbers checks ≡ 0
unfolding first_failing Decide refuse AllOf
none-given [] checks facts d h = refl
none-given (number ∷ numbers) [] facts d h = refl
none-given (number ∷ numbers) (ok ∷ checks) [] d h = absurd d
none-given (number ∷ numbers) (true ∷ checks) (fact ∷ facts) d h = none-given numbers checks facts (d.1 h.0) h.1
none-given (number ∷ numbers) (false ∷ checks) (fact ∷ facts) d h = not-both true refl (sym (d.0.1 h.0))

-- what is given stands at a place of the table
pub record Place (numbers : List ℕ) (given : ℕ) : Type 0 where
  pub at : ℕ
  pub below : at < length numbers
  pub is : given ≡ get_or numbers at 0

pub given-at : (numbers : List ℕ) (checks : List Bool) → (first_failing numbers checks ≡ 0) ⊎ Place numbers (first_failing numbers checks)
unfolding first_failing refuse
given-at [] checks = inl refl
given-at (number ∷ numbers) [] = inl refl
given-at (number ∷ numbers) (true ∷ checks) =
    ⊎_elim inl
    (λ (w : Place numbers (first_failing numbers checks)). inr (record { at = suc w.at; below = omega (arith, w.below); is = w.is }))
    (given-at numbers checks)
given-at (number ∷ numbers) (false ∷ checks) = inr (record { at = 0; below = omega arith; is = refl })
