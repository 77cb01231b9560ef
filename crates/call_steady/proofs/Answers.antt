-- What the call answers, case by case.
use Rattle.std.specs.Prelude.{Option, Some, None}
use Prim.Native.Nat.{ℕ, ◌*◌, ◌≤◌, ◌<◌}
use native.Mathlib.Omega.{arith}
use mathlib.Core.Path.{◌≡◌, refl, ◌∙◌, sym, ap, ap₂}
use mathlib.Core.Bool.{Bool, true, false, cond}
use mathlib.Core.List.{List, ◌++◌}
use borrow.Author.Tests.{leb-true, le-leb, lt-leb}
use lib.ListN.{length, drop}
use Rattle.base.specs.Lent.{Lent}
use Rattle.plan_rules.specs.Refusal.{refuse}
use Rattle.plan_rules.proofs.Refused.{when-refused, when-given}
use Rattle.route_rules.specs.Instance.{Instance}
use Rattle.net_rules.specs.FromPlan.{instance_of}
use Rattle.steady_rules.specs.Numbers.{numbers_where}
use Rattle.steady_rules.specs.Steady.{steady_numbers, steady_count}
use Rattle.net_steady.specs.Building.{in_set}
use Rattle.net_steady.specs.SteadySet.{SetGiven}
use Rattle.call_rules.specs.Refusals.{has_list, egress_list_refusal, few_grouped, numbers_long, steady_checks, steady_refusal}
use Rattle.call_rules.proofs.Granted.{asked-refused, asked-passed}
use Rattle.call_steady.specs.Steady.{number_bytes, steady_answer, numbers_after, SteadyGiven, SteadyCall}
use Rattle.call_steady.specs.declared.steady.SteadyAnswer.{SteadyAnswer}
use Rattle.call_steady.specs.declared.steady.SteadyAnswer.TheVariants.{Refused, Listed}
use Rattle.call_steady.proofs.NumberList.{few-where}

-- what is left as it was
abbrev pub kept : {A : Type 0} → A → Lent A
kept x = record { before = x; after = x }

pub steady-refused : (number asked : ℕ) (I : Instance) (out : List ℕ) → number ≡ asked → (number ≡ 0 → ⊥)
    → SteadyGiven asked I (Refused number) (kept out)
unfolding steady_answer numbers_after
steady-refused number asked I out same h =
    let n : asked ≡ 0 → ⊥ = λ z. h (same ∙ z) in
    record {
      answer = ap Refused same ∙ sym (when-refused _ _ _ n);
      numbered = same;
      counted = sym (when-refused _ _ _ n);
      written = sym (when-refused _ _ _ n);
    }

-- the set that was handed back
module _ (I : Instance) (set : List ℕ) where
  found-is : (found : Option ℕ) (b : Bool) → SetGiven I found set → few_grouped I ≡ b → found ≡ cond b (Some (steady_count I)) None
  found-is found b g e = g.answer ∙ ap (λ b. cond b (Some (steady_count I)) None) e

  -- "if more than 12 routers lie in such groups"
  pub many-checks : SetGiven I None set → (out : List ℕ) → 15 ≡ steady_checks I out
  unfolding steady_checks refuse
  many-checks g out = go (few_grouped I) refl
    where
      go : (b : Bool) → few_grouped I ≡ b → 15 ≡ refuse (few_grouped I) 15 (refuse (numbers_long I out) 9 0)
      go true e =
          let z : ◌≡◌ {A = Option ℕ} None (Some (steady_count I)) = found-is None true g e in
          let y : ◌≡◌ {A = ℕ} 0 1 = cc in
          absurd (omega arith)
      go false e = rw e

  module _ (count : ℕ) (g : SetGiven I (Some count) set) where
    few : (few_grouped I ≡ true) × (count ≡ steady_count I)
    few = go (few_grouped I) refl
      where
        go : (b : Bool) → few_grouped I ≡ b → (few_grouped I ≡ true) × (count ≡ steady_count I)
        go true e = (e, let z : ◌≡◌ {A = Option ℕ} (Some count) (Some (steady_count I)) = found-is (Some count) true g e in cc)
        go false e =
            let z : ◌≡◌ {A = Option ℕ} (Some count) None = found-is (Some count) false g e in
            let y : ◌≡◌ {A = ℕ} 0 1 = cc in
            absurd (omega arith)

    set_is : numbers_where (in_set set) 4096 ≡ steady_numbers I
    set_is = g.listed (leb-true _ _ few.0)

    pub set-counted : count ≡ length (numbers_where (in_set set) 4096)
    set-counted = few.1 ∙ sym (ap length set_is)

    pub set-small : count ≤ 4096
    set-small = omega (arith, set-counted, few-where (in_set set) 4096)

    -- "The call needs two bytes for each number listed"
    pub short-checks : (out : List ℕ) → length out < 2 * count → 9 ≡ steady_checks I out
    unfolding steady_checks refuse
    short-checks out l =
        let short : numbers_long I out ≡ false = lt-leb (2 * steady_count I) (length out) (omega (arith, few.1)) in
        rw (few.0, short)

    pub listed-given : (out : Lent (List ℕ)) → 2 * count ≤ length out.before
        → out.after ≡ number_bytes (numbers_where (in_set set) 4096) ++ drop (2 * count) out.before
        → SteadyGiven (steady_checks I out.before) I (Listed count) out
    unfolding steady_checks refuse steady_answer numbers_after
    listed-given out l e =
        let long : numbers_long I out.before ≡ true = le-leb (2 * steady_count I) (length out.before) (omega (arith, few.1)) in
        let none : steady_checks I out.before ≡ 0 = rw (few.0, long) in
        record {
          answer = ap Listed few.1 ∙ sym (when-given _ _ _ none);
          numbered = sym none;
          counted = few.1 ∙ sym (when-given _ _ _ none);
          written = e ∙ ap₂ (λ k c. number_bytes k ++ drop (2 * c) out.before) set_is few.1 ∙ sym (when-given _ _ _ none);
        }

-- the plan and the list are judged before
module _ (plan : List ℕ) (k : ℕ) where
  pub steady-unasked : (number : ℕ) (out : List ℕ) → number ≡ egress_list_refusal plan k → (number ≡ 0 → ⊥) → SteadyCall plan k (Refused number) (kept out)
  unfolding egress_list_refusal steady_refusal
  steady-unasked number out e h =
      steady-refused number _ (instance_of plan k) out (asked-refused plan (has_list plan k) (steady_checks (instance_of plan k) out) number e h) h

  pub steady-asked : (r : SteadyAnswer) (out : Lent (List ℕ)) → egress_list_refusal plan k ≡ 0
      → SteadyGiven (steady_checks (instance_of plan k) out.before) (instance_of plan k) r out → SteadyCall plan k r out
  unfolding egress_list_refusal steady_refusal
  steady-asked r out e h =
      rw (asked-passed plan (has_list plan k) (steady_checks (instance_of plan k) out.before) e) at h
