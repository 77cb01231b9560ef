-- Document 02, "Which steady tables a suspect plan has": the call that lists them. What it counts and writes for a plan's list are the
-- numbers of the plan's network with that list (`steady_numbers`).
use Rattle.std.specs.Prelude.{ℕ, ◌*◌, ◌≡◌, List, ◌++◌, length, get_or, drop}
use Rattle.base.specs.Bytes.{bytes_of}
use Rattle.base.specs.Lent.{Lent}
use Rattle.base.specs.Tab.{joined}
use Rattle.plan_rules.specs.Refused.{unless_refused, field}
use Rattle.route_rules.specs.Instance.{Instance}
use Rattle.net_rules.specs.FromPlan.{instance_of}
use Rattle.steady_rules.specs.Steady.{steady_numbers, steady_count}
use Rattle.call_rules.specs.Refusals.{steady_refusal}
use Rattle.call_steady.specs.declared.steady.SteadyAnswer.{SteadyAnswer}
use Rattle.call_steady.specs.declared.steady.SteadyAnswer.TheVariants.{Refused, Listed}

-- "two bytes for each number listed, low byte first"
unfoldable pub number_bytes : List ℕ → List ℕ
number_bytes numbers = joined (λ i. bytes_of 2 (get_or numbers i 0)) (length numbers)

-- `number` is the refusal of the call, and I the plan's network with the list: "List each once, numbers rising, with the count."
unfoldable pub steady_answer : ℕ → Instance → SteadyAnswer
steady_answer number I = unless_refused number (Refused number) (Listed (steady_count I))

-- "The call needs two bytes for each number listed, low byte first, and leaves the rest untouched."
unfoldable pub numbers_after : ℕ → Instance → List ℕ → List ℕ
numbers_after number I out = unless_refused number out (number_bytes (steady_numbers I) ++ drop (2 * steady_count I) out)

-- the paper's refusal number and count for each case of the answer
abbrev pub refusal_of : SteadyAnswer → ℕ
refusal_of (Refused number) = number
refusal_of (Listed count) = 0

abbrev pub count_of : SteadyAnswer → ℕ
count_of (Refused number) = 0
count_of (Listed count) = count

-- the answer r of a call whose refusal is `number`, and the buffer before and after
pub record SteadyGiven (number : ℕ) (I : Instance) (r : SteadyAnswer) (out : Lent (List ℕ)) : Type 0 where
  pub answer : r ≡ steady_answer number I
  pub numbered : refusal_of r ≡ number
  pub counted : count_of r ≡ field number (steady_count I)
  pub written : out.after ≡ numbers_after number I out.before

-- the same of any call
abbrev pub SteadyCall : (plan : List ℕ) (k : ℕ) (r : SteadyAnswer) (out : Lent (List ℕ)) → Type 0
SteadyCall plan k r out = SteadyGiven (steady_refusal plan k out.before) (instance_of plan k) r out
