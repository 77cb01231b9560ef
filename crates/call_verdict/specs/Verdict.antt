-- Document 01, "Reliance and verdict": the verdict call. What it finds and writes for a plan's list is what the assessment of the plan's
-- network with that list finds and leaves.
use Rattle.std.specs.Prelude.{ℕ, ◌≡◌, List, Bool, true, false, cond, length}
use Rattle.base.specs.Lent.{Lent}
use Rattle.route_rules.specs.Instance.{Instance}
use Rattle.net_rules.specs.FromPlan.{instance_of}
use Rattle.net_verdict.specs.declared.Assessment.{Assessment}
use Rattle.net_verdict.specs.declared.Assessment.TheVariants as assessments
use Rattle.net_verdict.specs.Assessed.{is_stable, highest_of, cycle_of, found, labels_left, ranks_left, table_left, cycle_left}
use Rattle.call_rules.specs.Refusals.{verdict_refusal}
use Rattle.call_verdict.specs.declared.verdict.VerdictAnswer.{VerdictAnswer}
use Rattle.call_verdict.specs.declared.verdict.VerdictAnswer.TheVariants.{Refused, Stable, Suspect}
use Rattle.plan_rules.specs.Refused.{unless_refused, field, flag_field}

-- the answer of a call that found this for the network
abbrev pub answer_of : Assessment → VerdictAnswer
answer_of (assessments.Stable highest) = Stable highest
answer_of (assessments.Suspect count) = Suspect count

-- `number` is the refusal of the call, and I the plan's network with the list
unfoldable pub verdict_answer : ℕ → Instance → VerdictAnswer
verdict_answer number I = unless_refused number (Refused number) (answer_of (found I))

-- "Labels are written with either verdict. Stable .. writes ranks and table; suspect .. writes that many ring bytes. Other bytes are
-- untouched."
unfoldable pub labels_after : ℕ → Instance → List ℕ → List ℕ
labels_after number I labels = unless_refused number labels (labels_left I labels)

unfoldable pub ranks_after : ℕ → Instance → List ℕ → List ℕ
ranks_after number I ranks = unless_refused number ranks (ranks_left I ranks)

unfoldable pub table_after : ℕ → Instance → List ℕ → List ℕ
table_after number I table = unless_refused number table (table_left I table)

unfoldable pub cycle_after : ℕ → Instance → List ℕ → List ℕ
cycle_after number I shown = unless_refused number shown (cycle_left I shown)

-- the paper's refusal number and values for each case of the answer
abbrev pub verdict_number : VerdictAnswer → ℕ
verdict_number (Refused number) = number
verdict_number (Stable highest) = 0
verdict_number (Suspect count) = 0

abbrev pub verdict_is_stable : VerdictAnswer → Bool
verdict_is_stable (Refused number) = false
verdict_is_stable (Stable highest) = true
verdict_is_stable (Suspect count) = false

-- the highest rank, or the ring's length
abbrev pub verdict_size : VerdictAnswer → ℕ
verdict_size (Refused number) = 0
verdict_size (Stable highest) = highest
verdict_size (Suspect count) = count

unfoldable pub size_of : Instance → ℕ
size_of I = cond (is_stable I) (highest_of I) (length (cycle_of I))

-- the answer r of a call whose refusal is `number`, and each buffer before and after
pub record VerdictGiven (number : ℕ) (I : Instance) (r : VerdictAnswer) (labels ranks table shown : Lent (List ℕ)) : Type 0 where
  pub answer : r ≡ verdict_answer number I
  pub numbered : verdict_number r ≡ number
  pub stable : verdict_is_stable r ≡ flag_field number (is_stable I)
  pub size : verdict_size r ≡ field number (size_of I)
  pub labelled : labels.after ≡ labels_after number I labels.before
  pub ranked : ranks.after ≡ ranks_after number I ranks.before
  pub settled : table.after ≡ table_after number I table.before
  pub cycled : shown.after ≡ cycle_after number I shown.before

-- the same of any call
abbrev pub VerdictCall : (plan : List ℕ) (k : ℕ) (r : VerdictAnswer) (labels ranks table shown : Lent (List ℕ)) → Type 0
VerdictCall plan k r labels ranks table shown =
    VerdictGiven (verdict_refusal plan k labels.before ranks.before table.before shown.before)
    (instance_of plan k) r labels ranks table shown
