-- The line of an input, by its length and by what the comparison returned.
use Prim.Native.Nat.{ℕ, zero, suc, ◌-◌, ◌≤◌, ◌<◌}
use native.Mathlib.Omega.{arith}
use mathlib.Core.Path.{◌≡◌, refl, ◌∙◌, sym, ap}
use mathlib.Core.Bool.{Bool}
use mathlib.Core.List.{List, [], ◌∷◌}
use mathlib.Core.Option.{Option, none, some}
use lib.IntN.{ℤ}
use lib.ListN.{length, take, drop, get_or, length-drop}
use lib.Seq.{take-length}
use Rattle.plan_rules.specs.Refused.{unless_refused}
use Rattle.route_rules.specs.Preference.{margin_of}
use Rattle.net_rules.specs.FromPlan.{instance_of}
use Rattle.call_rules.specs.Refusals.{compare_refusal}
use Rattle.call_compare.specs.declared.compare.CompareAnswer.{CompareAnswer}
use Rattle.call_compare.specs.declared.compare.CompareAnswer.TheVariants.{Refused}
use Rattle.call_compare.specs.Compare.{margin_case, compared, Compares}
use Rattle.text_lines.specs.Text.{refused_line}
use Rattle.text_margin_rules.specs.Margin.{line_of, compare_line, margin_text}
use Rattle.text_margin.specs.Answered.{given_line, answer_line}

pub short-text : (input : List ℕ) → length input < 3 → refused_line 1 ≡ margin_text input
unfolding margin_text
short-text [] h = refl
short-text (router ∷ []) h = refl
short-text (router ∷ first ∷ []) h = refl
short-text (router ∷ first ∷ second ∷ plan) h = absurd (omega arith)

-- the plan's bytes, as a part of the input
pub rest : (input : List ℕ) → take (length input - 3) (drop 3 input) ≡ drop 3 input
rest input = rw (sym (length-drop 3 input)) (take-length (drop 3 input))

pub long-text :
    (input : List ℕ) →
    3 ≤ length input →
    {plan : List ℕ} {w e f : ℕ} →
    plan ≡ drop 3 input →
    w ≡ get_or input 0 0 →
    e ≡ get_or input 1 0 →
    f ≡ get_or input 2 0 →
    compare_line plan w e f ≡ margin_text input
unfolding margin_text
long-text [] h rest router first second = absurd (omega arith)
long-text (w ∷ []) h rest router first second = absurd (omega arith)
long-text (w ∷ e ∷ []) h rest router first second = absurd (omega arith)
long-text (w ∷ e ∷ f ∷ plan) h rest router first second = rw (rest, router, first, second)

given-line : (margin : Option ℤ) → given_line (margin_case margin) ≡ line_of margin
given-line none = refl
given-line (some difference) = refl

-- what the comparison returned says the line, whoever told the routes
pub answer-line :
    (plan : List ℕ) (w e : ℕ) (d : Bool) (f : ℕ) (d' : Bool) {r : CompareAnswer} →
    Compares plan w e d f d' r →
    answer_line r ≡ compare_line plan w e f
unfolding compare_line compared
answer-line plan w e d f d' s = ap answer_line s.answer ∙ go (compare_refusal plan w e f)
  where
    go : (number : ℕ) →
        answer_line (unless_refused number (Refused number) (compared plan w e d f d'))
        ≡ unless_refused number (refused_line number) (line_of (margin_of (instance_of plan 0) w e f))
    go zero = given-line (margin_of (instance_of plan 0) w e f)
    go (suc number) = refl
