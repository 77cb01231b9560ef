-- A contract admits one answer, so that what is worked out is what the call answers.
use Prim.Native.Nat.{ℕ, ◌+◌}
use native.Mathlib.Omega.{arith}
use mathlib.Core.Path.{◌≡◌, refl, ◌∙◌, sym, ap}
use mathlib.Core.List.{List, [], ◌∷◌, map}
use denote.Ref.{Bor}
use lib.ListN.{take, drop}
use Rattle.base.specs.Bytes.{bytes_on}
use Rattle.call_query.specs.EgressList.{egress_list_start, egress_list_size, ListPartOf}
use Rattle.checker_examples.specs.Questions.{Question, Answer, relies_is, hop_set_is, Admitted, Example, example, Hold}
use Rattle.checker_examples.specs.Questions.{check, size, list, compare, relies, explain, verdict, steady, hop_set, activate, run, figures}
use Rattle.checker_examples.proofs.Questions.{answer_to}

-- a part of a slice starts at one place alone
one-start : (slice part : Bor (List ℕ)) (a b : ℕ) → part.ref_ptr ≡ bytes_on slice.ref_ptr a → part.ref_ptr ≡ bytes_on slice.ref_ptr b → a ≡ b
one-start slice part a b p q = omega (arith, ap (λ x. x.1) (sym p ∙ q))

pub only-answer : {plan : List ℕ} {question : Question} {given : Answer} → Admitted plan question given → given ≡ answer_to plan question
unfolding answer_to
only-answer (check r e) = cc
only-answer (size r c) = cc
only-answer (list k r start slice part e n c a) =
    let at : start ≡ egress_list_start slice.now k = one-start slice part _ _ a c.address in
    let bytes : part.now ≡ take (egress_list_size slice.now k) (drop (egress_list_start slice.now k) slice.now) = c.bytes in
    cc
only-answer (compare w e d f d' r c) = cc
only-answer (relies k w v r c) = ap relies_is c.answer
only-answer (explain k w v r c) = cc
only-answer (verdict k r labels ranks table cycle c) = cc
only-answer (steady k r numbers c) = cc
only-answer (hop_set k r c) = ap hop_set_is c.answer
only-answer (activate k w table r after c) = cc
only-answer (run k acts limit table r after c) = cc
only-answer (figures r ranks routers c) = cc

abbrev pub worked : Example → Answer
worked (example plan question answer) = answer_to plan question

abbrev pub stated : Example → Answer
stated (example plan question answer) = answer

-- the first of two equal lists of answers, and the rest
first-same : {a b : Answer} {xs ys : List Answer} → ◌≡◌ {A = List Answer} (a ∷ xs) (b ∷ ys) → a ≡ b
first-same h = cc

rest-same : {a b : Answer} {xs ys : List Answer} → ◌≡◌ {A = List Answer} (a ∷ xs) (b ∷ ys) → xs ≡ ys
rest-same h = cc

pub answered : (examples : List Example) → map worked examples ≡ map stated examples → Hold examples
unfolding Hold
answered [] h = tt
answered (example plan question answer ∷ examples) h =
    (λ given call. only-answer call ∙ first-same h, answered examples (rest-same h))
