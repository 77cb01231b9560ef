use Prim.Native.Nat.{ℕ, ◌≤◌}
use native.Mathlib.Omega.{arith}
use mathlib.Core.Path.{◌≡◌, refl, ◌∙◌, ap}
use mathlib.Core.List.{List, [], ◌∷◌, ◌++◌}
use borrow.Author.Rules.{rules}
use lib.ListN.{length, get_or, length-set}
use lib.Seq.{sets}
use Rattle.base.specs.Buffer.{written}
use Rattle.base.specs.Tab.{joined}
use Rattle.base.proofs.Buffer.{sets-written, Laid, laid_then}
use Rattle.plan_contents.specs.declared.entries.Entry.{Entry}
use Rattle.plan_contents.specs.Contents.{no_entry}
use Rattle.plan_rules.specs.Converted.{entry_bytes}
use Rattle.plan_convert.proofs.contents.write_front.Statement.{statement}
use Rattle.plan_convert.proofs.contents.write_front.Tie as tie

abbrev first : ℕ → ℕ → List ℕ
first mark n = 82 ∷ 82 ∷ 80 ∷ mark ∷ n ∷ 4 ∷ []

abbrev entries : List Entry → List ℕ
entries table = joined (λ k. entry_bytes (get_or table k no_entry)) 4

length-entries : (table : List Entry) → length (entries table) ≡ 20
unfolding joined entry_bytes
length-entries table = refl

-- six bytes stored, and the entries written after them
front-written : (d : List ℕ) (mark n : ℕ) (table : List Entry) {l : List ℕ} → 26 ≤ length d → l ≡ written (sets d 0 (first mark n)) 6 (entries table)
    → l ≡ written d 0 (first mark n ++ entries table)
front-written d mark n table h e =
    let stored : Laid d 0 (first mark n) (sets d 0 (first mark n)) = record { within = omega arith; is = sets-written d 0 (first mark n) (omega arith) } in
    (laid_then stored 6 (entries table) refl (omega (arith, length-entries table)) e).is

returns : tie.Need-returns
returns c =
    let w = c in
    let m = w in
    let s = m in
    front-written s.args.out.now m.mark_of.result s.args.n s.args.table s.requires w.write_contents.ensures
    ∙ ap (λ x. written s.args.out.now 0 (first x s.args.n ++ entries s.args.table)) m.mark_of.ensures

pub write_front_spec : {M : Type 1} → statement M
write_front_spec =
    tie.close
    (tie.spec
    (λ c. search rules)
    (λ c. simp length-set (omega arith))
    (λ c. simp length-set (omega arith))
    (λ c κs. search rules)
    (λ c. simp length-set (omega arith))
    (λ c. simp length-set (omega arith))
    (λ c. simp length-set (omega arith))
    (λ c κs. simp length-set c.requires)
    (λ c. c.write_contents.auto.out ∙ simp length-set)
    returns)
