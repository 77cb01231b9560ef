-- An arm knows the variant that it matched.
use mathlib.Core.Path.{refl}
use borrow.Author.Rules.{rules}
use Rattle.call_everylist.specs.declared.every_list.EveryListAnswer.TheVariants.{Yes, No, Undecided}
use Rattle.c_everylist.proofs.Given.{every-refused, every_given}
use Rattle.c_everylist.proofs.every_list.Statement.{statement}
use Rattle.c_everylist.proofs.every_list.Tie as tie

returns : tie.Need-returns-in-Refused
returns c =
    let d = c in
    every-refused _ _ _ d.every_list-given.ensures _ _ _ c.in-Refused.is

returns-2 : tie.Need-returns-in-Yes
returns-2 c =
    let d = c in
    every_given _ _ _ d.every_list-given.ensures _ _ Yes c.in-Yes.is refl

returns-3 : tie.Need-returns-in-No
returns-3 c =
    let d = c in
    every_given _ _ _ d.every_list-given.ensures _ _ (No _) c.in-No.is refl

returns-4 : tie.Need-returns-in-Undecided
returns-4 c =
    let d = c in
    every_given _ _ _ d.every_list-given.ensures _ _ Undecided c.in-Undecided.is refl

pub every_list_spec : {M : Type 1} → statement M
every_list_spec =
    tie.close
    (tie.spec
    (λ c κs. search rules)
    (λ c. search rules)
    (λ c. search rules)
    returns
    (λ c. search rules)
    (λ c. search rules)
    returns-2
    (λ c. search rules)
    (λ c. search rules)
    returns-3
    (λ c. search rules)
    (λ c. search rules)
    returns-4)
