-- The answer over a network read from a plan, and the list in the buffer that is lent for it.
use Rattle.std.specs.Prelude.{ℕ, zero, suc, ◌≡◌, List, ◌++◌, length, drop}
use Rattle.base.specs.Lent.{Lent}
use Rattle.route_rules.specs.Instance.{Instance}
use Rattle.everylist_rules.specs.EveryList.{every_list, suspect_list}
use Rattle.net_everylist.specs.declared.EveryList.{EveryList}
use Rattle.net_everylist.specs.declared.EveryList.TheVariants.{Yes, No, Undecided}

-- the case of an answer's number, with the length of the list
abbrev pub case_of : ℕ → ℕ → EveryList
case_of zero count = No count
case_of (suc zero) count = Yes
case_of (suc (suc more)) count = Undecided

-- the list stands at the start of the buffer; the bytes after it are left as they were
pub record Answered (I : Instance) (r : EveryList) (list : Lent (List ℕ)) : Type 0 where
  pub answer : r ≡ case_of (every_list I) (length (suspect_list I))
  pub written : list.after ≡ suspect_list I ++ drop (length (suspect_list I)) list.before
