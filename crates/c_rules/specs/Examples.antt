-- The results that C sees, by example: whatever a call does that satisfies its export has these results, in literal bytes and numbers.
-- `m3_plan` is that of document 01, "Small plans"; its lists are 2,3 and 3 and 0. `m3_with_nobody` has the lists 2,3 and nobody and 0,
-- `nobody_between`, of three routers, the lists 1 and nobody and 1,2.
use Rattle.std.specs.Prelude.{ℕ, ◌≡◌, List, [], ◌∷◌, ◌++◌, ℤ, pos, neg_ℤ, set, replicate}
use Rattle.base.specs.Lent.{Lent}
use Rattle.plan_examples.specs.Plans.{small_plan, m3_plan, m3_with_nobody, nobody_between}
use Rattle.plan_rules.specs.ConvertedExamples.{with_narrow, with_wide}
use Rattle.links_rules.specs.Distances.{DistancesCall}
use Rattle.call_run.specs.Activate.{Activates}
use Rattle.c_rules.specs.Exports.{SizeExport, ListExport, CompareExport, ReliesExport, ExplainExport, VerdictExport, SteadyExport, HopSetExport, GradeExport, RunExport}
use Rattle.c_rules.specs.Exports.{WidenExport, NarrowExport, FiguresExport, EveryListExport}

-- two clients without a session; no way from 0 to 1, and back it is 7
unfoldable pub two_routers : List ℕ
two_routers =
    82 ∷ 82 ∷ 80 ∷ 49 ∷ 2 ∷ 4
    ∷ 1 ∷ 26 ∷ 0 ∷ 10 ∷ 0
    ∷ 2 ∷ 36 ∷ 0 ∷ 0 ∷ 0
    ∷ 3 ∷ 36 ∷ 0 ∷ 8 ∷ 0
    ∷ 4 ∷ 44 ∷ 0 ∷ 3 ∷ 0
    ∷ 2 ∷ 10 ∷ 0 ∷ 0 ∷ 0
    ∷ 2 ∷ 20 ∷ 0 ∷ 0 ∷ 0
    ∷ 0 ∷ 0 ∷ 255 ∷ 255
    ∷ 7 ∷ 0 ∷ 0 ∷ 0
    ∷ 1 ∷ 1 ∷ 1
    ∷ []

-- M3's plan with role 4 for router 0
abbrev pub stepping : List ℕ
stepping = set m3_plan 26 4

-- a buffer that holds `before` when it is lent and `after` when the call returns
abbrev pub from : List ℕ → List ℕ → Lent (List ℕ)
from before after = record { before = before; after = after }

-- bytes that a verdict is lent: one more than it needs, and 9 is no router
abbrev pub five : List ℕ
five = 9 ∷ 9 ∷ 9 ∷ 9 ∷ 9 ∷ []

abbrev pub nine : List ℕ
nine = 9 ∷ 9 ∷ 9 ∷ 9 ∷ 9 ∷ 9 ∷ 9 ∷ 9 ∷ 9 ∷ []

-- a table for list 3 in which the unlisted routers hold nothing, and a byte after it; a sequence of activations
abbrev pub from_nothing : List ℕ
from_nothing = 255 ∷ 255 ∷ 255 ∷ 255 ∷ 255 ∷ 255 ∷ 3 ∷ 3 ∷ 9 ∷ []

abbrev pub sequence : List ℕ
sequence = 2 ∷ 0 ∷ 1 ∷ 3 ∷ 0 ∷ 2 ∷ 1 ∷ 3 ∷ []

-- links 0 to 1 by 1, 0 to 2 by 9, 1 to 2 by 2, 2 to 0 by 260; the buffer lent for their distances, one byte more than they need
abbrev pub links : List ℕ
links = 0 ∷ 1 ∷ 1 ∷ 0 ∷ 0 ∷ 2 ∷ 9 ∷ 0 ∷ 1 ∷ 2 ∷ 2 ∷ 0 ∷ 2 ∷ 0 ∷ 4 ∷ 1 ∷ []

abbrev pub nineteen : List ℕ
nineteen = 9 ∷ 9 ∷ 9 ∷ 9 ∷ 9 ∷ 9 ∷ 9 ∷ 9 ∷ 9 ∷ 9 ∷ 9 ∷ 9 ∷ 9 ∷ 9 ∷ 9 ∷ 9 ∷ 9 ∷ 9 ∷ 9 ∷ []

-- rrp_compare, called with these flags, returns 0 and leaves these numbers in its three variables
abbrev pub ComparedAs : (plan : List ℕ) (w e d f d' : ℕ) (b p : ℕ) (m : ℤ) → Type 0
ComparedAs plan w e d f d' b p m =
    (r : ℕ) (better present : Lent ℕ) (margin : Lent ℤ) → CompareExport plan w e d f d' r better present margin
    → (r ≡ 0) × (better.after ≡ b) × (present.after ≡ p) × (margin.after ≡ m)

-- rrp_explain, called on M3's plan, returns r and leaves these numbers in its six variables
abbrev pub Explained : (k w v r : ℕ) (a b c d e : ℕ) (m : ℤ) → Type 0
Explained k w v r a b c d e m =
    (returned : ℕ) (relied code offered has_own own : Lent ℕ) (margin : Lent ℤ)
    → ExplainExport m3_plan k w v returned relied code offered has_own own margin
    → (returned ≡ r) × (relied.after ≡ a) × (code.after ≡ b) × (offered.after ≡ c) × (has_own.after ≡ d) × (own.after ≡ e)
    × (margin.after ≡ m)

-- r is the number returned
pub record ExportExamples : Type 0 where
  -- four routers, three lists
  pub sized : (r : ℕ) (routers lists : Lent ℕ) → SizeExport m3_plan r routers lists
      → (r ≡ 0) × (routers.after ≡ 4) × (lists.after ≡ 3)
  -- list 0 is bytes 86 and 87 of the plan, list 1 byte 89
  pub first_list : (r : ℕ) (start count : Lent ℕ) → ListExport m3_plan 0 r start count
      → (r ≡ 0) × (start.after ≡ 86) × (count.after ≡ 2)
  pub second_list : (r : ℕ) (start count : Lent ℕ) → ListExport m3_plan 1 r start count
      → (r ≡ 0) × (start.after ≡ 89) × (count.after ≡ 1)
  -- a list of nobody: its place is byte 67 of the plan, and it has no byte, where a refused list leaves both variables as they were; the
  -- list after it is bytes 68 and 69
  pub list_of_nobody : (r : ℕ) (start count : Lent ℕ) → ListExport nobody_between 1 r start count
      → (r ≡ 0) × (start.after ≡ 67) × (count.after ≡ 0)
  pub list_after_nobody : (r : ℕ) (start count : Lent ℕ) → ListExport nobody_between 2 r start count
      → (r ≡ 0) × (start.after ≡ 68) × (count.after ≡ 2)
  pub refused_after_nobody : (r : ℕ) (start count : Lent ℕ) → ListExport nobody_between 3 r start count
      → (r ≡ 8) × (start.after ≡ start.before) × (count.after ≡ count.before)
  -- from router 0 it is 6 to router 3 and 10 to router 2
  pub first_better : ComparedAs m3_plan 0 3 1 2 1 1 1 (neg_ℤ (pos 4))
  pub second_better : ComparedAs m3_plan 0 2 1 3 1 2 1 (pos 4)
  pub neither_better : ComparedAs m3_plan 0 3 1 3 1 0 1 (pos 0)
  -- router 0 has a way to itself and none to router 1
  pub no_margin : ComparedAs two_routers 0 0 1 1 1 1 0 (pos 0)
  -- with role 4, router 0 prefers 2, told by itself, to 3, passed on; with role 1 it does not. Misread with the flags exchanged: 2, 2, 1
  pub first_told : ComparedAs stepping 0 2 1 3 0 1 1 (pos 4)
  pub second_told : ComparedAs stepping 0 3 0 2 1 2 1 (neg_ℤ (pos 4))
  pub without_the_step : ComparedAs m3_plan 0 2 1 3 0 2 1 (pos 4)
  -- A flag handed in counts as yes if it is not 0. Misread as yes if it is 1: 2, 1, 1
  pub flag2_is_yes : ComparedAs stepping 0 2 2 3 0 1 1 (pos 4)
  pub flag255_is_yes : ComparedAs stepping 0 3 0 2 255 2 1 (neg_ℤ (pos 4))
  pub flags1_and255_are_alike : ComparedAs stepping 0 2 1 3 255 2 1 (pos 4)
  -- for list 2,3 reflector 0 relies on its client 2, and 2, which is listed, on no one
  pub relies : (r : ℕ) (relied : Lent ℕ) → ReliesExport m3_plan 0 0 2 r relied → (r ≡ 0) × (relied.after ≡ 1)
  pub relies_not : (r : ℕ) (relied : Lent ℕ) → ReliesExport m3_plan 0 2 0 r relied → (r ≡ 0) × (relied.after ≡ 0)
  -- for list 2,3 reflector 0 relies on 1, whose offer 3 is better than its own best client 2 by 4, and on that client; 2 is listed
  pub better_offer : Explained 0 0 1 0 1 4 3 1 2 (neg_ℤ (pos 4))
  pub own_best_client : Explained 0 0 2 0 1 3 0 0 0 (pos 0)
  pub first_listed : Explained 0 2 0 0 0 3 0 0 0 (pos 0)
  -- for list 3 reflector 0 has no best client, 1 offers 3, and 2 is an unlisted client
  pub any_offer : Explained 1 0 1 0 1 4 3 0 0 (pos 0)
  pub unlisted_client : Explained 1 0 2 0 0 4 0 0 0 (pos 0)
  -- there is no router 4
  pub refused_explain : (r : ℕ) (relied code offered has_own own : Lent ℕ) (margin : Lent ℤ)
      → ExplainExport m3_plan 0 0 4 r relied code offered has_own own margin
      → (r ≡ 8) × (relied.after ≡ relied.before) × (code.after ≡ code.before) × (offered.after ≡ offered.before)
      × (has_own.after ≡ has_own.before) × (own.after ≡ own.before) × (margin.after ≡ margin.before)
  -- no bytes are no plan, there is no list 3 and no router 4: numbers 1 and 8, and each result variable is left as it was
  pub refused_size : (r : ℕ) (routers lists : Lent ℕ) → SizeExport [] r routers lists
      → (r ≡ 1) × (routers.after ≡ routers.before) × (lists.after ≡ lists.before)
  pub refused_list : (r : ℕ) (start count : Lent ℕ) → ListExport m3_plan 3 r start count
      → (r ≡ 8) × (start.after ≡ start.before) × (count.after ≡ count.before)
  pub refused_compare : (r : ℕ) (better present : Lent ℕ) (margin : Lent ℤ) → CompareExport m3_plan 0 2 1 4 0 r better present margin
      → (r ≡ 8) × (better.after ≡ better.before) × (present.after ≡ present.before) × (margin.after ≡ margin.before)
  pub refused_relies : (r : ℕ) (relied : Lent ℕ) → ReliesExport m3_plan 0 0 4 r relied → (r ≡ 8) × (relied.after ≡ relied.before)
  -- list 2,3: suspect, a cycle of two routers, 0 and 1
  pub suspect : (r : ℕ) (labels ranks table cycle : List ℕ) (stable size : Lent ℕ)
      → VerdictExport m3_plan 0 r (from five labels) (from five ranks) (from nine table) (from five cycle) stable size
      → (r ≡ 0) × (stable.after ≡ 0) × (size.after ≡ 2)
      × (labels ≡ 0 ∷ 0 ∷ 2 ∷ 3 ∷ 9 ∷ []) × (ranks ≡ five) × (table ≡ nine) × (cycle ≡ 0 ∷ 1 ∷ 9 ∷ 9 ∷ 9 ∷ [])
  -- list 3: stable, highest rank 3
  pub stable : (r : ℕ) (labels ranks table cycle : List ℕ) (stable size : Lent ℕ)
      → VerdictExport m3_plan 1 r (from five labels) (from five ranks) (from nine table) (from five cycle) stable size
      → (r ≡ 0) × (stable.after ≡ 1) × (size.after ≡ 3)
      × (labels ≡ 0 ∷ 1 ∷ 2 ∷ 3 ∷ 9 ∷ []) × (ranks ≡ 2 ∷ 1 ∷ 3 ∷ 0 ∷ 9 ∷ [])
      × (table ≡ 3 ∷ 1 ∷ 3 ∷ 3 ∷ 3 ∷ 0 ∷ 3 ∷ 3 ∷ 9 ∷ []) × (cycle ≡ five)
  -- nobody: stable, highest rank 1, and all hold nothing
  pub stable_for_nobody : (r : ℕ) (labels ranks table cycle : List ℕ) (stable size : Lent ℕ)
      → VerdictExport m3_with_nobody 1 r (from five labels) (from five ranks) (from nine table) (from five cycle) stable size
      → (r ≡ 0) × (stable.after ≡ 1) × (size.after ≡ 1)
      × (labels ≡ 0 ∷ 1 ∷ 2 ∷ 3 ∷ 9 ∷ []) × (ranks ≡ 0 ∷ 0 ∷ 1 ∷ 1 ∷ 9 ∷ [])
      × (table ≡ 255 ∷ 255 ∷ 255 ∷ 255 ∷ 255 ∷ 255 ∷ 255 ∷ 255 ∷ 9 ∷ []) × (cycle ≡ five)
  -- there is no list 3: number 8, and everything is left as it was
  pub refused_verdict : (r : ℕ) (labels ranks table cycle : List ℕ) (stable size : Lent ℕ)
      → VerdictExport m3_plan 3 r (from five labels) (from five ranks) (from nine table) (from five cycle) stable size
      → (r ≡ 8) × (stable.after ≡ stable.before) × (size.after ≡ size.before)
      × (labels ≡ five) × (ranks ≡ five) × (table ≡ nine) × (cycle ≡ five)
  -- list 3: router 1 takes the route of its client 3
  pub activated : (r : ℕ) (table : List ℕ) → Activates m3_plan 1 1 from_nothing r table
      → (r ≡ 0) × (table ≡ 255 ∷ 255 ∷ 3 ∷ 3 ∷ 255 ∷ 255 ∷ 3 ∷ 3 ∷ 9 ∷ [])
  -- five activations of eight: one round ends among them, router 2 is not activated again, and the limit cuts the sequence short
  pub limited : (r : ℕ) (table : List ℕ) (applied rounds exhausted : Lent ℕ)
      → RunExport m3_plan 1 sequence 5 r (from from_nothing table) applied rounds exhausted
      → (r ≡ 0) × (table ≡ 3 ∷ 1 ∷ 3 ∷ 3 ∷ 255 ∷ 255 ∷ 3 ∷ 3 ∷ 9 ∷ [])
      × (applied.after ≡ 5) × (rounds.after ≡ 1) × (exhausted.after ≡ 1)
  -- a limit above the sequence's length: all eight activations, two rounds
  pub unlimited : (r : ℕ) (table : List ℕ) (applied rounds exhausted : Lent ℕ)
      → RunExport m3_plan 1 sequence 9 r (from from_nothing table) applied rounds exhausted
      → (r ≡ 0) × (table ≡ 3 ∷ 1 ∷ 3 ∷ 3 ∷ 3 ∷ 0 ∷ 3 ∷ 3 ∷ 9 ∷ [])
      × (applied.after ≡ 8) × (rounds.after ≡ 2) × (exhausted.after ≡ 0)
  -- for list 2,3 router 2 does not hold its own route in that table: number 10, and everything is left as it was
  pub refused_run : (r : ℕ) (table : List ℕ) (applied rounds exhausted : Lent ℕ)
      → RunExport m3_plan 0 sequence 5 r (from from_nothing table) applied rounds exhausted
      → (r ≡ 10) × (table ≡ from_nothing)
      × (applied.after ≡ applied.before) × (rounds.after ≡ rounds.before) × (exhausted.after ≡ exhausted.before)
  -- distances 0 1 3, 262 0 2 and 260 261 0, in two bytes each
  pub distances : (r : ℕ) (out : List ℕ) → DistancesCall 3 links r nineteen out
      → (r ≡ 0) × (out ≡ 0 ∷ 0 ∷ 1 ∷ 0 ∷ 3 ∷ 0 ∷ 6 ∷ 1 ∷ 0 ∷ 0 ∷ 2 ∷ 0 ∷ 4 ∷ 1 ∷ 5 ∷ 1 ∷ 0 ∷ 0 ∷ 9 ∷ [])
  -- from 0 to 1 it is 65,535, too far: number 12, also where the buffer is short, and the buffer is left as it was
  pub refused_distances : (r : ℕ) (out : List ℕ) → DistancesCall 4 (0 ∷ 1 ∷ 255 ∷ 255 ∷ []) r nineteen out → (r ≡ 12) × (out ≡ nineteen)
  -- from 1 to 0 there is no walk: 65,535, no way
  pub no_way_back : (r : ℕ) (out : List ℕ) → DistancesCall 2 (0 ∷ 1 ∷ 7 ∷ 0 ∷ []) r nineteen out
      → (r ≡ 0) × (out ≡ 0 ∷ 0 ∷ 7 ∷ 0 ∷ 255 ∷ 255 ∷ 0 ∷ 0 ∷ 9 ∷ 9 ∷ 9 ∷ 9 ∷ 9 ∷ 9 ∷ 9 ∷ 9 ∷ 9 ∷ 9 ∷ 9 ∷ [])

-- the buffer lent to the converter: the RRP1 plan of two routers has 49 bytes, the RRP2 plan 57
abbrev pub fifty_eight : List ℕ
fifty_eight = replicate 58 9

pub record ConvertExportExamples : Type 0 where
  -- the distance from 0 to 1 is 5, and there is no way back
  pub widened : (r : ℕ) (out : List ℕ) (size : Lent ℕ) → WidenExport (with_narrow 5 0 255 255) r (from fifty_eight out) size
      → (r ≡ 0) × (size.after ≡ 57) × (out ≡ with_wide 5 0 0 0 255 255 255 255 ++ (9 ∷ []))
  pub narrowed : (r : ℕ) (out : List ℕ) (size : Lent ℕ) → NarrowExport (with_wide 5 0 0 0 255 255 255 255) r (from fifty_eight out) size
      → (r ≡ 0) × (size.after ≡ 49) × (out ≡ with_narrow 5 0 255 255 ++ replicate 9 9)
  -- the buffer is a byte short; a distance of 65,535: numbers 9 and 14, and the variable and the buffer are left as they were
  pub refused_widen : (r : ℕ) (out : List ℕ) (size : Lent ℕ) → WidenExport (with_narrow 5 0 255 255) r (from (replicate 56 9) out) size
      → (r ≡ 9) × (size.after ≡ size.before) × (out ≡ replicate 56 9)
  pub refused_narrow : (r : ℕ) (out : List ℕ) (size : Lent ℕ) → NarrowExport (with_wide 255 255 0 0 5 0 0 0) r (from fifty_eight out) size
      → (r ≡ 14) × (size.after ≡ size.before) × (out ≡ fifty_eight)

pub record SteadyExportExamples : Type 0 where
  -- list 2,3: tables 1 and 2, two bytes each, low byte first
  pub two_tables : (r : ℕ) (out : List ℕ) (count : Lent ℕ) → SteadyExport m3_plan 0 r (from five out) count
      → (r ≡ 0) × (count.after ≡ 2) × (out ≡ 1 ∷ 0 ∷ 2 ∷ 0 ∷ 9 ∷ [])
  -- list 3, which is stable: 0 alone
  pub stable_list : (r : ℕ) (out : List ℕ) (count : Lent ℕ) → SteadyExport m3_plan 1 r (from five out) count
      → (r ≡ 0) × (count.after ≡ 1) × (out ≡ 0 ∷ 0 ∷ 9 ∷ 9 ∷ 9 ∷ [])
  -- the buffer is a byte short: number 9, and the variable and the buffer are left as they were
  pub refused_steady : (r : ℕ) (out : List ℕ) (count : Lent ℕ) → SteadyExport m3_plan 0 r (from (replicate 3 9) out) count
      → (r ≡ 9) × (count.after ≡ count.before) × (out ≡ replicate 3 9)

pub record GradeExportExamples : Type 0 where
  -- list 2,3, of two reflectors that each prefer the other's client: it rests within 4 rounds; list 3, which is stable with highest rank 3
  pub rests : (r : ℕ) (grade rounds : Lent ℕ) → GradeExport m3_plan 0 r grade rounds
      → (r ≡ 0) × (grade.after ≡ 1) × (rounds.after ≡ 4)
  pub stable_grade : (r : ℕ) (grade rounds : Lent ℕ) → GradeExport m3_plan 1 r grade rounds
      → (r ≡ 0) × (grade.after ≡ 1) × (rounds.after ≡ 5)
  -- there is no list 3: number 8, and the variables are left as they were
  pub refused_grade : (r : ℕ) (grade rounds : Lent ℕ) → GradeExport m3_plan 3 r grade rounds
      → (r ≡ 8) × (grade.after ≡ grade.before) × (rounds.after ≡ rounds.before)

pub record HopSetExportExamples : Type 0 where
  -- list 2,3: router 0, which is bit 0
  pub one_of_two : (r : ℕ) (set : Lent ℕ) → HopSetExport m3_plan 0 r set → (r ≡ 0) × (set.after ≡ 1)
  -- list 3, which is stable: 0; with role 4 for router 0 list 2,3 is stable too
  pub none_to_name : (r : ℕ) (set : Lent ℕ) → HopSetExport m3_plan 1 r set → (r ≡ 0) × (set.after ≡ 0)
  pub step_there : (r : ℕ) (set : Lent ℕ) → HopSetExport stepping 0 r set → (r ≡ 0) × (set.after ≡ 0)
  -- there is no list 3: number 8, and the variable is left as it was
  pub refused_hop_set : (r : ℕ) (set : Lent ℕ) → HopSetExport m3_plan 3 r set → (r ≡ 8) × (set.after ≡ set.before)

-- rrp_figures, called with five bytes in each buffer, returns 0 and leaves these numbers in its four variables, and these bytes
abbrev pub CountedAs : (plan : List ℕ) (a b p h : ℕ) (by_rank by_router : List ℕ) → Type 0
CountedAs plan a b p h by_rank by_router =
    (r : ℕ) (ranks routers : List ℕ) (stable suspect has_highest highest : Lent ℕ)
    → FiguresExport plan r (from five ranks) (from five routers) stable suspect has_highest highest
    → (r ≡ 0) × (stable.after ≡ a) × (suspect.after ≡ b) × (has_highest.after ≡ p) × (highest.after ≡ h)
    × (ranks ≡ by_rank) × (routers ≡ by_router)

pub record FiguresExportExamples : Type 0 where
  -- lists 2,3, suspect, and 3 and 0, with the highest ranks 3 and 2
  pub counted : CountedAs m3_plan 2 1 1 3 (0 ∷ 0 ∷ 1 ∷ 1 ∷ 9 ∷ []) (1 ∷ 1 ∷ 0 ∷ 0 ∷ 9 ∷ [])
  -- list 2,3 alone: no highest rank. Misread as rank 0: 1 for the flag
  pub absent : CountedAs (small_plan 6 6 (1 ∷ 2 ∷ 2 ∷ 3 ∷ [])) 0 1 0 0 (0 ∷ 0 ∷ 0 ∷ 0 ∷ 9 ∷ []) (1 ∷ 1 ∷ 0 ∷ 0 ∷ 9 ∷ [])
  -- every router listed: a highest rank of 0. Misread as none: 0 for the flag
  pub zero : CountedAs (small_plan 6 6 (1 ∷ 4 ∷ 0 ∷ 1 ∷ 2 ∷ 3 ∷ [])) 1 0 1 0 (1 ∷ 0 ∷ 0 ∷ 0 ∷ 9 ∷ []) (0 ∷ 0 ∷ 0 ∷ 0 ∷ 9 ∷ [])
  -- three bytes for four routers: number 9, and everything is left as it was
  pub refused_figures : (r : ℕ) (ranks routers : List ℕ) (stable suspect has_highest highest : Lent ℕ)
      → FiguresExport m3_plan r (from five ranks) (from (9 ∷ 9 ∷ 9 ∷ []) routers) stable suspect has_highest highest
      → (r ≡ 9) × (stable.after ≡ stable.before) × (suspect.after ≡ suspect.before) × (has_highest.after ≡ has_highest.before)
      × (highest.after ≡ highest.before) × (ranks ≡ five) × (routers ≡ 9 ∷ 9 ∷ 9 ∷ [])

pub record EveryListExportExamples : Type 0 where
  -- M1's distances: yes, no list, and the buffer is left as it was
  pub yes_for_c : (r : ℕ) (answer count : Lent ℕ) (list : List ℕ) → EveryListExport (small_plan 14 14 (1 ∷ 1 ∷ 2 ∷ [])) r answer (from five list) count
      → (r ≡ 0) × (answer.after ≡ 1) × (list ≡ five) × (count.after ≡ 0)
  -- M3's: no, with list 2,3
  pub no_for_c : (r : ℕ) (answer count : Lent ℕ) (list : List ℕ) → EveryListExport m3_plan r answer (from five list) count
      → (r ≡ 0) × (answer.after ≡ 0) × (list ≡ 2 ∷ 3 ∷ 9 ∷ 9 ∷ 9 ∷ []) × (count.after ≡ 2)
  -- three bytes for four routers: number 9, and everything is left as it was
  pub refused_every_list : (r : ℕ) (answer count : Lent ℕ) (list : List ℕ) → EveryListExport m3_plan r answer (from (9 ∷ 9 ∷ 9 ∷ []) list) count
      → (r ≡ 9) × (answer.after ≡ answer.before) × (list ≡ 9 ∷ 9 ∷ 9 ∷ []) × (count.after ≡ count.before)
