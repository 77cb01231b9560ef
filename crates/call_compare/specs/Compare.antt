-- Document 01: "two egress routers compared at a router (the first is better, the second, or neither if they are the same)". Document
-- 02: "a way beats none, and of two without a way neither is better"; "The comparison of two routes at a router now gives the first
-- distance minus the second, from minus 65,534 to 65,534, and which of the two is better."; of 4-byte distances "Margins grow to match";
-- and "The comparison is now told of each route whether its own egress told it." Here d says so of the first, e, and d' of the second, f.
use Rattle.std.specs.Prelude.{ℕ, ◌<◌, List, ◌≡◌, Bool, false, cond, ◌&&◌, ℤ, pos, nat_abs, Option, Some, None, is_some, unwrap_or}
use Rattle.std.proofs.Math.Option as maybe
use Rattle.plan_contents.specs.Header.{width}
use Rattle.plan_rules.specs.Distances.{highest}
use Rattle.route_rules.specs.Instance.{Instance}
use Rattle.route_rules.specs.Preference.{better, margin_of}
use Rattle.net_rules.specs.FromPlan.{instance_of}
use Rattle.call_rules.specs.Refusals.{compare_refusal}
use Rattle.call_compare.specs.declared.compare.Preferred.{Preferred}
use Rattle.call_compare.specs.declared.compare.Preferred.TheVariants.{First, Second, Neither}
use Rattle.call_compare.specs.declared.compare.CompareAnswer.{CompareAnswer}
use Rattle.call_compare.specs.declared.compare.CompareAnswer.TheVariants.{Refused, Compared}
use Rattle.plan_rules.specs.Refused.{unless_refused, field, flag_field}

-- "the first is better, the second, or neither": 1, 2, 0. A comparison reads distances and the router's role, which every list shares.
unfoldable pub which_better : List ℕ → ℕ → ℕ → Bool → ℕ → Bool → ℕ
which_better plan w e d f d' = cond (better (instance_of plan 0) w e d f d') 1 (cond (better (instance_of plan 0) w f d' e d) 2 0)

-- "A margin exists only if both have a way." "the margin is worked out as before": who told a route plays no part in it.
unfoldable pub has_margin : List ℕ → ℕ → ℕ → ℕ → Bool
has_margin plan w e f = (instance_of plan 0).way w e && (instance_of plan 0).way w f

-- "the first distance minus the second"; zero where there is no margin
unfoldable pub margin_number : List ℕ → ℕ → ℕ → ℕ → ℤ
margin_number plan w e f = maybe.get_or (margin_of (instance_of plan 0) w e f) (pos 0)

-- the cases of an answer
unfoldable pub preferred_of : Instance → ℕ → ℕ → Bool → ℕ → Bool → Preferred
preferred_of I w e d f d' = cond (better I w e d f d') First (cond (better I w f d' e d) Second Neither)

abbrev pub margin_case : maybe.Option ℤ → Option ℤ
margin_case maybe.none = None
margin_case (maybe.some m) = Some m

unfoldable pub compared : List ℕ → ℕ → ℕ → Bool → ℕ → Bool → CompareAnswer
compared plan w e d f d' = Compared (preferred_of (instance_of plan 0) w e d f d') (margin_case (margin_of (instance_of plan 0) w e f))

-- the paper's refusal number and values for each case of the answer
abbrev pub preferred_number : Preferred → ℕ
preferred_number First = 1
preferred_number Second = 2
preferred_number Neither = 0

abbrev pub margin_present : Option ℤ → Bool
margin_present margin = is_some margin

abbrev pub margin_value : Option ℤ → ℤ
margin_value margin = unwrap_or margin (pos 0)

abbrev pub compare_number : CompareAnswer → ℕ
compare_number (Refused number) = number
compare_number (Compared preferred margin) = 0

abbrev pub compare_better : CompareAnswer → ℕ
compare_better (Refused number) = 0
compare_better (Compared preferred margin) = preferred_number preferred

abbrev pub compare_has_margin : CompareAnswer → Bool
compare_has_margin (Refused number) = false
compare_has_margin (Compared preferred margin) = margin_present margin

abbrev pub compare_margin : CompareAnswer → ℤ
compare_margin (Refused number) = pos 0
compare_margin (Compared preferred margin) = margin_value margin

-- the answer r of a comparison at w of e, told by itself if d, and f, told by itself if d'
pub record Compares (plan : List ℕ) (w e : ℕ) (d : Bool) (f : ℕ) (d' : Bool) (r : CompareAnswer) : Type 0 where
  pub answer :
      r ≡ unless_refused (compare_refusal plan w e f) (Refused (compare_refusal plan w e f)) (compared plan w e d f d')
  pub number : compare_number r ≡ compare_refusal plan w e f
  pub value : compare_better r ≡ field (compare_refusal plan w e f) (which_better plan w e d f d')
  pub present : compare_has_margin r ≡ flag_field (compare_refusal plan w e f) (has_margin plan w e f)
  pub margin : compare_margin r ≡ unless_refused (compare_refusal plan w e f) (pos 0) (margin_number plan w e f)
  -- "from minus 65,534 to 65,534"; of 4-byte distances "Margins grow to match": from minus 4,294,967,294 to 4,294,967,294
  pub range : nat_abs (compare_margin r) < highest (width plan)
