-- The listed routers of a network play no part in the answer.
use Prim.Native.Nat.{ℕ, zero, suc, ◌+◌, ◌*◌}
use mathlib.Core.Path.{◌≡◌, refl, ◌∙◌, ap, ap₂, fun_ext}
use mathlib.Core.Bool.{Bool, not, cond, ◌&&◌, ◌||◌}
use mathlib.Core.Option.{Option, none, some}
use mathlib.Core.List.{[]}
use Rattle.base.specs.Below.{any_below}
use Rattle.base.specs.Best.{best}
use Rattle.base.specs.Seek.{flag, seek}
use Rattle.route_rules.specs.Instance.{Instance, is_router}
use Rattle.route_rules.specs.Preference.{nearer}
use Rattle.steady_rules.specs.Numbers.{numbers_where}
use Rattle.everylist_rules.specs.Pairs.{is_pair, leads_to, pair_table, in_table, leads_into, left_after, left, foreign, nearest_foreign, with_client, next_reflector, walk, found}
use Rattle.everylist_rules.specs.EveryList.{with_list, stable_for, none_left, every_list, suspect_list, Listless}

module _ (I : Instance) (listed : ℕ → Bool) where
  after_same : (k : ℕ) → left_after (with_list I listed) k ≡ left_after I k
  unfolding left_after is_pair leads_to nearer
  after_same zero = refl
  after_same (suc k) = ap (λ t. pair_table I.n (λ w c. in_table t w c && leads_into I t w c)) (after_same k)

  left-same : left (with_list I listed) ≡ left I
  unfolding left
  left-same = after_same (I.n * I.n)

  none-same : none_left (with_list I listed) ≡ none_left I
  unfolding none_left
  none-same = ap (λ t. not (any_below (λ w. any_below (in_table t w) I.n) I.n)) left-same

  nearest-same : (w : ℕ) → nearest_foreign (with_list I listed) w ≡ nearest_foreign I w
  unfolding nearest_foreign foreign nearer
  nearest-same w =
      ap (λ t.
      best (nearer I w)
      (λ e. any_below (λ v. I.neighbour w v && in_table t v e) I.n && I.way w e && not (I.neighbour w e))
      I.n)
      left-same

  with-same : (w : ℕ) (b : Option ℕ) → with_client (with_list I listed) w b ≡ with_client I w b
  with-same w none = refl
  with-same w (some e) = ap (λ t. seek (λ v. flag (I.neighbour w v && in_table t v e)) I.n) left-same

  walk_same : (k : ℕ) → walk (with_list I listed) k ≡ walk I k
  unfolding walk
  walk_same zero = ap (λ t. seek (λ w. flag (any_below (in_table t w) I.n)) I.n) left-same
  walk_same (suc k) =
      ap (next_reflector (with_list I listed)) (walk_same k)
      ∙ with-same (walk I k) (nearest_foreign (with_list I listed) (walk I k))
      ∙ ap (with_client I (walk I k)) (nearest-same (walk I k))

  found-same : found (with_list I listed) ≡ found I
  unfolding found
  found-same = ap (λ near. λ e. any_below (λ k. is_router e (near k)) I.n) (fun_ext near_same)
    where
      near_same : (k : ℕ) → nearest_foreign (with_list I listed) (walk (with_list I listed) (I.n + k)) ≡ nearest_foreign I (walk I (I.n + k))
      near_same k = nearest-same (walk (with_list I listed) (I.n + k)) ∙ ap (nearest_foreign I) (walk_same (I.n + k))

pub listless : (I : Instance) → Listless I
unfolding every_list suspect_list
listless I listed = (
  ap₂ (λ b p. cond b 1 (cond (stable_for I p) 2 0)) (none-same I listed) (found-same I listed),
  ap₂ (λ b p. cond (b || stable_for I p) [] (numbers_where p I.n)) (none-same I listed) (found-same I listed),
)
