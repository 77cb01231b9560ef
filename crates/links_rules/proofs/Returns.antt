-- What the call answers, check by check.
use Prim.Native.Nat.{ℕ, suc, ◌*◌}
use mathlib.Core.Path.{◌≡◌, ◌∙◌, sym, ap}
use mathlib.Core.Bool.{true, false}
use mathlib.Core.List.{List, ◌++◌}
use lib.Dec.{leb}
use lib.ListN.{length, drop}
use Rattle.plan_contents.specs.Header.{router_count_ok}
use Rattle.plan_rules.specs.Distances.{body_of}
use Rattle.plan_rules.specs.Refusal.{refuse}
use Rattle.links_rules.specs.Sheet.{sheet_ok}
use Rattle.links_rules.specs.Sums.{least_sums}
use Rattle.links_rules.specs.Distances.{sums_ok, distance_of, distances_refusal, sheet_body, distances_after, DistancesCall}

module _ (n : ℕ) (s out : List ℕ) where
  pub after-refused : (number : ℕ) → distances_refusal n s (length out) ≡ suc number → distances_after n s out ≡ out
  unfolding distances_after
  after-refused number e = rw e

  pub after-made : distances_refusal n s (length out) ≡ 0 → distances_after n s out ≡ sheet_body s n ++ drop (2 * (n * n)) out
  unfolding distances_after
  after-made e = rw e

  refused : (number : ℕ) → distances_refusal n s (length out) ≡ suc number → DistancesCall n s (suc number) out out
  refused number e = record { number = sym e; bytes = sym (after-refused number e) }

  pub count-refused : router_count_ok n ≡ false → DistancesCall n s 2 out out
  unfolding distances_refusal refuse
  count-refused c = refused 1 (rw c)

  module _ (c : router_count_ok n ≡ true) where
    pub sheet-refused : sheet_ok s n ≡ false → DistancesCall n s 11 out out
    unfolding distances_refusal refuse
    sheet-refused f = refused 10 (rw (c, f))

    module _ (f : sheet_ok s n ≡ true) where
      pub sums-refused : sums_ok (least_sums s n) n ≡ false → DistancesCall n s 12 out out
      unfolding distances_refusal refuse
      sums-refused w = refused 11 (rw (c, f, w))

      module _ (w : sums_ok (least_sums s n) n ≡ true) where
        pub room-refused : leb (2 * (n * n)) (length out) ≡ false → DistancesCall n s 9 out out
        unfolding distances_refusal refuse
        room-refused r = refused 8 (rw (c, f, w, r))

        pub call-made :
            (body after : List ℕ) → leb (2 * (n * n)) (length out) ≡ true → after ≡ body ++ drop (2 * (n * n)) out →
            body ≡ body_of 2 (λ u e. distance_of (least_sums s n u e)) n →
            DistancesCall n s 0 out after
        unfolding distances_refusal refuse sheet_body
        call-made body after r e b =
            let z : distances_refusal n s (length out) ≡ 0 = rw (c, f, w, r) in
            record { number = sym z; bytes = e ∙ ap (λ x. x ++ drop (2 * (n * n)) out) b ∙ sym (after-made z) }
