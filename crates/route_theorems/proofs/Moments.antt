-- The rounds of a sequence moment by moment: how many have ended, where each starts, and which moments an act may read.
use Prim.Native.Nat.{ℕ, zero, suc, ◌+◌, ◌≤◌, ◌<◌}
use native.Mathlib.Omega.{arith}
use mathlib.Core.Path.{◌≡◌, refl, ◌∙◌, sym, ap}
use mathlib.Core.Bool.{Bool, true, false, cond}
use mathlib.Core.List.{List, [], ◌∷◌, ◌++◌, append_assoc, append-nil}
use mathlib.Core.Logic.{⊎_elim}
use lib.Dec.{leb}
use lib.ListN.{length, get_or, take}
use lib.Seq.{take-suc, take-length}
use borrow.Author.Tests.{le-leb, leb-true, leb-false}
use Rattle.base.specs.Below.{all_below}
use Rattle.base.specs.Seek.{flag}
use Rattle.base.proofs.Numbers.{lt-or-le, facts, both}
use Rattle.base.proofs.Seek.{flag-yes, Found, seek_found}
use Rattle.route_rules.specs.Rounds.{acted, rounds_from, rounds}
use Rattle.route_rules.proofs.Rounds.{rounds-end, rounds-on, rounds-done}
use Rattle.route_theorems.specs.Delayed.{ended_by, round_start, earliest, may_read, ByMoment}

-- an act by which every router has acted since the round before ended
abbrev pub closes : ℕ → List ℕ → ℕ → Bool
closes n since a = all_below (acted (a ∷ since)) n

-- the acts since the last round ended, the latest first
unfoldable pub since_at : ℕ → List ℕ → ℕ → List ℕ
since_at n acts zero = []
since_at n acts (suc m) = cond (closes n (since_at n acts m) (get_or acts m 0)) [] (get_or acts m 0 ∷ since_at n acts m)

-- one act, and those after it
act-counts : (n : ℕ) (since : List ℕ) (a : ℕ) (more : List ℕ) (b : Bool) → closes n since a ≡ b
    → rounds_from n since (a ∷ more) ≡ flag b + rounds_from n (cond b [] (a ∷ since)) more
act-counts n since a more true h = omega (arith, rounds-end n a since more h)
act-counts n since a more false h = omega (arith, rounds-on n a since more h)

module _ (n : ℕ) (acts : List ℕ) where
  -- at moment m the counting of rounds has come so far
  abbrev Counted : ℕ → Type 0
  Counted m = (more : List ℕ) → rounds n (take m acts ++ more) ≡ ended_by n acts m + rounds_from n (since_at n acts m) more

  module _ (m : ℕ) (l : m < length acts) (c : Counted m) where
    next : (more : List ℕ) → rounds n (take (suc m) acts ++ more)
        ≡ ended_by n acts m + (flag (closes n (since_at n acts m) (get_or acts m 0)) + rounds_from n (since_at n acts (suc m)) more)
    unfolding since_at
    next more =
        ap (λ xs. rounds n (xs ++ more)) (take-suc acts m 0 l)
        ∙ ap (rounds n) (append_assoc (take m acts) _ more)
        ∙ c _
        ∙ ap (λ x. ended_by n acts m + x) (act-counts n (since_at n acts m) (get_or acts m 0) more _ refl)

    next-ended : ended_by n acts (suc m) ≡ ended_by n acts m + flag (closes n (since_at n acts m) (get_or acts m 0))
    unfolding ended_by
    next-ended =
        ap (rounds n) (sym (append-nil (take (suc m) acts))) ∙ next [] ∙ omega (arith, rounds-done n (since_at n acts (suc m)))

  counted : (m : ℕ) → m ≤ length acts → Counted m
  unfolding ended_by rounds since_at
  counted zero l more = omega (arith, rounds-done n [])
  counted (suc m) l more = omega (arith, next m l (counted m (omega arith)) more, next-ended m l (counted m (omega arith)))

  -- act m ends a round, or not
  module _ (m : ℕ) (l : m < length acts) (b : Bool) (h : closes n (since_at n acts m) (get_or acts m 0) ≡ b) where
    pub ended-step : ended_by n acts (suc m) ≡ ended_by n acts m + flag b
    ended-step = next-ended m l (counted m (omega arith)) ∙ ap (λ x. ended_by n acts m + flag x) h

    pub since-step : since_at n acts (suc m) ≡ cond b [] (get_or acts m 0 ∷ since_at n acts m)
    unfolding since_at
    since-step = ap (λ x. cond x [] (get_or acts m 0 ∷ since_at n acts m)) h

  ended-more : (m : ℕ) → m < length acts → (ended_by n acts m ≤ ended_by n acts (suc m)) × (ended_by n acts (suc m) ≤ suc (ended_by n acts m))
  ended-more m l = go (closes n (since_at n acts m) (get_or acts m 0)) refl
    where
      go : (b : Bool) → closes n (since_at n acts m) (get_or acts m 0) ≡ b
          → (ended_by n acts m ≤ ended_by n acts (suc m)) × (ended_by n acts (suc m) ≤ suc (ended_by n acts m))
      go true h = omega (arith, ended-step m l true h)
      go false h = omega (arith, ended-step m l false h)

  pub ended-none : ended_by n acts 0 ≡ 0
  unfolding ended_by rounds
  ended-none = rounds-done n []

  pub ended-all : ended_by n acts (length acts) ≡ rounds n acts
  unfolding ended_by
  ended-all = ap (rounds n) (take-length acts)

  -- later, no fewer rounds have ended
  pub ended-later : (m later : ℕ) → m ≤ later → later ≤ length acts → ended_by n acts m ≤ ended_by n acts later
  ended-later m zero l k = let e : m ≡ 0 = omega arith in rw e (omega arith)
  ended-later m (suc later) l k =
      ⊎_elim (λ (h : m < suc later). omega (arith, ended-later m later (omega arith) (omega arith), ended-more later k))
      (λ (h : suc later ≤ m). let e : m ≡ suc later = omega arith in rw e (omega arith))
      (lt-or-le m (suc later))

  -- round k has not started before k rounds have ended, and has as soon as they have
  module _ (k : ℕ) where
    found : Found (λ m. flag (leb k (ended_by n acts m))) (length acts) (round_start n acts k)
    unfolding round_start
    found = seek_found _ (length acts)

    not-started : (m : ℕ) → m < round_start n acts k → ended_by n acts m < k
    not-started m l = go (leb k (ended_by n acts m)) refl (found.before m l)
      where
        go : (b : Bool) → leb k (ended_by n acts m) ≡ b → flag b ≡ 0 → ended_by n acts m < k
        go true e z = absurd (omega arith)
        go false e z = leb-false k _ e

    started : round_start n acts k < length acts → k ≤ ended_by n acts (round_start n acts k)
    started l = leb-true k _ (flag-yes (leb k (ended_by n acts (round_start n acts k))) (found.hit l))

    started-by : (m : ℕ) → round_start n acts k ≤ m → m < length acts → k ≤ ended_by n acts m
    started-by m h l = omega (arith, started (omega arith), ended-later (round_start n acts k) m h (omega arith))

    starts_by : (m : ℕ) → k ≤ ended_by n acts m → round_start n acts k ≤ m
    starts_by m h =
        ⊎_elim (λ (l : m < round_start n acts k). absurd (omega (arith, not-started m l))) (λ (l : round_start n acts k ≤ m). l)
        (lt-or-le m (round_start n acts k))

    starts-least : k ≤ rounds n acts → k ≤ ended_by n acts (round_start n acts k)
    starts-least h =
        ⊎_elim started
        (λ (l : length acts ≤ round_start n acts k).
        let e : round_start n acts k ≡ length acts = omega (arith, found.upto) in
        omega (arith, ap (ended_by n acts) e, ended-all))
        (lt-or-le (round_start n acts k) (length acts))

    starts-most : ended_by n acts (round_start n acts k) ≤ k
    starts-most = go (round_start n acts k) refl
      where
        go : (s : ℕ) → round_start n acts k ≡ s → ended_by n acts s ≤ k
        go zero e = omega (arith, ended-none)
        go (suc s) e = omega (arith, not-started s (omega arith), ended-more s (omega (arith, found.upto)))

  -- the round after that of act i starts after it
  before-next : (i : ℕ) → i < length acts → i < round_start n acts (suc (ended_by n acts i))
  before-next i l =
      ⊎_elim (λ (h : i < round_start n acts (suc (ended_by n acts i))). h)
      (λ (h : round_start n acts (suc (ended_by n acts i)) ≤ i). absurd (omega (arith, started-by _ i h l)))
      (lt-or-le i (round_start n acts (suc (ended_by n acts i))))

  may-read : (i m : ℕ) → i < length acts → may_read n acts i m ≡ true → (ended_by n acts i ≤ suc (ended_by n acts m)) × (m ≤ i)
  unfolding may_read earliest
  may-read i m l h = go (ended_by n acts i) refl (omega (arith, simp facts at h)) (omega (arith, simp facts at h))
    where
      go : (k : ℕ) → ended_by n acts i ≡ k → earliest n acts k ≤ m → m ≤ i → (ended_by n acts i ≤ suc (ended_by n acts m)) × (m ≤ i)
      go zero e a b = omega arith
      go (suc k) e a b = omega (arith, started-by k m a (omega arith))

  may-read-intro : (i m : ℕ) → ended_by n acts i ≤ suc (ended_by n acts m) → m ≤ i → may_read n acts i m ≡ true
  unfolding may_read earliest
  may-read-intro i m h l = both _ _ (le-leb _ m (go (ended_by n acts i) refl)) (le-leb m i l)
    where
      go : (k : ℕ) → ended_by n acts i ≡ k → earliest n acts k ≤ m
      go zero e = omega arith
      go (suc k) e = starts_by k m (omega arith)

  pub by-moment : ByMoment n acts
  by-moment =
      record {
        whole = ended-all;
        grows = ended-more;
        first = let h : round_start n acts 0 ≤ 0 = starts_by 0 0 (omega arith) in omega arith;
        starts = λ k h. omega (arith, starts-least k h, starts-most k);
        belongs = λ i l. (starts_by _ i (omega arith), before-next i l);
        ends = λ i l e. omega (arith, starts_by (suc (ended_by n acts i)) (suc i) (omega arith), before-next i l);
        exactly = λ i m l. (may-read i m l, λ h. may-read-intro i m h.0 h.1);
      }
