-- What the answer means.
use Prim.Native.Nat.{ℕ, zero, suc, ◌≤◌}
use native.Mathlib.Omega.{arith}
use mathlib.Core.Path.{◌≡◌, refl, ◌∙◌, ap, fun_ext}
use mathlib.Core.Bool.{Bool, true, false, not, cond, ◌||◌}
use mathlib.Core.List.{List, []}
use mathlib.Core.Logic.{◌⊎◌, inl, inr, ◌↔◌}
use borrow.Author.Tests.{not-false}
use lib.ListN.{length, length-append}
use Rattle.base.specs.Below.{any_below}
use Rattle.base.proofs.Below.{Witness, any_at, any_found}
use Rattle.base.proofs.Numbers.{not-both, true-or-false}
use Rattle.route_rules.specs.Instance.{Instance}
use Rattle.route_rules.specs.Preference.{nearer}
use Rattle.route_rules.specs.Reliance.{reliance}
use Rattle.route_rules.proofs.Preference.{nearer-order}
use Rattle.route_theorems.specs.HopStep.{EveryReflectorSteps}
use Rattle.steady_rules.specs.Numbers.{numbers_where, has, Occurs, Rises}
use Rattle.steady_rules.proofs.Listing.{has-times, times-occurs, occurs-times, where-none, where-yes, where-no, where-rises, where-is}
use Rattle.steady_rules.proofs.Members.{reliance-apart}
use Rattle.steady_rules.proofs.Solutions.{same_test}
use Rattle.hopset_rules.proofs.Cycles.{acyclic-stable}
use Rattle.base.proofs.Best.{order-asym}
use Rattle.everylist_rules.specs.Pairs.{NoPairCycle, in_table, left, has_left, found}
use Rattle.everylist_rules.specs.EveryList.{with_list, stable_for, none_left, every_list, suspect_list, Alike, Clusters, OwnClientsNearer, StableForEveryList, EveryListMeans}
use Rattle.everylist_rules.proofs.Listless.{listless}
use Rattle.everylist_rules.proofs.Pairs.{pair_parts, step-parts}
use Rattle.everylist_rules.proofs.Reaching.{clients-alone, cycle-pair, pairs-left, walk-cycle}
use Rattle.everylist_rules.proofs.Suspects.{found-suspect}
use Rattle.everylist_rules.proofs.Sustained.{at_end, end_below, end-pair, sustained}
use Rattle.everylist_rules.proofs.Walks.{named, found-named, found-client}

module _ (I : Instance) where
  -- the answers, by the two tests
  data Answered : Type 0 where
    yes : none_left I ≡ true → every_list I ≡ 1 → Answered
    no : none_left I ≡ false → stable_for I (found I) ≡ false → every_list I ≡ 0 → Answered
    undecided : none_left I ≡ false → stable_for I (found I) ≡ true → every_list I ≡ 2 → Answered

  answered : Answered
  unfolding every_list
  answered = go (true-or-false (none_left I)) (true-or-false (stable_for I (found I)))
    where
      go : (none_left I ≡ true) ⊎ (none_left I ≡ false) → (stable_for I (found I) ≡ true) ⊎ (stable_for I (found I) ≡ false) → Answered
      go (inl p) q = yes p (cc)
      go (inr p) (inl q) = undecided p q (cc)
      go (inr p) (inr q) = no p q (cc)

  answer-yes : every_list I ≡ 1 → none_left I ≡ true
  answer-yes h = go answered
    where
      go : Answered → none_left I ≡ true
      go (yes p e) = p
      go (no p q e) = absurd (omega arith)
      go (undecided p q e) = absurd (omega arith)

  is-yes : none_left I ≡ true → every_list I ≡ 1
  is-yes h = go answered
    where
      go : Answered → every_list I ≡ 1
      go (yes p e) = e
      go (no p q e) = not-both (none_left I) h p
      go (undecided p q e) = not-both (none_left I) h p

  -- pairs are left, or none is
  some_left : none_left I ≡ false → any_below (has_left I) I.n ≡ true
  unfolding none_left
  some_left h = not-false _ h

  left-some : (w c : ℕ) → at_end I w c ≡ true → none_left I ≡ false
  unfolding none_left
  left-some w c h =
      let b = end_below I w c h in
      ap not (any_found (has_left I) I.n w b.0 (any_found (in_table (left I) w) I.n c b.1 h))

  none-left : ((w c : ℕ) → at_end I w c ≡ true → ⊥) → none_left I ≡ true
  none-left f = go (none_left I) refl
    where
      go : (b : Bool) → none_left I ≡ b → none_left I ≡ true
      go true h = h
      go false h =
          let a : Witness (has_left I) I.n = any_at _ I.n (some_left h) in
          let b : Witness (in_table (left I) a.at) I.n = any_at _ I.n a.holds in
          absurd (f a.at b.at b.holds)

  -- yes exactly if there is no cycle of pairs
  yes-no-cycle : (every_list I ≡ 1) ↔ NoPairCycle I
  yes-no-cycle = (there, back)
    where
      there : every_list I ≡ 1 → NoPairCycle I
      there h w c chain =
          not-both (none_left I) (answer-yes h) (left-some w c (pairs-left I w c chain))

      back : NoPairCycle I → every_list I ≡ 1
      back f = go answered
        where
          go : Answered → every_list I ≡ 1
          go (yes p e) = e
          go (no p q e) = let (w, c, chain) = walk-cycle I (some_left p) in absurd (f w c chain)
          go (undecided p q e) = let (w, c, chain) = walk-cycle I (some_left p) in absurd (f w c chain)

  -- then every list is stable
  yes-stable : every_list I ≡ 1 → StableForEveryList I
  yes-stable h listed =
      acyclic-stable (reliance (with_list I listed)) I.n (reliance-apart (with_list I listed))
      (λ w l cycle.
      let (c, p) = cycle-pair I listed w l cycle in
      not-both (none_left I) (answer-yes h) (left-some w c p))

  no-suspect : (every_list I ≡ 0) ↔ (stable_for I (found I) ≡ false)
  no-suspect = (λ h. there h answered, λ h. back h answered)
    where
      there : every_list I ≡ 0 → Answered → stable_for I (found I) ≡ false
      there h (yes p e) = absurd (omega arith)
      there h (no p q e) = q
      there h (undecided p q e) = absurd (omega arith)

      back : stable_for I (found I) ≡ false → Answered → every_list I ≡ 0
      back h (yes p e) = not-both (stable_for I (found I)) (yes-stable e (found I)) h
      back h (no p q e) = e
      back h (undecided p q e) = not-both (stable_for I (found I)) q h

  undecided-means : (every_list I ≡ 2) ↔ ((none_left I ≡ false) × (stable_for I (found I) ≡ true))
  undecided-means = (λ h. there h answered, λ h. back h answered)
    where
      there : every_list I ≡ 2 → Answered → (none_left I ≡ false) × (stable_for I (found I) ≡ true)
      there h (yes p e) = absurd (omega arith)
      there h (no p q e) = absurd (omega arith)
      there h (undecided p q e) = (p, q)

      back : (none_left I ≡ false) × (stable_for I (found I) ≡ true) → Answered → every_list I ≡ 2
      back h (yes p e) = not-both (none_left I) p h.0
      back h (no p q e) = not-both (stable_for I (found I)) h.1 q
      back h (undecided p q e) = e

  -- the list given
  given_is : every_list I ≡ 0 → suspect_list I ≡ numbers_where (found I) I.n
  unfolding suspect_list
  given_is h = go answered
    where
      go : Answered → cond (none_left I || stable_for I (found I)) [] (numbers_where (found I) I.n) ≡ numbers_where (found I) I.n
      go (yes p e) = absurd (omega arith)
      go (no p q e) = rw (p, q)
      go (undecided p q e) = absurd (omega arith)

  given-nobody : (every_list I ≡ 0 → ⊥) → suspect_list I ≡ []
  unfolding suspect_list
  given-nobody h = go answered
    where
      go : Answered → cond (none_left I || stable_for I (found I)) [] (numbers_where (found I) I.n) ≡ []
      go (yes p e) = rw p
      go (no p q e) = absurd (h e)
      go (undecided p q e) = rw (p, q)

  given-occurs : every_list I ≡ 0 → (e : ℕ) → Occurs e (suspect_list I) ↔ (found I e ≡ true)
  given-occurs h e =
      let w = where-is (found I) e I.n in
      rw (given_is h) (λ o. (w.0 o).1, λ f. w.1 ((found-client I e f).0, f))

  given-has : every_list I ≡ 0 → has (suspect_list I) ≡ found I
  given-has h =
      fun_ext (λ e.
      let o = given-occurs h e in
      let t = has-times (suspect_list I) e in
      same_test (has (suspect_list I) e) (found I e) (
        λ p. o.0 (times-occurs e (suspect_list I) (t.0 p)),
        λ p. t.1 (occurs-times e (suspect_list I) (o.1 p)),
      ))

  given-suspect : every_list I ≡ 0 → stable_for I (has (suspect_list I)) ≡ false
  given-suspect h = ap (stable_for I) (given-has h) ∙ no-suspect.0 h

  given-somebody : every_list I ≡ 0 → 1 ≤ length (suspect_list I)
  given-somebody h = go answered
    where
      go : Answered → 1 ≤ length (suspect_list I)
      go (yes p e) = absurd (omega arith)
      go (no p q e) =
          let o : Occurs (named I (some_left p) I.n) (suspect_list I)
          = (given-occurs h (named I (some_left p) I.n)).1 (found-named I (some_left p) I.n (omega arith)) in
          omega (arith, o.within)
      go (undecided p q e) = absurd (omega arith)

  -- whichever it is, it is a list of numbers in order
  given-cases : (P : List ℕ → Type 0) → P [] → P (numbers_where (found I) I.n) → P (suspect_list I)
  unfolding suspect_list
  given-cases P a b = go (none_left I || stable_for I (found I))
    where
      go : (t : Bool) → P (cond t [] (numbers_where (found I) I.n))
      go true = a
      go false = b

  where-upto-bound : (p : ℕ → Bool) (m : ℕ) → length (numbers_where p m) ≤ m
  where-upto-bound p zero = omega (arith, ap length (where-none p))
  where-upto-bound p (suc m) = go (p m) refl (where-upto-bound p m)
    where
      go : (b : Bool) → p m ≡ b → length (numbers_where p m) ≤ m → length (numbers_where p (suc m)) ≤ suc m
      go true e l = omega (arith, simp length-append at (ap length (where-yes p m e)))
      go false e l = omega (arith, ap length (where-no p m e))

  -- where reflectors that share clients are alike
  never-undecided : Clusters I → every_list I ≡ 2 → ⊥
  never-undecided k h =
      let (p, q) = undecided-means.0 h in
      not-both (stable_for I (found I)) q (found-suspect I k (some_left p))

  exactly : Clusters I → (every_list I ≡ 1) ↔ StableForEveryList I
  exactly k = (yes-stable, λ s. go s answered)
    where
      go : StableForEveryList I → Answered → every_list I ≡ 1
      go s (yes p e) = e
      go s (no p q e) = not-both (stable_for I (found I)) (s (found I)) q
      go s (undecided p q e) = absurd (never-undecided k e)

  alike-itself : (w v : ℕ) → w ≡ v → Alike I w v
  alike-itself w v e =
      rw e (record { clients = λ f l. refl; ways = λ f o. refl; order = λ f g o p q r. refl; sessions = λ u l r s. refl })

  -- where own clients are nearer no pair leads to one
  guideline-yes : OwnClientsNearer I → every_list I ≡ 1
  guideline-yes near =
      is-yes (none-left (λ w c h.
      let o = sustained I w c h in
      let b = end_below I w c h in
      let s = step-parts I w c o.router o.client o.leads in
      not-both (nearer I w o.client c) s.closer
      (order-asym (nearer I w) (nearer-order I w) c o.client
      (near w c o.router o.client b.0 b.1 o.below o.client_below (end-pair I w c h)
      (end-pair I o.router o.client o.holds) s.neighbour s.way s.stranger))))

  -- where every reflector has the step there is no pair
  step-yes : EveryReflectorSteps I → every_list I ≡ 1
  step-yes all =
      is-yes (none-left (λ w c h.
      let p = pair_parts I w c (end-pair I w c h) in
      not-both (I.hop w) (all w (end_below I w c h).0 p.reflector) p.without_step))

pub every-list-means : (I : Instance) → EveryListMeans I
every-list-means I =
    record {
      answers = upto I (answered I);
      no_cycle = yes-no-cycle I;
      always = yes-stable I;
      clients_alone = clients-alone I;
      suspect = no-suspect I;
      clients = found-client I;
      given = given-occurs I;
      given_suspect = given-suspect I;
      somebody = given-somebody I;
      nobody = given-nobody I;
      rises = given-cases I Rises (λ i j l m. absurd (omega arith)) (where-rises (found I) I.n);
      fits = given-cases I (λ l. length l ≤ I.n) (omega arith) (where-upto-bound I (found I) I.n);
      undecided = undecided-means I;
      decided = never-undecided I;
      exact = exactly I;
      single = λ s w v l m h. alike-itself I w v (s w v l m h);
      guideline = guideline-yes I;
      step = step-yes I;
      listless = listless I;
    }
  where
    upto : (I : Instance) → Answered I → every_list I ≤ 2
    upto I (yes p e) = omega arith
    upto I (no p q e) = omega arith
    upto I (undecided p q e) = omega arith
