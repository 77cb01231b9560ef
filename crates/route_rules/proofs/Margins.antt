-- What a margin says of two routes.
use Prim.Native.Nat.{ℕ, ◌<◌}
use native.Mathlib.Omega.{arith}
use mathlib.Core.Path.{◌≡◌, refl, ◌∙◌, sym, ap}
use mathlib.Core.Bool.{Bool, true, false}
use mathlib.Core.Option.{none, some, some-injective, none-ne-some, some-ne-none}
use mathlib.Core.Logic.{◌⊎◌, ◌↔◌, inl, inr, ⊎_elim, ⊎_map}
use lib.IntN.{ℤ, pos, ◌-ℤ◌, -ℤ-+ℤ_cancel}
use lib.Signed.{◌<ℤ◌}
use Rattle.base.proofs.Numbers.{eq-or-ne, not-both}
use Rattle.base.proofs.Differences.{difference-negative, difference-positive, difference-zero, difference-within}
use Rattle.route_rules.specs.Instance.{Instance}
use Rattle.route_rules.specs.Preference.{has_step, hops, better, margin_of, ZeroMeans, one_route, numbers, step, Margins}
use Rattle.route_rules.proofs.Preference.{hops-direct, hops-passed, hops-without, prefers-fewer, better-both-ways, better-exactly, better-tie, better-one, comparing}

-- how two routes compare, in terms of the sign of a difference
by_sign : {P A B C D L : Type 0} → (P ↔ (A ⊎ (B × L))) → (C ↔ A) → (D ↔ B) → P ↔ (C ⊎ (D × L))
by_sign {P} {A} {B} {C} {D} {L} p strict level = (
  λ x. ⊎_map strict.1 (λ (h : B × L). (level.1 h.0, h.1)) (p.0 x),
  λ y. p.1 (⊎_map strict.0 (λ (h : D × L). (level.0 h.0, h.1)) y),
)

module _ (I : Instance) (w e f : ℕ) where
  -- the first distance minus the second
  abbrev apart : ℤ
  apart = pos (I.dist w e) -ℤ pos (I.dist w f)

  pub margin-both : I.way w e ≡ true → I.way w f ≡ true → margin_of I w e f ≡ some apart
  unfolding margin_of
  margin-both p q = cc

  pub margin-absent : (I.way w e ≡ false) ⊎ (I.way w f ≡ false) → margin_of I w e f ≡ none
  unfolding margin_of
  margin-absent (inl p) = cc
  margin-absent (inr q) = go (I.way w e) refl
    where
      go : (b : Bool) → I.way w e ≡ b → margin_of I w e f ≡ none
      go true p = cc
      go false p = cc

  -- what is known where there is a margin
  pub record Known (m : ℤ) : Type 0 where
    pub to_first : I.way w e ≡ true
    pub to_second : I.way w f ≡ true
    pub is : m ≡ apart

  pub known : (m : ℤ) → margin_of I w e f ≡ some m → Known m
  known m h = go (I.way w e) refl (I.way w f) refl
    where
      nothing : (I.way w e ≡ false) ⊎ (I.way w f ≡ false) → Known m
      nothing p = absurd (none-ne-some m (sym (margin-absent p) ∙ h))

      go : (a : Bool) → I.way w e ≡ a → (b : Bool) → I.way w f ≡ b → Known m
      go true p true q = record { to_first = p; to_second = q; is = some-injective m apart (sym h ∙ margin-both p q) }
      go true p false q = nothing (inr q)
      go false p b q = nothing (inl p)

  none-exactly : margin_of I w e f ≡ none → (I.way w e ≡ false) ⊎ (I.way w f ≡ false)
  none-exactly h = go (I.way w e) refl (I.way w f) refl
    where
      go : (a : Bool) → I.way w e ≡ a → (b : Bool) → I.way w f ≡ b → (I.way w e ≡ false) ⊎ (I.way w f ≡ false)
      go true p true q = absurd (some-ne-none apart (sym (margin-both p q) ∙ h))
      go true p false q = inr q
      go false p b q = inl p

  -- what it says of routes that their egress told or not
  module _ (d d' : Bool) where
    module _ (m : ℤ) (h : margin_of I w e f ≡ some m) where
      first-better : hops I w d ≡ hops I w d' → (better I w e d f d' ≡ true) ↔ ((m <ℤ pos 0) ⊎ ((m ≡ pos 0) × (e < f)))
      first-better even =
          let k = known m h in
          rw k.is
          (by_sign (better-exactly I w e d f d' k.to_first k.to_second even) (difference-negative (I.dist w e) (I.dist w f))
          (difference-zero (I.dist w e) (I.dist w f)))

      second-better : hops I w d ≡ hops I w d' → (better I w f d' e d ≡ true) ↔ ((pos 0 <ℤ m) ⊎ ((m ≡ pos 0) × (f < e)))
      second-better even =
          let k = known m h in
          let level = difference-zero (I.dist w e) (I.dist w f) in
          rw k.is
          (by_sign (better-exactly I w f d' e d k.to_second k.to_first (sym even)) (difference-positive (I.dist w e) (I.dist w f))
          (λ q. sym (level.0 q), λ q. level.1 (sym q)))

      fewer-first : (e ≡ f → ⊥) → hops I w d < hops I w d' → better I w e d f d' ≡ true
      fewer-first apart l =
          let k = known m h in
          better-both-ways I w e d f d' k.to_first k.to_second ∙ prefers-fewer I w e d f d' apart l

      fewer-second : (e ≡ f → ⊥) → hops I w d' < hops I w d → better I w f d' e d ≡ true
      fewer-second apart l =
          let k = known m h in
          better-both-ways I w f d' e d k.to_second k.to_first ∙ prefers-fewer I w f d' e d (λ q. apart (sym q)) l

      neither-better : ((better I w e d f d' ≡ false) × (better I w f d' e d ≡ false)) ↔ (e ≡ f)
      neither-better =
          let n = (comparing I w e d f d').neither in (
            λ b. ⊎_elim (λ (q : e ≡ f). q)
                (λ (no : (I.way w e ≡ false) × (I.way w f ≡ false)). not-both (I.way w e) (known m h).to_first no.0) (n.0 b),
            λ q. n.1 (inl q),
          )

    -- what a zero means: one route, the step, or the numbers
    zero-means : margin_of I w e f ≡ some (pos 0) → ZeroMeans I w e d f d'
    zero-means h = go (eq-or-ne e f) (has_step I w) refl d refl d' refl
      where
        k : Known (pos 0)
        k = known (pos 0) h

        level : I.dist w e ≡ I.dist w f
        level = (difference-zero (I.dist w e) (I.dist w f)).0 (sym k.is)

        by-numbers : hops I w d ≡ hops I w d' → ZeroMeans I w e d f d'
        by-numbers even =
            numbers even (better-tie I w e d f d' k.to_first k.to_second even level)
            (better-tie I w f d' e d k.to_second k.to_first (sym even) (sym level))

        go : (e ≡ f) ⊎ (e ≡ f → ⊥) → (s : Bool) → has_step I w ≡ s → (a : Bool) → d ≡ a → (b : Bool) → d' ≡ b → ZeroMeans I w e d f d'
        go (inl q) s p a x b y = one_route q
        go (inr q) false p a x b y = by-numbers (hops-without I w p d ∙ sym (hops-without I w p d'))
        go (inr q) true p true x true y = by-numbers (ap (hops I w) (x ∙ sym y))
        go (inr q) true p false x false y = by-numbers (ap (hops I w) (x ∙ sym y))
        go (inr q) true p true x false y =
            let l : hops I w d < hops I w d' = rw (x, y) (omega (arith, hops-direct I w, hops-passed I w p)) in
            let first : better I w e d f d' ≡ true = fewer-first (pos 0) h q l in
            step p (cc) (first ∙ sym x) (better-one I w f d' e d k.to_second k.to_first first ∙ sym y)
        go (inr q) true p false x true y =
            let l : hops I w d' < hops I w d = rw (x, y) (omega (arith, hops-direct I w, hops-passed I w p)) in
            let second : better I w f d' e d ≡ true = fewer-second (pos 0) h q l in
            step p (cc) (better-one I w e d f d' k.to_first k.to_second second ∙ sym x) (second ∙ sym y)

    pub margins : Margins I w e d f d'
    margins =
        let level = difference-zero (I.dist w e) (I.dist w f) in
        record {
          exact = λ m h. rw (known m h).is (-ℤ-+ℤ_cancel (pos (I.dist w e)) (pos (I.dist w f)));
          first = first-better;
          second = second-better;
          step_first = fewer-first;
          step_second = fewer-second;
          neither = neither-better;
          zero = (
            λ h. let k = known (pos 0) h in (k.to_first, k.to_second, level.0 (sym k.is)),
            λ h. margin-both h.0 h.1 ∙ ap some (level.1 h.2),
          );
          means = zero-means;
          absent = (none-exactly, margin-absent);
          range = λ most p q m h. rw (known m h).is (difference-within most (I.dist w e) (I.dist w f) p q);
        }
