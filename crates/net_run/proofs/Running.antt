-- A run act by act: what its loop keeps, and what the loop's ways out leave.
use Prim.Native.Nat.{ℕ, ◌+◌, ◌≤◌, ◌<◌, min}
use native.Mathlib.Numerals.{add-one}
use native.Mathlib.Omega.{arith}
use mathlib.Core.Path.{◌≡◌, refl, ◌∙◌, sym, ap}
use mathlib.Core.List.{List, [], ◌∷◌, ◌++◌}
use mathlib.Core.Logic.{⊎_elim}
use lib.ListN.{length, get_or, take, length-take}
use lib.Seq.{take-suc, take_all, get_or-take}
use Rattle.base.proofs.Numbers.{lt-or-le}
use Rattle.route_rules.specs.Instance.{Instance}
use Rattle.route_rules.specs.Rounds.{ActsBelow, rounds, Tally, fresh_tally, tally_act, tally_acts}
use Rattle.route_rules.proofs.Rounds.{tally-counts, tally-append, tally-waits, tally-at-most}
use Rattle.net_tables.specs.TableBytes.{TableIn, activate_bytes, run_bytes}
use Rattle.net_tables.proofs.TableBytes.{act-length, act-ok, run-bytes-append}

-- after i acts the table is the run's and the tally counts them
pub record Ran (I : Instance) (acts start : List ℕ) (i : ℕ) (table : List ℕ) (t : Tally) : Type 0 where
  pub upto : i ≤ length acts
  pub bytes : table ≡ run_bytes I start (take i acts)
  pub counted : t ≡ tally_acts I.n (fresh_tally I.n) (take i acts)
  pub legal : TableIn I table
  pub long : length table ≡ length start
  pub waits : 0 < t.missing
  pub few : t.ended ≤ i

module _ (I : Instance) (acts start : List ℕ) where
  one-act : (table : List ℕ) (w : ℕ) → run_bytes I table (w ∷ []) ≡ activate_bytes I w table
  unfolding run_bytes
  one-act table w = refl

  one-tally : (t : Tally) (w : ℕ) → tally_acts I.n t (w ∷ []) ≡ tally_act I.n t w
  unfolding tally_acts
  one-tally t w = refl

  taken : (i : ℕ) → i < length acts → take (i + 1) acts ≡ take i acts ++ (get_or acts i 0 ∷ [])
  taken i l = ap (λ k. take k acts) (add-one i) ∙ take-suc acts i 0 l

  pub ran-none : 0 < I.n → TableIn I start → (t : Tally) → t ≡ fresh_tally I.n → Ran I acts start 0 start t
  unfolding run_bytes tally_acts
  ran-none some ok t e =
      record {
        upto = omega arith;
        bytes = refl;
        counted = e;
        legal = ok;
        long = refl;
        waits = rw e some;
        few = rw e (omega arith);
      }

  module _ (i : ℕ) (table : List ℕ) (t : Tally) (r : Ran I acts start i table t) (l : i < length acts) where
    pub ran-more : I.n ≤ 64 → get_or acts i 0 < I.n
        → Ran I acts start (i + 1) (activate_bytes I (get_or acts i 0) table) (tally_act I.n t (get_or acts i 0))
    ran-more small below =
        let w = get_or acts i 0 in
        record {
          upto = omega arith;
          bytes =
              ap (activate_bytes I w) r.bytes
              ∙ sym (ap (run_bytes I start) (taken i l) ∙ run-bytes-append I start (take i acts) (w ∷ []) ∙ one-act _ w);
          counted =
              ap (λ u. tally_act I.n u w) r.counted
              ∙ sym (ap (tally_acts I.n (fresh_tally I.n)) (taken i l) ∙ tally-append I.n _ (take i acts) (w ∷ []) ∙ one-tally _ w);
          legal = act-ok I w table small below r.legal;
          long = act-length I w table ∙ r.long;
          waits = tally-waits I.n t w (omega arith) r.waits;
          few = omega (arith, tally-at-most I.n t w, r.few);
        }

  -- the rounds that the tally of the first i acts has ended are theirs
  pub ran-rounds : (i : ℕ) (table : List ℕ) (t : Tally) → Ran I acts start i table t → ActsBelow I.n acts → t.ended ≡ rounds I.n (take i acts)
  ran-rounds i table t r b =
      ap (λ u. u.ended) r.counted
      ∙ tally-counts I.n (take i acts)
      (λ j l. let m : j < i = omega (arith, length-take i acts) in rw (get_or-take i acts j 0 m) (b j (omega (arith, r.upto))))

  -- the first acts, as many as the limit or all of them
  pub take-least : (i limit : ℕ) → i ≡ min limit (length acts) → take i acts ≡ take limit acts
  take-least i limit e =
      ⊎_elim (λ (l : limit < length acts). let h : i ≡ limit = omega arith in ap (λ k. take k acts) h)
      (λ (l : length acts ≤ limit). take_all i acts (omega arith) ∙ sym (take_all limit acts l))
      (lt-or-le limit (length acts))

  -- a run within its limit applies the whole sequence
  pub take_within : (i limit : ℕ) → length acts ≤ i → i ≤ limit → take i acts ≡ take limit acts
  take_within i limit h l = take_all i acts h ∙ sym (take_all limit acts (omega arith))
