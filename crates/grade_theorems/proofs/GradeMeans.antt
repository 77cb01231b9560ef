-- What a grade means of tables and acts.
use Prim.Native.Nat.{ℕ, zero, suc, ◌+◌, ◌^◌, ◌≤◌, ◌<◌}
use native.Mathlib.Omega.{arith}
use mathlib.Core.Path.{◌≡◌, refl, ◌∙◌, sym, ap}
use mathlib.Core.Bool.{Bool, true, false}
use mathlib.Core.List.{List, ◌++◌}
use mathlib.Core.Logic.{◌⊎◌, inl, inr, ⊎_elim, ◌↔◌}
use lib.Dec.{eqb}
use lib.ListN.{length, get_or, take}
use borrow.Author.Tests.{eq-eqb, eqb-true, eqb-false}
use Rattle.base.specs.Below.{any_below}
use Rattle.base.specs.Tab.{tab}
use Rattle.base.proofs.Numbers.{lt-or-le, true-or-false, not-both}
use Rattle.graph_groups.specs.Closure.{closure}
use Rattle.graph_groups.specs.Groups.{stable}
use Rattle.graph_ranks.specs.Rank.{rank, highest_rank}
use Rattle.route_rules.specs.Instance.{Instance, Route}
use Rattle.route_rules.specs.Activation.{held, run_acts}
use Rattle.route_rules.specs.Reliance.{reliance}
use Rattle.route_rules.specs.Rounds.{ActsBelow, acted, rounds}
use Rattle.route_rules.proofs.Routes.{run_length, run-append}
use Rattle.route_theorems.specs.Claims.{IsTable, Steady}
use Rattle.route_theorems.proofs.Existence.{steady-stays, settled-steady}
use Rattle.route_theorems.proofs.Settling.{settles}
use Rattle.steady_rules.specs.Equations.{Solves}
use Rattle.steady_rules.specs.Steady.{bit_equations, steady_numbers, steady_count}
use Rattle.steady_rules.proofs.Members.{reliance-apart, none-counted, ranked}
use Rattle.steady_rules.proofs.Kept.{keeps-along, never-keeps}
use Rattle.steady_rules.proofs.Tables.{steady-bits, table_for, for-table, for-steady}
use Rattle.steady_rules.proofs.SteadyTables.{bits-along, steady-tables}
use Rattle.grade_rules.specs.Machine.{move_for, stuck, loops, longest}
use Rattle.grade_rules.specs.Moving.{machine, loose_count, after_acts, NeverRests, BitsComeBack, BitsMove}
use Rattle.grade_rules.specs.Grade.{list_machine, grade, rest_rounds, grade_rounds}
use Rattle.grade_theorems.specs.GradeMeans.{CanRest, CannotRest, ComesBack, SomeComesBack, Rests, GradeMeans}
use Rattle.grade_rules.proofs.MovingBits.{bits-move}
use Rattle.grade_theorems.specs.TableBits.{table_bits, BitTable, TableWith}
use Rattle.grade_theorems.proofs.Sequences.{Whole, round_whole, cut, repeated, repeated-rounds, lap, lap-whole, lap-upto}
use Rattle.grade_theorems.proofs.Sequences.{below-append, below-front, below-back, below-take, below-repeated}
use Rattle.grade_theorems.proofs.Runs.{idle, run_ok}
use Rattle.grade_theorems.proofs.TableBits.{SameBits, SameReflectors, run-bits, run-table, reflectors-after, all_after}
use Rattle.grade_theorems.proofs.TableBits.{chosen-table, chosen-possible, rest-steady, table-with}

-- the four grades
data GradeCase (I : Instance) : Type 0 where
  no_table : steady_count I ≡ 0 → grade I ≡ 4 → GradeCase I
  is-stuck : 1 ≤ steady_count I → stuck (list_machine I) ≡ true → grade I ≡ 3 → GradeCase I
  is-looping : 1 ≤ steady_count I → stuck (list_machine I) ≡ false → loops (list_machine I) ≡ true → grade I ≡ 2 → GradeCase I
  is-resting : 1 ≤ steady_count I → stuck (list_machine I) ≡ false → loops (list_machine I) ≡ false → grade I ≡ 1 → GradeCase I

module _ (I : Instance) where
  grade-case : GradeCase I
  unfolding grade
  grade-case = go (eqb (steady_count I) 0) refl (stuck (list_machine I)) refl (loops (list_machine I)) refl
    where
      some : eqb (steady_count I) 0 ≡ false → 1 ≤ steady_count I
      some p = let d = eqb-false (steady_count I) 0 p in omega arith

      go : (a : Bool) → eqb (steady_count I) 0 ≡ a → (b : Bool) → stuck (list_machine I) ≡ b → (c : Bool) → loops (list_machine I) ≡ c
          → GradeCase I
      go true p b q c r = no_table (eqb-true (steady_count I) 0 p) (rw p)
      go false p true q c r = is-stuck (some p) q (rw (p, q))
      go false p false q true r = is-looping (some p) q r (rw (p, q, r))
      go false p false q false r = is-resting (some p) q r (rw (p, q, r))

  -- no number is listed exactly if there is no steady table
  no_number : steady_count I ≡ 0 → (t : List Route) → IsTable I t → Steady I t → ⊥
  no_number e t long steady = let x = (steady-tables I).every t long steady in omega (arith, x.1.within)

  some_number : 1 ≤ steady_count I → ((t : List Route) → IsTable I t → Steady I t → ⊥) → ⊥
  some_number h never =
      let s = ((steady-tables I).listed (get_or (steady_numbers I) 0 0)).0 (record { at = 0; within = h; is = refl }) in
      never s.table s.is_table s.steady

  -- .. and then no bits solve the equations
  no-solution : steady_count I ≡ 0 → (bit : ℕ → Bool) → Solves (bit_equations I) bit → ⊥
  no-solution e bit s = no_number e (table_for I bit s) (for-table I bit s) (for-steady I bit s)

  steady-rests : (t : List Route) → IsTable I t → (acts : List ℕ) → Steady I (run_acts I t acts) → Rests I t acts
  steady-rests t long acts s =
      record {
        steady = s;
        kept = λ more below. run-append I t acts more ∙ steady-stays I (run_acts I t acts) (run_length I t acts ∙ long) s more;
      }

  -- where the list is stable: ranks, and a machine with one state and no mover
  module _ (s : stable (closure (reliance I) I.n) I.n ≡ true) where
    settled-rests : (t : List Route) → IsTable I t → (acts : List ℕ) → highest_rank (reliance I) I.n + 2 ≤ rounds I.n acts
        → Rests I t acts
    settled-rests t long acts h =
        let R = highest_rank (reliance I) I.n in
        let r = rank (reliance I) I.n in
        steady-rests t long acts (rw (settles I r R (ranked I s) t long acts h).reached (settled-steady I r R (ranked I s)))

    no_move : (next : ℕ → ℕ → ℕ) → loops (record { states = 1; movers = 0; next = next }) ≡ false
    unfolding loops move_for any_below tab
    no_move next = refl

    stable-rests : loops (list_machine I) ≡ false
    unfolding machine
    stable-rests = ap (λ k. loops (record { states = 2 ^ k; movers = k; next = (machine (bit_equations I)).next })) (none-counted I s) ∙ no_move _

  moves : BitsMove (bit_equations I)
  moves = bits-move (bit_equations I) (bits-along I) (λ bit w l m. never-keeps I bit w m) (reliance-apart I)

  -- acts that first let every router choose
  module _ (t : List Route) (long : IsTable I t) (first : List ℕ) (below : ActsBelow I.n first) (whole : Whole I.n first) where
    one : List Route
    one = run_acts I t first

    one-table : BitTable I one
    unfolding one
    one-table = chosen-table I t long first below whole

    -- .. then bring the bits to rest, and then let every router choose twice
    rest-run : (acts : List ℕ) → ActsBelow I.n acts → Solves (bit_equations I) (after_acts (bit_equations I) (table_bits I one) acts)
        → (second third : List ℕ) → ActsBelow I.n second → ActsBelow I.n third → Whole I.n second → Whole I.n third
        → Steady I (run_acts I t (first ++ (acts ++ (second ++ third))))
    unfolding one
    rest-run acts b solved second third b2 b3 w2 w3 =
        rw (
          run-append I t first (acts ++ (second ++ third)),
          run-append I one acts (second ++ third),
          run-append I (run_acts I one acts) second third,
        )
        (rest-steady I (run_acts I one acts) (run-table I acts b one one-table)
        (λ w l.
        run-bits I acts b one one-table (table_bits I one) (λ v m. refl) w l
        ∙ solved w l
        ∙ keeps-along I (after_acts (bit_equations I) (table_bits I one) acts) (table_bits I (run_acts I one acts)) w
        (λ v m r. sym (run-bits I acts b one one-table (table_bits I one) (λ v m. refl) v m)))
        second third b2 b3 w2 w3)

  -- 1
  loopless-rests : loops (list_machine I) ≡ false → (t : List Route) → IsTable I t → (acts : List ℕ) → ActsBelow I.n acts
      → longest (list_machine I) + loose_count (bit_equations I) + 3 ≤ rounds I.n acts → Steady I (run_acts I t acts)
  unfolding rounds one
  loopless-rests q t long acts below h =
      let k = longest (list_machine I) + loose_count (bit_equations I) in
      let a = cut I.n 1 (k + 2) acts (omega arith) in
      let b = cut I.n k 2 a.back (omega (arith, a.second)) in
      let c = cut I.n 1 1 b.back b.second in
      let pa : ActsBelow I.n (a.front ++ a.back) = rw a.whole below in
      let pb : ActsBelow I.n (b.front ++ b.back) = rw b.whole (below-back I.n a.front a.back pa) in
      let pc : ActsBelow I.n (c.front ++ c.back) = rw c.whole (below-back I.n b.front b.back pb) in
      let fa = below-front I.n a.front a.back pa in
      let wa = round_whole I.n a.front a.first in
      let fb = below-front I.n b.front b.back pb in
      rw (← a.whole, ← b.whole, ← c.whole)
      (rest-run t long a.front fa wa b.front fb
      (moves.rests q (table_bits I (run_acts I t a.front)) (chosen-possible I t long a.front fa wa) b.front fb b.first)
      c.front c.back (below-front I.n c.front c.back pc) (below-back I.n c.front c.back pc)
      (round_whole I.n c.front c.first) (round_whole I.n c.back c.second))

  grade-rests : grade I ≡ 1 → (t : List Route) → IsTable I t → (acts : List ℕ) → ActsBelow I.n acts → grade_rounds I ≤ rounds I.n acts
      → Rests I t acts
  unfolding grade_rounds rest_rounds
  grade-rests g t long acts below h = go grade-case (stable (closure (reliance I) I.n) I.n) refl (rw (eq-eqb (grade I) 1 g) at h)
    where
      go : GradeCase I → (b : Bool) → stable (closure (reliance I) I.n) I.n ≡ b → rest_rounds I ≤ rounds I.n acts → Rests I t acts
      go (no_table a e) b p r = absurd (omega arith)
      go (is-stuck a c e) b p r = absurd (omega arith)
      go (is-looping a c d e) b p r = absurd (omega arith)
      go (is-resting a c d e) true p r = settled-rests p t long acts (rw p at r)
      go (is-resting a c d e) false p r = steady-rests t long acts (loopless-rests d t long acts below (rw p at r))

  -- at most 2
  can-rest : stuck (list_machine I) ≡ false → (t : List Route) → IsTable I t → CanRest I t
  unfolding one
  can-rest q t long =
      let n = I.n in
      let whole = lap-whole n in
      let below = lap-upto n n (omega arith) in
      let r = moves.can_rest q (table_bits I (run_acts I t (lap n))) in
      record {
        acts = lap n ++ (r.acts ++ (lap n ++ lap n));
        below = below-append n (lap n) _ below (below-append n r.acts _ r.below (below-append n (lap n) (lap n) below below));
        steady = rest-run t long (lap n) below whole r.acts r.below r.solved (lap n) (lap n) below below whole whole;
      }

  -- 3 or 4
  never-rests : stuck (list_machine I) ≡ true → CannotRest I
  never-rests q =
      record {
        table = a.table;
        is_table = a.bits.is_table;
        legal = a.legal;
        never = λ r.
            let final = run_acts I a.table r.acts in
            let same = run-bits I r.acts r.below a.table a.bits b.bit a.same in
            let solved = steady-bits I final (run_length I a.table r.acts ∙ a.bits.is_table) r.steady in
            b.never
            (record {
              acts = r.acts;
              below = r.below;
              solved = λ w l. sym (same w l) ∙ solved w l ∙ keeps-along I (table_bits I final) (after_acts (bit_equations I) b.bit r.acts) w (λ v m p. same v m);
            });
      }
    where
      b : NeverRests (bit_equations I)
      b = moves.is_stuck q

      a : TableWith I b.bit
      a = table-with I b.bit b.possible

  -- 2 or more
  table-back : loops (list_machine I) ≡ true → SomeComesBack I
  table-back q =
      record {
        table = two;
        is_table = run_length I one' acts ∙ run_length I start acts ∙ a.bits.is_table;
        legal = run_ok I one' acts (run_ok I start acts a.legal);
        acts = acts;
        comes_back =
            record { below = b.below; back = sym (all_after I one' two up acts b.below (stays one' two refl)); first = b.first; changed = changed };
      }
    where
      b : BitsComeBack (bit_equations I)
      b = moves.come_back.0 q

      acts : List ℕ
      acts = b.acts

      a : TableWith I b.bit
      a = table-with I b.bit b.possible

      start : List Route
      start = a.table

      one' : List Route
      one' = run_acts I start acts

      two : List Route
      two = run_acts I one' acts

      -- who does not act holds what it held
      stays : (t u : List Route) → run_acts I t acts ≡ u → (w : ℕ) → w < I.n → (acted acts w ≡ true) ⊎ (held t w ≡ held u w)
      stays t u e w l =
          ⊎_elim inl (λ (p : acted acts w ≡ false). inr (sym (ap (λ x. held x w) (sym e) ∙ idle I acts t w p)))
          (true-or-false (acted acts w))

      came-back : (w : ℕ) → w < I.n → table_bits I one' w ≡ b.bit w
      came-back w l = run-bits I acts b.below start a.bits b.bit a.same w l ∙ b.back w l

      same : SameBits I start one'
      same = record { left = a.bits; right = run-table I acts b.below start a.bits; same = λ w l. a.same w l ∙ sym (came-back w l) }

      up : SameReflectors I one' two
      up = reflectors-after I start one' same acts b.below (stays start one' refl)

      part : ActsBelow I.n (take b.first acts)
      part = below-take I.n b.first acts b.below

      two-bits : (w : ℕ) → w < I.n → table_bits I two w ≡ b.bit w
      two-bits w l = sym (up.bits.same w l) ∙ came-back w l

      changed : run_acts I two (take b.first acts) ≡ two → ⊥
      changed e =
          b.changed
          (sym (run-bits I (take b.first acts) part two up.bits.right b.bit two-bits b.router b.is_router)
          ∙ ap (λ x. table_bits I x b.router) e
          ∙ two-bits b.router b.is_router)

  -- a table that comes back, whole rounds between
  still_back : (t : List Route) (acts : List ℕ) → run_acts I t acts ≡ t → (k : ℕ) → run_acts I t (repeated acts k) ≡ t
  unfolding repeated run_acts
  still_back t acts e zero = refl
  still_back t acts e (suc k) = run-append I t acts (repeated acts k) ∙ ap (λ u. run_acts I u (repeated acts k)) e ∙ still_back t acts e k

  keeps-moving : (t : List Route) → IsTable I t → (acts : List ℕ) → ComesBack I t acts → 1 ≤ rounds I.n acts → grade I ≡ 1 → ⊥
  keeps-moving t long acts c h g =
      let k = grade_rounds I in
      let steady = (grade-rests g t long (repeated acts k) (below-repeated I.n acts c.below k) (repeated-rounds I.n acts h k)).steady in
      c.changed (steady-stays I t long (rw (still_back t acts c.back k) at steady) (take c.first acts))

  -- which tests the grades stand for
  grade-stuck : 3 ≤ grade I → stuck (list_machine I) ≡ true
  grade-stuck h = go grade-case
    where
      go : GradeCase I → stuck (list_machine I) ≡ true
      go (no_table a e) = moves.unsolved (no-solution a)
      go (is-stuck a p e) = p
      go (is-looping a p q e) = absurd (omega arith)
      go (is-resting a p q e) = absurd (omega arith)

  grade-loops : 2 ≤ grade I → loops (list_machine I) ≡ true
  grade-loops h = go grade-case
    where
      go : GradeCase I → loops (list_machine I) ≡ true
      go (no_table a e) = moves.stuck_loops (grade-stuck (omega arith))
      go (is-stuck a p e) = moves.stuck_loops p
      go (is-looping a p q e) = q
      go (is-resting a p q e) = absurd (omega arith)

  grade-free : grade I ≤ 2 → stuck (list_machine I) ≡ false
  grade-free h = go grade-case
    where
      go : GradeCase I → stuck (list_machine I) ≡ false
      go (no_table a e) = absurd (omega arith)
      go (is-stuck a p e) = absurd (omega arith)
      go (is-looping a p q e) = p
      go (is-resting a p q e) = p

  grade-bounds : (1 ≤ grade I) × (grade I ≤ 4)
  grade-bounds = go grade-case
    where
      go : GradeCase I → (1 ≤ grade I) × (grade I ≤ 4)
      go (no_table a e) = omega arith
      go (is-stuck a p e) = omega arith
      go (is-looping a p q e) = omega arith
      go (is-resting a p q e) = omega arith

  grade-four : (grade I ≡ 4) ↔ ((t : List Route) → IsTable I t → Steady I t → ⊥)
  grade-four = (λ g t long s. there g t long s grade-case, λ never. back never grade-case)
    where
      there : grade I ≡ 4 → (t : List Route) → IsTable I t → Steady I t → GradeCase I → ⊥
      there g t long s (no_table a e) = no_number a t long s
      there g t long s (is-stuck a p e) = omega arith
      there g t long s (is-looping a p q e) = omega arith
      there g t long s (is-resting a p q e) = omega arith

      back : ((t : List Route) → IsTable I t → Steady I t → ⊥) → GradeCase I → grade I ≡ 4
      back never (no_table a e) = e
      back never (is-stuck a p e) = absurd (some_number a never)
      back never (is-looping a p q e) = absurd (some_number a never)
      back never (is-resting a p q e) = absurd (some_number a never)

  stable-grade : stable (closure (reliance I) I.n) I.n ≡ true → grade I ≡ 1
  stable-grade s = go grade-case
    where
      go : GradeCase I → grade I ≡ 1
      go (no_table a e) = let z : steady_count I ≡ 1 = ap length ((steady-tables I).stable_list s) in absurd (omega arith)
      go (is-stuck a p e) = not-both (loops (list_machine I)) (moves.stuck_loops p) (stable-rests s)
      go (is-looping a p q e) = not-both (loops (list_machine I)) q (stable-rests s)
      go (is-resting a p q e) = e

  pub grade-means : GradeMeans I
  grade-means =
      record {
        least = grade-bounds.0;
        most = grade-bounds.1;
        rests = grade-rests;
        stable_list = stable-grade;
        can_rest = (
          λ h t long ok. can-rest (grade-free h) t long,
          λ all.
              ⊎_elim (λ (h : grade I < 3). omega arith)
              (λ (h : 3 ≤ grade I).
              let c = never-rests (grade-stuck h) in
              absurd (c.never (all c.table c.is_table c.legal)))
              (lt-or-le (grade I) 3),
        );
        cannot_rest = (
          λ h. never-rests (grade-stuck h),
          λ c.
              ⊎_elim (λ (h : grade I < 3). absurd (c.never (can-rest (grade-free (omega arith)) c.table c.is_table)))
              (λ (h : 3 ≤ grade I). h)
              (lt-or-le (grade I) 3),
        );
        no_steady = grade-four;
        comes_back = λ h. table-back (grade-loops h);
        moving = λ t long acts c h.
            ⊎_elim
            (λ (p : grade I < 2). absurd (keeps-moving t long acts c h (omega (arith, grade-bounds))))
            (λ (p : 2 ≤ grade I). p)
            (lt-or-le (grade I) 2);
      }
