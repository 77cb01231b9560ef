-- The list judged and written, and the answer.
use Prim.Native.Nat.{ℕ, suc, ◌+◌, ◌≤◌, ◌<◌}
use native.Mathlib.Omega.{arith}
use mathlib.Core.Path.{◌≡◌, refl, ◌∙◌, sym, ap, fun_ext}
use mathlib.Core.Bool.{Bool, true, false, not, ◌||◌}
use mathlib.Core.List.{List, [], ◌∷◌, ◌++◌}
use mathlib.Core.Logic.{⊎_elim}
use borrow.Author.Tests.{eq-eqb, ne_eqb}
use lib.Dec.{eqb}
use lib.ListN.{length, get_or, drop, set, length-append}
use Rattle.base.specs.Below.{any_below}
use Rattle.base.specs.BitWalk.{from_bit, LowestBit, BitWalk}
use Rattle.base.specs.Bits.{bit_n}
use Rattle.base.specs.Buffer.{written}
use Rattle.base.specs.Seek.{flag, seek}
use Rattle.base.proofs.Below.{any-refuted}
use Rattle.base.proofs.BitWalk.{walk_start, walk-within, walk-set, walk-visit, walk_more, walk-done}
use Rattle.base.proofs.Buffer.{Laid, laid_then, laid-front, length-written, sets-written}
use Rattle.base.proofs.Numbers.{eq-or-ne}
use Rattle.base.proofs.Seek.{seek_found, found-is}
use Rattle.graph_groups.specs.Closure.{closure}
use Rattle.graph_groups.specs.Groups.{stable}
use Rattle.route_rules.specs.Instance.{Instance}
use Rattle.route_rules.specs.Reliance.{reliance}
use Rattle.steady_rules.specs.Numbers.{numbers_where}
use Rattle.steady_rules.proofs.Listing.{where-none, where-yes, where-no}
use Rattle.everylist_rules.specs.Pairs.{has_left, walk, found}
use Rattle.everylist_rules.specs.EveryList.{stable_for, none_left, every_list, suspect_list}
use Rattle.everylist_rules.proofs.Walks.{found-client}
use Rattle.net_groups.specs.GroupRows.{GroupRows}
use Rattle.net_verdict.specs.Assessed.{is_stable}
use Rattle.net_figures.proofs.OneMore.{word-stable, word-suspect}
use Rattle.net_everylist.specs.declared.EveryList.TheVariants.{Yes, No, Undecided}
use Rattle.net_everylist.specs.Peeling.{WordBelow, LeftRows}
use Rattle.net_everylist.specs.EveryList.{case_of, Answered}
use Rattle.net_everylist.proofs.Stepping.{row_has, row-none, walk-some}
use Rattle.net_everylist.proofs.Words.{is_in}

-- no router is in a group of two or more exactly if the list is stable
pub judged : (I : Instance) (relied closed : List ℕ) (word : ℕ) → GroupRows I relied closed word
    → eqb word 0 ≡ stable (closure (reliance I) I.n) I.n
unfolding is_stable
judged I relied closed word g =
    ⊎_elim (λ (e : word ≡ 0). eq-eqb word 0 e ∙ sym (word-stable I relied closed word g e))
    (λ (e : word ≡ 0 → ⊥). ne_eqb word 0 e ∙ sym (word-suspect I relied closed word g e))
    (eq-or-ne word 0)

-- the numbers written so far into a buffer that was d
pub record Listed (p : ℕ → Bool) (d list : List ℕ) (i k : ℕ) : Type 0 where
  pub laid : Laid d 0 (numbers_where p k) list
  pub count : i ≡ length (numbers_where p k)
  pub few : i ≤ k

module _ (word n : ℕ) (d : List ℕ) where
  abbrev pub Writing : List ℕ → ℕ → ℕ → Type 0
  Writing list i m = BitWalk (Listed (is_in word) d list i) word n m

  pub writing_start : Writing d 0 word
  unfolding written
  writing_start =
      walk_start (Listed (is_in word) d d 0) word n
      (record {
        laid = record { within = rw (where-none (is_in word)) (omega arith); is = rw (where-none (is_in word)) };
        count = sym (ap length (where-none (is_in word)));
        few = omega arith;
      })

  module _ (within : WordBelow word n) (list : List ℕ) (i m : ℕ) (s : Writing list i m) where
    abbrev So : ℕ → Type 0
    So k = Listed (is_in word) d list i k

    same : (k : ℕ) → So k → length list ≡ length d
    same k h = ap length h.laid.is ∙ length-written d 0 (numbers_where (is_in word) k) h.laid.within

    pub writing-length : length list ≡ length d
    writing-length = same s.at s.holds

    passed : (v : ℕ) → v < n → bit_n word v ≡ 0 → So v → So (suc v)
    passed v l h q =
        let e = where-no (is_in word) v (ap (λ b. eqb b 1) h) in
        record { laid = rw e q.laid; count = rw e q.count; few = omega (arith, q.few) }

    module _ (v : ℕ) (low : LowestBit m v) where
      pub writing-below : v < n
      writing-below = walk-within So word n m v within s low

      here : So v
      here = walk-visit So word n passed m v within s low

      pub writing-room : n ≤ length d → i < length list
      writing-room l = omega (arith, same v here, here.few, writing-below)

      pub writing_more : n ≤ length d → (m' : ℕ) → m' ≡ from_bit m (suc v) → Writing (set list i v) (i + 1) m'
      writing_more l m' left =
          let e = where-yes (is_in word) v (eq-eqb _ 1 (walk-set So word n m v within s low)) in
          let long : i + 1 ≤ length list = omega (arith, writing-room l) in
          walk_more So word n m v within s low (Listed (is_in word) d (set list i v) (i + 1)) m' left
          (record {
            laid =
                rw e
                (laid_then here.laid i (v ∷ []) (omega (arith, here.count)) (omega (arith, long, same v here)) (sets-written list i (v ∷ []) long));
            count = rw e (omega (arith, here.count, length-append (numbers_where (is_in word) v) (v ∷ [])));
            few = omega (arith, here.few);
          })

    module _ (z : m ≡ 0) where
      all : So n
      all = walk-done So word n passed m s z

      pub writing-count : i ≡ length (numbers_where (is_in word) n)
      writing-count = all.count

      pub writing-done : list ≡ numbers_where (is_in word) n ++ drop i d
      writing-done = laid-front all.laid ∙ ap (λ k. numbers_where (is_in word) n ++ drop k d) (sym all.count)

-- the first router with a row that is not 0 is the first with pairs left, where the walk starts
module _ (I : Instance) (rows : List ℕ) (is : LeftRows I rows) (first : ℕ) (sought : first ≡ seek (λ w. get_or rows w 0) I.n) where
  abbrev row : ℕ → ℕ
  row w = get_or rows w 0

  pub first_walk : first ≡ walk I 0
  unfolding walk
  first_walk =
      let f = seek_found row I.n in
      sought
      ∙ sym
      (found-is (λ w. flag (has_left I w)) I.n (seek row I.n) (record {
        upto = f.upto;
        before = λ d l. ap flag (row-none I rows is d (f.before d l));
        hit = λ l. rw (row_has I rows is (seek row I.n) (f.hit l)) (omega arith);
      }))

  some_left : first < I.n → any_below (has_left I) I.n ≡ true
  some_left l = walk-some I (omega (arith, first_walk))

  none-left : I.n ≤ first → any_below (has_left I) I.n ≡ false
  none-left l = any-refuted (has_left I) I.n (λ w m. row-none I rows is w ((seek_found row I.n).before w (omega (arith, sought))))

  -- what is given with each answer
  module _ (list : List ℕ) where
    pub answered-yes : I.n ≤ first → Answered I Yes (record { before = list; after = list })
    unfolding every_list suspect_list none_left
    answered-yes l = record { answer = rw (none-left l); written = rw (none-left l) }

    module _ (l : first < I.n) (word : ℕ) (marks : (e : ℕ) → is_in word e ≡ found I e) where
      found-is-word : is_in word ≡ found I
      found-is-word = fun_ext marks

      pub word_below : WordBelow word I.n
      word_below e h = (found-client I e (sym (marks e) ∙ eq-eqb _ 1 h)).0

      pub answered-undecided : stable_for I (is_in word) ≡ true → Answered I Undecided (record { before = list; after = list })
      unfolding every_list suspect_list none_left
      answered-undecided h =
          let s : stable_for I (found I) ≡ true = ap (stable_for I) (sym found-is-word) ∙ h in
          record { answer = rw (some_left l, s); written = rw (some_left l, s) }

      pub answered-no : stable_for I (is_in word) ≡ false → (count : ℕ) (after : List ℕ) → count ≡ length (numbers_where (is_in word) I.n)
          → after ≡ numbers_where (is_in word) I.n ++ drop count list → Answered I (No count) (record { before = list; after = after })
      unfolding every_list suspect_list none_left
      answered-no h count after k e =
          let s : stable_for I (found I) ≡ false = ap (stable_for I) (sym found-is-word) ∙ h in
          record {
            answer = rw (some_left l, s) (ap No (k ∙ ap (λ p. length (numbers_where p I.n)) found-is-word));
            written =
                rw (some_left l, s)
                (e ∙ ap (λ x. numbers_where (is_in word) I.n ++ drop x list) k ∙ ap (λ p. numbers_where p I.n ++ drop (length (numbers_where p I.n)) list) found-is-word);
          }
