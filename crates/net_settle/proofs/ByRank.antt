-- The settled table is reached by one act of every router, in the order of its rank.
use Prim.Native.Nat.{ℕ, ◌+◌, ◌*◌, ◌≤◌, ◌<◌}
use native.Mathlib.Omega.{arith}
use mathlib.Core.Path.{◌≡◌, refl, ◌∙◌, sym, ap, ap₂}
use mathlib.Core.Bool.{Bool, true, false, cond}
use mathlib.Core.List.{List, ◌++◌}
use mathlib.Core.Logic.{◌⊎◌, inl, inr, ⊎_elim}
use lib.ListN.{length, drop}
use lib.Seq.{ext_get_or}
use borrow.Author.Count.{below_more}
use borrow.Author.Tests.{eq-eqb}
use Rattle.base.proofs.Below.{all-at, all-intro}
use Rattle.base.proofs.Numbers.{eq-or-ne, lt-or-le}
use Rattle.graph_ranks.specs.Rank.{entry}
use Rattle.route_rules.specs.Instance.{Instance, Route, nothing, via}
use Rattle.route_rules.specs.Activation.{held, entry_ok, table_ok}
use Rattle.route_theorems.specs.Settled.{settled_table}
use Rattle.route_theorems.specs.Claims.{Ranked}
use Rattle.route_theorems.proofs.Clean.{CleanEntry, choose-clean}
use Rattle.route_theorems.proofs.Existence.{steady-holds, settled-length, settled-legal, settled-steady, chooses-settled}
use Rattle.net_tables.specs.TableBytes.{route_at, put_route, table_of, table_bytes, activate_bytes}
use Rattle.net_tables.proofs.TableBytes.{Written, read-nothing, read-via, put-own, put_other, put_rest, table-length, table-held, table-bytes, act-own, act-other, act-rest}
use Rattle.net_settle.specs.ByRank.{highest_in, first_route, settled_route, Started, SettledBelow}

module _ (I : Instance) (v : ℕ) where
  pub first-listed : I.listed v ≡ true → first_route I v ≡ via v v
  first-listed h = rw h

  pub first-unlisted : I.listed v ≡ false → first_route I v ≡ nothing
  first-unlisted h = rw h

-- the first entries, one router a turn
module _ (I : Instance) (small : I.n ≤ 64) (start : List ℕ) where
  pub started_none : Started I 0 start start
  started_none = record { first = λ v l. absurd (omega arith); rest = refl }

  first-written : (v : ℕ) → v < 64 → Written (first_route I v)
  first-written v l = go (I.listed v)
    where
      go : (b : Bool) → Written (cond b (via v v) nothing)
      go true = read-via v v (omega arith)
      go false = read-nothing

  pub started-more : (k : ℕ) (buffer : List ℕ) (x : Route) → k < I.n → 2 * I.n ≤ length buffer → x ≡ first_route I k
      → Started I k start buffer → Started I (k + 1) start (put_route buffer k x)
  started-more k buffer x l long e s =
      record {
        first = λ v h. go v h (eq-or-ne v k);
        rest = put_rest buffer k x I.n l ∙ s.rest;
      }
    where
      go : (v : ℕ) → v < k + 1 → (v ≡ k) ⊎ (v ≡ k → ⊥) → route_at (put_route buffer k x) v ≡ first_route I v
      go v h (inl q) =
          ap (route_at (put_route buffer k x)) q
          ∙ put-own buffer k x (omega arith) (rw e (first-written k (omega arith)))
          ∙ e
          ∙ ap (first_route I) (sym q)
      go v h (inr q) = put_other buffer k x v q ∙ s.first v (omega arith)

  pub started-done : (k : ℕ) (buffer : List ℕ) → k ≤ I.n → I.n ≤ k → Started I k start buffer → Started I I.n start buffer
  started-done k buffer l h s = let e : k ≡ I.n = omega arith in rw e at s

  -- no rank is below 0
  pub below-start : (ranks buffer : List ℕ) → Started I I.n start buffer → SettledBelow I ranks 0 start buffer
  below-start ranks buffer s =
      record { either = λ v l. inl (s.first v l); below = λ v l h. absurd (omega arith); rest = s.rest }

-- the turn of rank k, when the routers below w have been asked
pub record Turn (I : Instance) (ranks : List ℕ) (k : ℕ) (start : List ℕ) (w : ℕ) (buffer : List ℕ) : Type 0 where
  pub on : SettledBelow I ranks k start buffer
  pub passed : (v : ℕ) → v < w → entry ranks v ≡ k → route_at buffer v ≡ settled_route I ranks v

module _ (I : Instance) (ranks : List ℕ) (r : Ranked I (entry ranks) (highest_in ranks I.n)) where
  abbrev R : ℕ
  R = highest_in ranks I.n

  -- a first entry and a settled one are clean and obey the rule of a table
  first-clean : (v : ℕ) → CleanEntry I v (first_route I v)
  first-clean v e s q unlisted reflector client =
      let z : ◌≡◌ {A = Route} nothing (via e s) = sym (first-unlisted I v unlisted) ∙ q in
      let o : ◌≡◌ {A = ℕ} 0 1 = cc in
      absurd (omega arith)

  first-legal : (v : ℕ) → entry_ok I v (first_route I v) ≡ true
  unfolding entry_ok
  first-legal v = go (I.listed v) refl
    where
      go : (b : Bool) → I.listed v ≡ b → entry_ok I v (first_route I v) ≡ true
      go true p = cc (eq-eqb v v refl)
      go false p = cc

  settled-clean : (v : ℕ) → v < I.n → CleanEntry I v (settled_route I ranks v)
  settled-clean v l e s q =
      choose-clean I v (held (settled_table I R)) e s
      (steady-holds I (settled_table I R) (settled-length I (entry ranks) R r) (settled-steady I (entry ranks) R r) v l ∙ q)

  settled-rule : (v : ℕ) → v < I.n → entry_ok I v (settled_route I ranks v) ≡ true
  unfolding table_ok
  settled-rule v l = all-at (λ v. entry_ok I v (held (settled_table I R) v)) I.n (settled-legal I (entry ranks) R r) v l

  module _ (k : ℕ) (start buffer : List ℕ) (s : SettledBelow I ranks k start buffer) where
    pub below-legal : table_ok I (table_of buffer I.n) ≡ true
    unfolding table_ok
    below-legal =
        all-intro (λ v. entry_ok I v (held (table_of buffer I.n) v)) I.n
        (λ v l.
        ap (entry_ok I v) (table-held buffer I.n v l)
        ∙ ⊎_elim (λ (e : route_at buffer v ≡ first_route I v). ap (entry_ok I v) e ∙ first-legal v)
        (λ (e : route_at buffer v ≡ settled_route I ranks v). ap (entry_ok I v) e ∙ settled-rule v l)
        (s.either v l))

    below-clean : (v : ℕ) → v < I.n → CleanEntry I v (held (table_of buffer I.n) v)
    below-clean v l e t q =
        ⊎_elim (λ (h : route_at buffer v ≡ first_route I v). first-clean v e t (sym h ∙ sym (table-held buffer I.n v l) ∙ q))
        (λ (h : route_at buffer v ≡ settled_route I ranks v). settled-clean v l e t (sym h ∙ sym (table-held buffer I.n v l) ∙ q))
        (s.either v l)

    -- a router of rank k acts when all that it relies on hold their settled entries
    acts-settled : (w : ℕ) → I.n ≤ 64 → w < I.n → 2 * I.n ≤ length buffer → entry ranks w ≡ k
        → route_at (activate_bytes I w buffer) w ≡ settled_route I ranks w
    acts-settled w small l long e =
        act-own I w buffer small l long
        ∙ chooses-settled I (entry ranks) R r w (held (table_of buffer I.n)) l below-clean
        (λ v m p. table-held buffer I.n v m ∙ s.below v m (omega (arith, r.falls w v l m p)))

    -- the bytes after the table are also those of a later start
    pub below-here : SettledBelow I ranks k buffer buffer
    below-here = record { either = s.either; below = s.below; rest = refl }

    pub below-onward : (next : ℕ) (after : List ℕ) → SettledBelow I ranks next buffer after → SettledBelow I ranks next start after
    below-onward next after t = record { either = t.either; below = t.below; rest = t.rest ∙ s.rest }

    -- past the highest rank the table is the settled one
    pub below-done : 2 * I.n ≤ length buffer → R < k → buffer ≡ table_bytes (settled_table I R) ++ drop (2 * I.n) start
    below-done long h =
        table-bytes buffer I.n long
        ∙ ap₂ (λ t d. table_bytes t ++ d)
        (ext_get_or nothing (table_of buffer I.n) (settled_table I R) (table-length buffer I.n ∙ sym (settled-length I (entry ranks) R r))
        (λ v l.
        let m : v < I.n = omega (arith, table-length buffer I.n) in
        table-held buffer I.n v m ∙ s.below v m (omega (arith, r.highest v m))))
        s.rest

  module _ (k : ℕ) (start : List ℕ) where
    pub turn-start : SettledBelow I ranks k start start → Turn I ranks k start 0 start
    turn-start s = record { on = s; passed = λ v l e. absurd (omega arith) }

    pub turn-skip : (w : ℕ) (buffer : List ℕ) → (entry ranks w ≡ k → ⊥) → Turn I ranks k start w buffer → Turn I ranks k start (w + 1) buffer
    turn-skip w buffer d t = record { on = t.on; passed = below_more _ w t.passed (λ e. absurd (d e)) }

    pub turn-act : (w : ℕ) (buffer : List ℕ) → I.n ≤ 64 → w < I.n → 2 * I.n ≤ length buffer → entry ranks w ≡ k
        → Turn I ranks k start w buffer → Turn I ranks k start (w + 1) (activate_bytes I w buffer)
    turn-act w buffer small l long e t =
        record {
          on = record {
            either = λ v m. ⊎_elim (λ q. inr (own v q)) (λ q. rw (act-other I w buffer v q) (t.on.either v m)) (eq-or-ne v w);
            below = λ v m h. ⊎_elim (own v) (λ q. act-other I w buffer v q ∙ t.on.below v m h) (eq-or-ne v w);
            rest = act-rest I w buffer l ∙ t.on.rest;
          };
          passed = λ v m h. ⊎_elim (own v) (λ q. act-other I w buffer v q ∙ t.passed v (omega arith) h) (eq-or-ne v w);
        }
      where
        own : (v : ℕ) → v ≡ w → route_at (activate_bytes I w buffer) v ≡ settled_route I ranks v
        own v q =
            ap (route_at (activate_bytes I w buffer)) q ∙ acts-settled k start buffer t.on w small l long e ∙ ap (settled_route I ranks) (sym q)

    pub turn-done : (w : ℕ) (buffer : List ℕ) → I.n ≤ w → Turn I ranks k start w buffer → SettledBelow I ranks (k + 1) start buffer
    turn-done w buffer l t =
        record {
          either = t.on.either;
          below = λ v m h.
              ⊎_elim (λ (q : entry ranks v < k). t.on.below v m q) (λ (q : k ≤ entry ranks v). t.passed v (omega arith) (omega arith))
              (lt-or-le (entry ranks v) k);
          rest = t.on.rest;
        }
