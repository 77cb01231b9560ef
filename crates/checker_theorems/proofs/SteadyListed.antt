-- The numbers that the call lists are those of the tables in bytes that no act changes.
use Prim.Native.Nat.{ℕ, zero, suc, ◌+◌, ◌*◌, ◌^◌, ◌≤◌, ◌<◌}
use native.Mathlib.Nat.{zero-add}
use native.Mathlib.Omega.{arith}
use mathlib.Core.Path.{◌≡◌, refl, ◌∙◌, sym, ap, ap₂, subst}
use mathlib.Core.Bool.{Bool, true, false}
use mathlib.Core.List.{List, [], ◌∷◌, ◌++◌}
use mathlib.Core.Logic.{◌⊎◌, ⊎_elim}
use borrow.Author.Tests.{ltb-true, eqb-true}
use lib.Dec.{ltb, eqb}
use lib.ListN.{length, get_or, drop, length-append, get_or-append}
use lib.Seq.{ext_get_or}
use Rattle.base.specs.Bytes.{bytes_of}
use Rattle.base.specs.Lent.{Lent}
use Rattle.base.specs.Seek.{count}
use Rattle.base.specs.Tab.{joined}
use Rattle.base.proofs.Bytes.{length-bytes, little-cong, number-back}
use Rattle.base.proofs.Joined.{length-joined, get_or-joined}
use Rattle.base.proofs.Below.{all-at}
use Rattle.base.proofs.Numbers.{eq-or-ne, lt-or-le, both_left, not-both}
use Rattle.base.proofs.Tab.{length-tab, get_or-tab}
use Rattle.plan_contents.specs.Header.{router_count}
use Rattle.plan_rules.proofs.Passed.{passed}
use Rattle.plan_rules.proofs.Refused.{when-refused, when-given}
use Rattle.route_rules.specs.Instance.{Instance, Route, nothing, via}
use Rattle.route_rules.specs.Activation.{held, entry_ok, table_ok}
use Rattle.route_theorems.specs.Settled.{settled_table}
use Rattle.route_theorems.specs.Claims.{IsTable, Steady, OneSteadyTable}
use Rattle.steady_rules.specs.Numbers.{bit_at, nth_of, Occurs, Rises}
use Rattle.steady_rules.specs.Steady.{grouped_in, grouped_routers, bit_of, steady_numbers, steady_count, HoldsOwn, Names}
use Rattle.steady_rules.proofs.Numbers.{count-lt, nth-is, nth-count}
use Rattle.steady_rules.proofs.Told.{own-best}
use Rattle.steady_rules.proofs.SteadyTables.{steady-tables}
use Rattle.net_rules.specs.FromPlan.{instance_of}
use Rattle.net_tables.specs.TableBytes.{read_route, egress_byte, sender_byte, route_at, table_of, table_bytes, activate_bytes}
use Rattle.net_tables.proofs.TableBytes.{read-nothing, read-via, read-bytes, Written, table-length, table-held, table-front, act-table}
use Rattle.net_verdict.specs.Assessed.{is_stable, highest_of, settled_bytes}
use Rattle.call_rules.specs.RowsExactly.{egress_at, sender_at, TableFacts}
use Rattle.call_rules.proofs.Granted.{SteadyAsked, steady-asked}
use Rattle.call_rules.proofs.RowsExactly.{table-tested, call_rows}
use Rattle.call_rules.specs.Refusals.{activate_refusal, verdict_refusal, steady_refusal}
use Rattle.call_run.specs.Activate.{activate_table}
use Rattle.call_run.specs.Run.{run_table}
use Rattle.call_verdict.specs.declared.verdict.VerdictAnswer.{VerdictAnswer}
use Rattle.call_verdict.specs.Verdict.{verdict_is_stable, VerdictCall}
use Rattle.call_steady.specs.declared.steady.SteadyAnswer.{SteadyAnswer}
use Rattle.call_steady.specs.Steady.{refusal_of, count_of, number_bytes, numbers_after, SteadyCall}
use Rattle.checker_theorems.specs.Series.{Call, activate_call, run_call, series_buffer, series_acts, ForThis}
use Rattle.checker_theorems.specs.HopStep.{HasList}
use Rattle.checker_theorems.specs.SteadyListed.{number_in, group_members, NoActChanges, StaysAsItIs, HoldsOwnBytes, NamedBy, NumberedTable, OneNumber, IsListed, ZeroAlone, EverySteadyListed}
use Rattle.checker_theorems.proofs.VerdictMeaning.{settled-alone}
use Rattle.checker_theorems.proofs.StableVerdict.{stable-verdict}
use Rattle.checker_theorems.proofs.Series.{series-applies, applied-stays}
use Rattle.checker_theorems.proofs.HopStep.{label-byte, same-label}

-- the bytes of a table, and the table of its bytes
bytes-length : (t : List Route) → length (table_bytes t) ≡ 2 * length t
unfolding table_bytes
bytes-length [] = refl
bytes-length (x ∷ t) = omega (arith, bytes-length t)

bytes-at : (t : List Route) (rest : List ℕ) (v : ℕ) → v < length t → route_at (table_bytes t ++ rest) v ≡ read_route (egress_byte (held t v)) (sender_byte (held t v))
unfolding table_bytes
bytes-at [] rest v l = absurd (omega arith)
bytes-at (x ∷ t) rest zero l = refl
bytes-at (x ∷ t) rest (suc v) l =
    let e : 2 * suc v ≡ suc (suc (2 * v)) = omega arith in
    let f : 2 * suc v + 1 ≡ suc (suc (2 * v + 1)) = omega arith in
    ap₂ (λ i j. read_route (get_or (table_bytes (x ∷ t) ++ rest) i 0) (get_or (table_bytes (x ∷ t) ++ rest) j 0)) e f ∙ bytes-at t rest v (omega arith)

table-back : (t : List Route) (rest : List ℕ) → ((v : ℕ) → v < length t → Written (held t v)) → table_of (table_bytes t ++ rest) (length t) ≡ t
table-back t rest w =
    ext_get_or nothing _ t (table-length (table_bytes t ++ rest) (length t))
    (λ v l.
    let m : v < length t = omega (arith, table-length (table_bytes t ++ rest) (length t)) in
    table-held (table_bytes t ++ rest) (length t) v m ∙ bytes-at t rest v m ∙ w v m)

-- a number read from the bytes of a list of numbers
number-at : (numbers rest : List ℕ) (j : ℕ) → j < length numbers → get_or numbers j 0 < 256 ^ 2 → number_in (number_bytes numbers ++ rest) j ≡ get_or numbers j 0
unfolding number_bytes
number-at numbers rest j l below =
    little-cong 2 (joined f (length numbers) ++ rest) (bytes_of 2 (get_or numbers j 0)) (2 * j) 0 byte ∙ number-back 2 (get_or numbers j 0) below
  where
    f : ℕ → List ℕ
    f i = bytes_of 2 (get_or numbers i 0)

    byte : (b : ℕ) → b < 2 → get_or (joined f (length numbers) ++ rest) (2 * j + b) 0 ≡ get_or (f j) (0 + b) 0
    byte b m =
        get_or-append (joined f (length numbers)) rest 0 (2 * j + b)
        (omega (arith, length-joined f 2 (λ i. length-bytes 2 (get_or numbers i 0)) (length numbers)))
        ∙ get_or-joined f 2 (λ i. length-bytes 2 (get_or numbers i 0)) (length numbers) j b 0 l m
        ∙ ap (λ i. get_or (f j) i 0) (sym (zero-add b))

-- a plan that is not refused, and one of its lists
module _ (plan : List ℕ) (k : ℕ) (h : HasList plan k) where
  abbrev I : Instance
  I = instance_of plan k

  abbrev n : ℕ
  n = router_count plan

  pub small : n ≤ 64
  small = (passed plan h.plan_ok).count.most

  -- tables in bytes that no act changes
  module _ (table : List ℕ) where
    abbrev t : List Route
    t = table_of table n

    pub is-table : IsTable I t
    is-table = table-length table n

    pub steady-of : NoActChanges plan k table → Steady I t
    unfolding activate_table
    steady-of u w l =
        let given : activate_refusal plan k w table ≡ 0
        = ((call_rows plan).activate k w table).none.1 (passed plan h.plan_ok, (h.list_ok, l), tt, u.long, u.rule) in
        let bytes : activate_bytes I w table ≡ table = sym (when-given (activate_refusal plan k w table) _ _ given) ∙ u.unchanged w l in
        sym (act-table I w table small l u.long) ∙ ap (λ b. table_of b n) bytes

    module _ (long : 2 * n ≤ length table) (steady : Steady I t) where
      kept : (calls : List Call) → ForThis plan k calls table → series_buffer calls table ≡ table
      kept calls this =
          applied-stays I small (series_acts calls table) table (series_buffer calls table) long (series-applies plan k calls table this)
          t is-table steady refl

      activation-kept : (w : ℕ) → activate_table plan k w table ≡ table
      unfolding series_buffer ForThis
      activation-kept w = kept (activate_call plan k w ∷ []) ((λ _. (refl, refl)), tt)

      run-kept : (acts : List ℕ) (limit : ℕ) → run_table plan k acts limit table ≡ table
      unfolding series_buffer ForThis
      run-kept acts limit = kept (run_call plan k acts limit ∷ []) ((λ _. (refl, refl)), tt)

      facts : TableFacts I table
      facts = (table-tested I small table).shown ((steady-tables I).legal t is-table steady)

      pub unchanged-of : NoActChanges plan k table
      unchanged-of = record { long = long; rule = facts; unchanged = λ w l. activation-kept w }

      pub stays : StaysAsItIs plan k table
      stays =
          record {
            activated = λ w l r after a. (
              a.number ∙ ((call_rows plan).activate k w table).none.1 (passed plan h.plan_ok, (h.list_ok, l), tt, long, facts),
              a.bytes ∙ activation-kept w,
            );
            run = λ acts limit b r after a. (
              a.number ∙ ((call_rows plan).run k acts table).none.1 (passed plan h.plan_ok, (h.list_ok, b), tt, long, facts),
              a.bytes ∙ run-kept acts limit,
            );
            series = kept;
          }

    -- whoever holds its best client's own route
    holds-bytes : (w : ℕ) → w < n → HoldsOwn I t w → HoldsOwnBytes plan k table w
    holds-bytes w l o =
        let e : read_route (egress_at table w) (sender_at table w) ≡ via o.client o.client = sym (table-held table n w l) ∙ o.holds in
        let b = read-bytes (egress_at table w) (sender_at table w) in
        record {
          client = o.client;
          best = o.best;
          egress = sym b.0 ∙ ap egress_byte e;
          sender = sym b.1 ∙ ap sender_byte e;
        }

    bytes-hold : (w : ℕ) → w < n → HoldsOwnBytes plan k table w → HoldsOwn I t w
    bytes-hold w l o =
        let below : o.client < n = (own-best I w o.client o.best).below in
        record {
          client = o.client;
          best = o.best;
          holds =
              table-held table n w l ∙ ap₂ read_route o.egress o.sender ∙ read-via o.client o.client (omega (arith, small));
        }

  -- the routers in groups of two or more
  abbrev member : ℕ → ℕ
  member = nth_of (grouped_in I) n

  member-count : length (group_members plan k) ≡ grouped_routers I
  member-count = length-tab member (grouped_routers I)

  member-at : (i : ℕ) → i < grouped_routers I → get_or (group_members plan k) i 0 ≡ member i
  member-at = get_or-tab member (grouped_routers I) 0

  member_is : (w : ℕ) → Occurs w (group_members plan k) → (w < n) × (1 ≤ grouped_in I w)
  member_is w o =
      let l : o.at < grouped_routers I = omega (arith, o.within, member-count) in
      let p = nth-is (grouped_in I) n o.at l in
      subst (λ v. (v < n) × (1 ≤ grouped_in I v)) (sym (member-at o.at l) ∙ o.is) (p.0, p.1)

  is_member : (w : ℕ) → w < n → 1 ≤ grouped_in I w → Occurs w (group_members plan k)
  is_member w l q =
      let m = count-lt (grouped_in I) w n l q in
      record {
        at = bit_of I w;
        within = omega (arith, member-count);
        is = member-at (bit_of I w) m ∙ nth-count (grouped_in I) n w l q;
      }

  member-rises : Rises (group_members plan k)
  member-rises i j l m =
      let mj : j < grouped_routers I = omega (arith, member-count) in
      let p = nth-is (grouped_in I) n i (omega arith) in
      let q = nth-is (grouped_in I) n j mj in
      ⊎_elim (λ (r : member i < member j). omega (arith, member-at i (omega arith), member-at j mj))
      (λ (r : member j ≤ member i).
      ⊎_elim (λ (s : member j < member i). absurd (omega (arith, count-lt (grouped_in I) (member j) (member i) s q.1, p.2, q.2)))
      (λ (s : member i ≤ member j).
      let e : member i ≡ member j = omega arith in absurd (omega (arith, ap (count (grouped_in I)) e, p.2, q.2)))
      (lt-or-le (member j) (member i)))
      (lt-or-le (member i) (member j))

  -- the number of a table in bytes is that of the table
  module _ (table : List ℕ) (x : ℕ) where
    named-of : Names I x (table_of table n) → NamedBy plan k table x
    named-of a =
        record {
          bits = λ i l.
              let m : i < grouped_routers I = omega (arith, member-count) in
              let p = nth-is (grouped_in I) n i m in
              let e = member-at i m in (
                λ b.
                    subst (HoldsOwnBytes plan k table) (sym e)
                    (holds-bytes table (member i) p.0 ((a.bits (member i) p.0 p.1).0 (ap (bit_at x) p.2 ∙ b))),
                λ o.
                    ap (bit_at x) (sym p.2)
                    ∙ (a.bits (member i) p.0 p.1).1 (bytes-hold table (member i) p.0 (subst (HoldsOwnBytes plan k table) e o)),
              );
          below = rw member-count a.below;
        }

    names_of : NamedBy plan k table x → Names I x (table_of table n)
    unfolding is_member
    names_of a =
        record {
          bits = λ w l q.
              let o = is_member w l q in (
                λ b. bytes-hold table w l (subst (HoldsOwnBytes plan k table) o.is ((a.bits (bit_of I w) o.within).0 b)),
                λ c. (a.bits (bit_of I w) o.within).1 (subst (HoldsOwnBytes plan k table) (sym o.is) (holds-bytes table w l c)),
              );
          below = rw (← member-count) a.below;
        }

  -- an entry of the rule is read as it is written
  ok-written : (v : ℕ) → v < n → (x : Route) → entry_ok I v x ≡ true → Written x
  unfolding entry_ok
  ok-written v l nothing h = read-nothing
  ok-written v l (via e s) h = read-via e s (λ q. go (I.listed v) refl q)
    where
      go : (b : Bool) → I.listed v ≡ b → e ≡ 255 → ⊥
      go true p q = let m : e ≡ v = eqb-true e v (both_left (eqb e v) (eqb s v) (rw p at h)) in omega (arith, small)
      go false p q = let m : e < n = ltb-true e n (both_left (ltb e n) (I.neighbour v s) (rw p at h)) in omega (arith, small)

  -- a table of the rule, laid into bytes
  module _ (t : List Route) (is_table : IsTable I t) (legal : table_ok I t ≡ true) (rest : List ℕ) where
    entry-written : (v : ℕ) → v < length t → Written (held t v)
    unfolding table_ok
    entry-written v l =
        let m : v < n = omega (arith, is_table) in
        ok-written v m (held t v) (all-at (λ u. entry_ok I u (held t u)) n legal v m)

    pub laid_table : table_of (table_bytes t ++ rest) n ≡ t
    laid_table = ap (table_of (table_bytes t ++ rest)) (sym is_table) ∙ table-back t rest entry-written

    pub laid-length : length (table_bytes t ++ rest) ≡ 2 * n + length rest
    laid-length = length-append (table_bytes t) rest ∙ omega (arith, bytes-length t, is_table)

  -- .. one that no act changes
  module _ (t : List Route) (is_table : IsTable I t) (steady : Steady I t) (rest : List ℕ) where
    obeys : table_ok I t ≡ true
    obeys = (steady-tables I).legal t is_table steady

    laid-unchanged : NoActChanges plan k (table_bytes t ++ rest)
    laid-unchanged =
        unchanged-of (table_bytes t ++ rest) (omega (arith, laid-length t is_table obeys rest))
        (subst (Steady I) (sym (laid_table t is_table obeys rest)) steady)

    laid-named : (x : ℕ) → Names I x t → NamedBy plan k (table_bytes t ++ rest) x
    laid-named x a = named-of (table_bytes t ++ rest) x (subst (Names I x) (sym (laid_table t is_table obeys rest)) a)

-- a call that is not refused
module _ (plan : List ℕ) (k : ℕ) (r : SteadyAnswer) (out : Lent (List ℕ)) (call : SteadyCall plan k r out) (ok : refusal_of r ≡ 0) where
  given : steady_refusal plan k out.before ≡ 0
  given = sym call.numbered ∙ ok

  asked : SteadyAsked plan k out.before
  asked = steady-asked plan k out.before given

  h : HasList plan k
  h = record { plan_ok = asked.plan_ok; list_ok = asked.list }

  abbrev J : Instance
  J = instance_of plan k

  abbrev total : ℕ
  total = count_of r

  count-is : total ≡ steady_count J
  count-is = call.counted ∙ when-given _ _ _ given

  -- the j-th number in the buffer is the j-th number
  module _ (j : ℕ) (l : j < total) where
    within : j < steady_count J
    within = omega (arith, count-is)

    number_is : number_in out.after j ≡ get_or (steady_numbers J) j 0
    unfolding numbers_after
    number_is =
        ap (λ b. number_in b j) (call.written ∙ when-given _ _ _ given)
        ∙ number-at (steady_numbers J) (drop (2 * steady_count J) out.before) j within
        ((steady-tables J).fits 16 (omega (arith, asked.few)) _ (record { at = j; within = within; is = refl }))

    occurs : Occurs (number_in out.after j) (steady_numbers J)
    occurs = record { at = j; within = within; is = sym number_is }

  listed : (x : ℕ) → Occurs x (steady_numbers J) → IsListed total out.after x
  listed x o =
      let l : o.at < total = omega (arith, o.within, count-is) in
      record { at = o.at; within = l; is = number_is o.at l ∙ o.is }

  rising : (i j : ℕ) → i < j → j < total → number_in out.after i < number_in out.after j
  rising i j l m =
      let a : i < total = omega arith in
      omega (arith, number_is i a, number_is j m, (steady-tables J).rises i j l (within j m))

  one_place : (i j : ℕ) → i < total → j < total → number_in out.after i ≡ number_in out.after j → i ≡ j
  one_place i j l m e =
      ⊎_elim (λ (a : i < j). absurd (omega (arith, rising i j a m)))
      (λ (a : j ≤ i). ⊎_elim (λ (b : j < i). absurd (omega (arith, rising j i b l))) (λ (b : i ≤ j). omega arith) (lt-or-le j i))
      (lt-or-le i j)

  numbered-table : (j : ℕ) → j < total → NumberedTable plan k (number_in out.after j)
  numbered-table j l =
      let s = ((steady-tables J).listed (number_in out.after j)).0 (occurs j l) in
      record {
        table = table_bytes s.table ++ [];
        size = laid-length plan k h s.table s.is_table ((steady-tables J).legal s.table s.is_table s.steady) [] ∙ omega arith;
        unchanged = laid-unchanged plan k h s.table s.is_table s.steady [];
        named = laid-named plan k h s.table s.is_table s.steady [] _ s.named;
      }

  one-number : (table : List ℕ) → NoActChanges plan k table → OneNumber plan k total out.after table
  one-number table u =
      let t = table_of table (router_count plan) in
      let e = (steady-tables J).every t (is-table plan k h table) (steady-of plan k h table u) in
      let o = listed e.0 e.1 in
      record {
        at = o.at;
        within = o.within;
        named = named-of plan k h table _ (subst (λ x. Names J x t) (sym o.is) e.2);
        only = λ j l a.
            one_place j o.at l o.within ((steady-tables J).one_number t _ _ (names_of plan k h table _ a) e.2 ∙ sym o.is);
      }

  -- a verdict call that answers stable
  module _ (v : VerdictAnswer) (labels ranks table shown : Lent (List ℕ)) (judged : VerdictCall plan k v labels ranks table shown)
      (stable : verdict_is_stable v ≡ true) where
    abbrev number : ℕ
    number = verdict_refusal plan k labels.before ranks.before table.before shown.before

    not-refused : number ≡ 0
    not-refused =
        ⊎_elim (λ e. e) (λ (ne : number ≡ 0 → ⊥). not-both (verdict_is_stable v) stable (judged.stable ∙ when-refused number _ _ ne))
        (eq-or-ne number 0)

    is-stable : is_stable J ≡ true
    is-stable = sym (when-given number _ _ not-refused) ∙ sym judged.stable ∙ stable

    only_zero : steady_numbers J ≡ 0 ∷ []
    unfolding is_stable
    only_zero = (steady-tables J).stable_list is-stable

    -- the settled table, and its number
    settled : OneSteadyTable J (highest_of J)
    settled = settled-alone plan k is-stable

    abbrev t₀ : List Route
    t₀ = settled_table J (highest_of J)

    settled-zero : Names J 0 t₀
    settled-zero =
        let e = (steady-tables J).every t₀ settled.table settled.steady in
        let l : e.1.at < 1 = rw only_zero at e.1.within in
        let at : e.1.at ≡ 0 = omega arith in
        let is : e.0 ≡ 0 = sym e.1.is ∙ ap₂ (λ numbers i. get_or numbers i 0) only_zero at in
        subst (λ x. Names J x t₀) is e.2

    after_is : table.after ≡ table_bytes t₀ ++ drop (2 * router_count plan) table.before
    unfolding settled_bytes highest_of
    after_is = (stable-verdict plan k v labels ranks table shown judged not-refused is-stable).settled

    zero-alone : ZeroAlone plan k total out.after table.after
    zero-alone =
        let one : total ≡ 1 = count-is ∙ ap length only_zero in
        let rest = drop (2 * router_count plan) table.before in
        record {
          one = one;
          zero = number_is 0 (omega arith) ∙ ap (λ numbers. get_or numbers 0 0) only_zero;
          unchanged = rw after_is (laid-unchanged plan k h t₀ settled.table settled.steady rest);
          named = rw after_is (laid-named plan k h t₀ settled.table settled.steady rest 0 settled-zero);
        }

pub every-steady-listed : EverySteadyListed
every-steady-listed plan k r out call ok =
    let h = h plan k r out call ok in
    let I = instance_of plan k in
    record {
      members = λ w. (
        λ o. let p = member_is plan k h w o in (p.0, ((steady-tables I).grouped w p.0).0 p.1),
        λ p. is_member plan k h w p.0 (((steady-tables I).grouped w p.0).1 p.1),
      );
      in_order = member-rises plan k h;
      with_client = λ w o.
          let p = member_is plan k h w o in
          let s = ((steady-tables I).grouped w p.0).0 p.1 in
          same-label plan k h w s.other p.0 s.below s.differs s.shares;
      few = omega (arith, member-count plan k h, (asked plan k r out call ok).few);
      labelled = λ v labels ranks table shown judged e.
          label-byte plan k v labels ranks table shown judged (sym judged.numbered ∙ e);
      listed = λ x. (
        λ o. subst (NumberedTable plan k) o.is (numbered-table plan k r out call ok o.at o.within),
        λ s.
            let o = one-number plan k r out call ok s.table s.unchanged in
            record {
              at = o.at;
              within = o.within;
              is =
                  (steady-tables I).one_number (table_of s.table (router_count plan)) _ _ (names_of plan k h s.table _ o.named)
                  (names_of plan k h s.table x s.named);
            },
      );
      every = one-number plan k r out call ok;
      same = λ t u x a b c d.
          table-front t (router_count plan) a.long
          ∙ ap table_bytes
          ((steady-tables I).one_table _ _ x (is-table plan k h t) (steady-of plan k h t a) (names_of plan k h t x c)
          (is-table plan k h u) (steady-of plan k h u b) (names_of plan k h u x d))
          ∙ sym (table-front u (router_count plan) b.long);
      stays = λ table u. stays plan k h table u.long (steady-of plan k h table u);
      rising = rising plan k r out call ok;
      built = λ x. (
        λ o. listed plan k r out call ok x (((steady-tables I).builds x).0 o),
        λ o. ((steady-tables I).builds x).1 (subst (λ y. Occurs y (steady_numbers I)) o.is (occurs plan k r out call ok o.at o.within)),
      );
      as_many = (steady-tables I).as_many ∙ sym (count-is plan k r out call ok);
      stable = zero-alone plan k r out call ok;
    }
