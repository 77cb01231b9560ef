-- A plan's list of nobody is stable, and every series of calls on it flushes whatever the routers held.
use Prim.Native.Nat.{ℕ, zero, suc, ◌*◌, ◌≤◌, ◌<◌}
use native.Mathlib.Omega.{arith}
use mathlib.Core.Path.{◌≡◌, refl, ◌∙◌, sym, ap}
use mathlib.Core.Bool.{Bool, true, false, ◌&&◌}
use mathlib.Core.List.{List, ◌∷◌, ◌++◌}
use mathlib.Core.Logic.{◌⊎◌, inl, inr, ⊎_elim, ◌↔◌}
use borrow.Author.Tests.{lt-ltb, le-leb, leb-true, eqb-true, eq-eqb}
use denote.Ref.{Bor}
use lib.Dec.{eqb}
use lib.ListN.{length, drop, replicate, length-take}
use Rattle.base.specs.Below.{any_below}
use Rattle.base.specs.Lent.{Lent}
use Rattle.base.specs.Seek.{flag}
use Rattle.base.proofs.Below.{all-at, all-intro, Witness, any_at, any_found, any-refuted}
use Rattle.base.proofs.Numbers.{both, both_left, both_right, eq-or-ne, lt-or-le, not-both}
use Rattle.base.proofs.Seek.{flag-yes}
use Rattle.plan_contents.specs.Header.{router_count}
use Rattle.plan_contents.specs.Contents.{routers_body, sessions_body}
use Rattle.plan_rules.specs.Routers.{role, reflector_in}
use Rattle.plan_rules.specs.Sessions.{in_session}
use Rattle.plan_rules.specs.EgressLists.{list_size, list_start, list_numbers}
use Rattle.plan_rules.proofs.Cascade.{refuse-passed, refuse-true}
use Rattle.plan_rules.proofs.Parents.{client-is, reflector-is}
use Rattle.plan_rules.proofs.Refused.{when-given}
use Rattle.plan_rules.proofs.Passed.{passed}
use Rattle.graph_groups.specs.Closure.{Chain, step, more}
use Rattle.graph_groups.specs.Groups.{stable}
use Rattle.route_rules.specs.Instance.{Instance, nothing}
use Rattle.route_rules.specs.Reliance.{relies, reliance}
use Rattle.route_rules.specs.Activation.{entry_ok, table_ok}
use Rattle.route_theorems.specs.Nobody.{has_parent, EndsWithNothing, NobodyListed}
use Rattle.route_theorems.proofs.Nobody.{parent-relied, nobody-listed}
use Rattle.route_explain_rules.specs.Explained.{by_offer, on_reflector, on_client, explained}
use Rattle.route_explain_rules.specs.declared.explanation.Explanation.{Explanation}
use Rattle.net_rules.specs.FromPlan.{named, instance_of}
use Rattle.net_tables.specs.TableBytes.{read_route, table_of, table_bytes}
use Rattle.net_tables.proofs.TableBytes.{entry-none, entry-far, entry-near, table-held}
use Rattle.net_verdict.specs.Assessed.{is_stable, highest_of, settled_bytes}
use Rattle.call_rules.specs.Refusals.{egress_list_refusal, relies_refusal, buffers_ok, table_checks}
use Rattle.call_rules.proofs.Granted.{list-asked}
use Rattle.call_rules.proofs.InOrder.{list-in-order, relies-in-order}
use Rattle.call_query.specs.EgressList.{ListPartOf}
use Rattle.call_query.proofs.ListPart.{placed-given, handed-back}
use Rattle.call_explain.specs.Explain.{Explains}
use Rattle.call_verdict.specs.declared.verdict.VerdictAnswer.{VerdictAnswer}
use Rattle.call_verdict.specs.Verdict.{verdict_number, verdict_is_stable, VerdictCall}
use Rattle.checker_theorems.specs.VerdictMeaning.{rank_in}
use Rattle.checker_theorems.specs.Series.{Call, ForThis, Enough, SettledAfter}
use Rattle.checker_theorems.specs.Nobody.{ListsNobody, PartOfNobody, EveryListToldByItsPart, ParentOf, HasParent, SomeParent, explained_for_nobody, VerdictOfNobody, HoldsNothing, HoldsLeftOver, LeftOver, LeftOf, Flushed, FlushedInTime, EveryPrefixGone}
use Rattle.checker_theorems.proofs.VerdictMeaning.{verdict-means}
use Rattle.checker_theorems.proofs.Series.{every-series-settles}
use Rattle.checker_theorems.proofs.StableVerdict.{stable-ranks, no-refusal, StableVerdict, stable-verdict}

-- a number that is 1 where a test passes and else 0, of a test that passes exactly if P
module _ {P : Type 0} (x : ℕ) (b : Bool) (is : (b ≡ true) ↔ P) (e : x ≡ flag b) where
  one-exactly : (x ≡ 1) ↔ P
  one-exactly = (λ h. is.0 (flag-yes b (omega arith)), λ p. e ∙ ap flag (is.1 p))

  zero-exactly : (x ≡ 0) ↔ (P → ⊥)
  zero-exactly = (λ h p. omega (arith, one-exactly.1 p), go b refl)
    where
      go : (c : Bool) → b ≡ c → (P → ⊥) → x ≡ 0
      go true q none = absurd (none (is.0 q))
      go false q none = e ∙ ap flag q

flag-upto : (b : Bool) → flag b ≤ 1
flag-upto true = omega arith
flag-upto false = omega arith

-- the bytes of a table that holds nothing
empty-bytes : (n : ℕ) → table_bytes (replicate n nothing) ≡ replicate (2 * n) 255
unfolding table_bytes
empty-bytes zero = refl
empty-bytes (suc n) =
    let two : 2 * suc n ≡ suc (suc (2 * n)) = omega arith in
    ap (λ b. 255 ∷ 255 ∷ b) (empty-bytes n) ∙ sym (ap (λ m. replicate m 255) two)

-- the rule of an unlisted router's entry, by its two bytes
module _ (I : Instance) (v e s : ℕ) (small : I.n ≤ 64) (unlisted : I.listed v ≡ false) where
  entry-facts : entry_ok I v (read_route e s) ≡ true → ((e ≡ 255) × (s ≡ 255)) ⊎ ((e < I.n) × (I.neighbour v s ≡ true))
  entry-facts h =
      ⊎_elim (λ (q : e ≡ 255). inl (q, eqb-true s 255 (sym (entry-none I v e s unlisted small q) ∙ h)))
      (λ (d : e ≡ 255 → ⊥).
      ⊎_elim (λ (l : e < I.n). inr (l, sym (entry-near I v e s unlisted d l) ∙ h))
      (λ (l : I.n ≤ e). not-both (entry_ok I v (read_route e s)) h (entry-far I v e s unlisted d l))
      (lt-or-le e I.n))
      (eq-or-ne e 255)

  entry-holds : ((e ≡ 255) × (s ≡ 255)) ⊎ ((e < I.n) × (I.neighbour v s ≡ true)) → entry_ok I v (read_route e s) ≡ true
  entry-holds (inl h) = entry-none I v e s unlisted small h.0 ∙ eq-eqb s 255 h.1
  entry-holds (inr h) = entry-near I v e s unlisted (omega arith) h.0 ∙ h.1

-- who is a client, by the test of the network
is-client : (routers : List ℕ) (n v : ℕ) → v < n → reflector_in routers n v ≡ false → role routers v ≡ 2
is-client routers n v l h =
    ⊎_elim (λ e. e)
    (λ (d : role routers v ≡ 2 → ⊥). not-both (reflector_in routers n v) (reflector-is routers n v l d) h)
    (eq-or-ne (role routers v) 2)

-- what the checks of a table of list j say of it
module _ (plan : List ℕ) (small : router_count plan ≤ 64) (j : ℕ) (buffer : List ℕ)
    (passes : table_checks (instance_of plan j) buffer ≡ 0) where
  checked-long : 2 * router_count plan ≤ length buffer
  unfolding table_checks
  checked-long = leb-true _ _ (refuse-passed _ 8 _ passes).0

  checked-entry : (v : ℕ) → v < router_count plan → named (list_numbers plan j) v ≡ false
      → HoldsNothing buffer v ⊎ HoldsLeftOver plan buffer v
  unfolding table_checks table_ok
  checked-entry v l unlisted =
      let rule = (refuse-passed _ 9 0 (refuse-passed _ 8 _ passes).1).0 in
      entry-facts (instance_of plan j) v _ _ small unlisted
      (sym (ap (entry_ok (instance_of plan j) v) (table-held buffer (router_count plan) v l)) ∙ all-at _ (router_count plan) rule v l)

module _ (plan : List ℕ) (k : ℕ) (h : ListsNobody plan k) where
  no-router : (v : ℕ) → named (list_numbers plan k) v ≡ false
  unfolding named
  no-router v =
      any-refuted _ _ (λ j l. absurd (omega (arith, length-take (list_size plan k) (drop (list_start plan k) plan), h.nobody)))

  network : NobodyListed (instance_of plan k)
  network = nobody-listed (instance_of plan k) (λ v l. no-router v)

  small : router_count plan ≤ 64
  small = (passed plan h.plan_ok).count.most

  -- who relies on whom
  module _ (w v : ℕ) (l : w < router_count plan) (m : v < router_count plan) where
    relied-is-parent : relies (instance_of plan k) w v ≡ true → ParentOf plan w v
    relied-is-parent p = go (reflector_in (routers_body plan) (router_count plan) w) refl
      where
        go : (b : Bool) → reflector_in (routers_body plan) (router_count plan) w ≡ b → ParentOf plan w v
        go true r = not-both (relies (instance_of plan k) w v) p (network.reflector_relies w v l m r)
        go false r =
            let parent : (in_session (sessions_body plan) w v && reflector_in (routers_body plan) (router_count plan) v) ≡ true
            = sym (network.client_relies w v l m r) ∙ p in
            let reflects = both_right (in_session (sessions_body plan) w v) _ parent in
            record {
              client = is-client (routers_body plan) (router_count plan) w l r;
              reflector = λ e. not-both _ reflects (client-is (routers_body plan) (router_count plan) v e);
              neighbour = both_left _ _ parent;
            }

    parent-is-relied : ParentOf plan w v → relies (instance_of plan k) w v ≡ true
    parent-is-relied p =
        network.client_relies w v l m (client-is (routers_body plan) (router_count plan) w p.client)
        ∙ both _ _ p.neighbour (reflector-is (routers_body plan) (router_count plan) v m p.reflector)

    -- and why, or why not
    explained-is : explained (instance_of plan k) w v ≡ explained_for_nobody plan w v
    unfolding explained on_reflector on_client by_offer
    explained-is =
        go (eqb w v) refl (in_session (sessions_body plan) w v) refl (eqb (role (routers_body plan) v) 2) refl (eqb (role (routers_body plan) w) 2) refl
      where
        go : (a : Bool) → eqb w v ≡ a → (b : Bool) → in_session (sessions_body plan) w v ≡ b
            → (c : Bool) → eqb (role (routers_body plan) v) 2 ≡ c → (d : Bool) → eqb (role (routers_body plan) w) 2 ≡ d
            → explained (instance_of plan k) w v ≡ explained_for_nobody plan w v
        go true p b q c r d s = cc
        go false p false q c r d s = cc
        go false p true q true r d s = cc (no-router w, no-router v, lt-ltb v (router_count plan) m)
        go false p true q false r true s = cc (no-router w, lt-ltb v (router_count plan) m, lt-ltb w (router_count plan) l)
        go false p true q false r false s =
            cc (no-router w, lt-ltb v (router_count plan) m, lt-ltb w (router_count plan) l, network.no_offer v m)

    explains-so : (r : Explanation) → Explains plan k w v r → r ≡ explained_for_nobody plan w v
    explains-so r x =
        let given : relies_refusal plan k w v ≡ 0
        = (relies-in-order plan k w v).none h.plan_ok (rw (lt-ltb _ _ h.list_ok, lt-ltb _ _ l, lt-ltb _ _ m)) refl refl refl in
        x.answer ∙ when-given _ _ _ given ∙ explained-is

  -- no chain of reliances is longer than one
  no-onward : (w u : ℕ) → ((v : ℕ) → v < router_count plan → relies (instance_of plan k) w v ≡ false) → u < router_count plan
      → Chain (reliance (instance_of plan k)) (router_count plan) w u → ⊥
  no-onward w u none l (step r) = omega (arith, ap flag (none u l))
  no-onward w u none l (more {k = v} m r c) = omega (arith, ap flag (none v m))

  no_loop : (w u : ℕ) → w < router_count plan → w ≡ u → Chain (reliance (instance_of plan k)) (router_count plan) w u → ⊥
  no_loop w u l e (step r) =
      let itself : relies (instance_of plan k) w w ≡ true = flag-yes _ (rw (sym e) at r) in
      not-both _ itself (network.no_chain w w w l l l itself)
  no_loop w u l e (more {k = v} m r c) =
      no-onward v u (λ x o. network.no_chain w v x l m o (flag-yes _ r)) (omega arith) c

  is-stable : is_stable (instance_of plan k) ≡ true
  is-stable = (verdict-means plan k).stable_chains.1 (λ w l c. no_loop w w l refl c)

  -- ranks
  ends : EndsWithNothing (instance_of plan k) (rank_in plan k)
  ends = network.ranked (rank_in plan k) (stable-ranks (instance_of plan k) is-stable)

  has-parent : (w : ℕ) → w < router_count plan → (has_parent (instance_of plan k) w ≡ true) ↔ HasParent plan w
  has-parent w l = (there, back)
    where
      I : Instance
      I = instance_of plan k

      there : has_parent I w ≡ true → HasParent plan w
      there p =
          let v : Witness (relies I w) (router_count plan) = any_at (relies I w) _ (sym (parent-relied I (λ v l. no-router v) w l) ∙ p) in
          record { parent = v.at; below = v.below; is = relied-is-parent w v.at l v.below v.holds }

      back : HasParent plan w → has_parent I w ≡ true
      back p =
          parent-relied I (λ v l. no-router v) w l
          ∙ any_found (relies I w) (router_count plan) p.parent p.below (parent-is-relied w p.parent l p.below p.is)

  rank_is : (w : ℕ) → w < router_count plan → rank_in plan k w ≡ flag (has_parent (instance_of plan k) w)
  rank_is w l = go (has_parent (instance_of plan k) w) refl
    where
      go : (b : Bool) → has_parent (instance_of plan k) w ≡ b → rank_in plan k w ≡ flag b
      go true p = ends.parent_rank w l p
      go false p = ends.other_rank w l p

  some-parent : (any_below (has_parent (instance_of plan k)) (router_count plan) ≡ true) ↔ SomeParent plan
  some-parent = (there, back)
    where
      there : any_below (has_parent (instance_of plan k)) (router_count plan) ≡ true → SomeParent plan
      there p =
          let w : Witness (has_parent (instance_of plan k)) (router_count plan) = any_at _ _ p in
          record { client = w.at; below = w.below; has = (has-parent w.at w.below).0 w.holds }

      back : SomeParent plan → any_below (has_parent (instance_of plan k)) (router_count plan) ≡ true
      back p = any_found _ (router_count plan) p.client p.below ((has-parent p.client p.below).1 p.has)

  highest-is : highest_of (instance_of plan k) ≡ flag (any_below (has_parent (instance_of plan k)) (router_count plan))
  unfolding highest_of
  highest-is = ends.highest_rank

  highest-one : (highest_of (instance_of plan k) ≡ 1) ↔ SomeParent plan
  highest-one = one-exactly _ _ some-parent highest-is

  highest-zero : (highest_of (instance_of plan k) ≡ 0) ↔ (SomeParent plan → ⊥)
  highest-zero = zero-exactly _ _ some-parent highest-is

  highest-upto : highest_of (instance_of plan k) ≤ 1
  highest-upto = omega (arith, highest-is, flag-upto (any_below (has_parent (instance_of plan k)) (router_count plan)))

  -- "all end with nothing"
  settled-empty : settled_bytes (instance_of plan k) ≡ replicate (2 * router_count plan) 255
  unfolding settled_bytes highest_of
  settled-empty = ap table_bytes ends.settled ∙ empty-bytes (router_count plan)

  -- the verdict call
  module _ (r : VerdictAnswer) (labels ranks table shown : Lent (List ℕ)) (call : VerdictCall plan k r labels ranks table shown)
      (room : buffers_ok (router_count plan) labels.before ranks.before table.before shown.before ≡ true) where
    written : StableVerdict plan k r labels ranks table shown
    written =
        stable-verdict plan k r labels ranks table shown call
        (no-refusal plan k h.plan_ok h.list_ok labels.before ranks.before table.before shown.before room) is-stable

    verdict-given : VerdictOfNobody plan k r labels ranks table shown
    verdict-given =
        record {
          answer = written.answer;
          number = ap verdict_number written.answer;
          stable = ap verdict_is_stable written.answer;
          one = rw written.answer highest-one;
          zero = rw written.answer highest-zero;
          labelled = written.labelled;
          ranked = written.ranked;
          settled = written.settled ∙ ap (λ t. t ++ drop (2 * router_count plan) table.before) settled-empty;
          cycled = written.cycled;
        }

  -- left-over tables
  table-rule : (buffer : List ℕ) → LeftOver plan buffer → table_ok (instance_of plan k) (table_of buffer (router_count plan)) ≡ true
  unfolding table_ok
  table-rule buffer t =
      all-intro _ (router_count plan) (λ v l.
      ap (entry_ok (instance_of plan k) v) (table-held buffer (router_count plan) v l)
      ∙ entry-holds (instance_of plan k) v _ _ small (no-router v) (t.entries v l))

  left-over : (buffer : List ℕ) → (table_checks (instance_of plan k) buffer ≡ 0) ↔ LeftOver plan buffer
  unfolding table_checks
  left-over buffer = (
    λ p. record { long = checked-long plan small k buffer p; entries = λ v l. checked-entry plan small k buffer p v l (no-router v) },
    λ t.
        refuse-true _ 9 _ (le-leb (2 * router_count plan) (length buffer) t.long) ∙ refuse-true _ 10 0 (table-rule buffer t),
  )

  left-of : (j : ℕ) (old buffer : List ℕ) → LeftOf plan j old buffer → LeftOver plan buffer
  left-of j old buffer t = record { long = t.long; entries = λ v l. go v l (named (list_numbers plan j) v) refl }
    where
      go : (v : ℕ) → v < router_count plan → (b : Bool) → named (list_numbers plan j) v ≡ b
          → HoldsNothing buffer v ⊎ HoldsLeftOver plan buffer v
      go v l true q = inl (t.lost v l q)
      go v l false q = rw ((t.held v l q).0, (t.held v l q).1) (checked-entry plan small j old t.table v l q)

  -- a series of calls
  module _ (start : List ℕ) (t : LeftOver plan start) (calls : List Call) (this : ForThis plan k calls start) where
    settles : SettledAfter plan k start calls
    settles =
        every-series-settles plan k start
        (record { plan_ok = h.plan_ok; list_ok = h.list_ok; stable_list = is-stable; long = t.long; table = table-rule start t }) calls this

    flushed : Enough plan k calls start → Flushed plan k start calls
    flushed enough =
        record { nothing_held = settles.settled enough ∙ settled-empty; steady = settles.steady enough; kept = settles.kept enough }

    in-time : FlushedInTime plan k start calls
    in-time =
        record {
          promised = flushed;
          in_three = λ three. flushed (omega (arith, highest-upto));
          in_two = λ none two. flushed (omega (arith, highest-zero.1 none));
          rest = settles.rest;
        }

-- a list of nobody, by what is handed back for it
part-given : (plan : List ℕ) (k : ℕ) → ListsNobody plan k → egress_list_refusal plan k ≡ 0
part-given plan k h = (list-in-order plan k).none h.plan_ok (lt-ltb _ _ h.list_ok) refl refl refl

part-of-nobody : (plan : Bor (List ℕ)) (k : ℕ) (part : Bor (List ℕ)) → ListPartOf plan k part → ListsNobody plan.now k
    → PartOfNobody plan k part
part-of-nobody plan k part s h =
    let given = part-given plan.now k h in
    let back = handed-back plan k part s given in
    record {
      empty = back.numbers-are ∙ rw h.nobody;
      place = back.place;
      number = given;
      after_the_start = omega arith;
    }

pub told-by-its-part : EveryListToldByItsPart
told-by-its-part plan k =
    record {
      size = (
        λ h. (part-given plan k h, (placed-given plan k (part-given plan k h)).sizes ∙ h.nobody),
        λ s. is-nobody s.0 (sym (placed-given plan k s.0).sizes ∙ s.1),
      );
      part =
          λ slice part e s. (
            λ h. (part-given plan k h, (part-of-nobody slice k part s (rw e h)).empty),
            λ p. is-nobody p.0 (rw e at (sym (handed-back slice k part s (rw e p.0)).numbers.count ∙ ap length p.1)),
          );
    }
  where
    is-nobody : egress_list_refusal plan k ≡ 0 → list_size plan k ≡ 0 → ListsNobody plan k
    is-nobody given empty =
        let asked = list-asked plan k given in
        record { plan_ok = asked.plan_ok; list_ok = asked.list; nobody = empty }

pub prefix-gone : EveryPrefixGone
prefix-gone plan k h =
    record {
      unlisted = no-router plan k h;
      handed_back = λ slice part e s. part-of-nobody slice k part s (rw e h);
      no_best_client = (network plan k h).no_best_client;
      no_offer = (network plan k h).no_offer;
      relied = λ w v l m. (relied-is-parent plan k h w v l m, parent-is-relied plan k h w v l m);
      explained = explained-is plan k h;
      explains = explains-so plan k h;
      reflector_rank = λ w l d. (ends plan k h).reflector_rank w l (reflector-is (routers_body plan) (router_count plan) w l d);
      parent_rank = λ w l. one-exactly _ _ (has-parent plan k h w l) (rank_is plan k h w l);
      other_rank = λ w l. zero-exactly _ _ (has-parent plan k h w l) (rank_is plan k h w l);
      stable = is-stable plan k h;
      highest_one = highest-one plan k h;
      highest_zero = highest-zero plan k h;
      settled = settled-empty plan k h;
      verdict = verdict-given plan k h;
      left_over = left-over plan k h;
      left_of = left-of plan k h;
      flushed = in-time plan k h;
    }
