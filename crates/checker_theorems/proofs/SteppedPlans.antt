-- A plan with the roles of chosen routers changed: its bytes, that it is not refused, and which network it is.
use Prim.Native.Nat.{ℕ, zero, suc, ◌+◌, ◌*◌, ◌≤◌, ◌<◌}
use native.Mathlib.Omega.{arith}
use mathlib.Core.Path.{◌≡◌, refl, ◌∙◌, sym, ap, ap₂}
use mathlib.Core.Bool.{Bool, true, false, not, cond, ◌&&◌, ◌||◌, and-false, or-false}
use mathlib.Core.List.{List, [], ◌∷◌}
use mathlib.Core.Logic.{◌⊎◌, ⊎_elim}
use borrow.Author.Tests.{lt-ltb, le-ltb, eqb-true, eq-eqb}
use lib.Dec.{ltb, eqb, lit<, lit≤}
use lib.ListN.{length, get_or, set, take, drop, length-set}
use lib.Seq.{get_or-set_same, get_or-set_other, drop-set-lt, get_or-take, get_or-drop}
use Rattle.base.specs.Seek.{flag}
use Rattle.base.proofs.Bytes.{little-cong}
use Rattle.base.proofs.Numbers.{lt-or-le, eq-or-ne}
use Rattle.base.proofs.Seek.{count-cong}
use Rattle.plan_contents.specs.declared.entries.Entry.{Entry}
use Rattle.plan_contents.specs.Header.{width, router_count}
use Rattle.plan_contents.specs.Contents.{entry_at, contents_of, routers_entry, sessions_entry, distances_entry, lists_entry, body, routers_body, sessions_body, distances_body, lists_body}
use Rattle.plan_contents.specs.HeaderFacts.{Header}
use Rattle.plan_rules.specs.Routers.{role, identifier, reflector_in}
use Rattle.plan_rules.specs.Sessions.{in_session}
use Rattle.plan_rules.specs.Parents.{parent_count}
use Rattle.plan_rules.specs.Distances.{distance_in, way_in}
use Rattle.plan_rules.specs.Lists.{list_place}
use Rattle.plan_rules.specs.EgressLists.{list_count, list_start, list_numbers}
use Rattle.plan_rules.specs.BodyFacts.{Routers, Parents}
use Rattle.plan_rules.specs.Passed.{Passed}
use Rattle.hopset_rules.specs.HopSet.{with_step}
use Rattle.net_rules.specs.FromPlan.{skips_in, hop_in, named, instance_of}
use Rattle.checker_theorems.specs.HopSets.{role_with_step, role_place, stepped_below, stepped}

-- byte by byte
module _ (plan : List ℕ) (chosen : ℕ → Bool) where
  -- what holds of the plan, and goes on where a role is written, holds
  by-roles : (P : List ℕ → Type 0) (m : ℕ) → P plan → ((w v : ℕ) (l : List ℕ) → w < m → P l → P (set l (role_place w) v))
      → P (stepped_below plan chosen m)
  unfolding stepped_below
  by-roles P zero h next = h
  by-roles P (suc w) h next = go (chosen w) (by-roles P w h (λ u v l m. next u v l (omega arith)))
    where
      go : (b : Bool) → P (stepped_below plan chosen w)
          → P (cond b (set (stepped_below plan chosen w) (role_place w) (role_with_step (get_or plan (role_place w) 0))) (stepped_below plan chosen w))
      go true q = next w _ _ (omega arith) q
      go false q = q

  pub stepped-long : (m : ℕ) → length (stepped_below plan chosen m) ≡ length plan
  stepped-long m = by-roles (λ l. length l ≡ length plan) m refl (λ w v l below e. length-set l (role_place w) v ∙ e)

  pub stepped-other : (m i : ℕ) → ((w : ℕ) → w < m → i ≡ role_place w → ⊥) → get_or (stepped_below plan chosen m) i 0 ≡ get_or plan i 0
  stepped-other m i d =
      by-roles (λ l. get_or l i 0 ≡ get_or plan i 0) m refl (λ w v l below e. get_or-set_other l (role_place w) i v 0 (d w below) ∙ e)

  stepped-drop : (m at : ℕ) → role_place m ≤ at → drop at (stepped_below plan chosen m) ≡ drop at plan
  stepped-drop m at h =
      by-roles (λ l. drop at l ≡ drop at plan) m refl (λ w v l below e. drop-set-lt at l (role_place w) v (omega arith) ∙ e)

  -- the role that w then has
  abbrev role_after : ℕ → ℕ
  role_after w = cond (chosen w) (role_with_step (get_or plan (role_place w) 0)) (get_or plan (role_place w) 0)

  stepped-role : (m w : ℕ) → w < m → role_place w < length plan → get_or (stepped_below plan chosen m) (role_place w) 0 ≡ role_after w
  unfolding stepped_below
  stepped-role zero w l h = absurd (omega arith)
  stepped-role (suc m) w l h = ⊎_elim last (earlier (λ o. stepped-role m w o h)) (eq-or-ne w m)
    where
      last : w ≡ m → get_or (stepped_below plan chosen (suc m)) (role_place w) 0 ≡ role_after w
      last e = rw (← e) (go (chosen w))
        where
          go : (b : Bool)
              → get_or (cond b (set (stepped_below plan chosen w) (role_place w) (role_with_step (get_or plan (role_place w) 0))) (stepped_below plan chosen w)) (role_place w) 0
              ≡ cond b (role_with_step (get_or plan (role_place w) 0)) (get_or plan (role_place w) 0)
          go true = get_or-set_same (stepped_below plan chosen w) (role_place w) _ 0 (omega (arith, stepped-long w))
          go false = stepped-other w (role_place w) (λ v o q. omega arith)

      earlier : (w < m → get_or (stepped_below plan chosen m) (role_place w) 0 ≡ role_after w) → (w ≡ m → ⊥)
          → get_or (stepped_below plan chosen (suc m)) (role_place w) 0 ≡ role_after w
      earlier before d = go (chosen m)
        where
          go : (b : Bool)
              → get_or (cond b (set (stepped_below plan chosen m) (role_place m) (role_with_step (get_or plan (role_place m) 0))) (stepped_below plan chosen m)) (role_place w) 0
              ≡ role_after w
          go true = get_or-set_other (stepped_below plan chosen m) (role_place m) (role_place w) _ 0 (λ q. d (omega arith)) ∙ before (omega arith)
          go false = before (omega arith)

-- the five roles
five : (P : ℕ → Type 0) → P 1 → P 2 → P 3 → P 4 → P 5 → (r : ℕ) → 1 ≤ r → r ≤ 5 → P r
five P a b c d e zero l m = absurd (omega arith)
five P a b c d e (suc zero) l m = a
five P a b c d e (suc (suc zero)) l m = b
five P a b c d e (suc (suc (suc zero))) l m = c
five P a b c d e (suc (suc (suc (suc zero)))) l m = d
five P a b c d e (suc (suc (suc (suc (suc zero))))) l m = e
five P a b c d e (suc (suc (suc (suc (suc (suc r)))))) l m = absurd (omega arith)

-- what a role that is changed, or not, says
pub record RoleChange (r after : ℕ) (changed : Bool) : Type 0 where
  pub least : 1 ≤ after
  pub most : after ≤ 5
  pub client : eqb after 2 ≡ eqb r 2
  pub skips : (eqb after 3 || eqb after 5) ≡ (eqb r 3 || eqb r 5)
  pub hop : (eqb after 4 || eqb after 5) ≡ ((eqb r 4 || eqb r 5) || (changed && not (eqb r 2)))

role_kept : (r : ℕ) → 1 ≤ r → r ≤ 5 → RoleChange r r false
role_kept r l m = record { least = l; most = m; client = refl; skips = refl; hop = sym (or-false (eqb r 4 || eqb r 5)) }

role-stepped : (r : ℕ) → 1 ≤ r → r ≤ 5 → RoleChange r (role_with_step r) true
role-stepped =
    five (λ r. RoleChange r (role_with_step r) true)
    (record { least = lit≤ tt; most = lit≤ tt; client = refl; skips = refl; hop = refl })
    (record { least = lit≤ tt; most = lit≤ tt; client = refl; skips = refl; hop = refl })
    (record { least = lit≤ tt; most = lit≤ tt; client = refl; skips = refl; hop = refl })
    (record { least = lit≤ tt; most = lit≤ tt; client = refl; skips = refl; hop = refl })
    (record { least = lit≤ tt; most = lit≤ tt; client = refl; skips = refl; hop = refl })

role-change : (b : Bool) (r : ℕ) → 1 ≤ r → r ≤ 5 → RoleChange r (cond b (role_with_step r) r) b
role-change true = role-stepped
role-change false = role_kept

-- part by part, of a plan that is not refused
module _ (plan : List ℕ) (chosen : ℕ → Bool) (p : Passed plan) where
  abbrev after : List ℕ
  after = stepped plan chosen

  front : (i : ℕ) → i < 26 → get_or after i 0 ≡ get_or plan i 0
  front i l = stepped-other plan chosen (router_count plan) i (λ w o e. omega arith)

  pub long-is : length after ≡ length plan
  long-is = stepped-long plan chosen (router_count plan)

  pub count-is : router_count after ≡ router_count plan
  count-is = front 4 (lit< tt)

  width-is : width after ≡ width plan
  width-is = ap (λ m. cond (eqb m 50) 4 2) (front 3 (lit< tt))

  entry-is : (at : ℕ) → at + 5 ≤ 26 → entry_at after at ≡ entry_at plan at
  entry-is at l =
      λ i. record {
        kind = front at (omega arith) i;
        offset = little-cong 2 after plan (at + 1) (at + 1) (λ b m. front (at + 1 + b) (omega arith)) i;
        size = little-cong 2 after plan (at + 3) (at + 3) (λ b m. front (at + 3 + b) (omega arith)) i;
      }

  table_is : contents_of after ≡ contents_of plan
  table_is = λ i. entry-is 6 (omega arith) i ∷ entry-is 11 (omega arith) i ∷ entry-is 16 (omega arith) i ∷ entry-is 21 (omega arith) i ∷ []

  -- what comes after the routers is the same
  rest-is : (at : ℕ) → 26 + 5 * router_count plan ≤ at → drop at after ≡ drop at plan
  rest-is at l = stepped-drop plan chosen (router_count plan) at l

  body_is : (entry : List Entry → Entry) → 26 + 5 * router_count plan ≤ (entry (contents_of plan)).offset
      → body after (entry (contents_of after)) ≡ body plan (entry (contents_of plan))
  body_is entry l =
      ap (λ table. body after (entry table)) table_is ∙ ap (take (entry (contents_of plan)).size) (rest-is (entry (contents_of plan)).offset l)

  sessions-is : sessions_body after ≡ sessions_body plan
  sessions-is = body_is sessions_entry (omega (arith, p.contents.sessions_start, p.contents.routers_start, p.contents.routers_size))

  distances-is : distances_body after ≡ distances_body plan
  distances-is = body_is distances_entry (omega (arith, p.contents.sessions_start, p.contents.routers_start, p.contents.routers_size, p.contents.distances_start))

  lists-start : 26 + 5 * router_count plan ≤ (lists_entry (contents_of plan)).offset
  lists-start =
      omega (
        arith,
        p.contents.sessions_start,
        p.contents.routers_start,
        p.contents.routers_size,
        p.contents.distances_start,
        p.contents.lists_start,
      )

  lists-is : lists_body after ≡ lists_body plan
  lists-is = body_is lists_entry lists-start

  pub lists-count : list_count after ≡ list_count plan
  lists-count = ap (λ s. get_or s 0 0) lists-is

  -- the routers, byte by byte
  routers-at : (l : List ℕ) → contents_of l ≡ contents_of plan → (i : ℕ) → i < 5 * router_count plan → get_or (routers_body l) i 0 ≡ get_or l (26 + i) 0
  routers-at l e i h =
      ap (λ table. get_or (body l (routers_entry table)) i 0) e
      ∙ get_or-take (routers_entry (contents_of plan)).size (drop (routers_entry (contents_of plan)).offset l) i 0 (omega (arith, p.contents.routers_size))
      ∙ get_or-drop (routers_entry (contents_of plan)).offset l i 0
      ∙ ap (λ at. get_or l (at + i) 0) p.contents.routers_start

  role-at : (w : ℕ) → w < router_count plan → role (routers_body plan) w ≡ get_or plan (role_place w) 0
  role-at w l = routers-at plan refl (5 * w) (omega arith)

  within : (w : ℕ) → w < router_count plan → role_place w < length plan
  within w l =
      omega (
        arith,
        lists-start,
        p.contents.lists_end,
      )

  pub role-is : (w : ℕ) → w < router_count plan
      → role (routers_body after) w ≡ cond (chosen w) (role_with_step (role (routers_body plan) w)) (role (routers_body plan) w)
  role-is w l =
      routers-at after table_is (5 * w) (omega arith)
      ∙ stepped-role plan chosen (router_count plan) w l (within w l)
      ∙ ap (λ r. cond (chosen w) (role_with_step r) r) (sym (role-at w l))

  identifier-is : (w : ℕ) → w < router_count plan → identifier (routers_body after) w ≡ identifier (routers_body plan) w
  identifier-is w l =
      little-cong 4 (routers_body after) (routers_body plan) (5 * w + 1) (5 * w + 1) (λ b m.
      routers-at after table_is (5 * w + 1 + b) (omega arith)
      ∙ stepped-other plan chosen (router_count plan) (26 + (5 * w + 1 + b)) (λ v o e. omega arith)
      ∙ sym (routers-at plan refl (5 * w + 1 + b) (omega arith)))

  change : (w : ℕ) → w < router_count plan → RoleChange (role (routers_body plan) w) (role (routers_body after) w) (chosen w)
  change w l =
      rw (role-is w l)
      (role-change (chosen w) (role (routers_body plan) w) (p.routers.role_least w l) (p.routers.role_most w l))

  -- a test of the routers below n by their roles
  by-role : {a b : Bool} (w : ℕ) → (w < router_count plan → a ≡ b) → (ltb w (router_count plan) && a) ≡ (ltb w (router_count plan) && b)
  by-role w h =
      ⊎_elim (λ (l : w < router_count plan). ap (◌&&◌ (ltb w (router_count plan))) (h l))
      (λ (l : router_count plan ≤ w). rw (le-ltb w (router_count plan) l))
      (lt-or-le w (router_count plan))

  reflector-is : (w : ℕ) → reflector_in (routers_body after) (router_count plan) w ≡ reflector_in (routers_body plan) (router_count plan) w
  reflector-is w = by-role w (λ l. ap not (change w l).client)

  skips-is : (w : ℕ) → skips_in (routers_body after) (router_count plan) w ≡ skips_in (routers_body plan) (router_count plan) w
  skips-is w = by-role w (λ l. (change w l).skips)

  hop-is : (w : ℕ) → hop_in (routers_body after) (router_count plan) w
      ≡ (hop_in (routers_body plan) (router_count plan) w || (chosen w && reflector_in (routers_body plan) (router_count plan) w))
  hop-is w =
      ⊎_elim (λ (l : w < router_count plan). rw (lt-ltb w (router_count plan) l) (change w l).hop)
      (λ (l : router_count plan ≤ w). rw (le-ltb w (router_count plan) l) (sym (and-false (chosen w))))
      (lt-or-le w (router_count plan))

  header-holds : Header after
  header-holds =
      record {
        least = omega (arith, long-is, p.header.least);
        letter_r = front 0 (lit< tt) ∙ p.header.letter_r;
        letter_r₂ = front 1 (lit< tt) ∙ p.header.letter_r₂;
        letter_p = front 2 (lit< tt) ∙ p.header.letter_p;
        marked = rw (front 3 (lit< tt), long-is) p.header.marked;
        four_entries = front 5 (lit< tt) ∙ p.header.four_entries;
      }

  routers-hold : Routers (routers_body after) (router_count plan)
  routers-hold =
      record {
        role_least = λ v l. (change v l).least;
        role_most = λ v l. (change v l).most;
        rising = λ u v l m. omega (arith, identifier-is u (omega arith), identifier-is v m, p.routers.rising u v l m);
      }

  parents-hold : Parents (routers_body after) (sessions_body plan) (router_count plan)
  unfolding parent_count
  parents-hold =
      record {
        few = λ v l e.
            let client : role (routers_body plan) v ≡ 2 = eqb-true _ 2 (sym (change v l).client ∙ eq-eqb _ 2 e) in
            omega (
              arith,
              p.parents.few v l client,
              count-cong _ _ (router_count plan) (λ u m. ap (λ b. flag (b && in_session (sessions_body plan) v u)) (reflector-is u)),
            );
      }

  pub stepped-passed : Passed after
  stepped-passed =
      record {
        header = header-holds;
        count = rw count-is p.count;
        contents = rw (table_is, width-is, count-is, long-is) p.contents;
        routers = rw count-is routers-hold;
        sessions = rw (sessions-is, count-is) p.sessions;
        parents = rw (sessions-is, count-is) parents-hold;
        distances = rw (width-is, distances-is, count-is) p.distances;
        lists = rw (lists-is, count-is) p.lists;
      }

  numbers-is : (k : ℕ) → list_numbers after k ≡ list_numbers plan k
  numbers-is k = ap₂ take (ap (λ s. get_or s (list_place s k) 0) lists-is) (ap (λ at. drop at after) start ∙ rest-is (list_start plan k) (omega (arith, lists-start)))
    where
      start : list_start after k ≡ list_start plan k
      start = ap₂ (λ table s. (lists_entry table).offset + list_place s k + 1) table_is lists-is

  -- the same network but for who has the step
  module _ (k : ℕ) where
    reflectors : (instance_of after k).reflector ≡ (instance_of plan k).reflector
    reflectors = ap (reflector_in (routers_body after)) count-is ∙ (λ i w. reflector-is w i)

    skipping : (instance_of after k).skips ≡ (instance_of plan k).skips
    skipping = ap (skips_in (routers_body after)) count-is ∙ (λ i w. skips-is w i)

    stepping : (instance_of after k).hop ≡ (with_step (instance_of plan k) (λ w. chosen w && (instance_of plan k).reflector w)).hop
    stepping = ap (hop_in (routers_body after)) count-is ∙ (λ i w. hop-is w i)

    pub stepped-network : instance_of after k ≡ with_step (instance_of plan k) (λ w. chosen w && (instance_of plan k).reflector w)
    stepped-network =
        λ i. record {
          n = count-is i;
          reflector = reflectors i;
          skips = skipping i;
          hop = stepping i;
          neighbour = in_session (sessions-is i);
          dist = distance_in (width-is i) (distances-is i) (count-is i);
          way = way_in (width-is i) (distances-is i) (count-is i);
          listed = named (numbers-is k i);
        }
