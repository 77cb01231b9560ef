-- A plan with one list in place of its lists: its bytes, that it is not refused, and which network it is.
use Prim.Native.Nat.{ℕ, zero, suc, ◌+◌, ◌*◌, ◌≤◌, ◌<◌}
use native.Mathlib.Omega.{arith}
use mathlib.Core.Path.{◌≡◌, refl, ◌∙◌, sym, ap, ap₂}
use mathlib.Core.Bool.{cond}
use mathlib.Core.List.{List, [], ◌∷◌, ◌++◌}
use mathlib.Core.Logic.{◌⊎◌, inl, inr, ⊎_elim}
use lib.Dec.{eqb, lit<}
use lib.ListN.{length, get_or, set, take, drop, length-set, length-take, length-drop, length-append, get_or-append}
use lib.Seq.{get_or-set_same, get_or-set_other, get_or-take, get_or-drop, drop_at, take-length, ext_get_or}
use Rattle.base.proofs.Bytes.{little-cong}
use Rattle.plan_contents.specs.declared.entries.Entry.{Entry}
use Rattle.plan_contents.specs.Header.{mark, width, router_count}
use Rattle.plan_contents.specs.Contents.{entry_at, contents_of, routers_entry, sessions_entry, distances_entry, lists_entry, body, routers_body, sessions_body, distances_body, lists_body}
use Rattle.plan_contents.specs.HeaderFacts.{Header, Contents}
use Rattle.plan_rules.specs.Routers.{reflector_in}
use Rattle.plan_rules.specs.Sessions.{in_session}
use Rattle.plan_rules.specs.Distances.{distance_in, way_in}
use Rattle.plan_rules.specs.Lists.{list_place, member}
use Rattle.plan_rules.specs.EgressLists.{list_count, list_size, list_numbers}
use Rattle.plan_rules.specs.BodyFacts.{ListAt, Lists}
use Rattle.plan_rules.specs.Passed.{Passed}
use Rattle.plan_rules.proofs.ListWithin.{numbers_of}
use Rattle.plan_rules.proofs.Longest.{length_most}
use Rattle.everylist_rules.specs.EveryList.{with_list}
use Rattle.net_rules.specs.FromPlan.{skips_in, hop_in, named, instance_of}
use Rattle.checker_theorems.specs.EveryList.{one_list, before_one_list, with_list_in, LegalList}

-- a list that rises below n has no more than n numbers
at_least : (n : ℕ) (numbers : List ℕ) → LegalList n numbers → (j : ℕ) → j < length numbers → j ≤ get_or numbers j 0
at_least n numbers g zero l = omega arith
at_least n numbers g (suc j) l = omega (arith, at_least n numbers g j (omega arith), g.rises j (suc j) (omega arith) l)

pub legal-most : (n : ℕ) (numbers : List ℕ) → LegalList n numbers → length numbers ≤ n
legal-most n numbers g = go (length numbers) refl
  where
    go : (m : ℕ) → length numbers ≡ m → length numbers ≤ n
    go zero e = omega arith
    go (suc m) e = omega (arith, at_least n numbers g m (omega arith), g.below m (omega arith))

module _ (plan numbers : List ℕ) (p : Passed plan) (g : LegalList (router_count plan) numbers) where
  abbrev after : List ℕ
  after = with_list_in plan numbers

  -- where the lists start
  abbrev start : ℕ
  start = (lists_entry (contents_of plan)).offset

  start-least : 26 ≤ start
  start-least =
      omega (arith, p.contents.routers_start, p.contents.sessions_start, p.contents.distances_start, p.contents.lists_start)

  start-most : start ≤ length plan
  start-most = omega (arith, p.contents.lists_end)

  abbrev head : List ℕ
  head = before_one_list plan numbers

  taken-long : length (take start plan) ≡ start
  taken-long = simp length-take (omega (arith, start-most))

  head-long : length head ≡ start
  head-long = simp length-set taken-long

  whole : after ≡ head ++ one_list numbers
  unfolding with_list_in
  whole = refl

  pub long-is : length after ≡ start + (2 + length numbers)
  long-is = ap length whole ∙ length-append head (one_list numbers) ∙ omega (arith, head-long)

  in_head : (i : ℕ) → i < start → get_or after i 0 ≡ get_or head i 0
  in_head i l = ap (λ s. get_or s i 0) whole ∙ get_or-append head (one_list numbers) 0 i (omega (arith, head-long))

  pub kept : (i : ℕ) → i < start → (i ≡ 24 → ⊥) → (i ≡ 25 → ⊥) → get_or after i 0 ≡ get_or plan i 0
  kept i l a b = in_head i l ∙ rw (get_or-set_other, get_or-set_other) (get_or-take start plan i 0 l)

  size_low : get_or after 24 0 ≡ 2 + length numbers
  size_low =
      let within : 24 < length (take start plan) = omega (arith, start-least, taken-long) in
      let before : ◌≡◌ {A = ℕ} 24 25 → ⊥ = λ e. omega arith in
      in_head 24 (omega (arith, start-least)) ∙ rw (get_or-set_other, get_or-set_same) (omega arith)

  size-high : get_or after 25 0 ≡ 0
  size-high =
      let within : 25 < length (set (take start plan) 24 (length (one_list numbers))) = simp length-set (omega (arith, start-least, taken-long)) in
      in_head 25 (omega (arith, start-least)) ∙ rw get_or-set_same

  -- the first bytes and the contents
  front : (i : ℕ) → i < 24 → get_or after i 0 ≡ get_or plan i 0
  front i l = kept i (omega (arith, start-least)) (λ e. omega arith) (λ e. omega arith)

  pub count-is : router_count after ≡ router_count plan
  count-is = front 4 (lit< tt)

  width-is : width after ≡ width plan
  width-is = ap (λ m. cond (eqb m 50) 4 2) (front 3 (lit< tt))

  entry-is : (at : ℕ) → at + 5 ≤ 24 → entry_at after at ≡ entry_at plan at
  entry-is at l =
      λ i. record {
        kind = front at (omega arith) i;
        offset = little-cong 2 after plan (at + 1) (at + 1) (λ b m. front (at + 1 + b) (omega arith)) i;
        size = little-cong 2 after plan (at + 3) (at + 3) (λ b m. front (at + 3 + b) (omega arith)) i;
      }

  lists-entry : entry_at after 21 ≡ record { kind = 4; offset = start; size = 2 + length numbers }
  lists-entry =
      let size : get_or after 24 0 + 256 * (get_or after 25 0 + 256 * 0) ≡ 2 + length numbers = omega (arith, size_low, size-high) in
      λ i. record {
        kind = (front 21 (lit< tt) ∙ p.contents.lists_kind) i;
        offset = little-cong 2 after plan 22 22 (λ b m. front (22 + b) (omega arith)) i;
        size = size i;
      }

  table_is : contents_of after
      ≡ routers_entry (contents_of plan)
      ∷ sessions_entry (contents_of plan)
      ∷ distances_entry (contents_of plan)
      ∷ record { kind = 4; offset = start; size = 2 + length numbers }
      ∷ []
  table_is = λ i. entry-is 6 (omega arith) i ∷ entry-is 11 (omega arith) i ∷ entry-is 16 (omega arith) i ∷ lists-entry i ∷ []

  -- a part between the contents and the lists is the plan's
  part-is : (e : Entry) → 26 ≤ e.offset → e.offset + e.size ≤ start → body after e ≡ body plan e
  part-is e l m =
      let long : length (take e.size (drop e.offset after)) ≡ e.size = simp (length-take, length-drop) (omega (arith, long-is)) in
      ext_get_or 0 (body after e) (body plan e)
      (long ∙ sym (simp (length-take, length-drop) (omega (arith, start-most))))
      (λ i h.
      get_or-take e.size (drop e.offset after) i 0 (omega arith)
      ∙ get_or-drop e.offset after i 0
      ∙ kept (e.offset + i) (omega arith) (λ q. omega arith) (λ q. omega arith)
      ∙ sym (get_or-take e.size (drop e.offset plan) i 0 (omega arith) ∙ get_or-drop e.offset plan i 0))

  pub routers-is : routers_body after ≡ routers_body plan
  routers-is =
      ap (λ table. body after (routers_entry table)) table_is
      ∙ part-is (routers_entry (contents_of plan)) (omega (arith, p.contents.routers_start))
      (omega (arith, p.contents.sessions_start, p.contents.distances_start, p.contents.lists_start))

  sessions-is : sessions_body after ≡ sessions_body plan
  sessions-is =
      ap (λ table. body after (sessions_entry table)) table_is
      ∙ part-is (sessions_entry (contents_of plan)) (omega (arith, p.contents.routers_start, p.contents.sessions_start))
      (omega (arith, p.contents.distances_start, p.contents.lists_start))

  distances-is : distances_body after ≡ distances_body plan
  distances-is =
      ap (λ table. body after (distances_entry table)) table_is
      ∙ part-is (distances_entry (contents_of plan)) (omega (arith, p.contents.routers_start, p.contents.sessions_start, p.contents.distances_start))
      (omega (arith, p.contents.lists_start))

  pub lists-is : lists_body after ≡ one_list numbers
  lists-is =
      ap (λ table. body after (lists_entry table)) table_is
      ∙ ap (λ s. take (2 + length numbers) (drop start s)) whole
      ∙ ap (take (2 + length numbers)) (drop_at head (one_list numbers) start head-long)
      ∙ take_all
    where
      take_all : take (2 + length numbers) (one_list numbers) ≡ one_list numbers
      take_all = let e : 2 + length numbers ≡ length (one_list numbers) = omega arith in rw e (take-length (one_list numbers))

  -- the lists, in plain facts
  abbrev n : ℕ
  n = router_count plan

  few : length numbers ≤ n
  few = legal-most n numbers g

  place-0 : list_place (one_list numbers) 0 ≡ 1
  unfolding list_place
  place-0 = refl

  place-1 : list_place (one_list numbers) 1 ≡ 2 + length numbers
  unfolding list_place
  place-1 = omega arith

  member_is : (j : ℕ) → member (one_list numbers) 1 j ≡ get_or numbers j 0
  member_is j = let e : 1 + 1 + j ≡ suc (suc j) = omega arith in ap (λ i. get_or (one_list numbers) i 0) e

  list-holds : ListAt (one_list numbers) n 1
  list-holds =
      record {
        starts = omega arith;
        most = few;
        within = omega arith;
        below = λ j l. omega (arith, member_is j, g.below j l);
        rising = λ i j l m. omega (arith, member_is i, member_is j, g.rises i j l m);
      }

  only-list : (k : ℕ) → k < 1 → ListAt (one_list numbers) n (list_place (one_list numbers) k)
  only-list zero l = rw place-0 list-holds
  only-list (suc k) l = absurd (omega arith)

  lists-hold : Lists (one_list numbers) n
  lists-hold = record { held = omega arith; some = omega arith; most = omega arith; lists = only-list; filled = place-1 ∙ omega arith }

  -- it is not refused
  contents-hold : Contents (contents_of after) (width plan) n (length after)
  contents-hold =
      rw (table_is, long-is)
      (record {
        routers_kind = p.contents.routers_kind;
        sessions_kind = p.contents.sessions_kind;
        distances_kind = p.contents.distances_kind;
        lists_kind = refl;
        routers_start = p.contents.routers_start;
        sessions_start = p.contents.sessions_start;
        distances_start = p.contents.distances_start;
        lists_start = p.contents.lists_start;
        lists_end = refl;
        routers_size = p.contents.routers_size;
        sessions_size = p.contents.sessions_size;
        distances_size = p.contents.distances_size;
      })

  most : length after ≤ 8539 + 4096 * width plan
  most =
      length_most after (width plan) (rw count-is p.count) (rw count-is contents-hold) (rw (sessions-is, count-is) p.sessions)
      (rw (lists-is, count-is) lists-hold)

  marked : ((mark plan ≡ 49) × (length after ≤ 16731)) ⊎ ((mark plan ≡ 50) × (length after ≤ 24923))
  marked =
      ⊎_elim (λ (h : (mark plan ≡ 49) × (length plan ≤ 16731)). let two : width plan ≡ 2 = rw h.0 in inl (h.0, omega (arith, most)))
      (λ (h : (mark plan ≡ 50) × (length plan ≤ 24923)). let four : width plan ≡ 4 = rw h.0 in inr (h.0, omega (arith, most)))
      p.header.marked

  header-holds : Header after
  header-holds =
      record {
        least = omega (arith, long-is, start-least);
        letter_r = front 0 (lit< tt) ∙ p.header.letter_r;
        letter_r₂ = front 1 (lit< tt) ∙ p.header.letter_r₂;
        letter_p = front 2 (lit< tt) ∙ p.header.letter_p;
        marked = rw (front 3 (lit< tt)) marked;
        four_entries = front 5 (lit< tt) ∙ p.header.four_entries;
      }

  pub listed-passed : Passed after
  listed-passed =
      record {
        header = header-holds;
        count = rw count-is p.count;
        contents = rw (width-is, count-is) contents-hold;
        routers = rw (routers-is, count-is) p.routers;
        sessions = rw (sessions-is, count-is) p.sessions;
        parents = rw (routers-is, sessions-is, count-is) p.parents;
        distances = rw (width-is, distances-is, count-is) p.distances;
        lists = rw (lists-is, count-is) lists-hold;
      }

  -- its list
  pub one-is : list_count after ≡ 1
  one-is = ap (λ s. get_or s 0 0) lists-is

  pub numbers-is : list_numbers after 0 ≡ numbers
  numbers-is =
      let of = numbers_of after listed-passed 0 (omega (arith, one-is)) in
      let place : list_place (lists_body after) 0 ≡ 1 = ap (λ s. list_place s 0) lists-is ∙ place-0 in
      let size : list_size after 0 ≡ length numbers = ap₂ (λ s at. get_or s at 0) lists-is place in
      ext_get_or 0 (list_numbers after 0) numbers (of.count ∙ size)
      (λ j h. of.are j (omega (arith, of.count)) ∙ ap₂ (λ s at. member s at j) lists-is place ∙ member_is j)

  -- the plan's network with that list
  pub listed-network : (k : ℕ) → instance_of after 0 ≡ with_list (instance_of plan k) (named numbers)
  listed-network k =
      λ i. record {
        n = count-is i;
        reflector = reflector_in (routers-is i) (count-is i);
        skips = skips_in (routers-is i) (count-is i);
        hop = hop_in (routers-is i) (count-is i);
        neighbour = in_session (sessions-is i);
        dist = distance_in (width-is i) (distances-is i) (count-is i);
        way = way_in (width-is i) (distances-is i) (count-is i);
        listed = named (numbers-is i);
      }
