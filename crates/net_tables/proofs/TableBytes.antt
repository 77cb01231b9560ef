-- Routing tables in bytes: an act on a buffer is the act on the table that it holds, and leaves every other byte.
use Prim.Native.Nat.{ℕ, zero, suc, ◌+◌, ◌*◌, ◌≤◌, ◌<◌}
use native.Mathlib.Numerals.{add-one}
use native.Mathlib.Omega.{arith}
use mathlib.Core.Path.{◌≡◌, refl, ◌∙◌, sym, ap, ap₂}
use mathlib.Core.Bool.{Bool, true, false, ◌&&◌}
use mathlib.Core.List.{List, [], ◌∷◌, ◌++◌, append_assoc, foldl-append}
use mathlib.Core.Logic.{◌⊎◌, inl, inr}
use lib.Dec.{ltb, eqb}
use lib.ListN.{length, get_or, take, drop, set, length-set, take-append-drop}
use lib.Seq.{get_or-set_same, get_or-set_other, drop-set-lt, take-suc, ext_get_or}
use borrow.Author.Tests.{ltb-true, lt-ltb, le-ltb, eqb-true, eq-eqb, ne_eqb}
use Rattle.base.proofs.Numbers.{both_left, both_right, eq-or-ne}
use Rattle.base.proofs.Below.{all-at}
use Rattle.base.specs.Tab.{tab}
use Rattle.base.proofs.Tab.{tab-none, tab-suc, length-tab, get_or-tab}
use Rattle.route_rules.specs.Instance.{Instance, Route, nothing, via}
use Rattle.route_rules.specs.Activation.{hears, heard_direct, choose, held, entry_ok, table_ok, activate, run_acts}
use Rattle.route_rules.specs.Preference.{prefers_by}
use Rattle.route_rules.specs.Rounds.{ActsBelow}
use Rattle.net_tables.specs.TableBytes.{read_route, egress_byte, sender_byte, RouteBelow, route_at, put_route, table_of, table_bytes, TableIn, RoutesIn, activate_bytes, run_bytes}
use Rattle.route_rules.proofs.Preference.{prefers_by-order, prefers_by-alike}
use Rattle.route_rules.proofs.Routes.{ChoiceIs, choice-unique, choose-listed, choose-is, activate-length, activate-own, activate-other, activate-ok}

-- two bytes as a route, and back
pub read-nothing : read_route 255 255 ≡ nothing
unfolding read_route
read-nothing = refl

pub read-via : (e s : ℕ) → (e ≡ 255 → ⊥) → read_route e s ≡ via e s
unfolding read_route
read-via e s d = cc (ne_eqb e 255 d)

module _ (e s : ℕ) where
  pub read-bytes : (egress_byte (read_route e s) ≡ e) × (sender_byte (read_route e s) ≡ s)
  unfolding read_route
  read-bytes = go (eqb e 255) refl (eqb s 255) refl
    where
      go : (a : Bool) → eqb e 255 ≡ a → (b : Bool) → eqb s 255 ≡ b → (egress_byte (read_route e s) ≡ e) × (sender_byte (read_route e s) ≡ s)
      go true p true q = (cc (eqb-true e 255 p), cc (eqb-true s 255 q))
      go true p false q = (cc, cc)
      go false p b q = (cc, cc)

-- a route that its two bytes give back
abbrev pub Written : Route → Type 0
Written x = read_route (egress_byte x) (sender_byte x) ≡ x

pub written_below : (n : ℕ) (x : Route) → n ≤ 64 → RouteBelow n x → Written x
written_below n nothing h b = read-nothing
written_below n (via e s) h b = read-via e s (omega arith)

-- the rule of an entry, by its two bytes: of a listed router
module _ (I : Instance) (v e s : ℕ) where
  module _ (listed : I.listed v ≡ true) where
    listed-rule : v < 64 → entry_ok I v (read_route e s) ≡ (eqb e v && eqb s v)
    unfolding read_route entry_ok
    listed-rule l = go (eqb e 255) refl (eqb s 255) refl
      where
        go : (a : Bool) → eqb e 255 ≡ a → (b : Bool) → eqb s 255 ≡ b → entry_ok I v (read_route e s) ≡ (eqb e v && eqb s v)
        go true q true r = cc (ne_eqb e v (omega (arith, eqb-true e 255 q)))
        go true q false r = cc
        go false q b r = cc

    pub entry_other : v < 64 → (e ≡ v → ⊥) → entry_ok I v (read_route e s) ≡ false
    entry_other l d = listed-rule l ∙ cc (ne_eqb e v d)

    pub entry-itself : v < 64 → e ≡ v → entry_ok I v (read_route e s) ≡ eqb s v
    entry-itself l q = listed-rule l ∙ cc (eq-eqb e v q)

  -- of another
  module _ (unlisted : I.listed v ≡ false) where
    pub entry-none : I.n ≤ 64 → e ≡ 255 → entry_ok I v (read_route e s) ≡ eqb s 255
    unfolding read_route entry_ok
    entry-none l q = go (eqb s 255) refl
      where
        go : (b : Bool) → eqb s 255 ≡ b → entry_ok I v (read_route e s) ≡ eqb s 255
        go true r = cc (eq-eqb e 255 q)
        go false r = cc (le-ltb e I.n (omega arith))

    some-rule : (e ≡ 255 → ⊥) → entry_ok I v (read_route e s) ≡ (ltb e I.n && I.neighbour v s)
    unfolding entry_ok
    some-rule d = ap (entry_ok I v) (read-via e s d) ∙ cc

    pub entry-far : (e ≡ 255 → ⊥) → I.n ≤ e → entry_ok I v (read_route e s) ≡ false
    entry-far d l = some-rule d ∙ cc (le-ltb e I.n l)

    pub entry-near : (e ≡ 255 → ⊥) → e < I.n → entry_ok I v (read_route e s) ≡ I.neighbour v s
    entry-near d l = some-rule d ∙ cc (lt-ltb e I.n l)

module _ (buffer : List ℕ) (v : ℕ) (x : Route) where
  pub put-length : length (put_route buffer v x) ≡ length buffer
  put-length = length-set (set buffer (2 * v) (egress_byte x)) _ _ ∙ length-set buffer _ _

  pub put-own : 2 * v + 2 ≤ length buffer → Written x → route_at (put_route buffer v x) v ≡ x
  put-own h w = ap₂ read_route egress sender ∙ w
    where
      egress : get_or (put_route buffer v x) (2 * v) 0 ≡ egress_byte x
      egress = get_or-set_other (set buffer (2 * v) (egress_byte x)) _ _ _ 0 (omega arith) ∙ get_or-set_same buffer _ _ 0 (omega arith)

      sender : get_or (put_route buffer v x) (2 * v + 1) 0 ≡ sender_byte x
      sender = get_or-set_same (set buffer (2 * v) (egress_byte x)) _ _ 0 (omega (arith, length-set buffer (2 * v) (egress_byte x)))

  put_byte : (i : ℕ) → (i ≡ 2 * v → ⊥) → (i ≡ 2 * v + 1 → ⊥) → get_or (put_route buffer v x) i 0 ≡ get_or buffer i 0
  put_byte i a b = get_or-set_other (set buffer (2 * v) (egress_byte x)) _ _ _ 0 b ∙ get_or-set_other buffer _ _ _ 0 a

  -- no other entry changes
  pub put_other : (u : ℕ) → (u ≡ v → ⊥) → route_at (put_route buffer v x) u ≡ route_at buffer u
  put_other u d = ap₂ read_route (put_byte (2 * u) (omega arith) (omega arith)) (put_byte (2 * u + 1) (omega arith) (omega arith))

  -- and no byte after the table
  pub put_rest : (n : ℕ) → v < n → drop (2 * n) (put_route buffer v x) ≡ drop (2 * n) buffer
  put_rest n l = drop-set-lt (2 * n) (set buffer (2 * v) (egress_byte x)) _ _ (omega arith) ∙ drop-set-lt (2 * n) buffer _ _ (omega arith)

module _ (buffer : List ℕ) where
  pub table-length : (n : ℕ) → length (table_of buffer n) ≡ n
  unfolding table_of
  table-length n = length-tab (route_at buffer) n

  pub table-held : (n v : ℕ) → v < n → held (table_of buffer n) v ≡ route_at buffer v
  unfolding table_of
  table-held n v l = get_or-tab (route_at buffer) n nothing v l

bytes-append : (t : List Route) (x : Route) → table_bytes (t ++ (x ∷ [])) ≡ table_bytes t ++ (egress_byte x ∷ sender_byte x ∷ [])
unfolding table_bytes
bytes-append [] x = refl
bytes-append (y ∷ t) x = ap (λ b. egress_byte y ∷ sender_byte y ∷ b) (bytes-append t x)

module _ (buffer : List ℕ) where
  -- a buffer's first bytes are those of its table
  pub table-front : (n : ℕ) → 2 * n ≤ length buffer → take (2 * n) buffer ≡ table_bytes (table_of buffer n)
  unfolding table_of table_bytes
  table-front zero h = rw tab-none
  table-front (suc n) h =
      let two : 2 * suc n ≡ suc (suc (2 * n)) = omega arith in
      let x = route_at buffer n in
      let bytes = read-bytes (get_or buffer (2 * n) 0) (get_or buffer (2 * n + 1) 0) in
      ap (λ k. take k buffer) two
      ∙ take-suc buffer (suc (2 * n)) 0 (omega arith)
      ∙ ap₂ (λ b k. b ++ (get_or buffer k 0 ∷ [])) (take-suc buffer (2 * n) 0 (omega arith)) (sym (add-one (2 * n)))
      ∙ append_assoc (take (2 * n) buffer) (get_or buffer (2 * n) 0 ∷ []) _
      ∙ ap₂ ◌++◌ (table-front n (omega arith)) (ap₂ (λ a b. a ∷ b ∷ []) (sym bytes.0) (sym bytes.1))
      ∙ sym (bytes-append (tab (route_at buffer) n) x)
      ∙ ap table_bytes (sym (tab-suc (route_at buffer) n))

  pub table-bytes : (n : ℕ) → 2 * n ≤ length buffer → buffer ≡ table_bytes (table_of buffer n) ++ drop (2 * n) buffer
  table-bytes n h = sym (take-append-drop (2 * n) buffer) ∙ ap (λ b. b ++ drop (2 * n) buffer) (table-front n h)

module _ (I : Instance) (w : ℕ) where
  -- the choice reads the routers below n alone
  module _ (view other : ℕ → Route) (same : (v : ℕ) → v < I.n → view v ≡ other v) where
    hears-same : (v e : ℕ) → v < I.n → hears I view w v e ≡ hears I other w v e
    unfolding hears
    hears-same v e l = rw (same v l)

    direct-same : (e f : ℕ) → e < I.n → f < I.n → prefers_by I w (heard_direct I other w) e f ≡ prefers_by I w (heard_direct I view w) e f
    direct-same e f l m = prefers_by-alike I w (heard_direct I other w) (heard_direct I view w) e f (sym (hears-same e e l)) (sym (hears-same f f m))

    choice-same : (x : Route) → ChoiceIs (prefers_by I w (heard_direct I view w)) (hears I view w) I.n x
        → ChoiceIs (prefers_by I w (heard_direct I other w)) (hears I other w) I.n x
    choice-same nothing h = λ v f l m. sym (hears-same v f l) ∙ h v f l m
    choice-same (via e s) h =
        record {
          egress = h.egress;
          sender = h.sender;
          told = sym (hears-same s e h.sender) ∙ h.told;
          unbeaten = λ v f l m q. direct-same f e m h.egress ∙ h.unbeaten v f l m (hears-same v f l ∙ q);
          itself = λ q. h.itself (hears-same e e h.egress ∙ q);
          lowest = λ p v l q. h.lowest (hears-same e e h.egress ∙ p) v l (hears-same v e l ∙ q);
        }

    pub choose-same : choose I w view ≡ choose I w other
    choose-same = go (I.listed w) refl
      where
        go : (b : Bool) → I.listed w ≡ b → choose I w view ≡ choose I w other
        go true p = choose-listed I w view p ∙ sym (choose-listed I w other p)
        go false p =
            choice-unique (prefers_by I w (heard_direct I other w)) (hears I other w) I.n (prefers_by-order I w (heard_direct I other w))
            (choose I w view) (choose I w other)
            (choice-same (choose I w view) (choose-is I w view p))
            (choose-is I w other p)

  -- .. and names them alone
  pub choose-below : (view : ℕ → Route) → w < I.n → RouteBelow I.n (choose I w view)
  choose-below view l = go (I.listed w) refl
    where
      other : (x : Route) → ChoiceIs (prefers_by I w (heard_direct I view w)) (hears I view w) I.n x → RouteBelow I.n x
      other nothing h = tt
      other (via e s) h = (h.egress, h.sender)

      go : (b : Bool) → I.listed w ≡ b → RouteBelow I.n (choose I w view)
      go true p = rw (choose-listed I w view p) (l, l)
      go false p = other (choose I w view) (choose-is I w view p)

module _ (I : Instance) where
  module _ (w : ℕ) (buffer : List ℕ) where
    -- an act on a buffer leaves in the router's own entry what it chooses
    pub act-own : I.n ≤ 64 → w < I.n → 2 * I.n ≤ length buffer → route_at (activate_bytes I w buffer) w ≡ choose I w (held (table_of buffer I.n))
    unfolding activate_bytes
    act-own small l h =
        put-own buffer w (choose I w (route_at buffer)) (omega arith) (written_below I.n _ small (choose-below I w (route_at buffer) l))
        ∙ choose-same I w (route_at buffer) (held (table_of buffer I.n)) (λ v m. sym (table-held buffer I.n v m))

    -- .. changes no other entry
    pub act-other : (v : ℕ) → (v ≡ w → ⊥) → route_at (activate_bytes I w buffer) v ≡ route_at buffer v
    unfolding activate_bytes
    act-other = put_other buffer w (choose I w (route_at buffer))

    -- and no byte after the table
    pub act-rest : w < I.n → drop (2 * I.n) (activate_bytes I w buffer) ≡ drop (2 * I.n) buffer
    unfolding activate_bytes
    act-rest = put_rest buffer w (choose I w (route_at buffer)) I.n

    pub act-length : length (activate_bytes I w buffer) ≡ length buffer
    unfolding activate_bytes
    act-length = put-length buffer w (choose I w (route_at buffer))

    module _ (small : I.n ≤ 64) (l : w < I.n) (h : 2 * I.n ≤ length buffer) where
      act-entry : (v : ℕ) → v < I.n → (v ≡ w) ⊎ (v ≡ w → ⊥) → held (table_of (activate_bytes I w buffer) I.n) v ≡ held (activate I w (table_of buffer I.n)) v
      act-entry v m (inl e) =
          table-held (activate_bytes I w buffer) I.n v m
          ∙ ap (route_at (activate_bytes I w buffer)) e
          ∙ act-own small l h
          ∙ sym (activate-own I w (table_of buffer I.n) (omega (arith, table-length buffer I.n)))
          ∙ ap (held (activate I w (table_of buffer I.n))) (sym e)
      act-entry v m (inr d) =
          table-held (activate_bytes I w buffer) I.n v m
          ∙ act-other v d
          ∙ sym (table-held buffer I.n v m)
          ∙ sym (activate-other I w (table_of buffer I.n) v d)

      -- the act on a buffer is the act on the table that it holds
      pub act-table : table_of (activate_bytes I w buffer) I.n ≡ activate I w (table_of buffer I.n)
      act-table =
          ext_get_or nothing _ _
          (table-length (activate_bytes I w buffer) I.n ∙ sym (activate-length I w (table_of buffer I.n) ∙ table-length buffer I.n))
          (λ v m. act-entry v (omega (arith, table-length (activate_bytes I w buffer) I.n)) (eq-or-ne v w))

  -- an act leaves a table that obeys its rule
  pub act-ok : (w : ℕ) (buffer : List ℕ) → I.n ≤ 64 → w < I.n → TableIn I buffer → TableIn I (activate_bytes I w buffer)
  act-ok w buffer small l t =
      record {
        long = omega (arith, act-length w buffer, t.long);
        rule = ap (table_ok I) (act-table w buffer small l t.long) ∙ activate-ok I w (table_of buffer I.n) t.rule;
      }

  pub run-bytes-length : (buffer acts : List ℕ) → length (run_bytes I buffer acts) ≡ length buffer
  unfolding run_bytes
  run-bytes-length buffer [] = refl
  run-bytes-length buffer (w ∷ acts) = run-bytes-length (activate_bytes I w buffer) acts ∙ act-length w buffer

  pub run-bytes-rest : (buffer acts : List ℕ) → ActsBelow I.n acts → drop (2 * I.n) (run_bytes I buffer acts) ≡ drop (2 * I.n) buffer
  unfolding run_bytes
  run-bytes-rest buffer [] b = refl
  run-bytes-rest buffer (w ∷ acts) b =
      run-bytes-rest (activate_bytes I w buffer) acts (λ i l. b (suc i) (omega arith)) ∙ act-rest w buffer (b 0 (omega arith))

  -- two sequences run one after the other
  pub run-bytes-append : (buffer acts more : List ℕ) → run_bytes I buffer (acts ++ more) ≡ run_bytes I (run_bytes I buffer acts) more
  unfolding run_bytes
  run-bytes-append buffer acts more = foldl-append (λ b w. activate_bytes I w b) buffer acts more

  -- a run on a buffer is the run on the table that it holds
  pub run-table : (buffer acts : List ℕ) → I.n ≤ 64 → ActsBelow I.n acts → 2 * I.n ≤ length buffer
      → table_of (run_bytes I buffer acts) I.n ≡ run_acts I (table_of buffer I.n) acts
  unfolding run_bytes run_acts
  run-table buffer [] small b h = refl
  run-table buffer (w ∷ acts) small b h =
      run-table (activate_bytes I w buffer) acts small (λ i l. b (suc i) (omega arith)) (omega (arith, act-length w buffer))
      ∙ ap (λ t. run_acts I t acts) (act-table w buffer small (b 0 (omega arith)) h)

-- a table that obeys its rule names routers alone
module _ (I : Instance) (neighbours : (w v : ℕ) → I.neighbour w v ≡ true → v < I.n) where
  entry-below : (v : ℕ) (x : Route) → v < I.n → entry_ok I v x ≡ true → RouteBelow I.n x
  unfolding entry_ok
  entry-below v nothing l h = tt
  entry-below v (via e s) l h = go (I.listed v) refl
    where
      go : (b : Bool) → I.listed v ≡ b → (e < I.n) × (s < I.n)
      go true p =
          let q : (eqb e v && eqb s v) ≡ true = rw p at h in
          (omega (arith, eqb-true e v (both_left (eqb e v) (eqb s v) q)), omega (arith, eqb-true s v (both_right (eqb e v) (eqb s v) q)))
      go false p =
          let q : (ltb e I.n && I.neighbour v s) ≡ true = rw p at h in
          (ltb-true e I.n (both_left (ltb e I.n) (I.neighbour v s) q), neighbours v s (both_right (ltb e I.n) (I.neighbour v s) q))

  pub table_below : (buffer : List ℕ) → TableIn I buffer → RoutesIn I.n buffer
  unfolding table_ok
  table_below buffer t =
      record {
        long = t.long;
        below = λ v l.
            entry-below v (route_at buffer v) l
            (ap (entry_ok I v) (sym (table-held buffer I.n v l))
            ∙ all-at (λ v. entry_ok I v (held (table_of buffer I.n) v)) I.n t.rule v l);
      }
