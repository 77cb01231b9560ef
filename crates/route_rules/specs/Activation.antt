-- What a router advertises, and what an activation leaves (document 01, "Choosing and announcing"; there the words are "announces" and
-- "act"; document 02, "Cut-off routers", "Reflectors that skip their own clients" and "Reflectors with the hop step").
use Rattle.std.specs.Prelude.{ℕ, ◌≡◌, Bool, true, false, not, cond, ◌&&◌, ltb, eqb, get_or, set}
use Rattle.std.proofs.Math.Option.{Option, none, some}
use mathlib.Core.List.{List, foldl}
use Rattle.base.specs.Below.{all_below, any_below}
use Rattle.base.specs.Best.{best}
use Rattle.route_rules.specs.Instance.{Instance, Route, nothing, via, is_router}
use Rattle.route_rules.specs.Preference.{prefers_by}

-- "An unlisted reflector announces the route it holds: one heard from a client to all neighbours but that client, one heard from a
-- reflector to its clients only." "Role 3 is such a reflector: what it hears from a client it announces to reflectors only."
-- What v, holding the given route, passes on to w, if anything.
unfoldable pub reflects : Instance → ℕ → Route → ℕ → Option ℕ
reflects I v nothing w = none
reflects I v (via e s) w =
    cond
    (cond (I.reflector s) (not (I.reflector w))
    (cond (I.skips v) (I.reflector w)
    (not (eqb s w))))
    (some e) none

-- "A listed router holds its own route always and announces it to every neighbour. An unlisted client announces nothing."
-- The egress of what v, holding the given route, advertises to its neighbour w.
unfoldable pub advertises : Instance → ℕ → Route → ℕ → Option ℕ
advertises I v held w = cond (I.listed v) (some v) (cond (I.reflector v) (reflects I v held w) none)

-- The same in plain facts, sentence by sentence; x is what v holds. The theorem `advertising` says that they hold.
pub record Advertising (I : Instance) (v : ℕ) : Type 0 where
  -- "A listed router .. announces it to every neighbour."
  pub listed : I.listed v ≡ true → (x : Route) (w : ℕ) → advertises I v x w ≡ some v
  -- "An unlisted client announces nothing."
  pub client : I.listed v ≡ false → I.reflector v ≡ false → (x : Route) (w : ℕ) → advertises I v x w ≡ none
  -- "An unlisted reflector announces the route it holds", if it holds one:
  pub holds-nothing : I.listed v ≡ false → I.reflector v ≡ true → (w : ℕ) → advertises I v nothing w ≡ none
  -- "one heard from a client to all neighbours but that client,
  pub from-client :
      I.listed v ≡ false → I.reflector v ≡ true → I.skips v ≡ false → (e s w : ℕ) →
      I.reflector s ≡ false → (s ≡ w → ⊥) → advertises I v (via e s) w ≡ some e
  pub not_back :
      I.listed v ≡ false → I.reflector v ≡ true → (e s : ℕ) →
      I.reflector s ≡ false → advertises I v (via e s) s ≡ none
  -- one heard from a reflector to its clients only."
  pub to-client :
      I.listed v ≡ false → I.reflector v ≡ true → (e s w : ℕ) →
      I.reflector s ≡ true → I.reflector w ≡ false → advertises I v (via e s) w ≡ some e
  pub to-no-reflector :
      I.listed v ≡ false → I.reflector v ≡ true → (e s w : ℕ) →
      I.reflector s ≡ true → I.reflector w ≡ true → advertises I v (via e s) w ≡ none
  -- Of role 3: "what it hears from a client it announces to reflectors only." `to-client` and `to-no-reflector` hold of it too: "It is
  -- otherwise a reflector in every rule".
  pub skips-to-reflector :
      I.listed v ≡ false → I.reflector v ≡ true → I.skips v ≡ true → (e s w : ℕ) →
      I.reflector s ≡ false → I.reflector w ≡ true → advertises I v (via e s) w ≡ some e
  pub skips-its-clients :
      I.listed v ≡ false → I.reflector v ≡ true → I.skips v ≡ true → (e s w : ℕ) →
      I.reflector s ≡ false → I.reflector w ≡ false → advertises I v (via e s) w ≡ none

-- w hears e from its neighbour v, where `view v` is what w sees v hold. The view need not be the table of one moment.
-- "A route whose egress the hearer has no way to is not heard".
unfoldable pub hears : Instance → (ℕ → Route) → ℕ → ℕ → ℕ → Bool
hears I view w v e = I.neighbour w v && is_router e (advertises I v (view v) w) && I.way w e

-- The same in plain facts: true exactly if v is a neighbour, advertises e to w, and w has a way to e. No way to v is asked for, and none
-- from v. The theorem `hearing` says that they hold.
pub record Hearing (I : Instance) (view : ℕ → Route) (w v e : ℕ) : Type 0 where
  pub heard :
      I.neighbour w v ≡ true → advertises I v (view v) w ≡ some e → I.way w e ≡ true → hears I view w v e ≡ true
  pub near : hears I view w v e ≡ true → I.neighbour w v ≡ true
  pub advertised : hears I view w v e ≡ true → advertises I v (view v) w ≡ some e
  pub way : hears I view w v e ≡ true → I.way w e ≡ true

-- "a route told by its own egress router": w hears e from e itself, be it by a left-over entry with which an unlisted e tells a route to
-- itself
abbrev pub heard_direct : Instance → (ℕ → Route) → ℕ → ℕ → Bool
heard_direct I view w e = hears I view w e e

-- "If one egress is heard from several neighbours, the egress router itself is the sender if it is one of them, else the lowest number."
-- `tells v e` says that v tells e.
unfoldable pub sender_of : (ℕ → ℕ → Bool) → ℕ → ℕ → Option ℕ
sender_of tells n e = cond (tells e e) (some e) (best ltb (λ v. tells v e) n)

-- the route to e from the sender found
abbrev pub route_from : ℕ → Option ℕ → Route
route_from e none = nothing
route_from e (some s) = via e s

-- the route to the egress found, "or nothing if there is none"
unfoldable pub route_to : (ℕ → ℕ → Bool) → ℕ → Option ℕ → Route
route_to tells n none = nothing
route_to tells n (some e) = route_from e (sender_of tells n e)

-- "the best route announced", by the given preference, with its sender; all routers are below n
unfoldable pub choice : (ℕ → ℕ → Bool) → (ℕ → ℕ → Bool) → ℕ → Route
choice prefer tells n = route_to tells n (best prefer (λ e. any_below (λ v. tells v e) n) n)

-- "An act of a listed router leaves its own route. An act of another leaves the best route announced to it, or nothing if there is none."
-- "A router's own route is unaffected": no way is asked for.
unfoldable pub choose : Instance → ℕ → (ℕ → Route) → Route
choose I w view = cond (I.listed w) (via w w) (choice (prefers_by I w (heard_direct I view w)) (hears I view w) I.n)

-- "told by its own egress router", of a route that w itself holds: exactly if its egress and its sender are the same. The theorem
-- `entry-tells` says that this holds.
abbrev pub EntryTells : Instance → Type 0
EntryTells I =
    (w : ℕ) (view : ℕ → Route) → I.listed w ≡ false → (e s : ℕ) → choose I w view ≡ via e s → heard_direct I view w e ≡ eqb s e

-- what the routers of a table hold; the table is a list, so that it is worked out once
abbrev pub held : List Route → ℕ → Route
held t v = get_or t v nothing

-- "A listed router's entry names itself twice. Any other entry is 255 255, or an egress below n with a neighbour as sender."
unfoldable pub entry_ok : Instance → ℕ → Route → Bool
entry_ok I v nothing = not (I.listed v)
entry_ok I v (via e s) = cond (I.listed v) (eqb e v && eqb s v) (ltb e I.n && I.neighbour v s)

-- .. of every router: the rule of a held-route table, called routing table here
unfoldable pub table_ok : Instance → List Route → Bool
table_ok I t = all_below (λ v. entry_ok I v (held t v)) I.n

-- "An act changes no entry but that of the router that acts", and it "reads what its neighbours hold at that moment".
unfoldable pub activate : Instance → ℕ → List Route → List Route
activate I w t = set t w (choose I w (held t))

-- "A run applies a sequence of acts."
unfoldable pub run_acts : Instance → List Route → List ℕ → List Route
run_acts I t acts = foldl (λ u w. activate I w u) t acts
