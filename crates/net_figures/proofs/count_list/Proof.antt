-- `net_figures::count_list`: the word of routers in groups of two or more is 0 exactly if the list is stable.
use Prim.Native.Nat.{◌<◌}
use native.Mathlib.Omega.{arith}
use mathlib.Core.Path.{refl}
use borrow.Author.Rules.{rules}
use lib.ListN.{length, get_or}
use Rattle.route_rules.specs.Instance.{Instance}
use Rattle.net_rules.specs.Decoded.{decoded}
use Rattle.net_figures.proofs.OneMore.{grouped-below, word-acyclic, word-within, word_below, suspect-counted, stable-counted}
use Rattle.net_figures.proofs.count_list.Statement.{statement}
use Rattle.net_figures.proofs.count_list.Tie as tie

-- from where the groups are known: where the call starts, and the network
abbrev start : tie.After-group_rows-grouped → tie.Start
start c = c.before.before.before.before.before.before

abbrev network : tie.After-group_rows-grouped → Instance
network c = let a = (start c).args in decoded a.net a.rows.now a.distances.now

count-routers-requires : tie.Need-count_routers-requires
count-routers-requires c κs w set =
    let g = c.before.before in
    let p = (start g).requires in
    let l = grouped-below (network g) _ _ _ g.group_rows-grouped.ensures w set in
    (omega (arith, p.0.count), omega (arith, p.1.routers_long), omega (arith, p.1.routers_low w l))

returns : tie.Need-returns-then-grouped-ne0
returns c =
    let k = c in
    let g = c.before.before.before.before.before.before in
    let rows = g.group_rows-grouped.ensures in
    suspect-counted (network g) _ _ _ rows _ _ _ k.if-grouped-ne0.true
    (k.count_routers.ensures (network g).n (grouped-below (network g) _ _ _ rows))

ranks-requires : tie.Need-ranks-highest-requires
ranks-requires c κs =
    let g = c.before.before.before in
    let p = (start g).requires in
    let rows = g.group_rows-grouped.ensures in
    let none = c.if-grouped-ne0.false in
    (p.0.count, omega (arith, p.0.count), word-acyclic (network g) _ _ _ rows none, word-within (network g) _ _ _ rows none)

-- the count of the highest rank
module _ (ranked : tie.After-ranks-highest) where
  abbrev groups : tie.After-group_rows-grouped
  groups = ranked.before.before.before.before

  below : ranked.ranks-highest.result < (network groups).n
  below =
      word_below (network groups) _ _ _ groups.group_rows-grouped.ensures ranked.if-grouped-ne0.false _
      (start groups).requires.1.some ranked.ranks-highest.ensures.0

  room : ranked.ranks-highest.result < length (start groups).args.ranks.now
  room = omega (arith, below, (start groups).requires.1.ranks_long)

  low : get_or (start groups).args.ranks.now ranked.ranks-highest.result 0 < 64
  low = (start groups).requires.1.ranks_low _ below

returns-2 : tie.Need-returns
returns-2 c =
    let ranked = c.before.before.before.before in
    let g = groups ranked in
    let p = (start g).requires.1 in
    stable-counted (network g) _ _ _ g.group_rows-grouped.ensures _ _ _ _ _ _ ranked.if-grouped-ne0.false p.some p.ranks_long
    ranked.ranks-highest.ensures.0 refl c.higher.ensures

pub count_list_spec : {M : Type 1} → statement M
count_list_spec =
    tie.close
    (tie.spec
    (λ c κs. search rules)
    count-routers-requires
    (λ c. search rules)
    (λ c. search rules)
    returns
    (λ c. search rules)
    ranks-requires
    (λ c. room c.before.before)
    (λ c. omega (arith, low c.before.before))
    (λ c. room c.before.before)
    (λ c. search rules)
    (λ c κs. search rules)
    (λ c. search rules)
    returns-2)
