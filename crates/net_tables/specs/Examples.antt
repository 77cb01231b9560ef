-- Examples that tell the rules of a table in bytes from a misreading of them, in literal bytes. Beside each stands
-- what a misreading gives.
use Rattle.std.specs.Prelude.{ℕ, ◌≡◌, true, false, not, ◌&&◌, ◌||◌, List, [], ◌∷◌, eqb}
use Rattle.route_rules.specs.Instance.{Instance, nothing, via}
use Rattle.route_rules.specs.Examples.{six_with}
use Rattle.net_tables.specs.TableBytes.{read_route, route_at, put_route, table_of, table_bytes, activate_bytes}

-- reflector 0, a neighbour of clients 1 and 2, of which 1 is listed; every distance is 0
unfoldable pub three_routers : Instance
three_routers =
    record {
      n = 3;
      reflector = λ v. eqb v 0;
      skips = λ v. false;
      hop = λ v. false;
      neighbour = λ w v. not (eqb w v) && (eqb w 0 || eqb v 0);
      dist = λ u e. 0;
      way = λ u e. true;
      listed = λ v. eqb v 1;
    }

-- a table in which the unlisted hold nothing, with one byte after it
unfoldable pub lent : List ℕ
lent = 255 ∷ 255 ∷ 1 ∷ 1 ∷ 255 ∷ 255 ∷ 9 ∷ []

-- the six routers of crate route_rules, reflectors 0, 1, 2 and clients 3, 4, 5, in which 3 and 4 are listed: from 0 it is 19 to 3, its
-- client, and 11 to 4, a client of 1. Router 0 of role 1, of role 4, of role 4 without a way to 3, and of role 5.
abbrev pub of_role1 : Instance
of_role1 = six_with [] [] [] (3 ∷ 4 ∷ [])

abbrev pub of_role4 : Instance
of_role4 = six_with [] [] (0 ∷ []) (3 ∷ 4 ∷ [])

abbrev pub of_role4_cut_off : Instance
of_role4_cut_off = six_with ((3 ∷ []) ∷ []) [] (0 ∷ []) (3 ∷ 4 ∷ [])

abbrev pub of_role5 : Instance
of_role5 = six_with [] (0 ∷ []) (0 ∷ []) (3 ∷ 4 ∷ [])

-- a table of theirs in which reflector 1 holds the route of 4
unfoldable pub lent_six : List ℕ
lent_six = 255 ∷ 255 ∷ 4 ∷ 4 ∷ 255 ∷ 255 ∷ 3 ∷ 3 ∷ 4 ∷ 4 ∷ 255 ∷ 255 ∷ []

pub record TableExamples : Type 0 where
  -- "two bytes a router, egress and sender; 255 255 is nothing"
  pub egress_then_sender : read_route 4 1 ≡ via 4 1  -- sender, then egress: via 1 4
  pub nothing_is_twice255 : read_route 255 255 ≡ nothing
  pub one_of255_is_not : read_route 4 255 ≡ via 4 255  -- by the sender alone: nothing
  pub entry_read : route_at (9 ∷ 9 ∷ 4 ∷ 1 ∷ []) 1 ≡ via 4 1  -- sender, then egress: via 1 4
  pub entry_written : put_route (9 ∷ 9 ∷ 9 ∷ 9 ∷ 9 ∷ 9 ∷ []) 1 (via 4 1) ≡ 9 ∷ 9 ∷ 4 ∷ 1 ∷ 9 ∷ 9 ∷ []  -- 1 4
  pub nothing_written : put_route (9 ∷ 9 ∷ 9 ∷ 9 ∷ []) 0 nothing ≡ 255 ∷ 255 ∷ 9 ∷ 9 ∷ []
  pub table_read : table_of (255 ∷ 255 ∷ 4 ∷ 1 ∷ 9 ∷ 9 ∷ []) 2 ≡ nothing ∷ via 4 1 ∷ []
  pub table_written : table_bytes (nothing ∷ via 4 1 ∷ []) ≡ 255 ∷ 255 ∷ 4 ∷ 1 ∷ []  -- sender, then egress: 1 4
  -- "An act changes no entry but that of the router that acts", and an act "touches none after them"
  pub act_in_bytes : activate_bytes three_routers 0 lent ≡ 1 ∷ 1 ∷ 1 ∷ 1 ∷ 255 ∷ 255 ∷ 9 ∷ []
  -- "Roles 4 and 5 are roles 1 and 3 with that step: a route told by its own egress router beats one passed on, and only then distance and
  -- number count."
  pub told_by_its_egress : activate_bytes of_role4 0 lent_six ≡ 3 ∷ 3 ∷ 4 ∷ 4 ∷ 255 ∷ 255 ∷ 3 ∷ 3 ∷ 4 ∷ 4 ∷ 255 ∷ 255 ∷ []  -- by distance: 4 1
  pub without_the_step : activate_bytes of_role1 0 lent_six ≡ 4 ∷ 1 ∷ 4 ∷ 4 ∷ 255 ∷ 255 ∷ 3 ∷ 3 ∷ 4 ∷ 4 ∷ 255 ∷ 255 ∷ []  -- at every reflector: 3 3
  pub role5_told_by_its_egress : activate_bytes of_role5 0 lent_six ≡ 3 ∷ 3 ∷ 4 ∷ 4 ∷ 255 ∷ 255 ∷ 3 ∷ 3 ∷ 4 ∷ 4 ∷ 255 ∷ 255 ∷ []  -- role 4 alone: 4 1
  -- "A way still beats none": 0 has none to 3, and takes the route passed on
  pub told_without_a_way :
      activate_bytes of_role4_cut_off 0 lent_six ≡ 4 ∷ 1 ∷ 4 ∷ 4 ∷ 255 ∷ 255 ∷ 3 ∷ 3 ∷ 4 ∷ 4 ∷ 255 ∷ 255 ∷ []  -- told by its egress and not heard: 255 255
  -- "told by its own egress router", of an unlisted one too: reflector 2 has a left-over route to itself, 30 from 0, and 1 passes on one
  -- that is nearer
  pub told_by_a_left_over :
      activate_bytes (six_with [] [] (0 ∷ []) (4 ∷ [])) 0 (255 ∷ 255 ∷ 4 ∷ 4 ∷ 2 ∷ 4 ∷ 255 ∷ 255 ∷ 4 ∷ 4 ∷ 255 ∷ 255 ∷ [])
      ≡ 2 ∷ 2 ∷ 4 ∷ 4 ∷ 2 ∷ 4 ∷ 255 ∷ 255 ∷ 4 ∷ 4 ∷ 255 ∷ 255 ∷ []  -- by listed routers alone: 4 1
  -- of several so told, "distance and number count": reflector 0 hears 3, 19 from it, and 2, 30 from it, each from itself
  pub nearest_told_by_its_egress :
      activate_bytes of_role4 0 (255 ∷ 255 ∷ 4 ∷ 4 ∷ 2 ∷ 4 ∷ 3 ∷ 3 ∷ 4 ∷ 4 ∷ 255 ∷ 255 ∷ [])
      ≡ 3 ∷ 3 ∷ 4 ∷ 4 ∷ 2 ∷ 4 ∷ 3 ∷ 3 ∷ 4 ∷ 4 ∷ 255 ∷ 255 ∷ []  -- the lowest number: 2 2
  -- of a listed reflector's own route too: 0 hears 2, 30 from it, from 2 itself, and 4, which is nearer, from 1
  pub told_by_a_reflector :
      activate_bytes (six_with [] [] (0 ∷ []) (2 ∷ 4 ∷ [])) 0 (255 ∷ 255 ∷ 4 ∷ 4 ∷ 2 ∷ 2 ∷ 255 ∷ 255 ∷ 4 ∷ 4 ∷ 255 ∷ 255 ∷ [])
      ≡ 2 ∷ 2 ∷ 4 ∷ 4 ∷ 2 ∷ 2 ∷ 255 ∷ 255 ∷ 4 ∷ 4 ∷ 255 ∷ 255 ∷ []  -- a reflector's own route as passed on: 4 1
  -- "on reflectors only": client 5 hears 0 from 1 and 3 from 3, both 30 from it
  pub client_has_no_step :
      activate_bytes (six_with [] [] (5 ∷ []) (0 ∷ 3 ∷ [])) 5 (0 ∷ 0 ∷ 0 ∷ 0 ∷ 255 ∷ 255 ∷ 3 ∷ 3 ∷ 255 ∷ 255 ∷ 255 ∷ 255 ∷ [])
      ≡ 0 ∷ 0 ∷ 0 ∷ 0 ∷ 255 ∷ 255 ∷ 3 ∷ 3 ∷ 255 ∷ 255 ∷ 0 ∷ 1 ∷ []  -- at every router: 3 3
