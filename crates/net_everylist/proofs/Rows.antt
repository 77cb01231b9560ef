-- Words of a network read from a plan: the foreign clients of a reflector, its own clients, and the rows of all pairs.
use Prim.Native.Nat.{ℕ, suc, ◌+◌, ◌-◌, ◌≤◌, ◌<◌, min}
use native.Mathlib.Omega.{arith}
use mathlib.Core.Path.{◌≡◌, refl, ◌∙◌, sym, ap, ap₂}
use mathlib.Core.Bool.{Bool, true, false, not, ◌&&◌, and-true, and-false}
use mathlib.Core.List.{List}
use mathlib.Core.Logic.{⊎_elim}
use borrow.Author.Tests.{eq-eqb, eqb-true, le-leb, lt-leb}
use lib.Bits.{bit_and}
use lib.Dec.{eqb, leb}
use lib.ListN.{length, get_or, set, replicate, length-set, length-replicate}
use lib.Seq.{get_or-set_same, get_or-set_other}
use Rattle.base.specs.Below.{any_below}
use Rattle.base.specs.Bits.{bit_n, bits}
use Rattle.base.proofs.Below.{any-cong}
use Rattle.base.proofs.BitLaws.{bit-and}
use Rattle.base.proofs.Numbers.{not-both, lt-or-le, eq-or-ne, both_right}
use Rattle.base.proofs.SetBits.{set-and, set-less, rows_none}
use Rattle.net_rules.specs.declared.Network.{Network}
use Rattle.net_rules.specs.Decoded.{decoded}
use Rattle.net_rules.specs.WellFormed.{WellFormed}
use Rattle.route_rules.specs.Instance.{Instance}
use Rattle.everylist_rules.specs.Pairs.{is_pair}
use Rattle.everylist_rules.proofs.Pairs.{pair_parts}
use Rattle.net_prefer.specs.Measured.{Measured}
use Rattle.net_everylist.specs.Peeling.{key_at, no_key, WordBelow, pair_in, PairsIn, AllPairs, foreign_among}
use Rattle.net_everylist.proofs.Keys.{key-way, way-key}
use Rattle.net_everylist.proofs.Leading.{foreign-at}
use Rattle.net_everylist.proofs.Words.{is_in}

-- the network has the distances that it is read from
pub measured : (net : Network) (rows distances : List ℕ) → Measured (decoded net rows distances) net.width distances net.n
measured net rows distances = record { dist = refl; way = refl }

module _ (net : Network) (rows distances : List ℕ) (formed : WellFormed net rows distances) (w : ℕ) where
  abbrev I : Instance
  I = decoded net rows distances

  abbrev near : ℕ
  near = get_or rows w 0

  pub near-below : WordBelow (bit_and near net.reflectors) net.n
  near-below v h = formed.neighbours w v (omega (arith, bit-and near net.reflectors v))

  -- a pair's router is a reflector, so that no other neighbour is asked
  module _ (left : List ℕ) (pairs : PairsIn I left) where
    pub reflector-too : (v e : ℕ) → (is_in (bit_and near net.reflectors) v && pair_in left v e) ≡ (I.neighbour w v && pair_in left v e)
    reflector-too v e = go (pair_in left v e) refl
      where
        go : (b : Bool) → pair_in left v e ≡ b
            → (is_in (bit_and near net.reflectors) v && pair_in left v e) ≡ (I.neighbour w v && pair_in left v e)
        go true h =
            let r : I.reflector v ≡ true = (pair_parts I v e (pairs.pairs v e h).2).reflector in
            ap (λ b. b && pair_in left v e) (set-and near net.reflectors v ∙ ap (λ b. is_in near v && b) r ∙ and-true (is_in near v))
        go false h = rw h (and-false (is_in (bit_and near net.reflectors) v) ∙ sym (and-false (I.neighbour w v)))

    -- what w hears
    module _ (all heard : ℕ)
        (told : (e : ℕ) → is_in all e ≡ any_below (λ v. is_in (bit_and near net.reflectors) v && pair_in left v e) net.n)
        (less : (j : ℕ) → bit_n heard j ≡ min (bit_n all j) (1 - bit_n near j)) where
      pub heard-is : (e : ℕ) → is_in heard e ≡ foreign_among I (pair_in left) w e
      unfolding foreign_among
      heard-is e =
          set-less all near e heard (less e)
          ∙ ap (λ b. b && not (is_in near e)) (told e ∙ any-cong _ _ net.n (λ v l. reflector-too v e))

      pub heard-below : WordBelow heard net.n
      heard-below e h =
          let a = foreign-at I (pair_in left) w e (sym (heard-is e) ∙ eq-eqb _ 1 h) in
          (pairs.pairs a.0.at e (both_right (I.neighbour w a.0.at) _ a.0.holds)).1

  -- the clients of w, where it is a reflector without the step, and where not
  module _ (lone : ℕ) (is : (j : ℕ) → bit_n lone j ≡ min (bit_n net.reflectors j) (1 - bit_n net.hop j)) where
    alone : is_in lone w ≡ (I.reflector w && not (I.hop w))
    alone = set-less net.reflectors net.hop w lone (is w)

    pub own-none : is_in lone w ≡ false → (c : ℕ) → is_pair I w c ≡ false
    unfolding is_pair
    own-none h c = rw (sym alone ∙ h)

    module _ (clients : ℕ) (others : (j : ℕ) → bit_n clients j ≡ min (bit_n near j) (1 - bit_n net.reflectors j)) where
      pub clients-below : WordBelow clients net.n
      clients-below c h = formed.neighbours w c (omega (arith, others c))

      module _ (bytes : (i : ℕ) → get_or distances i 0 < 256) (has : is_in lone w ≡ true) (bound : ℕ) (last : bound ≡ no_key net.width - 1)
          (some : 64 ≤ no_key net.width) (c : ℕ) where
        way-bound : c < 64 → leb (key_at net.width distances net.n w c) bound ≡ I.way w c
        way-bound l = go (I.way w c) refl
          where
            go : (b : Bool) → I.way w c ≡ b → leb (key_at net.width distances net.n w c) bound ≡ I.way w c
            go true h =
                le-leb (key_at net.width distances net.n w c) bound (omega (arith, key-way (measured net rows distances) formed.pairs.bytes bytes w c l h)) ∙ sym h
            go false h =
                ⊎_elim (λ (a : key_at net.width distances net.n w c < no_key net.width).
                not-both (I.way w c) (way-key (measured net rows distances) formed.pairs.bytes bytes w c a) h)
                (λ (a : no_key net.width ≤ key_at net.width distances net.n w c). lt-leb (key_at net.width distances net.n w c) bound (omega arith) ∙ sym h)
                (lt-or-le (key_at net.width distances net.n w c) (no_key net.width))

        pub own_is : (is_in clients c && leb (key_at net.width distances net.n w c) bound) ≡ is_pair I w c
        unfolding is_pair
        own_is = go (I.neighbour w c) refl (I.reflector c) refl
          where
            split : is_in clients c ≡ (I.neighbour w c && not (I.reflector c))
            split = set-less near net.reflectors c clients (others c)

            go : (a : Bool) → I.neighbour w c ≡ a → (r : Bool) → I.reflector c ≡ r
                → (is_in clients c && leb (key_at net.width distances net.n w c) bound) ≡ is_pair I w c
            go true p false q =
                let l : c < net.n = formed.neighbours w c (eqb-true _ 1 p) in
                cc (split, p, q, sym alone ∙ has, way-bound (omega (arith, formed.count)))
            go true p true q = cc (split, p, q, sym alone ∙ has)
            go false p true q = cc (split, p, q, sym alone ∙ has)
            go false p false q = cc (split, p, q, sym alone ∙ has)
