-- The parts are written one after the other.
use native.Mathlib.Omega.{arith}
use mathlib.Core.Path.{◌≡◌, ◌∙◌, ap, ap₂}
use borrow.Author.Rules.{rules}
use lib.Dec.{lit<}
use lib.ListN.{length}
use Rattle.plan_contents.specs.Header.{router_count}
use Rattle.plan_contents.specs.Contents.{contents_of}
use Rattle.plan_rules.specs.Passed.{Passed}
use Rattle.plan_rules.proofs.Passed.{passed}
use Rattle.plan_convert.specs.Result.{result_contents}
use Rattle.plan_convert.proofs.Result.{PartsLie, parts-lie, next-most, all-written}
use Rattle.plan_convert.proofs.convert.Statement.{statement}
use Rattle.plan_convert.proofs.convert.Tie as tie

-- after each write
abbrev start : tie.After-result_contents-table → tie.Start
start c = c.before.before.before

abbrev made : tie.After-write_front → tie.After-result_contents-table
made c = c.before.before

abbrev fronted : tie.After-copy_bytes → tie.After-write_front
fronted c = c.before.before.before.before.before.before.before

abbrev copied : tie.After-write_body → tie.After-copy_bytes
copied c = c.before.before.before.before

passes : (c : tie.Start) → Passed c.args.plan.now
passes c = passed _ c.requires.0.ok

table_is : (c : tie.After-result_contents-table) →
    let plan = (start c).args.plan.now in c.result_contents-table.result ≡ result_contents (start c).args.to (router_count plan) (contents_of plan)
table_is c = let q = (start c).requires.0 in c.result_contents-table.ensures ∙ ap₂ (result_contents (start c).args.to) q.routers q.contents

lie : (c : tie.After-result_contents-table) →
    let a = (start c).args in PartsLie a.to a.plan.now c.result_contents-table.result (length a.out.now)
lie c = let s = start c in parts-lie _ _ s.requires.1 (passes s) (table_is c) s.requires.2

-- the buffer is as long as it was
long₁ : (c : tie.After-write_front) → length c.write_front.new.out ≡ length (start (made c)).args.out.now
long₁ c = c.write_front.auto.out

long₂ : (c : tie.After-copy_bytes) → length c.copy_bytes.new.out ≡ length (start (made (fronted c))).args.out.now
long₂ c = c.copy_bytes.auto.out ∙ long₁ (fronted c)

long₃ : (c : tie.After-write_body) → length c.write_body.new.out ≡ length (start (made (fronted (copied c)))).args.out.now
long₃ c = c.write_body.auto.out ∙ long₂ (copied c)

pub convert_spec : {M : Type 1} → statement M
convert_spec =
    tie.close
    (tie.spec
    (λ c κs. let s = c.before.before in next-most _ _ s.requires.1 (passes s) s.requires.0.contents s.requires.0.routers)
    (λ c κs. (lie c.before).front)
    (λ c. search rules)
    (λ c. search rules)
    (λ c. (lie (made c.before.before.before.before.before)).least)
    (λ c. (lie (made c.before.before.before.before.before)).least)
    (λ c. (lie (made c.before.before.before.before.before)).most)
    (λ c κs. let w = c.before.before.before.before.before.before in omega (arith, (lie (made w)).copied, long₁ w))
    (λ c κs.
    let w = c.before.before.before in
    let s = start (made (fronted w)) in
    (s.requires.0, s.requires.1, omega (arith, lie (made (fronted w)), long₂ w)))
    (λ c κs. ((start (made (fronted (copied c.before.before)))).requires.0, lit< tt))
    (λ c. search rules)
    (λ c. search rules)
    (λ c κs.
    let part = c.part-lists in
    let w = c.before.before.before.before.before.before in
    omega (arith, (lie (made (fronted (copied w)))).lists, ap length part.ensures.bytes, long₃ w))
    (λ c. search rules)
    (λ c.
    let q = c in
    let part = q.part-lists in
    let w = q.before.before.before.before.before.before.before in
    let b = copied w.before.before in
    let f = fronted b in
    let s = start (made f) in
    all-written _ _ s.requires.1 (passes s) (table_is (made f)) s.requires.0.routers _ s.requires.2 f.write_front.ensures
    b.copy_bytes.ensures w.write_body.ensures part.ensures.bytes q.copy_bytes-2.ensures))
