use Prim.Native.Nat.{◌-◌, ◌≤◌}
use native.Mathlib.Omega.{arith}
use mathlib.Core.Path.{◌≡◌, refl, sym}
use mathlib.Core.Bool.{false}
use borrow.Author.Rules.{rules}
use Rattle.base.proofs.Numbers.{not-both}
use Rattle.plan_rules.specs.Sessions.{session_count}
use Rattle.plan_parents.specs.Counts.{Counted}
use Rattle.plan_sessions.specs.Walk.{Reached}
use Rattle.plan_sessions.proofs.Walking.{reached-start, reached-fail, reached-done}
use Rattle.plan_parents.proofs.Counts.{counted_start}
use Rattle.plan_sessions.proofs.walk_all.Statement.{statement}
use Rattle.plan_sessions.proofs.walk_all.Tie as tie

abbrev invariant-loop-j : tie.invariant-loop-j
invariant-loop-j routers s n counts₀ count v₀ j₀ counts v j = (v ≤ n) × Reached s n v j × Counted routers s n v j counts

abbrev decreases-loop-j : tie.decreases-loop-j
decreases-loop-j routers s n counts₀ count v₀ j₀ counts v j = n - v

returns : tie.Need-returns-then-n-v invariant-loop-j decreases-loop-j
returns c =
    let i = c.loop-j.invariant in
    record {
      row5 = sym (reached-fail _ _ _ _ i.1 c.loop-j-test.true c.if-n-v.true);
      below = i.0;
      reached = λ e. not-both false e refl;
      counted = λ e. not-both false e refl;
    }

returns-2 : tie.Need-returns invariant-loop-j decreases-loop-j
returns-2 c =
    let i = c.loop-j.invariant in
    let all = c.loop-j-test.false in
    let e : c.loop-j.j ≡ session_count c.args.s.now = omega (arith, i.1.upto) in
    record {
      row5 = sym (reached-done _ _ _ _ i.1 all);
      below = i.0;
      reached = λ yes. rw e at i.1;
      counted = λ yes. rw e at i.2;
    }

pub walk_all_spec : {M : Type 1} → statement M
walk_all_spec =
    tie.close
    (tie.spec
    invariant-loop-j
    decreases-loop-j
    (λ c. (omega arith, reached-start _ _, rw c.requires.2 (counted_start _ _ _)))
    returns
    (λ c κs.
    let p = c.requires in
    let i = c.loop-j.invariant in
    (c.if-n-v.false, p.0, p.1, i.1, i.2))
    (λ c. search rules)
    (λ c. search rules)
    (λ c. (omega arith, c.sessions_of-j.ensures.0, c.sessions_of-j.ensures.1))
    returns-2)
