-- `plan_sessions::sessions_of`: a session that goes on is one more of v's, and one that does not is of a later router.
use Rattle.std.proofs.Common.{arith, ◌≡◌, ◌+◌, ◌<◌, sym, true}
use Rattle.base.proofs.Numbers.{facts, granted, denied}
use Rattle.plan_rules.specs.Sessions.{session_first, session_second}
use Rattle.plan_parents.proofs.OneMore.{counted-le}
use Rattle.plan_parents.proofs.Counts.{counted_next, counted-visit}
use Rattle.plan_sessions.specs.Walk.{goes_on}
use Rattle.plan_sessions.proofs.Walking.{among-start, among-held, among-more, among-stop}
use Rattle.plan_sessions.proofs.sessions_of.Goals as goal

pub loop-j-init : goal.loop-j-init
loop-j-init c =
    let p = c.requires in (
      among-start _ _ _ _ p.3,
      rw c.forget.ensures (counted-visit _ _ _ _ _ _ p.4 _ p.0 p.1 c.is_reflector-reflector.ensures),
    )

pub returns-then-not-goes_on : goal.returns-then-not-goes_on
returns-then-not-goes_on c = (
  among-stop _ _ _ _ _ c.loop-j.invariant.0 (denied _ c.goes_on.ensures c.if-not-goes_on.true),
  c.loop-j.invariant.1,
)

pub note-requires : goal.note-requires
note-requires c =
    let a = c.args in
    let s = a.s.now in
    let j = c.loop-j.j in
    let going : goes_on s a.n a.v c.loop-j.last j ≡ true = granted _ c.goes_on.ensures c.if-not-goes_on.false in
    let q : ((session_first s j ≡ a.v) × (c.loop-j.last < session_second s j)) × (session_second s j < a.n) = simp facts at going in (
      omega arith,
      omega (arith, c.wide-last.ensures),
      omega (arith, c.wide-last.ensures),
      λ u l. omega (arith, c.loop-j.invariant.1.is u l, counted-le a.routers.now s a.n (a.v + 1) j u),
    )

pub loop-j-preserved : goal.loop-j-preserved
loop-j-preserved c =
    let a = c.args in
    let s = a.s.now in
    let j = c.loop-j.j in
    let i = c.loop-j.invariant in
    let w = c.wide-last.ensures.0 in
    let going : goes_on s a.n a.v c.loop-j.last j ≡ true = granted _ c.goes_on.ensures c.if-not-goes_on.false in
    let q : ((session_first s j ≡ a.v) × (c.loop-j.last < session_second s j)) × (session_second s j < a.n) = simp facts at going in (
      rw w (among-more s a.n a.v _ j c.loop-j-test.true i.0 going),
      rw c.note.ensures
          (counted_next a.routers.now s a.n j a.v _ _ _ c.requires.1
          (among-held s a.n a.v _ j i.0 going) q.0.0 (sym w) c.is_reflector-reflector.ensures i.1),
    )
