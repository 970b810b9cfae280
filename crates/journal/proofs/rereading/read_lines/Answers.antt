use Rattle.std.proofs.Common.{refl, subst, ℕ, List, take, drop, arith}
use Rattle.journal.specs.Reads.{IsCut}
use Rattle.journal.proofs.LastFeeds.{some_read, none_read}
use Rattle.journal.proofs.rereading.read_lines.Goals as goal

-- a part of what is left
pub returns-then-cut-gt0-clause-lines : goal.returns-then-cut-gt0-clause-lines
returns-then-cut-gt0-clause-lines g c clean order =
    let i = c.trying.invariant in
    let cut = subst (λ (t : List ℕ). IsCut
    (take c.trying.count (drop c.args.at t)) c.read_some.new.block.items c.in_ok-cut.cut) i.same
    (c.in_ok-cut.ensures.cut clean) in
    rw c.in_ok-next.ensures.ok
    (some_read (g.D.Log.text c.args.log.now) _ _ c.args.at c.args.end c.trying.count
    c.in_ok-cut.cut c.saturating_sub-left.result
    c.saturating_sub-left.ensures order i.within refl cut)

-- all of it
pub returns-then-cut-gt0-2-clause-lines : goal.returns-then-cut-gt0-2-clause-lines
returns-then-cut-gt0-2-clause-lines g c clean order =
    let i = c.trying.invariant in
    let left = c.saturating_sub-left.result in
    let cut = subst (λ (t : List ℕ). IsCut
    (take left (drop c.args.at t)) c.read_some-2.new.block.items c.in_ok-cut-2.cut) i.same
    (c.in_ok-cut-2.ensures.cut clean) in
    rw c.in_ok-next-2.ensures.ok
    (some_read (g.D.Log.text c.args.log.now) _ _ c.args.at c.args.end left c.in_ok-cut-2.cut
    left
    c.saturating_sub-left.ensures order (omega arith) refl cut)

-- no line ends in it
pub returns-clause-lines : goal.returns-clause-lines
returns-clause-lines g c clean order =
    let i = c.trying.invariant in
    let left = c.saturating_sub-left.result in
    let cut = subst (λ (t : List ℕ). IsCut
    (take left (drop c.args.at t)) c.read_some-2.new.block.items c.in_ok-cut-2.cut) i.same
    (c.in_ok-cut-2.ensures.cut clean) in
    none_read (g.D.Log.text c.args.log.now) _ _ c.args.at c.args.end c.in_ok-cut-2.cut left
    c.saturating_sub-left.ensures refl cut (omega (arith, c.if-cut-gt0-2.false))
