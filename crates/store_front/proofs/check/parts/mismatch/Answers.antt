use Rattle.std.proofs.Common.{◌≡◌, ◌≢◌, take, true, arith, sym, ◌∙◌, ap, rules}
use Rattle.std.specs.Prelude.{slice_get, Some, ◌==◌}
use Rattle.std.proofs.lemmas.List.{take_all}
use Rattle.store_front.specs.Parts.{part, session_entry_of}
use Rattle.store_front.proofs.SessionParts.{differs, ends, goes_on}
use Rattle.store_front.proofs.check.parts.mismatch.Goals as goal

pub returns-else-next-list : goal.returns-else-next-list
returns-else-next-list c =
    let all : take c.loop-entry.entry-index c.args.log.now ≡ c.args.log.now = search (rules, take_all) in
    ends (part c.args.number c.args.log.now) c.args.list.now c.loop-entry.next (sym (ap (part c.args.number) all) ∙ c.loop-entry.invariant.so_far) (omega arith)

pub returns-then-not-stands_at : goal.returns-then-not-stands_at
returns-then-not-stands_at c =
    let e = c.entry-item.result in
    let same : (e.session == c.args.number) ≡ true = search rules in
    let other : slice_get c.args.list.now c.loop-entry.next ≢ Some (session_entry_of e) = search rules in
    differs c.args.number c.args.log.now c.args.list.now c.loop-entry.entry-index c.loop-entry.next e c.loop-entry-test.true (sym c.entry-item.is) same c.loop-entry.invariant.so_far c.loop-entry.invariant.within other

pub loop-entry-preserved : goal.loop-entry-preserved
loop-entry-preserved c =
    let e = c.entry-item.result in
    let same : (e.session == c.args.number) ≡ true = search rules in
    let at : slice_get c.args.list.now c.loop-entry.next ≡ Some (session_entry_of e) = search rules in
    let k = goes_on c.args.number c.args.log.now c.args.list.now c.loop-entry.entry-index c.loop-entry.next e c.loop-entry-test.true (sym c.entry-item.is) same c.loop-entry.invariant.so_far at in
    record { so_far = k.0; within = k.1 }
