use Rattle.std.proofs.Common.{Option, subst}
use Rattle.meta_types.specs.declared.shown_row.ShownRow.{ShownRow}
use Rattle.request_core.specs.Foreseen.{TellsThere}
use Rattle.request_core.proofs.HoldsThere.{found_shown, made_shown}
use Rattle.request_core.proofs.state.State.show_or_there.Goals as goal

-- the row is there
pub returns-in-Some-clause-ok : goal.returns-in-Some-clause-ok
returns-in-Some-clause-ok g c =
    let state = c.args.self.now.state in
    let request = c.args.request.now in
    found_shown state request c.args.there.now c.in-Some.row
    (subst (λ (f : Option ShownRow). TellsThere state request f) c.in-Some.is
    c.in_ok-found.ensures.ok)

-- it is made
pub returns-in_ok-made-in-None-clause-ok : goal.returns-in_ok-made-in-None-clause-ok
returns-in_ok-made-in-None-clause-ok g c =
    let state = c.args.self.now.state in
    let request = c.args.request.now in
    made_shown state request c.args.there.now c.in_ok-made-in-None.made
    (subst (λ (f : Option ShownRow). TellsThere state request f) c.in-None.is
    c.in_ok-found.ensures.ok) c.in_ok-made-in-None.ensures.ok
