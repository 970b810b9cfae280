use Rattle.std.proofs.Common.{All, subst}
use Rattle.steal_mark.specs.Team.{IsReady}
use Rattle.steal_mark.proofs.AfterThreads.{all_but_last, the_last}
use Rattle.steal_mark.proofs.threads.start.run.Goals as goal

pub run_beside-requires-clause-ready : goal.run_beside-requires-clause-ready
run_beside-requires-clause-ready g c κs within =
    let ready = IsReady c.args.graph.now in
    let all = subst (All ready) c.in-Some.ensures.items c.requires.ready in
    all_but_last ready c.pop.new.self.items c.in-Some.own all

pub run_beside-requires-clause-own : goal.run_beside-requires-clause-own
run_beside-requires-clause-own g c κs within =
    let ready = IsReady c.args.graph.now in
    let all = subst (All ready) c.in-Some.ensures.items c.requires.ready in
    the_last ready c.pop.new.self.items c.in-Some.own all
