use Rattle.crossbeam_deque.specs.Handles.{worker_view}
use Rattle.steal_mark.proofs.Dealt.{no_more}
use Rattle.steal_mark.proofs.finish.drain.count.Goals as goal

-- a look at the length keeps the rule
pub len_as-requires : goal.len_as-requires
len_as-requires c = no_more _ (worker_view c.args.deque.now)

-- who has every part learns that no node was taken more often than it was pushed
pub returns-clause-less : goal.returns-clause-less
returns-clause-less c = c.len_as.ensures.rule.2 c.requires.whole
