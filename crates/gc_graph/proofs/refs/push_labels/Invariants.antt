use Rattle.std.proofs.Common.{◌≡◌, ◌++◌, take}
use Rattle.meta_types.specs.Text.{texts_of}
use Rattle.gc_graph.specs.Targets.{label_targets}
use Rattle.gc_graph.specs.Built.{numbers_in}
use Rattle.gc_graph.proofs.refs.push_labels.Given as goal

-- the numbers of the labels so far are there
abbrev pub invariant-loop-entry : goal.invariant-loop-entry
invariant-loop-entry l = l.numbers.items ≡ l.fn.numbers.items ++ numbers_in l.lookup.book.now (label_targets l.lookup.ns.now (texts_of (take l.entry-index l.entries)))
