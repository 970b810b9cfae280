use Rattle.gc_graph.proofs.book.NodeBook.new.Goals as goal

pub invariant_of-result : goal.invariant_of-result
invariant_of-result c = record { small = c.requires.small; lent = c.requires.lent; allowed = c.tell_rows.ensures }
