use Rattle.std.proofs.Common.{List, ℕ}
use Rattle.std.proofs.lemmas.Bool.{and_left, and_right}
use Rattle.meta_types.specs.Text.{is_short_name, is_name}
use Rattle.meta_types.specs.declared.resource.Mode.TheVariants.{Full}
use Rattle.meta_types.specs.declared.resource.Resource.TheVariants.{Snapshot}
use Rattle.gc_graph.specs.Targets.{node}
use Rattle.gc_graph.proofs.BookNumbers.{nothing_more, refused_unless}
use Rattle.gc_graph.proofs.refs.push_read_snapshot.Goals as goal

pub returns-in-Err-InvalidArgument-read-clause-ok : goal.returns-in-Err-InvalidArgument-read-clause-ok
returns-in-Err-InvalidArgument-read-clause-ok c =
    nothing_more c.args.lookup.now.book.now (node c.args.lookup.now.ns.now (Snapshot c.args.snapshotter.now c.args.name.now) Full) c.args.numbers.now.items c.learn_allowed.ensures
    (and_right (is_short_name c.args.snapshotter.now) (is_name c.args.name.now) (refused_unless (List ℕ) (is_name c.args.name.now) c.in-Err-InvalidArgument-read.field-0 c.in-Err-InvalidArgument-read.field-0-is c.in-Err-InvalidArgument-read.ensures.fault))

pub returns-in-Err-InvalidArgument-clause-ok : goal.returns-in-Err-InvalidArgument-clause-ok
returns-in-Err-InvalidArgument-clause-ok c =
    nothing_more c.args.lookup.now.book.now (node c.args.lookup.now.ns.now (Snapshot c.args.snapshotter.now c.args.name.now) Full) c.args.numbers.now.items c.learn_allowed-in-Err-InvalidArgument.ensures
    (and_left (is_short_name c.args.snapshotter.now) (is_name c.args.name.now) (refused_unless (List ℕ) (is_short_name c.args.snapshotter.now) c.in-Err-InvalidArgument.field-0 c.in-Err-InvalidArgument.field-0-is c.in-Err-InvalidArgument.ensures.fault))
