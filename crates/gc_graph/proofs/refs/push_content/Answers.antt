use Rattle.std.proofs.Common.{List, ℕ}
use Rattle.meta_types.specs.Text.{is_digest}
use Rattle.meta_types.specs.declared.resource.Mode.TheVariants.{Full}
use Rattle.meta_types.specs.declared.resource.Resource.TheVariants.{Content}
use Rattle.gc_graph.specs.Targets.{node}
use Rattle.gc_graph.proofs.BookNumbers.{nothing_more, refused_unless}
use Rattle.gc_graph.proofs.refs.push_content.Goals as goal

pub returns-in-Err-InvalidArgument-clause-ok : goal.returns-in-Err-InvalidArgument-clause-ok
returns-in-Err-InvalidArgument-clause-ok c =
    nothing_more c.args.lookup.now.book.now (node c.args.lookup.now.ns.now (Content c.args.digest.now) Full) c.args.numbers.now.items c.learn_allowed.ensures
    (refused_unless (List ℕ) (is_digest c.args.digest.now) c.in-Err-InvalidArgument.field-0 c.in-Err-InvalidArgument.field-0-is c.in-Err-InvalidArgument.ensures.fault)
