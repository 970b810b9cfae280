use Rattle.std.proofs.Common.{arith}
use Rattle.std.proofs.lemmas.Bool.Decides.{nat_tests}
use Rattle.journal.specs.Reads.{ReadSo}
use Rattle.journal.proofs.FirstGroup.{some_read, none_read}
use Rattle.journal.proofs.reader.Reader.has_group.Goals as goal

pub returns-clause-some : goal.returns-clause-some
returns-clause-some c is first text rest r none =
    let read : ReadSo first text c.args.self.now.last c.args.self.now.end c.args.self.now.sum
    c.args.self.now.once c.args.self.now.is_over
    c.args.self.now.at c.args.self.now.head.items c.args.self.now.is_torn c.args.self.now.hasher =
    r in
    some_read first text _ _ _ _ _ _ _ _ _ (grind (arith, nat_tests, is)) read rest none

pub returns-clause-none : goal.returns-clause-none
returns-clause-none c is first text r =
    let read : ReadSo first text c.args.self.now.last c.args.self.now.end c.args.self.now.sum
    c.args.self.now.once c.args.self.now.is_over
    c.args.self.now.at c.args.self.now.head.items c.args.self.now.is_torn c.args.self.now.hasher =
    r in
    none_read first text _ _ _ _ _ _ _ _ _ (grind (arith, nat_tests, is)) read
