use Rattle.std.proofs.Common.{◌∙◌, sym}
use Rattle.store_folder.proofs.Lengthening.{none_longer, longer_in}
use Rattle.store_folder.proofs.spare.Spare.lengthen.Goals as goal

-- it doesn't grow
pub returns-then-not-self-clause-crash : goal.returns-then-not-self-clause-crash
returns-then-not-self-clause-crash g c clean = none_longer _

-- it was cut short
pub returns-in_err-size-clause-crash : goal.returns-in_err-size-clause-crash
returns-in_err-size-clause-crash g c clean =
    let file = c.args.self.now.file in
    let left = c.grow_to.new.log in
    longer_in _ _ _ _ (g.met.D.Disk.seen_may_stay file.disk) (file.selected clean)
    (left.selected (c.grow_to.ensures.calm ∙ clean))
    (c.grow_to.ensures.crash clean (c.args.self.now.settled c.if-not-self.false clean))

pub returns-clause-crash : goal.returns-clause-crash
returns-clause-crash g c clean =
    let file = c.args.self.now.file in
    let left = c.grow_to.new.log in
    longer_in _ _ _ _ (g.met.D.Disk.seen_may_stay file.disk) (file.selected clean)
    (left.selected (c.grow_to.ensures.calm ∙ clean))
    (c.grow_to.ensures.crash clean (c.args.self.now.settled c.if-not-self.false clean))

-- all of it is on the disk
pub invariant_of-self-2 : goal.invariant_of-self-2
invariant_of-self-2 g c = record {
  settled = λ now clean.
      let was = sym c.grow_to.ensures.calm ∙ clean in
      c.in_ok-size.ensures.durable was (c.args.self.now.settled c.if-not-self.false was);
}
