use Rattle.std.proofs.Common.{◌∙◌, sym}
use Rattle.store_folder.proofs.Blanked.{none_blanked, blank_in}
use Rattle.store_folder.proofs.spare.Spare.blank.Goals as goal

-- nothing is put
pub returns-then-not-self-clause-crash : goal.returns-then-not-self-clause-crash
returns-then-not-self-clause-crash g c clean = none_blanked c.args.witness _

-- it was cut short
pub returns-in_err-blank_file-clause-crash : goal.returns-in_err-blank_file-clause-crash
returns-in_err-blank_file-clause-crash g c clean =
    let file = c.args.self.now.file in
    let left = c.blank_file.new.log in
    blank_in c.args.witness _ _ _ _ (g.met.D.Disk.seen_may_stay file.disk)
    (file.selected clean) (left.selected (c.blank_file.ensures.calm ∙ clean))
    (c.blank_file.ensures.crash clean (c.args.self.now.settled c.if-not-self.false clean))

pub returns-clause-crash : goal.returns-clause-crash
returns-clause-crash g c clean =
    let file = c.args.self.now.file in
    let left = c.blank_file.new.log in
    blank_in c.args.witness _ _ _ _ (g.met.D.Disk.seen_may_stay file.disk)
    (file.selected clean) (left.selected (c.blank_file.ensures.calm ∙ clean))
    (c.blank_file.ensures.crash clean (c.args.self.now.settled c.if-not-self.false clean))

pub returns-clause-zeros : goal.returns-clause-zeros
returns-clause-zeros g c clean =
    c.in_ok-blank_file.ensures.zeros clean (c.args.self.now.settled c.if-not-self.false clean)

-- all of it is on the disk
pub invariant_of-self-2 : goal.invariant_of-self-2
invariant_of-self-2 g c = record {
  settled = λ now clean.
      let was = sym c.blank_file.ensures.calm ∙ clean in
      c.in_ok-blank_file.ensures.durable was (c.args.self.now.settled c.if-not-self.false was);
}

pub returns-clause-durable : goal.returns-clause-durable
returns-clause-durable g c clean =
    c.in_ok-blank_file.ensures.durable clean (c.args.self.now.settled c.if-not-self.false clean)
