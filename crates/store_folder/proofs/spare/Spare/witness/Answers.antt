use Rattle.std.proofs.Common.{◌∙◌, sym}
use Rattle.store_folder.proofs.Puts.{none_put, put_in, stands_each}
use Rattle.store_folder.proofs.spare.Spare.witness.Goals as goal

-- nothing is put
pub returns-then-not-self-clause-crash : goal.returns-then-not-self-clause-crash
returns-then-not-self-clause-crash g c clean = none_put c.args.note _

-- it was cut short
pub returns-in_err-put_witness-clause-crash : goal.returns-in_err-put_witness-clause-crash
returns-in_err-put_witness-clause-crash g c clean =
    let file = c.args.self.now.file in
    let left = c.put_witness.new.log in
    put_in c.args.note _ _ _ _ (g.met.D.Disk.seen_may_stay file.disk)
    (file.selected clean) (left.selected (c.put_witness.ensures.calm ∙ clean))
    (c.put_witness.ensures.crash clean (c.args.self.now.settled c.if-not-self.false clean))

pub returns-clause-crash : goal.returns-clause-crash
returns-clause-crash g c clean =
    let file = c.args.self.now.file in
    let left = c.put_witness.new.log in
    put_in c.args.note _ _ _ _ (g.met.D.Disk.seen_may_stay file.disk)
    (file.selected clean) (left.selected (c.put_witness.ensures.calm ∙ clean))
    (c.put_witness.ensures.crash clean (c.args.self.now.settled c.if-not-self.false clean))

pub returns-clause-ok : goal.returns-clause-ok
returns-clause-ok g c clean out left =
    let settled = c.args.self.now.settled c.if-not-self.false clean in
    stands_each c.args.note _ _ (c.in_ok-put_witness.ensures.durable clean settled)
    (c.in_ok-put_witness.ensures.ok clean settled) out left

-- all of it is on the disk
pub invariant_of-self-2 : goal.invariant_of-self-2
invariant_of-self-2 g c = record {
  settled = λ now clean.
      let was = sym c.put_witness.ensures.calm ∙ clean in
      c.in_ok-put_witness.ensures.durable was (c.args.self.now.settled c.if-not-self.false was);
}
