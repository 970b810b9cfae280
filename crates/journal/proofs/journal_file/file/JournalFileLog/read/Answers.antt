use Rattle.std.proofs.Common.{sym, subst, List, ℕ}
use Rattle.journal.specs.Head.{IsHeaded}
use Rattle.journal.proofs.Texts.{read_text, still_rests, fewer_texts}
use Rattle.journal.proofs.journal_file.file.JournalFileLog.read.Goals as goal

pub returns-in_err-read_block-clause-rests : goal.returns-in_err-read_block-clause-rests
returns-in_err-read_block-clause-rests g c only =
    still_rests _ _ _ _ c.read_block.ensures.seen c.read_block.ensures.crash only

pub returns-in_err-read_block-clause-crash : goal.returns-in_err-read_block-clause-crash
returns-in_err-read_block-clause-crash g c out left =
    fewer_texts _ _ c.read_block.ensures.crash out left

pub returns-in_err-read_block-clause-clean : goal.returns-in_err-read_block-clause-clean
returns-in_err-read_block-clause-clean g c both =
    let it = c.args.self.now in
    c.read_block.ensures.clean both

pub returns-clause-rests : goal.returns-clause-rests
returns-clause-rests g c only =
    still_rests _ _ _ _ c.read_block.ensures.seen c.read_block.ensures.crash only

pub returns-clause-crash : goal.returns-clause-crash
returns-clause-crash g c out left = fewer_texts _ _ c.read_block.ensures.crash out left

pub returns-clause-clean : goal.returns-clause-clean
returns-clause-clean g c both =
    let it = c.args.self.now in
    c.read_block.ensures.clean both

pub returns-clause-bytes : goal.returns-clause-bytes
returns-clause-bytes g c both =
    let it = c.args.self.now in
    let clean = both in
    let is_open = c.if-not-self.false in
    read_text _ it.steps it.size (it.headed is_open (c.read_block.ensures.clean clean))
    (it.sized is_open).0 c.args.at c.args.count c.in_ok-place.place _ c.if-count-self.false
    c.if-at-self.false c.in_ok-place.ensures.ok (c.in_ok-read_block.ensures.bytes clean)

pub invariant_of-self : goal.invariant_of-self
invariant_of-self g c =
    let it = c.args.self.now in
    record {
      headed = λ now still. subst (λ (t : List ℕ). IsHeaded t it.steps)
          (sym c.read_block.ensures.seen) (it.headed now (c.read_block.ensures.clean still));
      sized = it.sized;
      selected = λ still out left. it.selected (c.read_block.ensures.clean still) out
          (c.read_block.ensures.crash out left);
    }
