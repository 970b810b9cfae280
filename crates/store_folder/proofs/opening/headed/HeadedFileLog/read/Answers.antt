use Rattle.std.proofs.Common.{sym, subst, List, ℕ}
use Rattle.journal.specs.Head.{IsHeaded}
use Rattle.store_folder.proofs.OpeningHeads.{read_text, still_rests, fewer_texts}
use Rattle.store_folder.proofs.opening.headed.HeadedFileLog.read.Goals as goal

pub returns-in_err-read_bytes-clause-rests : goal.returns-in_err-read_bytes-clause-rests
returns-in_err-read_bytes-clause-rests g c only =
    still_rests _ _ _ _ c.read_bytes.ensures.seen c.read_bytes.ensures.crash only

pub returns-in_err-read_bytes-clause-crash : goal.returns-in_err-read_bytes-clause-crash
returns-in_err-read_bytes-clause-crash g c out left =
    fewer_texts _ _ c.read_bytes.ensures.crash out left

pub returns-clause-rests : goal.returns-clause-rests
returns-clause-rests g c only =
    still_rests _ _ _ _ c.read_bytes.ensures.seen c.read_bytes.ensures.crash only

pub returns-clause-crash : goal.returns-clause-crash
returns-clause-crash g c out left = fewer_texts _ _ c.read_bytes.ensures.crash out left

pub returns-clause-bytes : goal.returns-clause-bytes
returns-clause-bytes g c clean =
    let it = c.args.self.now in
    let is_open = c.if-not-self.false in
    read_text _ it.steps it.size (it.headed is_open (c.read_bytes.ensures.clean clean)) it.sized.0
    c.args.at c.args.count c.in_ok-place.place _ c.if-count-self.false c.if-at-self.false
    c.in_ok-place.ensures.ok (c.in_ok-read_bytes.ensures.bytes clean)

-- a read changes nothing
pub invariant_of-self : goal.invariant_of-self
invariant_of-self g c =
    let it = c.args.self.now in
    record {
      sized = it.sized;
      headed = λ now still. subst (λ (t : List ℕ). IsHeaded t it.steps)
          (sym c.read_bytes.ensures.seen) (it.headed now (c.read_bytes.ensures.clean still));
      fronts = λ still file left. it.fronts (c.read_bytes.ensures.clean still) file
          (c.read_bytes.ensures.crash file left);
    }
