use Rattle.std.proofs.Common.{ap, sym, subst, List, ℕ, drop, inl, inr}
use Rattle.journal.specs.Head.{believed, IsHeaded}
use Rattle.journal.proofs.Behind.{behind_only}
use Rattle.store_folder.proofs.OpeningTells.{left_reads, opened_reads, still_told, fewer_told, groups_moved, holds_read, finds_so, opens_whole}
use Rattle.store_folder.proofs.opening.counting.open_counting.Goals as goal

pub recover_file-requires : goal.recover_file-requires
recover_file-requires g c = record {
  headed = λ clean. subst (λ (file : List ℕ). IsHeaded file c.in-Ok.looked.steps)
      (sym c.look_at_both.ensures.seen.0) (c.in-Ok.ensures.headed clean);
  bound = c.in-Ok.ensures.bound;
  only = c.in-Ok.ensures.durable.0;
}

-- ---- both files were only looked at

pub returns-in-Err-clause-refuses : goal.returns-in-Err-clause-refuses
returns-in-Err-clause-refuses g c one two paged lines finds = c.in-Err.ensures.refuses one paged

pub returns-in-Err-clause-crash : goal.returns-in-Err-clause-crash
returns-in-Err-clause-crash g c one two lines finds told may =
    inl (fewer_told c.args.is_second _ _ _ _ c.look_at_both.ensures.crash told may)

-- ---- the file that counts wasn't recovered

pub returns-in-Err-recover_file-clause-refuses : goal.returns-in-Err-recover_file-clause-refuses
returns-in-Err-recover_file-clause-refuses g c one two paged lines finds =
    let notes = c.in-Ok.ensures.notes two in
    (rw c.look_at_both.ensures.seen.0 at (c.in-Err-recover_file.ensures.refuses one))
    (believed (g.D.Disk.seen c.args.spare)) lines notes.0 notes.1 finds

pub returns-in-Err-recover_file-clause-crash : goal.returns-in-Err-recover_file-clause-crash
returns-in-Err-recover_file-clause-crash g c one two lines finds told may =
    let clean = c.look_at_both.ensures.clean in
    let left = rw c.look_at_both.ensures.seen.0 at (c.in-Err-recover_file.ensures.unread one) in
    inr (still_told c.args.is_second (g.D.Disk.seen c.args.counts) (g.D.Disk.seen c.args.spare) _ _
    (c.requires.chosen (clean.0 left.0) (clean.1 two))
    (λ a here. left_reads (g.D.Disk.seen c.args.counts) a (left.1 a here))
    (rw c.look_at_both.ensures.seen.1 at c.in-Ok.ensures.durable.1) lines finds told may)

pub returns-in-Err-recover_file-clause-clean : goal.returns-in-Err-recover_file-clause-clean
returns-in-Err-recover_file-clause-clean g c one two = (
  c.look_at_both.ensures.clean.0 (c.in-Err-recover_file.ensures.unread one).0,
  c.look_at_both.ensures.clean.1 two,
)

-- ---- its head wasn't read again

pub returns-in-Err-open-clause-crash : goal.returns-in-Err-open-clause-crash
returns-in-Err-open-clause-crash g c one two lines finds told may =
    let clean = c.look_at_both.ensures.clean in
    let after = c.in-Err-open.ensures.still one in
    let left = rw c.look_at_both.ensures.seen.0 at
    (c.in-Ok-recover_file.ensures.left after) in
    let each = (c.in-Err-open.ensures.refused one).crash in
    inr (still_told c.args.is_second (g.D.Disk.seen c.args.counts) (g.D.Disk.seen c.args.spare) _ _
    (c.requires.chosen (clean.0 left.0) (clean.1 two))
    (opened_reads (g.D.Disk.seen c.args.counts) _ _ _ left.1
    (g.met.D.Disk.seen_may_stay c.in-Ok-recover_file.now.disk) each)
    (rw c.look_at_both.ensures.seen.1 at c.in-Ok.ensures.durable.1) lines finds told
    may)

pub returns-in-Err-open-clause-clean : goal.returns-in-Err-open-clause-clean
returns-in-Err-open-clause-clean g c one two = (
  c.look_at_both.ensures.clean.0
      (c.in-Ok-recover_file.ensures.left (c.in-Err-open.ensures.still one)).0,
  c.look_at_both.ensures.clean.1 two,
)

-- ---- the folder is open

pub returns-clause-rests : goal.returns-clause-rests
returns-clause-rests g c = c.in-Ok-open.ensures.rests

pub returns-clause-ok : goal.returns-clause-ok
returns-clause-ok g c one two =
    let clean = c.look_at_both.ensures.clean in
    let after = c.in-Ok-open.ensures.clean one in
    let left = rw c.look_at_both.ensures.seen.0 at
    (c.in-Ok-recover_file.ensures.left after) in
    let opens = rw c.look_at_both.ensures.seen.0 at
    (c.in-Ok-recover_file.ensures.card after) in
    let head = c.in-Ok-open.ensures.opened one in
    let notes = c.in-Ok.ensures.notes two in
    let file = c.in-Ok-open.file in (
      (clean.0 left.0, clean.1 two),
      (
        λ whole. finds_so (g.D.Disk.seen c.args.counts) (believed (g.D.Disk.seen c.args.spare))
            c.in-Ok.looked.other c.in-Ok-recover_file.now.card
            (opens_whole c.args.takes_less (g.D.Disk.seen c.args.counts) c.in-Ok.looked.other
            c.in-Ok-recover_file.now.card whole opens)
            notes.0 notes.1,
        λ lines finds.
            holds_read c.args.is_second (g.D.Disk.seen c.args.counts)
            (g.D.Disk.seen c.args.spare) (g.D.Disk.seen file.disk) _ _
            (c.requires.chosen (clean.0 left.0) (clean.1 two))
            (opened_reads (g.D.Disk.seen c.args.counts) _ _ _ left.1
            (g.met.D.Disk.seen_may_stay c.in-Ok-recover_file.now.disk) head.crash)
            (rw c.look_at_both.ensures.seen.1 at c.in-Ok.ensures.durable.1) lines finds
            c.in-Ok-recover_file.now.card opens.has.is opens.has.stands _ _ _ _
            c.first_sum-first.ensures one
            (groups_moved _ _ _ _ _ _ _ _ (ap (λ (t : List ℕ). drop 4096 t) head.same.text)
            (rw c.look_at_both.ensures.seen.0 at (c.in-Ok-recover_file.ensures.groups after))
            (behind_only 4096 (believed (g.D.Disk.seen file.disk)) _ c.in-Ok-open.ensures.rests)),
      ),
    )
