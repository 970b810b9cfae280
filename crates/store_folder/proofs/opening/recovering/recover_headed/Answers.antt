use Rattle.std.proofs.Common.{◌∙◌, ap, sym, refl, drop}
use Rattle.journal.specs.Head.{believed}
use Rattle.store_folder.proofs.OpeningHeads.{rests_from}
use Rattle.store_folder.proofs.OpeningRecovers.{unread_left, recovered_left, opens_so, finds_calm, finds_kept}
use Rattle.store_folder.proofs.opening.recovering.recover_headed.Goals as goal

-- ---- the card doesn't fit

pub returns-in-Err-clause-refuses : goal.returns-in-Err-clause-refuses
returns-in-Err-clause-refuses g c clean =
    rw c.new-file.ensures.same at
    (c.in-Err.ensures.refuses (rw c.into_disk-unread.ensures.same at clean))

pub returns-in-Err-clause-unread : goal.returns-in-Err-clause-unread
returns-in-Err-clause-unread g c clean = (
  rw c.new-file.ensures.same at
      (c.find_card.ensures.clean (rw c.into_disk-unread.ensures.same at clean)),
  λ file left.
      let before = c.find_card.ensures.crash (believed file)
      (file, rw c.into_disk-unread.ensures.same at left, refl) in
      unread_left (g.D.Disk.seen c.args.disk) file
      (c.into_disk-unread.ensures.head clean file left ∙ sym c.requires.head)
      (before.2 ∙ ap believed (c.requires.only before.0
      (rw c.new-file.ensures.same at before.1))),
)

-- ---- the text lacks something, or can't be written

pub returns-in-Err-recover_text-clause-refuses : goal.returns-in-Err-recover_text-clause-refuses
returns-in-Err-recover_text-clause-refuses g c clean standby lines cards witnesses finds =
    let file = g.D.Disk.seen c.args.disk in
    let after = rw c.disk_of-unsound.ensures.same at clean in
    let read = rw c.new-text.ensures.same at (c.recover_text.ensures.clean after) in
    let has = rw c.new-file.ensures.same at (c.in-Ok.ensures.card read) in
    let refuses = rw (c.new-text.ensures.same, c.find_card.ensures.same, c.new-file.ensures.same) at
    (c.in-Err-recover_text.ensures.refuses after) in
    refuses (finds_calm file standby lines finds c.in-Ok.own.card has.is has.stands)
    (finds_kept file standby lines finds c.in-Ok.own.card has.is has.stands c.in-Ok.own.witness
    c.args.other.witness has.witness witnesses)

pub returns-in-Err-recover_text-clause-unread : goal.returns-in-Err-recover_text-clause-unread
returns-in-Err-recover_text-clause-unread g c clean =
    let file = g.D.Disk.seen c.args.disk in
    let after = rw c.disk_of-unsound.ensures.same at clean in
    let read = rw c.new-text.ensures.same at (c.recover_text.ensures.clean after) in
    let has = rw c.new-file.ensures.same at (c.in-Ok.ensures.card read) in (
      rw c.new-file.ensures.same at (c.find_card.ensures.clean read),
      λ out left.
          let fronts = c.disk_of-unsound.ensures.fronts clean out left in
          recovered_left file out c.in-Ok.own.card has.is has.stands
          (fronts.0 ∙ sym c.requires.head) (fronts.1 ∙ sym c.requires.page)
          (rw (c.new-text.ensures.same, c.find_card.ensures.same, c.new-file.ensures.same) at
          (c.recover_text.ensures.crash after (drop 4096 (believed out))
          (believed out, (out, rw c.disk_of-unsound.ensures.same at left, refl), refl))),
    )

-- ---- it is recovered

pub returns-clause-left : goal.returns-clause-left
returns-clause-left g c clean =
    let file = g.D.Disk.seen c.args.disk in
    let after = rw c.disk_of-recovered.ensures.same at clean in
    let read = rw c.new-text.ensures.same at (c.recover_text.ensures.clean after) in
    let has = rw c.new-file.ensures.same at (c.in-Ok.ensures.card read) in (
      rw c.new-file.ensures.same at (c.find_card.ensures.clean read),
      λ out left.
          let fronts = c.disk_of-recovered.ensures.fronts clean out left in
          recovered_left file out c.in-Ok.own.card has.is has.stands
          (fronts.0 ∙ sym c.requires.head) (fronts.1 ∙ sym c.requires.page)
          (rw (c.new-text.ensures.same, c.find_card.ensures.same, c.new-file.ensures.same) at
          (c.recover_text.ensures.crash after (drop 4096 (believed out))
          (believed out, (out, rw c.disk_of-recovered.ensures.same at left, refl), refl))),
    )

pub returns-clause-card : goal.returns-clause-card
returns-clause-card g c clean =
    let after = rw c.disk_of-recovered.ensures.same at clean in
    let read = rw c.new-text.ensures.same at (c.recover_text.ensures.clean after) in
    opens_so c.args.takes_less (g.D.Disk.seen c.args.disk) c.args.other c.in-Ok.own.witness
    c.in-Ok.own.card (rw c.new-file.ensures.same at (c.in-Ok.ensures.card read))
    (rw (c.new-text.ensures.same, c.find_card.ensures.same, c.new-file.ensures.same) at
    (c.in-Ok-recover_text.ensures.sound after))
    (rw (c.new-text.ensures.same, c.find_card.ensures.same, c.new-file.ensures.same) at
    (c.in-Ok-recover_text.ensures.kept after))

pub returns-clause-groups : goal.returns-clause-groups
returns-clause-groups g c clean =
    rw c.disk_of-recovered.ensures.same
    (rw (c.new-text.ensures.same, c.find_card.ensures.same, c.new-file.ensures.same) at
    (c.in-Ok-recover_text.ensures.groups (rw c.disk_of-recovered.ensures.same at clean)))

-- ---- what its callees require

pub new-text-requires-clause-rests : goal.new-text-requires-clause-rests
new-text-requires-clause-rests g c clean =
    c.find_card.ensures.rests
    (rw c.new-file.ensures.same
    (rests_from (g.D.Disk.seen c.args.disk) (g.D.Disk.may_leave c.args.disk) c.requires.only))

pub recover_text-requires : goal.recover_text-requires
recover_text-requires g c =
    c.new-text.ensures.rests (c.find_card.ensures.rests
    (rw c.new-file.ensures.same
    (rests_from (g.D.Disk.seen c.args.disk) (g.D.Disk.may_leave c.args.disk) c.requires.only)))
