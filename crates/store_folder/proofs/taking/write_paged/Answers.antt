use Rattle.std.proofs.Common.{◌∙◌, sym, refl, inl}
use Rattle.std.specs.Prelude.{IsTrue}
use Rattle.journal.specs.Head.{believed, Texts}
use Rattle.store_folder.proofs.Carding.{rests, card_left, card_there}
use Rattle.store_folder.proofs.taking.write_paged.Goals as goal

-- the file is blank
pub write-requires : goal.write-requires
write-requires g c = record {
  zeros = λ clean.
      let now : IsTrue (g.D.Disk.is_clean c.args.file.disk) =
      rw (c.new-text.ensures.same, c.new-watched.ensures.same) at clean in record {
        zeros = rw (c.new-text.ensures.same, c.new-watched.ensures.same) (c.requires.zeros now);
        durable = c.new-text.ensures.rests
            (rw c.new-watched.ensures.same (c.requires.rests now));
      };
}

-- the file is read no more
pub new-text-requires : goal.new-text-requires
new-text-requires g c = record {
  rests = rw c.new-watched.ensures.same c.requires.rests;
  page = rw c.new-watched.ensures.same c.requires.page;
}

-- its lines weren't written
pub returns-in-Err-clause-failed : goal.returns-in-Err-clause-failed
returns-in-Err-clause-failed g c card comes clean out left =
    inl ((rw (sym c.into_log-back.ensures.same) at c.into_log-held.ensures.page) clean
    (believed out) (out, left, refl))

-- there is none
pub returns-then-end-eq0-clause-failed : goal.returns-then-end-eq0-clause-failed
returns-then-end-eq0-clause-failed g c card comes clean out left =
    inl ((rw (sym c.into_log-file.ensures.same) at c.into_log-paged.ensures.page) clean
    (believed out) (out, left, refl))

-- the card was cut short
pub returns-in-Err-put_note-clause-failed : goal.returns-in-Err-put_note-clause-failed
returns-in-Err-put_note-clause-failed g c card comes clean out left =
    let file = c.into_log-file.result in
    let before : IsTrue (g.D.Disk.is_clean file.disk) =
    sym c.put_note.ensures.calm ∙ clean in
    let was = rw (c.into_log-file.ensures.same, c.into_log-paged.ensures.same) at before in
    let had = c.in-Ok.ensures.ok was in
    let kept = rw (sym c.into_log-paged.ensures.same) at had in
    let has = rw (sym c.into_log-file.ensures.same) at kept in
    let pages = rw (sym c.into_log-file.ensures.same) at c.into_log-paged.ensures.page in
    let stays : Texts (g.D.Disk.may_leave file.disk) (believed (g.D.Disk.seen file.disk)) =
    (g.D.Disk.seen file.disk, g.met.D.Disk.seen_may_stay file.disk, refl) in
    let only = rests card c.args.next comes _ g.K.Page.page _ _ _ _ _ c.first_sum-first.ensures
    c.witness_of-card.ensures.fits stays (pages before) has in
    card_left card c.args.next comes _ g.K.Page.page _ _ _ _ _ c.first_sum-first.ensures
    c.witness_of-card.ensures.fits stays (pages before) has
    c.witness_of-card.result c.witness_of-card.ensures.is (believed out)
    (c.put_note.ensures.crash before only (believed out) (out, left, refl))

pub returns-clause-left : goal.returns-clause-left
returns-clause-left g c card comes clean out left =
    let file = c.into_log-file.result in
    let before : IsTrue (g.D.Disk.is_clean file.disk) =
    sym c.put_note.ensures.calm ∙ clean in
    let was = rw (c.into_log-file.ensures.same, c.into_log-paged.ensures.same) at before in
    let had = c.in-Ok.ensures.ok was in
    let kept = rw (sym c.into_log-paged.ensures.same) at had in
    let has = rw (sym c.into_log-file.ensures.same) at kept in
    let pages = rw (sym c.into_log-file.ensures.same) at c.into_log-paged.ensures.page in
    let stays : Texts (g.D.Disk.may_leave file.disk) (believed (g.D.Disk.seen file.disk)) =
    (g.D.Disk.seen file.disk, g.met.D.Disk.seen_may_stay file.disk, refl) in
    let only = rests card c.args.next comes _ g.K.Page.page _ _ _ _ _ c.first_sum-first.ensures
    c.witness_of-card.ensures.fits stays (pages before) has in
    card_left card c.args.next comes _ g.K.Page.page _ _ _ _ _ c.first_sum-first.ensures
    c.witness_of-card.ensures.fits stays (pages before) has
    c.witness_of-card.result c.witness_of-card.ensures.is (believed out)
    (c.put_note.ensures.crash before only (believed out) (out, left, refl))

-- it stands there
pub returns-clause-ok : goal.returns-clause-ok
returns-clause-ok g c card comes clean =
    let file = c.into_log-file.result in
    let before : IsTrue (g.D.Disk.is_clean file.disk) =
    sym c.put_note.ensures.calm ∙ clean in
    let was = rw (c.into_log-file.ensures.same, c.into_log-paged.ensures.same) at before in
    let had = c.in-Ok.ensures.ok was in
    let kept = rw (sym c.into_log-paged.ensures.same) at had in
    let has = rw (sym c.into_log-file.ensures.same) at kept in
    let pages = rw (sym c.into_log-file.ensures.same) at c.into_log-paged.ensures.page in
    let stays : Texts (g.D.Disk.may_leave file.disk) (believed (g.D.Disk.seen file.disk)) =
    (g.D.Disk.seen file.disk, g.met.D.Disk.seen_may_stay file.disk, refl) in
    card_there card c.args.next comes _ g.K.Page.page _ _ _ _ _ c.first_sum-first.ensures
    c.witness_of-card.ensures.fits stays (pages before) has
    c.witness_of-card.result c.witness_of-card.ensures.is _ _ _ clean
    (c.in-Ok-put_note.ensures.fits before) (c.in-Ok-put_note.ensures.ok before)
    (c.in-Ok-put_note.ensures.durable before)

-- no read had answered what isn't there
pub new-watched-requires : goal.new-watched-requires
new-watched-requires g c = record { past = c.requires.past }

pub returns-clause-clean : goal.returns-clause-clean
returns-clause-clean g c clean =
    let before = sym c.put_note.ensures.calm ∙ clean in
    c.into_log-file.ensures.past before

pub returns-in-Err-clause-still : goal.returns-in-Err-clause-still
returns-in-Err-clause-still g c clean =
    c.into_log-back.ensures.past clean

pub returns-then-end-eq0-clause-still : goal.returns-then-end-eq0-clause-still
returns-then-end-eq0-clause-still g c clean =
    c.into_log-file.ensures.past clean

pub returns-in-Err-put_note-clause-still : goal.returns-in-Err-put_note-clause-still
returns-in-Err-put_note-clause-still g c clean =
    let before = sym c.put_note.ensures.calm ∙ clean in
    c.into_log-file.ensures.past before
