use Rattle.std.proofs.Common.{◌∙◌, sym, refl, []}
use Rattle.std.specs.Prelude.{IsTrue}
use Rattle.store_folder.specs.Takings.{Comes}
use Rattle.store_folder.proofs.Blanked.{holds_blanked}
use Rattle.store_folder.proofs.Renewed.{holds_written, selects_so}
use Rattle.store_folder.proofs.taking.take.Goals as goal

-- the blank file
pub write_blank-requires : goal.write_blank-requires
write_blank-requires g c = (
  c.type_bounds.sync-T,
  (
    λ clean.
        let now : IsTrue (g.D.Disk.is_clean c.blank.new.self.file.disk) =
        rw c.into_file.ensures at clean in
        rw c.into_file.ensures (c.in-Ok.ensures.durable (sym c.blank.ensures.calm ∙ now)),
    λ clean.
        let now : IsTrue (g.D.Disk.is_clean c.blank.new.self.file.disk) =
        rw c.into_file.ensures at clean in
        rw c.into_file.ensures (c.in-Ok.ensures.zeros (sym c.blank.ensures.calm ∙ now)),
  ),
)

-- the file isn't blank
pub returns-in-Err-clause-failed : goal.returns-in-Err-clause-failed
returns-in-Err-clause-failed g c clean kept holds =
    holds_blanked _ _ _ _ _ _ _ _ _ _ _ kept []
    (g.met.E.Counting.believes c.args.folder.file)
    (g.met.E.Counting.selects c.args.folder.file) holds
    c.witness_of-witness.result c.witness_of-witness.ensures.is c.witness_of-witness.ensures.fits
    (c.blank.ensures.crash (sym c.blank.ensures.calm ∙ clean))

-- its lines weren't written, or the card wasn't put
pub returns-in-Err-write_blank-clause-failed : goal.returns-in-Err-write_blank-clause-failed
returns-in-Err-write_blank-clause-failed g c clean kept holds =
    let log = c.in-Err-write_blank.not.log in
    let still : IsTrue (g.D.Disk.is_clean log.disk) =
    rw c.closed-rest.ensures at clean in
    let comes : Comes c.args.folder.card c.in-Some.next = record {
      is = (holds.log.belongs _ (g.met.D.Disk.seen_may_stay c.args.folder.spare.file.disk)).is;
      fits = c.in-Some.ensures.fits;
      next_one = c.in-Some.ensures.is;
    } in
    rw c.closed-rest.ensures (holds_written _ _ _ _ _ _ _ _
    (g.D.Disk.may_leave c.into_file.result.disk) _ _ _ kept []
    (g.met.E.Counting.believes c.args.folder.file)
    (g.met.E.Counting.selects c.args.folder.file) holds
    (g.D.Disk.is_clean c.into_file.result.disk)
    (g.D.Disk.seen c.into_file.result.disk) (g.D.Disk.seen c.args.folder.spare.file.disk) _
    c.witness_of-witness.result c.witness_of-witness.ensures.is c.witness_of-witness.ensures.fits
    (g.met.D.Disk.seen_may_stay c.into_file.result.disk)
    (λ now.
    let was : IsTrue (g.D.Disk.is_clean c.blank.new.self.file.disk) =
    rw c.into_file.ensures at now in
    rw c.into_file.ensures (c.blank.ensures.crash (sym c.blank.ensures.calm ∙ was)))
    (g.met.D.Disk.seen_may_stay c.args.folder.spare.file.disk)
    (selects_so _ _ _ (c.is_alike-fits.ensures c.if-not-fits.false ∙ c.IS_STANDBY.ensures)
    (log.selected still)) refl
    (c.in-Err-write_blank.ensures.failed c.args.folder.card comes still))

pub returns-clause-ok : goal.returns-clause-ok
returns-clause-ok g c clean kept holds =
    let log = c.in-Ok-write_blank.written.file in
    let still : IsTrue (g.D.Disk.is_clean log.disk) =
    rw c.closed-taken.ensures at clean in
    let comes : Comes c.args.folder.card c.in-Some.next = record {
      is = (holds.log.belongs _ (g.met.D.Disk.seen_may_stay c.args.folder.spare.file.disk)).is;
      fits = c.in-Some.ensures.fits;
      next_one = c.in-Some.ensures.is;
    } in
    rw c.closed-taken.ensures (holds_written _ _ _ _ _ _ _ _
    (g.D.Disk.may_leave c.into_file.result.disk) _ _ _ kept []
    (g.met.E.Counting.believes c.args.folder.file)
    (g.met.E.Counting.selects c.args.folder.file) holds
    (g.D.Disk.is_clean c.into_file.result.disk)
    (g.D.Disk.seen c.into_file.result.disk) (g.D.Disk.seen c.args.folder.spare.file.disk) _
    c.witness_of-witness.result c.witness_of-witness.ensures.is c.witness_of-witness.ensures.fits
    (g.met.D.Disk.seen_may_stay c.into_file.result.disk)
    (λ now.
    let was : IsTrue (g.D.Disk.is_clean c.blank.new.self.file.disk) =
    rw c.into_file.ensures at now in
    rw c.into_file.ensures (c.blank.ensures.crash (sym c.blank.ensures.calm ∙ was)))
    (g.met.D.Disk.seen_may_stay c.args.folder.spare.file.disk)
    (selects_so _ _ _ (c.is_alike-fits.ensures c.if-not-fits.false ∙ c.IS_STANDBY.ensures)
    (log.selected still)) refl
    (c.in-Ok-write_blank.ensures.left c.args.folder.card comes still))

-- it has a checkpoint
pub returns-clause-taken : goal.returns-clause-taken
returns-clause-taken g c clean kept holds =
    let log = c.in-Ok-write_blank.written.file in
    let still : IsTrue (g.D.Disk.is_clean log.disk) =
    rw c.closed-taken.ensures at clean in
    let comes : Comes c.args.folder.card c.in-Some.next = record {
      is = (holds.log.belongs _ (g.met.D.Disk.seen_may_stay c.args.folder.spare.file.disk)).is;
      fits = c.in-Some.ensures.fits;
      next_one = c.in-Some.ensures.is;
    } in
    rw c.closed-taken.ensures
    (c.in-Ok-write_blank.ensures.ok c.args.folder.card comes still)

-- no read had answered what isn't there
pub returns-clause-clean : goal.returns-clause-clean
returns-clause-clean g c clean =
    let was = c.in-Ok-write_blank.ensures.clean (rw c.closed-taken.ensures at clean) in
    sym c.blank.ensures.calm ∙ (rw c.into_file.ensures at was)

pub returns-in-Err-write_blank-clause-still : goal.returns-in-Err-write_blank-clause-still
returns-in-Err-write_blank-clause-still g c clean =
    let was = c.in-Err-write_blank.ensures.still (rw c.closed-rest.ensures at clean) in
    sym c.blank.ensures.calm ∙ (rw c.into_file.ensures at was)

pub returns-in-Err-clause-still : goal.returns-in-Err-clause-still
returns-in-Err-clause-still g c clean = sym c.blank.ensures.calm ∙ clean
