use Rattle.std.proofs.Common.{ap, Some}
use Rattle.collection.proofs.LeftOut.{other_images_are, other_leases_are, images_left, leases_left}
use Rattle.collection.proofs.leaving.leave_named.Goals as goal

-- the marks leave out the image that is named
pub returns-in_ok-marks-in-Image-clause-others : goal.returns-in_ok-marks-in-Image-clause-others
returns-in_ok-marks-in-Image-clause-others c =
    other_images_are c.args.listed.now _ _ c.in_ok-marks-in-Image.marks
    c.in_ok-marks-in-Image.ensures.ok _ (ap Some c.in-Image.is)

pub returns-in_ok-marks-in-Image-clause-left : goal.returns-in_ok-marks-in-Image-clause-left
returns-in_ok-marks-in-Image-clause-left c =
    images_left c.args.listed.now _ _ c.in_ok-marks-in-Image.marks
    c.in_ok-marks-in-Image.ensures.ok _ c.leave_image.ensures

-- and the lease
pub returns-in_ok-marks-in-Lease-clause-others : goal.returns-in_ok-marks-in-Lease-clause-others
returns-in_ok-marks-in-Lease-clause-others c =
    other_leases_are c.args.listed.now _ _ c.in_ok-marks-in-Lease.marks
    c.in_ok-marks-in-Lease.ensures.ok _ (ap Some c.in-Lease.is)

pub returns-in_ok-marks-in-Lease-clause-left : goal.returns-in_ok-marks-in-Lease-clause-left
returns-in_ok-marks-in-Lease-clause-left c =
    leases_left c.args.listed.now _ _ c.in_ok-marks-in-Lease.marks
    c.in_ok-marks-in-Lease.ensures.ok _ c.leave_lease.ensures
