-- The form gets shorter.
use Rattle.std.proofs.Common.{length}
use Rattle.gc_labels.proofs.digits.+has_form.Given as goal

abbrev pub decreases-has_form : goal.decreases-has_form
decreases-has_form l = length l.form.now
