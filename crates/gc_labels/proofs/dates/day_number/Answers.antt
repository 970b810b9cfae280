use Rattle.std.proofs.Common.{◌≡◌, ap, sym, refl, ◌∙◌, arith, Some, pos, w16, w8, w32, FitsSigned}
use Rattle.std.proofs.lemmas.Int.{to_z-of_z, to_z_pos}
use Rattle.jiff_core.specs.Calendar.{days_from_civil}
use Rattle.jiff.proofs.SpanFacts.{signed_arith}
use Rattle.gc_labels.proofs.Days.{day_in-date}
use Rattle.gc_labels.proofs.dates.day_number.Goals as goal

pub returns-in-Ok : goal.returns-in-Ok
returns-in-Ok c =
    let y_is = to_z_pos w16 c.args.year (omega arith) in
    let m_is = to_z_pos w8 c.args.month (omega arith) in
    let d_is = to_z_pos w8 c.args.day (omega arith) in
    let real = rw (y_is, m_is, d_is) at (c.in-Ok.ensures.succeeds.0 refl) in
    let parts = rw (y_is, m_is, d_is) at c.in-Ok.ensures.value in
    let fits : FitsSigned w32 c.to_unix_epoch_day.result = omega (arith, signed_arith, c.to_unix_epoch_day.ensures.bound) in
    let m_same : c.in-Ok.date.month ≡ c.args.month = let e = parts.1 in cc in
    let d_same : c.in-Ok.date.day ≡ c.args.day = let e = parts.2 in cc in
    let day = rw c.to_plain.ensures at c.to_unix_epoch_day.ensures.value in
    let number : c.to_unix_epoch_day.result ≡ days_from_civil (pos c.args.year) c.args.month c.args.day = rw (parts.0, m_same, d_same) at day in
    ap Some (to_z-of_z w32 c.to_unix_epoch_day.result fits ∙ number) ∙ sym (day_in-date c.args.year c.args.month c.args.day (omega arith) (omega (arith, signed_arith, real.1.0)) (omega (arith, signed_arith, real.1.1)) (omega (arith, signed_arith, real.2.0)) (omega (arith, signed_arith, real.2.1)))
