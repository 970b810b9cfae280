use Rattle.std.proofs.Common.{◌≡◌, ◌∙◌, sym, ap, subst, FitsSigned, drop, rules, to_z, of_z, w32, w64, Some, pos, ◌+ℤ◌, ◌-ℤ◌, ◌*ℤ◌}
use Rattle.std.proofs.lemmas.List.{take_rest}
use mir.Syntax.{w128}
use Rattle.std.specs.Prelude.{ℤ}
use Rattle.meta_types.specs.Time.{zone_in, offset_of}
use Rattle.gc_labels.specs.Dates.{place_in}
use Rattle.gc_labels.proofs.InstantParts.{no_place, no_offset, instant_at}
use Rattle.gc_labels.proofs.instants.read_instant.Goals as goal

-- the text has no place
pub returns-in_err-day-clause-moment : goal.returns-in_err-day-clause-moment
returns-in_err-day-clause-moment c = rw c.from_residual.ensures (sym (no_place c.args.text.now (ap place_in (sym c.as_bytes-bytes.ensures.value) ∙ sym c.in_err-day.ensures.place)))

-- the text has no offset
pub returns-in_err-offset-clause-moment : goal.returns-in_err-offset-clause-moment
returns-in_err-offset-clause-moment c =
    let zone = c.zone_in.ensures ∙ ap zone_in (take_rest c.as_bytes-bytes.result.now 19 ∙ ap (drop 19) c.as_bytes-bytes.ensures.value) in
    rw c.from_residual-in_err-offset.ensures (sym (no_offset c.args.text.now (ap offset_of (sym zone) ∙ sym c.in_err-offset.ensures)))

-- the text has both
pub returns-clause-moment : goal.returns-clause-moment
returns-clause-moment c =
    let zone = c.zone_in.ensures ∙ ap zone_in (take_rest c.as_bytes-bytes.result.now 19 ∙ ap (drop 19) c.as_bytes-bytes.ensures.value) in
    let fits : to_z w128 (of_z w128 c.moment.result) ≡ c.moment.result = search rules in
    let day_is : to_z w32 (of_z w32 c.in_ok-day.day) ≡ c.in_ok-day.day = search rules in
    let offset_is : to_z w64 (of_z w64 c.in_ok-offset.offset) ≡ c.in_ok-offset.offset = search rules in
    ap (λ (z : ℤ). Some z) (fits ∙ c.moment.ensures.moment)
    ∙ (λ i. Some (day_is i *ℤ pos 86400000000000 +ℤ pos c.in_ok-day.nanosecond -ℤ offset_is i))
    ∙ sym (instant_at c.args.text.now c.in_ok-day.day c.in_ok-day.nanosecond c.in_ok-offset.offset (ap place_in (sym c.as_bytes-bytes.ensures.value) ∙ sym c.in_ok-day.ensures.place) (ap offset_of (sym zone) ∙ sym c.in_ok-offset.ensures))

-- a day can be added to it
pub returns-clause-wide : goal.returns-clause-wide
returns-clause-wide c =
    let fits : to_z w128 (of_z w128 c.moment.result) ≡ c.moment.result = search rules in
    subst (λ (z : ℤ). FitsSigned w128 (z +ℤ pos 86400000000000)) (sym fits) c.moment.ensures.wide
