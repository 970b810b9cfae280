use Rattle.std.proofs.Common.{◌≡◌, ◌∙◌, sym, ap, rules, to_z, of_z, w32, Some, ℤ, ◌*◌, ◌+◌}
use Rattle.std.proofs.lemmas.List.{take_rest}
use Rattle.meta_types.specs.Time.{has_fraction, fraction_in, fraction_of}
use Rattle.gc_labels.proofs.InstantParts.{unformed, short_unformed, unfractioned, placed}
use Rattle.gc_labels.proofs.instants.place_in.Goals as goal
use Rattle.gc_labels.proofs.instants.place_in.Goals.{then-text-lt19-via-then-text-lt19, then-text-lt19-via-else-text-lt19+then-not-has_form}

-- the text has another form
pub returns-then-text-lt19-clause-place : goal.returns-then-text-lt19-clause-place
returns-then-text-lt19-clause-place c = elim c.then-text-lt19.branch [
  | then-text-lt19-via-then-text-lt19 w ↦ sym (unformed c.args.text.now (short_unformed c.args.text.now w.if-text-lt19.true))
  | then-text-lt19-via-else-text-lt19+then-not-has_form w ↦ sym (unformed c.args.text.now (sym w.has_form.ensures ∙ w.if-not-has_form.true))
]

-- the fraction has no digit, or too many
pub returns-then-not-has_fraction-clause-place : goal.returns-then-not-has_fraction-clause-place
returns-then-not-has_fraction-clause-place c = sym (unfractioned c.args.text.now (ap has_fraction (sym (take_rest c.args.text.now 19)) ∙ sym c.has_fraction.ensures ∙ c.if-not-has_fraction.true))

-- the text has all parts
pub returns-clause-place : goal.returns-clause-place
returns-clause-place c =
    let text = c.args.text.now in
    let day_is : to_z w32 (of_z w32 c.in_ok-day.day) ≡ c.in_ok-day.day = search rules in
    let fraction_is = c.fraction_of.ensures.value ∙ ap fraction_of c.fraction_in.ensures ∙ ap (λ rest. fraction_of (fraction_in rest)) (take_rest text 19) in
    ap (λ (day : ℤ). Some (day, c.in_ok-second.second * 1000000000 + c.fraction_of.result)) day_is ∙
    placed text c.in_ok-day.day c.in_ok-second.second c.fraction_of.result (sym c.has_form.ensures ∙ c.if-not-has_form.false) (sym c.in_ok-day.ensures) (sym c.in_ok-second.ensures.value)
    (ap has_fraction (sym (take_rest text 19)) ∙ sym c.has_fraction.ensures ∙ c.if-not-has_fraction.false) fraction_is
