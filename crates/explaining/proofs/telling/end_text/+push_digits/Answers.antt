use Rattle.std.proofs.Common.{◌∙◌, ◌++◌, ap, arith}
use Rattle.std.specs.Prelude.{string_bytes}
use Rattle.meta_types.specs.Text.{Text}
use Rattle.explaining.proofs.EndTexts.{added, none_added, no_digits, more_digits}
use Rattle.explaining.proofs.telling.end_text.+push_digits.Goals as goal

pub returns-then-count-eq0-clause-ok : goal.returns-then-count-eq0-clause-ok
returns-then-count-eq0-clause-ok n c =
    none_added (string_bytes c.args.text.now) _
    (no_digits c.args.count c.args.number c.if-count-eq0.true)

pub returns-clause-ok : goal.returns-clause-ok
returns-clause-ok n c =
    added (string_bytes c.args.text.now) (string_bytes c.push_digits.new.text)
    (string_bytes c.push_digit.new.text) _ _ c.in_ok-push_digits.ensures.ok
    c.in_ok-push_digit.ensures.ok
    ∙ ap (λ (l : Text). string_bytes c.args.text.now ++ l)
    (more_digits c.args.count c.args.number (omega (arith, c.if-count-eq0.false)))
