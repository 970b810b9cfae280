use Rattle.std.proofs.Common.{◌∙◌, ap, sym, ℕ, List, bytes_eq}
use Rattle.std.proofs.lemmas.List.{take_rest}
use Rattle.journal.specs.Text.{place_text}
use Rattle.journal.proofs.Parts.{names_none}
use Rattle.journal.proofs.lines.names.Goals as goal

pub returns-then-line-lt65 : goal.returns-then-line-lt65
returns-then-line-lt65 c = sym (names_none c.args.line.now c.args.place c.if-line-lt65.true)

pub returns : goal.returns
returns c = c.is_place.ensures
    ∙ ap (λ (t : List ℕ). bytes_eq t (place_text c.args.place)) (take_rest c.args.line.now 65)
