use Rattle.std.proofs.Common.{◌≡◌, ◌∙◌, ap, sym, ℕ, List, take, drop, bytes_eq}
use Rattle.std.proofs.lemmas.List.{take_rest}
use Rattle.journal.specs.Text.{place_text}
use Rattle.journal.proofs.Parts.{both_parts}
use Rattle.journal.proofs.lines.is_sum_and_place.Goals as goal

pub returns : goal.returns
returns c =
    let sum : c.eq-is_sum.result ≡ bytes_eq (take 64 c.args.text.now) c.args.sum.now =
    c.eq-is_sum.ensures ∙ ap (bytes_eq (take 64 c.args.text.now)) c.as_slice.ensures in
    let place : c.is_place-is_place.result
    ≡ bytes_eq (drop 64 c.args.text.now) (place_text c.args.place) =
    c.is_place-is_place.ensures
    ∙ ap (λ (t : List ℕ). bytes_eq t (place_text c.args.place))
    (take_rest c.args.text.now 64) in
    let both = both_parts c.args.text.now c.args.sum.now (place_text c.args.place) in
    rw (sum, place) (sym (rw c.told-sum at both))
