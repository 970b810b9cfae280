use Rattle.std.proofs.Common.{◌≡◌, false, take, drop, ◌++◌, sym, ap, ◌∙◌, length, None, Some, take_while, if◌then◌else◌, not, ◌==◌}
use Rattle.std.proofs.lemmas.List.{take-append-drop}
use Rattle.std.proofs.lemmas.Slice.Eq.{bytes_eq-Decides}
use Rattle.std.proofs.lemmas.Bool.{false_from_ne_true}
use Rattle.meta_types.specs.Text.{begins_with}
use Rattle.meta_types.specs.CollectorLabels.{snapshot_prefix}
use Rattle.gc_labels.proofs.keys.snapshot_ref.Goals as goal

-- a key that isn't the prefix and a rest doesn't begin with it
pub returns-in-None : goal.returns-in-None
returns-in-None c =
    let key = c.args.key.now in
    let no : begins_with snapshot_prefix key ≡ false = false_from_ne_true (begins_with snapshot_prefix key) (λ t. c.in-None.ensures.cases (drop (length snapshot_prefix) key) (sym (take-append-drop (length snapshot_prefix) key) ∙ ap (λ front. front ++ drop (length snapshot_prefix) key) (sym ((bytes_eq-Decides snapshot_prefix (take (length snapshot_prefix) key)).0 t)))) in
    sym (ap (λ b. if b then Some (take_while (λ byte. not (byte == 47)) (drop (length snapshot_prefix) key)) else None) no)
