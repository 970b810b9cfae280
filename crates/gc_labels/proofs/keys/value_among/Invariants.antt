-- The entries left have the value that all have.
use Rattle.std.proofs.Common.{◌≡◌, drop}
use Rattle.meta_types.specs.Text.{texts_of}
use Rattle.meta_types.specs.Labels.{value_of}
use Rattle.gc_labels.proofs.keys.value_among.Given as goal

abbrev pub invariant-loop-entry : goal.invariant-loop-entry
invariant-loop-entry l =
    value_of (texts_of (drop l.entry-index l.entries)) l.key ≡ value_of (texts_of l.entries) l.key
