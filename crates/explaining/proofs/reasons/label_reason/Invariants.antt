use Rattle.std.proofs.Common.{◌≡◌, take, map, None, string_bytes}
use Rattle.std.specs.List.{find}
use Rattle.explaining.specs.ThingRows.{thing_of}
use Rattle.meta_types.specs.Reasons.{is_ref}
use Rattle.explaining.proofs.reasons.label_reason.Given as goal

-- no label so far references the thing
abbrev pub invariant-loop-entry : goal.invariant-loop-entry
invariant-loop-entry l = find (λ pair. is_ref pair (thing_of l.thing)) (map (λ e. (string_bytes e.0, string_bytes e.1)) (take l.entry-index l.entries)) ≡ None
