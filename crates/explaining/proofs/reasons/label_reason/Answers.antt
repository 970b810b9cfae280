use Rattle.std.proofs.Common.{◌≡◌, ◌∙◌, sym, ap, true, false, Some, string_bytes, List}
use Rattle.std.specs.Prelude.{option_map}
use Rattle.std.specs.List.{find}
use Rattle.meta_types.specs.Text.{Text}
use Rattle.explaining.specs.ThingRows.{thing_of}
use Rattle.meta_types.specs.Reasons.{is_ref}
use Rattle.meta_types.specs.declared.explanation.By.TheVariants.{Label}
use Rattle.explaining.proofs.Searches.{find_at, find_past}
use Rattle.explaining.proofs.reasons.label_reason.Goals as goal

-- the label is the first that fits
pub returns-then-is_ref : goal.returns-then-is_ref
returns-then-is_ref c =
    let p = λ (pair : Text × Text). is_ref pair (thing_of c.args.thing) in
    let item = c.entry-item.result in
    let fits : is_ref (string_bytes item.0, string_bytes item.1) (thing_of c.args.thing) ≡ true
    = sym (λ i. is_ref (c.deref.ensures i, c.deref-in-loop-entry.ensures i) (thing_of c.args.thing)) ∙ sym c.is_ref.ensures ∙ c.if-is_ref.true in
    (λ i. Some (Label (c.as_str.ensures.value i)))
    ∙ sym (ap (λ (l : List (Text × Text)). option_map (λ (pair : Text × Text). Label pair.0) (find p l)) (sym c.entries-entries.ensures.entries)
    ∙ ap (option_map (λ (pair : Text × Text). Label pair.0)) (find_at p (λ e. (string_bytes e.0, string_bytes e.1)) c.entries-entries.result.now c.loop-entry.entry-index item c.loop-entry.invariant c.loop-entry-test.true c.entry-item.is fits))

-- this label doesn't fit
pub loop-entry-preserved : goal.loop-entry-preserved
loop-entry-preserved c =
    let p = λ (pair : Text × Text). is_ref pair (thing_of c.args.thing) in
    let item = c.entry-item.result in
    let misses : is_ref (string_bytes item.0, string_bytes item.1) (thing_of c.args.thing) ≡ false
    = sym (λ i. is_ref (c.deref.ensures i, c.deref-in-loop-entry.ensures i) (thing_of c.args.thing)) ∙ sym c.is_ref.ensures ∙ c.if-is_ref.false in
    find_past p (λ e. (string_bytes e.0, string_bytes e.1)) c.entries-entries.result.now c.loop-entry.entry-index item c.loop-entry.invariant c.loop-entry-test.true c.entry-item.is misses
