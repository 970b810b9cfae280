use Rattle.std.proofs.Common.{◌≡◌, ◌∙◌, sym, ap, subst, length, bytes_eq, List}
use Rattle.std.proofs.lemmas.List.{length-map}
use Rattle.meta_types.specs.Text.{Text}
use Rattle.table_sweep.specs.BlobMarks.{is_unnamed}
use Rattle.backend_sweep.specs.Singles.{AreHeldOnce}
use Rattle.backend_sweep.proofs.OnePass.{all_went, same_before}
use Rattle.backend_sweep.proofs.blobs.sweep_blobs.Goals as goal

-- there is a mark for each blob
pub retain-requires : goal.retain-requires
retain-requires g c =
    ap length c.requires.marks ∙ length-map (g.B.BlobBackend.arrived c.args.backend.now) (is_unnamed c.args.names.now)

-- in one pass all went that are named
pub returns-then-retain-clause-swept : goal.returns-then-retain-clause-swept
returns-then-retain-clause-swept g c =
    all_went bytes_eq c.args.names.now _ _ c.set_removed.new.outcomes _ _ c.set_removed.ensures
    (c.retain.ensures.kept c.if-retain.true (is_unnamed c.args.names.now) c.requires.marks) c.retain.ensures.fails

pub returns-then-retain-clause-outcomes : goal.returns-then-retain-clause-outcomes
returns-then-retain-clause-outcomes g c = ap length c.set_removed.ensures
    ∙ length-map c.args.names.now _

-- where nothing was changed, each is still there
pub remove_each-requires-clause-names : goal.remove_each-requires-clause-names
remove_each-requires-clause-names g c κs within =
    subst (λ (held : List Text). AreHeldOnce bytes_eq c.args.names.now held) (sym (c.retain.ensures.same c.if-retain.false)) c.requires.names

pub returns-clause-swept : goal.returns-clause-swept
returns-clause-swept g c =
    same_before bytes_eq c.args.names.now _ _ _ _ _ _ _ _ (c.retain.ensures.same c.if-retain.false) c.retain.ensures.fails c.remove_each.ensures.swept
