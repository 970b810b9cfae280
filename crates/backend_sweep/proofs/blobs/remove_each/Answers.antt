use Rattle.std.proofs.Common.{rules, ◌≡◌, ◌∙◌, sym, refl, ◌++◌, ◌∷◌, [], bytes_eq, length, take, drop, slice_set, ◌<◌, ◌+◌, subst, append-nil}
use Rattle.std.proofs.lemmas.Slice.Eq.{bytes_eq-Decides}
use Rattle.backend_sweep.specs.Singles.{SweepsEach}
use Rattle.backend_sweep.proofs.SweptLists.{begun, more_removed, more_failed}
use Rattle.backend_sweep.specs.ObjectOutcomes.{names_with, was_removed, has_failed}
use Rattle.backend_sweep.specs.declared.outcomes.Outcome.TheVariants as F
use Rattle.backend_sweep.proofs.ObjectOutcomes.{one_more, took_at, whole_at}
use Rattle.backend_sweep.proofs.blobs.remove_each.Goals.{in-Ok, in-Err}
use Rattle.backend_sweep.proofs.blobs.remove_each.Goals as goal

pub loop-i-init : goal.loop-i-init
loop-i-init g c = record {
  swept = begun bytes_eq (λ x y. (bytes_eq-Decides x y).0) (λ x y. (bytes_eq-Decides x y).1) _ _ _ _ refl refl;
  same = c.requires.outcomes;
}

pub loop-i-preserved : goal.loop-i-preserved
loop-i-preserved g c =
    let i = c.loop-i.invariant in
    let n = c.index-names-i.result in
    let names = c.args.names.now in
    let done = take c.loop-i.i names in
    let took : take (c.loop-i.i + 1) names ≡ done ++ n ∷ [] = took_at names c.loop-i.i n c.index-names-i.is (search rules) in
    let whole : done ++ n ∷ drop (c.loop-i.i + 1) names ≡ names = whole_at names c.loop-i.i n took in
    let here : c.loop-i.i < length c.loop-i.outcomes = search rules in
    elim c.match-remove.branch [
      | in-Ok w ↦ rw w.outcomes-is (record {
        swept = subst (λ d. SweepsEach bytes_eq d (g.B.BlobBackend.contents c.args.backend.now)
            (g.B.BlobBackend.contents c.remove.new.self) (names_with was_removed (take
            (c.loop-i.i + 1) names) (take (c.loop-i.i + 1)
            (slice_set c.loop-i.outcomes c.loop-i.i F.Removed))) (names_with has_failed (take
            (c.loop-i.i + 1) names) (take (c.loop-i.i + 1)
            (slice_set c.loop-i.outcomes c.loop-i.i F.Removed)))
            (g.B.BlobBackend.fails c.args.backend.now) (g.B.BlobBackend.fails c.remove.new.self))
            (sym took)
            (subst (λ l. SweepsEach bytes_eq (done ++ n ∷ [])
            (g.B.BlobBackend.contents c.args.backend.now)
            (g.B.BlobBackend.contents c.remove.new.self) (names_with was_removed (take
            (c.loop-i.i + 1) names) (take (c.loop-i.i + 1)
            (slice_set c.loop-i.outcomes c.loop-i.i F.Removed))) l
            (g.B.BlobBackend.fails c.args.backend.now) (g.B.BlobBackend.fails c.remove.new.self))
            (sym (one_more has_failed names c.loop-i.outcomes c.loop-i.i n F.Removed took here
            i.same ∙ append-nil _))
            (more_removed bytes_eq (λ x y. (bytes_eq-Decides x y).0) (λ x y.
            (bytes_eq-Decides x y).1) names _ c.requires.names done (drop
            (c.loop-i.i + 1) names) n whole _ _ _ _ _ _ _ _ i.swept
            (one_more was_removed names c.loop-i.outcomes c.loop-i.i n F.Removed took here i.same)
            w.in-Ok.ensures.ok w.in-Ok.ensures.fails));
        same = search rules;
      })
      | in-Err w ↦ rw w.outcomes-is (record {
        swept = subst (λ d. SweepsEach bytes_eq d (g.B.BlobBackend.contents c.args.backend.now)
            (g.B.BlobBackend.contents c.remove.new.self) (names_with was_removed (take
            (c.loop-i.i + 1) names) (take (c.loop-i.i + 1)
            (slice_set c.loop-i.outcomes c.loop-i.i F.Failed))) (names_with has_failed (take
            (c.loop-i.i + 1) names) (take (c.loop-i.i + 1)
            (slice_set c.loop-i.outcomes c.loop-i.i F.Failed)))
            (g.B.BlobBackend.fails c.args.backend.now) (g.B.BlobBackend.fails c.remove.new.self))
            (sym took)
            (subst (λ l. SweepsEach bytes_eq (done ++ n ∷ [])
            (g.B.BlobBackend.contents c.args.backend.now)
            (g.B.BlobBackend.contents c.remove.new.self) l (names_with has_failed (take
            (c.loop-i.i + 1) names) (take (c.loop-i.i + 1)
            (slice_set c.loop-i.outcomes c.loop-i.i F.Failed)))
            (g.B.BlobBackend.fails c.args.backend.now) (g.B.BlobBackend.fails c.remove.new.self))
            (sym (one_more was_removed names c.loop-i.outcomes c.loop-i.i n F.Failed took here
            i.same ∙ append-nil _))
            (more_failed bytes_eq (λ x y. (bytes_eq-Decides x y).0) (λ x y.
            (bytes_eq-Decides x y).1) names _ c.requires.names done (drop
            (c.loop-i.i + 1) names) n whole _ _ _ _ _ _ _ _ w.in-Err.field-0 i.swept
            (one_more has_failed names c.loop-i.outcomes c.loop-i.i n F.Failed took here i.same)
            w.in-Err.ensures.fault w.in-Err.ensures.err w.in-Err.ensures.fails));
        same = search rules;
      })
    ]
