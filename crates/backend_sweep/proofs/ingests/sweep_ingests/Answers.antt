use Rattle.std.proofs.Common.{rules, ◌≡◌, ◌∙◌, sym, refl, ◌++◌, ◌∷◌, [], length, take, drop, slice_set, slice_index_or, ◌<◌, ◌+◌, subst, append-nil}
use Rattle.std.proofs.lemmas.Bool.Decides.{Decides-eqb}
use Rattle.backend_sweep.specs.Shards.{is_number}
use Rattle.backend_sweep.specs.Singles.{SweepsEach}
use Rattle.backend_sweep.proofs.SweptLists.{begun, more_removed, more_failed}
use Rattle.backend_sweep.specs.ObjectOutcomes.{names_with, was_removed, has_failed}
use Rattle.backend_sweep.specs.declared.outcomes.Outcome.TheVariants as F
use Rattle.backend_sweep.proofs.ObjectOutcomes.{any_default, one_more, took_at, whole_at}
use Rattle.backend_sweep.proofs.ingests.sweep_ingests.Goals.{in-Ok, in-Err}
use Rattle.backend_sweep.proofs.ingests.sweep_ingests.Goals as goal

pub loop-i-init : goal.loop-i-init
loop-i-init g c = record {
  swept = begun is_number (λ x y h. sym ((Decides-eqb y x).0 h)) (λ x y e. (Decides-eqb y x).1 (sym e)) _ _ _ _ refl refl;
  same = c.requires.outcomes;
}

pub loop-i-preserved : goal.loop-i-preserved
loop-i-preserved g c =
    let i = c.loop-i.invariant in
    let names = c.args.names.now in
    let n = slice_index_or names c.loop-i.i 0 in
    let inside : c.loop-i.i < length names = search rules in
    let done = take c.loop-i.i names in
    let took : take (c.loop-i.i + 1) names ≡ done ++ n ∷ [] = took_at names c.loop-i.i n (any_default names c.loop-i.i 0 n inside) inside in
    let whole : done ++ n ∷ drop (c.loop-i.i + 1) names ≡ names = whole_at names c.loop-i.i n took in
    let here : c.loop-i.i < length c.loop-i.outcomes = search rules in
    elim c.match-remove.branch [
      | in-Ok w ↦ rw w.outcomes-is (record {
        swept = subst (λ d. SweepsEach is_number d (g.I.IngestBackend.contents c.args.backend.now)
            (g.I.IngestBackend.contents c.remove.new.self) (names_with was_removed (take
            (c.loop-i.i + 1) names) (take (c.loop-i.i + 1)
            (slice_set c.loop-i.outcomes c.loop-i.i F.Removed))) (names_with has_failed (take
            (c.loop-i.i + 1) names) (take (c.loop-i.i + 1)
            (slice_set c.loop-i.outcomes c.loop-i.i F.Removed)))
            (g.I.IngestBackend.fails c.args.backend.now)
            (g.I.IngestBackend.fails c.remove.new.self)) (sym took)
            (subst (λ l. SweepsEach is_number (done ++ n ∷ [])
            (g.I.IngestBackend.contents c.args.backend.now)
            (g.I.IngestBackend.contents c.remove.new.self) (names_with was_removed (take
            (c.loop-i.i + 1) names) (take (c.loop-i.i + 1)
            (slice_set c.loop-i.outcomes c.loop-i.i F.Removed))) l
            (g.I.IngestBackend.fails c.args.backend.now)
            (g.I.IngestBackend.fails c.remove.new.self)) (sym
            (one_more has_failed names c.loop-i.outcomes c.loop-i.i n F.Removed took here i.same
            ∙ append-nil _))
            (more_removed is_number (λ x y h. sym ((Decides-eqb y x).0 h)) (λ x y e.
            (Decides-eqb y x).1 (sym e)) names _ c.requires.names done (drop
            (c.loop-i.i + 1) names) n whole _ _ _ _ _ _ _ _ i.swept
            (one_more was_removed names c.loop-i.outcomes c.loop-i.i n F.Removed took here i.same)
            w.in-Ok.ensures.ok w.in-Ok.ensures.fails));
        same = search rules;
      })
      | in-Err w ↦ rw w.outcomes-is (record {
        swept = subst (λ d. SweepsEach is_number d (g.I.IngestBackend.contents c.args.backend.now)
            (g.I.IngestBackend.contents c.remove.new.self) (names_with was_removed (take
            (c.loop-i.i + 1) names) (take (c.loop-i.i + 1)
            (slice_set c.loop-i.outcomes c.loop-i.i F.Failed))) (names_with has_failed (take
            (c.loop-i.i + 1) names) (take (c.loop-i.i + 1)
            (slice_set c.loop-i.outcomes c.loop-i.i F.Failed)))
            (g.I.IngestBackend.fails c.args.backend.now)
            (g.I.IngestBackend.fails c.remove.new.self)) (sym took)
            (subst (λ l. SweepsEach is_number (done ++ n ∷ [])
            (g.I.IngestBackend.contents c.args.backend.now)
            (g.I.IngestBackend.contents c.remove.new.self) l (names_with has_failed (take
            (c.loop-i.i + 1) names) (take (c.loop-i.i + 1)
            (slice_set c.loop-i.outcomes c.loop-i.i F.Failed)))
            (g.I.IngestBackend.fails c.args.backend.now)
            (g.I.IngestBackend.fails c.remove.new.self)) (sym
            (one_more was_removed names c.loop-i.outcomes c.loop-i.i n F.Failed took here i.same
            ∙ append-nil _))
            (more_failed is_number (λ x y h. sym ((Decides-eqb y x).0 h)) (λ x y e.
            (Decides-eqb y x).1 (sym e)) names _ c.requires.names done (drop
            (c.loop-i.i + 1) names) n whole _ _ _ _ _ _ _ _ w.in-Err.field-0 i.swept
            (one_more has_failed names c.loop-i.outcomes c.loop-i.i n F.Failed took here i.same)
            w.in-Err.ensures.fault w.in-Err.ensures.err w.in-Err.ensures.fails));
        same = search rules;
      })
    ]
