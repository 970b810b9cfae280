use Rattle.std.proofs.Common.{◌∙◌, sym, refl}
use Rattle.kept_store.proofs.LoadedLines.{line_loaded, none_loaded, line_opens, none_opens}
use Rattle.kept_store.proofs.loading.load_lines.Goals as goal

pub loading-init : goal.loading-init
loading-init g c = record { done = refl; goes_on = refl }

pub loading-preserved : goal.loading-preserved
loading-preserved g c =
    let cut = c.in-Some.ensures.some in
    record {
      done = line_loaded c.loading.store _ c.loading.rest.now
          c.in-Some.line.now c.in-Some.later.now cut.0 cut.1 c.in_ok-load_line.ensures.ok
          ∙ c.loading.invariant.done;
      goes_on = line_opens c.loading.progress.is_open _ c.loading.rest.now
          c.in-Some.line.now c.in-Some.later.now cut.0 cut.1 c.in_ok-load_line.ensures.goes_on
          ∙ c.loading.invariant.goes_on;
    }

pub returns-clause-ok : goal.returns-clause-ok
returns-clause-ok g c =
    sym (none_loaded c.loading.store c.loading.rest.now c.in_default.ensures.none)
    ∙ c.loading.invariant.done

pub returns-clause-goes_on : goal.returns-clause-goes_on
returns-clause-goes_on g c =
    sym (none_opens c.loading.progress.is_open c.loading.rest.now c.in_default.ensures.none)
    ∙ c.loading.invariant.goes_on
