use Rattle.std.proofs.Common.{◌≡◌, ◌++◌, ◌∷◌, [], length, refl, sym, subst, arith}
use Rattle.steal_mark.specs.Team.{AreWorked}
use Rattle.steal_mark.proofs.AfterThreads.{all_worked, worked_and}
use Rattle.steal_mark.proofs.threads.start.fn.run_beside.scope.Goals as goal

-- each thread gave its worker back, and the calling one took its turns
pub returns : goal.returns
returns g c =
    let begun = c.in_ok-handles.handles in
    let done = c.in_ok-done.done in
    let many : length done.items ≡ length begun.items =
    let a = done.ok.0 in let b = begun.ok.0 in let e = c.in_ok-done.ensures.len in omega arith in
    let others =
    all_worked c.captures.others.items done.items begun.items c.in_ok-handles.ensures.began many
    (λ k d h. let e = (c.in_ok-done.ensures.each k d (let b = begun.ok.0 in omega arith)).1 in (e.handle, e.handle_is, e.kept.0, e.kept.1)) in
    let kept = c.work-worked.ensures.kept in
    record {
      fault = refl;
      worked = subst (AreWorked (c.captures.others.items ++ c.captures.own ∷ [])) (sym c.in_ok-push.ensures.items)
          (worked_and c.captures.others.items done.items c.captures.own c.work-worked.result others kept.0 kept.1);
    }
