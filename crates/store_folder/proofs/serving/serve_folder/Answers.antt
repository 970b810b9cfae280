use Rattle.std.proofs.Common.{refl, [], rules}
use Rattle.store_folder.proofs.GoingOn.{goes_none, goes_both, restores_both, restores_here}
use Rattle.store_folder.proofs.Rounds.{answered, on_err, failed_with, restores_as}
use Rattle.store_folder.proofs.serving.serve_folder.Goals as goal

pub begin-requires : goal.begin-requires
begin-requires g c = let rests = c.requires.rests in search rules

-- nothing was read yet
pub serving-init : goal.serving-init
serving-init g c = record {
  right = λ right. c.in-Ok.ensures.ok.reads right;
  goes = λ right had. rw c.begin.ensures.same (goes_none _ _);
  stands = λ right had. rw c.begin.ensures.same (c.in-Ok.ensures.ok.stands right had);
  rests = c.in-Ok.ensures.ok.rests c.requires.rests;
}

pub go_on-requires : goal.go_on-requires
go_on-requires g c = let rests = c.serving.invariant.rests in search rules

-- one round more
pub serving-preserved : goal.serving-preserved
serving-preserved g c =
    let before = c.serving.invariant in
    let next = c.in-Ok-go_on.ensures.next in
    record {
      right = λ right. before.right (next.reads right);
      goes = λ right had.
          goes_both _ _ _ _ _ _ _ (before.goes (next.reads right) had) _ _ _ _
          (next.goes right (before.stands (next.reads right) had));
      stands = λ right had. next.stands right (before.stands (next.reads right) had);
      rests = λ clean. c.in-Ok-go_on.ensures.rests clean;
    }

-- it didn't begin
pub returns-in-Err-clause-serves : goal.returns-in-Err-clause-serves
returns-in-Err-clause-serves g c one two kept holds made found may =
    let told = c.in-Err.ensures.failed.tells (one, two) (kept, made, holds) found may in
    restores_here _ _ _ _ _ _ _ told.0 found (goes_none _ _) told.1 told.2

pub returns-in-Err-clause-answers : goal.returns-in-Err-clause-answers
returns-in-Err-clause-answers g c = on_err _ _ _ c.in-Err.ensures.error

pub returns-in-Err-clause-end : goal.returns-in-Err-clause-end
returns-in-Err-clause-end g c = on_err _ _ _ c.in-Err.ensures.error

pub returns-in-Err-clause-error : goal.returns-in-Err-clause-error
returns-in-Err-clause-error g c = failed_with _ _ c.in-Err.ensures.error refl

-- a round ended it
pub returns-in-Err-go_on-clause-serves : goal.returns-in-Err-go_on-clause-serves
returns-in-Err-go_on-clause-serves g c one two kept holds made found may =
    let last = c.in-Err-go_on.ensures.ended in
    let before = last.reads (one, two) in
    restores_as _ _ _ [] kept _ _ _ _ _ found
    (restores_both _ _ _ _ _ _ _ (c.serving.invariant.goes before (kept, made, holds)) _ _ _
    found (last.restores (one, two) (c.serving.invariant.stands before (kept, made, holds))
    found may))

pub returns-in-Err-go_on-clause-answers : goal.returns-in-Err-go_on-clause-answers
returns-in-Err-go_on-clause-answers g c =
    answered _ _ _ _ _ _ _ _ _ _ _ _ _ _ _ _ _ _ _ _ c.in-Err-go_on.ensures.ended.reads
    c.serving.invariant.goes c.serving.invariant.stands c.in-Err-go_on.ensures.ended.answers

pub returns-in-Err-go_on-clause-end : goal.returns-in-Err-go_on-clause-end
returns-in-Err-go_on-clause-end g c = c.in-Err-go_on.ensures.ended.end

pub returns-in-Err-go_on-clause-error : goal.returns-in-Err-go_on-clause-error
returns-in-Err-go_on-clause-error g c = c.in-Err-go_on.ensures.ended.error

-- more rounds than a service makes
pub returns-clause-serves : goal.returns-clause-serves
returns-clause-serves g c one two kept holds made found may =
    let right = c.close.ensures.reads (one, two) in
    let now = c.serving.invariant.stands right (kept, made, holds) in
    restores_as _ _ _ [] kept _ _ _ _ _ found
    (restores_here _ _ _ _ _ _ _ now.0 found
    (c.serving.invariant.goes right (kept, made, holds)) now.1
    (now.2.log.only found (c.close.ensures.finds found may)))

pub returns-clause-answers : goal.returns-clause-answers
returns-clause-answers g c = on_err _ _ _ c.close.ensures.ended

pub returns-clause-end : goal.returns-clause-end
returns-clause-end g c = on_err _ _ _ c.close.ensures.ended

pub returns-clause-error : goal.returns-clause-error
returns-clause-error g c = failed_with _ _ c.close.ensures.ended tt
