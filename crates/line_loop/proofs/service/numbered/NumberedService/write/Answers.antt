use Rattle.line_loop.proofs.Writers.{front_of_both, front_behind, on_err}
use Rattle.line_loop.proofs.service.numbered.NumberedService.write.Goals as goal

-- the number wasn't written whole
pub returns-in_err-write_number-clause-err : goal.returns-in_err-write_number-clause-err
returns-in_err-write_number-clause-err g c =
    on_err c.from_residual.result (front_of_both _ _ _ _ c.in_err-write_number.ensures.err)

-- nor was the reply
pub returns-in_err-write-clause-err : goal.returns-in_err-write-clause-err
returns-in_err-write-clause-err g c =
    on_err c.from_residual-in_err-write.result
    (front_behind _ _ _ _ _ c.in_ok-write_number.ensures.ok c.in_err-write.ensures.err)
