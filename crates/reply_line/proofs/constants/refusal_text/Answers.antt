use Rattle.reply_line.proofs.ConstantTexts as text
use Rattle.reply_line.proofs.constants.refusal_text.Goals as goal

pub returns-in-InvalidArgument : goal.returns-in-InvalidArgument
returns-in-InvalidArgument c = rw c.in-InvalidArgument.is text.invalid_argument

pub returns-in-NotFound : goal.returns-in-NotFound
returns-in-NotFound c = rw c.in-NotFound.is text.not_found

pub returns-in-AlreadyExists : goal.returns-in-AlreadyExists
returns-in-AlreadyExists c = rw c.in-AlreadyExists.is text.already_exists

pub returns-in-FailedPrecondition : goal.returns-in-FailedPrecondition
returns-in-FailedPrecondition c = rw c.in-FailedPrecondition.is text.failed_precondition

pub returns-in-BadLine : goal.returns-in-BadLine
returns-in-BadLine c = rw c.in-BadLine.is text.bad_line

pub returns-in-TooLong : goal.returns-in-TooLong
returns-in-TooLong c = rw c.in-TooLong.is text.too_long

pub returns-in-OutOfMemory : goal.returns-in-OutOfMemory
returns-in-OutOfMemory c = rw c.in-OutOfMemory.is text.out_of_memory

pub returns-in-NoWorker : goal.returns-in-NoWorker
returns-in-NoWorker c = rw c.in-NoWorker.is text.no_worker

pub returns-in-BackendFailed : goal.returns-in-BackendFailed
returns-in-BackendFailed c = rw c.in-BackendFailed.is text.backend_failed

pub returns-in-ReadFailed : goal.returns-in-ReadFailed
returns-in-ReadFailed c = rw c.in-ReadFailed.is text.read_failed

pub returns-in-WriteFailed : goal.returns-in-WriteFailed
returns-in-WriteFailed c = rw c.in-WriteFailed.is text.write_failed

pub returns-in-Mismatch : goal.returns-in-Mismatch
returns-in-Mismatch c = rw c.in-Mismatch.is (text.mismatch c.in-Mismatch.place)
