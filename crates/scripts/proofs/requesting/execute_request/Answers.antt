use Rattle.std.proofs.Common.{refl}
use Rattle.meta_types.specs.Steps.{requested}
use Rattle.request_line.specs.declared.command.Command.TheVariants as A
use Rattle.scripts.proofs.Served.{no_memory, reply_ok, reply_err}
use Rattle.scripts.proofs.requesting.execute_request.Goals as goal

-- no memory would be left
pub returns-in_default-clause-err : goal.returns-in_default-clause-err
returns-in_default-clause-err g c =
    no_memory c.args.locked.now.store.state (A.Request c.args.request.now) _ refl

-- the reply of the step
pub returns-clause-ok : goal.returns-clause-ok
returns-clause-ok g c =
    reply_ok c.args.locked.now.store.state c.apply-reply.new.self.store.state
    (A.Request c.args.request.now) (requested c.args.request.now) refl
    c.args.locked.now.store.failures c.apply-reply.new.self.store.failures
    c.never_failed.ensures c.never_failed-2.ensures c.apply-reply.result
    c.apply-reply.ensures.step

-- the refusal of the step, or OutOfMemory
pub returns-clause-err : goal.returns-clause-err
returns-clause-err g c =
    reply_err c.args.locked.now.store.state c.apply-reply.new.self.store.state
    (A.Request c.args.request.now) (requested c.args.request.now) refl
    c.args.locked.now.store.failures c.apply-reply.new.self.store.failures
    c.never_failed.ensures c.never_failed-2.ensures c.apply-reply.result _
    c.apply-reply.ensures.step c.apply-reply.ensures.fault c.apply-reply.ensures.failures
