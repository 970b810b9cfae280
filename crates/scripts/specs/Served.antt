-- When a request is served, and when refused. Ours, unless a source stands beside.
use Rattle.std.specs.Prelude.{◌≡◌, ◌⊎◌, true, None, Some}
use Rattle.meta_types.specs.Rows.{State}
use Rattle.meta_types.specs.Ops.{least_fault}
use Rattle.meta_types.specs.Requests.{outcome}
use Rattle.meta_types.specs.Steps.{refused}
use Rattle.meta_types.specs.Questions.{QuestionAnswer, LineAnswer, of_event}
use Rattle.meta_types.specs.declared.fault.Fault.{Fault}
use Rattle.meta_types.specs.declared.fault.Fault.TheVariants.{OutOfMemory, NoWorker}
use Rattle.meta_types.specs.declared.reply.Reply.{Reply}
use Rattle.meta_types.specs.declared.request.Request.{Request}
use Rattle.request_line.specs.declared.command.Command.{Command}
use Rattle.scripts.specs.LineSteps.{command_step, IsTrueOf}
use Rattle.scripts.specs.Lines.{asks_collection}

-- the request is answered so, what it tells is right, and it leaves this store
abbrev pub IsServed : State → Command → LineAnswer → State → Type 0
IsServed old command answer new = IsTrueOf old (Some command) answer × (given : QuestionAnswer)
    × (command_step old given command ≡ (answer, new))

-- memory ran out, or a thread for a collection couldn't be started, and nothing changed; or this
-- fault is the answer
abbrev pub IsRefused : State → Command → Fault → State → Type 0
IsRefused old command fault new =
    ((fault ≡ OutOfMemory) × (new ≡ old))
    ⊎ ((fault ≡ NoWorker) × (asks_collection (Some command) ≡ true) × (new ≡ old))
    ⊎ IsServed old command (of_event (refused fault)) new

-- the request has no fault, and is done
abbrev pub IsExecuted : State → Request → Reply → State → Type 0
IsExecuted old request reply new = (least_fault (outcome old request) ≡ None)
    × (reply ≡ (outcome old request).reply) × (new ≡ (outcome old request).after)

-- memory ran out, or this is the least fault of the request; nothing changed
abbrev pub IsTurnedDown : State → Request → Fault → State → Type 0
IsTurnedDown old request fault new =
    ((fault ≡ OutOfMemory) ⊎ (least_fault (outcome old request) ≡ Some fault)) × (new ≡ old)
