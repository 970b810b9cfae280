-- Events and answers, as the definitions have them. Ours, unless a source stands beside.
use Rattle.meta_types.specs.Steps.{Answer as AnswerValue, answered, reported, refused, Event as Happening, requested, collect, remove_collect}
use Rattle.meta_types.specs.declared.reply.Reply.TheVariants as P
use Rattle.store_front.specs.declared.event.event.Event.{Event}
use Rattle.store_front.specs.declared.event.event.Event.TheVariants as E
use Rattle.store_front.specs.declared.event.event.Answer.{Answer}
use Rattle.store_front.specs.declared.event.event.Answer.TheVariants as A

-- an event
abbrev pub event_of : Event → Happening
event_of (E.Requested request) = requested request
event_of (E.Collect at dry workers) = collect at.0 dry workers
event_of (E.RemoveCollect removal at workers) = remove_collect removal at.0 workers

-- an answer
abbrev pub answer_of : Answer → AnswerValue
answer_of A.Done = answered P.Done
answer_of (A.Answered reply) = answered reply
answer_of (A.Reported report) = reported report
answer_of (A.Refused fault) = refused fault
