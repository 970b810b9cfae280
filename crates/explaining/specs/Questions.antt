-- The things that a question asks for. Ours, unless a source stands beside.
use Rattle.std.specs.Prelude.{Bool}
use Rattle.meta_types.specs.Paths.{Thing}
use Rattle.meta_types.specs.Explanations.{is_asked}
use Rattle.explaining.specs.declared.asked.Question.{Question}

abbrev pub asked_by : Question → Thing → Bool
asked_by question = is_asked question.ns.now question.object.now
