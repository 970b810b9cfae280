-- What the program's answers to lines mean. Ours, unless a source stands beside.
use Rattle.std.specs.Box.{box_value}
use Rattle.meta_types.specs.Steps.{answered, reported, refused}
use Rattle.meta_types.specs.Shown.{was_there, shows_rows}
use Rattle.meta_types.specs.Questions.{LineAnswer, of_event, of_shown, of_question, explains, foresees, lists}
use Rattle.reply_line.specs.Explained.{told_of}
use Rattle.scripts.specs.declared.line_answer.LineAnswer.{LineAnswer as Made}
use Rattle.scripts.specs.declared.line_answer.LineAnswer.TheVariants.{Replied, Shown, There, Listed, Reported, Removed, Refused, Explained, Foreseen, Objects}

-- an answer of the program is this one of the definitions
abbrev pub line_answer_of : Made → LineAnswer
line_answer_of (Replied reply) = of_event (answered reply)
line_answer_of (Shown row changes) = of_shown row
line_answer_of There = of_shown was_there
line_answer_of (Listed rows) = of_shown (shows_rows rows.items)
line_answer_of (Reported report) = of_event (reported (box_value report))
line_answer_of (Removed report) = of_event (reported (box_value report))
line_answer_of (Refused fault) = of_event (refused fault)
line_answer_of (Explained explanation) = of_question (explains (told_of explanation))
line_answer_of (Foreseen impact) = of_question (foresees impact)
line_answer_of (Objects objects) = of_question (lists (box_value objects))
