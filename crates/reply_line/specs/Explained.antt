-- The JSON of explanations, their text, and the text of what a line is answered. Members stand in
-- the byte order of their names. Ours, unless a source stands beside.
use Rattle.std.specs.Prelude.{true, Option, Some, None, codes, option_map}
use Rattle.serde_json.specs.Data.{Data, boolean, string, object, no_members, member}
use Rattle.serde_json.specs.Written.{compact_text}
use Rattle.meta_types.specs.Text.{Text}
use Rattle.meta_types.specs.Resources.{type_of, id_of}
use Rattle.meta_types.specs.Questions.{ExplanationValue, QuestionAnswer, explains, foresees, lists, LineAnswer, of_event, of_shown, of_question}
use Rattle.meta_types.specs.declared.resource.Mode.{Mode}
use Rattle.meta_types.specs.declared.resource.Mode.TheVariants.{Full, Flat}
use Rattle.meta_types.specs.declared.object.Object.{Object}
use Rattle.meta_types.specs.declared.object.Object.TheVariants.{Image, Container, Lease, Held}
use Rattle.meta_types.specs.declared.explanation.By.{By}
use Rattle.meta_types.specs.declared.explanation.By.TheVariants.{Root, Ended, Target, Snapshot, Resource, Expected, Parent, Label}
use Rattle.meta_types.specs.declared.explanation.PathStep.{PathStep}
use Rattle.meta_types.specs.declared.explanation.Explanation.{Explanation}
use Rattle.gc_report.specs.Reports.{list_data, member_if}
use Rattle.reply_line.specs.Replies.{answer_text}
use Rattle.reply_line.specs.Foreseen.{impact_text}
use Rattle.reply_line.specs.Shown.{shows_text, objects_text}

-- ---- steps

abbrev pub by_text : By → Text
by_text Root = codes "root"
by_text Ended = codes "ended"
by_text Target = codes "target"
by_text Snapshot = codes "snapshot"
by_text Resource = codes "resource"
by_text Expected = codes "expected"
by_text Parent = codes "parent"
by_text (Label key) = codes "label"

-- the key of the label, where one references the thing
abbrev pub label_in : By → Option Data
label_in (Label key) = Some (string key)
label_in by = None

-- flat references don't follow labels (containerd garbage-collection.md, `containerd.io/gc.flat`)
abbrev pub mode_text : Mode → Text
mode_text Full = codes "full"
mode_text Flat = codes "flat"

abbrev pub mode_in : Option Mode → Option Data
mode_in mode = option_map (λ m. string (mode_text m)) mode

-- the type and the name, as a question gives them
abbrev pub object_type : Object → Text
object_type (Image name) = codes "images"
object_type (Container name) = codes "containers"
object_type (Lease id) = codes "leases"
object_type (Held resource) = type_of resource

abbrev pub object_name : Object → Text
object_name (Image name) = name
object_name (Container name) = name
object_name (Lease id) = id
object_name (Held resource) = id_of resource

-- a thing of a path; a member that says nothing is left out
abbrev pub step_data : PathStep → Data
step_data step = object
    (member (codes "by") (string (by_text step.by))
    (member_if (codes "expire") (option_map string step.expire)
    (member_if (codes "label") (label_in step.by)
    (member_if (codes "mode") (mode_in step.mode)
    (member (codes "name") (string (object_name step.object))
    (member (codes "type") (string (object_type step.object)) no_members))))))

-- ---- replies

-- an explanation; where nothing keeps the row, `kept` is false
abbrev pub told_data : ExplanationValue → Data
told_data told = object
    (member (codes "kept") (boolean told.kept)
    (member (codes "ok") (boolean true)
    (member (codes "path") (list_data step_data told.path) no_members)))

-- what an explanation of the program tells
abbrev pub told_of : Explanation → ExplanationValue
told_of explanation = record { kept = explanation.kept; path = explanation.path.items }

-- the text of an explanation, without a line feed
unfoldable pub told_text : ExplanationValue → Text
told_text told = compact_text (told_data told)

-- the text of the answer to a question
abbrev pub question_answer_text : QuestionAnswer → Text
question_answer_text (explains told) = told_text told
question_answer_text (foresees impact) = impact_text impact
question_answer_text (lists names) = objects_text names

-- the text of what a line is answered
abbrev pub line_answer_text : LineAnswer → Text
line_answer_text (of_event answer) = answer_text answer
line_answer_text (of_shown shown) = shows_text shown
line_answer_text (of_question given) = question_answer_text given
