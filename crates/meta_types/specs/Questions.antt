-- Questions: each reads the store and leaves it as it was. None is an event, so no log and no list
-- has one. Ours, unless a source stands beside.
use Rattle.std.specs.Prelude.{◌≡◌, ℤ, Bool, List, map, Some, None}
use Rattle.meta_types.specs.Text.{Text}
use Rattle.meta_types.specs.Time.{instant_of}
use Rattle.meta_types.specs.Rows.{BackLists, Records, State}
use Rattle.meta_types.specs.Backends.{BackNames, object_name}
use Rattle.meta_types.specs.Shown.{Shown}
use Rattle.meta_types.specs.Steps.{Answer}
use Rattle.meta_types.specs.Explanations.{object_of, is_asked, question_fault, IsExplanation}
use Rattle.meta_types.specs.Impacts.{Impact, IsImpact, removed, impact_question_fault}
use Rattle.meta_types.specs.declared.object.Object.{Object}
use Rattle.meta_types.specs.declared.explanation.PathStep.{PathStep}

-- the answer about a row: whether a path keeps it, and that path, else the one before all ends
pub record ExplanationValue : Type 0 where
  pub kept : Bool
  pub path : List PathStep

-- the names of all objects of the backend
abbrev pub names_of : BackLists → BackNames
names_of lists = record {
  blobs = lists.blobs;
  ingests = lists.ingests;
  snapshots = map object_name lists.snapshots;
}

-- the answer to a question, each in the words of its own
pub data QuestionAnswer : Type 0 where
  explains : ExplanationValue → QuestionAnswer
  foresees : Impact → QuestionAnswer
  lists : BackNames → QuestionAnswer

-- the answer to a line: an event's, what it shows beside, or a question's
pub data LineAnswer : Type 0 where
  of_event : Answer → LineAnswer
  of_shown : Shown → LineAnswer
  of_question : QuestionAnswer → LineAnswer

-- The question has no fault, and this explains the row that it asks for, at its moment. The texts
-- are the namespace, the type, the name and the moment.
pub record IsExplanationFor (records : Records) (ns kind name at : Text) (told : ExplanationValue) : Type 0 where
  pub free : question_fault records ns kind name at ≡ None
  pub object : Object
  pub is_object : object_of kind name ≡ Some object
  pub moment : ℤ
  pub is_moment : instant_of at ≡ Some moment
  pub is_explanation : IsExplanation records moment (is_asked ns object) told.kept told.path

-- The question has no fault, and this is what would go without the row that it asks for, at its
-- moment. The texts are the namespace, the type, the name and the moment.
pub record IsImpactFor (state : State) (ns kind name at : Text) (impact : Impact) : Type 0 where
  pub free : impact_question_fault state ns kind name at ≡ None
  pub object : Object
  pub is_object : object_of kind name ≡ Some object
  pub moment : ℤ
  pub is_moment : instant_of at ≡ Some moment
  pub goes : IsImpact state (removed state ns object).after moment impact
