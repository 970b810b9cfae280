-- The worked script that asks about an end, computed line by line.
use Rattle.std.proofs.Common.{◌≡◌, refl, sym, ap, ◌==◌, false, List, [], ◌∷◌, ◌++◌, length, Some, None, nat_lt, codes, append_assoc}
use Rattle.std.specs.Str.{is_utf8, chars}
use Rattle.std.specs.Char.{encode_utf8}
use Rattle.std.specs.Fmt.{digits}
use Rattle.serde_json.proofs.OnLiterals.{serde_json_on_literals}
use Rattle.meta_types.specs.Text.{Text}
use Rattle.meta_types.specs.Rows.{State, empty_store}
use Rattle.meta_types.specs.Ops.{least_fault}
use Rattle.meta_types.specs.Requests.{outcome}
use Rattle.meta_types.specs.Steps.{answered, after}
use Rattle.meta_types.specs.Questions.{ExplanationValue, explains, LineAnswer, of_event, of_question}
use Rattle.meta_types.specs.declared.reply.Reply.TheVariants as P
use Rattle.meta_types.specs.declared.request.Request.{Request}
use Rattle.meta_types.specs.declared.request.Request.TheVariants as R
use Rattle.meta_types.specs.Worked.{a, x, adds_lease, adds_held, first_of_march_text}
use Rattle.meta_types.specs.Worked.Images.{leased}
use Rattle.request_line.specs.Lines.{command_in, command_from, command_by}
use Rattle.request_line.specs.declared.command.Command.TheVariants as A
use Rattle.reply_line.specs.Explained.{told_text, line_answer_text}
use Rattle.scripts.specs.Lines.{with_line_feed}
use Rattle.scripts.specs.WholeScripts.{IsAnswered, AnswersLines}
use Rattle.scripts.specs.WorkedScripts.{text_of, adding, done, asking, explanation_text, AnEndIsExplained}
use Rattle.scripts.proofs.LeaseEnds.{end_labels, kept, ended, just_after_text, IsRight, kept_is_right, ended_is_right}
use Rattle.scripts.proofs.WorkedScripts.{done_text, asks_ns_add, add_line, one_namespace}

-- ---- lines

-- a line is answered so, and then the others
line_then : (state new : State) (line : Text) (answer : LineAnswer) (text : Text)
    (lines : List Text) (rest : Text) → (length line == 0) ≡ false
    → line_answer_text answer ≡ text → IsAnswered state line answer new
    → AnswersLines new lines rest → AnswersLines state (line ∷ lines) (text ++ 10 ∷ rest)
line_then state new [] answer text lines rest full told is more = absurd cc
line_then state new (byte ∷ line) answer text lines rest full told is more = (
  with_line_feed text,
  new,
  (answer, ap with_line_feed (sym told), is),
  rest,
  sym (append_assoc text (10 ∷ []) rest),
  more,
)

-- the line isn't empty, and not too long
abbrev IsRead : Text → Type 0
IsRead line = ((length line == 0) ≡ false) × (nat_lt 65536 (length line) ≡ false)

module _ (line : Text) (read : IsRead line) (lines : List Text) (rest : Text) where
  -- its request is done
  done_then : (state : State) (request : Request) → command_in line ≡ Some (A.Request request)
      → least_fault (outcome state request) ≡ None → (outcome state request).reply ≡ P.Done
      → AnswersLines (outcome state request).after lines rest
      → AnswersLines state (line ∷ lines) (done ++ 10 ∷ rest)
  done_then state request asks free reply more =
      line_then state (outcome state request).after line (of_event (answered P.Done)) done
      lines rest read.0 done_text (
        A.Request request,
        rw (read.1, asks) refl,
        rw (read.1, asks) free,
        (sym reply, refl),
      ) more

  -- it asks what keeps the content
  told_then : (at : Text) (told : ExplanationValue) (text : Text)
      → command_in line ≡ Some (A.Explain x (codes "content") a at) → IsRight at told
      → told_text told ≡ text → AnswersLines leased lines rest
      → AnswersLines leased (line ∷ lines) (text ++ 10 ∷ rest)
  told_then at told text asks right is_text more =
      line_then leased leased line (of_question (explains told)) text lines rest read.0 is_text (
        A.Explain x (codes "content") a at,
        rw (read.1, asks) refl,
        rw (read.1, asks) right.free,
        (right, refl),
      ) more

abbrev lease_line : Text
lease_line = codes "{\"op\":\"lease.add\",\"ns\":\"x\",\"id\":\"l\","
    ++ codes "\"labels\":{\"containerd.io/gc.expire\":\"2024-03-01T00:00:00Z\"}}"

abbrev held_line : Text
held_line = adding a (codes "\",\"lease\":\"l\"}")

abbrev end_line : Text
end_line = asking first_of_march_text

abbrev later_line : Text
later_line = asking just_after_text

-- ---- what they ask for

asks_lease : command_in lease_line ≡ Some (A.Request (adds_lease end_labels))
unfolding command_in command_from command_by is_utf8 chars encode_utf8 serde_json_on_literals
asks_lease = refl

asks_held : command_in held_line ≡ Some (A.Request (adds_held a))
unfolding command_in command_from command_by is_utf8 chars encode_utf8 serde_json_on_literals
asks_held = refl

asks_at_end : command_in end_line ≡ Some (A.Explain x (codes "content") a first_of_march_text)
unfolding command_in command_from command_by is_utf8 chars encode_utf8 serde_json_on_literals
asks_at_end = refl

asks_later : command_in later_line ≡ Some (A.Explain x (codes "content") a just_after_text)
unfolding command_in command_from command_by is_utf8 chars encode_utf8 serde_json_on_literals
asks_later = refl

-- ---- the texts of the explanations

abbrev kept_reply : Text
kept_reply = explanation_text (codes "true") (codes "root")

abbrev ended_reply : Text
ended_reply = explanation_text (codes "false") (codes "ended")

kept_text : told_text kept ≡ kept_reply
unfolding told_text serde_json_on_literals digits
kept_text = refl

ended_text : told_text ended ≡ ended_reply
unfolding told_text serde_json_on_literals digits
ended_text = refl

-- ---- the script, from its last line back

abbrev with_lease : State
with_lease = after one_namespace (adds_lease end_labels)

from_later : AnswersLines leased (later_line ∷ []) (text_of (ended_reply ∷ []))
from_later =
    told_then later_line (refl, refl) [] [] just_after_text ended ended_reply asks_later
    ended_is_right ended_text refl

from_end : AnswersLines leased (end_line ∷ later_line ∷ [])
    (text_of (kept_reply ∷ ended_reply ∷ []))
from_end =
    told_then end_line (refl, refl) (later_line ∷ []) (text_of (ended_reply ∷ []))
    first_of_march_text kept kept_reply asks_at_end kept_is_right kept_text from_later

from_held : AnswersLines with_lease (held_line ∷ end_line ∷ later_line ∷ [])
    (text_of (done ∷ kept_reply ∷ ended_reply ∷ []))
from_held =
    done_then held_line (refl, refl) (end_line ∷ later_line ∷ [])
    (text_of (kept_reply ∷ ended_reply ∷ [])) with_lease (adds_held a) asks_held refl refl from_end

from_lease : AnswersLines one_namespace (lease_line ∷ held_line ∷ end_line ∷ later_line ∷ [])
    (text_of (done ∷ done ∷ kept_reply ∷ ended_reply ∷ []))
from_lease =
    done_then lease_line (refl, refl) (held_line ∷ end_line ∷ later_line ∷ [])
    (text_of (done ∷ kept_reply ∷ ended_reply ∷ [])) one_namespace (adds_lease end_labels)
    asks_lease refl refl from_held

-- the lease keeps its content at its end, and a nanosecond later it is the last that kept it
pub an_end_is_explained : AnEndIsExplained
an_end_is_explained =
    done_then add_line (refl, refl) (lease_line ∷ held_line ∷ end_line ∷ later_line ∷ [])
    (text_of (done ∷ done ∷ kept_reply ∷ ended_reply ∷ [])) empty_store (R.NsAdd x) asks_ns_add
    refl refl from_lease
