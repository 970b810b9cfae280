-- The worked scripts, computed line by line.
use Rattle.std.proofs.Common.{◌≡◌, ◌∙◌, refl, sym, ap, subst, ℕ, ◌==◌, false, List, [], ◌∷◌, ◌++◌, length, Option, Some, None, nat_lt, codes, append_assoc}
use Rattle.std.specs.Str.{is_utf8, chars}
use Rattle.std.specs.Char.{encode_utf8}
use Rattle.std.specs.Fmt.{digits}
use Rattle.serde_json.proofs.OnLiterals.{serde_json_on_literals}
use Rattle.meta_types.specs.Text.{Text}
use Rattle.meta_types.specs.Rows.{State, empty_store}
use Rattle.meta_types.specs.Backends.{no_objects}
use Rattle.meta_types.specs.Reports.{Report}
use Rattle.meta_types.specs.Steps.{Answer, answered, reported, refused, after, collect}
use Rattle.meta_types.specs.Questions.{of_event}
use Rattle.meta_types.specs.declared.fault.Fault.TheVariants.{AlreadyExists, BadLine}
use Rattle.meta_types.specs.declared.reply.Reply.TheVariants as P
use Rattle.meta_types.specs.declared.request.Request.TheVariants as R
use Rattle.meta_types.specs.Worked.{a, b, c, x, adds, adds_image, content_label, after_all, first_of_march, plain_report, nothing_removed, one_namespace as kept_one}
use Rattle.meta_types.specs.Worked.Images.{with_image, image_alone}
use Rattle.meta_types.proofs.WorkedScripts.{an_image_keeps_its_content}
use Rattle.request_line.specs.Lines.{command_in, command_from, command_by}
use Rattle.request_line.specs.declared.command.Command.{Command}
use Rattle.request_line.specs.declared.command.Command.TheVariants as A
use Rattle.reply_line.specs.Replies.{answer_text}
use Rattle.scripts.specs.Lines.{short_request, with_line_feed}
use Rattle.scripts.specs.LineSteps.{supplied_answer, command_step, answer_step, line_step, IsTrueOf, IsTrueAt}
use Rattle.scripts.specs.Output.{output_from, AreTrue}
use Rattle.scripts.specs.WorkedScripts.{text_of, requests, replies, collecting, collected, report_text, adding, done, RequestsAreAnswered, ACollectionIsAnswered}
use Rattle.scripts.proofs.LineAnswers.{line_step-answer, true_at}
use Rattle.scripts.proofs.Outcomes.{no_event_has_another_step}
use Rattle.scripts.proofs.WholeScripts.{answers_script}

-- these replies are the output for the lines, from the store on
abbrev Gives : State → List (List ℕ) → List Text → Type 0
Gives state lines replies =
    (text_of replies ≡ output_from state [] lines) × AreTrue state [] lines

no_more : (state : State) → Gives state [] []
no_more state = (refl, tt)

-- the step of a line
abbrev StepsTo : State → List ℕ → List ℕ → State → Type 0
StepsTo state line reply new =
    (line_step state None line ≡ (reply, new)) × IsTrueAt state None line

-- bytes of a line's reply, and then those of the others
bytes_then : (state new : State) (line reply : List ℕ) (lines : List (List ℕ)) (rest : List ℕ)
    → StepsTo state line reply new
    → (rest ≡ output_from new [] lines) × AreTrue new [] lines
    → ((reply ++ rest) ≡ output_from state [] (line ∷ lines)) × AreTrue state [] (line ∷ lines)
bytes_then state new line reply lines rest step more = (
  ap (λ after. reply ++ after) more.0
      ∙ ap (λ (p : List ℕ × State). p.0 ++ output_from p.1 [] lines) (sym step.0),
  (
    step.1,
    subst (λ (now : State). AreTrue now [] lines)
        (ap (λ (p : List ℕ × State). p.1) (sym step.0)) more.1,
  ),
)

-- a line, and then the others
line_then : (state new : State) (line : List ℕ) (reply : Text) (lines : List (List ℕ))
    (replies : List Text) → StepsTo state line (with_line_feed reply) new
    → Gives new lines replies → Gives state (line ∷ lines) (reply ∷ replies)
line_then state new line reply lines replies step more =
    let both =
    bytes_then state new line (with_line_feed reply) lines (text_of replies) step more in
    (sym (append_assoc reply (10 ∷ []) (text_of replies)) ∙ both.0, both.1)

passes_over : (state : State) → StepsTo state [] [] state
unfolding line_step
passes_over state = (refl, tt)

-- an empty line, and then the others
empty_then : (state : State) (lines : List (List ℕ)) (replies : List Text)
    → Gives state lines replies → Gives state ([] ∷ lines) replies
empty_then state lines replies more =
    bytes_then state state [] [] lines (text_of replies) (passes_over state) more

-- the answer of an event
told_true : (state : State) (command : Option Command) (answer : Answer)
    → IsTrueOf state command (of_event answer)
told_true state command answer = tt

answers_so : (state new : State) (line : List ℕ) (answer : Answer) (text : Text)
    → (length line == 0) ≡ false
    → answer_step state None line ≡ (of_event answer, new) → answer_text answer ≡ text
    → StepsTo state line (with_line_feed text) new
answers_so state new line answer text full step is = (
  line_step-answer state None line (of_event answer) new full step
      ∙ (λ j. (with_line_feed (is j), new)),
  true_at state None line (of_event answer) new step
      (told_true state (short_request line) answer),
)

-- a line that asks for this
asks_for : (state new : State) (line : List ℕ) (command : Command) (answer : Answer) (text : Text)
    → nat_lt 65536 (length line) ≡ false → (length line == 0) ≡ false
    → command_in line ≡ Some command
    → command_step state (supplied_answer None) command ≡ (of_event answer, new)
    → answer_text answer ≡ text
    → StepsTo state line (with_line_feed text) new
asks_for state new line command answer text short full is step told =
    let whole : answer_step state None line ≡ command_step state (supplied_answer None) command
    = rw (short, is) refl in
    answers_so state new line answer text full (whole ∙ step) told

-- a line that is no request
asks_nothing : (state : State) (line : List ℕ) (text : Text)
    → nat_lt 65536 (length line) ≡ false → (length line == 0) ≡ false
    → command_in line ≡ None → answer_text (refused BadLine) ≡ text
    → StepsTo state line (with_line_feed text) state
asks_nothing state line text short full is told =
    let whole : answer_step state None line ≡ (of_event (refused BadLine), state)
    = rw (short, is) refl in
    answers_so state state line (refused BadLine) text full whole told

-- ---- the texts of replies

pub done_text : answer_text (answered P.Done) ≡ codes "{\"ok\":true}"
unfolding answer_text serde_json_on_literals digits
done_text = refl

exists_text : answer_text (refused AlreadyExists) ≡ codes "{\"fault\":3,\"name\":\"AlreadyExists\"}"
unfolding answer_text serde_json_on_literals digits
exists_text = refl

names_text : answer_text (answered (P.Names (codes "x" ∷ [])))
    ≡ codes "{\"names\":[\"x\"],\"ok\":true}"
unfolding answer_text serde_json_on_literals digits
names_text = refl

bad_text : answer_text (refused BadLine) ≡ codes "{\"fault\":5,\"name\":\"BadLine\"}"
unfolding answer_text serde_json_on_literals digits
bad_text = refl

-- ---- what lines ask for

pub asks_ns_add : command_in (codes "{\"op\":\"ns.add\",\"ns\":\"x\"}")
    ≡ Some (A.Request (R.NsAdd (codes "x")))
unfolding command_in command_from command_by is_utf8 chars encode_utf8 serde_json_on_literals
asks_ns_add = refl

asks_ns_add_again : command_in (codes " { \"ns\" : \"x\", \"op\" : \"ns.\\u0061dd\" } ")
    ≡ Some (A.Request (R.NsAdd (codes "x")))
unfolding command_in command_from command_by is_utf8 chars encode_utf8 serde_json_on_literals
asks_ns_add_again = refl

asks_ns_list : command_in (codes "{\"op\":\"ns.list\"}") ≡ Some (A.Request R.NsList)
unfolding command_in command_from command_by is_utf8 chars encode_utf8 serde_json_on_literals
asks_ns_list = refl

asks_no_op : command_in (codes "{\"op\":\"ns.mend\"}") ≡ None
unfolding command_in command_from command_by is_utf8 chars encode_utf8 serde_json_on_literals
asks_no_op = refl

-- ---- requests

abbrev pub one_namespace : State
one_namespace = after_all empty_store (R.NsAdd (codes "x") ∷ [])

abbrev pub add_line : Text
add_line = codes "{\"op\":\"ns.add\",\"ns\":\"x\"}"

abbrev again_line : Text
again_line = codes " { \"ns\" : \"x\", \"op\" : \"ns.\\u0061dd\" } "

abbrev list_line : Text
list_line = codes "{\"op\":\"ns.list\"}"

abbrev mend_line : Text
mend_line = codes "{\"op\":\"ns.mend\"}"

abbrev there : Text
there = codes "{\"fault\":3,\"name\":\"AlreadyExists\"}"

abbrev names : Text
names = codes "{\"names\":[\"x\"],\"ok\":true}"

abbrev bad : Text
bad = codes "{\"fault\":5,\"name\":\"BadLine\"}"

from_mend : Gives one_namespace (mend_line ∷ []) (bad ∷ [])
from_mend =
    line_then one_namespace one_namespace mend_line bad [] []
    (asks_nothing one_namespace mend_line bad refl refl asks_no_op bad_text)
    (no_more one_namespace)

from_list : Gives one_namespace (list_line ∷ mend_line ∷ []) (names ∷ bad ∷ [])
from_list =
    line_then one_namespace one_namespace list_line names (mend_line ∷ []) (bad ∷ [])
    (asks_for one_namespace one_namespace list_line (A.Request R.NsList)
    (answered (P.Names (codes "x" ∷ []))) names refl refl asks_ns_list refl names_text) from_mend

from_again : Gives one_namespace (again_line ∷ list_line ∷ mend_line ∷ [])
    (there ∷ names ∷ bad ∷ [])
from_again =
    line_then one_namespace one_namespace again_line there (list_line ∷ mend_line ∷ [])
    (names ∷ bad ∷ [])
    (asks_for one_namespace one_namespace again_line (A.Request (R.NsAdd (codes "x")))
    (refused AlreadyExists) there refl refl asks_ns_add_again refl exists_text) from_list

from_add : Gives empty_store (add_line ∷ [] ∷ again_line ∷ list_line ∷ mend_line ∷ [])
    (done ∷ there ∷ names ∷ bad ∷ [])
from_add =
    line_then empty_store one_namespace add_line done
    ([] ∷ again_line ∷ list_line ∷ mend_line ∷ []) (there ∷ names ∷ bad ∷ [])
    (asks_for empty_store one_namespace add_line (A.Request (R.NsAdd (codes "x")))
    (answered P.Done) done refl refl asks_ns_add refl done_text)
    (empty_then one_namespace (again_line ∷ list_line ∷ mend_line ∷ [])
    (there ∷ names ∷ bad ∷ []) from_again)

-- three requests, an empty line and a line that is no request are answered, byte for byte
pub requests_are_answered : RequestsAreAnswered
requests_are_answered =
    answers_script (text_of requests) (text_of replies) ([], from_add.0, from_add.1)

-- ---- a collection

abbrev added_b : State
added_b = after one_namespace (adds b [])

abbrev added_a : State
added_a = after added_b (adds a (content_label b))

abbrev added_c : State
added_c = after added_a (adds c [])

abbrev the_report : Report
the_report = plain_report (record no_objects { blobs = c ∷ [] })
    (record kept_one { content = 2; images = 1 })
    (record nothing_removed { content = (x, c) ∷ [] }) 2

the_report_text : answer_text (reported the_report) ≡ report_text
unfolding answer_text serde_json_on_literals digits
the_report_text = refl

asks_b : command_in (adding b (codes "\"}")) ≡ Some (A.Request (adds b []))
unfolding command_in command_from command_by is_utf8 chars encode_utf8 serde_json_on_literals
asks_b = refl

asks_a : command_in (adding a (codes "\",\"labels\":{\"containerd.io/gc.ref.content.0\":\"" ++ (b
    ++ codes "\"}}")))
    ≡ Some (A.Request (adds a (content_label b)))
unfolding command_in command_from command_by is_utf8 chars encode_utf8 serde_json_on_literals
asks_a = refl

asks_c : command_in (adding c (codes "\"}")) ≡ Some (A.Request (adds c []))
unfolding command_in command_from command_by is_utf8 chars encode_utf8 serde_json_on_literals
asks_c = refl

asks_image : command_in (codes "{\"op\":\"image.add\",\"ns\":\"x\",\"name\":\"i\",\"target\":\""
    ++ (a ++ codes "\"}"))
    ≡ Some (A.Request (adds_image a []))
unfolding command_in command_from command_by is_utf8 chars encode_utf8 serde_json_on_literals
asks_image = refl

asks_gc : command_in (codes "{\"op\":\"gc.run\",\"at\":\"2024-03-01T00:00:00Z\"}")
    ≡ Some (A.Collect (codes "2024-03-01T00:00:00Z") false)
unfolding command_in command_from command_by is_utf8 chars encode_utf8 serde_json_on_literals
asks_gc = refl

abbrev gc_line : Text
gc_line = codes "{\"op\":\"gc.run\",\"at\":\"2024-03-01T00:00:00Z\"}"

abbrev asks_now : Command
asks_now = A.Collect (codes "2024-03-01T00:00:00Z") false

-- the time is read, and the collection is the worked one
the_collection : command_step with_image (supplied_answer None) asks_now
    ≡ (of_event (reported the_report), image_alone)
the_collection =
    let s =
    no_event_has_another_step with_image (collect first_of_march false 1) (reported the_report)
    image_alone (refl, an_image_keeps_its_content) in
    (λ j. (of_event (sym s.0 j), sym s.1 j))

abbrev b_line : Text
b_line = adding b (codes "\"}")

abbrev a_line : Text
a_line = adding a
    (codes "\",\"labels\":{\"containerd.io/gc.ref.content.0\":\"" ++ (b ++ codes "\"}}"))

abbrev c_line : Text
c_line = adding c (codes "\"}")

abbrev image_line : Text
image_line =
    codes "{\"op\":\"image.add\",\"ns\":\"x\",\"name\":\"i\",\"target\":\"" ++ (a ++ codes "\"}")

from_gc : Gives with_image (gc_line ∷ []) (report_text ∷ [])
from_gc =
    line_then with_image image_alone gc_line report_text [] []
    (asks_for with_image image_alone gc_line asks_now (reported the_report) report_text refl refl
    asks_gc the_collection the_report_text) (no_more image_alone)

from_image : Gives added_c (image_line ∷ gc_line ∷ []) (done ∷ report_text ∷ [])
from_image =
    line_then added_c with_image image_line done (gc_line ∷ []) (report_text ∷ [])
    (asks_for added_c with_image image_line (A.Request (adds_image a [])) (answered P.Done)
    done refl refl asks_image refl done_text) from_gc

from_c : Gives added_a (c_line ∷ image_line ∷ gc_line ∷ []) (done ∷ done ∷ report_text ∷ [])
from_c =
    line_then added_a added_c c_line done (image_line ∷ gc_line ∷ []) (done ∷ report_text ∷ [])
    (asks_for added_a added_c c_line (A.Request (adds c [])) (answered P.Done) done refl refl
    asks_c refl done_text) from_image

from_a : Gives added_b (a_line ∷ c_line ∷ image_line ∷ gc_line ∷ [])
    (done ∷ done ∷ done ∷ report_text ∷ [])
from_a =
    line_then added_b added_a a_line done (c_line ∷ image_line ∷ gc_line ∷ [])
    (done ∷ done ∷ report_text ∷ [])
    (asks_for added_b added_a a_line (A.Request (adds a (content_label b))) (answered P.Done) done
    refl refl asks_a refl done_text) from_c

from_b : Gives one_namespace (b_line ∷ a_line ∷ c_line ∷ image_line ∷ gc_line ∷ [])
    (done ∷ done ∷ done ∷ done ∷ report_text ∷ [])
from_b =
    line_then one_namespace added_b b_line done (a_line ∷ c_line ∷ image_line ∷ gc_line ∷ [])
    (done ∷ done ∷ done ∷ report_text ∷ [])
    (asks_for one_namespace added_b b_line (A.Request (adds b [])) (answered P.Done) done refl refl
    asks_b refl done_text) from_a

from_start : Gives empty_store
    (add_line ∷ b_line ∷ a_line ∷ c_line ∷ image_line ∷ gc_line ∷ [])
    (done ∷ done ∷ done ∷ done ∷ done ∷ report_text ∷ [])
from_start =
    line_then empty_store one_namespace add_line done
    (b_line ∷ a_line ∷ c_line ∷ image_line ∷ gc_line ∷ [])
    (done ∷ done ∷ done ∷ done ∷ report_text ∷ [])
    (asks_for empty_store one_namespace add_line (A.Request (R.NsAdd x)) (answered P.Done) done
    refl refl asks_ns_add refl done_text) from_b

-- five additions and a collection are answered, byte for byte, with the report
pub a_collection_is_answered : ACollectionIsAnswered
a_collection_is_answered =
    answers_script (text_of collecting) (text_of collected)
    ([], from_start.0, from_start.1)
