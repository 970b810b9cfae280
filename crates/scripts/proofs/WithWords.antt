-- A request with the words of its line: what it is answered, and what it leaves.
use Rattle.std.proofs.Common.{◌≡◌, ◌∙◌, ap, refl, sym, subst, ℕ, ◌+◌, Bool, true, false, List, Option, Some, None, Result, Ok, Err, ◌⊎◌, inl, inr, arith}
use Rattle.std.specs.Prelude.{if◌then◌else◌, is_some, not, ◌&&◌, ◌||◌, option_map, bytes_eq, codes, IfOk, IfErr}
use Rattle.std.specs.Option.{option_map_or}
use Rattle.std.proofs.lemmas.Bool.{false≢true}
use Rattle.std.proofs.lemmas.Slice.Eq.{bytes_eq-Decides}
use Rattle.meta_types.specs.Text.{Text}
use Rattle.meta_types.specs.Faults.{Refuses, least_of}
use Rattle.meta_types.specs.Rows.{State}
use Rattle.meta_types.specs.Ops.{Outcome, least_fault}
use Rattle.meta_types.specs.Requests.{outcome}
use Rattle.meta_types.specs.Steps.{answered, refused}
use Rattle.meta_types.specs.Backends.{BackNames}
use Rattle.meta_types.specs.Questions.{QuestionAnswer, lists, names_of, LineAnswer, of_event, of_shown, of_question}
use Rattle.meta_types.specs.Shown.{Shown, shows_row, was_there, shows_rows, row_named, row_shown, rows_listed, is_there, holds_there, request_done, takes_answer, takes_there, takes_words, words_fault, shown_in}
use Rattle.meta_types.specs.declared.fault.Fault.{Fault}
use Rattle.meta_types.specs.declared.fault.Fault.TheVariants.{InvalidArgument, NotFound, AlreadyExists, FailedPrecondition, BadLine, TooLong, OutOfMemory, NoWorker, BackendFailed, ReadFailed, WriteFailed, Mismatch}
use Rattle.meta_types.specs.declared.reply.Reply.{Reply}
use Rattle.meta_types.specs.declared.reply.Reply.TheVariants as R
use Rattle.meta_types.specs.declared.request.Request.{Request}
use Rattle.meta_types.specs.declared.request.Request.TheVariants as Q
use Rattle.meta_types.specs.declared.shown_row.ShownRow.{ShownRow}
use Rattle.request_core.specs.Follows.{Store, Answers, Fails, left_by}
use Rattle.request_core.specs.Foreseen.{TellsDone, reply_of}
use Rattle.request_core.specs.Listed.{IsRefusedBy, Lists}
use Rattle.request_core.specs.declared.there.Applied.{Applied}
use Rattle.request_core.specs.declared.listing.ListedRows.{ListedRows}
use Rattle.reply_line.specs.Fixed.{is_done}
use Rattle.request_line.specs.declared.command.Command.{Command}
use Rattle.request_line.specs.declared.command.Command.TheVariants as A
use Rattle.scripts.specs.LineSteps.{supplied_answer, words_step, done_with_words, command_step, IsTrueOf}
use Rattle.scripts.specs.Served.{IsServed, IsRefused, IsExecuted, IsTurnedDown}
use Rattle.scripts.specs.Showing.{asks_rows, AreReplies}
use Rattle.scripts.specs.declared.line_answer.RowReplies.{RowReplies}

-- ---- what the store's call did

-- the request is done
pub executed : (old new : Store) (request : Request) (result : Result Applied Fault)
    → Answers old request (reply_of result) new
    → IfOk result (λ applied. IsExecuted old.state request applied.reply new.state)
unfolding Answers
executed old new request (Ok applied) step = (step.0, step.1, ap (λ (s : Store). s.state) step.2)
executed old new request (Err fault) step = tt

turned : (old new : Store) (request : Request) (fault : Fault)
    → old.failures ≡ 0 → new.failures ≡ 0
    → Fails fault (least_fault (outcome old.state request)) → new ≡ left_by fault old
    → IsTurnedDown old.state request fault new.state
turned old new request InvalidArgument was is fails left =
    (inr fails, ap (λ (s : Store). s.state) left)
turned old new request NotFound was is fails left =
    (inr fails, ap (λ (s : Store). s.state) left)
turned old new request AlreadyExists was is fails left =
    (inr fails, ap (λ (s : Store). s.state) left)
turned old new request FailedPrecondition was is fails left =
    (inr fails, ap (λ (s : Store). s.state) left)
turned old new request OutOfMemory was is fails left =
    (inl refl, ap (λ (s : Store). s.state) left)
turned old new request BackendFailed was is fails left =
    let more : new.failures ≡ old.failures + 1 = ap (λ (s : Store). s.failures) left in
    absurd (omega arith)
turned old new request BadLine was is fails left = absurd fails
turned old new request TooLong was is fails left = absurd fails
turned old new request NoWorker was is fails left = absurd fails
turned old new request ReadFailed was is fails left = absurd fails
turned old new request WriteFailed was is fails left = absurd fails
turned old new request (Mismatch place) was is fails left = absurd fails

-- it is refused, and no device failed
pub turned_down : (old new : Store) (request : Request) (result : Result Applied Fault)
    → old.failures ≡ 0 → new.failures ≡ 0 → Answers old request (reply_of result) new
    → IfErr result (λ fault. IsTurnedDown old.state request fault new.state)
unfolding Answers
turned_down old new request (Ok applied) was is step = tt
turned_down old new request (Err fault) was is step =
    turned old new request fault was is step.0 step.1

-- ---- where a word is wrong, and where none is

-- a word that isn't taken
pub wrong_words : (old : State) (request : Request) (answer there : Option Text)
    → takes_words request answer there ≡ false
    → IsRefused old (A.Show request answer there) InvalidArgument old
wrong_words old request answer there wrong =
    inr (inr (tt, supplied_answer None, rw wrong refl))

-- the words are taken, so that the fault is the request's own
module _ (old : State) (request : Request) (answer there : Option Text)
    (takes : takes_words request answer there ≡ true) where
  fault_is : words_fault old request answer there
      ≡ least_fault (outcome old (request_done old request there))
  fault_is = rw takes refl

  refused_step : (fault : Fault)
      → least_fault (outcome old (request_done old request there)) ≡ Some fault
      → words_step old request answer there ≡ (of_event (refused fault), old)
  refused_step fault least = rw (fault_is ∙ least) refl

  free_step : least_fault (outcome old (request_done old request there)) ≡ None
      → words_step old request answer there ≡ done_with_words old request answer there
  free_step free = rw (fault_is ∙ free) refl

  -- what was turned down is refused
  pub turned_refused : (fault : Fault) (new : State)
      → IsTurnedDown old (request_done old request there) fault new
      → IsRefused old (A.Show request answer there) fault new
  turned_refused fault new is = elim is.0 [
    | inl memory ↦ inl (memory, is.1)
    | inr least ↦ inr (inr (
      tt,
      supplied_answer None,
      refused_step fault least ∙ (λ i. (of_event (refused fault), sym is.1 i)),
    ))
  ]

  true_words : (shown : Option Shown) (reply : Reply) → IsTrueOf old
      (Some (A.Show request answer there))
      (option_map_or of_shown shown (of_event (answered reply)))
  true_words None reply = tt
  true_words (Some shown) reply = tt

  -- what was done is served with what it shows
  pub executed_served : (reply : Reply) (new : State) (told : LineAnswer) (shown : Option Shown)
      → IsExecuted old (request_done old request there) reply new
      → shown_in new request (holds_there old request there) answer ≡ shown
      → told ≡ option_map_or of_shown shown (of_event (answered reply))
      → IsServed old (A.Show request answer there) told new
  executed_served reply new told shown is shows says = (
    subst (λ (a : LineAnswer). IsTrueOf old (Some (A.Show request answer there)) a) (sym says)
        (true_words shown reply),
    supplied_answer None,
    free_step is.0 ∙ (λ i. (
      option_map_or of_shown
          (shown_in (sym is.2 i) request (holds_there old request there) answer)
          (of_event (answered (sym is.1 i))),
      sym is.2 i,
    )) ∙ (λ i. (
      option_map_or of_shown (shows i) (of_event (answered reply)),
      new,
    )) ∙ (λ i. (sym says i, new)),
  )

-- ---- what a line shows

if_false : {X : Type 0} (b : Bool) (x y : X) → b ≡ false → (if b then x else y) ≡ y
if_false true x y e = absurd (false≢true (sym e))
if_false false x y e = refl

if_true : {X : Type 0} (b : Bool) (x y : X) → b ≡ true → (if b then x else y) ≡ x
if_true true x y e = refl
if_true false x y e = absurd (false≢true e)

-- the row of its request
pub row_in : (new : State) (request : Request) (there : Bool) (answer : Option Text)
    (row : Option ShownRow) → is_some answer ≡ true → asks_rows answer ≡ false
    → row_shown new request ≡ row
    → shown_in new request there answer ≡ option_map (shows_row there) row
row_in new request there None row some rows is = absurd (false≢true some)
row_in new request there (Some word) row some rows is =
    if_false (bytes_eq word (codes "rows"))
    (option_map (λ (list : State → List ShownRow). shows_rows (list new)) (rows_listed request))
    (option_map (shows_row there) (row_shown new request)) rows
    ∙ ap (option_map (shows_row there)) is

-- that what it makes was there
pub there_in : (new : State) (request : Request) (there : Bool) (answer : Option Text)
    → is_some answer ≡ false
    → shown_in new request there answer ≡ (if there then Some was_there else None)
there_in new request there None none = refl
there_in new request there (Some word) none = absurd (false≢true (sym none))

-- the rows of its listing
pub rows_in : (new : State) (request : Request) (there : Bool) (answer : Option Text)
    (rows : List ShownRow) → asks_rows answer ≡ true
    → option_map (λ (list : State → List ShownRow). list new) (rows_listed request) ≡ Some rows
    → shown_in new request there answer ≡ Some (shows_rows rows)
rows_in new request there None rows asks is = absurd (false≢true asks)
rows_in new request there (Some word) rows asks is =
    if_true (bytes_eq word (codes "rows"))
    (option_map (λ (list : State → List ShownRow). shows_rows (list new)) (rows_listed request))
    (option_map (shows_row there) (row_shown new request)) asks
    ∙ listed (rows_listed request) is
  where
    listed : (found : Option (State → List ShownRow))
        → option_map (λ (list : State → List ShownRow). list new) found ≡ Some rows
        → option_map (λ (list : State → List ShownRow). shows_rows (list new)) found
        ≡ Some (shows_rows rows)
    listed None e = absurd cc
    listed (Some list) e = let same : list new ≡ rows = cc in λ i. Some (shows_rows (same i))

-- an object that exists is held only where the line says so
pub there_said : (state : State) (request : Request) (there : Option Text) (held : Bool)
    → held ≡ holds_there state request there → held ≡ true → is_some there ≡ true
there_said state request None held is e = absurd (false≢true (sym is ∙ e))
there_said state request (Some word) held is e = refl

-- ---- a request without a fault

not_there : (invalid missing there forbidden : Bool)
    → least_of invalid missing there forbidden ≡ None
    → (not invalid && not missing && there) ≡ false
not_there true missing there forbidden e = absurd cc
not_there false true there forbidden e = absurd cc
not_there false false true forbidden e = absurd cc
not_there false false false forbidden e = refl

and_false : (a b : Bool) → b ≡ false → (a && b) ≡ false
and_false true b e = e
and_false false b e = refl

-- makes what isn't there
pub none_there : (state : State) (request : Request) (there : Option Text)
    → least_fault (outcome state request) ≡ None → holds_there state request there ≡ false
none_there state request there free =
    and_false (is_some there) (is_there state request)
    (not_there (outcome state request).invalid (outcome state request).missing
    (outcome state request).there (outcome state request).forbidden free)

-- and is done itself
pub itself_done : (state : State) (request : Request) (there : Option Text)
    → holds_there state request there ≡ false → request_done state request there ≡ request
itself_done state request there none = rw none refl

-- ---- listings

-- a listing leaves the store, and makes nothing
pub listing_still : (state : State) (request : Request) (list : State → List ShownRow)
    → rows_listed request ≡ Some list
    → ((outcome state request).after ≡ state) × ((outcome state request).there ≡ false)
listing_still state (Q.NsAdd ns) list is = absurd cc
listing_still state (Q.NsRemove ns) list is = absurd cc
listing_still state Q.NsList list is = absurd cc
listing_still state (Q.ImageAdd one) list is = absurd cc
listing_still state (Q.ImageTarget one) list is = absurd cc
listing_still state (Q.ImageSet one) list is = absurd cc
listing_still state (Q.ImageRemove one) list is = absurd cc
listing_still state (Q.ImageGet one) list is = absurd cc
listing_still state (Q.ImageList ns) list is = (refl, refl)
listing_still state (Q.ImageLabel one other) list is = absurd cc
listing_still state (Q.ContainerAdd one) list is = absurd cc
listing_still state (Q.ContainerSet one) list is = absurd cc
listing_still state (Q.ContainerRemove one) list is = absurd cc
listing_still state (Q.ContainerGet one) list is = absurd cc
listing_still state (Q.ContainerList ns) list is = (refl, refl)
listing_still state (Q.ContainerLabel one other) list is = absurd cc
listing_still state (Q.ContentAdd one) list is = absurd cc
listing_still state (Q.ContentSet one other) list is = absurd cc
listing_still state (Q.ContentRemove one other) list is = absurd cc
listing_still state (Q.ContentGet one) list is = absurd cc
listing_still state (Q.ContentLabel one other) list is = absurd cc
listing_still state (Q.ContentList ns) list is = (refl, refl)
listing_still state (Q.IngestBegin one) list is = absurd cc
listing_still state (Q.IngestOpen one) list is = absurd cc
listing_still state (Q.IngestCommit one) list is = absurd cc
listing_still state (Q.IngestAbort one other) list is = absurd cc
listing_still state (Q.IngestGet one) list is = absurd cc
listing_still state (Q.IngestList ns) list is = (refl, refl)
listing_still state (Q.SnapPrepare one) list is = absurd cc
listing_still state (Q.SnapView one) list is = absurd cc
listing_still state (Q.SnapCommit one) list is = absurd cc
listing_still state (Q.SnapSet one other) list is = absurd cc
listing_still state (Q.SnapRemove one other) list is = absurd cc
listing_still state (Q.SnapGet one) list is = absurd cc
listing_still state (Q.SnapLabel one other) list is = absurd cc
listing_still state (Q.SnapList ns snapshotter) list is = (refl, refl)
listing_still state (Q.SnapSnapshotters ns) list is = absurd cc
listing_still state (Q.LeaseAdd one) list is = absurd cc
listing_still state (Q.LeaseSet one other) list is = absurd cc
listing_still state (Q.LeaseRemove one) list is = absurd cc
listing_still state (Q.LeaseGet one) list is = absurd cc
listing_still state (Q.LeaseLabel one other) list is = absurd cc
listing_still state (Q.LeaseList ns) list is = (refl, refl)
listing_still state (Q.LeaseHold one) list is = absurd cc
listing_still state (Q.LeaseDrop one) list is = absurd cc
listing_still state (Q.LeaseResources one) list is = absurd cc
listing_still state (Q.Profile v) list is = absurd cc

third_false : (a b c : Bool) → c ≡ false → (a && b && c) ≡ false
third_false true true c e = e
third_false true false c e = refl
third_false false true c e = refl
third_false false false c e = refl

-- so no lease is to hold what it makes
pub listing_itself : (state : State) (request : Request) (there : Option Text)
    (list : State → List ShownRow) → rows_listed request ≡ Some list
    → holds_there state request there ≡ false
listing_itself state request there list is =
    and_false (is_some there) (is_there state request)
    (third_false (not (outcome state request).invalid) (not (outcome state request).missing)
    (outcome state request).there (listing_still state request list is).1)

-- where rows are taken, there is a listing
word_is : (word : Text) (row list : Bool) → bytes_eq word (codes "rows") ≡ true
    → ((bytes_eq word (codes "row") && row) || (bytes_eq word (codes "rows") && list)) ≡ true
    → list ≡ true
word_is word row list rows takes =
    let e : word ≡ codes "rows" = (bytes_eq-Decides word (codes "rows")).0 rows in
    subst (λ (w : Text).
    ((bytes_eq w (codes "row") && row) || (bytes_eq w (codes "rows") && list)) ≡ true → list ≡ true)
    (sym e) (λ t. t) takes

left_true : (a b : Bool) → (a && b) ≡ true → a ≡ true
left_true true b e = refl
left_true false b e = absurd (false≢true e)

some_of : {X : Type 0} (found : Option X) → is_some found ≡ true → (x : X) × (found ≡ Some x)
some_of None e = absurd (false≢true e)
some_of (Some x) e = (x, refl)

pub is_listing : (request : Request) (answer there : Option Text)
    → takes_words request answer there ≡ true → asks_rows answer ≡ true
    → (list : State → List ShownRow) × (rows_listed request ≡ Some list)
is_listing request None there takes asks = absurd (false≢true asks)
is_listing request (Some word) there takes asks =
    some_of (rows_listed request)
    (word_is word (is_some (row_named request)) (is_some (rows_listed request)) asks
    (left_true (takes_answer request word) (option_map_or (takes_there request) there true) takes))

-- a listing is refused by its own fault
pub listing_refused : (old : State) (request : Request) (answer there : Option Text)
    → takes_words request answer there ≡ true → asks_rows answer ≡ true → (fault : Fault)
    → IsRefusedBy fault (least_fault (outcome old request))
    → IsRefused old (A.Show request answer there) fault old
listing_refused old request answer there takes asks fault (inl memory) = inl (memory, refl)
listing_refused old request answer there takes asks fault (inr least) =
    let listing = is_listing request answer there takes asks in
    let itself = itself_done old request there
    (listing_itself old request there listing.0 listing.1) in
    turned_refused old request answer there takes fault old
    (inr (ap (λ (r : Request). least_fault (outcome old r)) itself ∙ least), refl)

-- no listing is without rows
pub listing_found : (old : State) (request : Request) (answer there : Option Text)
    → takes_words request answer there ≡ true → asks_rows answer ≡ true
    → (found : Option ListedRows) → Lists old request found → found ≡ None → ⊥
listing_found old request answer there takes asks None told none =
    let listing = is_listing request answer there takes asks in
    let e : None ≡ Some listing.0 = sym told ∙ listing.1 in absurd cc
listing_found old request answer there takes asks (Some rows) told none = absurd cc

-- it shows its rows
pub rows_served : (old : State) (request : Request) (answer there : Option Text)
    → takes_words request answer there ≡ true → asks_rows answer ≡ true
    → (rows : List ShownRow) → least_fault (outcome old request) ≡ None
    → option_map (λ (list : State → List ShownRow). list old) (rows_listed request) ≡ Some rows
    → IsServed old (A.Show request answer there) (of_shown (shows_rows rows)) old
rows_served old request answer there takes asks rows free listed =
    let listing = is_listing request answer there takes asks in
    let none = listing_itself old request there listing.0 listing.1 in
    let itself = itself_done old request there none in
    let still = listing_still old request listing.0 listing.1 in
    executed_served old request answer there takes (outcome old request).reply old
    (of_shown (shows_rows rows)) (Some (shows_rows rows))
    (subst (λ (r : Request). IsExecuted old r (outcome old request).reply old) (sym itself)
    (free, refl, sym still.0))
    (rows_in old request (holds_there old request there) answer rows asks listed) refl

-- ---- what is done with words

-- a row is shown as it was foreseen
pub row_served : (old : State) (request : Request) (answer there : Option Text)
    → takes_words request answer there ≡ true → (applied : Applied) (new : State)
    (row : Option ShownRow) (told : LineAnswer)
    → IsExecuted old (request_done old request there) applied.reply new
    → applied.there ≡ holds_there old request there → is_some answer ≡ true
    → asks_rows answer ≡ false → TellsDone old request there row
    → told ≡ option_map_or of_shown (option_map (shows_row applied.there) row)
    (of_event (answered applied.reply))
    → IsServed old (A.Show request answer there) told new
row_served old request answer there takes applied new row told is held some rows tells says =
    executed_served old request answer there takes applied.reply new told
    (option_map (shows_row applied.there) row) is
    (row_in new request (holds_there old request there) answer row some rows
    (ap (λ (s : State). row_shown s request) is.2 ∙ tells is.0)
    ∙ ap (λ (b : Bool). option_map (shows_row b) row) (sym held)) says

-- that it was there
pub there_served : (old : State) (request : Request) (answer there : Option Text)
    → takes_words request answer there ≡ true → (applied : Applied) (new : State)
    (told : LineAnswer) → IsExecuted old (request_done old request there) applied.reply new
    → applied.there ≡ holds_there old request there → is_some answer ≡ false
    → told ≡ option_map_or of_shown (if applied.there then Some was_there else None)
    (of_event (answered applied.reply))
    → IsServed old (A.Show request answer there) told new
there_served old request answer there takes applied new told is held none says =
    executed_served old request answer there takes applied.reply new told
    (if applied.there then Some was_there else None) is
    (there_in new request (holds_there old request there) answer none
    ∙ ap (λ (b : Bool). if b then Some was_there else None) (sym held)) says

-- a request that isn't done changed nothing
pub held_keeps : (result : Result Applied Fault) (old new : State)
    → ((reply_of result ≡ Ok R.Done) ⊎ (new ≡ old))
    → IfOk result (λ applied. is_done applied.reply ≡ false → new ≡ old)
held_keeps (Err fault) old new either = tt
held_keeps (Ok applied) old new (inl done) = λ none.
    let same : applied.reply ≡ R.Done = cc in
    absurd (false≢true (sym none ∙ ap is_done same))
held_keeps (Ok applied) old new (inr same) = λ none. same

-- ---- the replies that are made before

pub said_alone : (row : Option ShownRow) (may there : Bool) (replies : Option RowReplies)
    (reply : Reply) → replies ≡ None → AreReplies row may replies
    → of_event (answered reply)
    ≡ option_map_or of_shown (option_map (shows_row there) row) (of_event (answered reply))
said_alone None may there replies reply none are = refl
said_alone (Some row) may there None reply none are = absurd are
said_alone (Some row) may there (Some found) reply none are = absurd cc

pub said_with : (row : Option ShownRow) (may there : Bool) (replies : Option RowReplies)
    (found : RowReplies) (reply : Reply) (chosen : Shown) → replies ≡ Some found
    → ((row : ShownRow) (may : Bool) → AreReplies (Some row) may (Some found)
    → (there ≡ true → may ≡ true) → chosen ≡ shows_row there row)
    → AreReplies row may replies → (there ≡ true → may ≡ true)
    → of_shown chosen
    ≡ option_map_or of_shown (option_map (shows_row there) row) (of_event (answered reply))
said_with None may there None found reply chosen is choice are held = absurd cc
said_with None may there (Some other) found reply chosen is choice are held = absurd are
said_with (Some row) may there replies found reply chosen is choice are held =
    ap of_shown (choice row may
    (subst (λ (r : Option RowReplies). AreReplies (Some row) may r) is are) held)

-- ---- all objects

pub objects_served : (state : State) (names : BackNames) → names ≡ names_of state.backends
    → IsServed state A.BackList (of_question (lists names)) state
objects_served state names is = (
  is,
  supplied_answer None,
  (λ i. (of_question (lists (sym is i)), state)),
)
