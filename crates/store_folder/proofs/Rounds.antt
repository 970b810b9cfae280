-- On the rounds of a service: a run, and what is done between two.
use Rattle.std.proofs.Common.{◌≡◌, refl, sym, subst, List, [], ◌++◌, ℕ, Bool, true, false, Option, Result, Ok, Err}
use Rattle.std.specs.Prelude.{IfSome, IfOk, IfErr, OnOk}
use Rattle.std.specs.Io.KnownBytes.{IsAtEnd}
use Rattle.line_loop.specs.declared.ending.RunError.{RunError}
use Rattle.line_loop.specs.declared.ending.Stop.{Stop}
use Rattle.line_loop.specs.declared.ending.Stop.TheVariants.{End, CheckpointDue}
use Rattle.line_loop.specs.Runs.{EndsRun, stopped_at_end, accepted, Start, from, FindsOnly, Kept, Answers}
use Rattle.store_folder.specs.Serves.{MakesStep, Restores, Goes, Stands, Stays, Passes, Closes, Advances, Finishes}
use Rattle.store_folder.proofs.GoingOn.{goes_none, goes_run, goes_both, answers_both, restores_both, makes_on, restores_kept, restores_here, restores_all, answers_as}

abbrev Lines : Type 0
Lines = List (List ℕ)

-- how it stopped
pub stops_so : (stop : Result Stop RunError) (how so : Stop) → stop ≡ Ok how → how ≡ so
    → stop ≡ Ok so
stops_so stop how so is same =
    subst (λ (s : Stop). stop ≡ Ok s) same is

-- it stopped at the end
pub stopped_all : (stop : Result Stop RunError) (P : Bool → Type 0) → stop ≡ Ok End
    → IfSome (stopped_at_end stop) P → P true
stopped_all stop P is known =
    subst (λ (s : Result Stop RunError). IfSome (stopped_at_end s) P) is known

-- it stopped between two reads
pub stopped_due : (stop : Result Stop RunError) (P : Bool → Type 0) → stop ≡ Ok CheckpointDue
    → IfSome (stopped_at_end stop) P → P false
stopped_due stop P is known =
    subst (λ (s : Result Stop RunError). IfSome (stopped_at_end s) P) is known

-- it stopped at the end, where something is known then
pub ended_all : (stop : Result Stop RunError) (P : Type 0) → stop ≡ Ok End
    → IfOk stop (λ s. s ≡ End → P) → P
ended_all stop P is known =
    subst (λ (s : Result Stop RunError). IfOk s (λ (t : Stop). t ≡ End → P)) is known refl

-- what is known of the failure
pub failed_so : (stop : Result Stop RunError) (error : RunError) (P : RunError → Type 0)
    → stop ≡ Err error → IfErr stop P → P error
failed_so stop error P is known =
    subst (λ (s : Result Stop RunError). IfErr s P) is known

-- the log failed
pub failed_with : {U : Type 0} (ended : Result U RunError) (error : RunError)
    → ended ≡ Err error → EndsRun true error → IfErr ended (EndsRun true)
failed_with {U} ended error is ends =
    subst (λ (r : Result U RunError). IfErr r (EndsRun true)) (sym is) ends

-- a fact whatever the result
pub on_ok : {T E : Type 0} (P : Type 0) (result : Result T E) → P → OnOk result P
on_ok P (Ok value) known = known
on_ok P (Err error) known = tt

-- what follows from it
pub on_ok_by : {T E : Type 0} (P Q : Type 0) (result : Result T E) → OnOk result P → (P → Q)
    → OnOk result Q
on_ok_by P Q (Ok value) known turn = turn known
on_ok_by P Q (Err error) known turn = tt

-- nothing is said of a result that failed
pub on_err : {T E : Type 0} (P : Type 0) (result : Result T E) (error : E) → result ≡ Err error
    → OnOk result P
on_err {T} {E} P result error is = subst (λ (r : Result T E). OnOk r P) (sym is) tt

-- it finds a service again, whatever lines there were before
pub restores_as : {S : Type 0} (steps : S → List ℕ → List ℕ → Bool → S → Type 0)
    (makes : S → Lines → Type 0) (service : S) (kept none : Lines)
    (held contents : Option (List ℕ)) (begun : List ℕ) (unread left : Option (List ℕ))
    (found : Option Lines)
    → Restores steps makes (from service kept held begun unread) contents left found
    → Restores steps makes (from service none held begun unread) contents left found
restores_as steps makes service kept none held contents begun unread left found one = record {
  lines = one.lines;
  sound = one.sound;
  front = one.front;
  middle = one.middle;
  goes = one.goes;
  finds = one.finds;
  read = one.read;
  consumes = one.consumes;
  later = one.later;
  asks = one.asks;
  written = one.written;
  wrote = one.wrote;
  bytes = one.bytes;
  answers = one.answers;
}

module _ {S F : Type 0} (steps : S → List ℕ → List ℕ → Bool → S → Type 0)
    (makes : S → Lines → Type 0) (read_of : F → Type 0)
    (hold_of : F → Lines → Lines → Type 0) where
  -- nothing was read yet
  pub advances_none : (rest_of : F → Type 0) (start : Start S) (old new : F)
      → Passes read_of rest_of hold_of (makes start.service) old new
      → Advances steps makes read_of hold_of start old start.service start.held start.begun
      start.unread new
  advances_none rest_of start old new passes = record {
    reads = passes.reads;
    goes = λ right had. goes_none steps start;
    stands = passes.stands;
  }

  -- what a run leaves that stopped
  module _ (each : MakesStep steps makes) (service to : S) (held contents : Option (List ℕ))
      (begun piece : List ℕ) (unread left : Option (List ℕ)) (old mid : F)
      (reads : read_of mid → read_of old) where
    -- lines that make the service after a run
    run_stands : (at_end : Bool) (kept : Lines) → makes service kept
        → Answers steps (from service kept held begun unread) at_end to contents piece left
        (hold_of mid)
        → Stands (makes to) (hold_of mid)
    run_stands at_end kept made run = (
      kept ++ accepted run.trace,
      makes_on steps makes each service to kept run.trace run.goes made,
      run.has,
    )

    -- a run that stopped between two reads, and a pause
    pub advances_run : (rest_of : F → Type 0) (new : F)
        → ((kept : Lines) → hold_of old kept []
        → Answers steps (from service kept held begun unread) false to contents piece left
        (hold_of mid))
        → Passes read_of rest_of hold_of (makes to) mid new
        → Advances steps makes read_of hold_of (from service [] held begun unread) old to contents
        piece left new
    advances_run rest_of new run passes = record {
      reads = λ right. reads (passes.reads right);
      goes = λ right had.
          goes_run steps service to had.0 [] held contents begun piece unread left (hold_of mid)
          (run had.0 had.2);
      stands = λ right had.
          passes.stands right (run_stands false had.0 had.1 (run had.0 had.2));
    }

    module _ {G U : Type 0} (read_at : G → Type 0) (find_at : G → Option Lines → Type 0)
        (ended : Result U RunError) (new : G) where
      -- a pause that failed
      pub finishes_paused : (error : RunError)
          → ((kept : Lines) → hold_of old kept []
          → Answers steps (from service kept held begun unread) false to contents piece left
          (hold_of mid))
          → Closes read_of hold_of (makes to) read_at find_at mid new → ended ≡ Err error
          → EndsRun true error
          → Finishes steps makes read_of hold_of read_at find_at
          (from service [] held begun unread) old ended to contents piece left new
      finishes_paused error run closes is ends = record {
        reads = λ right. reads (closes.reads right);
        restores = λ right had found may.
            let so = run had.0 had.2 in
            let told = closes.tells right (run_stands false had.0 had.1 so) found may in
            restores_here steps makes (from service [] held begun unread) to contents piece left
            told.0 found
            (goes_run steps service to had.0 [] held contents begun piece unread left (hold_of mid)
            so) told.1 told.2;
        answers = on_err _ ended error is;
        end = on_err _ ended error is;
        error = failed_with ended error is ends;
      }

      -- a run that failed
      pub finishes_failed : (error : RunError) (finds : Option Lines → Type 0)
          → ((kept : Lines) → hold_of old kept []
          → Kept steps (from service kept held begun unread) contents left finds)
          → (read_at new → read_of mid)
          → ((told : Option Lines) → find_at new told → finds told) → ended ≡ Err error
          → EndsRun true error
          → Finishes steps makes read_of hold_of read_at find_at
          (from service [] held begun unread) old ended to contents piece left new
      finishes_failed error finds run right_so finds_so is ends = record {
        reads = λ right. reads (right_so right);
        restores = λ right had found may.
            restores_kept steps makes each service had.0 [] held contents begun unread left finds
            had.1 (run had.0 had.2) found (finds_so found may);
        answers = on_err _ ended error is;
        end = on_err _ ended error is;
        error = failed_with ended error is ends;
      }

      -- a run to the end of what is read, and a witness
      pub finishes_all : (rest_of : F → Type 0) (value : U) (next : F)
          → ((kept : Lines) → hold_of old kept []
          → Answers steps (from service kept held begun unread) true to contents piece left
          (hold_of mid))
          → Stays read_of rest_of hold_of mid next → (read_at new → read_of next)
          → ((kept : Lines) → hold_of next kept [] → FindsOnly kept (find_at new))
          → ended ≡ Ok value → IsAtEnd left
          → Finishes steps makes read_of hold_of read_at find_at
          (from service [] held begun unread) old ended to contents piece left new
      finishes_all rest_of value next run stays right_so only is at_end = record {
        reads = λ right. reads (stays.reads (right_so right));
        restores = λ right had found may.
            let so = run had.0 had.2 in
            let now = run_stands true had.0 had.1 so in
            restores_all steps makes (from service [] held begun unread) to contents piece left
            (λ (ls ws : Lines). hold_of mid now.0 []) now.0 found
            (answers_as steps service to had.0 [] true held contents begun piece unread left
            (hold_of mid) (λ (ls ws : Lines). hold_of mid now.0 []) so now.2) now.1
            (only now.0 (stays.holds (right_so right) now.0 now.2) found may);
        answers = on_ok _ ended (λ right had.
            let so = run had.0 had.2 in
            let now = run_stands true had.0 had.1 so in
            answers_as steps service to had.0 [] true held contents begun piece unread left
            (hold_of mid) (λ (ls ws : Lines). Stands (makes to)
            (λ (lines waiting : Lines). FindsOnly lines (find_at new))) so
            (now.0, now.1, only now.0 (stays.holds (right_so right) now.0 now.2)));
        end = on_ok _ ended at_end;
        error = subst (λ (r : Result U RunError). IfErr r (EndsRun true)) (sym is) tt;
      }

  -- ---- one round behind others

  module _ (start : Start S) (mid to : S) (held contents : Option (List ℕ))
      (piece piece2 : List ℕ) (unread left : Option (List ℕ)) (old next : F)
      (one : Advances steps makes read_of hold_of start old mid held piece unread next) where
    pub advances_both : (new : F)
        → Advances steps makes read_of hold_of (from mid [] held piece unread) next to contents
        piece2 left new
        → Advances steps makes read_of hold_of start old to contents piece2 left new
    advances_both new two = record {
      reads = λ right. one.reads (two.reads right);
      goes = λ right had.
          let before = two.reads right in
          goes_both steps start mid [] held piece unread (one.goes before had) to contents piece2
          left (two.goes right (one.stands before had));
      stands = λ right had. two.stands right (one.stands (two.reads right) had);
    }

    pub finishes_both : {G U : Type 0} (read_at : G → Type 0)
        (find_at : G → Option Lines → Type 0) (ended : Result U RunError) (new : G)
        → Finishes steps makes read_of hold_of read_at find_at (from mid [] held piece unread) next
        ended to contents piece2 left new
        → Finishes steps makes read_of hold_of read_at find_at start old ended to contents piece2
        left new
    finishes_both read_at find_at ended new two = record {
      reads = λ right. one.reads (two.reads right);
      restores = λ right had found may.
          let before = two.reads right in
          restores_both steps start mid [] held piece unread (one.goes before had) makes contents
          left found (two.restores right (one.stands before had) found may);
      answers = on_ok_by _ _ ended two.answers (λ ends right had.
          let before = two.reads right in
          answers_both steps start mid [] held piece unread (one.goes before had) true to contents
          piece2 left _ (ends right (one.stands before had)));
      end = two.end;
      error = two.error;
    }

  -- it was closed before any round, or after the last
  pub finishes_closed : {G U : Type 0} (read_at : G → Type 0) (find_at : G → Option Lines → Type 0)
      (start : Start S) (old : F) (ended : Result U RunError) (new : G) (error : RunError)
      → Closes read_of hold_of (makes start.service) read_at find_at old new → ended ≡ Err error
      → EndsRun true error
      → Finishes steps makes read_of hold_of read_at find_at start old ended start.service
      start.held start.begun start.unread new
  finishes_closed {G} {U} read_at find_at start old ended new error closes is ends = record {
    reads = closes.reads;
    restores = λ right had found may.
        let told = closes.tells right had found may in
        restores_here steps makes start start.service start.held start.begun start.unread told.0
        found (goes_none steps start) told.1 told.2;
    answers = on_err _ ended error is;
    end = on_err _ ended error is;
    error = failed_with ended error is ends;
  }

-- what was answered until the end, of lines that were kept when it began
pub answered : {S U : Type 0} (steps : S → List ℕ → List ℕ → Bool → S → Type 0)
    (service mid to : S) (held held1 contents : Option (List ℕ)) (begun piece piece2 : List ℕ)
    (unread unread1 left : Option (List ℕ)) (P right before stands : Type 0)
    (makes holds : Lines → Type 0) (ended : Result U RunError)
    → (right → before)
    → (before → ((lines : Lines) × makes lines × holds lines)
    → Goes steps (from service [] held begun unread) mid held1 piece unread1)
    → (before → ((lines : Lines) × makes lines × holds lines) → stands)
    → OnOk ended (right → stands
    → Answers steps (from mid [] held1 piece unread1) true to contents piece2 left
    (λ (ls ws : Lines). P))
    → OnOk ended (right → (kept : Lines) → makes kept → holds kept
    → Answers steps (from service kept held begun unread) true to contents piece2 left
    (λ (ls ws : Lines). P))
answered steps service mid to held held1 contents begun piece piece2 unread unread1 left P right
    before stands makes holds (Ok value) reads goes stand ends =
    λ now kept made has.
    let all : Answers steps (from service [] held begun unread) true to contents piece2 left
    (λ (ls ws : Lines). P) =
    answers_both steps (from service [] held begun unread) mid [] held1 piece unread1
    (goes (reads now) (kept, made, has)) true to contents piece2 left P
    (ends now (stand (reads now) (kept, made, has))) in
    answers_as steps service to [] kept true held contents begun piece2 unread left
    (λ (ls ws : Lines). P) (λ (ls ws : Lines). P) all all.has
answered steps service mid to held held1 contents begun piece piece2 unread unread1 left P right
    before stands makes holds (Err error) reads goes stand ends = tt
