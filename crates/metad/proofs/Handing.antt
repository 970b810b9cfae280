-- On what a run read, and what was handed on.
use Rattle.std.proofs.Common.{◌≡◌, ◌∙◌, sym, ap, ℕ, List, [], ◌++◌, Option, Some, None, Result, Ok, Err, OnOk, OnErr, subst, append-nil}
use Rattle.std.specs.Result.{IsErrOf}
use Rattle.std.specs.Io.KnownBytes.{Consumes, IsAtEnd, Keeps}
use Rattle.std.specs.Io.Buffered.{reader_remaining, reader_buffer, reader_inner, reader_capacity}
use Rattle.std.specs.declared.io.buffered.BufReader.{BufReader}
use Rattle.std.proofs.KnownBytes.{prepend_known-nil, Appends-kept}
use Rattle.scripts.specs.Exchanging.{Exchanges}
use Rattle.scripts.specs.WholeScripts.{AnswersScript, BeginsAnswers}

-- a new buffer has what its reader has
pub new_buffer : {R A : Type 0} (remaining : R → Option (List ℕ)) (buffer : BufReader R A)
    (reader : R) → reader_inner buffer ≡ reader → reader_buffer buffer ≡ []
    → reader_capacity buffer ≡ 8192 → reader_remaining remaining buffer ≡ remaining reader
new_buffer remaining buffer reader inner empty capacity =
    rw (capacity, empty)
    (prepend_known-nil (remaining (reader_inner buffer)) ∙ ap remaining inner)

module _ (IsRelated : List ℕ → List ℕ → Type 0)
    (left_old left held_old held : Option (List ℕ)) where
  -- a flush changes nothing
  pub flushed : (new : Option (List ℕ)) → Exchanges IsRelated left_old left held_old held
      → Keeps held new → Exchanges IsRelated left_old left held_old new
  flushed new e kept = record {
    read = e.read;
    written = e.written;
    consumes = e.consumes;
    appends = Appends-kept held_old held new e.written e.appends kept;
    related = e.related;
  }

  -- nothing is left
  pub all_read : Exchanges IsRelated left_old left held_old held → IsAtEnd left
      → Exchanges IsRelated left_old (Some []) held_old held
  all_read e end = record {
    read = e.read;
    written = e.written;
    consumes = at_end left_old left e.read e.consumes end;
    appends = e.appends;
    related = e.related;
  }
    where
      at_end : (old new : Option (List ℕ)) (read : List ℕ) → Consumes old new read → IsAtEnd new
          → Consumes old (Some []) read
      at_end None new read c end = tt
      at_end (Some xs) None read c end = absurd c
      at_end (Some xs) (Some ys) read c end = c ∙ ap (λ rest. read ++ rest) end

-- what was written for the whole begins it
pub begins : (left_old left held_old held : Option (List ℕ))
    → Exchanges AnswersScript left_old left held_old held
    → Exchanges BeginsAnswers left_old left held_old held
begins left_old left held_old held e = record {
  read = e.read;
  written = e.written;
  consumes = e.consumes;
  appends = e.appends;
  related = ([], subst (AnswersScript e.read) (sym (append-nil e.written)) e.related);
}

pub some_left : {T E : Type 0} (result : Result T E) (IsRelated : List ℕ → List ℕ → Type 0)
    (left_old left held_old held : Option (List ℕ))
    → Exchanges IsRelated left_old left held_old held
    → OnErr result ((l : Option (List ℕ)) × Exchanges IsRelated left_old l held_old held)
some_left (Ok x) IsRelated left_old left held_old held e = tt
some_left (Err fault) IsRelated left_old left held_old held e = (left, e)

-- whatever ended a run, what it wrote begins the answers
pub begins_anyway : {T E : Type 0} (result : Result T E)
    (left_old left held_old held : Option (List ℕ))
    → OnOk result (Exchanges AnswersScript left_old left held_old held)
    → OnErr result (Exchanges BeginsAnswers left_old left held_old held)
    → Exchanges BeginsAnswers left_old left held_old held
begins_anyway (Ok x) left_old left held_old held ok err = begins left_old left held_old held ok
begins_anyway (Err e) left_old left held_old held ok err = err

module _ (IsRelated : List ℕ → List ℕ → Type 0)
    (left_old left_new left held_old held : Option (List ℕ)) where
  -- what was read of a new buffer was read of its reader
  pub of_reader : left_new ≡ left_old → Exchanges IsRelated left_new left held_old held
      → Exchanges IsRelated left_old left held_old held
  of_reader same e = subst (λ l. Exchanges IsRelated l left held_old held) same e

  -- so with a flush behind
  pub then_flushed : (new : Option (List ℕ)) → left_new ≡ left_old
      → Exchanges IsRelated left_new left held_old held → Keeps held new
      → Exchanges IsRelated left_old left held_old new
  then_flushed new same e kept =
      flushed IsRelated left_old left held_old held new (of_reader same e) kept

  -- all was read, and flushed
  pub ended_ok : {T E : Type 0} (result : Result T E) (new : Option (List ℕ))
      → left_new ≡ left_old → OnOk result (IsAtEnd left)
      → OnOk result (Exchanges IsRelated left_new left held_old held) → Keeps held new
      → OnOk result (Exchanges IsRelated left_old (Some []) held_old new)
  ended_ok (Ok x) new same end e kept =
      all_read IsRelated left_old left held_old new (then_flushed new same e kept) end
  ended_ok (Err fault) new same end e kept = tt

  -- a fault ended the run, and what was written is flushed
  pub ended_err : {T E : Type 0} (result : Result T E) (new : Option (List ℕ))
      → left_new ≡ left_old
      → OnErr result (Exchanges IsRelated left_new left held_old held) → Keeps held new
      → OnErr result ((l : Option (List ℕ)) × Exchanges IsRelated left_old l held_old new)
  ended_err (Ok x) new same e kept = tt
  ended_err (Err fault) new same e kept = (left, then_flushed new same e kept)

-- what is known of the run's answer is known of the same answer by another name
module _ {T E : Type 0} (result ran : Result T E) (is : result ≡ ran) where
  pub ran_ok : (P : Type 0) → OnOk result P → OnOk ran P
  ran_ok P p = subst (λ r. OnOk r P) is p

  pub ran_err : (P : Type 0) → OnErr result P → OnErr ran P
  ran_err P p = subst (λ r. OnErr r P) is p

  pub ran_of : (fault : E) → IsErrOf ran fault → IsErrOf result fault
  ran_of fault p = subst (λ r. IsErrOf r fault) (sym is) p
