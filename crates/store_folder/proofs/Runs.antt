-- On a run over a folder.
use Rattle.std.proofs.Common.{◌≡◌, ◌∙◌, sym, subst, ℕ, List, [], ◌++◌, take, drop, Bool, Option, Some, None}
use Rattle.std.specs.Prelude.{IfSome}
use Rattle.journal.specs.Growth.{Behind}
use Rattle.journal.specs.declared.page.note.Note.{Note}
use Rattle.line_loop.specs.Runs.{Start, Answers, accepted}
use Rattle.store_folder.specs.Logs.{HasFolder, HoldsFolder}

-- a folder whose file has this page, as a log
pub as_log : (page : List ℕ) (card : Note) (is_second : Bool) (first : List ℕ) (clean : Bool)
    (text : List ℕ) (outcomes counts other : List ℕ → Type 0) (last : List ℕ) (end : ℕ)
    (kept : List (List ℕ)) → outcomes text → take 4096 text ≡ page
    → HoldsFolder card is_second first clean text outcomes counts other last end kept []
    → HasFolder page card is_second first clean (drop 4096 text) (Behind 4096 outcomes) counts other
    last end [] kept []
as_log page card is_second first clean text outcomes counts other last end kept stays shown holds =
    let same : holds.page ≡ page = sym (holds.paged text stays) ∙ shown in
    subst (λ (p : List ℕ). HasFolder p card is_second first clean (drop 4096 text)
    (Behind 4096 outcomes) counts other last end [] kept []) same holds.log

-- a log whose file has this page, as a folder
pub as_folder : (page : List ℕ) (card : Note) (is_second : Bool) (first : List ℕ) (clean : Bool)
    (text : List ℕ) (outcomes counts other : List ℕ → Type 0) (last : List ℕ) (end : ℕ)
    (pending : List ℕ) (kept waiting : List (List ℕ))
    → ((file : List ℕ) → outcomes file → take 4096 file ≡ page)
    → HasFolder page card is_second first clean (drop 4096 text) (Behind 4096 outcomes) counts other
    last end pending kept waiting
    → HoldsFolder card is_second first clean text outcomes counts other last end kept waiting
as_folder page card is_second first clean text outcomes counts other last end pending kept waiting
    paged has = record {
      page = page;
      paged = paged;
      log = subst (λ (p : List ℕ). HasFolder page card is_second first clean (drop 4096 text)
          (Behind 4096 outcomes) counts other last end p kept waiting) has.has.waits has;
    }

-- what a run has answered, in another word for what it holds
pub answers_so : {S : Type 0} (steps : S → List ℕ → List ℕ → Bool → S → Type 0) (start : Start S)
    (at_end : Bool) (to : S) (contents : Option (List ℕ)) (piece : List ℕ)
    (left : Option (List ℕ)) (holds so : List (List ℕ) → List (List ℕ) → Type 0)
    → ((kept : List (List ℕ)) → holds kept [] → so kept [])
    → Answers steps start at_end to contents piece left holds
    → Answers steps start at_end to contents piece left so
answers_so steps start at_end to contents piece left holds so turn run = record {
  trace = run.trace;
  goes = run.goes;
  read = run.read;
  consumes = run.consumes;
  asks = run.asks;
  next = run.next;
  has = turn (start.kept ++ accepted run.trace) run.has;
  wrote = run.wrote;
}

-- what is known of a value that may be there
pub if_some : {A : Type 0} {P Q : A → Type 0} (found : Option A) → ((a : A) → P a → Q a)
    → IfSome found P → IfSome found Q
if_some (Some a) turn known = turn a known
if_some None turn known = tt

-- what was answered where a run stopped, in other words for what was held and is held now
pub answers_turned : {S : Type 0} (steps : S → List ℕ → List ℕ → Bool → S → Type 0)
    (start : List (List ℕ) → Start S) (found : Option Bool) (to : S) (contents : Option (List ℕ))
    (piece : List ℕ) (left : Option (List ℕ)) (held old : List (List ℕ) → Type 0)
    (holds so : List (List ℕ) → List (List ℕ) → Type 0)
    → IfSome found (λ at_end. (kept : List (List ℕ)) → held kept
    → Answers steps (start kept) at_end to contents piece left holds)
    → ((kept : List (List ℕ)) → old kept → held kept)
    → ((kept : List (List ℕ)) → holds kept [] → so kept [])
    → IfSome found (λ at_end. (kept : List (List ℕ)) → old kept
    → Answers steps (start kept) at_end to contents piece left so)
answers_turned steps start (Some at_end) to contents piece left held old holds so run before turn =
    λ kept was. answers_so steps (start kept) at_end to contents piece left holds so turn
    (run kept (before kept was))
answers_turned steps start None to contents piece left held old holds so run before turn = tt
