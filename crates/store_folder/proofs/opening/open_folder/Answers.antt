use Rattle.std.proofs.Common.{◌∙◌, ap, false, inl, inr}
use Rattle.journal.specs.Selector.{other_counts}
use Rattle.store_folder.proofs.OpeningTells.{fewer_told}
use Rattle.store_folder.proofs.opening.open_folder.Goals as goal

-- no file was chosen
pub returns-in-Err-clause-crash : goal.returns-in-Err-clause-crash
returns-in-Err-clause-crash g c one two lines finds told may =
    inl (fewer_told false _ _ _ _ c.find_counting.ensures.crash told may)

-- ---- the second file counts

pub open_second-requires : goal.open_second-requires
open_second-requires g c = record {
  chosen = λ one two. ap other_counts c.find_counting.ensures.seen.0
      ∙ (c.in-Ok.ensures.counts one two).1 ∙ c.if-is_second.true;
}

pub returns-then-is_second-clause-found : goal.returns-then-is_second-clause-found
returns-then-is_second-clause-found g c =
    rw (c.find_counting.ensures.seen.0, c.find_counting.ensures.seen.1) at
    c.in-Ok-open_second.ensures.found

pub returns-then-is_second-clause-holds : goal.returns-then-is_second-clause-holds
returns-then-is_second-clause-holds g c =
    rw (c.find_counting.ensures.seen.0, c.find_counting.ensures.seen.1) at
    c.in-Ok-open_second.ensures.holds

pub returns-in-Err-open_second-clause-refuses : goal.returns-in-Err-open_second-clause-refuses
returns-in-Err-open_second-clause-refuses g c =
    rw (c.find_counting.ensures.seen.0, c.find_counting.ensures.seen.1) at
    c.in-Err-open_second.ensures.refuses

pub returns-in-Err-open_second-clause-crash : goal.returns-in-Err-open_second-clause-crash
returns-in-Err-open_second-clause-crash g c one two lines finds told may =
    let still = rw (c.find_counting.ensures.seen.0, c.find_counting.ensures.seen.1) at
    (c.in-Err-open_second.ensures.crash one two) in
    elim (still lines finds told may) [
      | inl was ↦ inl (fewer_told false _ _ _ _ c.find_counting.ensures.crash told was)
      | inr same ↦ inr same
    ]

-- ---- the first file counts

pub open_first-requires : goal.open_first-requires
open_first-requires g c = record {
  chosen = λ one two. ap other_counts c.find_counting.ensures.seen.0
      ∙ (c.in-Ok.ensures.counts one two).1 ∙ c.if-is_second.false;
}

pub returns-clause-found : goal.returns-clause-found
returns-clause-found g c =
    rw (c.find_counting.ensures.seen.0, c.find_counting.ensures.seen.1) at
    c.in-Ok-open_first.ensures.found

pub returns-clause-holds : goal.returns-clause-holds
returns-clause-holds g c =
    rw (c.find_counting.ensures.seen.0, c.find_counting.ensures.seen.1) at
    c.in-Ok-open_first.ensures.holds

pub returns-in-Err-open_first-clause-refuses : goal.returns-in-Err-open_first-clause-refuses
returns-in-Err-open_first-clause-refuses g c =
    rw (c.find_counting.ensures.seen.0, c.find_counting.ensures.seen.1) at
    c.in-Err-open_first.ensures.refuses

pub returns-in-Err-open_first-clause-crash : goal.returns-in-Err-open_first-clause-crash
returns-in-Err-open_first-clause-crash g c one two lines finds told may =
    let still = rw (c.find_counting.ensures.seen.0, c.find_counting.ensures.seen.1) at
    (c.in-Err-open_first.ensures.crash one two) in
    elim (still lines finds told may) [
      | inl was ↦ inl (fewer_told false _ _ _ _ c.find_counting.ensures.crash told was)
      | inr same ↦ inr same
    ]
