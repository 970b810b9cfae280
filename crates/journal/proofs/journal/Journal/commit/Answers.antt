use Rattle.std.proofs.Common.{◌≡◌, ◌∙◌, ap, sym, subst, ℕ, ◌+◌, length, List, [], ◌∷◌, ◌++◌, arith}
use Rattle.journal.proofs.Committing.{kept_either, put_leaves, has_more, some_wait}
use Rattle.journal.specs.Text.{sum_of, commit_of}
use Rattle.journal.specs.Groups.{added, HasGroups}
use Rattle.journal.proofs.journal.Journal.commit.Goals as goal

-- before anything is put, a crash leaves what was there
pub returns-then-is_empty-clause-crash : goal.returns-then-is_empty-clause-crash
returns-then-is_empty-clause-crash g c first groups lines clean has each is =
    kept_either _ _ _ _ first groups (added groups lines) has

pub returns-in_err-push_commit-clause-crash : goal.returns-in_err-push_commit-clause-crash
returns-in_err-push_commit-clause-crash g c first groups lines clean has each is =
    kept_either _ _ _ _ first groups (added groups lines) has

pub returns-in_err-push_commit-2-clause-crash : goal.returns-in_err-push_commit-2-clause-crash
returns-in_err-push_commit-2-clause-crash g c first groups lines clean has each is =
    kept_either _ _ _ _ first groups (added groups lines) has

pub returns-in_default-clause-crash : goal.returns-in_default-clause-crash
returns-in_default-clause-crash g c first groups lines clean has each is =
    kept_either _ _ _ _ first groups (added groups lines) has

pub returns-in_err-put-clause-crash : goal.returns-in_err-put-clause-crash
returns-in_err-put-clause-crash g c first groups lines clean has each is =
    let some : c.args.self.now.pending.items ≡ []
    → ⊥ = λ none. absurd (grind (arith, none, c.is_empty.ensures, c.if-is_empty.false)) in
    let sums : c.sum_of-sum.result
    ≡ sum_of (c.args.self.now.last ++ c.args.self.now.pending.items) = c.sum_of-sum.ensures.sum
    ∙ ap (λ (t : List ℕ). sum_of (c.args.self.now.last ++ t)) c.deref.ensures.value in
    let were : c.deref-3.result.now
    ≡ (c.args.self.now.pending.items ++
    (commit_of c.sum_of-sum.result c.args.self.now.end ++ 10 ∷ [])) ++
    (commit_of c.sum_of-sum.result c.args.self.now.end ++ 10 ∷ []) =
    c.deref-3.ensures.value ∙ c.in_ok-push_commit-2.ensures.ok
    ∙ ap (λ (t : List ℕ). t ++
    (commit_of c.sum_of-sum.result c.args.self.now.end ++ 10 ∷ []))
    c.in_ok-push_commit.ensures.ok in
    put_leaves _ _ _ _ _ _ _ _ first groups lines has each (some_wait _ lines is some) is sums were
    (c.put.ensures.crash clean has.durable)

pub returns-clause-crash : goal.returns-clause-crash
returns-clause-crash g c first groups lines clean has each is =
    let some : c.args.self.now.pending.items ≡ []
    → ⊥ = λ none. absurd (grind (arith, none, c.is_empty.ensures, c.if-is_empty.false)) in
    let sums : c.sum_of-sum.result
    ≡ sum_of (c.args.self.now.last ++ c.args.self.now.pending.items) = c.sum_of-sum.ensures.sum
    ∙ ap (λ (t : List ℕ). sum_of (c.args.self.now.last ++ t)) c.deref.ensures.value in
    let were : c.deref-3.result.now
    ≡ (c.args.self.now.pending.items ++
    (commit_of c.sum_of-sum.result c.args.self.now.end ++ 10 ∷ [])) ++
    (commit_of c.sum_of-sum.result c.args.self.now.end ++ 10 ∷ []) =
    c.deref-3.ensures.value ∙ c.in_ok-push_commit-2.ensures.ok
    ∙ ap (λ (t : List ℕ). t ++
    (commit_of c.sum_of-sum.result c.args.self.now.end ++ 10 ∷ []))
    c.in_ok-push_commit.ensures.ok in
    put_leaves _ _ _ _ _ _ _ _ first groups lines has each (some_wait _ lines is some) is sums were
    (c.put.ensures.crash clean has.durable)

pub returns-clause-ok : goal.returns-clause-ok
returns-clause-ok g c first groups lines clean has each is =
    let some : c.args.self.now.pending.items ≡ []
    → ⊥ = λ none. absurd (grind (arith, none, c.is_empty.ensures, c.if-is_empty.false)) in
    let sums : c.sum_of-sum.result
    ≡ sum_of (c.args.self.now.last ++ c.args.self.now.pending.items) = c.sum_of-sum.ensures.sum
    ∙ ap (λ (t : List ℕ). sum_of (c.args.self.now.last ++ t)) c.deref.ensures.value in
    let were : c.deref-3.result.now
    ≡ (c.args.self.now.pending.items ++
    (commit_of c.sum_of-sum.result c.args.self.now.end ++ 10 ∷ [])) ++
    (commit_of c.sum_of-sum.result c.args.self.now.end ++ 10 ∷ []) =
    c.deref-3.ensures.value ∙ c.in_ok-push_commit-2.ensures.ok
    ∙ ap (λ (t : List ℕ). t ++
    (commit_of c.sum_of-sum.result c.args.self.now.end ++ 10 ∷ []))
    c.in_ok-push_commit.ensures.ok in
    let end : c.in-Some.end ≡ c.args.self.now.end + length c.deref-3.result.now = c.in-Some.ensures
    ∙ ap (λ (t : List ℕ). c.args.self.now.end + length t)
    (c.deref-2.ensures.value ∙ sym c.deref-3.ensures.value) in
    subst (λ (n : ℕ). HasGroups (g.D.Log.text c.put.new.self)
    (g.D.Log.may_leave c.put.new.self) c.sum_of-sum.result n first (added groups lines))
    (sym end)
    (has_more _ _ _ _ _ _ _ _ _ first groups lines has each (some_wait _ lines is some) is sums were
    (c.in_ok-put.ensures.ok clean) (c.in_ok-put.ensures.durable clean))
