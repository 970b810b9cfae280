use Rattle.std.proofs.Common.{◌∙◌, ap, ℕ, List, take, length}
use Rattle.meta_types.specs.Rows.{State}
use Rattle.journal.specs.Reading.{found}
use Rattle.line_loop.specs.JournalLines.{lines_of}
use Rattle.kept_store.specs.Replays.{store_after, requests_in}
use Rattle.kept_store.proofs.Replayed.{requests_in-journal}
use Rattle.kept_store.proofs.opening.read_store.Goals as goal

pub returns-clause-ok : goal.returns-clause-ok
returns-clause-ok g c clean =
    let sound = c.in_ok-end.ensures.sound (c.replay.ensures.clean clean) in
    c.in-Ok-replay.ensures.ok clean
    ∙ ap (λ (t : List ℕ). store_after c.in-Ok.store (requests_in (take c.in_ok-end.end t)))
    c.sound_part.ensures.same
    ∙ ap (λ (t : List ℕ). store_after c.in-Ok.store (requests_in t)) sound.1
    ∙ ap (store_after c.in-Ok.store) (requests_in-journal c.args.first.now
    (found c.args.first.now (g.D.Log.text c.args.log.now)).groups sound.0)
    ∙ ap (λ (s : State). store_after s
    (lines_of (found c.args.first.now (g.D.Log.text c.args.log.now)).groups)) c.in-Ok.ensures.ok

pub returns-clause-lines : goal.returns-clause-lines
returns-clause-lines g c clean =
    let sound = c.in_ok-end.ensures.sound (c.replay.ensures.clean clean) in
    c.in-Ok-replay.ensures.counts clean
    ∙ ap (λ (t : List ℕ). length (requests_in (take c.in_ok-end.end t))) c.sound_part.ensures.same
    ∙ ap (λ (t : List ℕ). length (requests_in t)) sound.1
    ∙ ap (λ (ls : List (List ℕ)). length ls) (requests_in-journal c.args.first.now
    (found c.args.first.now (g.D.Log.text c.args.log.now)).groups sound.0)
