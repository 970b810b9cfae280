use Rattle.std.proofs.Common.{◌∙◌, ap, sym, option_map, codes}
use Rattle.clap.specs.Words.{rows_of, found_of}
use Rattle.clap.proofs.WalkLemmas.{first_value-rows}
use Rattle.metad.proofs.WorkerCounts.{has_text, has_no_number, has_none}
use Rattle.metad.proofs.script_run.args.workers_of.Goals as goal

pub returns-in-Some-clause-some : goal.returns-in-Some-clause-some
returns-in-Some-clause-some c =
    let first = sym (first_value-rows (found_of c.args.matches.now) (codes "workers"))
    ∙ sym c.get_str.ensures ∙ ap (option_map (λ s. s.now)) c.in-Some.is in
    has_text (rows_of (found_of c.args.matches.now)) c.in-Some.text.now first c.number.result
    c.number.ensures.some

pub returns-in-Some-clause-none : goal.returns-in-Some-clause-none
returns-in-Some-clause-none c =
    let first = sym (first_value-rows (found_of c.args.matches.now) (codes "workers"))
    ∙ sym c.get_str.ensures ∙ ap (option_map (λ s. s.now)) c.in-Some.is in
    has_no_number (rows_of (found_of c.args.matches.now)) c.in-Some.text.now first c.number.result
    c.number.ensures.none

pub returns-in-None-clause-some : goal.returns-in-None-clause-some
returns-in-None-clause-some c =
    has_none (rows_of (found_of c.args.matches.now)) (sym (first_value-rows
    (found_of c.args.matches.now) (codes "workers")) ∙ sym c.get_str.ensures
    ∙ ap (option_map (λ s. s.now)) c.in-None.is)
