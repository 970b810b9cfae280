use Rattle.std.proofs.Common.{rules, ap, ap₂, refl, sym, true, map, ℕ, Bor, Result, Err, List, ◌≡◌, ◌∙◌}
use Rattle.std.proofs.lemmas.Result.{err_from_is_err_and}
use Rattle.clap.specs.Words.{App, Text, app_of, is_simple, rule_of, subcommand_of, takes, with_rule, with_subcommand}
use Rattle.clap.proofs.OnLiterals.{clap_on_literals}
use Rattle.metad.specs.declared.script_run.args.ArgFault.{ArgFault}
use Rattle.metad.specs.declared.script_run.args.ArgFault.TheVariants.{Usage, OutOfMemory}
use Rattle.metad.specs.Args.{workers_rule, run_command, metad_command, are_read, subcommand}
use Rattle.metad.proofs.script_run.args.matches.Goals as goal

simple : is_simple metad_command ≡ true
unfolding clap_on_literals
simple = refl

apart : {T : Type 0} (f : ArgFault) (r : Result T ArgFault) → r ≡ Err f → r ≡ Err Usage
    → f ≡ OutOfMemory → ⊥
apart f r e usage memory = let same : Err f ≡ Err Usage = sym e ∙ usage in cc

pub returns-clause-ok : goal.returns-clause-ok
unfolding subcommand
returns-clause-ok c =
    let words : List Text = map (λ (w : Bor (List ℕ)). w.now) c.args.words.now in
    let workers_is : rule_of c.long-workers.result ≡ workers_rule = search rules in
    let run_is : app_of c.in_ok-run.run' ≡ run_command = c.in_ok-run.ensures.shape (search rules)
    ∙ ap₂ with_rule c.new-2.ensures.app workers_is in
    let metad_is : app_of c.in_ok-metad.metad ≡ metad_command = c.in_ok-metad.ensures.shape
    (search rules)
    ∙ ap₂ with_subcommand c.new-3.ensures.app (ap (λ (a : App). a.top) run_is) in
    (c.in_ok-try_get_matches_from.ensures.matches (ap is_simple metad_is ∙ simple)).1
    ∙ ap (λ a. subcommand_of a words) metad_is

pub returns-in_err-try_get_matches_from-clause-usage :
    goal.returns-in_err-try_get_matches_from-clause-usage
unfolding are_read
returns-in_err-try_get_matches_from-clause-usage c = λ usage taken.
    let words : List Text = map (λ (w : Bor (List ℕ)). w.now) c.args.words.now in
    let workers_is : rule_of c.long-workers.result ≡ workers_rule = search rules in
    let run_is : app_of c.in_ok-run.run' ≡ run_command = c.in_ok-run.ensures.shape (search rules)
    ∙ ap₂ with_rule c.new-2.ensures.app workers_is in
    let metad_is : app_of c.in_ok-metad.metad ≡ metad_command = c.in_ok-metad.ensures.shape
    (search rules)
    ∙ ap₂ with_subcommand c.new-3.ensures.app (ap (λ (a : App). a.top) run_is) in
    let memory = c.in_err-try_get_matches_from.ensures.passes (ap (λ a. takes a words) metad_is
    ∙ taken) in
    let p = err_from_is_err_and c.from_residual-in_err-try_get_matches_from.result
    c.from_residual-in_err-try_get_matches_from.ensures.1 in
    let is_memory = p.2.1 memory in
    apart p.0 _ p.1 usage is_memory
