use Rattle.std.proofs.Common.{◌≡◌, ◌∙◌, ap, refl, ℕ, replicate, length, arith}
use Rattle.journal.specs.Crashes.{written}
use Rattle.journal.proofs.Zeroing.{Blanked, holes_then, blanked_long, blanked_more, blanked_all, nothing_lost}
use Rattle.journal.proofs.journal_file.blanking.blank_front.Goals as goal

-- nothing was put yet
pub blanking-init : goal.blanking-init
blanking-init g c = record {
  within = omega arith;
  calm = refl;
  puts = λ clean. (omega arith, refl);
  rests = λ clean only. only;
}

-- a piece more
pub blanking-preserved : goal.blanking-preserved
blanking-preserved g c =
    let i = c.blanking.invariant in
    let at = c.blanking.at in
    let count = c.min-count.result in
    let text = g.L.Log.text c.args.log.now in
    record {
      within = omega (arith, i.within, c.blanking-test.true, c.min-count.ensures);
      calm = c.blank_piece.ensures.calm ∙ i.calm;
      puts = λ clean.
          let p = i.puts clean in
          let put = c.in_ok-blank_piece.ensures.ok (i.calm ∙ clean) in
          let size = ap length p.1 ∙ blanked_long at text p.0 in (
            omega (arith, put.1, size),
            put.0 ∙ ap (written at (replicate count 0)) p.1 ∙ blanked_more at count text,
          );
      rests = λ clean only. (c.in_ok-blank_piece.ensures.ok (i.calm ∙ clean)).2;
    }

-- a put that fails
pub returns-in_err-blank_piece-clause-crash : goal.returns-in_err-blank_piece-clause-crash
returns-in_err-blank_piece-clause-crash g c clean only out left =
    let i = c.blanking.invariant in
    let p = i.puts clean in
    holes_then c.blanking.at _ _ out p.0 p.1
    (c.blank_piece.ensures.crash (i.calm ∙ clean) (i.rests clean only) out left)

pub returns-clause-ok : goal.returns-clause-ok
returns-clause-ok g c clean is =
    let i = c.blanking.invariant in
    let text = g.L.Log.text c.args.log.now in
    let all : c.blanking.at ≡ c.args.size = omega (arith, i.within, c.blanking-test.false) in
    (i.puts clean).1 ∙ ap (λ (n : ℕ). Blanked n text) all ∙ blanked_all text c.args.size is

pub returns-clause-crash : goal.returns-clause-crash
returns-clause-crash g c clean only out left =
    let i = c.blanking.invariant in
    let p = i.puts clean in
    holes_then c.blanking.at _ _ out p.0 p.1 (nothing_lost _ out (i.rests clean only out left))
