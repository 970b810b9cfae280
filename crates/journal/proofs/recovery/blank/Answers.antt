use Rattle.std.proofs.Common.{◌≡◌, ◌∙◌, ap, sym, refl, subst, ℕ, ◌+◌, ◌-◌, ◌≤◌, List, replicate, length, Bool, arith}
use Rattle.std.specs.Prelude.{IsTrue}
use Rattle.journal.specs.Crashes.{written}
use Rattle.journal.proofs.Blanking.{Left, left_whole, left_more, written_none, written_more, written_length}
use Rattle.journal.proofs.recovery.blank.Goals as goal

-- nothing was put yet
pub blanking-init : goal.blanking-init
blanking-init g c =
    let none : 0 ≡ c.args.from - c.args.from = omega arith in
    record {
      begins = omega arith;
      within = omega arith;
      calm = refl;
      puts = λ clean within only. (
        within,
        written_none (g.D.Log.text c.args.log.now) c.args.from
            ∙ ap (λ (n : ℕ). written c.args.from (replicate n 0)
            (g.D.Log.text c.args.log.now)) none,
        only,
      );
    }

-- a block more
pub blanking-preserved : goal.blanking-preserved
blanking-preserved g c =
    let i = c.blanking.invariant in
    let k = c.blanking.at - c.args.from in
    let at_is : c.blanking.at ≡ c.args.from + k = omega (arith, i.begins) in
    record {
      begins = omega (arith, i.begins);
      within = omega (arith, i.begins, i.within, c.blanking-test.true, c.min-count.ensures);
      calm = c.put_zeros.ensures.calm ∙ i.calm;
      puts = λ clean within only.
          let p = i.puts clean within only in
          let calm : IsTrue (g.D.Log.is_clean c.blanking.log) =
          subst (λ (b : Bool). IsTrue b) (sym i.calm) clean in
          let put = c.in_ok-put_zeros.ensures.ok calm in
          let fits : c.args.from + k ≤ length (g.D.Log.text c.args.log.now) =
          omega (arith, p.0, at_is) in
          let size = ap length p.1
          ∙ written_length (g.D.Log.text c.args.log.now) c.args.from k fits in (
            omega (arith, put.1, size),
            put.0 ∙ ap (written c.blanking.at (replicate c.min-count.result 0)) p.1
                ∙ written_more (g.D.Log.text c.args.log.now) c.args.from k fits c.blanking.at
                c.min-count.result (c.blanking.at + c.min-count.result - c.args.from) at_is
                (omega (arith, at_is)),
            put.2,
          );
    }

-- a put that fails
pub returns-in_err-put_zeros-clause-crash : goal.returns-in_err-put_zeros-clause-crash
returns-in_err-put_zeros-clause-crash g c clean within only out left =
    let i = c.blanking.invariant in
    let p = i.puts clean within only in
    let k = c.blanking.at - c.args.from in
    let at_is : c.blanking.at ≡ c.args.from + k = omega (arith, i.begins) in
    let calm : IsTrue (g.D.Log.is_clean c.blanking.log) =
    subst (λ (b : Bool). IsTrue b) (sym i.calm) clean in
    left_more (g.D.Log.text c.args.log.now) c.args.from k
    (omega (arith, p.0, at_is)) c.blanking.at out at_is
    (subst (λ (t : List ℕ). Left c.blanking.at t out) p.1
    (c.put_zeros.ensures.crash calm p.2 out left))

pub returns-clause-ok : goal.returns-clause-ok
returns-clause-ok g c clean within only =
    let i = c.blanking.invariant in
    let p = i.puts clean within only in
    let all : c.blanking.at - c.args.from ≡ c.args.till - c.args.from =
    omega (arith, i.begins, i.within, c.blanking-test.false) in (
      p.1 ∙ ap (λ (n : ℕ). written c.args.from (replicate n 0)
          (g.D.Log.text c.args.log.now)) all,
      p.2,
    )

pub returns-clause-crash : goal.returns-clause-crash
returns-clause-crash g c clean within only out left =
    let i = c.blanking.invariant in
    let p = i.puts clean within only in
    let k = c.blanking.at - c.args.from in
    let at_is : c.blanking.at ≡ c.args.from + k = omega (arith, i.begins) in
    let now = written c.args.from (replicate k 0) (g.D.Log.text c.args.log.now) in
    subst (Left c.args.from (g.D.Log.text c.args.log.now)) (sym (p.2 out left ∙ p.1))
    (left_more (g.D.Log.text c.args.log.now) c.args.from k
    (omega (arith, p.0, at_is)) c.blanking.at now at_is (left_whole now c.blanking.at))
