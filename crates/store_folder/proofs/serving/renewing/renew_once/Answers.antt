use Rattle.store_folder.proofs.serving.renewing.renew_once.Goals as goal

-- the selector wasn't put
pub returns-in-Err-clause-failed : goal.returns-in-Err-clause-failed
returns-in-Err-clause-failed g c = record {
  reads = λ right. c.in-Err.ensures.still (rw c.lose.ensures.first at right.0)
      (rw c.lose.ensures.second at right.1);
  tells = λ right had told may.
      c.in-Err.ensures.failed (rw c.lose.ensures.first at right.0)
      (rw c.lose.ensures.second at right.1) had.0 had.2 had.1 told
      (rw (c.lose.ensures.first, c.lose.ensures.second) at may);
}

pub returns-clause-ok : goal.returns-clause-ok
returns-clause-ok g c = record {
  reads = λ right. c.in-Ok.ensures.clean right.0 right.1;
  stands = λ right had. c.in-Ok.ensures.ok right.0 right.1 had.0 had.2 had.1;
  rests = λ had. c.in-Ok.ensures.rests had;
}
