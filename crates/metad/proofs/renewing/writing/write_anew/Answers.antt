use Rattle.metad.proofs.renewing.writing.write_anew.Goals as goal

-- zeros stand behind the page, and they are on the disk
pub take_over-requires-clause-blank : goal.take_over-requires-clause-blank
take_over-requires-clause-blank g c κs within clean =
    let both = c.in-Ok.ensures.blank clean in record { zeros = both.0; durable = both.1 }
