use Rattle.metad.proofs.starting.loading.putting.write_lines.Goals as goal

-- zeros stand behind the page, and they are on the disk
pub take_lines-requires-clause-blank : goal.take_lines-requires-clause-blank
take_lines-requires-clause-blank g c κs within clean =
    let both = c.in-Ok.ensures.blank clean in record { zeros = both.0; durable = both.1 }
