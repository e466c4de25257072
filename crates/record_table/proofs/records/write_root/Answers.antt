use Rattle.record_table.proofs.records.write_root.Goals as goal

pub returns-in-Ok : goal.returns-in-Ok
returns-in-Ok c = let a = c.in-Ok.ensures.assigned in record { fits = (a.news, a.new_is, a.assigns.fits) }
