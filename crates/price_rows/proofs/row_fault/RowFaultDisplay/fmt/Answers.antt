use Rattle.price_rows.proofs.row_fault.RowFaultDisplay.fmt.Goals as goal

pub returns-in-Rule : goal.returns-in-Rule
returns-in-Rule g c plain ok = rw c.in-Rule.is (c.write.ensures.writes plain ok)
