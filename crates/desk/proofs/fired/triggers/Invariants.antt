use Rattle.desk.proofs.fired.triggers.Given as goal

abbrev pub ghosts-fired_orders : goal.ghosts-fired_orders
ghosts-fired_orders g a = record { name = a.blank.name; parts = a.blank.parts }
