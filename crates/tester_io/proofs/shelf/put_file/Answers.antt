use Rattle.tester_io.proofs.HeldFiles.{put-replaced, put-added}
use Rattle.tester_io.proofs.shelf.put_file.Goals as goal

pub returns-in-Some-clause-ok : goal.returns-in-Some-clause-ok
returns-in-Some-clause-ok c = put-replaced _ _ _ _ _ _ _ c.place_of.ensures c.as_slice.ensures c.as_slice-2.ensures c.in-Some.is c.replace-was.ensures.now

pub returns-in_ok-push-in-None-clause-ok : goal.returns-in_ok-push-in-None-clause-ok
returns-in_ok-push-in-None-clause-ok c = put-added _ _ _ _ _ _ c.place_of.ensures c.as_slice.ensures c.as_slice-2.ensures c.in-None.is c.in_ok-push-in-None.ensures.ok
