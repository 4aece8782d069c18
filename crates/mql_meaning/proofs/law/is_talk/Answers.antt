use Rattle.mql_meaning.proofs.Talks.{means_talks}
use Rattle.mql_meaning.proofs.law.is_talk.Goals as goal

pub returns : goal.returns
returns c = means_talks
