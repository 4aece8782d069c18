-- What the world answers.
use Rattle.mql_mean.specs.declared.error.ErrorKind.{ErrorKind}
use Rattle.mql_mean.specs.declared.host.Reply.{Reply}

-- the world's answer to a call: a reply, or an error that ends the run (own)
pub data Answer : Type 0 where
  Replied : (reply : Reply) → Answer
  Refused : (kind : ErrorKind) → Answer
