-- Calls to a world and its answers.
use Rattle.std.specs.Prelude.{◌≡◌, List, [], ◌∷◌, Result, Ok, Err}
use Rattle.mql_mean.specs.declared.host.HostCall.{HostCall}
use Rattle.mql_mean.specs.declared.host.Reply.{Reply}
use Rattle.mql_mean.specs.declared.host.HostEnd.{HostEnd}
use Rattle.mql_mean.specs.declared.host.HostEnd.TheVariants as ended
use Rattle.mql_mean.specs.Answer.{Answer, Replied, Refused}

-- from w a call got its answer and led to w': a reply, or an error; want of memory says nothing
abbrev pub Answers : {W : Type 0} → (W → HostCall → Answer → W → Type 0) → W → HostCall → Result Reply HostEnd
    → W → Type 0
Answers may w call (Ok reply) w' = may w call (Replied reply) w'
Answers may w call (Err (ended.Error kind)) w' = may w call (Refused kind) w'
Answers may w call (Err ended.OutOfMemory) w' = Unit {0}

-- calls and answers in turn lead from one state of the world to another
abbrev pub Turns : {W : Type 0} → (W → HostCall → Answer → W → Type 0) → W → List HostCall → List Answer → W
    → Type 0
Turns may w [] [] w' = w ≡ w'
Turns {W} may w (c ∷ cs) (a ∷ as') w' = (mid : W) × may w c a mid × Turns may mid cs as' w'
Turns may w [] (a ∷ as') w' = ⊥
Turns may w (c ∷ cs) [] w' = ⊥

-- for some calls that were made and answers that were got, which are steps of the world from w to w'
pub record Over {W : Type 0} (may : W → HostCall → Answer → W → Type 0) (w w' : W) (P : List HostCall
    → List Answer → Type 0) : Type 0 where
  pub made : List HostCall
  pub got : List Answer
  pub turns : Turns may w made got w'
  pub holds : P made got
