-- How the answers of a plan's parts make the answer of the whole.
use Rattle.std.proofs.Common.{◌≡◌, inl, inr, ℕ, ◌<◌, ◌≤◌, Bool, true, false, nat_lt, ⊎_elim, List, [], length, Option, Some, None, refl, sym, subst, arith, ◌∙◌}
use Rattle.std.specs.Prelude.{IsSomeAnd}
use Rattle.std.specs.Bool.{MatchBool}
use Rattle.std.proofs.lemmas.Bool.{lt-ltb, le-ltb}
use Rattle.tester_io.specs.Outside.{Contents, FilesSeen, Rose}
use Rattle.tester_answer.specs.declared.status.Status.{Status}
use Rattle.tester_answer.specs.declared.status.Status.TheVariants.{Done, Usage, Source, Settings, Prices, CodeFile, Grid, Absent, ReadFault, WriteFault, TooLarge, OutOfMemory}
use Rattle.tester_answer.specs.Answer.{Plan, Reads, Finds, Ends, never, AfterReading, Gives, Reaches, ReachesAfter, refusal}
use Rattle.tester_answer.specs.Clauses.{OnlyRead, IsReading, ReadingRefused, Refused, Never}

rose_later : (before mid now : ℕ) → before ≤ mid → Rose mid now → Rose before now
rose_later before mid now le rose = omega arith

module _ (name : List ℕ) (limit : ℕ) (next : List ℕ → Plan) (held : Contents) where
  absent_given : held name ≡ None → Gives (Reads name limit next) held (Absent name) [] held
  absent_given e = subst (λ o. AfterReading name limit (λ bytes. Gives (next bytes)) o held (Absent name) [] held) (sym e) (refl, refl, refl)

  over : (o : Option (List ℕ)) → IsSomeAnd o (λ bytes. limit < length bytes) → AfterReading name limit (λ bytes. Gives (next bytes)) o held (TooLarge name) [] held
  over None h = absurd h
  over (Some bytes) h = subst (λ b. MatchBool b (refusal (TooLarge name) held (TooLarge name) [] held) (Gives (next bytes) held (TooLarge name) [] held)) (sym (lt-ltb limit (length bytes) h)) (refl, refl, refl)

  module _ (bytes : List ℕ) (holds : held name ≡ Some bytes) (within : length bytes ≤ limit) where
    pub given_later : (s : Status) (text : List ℕ) (after : Contents) → Gives (next bytes) held s text after → Gives (Reads name limit next) held s text after
    given_later s text after g =
        subst (λ o. AfterReading name limit (λ bytes. Gives (next bytes)) o held s text after) (sym holds)
        (subst (λ b. MatchBool b (refusal (TooLarge name) held s text after) (Gives (next bytes) held s text after)) (sym (le-ltb limit (length bytes) within)) g)

    pub reached_later : (wanted : List ℕ) → Reaches (next bytes) wanted held → Reaches (Reads name limit next) wanted held
    reached_later wanted r =
        inr (subst (λ o. ReachesAfter limit (λ bytes. Reaches (next bytes) wanted held) o) (sym holds)
        (subst (λ b. MatchBool b ⊥ (Reaches (next bytes) wanted held)) (sym (le-ltb limit (length bytes) within)) r))

-- what the rest of a plan comes to, the whole plan comes to, over the contents that are told
pub record Leads (whole rest : Plan) (told : Option Contents) : Type 0 where
  pub gives : (held : Contents) → told ≡ Some held → (s : Status) (text : List ℕ) (after : Contents) → Gives rest held s text after → Gives whole held s text after
  pub reaches : (held : Contents) → told ≡ Some held → (wanted : List ℕ) → Reaches rest wanted held → Reaches whole wanted held

pub leads_same : (plan : Plan) (told : Option Contents) → Leads plan plan told
leads_same plan told = record { gives = λ held is s text after g. g; reaches = λ held is wanted r. r }

pub leads_on : (a b c : Plan) (told : Option Contents) → Leads a b told → Leads b c told → Leads a c told
leads_on a b c told p q = record {
  gives = λ held is s text after g. p.gives held is s text after (q.gives held is s text after g);
  reaches = λ held is wanted r. p.reaches held is wanted (q.reaches held is wanted r);
}

-- past a reading
pub leads_reading : (name : List ℕ) (limit : ℕ) (next : List ℕ → Plan) (told : Option Contents) (bytes : List ℕ) → IsReading name limit told bytes → Leads (Reads name limit next) (next bytes) told
leads_reading name limit next told bytes r = record {
  gives = λ held is s text after g. given_later name limit next held bytes (r.holds held is) r.within s text after g;
  reaches = λ held is wanted g. reached_later name limit next held bytes (r.holds held is) r.within wanted g;
}

-- past what a definition is true of
pub leads_finding : (A : Type 0) (is : A → Type 0) (next : A → Plan) (told : Option Contents) (a : A) → is a → Leads (Finds A is next) (next a) told
leads_finding A is next told a h = record { gives = λ held i s text after g. (a, h, g); reaches = λ held i wanted g. (a, h, g) }

-- a plan leads to one that is never reached
pub leads_never : (plan : Plan) (told : Option Contents) → Leads plan never told
leads_never plan told = record { gives = λ held is s text after g. absurd g; reaches = λ held is wanted r. absurd r }

-- readings that go on with plans of which each leads to the other's
pub leads_both_read : (name : List ℕ) (limit : ℕ) (next rest : List ℕ → Plan) (told : Option Contents) → ((bytes : List ℕ) → Leads (next bytes) (rest bytes) told) → Leads (Reads name limit next) (Reads name limit rest) told
leads_both_read name limit next rest told each = record {
  gives = λ held is s text after g. given held is s text after (held name) g;
  reaches = λ held is wanted r. ⊎_elim (λ e. inl e) (λ a. inr (reached held is wanted (held name) a)) r;
}
  where
    given : (held : Contents) → told ≡ Some held → (s : Status) (text : List ℕ) (after : Contents) (o : Option (List ℕ)) → AfterReading name limit (λ bytes. Gives (rest bytes)) o held s text after → AfterReading name limit (λ bytes. Gives (next bytes)) o held s text after
    given held is s text after None g = g
    given held is s text after (Some bytes) g = of_test (nat_lt limit (length bytes)) g
      where
        of_test : (b : Bool) → MatchBool b (refusal (TooLarge name) held s text after) (Gives (rest bytes) held s text after) → MatchBool b (refusal (TooLarge name) held s text after) (Gives (next bytes) held s text after)
        of_test true g = g
        of_test false g = (each bytes).gives held is s text after g

    reached : (held : Contents) → told ≡ Some held → (wanted : List ℕ) (o : Option (List ℕ)) → ReachesAfter limit (λ bytes. Reaches (rest bytes) wanted held) o → ReachesAfter limit (λ bytes. Reaches (next bytes) wanted held) o
    reached held is wanted None r = absurd r
    reached held is wanted (Some bytes) r = of_test (nat_lt limit (length bytes)) r
      where
        of_test : (b : Bool) → MatchBool b ⊥ (Reaches (rest bytes) wanted held) → MatchBool b ⊥ (Reaches (next bytes) wanted held)
        of_test true r = absurd r
        of_test false r = (each bytes).reaches held is wanted r

-- the same for what a definition is true of
pub leads_both_find : (A : Type 0) (is : A → Type 0) (next rest : A → Plan) (told : Option Contents) → ((a : A) → Leads (next a) (rest a) told) → Leads (Finds A is next) (Finds A is rest) told
leads_both_find A is next rest told each = record {
  gives = λ held i s text after (a, h, g). (a, h, (each a).gives held i s text after g);
  reaches = λ held i wanted (a, h, r). (a, h, (each a).reaches held i wanted r);
}

pub only_read_on : (a b c : FilesSeen) → OnlyRead a b → OnlyRead b c → OnlyRead a c
only_read_on a b c p q = record {
  told = q.told ∙ p.told;
  absents = omega (arith, p.absents, q.absents);
  read_faults = omega (arith, p.read_faults, q.read_faults);
  oversizes = omega (arith, p.oversizes, q.oversizes);
  write_faults = q.write_faults ∙ p.write_faults;
}

pub only_read_same : (a : FilesSeen) → OnlyRead a a
only_read_same a = record {
  told = refl;
  absents = omega arith;
  read_faults = omega arith;
  oversizes = omega arith;
  write_faults = refl;
}

-- a refusal of the rest is one of the whole
module _ (usage : ℕ → Type 0) (whole rest : Plan) (before mid now : FilesSeen) where
  pub refused_on : (status : Status) → Leads whole rest before.told → OnlyRead before mid → Refused Never rest mid now status → Refused usage whole before now status
  refused_on (Absent which) l n (rose, h) = (rose_later _ _ _ n.absents rose, λ held is. l.gives held is _ _ _ (h held (n.told ∙ is)))
  refused_on (ReadFault which) l n (rose, h) = (rose_later _ _ _ n.read_faults rose, λ held is. l.reaches held is which (h held (n.told ∙ is)))
  refused_on (TooLarge which) l n (rose, h) = (rose_later _ _ _ n.oversizes rose, λ held is. l.gives held is _ _ _ (h held (n.told ∙ is)))
  refused_on OutOfMemory l n h = tt
  refused_on Done l n h = absurd h
  refused_on (Usage rule) l n h = absurd h
  refused_on (Source fault) l n h = λ held is. l.gives held is _ _ _ (h held (n.told ∙ is))
  refused_on (Settings rule key) l n h = λ held is. l.gives held is _ _ _ (h held (n.told ∙ is))
  refused_on (Prices file row rule) l n h = λ held is. l.gives held is _ _ _ (h held (n.told ∙ is))
  refused_on (CodeFile rule place) l n h = λ held is. l.gives held is _ _ _ (h held (n.told ∙ is))
  refused_on (Grid rule input) l n h = λ held is. l.gives held is _ _ _ (h held (n.told ∙ is))
  refused_on WriteFault l n h = absurd h

module _ (usage : ℕ → Type 0) (name : List ℕ) (limit : ℕ) (next : List ℕ → Plan) where
  pub refused_here : (before now : FilesSeen) (status : Status) → ReadingRefused name limit before now status → Refused usage (Reads name limit next) before now status
  refused_here before now (Absent which) (e, rose, none) =
      (rose, λ held is. subst (λ n. Gives (Reads name limit next) held (Absent n) [] held) (sym e) (absent_given name limit next held (none held is)))
  refused_here before now (ReadFault which) (e, rose) = (rose, λ held is. inl (sym e))
  refused_here before now (TooLarge which) (e, rose, larger) =
      (rose, λ held is. subst (λ n. Gives (Reads name limit next) held (TooLarge n) [] held) (sym e) (over name limit next held (held name) (larger held is)))
  refused_here before now OutOfMemory h = tt
  refused_here before now Done h = absurd h
  refused_here before now (Usage rule) h = absurd h
  refused_here before now (Source fault) h = absurd h
  refused_here before now (Settings rule key) h = absurd h
  refused_here before now (Prices file row rule) h = absurd h
  refused_here before now (CodeFile rule place) h = absurd h
  refused_here before now (Grid rule input) h = absurd h
  refused_here before now WriteFault h = absurd h
