-- How entries that are judged one after another are gathered.
use Rattle.std.proofs.Common.{◌≡◌, ℕ, List, [], ◌∷◌, ◌++◌, Ok, Err, Result, refl, sym, ap, ◌∙◌, append_assoc, append-nil}
use Rattle.toml.specs.Data.{Data, Members, no_members, member}
use Rattle.tester_settings.specs.declared.input.Assignment.{Assignment}
use Rattle.tester_settings.specs.declared.input.InputRange.{InputRange}
use Rattle.settings_file.specs.Entries.{before, assignment, assignments, range, ranges}
use Rattle.settings_file.specs.Faults.{Broken, IsAnswer}
use Rattle.settings_file.specs.declared.fault.SettingsFault.{SettingsFault}
use Rattle.settings_file.specs.declared.fault.SettingsFault.TheVariants as fault

-- entries before those that follow
abbrev pub after : {A : Type 0} → List A → Result (List A) Broken → Result (List A) Broken
after entries (Err broken) = Err broken
after entries (Ok more) = Ok (entries ++ more)

pub after_none : {A : Type 0} (r : Result (List A) Broken) → after [] r ≡ r
after_none (Ok x) = refl
after_none (Err e) = refl

pub after_one : {A : Type 0} (entries : List A) (entry : A) (r : Result (List A) Broken) → after entries (before entry r) ≡ after (entries ++ (entry ∷ [])) r
after_one entries entry (Ok more) = ap Ok (sym (append_assoc entries (entry ∷ []) more))
after_one entries entry (Err e) = refl

-- a fault of a part is that of the whole
pub fault_from : {A B : Type 0} (whole : Result A Broken) (part : Result B Broken) (f : SettingsFault) → ((e : Broken) → part ≡ Err e → whole ≡ Err e)
    → IsAnswer part (Err f) → IsAnswer whole (Err f)
fault_from whole part (fault.Rule rule key) h e = h (rule, key) e
fault_from whole part fault.OutOfMemory h e = tt

pub assignment_good : (entries all : List Assignment) (total : Result (List Assignment) Broken) (name : List ℕ) (d : Data) (more : Members) (entry : Assignment)
    → after entries (assignments (member name d more)) ≡ total → assignment name d ≡ Ok entry → all ≡ entries ++ (entry ∷ []) → after all (assignments more) ≡ total
unfolding assignments
assignment_good entries all total name d more entry e s a = rw a (sym (after_one entries entry (assignments more)) ∙ rw s at e)

pub assignment_bad : (entries : List Assignment) (total : Result (List Assignment) Broken) (name : List ℕ) (d : Data) (more : Members) (broken : Broken)
    → after entries (assignments (member name d more)) ≡ total → assignment name d ≡ Err broken → total ≡ Err broken
unfolding assignments
assignment_bad entries total name d more broken e s = sym (rw s at e)

pub assignments_end : (entries : List Assignment) (total : Result (List Assignment) Broken) → after entries (assignments no_members) ≡ total → total ≡ Ok entries
unfolding assignments
assignments_end entries total e = sym e ∙ ap Ok (append-nil entries)

pub range_good : (entries all : List InputRange) (total : Result (List InputRange) Broken) (name : List ℕ) (d : Data) (more : Members) (entry : InputRange)
    → after entries (ranges (member name d more)) ≡ total → range name d ≡ Ok entry → all ≡ entries ++ (entry ∷ []) → after all (ranges more) ≡ total
unfolding ranges
range_good entries all total name d more entry e s a = rw a (sym (after_one entries entry (ranges more)) ∙ rw s at e)

pub range_bad : (entries : List InputRange) (total : Result (List InputRange) Broken) (name : List ℕ) (d : Data) (more : Members) (broken : Broken)
    → after entries (ranges (member name d more)) ≡ total → range name d ≡ Err broken → total ≡ Err broken
unfolding ranges
range_bad entries total name d more broken e s = sym (rw s at e)

pub ranges_end : (entries : List InputRange) (total : Result (List InputRange) Broken) → after entries (ranges no_members) ≡ total → total ≡ Ok entries
unfolding ranges
ranges_end entries total e = sym e ∙ ap Ok (append-nil entries)
