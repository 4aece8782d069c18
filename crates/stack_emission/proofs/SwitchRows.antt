-- The tests of a switch, and the labels between its statements.
use Rattle.std.proofs.Common.{◌≡◌, ℕ, ◌+◌, ◌==◌, ◌<◌, Bool, true, false, List, [], ◌∷◌, map, refl, subst, arith}
use Rattle.std.specs.Prelude.{nat_le}
use Rattle.std.proofs.lemmas.Bool.{eqb-true, leb-true}
use Rattle.mql_mean.specs.declared.value.Value.{Value}
use Rattle.mql_meaning.specs.declared.tree.Function.{Function}
use Rattle.stack_follows.specs.Spans.{Listing, Label}
use Rattle.stack_follows.specs.Stands.{WithLabels, CleanupAt, TestsAt, LabelIf, LabelsAt, LabelsAtEnd}
use Rattle.stack_emission.specs.HasCode.{is_number, are_numbers}
use Rattle.stack_emission.specs.Statements.{label_of, otherwise, tests}
use Rattle.stack_emission.proofs.Kept.{Kept, Stays, seq_map, with_map, one_kept, label_kept, equals_kept, equals_stays}
use Rattle.stack_emission.proofs.Rows.{and_left, and_right}

pub with_all_map : {A A' : List ℕ → ℕ → ℕ → Type 0} (a b : ℕ) → ((ls : List ℕ) (a b : ℕ) → A ls a b → A' ls a b) → WithLabels A a b → WithLabels A' a b
with_all_map a b f s = record { labels = s.labels; is = f s.labels a b s.is }

-- tests and labels keep standing
module _ (here there : Listing) (k : Kept here there) (gives : Bool) where
  pub tests_kept : (ks : List Value) (places ls : List ℕ) (default a b : ℕ) → TestsAt here CleanupAt gives ks places ls default a b → TestsAt there CleanupAt gives ks places ls default a b
  tests_kept (v ∷ vs) (p ∷ ps) (l ∷ ls) default a b s =
      with_map a b (λ next a b. seq_map a b (one_kept here there k _) λ a b. seq_map a b (equals_kept here there k v) λ a b. seq_map a b (one_kept here there k _) λ a b. seq_map a b (one_kept here there k _) λ a b. seq_map a b (one_kept here there k _) λ a b. seq_map a b (label_kept here there k next) (tests_kept vs ps ls default)) s
  tests_kept (v ∷ vs) (p ∷ ps) [] default a b s = absurd s
  tests_kept (v ∷ vs) [] ls default a b s = seq_map a b (one_kept here there k _) (one_kept here there k _) s
  tests_kept [] ps ls default a b s = seq_map a b (one_kept here there k _) (one_kept here there k _) s

  if_kept : (t : Bool) (l a b : ℕ) → LabelIf here CleanupAt gives t l a b → LabelIf there CleanupAt gives t l a b
  if_kept true l a b s = label_kept here there k l a b s
  if_kept false l a b s = s

  pub labels_kept : (i : ℕ) (places ls : List ℕ) (a b : ℕ) → LabelsAt here CleanupAt gives i places ls a b → LabelsAt there CleanupAt gives i places ls a b
  labels_kept i (p ∷ ps) (l ∷ ls) a b s = seq_map a b (if_kept (p == i) l) (labels_kept i ps ls) s
  labels_kept i (p ∷ ps) [] a b s = s
  labels_kept i [] ls a b s = s

  pub last_kept : (i : ℕ) (places ls : List ℕ) (a b : ℕ) → LabelsAtEnd here CleanupAt gives i places ls a b → LabelsAtEnd there CleanupAt gives i places ls a b
  last_kept i (p ∷ ps) (l ∷ ls) a b s = seq_map a b (if_kept (nat_le i p) l) (last_kept i ps ls) s
  last_kept i (p ∷ ps) [] a b s = s
  last_kept i [] ls a b s = s

pub otherwise_stays : (default : ℕ) → Stays (otherwise default)
otherwise_stays default fs here there k a b s = seq_map a b (one_kept here there k _) (one_kept here there k _) s

pub tests_stay : (to : ℕ → ℕ) (ks : List Value) (places : List ℕ) (default : ℕ) → Stays (tests to ks places default)
tests_stay to (v ∷ vs) (p ∷ ps) default fs here there k a b s =
    with_map a b (λ next a b. seq_map a b (one_kept here there k _) λ a b. seq_map a b (equals_stays v fs here there k) λ a b. seq_map a b (one_kept here there k _) λ a b. seq_map a b (one_kept here there k _) λ a b. seq_map a b (one_kept here there k _) λ a b. seq_map a b (label_kept here there k next) (tests_stay to vs ps default fs here there k)) s
tests_stay to (v ∷ vs) [] default fs here there k a b s = otherwise_stays default fs here there k a b s
tests_stay to [] ps default fs here there k a b s = otherwise_stays default fs here there k a b s

-- tests by the labels of the places
module _ (fs : List Function) (here : Listing) (gives : Bool) where
  pub tests_stand : (to : ℕ → ℕ) (ks : List Value) (places : List ℕ) (default a b : ℕ) → are_numbers ks ≡ true → tests to ks places default fs here a b → TestsAt here CleanupAt gives ks places (map to places) default a b
  tests_stand to (v ∷ vs) (p ∷ ps) default a b h s =
      with_map a b (λ next a b. seq_map a b (λ a b s. s) λ a b. seq_map a b (λ a b s. s (and_left (is_number v) (are_numbers vs) h)) λ a b. seq_map a b (λ a b s. s) λ a b. seq_map a b (λ a b s. s) λ a b. seq_map a b (λ a b s. s) λ a b. seq_map a b (λ a b s. s) (λ a b s. tests_stand to vs ps default a b (and_right (is_number v) (are_numbers vs) h) s)) s
  tests_stand to (v ∷ vs) [] default a b h s = s
  tests_stand to [] ps default a b h s = s

  -- one label stands for each place that is here
  one_here : (t : Bool) (first end i p b : ℕ) → (p == i) ≡ t → i < end → Label here (first + i) b b → LabelIf here CleanupAt gives t (label_of first end p) b b
  one_here true first end i p b e lt s =
      let is = eqb-true p i e in
      let at : first + i ≡ label_of first end p = omega (arith, is, lt) in
      subst (λ l. Label here l b b) at s
  one_here false first end i p b e lt s = refl

  pub labels_stand : (first end i : ℕ) (places : List ℕ) (b : ℕ) → i < end → Label here (first + i) b b → LabelsAt here CleanupAt gives i places (map (label_of first end) places) b b
  labels_stand first end i [] b lt s = refl
  labels_stand first end i (p ∷ ps) b lt s = record { mid = b; first = one_here (p == i) first end i p b refl lt s; rest = labels_stand first end i ps b lt s }

  one_last : (t : Bool) (first end p b : ℕ) → nat_le end p ≡ t → Label here (first + end) b b → LabelIf here CleanupAt gives t (label_of first end p) b b
  one_last true first end p b e s =
      let le = leb-true end p e in
      let at : first + end ≡ label_of first end p = omega (arith, le) in
      subst (λ l. Label here l b b) at s
  one_last false first end p b e s = refl

  pub last_stand : (first end : ℕ) (places : List ℕ) (b : ℕ) → Label here (first + end) b b → LabelsAtEnd here CleanupAt gives end places (map (label_of first end) places) b b
  last_stand first end [] b s = refl
  last_stand first end (p ∷ ps) b s = record { mid = b; first = one_last (nat_le end p) first end p b refl s; rest = last_stand first end ps b s }
