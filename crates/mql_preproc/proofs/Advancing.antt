-- The innermost file is read on, and the others wait.
use Rattle.std.proofs.Common.{◌≡◌, ℕ, suc, ◌+◌, ◌<◌, List, [], ◌∷◌, ◌++◌, length, refl, sym, ap, subst, arith, length-append, All, Some, Result, Ok, Err}
use Rattle.std.specs.Prelude.{slice_get, IfOk, IfErr}
use Rattle.std.proofs.lemmas.List.Elements.{All-cons}
use Rattle.mql_tree.specs.declared.token.Span.{Span}
use Rattle.mql_tree.specs.declared.token.Token as token
use Rattle.mql_tree.specs.Tokens.{start, Lexes}
use Rattle.mql_preproc.specs.declared.source.Source.{Source}
use Rattle.mql_preproc.specs.declared.fault.PreFault.{PreFault}
use Rattle.mql_preproc.specs.declared.fault.PreFault.TheVariants.{Need}
use Rattle.mql_preproc.specs.declared.state.State.{State}
use Rattle.mql_preproc.specs.declared.state.Open.{Open}
use Rattle.mql_preproc.specs.declared.state.Left.{Left}
use Rattle.mql_preproc.specs.declared.state.Reading.{Reading}
use Rattle.mql_preproc.specs.Names.{place_of}
use Rattle.mql_preproc.specs.Reading.{begun, entered, Reads, lexed, Leads, Preprocesses, made, faulty}
use Rattle.mql_preproc.specs.Resume.{progress_in, Resumes, all_read, goes_on, stops, finished, Stands}
use Rattle.mql_preproc.specs.declared.state.Advance.{Advance}
use Rattle.mql_preproc.specs.declared.state.Advance.TheVariants as advances
use Rattle.mql_preproc.specs.Answers.{Unless}
use Rattle.mql_preproc.specs.Strings.{joined}
use Rattle.mql_preproc.specs.declared.state.Pause.{Pause}
use Rattle.mql_preproc.specs.declared.state.Pause.TheVariants as pauses
use Rattle.mql_preproc.specs.Onward.{Ends, LeftLeads, Further, Entering, AtEnd, IsPaused, Opens, IsOpened, Fits, still_open, Comes, Advances, IsAdvanced}
use Rattle.mql_preproc.proofs.Steps.{ends, told_of}
use Rattle.mql_preproc.proofs.Added.{held_more}
use Rattle.mql_preproc.proofs.Resuming.{place_stays, one_source, moved, with_none, none_with}

-- a reading by its parts
abbrev pub reading_of : State → List Open → Reading
reading_of s files = record { state = s; files = files }

-- the innermost file is further on
front : (sources : List Source) (o next : Open) (others : List Open) (s t : State) (answer : Result State PreFault) (source : Source) → slice_get sources o.file ≡ Some source → next.file ≡ o.file
    → ((to : Result State PreFault) → Leads sources source (length others + 1) (progress_in next t) next.rest to → Leads sources source (length others + 1) (progress_in o s) o.rest to)
    → Resumes sources (next ∷ others) t answer → Resumes sources (o ∷ others) s answer
front sources o next others s t answer source g same step (goes_on other e l r) =
    goes_on source g (step _ (moved sources other source (length others + 1) (length others + 1) (progress_in next t) next.rest _ (one_source sources o.file other source (subst (λ (k : ℕ). slice_get sources k ≡ Some other) same e) g) refl l)) r
front sources o next others s t answer source g same step (stops other e l) =
    stops source g (step _ (moved sources other source (length others + 1) (length others + 1) (progress_in next t) next.rest _ (one_source sources o.file other source (subst (λ (k : ℕ). slice_get sources k ≡ Some other) same e) g) refl l))

-- a file is entered, and behind it the one that includes it
entering : (sources : List Source) (o outer : Open) (others : List Open) (s t : State) (k : ℕ) (source file : Source) (ts : List (token.Token × Span)) (answer : Result State PreFault)
    → slice_get sources o.file ≡ Some source → outer.file ≡ o.file → slice_get sources k ≡ Some file → Lexes k start file.text (Ok ts)
    → ((u : State) (to : Result State PreFault) → Reads sources k (length others + 1 + 1) t (Ok u) → Leads sources source (length others + 1) (progress_in outer u) outer.rest to → Leads sources source (length others + 1) (progress_in o s) o.rest to)
    → ((fault : PreFault) → Reads sources k (length others + 1 + 1) t (Err fault) → Leads sources source (length others + 1) (progress_in o s) o.rest (Err fault))
    → Resumes sources (record { file = k; rest = ts; conditions = [] } ∷ outer ∷ others) (entered t k).state answer → Resumes sources (o ∷ others) s answer
entering sources o outer others s t k source file ts answer g same f l comes fails (goes_on {t = u} inner i m (goes_on second j n r)) =
    goes_on source g (comes u _ (lexed file ts f l (moved sources inner file (suc (length others) + 1) (length others + 1 + 1) (entered t k) ts (Ok u) (one_source sources k inner file i f) (omega arith) m))
    (moved sources second source (length others + 1) (length others + 1) (progress_in outer u) outer.rest _ (one_source sources o.file second source (subst (λ (x : ℕ). slice_get sources x ≡ Some second) same j) g) refl n)) r
entering sources o outer others s t k source file ts answer g same f l comes fails (goes_on {t = u} inner i m (stops second j n)) =
    stops source g (comes u _ (lexed file ts f l (moved sources inner file (suc (length others) + 1) (length others + 1 + 1) (entered t k) ts (Ok u) (one_source sources k inner file i f) (omega arith) m))
    (moved sources second source (length others + 1) (length others + 1) (progress_in outer u) outer.rest _ (one_source sources o.file second source (subst (λ (x : ℕ). slice_get sources x ≡ Some second) same j) g) refl n))
entering sources o outer others s t k source file ts answer g same f l comes fails (stops {fault = fault} inner i m) =
    stops source g (fails fault (lexed file ts f l (moved sources inner file (suc (length others) + 1) (length others + 1 + 1) (entered t k) ts (Err fault) (one_source sources k inner file i f) (omega arith) m)))

-- files behind the first are among the sources
behind_among : (n : ℕ) (o : Open) (files : List Open) → All (λ (x : Open). x.file < n) (o ∷ files) → All (λ (x : Open). x.file < n) files
behind_among n o files h = λ i d lt. h (suc i) d (omega (arith, lt))

module _ (sources : List Source) (o : Open) (others : List Open) (s : State) (source : Source) (held : slice_get sources o.file ≡ Some source) (fits : Fits sources (reading_of s (o ∷ others))) where
  held_in : (more : List Source) → slice_get (sources ++ more) o.file ≡ Some source
  held_in more = held_more sources more o.file source held

  -- the innermost is read to its end
  pub closed : (t : State) → AtEnd sources source (length others + 1) (record { inner = o; state = s }) t
      → Advances sources (reading_of s (o ∷ others)) (reading_of t others) × (still_open (reading_of t others) < still_open (reading_of s (o ∷ others)))
  closed t h = (
    record { comes = λ more answer r. goes_on source (held_in more) (h.comes more) r; fits = record { files = behind_among (length sources) o others fits.files; deep = (let d = fits.deep in omega (arith, d)) } },
    (let e = ap length h.read in omega (arith, e)),
  )

  -- it is further on, before an include whose file is needed
  pub needs : (m : Left) (name : List ℕ) → Further sources source (length others + 1) (record { inner = o; state = s }) m × LeftLeads sources source (length others + 1) (record { inner = o; state = s }) (Err (Need name))
      → Advances sources (reading_of s (o ∷ others)) (reading_of m.state (m.inner ∷ others)) × Comes sources (reading_of s (o ∷ others)) (Err (Need name))
  needs m name h = (
    record {
      comes = λ more answer r. front (sources ++ more) o m.inner others s m.state answer source (held_in more) h.0.file (λ to l. h.0.comes more to l) r;
      fits = record { files = All-cons (λ (x : Open). x.file < length sources) m.inner others (subst (λ (k : ℕ). k < length sources) (sym h.0.file) (fits.files 0 o (omega arith))) (behind_among (length sources) o others fits.files); deep = fits.deep };
    },
    stops source held h.1,
  )

  pub fault_in : (fault : PreFault) → Ends fault (LeftLeads sources source (length others + 1) (record { inner = o; state = s }) (Err fault)) → Ends fault (Comes sources (reading_of s (o ∷ others)) (Err fault))
  fault_in fault h = ends fault (λ l. stops source held l) h

  module _ (m : Left) (k : ℕ) (h : Entering sources source (length others + 1) (record { inner = o; state = s }) m k) where
    -- the file of an include is opened
    pub opened_in : (next : Reading) → Opens sources k m.state (m.inner ∷ others) next → Advances sources (reading_of s (o ∷ others)) next × (still_open next < still_open (reading_of s (o ∷ others)))
    opened_in next q =
        subst (λ (x : Reading). Advances sources (reading_of s (o ∷ others)) x × (still_open x < still_open (reading_of s (o ∷ others)))) (sym q.is) (
          record {
            comes = λ more answer r. entering (sources ++ more) o m.inner others s m.state k source q.source q.tokens answer (held_in more) h.file (held_more sources more k q.source q.held) q.lexes (λ u to a b. h.comes more u to a b) (λ fault a. h.fails more fault a) r;
            fits = record {
              files = All-cons (λ (x : Open). x.file < length sources) (record { file = k; rest = q.tokens; conditions = [] }) (m.inner ∷ others) h.within (All-cons (λ (x : Open). x.file < length sources) m.inner others (subst (λ (k : ℕ). k < length sources) (sym h.file) (fits.files 0 o (omega arith))) (behind_among (length sources) o others fits.files));
              deep = (let d = h.deep in omega (arith, d));
            };
          },
          (let e = ap length h.read in let f = h.few in omega (arith, e, f, length-append m.state.read (k ∷ []))),
        )

    -- it has no tokens
    pub not_opened : (fault : PreFault) → Ends fault ((depth : ℕ) → Reads sources k depth m.state (Err fault)) → Ends fault (Comes sources (reading_of s (o ∷ others)) (Err fault))
    not_opened fault q =
        ends fault
        (λ r. stops source held
        (with_none sources (λ x. LeftLeads x source (length others + 1) (record { inner = o; state = s }) (Err fault)) (h.fails [] fault (none_with sources (λ x. Reads x k (length others + 1 + 1) m.state (Err fault)) (r (length others + 1 + 1))))))
        q

-- all files are read
pub all_come : (sources : List Source) (s : State) (files : List Open) → files ≡ [] → Comes sources (reading_of s files) (Ok s)
all_come sources s files e = subst (λ (x : List Open). Comes sources (reading_of s x) (Ok s)) (sym e) all_read

-- the program begins: its entry is opened
pub on_begin : (entry : List ℕ) (sources : List Source) (file : ℕ) (reading : Reading) → place_of entry sources ≡ Some file → Opens sources file begun [] reading → Stands entry sources reading
on_begin entry sources file reading e q =
    subst (λ (x : Reading). Stands entry sources x) (sym q.is)
    (record { comes = λ more answer r. begun_by more answer (place_stays entry sources more file e) (held_more sources more file q.source q.held) r })
  where
    begun_by : (more : List Source) (answer : Result State PreFault) → place_of entry (sources ++ more) ≡ Some file → slice_get (sources ++ more) file ≡ Some q.source
        → Resumes (sources ++ more) (record { file = file; rest = q.tokens; conditions = [] } ∷ []) (entered begun file).state answer → Preprocesses entry (sources ++ more) (finished answer)
    begun_by more answer e g (goes_on {t = t} inner i m all_read) = made file t e (lexed q.source q.tokens g q.lexes (moved (sources ++ more) inner q.source (0 + 1) 1 (entered begun file) q.tokens (Ok t) (one_source (sources ++ more) file inner q.source i g) (omega arith) m))
    begun_by more answer e g (stops {fault = fault} inner i m) = faulty file fault e (lexed q.source q.tokens g q.lexes (moved (sources ++ more) inner q.source (0 + 1) 1 (entered begun file) q.tokens (Err fault) (one_source (sources ++ more) file inner q.source i g) (omega arith) m))

pub begins_fits : (sources : List Source) (file : ℕ) (s : State) (reading : Reading) → file < length sources → Opens sources file s [] reading → Fits sources reading
begins_fits sources file s reading lt q =
    subst (Fits sources) (sym q.is) (record { files = All-cons (λ (o : Open). o.file < length sources) (record { file = file; rest = q.tokens; conditions = [] }) [] lt (λ i d l. absurd (omega (arith, l))); deep = omega arith })

pub begin_fault : (entry : List ℕ) (sources : List Source) (file : ℕ) (fault : PreFault) → place_of entry sources ≡ Some file → Ends fault ((depth : ℕ) → Reads sources file depth begun (Err fault)) → Ends fault (Preprocesses entry sources (Err fault))
begin_fault entry sources file fault e q = ends fault (λ r. faulty file fault e (r 1)) q

-- what a reading comes to is what the program becomes
pub stands_now : (entry : List ℕ) (sources : List Source) (reading : Reading) (answer : Result State PreFault) → Stands entry sources reading → Comes sources reading answer → Preprocesses entry sources (finished answer)
stands_now entry sources reading answer h c =
    with_none sources (λ x. Preprocesses entry x (finished answer)) (h.comes [] answer (none_with sources (λ x. Comes x reading answer) c))

pub stands_on : (entry : List ℕ) (sources : List Source) (reading next : Reading) → Stands entry sources reading → Advances sources reading next → Stands entry sources next
stands_on entry sources reading next h a = record { comes = λ more answer r. h.comes more answer (a.comes more answer r) }

-- files were added
pub fits_added : (sources added : List Source) (reading : Reading) → Fits sources reading → Fits (sources ++ added) reading
fits_added sources added reading h = record { files = λ i d lt. (let f = h.files i d lt in omega (arith, f, length-append sources added)); deep = h.deep }

-- a reading whose innermost file is taken
pub as_popped : (P : Reading → Type 0) (reading : Reading) (o : Open) (others : List Open) → reading.files ≡ o ∷ others → P (reading_of reading.state (o ∷ others)) → P reading
as_popped P reading o others e h = subst P (ap (λ (x : List Open). reading_of reading.state x) (sym e)) h

pub fits_popped : (sources : List Source) (reading : Reading) (o : Open) (others : List Open) → reading.files ≡ o ∷ others → Fits sources reading → Fits sources (reading_of reading.state (o ∷ others))
fits_popped sources reading o others e h = subst (λ (x : List Open). Fits sources (reading_of reading.state x)) e h

pub among_first : (sources : List Source) (s : State) (o : Open) (others : List Open) → Fits sources (reading_of s (o ∷ others)) → o.file < length sources
among_first sources s o others h = h.files 0 o (omega arith)

-- where the reading of a file stopped, as it is looked at
module _ (sources : List Source) (source : Source) (n m : ℕ) (l : Left) (same : n ≡ m) where
  pub paused_ends : (d : Pause) (t : State) → IsPaused sources source (n + 1) l (Ok d) → d ≡ pauses.Ends t → AtEnd sources source (m + 1) l t
  unfolding IsPaused
  paused_ends d t h e = subst (λ (k : ℕ). IsPaused sources source (k + 1) l (Ok (pauses.Ends t))) same (subst (λ (x : Pause). IsPaused sources source (n + 1) l (Ok x)) e h)

  pub paused_includes : (d : Pause) (next : Left) (k : ℕ) → IsPaused sources source (n + 1) l (Ok d) → d ≡ pauses.Includes next k → Entering sources source (m + 1) l next k
  unfolding IsPaused
  paused_includes d next k h e = subst (λ (j : ℕ). IsPaused sources source (j + 1) l (Ok (pauses.Includes next k))) same (subst (λ (x : Pause). IsPaused sources source (n + 1) l (Ok x)) e h)

  pub paused_needs : (d : Pause) (next : Left) (name : List ℕ) → IsPaused sources source (n + 1) l (Ok d) → d ≡ pauses.Needs next name → Further sources source (m + 1) l next × LeftLeads sources source (m + 1) l (Err (Need name))
  unfolding IsPaused
  paused_needs d next name h e = subst (λ (j : ℕ). IsPaused sources source (j + 1) l (Ok (pauses.Needs next name))) same (subst (λ (x : Pause). IsPaused sources source (n + 1) l (Ok x)) e h)

  pub paused_err : (fault : PreFault) → IsPaused sources source (n + 1) l (Err fault) → Ends fault (LeftLeads sources source (m + 1) l (Err fault))
  unfolding IsPaused
  paused_err fault h = subst (λ (j : ℕ). IsPaused sources source (j + 1) l (Err fault)) same h

-- a file that was opened within others
pub opened_ok : (sources : List Source) (k : ℕ) (s : State) (o : Open) (others all : List Open) (reading : Reading) → IsOpened sources k s all (Ok reading) → all ≡ o ∷ others → Opens sources k s (o ∷ others) reading
unfolding IsOpened
opened_ok sources k s o others all reading h e = subst (λ (x : List Open). IsOpened sources k s x (Ok reading)) e h

pub opened_err : (sources : List Source) (k : ℕ) (s : State) (files : List Open) (fault : PreFault) → IsOpened sources k s files (Err fault) → Ends fault ((depth : ℕ) → Reads sources k depth s (Err fault))
unfolding IsOpened
opened_err sources k s files fault h = h

pub with_pushed : (P : Reading → Type 0) (s : State) (o : Open) (others all : List Open) → all ≡ o ∷ others → P (reading_of s (o ∷ others)) → P (reading_of s all)
with_pushed P s o others all e h = subst (λ (x : List Open). P (reading_of s x)) (sym e) h

-- the entry is opened first
opened_begun : (sources : List Source) (file : ℕ) (s : State) (files : List Open) (result : Result Reading PreFault) → IsOpened sources file s files result → s ≡ begun → files ≡ [] → IsOpened sources file begun [] result
opened_begun sources file s files result h e f = subst (λ (x : State). IsOpened sources file x [] result) e (subst (λ (x : List Open). IsOpened sources file s x result) f h)

pub begin_stands : (entry : List ℕ) (sources : List Source) (file : ℕ) (s : State) (files : List Open) (result : Result Reading PreFault) → place_of entry sources ≡ Some file → IsOpened sources file s files result → s ≡ begun → files ≡ [] → IfOk result (Stands entry sources)
unfolding IsOpened
begin_stands entry sources file s files (Ok reading) p h e f = on_begin entry sources file reading p (opened_begun sources file s files (Ok reading) h e f)
begin_stands entry sources file s files (Err fault) p h e f = tt

pub begin_fits : (sources : List Source) (file : ℕ) (s : State) (files : List Open) (result : Result Reading PreFault) → file < length sources → IsOpened sources file s files result → s ≡ begun → files ≡ [] → IfOk result (Fits sources)
unfolding IsOpened
begin_fits sources file s files (Ok reading) lt h e f = begins_fits sources file begun reading lt (opened_begun sources file s files (Ok reading) h e f)
begin_fits sources file s files (Err fault) lt h e f = tt

pub begin_told : (entry : List ℕ) (sources : List Source) (file : ℕ) (s : State) (files : List Open) (result : Result Reading PreFault) → place_of entry sources ≡ Some file → IsOpened sources file s files result → s ≡ begun → files ≡ []
    → IfErr result (λ (fault : PreFault). Unless fault (Preprocesses entry sources (Err fault)))
unfolding IsOpened
begin_told entry sources file s files (Ok reading) p h e f = tt
begin_told entry sources file s files (Err fault) p h e f = told_of _ fault (begin_fault entry sources file fault p (opened_begun sources file s files (Err fault) h e f))

-- an advance, as it is looked at
pub advanced_on : (sources : List Source) (reading next : Reading) (a : Advance) → IsAdvanced sources reading (Ok a) → a ≡ advances.On next → Advances sources reading next × (still_open next < still_open reading)
unfolding IsAdvanced
advanced_on sources reading next a h e = subst (λ (x : Advance). IsAdvanced sources reading (Ok x)) e h

pub advanced_made : (sources : List Source) (reading : Reading) (s : State) (a : Advance) → IsAdvanced sources reading (Ok a) → a ≡ advances.Made s → Comes sources reading (Ok s)
unfolding IsAdvanced
advanced_made sources reading s a h e = subst (λ (x : Advance). IsAdvanced sources reading (Ok x)) e h

pub advanced_needs : (sources : List Source) (reading next : Reading) (name : List ℕ) (a : Advance) → IsAdvanced sources reading (Ok a) → a ≡ advances.Needs name next → Advances sources reading next × Comes sources reading (Err (Need name))
unfolding IsAdvanced
advanced_needs sources reading next name a h e = subst (λ (x : Advance). IsAdvanced sources reading (Ok x)) e h

pub advanced_err : (sources : List Source) (reading : Reading) (fault : PreFault) → IsAdvanced sources reading (Err fault) → Ends fault (Comes sources reading (Err fault))
unfolding IsAdvanced
advanced_err sources reading fault h = h

-- what the reading of a program stopped with
pub made_now : (entry : List ℕ) (sources : List Source) (reading : Reading) (s : State) (ts : List (token.Token × Span)) → Stands entry sources reading → Comes sources reading (Ok s) → ts ≡ joined s.made → Preprocesses entry sources (Ok ts)
made_now entry sources reading s ts h c e = subst (λ (x : List (token.Token × Span)). Preprocesses entry sources (Ok x)) (sym e) (stands_now entry sources reading (Ok s) h c)

pub fault_now : (entry : List ℕ) (sources : List Source) (reading : Reading) (fault : PreFault) → Stands entry sources reading → Ends fault (Comes sources reading (Err fault)) → Ends fault (Preprocesses entry sources (Err fault))
fault_now entry sources reading fault h c = ends fault (λ x. stands_now entry sources reading (Err fault) h x) c
