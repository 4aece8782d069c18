-- Frames that go.
use Rattle.std.proofs.Common.{◌≡◌, ℕ, ◌-◌, List, [], ◌∷◌, ◌++◌, length, take, Some, sym, ap, ◌∙◌, arith, length-append}
use Rattle.std.specs.Prelude.{slice_get}
use Rattle.std.proofs.Math.Seq.{get_or-append_seam, take-append_seam}
use Rattle.std.proofs.lemmas.Option.{slice_get-get_or}
use Rattle.mql_meaning.specs.declared.store.Store.{Store}
use Rattle.mql_meaning.specs.declared.store.Frame.{Frame}
use Rattle.mql_meaning.specs.Changes.{Done, top}
use Rattle.mql_meaning.specs.Places.{locals_of}
use Rattle.mql_meaning.specs.Frames.{held, leave}

-- the store without its innermost frame
pub left_is : (store : Store) (fs : List Frame) (f : Frame) (n : ℕ) → store.frames ≡ fs ++ f ∷ [] →
    n ≡ store.cells - held f.locals → leave store ≡ Done tt (record store { frames = fs; cells = n })
left_is store fs f n e m =
    let len : length store.frames - 1 ≡ length fs = omega (arith, ap length e, length-append fs (f ∷ [])) in
    let took : take (length store.frames - 1) store.frames ≡ fs =
    ap (λ k. take k store.frames) len ∙ ap (take (length fs)) e ∙ take-append_seam fs (f ∷ []) in
    let topped : top store ≡ Some f =
    ap (slice_get store.frames) len ∙ ap (λ xs. slice_get xs (length fs)) e
    ∙ slice_get-get_or (fs ++ f ∷ []) (length fs) f (omega (arith, length-append fs (f ∷ [])))
    ∙ ap Some (get_or-append_seam fs f [] f) in
    ap (λ o. Done tt (record store { frames = take (length store.frames - 1) store.frames; cells = store.cells - held (locals_of o) })) topped
    ∙ ap (λ xs. Done tt (record store { frames = xs; cells = store.cells - held f.locals })) took
    ∙ ap (λ k. Done tt (record store { frames = fs; cells = k })) (sym m)
