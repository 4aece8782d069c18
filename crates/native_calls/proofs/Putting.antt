-- Cells that are put at places, one after another.
use Rattle.std.proofs.Common.{◌≡◌, List, [], ◌∷◌, map, refl}
use Rattle.mql_meaning.specs.declared.cell.Cell.{Cell}
use Rattle.mql_meaning.specs.declared.place.Place.{Place}
use Rattle.mql_meaning.specs.declared.store.Store.{Store}
use Rattle.mql_meaning.specs.Changes.{Change, Out, Done, Over, after}
use Rattle.mql_meaning.specs.Cells.{weight}
use Rattle.mql_meaning.specs.Places.{replace}
use Rattle.mql_meaning.specs.References as meaning
use Rattle.native_calls.specs.Written.{put_counted}

-- a change after another, by what it comes to
after_same : (o : Out (Unit {0})) (f g : Change (Unit {0})) → ((s : Store) → f s ≡ g s) →
    after o (λ _. f) ≡ after o (λ _. g)
after_same (Done u s) f g e = e s
after_same (Over e s) f g h = refl

pub counted_same : (ps : List Place) (cs news : List Cell) (s : Store) →
    meaning.put_at ps cs news s ≡ put_counted ps (map weight cs) news s
counted_same [] cs news s = refl
counted_same (p ∷ ps) [] news s = refl
counted_same (p ∷ ps) (c ∷ cs) [] s = refl
counted_same (p ∷ ps) (c ∷ cs) (new ∷ news) s =
    after_same (replace p c new s) (meaning.put_at ps cs news) (put_counted ps (map weight cs) news)
    (counted_same ps cs news)
