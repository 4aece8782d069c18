-- Variables that hold numbers.
use Rattle.std.proofs.Common.{◌≡◌, ℕ, ◌+◌, ◌-◌, ◌<◌, ◌≤◌, Bool, [], Option, Some, None, sym, ap, ◌∙◌, subst, arith}
use Rattle.std.specs.Prelude.{ℤ, slice_get}
use Rattle.std.proofs.lemmas.Bool.{eq-eqb, le-leb}
use Rattle.fx8.specs.declared.int_kind.IntKind.{IntKind}
use Rattle.mql_mean.specs.declared.value.Value.{out-Value}
use denote.Hole.Carrier.{out}
use Rattle.mql_mean.specs.declared.value.Value.TheVariants as value
use Rattle.mql_mean.specs.declared.error.ErrorKind.TheVariants.{CellsExhausted}
use Rattle.mql_meaning.specs.declared.cell.Cell.{Cell}
use Rattle.mql_meaning.specs.declared.cell.Cell.TheVariants as cell
use Rattle.mql_meaning.specs.declared.place.Root.{Root}
use Rattle.mql_meaning.specs.declared.place.Root.TheVariants as root
use Rattle.mql_meaning.specs.declared.store.Frame.{Frame}
use Rattle.mql_meaning.specs.declared.store.Slot.{Slot}
use Rattle.mql_meaning.specs.declared.store.Slot.TheVariants.{Own}
use Rattle.mql_meaning.specs.declared.store.Store.{Store}
use Rattle.mql_meaning.specs.Cells.{tag, put, told}
use Rattle.mql_meaning.specs.Changes.{Out, Done, after, either, give, must, the, top}
use Rattle.mql_meaning.specs.Places.{at_root, base_cell, cell_at, depth, local_place, locals_of, part, read, replace, set_base, slot_place, with_part, write}
use Rattle.stack_unboxed.specs.Unboxed.{cell_of}

pub named_so : (local d : ℕ) (store : Store) (f : Frame) (c : Cell) → top store ≡ Some f →
    slice_get f.locals local ≡ Some (Own c) → d ≡ depth store → local_place local store ≡ Done (at_root (root.Local d local)) store
named_so local d store f c e there same =
    ap (λ (o : Option Frame). after (the (slice_get (locals_of o) local) store) (λ (s : Slot). give (slot_place s (depth store) local))) e
    ∙ ap (λ (o : Option Slot). after (the o store) (λ (s : Slot). give (slot_place s (depth store) local))) there
    ∙ ap (λ (k : ℕ). Done (at_root (root.Local k local)) store) (sym same)

-- what stands at a root that is no object
base_is : (r : Root) (c : Cell) (store : Store) → cell_of r store ≡ Some c → base_cell r store ≡ Done c store
base_is (root.Global g) c store e = ap (λ (o : Option Cell). the o store) e
base_is (root.Local f l) c store e = ap (λ (o : Option Cell). the o store) e
base_is (root.Object s) c store e = absurd (subst (λ (o : Option Cell). elim o as (λ _. Type 0) [ None ↦ Unit {0} | Some c ↦ ⊥ ]) e (tt {0}))

there_is : (r : Root) (c : Cell) (store : Store) → cell_of r store ≡ Some c → cell_at (at_root r) store ≡ Done c store
there_is r c store e = ap (λ (o : Out Cell). after o (part [])) (base_is r c store e)

pub read_so : (r : Root) (k : IntKind) (x : ℤ) (store : Store) → cell_of r store ≡ Some (cell.One (value.Num k x)) →
    read (at_root r) store ≡ Done (value.Num k x) store
read_so r k x store e = ap (λ (o : Out Cell). after o (λ (c : Cell). give (told c))) (there_is r (cell.One (value.Num k x)) store e)

-- one cell goes and one comes
recounted : (r : Root) (k j : IntKind) (x y : ℤ) (store : Store) → 0 < store.cells → store.cells ≤ 1000000 →
    replace (at_root r) (cell.One (value.Num k x)) (cell.One (value.Num j y)) store
    ≡ Done tt (set_base r (with_part [] (cell.One (value.Num j y))) store)
unfolding out-Value out
recounted r k j x y store some few =
    let put_in : Store → Out (Unit {0}) = λ s. Done tt (set_base r (with_part [] (cell.One (value.Num j y))) s) in
    let with_count : ℕ → Store → Out (Unit {0}) = λ n s. Done tt (record s { cells = n }) in
    ap (λ (b : Bool). after (after (must b CellsExhausted store) (λ (_ : Unit {0}). with_count (store.cells - 1 + 1)))
    (λ (_ : Unit {0}). put_in))
    (le-leb (store.cells - 1 + 1) 1000000 (omega (arith, some, few)))
    ∙ ap (λ (n : ℕ). put_in (record store { cells = n })) (omega (arith, some))

put_there : (k j : IntKind) (x y : ℤ) → tag k ≡ tag j →
    put (cell.One (value.Num k x)) (value.Num j y) ≡ Some (cell.One (value.Num j y))
unfolding out-Value out
put_there k j x y same =
    ap (λ (b : Bool). either {A = Option Cell} b (Some (cell.One (value.Num j y))) None) (eq-eqb (tag k) (tag j) same)

pub put_so : (r : Root) (k j : IntKind) (x y : ℤ) (new : Cell) (store old : Store) → cell_of r store ≡ Some (cell.One (value.Num k x)) →
    tag k ≡ tag j → 0 < store.cells → store.cells ≤ 1000000 → new ≡ cell.One (value.Num j y) →
    old ≡ set_base r (with_part [] new) store →
    write (value.Num j y) (at_root r) store ≡ Done tt old
put_so r k j x y new store old e same some few is put_is =
    let place = at_root r in
    let v = value.Num j y in
    let c = cell.One (value.Num k x) in
    let first : write v place store ≡ after (the (put c v) store) (λ (d : Cell). replace place c d) =
    ap (λ (o : Out Cell). after o (λ (c : Cell) (s : Store). after (the (put c v) s) (λ (d : Cell). replace place c d)))
    (there_is r c store e) in
    let second : after (the (put c v) store) (λ (d : Cell). replace place c d) ≡ replace place c (cell.One v) store =
    ap (λ (o : Option Cell). after (the o store) (λ (d : Cell). replace place c d)) (put_there k j x y same) in
    first ∙ second ∙ recounted r k j x y store some few
    ∙ ap (λ (c : Cell). Done tt (set_base r (with_part [] c) store)) (sym is)
    ∙ ap (λ (s : Store). Done tt s) (sym put_is)
