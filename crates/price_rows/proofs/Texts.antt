-- The separator of a text, its mark, and its units.
use Rattle.std.proofs.Common.{◌≡◌, ℕ, ◌-◌, ◌<◌, ◌≤◌, true, false, List, [], ◌∷◌, ◌++◌, length, Some, None, Option, refl, sym, ap, ◌∙◌, arith, Bor, append_assoc, append-nil, ⊎_elim, get_or, take, drop, ◌≢◌, ne_eqb, take_all, ◌&&◌}
use Rattle.std.specs.Option.{option_map, is_some}
use Rattle.std.specs.Prelude.{◌==◌, nat_le}
use Rattle.csv.specs.Reading.{strip_bom}
use Rattle.csv.specs.Records.{field_at}
use Rattle.price_records.specs.Records.{records}
use Rattle.std.proofs.lemmas.Bool.{cases_Bool, and_right, and_parts, leb-true}
use Rattle.price_rows.specs.Files.{units, narrow, separator, is_tabbed, text_of}

-- whether there is a field at a place
pub field_if_some : (o : Option (Bor (List ℕ))) (f : Option (List ℕ)) → option_map (λ (s : Bor (List ℕ)). s.now) o ≡ f → is_some o ≡ is_some f
field_if_some None f e = rw (← e) refl
field_if_some (Some s) f e = rw (← e) refl

-- the separator, by the first record
pub by_none : (text : List ℕ) → records 9 text ≡ [] → 44 ≡ separator text
unfolding separator
by_none text e = rw e refl

untabbed : (fields : List (List ℕ)) (more : List (List (List ℕ))) → is_some (field_at fields 1) ≡ false → is_tabbed (fields ∷ more) ≡ false
unfolding field_at
untabbed [] more e = refl
untabbed (a ∷ []) more e = refl
untabbed (a ∷ b ∷ fields) more e = absurd (cc)

tabbed : (fields : List (List ℕ)) (more : List (List (List ℕ))) → is_some (field_at fields 1) ≡ true → is_tabbed (fields ∷ more) ≡ true
unfolding field_at
tabbed [] more e = absurd (cc)
tabbed (a ∷ []) more e = absurd (cc)
tabbed (a ∷ b ∷ fields) more e = refl

pub by_comma : (text : List ℕ) (fields : List (List ℕ)) (more : List (List (List ℕ))) → records 9 text ≡ fields ∷ more → is_some (field_at fields 1) ≡ false → 44 ≡ separator text
unfolding separator
by_comma text fields more e h = rw (e, untabbed fields more h) refl

pub by_tab : (text : List ℕ) (fields : List (List ℕ)) (more : List (List (List ℕ))) → records 9 text ≡ fields ∷ more → is_some (field_at fields 1) ≡ true → 9 ≡ separator text
unfolding separator
by_tab text fields more e h = rw (e, tabbed fields more h) refl

-- the mark of UTF-16
pub mark_short : (bytes : List ℕ) → length bytes < 2 → text_of bytes ≡ Some (strip_bom bytes)
unfolding strip_bom
mark_short [] h = refl
mark_short (a ∷ []) h = refl
mark_short (a ∷ b ∷ more) h = absurd (omega arith)

pub mark_first : (bytes : List ℕ) → 2 ≤ length bytes → get_or bytes 0 0 ≢ 255 → text_of bytes ≡ Some (strip_bom bytes)
mark_first [] h e = absurd (omega arith)
mark_first (a ∷ []) h e = absurd (omega arith)
mark_first (a ∷ b ∷ more) h e = rw (ne_eqb a 255 e) refl

pub mark_second : (bytes : List ℕ) → 2 ≤ length bytes → get_or bytes 1 0 ≢ 254 → text_of bytes ≡ Some (strip_bom bytes)
mark_second [] h e = absurd (omega arith)
mark_second (a ∷ []) h e = absurd (omega arith)
mark_second (a ∷ b ∷ more) h e = rw (and_right (a == 255) (b == 254) (ne_eqb b 254 e)) refl

pub mark_is : (bytes : List ℕ) → 2 ≤ length bytes → get_or bytes 0 0 ≡ 255 → get_or bytes 1 0 ≡ 254 → text_of bytes ≡ units (take (length bytes - 2) (drop 2 bytes))
mark_is [] h e f = absurd (omega arith)
mark_is (a ∷ []) h e f = absurd (omega arith)
mark_is (a ∷ b ∷ more) h e f = rw (e, f) (ap units (sym (take_all _ _ (omega arith))))

-- bytes before the units of the rest
abbrev pub after_units : List ℕ → Option (List ℕ) → Option (List ℕ)
after_units text o = option_map (λ more. text ++ more) o

one_more : (text : List ℕ) (unit : ℕ) (o : Option (List ℕ)) → after_units text (option_map (λ more. unit ∷ more) o) ≡ after_units (text ++ (unit ∷ [])) o
one_more text unit None = refl
one_more text unit (Some more) = ap Some (sym (append_assoc text (unit ∷ []) more))

pub units_push : (text : List ℕ) (low high : ℕ) (rest : List ℕ) → after_units text (units (low ∷ high ∷ rest)) ≡ after_units (text ++ (narrow low high ∷ [])) (units rest)
unfolding units
units_push text low high rest = one_more text (narrow low high) (units rest)

-- units are no byte order mark of UTF-8
narrow_is_no_mark : (low high : ℕ) → (narrow low high == 239) ≡ false
narrow_is_no_mark low high =
    ⊎_elim
    (λ (t : ((high == 0) && nat_le low 127) ≡ true).
    let small = leb-true low 127 ((and_parts _ _ t).1) in
    rw t (ne_eqb low 239 (λ e. absurd (omega (arith, e, small)))))
    (λ (f : ((high == 0) && nat_le low 127) ≡ false). rw f refl)
    (cases_Bool ((high == 0) && nat_le low 127))

unmarked_first : (low high : ℕ) (o : Option (List ℕ)) (text : List ℕ) → option_map (λ more. narrow low high ∷ more) o ≡ Some text → strip_bom text ≡ text
unfolding strip_bom
unmarked_first low high None text e = absurd (cc)
unmarked_first low high (Some []) text e = let f : text ≡ narrow low high ∷ [] = cc in rw f refl
unmarked_first low high (Some (b ∷ [])) text e = let f : text ≡ narrow low high ∷ b ∷ [] = cc in rw f refl
unmarked_first low high (Some (b ∷ c ∷ more)) text e = let f : text ≡ narrow low high ∷ b ∷ c ∷ more = cc in rw (f, narrow_is_no_mark low high) refl

pub unmarked : (bytes text : List ℕ) → units bytes ≡ Some text → strip_bom text ≡ text
unfolding units strip_bom
unmarked [] text e = let f : text ≡ [] = cc in rw f refl
unmarked (a ∷ []) text e = absurd (cc)
unmarked (a ∷ b ∷ more) text e = unmarked_first a b (units more) text e

-- the first of the units that are left
pub units_first : (text rest : List ℕ) → 2 ≤ length rest → after_units text (units rest) ≡ after_units (text ++ (narrow (get_or rest 0 0) (get_or rest 1 0) ∷ [])) (units (take (length rest - 2) (drop 2 rest)))
units_first text [] h = absurd (omega arith)
units_first text (a ∷ []) h = absurd (omega arith)
units_first text (a ∷ b ∷ more) h = units_push text a b more ∙ ap (λ x. after_units (text ++ (narrow a b ∷ [])) (units x)) (sym (take_all _ _ (omega arith)))

pub units_none : (text rest : List ℕ) → length rest < 2 → length rest ≢ 0 → after_units text (units rest) ≡ None
unfolding units
units_none text [] h n = absurd (n refl)
units_none text (a ∷ []) h n = refl
units_none text (a ∷ b ∷ more) h n = absurd (omega arith)

pub units_all : (text rest : List ℕ) → length rest ≡ 0 → after_units text (units rest) ≡ Some text
unfolding units
units_all text [] n = ap Some (append-nil text)
units_all text (a ∷ more) n = absurd (omega arith)

pub units_begin : (o : Option (List ℕ)) → o ≡ after_units [] o
units_begin None = refl
units_begin (Some text) = refl
