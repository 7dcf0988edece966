-- The laws of a list element, for every kind.
use Rattle.std.proofs.Common.{◌≡◌, ℕ, ◌+◌, ◌<◌, ◌≤◌, Bool, true, false, List, [], ◌∷◌, ◌++◌, length, get_or, take, Ok, Err, Result, sym, refl, ap, ◌∙◌, subst, append_assoc, append-nil, le_refl, arith, length-append}
use Rattle.std.proofs.lemmas.Bool.{eqb-true, ltb-true, leb-true, le-leb, lt-ltb, eq-eqb, and_parts, and_from}
use Rattle.std.proofs.lemmas.List.{take-take, take_at, get_or-append-add, length-take-le}
use Rattle.std.specs.List.{AllByRecursion}
use Rattle.elements.specs.declared.faults.EntryFault.{EntryFault}
use Rattle.elements.specs.declared.faults.ElementFault.{ElementFault}
use Rattle.elements.specs.Faults.{out_of_range}
use Rattle.cbsp.specs.Octets.{two_at}
use Rattle.elements.specs.Octets.{Octets, two, then, raised}
use Rattle.elements.specs.Codec.{BodyLaws}
use Rattle.elements.proofs.Standing.{when_ok, then_ok, same_ok, not_ok, raised_ok, two_stands, octet_stands, Stands, two_here, octets_take}
use Rattle.lists.specs.Cells.{form_of}
use Rattle.lists.specs.Entries.{Entry, Kind, formed, entry_fits, spell_entry, spell_entries, read_entries}
use Rattle.lists.specs.Laws.{EntryFits}
use Rattle.lists.specs.Sizes.{first_fault, ill_sized}
use Rattle.lists.specs.Lists.{all_entries, end_of, heading, some, read_body, read_list, head_form, led_by, list_octets, lengthed, every, list_fits, entry_list}
use Rattle.lists.proofs.Forth.{entries_forth}
use Rattle.lists.proofs.Back.{entries_back, entry_some, fit}

pub end_was :
    (os : List ℕ) (at body end : ℕ) → end_of os at body ≡ Ok end → (body + 2 ≤ length os) × (body + 2 + two_at os body ≡ end) × (end ≤ length os)
end_was os at body end e =
    let a = when_ok _ _ _ _ e in
    let b = when_ok _ _ _ _ a.1 in
    let q = same_ok _ _ b.1 in
    (leb-true _ _ a.0, q, subst (λ (n : ℕ). n ≤ length os) q (leb-true _ _ b.0))

-- octets after the length of a list, and that length
pub lengthed_stands :
    (os : List ℕ) (body end : ℕ) (xs : List ℕ) → Octets os → body + 2 ≤ end → end ≤ length os → body + 2 + two_at os body ≡ end
    → take end os ≡ take (body + 2) os ++ xs → take end os ≡ take body os ++ lengthed xs
lengthed_stands os body end xs o l m n s =
    let a : length (take end os) ≡ end = length-take-le end os m in
    let b : length (take (body + 2) os) ≡ body + 2 = length-take-le (body + 2) os (omega arith) in
    let c : length (take end os) ≡ length (take (body + 2) os) + length xs = ap length s ∙ length-append (take (body + 2) os) xs in
    let d : two_at os body ≡ length xs = omega arith in
    let t = two_stands os body end o l m in
    s ∙ ap (λ (z : List ℕ). z ++ xs) t.spelt ∙ append_assoc (take body os) (two (two_at os body)) xs ∙ ap (λ (i : ℕ). take body os ++ (two i ++ xs)) d

some_was : (body end : ℕ) (fs : List Entry) (p : List Entry × ℕ) → some body end fs ≡ Ok p → ((fs, end) ≡ p) × (1 ≤ length fs)
some_was body end [] p e = absurd (not_ok _ _ e)
some_was body end (x ∷ xs) p e = (same_ok _ _ e, omega arith)

every_from : (test : Entry → Bool) (es : List Entry) → AllByRecursion (λ (e : Entry). test e ≡ true) es → every test es ≡ true
every_from test [] a = refl
every_from test (e ∷ es) a = and_from _ _ a.0 (every_from test es a.1)

every_to : (test : Entry → Bool) (es : List Entry) → every test es ≡ true → AllByRecursion (λ (e : Entry). test e ≡ true) es
every_to test [] a = tt
every_to test (e ∷ es) a = let p = and_parts _ _ a in (p.0, every_to test es p.1)

-- one discriminator for another, where the heading has none or they are the same
led_same : (b : Bool) (h d : ℕ) → formed b h d ≡ true → led_by b h ≡ led_by b d
led_same true h d p = ap (λ (n : ℕ). n ∷ []) (sym (eqb-true d h p))
led_same false h d p = refl

formed_same : (b : Bool) (h d e : ℕ) → formed b h d ≡ true → formed b h e ≡ true → formed b d e ≡ true
formed_same true h d e p q = eq-eqb e d (eqb-true e h q ∙ sym (eqb-true d h p))
formed_same false h d e p q = refl

refit : (k : Kind) (g h : ℕ) (e : Entry) → (formed k.headed g (form_of e.cell) ≡ true → formed k.headed h (form_of e.cell) ≡ true) → EntryFits k g e → EntryFits k h e
refit k g h e f p = let a = and_parts _ _ p in and_from _ _ (f a.0) a.1

refit_all :
    (k : Kind) (g h : ℕ) → ((d : ℕ) → formed k.headed g d ≡ true → formed k.headed h d ≡ true) → (es : List Entry) → AllByRecursion (EntryFits k g) es → AllByRecursion (EntryFits k h) es
refit_all k g h f [] a = tt
refit_all k g h f (e ∷ es) a = (refit k g h e (f (form_of e.cell)) a.0, refit_all k g h f es a.1)

head_led : (k : Kind) (h : ℕ) (es : List Entry) → 1 ≤ length es → AllByRecursion (EntryFits k h) es → led_by k.headed h ≡ led_by k.headed (head_form es)
head_led k h [] l a = absurd (omega arith)
head_led k h (e ∷ es) l a = led_same k.headed h (form_of e.cell) (fit k h e a.0).has_form

head_fits : (k : Kind) (h : ℕ) (es : List Entry) → AllByRecursion (EntryFits k h) es → AllByRecursion (EntryFits k (head_form es)) es
head_fits k h [] a = tt
head_fits k h (e ∷ es) a =
    refit_all k h (form_of e.cell) (λ d p. formed_same k.headed h (form_of e.cell) d (fit k h e a.0).has_form p) (e ∷ es) a

-- the heading that was read stands there
heading_was :
    (b : Bool) (forms : ℕ → Bool) (os : List ℕ) (body end : ℕ) (p : ℕ × ℕ) → body + 2 ≤ end → end ≤ length os → heading b forms os body end ≡ Ok p
    → Stands os (body + 2) end (led_by b p.0) p.1
heading_was false forms os body end p l m e =
    subst (λ (q : ℕ × ℕ). Stands os (body + 2) end [] q.1) (same_ok _ _ e) (record { spelt = sym (append-nil (take (body + 2) os)); from = le_refl (body + 2); within = l })
heading_was true forms os body end p l m e =
    let n : body + 2 + 1 ≡ body + 3 = omega arith in
    let a = when_ok _ _ _ _ e in
    let b = when_ok _ _ _ _ a.1 in
    subst (λ (q : ℕ × ℕ). Stands os (body + 2) end (led_by true q.0) q.1) (same_ok _ _ b.1) (rw n at (octet_stands os (body + 2) end (ltb-true _ _ a.0) m))

abbrev Spelt : Kind → List ℕ → ℕ → List Entry × ℕ → Type 0
Spelt k os body p = (take p.1 os ≡ take body os ++ lengthed (list_octets k p.0)) × (p.1 ≤ length os) × (list_fits k p.0 ≡ true)

-- entries that are read are so whatever their sizes are
first_ok : (ill : Bool) (broken : EntryFault) (r : Result (List Entry) EntryFault) (es : List Entry) → first_fault ill broken r ≡ Ok es → r ≡ Ok es
first_ok ill broken (Ok fs) es e = e
first_ok ill broken (Err f) es e = absurd (not_ok _ _ e)

pub list_forth : (k : Kind) (os : List ℕ) (at body : ℕ) (p : List Entry × ℕ) → Octets os → read_list k os at body ≡ Ok p → Spelt k os body p
list_forth k os at body p o e =
    let t = then_ok (end_of os at body) (λ end. then (heading k.headed k.forms os body end) (read_body k os body end)) p e in
    let end : ℕ = t.0 in
    let w = end_was os at body end t.1 in
    let u = then_ok (heading k.headed k.forms os body end) (read_body k os body end) p t.2 in
    let h : ℕ = u.0.0 in
    let first : ℕ = u.0.1 in
    let l : body + 2 ≤ end = omega arith in
    let a = heading_was k.headed k.forms os body end u.0 l w.2 u.1 in
    let r = then_ok (raised out_of_range (all_entries k os body end u.0)) (some body end) p u.2 in
    let es : List Entry = r.0 in
    let s = some_was body end es p r.2 in
    let x : read_entries k (record { place = body }) h end (take end os) k.most first ≡ Ok es
    = first_ok (ill_sized k h end (take end os) k.most first) (record { place = body }) _ es (raised_ok out_of_range _ es r.1) in
    let z : length (take end os) ≡ end = length-take-le end os w.2 in
    let f = entries_forth k (record { place = body }) h end (take end os) k.most first es (octets_take end os o) a.within (omega arith) x in
    let sp : List ℕ = spell_entries k es in
    let f₀ : take end os ≡ take first os ++ sp
    = sym (take-take end end os (le_refl end)) ∙ f.0 ∙ ap (λ (t : List ℕ). t ++ sp) (take-take first end os a.within) in
    let m : take end os ≡ take (body + 2) os ++ list_octets k es
    = f₀ ∙ ap (λ (z : List ℕ). z ++ sp) a.spelt ∙ append_assoc (take (body + 2) os) (led_by k.headed h) sp
    ∙ ap (λ (z : List ℕ). take (body + 2) os ++ (z ++ sp)) (head_led k h es s.1 f.2) in
    let y : Spelt k os body (es, end)
    = (
      lengthed_stands os body end (list_octets k es) o l w.2 w.1 m,
      w.2,
      and_from _ _ (and_from _ _ (le-leb 1 (length es) s.1) (le-leb (length es) k.most f.1)) (every_from (entry_fits k (head_form es)) es (head_fits k h es f.2)),
    ) in
    subst (Spelt k os body) s.0 y

-- what is spelt is read
pub end_back :
    (pre xs post : List ℕ) (at : ℕ) → end_of (pre ++ (lengthed xs ++ post)) at (length pre) ≡ Ok (length pre + 2 + length xs)
end_back pre xs post at =
    let os : List ℕ = pre ++ ((two (length xs) ++ xs) ++ post) in
    let n : two_at os (length pre) ≡ length xs = two_here pre (length xs) (xs ++ post) in
    let a : length os ≡ length pre + length ((two (length xs) ++ xs) ++ post) = length-append pre ((two (length xs) ++ xs) ++ post) in
    let b : length (xs ++ post) ≡ length xs + length post = length-append xs post in
    rw (le-leb (length pre + 2) (length os) (omega arith), n, le-leb (length pre + 2 + length xs) (length os) (omega arith))

pub third : (pre : List ℕ) (n x : ℕ) (ys : List ℕ) → get_or (pre ++ (two n ++ (x ∷ ys))) (length pre + 2) 0 ≡ x
third pre n x ys = get_or-append-add pre (two n ++ (x ∷ ys)) 2 0

-- the discriminator with which reading begins
abbrev start : Bool → ℕ → ℕ
start true d = d
start false d = 0

start_formed : (b : Bool) (h d : ℕ) → formed b h d ≡ true → formed b (start b h) d ≡ true
start_formed true h d p = p
start_formed false h d p = refl

heading_back :
    (b : Bool) (forms : ℕ → Bool) (pre : List ℕ) (n d : ℕ) (ys : List ℕ) (end : ℕ) → forms d ≡ true → length pre + 2 < end
    → heading b forms (pre ++ (two n ++ (led_by b d ++ ys))) (length pre) end ≡ Ok (start b d, length pre + 2 + length (led_by b d))
heading_back true forms pre n d ys end f l =
    let i : length pre + 3 ≡ length pre + 2 + 1 = omega arith in
    rw (lt-ltb (length pre + 2) end l, third pre n d ys, f) (ap (λ (j : ℕ). Ok (d, j)) i)
heading_back false forms pre n d ys end f l = let i : length pre + 2 ≡ length pre + 2 + 0 = omega arith in ap (λ (j : ℕ). Ok (0, j)) i

list_read :
    (k : Kind) (os : List ℕ) (at body end : ℕ) (p : ℕ × ℕ) (es : List Entry) → end_of os at body ≡ Ok end → heading k.headed k.forms os body end ≡ Ok p
    → read_entries k (record { place = body }) p.0 end (take end os) k.most p.1 ≡ Ok es → read_list k os at body ≡ some body end es
list_read k os at body end p es a b c =
    ap (λ (r : Result ℕ ElementFault). then r (λ e. then (heading k.headed k.forms os body e) (read_body k os body e))) a
    ∙ ap (λ (r : Result (ℕ × ℕ) ElementFault). then r (read_body k os body end)) b
    ∙ ap (λ (r : Result (List Entry) EntryFault). then (raised out_of_range (first_fault (ill_sized k p.0 end (take end os) k.most p.1) (record { place = body }) r)) (some body end)) c

-- a list of at least one entry, of which the first is e
list_back :
    (k : Kind) (pre post : List ℕ) (at : ℕ) (e : Entry) (es : List Entry) → length (e ∷ es) ≤ k.most → AllByRecursion (EntryFits k (form_of e.cell)) (e ∷ es)
    → read_list k (pre ++ (lengthed (list_octets k (e ∷ es)) ++ post)) at (length pre) ≡ Ok (e ∷ es, length pre + 2 + length (list_octets k (e ∷ es)))
list_back k pre post at e es l f =
    let d : ℕ = form_of e.cell in
    let led : List ℕ = led_by k.headed d in
    let ys : List ℕ = spell_entries k (e ∷ es) in
    let xs : List ℕ = led ++ ys in
    let os : List ℕ = pre ++ (lengthed xs ++ post) in
    let end : ℕ = length pre + 2 + length xs in
    let big = entry_some k e in
    let more : length ys ≡ length (spell_entry k e) + length (spell_entries k es) = length-append (spell_entry k e) (spell_entries k es) in
    let lx : length xs ≡ length led + length ys = length-append led ys in
    let a₀ : pre ++ (two (length xs) ++ (led ++ (ys ++ post))) ≡ os = ap (λ (t : List ℕ). pre ++ (two (length xs) ++ t)) (sym (append_assoc led ys post)) in
    let p : heading k.headed k.forms os (length pre) end ≡ Ok (start k.headed d, length pre + 2 + length led)
    = subst (λ (q : List ℕ). heading k.headed k.forms q (length pre) end ≡ Ok (start k.headed d, length pre + 2 + length led)) a₀
    (heading_back k.headed k.forms pre (length xs) d (ys ++ post) end (fit k d e f.0).may_form (omega arith)) in
    let front : List ℕ = pre ++ (two (length xs) ++ led) in
    let a : front ++ (ys ++ post) ≡ os = append_assoc pre (two (length xs) ++ led) (ys ++ post) ∙ a₀ in
    let m : length front ≡ length pre + 2 + length led = omega (arith, length-append pre (two (length xs) ++ led)) in
    let n : length front + length ys ≡ end = omega arith in
    let b : front ++ (ys ++ []) ≡ take end os
    = ap (λ (t : List ℕ). front ++ t) (append-nil ys) ∙ sym (take_at (front ++ ys) post end (length-append front ys ∙ n)) ∙ ap (take end) (append_assoc front ys post ∙ a) in
    let g : AllByRecursion (EntryFits k (start k.headed d)) (e ∷ es) = refit_all k d (start k.headed d) (start_formed k.headed d) (e ∷ es) f in
    let broken : EntryFault = record { place = length pre } in
    let r : read_entries k broken (start k.headed d) end (take end os) k.most (length pre + 2 + length led) ≡ Ok (e ∷ es)
    = subst (λ (i : ℕ). read_entries k broken (start k.headed d) end (take end os) k.most i ≡ Ok (e ∷ es)) m
    (subst (λ (q : List ℕ). read_entries k broken (start k.headed d) end q k.most (length front) ≡ Ok (e ∷ es)) b
    (subst (λ (i : ℕ). read_entries k broken (start k.headed d) i (front ++ (ys ++ [])) k.most (length front) ≡ Ok (e ∷ es)) n
    (entries_back k broken (start k.headed d) front [] k.most (e ∷ es) l g))) in
    list_read k os at (length pre) end (start k.headed d, length pre + 2 + length led) (e ∷ es) (end_back pre xs post at) p r

pub placed : (xs pre : List ℕ) → length pre + 2 + length xs ≡ length pre + length (lengthed xs)
placed xs pre = omega (arith, length-append (two (length xs)) xs)

pub list_back_all :
    (k : Kind) (pre post : List ℕ) (at : ℕ) (es : List Entry) → list_fits k es ≡ true
    → read_list k (pre ++ (lengthed (list_octets k es) ++ post)) at (length pre) ≡ Ok (es, length pre + 2 + length (list_octets k es))
list_back_all k pre post at [] f = let z : ◌≡◌ {A = ℕ} 0 1 = cc in absurd (omega arith)
list_back_all k pre post at (e ∷ es) f =
    let a = and_parts _ _ f in
    list_back k pre post at e es (leb-true _ _ (and_parts _ _ a.0).1) (every_to (entry_fits k (form_of e.cell)) (e ∷ es) a.1)

pub list_laws : (k : Kind) → BodyLaws (entry_list k)
list_laws k = record {
  body_forth = λ os at body v next o l e. list_forth k os at body (v, next) o e;
  body_back = λ pre post at v f. list_back_all k pre post at v f ∙ ap (λ (i : ℕ). Ok (v, i)) (placed (list_octets k v) pre);
}
