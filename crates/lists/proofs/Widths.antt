-- A list measured entry by entry.
use Rattle.std.proofs.Common.{◌≡◌, ℕ, ◌+◌, ◌*◌, ◌≤◌, Bool, true, false, ◌&&◌, List, [], ◌∷◌, ◌++◌, length, sym, refl, ap, ◌∙◌, append_assoc, arith, length-append}
use Rattle.std.proofs.lemmas.Bool.{and_from}
use Rattle.std.proofs.lemmas.List.{flat_map_more}
use Rattle.lists.specs.Entries.{Entry, Kind, entry_fits, spell_entry, spell_entries}
use Rattle.lists.specs.Lists.{led_by, every}

-- kept: the one of the standard library is private
and_assoc : (a b c : Bool) → ((a && b) && c) ≡ (a && (b && c))
and_assoc true b c = refl
and_assoc false b c = refl

every_append : (test : Entry → Bool) (xs ys : List Entry) → every test (xs ++ ys) ≡ every test xs && every test ys
every_append test [] ys = refl
every_append test (x ∷ xs) ys = ap (λ (b : Bool). test x && b) (every_append test xs ys) ∙ sym (and_assoc (test x) (every test xs) (every test ys))

-- some entries were measured, with the length of the list and its heading, and the rest is to come, of which `room` may
pub record Measured (k : Kind) (h : ℕ) (all rest : List Entry) (room total : ℕ) : Type 0 where
  pub done : List Entry
  pub split : all ≡ done ++ rest
  pub many : length done + room ≡ k.most
  pub fit : every (entry_fits k h) done ≡ true
  pub wide : length (led_by k.headed h) + length (spell_entries k done) ≡ total
  pub bound : total ≤ 1 + 255 * length done

module _ (k : Kind) (h : ℕ) (all rest left : List Entry) (e : Entry) (room total : ℕ) (q : rest ≡ e ∷ left) (m : Measured k h all rest room total) where
  whole : all ≡ m.done ++ (e ∷ left)
  whole = m.split ∙ ap (λ (r : List Entry). m.done ++ r) q

  pub measured_more :
      (less width : ℕ) → less + 1 ≡ room → entry_fits k h e ≡ true → width ≡ length (spell_entry k e) → width ≤ 255 → Measured k h all left less (total + width)
  measured_more less width r f w b =
      let n : length (m.done ++ e ∷ []) ≡ length m.done + 1 = length-append m.done (e ∷ []) in
      let x : length (spell_entries k (m.done ++ e ∷ [])) ≡ length (spell_entries k m.done) + length (spell_entry k e)
      = ap length (sym (flat_map_more (spell_entry k) [] m.done e)) ∙ length-append (spell_entries k m.done) (spell_entry k e) in
      record {
        done = m.done ++ e ∷ [];
        split = whole ∙ sym (append_assoc m.done (e ∷ []) left);
        many = omega (arith, m.many);
        fit = every_append (entry_fits k h) m.done (e ∷ []) ∙ and_from _ _ m.fit (and_from _ _ f refl);
        wide = omega (arith, m.wide);
        bound = omega (arith, m.bound);
      }
