-- Identities that are apart.
-- Kept: it ties that search to the law that no two cells are the same, and the library has no single lemma of that.
use Rattle.std.proofs.Common.{◌≡◌, ℕ, ◌<◌, true, false, List, length, sym, ap, ◌∙◌, ⊎_elim, arith}
use Rattle.std.proofs.lemmas.List.FromFn.{length-map-range_with_len, get_or-map-range_with_len}
use Rattle.std.proofs.lemmas.Bool.{and_from, eq-eqb, both_ways, cases_order}
use Rattle.cells.specs.declared.cell.Identity.{Identity}
use Rattle.cells.specs.declared.cell.Cell.{Cell}
use Rattle.cells.specs.File.{same_identity, stands_before, repeated, identities, identity_at, cells_in, cell_count, Distinct, Apart}
use Rattle.cells.proofs.Below.{any_same, none_below}

same : (a b : Identity) → a ≡ b → same_identity a b ≡ true
same a b e =
    and_from _ _ (eq-eqb a.lac b.lac (ap (λ (x : Identity). x.lac) e)) (eq-eqb a.ci b.ci (ap (λ (x : Identity). x.ci) e))

-- numbers with the same identity are no two, where none is repeated
apart_below : (ids : ℕ → Identity) (n i j : ℕ) → repeated ids n ≡ false → i < j → j < n → ids i ≡ ids j → ⊥
apart_below ids n i j e l m q =
    both_ways _ (none_below (λ k. same_identity (ids k) (ids j)) j (none_below (stands_before ids) n e j m) i l) (same (ids i) (ids j) q)

pub apart : (cs : List Cell) → Distinct cs → Apart cs
apart cs e i j l m q =
    ⊎_elim (λ p. p)
    (⊎_elim (λ p. absurd (apart_below (identities cs) (length cs) i j e p m q)) (λ p. absurd (apart_below (identities cs) (length cs) j i e p l (sym q))))
    (cases_order i j)

stands_same : (f g : ℕ → Identity) (n : ℕ) → ((k : ℕ) → k < n → f k ≡ g k) → (k : ℕ) → k < n → stands_before f k ≡ stands_before g k
stands_same f g n h k l =
    any_same (λ i. same_identity (f i) (f k)) (λ i. same_identity (g i) (g k)) k
    (λ i m. let here : f k ≡ g k = h k l in let there : f i ≡ g i = h i (omega arith) in cc)

repeated_same : (f g : ℕ → Identity) (n : ℕ) → ((k : ℕ) → k < n → f k ≡ g k) → repeated f n ≡ repeated g n
repeated_same f g n h = any_same (stands_before f) (stands_before g) n (stands_same f g n h)

-- the cells of a file are apart where its identities are
pub distinct_in : (os : List ℕ) → repeated (identity_at os) (cell_count os) ≡ false → Distinct (cells_in os)
distinct_in os e =
    rw length-map-range_with_len
    (repeated_same (identities (cells_in os)) (identity_at os) (cell_count os)
    (λ k l. ap (λ (c : Cell). c.identity) (get_or-map-range_with_len _ 0 (cell_count os) k k _ l (omega arith)))
    ∙ e)
