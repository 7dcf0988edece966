-- Message Content: an identifier, a length of 1 to 82, 82 octets of content.
use Rattle.std.specs.Prelude.{ℕ, zero, suc, ◌+◌, Bool, true, cond, ◌&&◌, List, [], ◌∷◌, ◌++◌, length, map, take, drop, Some, None, Ok, Err, Option, Result, ◌==◌, nat_le, slice_index}
use Rattle.std.specs.List.{flat_map}
use Rattle.elements.specs.declared.faults.ElementFault.{ElementFault}
use Rattle.elements.specs.declared.faults.ElementFault.TheVariants.{RunsPast, OutOfRange}
use Rattle.elements.specs.declared.faults.Fault.{Fault}
use Rattle.elements.specs.Octets.{then}
use Rattle.elements.specs.Elements.{within}
use Rattle.elements.specs.Codec.{Codec, Body, element}
use Rattle.pages.specs.declared.page.Page.{Page}
use Rattle.pages.specs.declared.pages.Pages.{Pages}
use Rattle.pages.specs.declared.pages.Pages.TheVariants.{Read, Given}

-- what follows the identifier at `body`
abbrev pub page_at : List ℕ → ℕ → Page
page_at os body = record { used = slice_index os body; content = take 82 (drop (body + 1) os) }

abbrev pub read_page : List ℕ → ℕ → ℕ → Result (Page × ℕ) ElementFault
read_page os at body =
    cond (nat_le (body + 83) (length os))
    (cond (within 1 82 (slice_index os body)) (Ok (page_at os body, body + 83)) (Err (OutOfRange body)))
    (Err (RunsPast at))

abbrev pub page_body : Body Page
page_body = record { spell = λ p. p.used ∷ p.content; fits = λ p. within 1 82 p.used && (length p.content == 82); read = read_page }

abbrev pub page : Codec Page
page = element 1 page_body

-- the same element so many times
abbrev pub ahead : {V : Type 0} → V → Result (List V × ℕ) Fault → Result (List V × ℕ) Fault
ahead v (Ok p) = Ok (v ∷ p.0, p.1)
ahead v (Err f) = Err f

unfoldable pub read_times : {V : Type 0} → Codec V → List ℕ → ℕ → ℕ → Result (List V × ℕ) Fault
read_times c os zero at = Ok ([], at)
read_times c os (suc n) at = then (c.read os at) (λ p. ahead p.0 (read_times c os n p.1))

abbrev pub each : {V : Type 0} → (V → Bool) → List V → Bool
each test [] = true
each test (v ∷ vs) = test v && each test vs

-- a number, another element, and so many of a third
abbrev pub repeated : {D P : Type 0} → Codec ℕ → Codec D → Codec P → Codec (D × List P)
repeated {D} {P} n d p = record {
  spell = λ v. n.spell (length v.1) ++ (d.spell v.0 ++ flat_map p.spell v.1);
  fits = λ v. n.fits (length v.1) && (d.fits v.0 && each p.fits v.1);
  Follow = λ _. Unit {0};
  read = λ os at. then (n.read os at) (λ i. then (d.read os i.1) (λ j. then (read_times p os i.0 j.1) (λ k. Ok ((j.0, k.0), k.1))));
}

-- the page of a whole element
abbrev pub whole_page : List ℕ → Page
whole_page os = page_at os 1

abbrev pub pages_meant : Pages → List Page
pages_meant (Read es) = map whole_page es.now
pages_meant (Given ps) = ps.now

-- how many pages there are, where they can be spelt
abbrev pub page_count : List Page → Option ℕ
page_count ps = cond (within 1 15 (length ps) && each page.fits ps) (Some (length ps)) None
