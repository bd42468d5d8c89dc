-- How a list lies in an array: its items first, and a blank in each place that is left.
use Rattle.std.specs.Prelude.{◌≡◌, ℕ, ◌-◌, ◌≤◌, List, ◌++◌, length, take, drop, replicate}
use Rattle.std.proofs.Common.{sym, ap, ◌∙◌, subst}
use Rattle.std.proofs.lemmas.List.{length-take-le, take-append-drop}

-- the items, and a blank for each place up to a size that is left
abbrev pub padded : {A : Type 0} → A → ℕ → List A → List A
padded blank size items = items ++ replicate (size - length items) blank

-- so many places of an array of a size are in use, and the rest are blank
pub record Padded {A : Type 0} (blank : A) (size used : ℕ) (places : List A) : Type 0 where
  pub fits : used ≤ size
  pub long : length places ≡ size
  pub blank_past : drop used places ≡ replicate (size - used) blank

-- the items tell how many places are in use, and what stands in all of them
module _ {A : Type 0} (blank : A) (size used : ℕ) (places : List A) (p : Padded blank size used places) where
  pub used_is : length (take used places) ≡ used
  used_is = length-take-le used places (subst (λ n. used ≤ n) (sym p.long) p.fits)

  pub places_are : padded blank size (take used places) ≡ places
  places_are =
      ap (λ n. take used places ++ replicate (size - n) blank) used_is
      ∙ ap (λ rest. take used places ++ rest) (sym p.blank_past)
      ∙ take-append-drop used places
