-- What the changes of a list do to the array that it lies in.
use Rattle.std.proofs.Common.{◌≡◌, ℕ, suc, ◌+◌, ◌-◌, ◌<◌, List, ◌∷◌, take, drop, set, get_or, replicate, Some, sym, ap, ◌∙◌, arith}
use Rattle.std.specs.List.{slice_get}
use Rattle.std.proofs.lemmas.List.{length-set, drop-set, drop-set-lt, drop-drop, drop-replicate, get_or-take}
use Rattle.std.proofs.lemmas.Option.{slice_get-get_or}
use Rattle.fixed_list.specs.Padding.{Padded, used_is}

module _ {A : Type 0} (blank : A) (size used : ℕ) (places : List A) (p : Padded blank size used places) where
  -- one place more is used
  pub one_more : (x : A) → used < size → Padded blank size (used + 1) (set places used x)
  one_more x room =
      let less : size - used - 1 ≡ size - (used + 1) = omega arith in
      record {
        fits = omega arith;
        long = length-set places used x ∙ p.long;
        blank_past = drop-set-lt (used + 1) places used x (omega arith)
            ∙ sym (drop-drop 1 used places)
            ∙ ap (drop 1) p.blank_past
            ∙ drop-replicate 1 (size - used) blank
            ∙ ap (λ n. replicate n blank) less;
      }

  -- the last place is given up
  pub one_less : 0 < used → Padded blank size (used - 1) (set places (used - 1) blank)
  one_less some =
      let back : used - 1 + 1 ≡ used = omega arith in
      let more : suc (size - used) ≡ size - (used - 1) = omega (arith, p.fits) in
      record {
        fits = omega (arith, p.fits);
        long = length-set places (used - 1) blank ∙ p.long;
        blank_past = drop-set places (used - 1) blank (omega (arith, p.long, p.fits))
            ∙ ap (λ n. blank ∷ drop n places) back
            ∙ ap (λ rest. blank ∷ rest) p.blank_past
            ∙ ap (λ n. replicate n blank) more;
      }

  -- a place in use has another item
  pub another : (i : ℕ) (x : A) → i < used → Padded blank size used (set places i x)
  another i x here =
      record {
        fits = p.fits;
        long = length-set places i x ∙ p.long;
        blank_past = drop-set-lt used places i x here ∙ p.blank_past;
      }

  -- what stands at a place in use is the item there
  pub item_at : (i : ℕ) (d : A) → i < used → Some (get_or places i d) ≡ slice_get (take used places) i
  item_at i d here = sym (slice_get-get_or (take used places) i d (omega (arith, used_is blank size used places p)) ∙ ap Some (get_or-take used places i d here))
