-- The places cut into the lists of the views, one view after another.
use Rattle.std.proofs.Common.{◌≡◌, ℕ, zero, suc, ◌+◌, ◌<◌, ◌≤◌, List, [], ◌∷◌, ◌++◌, map, length, take, drop, cond, nat_lt, sym, refl, ap, ◌∙◌, subst, arith}
use Rattle.std.proofs.lemmas.Bool.{cond-true, lt-ltb}
use Rattle.std.proofs.lemmas.List.{append-nil, append_assoc, drop_more, drop_all, length-drop, length-map, length-take, length_push}
use Rattle.opset.specs.declared.OpSet.{OpSet}
use Rattle.opset.specs.Sets.{size}
use Rattle.models.specs.Rows.{row_at}
use Rattle.orders.specs.Orders.{view_at}
use Rattle.search.specs.declared.tables.Tables.{Tables}
use Rattle.search.specs.Steps.{view_of, number_of, cut, total}
use Rattle.search.specs.Found.{Small}

-- the lists of the first k views are cut, and the rest has those of the others
pub record Cutting (tables : Tables) (order : List ℕ) (k : ℕ) (lists : List (List ℕ)) (rest : List ℕ) : Type 0 where
  pub count : length lists ≡ k
  pub room : total (drop k tables.held) ≤ length rest
  pub whole : lists ++ map (map (number_of tables)) (cut (drop k tables.held) rest) ≡ map (map (number_of tables)) (cut tables.held order)

-- there is a list for each view, no longer than what the view holds
module _ (f : ℕ → ℕ) where
  cut_count : (views : List OpSet) (xs : List ℕ) → length (map (map f) (cut views xs)) ≡ length views
  cut_count [] xs = refl
  cut_count (v ∷ views) xs = ap suc (cut_count views (drop (size v) xs))

  cut_short : (views : List OpSet) (xs : List ℕ) → ((k : ℕ) → size (row_at views k) ≤ 64) → (k : ℕ) → length (view_at (map (map f) (cut views xs)) k) ≤ 64
  cut_short views xs sized zero = omega arith
  cut_short [] xs sized (suc k) = omega arith
  cut_short (v ∷ views) xs sized (suc zero) = omega (arith, length-map (take (size v) xs) f, length-take (size v) xs, sized 0)
  cut_short (v ∷ views) xs sized (suc (suc k)) = cut_short views (drop (size v) xs) (λ j. sized (suc j)) (suc k)

module _ (tables : Tables) (order : List ℕ) where
  pub cutting_starts : total tables.held ≤ length order → Cutting tables order 0 [] order
  cutting_starts room = record { count = refl; room = room; whole = refl }

  module _ (k : ℕ) (lists : List (List ℕ)) (rest : List ℕ) (v : Cutting tables order k lists rest) where
    module _ (here : k < length tables.held) where
      on : drop k tables.held ≡ view_of tables k ∷ drop (k + 1) tables.held
      on = drop_more tables.held k (record { 0 = 0 }) here

      -- the next list is among what is left, and has room
      pub cutting_fits : size (view_of tables k) ≤ length rest
      cutting_fits = omega (arith, ap total on, v.room)

      pub cutting_on : (n : ℕ) (list : List ℕ) (longer : List (List ℕ)) → n ≡ size (view_of tables k) → list ≡ map (number_of tables) (take n rest)
          → longer ≡ cond (nat_lt (length lists) 16) (lists ++ list ∷ []) lists → Cutting tables order (k + 1) longer (drop n rest)
      cutting_on n list longer sized is pushed =
          let full : longer ≡ lists ++ list ∷ [] = pushed ∙ cond-true _ _ _ (lt-ltb (length lists) 16 (omega (arith, v.count, here, tables.few))) in
          let others = map (map (number_of tables)) (cut (drop (k + 1) tables.held) (drop n rest)) in
          record {
            count = omega (arith, ap length full, length_push lists list, v.count);
            room = omega (arith, ap total on, v.room, length-drop n rest, sized);
            whole =
                ap (λ l. l ++ others) full
                ∙ append_assoc lists (list ∷ []) others
                ∙ ap (λ l. lists ++ l ∷ others) is
                ∙ (λ i. lists ++ map (number_of tables) (take (sized i) rest) ∷ map (map (number_of tables)) (cut (drop (k + 1) tables.held) (drop (sized i) rest)))
                ∙ sym (ap (λ views. lists ++ map (map (number_of tables)) (cut views rest)) on)
                ∙ v.whole;
          }

    pub cutting_ends : length tables.held ≤ k → lists ≡ map (map (number_of tables)) (cut tables.held order)
    cutting_ends done = sym (append-nil lists) ∙ sym (ap (λ views. lists ++ map (map (number_of tables)) (cut views rest)) (drop_all k tables.held done)) ∙ v.whole

    pub cutting_small : length tables.held ≤ k → Small lists
    cutting_small done =
        subst Small (sym (cutting_ends done)) (record {
          few = omega (arith, cut_count (number_of tables) tables.held order, tables.few);
          short = cut_short (number_of tables) tables.held order tables.sized;
        })
