-- A set that is filled rank after rank, and a table that is made of a row for each.
use Rattle.std.proofs.Common.{◌≡◌, ℕ, zero, suc, ◌+◌, ◌<◌, ◌≤◌, Bool, true, false, ◌&&◌, ◌||◌, eqb, ltb, List, [], ◌∷◌, Bor, get_or, sym, refl, ap, ◌∙◌, subst, ⊎_elim, arith}
use Rattle.std.proofs.iter.Yields.{nat_range_steps}
use Rattle.std.proofs.lemmas.Grind.{common_steps}
use Rattle.std.specs.declared.ops.Range.{Range}
use Rattle.std.specs.Iterator.{Yields, Drains, FoldTurn, FoldsItems}
use Rattle.std.specs.declared.iter.Filter.{Filter}
use Rattle.std.specs.Iterator.Adapters.{filter_source, filter_callee, filter_steps}
use Rattle.std.specs.List.{FoldsTo}
use Rattle.std.proofs.lemmas.Bool.{cases_eq, lt-ltb}
use Rattle.std.specs.Fn.{Mut, Called, CalledAt}
use Rattle.std.specs.Array.{IsFromFnResult, IsFromFnResultFrom}
use Rattle.opset.specs.declared.OpSet.{OpSet}
use Rattle.opset.specs.Sets.{has, Empty}

-- each rank below n is in the set, or is not, as P has it; and no other is
pub record Filled (P : ℕ → Bool → Type 0) (n : ℕ) (row : OpSet) : Type 0 where
  pub below : (i : ℕ) → i < n → P i (has row i)
  pub above : (i : ℕ) → n ≤ i → has row i ≡ false

-- a chain over a range: the numbers that pass a test are put into a set
module _ {F G : Type 0} (g : Mut F (Bor ℕ × Unit {0}) Bool) (h : Mut G (OpSet × (ℕ × Unit {0})) OpSet) (P : ℕ → Bool → Type 0) (f : F) (e : G)
    (asks : (x : ℕ) (b : Bool) (q : F) → CalledAt g f x b q → P x b × (q ≡ f))
    (puts : (row : OpSet) (x : ℕ) (next : OpSet) (q : G) → Called h e (row, (x, tt)) next q → ((k : ℕ) → has next k ≡ (has row k || (eqb k x && ltb x 64))) × (q ≡ e)) where
  filled_more : (n : ℕ) (row next : OpSet) (answer : Bool) → Filled P n row → P n answer → ((k : ℕ) → has next k ≡ (has row k || (eqb k n && answer))) → Filled P (n + 1) next
  filled_more n row next answer r p e = grind (arith, common_steps)

  skipped : (xs : List ℕ) (s u : Range ℕ) (p q : F) (row : OpSet) → p ≡ f → Yields nat_range_steps s xs u → FoldsTo (λ a x b. CalledAt g a x false b) p xs q → Filled P s.start row → (q ≡ f) × (u.end ≡ s.end) × Filled P u.start row
  skipped [] s u p q row same y c r = (sym c ∙ same, ap (λ x. x.end) (sym y), subst (λ x. Filled P x.start row) y r)
  skipped (x ∷ xs) s u p q row same y c r =
      let call = asks x false c.0 (subst (λ a. CalledAt g a x false c.0) same c.1) in
      let next : Filled P (s.start + 1) row = grind (arith, common_steps) in
      let rest = skipped xs y.0 u c.0 q row call.1 y.2 c.2 (subst (λ n. Filled P n row) (sym y.1.1.2) next) in
      (rest.0, rest.1 ∙ y.1.0, rest.2)

  filled : (ys : List ℕ) (s : Filter (Range ℕ) F) (p q : G) (row last : OpSet) → filter_callee s ≡ f → p ≡ e → (filter_source s).end ≡ 64 → Drains (filter_steps nat_range_steps g) s ys → FoldsTo (FoldTurn h) (p, row) ys (q, last) → Filled P (filter_source s).start row → (n : ℕ) × (64 ≤ n) × Filled P n last
  filled [] s p q row last same is to d c r =
      let k = d.1.2 in
      let go = skipped k.0 (filter_source s) k.2.0 (filter_callee s) k.1 row same (subst (λ t. Yields nat_range_steps (filter_source t) k.0 k.2.0) (sym d.1.1) k.2.1) (subst (λ t. FoldsTo (λ a x b. CalledAt g a x false b) (filter_callee t) k.0 k.1) (sym d.1.1) k.3) r in
      (k.2.0.start, omega (arith, k.2.2.1.0, go.1, to), subst (Filled P k.2.0.start) (ap (λ x. x.1) c) go.2)
  filled (x ∷ ys) s p q row last same is to d c r =
      let k = d.1.1.1 in
      let go = skipped k.0 (filter_source s) k.2.0 (filter_callee s) k.1 row same k.2.1 k.3 r in
      let here : Filled P x row = subst (λ n. Filled P n row) (sym k.2.2.1.1) go.2 in
      let passed = asks x true (filter_callee d.1.1.0) (subst (λ a. CalledAt g a x true (filter_callee d.1.1.0)) go.0 k.4) in
      let call = puts row x c.0.1 c.0.0 (subst (λ a. Called h a (row, (x, tt)) c.0.1 c.0.0) is c.1) in
      let low : ltb x 64 ≡ true = lt-ltb x 64 (omega (arith, k.2.2.1.0, k.2.2.1.1, go.1, to)) in
      let next = filled_more x row c.0.1 (ltb x 64) here (subst (P x) (sym low) passed.0) call.0 in
      let start : x + 1 ≡ (filter_source d.1.1.0).start = omega (arith, k.2.2.1.1, k.2.2.1.2) in
      filled ys d.1.1.0 c.0.0 q c.0.1 last passed.1 call.1 (k.2.2.0 ∙ go.1 ∙ to) (d.0, (d.1.0, d.1.1.2, d.1.2)) c.2 (subst (λ n. Filled P n c.0.1) start next)

  -- so each rank of the set that the fold makes is in it, or is not, as P has it
  pub filled_all : (s : Filter (Range ℕ) F) (row last : OpSet) → filter_source s ≡ record { start = 0; end = 64 } → filter_callee s ≡ f → Empty row → FoldsItems (filter_steps nat_range_steps g) h s e row last → (i : ℕ) → i < 64 → P i (has last i)
  filled_all s row last is same none ran i l =
      let none : Filled P 0 row = record { below = λ i l. absurd (omega arith); above = λ i l. none i } in
      let end = filled ran.0 s e ran.1 row last same refl (ap (λ x. x.end) is) ran.2 ran.3 (subst (λ n. Filled P n row) (sym (ap (λ x. x.start) is)) none) in
      end.2.below i (omega (arith, end.1))

-- what P says of each call of a closure that stays as it is, it says of each element of the array that `from_fn` makes by it
module _ {F B : Type 0} (g : Mut F (ℕ × Unit {0}) B) (P : ℕ → B → Type 0) (f : F) (call : (i : ℕ) (y : B) (q : F) → Called g f (i, tt) y q → P i y × (q ≡ f)) (ys : List B) where
  made_from : (n i j : ℕ) (p : F) (d : B) → p ≡ f → IsFromFnResultFrom g p ys i n → i ≤ j → j < i + n → P j (get_or ys j d)
  made_from zero i j p d same r l m = absurd (omega arith)
  made_from (suc n) i j p d same r l m =
      let here = call i r.1 r.0 (subst (λ x. Called g x (i, tt) r.1 r.0) same r.3) in
      ⊎_elim
      (λ s. subst (λ k. P k (get_or ys k d)) (sym s) (subst (P i) (sym (r.2.1 d)) here.0))
      (λ ne. made_from n (i + 1) j r.0 d here.1 r.4 (omega arith) (omega arith))
      (cases_eq j i)

  pub made_each : (n j : ℕ) (d : B) → IsFromFnResult g f ys n → j < n → P j (get_or ys j d)
  made_each n j d r l = made_from n 0 j f d refl r.each (omega arith) (omega arith)
