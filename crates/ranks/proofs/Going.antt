-- The steps of listing the numbers of a trace, one number after another.
use Rattle.std.proofs.Common.{◌≡◌, ℕ, ◌+◌, ◌-◌, ◌<◌, ◌≤◌, List, [], ◌∷◌, ◌++◌, length, cond, nat_lt, sym, ap, ◌∙◌, arith}
use Rattle.std.proofs.lemmas.Bool.{cond-true, lt-ltb}
use Rattle.std.proofs.lemmas.List.{append_assoc, length-append}
use Rattle.trace.specs.Traces.{Trace, operation_count, There}
use Rattle.ranks.specs.Numbers.{numbers_from, numbers}
use Rattle.ranks.proofs.Facts.{facts, here_next}

module _ (t : Trace) (few : operation_count t ≤ 64) (list : List ℕ) (i end : ℕ) (h : i < end) (all : list ++ numbers_from t i (end - i) ≡ numbers t) where
  -- a number at which there is an operation has room in the list
  pub more : There t i → (longer : List ℕ) → longer ≡ cond (nat_lt (length list) 64) (list ++ i ∷ []) list
      → longer ++ numbers_from t (i + 1) (end - (i + 1)) ≡ numbers t
  more e longer pushed =
      let n = ap length (sym all) ∙ length-append list (numbers_from t i (end - i)) in
      let m = ap length (here_next t i end h e) in
      let room : length list < 64 = omega (arith, (facts t few).count, n, m) in
      ap (λ xs. xs ++ numbers_from t (i + 1) (end - (i + 1))) (pushed ∙ cond-true _ _ _ (lt-ltb (length list) 64 room))
      ∙ append_assoc list (i ∷ []) (numbers_from t (i + 1) (end - (i + 1)))
      ∙ sym (ap (λ xs. list ++ xs) (here_next t i end h e))
      ∙ all
